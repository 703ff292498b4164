-- Edits that a text says are edits of its inputs, with times in order and in their limits.
use Rattle.std.proofs.Common.{◌≡◌, ◌<◌, ℕ, ℤ, Bool, true, false, List, [], ◌∷◌, length, Option, Some, None, if◌then◌else◌, refl, subst, arith}
use Rattle.std.specs.Prelude.{◌&&◌, codes, neg_ℤ, ◌<ℤ◌, ◌≤ℤ◌, int_le, int_lt, option_map}
use Rattle.std.specs.List.{AllByRecursion, position}
use Rattle.std.specs.Str.{bytes_eq}
use Rattle.std.proofs.lemmas.Bool.{and_parts}
use Rattle.std.proofs.lemmas.Int.{ints}
use Rattle.std.proofs.lemmas.List.Quantifiers.{position-Some}
use Rattle.std.proofs.lemmas.Option.{none-some, same_Some}
use Rattle.tilt_base.specs.Number.{cell_spelled, number_spelled}
use Rattle.tilt_base.specs.declared.limits.TheConstants.{T}
use Rattle.tilt_edits.specs.Edited.{IsEditOf}
use Rattle.tilt_edits.specs.Edits.{edit_by, edit_of, fields_of, row_of, times_of, until_blank, AreEdits, Say}
use Rattle.tilt_edits.specs.declared.edit.Edit.{Edit}
use Rattle.tilt_edits.specs.declared.edit.Edit.TheVariants.{Add, Remove, Set}
use Rattle.tilt_stream.specs.Snap.{Snapshot}
use Rattle.tilt_text.specs.Cut.{until_at}
use Rattle.tilt_text.specs.Step.{◌>>=◌}
use Rattle.tilt_text.proofs.Step.{bind_some}

-- times in their limits and in order
record AreTimes (start end : ℤ) : Type 0 where
  low : neg_ℤ T ≤ℤ start
  some : start <ℤ end
  high : end ≤ℤ T

times-tested : (start end : ℤ) → (int_le (neg_ℤ T) start && int_lt start end && int_le end T) ≡ true → AreTimes start end
times-tested start end passed =
    let one = and_parts (int_le (neg_ℤ T) start && int_lt start end) (int_le end T) passed in
    let two = and_parts (int_le (neg_ℤ T) start) (int_lt start end) one.0 in
    record { low = grind (arith, ints, two.0); some = grind (arith, ints, two.1); high = grind (arith, ints, one.1) }

row-of : (here : Bool) (start end : ℤ) (value : Option ℤ) (row : Snapshot) → (here ≡ true → AreTimes start end)
    → (if here then Some (record { start = start; end = end; value = value }) else None) ≡ Some row → AreTimes row.start row.end
row-of true start end value row are is =
    subst (λ (r : Snapshot). AreTimes r.start r.end) (same_Some (record { start = start; end = end; value = value }) row is) (are refl)
row-of false start end value row are is = absurd (none-some row is)

row_of-times : (start end : ℤ) (value : Option ℤ) (row : Snapshot) → row_of start end value ≡ Some row → AreTimes row.start row.end
row_of-times start end value row is =
    row-of (int_le (neg_ℤ T) start && int_lt start end && int_le end T) start end value row (times-tested start end) is

times_of-times : (fields : List ℕ) (row : Snapshot) → times_of fields ≡ Some row → AreTimes row.start row.end
times_of-times fields row is =
    let cut = bind_some (until_at 44 fields) (λ s. number_spelled s.0 >>= λ start. number_spelled s.1 >>= λ end. row_of start end None) row is in
    let start = bind_some (number_spelled cut.0.0) (λ start. number_spelled cut.0.1 >>= λ end. row_of start end None) row cut.2 in
    let end = bind_some (number_spelled cut.0.1) (λ end. row_of start.0 end None) row start.2 in
    row_of-times start.0 end.0 None row end.2

fields_of-times : (fields : List ℕ) (row : Snapshot) → fields_of fields ≡ Some row → AreTimes row.start row.end
fields_of-times fields row is =
    let s = bind_some (until_at 44 fields) (λ s. until_at 44 s.1 >>= λ e.
    number_spelled s.0 >>= λ start. number_spelled e.0 >>= λ end. cell_spelled e.1 >>= row_of start end) row is in
    let e = bind_some (until_at 44 s.0.1) (λ e.
    number_spelled s.0.0 >>= λ start. number_spelled e.0 >>= λ end. cell_spelled e.1 >>= row_of start end) row s.2 in
    let start = bind_some (number_spelled s.0.0) (λ start. number_spelled e.0.0 >>= λ end. cell_spelled e.0.1 >>= row_of start end) row e.2 in
    let end = bind_some (number_spelled e.0.0) (λ end. cell_spelled e.0.1 >>= row_of start.0 end) row start.2 in
    let value = bind_some (cell_spelled e.0.1) (row_of start.0 end.0) row end.2 in
    row_of-times start.0 end.0 value.0 row value.2

-- an edit that is made of a row that was read
made : (o : Option Snapshot) (f : Snapshot → Edit) (edit : Edit) (inputs : ℕ)
    → ((row : Snapshot) → o ≡ Some row → IsEditOf inputs (f row)) → option_map f o ≡ Some edit → IsEditOf inputs edit
made None f edit inputs are is = absurd (none-some edit is)
made (Some row) f edit inputs are is = subst (IsEditOf inputs) (same_Some (f row) edit is) (are row refl)

by_word : (add remove set : Bool) (input : ℕ) (fields : List ℕ) (edit : Edit) (inputs : ℕ) → input < inputs
    → (if add then option_map (Add input) (fields_of fields)
    else if remove then option_map (λ row. Remove input row.start row.end) (times_of fields)
    else if set then option_map (Set input) (fields_of fields) else None) ≡ Some edit → IsEditOf inputs edit
by_word true remove set input fields edit inputs there is =
    made (fields_of fields) (Add input) edit inputs
    (λ row e. let t = fields_of-times fields row e in record { input = there; low = t.low; some = t.some; high = t.high }) is
by_word false true set input fields edit inputs there is =
    made (times_of fields) (λ row. Remove input row.start row.end) edit inputs
    (λ row e. let t = times_of-times fields row e in record { input = there; low = t.low; some = t.some; high = t.high }) is
by_word false false true input fields edit inputs there is =
    made (fields_of fields) (Set input) edit inputs
    (λ row e. let t = fields_of-times fields row e in record { input = there; low = t.low; some = t.some; high = t.high }) is
by_word false false false input fields edit inputs there is = absurd (none-some edit is)

edit_of-is : (inputs : List (List ℕ)) (line : List ℕ) (edit : Edit) → edit_of inputs line ≡ Some edit → IsEditOf (length inputs) edit
edit_of-is inputs line edit is =
    let word = bind_some (until_blank line) (λ word. until_blank word.1 >>= λ name.
    position (bytes_eq name.0) inputs >>= λ input. edit_by word.0 input name.1) edit is in
    let name = bind_some (until_blank word.0.1) (λ name. position (bytes_eq name.0) inputs >>= λ input. edit_by word.0.0 input name.1) edit word.2 in
    let input = bind_some (position (bytes_eq name.0.0) inputs) (λ input. edit_by word.0.0 input name.0.1) edit name.2 in
    let found = position-Some (bytes_eq name.0.0) inputs input.0 [] input.1 in
    by_word (bytes_eq word.0.0 (codes "add")) (bytes_eq word.0.0 (codes "remove")) (bytes_eq word.0.0 (codes "set")) input.0 name.0.1 edit
    (length inputs) found.0 input.2

said : (inputs lines : List (List ℕ)) (edits : List Edit) → Say inputs lines edits → AllByRecursion (IsEditOf (length inputs)) edits
said inputs [] [] say = tt
said inputs [] (e ∷ es) say = absurd say
said inputs (l ∷ ls) [] say = absurd say
said inputs (l ∷ ls) (e ∷ es) say = (edit_of-is inputs l e say.1, said inputs ls es say.2)

pub are-edits_of : (inputs : List (List ℕ)) (bytes : List ℕ) (edits : List Edit) → AreEdits inputs bytes edits
    → AllByRecursion (IsEditOf (length inputs)) edits
are-edits_of inputs bytes edits are = said inputs are.lines edits are.say
