-- What is read of inputs is what is spelled of them.
use Rattle.std.proofs.Common.{◌≡◌, ℕ, zero, suc, ◌<◌, ◌≤◌, ◌^◌, Bool, true, if◌then◌else◌, List, [], ◌∷◌, ◌++◌, length, Option, Some, None, ℤ, neg_ℤ, ◌≤ℤ◌, ◌<ℤ◌, FitsSigned, refl, sym, ap, ◌∙◌, arith, append-nil, append_assoc, length-append}
use Rattle.std.specs.Prelude.{codes, int_le}
use Rattle.std.specs.Fmt.{signed_decimal}
use Rattle.std.specs.Int.{w64}
use Rattle.std.specs.List.{AllByRecursion, flat_map}
use Rattle.std.proofs.lemmas.Bool.{and_from}
use Rattle.std.proofs.lemmas.Int.{ints}
use Rattle.tilt_base.proofs.Comparisons.{true_le}
use Rattle.tilt_base.specs.declared.limits.TheConstants.{T}
use Rattle.tilt_checkpoint.proofs.Rows.{row-again, time_fits}
use Rattle.tilt_checkpoint.proofs.Words.{maybe-again, nothing-apart, number-again}
use Rattle.tilt_checkpoint.specs.Reading.{follows, times}
use Rattle.tilt_checkpoint.specs.Spelling.{or_word, row_lines}
use Rattle.tilt_checkpoint.specs.Valid.{IsCell}
use Rattle.tilt_feed.specs.declared.update.Update.{Update}
use Rattle.tilt_feed.specs.declared.update.Update.TheVariants.{Row, Value, NoValue, KnownUpTo}
use Rattle.tilt_live_state.proofs.Fields.{after_two, field_shape, head-again, progress-again}
use Rattle.tilt_live_state.specs.Reading.{input_at, input_behind, may_follow, run_at, update_at, update_of, with_input, with_row, with_update}
use Rattle.tilt_live_state.specs.Spelling.{head_line, input_lines, line, progress_lines, run_lines, update_line}
use Rattle.tilt_live_state.specs.State.{InputParts}
use Rattle.tilt_live_state.specs.Valid.{HasNumbers, IsCount, IsProgress, IsUpdate}
use Rattle.tilt_live_state.specs.declared.progress.Progress.{Progress}
use Rattle.tilt_stream.proofs.Order.{last_end-push}
use Rattle.tilt_stream.specs.Snap.{Snapshot, AreRows, InOrder, last_end}
use Rattle.tilt_stream.specs.Text.{cell_text, row_text}
use Rattle.tilt_text.proofs.Lacks.{Lacks}
use Rattle.tilt_text.proofs.Words.{until-front}
use Rattle.tilt_text.specs.Step.{◌>>=◌}

-- rows

follow_true : (before : List Snapshot) (r : Snapshot) → follows (last_end before) r.start ≡ true → neg_ℤ T ≤ℤ r.start → r.end ≤ℤ T
    → may_follow before r ≡ true
follow_true before r behind low high =
    and_from _ (int_le r.end T)
    (and_from (int_le (neg_ℤ T) r.start) (follows (last_end before) r.start) (true_le (neg_ℤ T) r.start low) behind) (true_le r.end T high)

with_row-again : (before : List Snapshot) (r : Snapshot) (rest : List ℕ) → follows (last_end before) r.start ≡ true → neg_ℤ T ≤ℤ r.start
    → r.start <ℤ r.end → r.end ≤ℤ T → IsCell r.value → with_row (before, row_text r ++ rest) ≡ Some (before ++ r ∷ [], rest)
with_row-again before r rest behind low order high cell =
    rw (
      row-again r order (time_fits r.start low (omega (arith, ints))) (time_fits r.end (omega (arith, ints)) high) cell rest,
      follow_true before r behind low high,
    ) refl

rows-again : (rows before : List Snapshot) (from : ℤ) (rest : List ℕ) → neg_ℤ T ≤ℤ from
    → ((s : ℤ) → from ≤ℤ s → follows (last_end before) s ≡ true) → InOrder from T rows → AllByRecursion (λ row. IsCell row.value) rows
    → times with_row (length rows) (before, row_lines rows ++ rest) ≡ Some (before ++ rows, rest)
rows-again [] before from rest low behind order cells = ap (λ (b : List Snapshot). Some (b, rest)) (sym (append-nil before))
rows-again (r ∷ rows) before from rest low behind order cells =
    let starts = order.0 in
    let ends = order.1 in
    let step = with_row-again before r (row_lines rows ++ rest) (behind r.start order.0) (omega (arith, ints)) order.1 order.2 cells.0 in
    let more = rows-again rows (before ++ r ∷ []) r.end rest (omega (arith, ints))
    (λ s h. rw (last_end-push before r) (true_le r.end s h)) order.3 cells.1 in
    ap (λ (t : List ℕ). times with_row (suc (length rows)) (before, t)) (append_assoc (row_text r) (row_lines rows) rest)
    ∙ ap (λ (o : Option (List Snapshot × List ℕ)). o >>= times with_row (length rows)) step
    ∙ more ∙ ap (λ (b : List Snapshot). Some (b, rest)) (append_assoc before (r ∷ []) rows)

-- updates

cell_is : (o : Option ℤ) → cell_text o ≡ or_word [] o
cell_is None = refl
cell_is (Some value) = refl

row_line_shape : (start end : ℤ) (value : Option ℤ) (rest : List ℕ)
    → (signed_decimal start ++ 44 ∷ (signed_decimal end ++ 44 ∷ cell_text value)) ++ 10 ∷ rest
    ≡ signed_decimal start ++ 44 ∷ (signed_decimal end ++ 44 ∷ (or_word [] value ++ 10 ∷ rest))
row_line_shape start end value rest =
    ap (λ (c : List ℕ). (signed_decimal start ++ 44 ∷ (signed_decimal end ++ 44 ∷ c)) ++ 10 ∷ rest) (cell_is value)
    ∙ append_assoc (signed_decimal start) (44 ∷ (signed_decimal end ++ 44 ∷ or_word [] value)) (10 ∷ rest)
    ∙ ap (λ (t : List ℕ). signed_decimal start ++ 44 ∷ t) (append_assoc (signed_decimal end) (44 ∷ or_word [] value) (10 ∷ rest))

word-again : (word text rest : List ℕ) → Lacks 32 word → update_at (line word text ++ rest) ≡ update_of word (text ++ 10 ∷ rest)
word-again word text rest plain =
    ap update_at (field_shape 10 word text rest)
    ∙ ap (λ o. o >>= λ w. update_of w.0 w.1) (until-front 32 word (text ++ 10 ∷ rest) plain)

pub update-again : (update : Update) → IsUpdate update → (rest : List ℕ) → update_at (update_line update ++ rest) ≡ Some (update, rest)
update-again (Row start end value) is rest =
    let behind_end = or_word [] value ++ 10 ∷ rest in
    let behind_start = signed_decimal end ++ 44 ∷ behind_end in
    word-again (codes "row") (signed_decimal start ++ 44 ∷ (signed_decimal end ++ 44 ∷ cell_text value)) rest refl
    ∙ ap (update_of (codes "row")) (row_line_shape start end value rest)
    ∙ rw (
      number-again 44 (omega arith) start is.0 behind_start,
      number-again 44 (omega arith) end is.1 behind_end,
      maybe-again [] 10 (nothing-apart 10 (omega arith)) value is.2 rest,
    ) refl
update-again (Value start value) is rest =
    word-again (codes "value") (signed_decimal start ++ 44 ∷ signed_decimal value) rest refl
    ∙ ap (update_of (codes "value")) (append_assoc (signed_decimal start) (44 ∷ signed_decimal value) (10 ∷ rest))
    ∙ rw (
      number-again 44 (omega arith) start is.0 (signed_decimal value ++ 10 ∷ rest),
      number-again 10 (omega arith) value is.1 rest,
    ) refl
update-again (NoValue start) is rest =
    word-again (codes "null") (signed_decimal start) rest refl ∙ rw (number-again 10 (omega arith) start is rest) refl
update-again (KnownUpTo watermark) is rest =
    word-again (codes "known") (signed_decimal watermark) rest refl ∙ rw (number-again 10 (omega arith) watermark is rest) refl

updates-again : (updates before : List Update) (rest : List ℕ) → AllByRecursion IsUpdate updates
    → times with_update (length updates) (before, flat_map update_line updates ++ rest) ≡ Some (before ++ updates, rest)
updates-again [] before rest are = ap (λ (b : List Update). Some (b, rest)) (sym (append-nil before))
updates-again (u ∷ updates) before rest are =
    ap (λ (t : List ℕ). times with_update (suc (length updates)) (before, t)) (append_assoc (update_line u) (flat_map update_line updates) rest)
    ∙ ap (λ o. (o >>= λ v. Some (before ++ v.0 ∷ [], v.1)) >>= times with_update (length updates))
    (update-again u are.0 (flat_map update_line updates ++ rest))
    ∙ updates-again updates (before ++ u ∷ []) rest are.1
    ∙ ap (λ (b : List Update). Some (b, rest)) (append_assoc before (u ∷ []) updates)

-- inputs

-- what is read again of what is kept of an input
pub record IsReadable (input : InputParts) : Type 0 where
  pub rows : AreRows input.rows
  pub numbers : HasNumbers input
  pub few_rows : IsCount (length input.rows)
  pub few_held : IsCount (length input.held)

input-again : (input : InputParts) → IsReadable input → (rest : List ℕ) → input_at (input_lines input ++ rest) ≡ Some (input, rest)
input-again input is rest =
    let head = head_line input.edge (length input.rows) (length input.held) in
    let rows = row_lines input.rows in
    let held = flat_map update_line input.held in
    let shape : input_lines input ++ rest ≡ head ++ (rows ++ (held ++ rest)) =
    append_assoc head (rows ++ held) rest ∙ ap (λ (t : List ℕ). head ++ t) (append_assoc rows held rest) in
    ap input_at shape
    ∙ ap (λ o. o >>= input_behind)
    (head-again input.edge is.numbers.edge (length input.rows) (length input.held) is.few_rows is.few_held (rows ++ (held ++ rest)))
    ∙ rw (
      rows-again input.rows [] (neg_ℤ T) (held ++ rest) (omega (arith, ints)) (λ s low. refl) is.rows is.numbers.rows,
      updates-again input.held [] rest is.numbers.held,
    ) refl

pub inputs-again : (inputs before : List InputParts) (rest : List ℕ) → AllByRecursion IsReadable inputs
    → times with_input (length inputs) (before, flat_map input_lines inputs ++ rest) ≡ Some (before ++ inputs, rest)
inputs-again [] before rest are = ap (λ (b : List InputParts). Some (b, rest)) (sym (append-nil before))
inputs-again (i ∷ inputs) before rest are =
    ap (λ (t : List ℕ). times with_input (suc (length inputs)) (before, t)) (append_assoc (input_lines i) (flat_map input_lines inputs) rest)
    ∙ ap (λ o. (o >>= λ v. Some (before ++ v.0 ∷ [], v.1)) >>= times with_input (length inputs))
    (input-again i are.0 (flat_map input_lines inputs ++ rest))
    ∙ inputs-again inputs (before ++ i ∷ []) rest are.1
    ∙ ap (λ (b : List InputParts). Some (b, rest)) (append_assoc before (i ∷ []) inputs)

pub run-again : (progress : Progress) (inputs : List InputParts) → IsProgress progress → AllByRecursion IsReadable inputs
    → run_at (length inputs) (run_lines progress inputs) ≡ Some (progress, inputs)
run-again progress inputs is are =
    rw (
      progress-again progress is (flat_map input_lines inputs ++ codes "end\n"),
      inputs-again inputs [] (codes "end\n") are,
    ) refl
