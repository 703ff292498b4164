-- The numbers of what is read are in range.
use Rattle.std.proofs.Common.{◌≡◌, ℕ, zero, suc, Bool, true, false, if◌then◌else◌, List, [], ◌∷◌, ◌++◌, Option, Some, None, ℤ, pos, negsuc, FitsSigned, refl, subst, arith}
use Rattle.std.specs.Prelude.{codes, ⊤}
use Rattle.std.specs.Int.{w64}
use Rattle.std.specs.List.{AllByRecursion}
use Rattle.std.specs.Option.{ForSome}
use Rattle.std.specs.Str.{bytes_eq}
use Rattle.std.proofs.lemmas.Option.{none-some, same_Some}
use Rattle.tilt_base.proofs.Lists.{all-push}
use Rattle.tilt_checkpoint.proofs.Words.{maybe-was, number-was}
use Rattle.tilt_checkpoint.specs.Reading.{Read, count_at, maybe_at, natural, number_at, times}
use Rattle.tilt_checkpoint.specs.Valid.{IsCell}
use Rattle.tilt_conventions.specs.declared.turn.Reading.{Reading}
use Rattle.tilt_live_state.specs.Reading.{count_field, edge_at, field_at, flag_at, given_at, open_row_of}
use Rattle.tilt_live_state.specs.Valid.{IsCount, IsEdge, IsOpenRow}
use Rattle.tilt_reading_feed.specs.Kept.{BareKept}
use Rattle.tilt_reading_lines.specs.Rules.{Layout}
use Rattle.tilt_reading_state.specs.Reading.{header_at, header_by, input_at, kept_at, latest_at, latest_of, layout_at, many_at, named_at, places_at, readings_at, values_at, values_by, with_one}
use Rattle.tilt_reading_state.specs.Valid.{ArePlaces, HasNumbers, IsInRange, IsLayout, IsReading}
use Rattle.tilt_text.specs.Cut.{until_at}
use Rattle.tilt_text.specs.Step.{◌>>=◌}

-- what was read, if something was, fulfils a condition
abbrev pub IfRead : {A : Type 0} → (A → Type 0) → Read A → Type 0
IfRead P None = ⊤
IfRead P (Some x) = P x.0

if_read : {A : Type 0} (P : A → Type 0) (o : Read A) → ((x : A) (rest : List ℕ) → o ≡ Some (x, rest) → P x) → IfRead P o
if_read P None each = tt
if_read P (Some x) each = each x.0 x.1 refl

pub was_read : {A : Type 0} (P : A → Type 0) (o : Read A) (x : A) (rest : List ℕ) → IfRead P o → o ≡ Some (x, rest) → P x
was_read P o x rest is e = subst (IfRead P) e is

anything : {A : Type 0} (o : Read A) → IfRead (λ _. ⊤) o
anything None = tt
anything (Some x) = tt

next_read : {A B : Type 0} (P : A → Type 0) (Q : B → Type 0) (o : Read A) (next : A × List ℕ → Read B) → IfRead P o
    → ((x : A × List ℕ) → P x.0 → IfRead Q (next x)) → IfRead Q (o >>= next)
next_read P Q None next is each = tt
next_read P Q (Some x) next is each = each x is

one_read : {A : Type 0} (P : A → Type 0) (first : Bool) (x y : Read A) → IfRead P x → IfRead P y → IfRead P (if first then x else y)
one_read P true x y is other = is
one_read P false x y is other = other

module _ {A : Type 0} (one : List ℕ → Read A) (P : A → Type 0) (each : (bytes : List ℕ) → IfRead P (one bytes)) where
  one_more : (so_far : List A × List ℕ) → AllByRecursion P so_far.0 → IfRead (AllByRecursion P) (with_one one so_far)
  one_more so_far are =
      next_read P (AllByRecursion P) (one so_far.1) (λ item. Some (so_far.0 ++ item.0 ∷ [], item.1)) (each so_far.1)
      (λ item is. all-push P so_far.0 item.0 are is)

  more_read : (count : ℕ) (so_far : List A × List ℕ) → AllByRecursion P so_far.0 → IfRead (AllByRecursion P) (times (with_one one) count so_far)
  more_read zero so_far are = are
  more_read (suc count) so_far are =
      next_read (AllByRecursion P) (AllByRecursion P) (with_one one so_far) (times (with_one one) count) (one_more so_far are)
      (λ more is. more_read count more is)

  many_read : (count : ℕ) (bytes : List ℕ) → IfRead (AllByRecursion P) (many_at one count bytes)
  many_read count bytes = more_read count ([], bytes) tt

-- numbers

number_fits : (mark : ℕ) (bytes : List ℕ) → IfRead (FitsSigned w64) (number_at mark bytes)
number_fits mark bytes = if_read (FitsSigned w64) (number_at mark bytes) (λ z rest e. (number-was mark bytes z rest e).fits)

maybe_fits : (mark : ℕ) (bytes : List ℕ) → IfRead IsCell (maybe_at (codes "none") mark bytes)
maybe_fits mark bytes =
    if_read IsCell (maybe_at (codes "none") mark bytes) (λ o rest e. (maybe-was (codes "none") mark bytes o rest e).fits)

field_fits : (mark : ℕ) (bytes : List ℕ) → IfRead IsCell (field_at mark bytes)
field_fits mark bytes =
    next_read (λ _. ⊤) IsCell (until_at 32 bytes) (λ word. maybe_at (codes "none") mark word.1) (anything (until_at 32 bytes))
    (λ word _. maybe_fits mark word.1)

number_there : (found : Option ℤ × List ℕ) → IsCell found.0 → IfRead (FitsSigned w64) (found.0 >>= λ number. Some (number, found.1))
number_there (None, rest) is = tt
number_there (Some z, rest) is = is

given_fits : (mark : ℕ) (bytes : List ℕ) → IfRead (FitsSigned w64) (given_at mark bytes)
given_fits mark bytes =
    next_read IsCell (FitsSigned w64) (field_at mark bytes) (λ found. found.0 >>= λ number. Some (number, found.1)) (field_fits mark bytes) number_there

count_small : (found : ℤ × List ℕ) → FitsSigned w64 found.0 → IfRead IsCount (natural found.0 >>= λ count. Some (count, found.1))
count_small (pos n, rest) fits = omega (arith, fits.sfits)
count_small (negsuc n, rest) fits = tt

count_fits : (mark : ℕ) (bytes : List ℕ) → IfRead IsCount (count_at mark bytes)
count_fits mark bytes =
    next_read (FitsSigned w64) IsCount (number_at mark bytes) (λ found. natural found.0 >>= λ count. Some (count, found.1)) (number_fits mark bytes) count_small

place_fits : (mark : ℕ) (bytes : List ℕ) → IfRead IsCount (count_field mark bytes)
place_fits mark bytes =
    next_read (FitsSigned w64) IsCount (given_at mark bytes) (λ found. natural found.0 >>= λ count. Some (count, found.1)) (given_fits mark bytes) count_small

-- columns

named_fits : (bytes : List ℕ) → IfRead ArePlaces (named_at bytes)
named_fits bytes =
    next_read IsCount ArePlaces (count_at 32 bytes) _ (count_fits 32 bytes)
    (λ name is. next_read IsCount ArePlaces (count_field 10 name.1) _ (place_fits 10 name.1) (λ value few. (is, few)))

places_fit : (bytes : List ℕ) → IfRead ArePlaces (places_at bytes)
places_fit bytes =
    next_read IsCount ArePlaces (count_at 10 bytes) _ (count_fits 10 bytes)
    (λ count is. next_read (AllByRecursion IsCount) ArePlaces (many_at (count_field 10) count.0 count.1) _
    (many_read (count_field 10) IsCount (place_fits 10) count.0 count.1) (λ places are. are))

values_fit : (bytes : List ℕ) → IfRead ArePlaces (values_at bytes)
values_fit bytes =
    next_read (λ _. ⊤) ArePlaces (until_at 32 bytes) (λ word. values_by word.0 word.1) (anything (until_at 32 bytes))
    (λ word _. one_read ArePlaces (bytes_eq word.0 (codes "named")) (named_at word.1) (places_at word.1) (named_fits word.1) (places_fit word.1))

layout_fits : (bytes : List ℕ) → IfRead IsLayout (layout_at bytes)
layout_fits bytes =
    next_read IsCount IsLayout (count_at 32 bytes) _ (count_fits 32 bytes)
    (λ count few. next_read IsCount IsLayout (count_field 32 count.1) _ (place_fits 32 count.1)
    (λ time small. next_read ArePlaces IsLayout (values_at time.1) _ (values_fit time.1)
    (λ values are. record { count = few; time = small; values = are })))

pub for_none : {A : Type 0} (P : A → Type 0) → ForSome None P
for_none P = λ x e. absurd (none-some x e)

pub for_some : {A : Type 0} (P : A → Type 0) (x : A) → P x → ForSome (Some x) P
for_some P x is = λ y e. subst P (same_Some x y e) is

header_fits : (bytes : List ℕ) → IfRead (λ o. ForSome o IsLayout) (header_at bytes)
header_fits bytes =
    let P = λ (o : Option Layout). ForSome o IsLayout in
    next_read (λ _. ⊤) P (until_at 32 bytes) (λ word. header_by word.0 word.1) (anything (until_at 32 bytes))
    (λ word _. one_read P (bytes_eq word.0 (codes "no")) (until_at 10 word.1 >>= λ line. Some (None, line.1))
    (layout_at word.1 >>= λ layout. Some (Some layout.0, layout.1))
    (next_read (λ _. ⊤) P (until_at 10 word.1) (λ line. Some (None, line.1)) (anything (until_at 10 word.1)) (λ line _. for_none IsLayout))
    (next_read IsLayout P (layout_at word.1) (λ layout. Some (Some layout.0, layout.1)) (layout_fits word.1) (λ layout is. for_some IsLayout layout.0 is)))

-- inputs

open_fits : (start value : Option ℤ) → IsCell start → IsCell value → ForSome (open_row_of start value) IsOpenRow
open_fits None value is are = for_none IsOpenRow
open_fits (Some start) None is are = for_none IsOpenRow
open_fits (Some start) (Some value) is are = for_some IsOpenRow (record { start = start; value = value }) (record { start = is; value = are })

edge_fits : (bytes : List ℕ) → IfRead IsEdge (edge_at bytes)
edge_fits bytes =
    next_read (FitsSigned w64) IsEdge (given_at 32 bytes) _ (given_fits 32 bytes)
    (λ watermark fits. next_read IsCell IsEdge (field_at 32 watermark.1) _ (field_fits 32 watermark.1)
    (λ start is. next_read IsCell IsEdge (field_at 32 start.1) _ (field_fits 32 start.1)
    (λ value are. record { watermark = fits; open_row = open_fits start.0 value.0 is are })))

reading_fits : (tick value : Option ℤ) → IsCell tick → IsCell value → ForSome (latest_of tick value) IsReading
reading_fits None value is are = for_none IsReading
reading_fits (Some tick) value is are = for_some IsReading (record { tick = tick; value = value }) (record { tick = is; value = are })

latest_fits : (bytes : List ℕ) → IfRead (λ o. ForSome o IsReading) (latest_at bytes)
latest_fits bytes =
    let P = λ (o : Option Reading). ForSome o IsReading in
    next_read IsCell P (field_at 32 bytes) _ (field_fits 32 bytes)
    (λ tick is. next_read IsCell P (field_at 32 tick.1) _ (field_fits 32 tick.1) (λ value are. reading_fits tick.0 value.0 is are))

input_fits : (bytes : List ℕ) → IfRead HasNumbers (input_at bytes)
input_fits bytes =
    next_read IsEdge HasNumbers (edge_at bytes) _ (edge_fits bytes)
    (λ edge is. next_read (FitsSigned w64) HasNumbers (given_at 32 edge.1) _ (given_fits 32 edge.1)
    (λ mark fits. next_read (λ (o : Option Reading). ForSome o IsReading) HasNumbers (latest_at mark.1) _ (latest_fits mark.1)
    (λ latest read. next_read IsCount HasNumbers (count_field 10 latest.1) _ (place_fits 10 latest.1)
    (λ skipped few. record { edge = is; mark = fits; latest = read; skipped = few }))))

readings_fit : (bytes : List ℕ) → IfRead (λ readings. AllByRecursion HasNumbers readings.inputs) (readings_at bytes)
readings_fit bytes =
    let P = λ (readings : BareKept). AllByRecursion HasNumbers readings.inputs in
    next_read (λ _. ⊤) P (flag_at bytes) _ (anything (flag_at bytes))
    (λ finished _. next_read IsCount P (count_field 10 finished.1) _ (place_fits 10 finished.1)
    (λ count few. next_read (AllByRecursion HasNumbers) P (many_at input_at count.0 count.1) _
    (many_read input_at HasNumbers input_fits count.0 count.1) (λ inputs are. are)))

-- the whole

pub kept_fits : (bytes : List ℕ) → IfRead IsInRange (kept_at bytes)
kept_fits bytes =
    next_read (λ (o : Option Layout). ForSome o IsLayout) IsInRange (header_at bytes) _ (header_fits bytes)
    (λ layout is. next_read (λ (readings : BareKept). AllByRecursion HasNumbers readings.inputs) IsInRange (readings_at layout.1) _
    (readings_fit layout.1) (λ readings are. record { layout = is; inputs = are }))
