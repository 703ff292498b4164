-- The rows that end below the first tick that the output reads change nothing of it.
use Rattle.std.proofs.Common.{◌≡◌, ℕ, zero, suc, ◌<◌, ℤ, pos, ◌+ℤ◌, ◌-ℤ◌, ◌≤ℤ◌, ◌<ℤ◌, true, false, List, [], ◌∷◌, ◌++◌, length, map, Option, Some, None, Ok, refl, sym, ap, ◌∙◌, subst, arith, inl, inr}
use Rattle.std.specs.List.{AllByRecursion}
use Rattle.std.specs.Prelude.{int_le}
use Rattle.std.specs.Ordering.{int_eq}
use Rattle.std.proofs.lemmas.Bool.{cases_Bool}
use Rattle.std.proofs.lemmas.Int.{ints, by_lt_z}
use Rattle.std.proofs.lemmas.List.{length-map}
use Rattle.tilt_base.proofs.Comparisons.{le_false}
use Rattle.tilt_bounds.proofs.Laws.{core-IsLocal}
use Rattle.tilt_bounds.proofs.Margin.{margins-needs}
use Rattle.tilt_bounds.proofs.Needs.{need_at-definition}
use Rattle.tilt_bounds.specs.Laws.{AgreeAsAsked, IsLocal}
use Rattle.tilt_bounds.specs.Margins.{AreMargins, IsWithin, MarginsParts, margins_of, need_at}
use Rattle.tilt_core.proofs.Last.{last-need}
use Rattle.tilt_core.proofs.Sources.{with_definitions-front}
use Rattle.tilt_core.specs.Core.{CoreParts, IsCore, emitted_number}
use Rattle.tilt_core.specs.Meaning.{meaning, source_of}
use Rattle.tilt_core.specs.Needs.{Need, no_margin}
use Rattle.tilt_stream.proofs.Cut.{snapshots-none}
use Rattle.tilt_stream.proofs.Locality.{narrower-agrees, same-agrees}
use Rattle.tilt_stream.proofs.Snapped.{snapshots-agree}
use Rattle.tilt_stream.specs.Agreement.{Agree}
use Rattle.tilt_stream.specs.Pieces.{kept}
use Rattle.tilt_stream.specs.Snap.{Snapshot, InOrder}
use Rattle.tilt_stream.specs.Snapshots.{snapshots}
use Rattle.tilt_stream.specs.Stream.{Stream, cell_at, covers, mark_at, stream_of}

-- the rows of one list are those of another, after some that end below a tick
pub record IsBehind (first : ℤ) (list left : List Snapshot) : Type 0 where
  pub gone : List Snapshot
  pub is : list ≡ gone ++ left
  pub below : AllByRecursion (λ (s : Snapshot). (s.start <ℤ s.end) × (s.end <ℤ first)) gone

abbrev pub AreBehind : ℤ → List (List Snapshot) → List (List Snapshot) → Type 0
AreBehind first [] [] = Unit {0}
AreBehind first [] (left ∷ lefts) = ⊥
AreBehind first (list ∷ lists) [] = ⊥
AreBehind first (list ∷ lists) (left ∷ lefts) = IsBehind first list left × AreBehind first lists lefts

-- all rows of a list end at a tick or above it
kept-all : (first from limit : ℤ) (rows : List Snapshot) → InOrder from limit rows → first ≤ℤ from → kept first rows ≡ rows
kept-all first from limit [] order on = refl
kept-all first from limit (s ∷ rows) order on =
    let low = order.0 in
    let some = order.1 in
    let test : int_le first s.end ≡ true = grind (arith, ints) in
    rw test (ap (λ (l : List Snapshot). s ∷ l) (kept-all first s.end limit rows order.3 (omega (arith, ints))))

pub kept-behind : (first from limit : ℤ) (rows : List Snapshot) → InOrder from limit rows → IsBehind first rows (kept first rows)
kept-behind first from limit [] order = record { gone = []; is = refl; below = tt }
kept-behind first from limit (s ∷ rows) order =
    elim (cases_Bool (int_le first s.end)) [
      | inl is ↦ (let up : first ≤ℤ s.end = grind (arith, ints) in
          rw is (record { gone = []; is = ap (λ (l : List Snapshot). s ∷ l) (sym (kept-all first s.end limit rows order.3 up)); below = tt }))
      | inr none ↦ (let rest = kept-behind first s.end limit rows order.3 in
          let end = le_false first s.end none in
          rw none (record { gone = s ∷ rest.gone; is = ap (λ (l : List Snapshot). s ∷ l) rest.is; below = ((order.1, omega (arith, ints)), rest.below) }))
    ]

-- rows that end below a tick, before others
module _ (first : ℤ) (left : List Snapshot) where
  cell-left : (gone : List Snapshot) → AllByRecursion (λ (s : Snapshot). (s.start <ℤ s.end) × (s.end <ℤ first)) gone → (at : ℤ) → first ≤ℤ at → cell_at (gone ++ left) at ≡ cell_at left at
  cell-left [] below at on = refl
  cell-left (s ∷ gone) below at on =
      let end = below.0.1 in
      let out : covers s at ≡ false = grind (arith, ints) in
      rw out (cell-left gone below.1 at on)

  mark-left : (gone : List Snapshot) → AllByRecursion (λ (s : Snapshot). (s.start <ℤ s.end) × (s.end <ℤ first)) gone → (at : ℤ) → first <ℤ at → mark_at (gone ++ left) at ≡ mark_at left at
  mark-left [] below at on = refl
  mark-left (s ∷ gone) below at on =
      let rises = below.0.0 in
      let end = below.0.1 in
      let one : int_eq at (s.start +ℤ pos 1) ≡ false = grind (arith, ints) in
      let other : int_eq at (s.end +ℤ pos 1) ≡ false = grind (arith, ints) in
      rw (one, other) (mark-left gone below.1 at on)

pub behind-agrees : (first lo hi : ℤ) (list left : List Snapshot) → IsBehind first list left → first ≤ℤ (lo +ℤ pos 1) → Agree (stream_of list) (stream_of left) lo hi
behind-agrees first lo hi list left behind on =
    rw behind.is (record {
      cells = λ at above below. cell-left first left behind.gone behind.below at (omega (arith, ints));
      marks = λ at above below. mark-left first left behind.gone behind.below at (omega (arith, ints));
    })

sources-agree : (first lo hi : ℤ) (lists lefts : List (List Snapshot)) → AreBehind first lists lefts → first ≤ℤ (lo +ℤ pos 1) → (source : ℕ)
    → Agree (source_of (map stream_of lists) source) (source_of (map stream_of lefts) source) lo hi
sources-agree first lo hi [] [] are on source = same-agrees (source_of [] source) lo hi
sources-agree first lo hi [] (left ∷ lefts) are on source = absurd are
sources-agree first lo hi (list ∷ lists) [] are on source = absurd are
sources-agree first lo hi (list ∷ lists) (left ∷ lefts) are on zero = behind-agrees first lo hi list left are.0 on
sources-agree first lo hi (list ∷ lists) (left ∷ lefts) are on (suc source) = sources-agree first lo hi lists lefts are.1 on source

behind-long : (first : ℤ) (lists lefts : List (List Snapshot)) → AreBehind first lists lefts → length lefts ≡ length lists
behind-long first [] [] are = refl
behind-long first [] (left ∷ lefts) are = absurd are
behind-long first (list ∷ lists) [] are = absurd are
behind-long first (list ∷ lists) (left ∷ lefts) are = ap suc (behind-long first lists lefts are.1)

module _ (core : CoreParts) (margins : MarginsParts) (is : IsCore core) (near : margins_of core ≡ Ok margins) (bounded : AreMargins margins) where
  local : IsLocal core margins
  local = core-IsLocal core margins is (margins-needs core margins near)

  emits : need_at margins.needs (emitted_number core) ≡ Some no_margin
  emits =
      ap (λ (ns : List (Option Need)). need_at ns (emitted_number core)) (margins-needs core margins near)
      ∙ need_at-definition (length core.inputs) core.defs (length core.names)
      ∙ last-need (length core.inputs) (length core.names) core.defs is.one_emitted

  -- an input is its rows
  input-is : (rows : List (List Snapshot)) (i : ℕ) → length rows ≡ length core.inputs → i < length core.inputs
      → meaning rows core.defs i ≡ source_of (map stream_of rows) i
  input-is rows i many low = with_definitions-front (map stream_of rows) core.defs i (omega (arith, length-map rows stream_of))

  asked-agree : (m : Option Need) (lo hi : ℤ) (x y : Stream) → IsWithin (record { back = margins.back; ahead = margins.ahead }) m
      → ((from to : ℤ) → (lo -ℤ margins.back) ≤ℤ from → Agree x y from to) → AgreeAsAsked m lo hi x y
  asked-agree None lo hi x y within agree = tt
  asked-agree (Some n) lo hi x y within agree =
      let back = within.1 in
      agree (lo -ℤ n.back) (hi +ℤ n.ahead) (omega (arith, ints))

  -- the output after a tick reads nothing that ends below its first tick
  pub left-gives : (lo hi : ℤ) (lists lefts : List (List Snapshot)) → length lists ≡ length core.inputs → AreBehind (lo +ℤ pos 1 -ℤ margins.back) lists lefts
      → snapshots (meaning lists core.defs (emitted_number core)) lo hi ≡ snapshots (meaning lefts core.defs (emitted_number core)) lo hi
  left-gives lo hi lists lefts many are =
      let first = lo +ℤ pos 1 -ℤ margins.back in
      let x = meaning lists core.defs (emitted_number core) in
      let y = meaning lefts core.defs (emitted_number core) in
      let left_many : length lefts ≡ length core.inputs = behind-long first lists lefts are ∙ many in
      by_lt_z lo hi
      (λ some.
      let agreed = subst (λ (m : Option Need). AgreeAsAsked m lo hi x y) emits
      (local.local lists lefts lo hi many left_many some
      (λ i low. asked-agree (need_at margins.needs i) lo hi (meaning lists core.defs i) (meaning lefts core.defs i) (bounded.needs.each i)
      (λ from to behind. rw (input-is lists i many low, input-is lefts i left_many low) (sources-agree first from to lists lefts are (omega (arith, ints)) i)))
      (emitted_number core)) in
      snapshots-agree x y lo hi (narrower-agrees x y (lo -ℤ pos 0) (hi +ℤ pos 0) lo hi agreed (omega (arith, ints)) (omega (arith, ints))))
      (λ none. snapshots-none x lo hi none ∙ sym (snapshots-none y lo hi none))
