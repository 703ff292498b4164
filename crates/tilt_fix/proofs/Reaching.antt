-- Where rows differ farther away than a query looks, what it means stays.
use Rattle.std.proofs.Common.{◌≡◌, ℕ, zero, suc, ◌<◌, ℤ, pos, ◌+ℤ◌, ◌-ℤ◌, ◌<ℤ◌, ◌≤ℤ◌, List, [], ◌∷◌, length, map, Option, Some, None, ◌⊎◌, inl, inr, ap, ◌∙◌, arith, subst}
use Rattle.std.specs.Prelude.{Ok, slice_set}
use Rattle.std.specs.Bool.{⊤}
use Rattle.std.specs.List.{slice_index_or}
use Rattle.std.proofs.lemmas.Int.{ints}
use Rattle.std.proofs.lemmas.List.{length-map, length-set}
use Rattle.tilt_bounds.proofs.Laws.{core-IsLocal}
use Rattle.tilt_bounds.proofs.Margin.{margins-needs}
use Rattle.tilt_bounds.proofs.Needs.{need_at-definition}
use Rattle.tilt_bounds.specs.Laws.{AgreeAsAsked, IsLocal}
use Rattle.tilt_bounds.specs.Margins.{MarginsParts, margins_of, need_at}
use Rattle.tilt_core.proofs.Last.{last-need}
use Rattle.tilt_core.proofs.Sources.{with_definitions-front}
use Rattle.tilt_core.specs.Core.{CoreParts, IsCore, emitted_number}
use Rattle.tilt_core.specs.Meaning.{meaning, source_of}
use Rattle.tilt_core.specs.Needs.{Need, no_margin}
use Rattle.tilt_fix.proofs.Outside.{AreSameOutside}
use Rattle.tilt_fix.proofs.Windows.{same-asked}
use Rattle.tilt_stream.proofs.Locality.{narrower-agrees}
use Rattle.tilt_stream.specs.Agreement.{Agree}
use Rattle.tilt_stream.specs.Snap.{Snapshot}
use Rattle.tilt_stream.specs.Stream.{Stream, stream_of}

-- for the output on `(lo, hi]`, a source with that need isn't looked at on `(start, end]`, and its mark one tick later isn't seen
abbrev pub IsFar : Option Need → ℤ → ℤ → ℤ → ℤ → Type 0
IsFar None start end lo hi = ⊤
IsFar (Some n) start end lo hi = ((hi +ℤ n.ahead) ≤ℤ start) ⊎ (end ≤ℤ (lo -ℤ n.back))

before-agree : (n : Need) (start end lo hi : ℤ) (x y : Stream) → AreSameOutside start end x y → (hi +ℤ n.ahead) ≤ℤ start → Agree x y (lo -ℤ n.back) (hi +ℤ n.ahead)
before-agree n start end lo hi x y same before = record {
  cells = λ tick above within. same.cells tick (inl (omega (arith, ints)));
  marks = λ tick above within. same.marks tick (inl (omega (arith, ints)));
}

after-agree : (n : Need) (start end lo hi : ℤ) (x y : Stream) → AreSameOutside start end x y → end ≤ℤ (lo -ℤ n.back) → Agree x y (lo -ℤ n.back) (hi +ℤ n.ahead)
after-agree n start end lo hi x y same after = record {
  cells = λ tick above within. same.cells tick (inr (omega (arith, ints)));
  marks = λ tick above within. same.marks tick (inr (omega (arith, ints)));
}

far-asked : (n : Option Need) (start end lo hi : ℤ) (x y : Stream) → AreSameOutside start end x y → IsFar n start end lo hi → AgreeAsAsked n lo hi x y
far-asked None start end lo hi x y same far = tt
far-asked (Some n) start end lo hi x y same (inl before) = before-agree n start end lo hi x y same before
far-asked (Some n) start end lo hi x y same (inr after) = after-agree n start end lo hi x y same after

-- what holds of all sources where it holds of the one that is changed
set-source : (R : ℕ → Stream → Stream → Type 0) → ((i : ℕ) (x : Stream) → R i x x) → (rows : List (List Snapshot)) (input : ℕ) (new : List Snapshot)
    → R input (stream_of new) (stream_of (slice_index_or rows input [])) → (i : ℕ)
    → R i (source_of (map stream_of (slice_set rows input new)) i) (source_of (map stream_of rows) i)
set-source R same [] input new h i = same i _
set-source R same (r ∷ rows) zero new h zero = h
set-source R same (r ∷ rows) zero new h (suc i) = same (suc i) _
set-source R same (r ∷ rows) (suc input) new h zero = same zero _
set-source R same (r ∷ rows) (suc input) new h (suc i) = set-source (λ k. R (suc k)) (λ k x. same (suc k) x) rows input new h i

module _ (core : CoreParts) (margins : MarginsParts) (is : IsCore core) (near : margins_of core ≡ Ok margins) where
  local : IsLocal core margins
  local = core-IsLocal core margins is (margins-needs core margins near)

  emits : need_at margins.needs (emitted_number core) ≡ Some no_margin
  emits =
      ap (λ (ns : List (Option Need)). need_at ns (emitted_number core)) (margins-needs core margins near)
      ∙ need_at-definition (length core.inputs) core.defs (length core.names)
      ∙ last-need (length core.inputs) (length core.names) core.defs is.one_emitted

  input-is : (rows : List (List Snapshot)) (i : ℕ) → length rows ≡ length core.inputs → i < length core.inputs
      → meaning rows core.defs i ≡ source_of (map stream_of rows) i
  input-is rows i many low = with_definitions-front (map stream_of rows) core.defs i (omega (arith, length-map rows stream_of))

  -- where the rows agree on what each input is asked for, what the query means agrees
  pub emitted-agree : (one other : List (List Snapshot)) (lo hi : ℤ) → length one ≡ length core.inputs → length other ≡ length core.inputs → lo <ℤ hi
      → ((input : ℕ) → AgreeAsAsked (need_at margins.needs input) lo hi (source_of (map stream_of one) input) (source_of (map stream_of other) input))
      → Agree (meaning one core.defs (emitted_number core)) (meaning other core.defs (emitted_number core)) lo hi
  emitted-agree one other lo hi one_many other_many some asked =
      let x = meaning one core.defs (emitted_number core) in
      let y = meaning other core.defs (emitted_number core) in
      let agreed = subst (λ (m : Option Need). AgreeAsAsked m lo hi x y) emits
      (local.local one other lo hi one_many other_many some
      (λ i low. rw (input-is one i one_many low, input-is other i other_many low) (asked i)) (emitted_number core)) in
      narrower-agrees x y (lo -ℤ pos 0) (hi +ℤ pos 0) lo hi agreed (omega (arith, ints)) (omega (arith, ints))

  -- so it stays where other rows of one input differ far away
  pub far-agrees : (rows : List (List Snapshot)) (input : ℕ) (new : List Snapshot) (start end lo hi : ℤ) → length rows ≡ length core.inputs
      → AreSameOutside start end (stream_of new) (stream_of (slice_index_or rows input [])) → lo <ℤ hi
      → IsFar (need_at margins.needs input) start end lo hi
      → Agree (meaning (slice_set rows input new) core.defs (emitted_number core)) (meaning rows core.defs (emitted_number core)) lo hi
  far-agrees rows input new start end lo hi many same some far =
      emitted-agree (slice_set rows input new) rows lo hi (length-set rows input new ∙ many) many some
      (λ i. set-source (λ k x y. AgreeAsAsked (need_at margins.needs k) lo hi x y) (λ k x. same-asked (need_at margins.needs k) lo hi x) rows input new
      (far-asked (need_at margins.needs input) start end lo hi (stream_of new) (stream_of (slice_index_or rows input [])) same far) i)
