-- The laws of needs, of every core.
use Rattle.std.proofs.Common.{◌≡◌, ℕ, zero, suc, ◌<◌, ℤ, pos, ◌-ℤ◌, ◌≤ℤ◌, ◌<ℤ◌, List, [], ◌∷◌, ◌++◌, length, map, Option, Some, None, inl, inr, refl, sym, ap, ◌∙◌, arith}
use Rattle.std.specs.Int.{int_min}
use Rattle.std.proofs.lemmas.Int.{ints, clamps}
use Rattle.std.proofs.lemmas.List.{length-map}
use Rattle.tilt_base.specs.declared.limits.TheConstants.{T}
use Rattle.tilt_stream.proofs.Streams.{cell_at-before, mark_at-before}
use Rattle.tilt_stream.specs.Snap.{Snapshot, InOrder}
use Rattle.tilt_stream.specs.Stream.{Stream, stream_of, cell_at, mark_at}
use Rattle.tilt_core.proofs.Sources.{with_definitions-front}
use Rattle.tilt_core.specs.Core.{CoreParts, IsCore}
use Rattle.tilt_core.specs.Meaning.{source_of, meaning}
use Rattle.tilt_core.specs.Needs.{Need, asked_from, needs}
use Rattle.tilt_bounds.proofs.Local.{with_definitions-agrees}
use Rattle.tilt_bounds.proofs.Needs.{below_or_behind, need_at-input, need_at-definition}
use Rattle.tilt_bounds.specs.Laws.{AgreeAsAsked, IsLocal, AreContinued, SameUpTo, StaysAsAsked, IsCausal}
use Rattle.tilt_bounds.specs.Margins.{MarginsParts, IsWithin, AreWithin, need_at}

-- the meaning of an input is its rows
meaning-input : (rows : List (List Snapshot)) (core : CoreParts) (input : ℕ) → length rows ≡ length core.inputs → input < length core.inputs
    → meaning rows core.defs input ≡ source_of (map stream_of rows) input
meaning-input rows core input many low = with_definitions-front (map stream_of rows) core.defs input (omega (arith, length-map rows stream_of))

pub core-IsLocal : (core : CoreParts) (margins : MarginsParts) → IsCore core → margins.needs ≡ needs (length core.inputs) core.defs → IsLocal core margins
core-IsLocal core margins is are = record {
  local = λ one other lo hi one_many other_many some h source.
      let count = length core.inputs in
      let inputs : (input : ℕ) → input < count → AgreeAsAsked (asked_from count core.defs input) lo hi (source_of (map stream_of one) input) (source_of (map stream_of other) input) =
      λ input low.
      rw (← need_at-input count core.defs input low, ← meaning-input one core input one_many low, ← meaning-input other core input other_many low, ← are) (h input low) in
      elim (below_or_behind source count) [
        | inl low ↦ h source low
        | inr e ↦ rw (e.1, are, need_at-definition count core.defs e.0)
            (with_definitions-agrees lo hi count core.defs (map stream_of one) (map stream_of other) (omega (arith, length-map one stream_of)) (omega (arith, length-map other stream_of))
            is.definitions inputs e.0)
      ];
}

-- rows that are added from a cut on leave the ticks up to it
cell_at-continued : (cut : ℤ) (rows added : List Snapshot) (tick : ℤ) → InOrder cut T added → tick ≤ℤ cut → cell_at rows tick ≡ cell_at (rows ++ added) tick
cell_at-continued cut [] added tick late low = sym (cell_at-before cut T added tick late low)
cell_at-continued cut (s ∷ ss) added tick late low = rw (cell_at-continued cut ss added tick late low) refl

mark_at-continued : (cut : ℤ) (rows added : List Snapshot) (tick : ℤ) → InOrder cut T added → tick ≤ℤ cut → mark_at rows tick ≡ mark_at (rows ++ added) tick
mark_at-continued cut [] added tick late low = sym (mark_at-before cut T added tick late low)
mark_at-continued cut (s ∷ ss) added tick late low = rw (mark_at-continued cut ss added tick late low) refl

source_of-continued : (cut : ℤ) (before after : List (List Snapshot)) → AreContinued cut before after → (source : ℕ)
    → SameUpTo cut (source_of (map stream_of before) source) (source_of (map stream_of after) source)
source_of-continued cut [] [] are source = record { cells = λ tick low. refl; marks = λ tick low. refl }
source_of-continued cut [] (after ∷ afters) are source = absurd are
source_of-continued cut (before ∷ befores) [] are source = absurd are
source_of-continued cut (before ∷ befores) (after ∷ afters) are zero =
    let added = are.0.added in
    rw are.0.is (record {
      cells = λ tick low. cell_at-continued cut before added tick are.0.late low;
      marks = λ tick low. mark_at-continued cut before added tick are.0.late low;
    })
source_of-continued cut (before ∷ befores) (after ∷ afters) are (suc source) = source_of-continued cut befores afters are.1 source

continued-many : (cut : ℤ) (before after : List (List Snapshot)) → AreContinued cut before after → length after ≡ length before
continued-many cut [] [] are = refl
continued-many cut [] (after ∷ afters) are = absurd are
continued-many cut (before ∷ befores) [] are = absurd are
continued-many cut (before ∷ befores) (after ∷ afters) are = ap suc (continued-many cut befores afters are.1)

-- streams that are the same up to a cut agree on each stretch up to it
up_to-agree : (n : Option Need) (limit : Need) (cut lo : ℤ) (x y : Stream) → IsWithin limit n → SameUpTo cut x y → AgreeAsAsked n lo (cut -ℤ limit.ahead) x y
up_to-agree None limit cut lo x y within same = tt
up_to-agree (Some n) limit cut lo x y within same =
    let high = within.3 in
    record {
      cells = λ tick above below. same.cells tick (omega (arith, ints));
      marks = λ tick above below. same.marks tick (omega (arith, ints));
    }

-- streams that agree on each stretch up to a tick are the same up to it
agree-up_to : (n : Option Need) (limit : Need) (last : ℤ) (x y : Stream) → IsWithin limit n → ((lo : ℤ) → lo <ℤ last → AgreeAsAsked n lo last x y) → StaysAsAsked n last x y
agree-up_to None limit last x y within h = tt
agree-up_to (Some n) limit last x y within h =
    let low_back = within.0 in
    record {
      cells = λ tick low. let lo = int_min last tick -ℤ pos 2 in (h lo (omega (arith, ints, clamps))).cells tick (omega (arith, ints, clamps)) low;
      marks = λ tick low. let lo = int_min last tick -ℤ pos 2 in (h lo (omega (arith, ints, clamps))).marks tick (omega (arith, ints, clamps)) low;
    }

pub core-IsCausal : (core : CoreParts) (margins : MarginsParts) → IsLocal core margins → AreWithin (record { back = margins.back; ahead = margins.ahead }) margins.needs → IsCausal core margins
core-IsCausal core margins is within = record {
  causal = λ cut before after many are source.
      let limit : Need = record { back = margins.back; ahead = margins.ahead } in
      let after_many : length after ≡ length core.inputs = continued-many cut before after are ∙ many in
      agree-up_to (need_at margins.needs source) limit (cut -ℤ margins.ahead) (meaning before core.defs source) (meaning after core.defs source) (within.each source)
      (λ lo some.
      is.local before after lo (cut -ℤ margins.ahead) many after_many some
      (λ input low.
      rw (meaning-input before core input many low, meaning-input after core input after_many low)
      (up_to-agree (need_at margins.needs input) limit cut lo (source_of (map stream_of before) input) (source_of (map stream_of after) input) (within.each input)
      (source_of-continued cut before after are input)))
      source);
}
