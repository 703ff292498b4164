-- What a query means on a stretch of time, where later rows come, and where rows aren't there that needn't be.
use Rattle.std.proofs.Common.{◌≡◌, ℕ, ◌<◌, ℤ, pos, ◌+ℤ◌, ◌-ℤ◌, ◌≤ℤ◌, List, length, map, Option, Some, None, Ok, sym, ap, ◌∙◌, arith, subst}
use Rattle.std.specs.List.{AllByRecursion}
use Rattle.std.proofs.lemmas.Int.{ints, by_lt_z}
use Rattle.std.proofs.lemmas.List.{length-map}
use Rattle.tilt_core.proofs.Last.{last-need}
use Rattle.tilt_bounds.proofs.Laws.{core-IsLocal, core-IsCausal}
use Rattle.tilt_bounds.proofs.Margin.{margins-needs}
use Rattle.tilt_bounds.proofs.Needs.{need_at-definition}
use Rattle.tilt_bounds.specs.Laws.{AgreeAsAsked, AreContinued, IsLocal, IsCausal, StaysAsAsked}
use Rattle.tilt_bounds.specs.Margins.{AreMargins, IsWithin, MarginsParts, margins_of, need_at}
use Rattle.tilt_stream.proofs.Snapped.{snapshots-agree}
use Rattle.tilt_stream.proofs.Cut.{snapshots-none}
use Rattle.tilt_stream.proofs.Locality.{narrower-agrees}
use Rattle.tilt_stream.specs.Agreement.{Agree}
use Rattle.tilt_stream.specs.Snap.{Snapshot, AreRows}
use Rattle.tilt_stream.specs.Stream.{Stream, stream_of}
use Rattle.tilt_core.proofs.Sources.{with_definitions-front}
use Rattle.tilt_core.specs.Core.{CoreParts, IsCore, emitted_number}
use Rattle.tilt_core.specs.Meaning.{meaning, source_of}
use Rattle.tilt_core.specs.Needs.{Need, no_margin}
use Rattle.tilt_session.proofs.Lists.{length-added, sources-kept}
use Rattle.tilt_compiler.specs.Compiled.{given}
use Rattle.tilt_session.specs.NewRows.{added}
use Rattle.tilt_stream.specs.Pieces.{kept}

module _ (core : CoreParts) (margins : MarginsParts) (is : IsCore core) (near : margins_of core ≡ Ok margins) (bounded : AreMargins margins) where
  local : IsLocal core margins
  local = core-IsLocal core margins is (margins-needs core margins near)

  causal : IsCausal core margins
  causal = core-IsCausal core margins local bounded.needs

  emits : need_at margins.needs (emitted_number core) ≡ Some no_margin
  emits =
      ap (λ (ns : List (Option Need)). need_at ns (emitted_number core)) (margins-needs core margins near)
      ∙ need_at-definition (length core.inputs) core.defs (length core.names)
      ∙ last-need (length core.inputs) (length core.names) core.defs is.one_emitted

  -- rows from a cut on change nothing up to the cut less the look-ahead
  pub given-continued : (cut lo hi : ℤ) (before after : List (List Snapshot)) → length before ≡ length core.inputs
      → AreContinued cut before after
      → hi ≤ℤ (cut -ℤ margins.ahead) → given core before lo hi ≡ given core after lo hi
  given-continued cut lo hi before after many are within =
      let x = meaning before core.defs (emitted_number core) in
      let y = meaning after core.defs (emitted_number core) in
      let same = subst (λ (m : Option Need). StaysAsAsked m (cut -ℤ margins.ahead) x y) emits (causal.causal cut before after many are (emitted_number core)) in
      snapshots-agree x y lo hi (record {
        cells = λ tick above below. same.cells tick (omega (arith, ints));
        marks = λ tick above below. same.marks tick (omega (arith, ints));
      })

  -- an input is its rows
  input-is : (rows : List (List Snapshot)) (i : ℕ) → length rows ≡ length core.inputs → i < length core.inputs
      → meaning rows core.defs i ≡ source_of (map stream_of rows) i
  input-is rows i many low = with_definitions-front (map stream_of rows) core.defs i (omega (arith, length-map rows stream_of))

  asked-agree : (m : Option Need) (lo hi : ℤ) (x y : Stream) → IsWithin (record { back = margins.back; ahead = margins.ahead }) m
      → ((from to : ℤ) → (lo -ℤ margins.back) ≤ℤ from → Agree x y from to) → AgreeAsAsked m lo hi x y
  asked-agree None lo hi x y within agree = tt
  asked-agree (Some n) lo hi x y within agree =
      let back = within.1 in
      agree (lo -ℤ n.back) (hi +ℤ n.ahead) (omega (arith, ints))

  -- from the first tick that is kept on, nothing is missing
  pub given-kept : (first lo hi : ℤ) (rows new : List (List Snapshot)) → AllByRecursion AreRows rows → length rows ≡ length core.inputs
      → length new ≡ length rows → first ≤ℤ (lo -ℤ margins.back +ℤ pos 1)
      → given core (added (map (kept first) rows) new) lo hi ≡ given core (added rows new) lo hi
  given-kept first lo hi rows new order many counted on =
      let one = added (map (kept first) rows) new in
      let all = added rows new in
      let x = meaning one core.defs (emitted_number core) in
      let y = meaning all core.defs (emitted_number core) in
      let all_many : length all ≡ length core.inputs = length-added rows new counted ∙ many in
      let kept_many : length (map (kept first) rows) ≡ length rows = length-map rows (kept first) in
      let one_many : length one ≡ length core.inputs = length-added (map (kept first) rows) new (counted ∙ sym kept_many) ∙ kept_many ∙ many in
      by_lt_z lo hi
      (λ some.
      let agreed = subst (λ (m : Option Need). AgreeAsAsked m lo hi x y) emits
      (local.local one all lo hi one_many all_many some
      (λ i low. asked-agree (need_at margins.needs i) lo hi (meaning one core.defs i) (meaning all core.defs i) (bounded.needs.each i)
      (λ from to behind. rw (input-is one i one_many low, input-is all i all_many low) (sources-kept first from to rows new i order (omega (arith, ints)))))
      (emitted_number core)) in
      snapshots-agree x y lo hi (narrower-agrees x y (lo -ℤ pos 0) (hi +ℤ pos 0) lo hi agreed (omega (arith, ints)) (omega (arith, ints))))
      (λ none. snapshots-none x lo hi none ∙ sym (snapshots-none y lo hi none))
