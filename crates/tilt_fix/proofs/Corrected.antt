-- What a query means on corrected rows: what it meant before, except for a piece that replaces the old one.
use Rattle.std.proofs.Common.{◌≡◌, ℕ, suc, ℤ, pos, ◌+ℤ◌, ◌-ℤ◌, ◌<ℤ◌, ◌≤ℤ◌, List, [], length, map, ◌+◌, Option, Some, ◌⊎◌, inl, inr, sym, ap, ◌∙◌, arith, subst}
use Rattle.std.specs.Prelude.{Ok, slice_get, slice_set}
use Rattle.std.specs.List.{AllByRecursion, slice_index_or, splice}
use Rattle.std.proofs.lemmas.Int.{ints, clamps, by_lt_z}
use Rattle.tilt_base.proofs.Lists.{same_found}
use Rattle.tilt_base.specs.declared.span.Span.{Span}
use Rattle.tilt_bounds.specs.Laws.{AgreeAsAsked}
use Rattle.tilt_bounds.specs.Margins.{MarginsParts, margins_of, need_at}
use Rattle.tilt_core.proofs.Constancy.{definitions-AreGrids, meaning-changes}
use Rattle.tilt_core.specs.Core.{CoreParts, IsCore, IsStretch, emitted_number}
use Rattle.tilt_core.specs.Meaning.{meaning, source_of}
use Rattle.tilt_core.specs.Needs.{Need}
use Rattle.tilt_fix.proofs.Outside.{AreSameOutside}
use Rattle.tilt_fix.proofs.Reaching.{IsFar, emitted-agree, far-agrees}
use Rattle.tilt_fix.proofs.Replaced.{found, replaced}
use Rattle.tilt_fix.proofs.Stretch.{IsStretchOf}
use Rattle.tilt_fix.proofs.Windows.{length-windows, windows-agree}
use Rattle.tilt_fix.specs.Piece.{IsPieceOf, first_before}
use Rattle.tilt_fix.specs.Replaced.{stretched}
use Rattle.tilt_fix.specs.Window.{windows}
use Rattle.tilt_stream.proofs.Filling.{Fill-AreSnapshots, snapshots-Fill}
use Rattle.tilt_stream.proofs.Snapped.{snapshots-agree}
use Rattle.tilt_stream.specs.Agreement.{Agree, ChangesOnlyAtMarks}
use Rattle.tilt_stream.specs.Snap.{Snapshot, AreRows, AreSnapshots, ended_below}
use Rattle.tilt_stream.specs.Snapshots.{snapshots}
use Rattle.tilt_stream.specs.Stream.{stream_of}

module _ (core : CoreParts) (margins : MarginsParts) (is : IsCore core) (near : margins_of core ≡ Ok margins) where
  changes : (rows : List (List Snapshot)) → ChangesOnlyAtMarks (meaning rows core.defs (emitted_number core))
  changes rows = meaning-changes rows core.defs (definitions-AreGrids (length core.inputs) core.defs is.definitions) (emitted_number core)

  -- the windows of rows give what all rows do
  pub windows-give : (rows : List (List Snapshot)) (lo hi : ℤ) → length rows ≡ length core.inputs → AllByRecursion AreRows rows → lo <ℤ hi
      → snapshots (meaning (windows margins.needs lo hi 0 rows) core.defs (emitted_number core)) lo hi
      ≡ snapshots (meaning rows core.defs (emitted_number core)) lo hi
  windows-give rows lo hi many order some =
      let seen = windows margins.needs lo hi 0 rows in
      snapshots-agree (meaning seen core.defs (emitted_number core)) (meaning rows core.defs (emitted_number core)) lo hi
      (emitted-agree core margins is near seen rows lo hi (length-windows margins.needs lo hi 0 rows ∙ many) many some
      (λ i. let at : 0 + i ≡ i = omega arith in subst (λ (k : ℕ). AgreeAsAsked (need_at margins.needs k) lo hi (source_of (map stream_of seen) i) (source_of (map stream_of rows) i)) at
      (windows-agree margins.needs lo hi 0 rows i order)))

  module _ (domain : Span) (stretch : IsStretch (Some domain)) (rows : List (List Snapshot)) (input : ℕ) (new : List Snapshot) (start end : ℤ)
      (many : length rows ≡ length core.inputs) (same : AreSameOutside start end (stream_of new) (stream_of (slice_index_or rows input []))) where
    -- where the whole domain is far away from an edit the output stays
    pub far-stays : IsFar (need_at margins.needs input) start end domain.start domain.end
        → snapshots (meaning (slice_set rows input new) core.defs (emitted_number core)) domain.start domain.end
        ≡ snapshots (meaning rows core.defs (emitted_number core)) domain.start domain.end
    far-stays far =
        snapshots-agree (meaning (slice_set rows input new) core.defs (emitted_number core)) (meaning rows core.defs (emitted_number core)) domain.start domain.end
        (far-agrees core margins is near rows input new start end domain.start domain.end many same stretch.1 far)

    module _ (n : Need) (need_is : need_at margins.needs input ≡ Some n) (span : Span) (at : IsStretchOf domain n start end span) where
      -- where the piece begins and ends
      pub first-within : (domain.start ≤ℤ first_before domain span) × (first_before domain span <ℤ span.end) × (span.end ≤ℤ domain.end)
      first-within =
          let a = at.low in
          let b = at.some in
          let c = at.high in
          (omega (arith, ints, clamps), omega (arith, ints, clamps), c)

      far-by : (lo hi : ℤ) → IsFar (Some n) start end lo hi → IsFar (need_at margins.needs input) start end lo hi
      far-by lo hi far = subst (λ (m : Option Need). IsFar m start end lo hi) (sym need_is) far

      left_by : (span.start ≡ domain.start) ⊎ ((span.start +ℤ n.ahead) ≤ℤ start)
          → (first_before domain span ≡ domain.start)
          ⊎ Agree (meaning (slice_set rows input new) core.defs (emitted_number core)) (meaning rows core.defs (emitted_number core)) domain.start
          (first_before domain span +ℤ pos 1)
      left_by (inl first) = inl (omega (arith, ints, clamps))
      left_by (inr before) =
          by_lt_z domain.start span.start
          (λ later.
          let e : span.start ≡ first_before domain span +ℤ pos 1 = omega (arith, ints, clamps) in
          inr (subst (λ (t : ℤ). Agree (meaning (slice_set rows input new) core.defs (emitted_number core)) (meaning rows core.defs (emitted_number core)) domain.start t) e
          (far-agrees core margins is near rows input new start end domain.start span.start many same later (far-by domain.start span.start (inl before)))))
          (λ first. inl (omega (arith, ints, clamps)))

      right_by : (span.end ≡ domain.end) ⊎ (end ≤ℤ (span.end -ℤ pos 1 -ℤ n.back))
          → (span.end ≡ domain.end)
          ⊎ Agree (meaning (slice_set rows input new) core.defs (emitted_number core)) (meaning rows core.defs (emitted_number core)) (span.end -ℤ pos 1) domain.end
      right_by (inl last) = inl last
      right_by (inr after) =
          let c = at.high in
          inr (far-agrees core margins is near rows input new start end (span.end -ℤ pos 1) domain.end many same (omega (arith, ints))
          (far-by (span.end -ℤ pos 1) domain.end (inr after)))

      -- what is computed again is a piece of the output
      pub is-piece : IsPieceOf (snapshots (meaning rows core.defs (emitted_number core)) domain.start domain.end)
          (snapshots (meaning (slice_set rows input new) core.defs (emitted_number core)) (first_before domain span) span.end)
          (first_before domain span) span.end
      is-piece =
          let y = meaning rows core.defs (emitted_number core) in
          let x = meaning (slice_set rows input new) core.defs (emitted_number core) in
          let from = first_before domain span in
          let a = first-within.0 in
          let b = first-within.1 in
          let c = first-within.2 in
          let low = stretch.0 in
          let high = stretch.2 in
          let f = found y domain.start (from +ℤ pos 1) domain.end (changes rows) (omega (arith, ints)) (omega (arith, ints)) in
          let g = found y domain.start span.end domain.end (changes rows) (omega (arith, ints)) c in
          let f_begun = f.begun in
          let g_reaches = g.reaches in
          record {
            low = omega (arith, ints);
            some = b;
            high = omega (arith, ints);
            fills = snapshots-Fill x from span.end b;
            first = f.within;
            last = g.within;
            begun = λ s is. let e = same_found _ s f.at is f.is in let h : s.start ≡ f.at.start = ap (λ (t : Snapshot). t.start) e in omega (arith, ints);
            reaches = λ s is. let e = same_found _ s g.at is g.is in let h : s.end ≡ g.at.end = ap (λ (t : Snapshot). t.end) e in omega (arith, ints);
          }

      -- put in place of the old one it gives the output on the corrected rows
      pub put-gives : (s e : Snapshot)
          → slice_get (snapshots (meaning rows core.defs (emitted_number core)) domain.start domain.end)
          (ended_below (first_before domain span +ℤ pos 1) (snapshots (meaning rows core.defs (emitted_number core)) domain.start domain.end)) ≡ Some s
          → slice_get (snapshots (meaning rows core.defs (emitted_number core)) domain.start domain.end)
          (ended_below span.end (snapshots (meaning rows core.defs (emitted_number core)) domain.start domain.end)) ≡ Some e
          → snapshots (meaning (slice_set rows input new) core.defs (emitted_number core)) domain.start domain.end
          ≡ splice (snapshots (meaning rows core.defs (emitted_number core)) domain.start domain.end)
          (ended_below (first_before domain span +ℤ pos 1) (snapshots (meaning rows core.defs (emitted_number core)) domain.start domain.end))
          (suc (ended_below span.end (snapshots (meaning rows core.defs (emitted_number core)) domain.start domain.end)))
          (stretched s.start e.end (snapshots (meaning (slice_set rows input new) core.defs (emitted_number core)) (first_before domain span) span.end))
      put-gives s e starts ends =
          replaced (meaning (slice_set rows input new) core.defs (emitted_number core)) (meaning rows core.defs (emitted_number core)) domain.start domain.end
          (first_before domain span) span.end s e (changes (slice_set rows input new)) (changes rows) first-within.0 first-within.1 first-within.2
          (left_by at.left) (right_by at.right) starts ends

    -- the output is a list of snapshots
    pub output-snapshots : (all : List (List Snapshot)) → AreSnapshots (snapshots (meaning all core.defs (emitted_number core)) domain.start domain.end)
    output-snapshots all =
        let low = stretch.0 in
        let high = stretch.2 in
        Fill-AreSnapshots domain.start domain.end (snapshots (meaning all core.defs (emitted_number core)) domain.start domain.end) (omega (arith, ints)) (omega (arith, ints))
        (snapshots-Fill (meaning all core.defs (emitted_number core)) domain.start domain.end stretch.1)
