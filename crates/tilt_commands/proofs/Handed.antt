-- Rows that are read within the bounds of a session are those that it may be handed.
use Rattle.std.proofs.Common.{◌≡◌, ◌<ℤ◌, ℤ, List, [], ◌∷◌, length, map, Option, None, Some, refl, arith}
use Rattle.std.specs.List.{AllByRecursion}
use Rattle.tilt_checkpoint.specs.Checkpoint.{KeptParts}
use Rattle.tilt_checkpoint.specs.Cuts.{CutsParts}
use Rattle.tilt_session.specs.NewRows.{AreEarly, AreFirstRows, AreLate, AreNewRows, IsLate, StartBefore}
use Rattle.tilt_session.specs.declared.cut.Cut.{Cut}
use Rattle.tilt_session.specs.declared.cut.Cut.TheVariants.{Upto, End}
use Rattle.tilt_load.specs.SeriesFiles.{AreWithin, IsWithin, bounds_in}
use Rattle.tilt_series.specs.Series.{Bounds}
use Rattle.tilt_commands.specs.RowBounds.{after_kept, all_after, before_cut, up_to}
use Rattle.tilt_commands.specs.Start.{first_bounds}
use Rattle.tilt_stream.specs.Snap.{Snapshot}
use Rattle.tilt_core.specs.Core.{CoreParts}

-- rows within bounds start before their end
early_rows : (bounds : Bounds) (cut : ℤ) (rows : List Snapshot) → bounds.upto ≡ Some cut → AllByRecursion (IsWithin bounds) rows
    → AllByRecursion (λ (row : Snapshot). row.start <ℤ cut) rows
early_rows bounds cut [] is h = tt
early_rows bounds cut (row ∷ rows) is h = (h.0.early cut is, early_rows bounds cut rows is h.1)

-- rows below the new cuts
first_before : (cuts : List ℤ) (rows : List (List Snapshot)) → length cuts ≡ length rows → AreWithin (bounds_in (map before_cut cuts)) rows
    → StartBefore cuts rows
first_before [] [] many h = tt
first_before [] (r ∷ rows) many h = absurd (omega (arith, many))
first_before (cut ∷ cuts) [] many h = absurd (omega (arith, many))
first_before (cut ∷ cuts) (r ∷ rows) many h = (early_rows (before_cut cut) cut r refl h.0, first_before cuts rows (omega (arith, many)) h.1)

later_before : (series : List KeptParts) (cuts : List ℤ) (rows : List (List Snapshot)) → length rows ≡ length series
    → length cuts ≡ length rows → AreWithin (bounds_in (up_to series cuts)) rows → StartBefore cuts rows
later_before [] [] [] many counted h = tt
later_before [] cuts (r ∷ rows) many counted h = absurd (omega (arith, many))
later_before [] (cut ∷ cuts) [] many counted h = absurd (omega (arith, counted))
later_before (k ∷ series) cuts [] many counted h = absurd (omega (arith, many))
later_before (k ∷ series) [] (r ∷ rows) many counted h = absurd (omega (arith, counted))
later_before (k ∷ series) (cut ∷ cuts) (r ∷ rows) many counted h =
    (early_rows (after_kept k (Some cut)) cut r refl h.0, later_before series cuts rows (omega (arith, many)) (omega (arith, counted)) h.1)

-- the rows of a first session
pub first_handed : (core : CoreParts) (cuts : CutsParts) (rows : List (List Snapshot)) → length rows ≡ length core.inputs
    → length cuts.each ≡ length rows → AreWithin (first_bounds cuts.each) rows → AreFirstRows core (Upto cuts) rows
first_handed core cuts rows many counted within = record { counted = many; early = first_before cuts.each rows counted within }

-- rows after what was kept
late_rows : (k : KeptParts) (upto : Option ℤ) (rows : List Snapshot) → AllByRecursion (IsWithin (after_kept k upto)) rows
    → AllByRecursion (IsLate k.cut k.last_end) rows
late_rows k upto [] h = tt
late_rows k upto (row ∷ rows) h = (record { late = h.0.late k.cut refl; behind = h.0.behind }, late_rows k upto rows h.1)

late_by : (series : List KeptParts) (cuts : List ℤ) (rows : List (List Snapshot)) → length rows ≡ length series
    → length cuts ≡ length rows → AreWithin (bounds_in (up_to series cuts)) rows → AreLate series rows
late_by [] cuts [] many counted h = tt
late_by [] cuts (r ∷ rows) many counted h = absurd (omega (arith, many))
late_by (k ∷ series) cuts [] many counted h = absurd (omega (arith, many))
late_by (k ∷ series) [] (r ∷ rows) many counted h = absurd (omega (arith, counted))
late_by (k ∷ series) (cut ∷ cuts) (r ∷ rows) many counted h =
    (late_rows k (Some cut) r h.0, late_by series cuts rows (omega (arith, many)) (omega (arith, counted)) h.1)

late_at_end : (series : List KeptParts) (rows : List (List Snapshot)) → length rows ≡ length series
    → AreWithin (bounds_in (map (λ k. after_kept k None) series)) rows → AreLate series rows
late_at_end [] [] many h = tt
late_at_end [] (r ∷ rows) many h = absurd (omega (arith, many))
late_at_end (k ∷ series) [] many h = absurd (omega (arith, many))
late_at_end (k ∷ series) (r ∷ rows) many h = (late_rows k None r h.0, late_at_end series rows (omega (arith, many)) h.1)

-- as many cuts as inputs, where a session ends by cuts
abbrev pub AreCounted : Cut → List (List Snapshot) → Type 0
AreCounted cut rows = (cuts : CutsParts) → cut ≡ Upto cuts → length cuts.each ≡ length rows

-- the rows of a later one
pub later_handed : (cut : Cut) (series : List KeptParts) (rows : List (List Snapshot)) → length rows ≡ length series → AreCounted cut rows
    → AreWithin (bounds_in (all_after cut series)) rows → AreNewRows cut series rows
later_handed (Upto cuts) series rows many counted h = record {
  late = late_by series cuts.each rows many (counted cuts refl) h;
  early = later_before series cuts.each rows many (counted cuts refl) h;
}
later_handed End series rows many counted h = record { late = late_at_end series rows many h; early = tt }
