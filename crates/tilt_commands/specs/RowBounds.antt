-- Where the rows of a session may start, input by input.
use Rattle.std.specs.Prelude.{ℤ, List, [], ◌∷◌, map, Option, Some, None}
use Rattle.tilt_checkpoint.specs.Checkpoint.{KeptParts}
use Rattle.tilt_series.specs.Series.{Bounds}
use Rattle.tilt_session.specs.declared.cut.Cut.{Cut}
use Rattle.tilt_session.specs.declared.cut.Cut.TheVariants.{Upto, End}

-- below a cut
abbrev pub before_cut : ℤ → Bounds
before_cut cut = record { last_end = None; from = None; upto = Some cut }

-- after what was kept of an input: at its old cut or after it, not before the last row ended, and below the new cut if there is one
abbrev pub after_kept : KeptParts → Option ℤ → Bounds
after_kept k upto = record { last_end = k.last_end; from = Some k.cut; upto = upto }

-- the same of each input, with the new cut of each
abbrev pub up_to : List KeptParts → List ℤ → List Bounds
up_to [] cuts = []
up_to (k ∷ series) [] = []
up_to (k ∷ series) (cut ∷ cuts) = after_kept k (Some cut) ∷ up_to series cuts

-- the same of each input, for a session that ends there
abbrev pub all_after : Cut → List KeptParts → List Bounds
all_after (Upto cuts) series = up_to series cuts.each
all_after End series = map (λ k. after_kept k None) series
