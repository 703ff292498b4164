-- Where a session ends (our own rule).
use Rattle.std.specs.Prelude.{ℤ, ◌≤ℤ◌, int_lt, if◌then◌else◌, List, [], ◌∷◌, Option, Some, None, ⊤}
use Rattle.tilt_checkpoint.specs.Cuts.{AreCuts, CutsParts}
use Rattle.tilt_checkpoint.specs.Decided.{decided}
use Rattle.tilt_checkpoint.specs.declared.frame.Frame.{Frame}
use Rattle.tilt_session.specs.declared.cut.Cut.{Cut}
use Rattle.tilt_session.specs.declared.cut.Cut.TheVariants.{Upto, End}

-- the last tick of the output that is decided where a session ends: by cuts the least of them counts, and after the last row all of it is
abbrev pub decided_by : Frame → Cut → ℤ
decided_by frame (Upto cuts) = decided frame cuts.least
decided_by frame End = frame.end

-- of each input the new cut isn't below the old one
abbrev pub NoneFalls : List ℤ → List ℤ → Type 0
NoneFalls [] [] = ⊤
NoneFalls [] (new ∷ news) = ⊥
NoneFalls (old ∷ olds) [] = ⊥
NoneFalls (old ∷ olds) (new ∷ news) = (old ≤ℤ new) × NoneFalls olds news

-- a session ends by cuts of which none falls, nor the least, or after the last row
abbrev pub IsOnward : CutsParts → Cut → Type 0
IsOnward old (Upto new) = (old.least ≤ℤ new.least) × NoneFalls old.each new.each
IsOnward old End = ⊤

-- the old and the new cut of the first input whose cut falls
abbrev pub fall_of : List ℤ → List ℤ → Option (ℤ × ℤ)
fall_of [] news = None
fall_of (old ∷ olds) [] = None
fall_of (old ∷ olds) (new ∷ news) = if int_lt new old then Some (old, new) else fall_of olds news

-- the same, where the old cuts of inputs are these; without inputs, of the least
abbrev pub fall_of_all : List ℤ → CutsParts → CutsParts → Option (ℤ × ℤ)
fall_of_all [] old new = if int_lt new.least old.least then Some (old.least, new.least) else None
fall_of_all (cut ∷ more) old new = fall_of old.each new.each

-- the same of cuts
abbrev pub first_fall : CutsParts → CutsParts → Option (ℤ × ℤ)
first_fall old new = fall_of_all old.each old new

-- where a session ends by cuts, they are within the range of times
abbrev pub IsInRange : Cut → Type 0
IsInRange (Upto cuts) = AreCuts cuts
IsInRange End = ⊤
