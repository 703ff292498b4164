-- Parts that are joined from the first one on, at some moment of that.
use Rattle.std.specs.Prelude.{◌≡◌, ◌-ℤ◌, ◌<ℤ◌, ◌≤ℤ◌, ⊤, ℤ, pos, neg_ℤ, List, [], ◌∷◌}
use Rattle.tilt_base.specs.declared.limits.TheConstants.{WIDE}
use Rattle.tilt_base.specs.declared.span.Span.{Span}
use Rattle.tilt_parts.specs.Part.{PartValue}
use Rattle.tilt_parts.specs.Parts.{AreInside, stretches}
use Rattle.tilt_stream.specs.Agreement.{ChangesOnlyAtMarks}
use Rattle.tilt_stream.specs.Snap.{Snapshot}
use Rattle.tilt_stream.specs.Snapshots.{snapshots}
use Rattle.tilt_stream.specs.Stream.{Stream}

-- from each part all snapshots of its stretch were taken
abbrev pub AreWhole : Stream → List Span → List PartValue → Type 0
AreWhole x [] [] = ⊤
AreWhole x (stretch ∷ stretches) (part ∷ parts) = (part.taken ≡ snapshots x stretch.start stretch.end) × AreWhole x stretches parts
AreWhole x stretches parts = ⊥

-- the list has all snapshots up to a cut, and the parts after it those from there on
pub record IsAtCut (x : Stream) (lo hi : ℤ) (list : List Snapshot) (parts : List PartValue) : Type 0 where
  pub cut : ℤ
  pub later : List ℤ
  pub some : lo <ℤ cut
  pub inside : AreInside cut later hi
  pub list_is : list ≡ snapshots x lo cut
  pub whole : AreWhole x (stretches (cut -ℤ pos 1) later hi) parts

-- the list has all snapshots up to where the parts after it begin, or to the end if there are none
abbrev pub IsUpToParts : Stream → ℤ → ℤ → List Snapshot → List PartValue → Type 0
IsUpToParts x lo hi list [] = (lo <ℤ hi) × (list ≡ snapshots x lo hi)
IsUpToParts x lo hi list (part ∷ parts) = IsAtCut x lo hi list (part ∷ parts)

-- and the stream is one whose snapshots can be joined
pub record IsMidway (x : Stream) (lo hi : ℤ) (list : List Snapshot) (parts : List PartValue) : Type 0 where
  pub law : ChangesOnlyAtMarks x
  pub low : neg_ℤ WIDE ≤ℤ lo
  pub high : hi ≤ℤ WIDE
  pub up : IsUpToParts x lo hi list parts
