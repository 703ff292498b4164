-- Which rows a session may be handed (our own rule).
use Rattle.std.specs.Prelude.{◌≡◌, ℤ, ◌≤ℤ◌, ◌<ℤ◌, List, [], ◌∷◌, ◌++◌, length, Option, ⊤}
use Rattle.std.specs.List.{AllByRecursion}
use Rattle.std.specs.Option.{ForSome}
use Rattle.tilt_stream.specs.Snap.{Snapshot}
use Rattle.tilt_core.specs.Core.{CoreParts}
use Rattle.tilt_checkpoint.specs.Checkpoint.{KeptParts}
use Rattle.tilt_session.specs.declared.cut.Cut.{Cut}
use Rattle.tilt_session.specs.declared.cut.Cut.TheVariants.{Upto, End}

-- the rows of each input start before its cut, one list for each
abbrev pub StartBefore : List ℤ → List (List Snapshot) → Type 0
StartBefore [] [] = ⊤
StartBefore [] (rows ∷ more) = ⊥
StartBefore (cut ∷ cuts) [] = ⊥
StartBefore (cut ∷ cuts) (rows ∷ more) = AllByRecursion (λ row. row.start <ℤ cut) rows × StartBefore cuts more

-- the rows of each input start before a session ends
abbrev pub AreEarly : Cut → List (List Snapshot) → Type 0
AreEarly (Upto cuts) rows = StartBefore cuts.each rows
AreEarly End rows = ⊤

-- the rows of a first session: a list for each input, and they start before it ends
pub record AreFirstRows (core : CoreParts) (cut : Cut) (rows : List (List Snapshot)) : Type 0 where
  pub counted : length rows ≡ length core.inputs
  pub early : AreEarly cut rows

-- a row of a later session starts at its input's old cut or after it, and not before the last row ended
pub record IsLate (old : ℤ) (last : Option ℤ) (row : Snapshot) : Type 0 where
  pub late : old ≤ℤ row.start
  pub behind : ForSome last (λ end. end ≤ℤ row.start)

-- the rows of each input do, one list for each
abbrev pub AreLate : List KeptParts → List (List Snapshot) → Type 0
AreLate [] [] = ⊤
AreLate [] (rows ∷ more) = ⊥
AreLate (k ∷ series) [] = ⊥
AreLate (k ∷ series) (rows ∷ more) = AllByRecursion (IsLate k.cut k.last_end) rows × AreLate series more

-- the rows of a later session: those start after what was kept, and before the session ends
pub record AreNewRows (cut : Cut) (series : List KeptParts) (rows : List (List Snapshot)) : Type 0 where
  pub late : AreLate series rows
  pub early : AreEarly cut rows

-- the rows of each input, and after them others
abbrev pub added : List (List Snapshot) → List (List Snapshot) → List (List Snapshot)
added [] new = []
added (rows ∷ more) [] = []
added (rows ∷ more) (new ∷ news) = (rows ++ new) ∷ added more news
