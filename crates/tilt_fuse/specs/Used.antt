-- Which sources are used.
use Rattle.std.specs.Prelude.{◌≡◌, ℕ, ◌<◌, ◌==◌, Bool, false, ◌||◌, List, length, get_or, Option, None, is_some}
use Rattle.tilt_base.specs.Expression.{Leaf, One, Two, If}
use Rattle.tilt_core.specs.CoreTree.{Const, Read, Reduce, CoreTree}
use Rattle.tilt_core.specs.Needs.{Need}

-- whether an expression names a source
abbrev pub names : CoreTree → ℕ → Bool
names (Leaf (Const number)) source = false
names (Leaf (Read read offset)) source = read == source
names (Leaf (Reduce reducer read from to)) source = read == source
names (One op a) source = names a source
names (Two op a b) source = names a source || names b source
names (If c a b) source = names c source || (names a source || names b source)

-- a source is used if it has a need
pub record AreUsed (used : List Bool) (needs : List (Option Need)) : Type 0 where
  pub many : length used ≡ length needs
  pub each : (source : ℕ) → source < length used → get_or used source false ≡ is_some (get_or needs source None)
