-- Which need and which span a stretch is made from, and what bounds it.
use Rattle.std.proofs.Common.{◌≡◌, ℕ, zero, suc, ℤ, ◌≤ℤ◌, ◌<ℤ◌, Bool, true, false, List, [], ◌∷◌, map, Option, Some, None, refl, arith, get_or}
use Rattle.std.specs.Prelude.{neg_ℤ, int_lt, if◌then◌else◌}
use Rattle.std.specs.Int.{int_max, int_min}
use Rattle.std.proofs.lemmas.Int.{ints, clamps}
use Rattle.tilt_base.specs.declared.limits.TheConstants.{WIDE}
use Rattle.tilt_base.specs.declared.span.Span.{Span}
use Rattle.tilt_core.specs.Needs as needs
use Rattle.tilt_bounds.specs.Margins.{need_of, need_at}
use Rattle.tilt_bounds.specs.Stretch.{cut_down}
use Rattle.tilt_bounds.specs.declared.loop_span.LoopSpan.{LoopSpan}
use Rattle.tilt_bounds.specs.declared.need.Need.{Need}
use Rattle.tilt_bounds.specs.declared.need.Need.TheVariants.{Unused}

pub same_some : {m n : needs.Need} → (let x : Option needs.Need = Some m in x ≡ Some n) → m ≡ n
same_some e = cc

-- the need of a source is the one at its place in memory
pub need_at-map : (ns : List Need) (i : ℕ) → need_at (map need_of ns) i ≡ need_of (get_or ns i Unused)
need_at-map [] i = refl
need_at-map (x ∷ ns) zero = refl
need_at-map (x ∷ ns) (suc i) = need_at-map ns i

-- a stretch lies within the limits of snapshots
abbrev pub IsBounded : LoopSpan → Type 0
IsBounded s = (neg_ℤ WIDE ≤ℤ s.lo) × (s.lo <ℤ s.hi) × (s.hi ≤ℤ WIDE)

module _ (lo hi : ℤ) (low : neg_ℤ WIDE ≤ℤ lo) (some : lo <ℤ hi) (high : hi ≤ℤ WIDE) where
  chosen : (start end : ℤ) → lo ≤ℤ start → end ≤ℤ hi → (test : Bool) → int_lt start end ≡ test
      → IsBounded (if test then record { lo = start; hi = end; empty = false } else record { lo = lo; hi = hi; empty = true })
  chosen start end above below true is = (omega (arith, ints), grind (arith, ints), omega (arith, ints))
  chosen start end above below false is = (low, some, high)

  pub cut_down-bounded : (span : Option Span) → IsBounded (cut_down span lo hi)
  cut_down-bounded None = (low, some, high)
  cut_down-bounded (Some span) = chosen (int_max lo span.start) (int_min hi span.end) (omega (arith, ints, clamps))
      (omega (arith, ints, clamps)) (int_lt (int_max lo span.start) (int_min hi span.end)) refl
