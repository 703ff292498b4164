-- Each loop of the code of an accepted query ends where a query may look, or before.
use Rattle.std.proofs.Common.{◌≡◌, ℕ, ◌+◌, ℤ, pos, ◌+ℤ◌, ◌-ℤ◌, ◌≤ℤ◌, Bool, true, false, if◌then◌else◌, List, [], ◌∷◌, length, map, get_or, Option, Some, None}
use Rattle.std.proofs.Common.{refl, subst, sym, arith}
use Rattle.std.proofs.lemmas.Int.{ints, clamps}
use Rattle.std.specs.Int.{int_min, int_max}
use Rattle.std.specs.List.{AllByRecursion}
use Rattle.std.specs.Option.{unwrap_or}
use Rattle.std.specs.Prelude.{int_lt}
use Rattle.tilt_base.specs.declared.limits.TheConstants.{REACH, T}
use Rattle.tilt_base.specs.declared.span.Span.{Span}
use Rattle.tilt_bounds.specs.Margins.{AreMargins, IsWithin, MarginsParts, need_at}
use Rattle.tilt_bounds.specs.Stretch.{cut_down, stretch_of}
use Rattle.tilt_bounds.specs.declared.loop_span.LoopSpan.{LoopSpan}
use Rattle.tilt_code.specs.Code.{CodeParts, LoopParts}
use Rattle.tilt_compiler.specs.Accepted.{AcceptedParts, IsAccepted}
use Rattle.tilt_core.specs.Core.{CoreParts}
use Rattle.tilt_core.specs.CoreTree.{Definition}
use Rattle.tilt_core.specs.Needs.{Need, no_margin}
use Rattle.tilt_engine.specs.GoingOn.{IsNearCode}
use Rattle.tilt_fuse.specs.FusedTree.{FusedTree, PlannedLoop}
use Rattle.tilt_fuse.specs.Plan.{plan_of}
use Rattle.tilt_lower.specs.Lowering.{buffer_of, code_of, loop_on, lowered, no_definition}

-- a stretch that is cut down ends where it ended, or before
cut-high_by : (start end lo hi : ℤ) (some : Bool) → end ≤ℤ hi
    → (let s : LoopSpan = if some then record { lo = start; hi = end; empty = false } else record { lo = lo; hi = hi; empty = true } in s.hi ≤ℤ hi)
cut-high_by start end lo hi true below = below
cut-high_by start end lo hi false below = omega (arith, ints)

cut-high : (over : Option Span) (lo hi : ℤ) → (cut_down over lo hi).hi ≤ℤ hi
cut-high None lo hi = omega (arith, ints)
cut-high (Some span) lo hi =
    let start = int_max lo span.start in
    let end = int_min hi span.end in
    cut-high_by start end lo hi (int_lt start end) (omega (arith, ints, clamps))

-- a loop ends where its stretch does
loop-high : (s : LoopSpan) (buffer : ℕ → ℕ) (def : Definition) (tree : FusedTree) (empty : Bool) → s.empty ≡ empty → (loop_on s buffer def tree).hi ≡ s.hi
loop-high s buffer def tree true is = rw is refl
loop-high s buffer def tree false is = rw is refl

-- a need, or none, looks no farther ahead than the limit
need-ahead : (limit : Need) (n : Option Need) → pos 0 ≤ℤ REACH → limit.ahead ≤ℤ REACH → IsWithin limit n → (unwrap_or n no_margin).ahead ≤ℤ REACH
need-ahead limit None some near within = some
need-ahead limit (Some n) some near within = let ahead = within.3 in omega (arith, ints)

module _ (core : CoreParts) (margins : MarginsParts) (are : AreMargins margins) (plan : List PlannedLoop) (lo hi : ℤ) (high : hi ≤ℤ T) where
  lowered-near : (l : PlannedLoop) → (lowered plan core margins lo hi l).hi ≤ℤ (T +ℤ REACH)
  lowered-near l =
      let source = length core.inputs + l.def in
      let def = get_or core.defs l.def no_definition in
      let n = unwrap_or (need_at margins.needs source) no_margin in
      let ahead : n.ahead ≤ℤ REACH = need-ahead (record { back = margins.back; ahead = margins.ahead }) (need_at margins.needs source) (omega (arith, ints)) are.ahead (are.needs.each source) in
      let s = stretch_of def n lo hi in
      let below : s.hi ≤ℤ (hi +ℤ n.ahead) = cut-high def.over (lo -ℤ n.back) (hi +ℤ n.ahead) in
      let is : (lowered plan core margins lo hi l).hi ≡ s.hi = loop-high s (buffer_of (length core.inputs) plan) def l.body s.empty refl in
      omega (arith, ints)

  all-near : (loops : List PlannedLoop) → AllByRecursion (λ (l : LoopParts). l.hi ≤ℤ (T +ℤ REACH)) (map (lowered plan core margins lo hi) loops)
  all-near [] = tt
  all-near (l ∷ loops) = (lowered-near l, all-near loops)

-- so does each of a code for output up to the end of all times
pub near-code : (accepted : AcceptedParts) (code : CodeParts) (lo hi : ℤ) → IsAccepted accepted → hi ≤ℤ T
    → code ≡ code_of (plan_of accepted.core accepted.fuse) accepted.core accepted.margins lo hi → IsNearCode code
near-code accepted code lo hi valid high is =
    let core = accepted.core in
    subst IsNearCode (sym is) (all-near core accepted.margins valid.within (plan_of core accepted.fuse) lo hi high (plan_of core accepted.fuse))
