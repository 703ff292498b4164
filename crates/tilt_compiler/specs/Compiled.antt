-- What the code of a query is, and what its run gives.
use Rattle.std.specs.Prelude.{◌≡◌, ℤ, Bool, List, Some, Ok}
use Rattle.tilt_base.specs.declared.span.Span.{Span}
use Rattle.tilt_bounds.specs.Margins.{MarginsParts, margins_of}
use Rattle.tilt_code.specs.Code.{CodeParts}
use Rattle.tilt_core.specs.Core.{CoreParts, domain_of, emitted_number}
use Rattle.tilt_core.specs.Meaning.{meaning}
use Rattle.tilt_fuse.specs.Plan.{plan_of}
use Rattle.tilt_lower.specs.Lowering.{code_of}
use Rattle.tilt_stream.specs.Snap.{Snapshot}
use Rattle.tilt_stream.specs.Snapshots.{snapshots}

-- the snapshots of what a query means on `(lo, hi]`
abbrev pub given : CoreParts → List (List Snapshot) → ℤ → ℤ → List Snapshot
given core rows lo hi = snapshots (meaning rows core.defs (emitted_number core)) lo hi

-- the code of a query on its output domain, with fusion or without
pub record IsCodeOf (core : CoreParts) (fuse : Bool) (code : CodeParts) : Type 0 where
  pub margins : MarginsParts
  pub domain : Span
  pub near : margins_of core ≡ Ok margins
  pub stretch : domain_of core.defs ≡ Some domain
  pub is : code ≡ code_of (plan_of core fuse) core margins domain.start domain.end
