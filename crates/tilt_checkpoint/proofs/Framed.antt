-- The frame of an accepted query lies within its limits.
use Rattle.std.proofs.Common.{◌≡◌, Bool, true, false, if◌then◌else◌, length, map, ◌++◌, [], List, Option, Some, None, Result, Ok, Err, refl}
use Rattle.std.specs.Prelude.{pos, ◌≤ℤ◌, IsSome}
use Rattle.std.specs.List.{range_with_len}
use Rattle.tilt_base.specs.declared.limits.TheConstants.{REACH}
use Rattle.tilt_bounds.proofs.Reached.{near}
use Rattle.tilt_bounds.specs.Margins.{MarginsParts, is_too_far}
use Rattle.tilt_bounds.proofs.Needs.{widest-low}
use Rattle.tilt_checkpoint.specs.Decided.{IsFrame, frame_of, frame_with}
use Rattle.tilt_checkpoint.specs.Valid.{IsAccepted}
use Rattle.tilt_syntax.specs.Tree.{StatementTree}
use Rattle.tilt_base.specs.declared.span.Span.{Span}
use Rattle.tilt_core.proofs.Last.{domain_of-stretch}
use Rattle.tilt_types.proofs.Places.{query-definitions}
use Rattle.tilt_types.proofs.Texts.{query-ends, query-of_text}
use Rattle.tilt_types.specs.Checked.{core_of, core_unless, input_names, source_names}
use Rattle.tilt_core.specs.Core.{CoreParts, IsStretch, domain_of}
use Rattle.tilt_core.specs.Needs.{Need, asked_from, body_needs, needs_from, reach}
use Rattle.tilt_types.specs.WellFormed.{first_fault}
use Rattle.tilt_types.specs.declared.fault.CheckFault.{CheckFault}

no_fault : (fault : Option CheckFault) (core given : CoreParts) → core_unless fault core ≡ Ok given → fault ≡ None
no_fault None core given e = refl
no_fault (Some fault) core given e = cc e

not_far : (far : Bool) (w : Need) (made m : MarginsParts) → ◌≡◌ {A = Result MarginsParts Need} (if far then Err w else Ok made) (Ok m) → far ≡ false
not_far true w made m e = cc e
not_far false w made m e = refl

frame_within : (over : Option Span) (w : Need) → IsSome over → IsStretch over → (pos 0 ≤ℤ w.back) × (pos 0 ≤ℤ w.ahead)
    → (w.back ≤ℤ REACH) × (w.ahead ≤ℤ REACH) → IsFrame (frame_with over w)
frame_within None w some stretch low high = cc some
frame_within (Some span) w some stretch low high = record {
  low = stretch.0;
  some_ticks = stretch.1;
  high = stretch.2;
  back_low = low.0;
  back_high = high.0;
  ahead_low = low.1;
  ahead_high = high.1;
}

pub accepted_frame : (query : List StatementTree) → IsAccepted query → IsFrame (frame_of (core_of query))
accepted_frame query is =
    let core = core_of query in
    let inputs = length core.inputs in
    let w = reach inputs core.defs in
    let good = no_fault (first_fault 1 [] query) core core is.well_formed in
    let stretch = domain_of-stretch (length (input_names query)) core.defs (query-definitions query good (query-of_text query is.parsed)) in
    let ends = query-ends (source_names query) query is.parsed in
    let low = widest-low (map (asked_from inputs core.defs) (range_with_len 0 inputs) ++ body_needs core.defs (needs_from inputs core.defs)) in
    let far = not_far (is_too_far w) w _ is.margins is.near in
    frame_within (domain_of core.defs) w ends.1 stretch low (near w far)
