-- The frame of a query has its output domain and its look-back.
use Rattle.std.proofs.Common.{◌≡◌, pos, length, Option, Some, None, refl, unwrap_or}
use Rattle.tilt_base.specs.declared.span.Span.{Span}
use Rattle.tilt_checkpoint.specs.Decided.{frame_of, frame_with}
use Rattle.tilt_core.specs.Core.{CoreParts, domain_of}
use Rattle.tilt_core.specs.Needs.{Need, reach}
use Rattle.tilt_feed.specs.Horizon.{output_domain}

with-start : (domain : Option Span) (n : Need) → (frame_with domain n).start ≡ (unwrap_or domain (record { start = pos 0; end = pos 0 })).start
with-start None n = refl
with-start (Some span) n = refl

with-end : (domain : Option Span) (n : Need) → (frame_with domain n).end ≡ (unwrap_or domain (record { start = pos 0; end = pos 0 })).end
with-end None n = refl
with-end (Some span) n = refl

with-back : (domain : Option Span) (n : Need) → (frame_with domain n).back ≡ n.back
with-back None n = refl
with-back (Some span) n = refl

module _ (core : CoreParts) where
  pub start-of-frame : (frame_of core).start ≡ (output_domain core).start
  start-of-frame = with-start (domain_of core.defs) (reach (length core.inputs) core.defs)

  pub end-of-frame : (frame_of core).end ≡ (output_domain core).end
  end-of-frame = with-end (domain_of core.defs) (reach (length core.inputs) core.defs)

  pub back-of-frame : (frame_of core).back ≡ (reach (length core.inputs) core.defs).back
  back-of-frame = with-back (domain_of core.defs) (reach (length core.inputs) core.defs)
