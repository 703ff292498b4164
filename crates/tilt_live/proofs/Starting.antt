-- The code of a live engine whose output goes on from a tick.
use Rattle.std.proofs.Common.{◌≡◌, ◌+◌, ◌^◌, ℤ, pos, neg_ℤ, ◌+ℤ◌, ◌-ℤ◌, ◌≤ℤ◌, List, length, Option, Some, None, sym, ap, ◌∙◌, subst, arith, unwrap_or}
use Rattle.std.proofs.lemmas.Int.{ints, clamps}
use Rattle.std.specs.Int.{int_min, saturate_signed, w64}
use Rattle.tilt_base.specs.declared.limits.TheConstants.{T}
use Rattle.tilt_base.specs.declared.span.Span.{Span}
use Rattle.tilt_bounds.proofs.Margin.{margins-reach}
use Rattle.tilt_bounds.proofs.Needs.{need_at-definition}
use Rattle.tilt_bounds.specs.Margins.{IsWithin, need_at}
use Rattle.tilt_code.specs.Code.{CodeParts}
use Rattle.tilt_code.specs.Run.{run_of}
use Rattle.tilt_compiler.specs.Accepted.{AcceptedParts, IsAccepted}
use Rattle.tilt_compiler.specs.Compiled.{given}
use Rattle.tilt_core.proofs.Last.{domain_of-stretch, last-need}
use Rattle.tilt_core.specs.Core.{CoreParts, IsCore, IsStretch, domain_of}
use Rattle.tilt_core.specs.Needs.{Need, no_margin}
use Rattle.tilt_feed.specs.Horizon.{output_domain}
use Rattle.tilt_input_state.specs.Resume.{first_read}
use Rattle.tilt_fuse.specs.Plan.{plan_of}
use Rattle.tilt_live.specs.Lives.{IsCodeFrom}
use Rattle.tilt_live.specs.Resuming.{start_of}
use Rattle.tilt_lower.specs.Law.{LiesWithin}
use Rattle.tilt_lower.specs.Lowering.{code_of}
use Rattle.tilt_stream.specs.Snap.{Snapshot}

-- the output domain that a query has
pub domain-is : (core : CoreParts) (domain : Span) → domain_of core.defs ≡ Some domain → output_domain core ≡ domain
domain-is core domain is = ap (λ (d : Option Span). unwrap_or d (record { start = pos 0; end = pos 0 })) is

-- from such a tick on some of it is left
pub starts-within : (core : CoreParts) (domain : Span) (from lo : ℤ) → domain_of core.defs ≡ Some domain → IsStretch (Some domain)
    → (output_domain core).start ≤ℤ from → lo ≡ int_min from (domain.end -ℤ pos 1) → LiesWithin (domain_of core.defs) lo domain.end
starts-within core domain from lo is stretch low at =
    let from_low : domain.start ≤ℤ from = subst (λ (d : Span). d.start ≤ℤ from) (domain-is core domain is) low in
    let some = stretch.1 in
    subst (λ (d : Option Span). LiesWithin d lo domain.end) (sym is) (grind (arith, ints, clamps), grind (arith, ints, clamps), omega (arith, ints))

pub starts-code : (accepted : AcceptedParts) (code : CodeParts) (domain : Span) (from lo : ℤ) → IsAccepted accepted → domain_of accepted.core.defs ≡ Some domain
    → lo ≡ int_min from (domain.end -ℤ pos 1)
    → code ≡ code_of (plan_of accepted.core accepted.fuse) accepted.core accepted.margins lo domain.end
    → ((rows : List (List Snapshot)) → length rows ≡ length accepted.core.inputs → run_of code rows ≡ given accepted.core rows lo domain.end)
    → IsCodeFrom accepted.core accepted.fuse (start_of accepted.core from) code
starts-code accepted code domain from lo valid is at code_is means =
    let core = accepted.core in
    let same : domain.end ≡ (output_domain core).end = ap (λ (d : Span). d.end) (sym (domain-is core domain is)) in
    let start : lo ≡ start_of core from = at ∙ ap (λ (t : ℤ). int_min from (t -ℤ pos 1)) same in
    record {
      margins = accepted.margins;
      near = valid.near;
      is = code_is ∙ (λ i. code_of (plan_of core accepted.fuse) core accepted.margins (start i) (same i));
      means = λ rows many. means rows many ∙ (λ i. given core rows (start i) (same i));
    }

stretch-times : (domain : Option Span) → IsStretch domain
    → (neg_ℤ T ≤ℤ (unwrap_or domain (record { start = pos 0; end = pos 0 })).start) × ((unwrap_or domain (record { start = pos 0; end = pos 0 })).end ≤ℤ T)
stretch-times None stretch = (omega (arith, ints), omega (arith, ints))
stretch-times (Some span) stretch = (stretch.0, stretch.2)

-- the times of the output domain are those of queries
pub domain-times : (core : CoreParts) → IsCore core → (neg_ℤ T ≤ℤ (output_domain core).start) × ((output_domain core).end ≤ℤ T)
domain-times core is = stretch-times (domain_of core.defs) (domain_of-stretch (length core.inputs) core.defs is.definitions)

-- the look-back of an accepted query isn't negative
pub back-low : (accepted : AcceptedParts) → IsAccepted accepted → pos 0 ≤ℤ accepted.margins.back
back-low accepted valid =
    let core = accepted.core in
    let margins = accepted.margins in
    let limit : Need = record { back = margins.back; ahead = margins.ahead } in
    let place = length core.names in
    let emitted : need_at margins.needs (length core.inputs + place) ≡ Some no_margin =
    ap (λ (ns : List (Option Need)). need_at ns (length core.inputs + place)) (margins-reach core margins valid.near).2
    ∙ need_at-definition (length core.inputs) core.defs place
    ∙ last-need (length core.inputs) place core.defs valid.valid.one_emitted in
    (subst (IsWithin limit) emitted (valid.within.needs.each (length core.inputs + place))).1

-- such ticks are far from the limits of 64 bits
pub unsaturated : (tick : ℤ) → neg_ℤ (pos (2 ^ 62)) ≤ℤ tick → tick ≤ℤ pos (2 ^ 62) → saturate_signed w64 tick ≡ tick
unsaturated tick low high = grind (arith, ints)

pub first-is : (accepted : AcceptedParts) → IsAccepted accepted → (upto back sum tick : ℤ) → ((output_domain accepted.core).start ≤ℤ upto) × (upto ≤ℤ (output_domain accepted.core).end)
    → back ≡ accepted.margins.back → sum ≡ saturate_signed w64 (upto +ℤ pos 1) → tick ≡ saturate_signed w64 (sum -ℤ back) → tick ≡ first_read accepted.core upto
first-is accepted valid upto back sum tick within back_is sum_is tick_is =
    let times = domain-times accepted.core valid.valid in
    let low = times.0 in
    let high = times.1 in
    let from = within.0 in
    let to = within.1 in
    let forward = back-low accepted valid in
    let near = valid.within.back in
    let one : sum ≡ upto +ℤ pos 1 = sum_is ∙ unsaturated (upto +ℤ pos 1) (omega (arith, ints)) (omega (arith, ints)) in
    let two : tick ≡ sum -ℤ back = tick_is ∙ unsaturated (sum -ℤ back) (omega (arith, ints, one, back_is)) (omega (arith, ints, one, back_is)) in
    let reach_is = (margins-reach accepted.core accepted.margins valid.near).0 in
    two ∙ (λ i. one i -ℤ (back_is ∙ sym reach_is) i)
