-- The tick from which the output goes on doesn't fall.
use Rattle.std.proofs.Common.{◌≡◌, ℤ, pos, ◌≤ℤ◌, ◌<ℤ◌, List, [], ◌∷◌, ◌++◌, length, Option, Some, None, IsSome, sym, ap, ◌∙◌, subst, arith, append_assoc, unwrap_or}
use Rattle.std.proofs.lemmas.Int.{ints}
use Rattle.tilt_base.specs.declared.span.Span.{Span}
use Rattle.tilt_core.proofs.Last.{domain_of-stretch}
use Rattle.tilt_core.specs.Core.{CoreParts, IsCore, IsStretch, domain_of, emitted_number}
use Rattle.tilt_feed.proofs.AllAtRest.{fed-printed_at_rest}
use Rattle.tilt_feed.proofs.Final.{fed-printed}
use Rattle.tilt_feed.specs.Events.{after_all}
use Rattle.tilt_feed.specs.Feed.{Feed, empty_feed}
use Rattle.tilt_feed.specs.Horizon.{horizon, output_domain}
use Rattle.tilt_feed.specs.Laws.{fed}
use Rattle.tilt_feed.specs.Printed.{printed}
use Rattle.tilt_feed.specs.Resting.{LooksNear, ended_by, meaning_at_rest, whole}
use Rattle.tilt_feed.specs.declared.event.Event.{Event}
use Rattle.tilt_input_state.specs.Resume.{resume_tick}
use Rattle.tilt_resume.proofs.Behind.{ends_or, ends_or-more}
use Rattle.tilt_resume.proofs.Restored.{after_all-append}
use Rattle.tilt_resume.proofs.Resumed.{ended-front}
use Rattle.tilt_stream.proofs.Filling.{snapshots-Fill}
use Rattle.tilt_stream.specs.Snap.{Fill, Snapshot}

stretch-some : (domain : Option Span) → IsSome domain → IsStretch domain
    → (unwrap_or domain (record { start = pos 0; end = pos 0 })).start <ℤ (unwrap_or domain (record { start = pos 0; end = pos 0 })).end
stretch-some None some stretch = absurd (cc some)
stretch-some (Some span) some stretch = stretch.1

-- the output domain isn't empty
pub domain-some : (core : CoreParts) → IsCore core → (output_domain core).start <ℤ (output_domain core).end
domain-some core is = stretch-some (domain_of core.defs) is.domain (domain_of-stretch (length core.inputs) core.defs is.definitions)

-- snapshots that begin a stretch which others fill end at its start or after it
ends-up : (lo hi : ℤ) (list rest : List Snapshot) → Fill lo hi (list ++ rest) → lo ≤ℤ ends_or lo list
ends-up lo hi [] rest fill = omega (arith, ints)
ends-up lo hi (s ∷ list) rest fill =
    let more : s.end ≤ℤ ends_or s.end list = ends-up s.end hi list rest fill.2 in
    let forward = fill.1 in
    let same = ends_or-more lo s list in
    subst (λ (t : ℤ). lo ≤ℤ t) (sym same) (omega (arith, ints, more, forward))

-- more of them end no earlier
ends-rise : (lo hi : ℤ) (front list rest : List Snapshot) → Fill lo hi (front ++ (list ++ rest)) → ends_or lo front ≤ℤ ends_or lo (front ++ list)
ends-rise lo hi [] list rest fill = ends-up lo hi list rest fill
ends-rise lo hi (s ∷ front) list rest fill =
    subst (λ (t : ℤ). t ≤ℤ ends_or lo (s ∷ (front ++ list))) (sym (ends_or-more lo s front))
    (subst (λ (t : ℤ). ends_or s.end front ≤ℤ t) (sym (ends_or-more lo s (front ++ list))) (ends-rise s.end hi front list rest fill.2))

pub resume-rises : (core : CoreParts) (events more : List Event) → IsCore core → LooksNear core
    → resume_tick core (fed core events) ≤ℤ resume_tick core (after_all more (fed core events))
resume-rises core events more is looks =
    let feed = fed core events in
    let later = after_all more feed in
    let lo = (output_domain core).start in
    let hi = (output_domain core).end in
    let all : fed core (events ++ more) ≡ later = after_all-append events more (empty_feed (length core.inputs)) in
    let printed_is : printed core later ≡ ended_by (horizon core later) (whole core later) =
    subst (λ (f : Feed). printed core f ≡ ended_by (horizon core f) (whole core f)) all (fed-printed_at_rest core (events ++ more) is looks) in
    let one = fed-printed core events more is in
    let two = ended-front (horizon core later) (whole core later) in
    let parts : whole core later ≡ printed core feed ++ (one.rest ++ two.rest) =
    two.is ∙ ap (λ (l : List Snapshot). l ++ two.rest) (sym printed_is ∙ one.is) ∙ append_assoc (printed core feed) one.rest two.rest in
    let fill = subst (Fill lo hi) parts (snapshots-Fill (meaning_at_rest core later (emitted_number core)) lo hi (domain-some core is)) in
    subst (λ (l : List Snapshot). ends_or lo (printed core feed) ≤ℤ ends_or lo l) (sym one.is) (ends-rise lo hi (printed core feed) one.rest two.rest fill)
