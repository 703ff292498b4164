-- The tick from which the output of a run goes on.
use Rattle.std.proofs.Common.{◌≡◌, ℕ, zero, suc, ℤ, ◌≤ℤ◌, List, [], ◌∷◌, ◌++◌, length, take, sym, ap, ◌∙◌, subst, arith}
use Rattle.std.proofs.lemmas.Int.{ints}
use Rattle.std.proofs.lemmas.List.{take_all}
use Rattle.tilt_compiler.specs.Accepted.{AcceptedParts, IsAccepted}
use Rattle.tilt_core.specs.Core.{CoreParts, emitted_number}
use Rattle.tilt_feed.proofs.AllAtRest.{fed-printed_at_rest}
use Rattle.tilt_feed.specs.Feed.{Feed}
use Rattle.tilt_feed.specs.Horizon.{horizon, output_domain}
use Rattle.tilt_feed.specs.Laws.{fed}
use Rattle.tilt_feed.specs.Printed.{printed}
use Rattle.tilt_feed.specs.Resting.{ended_by, meaning_at_rest, whole}
use Rattle.tilt_feed.specs.declared.event.Event.{Event}
use Rattle.tilt_input_state.specs.Resume.{first_read, resume_tick}
use Rattle.tilt_live.proofs.Ended.{ends-within}
use Rattle.tilt_live.proofs.Lives.{looks-near}
use Rattle.tilt_live.specs.Lives.{IsLiveOf, tick_of_live}
use Rattle.tilt_live.specs.declared.live.Live.{Live}
use Rattle.tilt_resume.proofs.Behind.{ends_or, ends_or-more}
use Rattle.tilt_resume.proofs.Resumed.{ended-front}
use Rattle.tilt_resume.proofs.Rises.{domain-some}
use Rattle.tilt_stream.proofs.Filling.{snapshots-Fill}
use Rattle.tilt_stream.specs.Snap.{Fill, Snapshot}

-- the first ones of snapshots that begin a stretch end no later than all of them
take-low : (lo hi : ℤ) (n : ℕ) (list rest : List Snapshot) → Fill lo hi (list ++ rest) → ends_or lo (take n list) ≤ℤ ends_or lo list
take-low lo hi zero list rest fill = (ends-within lo hi list rest fill).0
take-low lo hi (suc n) [] rest fill = omega (arith, ints)
take-low lo hi (suc n) (s ∷ list) rest fill =
    let more = take-low s.end hi n list rest fill.2 in
    subst (λ (t : ℤ). t ≤ℤ ends_or lo (s ∷ list)) (sym (ends_or-more lo s (take n list)))
    (subst (λ (t : ℤ). ends_or s.end (take n list) ≤ℤ t) (sym (ends_or-more lo s list)) more)

-- what is printed of a feed, with more after it, fills the output domain
pub printed-fills : (accepted : AcceptedParts) (feed : Feed) (events : List Event) → feed ≡ fed accepted.core events → IsAccepted accepted
    → (rest : List Snapshot) × Fill (output_domain accepted.core).start (output_domain accepted.core).end (printed accepted.core feed ++ rest)
printed-fills accepted feed events is valid =
    let core = accepted.core in
    let lo = (output_domain core).start in
    let hi = (output_domain core).end in
    let at_rest : printed core feed ≡ ended_by (horizon core feed) (whole core feed) =
    subst (λ (f : Feed). printed core f ≡ ended_by (horizon core f) (whole core f)) (sym is) (fed-printed_at_rest core events valid.valid (looks-near accepted valid)) in
    let front = ended-front (horizon core feed) (whole core feed) in (
      front.rest,
      subst (Fill lo hi) (front.is ∙ ap (λ (l : List Snapshot). l ++ front.rest) (sym at_rest))
          (snapshots-Fill (meaning_at_rest core feed (emitted_number core)) lo hi (domain-some core valid.valid)),
    )

-- where the output of a live engine goes on that has returned all that is printed
pub tick-shown : (live : Live) (accepted : AcceptedParts) (feed : Feed) → IsLiveOf live accepted feed (length (printed accepted.core feed))
    → tick_of_live live ≡ resume_tick accepted.core feed
tick-shown live accepted feed is =
    let list = printed accepted.core feed in
    is.upto ∙ ap (ends_or (output_domain accepted.core).start) (take_all (length list) list (omega arith))

-- that isn't below where it went on before
pub tick-rises : (live later : Live) (accepted : AcceptedParts) (feed : Feed) (given : ℕ) → IsLiveOf live accepted feed given
    → IsLiveOf later accepted feed (length (printed accepted.core feed)) → tick_of_live live ≤ℤ tick_of_live later
tick-rises live later accepted feed given is shown =
    let core = accepted.core in
    let lo = (output_domain core).start in
    let list = printed core feed in
    let fills = printed-fills accepted feed is.events is.feed_is is.running.valid in
    let low = take-low lo (output_domain core).end given list fills.0 fills.1 in
    subst (λ (t : ℤ). t ≤ℤ tick_of_live later) (sym is.upto)
    (subst (λ (t : ℤ). ends_or lo (take given list) ≤ℤ t) (sym (tick-shown later accepted feed shown)) low)

-- and so it is with the first tick that is read
pub read-rises : (core : CoreParts) (tick later : ℤ) → tick ≤ℤ later → first_read core tick ≤ℤ first_read core later
read-rises core tick later on = omega (arith, ints)
