use Rattle.std.proofs.Common.{◌∙◌, ◌<ℤ◌, ◌≤ℤ◌, inr, refl, rules, subst, sym, w64}
use Rattle.std.proofs.lemmas.Int.{to_z-of_z}
use Rattle.tilt_base.specs.declared.span.Span.{Span}
use Rattle.tilt_live.proofs.Resuming.{restored-run, resumed-live, started-ended, started-open}
use Rattle.tilt_live.proofs.Starting.{domain-is}
use Rattle.tilt_live.specs.Resuming.{known_feed}
use Rattle.tilt_live.specs.declared.live.Live.{Live}
use Rattle.tilt_live.proofs.live.Live.resume.Goals as goal

pub returns-then-from-end-clause-started : goal.returns-then-from-end-clause-started
returns-then-from-end-clause-started c =
    let live = c.in_ok-live.live in
    let later : Live = record { accepted = live.accepted; engine = c.restore.new.engine; refused = live.refused; known = live.known; upto = live.upto; alloc = live.alloc } in
    let accepted = c.args.accepted in
    let domain = c.domain-end.result in
    let start = rw (to_z-of_z w64 c.args.from c.ranges.from) at c.in_ok-live.ensures.running in
    let below : c.args.from <ℤ domain.end = search rules in
    let run =
    restored-run live later accepted start.0 c.args.finished c.args.inputs.now refl refl c.in_ok-live.ensures.known c.requires.many c.in_ok-restore.ensures.order start.2
    (c.in_ok-restore.ensures.engine start.0) in
    started-open later accepted c.args.from (known_feed c.args.finished c.args.inputs.now) start.0 start.1 run
    (subst (λ (d : Span). c.args.from <ℤ d.end) (sym (domain-is accepted.core domain c.domain-end.ensures.value)) below)
    (rw (to_z-of_z w64 c.args.from c.ranges.from) at c.in_ok-live.ensures.tick)

pub returns-then-from-end-clause-live : goal.returns-then-from-end-clause-live
returns-then-from-end-clause-live c =
    let live = c.in_ok-live.live in
    let later : Live = record { accepted = live.accepted; engine = c.restore.new.engine; refused = live.refused; known = live.known; upto = live.upto; alloc = live.alloc } in
    resumed-live later c.args.accepted c.args.from c.args.finished c.args.inputs.now c.requires.many (returns-then-from-end-clause-started c)

pub returns-then-from-end-clause-usable : goal.returns-then-from-end-clause-usable
returns-then-from-end-clause-usable c =
    let started = returns-then-from-end-clause-started c in
    inr (c.args.accepted, started.code, known_feed c.args.finished c.args.inputs.now, _, started.running)

pub find_next-requires : goal.find_next-requires
find_next-requires c =
    let live = c.in_ok-live.live in
    let later : Live = record { accepted = live.accepted; engine = c.restore.new.engine; refused = live.refused; known = live.known; upto = live.upto; alloc = live.alloc } in
    let start = c.in_ok-live.ensures.running in (
      c.args.accepted,
      start.0,
      known_feed c.args.finished c.args.inputs.now,
      0,
      restored-run live later c.args.accepted start.0 c.args.finished c.args.inputs.now refl refl c.in_ok-live.ensures.known c.requires.many c.in_ok-restore.ensures.order start.2
          (c.in_ok-restore.ensures.engine start.0),
    )

pub returns-clause-started : goal.returns-clause-started
returns-clause-started c =
    let live = c.in_ok-live.live in
    let later : Live = record { accepted = live.accepted; engine = c.restore.new.engine; refused = live.refused; known = live.known; upto = live.upto; alloc = live.alloc } in
    let accepted = c.args.accepted in
    let domain = c.domain-end.result in
    let left = known_feed c.args.finished c.args.inputs.now in
    let start = rw (to_z-of_z w64 c.args.from c.ranges.from) at c.in_ok-live.ensures.running in
    let past : domain.end ≤ℤ c.args.from = search rules in
    let run =
    restored-run live later accepted start.0 c.args.finished c.args.inputs.now refl refl c.in_ok-live.ensures.known c.requires.many c.in_ok-restore.ensures.order start.2
    (c.in_ok-restore.ensures.engine start.0) in
    started-ended c.find_next.new.self accepted c.args.from left start.0 _ start.1 (c.in_ok-find_next.ensures.next accepted start.0 left 0 run)
    (subst (λ (d : Span). d.end ≤ℤ c.args.from) (sym (domain-is accepted.core domain c.domain-end.ensures.value)) past)
    (c.find_next.ensures.tick ∙ (rw (to_z-of_z w64 c.args.from c.ranges.from) at c.in_ok-live.ensures.tick))

pub returns-clause-live : goal.returns-clause-live
returns-clause-live c = resumed-live c.find_next.new.self c.args.accepted c.args.from c.args.finished c.args.inputs.now c.requires.many (returns-clause-started c)

pub returns-clause-usable : goal.returns-clause-usable
returns-clause-usable c =
    let started = returns-clause-started c in
    inr (c.args.accepted, started.code, known_feed c.args.finished c.args.inputs.now, _, started.running)
