use Rattle.std.proofs.Common.{◌≡◌, FitsSigned, Option, Some, None, ℤ, ◌∙◌, of_z, refl, rules, to_z, to_z-of_z, w64}
use Rattle.tilt_engine.specs.Engines.{begun_pair}
use Rattle.tilt_feed.specs.Printed.{begun}
use Rattle.tilt_live_start.proofs.Steps.{session-begun}
use Rattle.tilt_live_start.specs.Sessions.{opened_at}
use Rattle.tilt_live_start.specs.declared.live_session.LiveSession.{LiveSession}
use Rattle.tilt_live_start.proofs.live_session.LiveSession.begun.Goals as goal

-- what has begun, with its start in memory
from-start : (found start : ℤ) (value : Option ℤ) (pair : Option (ℤ × Option ℤ)) → found ≡ start → Some (start, value) ≡ pair → Some (found, value) ≡ pair
from-start found start value pair at is = rw at is

pub returns-in_default-clause-begun : goal.returns-in_default-clause-begun
returns-in_default-clause-begun c = λ accepted feed given is.
    let session = c.args.self.now in
    let later : LiveSession = record { live = c.begun.new.self; open_start = session.open_start } in
    let found = rw c.in_default.is at (c.in_ok-start.ensures.running accepted is.code is.left is.returned is.running) in
    session-begun session later accepted feed given is None refl c.begun.ensures.tick found

pub returns-clause-begun : goal.returns-clause-begun
returns-clause-begun c = λ accepted feed given is.
    let session = c.args.self.now in
    let later : LiveSession = record { live = c.begun.new.self; open_start = session.open_start } in
    let fits : FitsSigned w64 c.opened_at.result = search rules in
    let found = rw c.in-Some.is at (c.in_ok-start.ensures.running accepted is.code is.left is.returned is.running) in
    let all = session-begun session later accepted feed given is (Some (c.in-Some.start, c.in-Some.value)) refl c.begun.ensures.tick found in
    let start_fits : FitsSigned w64 c.in-Some.start = search rules in
    let at = rw (to_z-of_z start_fits) at c.opened_at.ensures.value in
    let start : to_z w64 (of_z w64 c.opened_at.result) ≡ opened_at session.open_start c.in-Some.start = to_z-of_z fits ∙ at in
    (λ every. from-start (to_z w64 (of_z w64 c.opened_at.result)) (opened_at session.open_start c.in-Some.start) c.in-Some.value (begun_pair (begun accepted.core feed)) start (all.0 every), all.1)
