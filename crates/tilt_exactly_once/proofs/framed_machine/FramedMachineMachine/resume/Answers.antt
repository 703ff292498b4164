use Rattle.std.proofs.Common.{rules, ◌≡◌, ◌∙◌, Err, ap}
use Rattle.std.proofs.lemmas.Result.{err_from_is_err_and}
use Rattle.tilt_exactly_once.proofs.Frames.{is-framed, parts-are}
use Rattle.tilt_exactly_once.proofs.framed_machine.FramedMachineMachine.resume.Goals as goal

pub returns-in_default-clause-taken : goal.returns-in_default-clause-taken
returns-in_default-clause-taken g c bytes commit is text = absurd (is-framed bytes c.args.text.now is.text (text ∙ is.state_is) c.in_default.ensures)

pub returns-in_err-resumed-clause-taken : goal.returns-in_err-resumed-clause-taken
returns-in_err-resumed-clause-taken g c bytes commit is text =
    let p = err_from_is_err_and c.from_residual.result c.from_residual.ensures.1 in
    let parts = parts-are bytes c.args.text.now is.text (text ∙ is.state_is) c.in-Some.last.now c.in-Some.text.now c.in-Some.ensures in
    rw (p.1 ∙ ap Err p.2) (c.in_err-resumed.ensures.taken bytes (record { output = commit.output; state = is.text }) is.is parts.1)

pub returns-clause-is : goal.returns-clause-is
returns-clause-is g c bytes commit is text =
    let parts = parts-are bytes c.args.text.now is.text (text ∙ is.state_is) c.in-Some.last.now c.in-Some.text.now c.in-Some.ensures in
    let copied : c.in-Ok.last.items ≡ c.in-Some.last.now = search rules in
    record {
      machine_is = c.in_ok-resumed.ensures.is bytes (record { output = commit.output; state = is.text }) is.is parts.1;
      last = copied ∙ parts.0;
    }

pub returns-clause-written : goal.returns-clause-written
returns-clause-written g c bytes commit is text =
    let parts = parts-are bytes c.args.text.now is.text (text ∙ is.state_is) c.in-Some.last.now c.in-Some.text.now c.in-Some.ensures in
    c.in_ok-resumed.ensures.written bytes (record { output = commit.output; state = is.text }) is.is parts.1
