use Rattle.std.proofs.Common.{◌++◌, ℕ, List, ◌∙◌, ap, sym}
use Rattle.tilt_live_folder.proofs.Running.{tail-more, taken-more}
use Rattle.tilt_live_folder.proofs.Taking.{bad-more, none-more, output-more}
use Rattle.tilt_live_folder.specs.Feeds.{output_for}
use Rattle.tilt_live_run.specs.Runs.{added}
use Rattle.tilt_live_folder.proofs.machine.LiveMachineMachine.take.Goals as goal

pub returns-in-Err-BadLine-clause-stops : goal.returns-in-Err-BadLine-clause-stops
returns-in-Err-BadLine-clause-stops g c = λ of bytes is same.
    bad-more of bytes c.args.piece.now is.no_stop
    (c.in-Err-BadLine.ensures.stops of.accepted of.options bytes is.is c.in-Err-BadLine.field-0-is)

pub returns-clause-is : goal.returns-clause-is
returns-clause-is g c = λ of bytes is. record {
  is = c.in-Ok.ensures.goes_on of.accepted of.options bytes is.is;
  placed = c.in-Ok.ensures.placed bytes is.placed;
  no_stop = none-more of bytes c.args.piece.now is.no_stop (c.in-Ok.ensures.stops of.accepted of.options bytes is.is);
  tail = tail-more bytes c.args.piece.now c.args.self.now.tail.items c.grow.new.tail.items is.tail c.in-Ok-grow.ensures;
  taken = taken-more bytes c.args.piece.now c.args.self.now.taken c.saturating_add-self.result is.taken c.saturating_add-self.ensures;
  opening = is.opening;
  query = is.query;
  accepted = is.accepted;
  core = is.core;
}

pub returns-clause-adds : goal.returns-clause-adds
returns-clause-adds g c = λ of bytes is.
    let more = added of.options of.accepted.core bytes c.args.piece.now in
    let written = c.into_bytes.ensures ∙ (c.in-Ok.ensures.adds of.accepted of.options bytes is.is).whole tt ∙ ap (λ (b : List ℕ). b ++ more) c.new-buffer.ensures in
    output-more of bytes c.args.piece.now is.no_stop ∙ ap (λ (b : List ℕ). output_for of bytes ++ b) (sym written)
