use Rattle.std.proofs.Common.{None, Some}
use Rattle.std.proofs.lemmas.Bool.Decides.{Decides-eqb}
use Rattle.std.proofs.lemmas.Slice.Eq.{strip_prefix_is}
use Rattle.tilt_checkpoint.proofs.Pieces.{behind_none, behind_some}
use Rattle.tilt_live_state.proofs.reader.Reader.pass.Goals as goal

pub returns-in_err-self-inside : goal.returns-in_err-self-inside
returns-in_err-self-inside c =
    let other = strip_prefix_is Decides-eqb c.self.inside.left.now c.args.text.now None c.in_err-self-inside.ensures.cases in
    rw (c.from_residual.ensures, ← c.self.view_is) (behind_none c.args.text.now c.self.inside.left.now other)

pub returns : goal.returns
returns c =
    let is = strip_prefix_is Decides-eqb c.self.inside.left.now c.args.text.now (Some c.in_ok-self-inside.field-0) c.in_ok-self-inside.ensures.cases in
    rw (← c.self.view_is) (behind_some c.args.text.now c.self.inside.left.now c.in_ok-self-inside.field-0.now is)
