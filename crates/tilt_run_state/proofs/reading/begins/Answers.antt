use Rattle.std.proofs.Common.{length, drop}
use Rattle.std.proofs.lemmas.Bool.Decides.{Decides-eqb}
use Rattle.std.proofs.lemmas.Slice.Eq.{starts_is}
use Rattle.tilt_run_state.proofs.reading.begins.Goals as goal

pub returns : goal.returns
returns c =
    let text = c.args.text.now in
    let front = c.args.front.now in
    let is = starts_is Decides-eqb text front c.starts_with.result c.starts_with.ensures.value in
    (λ h. (drop (length front) text, is.0 h), λ b. is.1 b.0 b.1)
