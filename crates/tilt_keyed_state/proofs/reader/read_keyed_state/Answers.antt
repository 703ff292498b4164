use Rattle.std.proofs.Common.{length, ◌<◌, ◌^◌, arith}
use Rattle.tilt_keyed_state.proofs.States.{only_of}
use Rattle.tilt_keyed_state.proofs.reader.read_keyed_state.Goals as goal

pub returns-clause-only : goal.returns-clause-only
returns-clause-only c =
    let text = c.args.text.now in
    let small : length text < 2 ^ 63 = omega arith in
    only_of text small c.read_text.result (λ s. s) c.read_text.ensures.spelled c.read_text.ensures.none
