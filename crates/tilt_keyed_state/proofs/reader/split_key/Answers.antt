use Rattle.std.proofs.Common.{length, ◌<◌, ◌^◌, arith}
use Rattle.tilt_keyed_state.proofs.Keys.{key_first}
use Rattle.tilt_keyed_state.proofs.reader.split_key.Goals as goal

pub returns-in_err-state : goal.returns-in_err-state
returns-in_err-state c =
    let bytes = c.args.bytes.now in
    let small : length bytes < 2 ^ 63 = omega arith in
    rw c.from_residual-in_err-state.ensures (λ k rest e. c.in_err-state.ensures k.state rest
    (key_first bytes c.in_ok-key.key.now c.in_ok-key.rest.now k rest small c.in_ok-key.ensures e))
