use Rattle.std.proofs.Common.{length, ◌<◌, ◌^◌, arith}
use Rattle.tilt_keyed_state.specs.Spelling.{keys_text}
use Rattle.tilt_keyed_state.proofs.States.{shared_apart}
use Rattle.tilt_keyed_state.proofs.reader.read_body.Goals as goal

pub returns-in-Err-clause-none : goal.returns-in-Err-clause-none
returns-in-Err-clause-none c = (
  λ e. c.in-Err.ensures.none.0 e,
  λ same s e.
      let bytes = c.args.bytes.now in
      let small : length bytes < 2 ^ 63 = omega arith in
      c.in-Err.ensures.none.1 same s.keys (shared_apart bytes _ s.shared c.in-Some.rest.now (keys_text s.keys) small c.in-Some.ensures e).1,
)
