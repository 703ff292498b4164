use Rattle.std.proofs.Common.{length, ◌<◌, ◌^◌, ◌∙◌, sym, ap, arith, subst, List, ℕ}
use Rattle.std.specs.Str.{bytes_eq}
use Rattle.tilt_keyed_state.proofs.Parts.{differ}
use Rattle.tilt_keyed_state.proofs.Keys.{keys_left, none_left}
use Rattle.tilt_keyed_state.specs.Spelling.{last_line}
use Rattle.tilt_keyed_state.proofs.reader.read_keys.Goals as goal

pub returns-clause-none : goal.returns-clause-none
returns-clause-none c = (
  λ e. cc e,
  λ same keys e.
      let bytes = c.args.bytes.now in
      let small : length bytes < 2 ^ 63 = omega arith in
      let left = keys_left c.loop-one.keys.items keys c.loop-one.rest.now (subst (λ (t : List ℕ). length t < 2 ^ 63) e small) (sym c.loop-one.invariant ∙ e) in
      none_left left.0 c.loop-one.rest.now (differ c.loop-one.rest.now last_line (c.if-eq.ensures ∙ ap (bytes_eq c.loop-one.rest.now) c.as_slice.ensures)) c.in_default.ensures left.1,
)
