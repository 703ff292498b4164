use Rattle.std.proofs.Common.{◌≡◌, ◌∙◌, [], sym}
use Rattle.tilt_pipe.proofs.Pulling.{from-ok}
use Rattle.tilt_pipe.specs.Pipes.{IsExact}
use Rattle.tilt_pipe.proofs.pipe.Pipe.next.Goals as goal

pub invariant_of-self : goal.invariant_of-self
invariant_of-self c = λ fine.
    let ok = sym c.is_err-self-inside.ensures.value ∙ fine in
    record {
      exact = from-ok (IsExact c.pull-next.new.chain) c.pull-next.result c.pull-next.ensures.exact ok;
      none_asked = from-ok (c.pull-next.new.asked.items ≡ []) c.pull-next.result c.pull-next.ensures.none ok;
    }
