use Rattle.tilt_exactly_once.proofs.keeper.Keeper.serve_all.Goals as goal

pub returns-in-Ended-clause-served : goal.returns-in-Ended-clause-served
returns-in-Ended-clause-served g c told of first bytes old going =
    rw c.in-Ended.is at (c.in_ok-serve_more.ensures.stepped told of first bytes old (c.loop.invariant.of told of first bytes old going))

-- the feed didn't end
pub returns-clause-served : goal.returns-clause-served
returns-clause-served g c told of first bytes old going =
    let here = c.loop.invariant.of told of first bytes old going in
    record {
      read = here.read;
      from_port = here.from_port;
      unwritten = here.unwritten;
      leaves = here.leaves;
      whole = tt;
      settled = tt;
      ended = λ _. tt;
      badly = λ e. absurd (cc e);
      long = λ e. absurd (cc e);
    }
