use Rattle.std.proofs.Common.{◌∙◌, ap, map, sym, refl}
use Rattle.tilt_engine.proofs.Fed.{left-keeps}
use Rattle.tilt_engine.specs.Stock.{resting_inlet}
use Rattle.tilt_engine.proofs.fed_rows.FedRows.of.Goals as goal

pub returns : goal.returns
returns c = λ first feed unfinished is. record {
  finished = sym unfinished;
  inputs = λ _. rw (c.in_ok-inlets_of.ensures ∙ ap (map resting_inlet) is) (left-keeps first feed.inputs);
}
