use Rattle.std.proofs.Common.{◌≡◌, ◌∙◌, ap, map, rules, w64}
use Rattle.std.proofs.lemmas.Int.{to_z-of_z}
use Rattle.std.proofs.lemmas.List.{take_all}
use Rattle.tilt_engine.proofs.Fed.{left-same, rises-keeps}
use Rattle.tilt_engine.specs.Stock.{InletParts}
use Rattle.tilt_input_state.specs.Resume.{left_input}
use Rattle.tilt_engine.proofs.fed_rows.FedRows.inputs.Goals as goal

pub returns : goal.returns
returns c = λ lower feed on unfinished is.
    let items = c.args.self.now.inputs.items in
    let all : c.loop-input.inputs.items ≡ map (λ (i : InletParts). left_input c.args.first i.input) items =
    rw (to_z-of_z w64 c.args.first c.ranges.first) at c.loop-input.invariant
    ∙ ap (map (λ (i : InletParts). left_input c.args.first i.input)) (take_all c.loop-input.input-index items (let past = c.loop-input-test.false in search rules)) in
    all ∙ left-same c.args.first feed.inputs items (rises-keeps lower c.args.first feed.inputs items on (is.inputs unfinished))
