use Rattle.std.proofs.Common.{◌∙◌}
use Rattle.std.proofs.lemmas.Iterator.Adapters.{YieldsList-from_vec}
use Rattle.std.proofs.lemmas.Iterator.Consumers.{YieldsList-end}
use Rattle.tilt_syntax.specs.Query.{kinds}
use Rattle.tilt_unit_text.proofs.Numbered.{counted_all}
use Rattle.tilt_unit_text.proofs.places.count_numbers.Goals as goal

pub returns : goal.returns
returns c =
    let e = c.into_iter-token-iterator.ensures.into_iter_gives in
    let all = YieldsList-from_vec {s = c.into_iter-token-iterator.result} c.args.tokens.items e.0 (e.1 ∙ c.args.tokens.ok.0) in
    let end = YieldsList-end all c.loop-token.yielded _ c.loop-token.yielded_by _ c.next.new.self c.in-None.is c.next.ensures.steps in
    counted_all (kinds c.loop-token.counts.items) c.loop-token.count c.loop-token.yielded c.args.tokens.items end.0 c.loop-token.invariant.counts
