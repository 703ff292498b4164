use Rattle.std.proofs.Common.{rules, tests}
use Rattle.std.specs.Ordering.{int_eq}
use Rattle.std.proofs.lemmas.Iterator.{YieldsList-from_slice}
use Rattle.std.proofs.lemmas.Iterator.Search.{any_from_yields_List}
use Rattle.tilt_checkpoint.proofs.decoder.one_has.Goals as goal

pub returns : goal.returns
returns c =
    any_from_yields_List (λ kept. int_eq kept.cut c.args.cut) _ _ _ c.any.ensures.ran (YieldsList-from_slice c.args.series.now cc)
    (λ x b q k. search (rules, tests))
