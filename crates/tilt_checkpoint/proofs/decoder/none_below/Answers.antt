use Rattle.std.proofs.Common.{rules, tests}
use Rattle.std.specs.Prelude.{int_le}
use Rattle.std.proofs.lemmas.Iterator.{YieldsList-from_slice}
use Rattle.std.proofs.lemmas.Iterator.Search.{all_from_yields_List}
use Rattle.tilt_checkpoint.proofs.decoder.none_below.Goals as goal

pub returns : goal.returns
returns c =
    all_from_yields_List (λ kept. int_le c.args.cut kept.cut) _ _ _ c.all.ensures.ran (YieldsList-from_slice c.args.series.now cc)
    (λ x b q k. search (rules, tests))
