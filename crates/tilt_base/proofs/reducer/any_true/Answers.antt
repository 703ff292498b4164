use Rattle.std.proofs.Common.{rules, tests}
use Rattle.std.proofs.lemmas.Iterator.{YieldsList-from_slice}
use Rattle.std.proofs.lemmas.Iterator.Search.{any_from_yields_List}
use Rattle.tilt_base.specs.Scalar.{is_true}
use Rattle.tilt_base.proofs.reducer.any_true.Goals as goal

pub returns : goal.returns
returns c = any_from_yields_List is_true _ _ _ c.any.ensures.ran (YieldsList-from_slice c.args.numbers.now cc) (λ x b q k. search (rules, tests))
