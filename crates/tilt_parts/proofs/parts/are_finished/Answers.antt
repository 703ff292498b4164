use Rattle.std.proofs.Common.{rules, tests}
use Rattle.std.proofs.lemmas.Iterator.{YieldsList-from_slice}
use Rattle.std.proofs.lemmas.Iterator.Search.{all_from_yields_List}
use Rattle.tilt_parts.specs.Part.{is_finished}
use Rattle.tilt_parts.proofs.parts.are_finished.Goals as goal

pub returns : goal.returns
returns c = all_from_yields_List is_finished _ _ _ c.all.ensures.ran (YieldsList-from_slice c.args.parts.now cc) (λ x b q k. search (rules, tests))
