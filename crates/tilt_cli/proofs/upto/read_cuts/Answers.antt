use Rattle.std.specs.Str.Iter.{split_text, split_has_more, split_pattern}
use Rattle.std.proofs.Common.{length, lit<, ap, ◌∙◌}
use Rattle.std.proofs.lemmas.Iterator.Consumers.{YieldsList-turn, YieldsList-end}
use Rattle.std.proofs.lemmas.Iterator.Splits.{YieldsList-from_str_split}
use Rattle.std.proofs.lemmas.List.{length_push}
use Rattle.std.proofs.lemmas.Result.{err_from_is_err_and}
use Rattle.tilt_cli.specs.Upto.{cut_bindings_of}
use Rattle.tilt_cli.proofs.UptoRead.{part_refused, part_taken, parts_read}
use Rattle.tilt_cli.proofs.upto.read_cuts.Goals as goal

pub returns-in_err-bind : goal.returns-in_err-bind
returns-in_err-bind c =
    let p = err_from_is_err_and c.from_residual.result c.from_residual.ensures.1 in
    let e = c.into_iter-part-iterator.ensures.into_iter_gives in
    let split = c.split-part-items.ensures in
    let all = YieldsList-from_str_split 44 c.args.word.now (lit< tt) (ap split_text e ∙ split.text) (ap split_has_more e ∙ split.has_more) (ap split_pattern e ∙ split.pattern) in
    let turn = YieldsList-turn all c.loop-part.yielded _ c.loop-part.yielded_by _ _ c.in-Some.part c.in-Some.is c.next.ensures.steps in
    rw (p.1, p.2) (λ usage. part_refused c.args.word.now (length c.loop-part.yielded) c.in-Some.part.now turn (c.in_err-bind.ensures usage))

pub loop-part-preserved : goal.loop-part-preserved
loop-part-preserved c =
    let e = c.into_iter-part-iterator.ensures.into_iter_gives in
    let split = c.split-part-items.ensures in
    let all = YieldsList-from_str_split 44 c.args.word.now (lit< tt) (ap split_text e ∙ split.text) (ap split_has_more e ∙ split.has_more) (ap split_pattern e ∙ split.pattern) in
    let turn = YieldsList-turn all c.loop-part.yielded _ c.loop-part.yielded_by _ _ c.in-Some.part c.in-Some.is c.next.ensures.steps in
    part_taken c.args.word.now (length c.loop-part.yielded) c.in-Some.part.now turn c.loop-part.cuts.items _ c.in_ok-bind.bind _ c.in_ok-add.ensures
    (length_push c.loop-part.yielded c.in-Some.part) c.loop-part.invariant c.in_ok-bind.ensures

pub returns : goal.returns
returns c =
    let e = c.into_iter-part-iterator.ensures.into_iter_gives in
    let split = c.split-part-items.ensures in
    let all = YieldsList-from_str_split 44 c.args.word.now (lit< tt) (ap split_text e ∙ split.text) (ap split_has_more e ∙ split.has_more) (ap split_pattern e ∙ split.pattern) in
    let end = YieldsList-end all c.loop-part.yielded _ c.loop-part.yielded_by _ _ c.in-None.is c.next.ensures.steps in
    parts_read c.args.word.now (length c.loop-part.yielded) (cut_bindings_of c.loop-part.cuts.items) end.1 c.loop-part.invariant
