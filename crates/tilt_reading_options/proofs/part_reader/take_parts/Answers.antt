use Rattle.std.specs.Str.Iter.{split_text, split_has_more, split_pattern}
use Rattle.std.proofs.Common.{length, lit<, refl, sym, ap, ◌∙◌}
use Rattle.std.proofs.lemmas.Iterator.Consumers.{YieldsList-turn, YieldsList-end}
use Rattle.std.proofs.lemmas.Iterator.Splits.{YieldsList-from_str_split}
use Rattle.std.proofs.lemmas.List.{length_push}
use Rattle.tilt_reading_options.specs.Texts.{parts_of}
use Rattle.tilt_reading_options.proofs.Splitting.{part_bad, part_taken, parts_read}
use Rattle.tilt_reading_options.proofs.part_reader.take_parts.Goals as goal

pub returns-then-not-branch : goal.returns-then-not-branch
returns-then-not-branch g c =
    let e = c.into_iter-part-iterator.ensures.into_iter_gives in
    let split = c.split-part-items.ensures in
    let all = YieldsList-from_str_split 44 c.args.text.now (lit< tt) (ap split_text e ∙ split.text) (ap split_has_more e ∙ split.has_more) (ap split_pattern e ∙ split.pattern) in
    let turn = YieldsList-turn all c.loop-part.yielded _ c.loop-part.yielded_by _ _ c.in-Some.part c.in-Some.is c.next.ensures.steps in
    rw (part_bad (g.R.PartReader.with_part c.args.reader.now) c.args.table.now (parts_of c.args.text.now) (length c.loop-part.yielded) c.in-Some.part.now turn
    c.loop-part.table c.loop-part.invariant (rw c.if-not-branch.true at c.in_ok-take_part.ensures)) refl

pub loop-part-preserved : goal.loop-part-preserved
loop-part-preserved g c =
    let e = c.into_iter-part-iterator.ensures.into_iter_gives in
    let split = c.split-part-items.ensures in
    let all = YieldsList-from_str_split 44 c.args.text.now (lit< tt) (ap split_text e ∙ split.text) (ap split_has_more e ∙ split.has_more) (ap split_pattern e ∙ split.pattern) in
    let turn = YieldsList-turn all c.loop-part.yielded _ c.loop-part.yielded_by _ _ c.in-Some.part c.in-Some.is c.next.ensures.steps in
    part_taken (g.R.PartReader.with_part c.args.reader.now) c.args.table.now (parts_of c.args.text.now) (length c.loop-part.yielded) c.in-Some.part.now turn
    c.loop-part.table c.loop-part.invariant _ c.take_part.new.table (length_push c.loop-part.yielded c.in-Some.part)
    (rw c.if-not-branch.false at c.in_ok-take_part.ensures)

pub returns : goal.returns
returns g c =
    let e = c.into_iter-part-iterator.ensures.into_iter_gives in
    let split = c.split-part-items.ensures in
    let all = YieldsList-from_str_split 44 c.args.text.now (lit< tt) (ap split_text e ∙ split.text) (ap split_has_more e ∙ split.has_more) (ap split_pattern e ∙ split.pattern) in
    let end = YieldsList-end all c.loop-part.yielded _ c.loop-part.yielded_by _ _ c.in-None.is c.next.ensures.steps in
    sym (parts_read (g.R.PartReader.with_part c.args.reader.now) c.args.table.now (parts_of c.args.text.now) (length c.loop-part.yielded) c.loop-part.table end.1
    c.loop-part.invariant)
