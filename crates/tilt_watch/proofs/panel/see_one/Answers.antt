use Rattle.std.proofs.Common.{◌∙◌, sym}
use Rattle.tilt_watch.proofs.Entries.{one-dropped, one-kept}
use Rattle.tilt_watch.proofs.panel.see_one.Goals as goal

pub returns-then-is_dropped : goal.returns-then-is_dropped
returns-then-is_dropped g c =
    λ kept watch rest holds at_is.
    one-dropped _ c.args.list.now.items c.index_mut.result.now c.see_row-place.new.watcher c.args.at c.args.row.now c.see_row-place.result c.index_mut.ensures.value
    c.see_row-place.ensures.place kept watch rest holds at_is _ c.remove.ensures.items (sym c.is_dropped.ensures ∙ c.if-is_dropped.true)

pub returns-else-is_dropped : goal.returns-else-is_dropped
returns-else-is_dropped g c =
    λ kept watch rest holds at_is.
    one-kept _ c.args.list.now.items c.index_mut.result.now c.see_row-place.new.watcher c.args.at c.args.row.now c.see_row-place.result c.index_mut.ensures.value
    c.see_row-place.ensures.place kept watch rest holds at_is c.see_row-place.ensures.watcher (sym c.is_dropped.ensures ∙ c.if-is_dropped.false)
