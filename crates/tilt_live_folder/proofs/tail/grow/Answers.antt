use Rattle.tilt_feed_text.proofs.Splitting.{unfinished-none, unfinished-until}
use Rattle.tilt_live_folder.proofs.tail.grow.Goals as goal

pub returns-in-None : goal.returns-in-None
returns-in-None c = rw (unfinished-none c.args.tail.now.items c.args.piece.now c.in-None.ensures) c.append.ensures

pub returns-in-Some : goal.returns-in-Some
returns-in-Some c =
    rw (unfinished-until c.args.tail.now.items c.args.piece.now c.in-Some.field-0-0.now c.in-Some.rest.now c.in-Some.ensures, ← c.after_lines.ensures)
    (rw c.clear.ensures.items at c.append-in-Some.ensures)
