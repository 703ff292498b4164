use Rattle.tilt_fix.proofs.Searched.{pushed}
use Rattle.tilt_fix.proofs.window.window_on.Goals as goal

pub push_window-requires-clause-in_order : goal.push_window-requires-clause-in_order
push_window-requires-clause-in_order c =
    (pushed c.args.on.start c.args.on.end c.args.before.now c.args.put.now c.args.after.now c.requires).before_order

pub push_window-requires-clause-behind : goal.push_window-requires-clause-behind
push_window-requires-clause-behind c =
    rw c.new-rows.ensures (pushed c.args.on.start c.args.on.end c.args.before.now c.args.put.now c.args.after.now c.requires).first

pub push_window-requires-2-clause-in_order : goal.push_window-requires-2-clause-in_order
push_window-requires-2-clause-in_order c =
    (pushed c.args.on.start c.args.on.end c.args.before.now c.args.put.now c.args.after.now c.requires).put_order

pub push_window-requires-2-clause-behind : goal.push_window-requires-2-clause-behind
push_window-requires-2-clause-behind c =
    rw (c.in_ok-push_window.ensures, c.new-rows.ensures)
    (pushed c.args.on.start c.args.on.end c.args.before.now c.args.put.now c.args.after.now c.requires).second

pub push_window-requires-3-clause-in_order : goal.push_window-requires-3-clause-in_order
push_window-requires-3-clause-in_order c =
    (pushed c.args.on.start c.args.on.end c.args.before.now c.args.put.now c.args.after.now c.requires).after_order

pub push_window-requires-3-clause-behind : goal.push_window-requires-3-clause-behind
push_window-requires-3-clause-behind c =
    rw (c.in_ok-push_window-2.ensures, c.in_ok-push_window.ensures, c.new-rows.ensures)
    (pushed c.args.on.start c.args.on.end c.args.before.now c.args.put.now c.args.after.now c.requires).third

pub returns : goal.returns
returns c =
    rw (c.in_ok-push_window-3.ensures, c.in_ok-push_window-2.ensures, c.in_ok-push_window.ensures, c.new-rows.ensures)
    (pushed c.args.on.start c.args.on.end c.args.before.now c.args.put.now c.args.after.now c.requires).all
