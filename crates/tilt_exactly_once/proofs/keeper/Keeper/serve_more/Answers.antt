use Rattle.std.proofs.Common.{◌∙◌, ◌++◌, take, ap, append_assoc, subst, Err}
use Rattle.std.proofs.lemmas.Result.{err_from_is_err_and}
use Rattle.tilt_exactly_once.proofs.Serving.{leaves-on, leaves-taken, read-end, read-more, stop-bad, stop-long, underway-same}
use Rattle.tilt_exactly_once.proofs.Recently.{recent-joined}
use Rattle.tilt_exactly_once.proofs.Steps.{front-either, front-more, front-same}
use Rattle.tilt_exactly_once.proofs.keeper.Keeper.serve_more.Goals as goal

pub returns-in_default-clause-stepped : goal.returns-in_default-clause-stepped
returns-in_default-clause-stepped g c told of first start old going = record {
  read = going.read;
  from_port = λ t. (c.in_default.ensures.read t).piece ∙ going.from_port t;
  unwritten = λ t. (c.in_default.ensures.read t).written ∙ going.unwritten t;
  leaves = going.leaves;
  whole = tt;
  settled = tt;
  ended = λ _. tt;
  badly = λ e. absurd (cc e);
  long = λ e. absurd (cc e);
}

pub returns-in_err-commit-clause-stepped : goal.returns-in_err-commit-clause-stepped
returns-in_err-commit-clause-stepped g c told of first start old going =
    let p = err_from_is_err_and c.from_residual.result c.from_residual.ensures.1 in
    rw (p.1 ∙ ap Err p.2) (record {
      read = going.read;
      from_port = λ t. read-end _ _ c.read.new.room (rw c.if-count-eq0.true at (c.in-Ok.ensures.read t)) ∙ going.from_port t;
      unwritten = λ t. (c.in-Ok.ensures.read t).written ∙ going.unwritten t;
      leaves = leaves-on g.F.Folder.seen g.F.Folder.moment g.F.Folder.left_since (g.M.Machine.commits of) first _ c.commit.new.self.ledger.folder start going.read
          going.held going.leaves (c.in_err-commit.ensures.any_moment told of (start ++ going.read) going.underway);
      whole = tt;
      settled = tt;
      ended = λ _. tt;
      badly = λ e. absurd (c.in_err-commit.ensures.good e);
      long = c.in_err-commit.ensures.long told of (start ++ going.read) going.underway;
    })

pub returns-in_err-end-clause-stepped : goal.returns-in_err-end-clause-stepped
returns-in_err-end-clause-stepped g c told of first start old going =
    let p = err_from_is_err_and c.from_residual-in_err-end.result c.from_residual-in_err-end.ensures.1 in
    let after = c.in_ok-commit.ensures.underway told of (start ++ going.read) going.underway in
    rw (p.1 ∙ ap Err p.2) (record {
      read = going.read;
      from_port = λ t. read-end _ _ c.read.new.room (rw c.if-count-eq0.true at (c.in-Ok.ensures.read t)) ∙ going.from_port t;
      unwritten = λ t. (c.in-Ok.ensures.read t).written ∙ going.unwritten t;
      leaves = leaves-on g.F.Folder.seen g.F.Folder.moment g.F.Folder.left_since (g.M.Machine.commits of) first _ c.commit.new.self.ledger.folder start going.read
          going.held going.leaves (c.in_ok-commit.ensures.any_moment told of (start ++ going.read) going.underway);
      whole = tt;
      settled = tt;
      ended = λ _. tt;
      badly = λ e. c.in_err-end.ensures.stops of (start ++ going.read) after.machine_is (stop-bad c.in_err-end.field-0.0 e);
      long = λ e. absurd (c.in_err-end.ensures.short (stop-long c.in_err-end.field-0.0 e));
    })

pub returns-then-count-eq0-clause-stepped : goal.returns-then-count-eq0-clause-stepped
returns-then-count-eq0-clause-stepped g c told of first start old going = record {
  read = going.read;
  from_port = λ t. read-end _ _ c.read.new.room (rw c.if-count-eq0.true at (c.in-Ok.ensures.read t)) ∙ going.from_port t;
  unwritten = λ t. (c.in-Ok.ensures.read t).written ∙ going.unwritten t;
  leaves = leaves-on g.F.Folder.seen g.F.Folder.moment g.F.Folder.left_since (g.M.Machine.commits of) first _ c.commit.new.self.ledger.folder start going.read
      going.held going.leaves (c.in_ok-commit.ensures.any_moment told of (start ++ going.read) going.underway);
  whole = c.in_ok-commit.ensures.committed told of (start ++ going.read) going.underway;
  settled = c.in_ok-commit.ensures.settled told;
  ended = λ t. (rw c.if-count-eq0.true at (c.in-Ok.ensures.read t)).ended;
  badly = tt;
  long = tt;
}

pub returns-in_err-take-clause-stepped : goal.returns-in_err-take-clause-stepped
returns-in_err-take-clause-stepped g c told of first start old going =
    let p = err_from_is_err_and c.from_residual-in_err-take.result c.from_residual-in_err-take.ensures.1 in
    let piece = take c.in-Ok.count c.read.new.room in
    rw (p.1 ∙ ap Err p.2) (record {
      read = going.read ++ piece;
      from_port = λ t. read-more old _ _ c.read.new.room going.read c.in-Ok.count (going.from_port t) (c.in-Ok.ensures.read t);
      unwritten = λ t. (c.in-Ok.ensures.read t).written ∙ going.unwritten t;
      leaves = leaves-taken g.F.Folder.seen g.F.Folder.moment g.F.Folder.left_since (g.M.Machine.commits of) first _ c.take.new.self.ledger.folder start going.read
          piece going.held going.leaves (c.in_err-take.ensures.any_moment told);
      whole = tt;
      settled = tt;
      ended = λ _. tt;
      badly = λ e.
          subst (g.M.Machine.stops of) (append_assoc start going.read piece)
          (c.in_err-take.ensures.badly of (start ++ going.read) going.underway.machine_is e);
      long = λ e. absurd (c.in_err-take.ensures.short e);
    })

pub returns-in_err-commit_if_due-clause-stepped : goal.returns-in_err-commit_if_due-clause-stepped
returns-in_err-commit_if_due-clause-stepped g c told of first start old going =
    let p = err_from_is_err_and c.from_residual-in_err-commit_if_due.result c.from_residual-in_err-commit_if_due.ensures.1 in
    let piece = take c.in-Ok.count c.read.new.room in
    let Is = g.M.Machine.commits of in
    let mid = c.take.new.self.ledger.folder in
    let held = front-more Is start going.read piece _ (front-same Is start going.read _ _ going.held (c.in_ok-take.ensures.same told)) in
    let so_far = leaves-taken g.F.Folder.seen g.F.Folder.moment g.F.Folder.left_since Is first _ mid start going.read piece going.held going.leaves
    (c.in_ok-take.ensures.any_moment told) in
    let taken = underway-same g.F.Folder.seen g.F.Folder.may_leave g.M.Machine.is g.M.Machine.output of mid _ _ start going.read piece
    (c.in_ok-take.ensures.underway told of (start ++ going.read) going.underway) in
    rw (p.1 ∙ ap Err p.2) (record {
      read = going.read ++ piece;
      from_port = λ t. read-more old _ _ c.read.new.room going.read c.in-Ok.count (going.from_port t) (c.in-Ok.ensures.read t);
      unwritten = λ t. (c.in-Ok.ensures.read t).written ∙ going.unwritten t;
      leaves = leaves-on g.F.Folder.seen g.F.Folder.moment g.F.Folder.left_since Is first mid c.commit_if_due.new.self.ledger.folder start (going.read ++ piece)
          held so_far (c.in_err-commit_if_due.ensures.any_moment told of (start ++ (going.read ++ piece)) taken);
      whole = tt;
      settled = tt;
      ended = λ _. tt;
      badly = λ e. absurd (c.in_err-commit_if_due.ensures.good e);
      long = c.in_err-commit_if_due.ensures.long told of (start ++ (going.read ++ piece)) taken;
    })

pub returns-clause-stepped : goal.returns-clause-stepped
returns-clause-stepped g c told of first start old going =
    let piece = take c.in-Ok.count c.read.new.room in
    let Is = g.M.Machine.commits of in
    let mid = c.take.new.self.ledger.folder in
    let held = front-more Is start going.read piece _ (front-same Is start going.read _ _ going.held (c.in_ok-take.ensures.same told)) in
    let so_far = leaves-taken g.F.Folder.seen g.F.Folder.moment g.F.Folder.left_since Is first _ mid start going.read piece going.held going.leaves
    (c.in_ok-take.ensures.any_moment told) in
    let taken = underway-same g.F.Folder.seen g.F.Folder.may_leave g.M.Machine.is g.M.Machine.output of mid _ _ start going.read piece
    (c.in_ok-take.ensures.underway told of (start ++ going.read) going.underway) in
    record {
      read = going.read ++ piece;
      from_port = λ t. read-more old _ _ c.read.new.room going.read c.in-Ok.count (going.from_port t) (c.in-Ok.ensures.read t);
      unwritten = λ t. (c.in-Ok.ensures.read t).written ∙ going.unwritten t;
      underway = c.in_ok-commit_if_due.ensures.underway told of (start ++ (going.read ++ piece)) taken;
      held = front-either Is start (going.read ++ piece) _ _ held (c.in_ok-commit_if_due.ensures.same told of (start ++ (going.read ++ piece)) taken);
      recent = c.in_ok-commit_if_due.ensures.recent told of (start ++ (going.read ++ piece)) taken
          (recent-joined Is start going.read piece _ _ (c.in_ok-take.ensures.recent told of (start ++ going.read) going.recent));
      leaves = leaves-on g.F.Folder.seen g.F.Folder.moment g.F.Folder.left_since Is first mid c.commit_if_due.new.self.ledger.folder start (going.read ++ piece)
          held so_far (c.in_ok-commit_if_due.ensures.any_moment told of (start ++ (going.read ++ piece)) taken);
    }
