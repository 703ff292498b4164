use Rattle.std.proofs.Common.{◌∙◌, List, ℕ, [], refl, sym, subst, ap, append-nil, arith, Err}
use Rattle.std.proofs.lemmas.Result.{err_from_is_err_and}
use Rattle.tilt_exactly_once.proofs.Serving.{leaves-first}
use Rattle.tilt_exactly_once.proofs.Steps.{front-none}
use Rattle.tilt_exactly_once.specs.Serving.{IsUnderway}
use Rattle.tilt_exactly_once.proofs.keeper.Keeper.serve.Goals as goal

pub returns-in_err-room-clause-served : goal.returns-in_err-room-clause-served
returns-in_err-room-clause-served g c told of bytes underway holds =
    let p = err_from_is_err_and c.from_residual.result c.from_residual.ensures.1 in
    let folder = c.args.self.now.ledger.folder in
    rw (p.1 ∙ ap Err p.2) (record {
      read = [];
      from_port = λ _. sym (append-nil (g.P.Port.transcript c.args.port.now).read);
      unwritten = λ _. refl;
      leaves = leaves-first g.F.Folder.seen g.F.Folder.may_leave g.F.Folder.moment g.F.Folder.left_since (g.M.Machine.commits of) folder bytes underway.is_open
          (g.met.F.Folder.only_now folder) holds;
      whole = tt;
      settled = tt;
      ended = λ _. tt;
      badly = λ e. absurd (cc e);
      long = λ e. absurd (cc e);
    })

pub returns-clause-served : goal.returns-clause-served
returns-clause-served g c told of bytes underway holds =
    let folder = c.args.self.now.ledger.folder in
    c.serve_all.ensures.served told of folder bytes (g.P.Port.transcript c.args.port.now) (record {
      read = [];
      from_port = λ _. sym (append-nil (g.P.Port.transcript c.args.port.now).read);
      unwritten = λ _. refl;
      underway = subst (λ (l : List ℕ). IsUnderway g.F.Folder.seen g.F.Folder.may_leave g.M.Machine.is g.M.Machine.output of folder c.args.self.now.machine
          c.args.self.now.written l) (sym (append-nil bytes)) underway;
      held = front-none (g.M.Machine.commits of) bytes (g.F.Folder.seen folder) holds;
      recent = record { front = bytes; rest = []; parts = refl; few = omega arith; holds = holds };
      leaves = leaves-first g.F.Folder.seen g.F.Folder.may_leave g.F.Folder.moment g.F.Folder.left_since (g.M.Machine.commits of) folder bytes underway.is_open
          (g.met.F.Folder.only_now folder) holds;
    })
