use Rattle.std.proofs.Common.{sym, ◌∙◌}
use Rattle.std.proofs.lemmas.Result.{on_ok_weaker}
use Rattle.tilt_store.specs.Open.{SameCommit}
use Rattle.tilt_store.proofs.Moments.{goes_on, started}
use Rattle.tilt_store.proofs.Steps.{append_keeps, appended_keeps}
use Rattle.tilt_store.proofs.ledger.Ledger.append.Goals as goal

pub returns-clause-is_open : goal.returns-clause-is_open
returns-clause-is_open g c told =
    let ready = c.requires told in
    let keeps = append_keeps _ _ _ _ ready (c.append.ensures.crash told) in
    on_ok_weaker c.append.result (λ appended. record {
      commit = ready.commit;
      there = appended_keeps ready.commit _ _ _ ready.there appended;
      left = λ k left. keeps k left ∙ ready.there;
    }) (c.append.ensures.appended told)

pub returns-clause-appended : goal.returns-clause-appended
returns-clause-appended g c told =
    let ready = c.requires told in
    on_ok_weaker c.append.result (λ appended. record { appended = appended; same = appended_keeps ready.commit _ _ _ ready.there appended ∙ sym ready.there }) (c.append.ensures.appended told)

pub returns-clause-any_moment : goal.returns-clause-any_moment
returns-clause-any_moment g c told =
    let ready = c.requires told in
    let old = c.args.self.now.folder in
    let P = SameCommit (g.F.Folder.seen old) in
    let at_start = started g.F.Folder.moment g.F.Folder.left_since old P (λ k left. ready.left k (g.met.F.Folder.only_now old k left) ∙ sym ready.there) in
    goes_on g.F.Folder.moment g.F.Folder.left_since old old c.append.new.self P _ at_start (c.append.ensures.time told) (append_keeps _ _ _ _ ready (c.append.ensures.crash told))
