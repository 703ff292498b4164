use Rattle.std.proofs.Common.{inr, ⊎_elim, ◌≡◌, ◌⊎◌, ◌<◌, ◌^◌, ◌∙◌, ap, List, ℕ, subst}
use Rattle.std.proofs.lemmas.Result.{on_ok_weaker}
use Rattle.tilt_store.specs.Commit.{spelled}
use Rattle.tilt_store.specs.Crash.{Only}
use Rattle.tilt_store.specs.Kept.{Kept}
use Rattle.tilt_store.specs.Open.{HasCommitted, SameCommit}
use Rattle.tilt_store.proofs.Moments.{goes_on, started}
use Rattle.tilt_store.proofs.Resuming.{settled}
use Rattle.tilt_store.proofs.Steps.{replace_leaves, replaced_commits, unchanged, unreplaced}
use Rattle.tilt_store.proofs.ledger.Ledger.commit.Goals as goal

pub returns-in_err-sync-clause-any_moment : goal.returns-in_err-sync-clause-any_moment
returns-in_err-sync-clause-any_moment g c told =
    let ready = c.requires told in
    let old = c.args.self.now.folder in
    let seen = g.F.Folder.seen old in
    let P = λ (k : Kept). SameCommit seen k ⊎ HasCommitted seen.output c.args.state.now k in
    let moment = g.F.Folder.moment in
    let left_since = g.F.Folder.left_since in
    let same = unreplaced seen (g.F.Folder.may_leave old) seen.output c.args.state.now ready in
    let is_seen = λ (k : Kept) (is : k ≡ g.F.Folder.seen c.output_length.new.self). unchanged seen k seen.output c.args.state.now (is ∙ c.output_length.ensures.same told) in
    let at_start = started moment left_since old P (λ k left. same k (g.met.F.Folder.only_now old k left)) in
    let measured = goes_on moment left_since old old c.output_length.new.self P _ at_start (c.output_length.ensures.time told) (λ k left. same k (c.output_length.ensures.crash told k left)) in
    let synced = goes_on moment left_since old c.output_length.new.self c.sync.new.self P _ measured (c.sync.ensures.time told)
    (λ k left. ⊎_elim (λ before. same k (c.output_length.ensures.crash told k before)) (is_seen k) (c.sync.ensures.crash told k left)) in
    synced

-- what is seen at first is the only outcome after the first sync
pub returns-in_err-replace_state-clause-any_moment : goal.returns-in_err-replace_state-clause-any_moment
returns-in_err-replace_state-clause-any_moment g c told =
    let ready = c.requires told in
    let old = c.args.self.now.folder in
    let seen = g.F.Folder.seen old in
    let P = λ (k : Kept). SameCommit seen k ⊎ HasCommitted seen.output c.args.state.now k in
    let moment = g.F.Folder.moment in
    let left_since = g.F.Folder.left_since in
    let same = unreplaced seen (g.F.Folder.may_leave old) seen.output c.args.state.now ready in
    let is_seen = λ (k : Kept) (is : k ≡ g.F.Folder.seen c.output_length.new.self). unchanged seen k seen.output c.args.state.now (is ∙ c.output_length.ensures.same told) in
    let at_start = started moment left_since old P (λ k left. same k (g.met.F.Folder.only_now old k left)) in
    let measured = goes_on moment left_since old old c.output_length.new.self P _ at_start (c.output_length.ensures.time told) (λ k left. same k (c.output_length.ensures.crash told k left)) in
    let synced = goes_on moment left_since old c.output_length.new.self c.sync.new.self P _ measured (c.sync.ensures.time told)
    (λ k left. ⊎_elim (λ before. same k (c.output_length.ensures.crash told k before)) (is_seen k) (c.sync.ensures.crash told k left)) in
    let counted = c.in_ok-length.ensures.length told in
    let short = subst (λ n. n < 2 ^ 63) counted c.in_ok-length.ensures.short in
    let text = c.deref.ensures.value ∙ (c.in_ok-text.ensures ∙ ap (λ n. spelled n c.args.state.now) counted) in
    let was = c.sync.ensures.same told ∙ c.output_length.ensures.same told in
    let only = subst (λ k. Only k (g.F.Folder.may_leave c.sync.new.self)) was (c.in_ok-sync.ensures.durable told) in
    let after = replace_leaves seen _ _ c.args.state.now _ short text only (c.replace_state.ensures.crash told) in
    let replaced = goes_on moment left_since old c.sync.new.self c.replace_state.new.self P _ synced (c.replace_state.ensures.time told) after in
    replaced

pub returns-clause-any_moment : goal.returns-clause-any_moment
returns-clause-any_moment g c told =
    let ready = c.requires told in
    let old = c.args.self.now.folder in
    let seen = g.F.Folder.seen old in
    let P = λ (k : Kept). SameCommit seen k ⊎ HasCommitted seen.output c.args.state.now k in
    let moment = g.F.Folder.moment in
    let left_since = g.F.Folder.left_since in
    let same = unreplaced seen (g.F.Folder.may_leave old) seen.output c.args.state.now ready in
    let is_seen = λ (k : Kept) (is : k ≡ g.F.Folder.seen c.output_length.new.self). unchanged seen k seen.output c.args.state.now (is ∙ c.output_length.ensures.same told) in
    let at_start = started moment left_since old P (λ k left. same k (g.met.F.Folder.only_now old k left)) in
    let measured = goes_on moment left_since old old c.output_length.new.self P _ at_start (c.output_length.ensures.time told) (λ k left. same k (c.output_length.ensures.crash told k left)) in
    let synced = goes_on moment left_since old c.output_length.new.self c.sync.new.self P _ measured (c.sync.ensures.time told)
    (λ k left. ⊎_elim (λ before. same k (c.output_length.ensures.crash told k before)) (is_seen k) (c.sync.ensures.crash told k left)) in
    let counted = c.in_ok-length.ensures.length told in
    let short = subst (λ n. n < 2 ^ 63) counted c.in_ok-length.ensures.short in
    let text = c.deref.ensures.value ∙ (c.in_ok-text.ensures ∙ ap (λ n. spelled n c.args.state.now) counted) in
    let was = c.sync.ensures.same told ∙ c.output_length.ensures.same told in
    let only = subst (λ k. Only k (g.F.Folder.may_leave c.sync.new.self)) was (c.in_ok-sync.ensures.durable told) in
    let after = replace_leaves seen _ _ c.args.state.now _ short text only (c.replace_state.ensures.crash told) in
    let replaced = goes_on moment left_since old c.sync.new.self c.replace_state.new.self P _ synced (c.replace_state.ensures.time told) after in
    let now = c.in_ok-replace_state.ensures.replaced told ∙ ap (λ (k : Kept). record k { state = c.deref.result.now }) was in
    goes_on moment left_since old c.replace_state.new.self c.sync-2.new.self P _ replaced (c.sync-2.ensures.time told)
    (λ k left. ⊎_elim (after k) (λ is. inr (replaced_commits seen k c.args.state.now _ short text (is ∙ now))) (c.sync-2.ensures.crash told k left))

-- the state that is written counts all of the output
pub returns-clause-committed : goal.returns-clause-committed
returns-clause-committed g c told =
    let seen = g.F.Folder.seen c.args.self.now.folder in
    let was = c.sync.ensures.same told ∙ c.output_length.ensures.same told in
    let counted = c.in_ok-length.ensures.length told in
    let short = subst (λ n. n < 2 ^ 63) counted c.in_ok-length.ensures.short in
    let text = c.deref.ensures.value ∙ (c.in_ok-text.ensures ∙ ap (λ n. spelled n c.args.state.now) counted) in
    let replaced = c.sync-2.ensures.same told ∙ (c.in_ok-replace_state.ensures.replaced told ∙ ap (λ (k : Kept). record k { state = c.deref.result.now }) was) in
    let there = replaced_commits seen (g.F.Folder.seen c.sync-2.new.self) c.args.state.now _ short text replaced in
    on_ok_weaker c.sync-2.result (λ _. record { written = replaced ∙ ap (λ (t : List ℕ). record seen { state = t }) text; committed = there }) (c.sync-2.ensures.durable told)

pub returns-clause-settled : goal.returns-clause-settled
returns-clause-settled g c told =
    let seen = g.F.Folder.seen c.args.self.now.folder in
    let was = c.sync.ensures.same told ∙ c.output_length.ensures.same told in
    let counted = c.in_ok-length.ensures.length told in
    let short = subst (λ n. n < 2 ^ 63) counted c.in_ok-length.ensures.short in
    let text = c.deref.ensures.value ∙ (c.in_ok-text.ensures ∙ ap (λ n. spelled n c.args.state.now) counted) in
    let replaced = c.sync-2.ensures.same told ∙ (c.in_ok-replace_state.ensures.replaced told ∙ ap (λ (k : Kept). record k { state = c.deref.result.now }) was) in
    let there = replaced_commits seen (g.F.Folder.seen c.sync-2.new.self) c.args.state.now _ short text replaced in
    on_ok_weaker c.sync-2.result (settled _ _ _ there) (c.sync-2.ensures.durable told)
