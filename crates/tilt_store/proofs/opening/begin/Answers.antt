use Rattle.std.proofs.Common.{rules, ⊎_elim, ◌≡◌, ◌∙◌, arith}
use Rattle.tilt_store.specs.Open.{OpensSame}
use Rattle.tilt_store.proofs.Moments.{goes_on, started}
use Rattle.tilt_store.proofs.Resuming.{begins_same, begun, begun_same, is_empty, opens_same, settled}
use Rattle.tilt_store.proofs.opening.begin.Goals as goal

pub returns-in_err-replace_state-clause-any_moment : goal.returns-in_err-replace_state-clause-any_moment
returns-in_err-replace_state-clause-any_moment g c told =
    let old = c.args.folder.now in
    let seen = g.F.Folder.seen old in
    let only = c.requires.only told in
    let P = OpensSame c.args.initial.now seen in
    let none = is_empty seen c.args.size (c.requires.empty told) (c.requires.counted told) (omega (arith, c.if-size-gt0.false)) in
    let at_start = started g.F.Folder.moment g.F.Folder.left_since old P (λ k left. opens_same _ seen k (only k (g.met.F.Folder.only_now old k left))) in
    goes_on g.F.Folder.moment g.F.Folder.left_since old old c.replace_state.new.self P _ at_start (c.replace_state.ensures.time told)
    (begins_same c.args.initial.now _ seen _ _ none (c.deref.ensures.value ∙ c.in_ok-text.ensures) only (c.replace_state.ensures.crash told))

pub returns-in_err-sync-clause-any_moment : goal.returns-in_err-sync-clause-any_moment
returns-in_err-sync-clause-any_moment g c told =
    let old = c.args.folder.now in
    let seen = g.F.Folder.seen old in
    let only = c.requires.only told in
    let P = OpensSame c.args.initial.now seen in
    let none = is_empty seen c.args.size (c.requires.empty told) (c.requires.counted told) (omega (arith, c.if-size-gt0.false)) in
    let at_start = started g.F.Folder.moment g.F.Folder.left_since old P (λ k left. opens_same _ seen k (only k (g.met.F.Folder.only_now old k left))) in
    let same = begins_same c.args.initial.now _ seen _ _ none (c.deref.ensures.value ∙ c.in_ok-text.ensures) only (c.replace_state.ensures.crash told) in
    let replaced = goes_on g.F.Folder.moment g.F.Folder.left_since old old c.replace_state.new.self P _ at_start (c.replace_state.ensures.time told) same in
    goes_on g.F.Folder.moment g.F.Folder.left_since old c.replace_state.new.self c.sync.new.self P _ replaced (c.sync.ensures.time told)
    (λ k left. ⊎_elim (same k) (λ is. begun_same c.args.initial.now _ seen k none (c.deref.ensures.value ∙ c.in_ok-text.ensures) (is ∙ c.in_ok-replace_state.ensures.replaced told))
    (c.sync.ensures.crash told k left))

pub returns-clause-any_moment : goal.returns-clause-any_moment
returns-clause-any_moment g c told =
    let old = c.args.folder.now in
    let seen = g.F.Folder.seen old in
    let only = c.requires.only told in
    let P = OpensSame c.args.initial.now seen in
    let none = is_empty seen c.args.size (c.requires.empty told) (c.requires.counted told) (omega (arith, c.if-size-gt0.false)) in
    let at_start = started g.F.Folder.moment g.F.Folder.left_since old P (λ k left. opens_same _ seen k (only k (g.met.F.Folder.only_now old k left))) in
    let same = begins_same c.args.initial.now _ seen _ _ none (c.deref.ensures.value ∙ c.in_ok-text.ensures) only (c.replace_state.ensures.crash told) in
    let replaced = goes_on g.F.Folder.moment g.F.Folder.left_since old old c.replace_state.new.self P _ at_start (c.replace_state.ensures.time told) same in
    goes_on g.F.Folder.moment g.F.Folder.left_since old c.replace_state.new.self c.sync.new.self P _ replaced (c.sync.ensures.time told)
    (λ k left. ⊎_elim (same k) (λ is. begun_same c.args.initial.now _ seen k none (c.deref.ensures.value ∙ c.in_ok-text.ensures) (is ∙ c.in_ok-replace_state.ensures.replaced told))
    (c.sync.ensures.crash told k left))

pub returns-clause-reopened : goal.returns-clause-reopened
returns-clause-reopened g c told =
    let seen = g.F.Folder.seen c.args.folder.now in
    let none = is_empty seen c.args.size (c.requires.empty told) (c.requires.counted told) (omega (arith, c.if-size-gt0.false)) in
    let copied : c.in_ok-state.state.items ≡ c.args.initial.now = search rules in
    begun c.args.initial.now _ _ seen _ none (c.deref.ensures.value ∙ c.in_ok-text.ensures) copied (c.sync.ensures.same told ∙ c.in_ok-replace_state.ensures.replaced told)

pub returns-clause-settled : goal.returns-clause-settled
returns-clause-settled g c told = settled _ _ _ (returns-clause-reopened g c told).committed (c.in_ok-sync.ensures.durable told)
