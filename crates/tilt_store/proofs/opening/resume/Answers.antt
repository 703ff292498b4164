use Rattle.std.proofs.Common.{rules, ⊎_elim, ◌≡◌, ◌∙◌, ◌≤◌, arith, length}
use Rattle.tilt_store.specs.Open.{OpensSame}
use Rattle.tilt_store.proofs.Moments.{goes_on, started}
use Rattle.tilt_store.proofs.Resuming.{cut_back, cut_same, cuts_same, has_commit, opens_same, settled}
use Rattle.tilt_store.proofs.opening.resume.Goals as goal

pub returns-clause-any_moment : goal.returns-clause-any_moment
returns-clause-any_moment g c told =
    let old = c.args.folder.now in
    let seen = g.F.Folder.seen old in
    let only = c.requires.only told in
    let P = OpensSame c.args.initial.now seen in
    let within : c.in-Some.end ≤ length seen.output = omega (arith, c.if-end-size.false, c.requires.counted told) in
    let there = has_commit seen c.args.bytes.now c.in-Some.rest.now c.in-Some.end c.args.size (c.requires.read told) c.requires.some c.in-Some.ensures (c.requires.counted told)
    (omega (arith, c.if-end-size.false)) in
    let at_start = started g.F.Folder.moment g.F.Folder.left_since old P (λ k left. opens_same _ seen k (only k (g.met.F.Folder.only_now old k left))) in
    let same = cuts_same c.args.initial.now c.in-Some.rest.now c.in-Some.end seen _ _ within there only (c.cut.ensures.crash told) in
    let is_cut = goes_on g.F.Folder.moment g.F.Folder.left_since old old c.cut.new.self P _ at_start (c.cut.ensures.time told) same in
    goes_on g.F.Folder.moment g.F.Folder.left_since old c.cut.new.self c.sync.new.self P _ is_cut (c.sync.ensures.time told)
    (λ k left. ⊎_elim (same k) (λ is. cut_same c.args.initial.now c.in-Some.rest.now c.in-Some.end seen k within there (is ∙ c.in_ok-cut.ensures.cut told)) (c.sync.ensures.crash told k left))

pub returns-clause-reopened : goal.returns-clause-reopened
returns-clause-reopened g c told =
    let seen = g.F.Folder.seen c.args.folder.now in
    let within : c.in-Some.end ≤ length seen.output = omega (arith, c.if-end-size.false, c.requires.counted told) in
    let there = has_commit seen c.args.bytes.now c.in-Some.rest.now c.in-Some.end c.args.size (c.requires.read told) c.requires.some c.in-Some.ensures (c.requires.counted told)
    (omega (arith, c.if-end-size.false)) in
    let copied : c.in_ok-state.state.items ≡ c.in-Some.rest.now = search rules in
    cut_back c.args.initial.now c.in-Some.rest.now _ c.in-Some.end seen _ within there copied (c.sync.ensures.same told ∙ c.in_ok-cut.ensures.cut told)

pub returns-clause-settled : goal.returns-clause-settled
returns-clause-settled g c told = settled _ _ _ (returns-clause-reopened g c told).committed (c.in_ok-sync.ensures.durable told)
