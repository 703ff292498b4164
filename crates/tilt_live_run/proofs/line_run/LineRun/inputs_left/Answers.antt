use Rattle.std.proofs.Common.{◌≡◌, ◌∙◌, ℤ, List, [], IfOk, ap, of_z, rules, subst, sym, to_z, w64, false, true}
use Rattle.tilt_input_state.specs.Resume.{first_read}
use Rattle.tilt_live_run.proofs.Leaving.{joined-ended, joined-open}
use Rattle.tilt_live_run.proofs.Upto.{tick-shown}
use Rattle.tilt_live_run.specs.Joined.{joined}
use Rattle.tilt_live_run.specs.KeptRows.{KeepsRows}
use Rattle.tilt_live_state.specs.State.{InputParts}
use Rattle.tilt_watermarks.specs.Steps.{Kept}
use Rattle.tilt_live_run.proofs.line_run.LineRun.inputs_left.Goals as goal

pub returns-then-kept : goal.returns-then-kept
returns-then-kept c = λ accepted feed lateness is keeps belongs.
    let kept = c.args.kept.now in
    let end : feed.finished ≡ true = sym belongs.finished ∙ sym (ap (λ (k : Kept). k.finished) c.kept.view_is) ∙ c.if-kept.true in
    let waiting = c.deref.ensures.value ∙ ap (λ (k : Kept). k.inputs) c.kept.view_is in
    let made = ap (joined 0 []) waiting ∙ joined-ended accepted.core feed 0 feed.inputs kept.inputs end belongs.edges in
    subst (λ (list : List InputParts). IfOk c.join_inputs.result (λ inputs. inputs.items ≡ list)) made c.join_inputs.ensures

pub returns : goal.returns
returns c = λ accepted feed lateness is keeps belongs.
    let core = accepted.core in
    let kept = c.args.kept.now in
    let going : feed.finished ≡ false = sym belongs.finished ∙ sym (ap (λ (k : Kept). k.finished) c.kept.view_is) ∙ c.if-kept.false in
    let waiting = c.deref-3.ensures.value ∙ ap (λ (k : Kept). k.inputs) c.kept.view_is in
    let same : to_z w64 (of_z w64 c.first_read.result) ≡ c.first_read.result = search rules in
    let first = same ∙ c.first_read.ensures.all accepted feed is in
    let here = subst (λ (t : ℤ). KeepsRows c.args.self.now.rows (first_read core t) feed) (tick-shown c.args.self.now.live accepted feed is) keeps in
    let known = c.deref-2.ensures.value ∙ (rw first at c.in_ok-known.ensures) feed going here in
    let made = (λ k. joined 0 (known k) (waiting k)) ∙ joined-open core feed feed.inputs kept.inputs going belongs.edges in
    subst (λ (list : List InputParts). IfOk c.join_inputs-2.result (λ inputs. inputs.items ≡ list)) made c.join_inputs-2.ensures
