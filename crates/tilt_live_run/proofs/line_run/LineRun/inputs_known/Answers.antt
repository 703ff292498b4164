use Rattle.std.proofs.Common.{◌≡◌, ◌∙◌, ℤ, List, IfOk, ap, map, of_z, rules, subst, to_z, w64}
use Rattle.tilt_input_state.specs.Resume.{first_read}
use Rattle.tilt_live_run.proofs.Leaving.{bare-open}
use Rattle.tilt_live_run.proofs.Upto.{tick-shown}
use Rattle.tilt_live_run.specs.Joined.{bare}
use Rattle.tilt_live_run.specs.KeptRows.{KeepsRows}
use Rattle.tilt_live_state.specs.State.{InputParts}
use Rattle.tilt_live_run.proofs.line_run.LineRun.inputs_known.Goals as goal

pub returns : goal.returns
returns c = λ accepted feed is keeps going.
    let core = accepted.core in
    let same : to_z w64 (of_z w64 c.first_read.result) ≡ c.first_read.result = search rules in
    let first = same ∙ c.first_read.ensures.all accepted feed is in
    let here = subst (λ (t : ℤ). KeepsRows c.args.self.now.rows (first_read core t) feed) (tick-shown c.args.self.now.live accepted feed is) keeps in
    let known = c.deref.ensures.value ∙ (rw first at c.in_ok-known.ensures) feed going here in
    let made = ap (map bare) known ∙ bare-open core feed feed.inputs going in
    subst (λ (list : List InputParts). IfOk c.bare_inputs.result (λ inputs. inputs.items ≡ list)) made c.bare_inputs.ensures
