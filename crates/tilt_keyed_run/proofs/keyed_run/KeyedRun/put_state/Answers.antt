use Rattle.std.proofs.Common.{◌≡◌, ◌++◌, ◌∙◌, List, ℕ, flat_map, map, ap}
use Rattle.tilt_keyed_run.proofs.Outcomes.{ok-into}
use Rattle.tilt_keyed_run.proofs.Puttings.{put_whole}
use Rattle.tilt_keyed_run.specs.Runs.{AreKeysOf}
use Rattle.tilt_keyed_run.specs.States.{key_state, kept_line}
use Rattle.tilt_keyed_state.specs.Spelling.{key_text, last_line, opening}
use Rattle.tilt_keyed_run.proofs.keyed_run.KeyedRun.put_state.Goals as goal

pub returns-clause-state : goal.returns-clause-state
returns-clause-state g c = λ feed is.
    let state = g.R.KeptRun.state c.args.recipe.now in
    let first = c.put_line.new.text.items in
    let keys = c.put_keys.new.text.items in
    let states = flat_map key_text (map (key_state state) feed.keys) in
    let are : AreKeysOf g.R.KeyRun.is c.deref_mut.result.now c.args.recipe.now feed.keys = rw c.deref_mut.ensures.value is.keys_are in
    let opened : first ≡ c.args.text.now.items ++ opening (kept_line feed.shared) =
    c.in_ok-put_line.ensures ∙ ap (λ (ls : List (List ℕ)). c.args.text.now.items ++ opening (kept_line ls)) is.shared_is in
    let written : keys ≡ first ++ states = c.in_ok-put_keys.ensures.text feed.keys are in
    ok-into c.put_end.result _ _ (λ closed. put_whole c.args.text.now.items first keys c.put_end.new.text.items (opening (kept_line feed.shared)) states last_line
    opened written closed) c.put_end.ensures
