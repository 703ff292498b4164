use Rattle.std.proofs.Common.{◌≡◌, ◌++◌, ℕ, List, OnOk, ap, append_assoc, subst, ◌∙◌}
use Rattle.tilt_run_state.specs.Setup.{setup_lines}
use Rattle.tilt_run_state.specs.Spelling.{readings_line}
use Rattle.tilt_run_state.proofs.encoder.put_readings_opening.Goals as goal

pub returns : goal.returns
returns c =
    let lines = setup_lines c.args.setup.now in
    let whole = ap (λ (front : List ℕ). front ++ lines) c.in_ok-put.ensures ∙ append_assoc c.args.text.now.items readings_line lines in
    subst (λ (bytes : List ℕ). OnOk c.put_setup.result (c.put_setup.new.text.items ≡ bytes)) whole c.put_setup.ensures
