use Rattle.std.proofs.Common.{◌∙◌, ◌++◌, ap, List, ℕ, true, false, length, codes}
use Rattle.tilt_explain.specs.Explain.{input_lines, let_lines, loops_line}
use Rattle.tilt_fuse.specs.Plan.{plan_of}
use Rattle.tilt_explain.proofs.explaining.explain_text.Goals as goal

pub returns : goal.returns
returns c =
    let core = c.args.core.now in
    let margins = c.args.margins.now in
    let reach = rw c.new-text.ensures.items at c.in_ok-put_margins.ensures in
    let inputs = rw (c.needs.ensures.value, c.inputs.ensures.names) at c.in_ok-put_inputs.ensures in
    let lets = rw (c.needs-2.ensures.value, c.deref.ensures.value, c.in_ok-fused.ensures.plan) at c.in_ok-put_lets.ensures in
    let counts = rw (c.deref-2.ensures.value, c.in_ok-fused.ensures.plan, c.deref-3.ensures.value, c.in_ok-plain.ensures.plan) at c.in_ok-put_loops.ensures in
    record {
      text = counts ∙ ap (λ (t : List ℕ). t ++ loops_line (length (plan_of core true)) (length (plan_of core false))) (c.in_ok-put.ensures ∙ ap (λ (t : List ℕ). t ++ codes "emit loop 0 0\n") (lets
          ∙ ap (λ (t : List ℕ). t ++ let_lines (plan_of core true) margins.needs (length core.inputs) 0 core.names)
          (inputs ∙ ap (λ (t : List ℕ). t ++ input_lines margins.needs 0 core.inputs) reach)));
    }
