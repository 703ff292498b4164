use Rattle.std.proofs.Common.{◌++◌}
use Rattle.std.specs.Prelude.{codes}
use Rattle.tilt_checkpoint.specs.Spelling.{query_lines}
use Rattle.tilt_live_state.proofs.Appended.{appended_three, on_ok}
use Rattle.tilt_live_state.specs.Spelling.{run_lines}
use Rattle.tilt_live_state.proofs.encoder.put_state.Goals as goal

pub returns : goal.returns
returns c =
    on_ok c.put_run.result
    (λ last. appended_three c.args.text.now.items (codes "tilt live 1\n") (query_lines c.args.query.now)
    (run_lines c.args.progress c.args.inputs.now) c.put.new.text.items c.put_query.new.text.items c.put_run.new.text.items
    c.in_ok-put.ensures c.in_ok-put_query.ensures last) c.put_run.ensures
