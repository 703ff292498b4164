use Rattle.std.proofs.Common.{◌≡◌, ◌∙◌, ◌<◌, ◌^◌, ℕ, List, length, sym, ap, arith}
use Rattle.std.proofs.lemmas.Option.{same_Some}
use Rattle.std.proofs.lemmas.Result.{err_from_is_err_and}
use Rattle.tilt_core.specs.Core.{CoreParts}
use Rattle.tilt_types.specs.Checked.{core_of}
use Rattle.tilt_live_state.proofs.Decoding.{state-again}
use Rattle.tilt_live_state.proofs.Steps.{only_memory}
use Rattle.tilt_live_state.specs.Reading.{run_at}
use Rattle.tilt_live_state.specs.Spelling.{run_lines}
use Rattle.tilt_live_state.proofs.decoder.read.Goals as goal

pub returns-in_err-asked-clause-only : goal.returns-in_err-asked-clause-only
returns-in_err-asked-clause-only c =
    λ s is range e.
    let p = err_from_is_err_and c.from_residual.result c.from_residual.ensures.1 in
    rw p.1 (p.2 ∙ c.in_err-asked.ensures.only s.query (run_lines s.progress s.inputs) is.query (c.new-reader.ensures ∙ e))

pub returns-in_err-run-clause-only : goal.returns-in_err-run-clause-only
returns-in_err-run-clause-only c =
    λ s is range e.
    let p = err_from_is_err_and c.from_residual-in_err-run.result c.from_residual-in_err-run.ensures.1 in
    let was = c.in_ok-asked.ensures in
    let lines = run_lines s.progress s.inputs in
    let found = was.only s.query lines is.query (c.new-reader.ensures ∙ e) in
    let core : c.in_ok-asked.asked.core ≡ core_of s.query = was.core ∙ ap core_of found.0 in
    let small : length c.args.bytes.now < 2 ^ 63 = omega arith in
    let same : run_at (length c.in_ok-asked.asked.core.inputs) c.read_query.new.reader ≡ run_at (length (core_of s.query).inputs) lines =
    λ i. run_at (length ((core i).inputs)) (found.1 i) in
    rw p.1 (p.2 ∙ only_memory c.in_err-run.field-0.0 _ (s.progress, s.inputs) c.in_err-run.ensures (same ∙ state-again s c.args.bytes.now is range e small))

pub returns-clause-only : goal.returns-clause-only
returns-clause-only c =
    λ s is range e.
    let was = c.in_ok-asked.ensures in
    let lines = run_lines s.progress s.inputs in
    let found = was.only s.query lines is.query (c.new-reader.ensures ∙ e) in
    let core : c.in_ok-asked.asked.core ≡ core_of s.query = was.core ∙ ap core_of found.0 in
    let small : length c.args.bytes.now < 2 ^ 63 = omega arith in
    let same : run_at (length c.in_ok-asked.asked.core.inputs) c.read_query.new.reader ≡ run_at (length (core_of s.query).inputs) lines =
    λ i. run_at (length ((core i).inputs)) (found.1 i) in
    let both = same_Some (c.in_ok-run.run'.0, c.in_ok-run.run'.1.items) (s.progress, s.inputs)
    (sym c.in_ok-run.ensures ∙ same ∙ state-again s c.args.bytes.now is range e small) in
    c.whole.ensures ∙ (λ i. record { query = found.0 i; progress = (both i).0; inputs = (both i).1 })
