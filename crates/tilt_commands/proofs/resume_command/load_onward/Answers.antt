use Rattle.std.proofs.Common.{◌≡◌, ◌∙◌, FitsSigned, ap, length, rules, subst, sym}
use Rattle.std.specs.Prelude.{⊤}
use Rattle.std.proofs.lemmas.Int.{to_z-of_z}
use Rattle.std.specs.Int.{w64}
use Rattle.std.proofs.lemmas.Result.{err_from_is_err_and}
use Rattle.tilt_checkpoint.specs.Checkpoint.{cuts_of}
use Rattle.tilt_session.specs.Cuts.{IsOnward}
use Rattle.tilt_core.specs.Core.{CoreParts}
use Rattle.tilt_load.specs.CheckpointFile.{RefusesCheckpoint}
use Rattle.tilt_load.proofs.Loads.{load_fault_weaker}
use Rattle.tilt_report.specs.Report.{report_of}
use Rattle.tilt_commands.specs.Resume.{RefusesToGoOn, no_checkpoint}
use Rattle.tilt_commands.specs.SavedCut.{RefusesEnd, cut_of, ending_of}
use Rattle.tilt_commands.proofs.Resumed.{end_refused, given_counted, is_back}
use Rattle.tilt_commands.proofs.resume_command.load_onward.Goals as goal

pub returns-in_err-loaded-clause-fault : goal.returns-in_err-loaded-clause-fault
returns-in_err-loaded-clause-fault g c =
    let p = err_from_is_err_and c.from_residual.result c.from_residual.ensures.1 in
    let tells = g.S.Shelf.tells in
    let name = c.args.name.now in
    let file = g.S.Shelf.files c.args.shelf.now name in
    rw (p.1, p.2) (load_fault_weaker tells tells (RefusesCheckpoint name file) (RefusesToGoOn name (ending_of c.args.ending) file) (λ which. which ≡ name) (λ which. which ≡ name)
    _ _ _ _ (λ t. t) (λ why t is. no_checkpoint is) (λ which rose same. (rose, same)) (report_of c.in_err-loaded.field-0.0) c.in_err-loaded.ensures.fault)

pub returns-in_err-cut-clause-fault : goal.returns-in_err-cut-clause-fault
returns-in_err-cut-clause-fault g c =
    let p = err_from_is_err_and c.from_residual-in_err-cut.result c.from_residual-in_err-cut.ensures.1 in
    let name = c.args.name.now in
    let file = g.S.Shelf.files c.args.shelf.now name in
    let ending = ending_of c.args.ending in
    let names = c.inputs-inputs.ensures.names ∙ ap (λ (k : CoreParts). k.inputs) (c.core.ensures.value ∙ c.in_ok-loaded.ensures.core) in
    rw (p.1, p.2) (load_fault_weaker ⊤ g.S.Shelf.tells (RefusesEnd ending c.inputs-inputs.result.now) (RefusesToGoOn name ending file) (λ _. ⊥) (λ which. which ≡ name)
    0 0 _ _ (λ t. tt) (λ why t is. end_refused name file ending c.in_ok-loaded.loaded.checkpoint c.inputs-inputs.result.now why (c.in_ok-loaded.ensures.taken t) names is)
    (λ which rose never. absurd never) (report_of c.in_err-cut.field-0.0) c.in_err-cut.ensures.fault)

pub next_cut-requires : goal.next_cut-requires
next_cut-requires g c = λ cuts is.
    let names = c.inputs-inputs.ensures.names ∙ ap (λ (k : CoreParts). k.inputs) (c.core.ensures.value ∙ c.in_ok-loaded.ensures.core) in
    given_counted (ending_of c.args.ending) c.inputs-inputs.result.now cuts (sym c.in_ok-cut.ensures.cut ∙ is)
    ∙ ap (λ ns. length ns) names ∙ sym c.in_ok-loaded.ensures.valid.counted

pub returns-clause-fault : goal.returns-clause-fault
returns-clause-fault g c =
    λ told.
    let found = c.in-Err.back in
    let old : FitsSigned w64 found.old = search rules in
    let new : FitsSigned w64 found.new = search rules in
    let is = c.in-Err.ensures in
    let name = c.args.name.now in
    let names = c.inputs-inputs.ensures.names ∙ ap (λ (k : CoreParts). k.inputs) (c.core.ensures.value ∙ c.in_ok-loaded.ensures.core) in
    is_back name (g.S.Shelf.files c.args.shelf.now name) (ending_of c.args.ending) c.in_ok-loaded.loaded.checkpoint c.inputs-inputs.result.now c.in_ok-cut.cut is.0
    found.old found.new _ _ (c.in_ok-loaded.ensures.taken told) names c.in_ok-cut.ensures.named c.in_ok-cut.ensures.cut is.1 is.2
    (to_z-of_z w64 found.old old) (to_z-of_z w64 found.new new)

pub returns-in-Ok-clause-taken : goal.returns-in-Ok-clause-taken
returns-in-Ok-clause-taken g c =
    λ told.
    let ending = ending_of c.args.ending in
    let c0 = c.in_ok-loaded.loaded.checkpoint in
    let names = c.inputs-inputs.ensures.names ∙ ap (λ (k : CoreParts). k.inputs) (c.core.ensures.value ∙ c.in_ok-loaded.ensures.core) in
    record {
      taken = c.in_ok-loaded.ensures.taken told;
      named = rw names at c.in_ok-cut.ensures.named;
      onward = subst (IsOnward (cuts_of c0)) (c.in_ok-cut.ensures.cut ∙ ap (cut_of ending) names) c.in-Ok.ensures;
    }
