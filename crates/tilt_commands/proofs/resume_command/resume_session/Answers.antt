use Rattle.std.proofs.Common.{◌≡◌, ◌∙◌, length, List, ℕ, ap, refl, subst, sym}
use Rattle.std.proofs.lemmas.Result.{err_from_is_err_and}
use Rattle.tilt_session.specs.Cuts.{IsInRange}
use Rattle.tilt_session.specs.declared.cut.Cut.{Cut}
use Rattle.tilt_core.specs.Core.{CoreParts}
use Rattle.tilt_load.proofs.FileCommands.{file_undone, not_done}
use Rattle.tilt_load.specs.Does.{reading}
use Rattle.tilt_load.specs.FileCommand.{own_turn, done}
use Rattle.tilt_outside.proofs.MoreReads.{reads-then}
use Rattle.tilt_printed.specs.Answer.{save_of}
use Rattle.tilt_report.specs.Report.{bad_checkpoint, out_of_memory, refusal, report_of}
use Rattle.tilt_commands.proofs.Beyond.{goes_beyond, never_bad_report}
use Rattle.tilt_commands.proofs.Handed.{AreCounted, later_handed}
use Rattle.tilt_commands.proofs.Resumed.{fits_saved, given_counted, is_resumed, onward_counted, resume_bytes, resume_read, resume_turn, resume_undone}
use Rattle.tilt_commands.specs.Resume.{end_after, inputs_of, later_bounds, resume_row}
use Rattle.tilt_commands.specs.RowBounds.{all_after}
use Rattle.tilt_load.specs.SeriesFiles.{bounds_in}
use Rattle.tilt_commands.specs.SavedCut.{ending_of}
use Rattle.tilt_cli.specs.Binding.{bindings_of}
use Rattle.tilt_commands.proofs.resume_command.resume_session.Goals as goal

-- running out of memory isn't reported as a rejected checkpoint
memory_is_no_reason : out_of_memory ≡ refusal bad_checkpoint → ⊥
memory_is_no_reason same = cc same

pub load_onward-requires-clause-lent : goal.load_onward-requires-clause-lent
load_onward-requires-clause-lent g c = c.requires.lent c.args.checkpoint.now own_turn

pub returns-in_err-onward-clause-does : goal.returns-in_err-onward-clause-does
returns-in_err-onward-clause-does g c =
    let p = err_from_is_err_and c.from_residual.result c.from_residual.ensures.1 in
    let shelf = reading g.S.Shelf.tells g.S.Shelf.files g.S.Shelf.read_faults g.S.Shelf.save_faults g.S.Shelf.takes g.S.Shelf.given c.args.shelf.now c.load_onward.new.shelf in
    let fault = c.in_err-onward.field-0.0 in
    rw (p.1, p.2) (not_done fault (λ beside. file_undone (resume_row (ending_of c.args.ending) c.args.checkpoint.now) c.args.checkpoint.now (bindings_of c.args.binds.now) shelf
    (report_of fault) c.in_err-onward.ensures.fault) c.load_onward.ensures.rest)

pub returns-in_err-onward-clause-good : goal.returns-in_err-onward-clause-good
returns-in_err-onward-clause-good g c =
    let p = err_from_is_err_and c.from_residual.result c.from_residual.ensures.1 in
    let shelf = reading g.S.Shelf.tells g.S.Shelf.files g.S.Shelf.read_faults g.S.Shelf.save_faults g.S.Shelf.takes g.S.Shelf.given c.args.shelf.now c.load_onward.new.shelf in
    let fault = c.in_err-onward.field-0.0 in
    let undone = file_undone (resume_row (ending_of c.args.ending) c.args.checkpoint.now) c.args.checkpoint.now (bindings_of c.args.binds.now) shelf
    (report_of fault) c.in_err-onward.ensures.fault in
    λ told. rw (p.1, p.2) (λ q rows old hands. never_bad_report (g.S.Shelf.files c.args.shelf.now) c.args.checkpoint.now (bindings_of c.args.binds.now) (ending_of c.args.ending) q rows old hands
    shelf refl told (report_of fault) undone)

pub load_session_inputs-requires : goal.load_session_inputs-requires
load_session_inputs-requires g c =
    λ name turn.
    let ending = ending_of c.args.ending in
    let c0 = c.in_ok-onward.onward.loaded.checkpoint in
    let binds = bindings_of c.args.binds.now in
    let now = g.S.Shelf.files c.load_onward.new.shelf in
    let file = g.S.Shelf.files c.args.shelf.now c.args.checkpoint.now in
    let shelf = reading g.S.Shelf.tells g.S.Shelf.files g.S.Shelf.read_faults g.S.Shelf.save_faults g.S.Shelf.takes g.S.Shelf.given c.args.shelf.now c.load_onward.new.shelf in
    let names = c.inputs-inputs.ensures.names ∙ ap (λ (k : CoreParts). k.inputs) (c.core.ensures.value ∙ c.in_ok-onward.ensures.core) in
    let ends = c.in_ok-onward.ensures.cut in
    let bounds = ap bounds_in (c.deref.ensures.value ∙ c.in_ok-bounds.ensures.bounds ∙ ap (all_after c.in_ok-onward.onward.cut) c.series.ensures.value) ∙ ap (λ (k : Cut). later_bounds k c0) ends in
    let goes = c.in_ok-onward.ensures.taken in
    c.requires.lent name (resume_turn ending c0 now c.args.checkpoint.now binds _ _ shelf c.load_onward.ensures.rest.same_files bounds names goes name turn)

pub returns-in_err-bounds-clause-good : goal.returns-in_err-bounds-clause-good
returns-in_err-bounds-clause-good g c =
    let p = err_from_is_err_and c.from_residual-in_err-bounds.result c.from_residual-in_err-bounds.ensures.1 in
    λ told. rw (p.1, p.2) (λ q rows old hands same. memory_is_no_reason same)

pub returns-in_err-rows-clause-does : goal.returns-in_err-rows-clause-does
returns-in_err-rows-clause-does g c =
    let p = err_from_is_err_and c.from_residual-in_err-rows.result c.from_residual-in_err-rows.ensures.1 in
    let ending = ending_of c.args.ending in
    let c0 = c.in_ok-onward.onward.loaded.checkpoint in
    let binds = bindings_of c.args.binds.now in
    let now = g.S.Shelf.files c.load_onward.new.shelf in
    let file = g.S.Shelf.files c.args.shelf.now c.args.checkpoint.now in
    let shelf = reading g.S.Shelf.tells g.S.Shelf.files g.S.Shelf.read_faults g.S.Shelf.save_faults g.S.Shelf.takes g.S.Shelf.given c.args.shelf.now c.load_session_inputs.new.shelf in
    let names = c.inputs-inputs.ensures.names ∙ ap (λ (k : CoreParts). k.inputs) (c.core.ensures.value ∙ c.in_ok-onward.ensures.core) in
    let ends = c.in_ok-onward.ensures.cut in
    let bounds = ap bounds_in (c.deref.ensures.value ∙ c.in_ok-bounds.ensures.bounds ∙ ap (all_after c.in_ok-onward.onward.cut) c.series.ensures.value) ∙ ap (λ (k : Cut). later_bounds k c0) ends in
    let goes = c.in_ok-onward.ensures.taken in
    let fault = c.in_err-rows.field-0.0 in
    rw (p.1, p.2) (not_done fault (λ beside. resume_undone ending c0 now c.args.checkpoint.now binds _ _ shelf c.load_onward.ensures.rest.same_files bounds names goes
    (g.S.Shelf.read_faults c.load_onward.new.shelf) c.load_onward.ensures.rest.no_fewer_read_faults (report_of fault) c.in_err-rows.ensures.fault)
    (reads-then c.load_onward.ensures.rest c.load_session_inputs.ensures.rest))

pub returns-in_err-rows-clause-good : goal.returns-in_err-rows-clause-good
returns-in_err-rows-clause-good g c =
    let p = err_from_is_err_and c.from_residual-in_err-rows.result c.from_residual-in_err-rows.ensures.1 in
    let ending = ending_of c.args.ending in
    let c0 = c.in_ok-onward.onward.loaded.checkpoint in
    let binds = bindings_of c.args.binds.now in
    let now = g.S.Shelf.files c.load_onward.new.shelf in
    let file = g.S.Shelf.files c.args.shelf.now c.args.checkpoint.now in
    let shelf = reading g.S.Shelf.tells g.S.Shelf.files g.S.Shelf.read_faults g.S.Shelf.save_faults g.S.Shelf.takes g.S.Shelf.given c.args.shelf.now c.load_session_inputs.new.shelf in
    let names = c.inputs-inputs.ensures.names ∙ ap (λ (k : CoreParts). k.inputs) (c.core.ensures.value ∙ c.in_ok-onward.ensures.core) in
    let ends = c.in_ok-onward.ensures.cut in
    let bounds = ap bounds_in (c.deref.ensures.value ∙ c.in_ok-bounds.ensures.bounds ∙ ap (all_after c.in_ok-onward.onward.cut) c.series.ensures.value) ∙ ap (λ (k : Cut). later_bounds k c0) ends in
    let goes = c.in_ok-onward.ensures.taken in
    let fault = c.in_err-rows.field-0.0 in
    let undone = resume_undone ending c0 now c.args.checkpoint.now binds _ _ shelf c.load_onward.ensures.rest.same_files bounds names goes
    (g.S.Shelf.read_faults c.load_onward.new.shelf) c.load_onward.ensures.rest.no_fewer_read_faults (report_of fault) c.in_err-rows.ensures.fault in
    λ told. rw (p.1, p.2) (λ q rows old hands. never_bad_report (g.S.Shelf.files c.args.shelf.now) c.args.checkpoint.now binds ending q rows old hands shelf refl told (report_of fault) undone)

pub resume-requires-clause-rows : goal.resume-requires-clause-rows
resume-requires-clause-rows g c =
    let ending = ending_of c.args.ending in
    let c0 = c.in_ok-onward.onward.loaded.checkpoint in
    let binds = bindings_of c.args.binds.now in
    let now = g.S.Shelf.files c.load_onward.new.shelf in
    let file = g.S.Shelf.files c.args.shelf.now c.args.checkpoint.now in
    let shelf = reading g.S.Shelf.tells g.S.Shelf.files g.S.Shelf.read_faults g.S.Shelf.save_faults g.S.Shelf.takes g.S.Shelf.given c.args.shelf.now c.load_session_inputs.new.shelf in
    let names = c.inputs-inputs.ensures.names ∙ ap (λ (k : CoreParts). k.inputs) (c.core.ensures.value ∙ c.in_ok-onward.ensures.core) in
    let ends = c.in_ok-onward.ensures.cut in
    let bounds = ap bounds_in (c.deref.ensures.value ∙ c.in_ok-bounds.ensures.bounds ∙ ap (all_after c.in_ok-onward.onward.cut) c.series.ensures.value) ∙ ap (λ (k : Cut). later_bounds k c0) ends in
    let goes = c.in_ok-onward.ensures.taken in
    let many = c.in_ok-rows.ensures.many ∙ ap (λ (ns : List (List ℕ)). length ns) names ∙ sym c.in_ok-onward.ensures.valid.counted in
    let each : AreCounted (end_after ending c0) c.in_ok-rows.rows.items = λ cuts same. given_counted ending (inputs_of c0) cuts same ∙ sym (c.in_ok-rows.ensures.many ∙ ap (λ (ns : List
    (List ℕ)). length ns) names) in
    rw ends (later_handed (end_after ending c0) c0.series c.in_ok-rows.rows.items many each (rw bounds at c.in_ok-rows.ensures.within))

pub resume-requires-clause-range : goal.resume-requires-clause-range
resume-requires-clause-range g c = c.in_ok-bounds.ensures.range

pub returns-clause-does : goal.returns-clause-does
returns-clause-does g c =
    let ending = ending_of c.args.ending in
    let c0 = c.in_ok-onward.onward.loaded.checkpoint in
    let binds = bindings_of c.args.binds.now in
    let now = g.S.Shelf.files c.load_onward.new.shelf in
    let file = g.S.Shelf.files c.args.shelf.now c.args.checkpoint.now in
    let shelf = reading g.S.Shelf.tells g.S.Shelf.files g.S.Shelf.read_faults g.S.Shelf.save_faults g.S.Shelf.takes g.S.Shelf.given c.args.shelf.now c.load_session_inputs.new.shelf in
    let names = c.inputs-inputs.ensures.names ∙ ap (λ (k : CoreParts). k.inputs) (c.core.ensures.value ∙ c.in_ok-onward.ensures.core) in
    let ends = c.in_ok-onward.ensures.cut in
    let bounds = ap bounds_in (c.deref.ensures.value ∙ c.in_ok-bounds.ensures.bounds ∙ ap (all_after c.in_ok-onward.onward.cut) c.series.ensures.value) ∙ ap (λ (k : Cut). later_bounds k c0) ends in
    let goes = c.in_ok-onward.ensures.taken in
    let rows = c.in_ok-rows.rows.items in
    let printed = rw ends at c.in_ok-list.ensures.newly in
    let left = rw ends at c.in_ok-list.ensures.next in
    let is = is_resumed ending c0 rows c.in_ok-list.list c.in_ok-list.next (save_of c.in_ok-save.save) printed left c.in_ok-save.ensures in
    record {
      made = λ told beside. done c0 rows (goes told) (resume_read ending c0 now c.args.checkpoint.now binds _ _ shelf c.load_onward.ensures.rest.same_files bounds names rows
          (c.in_ok-rows.ensures.taken told)) is;
      kept = record {
        fresh = tt;
        streamed = (λ h. h, λ h. h);
        shown = (λ h. cc h, λ h. absurd h);
        saved = fits_saved ending c0 rows c.in_ok-list.next c.in_ok-save.save left c.in_ok-save.ensures;
      };
      fault = λ beside. tt;
      read = λ told beside. resume_bytes ending c0 now c.args.checkpoint.now binds _ _ shelf c.load_onward.ensures.rest.same_files bounds names goes told
          (g.S.Shelf.given c.load_onward.new.shelf) (c.in_ok-onward.ensures.given told) (c.in_ok-rows.ensures.given told);
      rest = reads-then c.load_onward.ensures.rest c.load_session_inputs.ensures.rest;
    }

pub returns-clause-beyond : goal.returns-clause-beyond
returns-clause-beyond g c =
    λ told beside q old_rows old hands.
    let ending = ending_of c.args.ending in
    let c0 = c.in_ok-onward.onward.loaded.checkpoint in
    let binds = bindings_of c.args.binds.now in
    let now = g.S.Shelf.files c.load_onward.new.shelf in
    let file = g.S.Shelf.files c.args.shelf.now c.args.checkpoint.now in
    let shelf = reading g.S.Shelf.tells g.S.Shelf.files g.S.Shelf.read_faults g.S.Shelf.save_faults g.S.Shelf.takes g.S.Shelf.given c.args.shelf.now c.load_session_inputs.new.shelf in
    let names = c.inputs-inputs.ensures.names ∙ ap (λ (k : CoreParts). k.inputs) (c.core.ensures.value ∙ c.in_ok-onward.ensures.core) in
    let ends = c.in_ok-onward.ensures.cut in
    let bounds = ap bounds_in (c.deref.ensures.value ∙ c.in_ok-bounds.ensures.bounds ∙ ap (all_after c.in_ok-onward.onward.cut) c.series.ensures.value) ∙ ap (λ (k : Cut). later_bounds k c0) ends in
    let goes = c.in_ok-onward.ensures.taken in
    let rows = c.in_ok-rows.rows.items in
    let printed = rw ends at c.in_ok-list.ensures.newly in
    let left = rw ends at c.in_ok-list.ensures.next in
    let is = is_resumed ending c0 rows c.in_ok-list.list c.in_ok-list.next (save_of c.in_ok-save.save) printed left c.in_ok-save.ensures in
    goes_beyond (g.S.Shelf.files c.args.shelf.now) c.args.checkpoint.now binds ending q old_rows old hands c0 rows _ (subst IsInRange ends c.in_ok-bounds.ensures.range) (goes told)
    (resume_read ending c0 now c.args.checkpoint.now binds _ _ shelf c.load_onward.ensures.rest.same_files bounds names rows (c.in_ok-rows.ensures.taken told))
    (rw ends at c.in_ok-list.ensures.law) is

pub later_bounds-requires : goal.later_bounds-requires
later_bounds-requires g c =
    λ cuts is. rw c.series.ensures.value (onward_counted c.in_ok-onward.onward.loaded.checkpoint c.in_ok-onward.onward.cut c.in_ok-onward.ensures.onward cuts is)
