use Rattle.std.proofs.Common.{◌≡◌, ◌∙◌, length, ap, refl, sym, subst}
use Rattle.std.proofs.lemmas.Result.{err_from_is_err_and}
use Rattle.std.specs.Prelude.{⊤}
use Rattle.tilt_checkpoint.specs.Cuts.{AreCuts, CutsParts}
use Rattle.tilt_core.specs.Core.{CoreParts}
use Rattle.tilt_load.proofs.FileCommands.{file_undone, not_done}
use Rattle.tilt_load.proofs.Loads.{load_fault_weaker}
use Rattle.tilt_load.specs.Does.{reading}
use Rattle.tilt_load.specs.FileCommand.{own_turn, done}
use Rattle.tilt_load.specs.InputCuts.{RefusesCuts}
use Rattle.tilt_load.specs.QueryFile.{RefusesQuery}
use Rattle.tilt_outside.proofs.MoreReads.{reads-then}
use Rattle.tilt_report.specs.Report.{report_of}
use Rattle.tilt_load.proofs.GivenCuts.{by_counted}
use Rattle.tilt_commands.proofs.Beyond.{first_hands_on}
use Rattle.tilt_commands.proofs.Handed.{first_handed}
use Rattle.tilt_commands.proofs.Started.{cuts_given, cuts_refused, starts_by, starts_from, is_started, start_read, start_turn, start_undone, start_bytes}
use Rattle.tilt_commands.specs.SavedCut.{saved_cut_of}
use Rattle.tilt_commands.specs.Start.{RefusesToStart, first_bounds, no_query, start_row}
use Rattle.tilt_load.specs.SeriesFiles.{bounds_in}
use Rattle.tilt_cli.specs.Binding.{bindings_of}
use Rattle.tilt_commands.proofs.start_command.start_session.Goals as goal

pub load_query-requires : goal.load_query-requires
load_query-requires g c = c.requires.lent c.args.query.now own_turn

pub returns-in_err-loaded-clause-does : goal.returns-in_err-loaded-clause-does
returns-in_err-loaded-clause-does g c =
    let p = err_from_is_err_and c.from_residual.result c.from_residual.ensures.1 in
    let shelf = reading g.S.Shelf.tells g.S.Shelf.files g.S.Shelf.read_faults g.S.Shelf.save_faults g.S.Shelf.takes g.S.Shelf.given c.args.shelf.now c.load_query.new.shelf in
    let fault = c.in_err-loaded.field-0.0 in
    let cut = saved_cut_of c.args.cut in
    let name = c.args.query.now in
    let bytes = g.S.Shelf.files c.args.shelf.now name in
    let refused = load_fault_weaker g.S.Shelf.tells g.S.Shelf.tells (RefusesQuery name bytes) (RefusesToStart name cut.upto bytes) (λ which. which ≡ name) (λ which. which ≡ name)
    _ _ _ _ (λ t. t) (λ why t is. no_query is) (λ which rose same. (rose, same)) (report_of fault) c.in_err-loaded.ensures.fault in
    rw (p.1, p.2) (not_done fault (λ beside. file_undone (start_row cut name) name (bindings_of c.args.binds.now) shelf (report_of fault) refused) c.load_query.ensures.rest)

pub returns-in_err-cuts-clause-does : goal.returns-in_err-cuts-clause-does
returns-in_err-cuts-clause-does g c =
    let p = err_from_is_err_and c.from_residual-in_err-cuts.result c.from_residual-in_err-cuts.ensures.1 in
    let cut = saved_cut_of c.args.cut in
    let q = c.in_ok-loaded.loaded.query in
    let core = c.in_ok-loaded.loaded.accepted.core in
    let accepted = c.in_ok-loaded.ensures.accepted in
    let name = c.args.query.now in
    let bytes = g.S.Shelf.files c.args.shelf.now name in
    let shelf = reading g.S.Shelf.tells g.S.Shelf.files g.S.Shelf.read_faults g.S.Shelf.save_faults g.S.Shelf.takes g.S.Shelf.given c.args.shelf.now c.load_query.new.shelf in
    let names = c.inputs-inputs.ensures.names ∙ ap (λ (k : CoreParts). k.inputs) c.core.ensures.value in
    let fault = c.in_err-cuts.field-0.0 in
    let refused = load_fault_weaker ⊤ g.S.Shelf.tells (RefusesCuts c.inputs-inputs.result.now cut.upto) (RefusesToStart name cut.upto bytes) (λ _. ⊥) (λ which. which ≡ name)
    0 0 _ _ (λ t. tt) (λ why t is. cuts_refused q core accepted cut.upto name bytes c.inputs-inputs.result.now why names
    (starts_from q core accepted bytes (c.in_ok-loaded.ensures.query t) (c.in_ok-loaded.ensures.taken t)) is)
    (λ which rose never. absurd never) (report_of fault) c.in_err-cuts.ensures.fault in
    rw (p.1, p.2) (not_done fault (λ beside. file_undone (start_row cut name) name (bindings_of c.args.binds.now) shelf (report_of fault) refused) c.load_query.ensures.rest)

pub load_session_inputs-requires : goal.load_session_inputs-requires
load_session_inputs-requires g c =
    λ name turn.
    let cut = saved_cut_of c.args.cut in
    let q = c.in_ok-loaded.loaded.query in
    let core = c.in_ok-loaded.loaded.accepted.core in
    let accepted = c.in_ok-loaded.ensures.accepted in
    let binds = bindings_of c.args.binds.now in
    let now = g.S.Shelf.files c.load_query.new.shelf in
    let file = g.S.Shelf.files c.args.shelf.now c.args.query.now in
    let shelf = reading g.S.Shelf.tells g.S.Shelf.files g.S.Shelf.read_faults g.S.Shelf.save_faults g.S.Shelf.takes g.S.Shelf.given c.args.shelf.now c.load_query.new.shelf in
    let names = c.inputs-inputs.ensures.names ∙ ap (λ (k : CoreParts). k.inputs) c.core.ensures.value in
    let given = cuts_given q core accepted cut c.in_ok-cuts.cuts c.inputs-inputs.result.now names c.in_ok-cuts.ensures.cuts in
    let upto = ap bounds_in (c.deref.ensures.value ∙ c.in_ok-bounds.ensures.bounds) ∙ ap (λ (k : CutsParts). first_bounds k.each) given in
    let starts = λ (told : g.S.Shelf.tells). starts_by q core accepted cut.upto file c.inputs-inputs.result.now names
    (starts_from q core accepted file (c.in_ok-loaded.ensures.query told) (c.in_ok-loaded.ensures.taken told)) c.in_ok-cuts.ensures.named in
    c.requires.lent name (start_turn q core accepted cut now c.args.query.now binds _ _ shelf c.load_query.ensures.rest.same_files upto names starts name turn)

pub returns-in_err-rows-clause-does : goal.returns-in_err-rows-clause-does
returns-in_err-rows-clause-does g c =
    let p = err_from_is_err_and c.from_residual-in_err-rows.result c.from_residual-in_err-rows.ensures.1 in
    let cut = saved_cut_of c.args.cut in
    let q = c.in_ok-loaded.loaded.query in
    let core = c.in_ok-loaded.loaded.accepted.core in
    let accepted = c.in_ok-loaded.ensures.accepted in
    let binds = bindings_of c.args.binds.now in
    let now = g.S.Shelf.files c.load_query.new.shelf in
    let file = g.S.Shelf.files c.args.shelf.now c.args.query.now in
    let shelf = reading g.S.Shelf.tells g.S.Shelf.files g.S.Shelf.read_faults g.S.Shelf.save_faults g.S.Shelf.takes g.S.Shelf.given c.args.shelf.now c.load_session_inputs.new.shelf in
    let names = c.inputs-inputs.ensures.names ∙ ap (λ (k : CoreParts). k.inputs) c.core.ensures.value in
    let given = cuts_given q core accepted cut c.in_ok-cuts.cuts c.inputs-inputs.result.now names c.in_ok-cuts.ensures.cuts in
    let upto = ap bounds_in (c.deref.ensures.value ∙ c.in_ok-bounds.ensures.bounds) ∙ ap (λ (k : CutsParts). first_bounds k.each) given in
    let starts = λ (told : g.S.Shelf.tells). starts_by q core accepted cut.upto file c.inputs-inputs.result.now names
    (starts_from q core accepted file (c.in_ok-loaded.ensures.query told) (c.in_ok-loaded.ensures.taken told)) c.in_ok-cuts.ensures.named in
    let fault = c.in_err-rows.field-0.0 in
    rw (p.1, p.2) (not_done fault (λ beside. start_undone q core accepted cut now c.args.query.now binds _ _ shelf c.load_query.ensures.rest.same_files upto names starts
    (g.S.Shelf.read_faults c.load_query.new.shelf) c.load_query.ensures.rest.no_fewer_read_faults (report_of fault) c.in_err-rows.ensures.fault)
    (reads-then c.load_query.ensures.rest c.load_session_inputs.ensures.rest))

pub first_session-requires-clause-rows : goal.first_session-requires-clause-rows
first_session-requires-clause-rows g c =
    let cut = saved_cut_of c.args.cut in
    let names = c.inputs-inputs.ensures.names ∙ ap (λ (k : CoreParts). k.inputs) c.core.ensures.value in
    let counted = ap (λ (k : CutsParts). length k.each) c.in_ok-cuts.ensures.cuts ∙ by_counted cut.upto c.inputs-inputs.result.now ∙ sym c.in_ok-rows.ensures.many in
    first_handed c.in_ok-loaded.loaded.accepted.core c.in_ok-cuts.cuts c.in_ok-rows.rows.items (rw names at c.in_ok-rows.ensures.many) counted
    (rw (c.deref.ensures.value, c.in_ok-bounds.ensures.bounds) at c.in_ok-rows.ensures.within)

pub returns-clause-does : goal.returns-clause-does
returns-clause-does g c =
    let cut = saved_cut_of c.args.cut in
    let q = c.in_ok-loaded.loaded.query in
    let core = c.in_ok-loaded.loaded.accepted.core in
    let accepted = c.in_ok-loaded.ensures.accepted in
    let binds = bindings_of c.args.binds.now in
    let now = g.S.Shelf.files c.load_query.new.shelf in
    let file = g.S.Shelf.files c.args.shelf.now c.args.query.now in
    let shelf = reading g.S.Shelf.tells g.S.Shelf.files g.S.Shelf.read_faults g.S.Shelf.save_faults g.S.Shelf.takes g.S.Shelf.given c.args.shelf.now c.load_session_inputs.new.shelf in
    let names = c.inputs-inputs.ensures.names ∙ ap (λ (k : CoreParts). k.inputs) c.core.ensures.value in
    let given = cuts_given q core accepted cut c.in_ok-cuts.cuts c.inputs-inputs.result.now names c.in_ok-cuts.ensures.cuts in
    let upto = ap bounds_in (c.deref.ensures.value ∙ c.in_ok-bounds.ensures.bounds) ∙ ap (λ (k : CutsParts). first_bounds k.each) given in
    let starts = λ (told : g.S.Shelf.tells). starts_by q core accepted cut.upto file c.inputs-inputs.result.now names
    (starts_from q core accepted file (c.in_ok-loaded.ensures.query told) (c.in_ok-loaded.ensures.taken told)) c.in_ok-cuts.ensures.named in
    let rows = c.in_ok-rows.rows.items in
    let is = is_started q core accepted cut c.in_ok-cuts.cuts rows c.in_ok-list.list cut.save c.in_ok-list.bytes.items refl given
    c.in_ok-list.ensures.printed c.in_ok-list.ensures.saved in
    record {
      made = λ told beside. done q rows (starts told) (start_read q core accepted cut now c.args.query.now binds _ _ shelf c.load_query.ensures.rest.same_files upto names rows
          (c.in_ok-rows.ensures.taken told)) is;
      kept = record { fresh = tt; streamed = (λ h. h, λ h. h); shown = (λ h. cc h, λ h. absurd h); saved = (λ h. tt, λ h. refl) };
      fault = λ beside. tt;
      read = λ told beside. start_bytes q core accepted cut now c.args.query.now binds _ _ shelf c.load_query.ensures.rest.same_files upto names starts told
          (g.S.Shelf.given c.load_query.new.shelf) (c.in_ok-loaded.ensures.given told) (c.in_ok-rows.ensures.given told);
      rest = reads-then c.load_query.ensures.rest c.load_session_inputs.ensures.rest;
    }

pub returns-clause-begun : goal.returns-clause-begun
returns-clause-begun g c =
    λ told beside.
    let cut = saved_cut_of c.args.cut in
    let q = c.in_ok-loaded.loaded.query in
    let core = c.in_ok-loaded.loaded.accepted.core in
    let accepted = c.in_ok-loaded.ensures.accepted in
    let binds = bindings_of c.args.binds.now in
    let now = g.S.Shelf.files c.load_query.new.shelf in
    let file = g.S.Shelf.files c.args.shelf.now c.args.query.now in
    let shelf = reading g.S.Shelf.tells g.S.Shelf.files g.S.Shelf.read_faults g.S.Shelf.save_faults g.S.Shelf.takes g.S.Shelf.given c.args.shelf.now c.load_session_inputs.new.shelf in
    let names = c.inputs-inputs.ensures.names ∙ ap (λ (k : CoreParts). k.inputs) c.core.ensures.value in
    let given = cuts_given q core accepted cut c.in_ok-cuts.cuts c.inputs-inputs.result.now names c.in_ok-cuts.ensures.cuts in
    let upto = ap bounds_in (c.deref.ensures.value ∙ c.in_ok-bounds.ensures.bounds) ∙ ap (λ (k : CutsParts). first_bounds k.each) given in
    let starts = λ (told : g.S.Shelf.tells). starts_by q core accepted cut.upto file c.inputs-inputs.result.now names
    (starts_from q core accepted file (c.in_ok-loaded.ensures.query told) (c.in_ok-loaded.ensures.taken told)) c.in_ok-cuts.ensures.named in
    let rows = c.in_ok-rows.rows.items in
    let is = is_started q core accepted cut c.in_ok-cuts.cuts rows c.in_ok-list.list cut.save c.in_ok-list.bytes.items refl given
    c.in_ok-list.ensures.printed c.in_ok-list.ensures.saved in
    first_hands_on (g.S.Shelf.files c.args.shelf.now) c.args.query.now binds cut q rows _ (subst AreCuts given c.in_ok-bounds.ensures.range) (starts told)
    (start_read q core accepted cut now c.args.query.now binds _ _ shelf c.load_query.ensures.rest.same_files upto names rows (c.in_ok-rows.ensures.taken told)) is
