use Rattle.std.proofs.Common.{List, None, Some, length, refl, sym, subst}
use Rattle.std.proofs.lemmas.Result.{err_from_is_err_and, IfErr-weaker}
use Rattle.tilt_app.proofs.Finish.{continued, made_none, made_some, on_match, on_ok, on_ok_so, on_ok_then, unput_cause, unsaved_cause}
use Rattle.tilt_app.proofs.Seen.{unput_seen}
use Rattle.tilt_app.proofs.Shown.{answer_fits, answer_made, answer_read, answer_rest, answer_shows}
use Rattle.tilt_app.proofs.Unanswered.{fault_cause, fault_of_no_save, fault_seen}
use Rattle.tilt_app.specs.Continued.{Continues}
use Rattle.tilt_app.specs.Change.{shelf_change, sink_change}
use Rattle.tilt_app.specs.Outcome.{HasRowTurn, IsRowOutcome}
use Rattle.tilt_app.specs.Show.{IsShow}
use Rattle.tilt_commands.specs.Table.{row_of}
use Rattle.tilt_load.specs.Does.{reading}
use Rattle.tilt_printed.specs.Answer.{save_of}
use Rattle.tilt_printed.specs.Show.{shown_of}
use Rattle.tilt_printed.specs.declared.save.Save.{Save}
use Rattle.tilt_report.specs.Report.{report_of}
use Rattle.tilt_watch.specs.Watch.{Watch}
use Rattle.tilt_cli.specs.Command.{command_of}
use Rattle.tilt_app.proofs.command.done.Goals as goal

pub returns-in_err-answered-clause-cause : goal.returns-in_err-answered-clause-cause
returns-in_err-answered-clause-cause g c =
    let p = err_from_is_err_and c.from_residual.result c.from_residual.ensures.1 in
    rw (p.1, p.2) (fault_cause g.S.Shelf c.args.shelf.now c.answer.new.shelf
    (command_of c.args.command.now) c.in_err-answered.field-0.0 c.in_err-answered.ensures.does _
    (sink_change g.O.Sink c.args.out.now c.args.out.now) refl)

pub returns-in_err-answered-clause-handed_on : goal.returns-in_err-answered-clause-handed_on
returns-in_err-answered-clause-handed_on g c =
    let p = err_from_is_err_and c.from_residual.result c.from_residual.ensures.1 in
    rw (p.1, p.2) (λ is. absurd (fault_of_no_save g.S.Shelf c.args.shelf.now c.answer.new.shelf
    (command_of c.args.command.now) c.in_err-answered.field-0.0 c.in_err-answered.ensures.does is))

pub returns-in_err-answered-clause-seen : goal.returns-in_err-answered-clause-seen
returns-in_err-answered-clause-seen g c =
    let p = err_from_is_err_and c.from_residual.result c.from_residual.ensures.1 in
    rw (p.1, p.2) (fault_seen g.S.Shelf c.args.shelf.now c.answer.new.shelf
    (command_of c.args.command.now) c.in_err-answered.field-0.0 c.in_err-answered.ensures.does _ (IsShow g.S.Shelf.tells (g.S.Shelf.files c.args.shelf.now) (command_of c.args.command.now))
    (record { kept = refl; unwritten = λ t. refl }))

pub returns-in_err-answered-clause-saving : goal.returns-in_err-answered-clause-saving
returns-in_err-answered-clause-saving g c =
    let p = err_from_is_err_and c.from_residual.result c.from_residual.ensures.1 in
    rw (p.1, p.2) (λ is. absurd (fault_of_no_save g.S.Shelf c.args.shelf.now c.answer.new.shelf
    (command_of c.args.command.now) c.in_err-answered.field-0.0 c.in_err-answered.ensures.does is))

pub put-requires-clause-room : goal.put-requires-clause-room
put-requires-clause-room g c =
    let command = command_of c.args.command.now in
    let read = reading g.S.Shelf.tells g.S.Shelf.files g.S.Shelf.read_faults g.S.Shelf.save_faults g.S.Shelf.takes g.S.Shelf.given c.args.shelf.now c.answer.new.shelf in
    let answered = c.in_ok-answered.answered in
    let does = c.in_ok-answered.ensures.does in
    c.requires.room _ (save_of answered.save) (λ t. answer_made command read answered does t _)

pub returns-in-Err-clause-rest : goal.returns-in-Err-clause-rest
returns-in-Err-clause-rest g c = λ unsaved.
    let command = command_of c.args.command.now in
    let read = reading g.S.Shelf.tells g.S.Shelf.files g.S.Shelf.read_faults g.S.Shelf.save_faults g.S.Shelf.takes g.S.Shelf.given c.args.shelf.now c.answer.new.shelf in
    answer_rest command read c.in_ok-answered.answered c.in_ok-answered.ensures.does

pub returns-in-Err-clause-cause : goal.returns-in-Err-clause-cause
returns-in-Err-clause-cause g c =
    let tells = g.S.Shelf.tells in
    let files = g.S.Shelf.files c.args.shelf.now in
    let command = command_of c.args.command.now in
    let shelf = shelf_change g.S.Shelf c.args.shelf.now c.answer.new.shelf in
    let out = sink_change g.O.Sink c.args.out.now c.put.new.out in
    let read = reading g.S.Shelf.tells g.S.Shelf.files g.S.Shelf.read_faults g.S.Shelf.save_faults g.S.Shelf.takes g.S.Shelf.given c.args.shelf.now c.answer.new.shelf in
    let answered = c.in_ok-answered.answered in
    let does = c.in_ok-answered.ensures.does in
    unput_cause (IsRowOutcome files _ (row_of command)) (λ name. (any : List Watch) × HasRowTurn tells files any (row_of command) name) shelf out _ (save_of answered.save) c.in-Err.unput
    (report_of c.fault.result) c.fault.ensures (λ t. answer_made command read answered does t _) c.in-Err.ensures.prints.front c.in-Err.ensures.prints.rose

pub returns-in-Err-clause-seen : goal.returns-in-Err-clause-seen
returns-in-Err-clause-seen g c =
    let tells = g.S.Shelf.tells in
    let files = g.S.Shelf.files c.args.shelf.now in
    let command = command_of c.args.command.now in
    let read = reading g.S.Shelf.tells g.S.Shelf.files g.S.Shelf.read_faults g.S.Shelf.save_faults g.S.Shelf.takes g.S.Shelf.given c.args.shelf.now c.answer.new.shelf in
    let answered = c.in_ok-answered.answered in
    let does = c.in_ok-answered.ensures.does in
    unput_seen _ (IsShow tells files command) answered.printed c.in-Err.unput (report_of c.fault.result) c.fault.ensures
    (answer_shows tells files command answered (answer_fits command read answered does) (answer_made command read answered does))
    c.in-Err.ensures.seen

pub save-requires : goal.save-requires
save-requires g c =
    let files = g.S.Shelf.files c.args.shelf.now in
    let command = command_of c.args.command.now in
    let read = reading g.S.Shelf.tells g.S.Shelf.files g.S.Shelf.read_faults g.S.Shelf.save_faults g.S.Shelf.takes g.S.Shelf.given c.args.shelf.now c.answer.new.shelf in
    let answered = c.in_ok-answered.answered in
    let does = c.in_ok-answered.ensures.does in
    let rest = answer_rest command read answered does in
    let bytes = c.in-Some.bytes in
    let taken = (rest.same_takes bytes.name.now (length bytes.bytes.items)).0 (c.requires.saves _ (record { name = bytes.name.now; bytes = bytes.bytes.items })
    (λ t. made_some (IsRowOutcome files _ (row_of command)) _ answered.save bytes c.in-Some.is (answer_made command read answered does t _))) in
    subst (λ (s : Save). g.S.Shelf.takes c.answer.new.shelf s.name.now (length s.bytes.items)) (sym c.in-Some.bytes-is) taken

pub returns-in-None-clause-done : goal.returns-in-None-clause-done
returns-in-None-clause-done g c =
    let files = g.S.Shelf.files c.args.shelf.now in
    let command = command_of c.args.command.now in
    let read = reading g.S.Shelf.tells g.S.Shelf.files g.S.Shelf.read_faults g.S.Shelf.save_faults g.S.Shelf.takes g.S.Shelf.given c.args.shelf.now c.answer.new.shelf in
    let answered = c.in_ok-answered.answered in
    let does = c.in_ok-answered.ensures.does in
    let fine = c.in_default.not-Err in
    let rest = answer_rest command read answered does in
    record {
      text = _;
      save = None;
      outcome = λ t. made_none (IsRowOutcome files _ (row_of command)) _ answered.save c.in-None.is (answer_made command read answered does t _);
      written = λ t. on_ok c.put.result fine (c.put.ensures.prints.whole t);
      saved = λ t. rest.same_files;
      room = on_ok c.put.result fine c.put.ensures.prints.room;
    }

pub returns-in-None-clause-continued : goal.returns-in-None-clause-continued
returns-in-None-clause-continued g c =
    let files = g.S.Shelf.files c.args.shelf.now in
    let command = command_of c.args.command.now in
    let shelf = shelf_change g.S.Shelf c.args.shelf.now c.answer.new.shelf in
    let out = sink_change g.O.Sink c.args.out.now c.put.new.out in
    let read = reading g.S.Shelf.tells g.S.Shelf.files g.S.Shelf.read_faults g.S.Shelf.save_faults g.S.Shelf.takes g.S.Shelf.given c.args.shelf.now c.answer.new.shelf in
    let answered = c.in_ok-answered.answered in
    let does = c.in_ok-answered.ensures.does in
    let fine = c.in_default.not-Err in
    let rest = answer_rest command read answered does in
    λ told. continued command shelf out _ None
    (made_none (Continues files command) _ answered.save c.in-None.is (c.in_ok-answered.ensures.continues told _)) (λ t. on_ok c.put.result fine (c.put.ensures.prints.whole t))
    (λ t. rest.same_files)

pub returns-in-None-clause-seen : goal.returns-in-None-clause-seen
returns-in-None-clause-seen g c =
    let tells = g.S.Shelf.tells in
    let files = g.S.Shelf.files c.args.shelf.now in
    let command = command_of c.args.command.now in
    let read = reading g.S.Shelf.tells g.S.Shelf.files g.S.Shelf.read_faults g.S.Shelf.save_faults g.S.Shelf.takes g.S.Shelf.given c.args.shelf.now c.answer.new.shelf in
    let answered = c.in_ok-answered.answered in
    let does = c.in_ok-answered.ensures.does in
    let fine = c.in_default.not-Err in
    let rest = answer_rest command read answered does in (
      shown_of answered.printed,
      (answer_shows tells files command answered (answer_fits command read answered does) (answer_made command read answered does)),
      on_match _ c.put.result fine c.put.ensures.seen,
    )

pub returns-in-None-clause-read : goal.returns-in-None-clause-read
returns-in-None-clause-read g c =
    let command = command_of c.args.command.now in
    let read = reading g.S.Shelf.tells g.S.Shelf.files g.S.Shelf.read_faults g.S.Shelf.save_faults g.S.Shelf.takes g.S.Shelf.given c.args.shelf.now c.answer.new.shelf in
    let answered = c.in_ok-answered.answered in
    let does = c.in_ok-answered.ensures.does in
    λ told. answer_read command read answered does told

pub returns-in-Some-clause-done : goal.returns-in-Some-clause-done
returns-in-Some-clause-done g c =
    let files = g.S.Shelf.files c.args.shelf.now in
    let command = command_of c.args.command.now in
    let read = reading g.S.Shelf.tells g.S.Shelf.files g.S.Shelf.read_faults g.S.Shelf.save_faults g.S.Shelf.takes g.S.Shelf.given c.args.shelf.now c.answer.new.shelf in
    let answered = c.in_ok-answered.answered in
    let does = c.in_ok-answered.ensures.does in
    let fine = c.in_default.not-Err in
    let rest = answer_rest command read answered does in
    let bytes = c.in-Some.bytes in
    on_ok_then c.save.result (λ saved. record {
      text = _;
      save = Some (record { name = bytes.name.now; bytes = bytes.bytes.items });
      outcome = (λ t. made_some (IsRowOutcome files _ (row_of command)) _ answered.save bytes c.in-Some.is (answer_made command read answered does t _));
      written = λ t. on_ok c.put.result fine (c.put.ensures.prints.whole t);
      saved = saved;
      room = on_ok c.put.result fine c.put.ensures.prints.room;
    }) (rw (c.in-Some.bytes-is, rest.same_files) at c.save.ensures.saved)

pub returns-in-Some-clause-cause : goal.returns-in-Some-clause-cause
returns-in-Some-clause-cause g c =
    let tells = g.S.Shelf.tells in
    let files = g.S.Shelf.files c.args.shelf.now in
    let command = command_of c.args.command.now in
    let shelf = shelf_change g.S.Shelf c.args.shelf.now c.save.new.shelf in
    let out = sink_change g.O.Sink c.args.out.now c.put.new.out in
    let read = reading g.S.Shelf.tells g.S.Shelf.files g.S.Shelf.read_faults g.S.Shelf.save_faults g.S.Shelf.takes g.S.Shelf.given c.args.shelf.now c.answer.new.shelf in
    let answered = c.in_ok-answered.answered in
    let does = c.in_ok-answered.ensures.does in
    let fine = c.in_default.not-Err in
    let rest = answer_rest command read answered does in
    let bytes = c.in-Some.bytes in
    IfErr-weaker c.save.result _ _ (λ fault is. unsaved_cause (IsRowOutcome files _ (row_of command)) (λ name. (any : List Watch) × HasRowTurn tells files any (row_of command) name)
    shelf out _ bytes.name.now bytes.bytes.items
    (report_of fault) is.0 is.1
    (λ t. made_some (IsRowOutcome files _ (row_of command)) _ answered.save bytes c.in-Some.is (answer_made command read answered does t _))
    (λ t. on_ok c.put.result fine (c.put.ensures.prints.whole t)) is.2)
    (rw (c.in-Some.bytes-is, rest.same_files, rest.same_save_faults) at c.save.ensures.fault)

pub returns-in-Some-clause-continued : goal.returns-in-Some-clause-continued
returns-in-Some-clause-continued g c =
    let files = g.S.Shelf.files c.args.shelf.now in
    let command = command_of c.args.command.now in
    let shelf = shelf_change g.S.Shelf c.args.shelf.now c.save.new.shelf in
    let out = sink_change g.O.Sink c.args.out.now c.put.new.out in
    let read = reading g.S.Shelf.tells g.S.Shelf.files g.S.Shelf.read_faults g.S.Shelf.save_faults g.S.Shelf.takes g.S.Shelf.given c.args.shelf.now c.answer.new.shelf in
    let answered = c.in_ok-answered.answered in
    let does = c.in_ok-answered.ensures.does in
    let fine = c.in_default.not-Err in
    let rest = answer_rest command read answered does in
    let bytes = c.in-Some.bytes in
    λ told. on_ok_then c.save.result (λ saved. continued command shelf out _ (Some (record { name = bytes.name.now; bytes = bytes.bytes.items }))
    (made_some (Continues files command) _ answered.save bytes c.in-Some.is (c.in_ok-answered.ensures.continues told _))
    (λ t. on_ok c.put.result fine (c.put.ensures.prints.whole t)) saved)
    (rw (c.in-Some.bytes-is, rest.same_files) at c.save.ensures.saved)

pub returns-in-Some-clause-read : goal.returns-in-Some-clause-read
returns-in-Some-clause-read g c =
    let command = command_of c.args.command.now in
    let read = reading g.S.Shelf.tells g.S.Shelf.files g.S.Shelf.read_faults g.S.Shelf.save_faults g.S.Shelf.takes g.S.Shelf.given c.args.shelf.now c.answer.new.shelf in
    let answered = c.in_ok-answered.answered in
    let does = c.in_ok-answered.ensures.does in
    λ told. on_ok_so c.save.result (rw c.save.ensures.counts.2 (answer_read command read answered does told))
