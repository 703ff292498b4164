use Rattle.std.proofs.Common.{rules, ◌∙◌, List, refl, subst, sym, ap, inl, inr}
use Rattle.tilt_app.proofs.Complete.{cause_of_usage, cause_of_words, only_memory, printed_or_refused, status_of_save, status_of_usage, status_of_want, status_of_write_fault, the_refusal, wider_cause}
use Rattle.tilt_app.proofs.Once.{no_usage, outcome_once}
use Rattle.tilt_app.proofs.Seen.{all_shown, part_shown, shown_before_want, unwatched_all, unwatched_part}
use Rattle.tilt_app.specs.Change.{shelf_change, sink_change}
use Rattle.tilt_app.specs.Outcome.{HasRowTurn, HasTurn, IsOutcome, IsRowOutcome, does}
use Rattle.tilt_commands.specs.Table.{row_of}
use Rattle.tilt_report.specs.Report.{report_of, status_of}
use Rattle.tilt_watch.specs.Watch.{Watch}
use Rattle.tilt_cli.specs.Command.{CommandValue, IsCommand, command_of, texts, watch}
use Rattle.tilt_app.proofs.command.tilt.Goals as goal

pub done-requires-clause-room : goal.done-requires-clause-room
done-requires-clause-room g c =
    λ text save outcome. c.requires.room text save (λ t. does (command_of c.in-Ok.command) c.in-Ok.ensures.command (outcome t))

pub done-requires-clause-saves : goal.done-requires-clause-saves
done-requires-clause-saves g c =
    λ text save outcome. c.requires.saves text save (λ t. does (command_of c.in-Ok.command) c.in-Ok.ensures.command (outcome t))

pub returns-in-Ok-done : goal.returns-in-Ok-done
returns-in-Ok-done g c =
    let tells = g.S.Shelf.tells in
    let words = texts c.args.words.now in
    let files = g.S.Shelf.files c.args.shelf.now in
    let command = command_of c.in-Ok.command in
    let is = c.in-Ok.ensures.command in
    let done = c.in-Ok-done.ensures.done in
    record {
      does = record {
        done = λ zero. record {
          text = done.text;
          save = done.save;
          outcome = λ t. does command is (done.outcome t);
          written = done.written;
          saved = done.saved;
          room = done.room;
        };
        handed_on = search rules;
        quiet = search rules;
        read_once = search rules;
        continued = search rules;
        reported = search rules;
        told = search rules;
        unwritten = search rules;
        usage = search rules;
        no_command = search rules;
        complete = search rules;
        complete_refusal = λ told report outcome no_read.
            absurd (printed_or_refused (IsOutcome words files _) (outcome_once words files _) done.text done.save report (does command is (done.outcome told)) outcome);
        faultless = search rules;
        unwatched = λ nobody. unwatched_all tells files _ command (λ query binds plain same. nobody
            (query, binds, (plain, subst (λ (other : CommandValue). IsCommand words other) same is))) c.in-Ok-done.ensures.seen;
        unseen = search rules;
        seen = λ zero query binds its. all_shown tells files _ command query binds its.0
            (c.in-Ok.ensures.one command (watch query binds its.0) is its.1) c.in-Ok-done.ensures.seen;
        seen_in_part = search rules;
        seen_before_want = search rules;
        rest = search rules;
        unsaved = λ none. c.in-Ok-done.ensures.rest (λ saves. none (command, is, saves));
        takes = search rules;
        lines_left = search rules;
        counts = search rules;
      };
    }

pub returns-in-Ok : goal.returns-in-Ok
returns-in-Ok g c =
    let tells = g.S.Shelf.tells in
    let words = texts c.args.words.now in
    let files = g.S.Shelf.files c.args.shelf.now in
    let command = command_of c.in-Ok.command in
    let is = c.in-Ok.ensures.command in
    let shelf = shelf_change g.S.Shelf c.args.shelf.now c.done.new.shelf in
    let out = sink_change g.O.Sink c.args.out.now c.done.new.out in
    let report = report_of c.in-Err-done.fault in
    let failed = c.in-Err-done.ensures in
    let status = c.tell.ensures.status in
    let cause = wider_cause (IsRowOutcome files _ (row_of command)) (IsOutcome words files _)
    (λ name. (any : List Watch) × HasRowTurn tells files any (row_of command) name) (HasTurn tells words files) shelf out
    (λ o outcome. does command is outcome) (λ name turn. (command, is, turn)) report failed.cause in
    record {
      does = record {
        done = search rules;
        handed_on = search rules;
        quiet = search rules;
        read_once = search rules;
        continued = search rules;
        reported = λ some. (report, status, cause, c.tell.ensures.line);
        told = search rules;
        unwritten = λ some no_fault no_save no_stream.
            failed.unwritten (λ same. no_fault (status ∙ ap status_of same)) (λ same. no_save (status ∙ status_of_save report same))
            (λ both. no_stream (status ∙ ap status_of both.0, (command, is, both.1)));
        usage = λ two runnable.
            no_usage words files _ command is (cause_of_usage (IsRowOutcome files _ (row_of command))
            (λ name. (any : List Watch) × HasRowTurn tells files any (row_of command) name) shelf out report (status_of_usage report (sym status ∙ two)) failed.cause);
        no_command = search rules;
        complete = λ told text save outcome no_read no_save no_put.
            inr (status ∙ ap status_of (only_memory (IsOutcome words files _) (outcome_once words files _) (HasTurn tells words files) shelf out told no_read
            report text save cause outcome no_save no_put));
        complete_refusal = λ told other outcome no_read.
            elim (the_refusal (IsOutcome words files _) (outcome_once words files _) (HasTurn tells words files) shelf out told no_read report other cause outcome) [
              | inl same ↦ inl (status ∙ ap status_of same)
              | inr memory ↦ inr (status ∙ ap status_of memory)
            ];
        faultless = search rules;
        unwatched = λ nobody. unwatched_part tells files _ command (λ query binds plain same. nobody
            (query, binds, (plain, subst (λ (other : CommandValue). IsCommand words other) same is))) report failed.seen;
        unseen = search rules;
        seen = search rules;
        seen_in_part = λ four query binds its. part_shown tells files _ command query binds its.0 report
            (c.in-Ok.ensures.one command (watch query binds its.0) is its.1) (status_of_write_fault report (sym status ∙ four)) failed.seen;
        seen_before_want = λ five query binds its. shown_before_want tells files _ command query binds its.0 report
            (c.in-Ok.ensures.one command (watch query binds its.0) is its.1) (status_of_want report (sym status ∙ five)) failed.seen;
        rest = search rules;
        unsaved = λ none. failed.rest (λ unsaved. none (command, is, failed.saving unsaved));
        takes = search rules;
        lines_left = search rules;
        counts = search rules;
      };
    }

pub returns : goal.returns
returns g c =
    let words = texts c.args.words.now in
    let files = g.S.Shelf.files c.args.shelf.now in
    record {
      does = record {
        done = search rules;
        handed_on = search rules;
        quiet = search rules;
        read_once = search rules;
        continued = search rules;
        reported = λ some. (
          report_of c.from.result,
          c.tell-in-Err.ensures.status,
          (rw c.from.ensures (cause_of_words words files _ (HasTurn g.S.Shelf.tells words files) _ _ c.in-Err.fault refl c.in-Err.ensures.usage)),
          c.tell-in-Err.ensures.line,
        );
        told = search rules;
        unwritten = search rules;
        usage = search rules;
        no_command = search rules;
        complete = search rules;
        complete_refusal = search rules;
        faultless = search rules;
        unwatched = search rules;
        unseen = search rules;
        seen = search rules;
        seen_in_part = search rules;
        seen_before_want = search rules;
        rest = search rules;
        unsaved = search rules;
        takes = search rules;
        lines_left = search rules;
        counts = search rules;
      };
    }
