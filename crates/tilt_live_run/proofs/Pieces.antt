-- A piece that is taken, line by line.
use Rattle.std.proofs.Common.{◌≡◌, ℕ, List, [], ◌++◌, None, Some, Result, Ok, Err, refl, sym, ap, ◌∙◌, inl, inr, OnOk}
use Rattle.std.proofs.lemmas.Bool.{cases_Bool}
use Rattle.std.proofs.lemmas.List.{append-nil}
use Rattle.tilt_core.specs.Core.{CoreParts}
use Rattle.tilt_feed_text.proofs.Splitting.{lines-none, lines-until, unfinished-none, unfinished-until}
use Rattle.tilt_feed_form.specs.Report.{report_of}
use Rattle.tilt_feed_form.specs.Said.{FeedState, LineStep, after_line, after_step, ends, line_fault, line_step, stops}
use Rattle.tilt_live_run.proofs.Reporting.{reports-none, reports-short, reports-stopped, reports-then}
use Rattle.tilt_live_run.specs.Taken.{HasTakenLine, HasTakenPiece}
use Rattle.tilt_live_run.specs.declared.run_options.RunOptions.{RunOptions}
use Rattle.tilt_live_run.specs.declared.stop.Stop.{Stop}
use Rattle.tilt_live_run.specs.declared.stop.Stop.TheVariants as stop
use Rattle.tilt_outside.specs.Counts.{next_count}
use Rattle.tilt_text.specs.Cut.{until_at}

-- what is always so
pub on-ok : (result : Result (Unit {0}) Stop) (A : Type 0) → A → OnOk result A
on-ok (Ok u) A a = a
on-ok (Err e) A a = tt

pub ok-into : (result : Result (Unit {0}) Stop) (A B : Type 0) → (A → B) → OnOk result A → OnOk result B
ok-into (Ok u) A B f a = f a
ok-into (Err e) A B f a = tt

pub on-err : (result : Result (Unit {0}) Stop) (A : Type 0) (why : Stop) → result ≡ Err why → OnOk result A
on-err result A why is = rw is tt

module _ {K : Type 0} (tells : Type 0) (written : K → List ℕ) (faults : K → ℕ) (core : CoreParts) (options : RunOptions) where
  -- a line that says the same
  pub line-same : (err err_then : K) (Is : ℕ → FeedState → Type 0) (Holds : FeedState → Type 0) (number : ℕ) (state : FeedState) (x y : List ℕ) (result : Result (Unit {0}) Stop)
      → line_step options.form core.inputs number x state.kept ≡ line_step options.form core.inputs number y state.kept
      → line_fault options.form core.inputs state.kept number x ≡ line_fault options.form core.inputs state.kept number y
      → HasTakenLine tells written faults err err_then Is Holds core options number state x result
      → HasTakenLine tells written faults err err_then Is Holds core options number state y result
  line-same err err_then Is Holds number state x y result step fault taken =
      let after : after_line options.form core.inputs number x state ≡ after_line options.form core.inputs number y state =
      ap (λ (s : LineStep). after_step s state.feed) step in
      let stopped : stops options.strict options.form core.inputs state number x ≡ stops options.strict options.form core.inputs state number y =
      ap (ends options.strict state.kept) fault in
      record {
        reports = rw fault at taken.reports;
        goes_on = rw after at taken.goes_on;
        held = taken.held;
        stop = rw stopped at taken.stop;
      }

  -- what the run is then, said otherwise
  pub line-into : (err err_then : K) (Is Then : ℕ → FeedState → Type 0) (Holds : FeedState → Type 0) (number : ℕ) (state : FeedState) (x : List ℕ) (result same : Result (Unit {0}) Stop)
      → same ≡ result → OnOk same ((n : ℕ) (s : FeedState) → Is n s → Then n s)
      → HasTakenLine tells written faults err err_then Is Holds core options number state x result
      → HasTakenLine tells written faults err err_then Then Holds core options number state x same
  line-into err err_then Is Then Holds number state x (Ok u) same is into taken = rw is record {
    reports = taken.reports;
    goes_on = (rw is at into) (next_count number) (after_line options.form core.inputs number x state) taken.goes_on;
    held = tt;
    stop = taken.stop;
  }
  line-into err err_then Is Then Holds number state x (Err e) same is into taken = rw is record {
    reports = taken.reports;
    goes_on = tt;
    held = taken.held;
    stop = taken.stop;
  }

  -- memory was refused before the line was taken
  pub line-refused : (err : K) (Is : ℕ → FeedState → Type 0) (Holds : FeedState → Type 0) (number : ℕ) (state : FeedState) (x : List ℕ) (result : Result (Unit {0}) Stop)
      → result ≡ Err stop.OutOfMemory → HasTakenLine tells written faults err err Is Holds core options number state x result
  line-refused err Is Holds number state x result is = record {
    reports = reports-stopped tells written faults err _ stop.OutOfMemory result is (λ e. cc e);
    goes_on = rw is tt;
    held = rw is (λ e. absurd (cc e));
    stop = rw is (λ e. absurd (cc e));
  }

  -- The first line of a piece that has one.
  module _ (number : ℕ) (state : FeedState) (front piece line rest : List ℕ) (found : until_at 10 piece ≡ Some (line, rest)) where
    -- it was taken, and then the rest of the piece
    pub piece-more : (err err_mid err_then : K) (Mid : ℕ → FeedState → Type 0) (Stays Holds : FeedState → Type 0) (Is : ℕ → FeedState → List ℕ → Type 0) (result : Result (Unit {0}) Stop)
        → HasTakenLine tells written faults err err_mid Mid Stays core options number state (front ++ line) (Ok tt)
        → HasTakenPiece tells written faults err_mid err_then Is Holds core options (next_count number)
        (after_line options.form core.inputs number (front ++ line) state) [] rest result
        → HasTakenPiece tells written faults err err_then Is Holds core options number state front piece result
    piece-more err err_mid err_then Mid Stays Holds Is result first later = record {
      reports = rw (lines-until front piece line rest found, first.stop) (reports-then tells written faults err err_mid err_then _ _ tt result first.reports later.reports);
      goes_on = rw (lines-until front piece line rest found, unfinished-until front piece line rest found) later.goes_on;
      held = rw (lines-until front piece line rest found, first.stop) later.held;
      stop = rw (lines-until front piece line rest found, first.stop) later.stop;
    }

    -- the run stopped at it
    pub piece-stopped : (err err_then : K) (Mid : ℕ → FeedState → Type 0) (Holds : FeedState → Type 0) (Is : ℕ → FeedState → List ℕ → Type 0) (why : Stop) (result : Result (Unit {0}) Stop)
        → result ≡ Err why → HasTakenLine tells written faults err err_then Mid Holds core options number state (front ++ line) (Err why)
        → HasTakenPiece tells written faults err err_then Is Holds core options number state front piece result
    piece-stopped err err_then Mid Holds Is why result is first =
        elim (cases_Bool (stops options.strict options.form core.inputs state number (front ++ line))) [
          | inl stopped ↦ record {
            reports = rw (is, lines-until front piece line rest found, stopped, append-nil (report_of number (line_fault options.form core.inputs state.kept number (front ++ line)))) first.reports;
            goes_on = rw is tt;
            held = rw (is, lines-until front piece line rest found, stopped) first.held;
            stop = rw (is, lines-until front piece line rest found, stopped) (λ e. refl);
          }
          | inr going ↦ record {
            reports = rw (is, lines-until front piece line rest found, going)
                (reports-short tells written faults err err_then _ _ why (Err why) refl (λ e. absurd (cc (sym (first.stop e) ∙ going))) first.reports);
            goes_on = rw is tt;
            held = rw is (λ e. absurd (cc (sym (first.stop e) ∙ going)));
            stop = rw is (λ e. absurd (cc (sym (first.stop e) ∙ going)));
          }
        ]

  -- a piece without a line was taken
  pub piece-end : (err : K) (Is : ℕ → FeedState → List ℕ → Type 0) (Holds : FeedState → Type 0) (number : ℕ) (state : FeedState) (front piece : List ℕ)
      → until_at 10 piece ≡ None → Is number state (front ++ piece)
      → HasTakenPiece tells written faults err err Is Holds core options number state front piece (Ok tt)
  piece-end err Is Holds number state front piece none is = record {
    reports = rw (lines-none front piece none) (reports-none tells written faults err tt);
    goes_on = rw (lines-none front piece none, unfinished-none front piece none) is;
    held = tt;
    stop = rw (lines-none front piece none) refl;
  }

  -- memory was refused before a piece without a line was taken
  pub piece-refused : (err : K) (Is : ℕ → FeedState → List ℕ → Type 0) (Holds : FeedState → Type 0) (number : ℕ) (state : FeedState) (front piece : List ℕ) (result : Result (Unit {0}) Stop)
      → result ≡ Err stop.OutOfMemory → HasTakenPiece tells written faults err err Is Holds core options number state front piece result
  piece-refused err Is Holds number state front piece result is = record {
    reports = reports-stopped tells written faults err _ stop.OutOfMemory result is (λ e. cc e);
    goes_on = rw is tt;
    held = rw is (λ e. absurd (cc e));
    stop = rw is (λ e. absurd (cc e));
  }
