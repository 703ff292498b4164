-- What taking lines and pieces of the feed did.
use Rattle.std.specs.Prelude.{◌≡◌, ℕ, true, false, List, Result, OnOk, IfErr, MatchResult}
use Rattle.tilt_core.specs.Core.{CoreParts}
use Rattle.tilt_feed_form.specs.Report.{report_of, reports_from}
use Rattle.tilt_feed_form.specs.Said.{FeedState, after_line, after_lines, line_fault, stop_among, stops, taken_from}
use Rattle.tilt_feed_text.specs.Said.{number_after}
use Rattle.tilt_feed_text.specs.Split.{lines_after, unfinished_after}
use Rattle.tilt_live_run.specs.Reported.{Reports}
use Rattle.tilt_live_run.specs.declared.run_options.RunOptions.{RunOptions}
use Rattle.tilt_live_run.specs.declared.stop.Stop.{Stop}
use Rattle.tilt_live_run.specs.declared.stop.Stop.TheVariants.{BadLine}
use Rattle.tilt_outside.specs.Counts.{next_count}

-- The sink of reports, before and after. What the run is of if it goes on, and what its engine is of if a bad line stopped it. The query,
-- its options, the number of lines before, and where the feed was then.
module _ {K : Type 0} (tells : Type 0) (written : K → List ℕ) (faults : K → ℕ) (err err_then : K) where
  -- a line was taken, and nothing was written yet: it was reported if it is bad, and the run goes on after it unless it stops the run
  pub record HasTakenLine (Is : ℕ → FeedState → Type 0) (Holds : FeedState → Type 0) (core : CoreParts) (options : RunOptions) (number : ℕ) (state : FeedState)
      (line : List ℕ) (result : Result (Unit {0}) Stop) : Type 0 where
    pub reports : Reports tells written faults err err_then (report_of number (line_fault options.form core.inputs state.kept number line)) result
    pub goes_on : OnOk result (Is (next_count number) (after_line options.form core.inputs number line state))
    pub held : IfErr result (λ stop. stop ≡ BadLine → Holds state)
    pub stop : MatchResult result (λ _. stops options.strict options.form core.inputs state number line ≡ false)
        (λ stop. stop ≡ BadLine → stops options.strict options.form core.inputs state number line ≡ true)

  -- the lines that end in a piece were taken, one after another, up to one that stops the run
  pub record HasTakenPiece (Is : ℕ → FeedState → List ℕ → Type 0) (Holds : FeedState → Type 0) (core : CoreParts) (options : RunOptions) (number : ℕ)
      (state : FeedState) (front piece : List ℕ) (result : Result (Unit {0}) Stop) : Type 0 where
    pub reports : Reports tells written faults err err_then (reports_from options.strict options.form core.inputs number state (lines_after front piece)) result
    pub goes_on : OnOk result (Is (number_after number (lines_after front piece)) (after_lines options.form core.inputs number state (lines_after front piece))
        (unfinished_after front piece))
    pub held : IfErr result (λ stop. stop ≡ BadLine → Holds (after_lines options.form core.inputs number state
        (taken_from options.strict options.form core.inputs number state (lines_after front piece))))
    pub stop : MatchResult result (λ _. stop_among options.strict options.form core.inputs number state (lines_after front piece) ≡ false)
        (λ stop. stop ≡ BadLine → stop_among options.strict options.form core.inputs number state (lines_after front piece) ≡ true)
