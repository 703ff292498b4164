-- A line that is taken: it stops the run, or the run goes on.
use Rattle.std.proofs.Common.{◌≡◌, ℕ, ℤ, Bool, true, false, if◌then◌else◌, List, [], ◌++◌, Option, Some, Result, Ok, Err, refl, sym, ap, ◌∙◌, length, drop, subst}
use Rattle.tilt_core.specs.Core.{CoreParts}
use Rattle.tilt_feed.specs.Feed.{Feed}
use Rattle.tilt_feed.specs.Printed.{begun, printed}
use Rattle.tilt_feed_form.proofs.Saying.{bad-same}
use Rattle.tilt_feed_form.specs.Report.{report, report_of}
use Rattle.tilt_feed_form.specs.Said.{FeedState, TextKept, after_line, ends, line_fault, stops}
use Rattle.tilt_feed_form.specs.declared.bad_feed_line.BadFeedLine.{BadFeedLine}
use Rattle.tilt_live_run.proofs.Reporting.{reports-whole}
use Rattle.tilt_live_run.specs.Output.{begun_news, begun_start, news}
use Rattle.tilt_serving.specs.Reported.{Reported}
use Rattle.tilt_live_run.specs.Taken.{HasTakenLine}
use Rattle.tilt_live_run.specs.declared.display.Display.{Display}
use Rattle.tilt_live_run.specs.declared.run_options.RunOptions.{RunOptions}
use Rattle.tilt_live_run.specs.declared.stop.Stop.{Stop}
use Rattle.tilt_live_run.specs.declared.stop.Stop.TheVariants as stop
use Rattle.tilt_outside.specs.Counts.{next_count}
use Rattle.tilt_row_text.specs.Lines.{lines_in}
use Rattle.tilt_row_text.specs.declared.style.RowStyle.{RowStyle}

-- a bad line stops the run or not, by what is kept after it
pub bad-stops : (core : CoreParts) (options : RunOptions) (number : ℕ) (state : FeedState) (line : List ℕ) (why : BadFeedLine) (kept : TextKept) (strict : Bool)
    → line_fault options.form core.inputs state.kept number line ≡ Some why → kept ≡ (after_line options.form core.inputs number line state).kept
    → strict ≡ options.strict → stops options.strict options.form core.inputs state number line ≡ ends strict kept (Some why)
bad-stops core options number state line why kept strict bad is same =
    let stays : after_line options.form core.inputs number line state ≡ state = bad-same options.form core.inputs number line state why bad in
    let held : state.kept ≡ kept = sym (is ∙ ap (λ (s : FeedState). s.kept) stays) in
    λ k. ends ((sym same) k) (held k) (bad k)

module _ {K : Type 0} (tells : Type 0) (written : K → List ℕ) (faults : K → ℕ) (core : CoreParts) (options : RunOptions) where
  -- a bad line stopped the run
  pub line-stopped : (err err_then : K) (Is : ℕ → FeedState → Type 0) (Holds : FeedState → Type 0) (number : ℕ) (state : FeedState) (line : List ℕ) (why : BadFeedLine)
      (result : Result (Unit {0}) Stop) → result ≡ Err stop.BadLine → line_fault options.form core.inputs state.kept number line ≡ Some why
      → stops options.strict options.form core.inputs state number line ≡ true
      → Reported tells written faults err err_then (report (next_count number) why) → Holds (after_line options.form core.inputs number line state)
      → HasTakenLine tells written faults err err_then Is Holds core options number state line result
  line-stopped err err_then Is Holds number state line why result is bad stopped told holds =
      let same : after_line options.form core.inputs number line state ≡ state = bad-same options.form core.inputs number line state why bad in
      record {
        reports = rw bad (reports-whole tells written faults err err_then (report (next_count number) why) result told);
        goes_on = rw is tt;
        held = rw is (λ e. subst Holds same holds);
        stop = rw is (λ e. stopped);
      }

  -- the run goes on
  pub line-taken : (err err_then : K) (Is : ℕ → FeedState → Type 0) (Holds : FeedState → Type 0) (number : ℕ) (state : FeedState) (line : List ℕ)
      → stops options.strict options.form core.inputs state number line ≡ false
      → Reported tells written faults err err_then (report_of number (line_fault options.form core.inputs state.kept number line))
      → Is (next_count number) (after_line options.form core.inputs number line state)
      → HasTakenLine tells written faults err err_then Is Holds core options number state line (Ok tt)
  line-taken err err_then Is Holds number state line goes told on = record {
    reports = reports-whole tells written faults err err_then _ (Ok (tt {0})) told;
    goes_on = on;
    held = tt;
    stop = goes;
  }

-- what is shown after a feed that was shown is the news
shown_if : (with_begun : Bool) (style : RowStyle) (core : CoreParts) (before after : Feed) (shown : Option ℤ) → (with_begun ≡ true → shown ≡ begun_start (begun core before))
    → lines_in style (drop (length (printed core before)) (printed core after)) ++ (if with_begun then begun_news style shown (begun core after) else [])
    ≡ news (record { with_begun = with_begun; style = style }) core before after
shown_if true style core before after shown is = rw (is refl) refl
shown_if false style core before after shown is = refl

pub shown-news : (display : Display) (core : CoreParts) (before after : Feed) (shown : Option ℤ) → (display.with_begun ≡ true → shown ≡ begun_start (begun core before))
    → lines_in display.style (drop (length (printed core before)) (printed core after)) ++ (if display.with_begun then begun_news display.style shown (begun core after) else [])
    ≡ news display core before after
shown-news display core before after shown is = shown_if display.with_begun display.style core before after shown is
