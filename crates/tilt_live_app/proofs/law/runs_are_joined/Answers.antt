use Rattle.std.proofs.Common.{◌≡◌, ◌&&◌, ◌||◌, ◌++◌, Bool, true, false, List, ℕ, [], if◌then◌else◌, is_some, refl}
use Rattle.std.specs.Option.{option_or}
use Rattle.tilt_live_run.proofs.Feeding.{goes_by_bytes}
use Rattle.tilt_live_app.specs.Resumed.{first_start}
use Rattle.tilt_live_run.specs.Feeds.{bad_line_if, live_meaning}
use Rattle.tilt_live_run.specs.Runs.{end_report, is_stopped, is_unfinished}
use Rattle.tilt_serving.proofs.Feeding.{all-more, end-more, output-more}
use Rattle.tilt_serving.specs.Served.{line_reports}
use Rattle.tilt_live_app.proofs.law.runs_are_joined.Goals as goal

-- a stop by a bad line is one exactly if it is so
some_if : (stopped : Bool) (x y : List ℕ) → x ++ (if is_some (bad_line_if stopped) then [] else y) ≡ x ++ (if stopped then [] else y)
some_if true x y = refl
some_if false x y = refl

either_if : (first rest : Bool) → option_or (bad_line_if first) (bad_line_if rest) ≡ bad_line_if (first || rest)
either_if true rest = refl
either_if false rest = refl

pub returns-clause-first : goal.returns-clause-first
returns-clause-first c = λ core options bytes. refl

pub returns-clause-first_stop : goal.returns-clause-first_stop
returns-clause-first_stop c = λ core options bytes. refl

pub returns-clause-first_lines : goal.returns-clause-first_lines
returns-clause-first_lines c = λ core options bytes. refl

pub returns-clause-first_reported : goal.returns-clause-first_reported
returns-clause-first_reported c = λ core options bytes.
    some_if (is_stopped options core [] bytes) (line_reports (live_meaning core options) (first_start core options) bytes) (end_report options bytes)

pub returns-clause-first_badly : goal.returns-clause-first_badly
returns-clause-first_badly c = λ core options bytes. either_if (is_stopped options core [] bytes) (options.strict && is_unfinished bytes)

pub returns-clause-written : goal.returns-clause-written
returns-clause-written c = λ core options start bytes more none. output-more (live_meaning core options) start (goes_by_bytes core options) bytes more none

pub returns-clause-reported : goal.returns-clause-reported
returns-clause-reported c = λ core options start bytes more none. all-more (live_meaning core options) start (goes_by_bytes core options) bytes more none

pub returns-clause-badly : goal.returns-clause-badly
returns-clause-badly c = λ core options start bytes more none. end-more (live_meaning core options) start (goes_by_bytes core options) bytes more none
