-- What the run of a query does, as that of a feed does it.
use Rattle.std.proofs.Common.{◌≡◌, ℕ, Bool, true, false, ◌&&◌, List, ◌++◌, None, Result, Ok, Err, OnOk, IfErr, MatchResult, refl, ap}
use Rattle.tilt_core.specs.Core.{CoreParts}
use Rattle.tilt_live_run.proofs.Stepping.{added-more, reported-more, stopped-more}
use Rattle.tilt_live_run.specs.Adds.{Adds}
use Rattle.tilt_live_run.specs.Feeds.{bad_line_if, feed_result, feed_stop, live_meaning}
use Rattle.tilt_live_run.specs.Reported.{Reports}
use Rattle.tilt_live_run.specs.Runs.{is_stopped}
use Rattle.tilt_live_run.specs.declared.run_options.RunOptions.{RunOptions}
use Rattle.tilt_live_run.specs.declared.stop.Stop.{Stop}
use Rattle.tilt_live_run.specs.declared.stop.Stop.TheVariants.{BadLine, OutOfMemory, WriteFault}
use Rattle.tilt_port.specs.Transcript.{Transcript}
use Rattle.tilt_serving.specs.Adds as serving_adds
use Rattle.tilt_serving.specs.Meaning.{GoesByBytes}
use Rattle.tilt_serving.specs.Reported as serving_reported
use Rattle.tilt_serving.specs.Stops.{is_loss, is_lost, stop_of}

none_if : (stopped : Bool) → bad_line_if stopped ≡ None → stopped ≡ false
none_if true e = absurd (cc e)
none_if false e = refl

-- it goes by the bytes
pub goes_by_bytes : (core : CoreParts) (options : RunOptions) → GoesByBytes (live_meaning core options)
goes_by_bytes core options = record {
  none_added = λ before. refl;
  none_reported = λ before. refl;
  none_stops = λ before. refl;
  more_added = λ before piece more none. added-more core options before piece more (none_if _ none);
  more_reported = λ before piece more none. reported-more core options before piece more (none_if _ none);
  more_stops = λ before piece more none. ap bad_line_if (stopped-more core options before piece more (none_if _ none));
}

pub feed-adds : {T : Type 0} (tells : Type 0) (old new : Transcript) (bytes : List ℕ) (result : Result T Stop) → Adds tells old new bytes result
    → serving_adds.Adds tells old new bytes (feed_result result)
feed-adds tells old new bytes (Ok x) adds = record {
  whole = λ t _. adds.whole t;
  front = λ t e. absurd (cc e);
  reads_nothing = adds.reads_nothing;
  kept = adds.kept;
  rose = tt;
  reads = adds.reads;
}
feed-adds tells old new bytes (Err BadLine) adds = record {
  whole = λ t _. adds.stopped t refl;
  front = λ t e. absurd (cc e);
  reads_nothing = adds.reads_nothing;
  kept = adds.kept;
  rose = λ e. absurd (cc e);
  reads = adds.reads;
}
feed-adds tells old new bytes (Err WriteFault) adds = record {
  whole = λ t e. absurd (cc e);
  front = λ t _. adds.front t;
  reads_nothing = adds.reads_nothing;
  kept = adds.kept;
  rose = λ _. adds.rose refl;
  reads = adds.reads;
}
feed-adds tells old new bytes (Err OutOfMemory) adds = record {
  whole = λ t e. absurd (cc e);
  front = λ t _. adds.front t;
  reads_nothing = adds.reads_nothing;
  kept = adds.kept;
  rose = λ e. absurd (cc e);
  reads = adds.reads;
}

pub feed-reports : {K : Type 0} (tells : Type 0) (written : K → List ℕ) (faults : K → ℕ) (old new : K) (text : List ℕ) (result : Result (Unit {0}) Stop)
    → Reports tells written faults old new text result → serving_reported.Reports tells written faults old new text (feed_result result)
feed-reports tells written faults old new text (Ok u) reports = record { whole = λ _. reports.whole; front = λ e. absurd (cc e) }
feed-reports tells written faults old new text (Err BadLine) reports = record { whole = λ _. reports.stopped refl; front = λ e. absurd (cc e) }
feed-reports tells written faults old new text (Err WriteFault) reports = record { whole = λ e. absurd (cc e); front = λ _. reports.front }
feed-reports tells written faults old new text (Err OutOfMemory) reports = record { whole = λ e. absurd (cc e); front = λ _. reports.front }

-- why it stops
pub feed-stops : (stopped : Bool) (result : Result (Unit {0}) Stop) → MatchResult result (λ _. stopped ≡ false) (λ why. why ≡ BadLine → stopped ≡ true)
    → is_lost (feed_result result) ≡ false → stop_of (feed_result result) ≡ bad_line_if stopped
feed-stops stopped (Ok u) is going = rw is refl
feed-stops stopped (Err BadLine) is going = rw (is refl) refl
feed-stops stopped (Err WriteFault) is going = absurd (cc going)
feed-stops stopped (Err OutOfMemory) is going = absurd (cc going)

pub feed-ends : (stopped : Bool) (result : Result (Unit {0}) Stop) → MatchResult result (λ _. stopped ≡ false) (λ why. (why ≡ BadLine) × (stopped ≡ true))
    → stop_of (feed_result result) ≡ bad_line_if stopped
feed-ends stopped (Ok u) is = rw is refl
feed-ends stopped (Err why) is = rw (is.0, is.1) refl

-- by a line, if only bad lines stop it
pub feed-unlost : (result : Result (Unit {0}) Stop) → IfErr result (λ why. why ≡ BadLine) → is_lost (feed_result result) ≡ false
feed-unlost (Ok u) is = refl
feed-unlost (Err why) is = rw is refl

-- lost, if no bad line stops it
pub feed-lost : (why : Stop) → (why ≡ BadLine → ⊥) → is_loss (feed_stop why) ≡ true
feed-lost BadLine other = absurd (other refl)
feed-lost WriteFault other = refl
feed-lost OutOfMemory other = refl

-- what is so if it goes on
pub feed-ok : (result : Result (Unit {0}) Stop) (A B C : Type 0) → OnOk result A → OnOk result B → (A → B → C) → OnOk (feed_result result) C
feed-ok (Ok u) A B C a b make = make a b
feed-ok (Err why) A B C a b make = tt

-- and what is always so
pub feed-always : (result : Result (Unit {0}) Stop) (A : Type 0) → A → OnOk (feed_result result) A
feed-always (Ok u) A a = a
feed-always (Err why) A a = tt
