-- The last flush, after a feed was served.
use Rattle.std.proofs.Common.{◌≡◌, ◌≤◌, ℕ, true, false, List, [], Result, Ok, Err, OnOk, OnErr, refl, sym, ◌∙◌, append-nil, arith}
use Rattle.tilt_outside.proofs.Puts.{rose_from}
use Rattle.tilt_outside.specs.Faults.{Rose}
use Rattle.tilt_outside.specs.declared.failed.Failed.{Failed}
use Rattle.tilt_port.specs.Transcript.{Keeps, Transcript}
use Rattle.tilt_serving.proofs.Reporting.{front-whole, rose_first}
use Rattle.tilt_serving.specs.Meaning.{FeedMeaning}
use Rattle.tilt_serving.specs.Served.{HasEnded, HasServed, Start, all_reports, output_for}
use Rattle.tilt_serving.specs.Serving.{end_with}
use Rattle.tilt_serving.specs.Stops.{is_cut, is_whole}
use Rattle.tilt_serving.specs.declared.halt.Halt.{Halt}
use Rattle.tilt_serving.specs.declared.halt.Halt.TheVariants as halt

module _ (means : FeedMeaning) (start : Start) {K : Type 0} (tells : Type 0) (old mid new : Transcript) (err_tells : Type 0) (err_written : K → List ℕ) (err_faults : K → ℕ)
    (err err_then : K) (keeps : tells → Keeps mid new) (more : mid.write_faults ≤ new.write_faults) (same : new.read_faults ≡ mid.read_faults) where
  -- nothing else changed
  kept : (result : Result (Unit {0}) Halt) → HasServed means start tells old mid err_tells err_written err_faults err err_then result
      → HasServed means start tells old new err_tells err_written err_faults err err_then result
  kept (Ok u) served = record {
    bytes = served.bytes;
    moments = served.moments;
    read = λ t. (keeps t).reads_nothing.read ∙ served.read t;
    asked = λ t. (keeps t).reads_nothing.asked ∙ served.asked t;
    punctual = served.punctual;
    whole = λ t e. (keeps t).written ∙ served.whole t e;
    front = λ t e. absurd (cc e);
    reported = served.reported;
    reported_unread = tt;
    reported_front = served.reported_front;
    ended = λ t. (keeps t).reads_nothing.ended ∙ served.ended t;
    stops = served.stops;
    read_fault = tt;
    write_fault = tt;
    reads_kept = omega (arith, served.reads_kept, same);
    writes_kept = omega (arith, served.writes_kept, more);
  }
  kept (Err why) served = record {
    bytes = served.bytes;
    moments = served.moments;
    read = λ t. (keeps t).reads_nothing.read ∙ served.read t;
    asked = λ t. (keeps t).reads_nothing.asked ∙ served.asked t;
    punctual = served.punctual;
    whole = λ t e. (keeps t).written ∙ served.whole t e;
    front = λ t e. record {
      front = (served.front t e).front;
      rest = (served.front t e).rest;
      parts = (served.front t e).parts;
      appended = (keeps t).written ∙ (served.front t e).appended;
    };
    reported = served.reported;
    reported_unread = served.reported_unread;
    reported_front = served.reported_front;
    ended = λ _. tt;
    stops = served.stops;
    read_fault = λ e. rw same (served.read_fault e);
    write_fault = λ e. rose_first old.write_faults mid.write_faults new.write_faults served.writes_kept more (served.write_fault e);
    reads_kept = omega (arith, served.reads_kept, same);
    writes_kept = omega (arith, served.writes_kept, more);
  }

  -- it failed after all of the output had been written and all reports had been made
  unflushed : (end : Result (Unit {0}) Halt) → is_cut end ≡ false → is_whole end ≡ true → Rose mid.write_faults new.write_faults
      → HasServed means start tells old mid err_tells err_written err_faults err err_then end
      → HasServed means start tells old new err_tells err_written err_faults err err_then (Err halt.WriteFault)
  unflushed end uncut whole rose served = record {
    bytes = served.bytes;
    moments = served.moments;
    read = λ t. (keeps t).reads_nothing.read ∙ served.read t;
    asked = λ t. (keeps t).reads_nothing.asked ∙ served.asked t;
    punctual = served.punctual;
    whole = λ _ e. absurd (cc e);
    front = λ t _. record {
      front = output_for means start served.bytes;
      rest = [];
      parts = sym (append-nil (output_for means start served.bytes));
      appended = (keeps t).written ∙ served.whole t uncut;
    };
    reported = λ e. absurd (cc e);
    reported_unread = λ e. absurd (cc e);
    reported_front = λ _. rw (← append-nil (all_reports means start served.bytes))
        (front-whole err_tells err_written err_faults err err_then (all_reports means start served.bytes) [] (served.reported whole));
    ended = λ _. tt;
    stops = λ e. absurd (cc e);
    read_fault = λ e. absurd (cc e);
    write_fault = λ _. rose_from old.write_faults mid.write_faults new.write_faults served.writes_kept rose;
    reads_kept = omega (arith, served.reads_kept, same);
    writes_kept = omega (arith, served.writes_kept, more);
  }

  -- the end of the feed, whether it failed or not
  pub served-flushed : (Is : List ℕ → Type 0) (end : Result (Unit {0}) Halt) (flushed : Result (Unit {0}) Failed) → OnErr flushed (Rose mid.write_faults new.write_faults)
      → HasEnded means start tells old mid err_tells err_written err_faults err err_then Is end
      → HasEnded means start tells old new err_tells err_written err_faults err err_then Is (end_with end flushed)
  unfolding kept
  served-flushed Is (Ok u) (Ok v) rose ended = record { served = kept (Ok u) ended.served; is = ended.is }
  served-flushed Is (Ok u) (Err e) rose ended = record { served = unflushed (Ok u) refl refl rose ended.served; is = tt }
  served-flushed Is (Err halt.BadLine) (Ok v) rose ended = record { served = kept (Err halt.BadLine) ended.served; is = tt }
  served-flushed Is (Err halt.BadLine) (Err e) rose ended = record { served = unflushed (Err halt.BadLine) refl refl rose ended.served; is = tt }
  served-flushed Is (Err halt.TooManyKeys) (Ok v) rose ended = record { served = kept (Err halt.TooManyKeys) ended.served; is = tt }
  served-flushed Is (Err halt.TooManyKeys) (Err e) rose ended = record { served = unflushed (Err halt.TooManyKeys) refl refl rose ended.served; is = tt }
  served-flushed Is (Err halt.ReadFault) flushed rose ended = record { served = kept (Err halt.ReadFault) ended.served; is = tt }
  served-flushed Is (Err halt.WriteFault) flushed rose ended = record { served = kept (Err halt.WriteFault) ended.served; is = tt }
  served-flushed Is (Err halt.OutOfMemory) flushed rose ended = record { served = kept (Err halt.OutOfMemory) ended.served; is = tt }

-- what is so after a flush that didn't fail is so at the end of a feed, unless a fault or refused memory halted it
pub flushed-on : (end : Result (Unit {0}) Halt) (flushed : Result (Unit {0}) Failed) (A : Type 0) → OnOk flushed A → is_whole (end_with end flushed) ≡ true → A
flushed-on (Ok u) (Ok v) A a e = a
flushed-on (Ok u) (Err f) A a e = absurd (cc e)
flushed-on (Err halt.BadLine) (Ok v) A a e = a
flushed-on (Err halt.BadLine) (Err f) A a e = absurd (cc e)
flushed-on (Err halt.TooManyKeys) (Ok v) A a e = a
flushed-on (Err halt.TooManyKeys) (Err f) A a e = absurd (cc e)
flushed-on (Err halt.ReadFault) flushed A a e = absurd (cc e)
flushed-on (Err halt.WriteFault) flushed A a e = absurd (cc e)
flushed-on (Err halt.OutOfMemory) flushed A a e = absurd (cc e)
