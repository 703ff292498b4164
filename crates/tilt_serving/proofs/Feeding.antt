-- Serving a feed, one step after another.
use Rattle.std.proofs.Common.{◌≡◌, ◌≤◌, ℕ, true, false, if◌then◌else◌, List, [], ◌∷◌, ◌++◌, take, None, is_some, Result, Ok, Err, OnOk, OnErr, refl, sym, ap, is_err, ◌∙◌, append_assoc, append-nil, arith}
use Rattle.std.specs.List.{AllByRecursion}
use Rattle.tilt_outside.proofs.Puts.{front_behind, rose_from}
use Rattle.tilt_outside.specs.Faults.{Rose}
use Rattle.tilt_outside.specs.declared.failed.Failed.{Failed}
use Rattle.tilt_port.specs.Transcript.{HasRead, Keeps, Moment, Transcript, moment_of}
use Rattle.tilt_serving.proofs.Reporting.{front-behind, front-more, front-whole, reported-none, reported-then}
use Rattle.tilt_serving.specs.Adds.{Adds}
use Rattle.tilt_serving.specs.Meaning.{FeedMeaning, GoesByBytes}
use Rattle.tilt_serving.specs.Reported.{Reported, Reports}
use Rattle.tilt_serving.specs.Served.{HasEnded, HasServed, IsPunctual, IsServing, Start, all_reports, end_for, line_reports, output_for, start_after, stop_for}
use Rattle.tilt_serving.specs.Serving.{GoesOn}
use Rattle.tilt_serving.specs.Stops.{halt_of, is_cut, is_loss, is_lost, is_whole, line_stop_of, stop_of}
use Rattle.tilt_serving.specs.declared.halt.Halt.{Halt}
use Rattle.tilt_serving.specs.declared.halt.Halt.TheVariants as halt
use Rattle.tilt_serving.specs.declared.stop.Stop.{Stop}
use Rattle.tilt_serving.specs.declared.stop.Stop.TheVariants as stop

-- what is so of all moments, and of one more
all-push : (P : Moment → Type 0) (xs : List Moment) (x : Moment) → AllByRecursion P xs → P x → AllByRecursion P (xs ++ x ∷ [])
all-push P [] x all p = (p, tt)
all-push P (y ∷ ys) x all p = (all.0, all-push P ys x all.1 p)

-- What a stop of the run is for its feed. It is never a read fault, and a write fault only if it is one. It is cut off exactly if the run is lost
halt-read : (why : Stop) → halt_of why ≡ halt.ReadFault → ⊥
halt-read stop.BadLine e = cc e
halt-read stop.TooManyKeys e = cc e
halt-read stop.WriteFault e = cc e
halt-read stop.OutOfMemory e = cc e

halt-write : (why : Stop) → halt_of why ≡ halt.WriteFault → why ≡ stop.WriteFault
halt-write stop.BadLine e = absurd (cc e)
halt-write stop.TooManyKeys e = absurd (cc e)
halt-write stop.WriteFault e = refl
halt-write stop.OutOfMemory e = absurd (cc e)

halt-cut : (why : Stop) → is_cut {T = Unit {0}} (Err (halt_of why)) ≡ is_loss why
halt-cut stop.BadLine = refl
halt-cut stop.TooManyKeys = refl
halt-cut stop.WriteFault = refl
halt-cut stop.OutOfMemory = refl

-- if it is whole, a line stopped the run
halt-whole : (why : Stop) → is_whole {T = Unit {0}} (Err (halt_of why)) ≡ true → is_loss why ≡ false
halt-whole stop.BadLine e = refl
halt-whole stop.TooManyKeys e = refl
halt-whole stop.WriteFault e = absurd (cc e)
halt-whole stop.OutOfMemory e = absurd (cc e)

halt-line : (why : Stop) → is_loss why ≡ false → line_stop_of {T = Unit {0}} (Err (halt_of why)) ≡ stop_of {T = Unit {0}} (Err why)
halt-line stop.BadLine e = refl
halt-line stop.TooManyKeys e = refl
halt-line stop.WriteFault e = absurd (cc e)
halt-line stop.OutOfMemory e = absurd (cc e)

-- what is so if a call failed, and if it didn't
pub when-failed : (result : Result (Unit {0}) Failed) (A : Type 0) → true ≡ is_err result → OnErr result A → A
when-failed (Ok u) A failed a = absurd (cc failed)
when-failed (Err e) A failed a = a

pub when-done : (result : Result (Unit {0}) Failed) (A : Type 0) → false ≡ is_err result → OnOk result A → A
when-done (Ok u) A done a = a
when-done (Err e) A done a = absurd (cc done)

-- a read that failed changed nothing
pub read-failed : (old new : Transcript) (room : List ℕ) (e : Failed) → HasRead old new room (Err e) → Keeps old new
read-failed old new room e read = record {
  reads_nothing = record { read = read.piece; asked = read.asked; ended = read.ended };
  written = read.written;
}

module _ (means : FeedMeaning) (start : Start) where
  -- all reports, by whether a line stops the run
  all-stopped : (bytes : List ℕ) (why : Stop) → stop_for means start bytes ≡ stop_of {T = Unit {0}} (Err why) → all_reports means start bytes ≡ line_reports means start bytes
  all-stopped bytes why e = rw (e, append-nil (line_reports means start bytes)) refl

  all-ended : (bytes : List ℕ) → stop_for means start bytes ≡ None
      → all_reports means start bytes ≡ line_reports means start bytes ++ means.end_report (start.before ++ bytes)
  all-ended bytes e = rw e refl

  -- and why the run stops
  end-stopped : (bytes : List ℕ) (why : Stop) → stop_for means start bytes ≡ stop_of {T = Unit {0}} (Err why) → end_for means start bytes ≡ stop_of {T = Unit {0}} (Err why)
  end-stopped bytes why e = rw e refl

  end-ended : (bytes : List ℕ) → stop_for means start bytes ≡ None → end_for means start bytes ≡ means.end_stop (start.before ++ bytes)
  end-ended bytes e = rw e refl

  -- more bytes, if none of the lines before stops the run
  module _ (laws : GoesByBytes means) where
    pub output-more : (bytes piece : List ℕ) → stop_for means start bytes ≡ None
        → output_for means start (bytes ++ piece) ≡ output_for means start bytes ++ means.added (start.before ++ bytes) piece
    output-more bytes piece none =
        ap (λ (more : List ℕ). start.head ++ more) (laws.more_added start.before bytes piece none)
        ∙ sym (append_assoc start.head (means.added start.before bytes) (means.added (start.before ++ bytes) piece))

    pub reports-more : (bytes piece : List ℕ) → stop_for means start bytes ≡ None
        → line_reports means start (bytes ++ piece) ≡ line_reports means start bytes ++ means.reported (start.before ++ bytes) piece
    reports-more bytes piece none = laws.more_reported start.before bytes piece none

    pub stop-more : (bytes piece : List ℕ) → stop_for means start bytes ≡ None
        → stop_for means start (bytes ++ piece) ≡ means.stop (start.before ++ bytes) piece
    stop-more bytes piece none = laws.more_stops start.before bytes piece none

    pub all-more : (bytes more : List ℕ) → stop_for means start bytes ≡ None
        → all_reports means start (bytes ++ more) ≡ line_reports means start bytes ++ all_reports means (start_after start bytes) more
    all-more bytes more none =
        rw (reports-more bytes more none, stop-more bytes more none, ← append_assoc start.before bytes more)
        (append_assoc (line_reports means start bytes) (means.reported (start.before ++ bytes) more)
        (if is_some (means.stop (start.before ++ bytes) more) then [] else means.end_report ((start.before ++ bytes) ++ more)))

    pub end-more : (bytes more : List ℕ) → stop_for means start bytes ≡ None
        → end_for means start (bytes ++ more) ≡ end_for means (start_after start bytes) more
    end-more bytes more none = rw (stop-more bytes more none, ← append_assoc start.before bytes more) refl

  module _ {K : Type 0} (tells : Type 0) (err_tells : Type 0) (err_written : K → List ℕ) (err_faults : K → ℕ) where
    -- nothing was read yet, and what comes before all that is read was written
    serving-begun : {T : Type 0} (old new : Transcript) (err : K) (x : T) → GoesByBytes means
        → Adds tells old new start.head (Ok x)
        → IsServing means start tells old new err_tells err_written err_faults err err [] []
    serving-begun old new err x laws adds = record {
      read = λ told. (adds.reads_nothing told).read ∙ sym (append-nil old.read);
      written = λ told. rw (laws.none_added start.before, append-nil start.head) (adds.whole told refl);
      asked = λ told. (adds.reads_nothing told).asked ∙ sym (append-nil old.asked);
      punctual = λ _. tt;
      reported = rw (laws.none_reported start.before) (reported-none err_tells err_written err_faults err);
      no_stop = laws.none_stops start.before;
      reads_kept = omega (arith, adds.reads);
      writes_kept = adds.kept;
    }

    -- the run was lost before anything was read
    pub served-none : {T : Type 0} (old new : Transcript) (err : K) (why : Stop) (result : Result (Unit {0}) Halt) → result ≡ Err (halt_of why) → is_loss why ≡ true
        → GoesByBytes means → Adds {T = T} tells old new start.head (Err why)
        → HasServed means start tells old new err_tells err_written err_faults err err result
    served-none old new err why result is lost laws adds = rw is record {
      bytes = [];
      moments = [];
      read = λ told. (adds.reads_nothing told).read ∙ sym (append-nil old.read);
      asked = λ told. (adds.reads_nothing told).asked ∙ sym (append-nil old.asked);
      punctual = λ _. tt;
      whole = λ _ e. absurd (cc (sym (halt-cut why ∙ lost) ∙ e));
      front = λ told _. rw (laws.none_added start.before, append-nil start.head) (adds.front told lost);
      reported = λ e. absurd (cc (sym lost ∙ halt-whole why e));
      reported_unread = λ e. absurd (halt-read why e);
      reported_front = λ _. rw (laws.none_reported start.before)
          (front-whole err_tells err_written err_faults err err [] _ (reported-none err_tells err_written err_faults err));
      ended = λ _. tt;
      stops = λ e. absurd (cc (sym lost ∙ halt-whole why e));
      read_fault = λ e. absurd (halt-read why e);
      write_fault = λ e. adds.rose (halt-write why e);
      reads_kept = omega (arith, adds.reads);
      writes_kept = adds.kept;
    }

    module _ (old : Transcript) (err : K) (bytes : List ℕ) (moments : List Moment) where
      -- what was served was flushed
      pub serving-kept : (mid new : Transcript) (err_then : K) → (tells → Keeps mid new) → mid.write_faults ≤ new.write_faults → mid.read_faults ≤ new.read_faults
          → IsServing means start tells old mid err_tells err_written err_faults err err_then bytes moments
          → IsServing means start tells old new err_tells err_written err_faults err err_then bytes moments
      serving-kept mid new err_then keeps more less serving = record {
        read = λ told. (keeps told).reads_nothing.read ∙ serving.read told;
        written = λ told. (keeps told).written ∙ serving.written told;
        asked = λ told. (keeps told).reads_nothing.asked ∙ serving.asked told;
        punctual = serving.punctual;
        reported = serving.reported;
        no_stop = serving.no_stop;
        reads_kept = omega (arith, serving.reads_kept, less);
        writes_kept = omega (arith, serving.writes_kept, more);
      }

      -- a fault of the port, or memory that was refused, halted it
      pub served-halted : (new : Transcript) (err_then : K) (why : Halt) (result : Result (Unit {0}) Halt) → result ≡ Err why → is_whole {T = Unit {0}} (Err why) ≡ false
          → (why ≡ halt.ReadFault → Rose old.read_faults new.read_faults) → (why ≡ halt.WriteFault → Rose old.write_faults new.write_faults)
          → IsServing means start tells old new err_tells err_written err_faults err err_then bytes moments
          → HasServed means start tells old new err_tells err_written err_faults err err_then result
      served-halted new err_then why result is unwhole reads writes serving = rw is record {
        bytes = bytes;
        moments = moments;
        read = serving.read;
        asked = serving.asked;
        punctual = serving.punctual;
        whole = λ told _. serving.written told;
        front = λ told _. record {
          front = output_for means start bytes;
          rest = [];
          parts = sym (append-nil (output_for means start bytes));
          appended = serving.written told;
        };
        reported = λ e. absurd (cc (sym unwhole ∙ e));
        reported_unread = λ _. serving.reported;
        reported_front = λ _. front-whole err_tells err_written err_faults err err_then _ _ serving.reported;
        ended = λ _. tt;
        stops = λ e. absurd (cc (sym unwhole ∙ e));
        read_fault = reads;
        write_fault = writes;
        reads_kept = serving.reads_kept;
        writes_kept = serving.writes_kept;
      }

      -- The port when all of that was handed on, and after more was read.
      module _ (mid new : Transcript) (room : List ℕ) (err_mid : K) (flushed : mid.held_back ≡ 0) (reads : mid.read_faults ≤ new.read_faults) (writes : new.write_faults ≡ mid.write_faults)
          (serving : IsServing means start tells old mid err_tells err_written err_faults err err_mid bytes moments) where
        this_moment : tells → IsPunctual means start old (moment_of mid)
        this_moment told = record { bytes = bytes; read = serving.read told; written = serving.written told; handed_on = flushed }

        asked_now : (n : ℕ) → (tells → HasRead mid new room (Ok n)) → tells → new.asked ≡ old.asked ++ (moments ++ moment_of mid ∷ [])
        asked_now n read told = (read told).asked ∙ rw (serving.asked told) (append_assoc old.asked moments (moment_of mid ∷ []))

        punctual_now : tells → AllByRecursion (IsPunctual means start old) (moments ++ moment_of mid ∷ [])
        punctual_now told = all-push (IsPunctual means start old) moments (moment_of mid) (serving.punctual told) (this_moment told)

        read_now : (n : ℕ) → (tells → HasRead mid new room (Ok n)) → tells → new.read ≡ old.read ++ (bytes ++ take n room)
        read_now n read told = (read told).piece ∙ rw (serving.read told) (append_assoc old.read bytes (take n room))

        -- the feed had ended, and its end was reported
        module _ (err_then : K) (read : tells → HasRead mid new room (Ok 0))
            (told : Reported err_tells err_written err_faults err_mid err_then (means.end_report (start.before ++ bytes))) where
          all_told : Reported err_tells err_written err_faults err err_then (all_reports means start bytes)
          all_told = rw (all-ended bytes serving.no_stop) (reported-then err_tells err_written err_faults err err_mid err_then _ _ serving.reported told)

          -- so it ends, and this is so of all its bytes
          pub served-ended : (Is : List ℕ → Type 0) → stop_of {T = Unit {0}} (Ok tt) ≡ means.end_stop (start.before ++ bytes) → Is (start.before ++ bytes)
              → HasEnded means start tells old new err_tells err_written err_faults err err_then Is (Ok tt)
          served-ended Is stops so = record {
            served = record {
              bytes = bytes;
              moments = moments ++ moment_of mid ∷ [];
              read = λ t. rw (append-nil bytes) at (read_now 0 read t);
              asked = asked_now 0 read;
              punctual = punctual_now;
              whole = λ t _. (read t).written ∙ serving.written t;
              front = λ _ e. absurd (cc e);
              reported = λ _. all_told;
              reported_unread = tt;
              reported_front = λ e. absurd (cc e);
              ended = λ t. (read t).ended;
              stops = λ _. stops ∙ sym (end-ended bytes serving.no_stop);
              read_fault = tt;
              write_fault = tt;
              reads_kept = omega (arith, serving.reads_kept, reads);
              writes_kept = omega (arith, serving.writes_kept, writes);
            };
            is = so;
          }

          -- or its end stops the run
          pub served-last : (why : Stop) (result : Result (Unit {0}) Halt) → result ≡ Err (halt_of why) → is_loss why ≡ false
              → stop_of {T = Unit {0}} (Err why) ≡ means.end_stop (start.before ++ bytes)
              → HasServed means start tells old new err_tells err_written err_faults err err_then result
          served-last why result is line stops = rw is record {
            bytes = bytes;
            moments = moments ++ moment_of mid ∷ [];
            read = λ t. rw (append-nil bytes) at (read_now 0 read t);
            asked = asked_now 0 read;
            punctual = punctual_now;
            whole = λ t _. (read t).written ∙ serving.written t;
            front = λ _ e. absurd (cc (sym (halt-cut why ∙ line) ∙ e));
            reported = λ _. all_told;
            reported_unread = λ e. absurd (halt-read why e);
            reported_front = λ e. absurd (cc (sym (halt-cut why ∙ line) ∙ e));
            ended = λ _. tt;
            stops = λ _. halt-line why line ∙ stops ∙ sym (end-ended bytes serving.no_stop);
            read_fault = λ e. absurd (halt-read why e);
            write_fault = λ e. absurd (cc (sym line ∙ ap is_loss (halt-write why e)));
            reads_kept = omega (arith, serving.reads_kept, reads);
            writes_kept = omega (arith, serving.writes_kept, writes);
          }

        -- more was read and taken
        module _ (laws : GoesByBytes means) (n : ℕ) (later : Transcript) (err_then : K) (read : tells → HasRead mid new room (Ok n)) where
          written_now : (result : Result (Unit {0}) Stop) → Adds tells new later (means.added (start.before ++ bytes) (take n room)) result → is_lost result ≡ false → tells
              → later.written ≡ old.written ++ output_for means start (bytes ++ take n room)
          written_now result adds going t =
              adds.whole t going ∙ rw (output-more laws bytes (take n room) serving.no_stop, (read t).written, serving.written t)
              (append_assoc old.written (output_for means start bytes) (means.added (start.before ++ bytes) (take n room)))

          told_now : Reported err_tells err_written err_faults err_mid err_then (means.reported (start.before ++ bytes) (take n room))
              → Reported err_tells err_written err_faults err err_then (line_reports means start (bytes ++ take n room))
          told_now told =
              rw (reports-more laws bytes (take n room) serving.no_stop) (reported-then err_tells err_written err_faults err err_mid err_then _ _ serving.reported told)

          pub serving-more : Adds tells new later (means.added (start.before ++ bytes) (take n room)) (Ok (tt {0}))
              → Reports err_tells err_written err_faults err_mid err_then (means.reported (start.before ++ bytes) (take n room)) (Ok (tt {0}))
              → stop_of {T = Unit {0}} (Ok tt) ≡ means.stop (start.before ++ bytes) (take n room)
              → IsServing means start tells old later err_tells err_written err_faults err err_then (bytes ++ take n room) (moments ++ moment_of mid ∷ [])
          serving-more adds reports stops = record {
            read = λ t. (adds.reads_nothing t).read ∙ read_now n read t;
            written = written_now (Ok tt) adds refl;
            asked = λ t. (adds.reads_nothing t).asked ∙ asked_now n read t;
            punctual = punctual_now;
            reported = told_now (reports.whole refl);
            no_stop = stop-more laws bytes (take n room) serving.no_stop ∙ sym stops;
            reads_kept = omega (arith, serving.reads_kept, reads, adds.reads);
            writes_kept = omega (arith, serving.writes_kept, writes, adds.kept);
          }

          -- the run stopped at it
          pub served-stopped : (why : Stop) (result : Result (Unit {0}) Halt) → result ≡ Err (halt_of why)
              → Adds {T = Unit {0}} tells new later (means.added (start.before ++ bytes) (take n room)) (Err why)
              → Reports err_tells err_written err_faults {T = Unit {0}} err_mid err_then (means.reported (start.before ++ bytes) (take n room)) (Err why)
              → (is_loss why ≡ false → stop_of {T = Unit {0}} (Err why) ≡ means.stop (start.before ++ bytes) (take n room))
              → HasServed means start tells old later err_tells err_written err_faults err err_then result
          served-stopped why result is adds reports stops =
              let stopped : is_loss why ≡ false → stop_for means start (bytes ++ take n room) ≡ stop_of {T = Unit {0}} (Err why) =
              λ line. stop-more laws bytes (take n room) serving.no_stop ∙ sym (stops line) in
              rw is record {
                bytes = bytes ++ take n room;
                moments = moments ++ moment_of mid ∷ [];
                read = λ t. (adds.reads_nothing t).read ∙ read_now n read t;
                asked = λ t. (adds.reads_nothing t).asked ∙ asked_now n read t;
                punctual = punctual_now;
                whole = λ t e. written_now (Err why) adds (sym (halt-cut why) ∙ e) t;
                front = λ t e.
                    rw (output-more laws bytes (take n room) serving.no_stop)
                    (front_behind old.written new.written later.written (output_for means start bytes) (means.added (start.before ++ bytes) (take n room))
                    ((read t).written ∙ serving.written t) (adds.front t (sym (halt-cut why) ∙ e)));
                reported = λ e. rw (all-stopped (bytes ++ take n room) why (stopped (halt-whole why e))) (told_now (reports.whole (halt-whole why e)));
                reported_unread = λ e. absurd (halt-read why e);
                reported_front = λ e.
                    front-more err_tells err_written err_faults err err_then (line_reports means start (bytes ++ take n room))
                    (if is_some (stop_for means start (bytes ++ take n room)) then [] else means.end_report (start.before ++ (bytes ++ take n room)))
                    (rw (reports-more laws bytes (take n room) serving.no_stop)
                    (front-behind err_tells err_written err_faults err err_mid err_then _ _ serving.reported (reports.front (sym (halt-cut why) ∙ e))));
                ended = λ _. tt;
                stops = λ e. halt-line why (halt-whole why e) ∙ sym (end-stopped (bytes ++ take n room) why (stopped (halt-whole why e)));
                read_fault = λ e. absurd (halt-read why e);
                write_fault = λ e. rose_from old.write_faults new.write_faults later.write_faults (omega (arith, serving.writes_kept, writes)) (adds.rose (halt-write why e));
                reads_kept = omega (arith, serving.reads_kept, reads, adds.reads);
                writes_kept = omega (arith, serving.writes_kept, writes, adds.kept);
              }

-- nothing was read yet by the run, and what comes before all that it reads was written
pub going-begun : {K T : Type 0} (means : FeedMeaning) (Is : List ℕ → Type 0) (start : Start) (tells : Type 0) (old new : Transcript) (err_tells : Type 0)
    (err_written : K → List ℕ) (err_faults : K → ℕ) (err : K) (x : T) → GoesByBytes means → Is start.before → Adds tells old new start.head (Ok x)
    → GoesOn means Is start tells old new err_tells err_written err_faults err err
going-begun means Is start tells old new err_tells err_written err_faults err x laws is adds = record {
  bytes = [];
  moments = [];
  is = rw (append-nil start.before) is;
  serving = serving-begun means start tells err_tells err_written err_faults old new err x laws adds;
}
