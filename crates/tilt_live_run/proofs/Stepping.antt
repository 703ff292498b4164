-- Pieces that are taken and shown, one after another.
use Rattle.std.proofs.Common.{◌≡◌, ◌==◌, ℕ, Bool, true, false, if◌then◌else◌, List, [], ◌∷◌, ◌++◌, None, Some, Result, Ok, Err, OnOk, IfErr, MatchResult, refl, sym, ap, ◌∙◌, append_assoc, inl, inr, subst, length, length-append, take, drop, ◌+◌, ◌≤◌, arith}
use Rattle.std.specs.Prelude.{⊤}
use Rattle.std.proofs.lemmas.Bool.{cases_Bool}
use Rattle.std.proofs.Math.Seq.{drop-append_seam}
use Rattle.std.proofs.lemmas.List.{append-nil, take_at}
use Rattle.std.proofs.lemmas.Option.{none-some, same_Some}
use Rattle.tilt_compiler.specs.Accepted.{AcceptedParts}
use Rattle.tilt_core.specs.Core.{CoreParts}
use Rattle.tilt_feed.specs.Feed.{Feed}
use Rattle.tilt_feed.specs.Printed.{begun, printed}
use Rattle.tilt_feed_form.proofs.Saying.{reports-append, reports-stop, stop-append, stop-stop, taken-all, taken-append, taken-stop}
use Rattle.tilt_feed_text.proofs.Splitting.{lines-append, lines-none, lines-until, unfinished-append, unfinished-until}
use Rattle.tilt_feed_form.specs.Machine.{form_of, kept_of}
use Rattle.tilt_feed_form.specs.Said.{FeedState, after_line, after_lines, stops, taken_from}
use Rattle.tilt_feed_text.specs.Said.{number_after}
use Rattle.tilt_feed_text.specs.Split.{lines_after, unfinished, unfinished_after}
use Rattle.tilt_feed_text.specs.declared.pending.TheConstants.{LINE}
use Rattle.tilt_input_state.specs.Resume.{first_read}
use Rattle.tilt_live.specs.Lives.{IsLiveOf, tick_of_live}
use Rattle.tilt_live_run.proofs.Adding.{adds-none, adds-short, adds-stopped, adds-then}
use Rattle.tilt_live_run.proofs.Newly.{news-same}
use Rattle.tilt_live_run.proofs.Outputs.{news-append}
use Rattle.tilt_live_run.proofs.Reporting.{reports-none, reports-short, reports-then, reports-whole}
use Rattle.tilt_live_run.proofs.Running.{number-more, state-more}
use Rattle.tilt_live_run.specs.Adds.{Adds}
use Rattle.tilt_live_run.specs.KeptRows.{KeepsRows}
use Rattle.tilt_live_run.specs.Output.{begun_start, news, news_from}
use Rattle.tilt_live_run.specs.Reported.{Reports}
use Rattle.tilt_live_run.specs.Runs.{IsRunAfter, IsRunOf, added, is_stopped, new_lines, number_of, reported, state_after, state_taken}
use Rattle.tilt_live_run.specs.Stepped.{HasTaken, HasWritten, is_lost}
use Rattle.tilt_live_run.specs.Taken.{HasTakenPiece}
use Rattle.tilt_live_run.specs.declared.live_run.LiveRun.{LiveRun}
use Rattle.tilt_live_run.specs.declared.run_options.RunOptions.{RunOptions}
use Rattle.tilt_live_run.specs.declared.stop.Stop.{Stop}
use Rattle.tilt_live_run.specs.declared.stop.Stop.TheVariants.{BadLine, OutOfMemory, WriteFault}
use Rattle.tilt_port.specs.Transcript.{Transcript}
use Rattle.tilt_text.proofs.Lacks.{Lacks, lacks-more}
use Rattle.tilt_text.proofs.Step.{bind_some}
use Rattle.tilt_text.proofs.Words.{front-until, until-front}
use Rattle.tilt_text.specs.Cut.{onto, until_at}
use Rattle.tilt_text.specs.Step.{◌>>=◌}

-- the bytes before a mark are without it
lacks_head : (mark b : ℕ) (bs front rest : List ℕ) (here : Bool) → (b == mark) ≡ here → ((f r : List ℕ) → until_at mark bs ≡ Some (f, r) → Lacks mark f)
    → (if here then Some ([], bs) else (until_at mark bs >>= onto b)) ≡ Some (front, rest) → Lacks mark front
lacks_head mark b bs front rest true is before e =
    let p = same_Some ([], bs) (front, rest) e in
    subst (Lacks mark) (ap (λ (q : List ℕ × List ℕ). q.0) p) refl
lacks_head mark b bs front rest false is before e =
    let s = bind_some (until_at mark bs) (onto b) (front, rest) e in
    let p = same_Some (b ∷ s.0.0, s.0.1) (front, rest) s.2 in
    subst (Lacks mark) (ap (λ (q : List ℕ × List ℕ). q.0) p) (lacks-more mark b s.0.0 is (before s.0.0 s.0.1 s.1))

lacks_until : (mark : ℕ) (bytes front rest : List ℕ) → until_at mark bytes ≡ Some (front, rest) → Lacks mark front
lacks_until mark [] front rest e = absurd (none-some (front, rest) e)
lacks_until mark (b ∷ bs) front rest e = lacks_head mark b bs front rest (b == mark) refl (lacks_until mark bs) e

-- of a first line with its LF
pub line-lines : (front bytes line rest : List ℕ) → until_at 10 bytes ≡ Some (line, rest) → lines_after front (line ++ 10 ∷ []) ≡ (front ++ line) ∷ []
line-lines front bytes line rest found =
    lines-until front (line ++ 10 ∷ []) line [] (until-front 10 line [] (lacks_until 10 bytes line rest found))

-- nothing of it is unfinished
pub line-ends : (front bytes line rest : List ℕ) → until_at 10 bytes ≡ Some (line, rest) → unfinished_after front (line ++ 10 ∷ []) ≡ []
line-ends front bytes line rest found =
    unfinished-until front (line ++ 10 ∷ []) line [] (until-front 10 line [] (lacks_until 10 bytes line rest found))

pub line-then : (bytes line rest : List ℕ) → until_at 10 bytes ≡ Some (line, rest) → bytes ≡ (line ++ 10 ∷ []) ++ rest
line-then bytes line rest found = front-until 10 bytes line rest found ∙ sym (append_assoc line (10 ∷ []) rest)

module _ (core : CoreParts) (options : RunOptions) (bytes : List ℕ) where
  lines_of_both : (p q : List ℕ) → new_lines bytes (p ++ q) ≡ new_lines bytes p ++ new_lines (bytes ++ p) q
  lines_of_both p q = lines-append (unfinished bytes) p q ∙ rw (unfinished-append [] bytes p) refl

  -- what is added by a piece and then another one, if no line of the first stops the run
  pub added-more : (p q : List ℕ) → is_stopped options core bytes p ≡ false → added options core bytes (p ++ q) ≡ added options core bytes p ++ added options core (bytes ++ p) q
  added-more p q none =
      let n = number_of bytes in
      let s = state_after options core bytes in
      let whole = taken-append options.strict options.form core.inputs n s (new_lines bytes p) [] none in
      let all : taken_from options.strict options.form core.inputs n s (new_lines bytes p) ≡ new_lines bytes p = rw (append-nil (new_lines bytes p)) at whole in
      rw (
        lines_of_both p q,
        taken-append options.strict options.form core.inputs n s (new_lines bytes p) (new_lines (bytes ++ p) q) none,
        all,
        news-append options core n s (new_lines bytes p)
            (taken_from options.strict options.form core.inputs (number_after n (new_lines bytes p))
            (after_lines options.form core.inputs n s (new_lines bytes p)) (new_lines (bytes ++ p) q)),
        number-more bytes p,
        state-more options core bytes p,
      ) refl

  pub reported-more : (p q : List ℕ) → is_stopped options core bytes p ≡ false
      → reported options core bytes (p ++ q) ≡ reported options core bytes p ++ reported options core (bytes ++ p) q
  reported-more p q none =
      rw (
        lines_of_both p q,
        reports-append options.strict options.form core.inputs (number_of bytes) (state_after options core bytes) (new_lines bytes p) (new_lines (bytes ++ p) q) none,
        number-more bytes p,
        state-more options core bytes p,
      ) refl

  pub stopped-more : (p q : List ℕ) → is_stopped options core bytes p ≡ false → is_stopped options core bytes (p ++ q) ≡ is_stopped options core (bytes ++ p) q
  stopped-more p q none =
      rw (
        lines_of_both p q,
        stop-append options.strict options.form core.inputs (number_of bytes) (state_after options core bytes) (new_lines bytes p) (new_lines (bytes ++ p) q) none,
        number-more bytes p,
        state-more options core bytes p,
      ) refl

  -- what is news of one line, and of no line
  one_added : (n : ℕ) (s : FeedState) (x : List ℕ)
      → news options.display core s.feed (after_lines options.form core.inputs n s (taken_from options.strict options.form core.inputs n s (x ∷ []))).feed
      ≡ news_from options core n s (taken_from options.strict options.form core.inputs n s (x ∷ []))
  one_added n s x =
      elim (cases_Bool (stops options.strict options.form core.inputs s n x)) [
        | inl stopped ↦ rw stopped (news-same options.display core s.feed)
        | inr going ↦ rw (going, append-nil (news options.display core s.feed (after_line options.form core.inputs n x s).feed)) refl
      ]

  pub line-added : (rest line after : List ℕ) → until_at 10 rest ≡ Some (line, after)
      → news options.display core (state_after options core bytes).feed (state_taken options core bytes (line ++ 10 ∷ [])).feed ≡ added options core bytes (line ++ 10 ∷ [])
  line-added rest line after found = rw (line-lines (unfinished bytes) rest line after found) (one_added (number_of bytes) (state_after options core bytes) (unfinished bytes ++ line))

  pub none-added : (rest : List ℕ) → until_at 10 rest ≡ None
      → news options.display core (state_after options core bytes).feed (state_taken options core bytes rest).feed ≡ added options core bytes rest
  none-added rest none = rw (lines-none (unfinished bytes) rest none) (news-same options.display core (state_after options core bytes).feed)

-- what was written whole, if the run stops for another reason then
pub adds-bad : (tells : Type 0) (old new : Transcript) (bytes : List ℕ) (x : Unit {0}) → Adds tells old new bytes (Ok x) → Adds {T = Unit {0}} tells old new bytes (Err BadLine)
adds-bad tells old new bytes x adds = record {
  whole = λ _. tt;
  stopped = λ told _. adds.whole told;
  front = λ told. record { front = bytes; rest = []; parts = sym (append-nil bytes); appended = adds.whole told };
  reads_nothing = adds.reads_nothing;
  kept = adds.kept;
  rose = λ e. absurd (cc e);
  reads = adds.reads;
}

module _ {K : Type 0} (port_tells : Type 0) (port port_then : Transcript) (tells : Type 0) (written : K → List ℕ) (faults : K → ℕ) (err err_then : K)
    (Is : List ℕ → Type 0) (core : CoreParts) (options : RunOptions) (bytes piece : List ℕ) where
  -- a piece was taken, and then it was shown
  pub shown-after : (wrote : List ℕ) (outcome shown result : Result (Unit {0}) Stop) → MatchResult outcome (λ _. ⊤) (λ why. why ≡ BadLine)
      → Reports tells written faults err err_then (reported options core bytes piece) outcome
      → MatchResult outcome (λ _. is_stopped options core bytes piece ≡ false) (λ stop. stop ≡ BadLine → is_stopped options core bytes piece ≡ true)
      → Adds port_tells port port_then wrote shown → IfErr shown (λ why. why ≡ BadLine → ⊥)
      → MatchResult shown (λ _. result ≡ outcome) (λ why. result ≡ Err why) → OnOk result (Is (bytes ++ piece))
      → HasWritten port_tells port port_then tells written faults err err_then Is core options bytes piece result wrote
  shown-after wrote (Ok u) (Ok v) result bad reports stop adds good is on = record {
    adds = rw is adds;
    reports = rw is reports;
    goes_on = on;
    stops = rw is stop;
  }
  shown-after wrote (Err e) (Ok v) result bad reports stop adds good is on = record {
    adds = rw (is, bad) (adds-bad port_tells port port_then wrote v adds);
    reports = rw is reports;
    goes_on = on;
    stops = rw is stop;
  }
  shown-after wrote (Ok u) (Err why) result bad reports stop adds good is on = record {
    adds = rw is adds;
    reports = rw is (reports-whole tells written faults err err_then (reported options core bytes piece) (Err why) reports.whole);
    goes_on = on;
    stops = rw is (λ e. absurd (good e));
  }
  shown-after wrote (Err e) (Err why) result bad reports stop adds good is on = record {
    adds = rw is adds;
    reports = rw is (reports-whole tells written faults err err_then (reported options core bytes piece) (Err why) (reports.stopped bad));
    goes_on = on;
    stops = rw is (λ f. absurd (good f));
  }

-- a run that isn't lost goes on or stopped at a bad line
pub not-lost : (outcome : Result (Unit {0}) Stop) → is_lost outcome ≡ false → MatchResult outcome (λ _. ⊤) (λ why. why ≡ BadLine)
not-lost (Ok u) e = tt
not-lost (Err BadLine) e = refl
not-lost (Err WriteFault) e = absurd (cc e)
not-lost (Err OutOfMemory) e = absurd (cc e)

-- and a lost one stopped for lack of memory, unless a write failed
pub lost-memory : (outcome : Result (Unit {0}) Stop) → is_lost outcome ≡ true → IfErr outcome (λ why. why ≡ WriteFault → ⊥) → outcome ≡ Err OutOfMemory
lost-memory (Ok u) e good = absurd (cc e)
lost-memory (Err BadLine) e good = absurd (cc e)
lost-memory (Err WriteFault) e good = absurd (good refl)
lost-memory (Err OutOfMemory) e good = refl

module _ {K : Type 0} (tells : Type 0) (written : K → List ℕ) (faults : K → ℕ) (err err_then : K) (accepted : AcceptedParts) (options : RunOptions) (bytes piece : List ℕ)
    (given : ℕ) (run : LiveRun) where
  -- what taking the piece did, before it is shown
  abbrev pub WasTaken : Result (Unit {0}) Stop → Type 0
  WasTaken outcome =
      HasTakenPiece tells written faults err err_then (λ n s rest. IsRunAfter run accepted options n s rest given) (λ s. IsLiveOf run.run.live accepted s.feed given) accepted.core options
      (number_of bytes) (state_after options accepted.core bytes) (unfinished bytes) piece outcome

  -- the engine is that of the lines that are taken
  pub taken-live : (outcome : Result (Unit {0}) Stop) → MatchResult outcome (λ _. ⊤) (λ why. why ≡ BadLine) → WasTaken outcome
      → IsLiveOf run.run.live accepted (state_taken options accepted.core bytes piece).feed given
  taken-live (Ok u) bad taken =
      rw (taken-all options.strict options.form accepted.core.inputs (number_of bytes) (state_after options accepted.core bytes) (new_lines bytes piece) taken.stop) taken.goes_on.line_run.live
  taken-live (Err e) bad taken = taken.held bad

  -- the run that has shown it goes on after it
  pub taken-shown : (later : LiveRun) (outcome : Result (Unit {0}) Stop) → WasTaken outcome
      → (let after = state_taken options accepted.core bytes piece in IsLiveOf later.run.live accepted after.feed (length (printed accepted.core after.feed)))
      → (options.display.with_begun ≡ true → later.run.shown ≡ begun_start (begun accepted.core (state_taken options accepted.core bytes piece).feed))
      → (later.run.number ≡ run.run.number) × (later.run.display ≡ run.run.display) × (later.run.strict ≡ run.run.strict) × (later.run.text ≡ run.run.text)
      → ((feed : Feed) → IsLiveOf run.run.live accepted feed given → KeepsRows run.run.rows (first_read accepted.core (tick_of_live run.run.live)) feed
      → KeepsRows later.run.rows (first_read accepted.core (tick_of_live later.run.live)) feed)
      → later.pending.items ≡ run.pending.items
      → OnOk outcome (IsRunOf later accepted options (bytes ++ piece))
  taken-shown later (Ok u) taken live begun_is same rows kept =
      let core = accepted.core in
      let all : state_taken options core bytes piece ≡ state_after options core (bytes ++ piece) =
      rw (taken-all options.strict options.form core.inputs (number_of bytes) (state_after options core bytes) (new_lines bytes piece) taken.stop) (sym (state-more options core bytes piece)) in
      record {
        after = record {
          line_run = record {
            live = subst (λ (s : FeedState). IsLiveOf later.run.live accepted s.feed (length (printed core s.feed))) all live;
            kept_is = ap kept_of same.3 ∙ taken.goes_on.line_run.kept_is ∙ ap (λ (s : FeedState). s.kept) (sym (state-more options core bytes piece));
            form_is = ap form_of same.3 ∙ taken.goes_on.line_run.form_is;
            number_is = same.0 ∙ taken.goes_on.line_run.number_is ∙ sym (number-more bytes piece);
            display_is = same.1 ∙ taken.goes_on.line_run.display_is;
            strict_is = same.2 ∙ taken.goes_on.line_run.strict_is;
            rows = subst (λ (s : FeedState). KeepsRows later.run.rows (first_read core (tick_of_live later.run.live)) s.feed)
                (sym (state-more options core bytes piece)) (rows _ taken.goes_on.line_run.live taken.goes_on.line_run.rows);
          };
          pending = kept ∙ taken.goes_on.pending ∙ ap (take (LINE + 1)) (sym (unfinished-append [] bytes piece));
        };
        begun = λ yes. subst (λ (s : FeedState). later.run.shown ≡ begun_start (begun core s.feed)) all (begun_is yes);
      }
  taken-shown later (Err e) taken live begun_is same rows kept = tt

-- a run that is lost wrote nothing
pub lost-written : {K : Type 0} (port_tells : Type 0) (port : Transcript) (tells : Type 0) (written : K → List ℕ) (faults : K → ℕ) (err err_then : K) (Is : List ℕ → Type 0)
    (core : CoreParts) (options : RunOptions) (bytes piece wrote : List ℕ) (outcome : Result (Unit {0}) Stop) → outcome ≡ Err OutOfMemory
    → Reports tells written faults err err_then (reported options core bytes piece) outcome
    → MatchResult outcome (λ _. is_stopped options core bytes piece ≡ false) (λ stop. stop ≡ BadLine → is_stopped options core bytes piece ≡ true)
    → HasWritten port_tells port port tells written faults err err_then Is core options bytes piece outcome wrote
lost-written port_tells port tells written faults err err_then Is core options bytes piece wrote outcome is reports stop = record {
  adds = adds-stopped port_tells port wrote OutOfMemory outcome is (λ e. cc e) (λ e. absurd (cc e));
  reports = reports;
  goes_on = rw is tt;
  stops = stop;
}

module _ {K : Type 0} (port_tells : Type 0) (tells : Type 0) (written : K → List ℕ) (faults : K → ℕ) (accepted : AcceptedParts) (options : RunOptions) where
  -- what outcome a piece after bytes did
  abbrev pub TakenPiece : (port port_then : Transcript) (err err_then : K) (run : LiveRun) (bytes piece : List ℕ) → Result (Unit {0}) Stop → Type 0
  TakenPiece port port_then err err_then run bytes piece result =
      HasTaken port_tells port port_then tells written faults err err_then (λ later. IsRunOf run accepted options later) accepted.core options bytes piece result

  -- the run stopped at the first part of a piece
  pub piece-short : (port port_then : Transcript) (err err_then : K) (run : LiveRun) (bytes p q : List ℕ) (why : Stop) (result : Result (Unit {0}) Stop) → result ≡ Err why
      → TakenPiece port port_then err err_then run bytes p (Err why) → TakenPiece port port_then err err_then run bytes (p ++ q) result
  piece-short port port_then err err_then run bytes p q why result is taken =
      let core = accepted.core in
      let n = number_of bytes in
      let s = state_after options core bytes in
      elim (cases_Bool (is_stopped options core bytes p)) [
        | inl stopped ↦
            let both = lines-append (unfinished bytes) p q in
            let more = lines_after (unfinished_after (unfinished bytes) p) q in
            record {
              adds = rw (is, both, taken-stop options.strict options.form core.inputs n s (new_lines bytes p) more stopped) taken.adds;
              reports = rw (is, both, reports-stop options.strict options.form core.inputs n s (new_lines bytes p) more stopped) taken.reports;
              goes_on = rw is tt;
              stops = rw (is, both, stop-stop options.strict options.form core.inputs n s (new_lines bytes p) more stopped) (λ e. refl);
            }
        | inr going ↦ record {
          adds = rw (is, added-more core options bytes p q going)
              (adds-short port_tells port port_then _ _ why (Err why) refl (λ e. absurd (cc (sym (taken.stops e) ∙ going))) taken.adds);
          reports = rw (is, reported-more core options bytes p q going)
              (reports-short tells written faults err err_then _ _ why (Err why) refl (λ e. absurd (cc (sym (taken.stops e) ∙ going))) taken.reports);
          goes_on = rw is tt;
          stops = rw is (λ e. absurd (cc (sym (taken.stops e) ∙ going)));
        }
      ]

  -- From such a port and sink on, after bytes, the run took parts of a piece, and is at the rest of it.
  module _ (old : Transcript) (err : K) (bytes piece : List ℕ) where
    pub record IsAlong (run : LiveRun) (port : Transcript) (sink : K) (rest : List ℕ) : Type 0 where
      pub done : List ℕ
      pub parts : piece ≡ done ++ rest
      pub is : IsRunOf run accepted options (bytes ++ done)
      pub going : is_stopped options accepted.core bytes done ≡ false
      pub adds : Adds port_tells old port (added options accepted.core bytes done) (Ok (tt {0}))
      pub reports : Reports tells written faults err sink (reported options accepted.core bytes done) (Ok (tt {0}))

    pub along-first : (run : LiveRun) → IsRunOf run accepted options bytes → IsAlong run old err piece
    along-first run is = record {
      done = [];
      parts = refl;
      is = rw (append-nil bytes) is;
      going = refl;
      adds = adds-none port_tells old (tt {0});
      reports = reports-none tells written faults err (tt {0});
    }

    -- what outcome the rest did is what outcome the piece did
    pub along-end : (run later : LiveRun) (port port_then : Transcript) (sink sink_then : K) (rest : List ℕ) (result : Result (Unit {0}) Stop)
        (along : IsAlong run port sink rest) → TakenPiece port port_then sink sink_then later (bytes ++ along.done) rest result
        → TakenPiece old port_then err sink_then later bytes piece result
    along-end run later port port_then sink sink_then rest result along taken =
        let core = accepted.core in
        rw along.parts record {
          adds = rw (added-more core options bytes along.done rest along.going) (adds-then port_tells old port port_then _ _ (tt {0}) result along.adds taken.adds);
          reports = rw (reported-more core options bytes along.done rest along.going)
              (reports-then tells written faults err sink sink_then _ _ (tt {0}) result along.reports taken.reports);
          goes_on = rw (← append_assoc bytes along.done rest) taken.goes_on;
          stops = rw (stopped-more core options bytes along.done rest along.going) taken.stops;
        }

    -- the next line, with its LF
    pub along-more : (run later : LiveRun) (port port_then : Transcript) (sink sink_then : K) (rest line after : List ℕ) → until_at 10 rest ≡ Some (line, after)
        → (along : IsAlong run port sink rest) → TakenPiece port port_then sink sink_then later (bytes ++ along.done) (line ++ 10 ∷ []) (Ok tt)
        → IsAlong later port_then sink_then after
    along-more run later port port_then sink sink_then rest line after found along taken =
        let core = accepted.core in
        let p = line ++ 10 ∷ [] in
        record {
          done = along.done ++ p;
          parts = along.parts ∙ ap (λ (t : List ℕ). along.done ++ t) (line-then rest line after found) ∙ sym (append_assoc along.done p after);
          is = rw (← append_assoc bytes along.done p) taken.goes_on;
          going = stopped-more core options bytes along.done p along.going ∙ taken.stops;
          adds = rw (added-more core options bytes along.done p along.going) (adds-then port_tells old port port_then _ _ (tt {0}) (Ok (tt {0})) along.adds taken.adds);
          reports = rw (reported-more core options bytes along.done p along.going)
              (reports-then tells written faults err sink sink_then _ _ (tt {0}) (Ok (tt {0})) along.reports taken.reports);
        }

-- where a first line with its LF ends
pub line-room : (bytes line rest : List ℕ) → until_at 10 bytes ≡ Some (line, rest) → length line + 1 ≤ length bytes
line-room bytes line rest found =
    let len = length-append line (10 ∷ rest) in
    let all = ap length (front-until 10 bytes line rest found) in
    omega (arith, len, all)

pub line-front : (bytes line rest : List ℕ) → until_at 10 bytes ≡ Some (line, rest) → take (length line + 1) bytes ≡ line ++ 10 ∷ []
line-front bytes line rest found =
    rw (line-then bytes line rest found) (take_at (line ++ 10 ∷ []) rest (length line + 1) (length-append line (10 ∷ [])))

pub line-back : (bytes line rest : List ℕ) → until_at 10 bytes ≡ Some (line, rest) → drop (length line + 1) bytes ≡ rest
line-back bytes line rest found =
    rw (line-then bytes line rest found, ← length-append line (10 ∷ [])) (drop-append_seam (line ++ 10 ∷ []) rest)
