-- What a run does beside which the rows of another one are counted.
use Rattle.std.proofs.Common.{◌≡◌, ◌+◌, ℕ, List, [], ◌++◌, None, Ok, sym, ap, ◌∙◌, append_assoc}
use Rattle.std.proofs.lemmas.List.{append-nil}
use Rattle.std.proofs.lemmas.List.Sums.{sum_by-append}
use Rattle.std.specs.Prelude.{◌==◌, cond}
use Rattle.tilt_counting.specs.Count.{line_count}
use Rattle.tilt_counting.specs.Counted.{counted_meaning}
use Rattle.tilt_counting.specs.Counting.{Counted, IsCounting, meaning_of}
use Rattle.tilt_counting.specs.declared.counting_run.CountingRun.{CountingRun}
use Rattle.tilt_outside.proofs.Counts.{added-twice}
use Rattle.tilt_outside.specs.Counts.{added_count}
use Rattle.tilt_port.specs.Transcript.{Transcript}
use Rattle.tilt_serving.specs.Meaning.{FeedMeaning, GoesByBytes}
use Rattle.tilt_serving.specs.Served.{HasEnded, Start}

-- the lines of two texts, one behind the other
line_count-append : (text more : List ℕ) → line_count (text ++ more) ≡ line_count text + line_count more
line_count-append text more = sum_by-append (λ byte. cond (byte == 10) 1 0) text more

-- lines are counted on
pub lines-more : (lines : ℕ) (text more : List ℕ) → lines ≡ added_count 0 (line_count text)
    → added_count lines (line_count more) ≡ added_count 0 (line_count (text ++ more))
lines-more lines text more is =
    rw is (added-twice 0 (line_count text) (line_count more) ∙ ap (added_count 0) (sym (line_count-append text more)))

-- it goes by the bytes of its feed if the run does
pub counted-goes : (run watch : FeedMeaning) (head : List ℕ) → GoesByBytes run → GoesByBytes (counted_meaning run watch head)
counted-goes run watch head laws = record {
  none_added = laws.none_added;
  none_reported = laws.none_reported;
  none_stops = laws.none_stops;
  more_added = laws.more_added;
  more_reported = laws.more_reported;
  more_stops = laws.more_stops;
}

module _ {Run Watch R W : Type 0} (is_run : Run → R → List ℕ → Type 0) (is_watch : Watch → W → List ℕ → Type 0)
    (run_means : R → FeedMeaning) (watch_means : W → FeedMeaning) where
  -- before the first byte of its feed
  pub counting-first : (counting : CountingRun Run Watch) (run : R) (watch : W) (head : List ℕ) → is_run counting.run run []
      → is_watch counting.watch watch [] → counting.lines ≡ added_count 0 (line_count head) → GoesByBytes (watch_means watch)
      → IsCounting is_run is_watch run_means watch_means counting (record { run = run; watch = watch; head = head }) []
  counting-first counting run watch head runs watches lines laws = record {
    run = runs;
    watch = watches;
    lines = lines ∙ ap (λ (text : List ℕ). added_count 0 (line_count text)) (sym (append-nil head) ∙ ap (λ (more : List ℕ). head ++ more) (sym (laws.none_added [])));
    unstopped = laws.none_stops [];
    joined = laws;
  }

  -- after more of it
  pub counting-more : (old new : CountingRun Run Watch) (of : Counted R W) (bytes piece output : List ℕ)
      → IsCounting is_run is_watch run_means watch_means old of bytes → is_run new.run of.run (bytes ++ piece) → is_watch new.watch of.watch (bytes ++ piece)
      → output ≡ (watch_means of.watch).added bytes piece → new.lines ≡ added_count old.lines (line_count output)
      → (watch_means of.watch).stop bytes piece ≡ None → IsCounting is_run is_watch run_means watch_means new of (bytes ++ piece)
  counting-more old new of bytes piece output is runs watches written lines none =
      let means = watch_means of.watch in
      let more : means.added [] (bytes ++ piece) ≡ means.added [] bytes ++ means.added bytes piece = is.joined.more_added [] bytes piece is.unstopped in
      let text : (of.head ++ means.added [] bytes) ++ output ≡ of.head ++ means.added [] (bytes ++ piece) =
      append_assoc of.head (means.added [] bytes) output
      ∙ ap (λ (rest : List ℕ). of.head ++ rest) (ap (λ (last : List ℕ). means.added [] bytes ++ last) written ∙ sym more) in
      record {
        run = runs;
        watch = watches;
        lines = lines ∙ lines-more old.lines (of.head ++ means.added [] bytes) output is.lines ∙ ap (λ (t : List ℕ). added_count 0 (line_count t)) text;
        unstopped = is.joined.more_stops [] bytes piece is.unstopped ∙ none;
        joined = is.joined;
      }

  -- its feed ended, and so the run took all of it
  pub counting-ended : {K : Type 0} (counting : CountingRun Run Watch) (of : Counted R W) (start : Start) (tells : Type 0) (old new : Transcript)
      (err_tells : Type 0) (err_written : K → List ℕ) (err_faults : K → ℕ) (err err_then : K)
      → HasEnded (meaning_of run_means watch_means of) start tells old new err_tells err_written err_faults err err_then
      (IsCounting is_run is_watch run_means watch_means counting of) (Ok tt)
      → HasEnded (meaning_of run_means watch_means of) start tells old new err_tells err_written err_faults err err_then (is_run counting.run of.run) (Ok tt)
  counting-ended counting of start tells old new err_tells err_written err_faults err err_then ended = record { served = ended.served; is = ended.is.run }
