-- A run that is on its way through a piece.
use Rattle.std.proofs.Common.{◌≡◌, ◌<◌, ℕ, List, [], ◌∷◌, ◌++◌, None, Some, Result, Ok, Err, ap, length, length-append, arith}
use Rattle.tilt_compiler.specs.Accepted.{AcceptedParts}
use Rattle.tilt_feed_form.specs.Said.{FeedState, after_line}
use Rattle.tilt_live.specs.Lives.{IsLiveOf}
use Rattle.tilt_live_run.proofs.Pieces.{piece-end, piece-more, piece-refused, piece-stopped}
use Rattle.tilt_live_run.specs.Runs.{IsRunAfter}
use Rattle.tilt_live_run.specs.Taken.{HasTakenLine, HasTakenPiece}
use Rattle.tilt_live_run.specs.declared.live_run.LiveRun.{LiveRun}
use Rattle.tilt_live_run.specs.declared.run_options.RunOptions.{RunOptions}
use Rattle.tilt_live_run.specs.declared.stop.Stop.{Stop}
use Rattle.tilt_live_run.specs.declared.stop.Stop.TheVariants as stop
use Rattle.tilt_outside.specs.Counts.{next_count}
use Rattle.tilt_text.proofs.Words.{front-until}
use Rattle.tilt_text.specs.Cut.{until_at}

-- what is left after the first line is shorter
pub rest-shorter : (piece line rest : List ℕ) → until_at 10 piece ≡ Some (line, rest) → length rest < length piece
rest-shorter piece line rest found =
    let parts = ap length (front-until 10 piece line rest found) in
    let len = length-append line (10 ∷ rest) in
    rw parts (rw len (omega arith))

module _ {K : Type 0} (tells : Type 0) (written : K → List ℕ) (faults : K → ℕ) (accepted : AcceptedParts) (options : RunOptions) (given : ℕ) where
  -- what taking a piece did, if the run is this one then
  abbrev pub Piece : (err err_then : K) (run : LiveRun) (number : ℕ) (state : FeedState) (front piece : List ℕ) → Result (Unit {0}) Stop → Type 0
  Piece err err_then run number state front piece result =
      HasTakenPiece tells written faults err err_then (λ n s rest. IsRunAfter run accepted options n s rest given) (λ s. IsLiveOf run.run.live accepted s.feed given)
      accepted.core options number state front piece result

  -- what taking a line did
  abbrev pub Line : (err err_then : K) (run : LiveRun) (number : ℕ) (state : FeedState) (line : List ℕ) → Result (Unit {0}) Stop → Type 0
  Line err err_then run number state line result =
      HasTakenLine tells written faults err err_then (λ n s. IsRunAfter run accepted options n s [] given) (λ s. IsLiveOf run.run.live accepted s.feed given)
      accepted.core options number state line result

  -- From such a sink, number, state and first bytes of a line on, the run took lines of a piece. It is at the rest of it, and what it does
  -- with that it does with the piece.
  module _ (err : K) (number : ℕ) (state : FeedState) (front piece : List ℕ) where
    pub record IsUnderway (run : LiveRun) (sink : K) (rest : List ℕ) : Type 0 where
      pub number_now : ℕ
      pub state_now : FeedState
      pub front_now : List ℕ
      pub is : IsRunAfter run accepted options number_now state_now front_now given
      pub onward : (later : LiveRun) (sink_then : K) (result : Result (Unit {0}) Stop)
          → Piece sink sink_then later number_now state_now front_now rest result → Piece err sink_then later number state front piece result

    pub underway-first : (run : LiveRun) → IsRunAfter run accepted options number state front given → IsUnderway run err piece
    underway-first run is = record { number_now = number; state_now = state; front_now = front; is = is; onward = λ later sink_then result taken. taken }

    -- The next line, in any run that is this one.
    module _ (run next : LiveRun) (sink sink_then : K) (rest line after : List ℕ) (found : until_at 10 rest ≡ Some (line, after)) (underway : IsUnderway run sink rest) where
      pub underway-more : ((n : ℕ) (s : FeedState) (x : List ℕ) → IsRunAfter run accepted options n s x given → Line sink sink_then next n s (x ++ line) (Ok tt))
          → IsUnderway next sink_then after
      underway-more taken =
          let first = taken underway.number_now underway.state_now underway.front_now underway.is in
          record {
            number_now = next_count underway.number_now;
            state_now = after_line options.form accepted.core.inputs underway.number_now (underway.front_now ++ line) underway.state_now;
            front_now = [];
            is = first.goes_on;
            onward = λ later sink_last result rest_taken.
                underway.onward later sink_last result
                (piece-more tells written faults accepted.core options underway.number_now underway.state_now underway.front_now rest line after found
                sink sink_then sink_last (λ n s. IsRunAfter next accepted options n s [] given) (λ s. IsLiveOf next.run.live accepted s.feed given)
                (λ s. IsLiveOf later.run.live accepted s.feed given) (λ n s x. IsRunAfter later accepted options n s x given) result first rest_taken);
          }

      pub underway-stopped : (why : Stop) (result : Result (Unit {0}) Stop) → result ≡ Err why
          → ((n : ℕ) (s : FeedState) (x : List ℕ) → IsRunAfter run accepted options n s x given → Line sink sink_then next n s (x ++ line) (Err why))
          → Piece err sink_then next number state front piece result
      underway-stopped why result is taken =
          underway.onward next sink_then result
          (piece-stopped tells written faults accepted.core options underway.number_now underway.state_now underway.front_now rest line after found
          sink sink_then (λ n s. IsRunAfter next accepted options n s [] given) (λ s. IsLiveOf next.run.live accepted s.feed given)
          (λ n s x. IsRunAfter next accepted options n s x given) why result is
          (taken underway.number_now underway.state_now underway.front_now underway.is))

    -- No line is left.
    module _ (run : LiveRun) (sink : K) (rest : List ℕ) (underway : IsUnderway run sink rest) where
      pub underway-end : (last : LiveRun) → until_at 10 rest ≡ None
          → ((n : ℕ) (s : FeedState) (x : List ℕ) → IsRunAfter run accepted options n s x given → IsRunAfter last accepted options n s (x ++ rest) given)
          → Piece err sink last number state front piece (Ok tt)
      underway-end last none is =
          underway.onward last sink (Ok tt)
          (piece-end tells written faults accepted.core options sink (λ n s x. IsRunAfter last accepted options n s x given) (λ s. IsLiveOf last.run.live accepted s.feed given)
          underway.number_now underway.state_now underway.front_now rest none (is underway.number_now underway.state_now underway.front_now underway.is))

      pub underway-refused : (last : LiveRun) (result : Result (Unit {0}) Stop) → result ≡ Err stop.OutOfMemory → Piece err sink last number state front piece result
      underway-refused last result is =
          underway.onward last sink result
          (piece-refused tells written faults accepted.core options sink (λ n s x. IsRunAfter last accepted options n s x given) (λ s. IsLiveOf last.run.live accepted s.feed given)
          underway.number_now underway.state_now underway.front_now rest result is)
