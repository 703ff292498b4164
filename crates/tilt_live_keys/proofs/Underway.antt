-- A run that is on its way through a piece.
use Rattle.std.proofs.Common.{◌≡◌, ℕ, List, [], ◌++◌, None, Some, Result, Ok, Err, subst, sym}
use Rattle.tilt_keyed_line.specs.Feeds.{KeyedFeed}
use Rattle.tilt_live_keys.proofs.Pieces.{piece-end, piece-more, piece-refused, piece-stopped}
use Rattle.tilt_live_keys.specs.Output.{after_heard, heard}
use Rattle.tilt_live_keys.specs.Runs.{IsRunAfter}
use Rattle.tilt_live_keys.specs.Taken.{HasTakenLine, HasTakenPiece}
use Rattle.tilt_live_keys.specs.declared.key_recipe.KeyRecipe.{KeyRecipe}
use Rattle.tilt_live_keys.specs.declared.keyed_lines.KeyedLines.{KeyedLines}
use Rattle.tilt_live_keys.specs.declared.keyed_live.KeyedLive.{KeyedLive}
use Rattle.tilt_serving.specs.declared.stop.Stop.{Stop}
use Rattle.tilt_serving.specs.declared.stop.Stop.TheVariants as stop
use Rattle.tilt_outside.specs.Counts.{next_count}
use Rattle.tilt_text.specs.Cut.{until_at}

module _ {K : Type 0} (tells : Type 0) (written : K → List ℕ) (faults : K → ℕ) (recipe : KeyRecipe) where
  -- what taking a piece did, if the run is this one then
  abbrev pub Piece : (err err_then : K) (run later : KeyedLive) (number : ℕ) (feed : KeyedFeed) (front piece : List ℕ) → Result (Unit {0}) Stop → Type 0
  Piece err err_then run later number feed front piece result =
      HasTakenPiece tells written faults recipe err err_then run.lines.output.items later.lines.output.items (λ n f rest. IsRunAfter later recipe n f rest)
      number feed front piece result

  -- what taking a line did
  abbrev pub Line : (err err_then : K) (run later : KeyedLive) (number : ℕ) (feed : KeyedFeed) (line : List ℕ) → Result (Unit {0}) Stop → Type 0
  Line err err_then run later number feed line result =
      HasTakenLine tells written faults recipe err err_then run.lines.output.items later.lines.output.items (λ n f. IsRunAfter later recipe n f [])
      number feed (heard number line) result

  -- From such a sink, run, number, feed and first bytes of a line on, lines of a piece were taken. The run is at the rest of it, and what it
  -- does with that it does with the piece.
  module _ (err : K) (start : KeyedLive) (number : ℕ) (feed : KeyedFeed) (front piece : List ℕ) where
    pub record IsUnderway (run : KeyedLive) (sink : K) (rest : List ℕ) : Type 0 where
      pub number_now : ℕ
      pub feed_now : KeyedFeed
      pub front_now : List ℕ
      pub is : IsRunAfter run recipe number_now feed_now front_now
      pub onward : (later : KeyedLive) (sink_then : K) (result : Result (Unit {0}) Stop)
          → Piece sink sink_then run later number_now feed_now front_now rest result → Piece err sink_then start later number feed front piece result

    pub underway-first : IsRunAfter start recipe number feed front → IsUnderway start err piece
    underway-first is = record { number_now = number; feed_now = feed; front_now = front; is = is; onward = λ later sink_then result taken. taken }

    -- The next line, in any run that is this one.
    module _ (run next : KeyedLive) (sink sink_then : K) (rest line after : List ℕ) (found : until_at 10 rest ≡ Some (line, after)) (underway : IsUnderway run sink rest) where
      pub underway-more : ((n : ℕ) (f : KeyedFeed) (x : List ℕ) → IsRunAfter run recipe n f x → Line sink sink_then run next n f (x ++ line) (Ok tt))
          → IsUnderway next sink_then after
      underway-more taken =
          let first = taken underway.number_now underway.feed_now underway.front_now underway.is in
          record {
            number_now = next_count underway.number_now;
            feed_now = after_heard (heard underway.number_now (underway.front_now ++ line)) underway.feed_now;
            front_now = [];
            is = first.goes_on;
            onward = λ later sink_last result rest_taken.
                underway.onward later sink_last result
                (piece-more tells written faults recipe underway.number_now underway.feed_now underway.front_now rest line after found
                sink sink_then sink_last run.lines.output.items next.lines.output.items later.lines.output.items
                (λ n f. IsRunAfter next recipe n f []) (λ n f x. IsRunAfter later recipe n f x) result first rest_taken);
          }

      pub underway-stopped : (why : Stop) (result : Result (Unit {0}) Stop) → result ≡ Err why
          → ((n : ℕ) (f : KeyedFeed) (x : List ℕ) → IsRunAfter run recipe n f x → Line sink sink_then run next n f (x ++ line) (Err why))
          → Piece err sink_then start next number feed front piece result
      underway-stopped why result is taken =
          underway.onward next sink_then result
          (piece-stopped tells written faults recipe underway.number_now underway.feed_now underway.front_now rest line after found
          sink sink_then run.lines.output.items next.lines.output.items (λ n f. IsRunAfter next recipe n f []) (λ n f x. IsRunAfter next recipe n f x) why result is
          (taken underway.number_now underway.feed_now underway.front_now underway.is))

    -- No line is left.
    module _ (run : KeyedLive) (sink : K) (rest : List ℕ) (underway : IsUnderway run sink rest) where
      pub underway-end : (last : KeyedLive) → last.lines ≡ run.lines → until_at 10 rest ≡ None
          → ((n : ℕ) (f : KeyedFeed) (x : List ℕ) → IsRunAfter run recipe n f x → IsRunAfter last recipe n f (x ++ rest))
          → Piece err sink start last number feed front piece (Ok tt)
      underway-end last same none is =
          underway.onward last sink (Ok tt)
          (subst (λ (lines : KeyedLines). HasTakenPiece tells written faults recipe sink sink run.lines.output.items lines.output.items
          (λ n f x. IsRunAfter last recipe n f x) underway.number_now underway.feed_now underway.front_now rest (Ok tt)) (sym same)
          (piece-end tells written faults recipe sink run.lines.output.items (λ n f x. IsRunAfter last recipe n f x)
          underway.number_now underway.feed_now underway.front_now rest none (is underway.number_now underway.feed_now underway.front_now underway.is)))

      pub underway-refused : (last : KeyedLive) (result : Result (Unit {0}) Stop) → result ≡ Err stop.OutOfMemory → Piece err sink start last number feed front piece result
      underway-refused last result is =
          underway.onward last sink result
          (piece-refused tells written faults recipe sink run.lines.output.items last.lines.output.items (λ n f x. IsRunAfter last recipe n f x)
          underway.number_now underway.feed_now underway.front_now rest result is)
