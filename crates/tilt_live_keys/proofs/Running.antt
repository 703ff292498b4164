-- The run of a feed with keys after more bytes of its feed.
use Rattle.std.proofs.Common.{◌≡◌, ℕ, List, [], ◌∷◌, ◌++◌, refl}
use Rattle.std.specs.Global.{Vec}
use Rattle.tilt_feed_text.proofs.Splitting.{lines-append, unfinished-append}
use Rattle.tilt_feed_text.specs.Said.{number_after}
use Rattle.tilt_feed_text.specs.Split.{unfinished, unfinished_after, whole_lines}
use Rattle.tilt_keyed_line.specs.Feeds.{KeyedFeed, empty_keyed_feed}
use Rattle.tilt_live_keys.specs.Output.{after_heard, feed_from, heard}
use Rattle.tilt_live_keys.specs.Runs.{IsKeyedLiveOf, IsRunAfter, feed_after}
use Rattle.tilt_live_keys.specs.declared.key_recipe.KeyRecipe.{KeyRecipe}
use Rattle.tilt_live_keys.specs.declared.keyed_live.KeyedLive.{KeyedLive}
use Rattle.tilt_live_run.proofs.Running.{number-more}
use Rattle.tilt_live_run.specs.Runs.{new_lines, number_of}
use Rattle.tilt_outside.specs.Counts.{next_count}

feed-append : (number : ℕ) (feed : KeyedFeed) (xs ys : List (List ℕ)) → feed_from number feed (xs ++ ys) ≡ feed_from (number_after number xs) (feed_from number feed xs) ys
feed-append number feed [] ys = refl
feed-append number feed (x ∷ xs) ys = feed-append (next_count number) (after_heard (heard number x) feed) xs ys

pub feed-more : (bytes piece : List ℕ) → feed_after (bytes ++ piece) ≡ feed_from (number_of bytes) (feed_after bytes) (new_lines bytes piece)
feed-more bytes piece = rw (lines-append [] bytes piece) (feed-append 0 empty_keyed_feed (whole_lines bytes) (new_lines bytes piece))

pub keyed-more : (run : KeyedLive) (recipe : KeyRecipe) (bytes piece : List ℕ)
    → IsRunAfter run recipe (number_after (number_of bytes) (new_lines bytes piece)) (feed_from (number_of bytes) (feed_after bytes) (new_lines bytes piece))
    (unfinished_after (unfinished bytes) piece) → IsKeyedLiveOf run recipe (bytes ++ piece)
keyed-more run recipe bytes piece is = rw (number-more bytes piece, feed-more bytes piece, unfinished-append [] bytes piece) is

-- what it has written doesn't matter
pub with-output : (run : KeyedLive) (output : Vec ℕ) (recipe : KeyRecipe) (number : ℕ) (feed : KeyedFeed) (front : List ℕ) → IsRunAfter run recipe number feed front
    → IsRunAfter (record run { lines = record run.lines { output = output } }) recipe number feed front
with-output run output recipe number feed front is = record {
  lines_are = record {
    recipe_is = is.lines_are.recipe_is;
    runs_are = is.lines_are.runs_are;
    most_is = is.lines_are.most_is;
    number_is = is.lines_are.number_is;
  };
  pending = is.pending;
}
