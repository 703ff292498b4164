-- What the run of a feed with keys makes of its feed goes by the bytes.
use Rattle.std.proofs.Common.{◌≡◌, ℕ, List, [], ◌∷◌, ◌++◌, Option, None, Some, refl, sym, ◌∙◌, append_assoc}
use Rattle.std.specs.Option.{option_or}
use Rattle.tilt_feed_text.proofs.Splitting.{lines-append, unfinished-append}
use Rattle.tilt_feed_text.specs.Said.{number_after}
use Rattle.tilt_feed_text.specs.Split.{unfinished}
use Rattle.tilt_keyed_line.specs.Feeds.{KeyedFeed}
use Rattle.tilt_keyed_run.specs.Output.{address_output}
use Rattle.tilt_live_keys.proofs.Running.{feed-more}
use Rattle.tilt_live_keys.specs.Output.{after_heard, feed_from, heard, heard_report, heard_stop, output_from, reports_from, stop_from}
use Rattle.tilt_live_keys.specs.Recipe.{key_added, key_first}
use Rattle.tilt_live_keys.specs.Runs.{feed_after, keyed_meaning}
use Rattle.tilt_live_keys.specs.declared.key_recipe.KeyRecipe.{KeyRecipe}
use Rattle.tilt_live_run.proofs.Running.{number-more}
use Rattle.tilt_live_run.specs.Runs.{new_lines, number_of}
use Rattle.tilt_outside.specs.Counts.{next_count}
use Rattle.tilt_serving.specs.Meaning.{GoesByBytes}
use Rattle.tilt_serving.specs.declared.stop.Stop.{Stop}

-- neither of two stops, if there is none of both
first_none : (first rest : Option Stop) → option_or first rest ≡ None → first ≡ None
first_none None rest e = refl
first_none (Some why) rest e = absurd (cc e)

rest_none : (first rest : Option Stop) → option_or first rest ≡ None → rest ≡ None
rest_none None rest e = e
rest_none (Some why) rest e = absurd (cc e)

lines_of_both : (bytes p q : List ℕ) → new_lines bytes (p ++ q) ≡ new_lines bytes p ++ new_lines (bytes ++ p) q
lines_of_both bytes p q = lines-append (unfinished bytes) p q ∙ rw (unfinished-append [] bytes p) refl

-- lines after others, none of which stops the run
module _ (recipe : KeyRecipe) where
  output-append : (number : ℕ) (feed : KeyedFeed) (xs ys : List (List ℕ)) → stop_from recipe number feed xs ≡ None
      → output_from recipe number feed (xs ++ ys) ≡ output_from recipe number feed xs ++ output_from recipe (number_after number xs) (feed_from number feed xs) ys
  output-append number feed [] ys none = refl
  output-append number feed (x ∷ xs) ys none =
      let line = heard number x in
      let here : heard_stop recipe line feed ≡ None = first_none _ _ none in
      let rest = output-append (next_count number) (after_heard line feed) xs ys (rest_none (heard_stop recipe line feed) _ none) in
      rw (here, rest) (sym (append_assoc (address_output (key_first recipe) (key_added recipe) line.address feed) _ _))

  reports-append : (number : ℕ) (feed : KeyedFeed) (xs ys : List (List ℕ)) → stop_from recipe number feed xs ≡ None
      → reports_from recipe number feed (xs ++ ys) ≡ reports_from recipe number feed xs ++ reports_from recipe (number_after number xs) (feed_from number feed xs) ys
  reports-append number feed [] ys none = refl
  reports-append number feed (x ∷ xs) ys none =
      let line = heard number x in
      let here : heard_stop recipe line feed ≡ None = first_none _ _ none in
      let rest = reports-append (next_count number) (after_heard line feed) xs ys (rest_none (heard_stop recipe line feed) _ none) in
      rw (here, rest) (sym (append_assoc (heard_report recipe number line feed) _ _))

  stop-append : (number : ℕ) (feed : KeyedFeed) (xs ys : List (List ℕ)) → stop_from recipe number feed xs ≡ None
      → stop_from recipe number feed (xs ++ ys) ≡ stop_from recipe (number_after number xs) (feed_from number feed xs) ys
  stop-append number feed [] ys none = refl
  stop-append number feed (x ∷ xs) ys none =
      let line = heard number x in
      let here : heard_stop recipe line feed ≡ None = first_none _ _ none in
      rw here (stop-append (next_count number) (after_heard line feed) xs ys (rest_none (heard_stop recipe line feed) _ none))

pub goes_by_bytes : (recipe : KeyRecipe) → GoesByBytes (keyed_meaning recipe)
goes_by_bytes recipe = record {
  none_added = λ before. refl;
  none_reported = λ before. refl;
  none_stops = λ before. refl;
  more_added = λ before p q none.
      rw (
        lines_of_both before p q,
        output-append recipe (number_of before) (feed_after before) (new_lines before p) (new_lines (before ++ p) q) none,
        number-more before p,
        feed-more before p,
      ) refl;
  more_reported = λ before p q none.
      rw (
        lines_of_both before p q,
        reports-append recipe (number_of before) (feed_after before) (new_lines before p) (new_lines (before ++ p) q) none,
        number-more before p,
        feed-more before p,
      ) refl;
  more_stops = λ before p q none.
      rw (
        lines_of_both before p q,
        stop-append recipe (number_of before) (feed_after before) (new_lines before p) (new_lines (before ++ p) q) none,
        number-more before p,
        feed-more before p,
      ) refl;
}
