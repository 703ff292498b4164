-- The output of a feed with keys, and the output of one key alone.
use Rattle.std.proofs.Common.{◌≡◌, ℕ, false, List, [], ◌∷◌, ◌++◌, length, codes, Option, None, Some, refl, sym, ap, inl, inr}
use Rattle.std.proofs.lemmas.Bool.{cases_Bool}
use Rattle.tilt_feed_form.proofs.Saying.{taken-all}
use Rattle.tilt_feed_form.specs.Said.{FeedState, TextKept, after_line, ends, first_state, line_fault, stop_among}
use Rattle.tilt_feed_form.specs.Said.TextKept.{OfReadings, OfRows}
use Rattle.tilt_feed_form.specs.declared.bad_feed_line.BadFeedLine.{BadFeedLine}
use Rattle.tilt_feed_form.specs.declared.feed_form.FeedForm.TheVariants.{Rows}
use Rattle.tilt_feed_text.proofs.Saying.{number-append}
use Rattle.tilt_feed_text.specs.Said.{number_after}
use Rattle.tilt_keyed_line.specs.Address.{address}
use Rattle.tilt_keyed_line.specs.Feeds.{KeyedFeed}
use Rattle.tilt_keyed_run.specs.Output.{address_output, alone, output, written}
use Rattle.tilt_live_keys.specs.Output.{after_heard, heard, passed_lines, heard_stop, is_skipped, output_from}
use Rattle.tilt_live_keys.specs.Recipe.{key_added, key_first, key_options}
use Rattle.tilt_live_keys.specs.declared.key_recipe.KeyRecipe.{KeyRecipe}
use Rattle.tilt_serving.specs.declared.stop.Stop.{Stop}
use Rattle.tilt_live_run.proofs.Baring.{state-push}
use Rattle.tilt_live_run.specs.Bare.{state_of}
use Rattle.tilt_live_run.specs.Output.{news_from}
use Rattle.tilt_live_run.specs.Output as live
use Rattle.tilt_outside.specs.Counts.{next_count}
use Rattle.tilt_watermarks.specs.declared.options.Options.{Options}

-- whether something is there, as cases
data StopCases (stop : Option Stop) : Type 0 where
  Goes : stop ≡ None → StopCases stop
  Stops : (why : Stop) → stop ≡ Some why → StopCases stop

stop_cases : (stop : Option Stop) → StopCases stop
stop_cases None = Goes refl
stop_cases (Some why) = Stops why refl

-- what is written for lines is what is written for those that are handed on
pub output-heard : (recipe : KeyRecipe) (number : ℕ) (feed : KeyedFeed) (lines : List (List ℕ))
    → output_from recipe number feed lines ≡ output (key_first recipe) (key_added recipe) (passed_lines recipe number feed lines) feed
output-heard recipe number feed [] = refl
output-heard recipe number feed (bytes ∷ lines) =
    let later = output-heard recipe (next_count number) (after_heard (heard number bytes) feed) lines in
    elim (stop_cases (heard_stop recipe (heard number bytes) feed)) [
      | Stops why stopped ↦ rw stopped refl
      | Goes going ↦
          elim (cases_Bool (is_skipped number bytes)) [
            | inl skipped ↦ rw (going, skipped) (rw skipped at later)
            | inr passed ↦
                rw (going, passed) (ap (λ (t : List ℕ). address_output (key_first recipe) (key_added recipe) (address bytes) feed ++ t) (rw passed at later))
          ]
    ]

-- no line of rows stops a run that isn't strict
skipped-rows : (kept : TextKept) (options : Options) (inputs : List (List ℕ)) (number : ℕ) (line : List ℕ)
    → ends false kept (line_fault (Rows options) inputs kept number line) ≡ false
skipped-rows (OfRows kept) options inputs number line = by_rows (line_fault (Rows options) inputs (OfRows kept) number line)
  where
    by_rows : (why : Option BadFeedLine) → ends false (OfRows kept) why ≡ false
    by_rows None = refl
    by_rows (Some why) = refl
skipped-rows (OfReadings kept) options inputs number line = refl

none_stops : (options : Options) (inputs : List (List ℕ)) (number : ℕ) (state : FeedState) (lines : List (List ℕ))
    → stop_among false (Rows options) inputs number state lines ≡ false
none_stops options inputs number state [] = refl
none_stops options inputs number state (line ∷ lines) =
    rw (skipped-rows state.kept options inputs number line)
    (none_stops options inputs (next_count number) (after_line (Rows options) inputs number line state) lines)

-- what is written for lines after others, by the lines
news-written : (recipe : KeyRecipe) (before lines : List (List ℕ))
    → (let options = key_options recipe in
    let core = recipe.accepted.core in
    news_from options core (number_after 0 before) (state_of options core before) lines ≡ written (key_first recipe) (key_added recipe) before lines)
news-written recipe before [] = refl
news-written recipe before (line ∷ lines) =
    let options = key_options recipe in
    let core = recipe.accepted.core in
    let push = state-push options core before line in
    let later = rw (number-append 0 before (line ∷ []), push) at (news-written recipe (before ++ line ∷ []) lines) in
    rw push (ap (λ (t : List ℕ). live.news options.display core (state_of options core before).feed
    (after_line options.form core.inputs (number_after 0 before) line (state_of options core before)).feed ++ t) later)

pub alone-output : (recipe : KeyRecipe) (lines : List (List ℕ))
    → codes "start,end,value\n" ++ alone (key_first recipe) (key_added recipe) lines ≡ live.output (key_options recipe) recipe.accepted.core lines
alone-output recipe lines =
    let core = recipe.accepted.core in
    let state = first_state (Rows recipe.options) (length core.inputs) in
    let all = taken-all false (Rows recipe.options) core.inputs 0 state lines (none_stops recipe.options core.inputs 0 state lines) in
    rw all (ap (λ (t : List ℕ). codes "start,end,value\n" ++ (key_first recipe ++ t)) (sym (news-written recipe [] lines)))
