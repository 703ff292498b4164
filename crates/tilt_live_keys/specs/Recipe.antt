-- What the run of one key is, writes and rejects.
use Rattle.std.specs.Prelude.{◌≡◌, ℕ, false, List, Option}
use Rattle.tilt_compiler.specs.Accepted.{AcceptedParts}
use Rattle.tilt_feed_form.specs.declared.bad_feed_line.BadFeedLine.{BadFeedLine}
use Rattle.tilt_feed_form.specs.declared.feed_form.FeedForm.TheVariants.{Rows}
use Rattle.tilt_live_keys.specs.declared.key_live.KeyLive.{KeyLive}
use Rattle.tilt_live_keys.specs.declared.key_recipe.KeyRecipe.{KeyRecipe}
use Rattle.tilt_live_run.specs.Bare.{IsBareRunOf, bad_after, line_news}
use Rattle.tilt_live_run.specs.Output.{first_rows}
use Rattle.tilt_live_run.specs.declared.run_options.RunOptions.{RunOptions}

-- what is asked of the run of a key: bad lines don't stop it
abbrev pub key_options : KeyRecipe → RunOptions
key_options recipe = record { display = recipe.display; strict = false; form = Rows recipe.options }

-- what it writes before its first line
abbrev pub key_first : KeyRecipe → List ℕ
key_first recipe = first_rows recipe.display recipe.accepted.core

-- what it writes for a line after others
abbrev pub key_added : KeyRecipe → List (List ℕ) → List ℕ → List ℕ
key_added recipe before line = line_news (key_options recipe) recipe.accepted.core before line

-- why a line after others is bad for it, if it is
abbrev pub key_fault : KeyRecipe → List (List ℕ) → List ℕ → Option BadFeedLine
key_fault recipe before line = bad_after (key_options recipe) recipe.accepted.core before line

-- it is the run of the query of a recipe after lines
pub record IsKeyLiveOf (run : KeyLive) (recipe : KeyRecipe) (lines : List (List ℕ)) : Type 0 where
  pub accepted : AcceptedParts
  pub same : accepted.core ≡ recipe.accepted.core
  pub is : IsBareRunOf run.run accepted (key_options recipe) lines
