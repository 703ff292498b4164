-- A line that is taken, after which the run goes on.
use Rattle.std.proofs.Common.{◌≡◌, ◌⊎◌, ℕ, List, ◌++◌, ◌&&◌, Bool, true, false, Option, is_some, Ok, refl, sym, ◌∙◌, inl, inr}
use Rattle.tilt_feed_form.specs.declared.bad_feed_line.BadFeedLine.{BadFeedLine}
use Rattle.tilt_keyed_line.specs.Feeds.{KeyedFeed}
use Rattle.tilt_keyed_run.specs.Output.{address_output}
use Rattle.tilt_keyed_run.specs.declared.bad_keyed_line.BadKeyedLine.{BadKeyedLine}
use Rattle.tilt_serving.proofs.Reporting.{reports-whole}
use Rattle.tilt_live_keys.specs.Output.{Heard, after_heard, heard_exceeds, heard_fault}
use Rattle.tilt_live_keys.specs.Recipe.{key_added, key_first}
use Rattle.tilt_live_keys.specs.Report.{keyed_report_of}
use Rattle.tilt_live_keys.specs.Taken.{HasTakenLine}
use Rattle.tilt_live_keys.specs.declared.key_recipe.KeyRecipe.{KeyRecipe}
use Rattle.tilt_serving.specs.declared.stop.Stop.{Stop}
use Rattle.tilt_serving.specs.declared.stop.Stop.TheVariants as stop
use Rattle.tilt_serving.specs.Reported.{Reported}
use Rattle.tilt_outside.specs.Counts.{next_count}

-- the runs of keys write to no port
pub no-write : (why : Stop) (exceeds : Bool) → ((why ≡ stop.TooManyKeys) × (exceeds ≡ true)) ⊎ (why ≡ stop.OutOfMemory) → why ≡ stop.WriteFault → ⊥
no-write why exceeds (inl full) e = cc (sym full.0 ∙ e)
no-write why exceeds (inr none) e = cc (sym none ∙ e)

-- the runs have taken it, and no cause stops the run
pub line-done : {K : Type 0} (tells : Type 0) (written : K → List ℕ) (faults : K → ℕ) (recipe : KeyRecipe) (err err_then : K) (output output_then : List ℕ)
    (Is : ℕ → KeyedFeed → Type 0) (number : ℕ) (feed : KeyedFeed) (line : Heard) (why : Option (BadKeyedLine BadFeedLine))
    → why ≡ heard_fault recipe line feed → heard_exceeds recipe line feed ≡ false → Reported tells written faults err err_then (keyed_report_of number why)
    → (recipe.strict && is_some why) ≡ false → output_then ≡ output ++ address_output (key_first recipe) (key_added recipe) line.address feed
    → Is (next_count number) (after_heard line feed)
    → HasTakenLine tells written faults recipe err err_then output output_then Is number feed line (Ok tt)
line-done tells written faults recipe err err_then output output_then Is number feed line why bad fits told going wrote is =
    let on : (recipe.strict && is_some (heard_fault recipe line feed)) ≡ false = rw (← bad) going in
    record {
      reports = rw (fits, ← bad) (reports-whole tells written faults err err_then (keyed_report_of number why) (Ok (tt {0})) told);
      wrote = λ _. rw (fits, on) wrote;
      goes_on = is;
      stops = λ _. rw (fits, on) refl;
    }
