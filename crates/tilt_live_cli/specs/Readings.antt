-- What the options of readings say (our own rule).
use Rattle.std.specs.Prelude.{◌≡◌, ⊤, ℕ, Bool, true, false, List, [], ◌∷◌, Option, None, Some, Ok, codes, option_map}
use Rattle.std.specs.List.{list_any}
use Rattle.std.specs.Str.{bytes_eq}
use Rattle.tilt_cli.specs.Options.{SettingValue, is_set, set_to, text_of}
use Rattle.tilt_input_scales.specs.Scales.{ScalesValue}
use Rattle.tilt_reading_options.specs.Choice.{choice_said, scales_said}
use Rattle.tilt_reading_options.specs.Texts.{TextsValue}
use Rattle.tilt_reading_options.specs.Values.{ChoiceValue}
use Rattle.tilt_unit_check.specs.BoundText.{bounds_said}
use Rattle.tilt_unit_report.specs.declared.bound.InputBound.{InputBound}

-- the text that an option is set to
abbrev pub text_at : List ℕ → List SettingValue → Option (List ℕ)
text_at option settings = text_of (set_to option settings)

-- the texts of the options of readings, if times are in this column
abbrev pub texts_with : List SettingValue → List ℕ → TextsValue
texts_with settings time = record {
  time = time;
  name = text_at (codes "--name") settings;
  value = text_at (codes "--value") settings;
  tick = text_at (codes "--tick") settings;
  origin = text_at (codes "--origin") settings;
  unit = text_at (codes "--unit") settings;
  zone = text_at (codes "--zone") settings;
  fold = text_at (codes "--fold") settings;
  scale = text_at (codes "--scale") settings;
  event = is_set (codes "--event") settings;
  events = text_at (codes "--events") settings;
  max_age = text_at (codes "--max-age") settings;
  closed = text_at (codes "--closed") settings;
  ties = text_at (codes "--ties") settings;
  null = text_at (codes "--null") settings;
  skips_empty = is_set (codes "--skip-empty") settings;
  delimiter = text_at (codes "--delimiter") settings;
  decimal = text_at (codes "--decimal") settings;
}

-- the same, if there is a column of times
abbrev pub reading_texts : List SettingValue → Option TextsValue
reading_texts settings = option_map (texts_with settings) (text_at (codes "--time") settings)

-- they say this choice, if there are some
abbrev pub AreSaid : Option TextsValue → Option ChoiceValue → Type 0
AreSaid None None = ⊤
AreSaid None (Some choice) = ⊥
AreSaid (Some texts) None = ⊥
AreSaid (Some texts) (Some choice) = choice_said texts ≡ Ok choice

-- the text of the scales: of the options of readings, if there are some
abbrev pub scale_text : Option TextsValue → Option (List ℕ) → Option (List ℕ)
scale_text None rows = rows
scale_text (Some texts) rows = texts.scale

-- the scales of the inputs, if the query is in units: those that the text of `--scale` says
abbrev pub AreInUnits : Bool → Option (List ℕ) → Option ScalesValue → Type 0
AreInUnits false text None = ⊤
AreInUnits false text (Some scales) = ⊥
AreInUnits true text None = ⊥
AreInUnits true text (Some scales) = scales_said text ≡ Ok scales

-- what is known of the inputs of a query in units with these scales, if it is asked for: what the text of `--bounds` says
abbrev pub AreBounds : Bool → Option ScalesValue → Option (List ℕ) → Option (List InputBound) → Type 0
AreBounds false units text None = ⊤
AreBounds false units text (Some bounds) = ⊥
AreBounds true None text bounds = ⊥
AreBounds true (Some scales) text None = ⊥
AreBounds true (Some scales) text (Some bounds) = bounds_said scales text ≡ Some bounds

-- options of readings that have a text: of columns, of moments, of what readings mean, and of what is written in lines
abbrev pub column_options : List (List ℕ)
column_options = codes "--name" ∷ codes "--value" ∷ []

abbrev pub moment_options : List (List ℕ)
moment_options = codes "--tick" ∷ codes "--origin" ∷ codes "--unit" ∷ codes "--zone" ∷ codes "--fold" ∷ []

abbrev pub meaning_options : List (List ℕ)
meaning_options = codes "--scale" ∷ codes "--events" ∷ codes "--max-age" ∷ codes "--closed" ∷ codes "--ties" ∷ []

abbrev pub mark_options : List (List ℕ)
mark_options = codes "--null" ∷ codes "--delimiter" ∷ codes "--decimal" ∷ []

-- options other than these are set as they were
abbrev pub LeavesAllBut : List (List ℕ) → (old new : List SettingValue) → Type 0
LeavesAllBut options old new = (other : List ℕ) → list_any (λ option. bytes_eq option other) options ≡ false → set_to other new ≡ set_to other old

-- the files of states, the folder and the bounds are set as they were
pub record LeavesFiles (old new : List SettingValue) : Type 0 where
  pub resume : set_to (codes "--resume") new ≡ set_to (codes "--resume") old
  pub save : set_to (codes "--save") new ≡ set_to (codes "--save") old
  pub folder : set_to (codes "--folder") new ≡ set_to (codes "--folder") old
  pub bounds : set_to (codes "--bounds") new ≡ set_to (codes "--bounds") old
