-- How readings are written, and what they mean, as definitions see it.
use Rattle.std.specs.Prelude.{◌<◌, ◌^◌, List, length}
use Rattle.tilt_conventions.specs.declared.options.Options.{Options}
use Rattle.tilt_reading_feed.specs.Laws.{HoldTicks}
use Rattle.tilt_reading_text.specs.Form.{FormValue}

-- how the lines are written, and what the readings of each input mean
pub record SetupParts : Type 0 where
  pub form : FormValue
  pub options : List Options

-- there are few inputs, and their readings hold for a tick at least
pub record IsSetup (setup : SetupParts) : Type 0 where
  pub sources : length setup.form.sources < 2 ^ 32
  pub few : length setup.options < 2 ^ 32
  pub ages : HoldTicks setup.options
