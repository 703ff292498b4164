-- The arguments of the program: the file of the query, and options, each of them at most once (our own rule).
use Rattle.std.specs.Prelude.{◌≡◌, ℕ, min, Bool, true, false, List, [], ◌∷◌, Option, None, Some, codes, option_map, string_bytes}
use Rattle.tilt_cli.specs.Arguments.{AreArguments, ArgumentsValue, no_arguments}
use Rattle.tilt_cli.specs.Command.{IsFile}
use Rattle.tilt_cli.specs.Options.{SettingValue, is_set, set_to, ticks_of}
use Rattle.tilt_input_scales.specs.Scales.{ScalesValue}
use Rattle.tilt_live_cli.specs.LiveOptions.{live_options, options_fit}
use Rattle.tilt_live_cli.specs.Readings.{AreBounds, AreInUnits, AreSaid, reading_texts, text_at}
use Rattle.tilt_live_cli.specs.declared.arguments.FolderChoice.{FolderChoice}
use Rattle.tilt_live_cli.specs.declared.arguments.LiveCommand.{LiveCommand}
use Rattle.tilt_live_cli.specs.declared.arguments.Task.{Task}
use Rattle.tilt_live_cli.specs.declared.arguments.Task.TheVariants.{Position, Serve}
use Rattle.tilt_live_cli.specs.declared.asked.Asked.{Asked}
use Rattle.tilt_live_run.specs.declared.display.Display.{Display}
use Rattle.tilt_reading_options.specs.Values.{ChoiceValue}
use Rattle.tilt_row_text.specs.declared.times.Times.TheVariants.{Ticks}
use Rattle.tilt_unit_report.specs.declared.bound.InputBound.{InputBound}

-- a number, or another one if there is none
abbrev pub number_or : ℕ → Option ℕ → ℕ
number_or other None = other
number_or other (Some n) = n

-- what they ask to be written, and how: times as ticks, and values with so many decimals
abbrev pub display_asked : List SettingValue → Display
display_asked settings = record {
  with_begun = is_set (codes "--begun") settings;
  style = record { times = Ticks; decimals = min (number_or 0 (ticks_of (set_to (codes "--decimals") settings))) 19 };
}

-- how many keys a feed may have at most, if its lines have keys: as many as there can be, if no number is given
abbrev pub keys_asked : Bool → Option ℕ → Option ℕ
keys_asked true most = Some (number_or 18446744073709551615 most)
keys_asked false most = None

-- what the options ask of a run
abbrev pub asked_options : List SettingValue → Asked
asked_options settings = record {
  display = display_asked settings;
  strict = is_set (codes "--strict") settings;
  watermarks = record {
    idle = ticks_of (set_to (codes "--idle") settings);
    ahead = ticks_of (set_to (codes "--ahead") settings);
    lateness = ticks_of (set_to (codes "--lateness") settings);
  };
  keys = keys_asked (is_set (codes "--keys") settings) (ticks_of (set_to (codes "--max-keys") settings));
}

-- what is done with a folder. Its position is printed, if that is asked for. Otherwise a feed is served, which is read from its first byte,
-- and committed after each line, if the options don't say otherwise
abbrev pub task_of : Bool → Option ℕ → Option ℕ → Task
task_of true from every = Position
task_of false from every = Serve (record { from = number_or 0 from; every = number_or 1 every })

-- what options ask for
abbrev pub task_asked : List SettingValue → Task
task_asked settings =
    task_of (is_set (codes "--position") settings) (ticks_of (set_to (codes "--from") settings)) (ticks_of (set_to (codes "--every") settings))

-- a folder, and what is done with it
pub record FolderValue : Type 0 where
  pub name : List ℕ
  pub task : Task

-- the folder of that name, if there is one
abbrev pub chosen : Task → Option (List ℕ) → Option FolderValue
chosen task name = option_map (λ bytes. record { name = bytes; task = task }) name

-- The file of the query; whether no loops are merged; whether times are written as dates; what is asked of the run. What the options of
-- readings say, if the feed has readings. If the query is in units: the scales of its inputs, and what is known of them. The same, if it is
-- checked and no feed is read.
-- If there are such files: that of the state that the run goes on from, and that in which its state is saved. If there is one: the folder
-- into which the feed is served
pub record CommandValue : Type 0 where
  pub query : List ℕ
  pub plain : Bool
  pub dated : Bool
  pub asked : Asked
  pub readings : Option ChoiceValue
  pub units : Option ScalesValue
  pub bounds : Option (List InputBound)
  pub check : Option (List InputBound)
  pub resume : Option (List ℕ)
  pub save : Option (List ℕ)
  pub folder : Option FolderValue

-- the arguments are this command: the file of its query, and then options that fit together, in any order, and no binds
pub record IsLiveCommand (words : List (List ℕ)) (command : CommandValue) : Type 0 where
  pub rest : List (List ℕ)
  pub given : ArgumentsValue
  pub words_are : words ≡ command.query ∷ rest
  pub is_file : IsFile command.query
  pub are_arguments : AreArguments live_options no_arguments rest given
  pub no_binds : given.binds ≡ []
  pub fit : options_fit given.settings ≡ true
  pub plain_is : command.plain ≡ is_set (codes "--plain") given.settings
  pub dated_is : command.dated ≡ is_set (codes "--times") given.settings
  pub asked_is : command.asked ≡ asked_options given.settings
  pub readings_are : AreSaid (reading_texts given.settings) command.readings
  pub units_are : AreInUnits (is_set (codes "--units") given.settings) (text_at (codes "--scale") given.settings) command.units
  pub bounds_are : AreBounds (is_set (codes "--units") given.settings) command.units (text_at (codes "--bounds") given.settings) command.bounds
  pub check_is : AreBounds (is_set (codes "--check") given.settings) command.units (text_at (codes "--bounds") given.settings) command.check
  pub resume_is : command.resume ≡ text_at (codes "--resume") given.settings
  pub save_is : command.save ≡ text_at (codes "--save") given.settings
  pub folder_is : command.folder ≡ chosen (task_asked given.settings) (text_at (codes "--folder") given.settings)

-- a folder, by its bytes
abbrev pub choice_value : FolderChoice → FolderValue
choice_value choice = record { name = string_bytes choice.name; task = choice.task }

-- a command, as bytes
abbrev pub command_value : LiveCommand → CommandValue
command_value command = record {
  query = command.query.now;
  plain = command.plain;
  dated = command.dated;
  asked = command.asked;
  readings = command.readings;
  units = command.units;
  bounds = option_map (λ bounds. bounds.items) command.bounds;
  check = option_map (λ bounds. bounds.items) command.check;
  resume = option_map (λ file. string_bytes file) command.resume;
  save = option_map (λ file. string_bytes file) command.save;
  folder = option_map choice_value command.folder;
}
