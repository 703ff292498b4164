-- Arguments are one command at most.
use Rattle.std.proofs.Common.{◌≡◌, ◌==◌, ℕ, Bool, true, false, List, [], ◌∷◌, Option, None, Some, Ok, length, codes, String, string_bytes, refl, sym, ap, ◌∙◌, subst}
use Rattle.std.proofs.lemmas.Bool.{false≢true}
use Rattle.std.specs.declared.alloc.Global.{Global}
use Rattle.tilt_cli.specs.Arguments.{ArgumentsValue, AreArguments, no_arguments}
use Rattle.tilt_cli.specs.Binding.{binding_of, bindings_of}
use Rattle.tilt_cli.specs.Command.{texts}
use Rattle.tilt_cli.specs.Options.{is_set}
use Rattle.tilt_cli.specs.declared.bind.Bind.{Bind}
use Rattle.tilt_cli.proofs.Determined.{same_arguments}
use Rattle.tilt_live_cli.specs.Arguments.{CommandValue, IsLiveCommand, asked_options, chosen, task_asked}
use Rattle.tilt_live_cli.specs.LiveOptions.{live_options, options_fit}
use Rattle.tilt_input_scales.specs.Scales.{ScalesValue}
use Rattle.tilt_live_cli.specs.Readings.{AreBounds, AreInUnits, AreSaid, reading_texts, text_at}
use Rattle.tilt_reading_options.specs.Texts.{TextsValue}
use Rattle.tilt_reading_options.specs.Values.{ChoiceValue}
use Rattle.tilt_unit_report.specs.declared.bound.InputBound.{InputBound}

-- the text of the first argument, and the others
pub front_texts : (words : List (String Global)) (first : String Global) (rest : List (String Global)) (query : List ℕ) → words ≡ first ∷ rest
    → query ≡ string_bytes first → texts words ≡ query ∷ texts rest
front_texts words first rest query front same = ap texts front ∙ ap (λ (q : List ℕ). q ∷ texts rest) (sym same)

-- there are binds
pub some_binds : (binds : List Bind) → (length binds == 0) ≡ false → ¬ (bindings_of binds ≡ [])
some_binds [] some none = false≢true (sym some)
some_binds (b ∷ binds) some none = let same : binding_of b ∷ bindings_of binds ≡ [] = none in cc

-- texts say one choice at most
said_once : (texts : Option TextsValue) (choice other : Option ChoiceValue) → AreSaid texts choice → AreSaid texts other → other ≡ choice
said_once None None None said also = refl
said_once None None (Some other) said also = absurd also
said_once None (Some choice) other said also = absurd said
said_once (Some texts) None other said also = absurd said
said_once (Some texts) (Some choice) None said also = absurd also
said_once (Some texts) (Some choice) (Some other) said also = let same : Ok other ≡ Ok choice = sym also ∙ said in cc

-- a text says scales once at most
units_once : (in_units : Bool) (text : Option (List ℕ)) (units other : Option ScalesValue) → AreInUnits in_units text units → AreInUnits in_units text other
    → other ≡ units
units_once false text None None said also = refl
units_once false text None (Some other) said also = absurd also
units_once false text (Some scales) other said also = absurd said
units_once true text None other said also = absurd said
units_once true text (Some scales) None said also = absurd also
units_once true text (Some scales) (Some other) said also = let same : Ok other ≡ Ok scales = sym also ∙ said in cc

-- a text says bounds once at most
bounds_once : (checks : Bool) (units : Option ScalesValue) (text : Option (List ℕ)) (bounds other : Option (List InputBound)) → AreBounds checks units text bounds
    → AreBounds checks units text other → other ≡ bounds
bounds_once false units text None None said also = refl
bounds_once false units text None (Some other) said also = absurd also
bounds_once false units text (Some bounds) other said also = absurd said
bounds_once true None text bounds other said also = absurd said
bounds_once true (Some scales) text None other said also = absurd said
bounds_once true (Some scales) text (Some bounds) None said also = absurd also
bounds_once true (Some scales) text (Some bounds) (Some other) said also = let same : Some other ≡ Some bounds = sym also ∙ said in cc

module _ (words : List (List ℕ)) (query : List ℕ) (rest : List (List ℕ)) (front : words ≡ query ∷ rest) where
  -- what the arguments after the file give
  given_said : (command : CommandValue) → (is : IsLiveCommand words command) → AreArguments live_options no_arguments rest is.given
  given_said command is =
      let same : query ∷ rest ≡ command.query ∷ is.rest = sym front ∙ is.words_are in
      let rests : is.rest ≡ rest = cc in
      subst (λ r. AreArguments live_options no_arguments r is.given) rests is.are_arguments

  module _ (given : ArgumentsValue) (are : AreArguments live_options no_arguments rest given) where
    same_given : (command : CommandValue) → (is : IsLiveCommand words command) → is.given ≡ given
    same_given command is = same_arguments (given_said command is) are

    -- with binds they are no command
    pub with_binds : ¬ (given.binds ≡ []) → (command : CommandValue) → ¬ (IsLiveCommand words command)
    with_binds some command is = some (ap (λ (g : ArgumentsValue). g.binds) (sym (same_given command is)) ∙ is.no_binds)

    -- if the options don't fit, neither
    pub with_unfit : options_fit given.settings ≡ false → (command : CommandValue) → ¬ (IsLiveCommand words command)
    with_unfit unfit command is = false≢true (sym unfit ∙ ap (λ (g : ArgumentsValue). options_fit g.settings) (sym (same_given command is)) ∙ is.fit)

    -- if the options of readings say nothing, neither
    pub with_unsaid : ((readings : Option ChoiceValue) → ¬ (AreSaid (reading_texts given.settings) readings)) → (command : CommandValue) → ¬ (IsLiveCommand words command)
    with_unsaid unsaid command is =
        unsaid command.readings (subst (λ (g : ArgumentsValue). AreSaid (reading_texts g.settings) command.readings) (same_given command is) is.readings_are)

    -- if the scales of a query in units are none, neither
    pub with_unscaled : ((units : Option ScalesValue) → ¬ (AreInUnits (is_set (codes "--units") given.settings) (text_at (codes "--scale") given.settings) units))
        → (command : CommandValue) → ¬ (IsLiveCommand words command)
    with_unscaled unsaid command is =
        unsaid command.units (subst (λ (g : ArgumentsValue). AreInUnits (is_set (codes "--units") g.settings) (text_at (codes "--scale") g.settings) command.units)
        (same_given command is) is.units_are)

    -- if the bounds of a query in units are none, neither
    pub with_unknown : (units : Option ScalesValue)
        → AreInUnits (is_set (codes "--units") given.settings) (text_at (codes "--scale") given.settings) units
        → ((bounds : Option (List InputBound)) → ¬ (AreBounds (is_set (codes "--units") given.settings) units (text_at (codes "--bounds") given.settings) bounds))
        → (command : CommandValue) → ¬ (IsLiveCommand words command)
    with_unknown units said unsaid command is =
        let same = same_given command is in
        let units_same = units_once (is_set (codes "--units") given.settings) (text_at (codes "--scale") given.settings) units command.units said
        (subst (λ (g : ArgumentsValue). AreInUnits (is_set (codes "--units") g.settings) (text_at (codes "--scale") g.settings) command.units) same is.units_are) in
        unsaid command.bounds (subst (λ (u : Option ScalesValue). AreBounds (is_set (codes "--units") given.settings) u (text_at (codes "--bounds") given.settings) command.bounds)
        units_same
        (subst (λ (g : ArgumentsValue). AreBounds (is_set (codes "--units") g.settings) command.units (text_at (codes "--bounds") g.settings) command.bounds) same is.bounds_are))

    -- if the bounds of a check are none, neither
    pub with_unbounded : (units : Option ScalesValue)
        → AreInUnits (is_set (codes "--units") given.settings) (text_at (codes "--scale") given.settings) units
        → ((bounds : Option (List InputBound)) → ¬ (AreBounds (is_set (codes "--check") given.settings) units (text_at (codes "--bounds") given.settings) bounds))
        → (command : CommandValue) → ¬ (IsLiveCommand words command)
    with_unbounded units said unsaid command is =
        let same = same_given command is in
        let units_same = units_once (is_set (codes "--units") given.settings) (text_at (codes "--scale") given.settings) units command.units said
        (subst (λ (g : ArgumentsValue). AreInUnits (is_set (codes "--units") g.settings) (text_at (codes "--scale") g.settings) command.units) same is.units_are) in
        unsaid command.check (subst (λ (u : Option ScalesValue). AreBounds (is_set (codes "--check") given.settings) u (text_at (codes "--bounds") given.settings) command.check)
        units_same
        (subst (λ (g : ArgumentsValue). AreBounds (is_set (codes "--check") g.settings) command.units (text_at (codes "--bounds") g.settings) command.check) same is.check_is))

    -- they are no other command
    pub only_said : (command : CommandValue) → command.query ≡ query → command.plain ≡ is_set (codes "--plain") given.settings → command.dated ≡ is_set (codes "--times") given.settings
        → command.asked ≡ asked_options given.settings → AreSaid (reading_texts given.settings) command.readings
        → AreInUnits (is_set (codes "--units") given.settings) (text_at (codes "--scale") given.settings) command.units
        → AreBounds (is_set (codes "--units") given.settings) command.units (text_at (codes "--bounds") given.settings) command.bounds
        → AreBounds (is_set (codes "--check") given.settings) command.units (text_at (codes "--bounds") given.settings) command.check
        → command.resume ≡ text_at (codes "--resume") given.settings
        → command.save ≡ text_at (codes "--save") given.settings
        → command.folder ≡ chosen (task_asked given.settings) (text_at (codes "--folder") given.settings) → (other : CommandValue) → IsLiveCommand words other → other ≡ command
    only_said command queries plains dateds asked readings units bounds checks resumes saves folders other is =
        let words_same : query ∷ rest ≡ other.query ∷ is.rest = sym front ∙ is.words_are in
        let same = same_given other is in
        let query_same : other.query ≡ command.query = cc in
        let plain_same = is.plain_is ∙ ap (λ (g : ArgumentsValue). is_set (codes "--plain") g.settings) same ∙ sym plains in
        let dated_same = is.dated_is ∙ ap (λ (g : ArgumentsValue). is_set (codes "--times") g.settings) same ∙ sym dateds in
        let asked_same = is.asked_is ∙ ap (λ (g : ArgumentsValue). asked_options g.settings) same ∙ sym asked in
        let readings_same = said_once (reading_texts given.settings) command.readings other.readings readings
        (subst (λ (g : ArgumentsValue). AreSaid (reading_texts g.settings) other.readings) same is.readings_are) in
        let units_same = units_once (is_set (codes "--units") given.settings) (text_at (codes "--scale") given.settings) command.units other.units units
        (subst (λ (g : ArgumentsValue). AreInUnits (is_set (codes "--units") g.settings) (text_at (codes "--scale") g.settings) other.units) same is.units_are) in
        let bounds_same = bounds_once (is_set (codes "--units") given.settings) command.units (text_at (codes "--bounds") given.settings) command.bounds other.bounds bounds
        (subst (λ (u : Option ScalesValue). AreBounds (is_set (codes "--units") given.settings) u (text_at (codes "--bounds") given.settings) other.bounds)
        units_same
        (subst (λ (g : ArgumentsValue). AreBounds (is_set (codes "--units") g.settings) other.units (text_at (codes "--bounds") g.settings) other.bounds) same is.bounds_are)) in
        let check_same = bounds_once (is_set (codes "--check") given.settings) command.units (text_at (codes "--bounds") given.settings) command.check other.check checks
        (subst (λ (u : Option ScalesValue). AreBounds (is_set (codes "--check") given.settings) u (text_at (codes "--bounds") given.settings) other.check)
        units_same
        (subst (λ (g : ArgumentsValue). AreBounds (is_set (codes "--check") g.settings) other.units (text_at (codes "--bounds") g.settings) other.check) same is.check_is)) in
        let resume_same = is.resume_is ∙ ap (λ (g : ArgumentsValue). text_at (codes "--resume") g.settings) same ∙ sym resumes in
        let save_same = is.save_is ∙ ap (λ (g : ArgumentsValue). text_at (codes "--save") g.settings) same ∙ sym saves in
        let folder_same = is.folder_is ∙ ap (λ (g : ArgumentsValue). chosen (task_asked g.settings) (text_at (codes "--folder") g.settings)) same ∙ sym folders in
        λ i. record {
          query = query_same i;
          plain = plain_same i;
          dated = dated_same i;
          asked = asked_same i;
          readings = readings_same i;
          units = units_same i;
          bounds = bounds_same i;
          check = check_same i;
          resume = resume_same i;
          save = save_same i;
          folder = folder_same i;
        }
