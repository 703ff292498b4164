-- The choice, or the first option that is bad, after those that aren't.
use Rattle.std.proofs.Common.{◌≡◌, Option, Ok, Err, refl}
use Rattle.tilt_input_scales.specs.Scales.{ScalesValue}
use Rattle.tilt_reading_options.specs.Choice.{choice_said, chosen, conventions_said, marks_said, scales_said, tick_rules_said}
use Rattle.tilt_reading_options.specs.Choice.{times_said, titles_said}
use Rattle.tilt_reading_options.specs.Conventions.{ConventionsValue}
use Rattle.tilt_reading_options.specs.Results.{IsChoice, Says}
use Rattle.tilt_reading_options.specs.Texts.{TextsValue}
use Rattle.tilt_reading_lines.specs.Titles.{TitlesValue, titles_of}
use Rattle.tilt_reading_options.specs.Values.{ZoneChoiceValue}
use Rattle.tilt_reading_options.specs.ZoneChoice.{zone_said}
use Rattle.tilt_reading_options.specs.declared.fault.ChoiceFault.{ChoiceFault}
use Rattle.tilt_reading_options.specs.declared.fault.ChoiceFault.TheVariants.{Bad, OutOfMemory}
use Rattle.tilt_reading_options.specs.declared.parts.Marks.{Marks}
use Rattle.tilt_reading_options.specs.declared.parts.TickRules.{TickRules}
use Rattle.tilt_reading_options.specs.declared.parts.Times.{Times}
use Rattle.tilt_reading_options.specs.declared.reading_option.ReadingOption.{ReadingOption}

module _ (texts : TextsValue) where
  pub bad_titles : (fault : ChoiceFault) → Says titles_of (Err fault) (titles_said texts.time texts.name texts.value) → IsChoice (Err fault) (choice_said texts)
  bad_titles (Bad option) e = rw e refl
  bad_titles OutOfMemory e = tt

  module _ (titles : TitlesValue) (a : titles_said texts.time texts.name texts.value ≡ Ok titles) where
    pub bad_times : (option : ReadingOption) → Err option ≡ times_said texts → choice_said texts ≡ Err option
    bad_times option e = rw (a, ← e) refl

    module _ (times : Times) (b : Ok times ≡ times_said texts) where
      pub bad_scales : (fault : ChoiceFault) → Says {A = ScalesValue} (λ scales. scales) (Err fault) (scales_said texts.scale) → IsChoice (Err fault) (choice_said texts)
      bad_scales (Bad option) e = rw (a, ← b, e) refl
      bad_scales OutOfMemory e = tt

      module _ (scales : ScalesValue) (c : scales_said texts.scale ≡ Ok scales) where
        pub bad_conventions : (fault : ChoiceFault) → Says {A = ConventionsValue} (λ conventions. conventions) (Err fault) (conventions_said times.tick texts)
            → IsChoice (Err fault) (choice_said texts)
        bad_conventions (Bad option) e = rw (a, ← b, c, e) refl
        bad_conventions OutOfMemory e = tt

        module _ (conventions : ConventionsValue) (d : conventions_said times.tick texts ≡ Ok conventions) where
          pub bad_rules : (option : ReadingOption) → Err option ≡ tick_rules_said texts → choice_said texts ≡ Err option
          bad_rules option e = rw (a, ← b, c, d, ← e) refl

          module _ (rules : TickRules) (r : Ok rules ≡ tick_rules_said texts) where
            pub bad_marks : (option : ReadingOption) → Err option ≡ marks_said texts → choice_said texts ≡ Err option
            bad_marks option e = rw (a, ← b, c, d, ← r, ← e) refl

            module _ (marks : Marks) (m : Ok marks ≡ marks_said texts) where
              pub bad_zone : (fault : ChoiceFault)
                  → Says {A = Option ZoneChoiceValue} (λ zone. zone) (Err fault) (zone_said texts.unit texts.zone texts.fold) → IsChoice (Err fault) (choice_said texts)
              bad_zone (Bad option) e = rw (a, ← b, c, d, ← r, ← m, e) refl
              bad_zone OutOfMemory e = tt

              pub all_said : (local : Option ZoneChoiceValue) → zone_said texts.unit texts.zone texts.fold ≡ Ok local
                  → choice_said texts ≡ Ok (chosen texts titles times scales conventions rules marks local)
              all_said local e = rw (a, ← b, c, d, ← r, ← m, e) refl
