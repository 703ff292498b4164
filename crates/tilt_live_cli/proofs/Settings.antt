-- Tests of words, and texts of options that are set.
use Rattle.std.proofs.Common.{◌≡◌, ◌||◌, ℕ, Bool, true, false, List, [], ◌∷◌, Option, None, Some, inl, inr, refl, ap, codes, ◌∙◌}
use Rattle.std.proofs.lemmas.Bool.{cases_Bool}
use Rattle.std.specs.Str.{bytes_eq}
use Rattle.tilt_cli.specs.Options.{SettingValue, is_set, set_to, text_of}
use Rattle.std.specs.Prelude.{option_map}
use Rattle.tilt_live_cli.specs.Readings.{reading_texts, scale_text, text_at, texts_with}
use Rattle.tilt_reading_options.specs.Texts.{TextsValue}

-- neither of two tests
pub neither : (a b : Bool) → a || b ≡ false → (a ≡ false) × (b ≡ false)
neither true b none = absurd (cc none)
neither false b none = (refl, none)

-- an option with a text is set, and one that isn't set has none
pub set-text : (word : List ℕ) (settings : List SettingValue) (text : List ℕ) → text_at word settings ≡ Some text → is_set word settings ≡ true
set-text word [] text is = absurd (cc is)
set-text word (setting ∷ settings) text is =
    elim (cases_Bool (bytes_eq setting.option word)) [ inl so ↦ rw so refl | inr not ↦ rw not (set-text word settings text (rw not at is)) ]

pub unset-text : (word : List ℕ) (settings : List SettingValue) → is_set word settings ≡ false → text_at word settings ≡ None
unset-text word [] none = refl
unset-text word (setting ∷ settings) none =
    let both = neither (bytes_eq setting.option word) _ none in
    rw both.0 (unset-text word settings both.1)

-- The text of the scales is that of the options of readings, if there are some. It is what is left of the option otherwise
scale-among : (settings : List SettingValue) (time : Option (List ℕ)) → (rows : Option (List ℕ)) → (time ≡ None → rows ≡ text_at (codes "--scale") settings)
    → scale_text (option_map (texts_with settings) time) rows ≡ text_at (codes "--scale") settings
scale-among settings None rows left = left refl
scale-among settings (Some time) rows left = refl

no-texts : (settings : List SettingValue) (time : Option (List ℕ)) → time ≡ None → option_map (texts_with settings) time ≡ None
no-texts settings None none = refl
no-texts settings (Some time) none = absurd (cc none)

pub scale-text : (old new : List SettingValue) (readings : Option TextsValue) (rows : Option (List ℕ)) → readings ≡ reading_texts old
    → (readings ≡ None → set_to (codes "--scale") new ≡ set_to (codes "--scale") old) → rows ≡ text_at (codes "--scale") new
    → scale_text readings rows ≡ text_at (codes "--scale") old
scale-text old new readings rows is kept left =
    rw is (scale-among old (text_at (codes "--time") old) rows
    (λ none. left ∙ ap text_of (kept (is ∙ no-texts old (text_at (codes "--time") old) none))))
