-- What is kept of the text of a feed, apart from its form (our own rule).
use Rattle.std.specs.Prelude.{◌≡◌, ◌<◌, ◌^◌, ⊤, true, [], length}
use Rattle.std.specs.List.{AllByRecursion}
use Rattle.tilt_conventions.specs.Resumable.{fits}
use Rattle.tilt_feed_form.specs.Said.{TextKept}
use Rattle.tilt_feed_form.specs.Said.TextKept.{OfRows, OfReadings}
use Rattle.tilt_feed_form.specs.declared.feed_form.FeedForm.{FeedForm}
use Rattle.tilt_feed_form.specs.declared.feed_form.FeedForm.TheVariants as forms
use Rattle.tilt_feed_form.specs.declared.kept_feed.KeptFeed.{KeptFeed}
use Rattle.tilt_feed_form.specs.declared.kept_feed.KeptFeed.TheVariants as bare
use Rattle.tilt_reading_feed.specs.Kept.{options_kept}
use Rattle.tilt_reading_text.specs.Kept.{bare_text, text_with}
use Rattle.tilt_watermarks.specs.Laws.{IsFit}

-- without its form
abbrev pub bare_kept : TextKept → KeptFeed
bare_kept (OfRows kept) = bare.Rows kept
bare_kept (OfReadings kept) = bare.Readings (bare_text kept)

-- and of a text of a form. What was kept of the other form is never given
abbrev pub kept_with : FeedForm → KeptFeed → TextKept
kept_with (forms.Rows options) (bare.Rows kept) = OfRows kept
kept_with (forms.Rows options) (bare.Readings kept) = OfReadings (text_with [] kept)
kept_with (forms.Readings setup) (bare.Rows kept) = OfRows kept
kept_with (forms.Readings setup) (bare.Readings kept) = OfReadings (text_with setup.options kept)

-- a text of a form can go on from it
abbrev pub FitsForm : FeedForm → KeptFeed → Type 0
FitsForm (forms.Rows options) (bare.Rows kept) = (length kept.inputs < 2 ^ 32) × AllByRecursion (IsFit options.lateness) kept.inputs
FitsForm (forms.Rows options) (bare.Readings kept) = ⊥
FitsForm (forms.Readings setup) (bare.Rows kept) = ⊥
FitsForm (forms.Readings setup) (bare.Readings kept) =
    (length kept.readings.inputs ≡ length setup.options) × AllByRecursion (λ input. fits input ≡ true) kept.readings.inputs

-- it is kept of a text of a form: what readings mean is what they mean in the form
abbrev pub IsOfForm : FeedForm → TextKept → Type 0
IsOfForm (forms.Rows options) (OfRows kept) = ⊤
IsOfForm (forms.Rows options) (OfReadings kept) = ⊥
IsOfForm (forms.Readings setup) (OfRows kept) = ⊥
IsOfForm (forms.Readings setup) (OfReadings kept) = options_kept kept.feed ≡ setup.options
