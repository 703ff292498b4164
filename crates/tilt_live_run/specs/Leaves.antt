-- What is left of a feed after lines, as the code has it.
use Rattle.std.specs.Prelude.{◌≡◌, ⊤, false, Option, None, Some}
use Rattle.tilt_core.specs.Core.{CoreParts}
use Rattle.tilt_feed_form.specs.Kept.{IsOfForm}
use Rattle.tilt_feed_form.specs.Said.{FeedState}
use Rattle.tilt_feed_form.specs.declared.feed_form.FeedForm.{FeedForm}
use Rattle.tilt_feed_form.specs.declared.feed_form.FeedForm.TheVariants.{Readings, Rows}
use Rattle.tilt_live_run.specs.Left.{inputs_left, kept_beside, readings_kept, watermark_options}
use Rattle.tilt_live_run.specs.declared.left.Left.{Left}
use Rattle.tilt_reading_state.specs.Valid.{IsResumable}
use Rattle.tilt_reading_text.specs.Kept.{BareText}
use Rattle.tilt_watermarks.specs.Laws.{IsKeptOf}

-- a feed of readings isn't finished by its lines
abbrev pub GoesOn : FeedForm → FeedState → Type 0
GoesOn (Rows options) state = ⊤
GoesOn (Readings setup) state = state.feed.finished ≡ false

-- what is kept of the text of a feed is that of a text of its form, and what watermarks keep belongs to the feed
pub record Belongs (form : FeedForm) (state : FeedState) : Type 0 where
  pub of_form : IsOfForm form state.kept
  pub goes_on : GoesOn form state
  pub kept : IsKeptOf (watermark_options form).lateness (kept_beside state.kept state.feed) state.feed

-- it is what is left
pub record IsLeftOf (core : CoreParts) (state : FeedState) (left : Left) : Type 0 where
  pub inputs : left.inputs.items ≡ inputs_left core state
  pub finished : left.finished ≡ state.feed.finished
  pub greatest : left.greatest ≡ (kept_beside state.kept state.feed).greatest
  pub latest : left.latest ≡ (kept_beside state.kept state.feed).latest
  pub kept : left.kept ≡ readings_kept state.kept

-- a text of readings can go on from what is kept, if something is
abbrev pub AreResumable : Option BareText → Type 0
AreResumable None = ⊤
AreResumable (Some kept) = IsResumable kept
