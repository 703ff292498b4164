-- What is kept of a text while its lines come.
use Rattle.std.proofs.Common.{◌≡◌, ℕ, zero, suc, ℤ, Bool, true, false, is_none, List, [], ◌∷◌, ◌++◌, length, map, Option, None, Some, Result, Ok, Err}
use Rattle.std.proofs.Common.{refl, sym, ap, ◌∙◌, subst}
use Rattle.std.proofs.lemmas.List.{length-map}
use Rattle.std.specs.Prelude.{if◌then◌else◌}
use Rattle.tilt_conventions.specs.declared.options.Options.{Options}
use Rattle.tilt_conventions.specs.declared.turn.Turn.{Turn}
use Rattle.tilt_conventions.specs.declared.turn.Turn.TheVariants.{KnownUpTo}
use Rattle.tilt_feed.specs.Events.{after, after_all, changed_by, event_fault}
use Rattle.tilt_feed.specs.Feed.{Feed}
use Rattle.tilt_feed.specs.declared.event.Event.{Event}
use Rattle.tilt_feed.specs.declared.event.Event.TheVariants.{Input}
use Rattle.tilt_feed.specs.declared.update.Update.{Update}
use Rattle.tilt_feed_form.specs.Kept.{IsOfForm, bare_kept, kept_with}
use Rattle.tilt_feed_form.specs.Said.{FeedState, TextKept, after_line, after_lines, first_state}
use Rattle.tilt_feed_form.specs.Said.TextKept.{OfRows, OfReadings}
use Rattle.tilt_feed_form.specs.declared.feed_form.FeedForm.{FeedForm}
use Rattle.tilt_feed_form.specs.declared.feed_form.FeedForm.TheVariants as forms
use Rattle.tilt_feed_text.proofs.Saying.{after-append}
use Rattle.tilt_outside.specs.Counts.{next_count}
use Rattle.tilt_reading_feed.proofs.Resuming.{inputs-same}
use Rattle.tilt_reading_feed.specs.Kept.{inputs_with, options_kept}
use Rattle.tilt_reading_feed.specs.Laws.{line_stepped}
use Rattle.tilt_reading_feed.specs.Steps.{FeedKept, InputKept, events_at, events_each, events_known, events_read, first_kept as first_input, handed, handed_at}
use Rattle.tilt_reading_feed.specs.Steps.{inputs_known, inputs_read, inputs_turned, line_fault, line_taken, turn_of, turned}
use Rattle.tilt_reading_lines.specs.Lines.{Said}
use Rattle.tilt_reading_lines.specs.declared.rules.InputReading.{InputReading}
use Rattle.tilt_reading_text.specs.Said.{Content, content, feed_step}
use Rattle.tilt_reading_text.specs.Said.Content.{Blank, Header, Readings}
use Rattle.tilt_reading_text.specs.declared.bad_reading_line.BadReadingLine.{BadReadingLine}

abbrev options_in : List InputKept → List Options
options_in inputs = map (λ input. input.options) inputs

-- No turn changes what readings mean,
options-turned : (number : ℕ) (turn : Turn) (inputs : List InputKept) → options_in (inputs_turned number turn inputs) ≡ options_in inputs
options-turned number turn [] = refl
options-turned zero turn (input ∷ inputs) = refl
options-turned (suc number) turn (input ∷ inputs) = ap (λ (list : List Options). input.options ∷ list) (options-turned number turn inputs)

options-read : (readings : List InputReading) (inputs : List InputKept) → options_in (inputs_read readings inputs) ≡ options_in inputs
options-read [] inputs = refl
options-read (r ∷ readings) inputs =
    options-read readings (inputs_turned r.input (turn_of r) inputs) ∙ options-turned r.input (turn_of r) inputs

options-all : (turn : Turn) (inputs : List InputKept) → options_in (map (turned turn) inputs) ≡ options_in inputs
options-all turn [] = refl
options-all turn (input ∷ inputs) = ap (λ (list : List Options). input.options ∷ list) (options-all turn inputs)

options-known : (known : Option ℤ) (inputs : List InputKept) → options_in (inputs_known known inputs) ≡ options_in inputs
options-known None inputs = refl
options-known (Some tick) inputs = options-all (KnownUpTo tick) inputs

-- and so no line does
options-stepped : (said : Said) (kept : FeedKept) → options_kept (line_stepped said kept).kept ≡ options_kept kept
options-stepped said kept = by (is_none (line_fault kept said))
  where
    by : (taken : Bool) → options_kept (if taken then line_taken said kept else record { kept = kept; events = [] }).kept ≡ options_kept kept
    by true = options-known said.known (inputs_read said.readings kept.inputs) ∙ options-read said.readings kept.inputs
    by false = refl

options-step : (what : Result Content BadReadingLine) (kept : FeedKept) → options_kept (feed_step what kept).kept ≡ options_kept kept
options-step (Ok Blank) kept = refl
options-step (Ok (Header layout)) kept = refl
options-step (Ok (Readings said)) kept = options-stepped said kept
options-step (Err why) kept = refl

-- An update doesn't finish a feed,
update-unfinished : (number : ℕ) (update : Update) (feed : Feed) → feed.finished ≡ false → (after (Input number update) feed).finished ≡ false
update-unfinished number update feed going = by (is_none (event_fault feed (Input number update)))
  where
    by : (allowed : Bool) → (if allowed then changed_by (Input number update) feed.inputs else feed).finished ≡ false
    by true = refl
    by false = going

updates-unfinished : (number : ℕ) (updates : List Update) (feed : Feed) → feed.finished ≡ false
    → (after_all (events_at number updates) feed).finished ≡ false
updates-unfinished number [] feed going = going
updates-unfinished number (update ∷ updates) feed going =
    updates-unfinished number updates (after (Input number update) feed) (update-unfinished number update feed going)

-- nor do the events of two lists if those of neither do
abbrev Goes : List Event → Type 0
Goes events = (feed : Feed) → feed.finished ≡ false → (after_all events feed).finished ≡ false

goes-both : (first second : List Event) → Goes first → Goes second → Goes (first ++ second)
goes-both first second one two feed going =
    subst (λ (f : Feed). f.finished ≡ false) (sym (after-append first second feed)) (two (after_all first feed) (one feed going))

read-goes : (readings : List InputReading) (inputs : List InputKept) → Goes (events_read readings inputs)
read-goes [] inputs = λ feed going. going
read-goes (r ∷ readings) inputs =
    goes-both (events_at r.input (handed_at r.input (turn_of r) inputs)) (events_read readings (inputs_turned r.input (turn_of r) inputs))
    (updates-unfinished r.input (handed_at r.input (turn_of r) inputs)) (read-goes readings (inputs_turned r.input (turn_of r) inputs))

each-goes : (updates : InputKept → List Update) (number : ℕ) (inputs : List InputKept) → Goes (events_each updates number inputs)
each-goes updates number [] = λ feed going. going
each-goes updates number (input ∷ inputs) =
    goes-both (events_at number (updates input)) (events_each updates (suc number) inputs)
    (updates-unfinished number (updates input)) (each-goes updates (suc number) inputs)

known-goes : (known : Option ℤ) (inputs : List InputKept) → Goes (events_known known inputs)
known-goes None inputs = λ feed going. going
known-goes (Some tick) inputs = each-goes (handed (KnownUpTo tick)) 0 inputs

stepped-goes : (said : Said) (kept : FeedKept) → Goes (line_stepped said kept).events
stepped-goes said kept = by (is_none (line_fault kept said))
  where
    by : (taken : Bool) → Goes (if taken then line_taken said kept else record { kept = kept; events = [] }).events
    by true = goes-both (events_read said.readings kept.inputs) (events_known said.known (inputs_read said.readings kept.inputs))
        (read-goes said.readings kept.inputs) (known-goes said.known (inputs_read said.readings kept.inputs))
    by false = λ feed going. going

step-goes : (what : Result Content BadReadingLine) (kept : FeedKept) → Goes (feed_step what kept).events
step-goes (Ok Blank) kept = λ feed going. going
step-goes (Ok (Header layout)) kept = λ feed going. going
step-goes (Ok (Readings said)) kept = stepped-goes said kept
step-goes (Err why) kept = λ feed going. going

-- what is so of a state after lines of readings: what readings mean is as it was, and the feed isn't finished
abbrev pub IsGoing : FeedForm → FeedState → Type 0
IsGoing (forms.Rows options) state = IsOfForm (forms.Rows options) state.kept
IsGoing (forms.Readings setup) state = IsOfForm (forms.Readings setup) state.kept × (state.feed.finished ≡ false)

going_line : (form : FeedForm) (inputs : List (List ℕ)) (number : ℕ) (line : List ℕ) (kept : TextKept) (feed : Feed)
    → IsGoing form (record { kept = kept; feed = feed }) → IsGoing form (after_line form inputs number line (record { kept = kept; feed = feed }))
going_line (forms.Rows options) inputs number line (OfRows kept) feed is = tt
going_line (forms.Rows options) inputs number line (OfReadings kept) feed is = absurd is
going_line (forms.Readings setup) inputs number line (OfRows kept) feed is = absurd is.0
going_line (forms.Readings setup) inputs number line (OfReadings kept) feed is =
    let what = content setup.form kept.layout line in
    (options-step what kept.feed ∙ is.0, step-goes what kept.feed feed is.1)

going_lines : (form : FeedForm) (inputs : List (List ℕ)) (number : ℕ) (state : FeedState) (lines : List (List ℕ))
    → IsGoing form state → IsGoing form (after_lines form inputs number state lines)
going_lines form inputs number state [] is = is
going_lines form inputs number state (line ∷ lines) is =
    going_lines form inputs (next_count number) (after_line form inputs number line state) lines
    (going_line form inputs number line state.kept state.feed is)

options-first : (options : List Options) → options_in (map first_input options) ≡ options
options-first [] = refl
options-first (o ∷ options) = ap (λ (list : List Options). o ∷ list) (options-first options)

going_first : (form : FeedForm) (inputs : ℕ) → IsGoing form (first_state form inputs)
going_first (forms.Rows options) inputs = tt
going_first (forms.Readings setup) inputs = (options-first setup.options, refl)

pub lines-going : (form : FeedForm) (inputs : List (List ℕ)) (lines : List (List ℕ))
    → IsGoing form (after_lines form inputs 0 (first_state form (length inputs)) lines)
lines-going form inputs lines = going_lines form inputs 0 (first_state form (length inputs)) lines (going_first form (length inputs))

-- A text that goes on from what is kept of a text of its form keeps what that does
pub kept-same : (form : FeedForm) (kept : TextKept) → IsOfForm form kept → kept_with form (bare_kept kept) ≡ kept
kept-same (forms.Rows options) (OfRows kept) is = refl
kept-same (forms.Rows options) (OfReadings kept) is = absurd is
kept-same (forms.Readings setup) (OfRows kept) is = absurd is
kept-same (forms.Readings setup) (OfReadings kept) is =
    let bare = map (λ (input : InputKept). input.kept) kept.feed.inputs in
    let inputs = ap (λ (options : List Options). inputs_with options bare) (sym is) ∙ inputs-same kept.feed.inputs in
    λ i. OfReadings (record { layout = kept.layout; feed = record { inputs = inputs i; finished = kept.feed.finished } })

-- and there are as many inputs as in its form
pub kept-many : (options : List Options) (kept : FeedKept) → options_kept kept ≡ options → length (map (λ (input : InputKept). input.kept) kept.inputs) ≡ length options
kept-many options kept is =
    length-map kept.inputs (λ (input : InputKept). input.kept) ∙ sym (length-map kept.inputs (λ (input : InputKept). input.options))
    ∙ ap (λ (list : List Options). length list) is
