-- What lines say, one after another: steps of lines are steps of what they say.
use Rattle.std.proofs.Common.{◌≡◌, ℕ, Bool, true, false, if◌then◌else◌, List, [], ◌∷◌, ◌++◌, length, nat_lt, Option, None, Some, Result, Ok, Err}
use Rattle.std.proofs.Common.{refl, sym, ◌∙◌, inl, inr}
use Rattle.std.specs.Prelude.{⊤}
use Rattle.std.proofs.lemmas.Bool.{cases_Bool}
use Rattle.tilt_feed.specs.Events.{after_all}
use Rattle.tilt_feed.specs.Feed.{Feed}
use Rattle.tilt_feed_text.proofs.Saying.{after-append}
use Rattle.tilt_feed_text.specs.Said.{is_blank}
use Rattle.tilt_feed_text.specs.declared.pending.TheConstants.{LINE}
use Rattle.tilt_reading_feed.specs.Laws.{line_stepped, lines_stepped}
use Rattle.tilt_reading_feed.specs.Steps.{FeedKept, FeedStep}
use Rattle.tilt_reading_lines.specs.Header.{header_said}
use Rattle.tilt_reading_lines.specs.Lines.{Said}
use Rattle.tilt_reading_lines.specs.Rules.{Layout}
use Rattle.tilt_reading_lines.specs.declared.fault.HeaderFault.{HeaderFault}
use Rattle.tilt_reading_text.specs.Said.{Content, TextState, after_lines, after_step, content, content_fault, ends, feed_step}
use Rattle.tilt_reading_text.specs.Said.{header_or_bad, is_lost, layout_after, line_fault, lines_said, said_by, taken_from, text_step}
use Rattle.tilt_reading_text.specs.Said.Content.{Blank, Header, Readings}
use Rattle.tilt_reading_text.specs.declared.bad_reading_line.BadReadingLine.{BadReadingLine}
use Rattle.tilt_reading_text.specs.declared.bad_reading_line.BadReadingLine.TheVariants as bad
use Rattle.tilt_reading_text.specs.Form.{FormValue}

-- a feed is where what lines say takes it
pub record HasSaid (later : TextState) (step : FeedStep) (before : Feed) : Type 0 where
  pub kept : later.kept.feed ≡ step.kept
  pub feed : later.feed ≡ after_all step.events before

-- the lines after one that is taken
abbrev rest_taken : FormValue → Result Content BadReadingLine → List (List ℕ) → TextState → TextState
rest_taken form what lines state =
    let next = after_step (text_step (layout_after state.kept.layout what) (feed_step what state.kept.feed)) state.feed in
    after_lines form next (taken_from false form next lines)

-- a line that is taken, and the lines after it
abbrev steps_from : FormValue → Result Content BadReadingLine → List (List ℕ) → TextState → TextState
steps_from form what lines state =
    if ends false state.kept.layout (content_fault state.kept.feed what) then state else rest_taken form what lines state

-- and what they say
abbrev said_from : FormValue → Result Content BadReadingLine → List (List ℕ) → Option Layout → List Said
said_from form what lines layout =
    if is_lost layout what then [] else said_by what ++ lines_said form (layout_after layout what) lines

-- the lines after it are steps of what they say
abbrev pub SayAlike : FormValue → List (List ℕ) → Type 0
SayAlike form lines = (state : TextState)
    → HasSaid (after_lines form state (taken_from false form state lines)) (lines_stepped (lines_said form state.kept.layout lines) state.kept.feed) state.feed

-- readings, and what the lines after them say
readings-said : (form : FormValue) (said : Said) (lines : List (List ℕ)) (state : TextState) → SayAlike form lines
    → HasSaid (rest_taken form (Ok (Readings said)) lines state) (lines_stepped (said ∷ lines_said form state.kept.layout lines) state.kept.feed) state.feed
readings-said form said lines state alike =
    let step = line_stepped said state.kept.feed in
    let later = alike (after_step (text_step state.kept.layout step) state.feed) in
    let rest = lines_stepped (lines_said form state.kept.layout lines) step.kept in
    record { kept = later.kept; feed = later.feed ∙ sym (after-append step.events rest.events state.feed) }

-- with a header, no line ends the feed
headed : (layout : Layout) (fault : Option BadReadingLine) → ends false (Some layout) fault ≡ false
headed layout None = refl
headed layout (Some why) = refl

with-header : (form : FormValue) (what : Result Content BadReadingLine) (lines : List (List ℕ)) (layout : Layout) (kept : FeedKept) (before : Feed) → SayAlike form lines
    → HasSaid (steps_from form what lines (record { kept = record { layout = Some layout; feed = kept }; feed = before }))
    (lines_stepped (said_from form what lines (Some layout)) kept) before
with-header form (Ok Blank) lines layout kept before alike = alike (record { kept = record { layout = Some layout; feed = kept }; feed = before })
with-header form (Ok (Header found)) lines layout kept before alike = alike (record { kept = record { layout = Some found; feed = kept }; feed = before })
with-header form (Ok (Readings said)) lines layout kept before alike =
    rw (headed layout (content_fault kept (Ok (Readings said))))
    (readings-said form said lines (record { kept = record { layout = Some layout; feed = kept }; feed = before }) alike)
with-header form (Err why) lines layout kept before alike = alike (record { kept = record { layout = Some layout; feed = kept }; feed = before })

-- before the header, a line has no readings
abbrev HasNone : Result Content BadReadingLine → Type 0
HasNone (Ok Blank) = ⊤
HasNone (Ok (Header layout)) = ⊤
HasNone (Ok (Readings said)) = ⊥
HasNone (Err why) = ⊤

header-none : (read : Result Layout HeaderFault) → HasNone (header_or_bad read)
header-none (Ok layout) = tt
header-none (Err cause) = tt

none-by : (long blank : Bool) (read : Result Layout HeaderFault) → HasNone (if long then Err bad.TooLong else if blank then Ok Blank else header_or_bad read)
none-by true blank read = tt
none-by false true read = tt
none-by false false read = header-none read

has-none : (form : FormValue) (line : List ℕ) → HasNone (content form None line)
has-none form line = none-by (nat_lt LINE (length line)) (is_blank line) (header_said form.delimiter form.titles form.sources line)

without-header : (form : FormValue) (what : Result Content BadReadingLine) (lines : List (List ℕ)) (kept : FeedKept) (before : Feed) → HasNone what → SayAlike form lines
    → HasSaid (steps_from form what lines (record { kept = record { layout = None; feed = kept }; feed = before })) (lines_stepped (said_from form what lines None) kept) before
without-header form (Ok Blank) lines kept before none alike = alike (record { kept = record { layout = None; feed = kept }; feed = before })
without-header form (Ok (Header found)) lines kept before none alike = alike (record { kept = record { layout = Some found; feed = kept }; feed = before })
without-header form (Ok (Readings said)) lines kept before none alike = absurd none
without-header form (Err why) lines kept before none alike = record { kept = refl; feed = refl }

-- a line, by whether the header has come
line-said : (form : FormValue) (line : List ℕ) (lines : List (List ℕ)) (layout : Option Layout) (kept : FeedKept) (before : Feed) → SayAlike form lines
    → HasSaid (steps_from form (content form layout line) lines (record { kept = record { layout = layout; feed = kept }; feed = before }))
    (lines_stepped (said_from form (content form layout line) lines layout) kept) before
line-said form line lines None kept before alike = without-header form (content form None line) lines kept before (has-none form line) alike
line-said form line lines (Some layout) kept before alike = with-header form (content form (Some layout) line) lines layout kept before alike

-- taking lines up to one that ends the feed
taken-first : (form : FormValue) (line : List ℕ) (lines : List (List ℕ)) (state : TextState)
    → after_lines form state (taken_from false form state (line ∷ lines)) ≡ steps_from form (content form state.kept.layout line) lines state
taken-first form line lines state =
    elim (cases_Bool (ends false state.kept.layout (line_fault form state.kept line))) [
      | inl ended ↦ rw ended refl
      | inr going ↦ rw going refl
    ]

-- steps of lines are steps of what they say
pub says-alike : (form : FormValue) (lines : List (List ℕ)) → SayAlike form lines
says-alike form [] state = record { kept = refl; feed = refl }
says-alike form (line ∷ lines) state =
    rw (taken-first form line lines state) (line-said form line lines state.kept.layout state.kept.feed state.feed (says-alike form lines))
