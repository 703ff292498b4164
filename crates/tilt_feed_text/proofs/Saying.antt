-- What lines say, one after another.
use Rattle.std.proofs.Common.{◌≡◌, ℕ, Bool, true, false, List, [], ◌∷◌, ◌++◌, length, Option, None, Some, Result, Ok, Err, refl, sym, ap, ◌∙◌}
use Rattle.std.proofs.Common.{append_assoc, inl, inr}
use Rattle.std.proofs.lemmas.Bool.{cases_Bool, or_parts}
use Rattle.std.proofs.lemmas.List.{append-nil}
use Rattle.tilt_feed.specs.Events.{after, after_all}
use Rattle.tilt_feed.specs.Feed.{Feed}
use Rattle.tilt_feed.specs.declared.event.Event.{Event}
use Rattle.tilt_feed_line.specs.declared.line.Line.{Line}
use Rattle.tilt_feed_text.specs.Report.{report_of, reports_from}
use Rattle.tilt_feed_text.specs.Said.{FeedState, after_content, after_line, after_lines, after_step, content, events_of, first_state, line_fault, lines_said}
use Rattle.tilt_feed_text.specs.Said.{content_fault, not_taken, number_after, said_by, stop_among, stops, taken_from}
use Rattle.tilt_feed_text.specs.declared.bad_line.BadLine.{BadLine}
use Rattle.tilt_outside.specs.Counts.{next_count}
use Rattle.tilt_watermarks.specs.Laws.{stepped, stepped_all}
use Rattle.tilt_watermarks.specs.Steps as steps
use Rattle.tilt_watermarks.specs.declared.fault.TakeFault.{TakeFault}
use Rattle.tilt_watermarks.specs.declared.options.Options.{Options}

-- events, one list after another
pub after-append : (xs ys : List Event) (feed : Feed) → after_all (xs ++ ys) feed ≡ after_all ys (after_all xs feed)
after-append [] ys feed = refl
after-append (x ∷ xs) ys feed = after-append xs ys (after x feed)

-- where a feed is after what lines say
abbrev said_all : Options → List Line → FeedState → FeedState
said_all options lines state = after_step (stepped_all options lines state.kept) state.feed

-- what a line says, and then what the others say
said-more : (options : Options) (said : Line) (lines : List Line) (state : FeedState)
    → said_all options (said ∷ lines) state ≡ said_all options lines (after_step (stepped options said state.kept) state.feed)
said-more options said lines state =
    let first = stepped options said state.kept in
    ap (λ (feed : Feed). record { kept = (stepped_all options lines first.kept).kept; feed = feed })
    (after-append first.events (stepped_all options lines first.kept).events state.feed)

said-first : (options : Options) (content : Result (Option Line) BadLine) (lines : List Line) (state : FeedState)
    → said_all options (said_by content ++ lines) state ≡ said_all options lines (after_content options content state)
said-first options (Ok None) lines state = refl
said-first options (Ok (Some said)) lines state = said-more options said lines state
said-first options (Err why) lines state = refl

-- where a feed is after lines is where it is after what they say
pub lines-said : (options : Options) (inputs : List (List ℕ)) (number : ℕ) (state : FeedState) (lines : List (List ℕ))
    → said_all options (lines_said inputs number lines) state ≡ after_lines options inputs number state lines
lines-said options inputs number state [] = refl
lines-said options inputs number state (bytes ∷ lines) =
    said-first options (content inputs number bytes) (lines_said inputs (next_count number) lines) state
    ∙ lines-said options inputs (next_count number) (after_line options inputs number bytes state) lines

-- the events of lines make the feed after the lines
pub after-lines : (options : Options) (inputs : List (List ℕ)) (lines : List (List ℕ))
    → after_all (events_of options inputs lines) (first_state (length inputs)).feed ≡ (after_lines options inputs 0 (first_state (length inputs)) lines).feed
after-lines options inputs lines = ap (λ (state : FeedState). state.feed) (lines-said options inputs 0 (first_state (length inputs)) lines)

-- a bad line changes nothing
step_refused : (options : Options) (said : Line) (state : FeedState) (why : BadLine) (fault : Option TakeFault) → steps.line_fault options state.kept said ≡ fault
    → not_taken fault ≡ Some why → after_step (stepped options said state.kept) state.feed ≡ state
step_refused options said state why None is e = absurd (cc e)
step_refused options said state why (Some fault) is e = rw is refl

pub bad-same : (options : Options) (state : FeedState) (said : Result (Option Line) BadLine) (why : BadLine) → content_fault options state.kept said ≡ Some why
    → after_content options said state ≡ state
bad-same options state (Ok None) why e = refl
bad-same options state (Ok (Some said)) why e = step_refused options said state why (steps.line_fault options state.kept said) refl e
bad-same options state (Err w) why e = refl

pub number-append : (number : ℕ) (xs ys : List (List ℕ)) → number_after number (xs ++ ys) ≡ number_after (number_after number xs) ys
number-append number [] ys = refl
number-append number (x ∷ xs) ys = number-append (next_count number) xs ys

pub after_lines-append : (options : Options) (inputs : List (List ℕ)) (number : ℕ) (state : FeedState) (xs ys : List (List ℕ))
    → after_lines options inputs number state (xs ++ ys) ≡ after_lines options inputs (number_after number xs) (after_lines options inputs number state xs) ys
after_lines-append options inputs number state [] ys = refl
after_lines-append options inputs number state (x ∷ xs) ys = after_lines-append options inputs (next_count number) (after_line options inputs number x state) xs ys

-- the lines that are taken of two texts, one after the other, if none of the first stops the run
pub taken-append : (strict : Bool) (options : Options) (inputs : List (List ℕ)) (number : ℕ) (state : FeedState) (xs ys : List (List ℕ)) → stop_among strict options inputs number state xs ≡ false
    → taken_from strict options inputs number state (xs ++ ys)
    ≡ xs ++ taken_from strict options inputs (number_after number xs) (after_lines options inputs number state xs) ys
taken-append strict options inputs number state [] ys none = refl
taken-append strict options inputs number state (x ∷ xs) ys none =
    let parts = or_parts (stops strict options inputs state number x) (stop_among strict options inputs (next_count number) (after_line options inputs number x state) xs) none in
    rw parts.0 (ap (λ (t : List (List ℕ)). x ∷ t) (taken-append strict options inputs (next_count number) (after_line options inputs number x state) xs ys parts.1))

pub stop-append : (strict : Bool) (options : Options) (inputs : List (List ℕ)) (number : ℕ) (state : FeedState) (xs ys : List (List ℕ)) → stop_among strict options inputs number state xs ≡ false
    → stop_among strict options inputs number state (xs ++ ys) ≡ stop_among strict options inputs (number_after number xs) (after_lines options inputs number state xs) ys
stop-append strict options inputs number state [] ys none = refl
stop-append strict options inputs number state (x ∷ xs) ys none =
    let parts = or_parts (stops strict options inputs state number x) (stop_among strict options inputs (next_count number) (after_line options inputs number x state) xs) none in
    rw parts.0 (stop-append strict options inputs (next_count number) (after_line options inputs number x state) xs ys parts.1)

pub reports-append : (strict : Bool) (options : Options) (inputs : List (List ℕ)) (number : ℕ) (state : FeedState) (xs ys : List (List ℕ)) → stop_among strict options inputs number state xs ≡ false
    → reports_from strict options inputs number state (xs ++ ys)
    ≡ reports_from strict options inputs number state xs ++ reports_from strict options inputs (number_after number xs) (after_lines options inputs number state xs) ys
reports-append strict options inputs number state [] ys none = refl
reports-append strict options inputs number state (x ∷ xs) ys none =
    let parts = or_parts (stops strict options inputs state number x) (stop_among strict options inputs (next_count number) (after_line options inputs number x state) xs) none in
    rw (parts.0, reports-append strict options inputs (next_count number) (after_line options inputs number x state) xs ys parts.1)
    (sym (append_assoc (report_of number (line_fault options inputs state number x)) (reports_from strict options inputs (next_count number) (after_line options inputs number x state) xs)
    (reports_from strict options inputs (number_after (next_count number) xs) (after_lines options inputs (next_count number) (after_line options inputs number x state) xs) ys)))

-- if no line stops the run, all are taken
pub taken-all : (strict : Bool) (options : Options) (inputs : List (List ℕ)) (number : ℕ) (state : FeedState) (lines : List (List ℕ)) → stop_among strict options inputs number state lines ≡ false
    → taken_from strict options inputs number state lines ≡ lines
taken-all strict options inputs number state lines none = rw (append-nil lines) at (taken-append strict options inputs number state lines [] none)

-- lines after one that stops the run aren't taken
pub taken-stop : (strict : Bool) (options : Options) (inputs : List (List ℕ)) (number : ℕ) (state : FeedState) (xs ys : List (List ℕ)) → stop_among strict options inputs number state xs ≡ true
    → taken_from strict options inputs number state (xs ++ ys) ≡ taken_from strict options inputs number state xs
taken-stop strict options inputs number state [] ys e = absurd (cc e)
taken-stop strict options inputs number state (x ∷ xs) ys e =
    elim (cases_Bool (stops strict options inputs state number x)) [
      | inl stopped ↦ rw stopped refl
      | inr going ↦
          let later = rw going at e in
          rw going (ap (λ (t : List (List ℕ)). x ∷ t) (taken-stop strict options inputs (next_count number) (after_line options inputs number x state) xs ys later))
    ]

pub reports-stop : (strict : Bool) (options : Options) (inputs : List (List ℕ)) (number : ℕ) (state : FeedState) (xs ys : List (List ℕ)) → stop_among strict options inputs number state xs ≡ true
    → reports_from strict options inputs number state (xs ++ ys) ≡ reports_from strict options inputs number state xs
reports-stop strict options inputs number state [] ys e = absurd (cc e)
reports-stop strict options inputs number state (x ∷ xs) ys e =
    elim (cases_Bool (stops strict options inputs state number x)) [
      | inl stopped ↦ rw stopped refl
      | inr going ↦
          let later = rw going at e in
          rw (going, reports-stop strict options inputs (next_count number) (after_line options inputs number x state) xs ys later) refl
    ]

pub stop-stop : (strict : Bool) (options : Options) (inputs : List (List ℕ)) (number : ℕ) (state : FeedState) (xs ys : List (List ℕ)) → stop_among strict options inputs number state xs ≡ true
    → stop_among strict options inputs number state (xs ++ ys) ≡ true
stop-stop strict options inputs number state [] ys e = absurd (cc e)
stop-stop strict options inputs number state (x ∷ xs) ys e =
    elim (cases_Bool (stops strict options inputs state number x)) [
      | inl stopped ↦ rw stopped refl
      | inr going ↦ let later = rw going at e in rw going (stop-stop strict options inputs (next_count number) (after_line options inputs number x state) xs ys later)
    ]
