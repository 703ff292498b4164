-- What lines say, one after another, in either form.
use Rattle.std.proofs.Common.{◌≡◌, ℕ, ◌+◌, Bool, true, false, is_none, List, [], ◌∷◌, ◌++◌, length, nat_lt, take, Option, None, Some, option_map, Result, Ok, Err}
use Rattle.std.proofs.Common.{refl, sym, ap, ◌∙◌, append_assoc, inl, inr, ◌⊎◌, arith}
use Rattle.std.proofs.lemmas.Bool.{cases_Bool, lt-ltb, ltb-false, ltb-true, or_parts}
use Rattle.std.proofs.lemmas.List.{append-nil, length-take-le, take_all}
use Rattle.tilt_feed.specs.Events.{after_all}
use Rattle.tilt_feed.specs.Feed.{empty_feed}
use Rattle.tilt_feed_form.specs.Report.{report_of, reports_from}
use Rattle.tilt_feed_form.specs.Said.{FeedState, LineStep, TextKept, after_line, after_lines, after_step, content_step, ends, events_of, first_state, line_fault, line_step}
use Rattle.tilt_feed_form.specs.Said.{no_step, of_readings, of_rows, stop_among, stops, taken_from}
use Rattle.tilt_feed_form.specs.Said.TextKept.{OfRows, OfReadings}
use Rattle.tilt_feed_form.specs.Setup.{SetupParts}
use Rattle.tilt_feed_form.specs.declared.bad_feed_line.BadFeedLine.{BadFeedLine}
use Rattle.tilt_feed_form.specs.declared.bad_feed_line.BadFeedLine.TheVariants as bad
use Rattle.tilt_feed_form.specs.declared.feed_form.FeedForm.{FeedForm}
use Rattle.tilt_feed_form.specs.declared.feed_form.FeedForm.TheVariants as forms
use Rattle.tilt_feed_line.specs.declared.line.Line.{Line}
use Rattle.tilt_feed_text.proofs.Saying as rows_saying
use Rattle.tilt_feed_text.specs.Said.{content, content_fault, not_taken, number_after}
use Rattle.tilt_feed_text.specs.Said as rows
use Rattle.tilt_feed_text.specs.declared.bad_line.BadLine.{BadLine}
use Rattle.tilt_feed_text.specs.declared.pending.TheConstants.{LINE}
use Rattle.tilt_outside.specs.Counts.{next_count}
use Rattle.tilt_reading_feed.specs.Laws.{line_stepped}
use Rattle.tilt_reading_feed.specs.Steps as feed
use Rattle.tilt_reading_feed.specs.declared.fault.FeedFault.{FeedFault}
use Rattle.tilt_reading_lines.specs.Lines.{Said}
use Rattle.tilt_reading_text.proofs.Saying.{says-alike}
use Rattle.tilt_reading_text.specs.Said.{Content, feed_step, layout_after, text_step}
use Rattle.tilt_reading_text.specs.Said as readings
use Rattle.tilt_reading_text.specs.Said.Content.{Blank, Header, Readings}
use Rattle.tilt_reading_text.specs.declared.bad_reading_line.BadReadingLine.{BadReadingLine}
use Rattle.tilt_reading_text.specs.declared.bad_reading_line.BadReadingLine.TheVariants as bad_reading
use Rattle.tilt_reading_text.specs.Form.{FormValue}
use Rattle.tilt_watermarks.specs.Laws.{stepped}
use Rattle.tilt_watermarks.specs.Steps.{Kept}
use Rattle.tilt_watermarks.specs.Steps as steps
use Rattle.tilt_watermarks.specs.declared.fault.TakeFault.{TakeFault}
use Rattle.tilt_watermarks.specs.declared.options.Options.{Options}

-- what is mapped to something is something
mapped : {A B : Type 0} (f : A → B) (x : Option A) (b : B) → option_map f x ≡ Some b → (a : A) × (x ≡ Some a)
mapped f None b e = absurd (cc e)
mapped f (Some a) b e = (a, refl)

-- a bad line of rows does nothing,
row_refused : (options : Options) (said : Line) (kept : Kept) (why : BadLine) (fault : Option TakeFault) → steps.line_fault options kept said ≡ fault
    → not_taken fault ≡ Some why → stepped options said kept ≡ record { kept = kept; events = [] }
row_refused options said kept why None is e = absurd (cc e)
row_refused options said kept why (Some fault) is e = rw is refl

row-bad : (options : Options) (kept : Kept) (what : Result (Option Line) BadLine) (why : BadLine) → content_fault options kept what ≡ Some why
    → content_step options what kept ≡ record { kept = kept; events = [] }
row-bad options kept (Ok None) why e = refl
row-bad options kept (Ok (Some said)) why e = row_refused options said kept why (steps.line_fault options kept said) refl e
row-bad options kept (Err w) why e = refl

-- nor does a bad line of readings,
reading_refused : (said : Said) (kept : readings.TextKept) (why : BadReadingLine) (fault : Option FeedFault) → feed.line_fault kept.feed said ≡ fault
    → option_map bad_reading.NotTaken fault ≡ Some why → text_step kept.layout (line_stepped said kept.feed) ≡ record { kept = kept; events = [] }
reading_refused said kept why None is e = absurd (cc e)
reading_refused said kept why (Some fault) is e = rw is refl

reading_bad : (what : Result Content BadReadingLine) (kept : readings.TextKept) (why : BadReadingLine) → readings.content_fault kept.feed what ≡ Some why
    → text_step (layout_after kept.layout what) (feed_step what kept.feed) ≡ record { kept = kept; events = [] }
reading_bad (Ok Blank) kept why e = refl
reading_bad (Ok (Header layout)) kept why e = absurd (cc e)
reading_bad (Ok (Readings said)) kept why e = reading_refused said kept why (feed.line_fault kept.feed said) refl e
reading_bad (Err w) kept why e = refl

pub reading-bad : (form : FormValue) (line : List ℕ) (kept : readings.TextKept) (why : BadReadingLine) → readings.line_fault form kept line ≡ Some why
    → readings.line_step form line kept ≡ record { kept = kept; events = [] }
reading-bad form line kept why e = reading_bad (readings.content form kept.layout line) kept why e

-- and so no bad line does anything
bad-step : (form : FeedForm) (inputs : List (List ℕ)) (number : ℕ) (line : List ℕ) (kept : TextKept) (why : BadFeedLine)
    → line_fault form inputs kept number line ≡ Some why → line_step form inputs number line kept ≡ no_step kept
bad-step (forms.Rows options) inputs number line (OfRows kept) why e =
    let fault = mapped bad.Rows (content_fault options kept (content inputs number line)) why e in
    ap of_rows (row-bad options kept (content inputs number line) fault.0 fault.1)
bad-step (forms.Rows options) inputs number line (OfReadings kept) why e = refl
bad-step (forms.Readings setup) inputs number line (OfRows kept) why e = refl
bad-step (forms.Readings setup) inputs number line (OfReadings kept) why e =
    let fault = mapped bad.Readings (readings.line_fault setup.form kept line) why e in
    ap of_readings (reading-bad setup.form line kept fault.0 fault.1)

pub bad-same : (form : FeedForm) (inputs : List (List ℕ)) (number : ℕ) (line : List ℕ) (state : FeedState) (why : BadFeedLine)
    → line_fault form inputs state.kept number line ≡ Some why → after_line form inputs number line state ≡ state
bad-same form inputs number line state why e =
    ap (λ (step : LineStep). after_step step state.feed) (bad-step form inputs number line state.kept why e)

-- lines that are too long do the same, whatever their numbers are
pub long-step : (form : FeedForm) (inputs : List (List ℕ)) (n m : ℕ) (x y : List ℕ) (kept : TextKept) → nat_lt LINE (length x) ≡ true → nat_lt LINE (length y) ≡ true
    → line_step form inputs n x kept ≡ line_step form inputs m y kept
long-step (forms.Rows options) inputs n m x y (OfRows kept) long also = rw (long, also) refl
long-step (forms.Rows options) inputs n m x y (OfReadings kept) long also = refl
long-step (forms.Readings setup) inputs n m x y (OfRows kept) long also = refl
long-step (forms.Readings setup) inputs n m x y (OfReadings kept) long also = rw (long, also) refl

pub long-fault : (form : FeedForm) (inputs : List (List ℕ)) (n m : ℕ) (x y : List ℕ) (kept : TextKept) → nat_lt LINE (length x) ≡ true → nat_lt LINE (length y) ≡ true
    → line_fault form inputs kept n x ≡ line_fault form inputs kept m y
long-fault (forms.Rows options) inputs n m x y (OfRows kept) long also = rw (long, also) refl
long-fault (forms.Rows options) inputs n m x y (OfReadings kept) long also = refl
long-fault (forms.Readings setup) inputs n m x y (OfRows kept) long also = refl
long-fault (forms.Readings setup) inputs n m x y (OfReadings kept) long also = rw (long, also) refl

-- a line that is cut where it is too long: it is whole, or both are too long
cut_or_long : (limit : ℕ) (x : List ℕ) → (take (limit + 1) x ≡ x) ⊎ ((nat_lt limit (length (take (limit + 1) x)) ≡ true) × (nat_lt limit (length x) ≡ true))
cut_or_long limit x =
    elim (cases_Bool (nat_lt limit (length x))) [
      | inl long ↦
          let above = ltb-true limit (length x) long in
          let all = length-take-le (limit + 1) x (omega (arith, above)) in
          inr (rw all (lt-ltb limit (limit + 1) (omega arith)), long)
      | inr short ↦ let within = ltb-false limit (length x) short in inl (take_all (limit + 1) x (omega (arith, within)))
    ]

-- it does what the whole line does
pub step-cut : (form : FeedForm) (inputs : List (List ℕ)) (number : ℕ) (x : List ℕ) (kept : TextKept)
    → line_step form inputs number (take (LINE + 1) x) kept ≡ line_step form inputs number x kept
step-cut form inputs number x kept =
    elim (cut_or_long LINE x) [
      | inl whole ↦ ap (λ (line : List ℕ). line_step form inputs number line kept) whole
      | inr long ↦ long-step form inputs number number (take (LINE + 1) x) x kept long.0 long.1
    ]

pub fault-cut : (form : FeedForm) (inputs : List (List ℕ)) (number : ℕ) (x : List ℕ) (kept : TextKept)
    → line_fault form inputs kept number (take (LINE + 1) x) ≡ line_fault form inputs kept number x
fault-cut form inputs number x kept =
    elim (cut_or_long LINE x) [
      | inl whole ↦ ap (line_fault form inputs kept number) whole
      | inr long ↦ long-fault form inputs number number (take (LINE + 1) x) x kept long.0 long.1
    ]

-- where a feed of rows is, and a feed of readings
abbrev pub of_row_state : rows.FeedState → FeedState
of_row_state state = record { kept = OfRows state.kept; feed = state.feed }

abbrev pub of_reading_state : readings.TextState → FeedState
of_reading_state state = record { kept = OfReadings state.kept; feed = state.feed }

-- lines of rows do what they do to watermarks,
row_same : (options : Options) (what : Result (Option Line) BadLine) (state : rows.FeedState)
    → after_step (of_rows (content_step options what state.kept)) state.feed ≡ of_row_state (rows.after_content options what state)
row_same options (Ok None) state = refl
row_same options (Ok (Some said)) state = refl
row_same options (Err why) state = refl

pub rows-same : (options : Options) (inputs : List (List ℕ)) (number : ℕ) (state : rows.FeedState) (lines : List (List ℕ))
    → after_lines (forms.Rows options) inputs number (of_row_state state) lines ≡ of_row_state (rows.after_lines options inputs number state lines)
rows-same options inputs number state [] = refl
rows-same options inputs number state (x ∷ xs) =
    ap (λ (later : FeedState). after_lines (forms.Rows options) inputs (next_count number) later xs) (row_same options (content inputs number x) state)
    ∙ rows-same options inputs (next_count number) (rows.after_line options inputs number x state) xs

-- and lines of readings what they do to their text
readings-same : (setup : SetupParts) (inputs : List (List ℕ)) (number : ℕ) (state : readings.TextState) (lines : List (List ℕ))
    → after_lines (forms.Readings setup) inputs number (of_reading_state state) lines ≡ of_reading_state (readings.after_lines setup.form state lines)
readings-same setup inputs number state [] = refl
readings-same setup inputs number state (x ∷ xs) = readings-same setup inputs (next_count number) (readings.after_line setup.form x state) xs

-- of lines that are taken, none ends the feed where bad lines are skipped
goes-on : (strict : Bool) (kept : readings.TextKept) (fault : Option BadReadingLine) → ends strict (OfReadings kept) (option_map bad.Readings fault) ≡ false
    → readings.ends false kept.layout fault ≡ false
goes-on strict kept None e = refl
goes-on strict kept (Some why) e = (or_parts strict (is_none kept.layout) e).1

taken_again : (strict : Bool) (setup : SetupParts) (inputs : List (List ℕ)) (number : ℕ) (state : readings.TextState) (lines : List (List ℕ))
    → let taken = taken_from strict (forms.Readings setup) inputs number (of_reading_state state) lines in readings.taken_from false setup.form state taken ≡ taken
taken_again strict setup inputs number state [] = refl
taken_again strict setup inputs number state (x ∷ xs) =
    elim (cases_Bool (stops strict (forms.Readings setup) inputs (of_reading_state state) number x)) [
      | inl stopped ↦ rw stopped refl
      | inr going ↦
          let on = goes-on strict state.kept (readings.line_fault setup.form state.kept x) going in
          rw (going, on) (ap (λ (t : List (List ℕ)). x ∷ t) (taken_again strict setup inputs (next_count number) (readings.after_line setup.form x state) xs))
    ]

-- the events of the lines that are taken make the feed after them
rows-taken : (options : Options) (inputs lines : List (List ℕ)) → after_all (rows.events_of options inputs lines) (empty_feed (length inputs))
    ≡ (after_lines (forms.Rows options) inputs 0 (first_state (forms.Rows options) (length inputs)) lines).feed
rows-taken options inputs lines =
    rows_saying.after-lines options inputs lines
    ∙ sym (ap (λ (state : FeedState). state.feed) (rows-same options inputs 0 (rows.first_state (length inputs)) lines))

readings-taken : (setup : SetupParts) (inputs lines : List (List ℕ))
    → readings.taken_from false setup.form (record { kept = readings.first_kept setup.options; feed = empty_feed (length inputs) }) lines ≡ lines
    → after_all (readings.events_of setup.form setup.options lines) (empty_feed (length inputs))
    ≡ (after_lines (forms.Readings setup) inputs 0 (first_state (forms.Readings setup) (length inputs)) lines).feed
readings-taken setup inputs lines all =
    let first : readings.TextState = record { kept = readings.first_kept setup.options; feed = empty_feed (length inputs) } in
    sym (says-alike setup.form lines first).feed
    ∙ ap (λ (t : List (List ℕ)). (readings.after_lines setup.form first t).feed) all
    ∙ sym (ap (λ (state : FeedState). state.feed) (readings-same setup inputs 0 first lines))

pub after-taken : (strict : Bool) (form : FeedForm) (inputs lines : List (List ℕ))
    → let taken = taken_from strict form inputs 0 (first_state form (length inputs)) lines in
    after_all (events_of form inputs taken) (empty_feed (length inputs)) ≡ (after_lines form inputs 0 (first_state form (length inputs)) taken).feed
after-taken strict (forms.Rows options) inputs lines =
    rows-taken options inputs (taken_from strict (forms.Rows options) inputs 0 (first_state (forms.Rows options) (length inputs)) lines)
after-taken strict (forms.Readings setup) inputs lines =
    readings-taken setup inputs (taken_from strict (forms.Readings setup) inputs 0 (first_state (forms.Readings setup) (length inputs)) lines)
    (taken_again strict setup inputs 0 (record { kept = readings.first_kept setup.options; feed = empty_feed (length inputs) }) lines)

pub after_lines-append : (form : FeedForm) (inputs : List (List ℕ)) (number : ℕ) (state : FeedState) (xs ys : List (List ℕ))
    → after_lines form inputs number state (xs ++ ys) ≡ after_lines form inputs (number_after number xs) (after_lines form inputs number state xs) ys
after_lines-append form inputs number state [] ys = refl
after_lines-append form inputs number state (x ∷ xs) ys = after_lines-append form inputs (next_count number) (after_line form inputs number x state) xs ys

-- the lines that are taken of two texts, one after the other, if none of the first stops the run
pub taken-append : (strict : Bool) (form : FeedForm) (inputs : List (List ℕ)) (number : ℕ) (state : FeedState) (xs ys : List (List ℕ)) → stop_among strict form inputs number state xs ≡ false
    → taken_from strict form inputs number state (xs ++ ys)
    ≡ xs ++ taken_from strict form inputs (number_after number xs) (after_lines form inputs number state xs) ys
taken-append strict form inputs number state [] ys none = refl
taken-append strict form inputs number state (x ∷ xs) ys none =
    let parts = or_parts (stops strict form inputs state number x) (stop_among strict form inputs (next_count number) (after_line form inputs number x state) xs) none in
    rw parts.0 (ap (λ (t : List (List ℕ)). x ∷ t) (taken-append strict form inputs (next_count number) (after_line form inputs number x state) xs ys parts.1))

pub stop-append : (strict : Bool) (form : FeedForm) (inputs : List (List ℕ)) (number : ℕ) (state : FeedState) (xs ys : List (List ℕ)) → stop_among strict form inputs number state xs ≡ false
    → stop_among strict form inputs number state (xs ++ ys) ≡ stop_among strict form inputs (number_after number xs) (after_lines form inputs number state xs) ys
stop-append strict form inputs number state [] ys none = refl
stop-append strict form inputs number state (x ∷ xs) ys none =
    let parts = or_parts (stops strict form inputs state number x) (stop_among strict form inputs (next_count number) (after_line form inputs number x state) xs) none in
    rw parts.0 (stop-append strict form inputs (next_count number) (after_line form inputs number x state) xs ys parts.1)

pub reports-append : (strict : Bool) (form : FeedForm) (inputs : List (List ℕ)) (number : ℕ) (state : FeedState) (xs ys : List (List ℕ)) → stop_among strict form inputs number state xs ≡ false
    → reports_from strict form inputs number state (xs ++ ys)
    ≡ reports_from strict form inputs number state xs ++ reports_from strict form inputs (number_after number xs) (after_lines form inputs number state xs) ys
reports-append strict form inputs number state [] ys none = refl
reports-append strict form inputs number state (x ∷ xs) ys none =
    let parts = or_parts (stops strict form inputs state number x) (stop_among strict form inputs (next_count number) (after_line form inputs number x state) xs) none in
    rw (parts.0, reports-append strict form inputs (next_count number) (after_line form inputs number x state) xs ys parts.1)
    (sym (append_assoc (report_of number (line_fault form inputs state.kept number x)) (reports_from strict form inputs (next_count number) (after_line form inputs number x state) xs)
    (reports_from strict form inputs (number_after (next_count number) xs) (after_lines form inputs (next_count number) (after_line form inputs number x state) xs) ys)))

-- if no line stops the run, all are taken
pub taken-all : (strict : Bool) (form : FeedForm) (inputs : List (List ℕ)) (number : ℕ) (state : FeedState) (lines : List (List ℕ)) → stop_among strict form inputs number state lines ≡ false
    → taken_from strict form inputs number state lines ≡ lines
taken-all strict form inputs number state lines none = rw (append-nil lines) at (taken-append strict form inputs number state lines [] none)

-- lines after one that stops the run aren't taken
pub taken-stop : (strict : Bool) (form : FeedForm) (inputs : List (List ℕ)) (number : ℕ) (state : FeedState) (xs ys : List (List ℕ)) → stop_among strict form inputs number state xs ≡ true
    → taken_from strict form inputs number state (xs ++ ys) ≡ taken_from strict form inputs number state xs
taken-stop strict form inputs number state [] ys e = absurd (cc e)
taken-stop strict form inputs number state (x ∷ xs) ys e =
    elim (cases_Bool (stops strict form inputs state number x)) [
      | inl stopped ↦ rw stopped refl
      | inr going ↦
          let later = rw going at e in
          rw going (ap (λ (t : List (List ℕ)). x ∷ t) (taken-stop strict form inputs (next_count number) (after_line form inputs number x state) xs ys later))
    ]

pub reports-stop : (strict : Bool) (form : FeedForm) (inputs : List (List ℕ)) (number : ℕ) (state : FeedState) (xs ys : List (List ℕ)) → stop_among strict form inputs number state xs ≡ true
    → reports_from strict form inputs number state (xs ++ ys) ≡ reports_from strict form inputs number state xs
reports-stop strict form inputs number state [] ys e = absurd (cc e)
reports-stop strict form inputs number state (x ∷ xs) ys e =
    elim (cases_Bool (stops strict form inputs state number x)) [
      | inl stopped ↦ rw stopped refl
      | inr going ↦
          let later = rw going at e in
          rw (going, reports-stop strict form inputs (next_count number) (after_line form inputs number x state) xs ys later) refl
    ]

pub stop-stop : (strict : Bool) (form : FeedForm) (inputs : List (List ℕ)) (number : ℕ) (state : FeedState) (xs ys : List (List ℕ)) → stop_among strict form inputs number state xs ≡ true
    → stop_among strict form inputs number state (xs ++ ys) ≡ true
stop-stop strict form inputs number state [] ys e = absurd (cc e)
stop-stop strict form inputs number state (x ∷ xs) ys e =
    elim (cases_Bool (stops strict form inputs state number x)) [
      | inl stopped ↦ rw stopped refl
      | inr going ↦ let later = rw going at e in rw going (stop-stop strict form inputs (next_count number) (after_line form inputs number x state) xs ys later)
    ]
