-- What the lines of readings do to one input: it takes its turns in the lines that are taken.
use Rattle.std.proofs.Common.{◌≡◌, ◌<◌, ◌+◌, ◌==◌, ℕ, zero, suc, ℤ, false, if◌then◌else◌, List, [], ◌∷◌, ◌++◌, slice_get}
use Rattle.std.proofs.Common.{Option, Some, None, is_none, option_map, refl, sym, ap, ap₂, subst, ◌∙◌, inl, inr, arith, append_assoc, append-nil}
use Rattle.std.proofs.lemmas.Bool.{cases_Bool, eq-eqb, eqb-true, ne_eqb}
use Rattle.std.proofs.lemmas.Option.{same_Some, slice_get-map}
use Rattle.tilt_conventions.specs.Laws.{converted, readings_of, stepped, stepped_all, taken_from, updates_now}
use Rattle.tilt_conventions.specs.Steps.{Kept, last_updates, turn_fault}
use Rattle.tilt_conventions.specs.declared.options.Options.{Options}
use Rattle.tilt_conventions.specs.declared.turn.Reading.{Reading}
use Rattle.tilt_conventions.specs.declared.turn.Turn.{Turn}
use Rattle.tilt_conventions.specs.declared.turn.Turn.TheVariants as turn
use Rattle.tilt_feed.specs.declared.event.Event.{Event}
use Rattle.tilt_feed.specs.declared.event.Event.TheVariants.{Input, Finish}
use Rattle.tilt_feed.specs.declared.update.Update.{Update}
use Rattle.tilt_reading_feed.specs.Laws.{events_now, known_turns, lines_read, lines_stepped, lines_taken_from}
use Rattle.tilt_reading_feed.specs.Laws.{nothing_read, taken_lines, turns_among, turns_at, updates_of}
use Rattle.tilt_reading_feed.specs.Steps.{FeedKept, FeedStep, InputKept, events_at, events_each, events_known, events_read, first_kept}
use Rattle.tilt_reading_feed.specs.Steps.{handed, handed_at, inputs_known, inputs_read, inputs_turned, last_handed, line_fault, line_taken}
use Rattle.tilt_reading_feed.specs.Steps.{turn_of, turned}
use Rattle.tilt_reading_feed.specs.declared.fault.FeedFault.{FeedFault}
use Rattle.tilt_reading_lines.specs.Lines.{Said}
use Rattle.tilt_reading_lines.specs.declared.rules.InputReading.{InputReading}

-- turns of two lists, one after another
kept-append : (o : Options) (first second : List Turn) (kept : Kept)
    → (stepped_all o (first ++ second) kept).kept ≡ (stepped_all o second (stepped_all o first kept).kept).kept
kept-append o [] second kept = refl
kept-append o (turn ∷ first) second kept = kept-append o first second (stepped o turn kept).kept

updates-append : (o : Options) (first second : List Turn) (kept : Kept)
    → (stepped_all o (first ++ second) kept).updates
    ≡ (stepped_all o first kept).updates ++ (stepped_all o second (stepped_all o first kept).kept).updates
updates-append o [] second kept = refl
updates-append o (turn ∷ first) second kept =
    let later = (stepped o turn kept).kept in
    ap (λ (list : List Update). (stepped o turn kept).updates ++ list) (updates-append o first second later)
    ∙ sym (append_assoc (stepped o turn kept).updates (stepped_all o first later).updates (stepped_all o second (stepped_all o first later).kept).updates)

pub taken-append : (o : Options) (first second : List Turn) (kept : Kept)
    → taken_from o (first ++ second) kept ≡ taken_from o first kept ++ taken_from o second (stepped_all o first kept).kept
taken-append o [] second kept = refl
taken-append o (turn ∷ first) second kept =
    let later = (stepped o turn kept).kept in
    let one = if is_none (turn_fault o.ties kept turn) then turn ∷ [] else [] in
    ap (λ (list : List Turn). one ++ list) (taken-append o first second later)
    ∙ sym (append_assoc one (taken_from o first later) (taken_from o second (stepped_all o first later).kept))

pub readings-append : (first second : List Turn) → readings_of (first ++ second) ≡ readings_of first ++ readings_of second
readings-append [] second = refl
readings-append (turn.Reading reading ∷ first) second = ap (λ (list : List Reading). reading ∷ list) (readings-append first second)
readings-append (turn.KnownUpTo tick ∷ first) second = readings-append first second

-- the updates of one input among events
pub of-append : (number : ℕ) (first second : List Event) → updates_of number (first ++ second) ≡ updates_of number first ++ updates_of number second
of-append number [] second = refl
of-append number (Input input update ∷ first) second =
    let one = if input == number then update ∷ [] else [] in
    ap (λ (list : List Update). one ++ list) (of-append number first second)
    ∙ sym (append_assoc one (updates_of number first) (updates_of number second))
of-append number (Finish ∷ first) second = of-append number first second

of-here : (number : ℕ) (updates : List Update) → updates_of number (events_at number updates) ≡ updates
of-here number [] = refl
of-here number (update ∷ updates) = rw (eq-eqb number number refl) (ap (λ (list : List Update). update ∷ list) (of-here number updates))

of-there : (input number : ℕ) (updates : List Update) → (input == number) ≡ false → updates_of number (events_at input updates) ≡ []
of-there input number [] other = refl
of-there input number (update ∷ updates) other = rw other (of-there input number updates other)

-- the events of inputs that are counted from a higher number
of-above : (number from : ℕ) (updates : InputKept → List Update) (inputs : List InputKept) → number < from
    → updates_of number (events_each updates from inputs) ≡ []
of-above number from updates [] above = refl
of-above number from updates (input ∷ inputs) above =
    let other : (from == number) ≡ false = ne_eqb from number (λ same. absurd (omega (arith, same, above))) in
    of-append number (events_at from (updates input)) (events_each updates (suc from) inputs)
    ∙ ap (λ (list : List Update). list ++ updates_of number (events_each updates (suc from) inputs)) (of-there from number (updates input) other)
    ∙ of-above number (suc from) updates inputs (omega arith)

-- and of the input itself
pub of-each : (number from place : ℕ) (updates : InputKept → List Update) (inputs : List InputKept) (input : InputKept) → from + place ≡ number
    → slice_get inputs place ≡ Some input → updates_of number (events_each updates from inputs) ≡ updates input
of-each number from place updates [] input at is = absurd (cc is)
of-each number from zero updates (first ∷ inputs) input at is =
    let same : from ≡ number = omega arith in
    of-append number (events_at from (updates first)) (events_each updates (suc from) inputs)
    ∙ ap (λ (list : List Update). list ++ updates_of number (events_each updates (suc from) inputs))
    (subst (λ (n : ℕ). updates_of n (events_at from (updates first)) ≡ updates first) same (of-here from (updates first)))
    ∙ ap (λ (list : List Update). updates first ++ list) (of-above number (suc from) updates inputs (omega arith))
    ∙ append-nil (updates first)
    ∙ ap updates (same_Some first input is)
of-each number from (suc place) updates (first ∷ inputs) input at is =
    let other : (from == number) ≡ false = ne_eqb from number (λ same. absurd (omega (arith, same, at))) in
    of-append number (events_at from (updates first)) (events_each updates (suc from) inputs)
    ∙ ap (λ (list : List Update). list ++ updates_of number (events_each updates (suc from) inputs)) (of-there from number (updates first) other)
    ∙ of-each number (suc from) place updates inputs input (omega arith) is

-- an input after turns, and what they hand on
abbrev pub input_after : List Turn → InputKept → InputKept
input_after turns input = record { options = input.options; kept = (stepped_all input.options turns input.kept).kept }

abbrev pub updates_after : List Turn → InputKept → List Update
updates_after turns input = (stepped_all input.options turns input.kept).updates

-- the input with a number takes turns, and of the events it has what they hand on
pub record Has (turns : List Turn) (before : InputKept) (number : ℕ) (inputs : List InputKept) (events : List Event) : Type 0 where
  pub input : slice_get inputs number ≡ Some (input_after turns before)
  pub updates : updates_of number events ≡ updates_after turns before

abbrev pub Does : ℕ → List Turn → List InputKept → List InputKept → List Event → Type 0
Does number turns inputs later events = (input : InputKept) → slice_get inputs number ≡ Some input → Has turns input number later events

does-none : (number : ℕ) (inputs : List InputKept) → Does number [] inputs inputs []
does-none number inputs input at = record { input = at; updates = refl }

does-then : (number : ℕ) (first second : List Turn) (inputs later last : List InputKept) (events more : List Event)
    → Does number first inputs later events → Does number second later last more → Does number (first ++ second) inputs last (events ++ more)
does-then number first second inputs later last events more one two input at =
    let here = one input at in
    let next = two (input_after first input) here.input in
    record {
      input = next.input ∙ ap (λ (k : Kept). Some (record { options = input.options; kept = k })) (sym (kept-append input.options first second input.kept));
      updates = of-append number events more
          ∙ ap₂ (λ (a b : List Update). a ++ b) here.updates next.updates
          ∙ sym (updates-append input.options first second input.kept);
    }

-- one input takes a turn
turned-here : (inputs : List InputKept) (number : ℕ) (turn : Turn) (input : InputKept) → slice_get inputs number ≡ Some input
    → (slice_get (inputs_turned number turn inputs) number ≡ Some (turned turn input)) × (handed_at number turn inputs ≡ handed turn input)
turned-here [] number turn input at = absurd (cc at)
turned-here (first ∷ inputs) zero turn input at =
    let same = same_Some first input at in
    (ap (λ (i : InputKept). Some (turned turn i)) same, ap (handed turn) same)
turned-here (first ∷ inputs) (suc number) turn input at = turned-here inputs number turn input at

turned-there : (inputs : List InputKept) (other number : ℕ) (turn : Turn) → (other ≡ number → ⊥)
    → slice_get (inputs_turned other turn inputs) number ≡ slice_get inputs number
turned-there [] other number turn apart = refl
turned-there (first ∷ inputs) zero zero turn apart = absurd (apart refl)
turned-there (first ∷ inputs) zero (suc number) turn apart = refl
turned-there (first ∷ inputs) (suc other) zero turn apart = refl
turned-there (first ∷ inputs) (suc other) (suc number) turn apart = turned-there inputs other number turn (λ same. apart (ap suc same))

-- no more than a turn of its own, or none
one-update : (list : List Update) → list ≡ list ++ []
one-update list = sym (append-nil list)

turn-does : (number other : ℕ) (turn : Turn) (inputs : List InputKept)
    → Does number (if other == number then turn ∷ [] else []) inputs (inputs_turned other turn inputs) (events_at other (handed_at other turn inputs))
turn-does number other turn inputs input at = elim (cases_Bool (other == number)) [
  | inl here ↦
      let same = eqb-true other number here in
      let is = turned-here inputs number turn input at in
      let updates = of-here number (handed_at number turn inputs) ∙ is.1 ∙ one-update (handed turn input) in
      rw here (subst (λ (m : ℕ). Has (turn ∷ []) input number (inputs_turned m turn inputs) (events_at m (handed_at m turn inputs))) (sym same)
      (record { input = is.0; updates = updates }))
  | inr none ↦
      let apart = λ (same : other ≡ number). absurd (cc (sym none ∙ eq-eqb other number same)) in
      rw none (record { input = turned-there inputs other number turn apart ∙ at; updates = of-there other number (handed_at other turn inputs) none })
]

-- readings, "known up to", a line
readings-do : (number : ℕ) (readings : List InputReading) (inputs : List InputKept)
    → Does number (turns_among number readings) inputs (inputs_read readings inputs) (events_read readings inputs)
readings-do number [] inputs = does-none number inputs
readings-do number (reading ∷ readings) inputs =
    let later = inputs_turned reading.input (turn_of reading) inputs in
    does-then number (if reading.input == number then turn_of reading ∷ [] else []) (turns_among number readings) inputs later (inputs_read readings later)
    (events_at reading.input (handed_at reading.input (turn_of reading) inputs)) (events_read readings later)
    (turn-does number reading.input (turn_of reading) inputs) (readings-do number readings later)

known-does : (number : ℕ) (known : Option ℤ) (inputs : List InputKept) → Does number (known_turns known) inputs (inputs_known known inputs) (events_known known inputs)
known-does number None inputs = does-none number inputs
known-does number (Some tick) inputs = λ input at.
    let turn = turn.KnownUpTo tick in
    record {
      input = slice_get-map (turned turn) inputs number ∙ ap (λ (i : Option InputKept). option_map (turned turn) i) at;
      updates = of-each number 0 number (handed turn) inputs input (omega arith) at ∙ one-update (handed turn input);
    }

-- the turns that a line has for an input
abbrev pub line_turns : ℕ → Said → List Turn
line_turns number said = turns_among number said.readings ++ known_turns said.known

pub line-does : (number : ℕ) (said : Said) (kept : FeedKept)
    → Does number (line_turns number said) kept.inputs (line_taken said kept).kept.inputs (line_taken said kept).events
line-does number said kept =
    let later = inputs_read said.readings kept.inputs in
    does-then number (turns_among number said.readings) (known_turns said.known) kept.inputs later (inputs_known said.known later)
    (events_read said.readings kept.inputs) (events_known said.known later) (readings-do number said.readings kept.inputs) (known-does number said.known later)

-- a line, by its fault
abbrev pub stepped_line : Option FeedFault → Said → FeedKept → FeedStep
stepped_line fault said kept = if is_none fault then line_taken said kept else record { kept = kept; events = [] }

abbrev pub one_line : Option FeedFault → Said → List Said
one_line fault said = if is_none fault then said ∷ [] else []

line-by : (number : ℕ) (said : Said) (lines : List Said) (kept : FeedKept) (fault : Option FeedFault)
    → ((later : FeedKept) → Does number (turns_at number (lines_taken_from lines later)) later.inputs (lines_stepped lines later).kept.inputs (lines_stepped lines later).events)
    → Does number (turns_at number (one_line fault said ++ lines_taken_from lines (stepped_line fault said kept).kept)) kept.inputs
    (lines_stepped lines (stepped_line fault said kept).kept).kept.inputs
    ((stepped_line fault said kept).events ++ (lines_stepped lines (stepped_line fault said kept).kept).events)
line-by number said lines kept None next =
    let later = (line_taken said kept).kept in
    let last = lines_stepped lines later in
    does-then number (line_turns number said) (turns_at number (lines_taken_from lines later)) kept.inputs later.inputs last.kept.inputs
    (line_taken said kept).events last.events (line-does number said kept) (next later)
line-by number said lines kept (Some fault) next = next kept

pub lines-do : (number : ℕ) (lines : List Said) (kept : FeedKept)
    → Does number (turns_at number (lines_taken_from lines kept)) kept.inputs (lines_stepped lines kept).kept.inputs (lines_stepped lines kept).events
lines-do number [] kept = does-none number kept.inputs
lines-do number (said ∷ lines) kept = line-by number said lines kept (line_fault kept said) (λ later. lines-do number lines later)

-- from the start
pub first-at : (options : List Options) (number : ℕ) (o : Options) → slice_get options number ≡ Some o
    → slice_get (nothing_read options).inputs number ≡ Some (first_kept o)
first-at options number o at = slice_get-map first_kept options number ∙ ap (λ (found : Option Options). option_map first_kept found) at

pub read-has : (options : List Options) (lines : List Said) (number : ℕ) (o : Options) → slice_get options number ≡ Some o
    → Has (turns_at number (taken_lines options lines)) (first_kept o) number (lines_read options lines).kept.inputs (events_now options lines)
read-has options lines number o at = lines-do number lines (nothing_read options) (first_kept o) (first-at options number o at)

-- the updates with those at the end
pub last-has : (options : List Options) (lines : List Said) (number : ℕ) (o : Options) → slice_get options number ≡ Some o
    → updates_of number (events_now options lines ++ events_each last_handed 0 (lines_read options lines).kept.inputs)
    ≡ updates_now o (turns_at number (taken_lines options lines)) ++ last_updates o (converted o (turns_at number (taken_lines options lines))).kept
last-has options lines number o at =
    let has = read-has options lines number o at in
    let inputs = (lines_read options lines).kept.inputs in
    of-append number (events_now options lines) (events_each last_handed 0 inputs)
    ∙ ap₂ (λ (a b : List Update). a ++ b) has.updates (of-each number 0 number last_handed inputs _ (omega arith) has.input)
