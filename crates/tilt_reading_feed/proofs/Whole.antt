-- A line is taken whole: of its readings, and of "known up to", all that are turns of an input are taken, unless the input is known further.
use Rattle.std.proofs.Common.{◌≡◌, ◌≤◌, ◌<◌, ◌==◌, ℕ, ℤ, Bool, true, false, not, if◌then◌else◌, List, [], ◌∷◌, ◌++◌, slice_get}
use Rattle.std.proofs.Common.{Option, Some, None, is_none, option_map, refl, sym, ap, ap₂, ◌∙◌, inl, inr, arith, append-nil}
use Rattle.std.proofs.lemmas.Bool.{cases_Bool, eqb-true, ltb-true, ne_eqb}
use Rattle.tilt_conventions.specs.Laws.{readings_of, taken_from, taken_turns}
use Rattle.tilt_conventions.specs.Steps.{Kept, turn_fault}
use Rattle.tilt_conventions.specs.declared.fault.TurnFault.{TurnFault}
use Rattle.tilt_conventions.specs.declared.options.Options.{Options}
use Rattle.tilt_conventions.specs.declared.turn.Reading.{Reading}
use Rattle.tilt_conventions.specs.declared.turn.Turn.TheVariants as turn
use Rattle.tilt_reading_feed.proofs.Lines.{first-at, input_after, line-does, line_turns, one_line, readings-append, stepped_line, taken-append}
use Rattle.tilt_reading_feed.specs.Laws.{bare_reading, known_turns, lines_taken_from, nothing_read, readings_among, readings_at, taken_lines}
use Rattle.tilt_reading_feed.specs.Laws.{turns_among, turns_at}
use Rattle.tilt_reading_feed.specs.Steps.{FeedKept, InputKept, comes_after, fault_at, first_kept, first_of, known_fault, line_fault, reading_fault}
use Rattle.tilt_reading_feed.specs.Steps.{readings_fault, turn_of}
use Rattle.tilt_reading_feed.specs.declared.fault.FeedFault.{FeedFault}
use Rattle.tilt_reading_feed.specs.declared.fault.FeedFault.TheVariants.{Finished, NotTaken, Repeated}
use Rattle.tilt_reading_lines.specs.Lines.{Said}
use Rattle.tilt_reading_lines.specs.declared.rules.InputReading.{InputReading}

-- no fault
first-none : (one other : Option FeedFault) → first_of one other ≡ None → (one ≡ None) × (other ≡ None)
first-none None other is = (refl, is)
first-none (Some fault) other is = absurd (cc is)

mapped-none : (f : TurnFault → FeedFault) (fault : Option TurnFault) → option_map f fault ≡ None → fault ≡ None
mapped-none f None is = refl
mapped-none f (Some fault) is = absurd (cc is)

tested-none : (test : Bool) (one : FeedFault) (other : Option FeedFault) → (if not test then Some one else other) ≡ None → (test ≡ true) × (other ≡ None)
tested-none true one other is = (refl, is)
tested-none false one other is = absurd (cc is)

-- after a reading of an input comes none of this one, or of one before it
none-among : (number before : ℕ) (inputs : List InputKept) (readings : List InputReading) → number ≤ before
    → readings_fault inputs (Some before) readings ≡ None → (turns_among number readings ≡ []) × (readings_among number readings ≡ [])
none-among number before inputs [] below is = (refl, refl)
none-among number before inputs (reading ∷ readings) below is =
    let both = first-none (reading_fault inputs (Some before) reading) (readings_fault inputs (Some reading.input) readings) is in
    let one = tested-none (comes_after (Some before) reading.input) (Repeated reading.input) (fault_at (slice_get inputs reading.input) reading) both.0 in
    let after : before < reading.input = ltb-true before reading.input one.0 in
    let other : (reading.input == number) ≡ false = ne_eqb reading.input number (λ same. absurd (omega (arith, same, after, below))) in
    let more = none-among number reading.input inputs readings (omega (arith, after, below)) both.1 in
    (rw other more.0, rw other more.1)

-- a reading that is taken is among the turns that are
taken-one : (o : Options) (kept : Kept) (reading : InputReading) → turn_fault o.ties kept (turn_of reading) ≡ None
    → readings_of (taken_from o (turn_of reading ∷ []) kept) ≡ bare_reading reading ∷ []
taken-one o kept reading is =
    ap (λ (fault : Option TurnFault). readings_of ((if is_none fault then turn_of reading ∷ [] else []) ++ [])) is

readings-taken : (number : ℕ) (before : Option ℕ) (readings : List InputReading) (inputs : List InputKept) (input : InputKept)
    → slice_get inputs number ≡ Some input → readings_fault inputs before readings ≡ None
    → readings_of (taken_from input.options (turns_among number readings) input.kept) ≡ readings_among number readings
readings-taken number before [] inputs input at is = refl
readings-taken number before (reading ∷ readings) inputs input at is =
    let both = first-none (reading_fault inputs before reading) (readings_fault inputs (Some reading.input) readings) is in
    let one = tested-none (comes_after before reading.input) (Repeated reading.input) (fault_at (slice_get inputs reading.input) reading) both.0 in
    elim (cases_Bool (reading.input == number)) [
      | inl here ↦
          let same = eqb-true reading.input number here in
          let none = none-among number reading.input inputs readings (omega (arith, same)) both.1 in
          let found = ap (λ (n : ℕ). slice_get inputs n) same ∙ at in
          let fine = mapped-none (NotTaken reading.input) (turn_fault input.options.ties input.kept (turn_of reading))
          (sym (ap (λ (i : Option InputKept). fault_at i reading) found) ∙ one.1) in
          rw (here, none.0, none.1) (taken-one input.options input.kept reading fine)
      | inr other ↦ rw other (readings-taken number (Some reading.input) readings inputs input at both.1)
    ]

-- "known up to" has no reading
known-by : (fault : Option TurnFault) (tick : ℤ) → readings_of ((if is_none fault then turn.KnownUpTo tick ∷ [] else []) ++ []) ≡ []
known-by None tick = refl
known-by (Some fault) tick = refl

known-none : (o : Options) (known : Option ℤ) (kept : Kept) → readings_of (taken_from o (known_turns known) kept) ≡ []
known-none o None kept = refl
known-none o (Some tick) kept = known-by (turn_fault o.ties kept (turn.KnownUpTo tick)) tick

-- a line
no-fault : (finished : Bool) (one other : Option FeedFault) → (if finished then Some Finished else first_of one other) ≡ None → one ≡ None
no-fault true one other is = absurd (cc is)
no-fault false one other is = (first-none one other is).0

line-taken : (number : ℕ) (said : Said) (kept : FeedKept) (input : InputKept) → slice_get kept.inputs number ≡ Some input → line_fault kept said ≡ None
    → readings_of (taken_from input.options (line_turns number said) input.kept) ≡ readings_among number said.readings
line-taken number said kept input at is =
    let o = input.options in
    let first = turns_among number said.readings in
    let fine = no-fault kept.finished (readings_fault kept.inputs None said.readings) (known_fault said.known) is in
    ap readings_of (taken-append o first (known_turns said.known) input.kept)
    ∙ readings-append (taken_from o first input.kept) _
    ∙ ap₂ (λ (a b : List Reading). a ++ b) (readings-taken number None said.readings kept.inputs input at fine) (known-none o said.known _)
    ∙ append-nil (readings_among number said.readings)

-- lines, one after another
line-by : (number : ℕ) (said : Said) (lines : List Said) (kept : FeedKept) (fault : Option FeedFault) (input : InputKept) → slice_get kept.inputs number ≡ Some input
    → line_fault kept said ≡ fault
    → ((later : FeedKept) (i : InputKept) → slice_get later.inputs number ≡ Some i
    → readings_of (taken_from i.options (turns_at number (lines_taken_from lines later)) i.kept) ≡ readings_at number (lines_taken_from lines later))
    → readings_of (taken_from input.options (turns_at number (one_line fault said ++ lines_taken_from lines (stepped_line fault said kept).kept)) input.kept)
    ≡ readings_at number (one_line fault said ++ lines_taken_from lines (stepped_line fault said kept).kept)
line-by number said lines kept None input at is next =
    let o = input.options in
    let first = line_turns number said in
    let later = (stepped_line None said kept).kept in
    let second = turns_at number (lines_taken_from lines later) in
    let here = line-does number said kept input at in
    ap readings_of (taken-append o first second input.kept)
    ∙ readings-append (taken_from o first input.kept) _
    ∙ ap₂ (λ (a b : List Reading). a ++ b) (line-taken number said kept input at is) (next later (input_after first input) here.input)
line-by number said lines kept (Some fault) input at is next = next kept input at

lines-taken : (number : ℕ) (lines : List Said) (kept : FeedKept) (input : InputKept) → slice_get kept.inputs number ≡ Some input
    → readings_of (taken_from input.options (turns_at number (lines_taken_from lines kept)) input.kept) ≡ readings_at number (lines_taken_from lines kept)
lines-taken number [] kept input at = refl
lines-taken number (said ∷ lines) kept input at =
    line-by number said lines kept (line_fault kept said) input at refl (λ later i at. lines-taken number lines later i at)

pub all-taken : (options : List Options) (lines : List Said) (number : ℕ) (o : Options) → slice_get options number ≡ Some o
    → readings_of (taken_turns o (turns_at number (taken_lines options lines))) ≡ readings_at number (taken_lines options lines)
all-taken options lines number o at = lines-taken number lines (nothing_read options) (first_kept o) (first-at options number o at)
