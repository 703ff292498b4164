-- What is known of a turn that is taken, and of lists with one more turn.
use Rattle.std.proofs.Common.{◌≡◌, ℤ, ◌≤ℤ◌, Bool, true, false, not, if◌then◌else◌, int_lt, List, [], ◌∷◌, ◌++◌, Some, None}
use Rattle.std.proofs.Common.{refl, ap, arith}
use Rattle.std.proofs.lemmas.Bool.{and_parts}
use Rattle.std.proofs.lemmas.Int.{ints}
use Rattle.tilt_base.specs.declared.limits.TheConstants.{T}
use Rattle.tilt_conventions.specs.Laws.{last_start, readings_of}
use Rattle.tilt_conventions.specs.Steps.{Kept, is_in_range, is_reading_time, is_refused, placed, turn_fault, turn_start}
use Rattle.tilt_conventions.specs.declared.fault.TurnFault.TheVariants.{OutOfRange, Late, Tie}
use Rattle.tilt_conventions.specs.declared.options.Ties.{Ties}
use Rattle.tilt_conventions.specs.declared.turn.Reading.{Reading}
use Rattle.tilt_conventions.specs.declared.turn.Turn.{Turn}
use Rattle.tilt_conventions.specs.declared.turn.Turn.TheVariants as turn

-- lists with one more turn
pub last-start : (mark : ℤ) (turns : List Turn) (last : Turn) → last_start mark (turns ++ last ∷ []) ≡ turn_start last
last-start mark [] last = refl
last-start mark (first ∷ turns) last = last-start (turn_start first) turns last

pub readings-more : (turns : List Turn) (reading : Reading) → readings_of (turns ++ turn.Reading reading ∷ []) ≡ readings_of turns ++ reading ∷ []
readings-more [] reading = refl
readings-more (turn.Reading first ∷ turns) reading = ap (λ (list : List Reading). first ∷ list) (readings-more turns reading)
readings-more (turn.KnownUpTo watermark ∷ turns) reading = readings-more turns reading

pub readings-known : (turns : List Turn) (watermark : ℤ) → readings_of (turns ++ turn.KnownUpTo watermark ∷ []) ≡ readings_of turns
readings-known [] watermark = refl
readings-known (turn.Reading first ∷ turns) watermark = ap (λ (list : List Reading). first ∷ list) (readings-known turns watermark)
readings-known (turn.KnownUpTo other ∷ turns) watermark = readings-known turns watermark

-- a turn that is taken
no-fault : (range late refused : Bool) → (if not range then Some OutOfRange else if late then Some Late else if refused then Some Tie else None) ≡ None
    → (range ≡ true) × (late ≡ false) × (refused ≡ false)
no-fault false late refused is = absurd (cc is)
no-fault true true refused is = absurd (cc is)
no-fault true false true is = absurd (cc is)
no-fault true false false is = (refl, refl, refl)

pub record IsTimely (ties : Ties) (kept : Kept) (turn : Turn) : Type 0 where
  pub range : is_in_range ties kept.latest turn ≡ true
  pub on : kept.mark ≤ℤ turn_start turn

pub timely : (ties : Ties) (kept : Kept) (turn : Turn) → turn_fault ties kept turn ≡ None → IsTimely ties kept turn
timely ties kept turn is =
    let parts = no-fault (is_in_range ties kept.latest turn) (int_lt (turn_start turn) kept.mark) (is_refused ties kept.latest turn) is in
    let late = parts.1 in
    record { range = parts.0; on = grind (arith, ints) }

-- its times
pub reading-times : (ties : Ties) (kept : Kept) (reading : Reading) → IsTimely ties kept (turn.Reading reading)
    → (is_reading_time reading.tick ≡ true) × (is_reading_time (placed ties kept.latest reading).tick ≡ true)
reading-times ties kept reading is = and_parts (is_reading_time reading.tick) (is_reading_time (placed ties kept.latest reading).tick) is.range

pub time-high : (tick : ℤ) → is_reading_time tick ≡ true → tick ≤ℤ T
time-high tick is = grind (arith, ints)
