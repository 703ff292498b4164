-- What holds at a tick by rows is what the last reading up to it says.
use Rattle.std.proofs.Common.{◌≡◌, ℕ, ℤ, pos, ◌+ℤ◌, ◌≤ℤ◌, ◌<ℤ◌, Bool, true, false, if◌then◌else◌, int_lt, int_le, List, [], ◌∷◌, ◌++◌, Option, Some, None}
use Rattle.std.proofs.Common.{refl, sym, ap, ◌∙◌, arith, inl, inr, ◌⊎◌}
use Rattle.std.proofs.lemmas.Int.{ints, clamps}
use Rattle.std.specs.Int.{int_min}
use Rattle.tilt_conventions.specs.Cells.{AreAfter, IsAfter, NeverAges, last_by, later_one, value_at}
use Rattle.tilt_conventions.specs.Laws.{last_tick}
use Rattle.tilt_conventions.specs.Rows.{end_by_age, next_start, row_of, row_on, rows_of, start_of}
use Rattle.tilt_conventions.specs.declared.turn.Reading.{Reading}
use Rattle.tilt_stream.specs.Snap.{Snapshot}
use Rattle.tilt_stream.specs.Stream.{cell_at, covers}

-- one more reading
pub after-more : (before : Option ℤ) (readings : List Reading) (reading : Reading) → AreAfter before readings → IsAfter (last_tick before readings) reading.tick
    → AreAfter before (readings ++ reading ∷ [])
after-more before [] reading are is = (is, tt)
after-more before (first ∷ readings) reading are is = (are.0, after-more (Some first.tick) readings reading are.1 is)

-- another one on the tick of the last
is-after-same : (before : Option ℤ) (tick other : ℤ) → tick ≡ other → IsAfter before tick → IsAfter before other
is-after-same None tick other same is = tt
is-after-same (Some before) tick other same is = omega (arith, ints, same, is)

pub after-other : (before : Option ℤ) (readings : List Reading) (one other : Reading) → one.tick ≡ other.tick → AreAfter before (readings ++ one ∷ []) → AreAfter before (readings ++ other ∷ [])
after-other before [] one other same are = (is-after-same before one.tick other.tick same are.0, tt)
after-other before (first ∷ readings) one other same are = (are.0, after-other (Some first.tick) readings one other same are.1)

-- rows before and behind a tick
row-out-by : (some : Bool) (start end value tick : ℤ) (rest : List Snapshot) → (tick ≤ℤ start) ⊎ (end <ℤ tick)
    → cell_at ((if some then record { start = start; end = end; value = Some value } ∷ [] else []) ++ rest) tick ≡ cell_at rest tick
row-out-by false start end value tick rest out = refl
row-out-by true start end value tick rest out =
    let covered : covers (record { start = start; end = end; value = Some value }) tick ≡ false = elim out [
      | inl low ↦ grind (arith, ints, low)
      | inr high ↦ grind (arith, ints, high)
    ] in
    ap (λ (b : Bool). if b then Some value else cell_at rest tick) covered

row-out : (start end : ℤ) (value : Option ℤ) (tick : ℤ) (rest : List Snapshot) → (tick ≤ℤ start) ⊎ (end <ℤ tick) → cell_at (row_on start end value ++ rest) tick ≡ cell_at rest tick
row-out start end None tick rest out = refl
row-out start end (Some value) tick rest out = row-out-by (int_lt start end) start end value tick rest out

row-in : (start end : ℤ) (value : Option ℤ) (tick : ℤ) (rest : List Snapshot) → start <ℤ tick → tick ≤ℤ end → cell_at rest tick ≡ None → cell_at (row_on start end value ++ rest) tick ≡ value
row-in start end None tick rest low high none = none
row-in start end (Some value) tick rest low high none =
    let some : int_lt start end ≡ true = grind (arith, ints, low, high) in
    let covered : covers (record { start = start; end = end; value = Some value }) tick ≡ true = grind (arith, ints, low, high) in
    ap (λ (b : Bool). cell_at ((if b then record { start = start; end = end; value = Some value } ∷ [] else []) ++ rest) tick) some
    ∙ ap (λ (b : Bool). if b then Some value else cell_at rest tick) covered

end-high : (age : Option ℕ) (start end : ℤ) → end_by_age age start end ≤ℤ end
end-high None start end = omega (arith, ints)
end-high (Some age) start end = grind (arith, ints, clamps)

-- a tick before readings
next-after : (before : ℤ) (readings : List Reading) → AreAfter (Some before) readings → (tick : ℤ) → tick ≤ℤ before → (last_by tick readings ≡ None)
next-after before [] are tick low = refl
next-after before (reading ∷ readings) are tick low =
    let after = are.0 in
    let no_more : int_le reading.tick tick ≡ false = grind (arith, ints, after, low) in
    ap (λ (b : Bool). if b then later_one reading (last_by tick readings) else None) no_more

before-cell : (age : Option ℕ) (before cut : ℤ) (readings : List Reading) → AreAfter (Some before) readings → (tick : ℤ) → tick ≤ℤ before → cell_at (rows_of age readings cut) tick ≡ None
before-cell age before cut [] are tick low = refl
before-cell age before cut (reading ∷ readings) are tick low =
    let after = are.0 in
    row-out (start_of reading) (end_by_age age (start_of reading) (next_start readings cut)) reading.value tick (rows_of age readings cut) (inl (omega (arith, ints, after, low)))
    ∙ before-cell age reading.tick cut readings are.1 tick (omega (arith, ints, after, low))

-- a tick of the row of a reading, if its age isn't over
young-by : (young : Bool) (age : ℕ) (reading : Reading) (end tick : ℤ) (rest : List Snapshot) → reading.tick ≤ℤ tick → tick ≤ℤ end → cell_at rest tick ≡ None
    → int_lt tick (reading.tick +ℤ pos age) ≡ young → cell_at (row_of (Some age) reading end ++ rest) tick ≡ (if young then reading.value else None)
young-by true age reading end tick rest low high none is =
    let under : tick ≤ℤ int_min end (start_of reading +ℤ pos age) = grind (arith, ints, clamps, is, high) in
    row-in (start_of reading) (int_min end (start_of reading +ℤ pos age)) reading.value tick rest (omega (arith, ints, low)) under none
young-by false age reading end tick rest low high none is =
    let over : int_min end (start_of reading +ℤ pos age) <ℤ tick = grind (arith, ints, clamps, is) in
    row-out (start_of reading) (int_min end (start_of reading +ℤ pos age)) reading.value tick rest (inr over) ∙ none

young-cell : (age : Option ℕ) (reading : Reading) (end tick : ℤ) (rest : List Snapshot) → reading.tick ≤ℤ tick → tick ≤ℤ end → cell_at rest tick ≡ None
    → cell_at (row_of age reading end ++ rest) tick ≡ value_at age tick (Some reading)
young-cell None reading end tick rest low high none = row-in (start_of reading) end reading.value tick rest (omega (arith, ints, low)) high none
young-cell (Some age) reading end tick rest low high none = young-by (int_lt tick (reading.tick +ℤ pos age)) age reading end tick rest low high none refl

-- a tick of the next reading or after it
last-some : (tick : ℤ) (reading : Reading) (readings : List Reading) → reading.tick ≤ℤ tick → last_by tick (reading ∷ readings) ≡ later_one reading (last_by tick readings)
last-some tick reading readings on =
    let is : int_le reading.tick tick ≡ true = grind (arith, ints, on) in
    ap (λ (b : Bool). if b then later_one reading (last_by tick readings) else None) is

later-some : (first reading : Reading) (last : Option Reading) → later_one first (later_one reading last) ≡ later_one reading last
later-some first reading None = refl
later-some first reading (Some last) = refl

-- a tick before the first reading
cells-low : (age : Option ℕ) (reading : Reading) (readings : List Reading) (cut tick : ℤ) → AreAfter (Some reading.tick) readings → tick <ℤ reading.tick
    → cell_at (rows_of age (reading ∷ readings) cut) tick ≡ value_at age tick (last_by tick (reading ∷ readings))
cells-low age reading readings cut tick are low =
    let no_reading : int_le reading.tick tick ≡ false = grind (arith, ints, low) in
    row-out (start_of reading) (end_by_age age (start_of reading) (next_start readings cut)) reading.value tick (rows_of age readings cut) (inl (omega (arith, ints, low)))
    ∙ before-cell age reading.tick cut readings are tick (omega (arith, ints, low))
    ∙ ap (λ (b : Bool). value_at age tick (if b then later_one reading (last_by tick readings) else None)) (sym no_reading)

-- a tick from the first reading on, before the next one or from there on
cells-one : (age : Option ℕ) (reading : Reading) (cut tick : ℤ) → reading.tick ≤ℤ tick → tick ≤ℤ cut
    → cell_at (rows_of age (reading ∷ []) cut) tick ≡ value_at age tick (last_by tick (reading ∷ []))
cells-one age reading cut tick on low =
    young-cell age reading cut tick [] on low refl ∙ ap (λ (r : Option Reading). value_at age tick r) (sym (last-some tick reading [] on))

cells-two : (early : Bool) (age : Option ℕ) (reading next : Reading) (readings : List Reading) (cut tick : ℤ) → reading.tick ≤ℤ tick → AreAfter (Some next.tick) readings
    → cell_at (rows_of age (next ∷ readings) cut) tick ≡ value_at age tick (last_by tick (next ∷ readings)) → int_lt tick next.tick ≡ early
    → cell_at (rows_of age (reading ∷ next ∷ readings) cut) tick ≡ value_at age tick (last_by tick (reading ∷ next ∷ readings))
cells-two true age reading next readings cut tick on are rest is =
    let before : tick ≤ℤ start_of next = grind (arith, ints, is) in
    let all : AreAfter (Some (start_of next)) (next ∷ readings) = (omega (arith, ints), are) in
    let none = before-cell age (start_of next) cut (next ∷ readings) all tick before in
    young-cell age reading (start_of next) tick (rows_of age (next ∷ readings) cut) on before none
    ∙ ap (λ (r : Option Reading). value_at age tick (later_one reading r)) (sym (next-after (start_of next) (next ∷ readings) all tick before))
    ∙ ap (λ (r : Option Reading). value_at age tick r) (sym (last-some tick reading (next ∷ readings) on))
cells-two false age reading next readings cut tick on are rest is =
    let from : next.tick ≤ℤ tick = grind (arith, ints, is) in
    let high = end-high age (start_of reading) (start_of next) in
    row-out (start_of reading) (end_by_age age (start_of reading) (start_of next)) reading.value tick (rows_of age (next ∷ readings) cut) (inr (omega (arith, ints, high, from)))
    ∙ rest
    ∙ ap (λ (r : Option Reading). value_at age tick r)
    (last-some tick next readings from
    ∙ sym (later-some reading next (last_by tick readings))
    ∙ ap (λ (r : Option Reading). later_one reading r) (sym (last-some tick next readings from))
    ∙ sym (last-some tick reading (next ∷ readings) on))

cells-by : (low : Bool) (age : Option ℕ) (reading : Reading) (readings : List Reading) (cut tick : ℤ) → AreAfter (Some reading.tick) readings → tick ≤ℤ cut
    → (cell_at (rows_of age readings cut) tick ≡ value_at age tick (last_by tick readings)) → int_lt tick reading.tick ≡ low
    → cell_at (rows_of age (reading ∷ readings) cut) tick ≡ value_at age tick (last_by tick (reading ∷ readings))
cells-by true age reading readings cut tick are under rest is = cells-low age reading readings cut tick are (grind (arith, ints, is))
cells-by false age reading [] cut tick are under rest is = cells-one age reading cut tick (grind (arith, ints, is)) under
cells-by false age reading (next ∷ readings) cut tick are under rest is =
    cells-two (int_lt tick next.tick) age reading next readings cut tick (grind (arith, ints, is)) are.1 rest refl

pub cells : (age : Option ℕ) (before : Option ℤ) (readings : List Reading) (cut tick : ℤ) → AreAfter before readings → tick ≤ℤ cut
    → cell_at (rows_of age readings cut) tick ≡ value_at age tick (last_by tick readings)
cells age before [] cut tick are under = refl
cells age before (reading ∷ readings) cut tick are under =
    cells-by (int_lt tick reading.tick) age reading readings cut tick are.1 under (cells age (Some reading.tick) readings cut tick are.1 under) refl

-- an age that is never reached
pub never-ages : (age : ℕ) (readings : List Reading) (cut : ℤ) → NeverAges age readings cut → rows_of (Some age) readings cut ≡ rows_of None readings cut
never-ages age [] cut never = refl
never-ages age (reading ∷ readings) cut never =
    let young = never.0 in
    let end : int_min (next_start readings cut) (start_of reading +ℤ pos age) ≡ next_start readings cut = grind (arith, ints, clamps, young) in
    ap (λ (e : ℤ). row_on (start_of reading) e reading.value ++ rows_of (Some age) readings cut) end
    ∙ ap (λ (rows : List Snapshot). row_of None reading (next_start readings cut) ++ rows) (never-ages age readings cut never.1)
