-- One more reading at the end of a list: which ones count then, and which rows they have.
use Rattle.std.proofs.Common.{◌≡◌, ℕ, ℤ, Bool, true, false, if◌then◌else◌, List, [], ◌∷◌, ◌++◌, Option, Some, None, option_map}
use Rattle.std.proofs.Common.{refl, sym, ap, ◌∙◌, append_assoc, append-nil, arith}
use Rattle.std.proofs.lemmas.Int.{ints}
use Rattle.tilt_conventions.specs.Laws.{last_tick}
use Rattle.tilt_conventions.specs.Rows.{counted, firsts, is_at, lasts, moved_past, next_start, next_tick, row_of, rows_of, spread, start_of}
use Rattle.tilt_conventions.specs.Steps.{is_tie, placed, takes_last}
use Rattle.tilt_conventions.specs.declared.options.Ties.{Ties}
use Rattle.tilt_conventions.specs.declared.options.Ties.TheVariants.{First, Last, Refuse, Spread}
use Rattle.tilt_conventions.specs.declared.turn.Reading.{Reading}
use Rattle.tilt_stream.specs.Snap.{Snapshot}

-- the rows of readings and one more: those before end where it starts
next-more : (readings : List Reading) (reading : Reading) (cut : ℤ) → next_start (readings ++ reading ∷ []) cut ≡ next_start readings (start_of reading)
next-more [] reading cut = refl
next-more (first ∷ readings) reading cut = refl

pub rows-more : (age : Option ℕ) (readings : List Reading) (reading : Reading) (cut : ℤ)
    → rows_of age (readings ++ reading ∷ []) cut ≡ rows_of age readings (start_of reading) ++ row_of age reading cut
rows-more age [] reading cut = append-nil (row_of age reading cut)
rows-more age (first ∷ readings) reading cut =
    ap (λ (end : ℤ). row_of age first end ++ rows_of age (readings ++ reading ∷ []) cut) (next-more readings reading cut)
    ∙ ap (λ (rows : List Snapshot). row_of age first (next_start readings (start_of reading)) ++ rows) (rows-more age readings reading cut)
    ∙ sym (append_assoc (row_of age first (next_start readings (start_of reading))) (rows_of age readings (start_of reading)) (row_of age reading cut))

-- the first reading of each tick
firsts-more : (before : Option ℤ) (readings : List Reading) (reading : Reading)
    → firsts before (readings ++ reading ∷ []) ≡ firsts before readings ++ (if is_at (last_tick before readings) reading then [] else reading ∷ [])
firsts-more before [] reading = append-nil (if is_at before reading then [] else reading ∷ [])
firsts-more before (first ∷ readings) reading =
    ap (λ (list : List Reading). (if is_at before first then [] else first ∷ []) ++ list) (firsts-more (Some first.tick) readings reading)
    ∙ sym (append_assoc (if is_at before first then [] else first ∷ []) (firsts (Some first.tick) readings)
    (if is_at (last_tick (Some first.tick) readings) reading then [] else reading ∷ []))

is-before : (before : Option ℤ) (reading : Reading) → is_at before reading ≡ true → before ≡ Some reading.tick
is-before None reading is = absurd (cc is)
is-before (Some tick) reading is =
    let same : tick ≡ reading.tick = grind (arith, ints) in
    ap (λ (t : ℤ). Some t) same

last-first : (here : Bool) (before : Option ℤ) (reading : Reading) (readings : List Reading) → is_at before reading ≡ here
    → last_tick before ((if here then [] else reading ∷ []) ++ readings) ≡ last_tick (Some reading.tick) readings
last-first true before reading readings is = ap (λ (tick : Option ℤ). last_tick tick readings) (is-before before reading is)
last-first false before reading readings is = refl

last-firsts : (before : Option ℤ) (readings : List Reading) → last_tick before (firsts before readings) ≡ last_tick before readings
last-firsts before [] = refl
last-firsts before (reading ∷ readings) =
    last-first (is_at before reading) before reading (firsts (Some reading.tick) readings) refl ∙ last-firsts (Some reading.tick) readings

-- the last reading of each tick
next-tick : (readings : List Reading) (reading : Reading) (after : Option ℤ) → next_tick (readings ++ reading ∷ []) after ≡ next_tick readings (Some reading.tick)
next-tick [] reading after = refl
next-tick (first ∷ readings) reading after = refl

pub lasts-more : (readings : List Reading) (reading : Reading) (after : Option ℤ)
    → lasts (readings ++ reading ∷ []) after ≡ lasts readings (Some reading.tick) ++ (if is_at after reading then [] else reading ∷ [])
lasts-more [] reading after = append-nil (if is_at after reading then [] else reading ∷ [])
lasts-more (first ∷ readings) reading after =
    ap (λ (tick : Option ℤ). (if is_at tick first then [] else first ∷ []) ++ lasts (readings ++ reading ∷ []) after) (next-tick readings reading after)
    ∙ ap (λ (list : List Reading). (if is_at (next_tick readings (Some reading.tick)) first then [] else first ∷ []) ++ list) (lasts-more readings reading after)
    ∙ sym (append_assoc (if is_at (next_tick readings (Some reading.tick)) first then [] else first ∷ []) (lasts readings (Some reading.tick))
    (if is_at after reading then [] else reading ∷ []))

-- each reading on a tick of its own
spread-more : (before : Option ℤ) (readings : List Reading) (reading : Reading)
    → spread before (readings ++ reading ∷ []) ≡ spread before readings ++ moved_past (last_tick before (spread before readings)) reading ∷ []
spread-more before [] reading = refl
spread-more before (first ∷ readings) reading =
    ap (λ (list : List Reading). moved_past before first ∷ list) (spread-more (Some (moved_past before first).tick) readings reading)

-- the tick of the last one
pub last-more : (before : Option ℤ) (readings : List Reading) (reading : Reading) → last_tick before (readings ++ reading ∷ []) ≡ Some reading.tick
last-more before [] reading = refl
last-more before (first ∷ readings) reading = last-more (Some first.tick) readings reading

-- the readings that count and one more, unless the last one in a tick counts
choose : (b : Bool) (list : List Reading) (reading : Reading) → list ++ (if b then [] else reading ∷ []) ≡ (if b then list else list ++ reading ∷ [])
choose true list reading = append-nil list
choose false list reading = refl

more-firsts : (latest : Option Reading) (readings : List Reading) (reading : Reading) → option_map (λ r. r.tick) latest ≡ last_tick None (firsts None readings)
    → firsts None (readings ++ reading ∷ [])
    ≡ (if is_at (option_map (λ r. r.tick) latest) reading then firsts None readings else firsts None readings ++ reading ∷ [])
more-firsts latest readings reading is =
    firsts-more None readings reading
    ∙ ap (λ (tick : Option ℤ). firsts None readings ++ (if is_at tick reading then [] else reading ∷ [])) (sym (is ∙ last-firsts None readings))
    ∙ choose (is_at (option_map (λ r. r.tick) latest) reading) (firsts None readings) reading

pub counted-more : (ties : Ties) (latest : Option Reading) (readings : List Reading) (reading : Reading) → takes_last ties ≡ false
    → option_map (λ r. r.tick) latest ≡ last_tick None (counted ties readings)
    → counted ties (readings ++ reading ∷ [])
    ≡ (if is_tie ties latest reading then counted ties readings else counted ties readings ++ placed ties latest reading ∷ [])
counted-more First latest readings reading eager is = more-firsts latest readings reading is
counted-more Last latest readings reading eager is = absurd (cc eager)
counted-more Refuse latest readings reading eager is = more-firsts latest readings reading is
counted-more Spread latest readings reading eager is =
    spread-more None readings reading
    ∙ ap (λ (tick : Option ℤ). spread None readings ++ moved_past tick reading ∷ []) (sym is)
