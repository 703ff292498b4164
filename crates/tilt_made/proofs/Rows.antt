-- Rows, one more and one more.
use Rattle.std.proofs.Common.{◌≡◌, ◌∙◌, ℕ, suc, ◌+◌, ◌-◌, ◌<◌, ◌≤ℤ◌, ℤ, pos, negsuc, neg_ℤ, ◌-ℤ◌, FitsSigned, List, [], ◌∷◌, ◌++◌, Some, refl, sym, ap, append_assoc, arith}
use Rattle.std.specs.Int.{w64}
use Rattle.std.proofs.lemmas.Int.{ints}
use Rattle.tilt_stream.specs.Snap.{Snapshot, last_end}
use Rattle.tilt_stream.proofs.Order.{last_end-push}
use Rattle.tilt_made.specs.Generator.{after_row, after_rows, drawn, gap, made_row, row_end, series, ticks}

small_fits : (z : ℤ) → neg_ℤ (pos 1000) ≤ℤ z → z ≤ℤ pos 1000 → FitsSigned w64 z
small_fits (pos a) low high = record { sfits = omega (arith, ints) }
small_fits (negsuc a) low high = record { sfits = omega (arith, ints) }

-- a value fits 64 bits
pub value_fits : (drawn_value : ℤ) (third : ℕ) → drawn_value ≡ pos third → third < 2001 → FitsSigned w64 (drawn_value -ℤ pos 1000)
value_fits drawn_value third is below = small_fits (drawn_value -ℤ pos 1000) (omega (arith, ints)) (omega (arith, ints))

-- a row from its three draws
pub row_is : (state position first second third : ℕ) → first ≡ gap state → second + 1 ≡ ticks state → third ≡ drawn 2001 (after_row state) →
    record { start = pos (position + first); end = pos (position + first + second + 1); value = Some (pos third -ℤ pos 1000) } ≡ made_row state position
row_is state position first second third one two three =
    let end : position + first + second + 1 ≡ row_end state position = rw (← one, ← two) (omega arith) in
    rw (end, one, three) refl

-- what is left of a count has one more than what is left after the next
left_is : (count i : ℕ) → i < count → count - i ≡ suc (count - (i + 1))
left_is count i within = omega (arith, within)

-- the rows made so far and those that are left stay all of them
pub series_more : (rows new all : List Snapshot) (row : Snapshot) (count i state position state' position' : ℕ) → i < count →
    row ≡ made_row state position → state' ≡ after_row state → position' ≡ row_end state position → new ≡ rows ++ row ∷ [] →
    rows ++ series (count - i) state position ≡ all → new ++ series (count - (i + 1)) state' position' ≡ all
series_more rows new all row count i state position state' position' within is state_is position_is pushed before =
    let left : rows ++ series (suc (count - (i + 1))) state position ≡ all = rw (left_is count i within) at before in
    rw (pushed, is, state_is, position_is)
    (append_assoc rows (made_row state position ∷ []) (series (count - (i + 1)) (after_row state) (row_end state position)) ∙ left)

-- the state after the rows that are left stays that after all
pub state_more : (count i state state' last : ℕ) → i < count → state' ≡ after_row state →
    after_rows (count - i) state ≡ last → after_rows (count - (i + 1)) state' ≡ last
state_more count i state state' last within is before =
    let left : after_rows (suc (count - (i + 1))) state ≡ last = rw (left_is count i within) at before in
    rw is left

-- the last row ends at the new position
pub end_more : (rows new : List Snapshot) (row : Snapshot) (state position position' : ℕ) → row ≡ made_row state position →
    position' ≡ row_end state position → new ≡ rows ++ row ∷ [] → (end : ℤ) → last_end new ≡ Some end → end ≡ pos position'
end_more rows new row state position position' is position_is pushed end last =
    let found : Some end ≡ Some (pos position') = sym last ∙ ap last_end pushed ∙ last_end-push rows row ∙ rw (is, position_is) refl in
    cc
