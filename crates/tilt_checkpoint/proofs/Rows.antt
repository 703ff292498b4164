-- The rows that are read are those that are spelled.
use Rattle.std.proofs.Common.{◌≡◌, ℕ, zero, suc, true, if◌then◌else◌, List, [], ◌∷◌, ◌++◌, length, Option, Some, None, ℤ, pos}
use Rattle.std.proofs.Common.{negsuc, neg_ℤ, ◌≤ℤ◌, ◌<ℤ◌, FitsSigned, refl, sym, ap, ◌∙◌, subst, arith, append-nil, append_assoc}
use Rattle.std.specs.Prelude.{codes, int_lt, int_le}
use Rattle.std.specs.Fmt.{signed_decimal}
use Rattle.std.specs.Int.{w64}
use Rattle.std.specs.List.{AllByRecursion}
use Rattle.std.proofs.lemmas.Bool.{and_parts, and_from}
use Rattle.std.proofs.lemmas.Int.{ints}
use Rattle.std.proofs.lemmas.Option.{some_pair_parts}
use Rattle.tilt_base.proofs.Comparisons.{lt_true, true_lt, le_true, true_le}
use Rattle.tilt_base.specs.declared.limits.TheConstants.{T}
use Rattle.tilt_base.proofs.Lists.{guard_some}
use Rattle.tilt_stream.specs.Snap.{Snapshot, InOrder, last_end}
use Rattle.tilt_stream.proofs.Order.{last_end-push}
use Rattle.tilt_stream.specs.Text.{cell_text, row_text}
use Rattle.tilt_text.specs.Step.{◌>>=◌}
use Rattle.tilt_text.proofs.Step.{bind_some}
use Rattle.tilt_checkpoint.specs.Reading.{follows, maybe_at, may_follow, number_at, row_at, times, with_row}
use Rattle.tilt_checkpoint.specs.Spelling.{or_word, row_lines}
use Rattle.tilt_checkpoint.specs.Valid.{IsCell, IsKept}
use Rattle.tilt_checkpoint.proofs.Words.{number-again, number-was, maybe-again, maybe-was, nothing-apart}

cell_is : (o : Option ℤ) → cell_text o ≡ or_word [] o
cell_is None = refl
cell_is (Some z) = refl

-- a row's line, and what follows it
row_shape : (r : Snapshot) (rest : List ℕ)
    → row_text r ++ rest ≡ signed_decimal r.start ++ 44 ∷ (signed_decimal r.end ++ 44 ∷ (or_word [] r.value ++ 10 ∷ rest))
row_shape r rest =
    ap (λ (c : List ℕ). (signed_decimal r.start ++ codes "," ++ signed_decimal r.end ++ codes "," ++ c ++ codes "\n") ++ rest) (cell_is r.value)
    ∙ simp append_assoc

-- a time fits in 64 bits
pub time_fits : (t : ℤ) → neg_ℤ T ≤ℤ t → t ≤ℤ T → FitsSigned w64 t
time_fits (pos n) low high = record { sfits = omega (arith, ints) }
time_fits (negsuc n) low high = record { sfits = omega (arith, ints) }

pub row-again : (r : Snapshot) → r.start <ℤ r.end → FitsSigned w64 r.start → FitsSigned w64 r.end → IsCell r.value → (rest : List ℕ)
    → row_at (row_text r ++ rest) ≡ Some (r, rest)
row-again r order start end value rest =
    let behind_end = or_word [] r.value ++ 10 ∷ rest in
    let behind_start = signed_decimal r.end ++ 44 ∷ behind_end in
    ap row_at (row_shape r rest)
    ∙ rw (
      number-again 44 (omega arith) r.start start behind_start,
      number-again 44 (omega arith) r.end end behind_end,
      maybe-again [] 10 (nothing-apart 10 (omega arith)) r.value value rest,
      true_lt r.start r.end order,
    ) refl

-- a row that was read
pub record IsRow (bytes : List ℕ) (r : Snapshot) (rest : List ℕ) : Type 0 where
  pub spelled : bytes ≡ row_text r ++ rest
  pub order : r.start <ℤ r.end
  pub cell : IsCell r.value

abbrev row3 : ℤ × List ℕ → ℤ × List ℕ → Option ℤ × List ℕ → Option (Snapshot × List ℕ)
row3 start end value =
    if int_lt start.0 end.0 then Some (record { start = start.0; end = end.0; value = value.0 }, value.1) else None

abbrev row2 : ℤ × List ℕ → ℤ × List ℕ → Option (Snapshot × List ℕ)
row2 start end = maybe_at [] 10 end.1 >>= row3 start end

abbrev row1 : ℤ × List ℕ → Option (Snapshot × List ℕ)
row1 start = number_at 44 start.1 >>= row2 start

pub row-was : (bytes : List ℕ) (r : Snapshot) (rest : List ℕ) → row_at bytes ≡ Some (r, rest) → IsRow bytes r rest
row-was bytes r rest e =
    let s = bind_some (number_at 44 bytes) row1 (r, rest) e in
    let n = bind_some (number_at 44 s.0.1) (row2 s.0) (r, rest) s.2 in
    let v = bind_some (maybe_at [] 10 n.0.1) (row3 s.0 n.0) (r, rest) n.2 in
    let made : Snapshot = record { start = s.0.0; end = n.0.0; value = v.0.0 } in
    let g = guard_some (int_lt s.0.0 n.0.0) (Some (made, v.0.1)) (r, rest) v.2 in
    let p = some_pair_parts made r v.0.1 rest g.1 in
    let start = number-was 44 bytes s.0.0 s.0.1 s.1 in
    let end = number-was 44 s.0.1 n.0.0 n.0.1 n.1 in
    let value = maybe-was [] 10 n.0.1 v.0.0 v.0.1 v.1 in
    let behind_start = end.spelled ∙ ap (λ (t : List ℕ). signed_decimal n.0.0 ++ 44 ∷ t) value.spelled in
    let whole = start.spelled ∙ ap (λ (t : List ℕ). signed_decimal s.0.0 ++ 44 ∷ t) behind_start in
    record {
      spelled = whole ∙ sym (row_shape made v.0.1) ∙ (λ i. row_text (p.0 i) ++ p.1 i);
      order = subst (λ (q : Snapshot). q.start <ℤ q.end) p.0 (lt_true s.0.0 n.0.0 g.0);
      cell = subst (λ (q : Snapshot). IsCell q.value) p.0 value.fits;
    }

module _ (first cut : ℤ) where
  -- a row may follow that starts after the last end, which lies within the range of times
  follow_true : (before : List Snapshot) (r : Snapshot) → follows (last_end before) r.start ≡ true → neg_ℤ T ≤ℤ r.start → r.end ≤ℤ T
      → IsKept first cut r → may_follow first cut before r ≡ true
  follow_true before r behind low high kept =
      and_from _ (int_lt r.start cut)
      (and_from _ (int_le first r.end)
      (and_from _ (int_le r.end T)
      (and_from (int_le (neg_ℤ T) r.start) (follows (last_end before) r.start) (true_le (neg_ℤ T) r.start low) behind)
      (true_le r.end T high)) (true_le first r.end kept.reaches)) (true_lt r.start cut kept.before)

  step-again : (before : List Snapshot) (r : Snapshot) (rest : List ℕ) → follows (last_end before) r.start ≡ true → neg_ℤ T ≤ℤ r.start
      → r.start <ℤ r.end → r.end ≤ℤ T → IsKept first cut r → with_row first cut (before, row_text r ++ rest) ≡ Some (before ++ r ∷ [], rest)
  step-again before r rest behind low order high kept =
      rw (
        row-again r order (time_fits r.start low (omega (arith, ints))) (time_fits r.end (omega (arith, ints)) high) kept.cell rest,
        follow_true before r behind low high kept,
      ) refl

  pub rows-again : (rows before : List Snapshot) (from : ℤ) (rest : List ℕ) → neg_ℤ T ≤ℤ from
      → ((s : ℤ) → from ≤ℤ s → follows (last_end before) s ≡ true) → InOrder from T rows → AllByRecursion (IsKept first cut) rows
      → times (with_row first cut) (length rows) (before, row_lines rows ++ rest) ≡ Some (before ++ rows, rest)
  rows-again [] before from rest low behind order kept = ap (λ (b : List Snapshot). Some (b, rest)) (sym (append-nil before))
  rows-again (r ∷ rows) before from rest low behind order kept =
      let starts = order.0 in
      let ends = order.1 in
      let step = step-again before r (row_lines rows ++ rest) (behind r.start order.0) (omega (arith, ints)) order.1 order.2 kept.0 in
      let more = rows-again rows (before ++ r ∷ []) r.end rest (omega (arith, ints))
      (λ s h. rw (last_end-push before r) (true_le r.end s h)) order.3 kept.1 in
      ap (λ (t : List ℕ). times (with_row first cut) (suc (length rows)) (before, t)) (append_assoc (row_text r) (row_lines rows) rest)
      ∙ ap (λ (o : Option (List Snapshot × List ℕ)). o >>= times (with_row first cut) (length rows)) step
      ∙ more ∙ ap (λ (b : List Snapshot). Some (b, rest)) (append_assoc before (r ∷ []) rows)

  -- what is known of rows that were read after others
  pub record AreRead (count : ℕ) (from : ℤ) (before : List Snapshot) (bytes : List ℕ) (all : List Snapshot) (rest : List ℕ) : Type 0 where
    pub rows : List Snapshot
    pub joined : all ≡ before ++ rows
    pub counted : count ≡ length rows
    pub spelled : bytes ≡ row_lines rows ++ rest
    pub order : InOrder from T rows
    pub kept : AllByRecursion (IsKept first cut) rows

  -- what is known of a row that was read after others
  record IsStep (from : ℤ) (before : List Snapshot) (bytes : List ℕ) (all : List Snapshot) (rest : List ℕ) : Type 0 where
    row : Snapshot
    joined : all ≡ before ++ row ∷ []
    spelled : bytes ≡ row_text row ++ rest
    starts : from ≤ℤ row.start
    order : row.start <ℤ row.end
    ends : row.end ≤ℤ T
    kept : IsKept first cut row

  step-was : (from : ℤ) (before : List Snapshot) (bytes : List ℕ) (all : List Snapshot) (rest : List ℕ)
      → ((s : ℤ) → neg_ℤ T ≤ℤ s → follows (last_end before) s ≡ true → from ≤ℤ s)
      → with_row first cut (before, bytes) ≡ Some (all, rest) → IsStep from before bytes all rest
  step-was from before bytes all rest behind e =
      let r = bind_some (row_at bytes) (λ row. if may_follow first cut before row.0 then Some (before ++ row.0 ∷ [], row.1) else None) (all, rest) e in
      let row = r.0.0 in
      let g = guard_some (may_follow first cut before row) (Some (before ++ row ∷ [], r.0.1)) (all, rest) r.2 in
      let p = some_pair_parts (before ++ row ∷ []) all r.0.1 rest g.1 in
      let is = row-was bytes row r.0.1 r.1 in
      let a = and_parts _ (int_lt row.start cut) g.0 in
      let b = and_parts _ (int_le first row.end) a.0 in
      let c = and_parts _ (int_le row.end T) b.0 in
      let d = and_parts (int_le (neg_ℤ T) row.start) (follows (last_end before) row.start) c.0 in
      record {
        row = row;
        joined = sym p.0;
        spelled = is.spelled ∙ ap (λ (t : List ℕ). row_text row ++ t) p.1;
        starts = behind row.start (le_true (neg_ℤ T) row.start d.0) d.1;
        order = is.order;
        ends = le_true row.end T c.1;
        kept = record { reaches = le_true first row.end b.1; before = lt_true row.start cut a.1; cell = is.cell };
      }

  pub rows-were : (count : ℕ) (from : ℤ) (before : List Snapshot) (bytes : List ℕ) (all : List Snapshot) (rest : List ℕ)
      → ((s : ℤ) → neg_ℤ T ≤ℤ s → follows (last_end before) s ≡ true → from ≤ℤ s)
      → times (with_row first cut) count (before, bytes) ≡ Some (all, rest) → AreRead count from before bytes all rest
  rows-were zero from before bytes all rest behind e =
      let p = some_pair_parts before all bytes rest e in
      record {
        rows = [];
        joined = sym p.0 ∙ sym (append-nil before);
        counted = refl;
        spelled = p.1;
        order = tt;
        kept = tt;
      }
  rows-were (suc count) from before bytes all rest behind e =
      let b = bind_some (with_row first cut (before, bytes)) (times (with_row first cut) count) (all, rest) e in
      let s = step-was from before bytes b.0.0 b.0.1 behind b.1 in
      let next = rows-were count s.row.end b.0.0 b.0.1 all rest
      (λ t low h. le_true s.row.end t (rw (s.joined, last_end-push before s.row) at h)) b.2 in
      record {
        rows = s.row ∷ next.rows;
        joined = next.joined ∙ ap (λ (l : List Snapshot). l ++ next.rows) s.joined ∙ append_assoc before (s.row ∷ []) next.rows;
        counted = ap (λ (n : ℕ). suc n) next.counted;
        spelled = s.spelled ∙ ap (λ (t : List ℕ). row_text s.row ++ t) next.spelled ∙ sym (append_assoc (row_text s.row) (row_lines next.rows) rest);
        order = (s.starts, s.order, s.ends, next.order);
        kept = (s.kept, next.kept);
      }
