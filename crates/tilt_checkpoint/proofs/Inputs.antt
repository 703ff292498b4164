-- The series that are read are those that are spelled.
use Rattle.std.proofs.Common.{◌≡◌, ℕ, zero, suc, ◌^◌, ◌<◌, ◌≤◌, Bool, true, if◌then◌else◌, List, [], ◌∷◌, ◌++◌, length, Option, Some}
use Rattle.std.proofs.Common.{None, ℤ, neg_ℤ, ◌≤ℤ◌, refl, sym, ap, ◌∙◌, subst, arith, append-nil, append_assoc, length-append}
use Rattle.std.specs.Prelude.{codes, int_lt, int_le}
use Rattle.std.specs.Fmt.{decimal, signed_decimal}
use Rattle.std.specs.List.{AllByRecursion, flat_map}
use Rattle.std.proofs.lemmas.Bool.{and_parts, and_from}
use Rattle.std.proofs.lemmas.Bool.Decides.{Decides-int_eq}
use Rattle.std.proofs.lemmas.Int.{ints}
use Rattle.std.proofs.lemmas.Option.{none-some, same_Some, some_pair_parts}
use Rattle.tilt_base.proofs.Comparisons.{lt_true, true_lt, le_true, true_le}
use Rattle.tilt_base.specs.declared.limits.TheConstants.{T}
use Rattle.tilt_base.proofs.Lists.{guard_some}
use Rattle.tilt_stream.proofs.Order.{last_end-low}
use Rattle.tilt_stream.specs.Snap.{Snapshot, InOrder, last_end}
use Rattle.tilt_stream.specs.Text.{cell_text, row_text}
use Rattle.tilt_text.specs.Step.{◌>>=◌}
use Rattle.tilt_text.proofs.Step.{bind_some}
use Rattle.tilt_checkpoint.specs.Checkpoint.{KeptParts}
use Rattle.tilt_checkpoint.specs.Cuts.{IsCut}
use Rattle.tilt_checkpoint.specs.Reading.{behind, count_at, is_cut, is_last_end, kept_after, kept_at, kept_upto, kept_with, maybe_at, number_at, own_cut_at, series_head, times, with_kept, with_row}
use Rattle.tilt_checkpoint.specs.Spelling.{cut_words, row_lines, series_lines, time_text}
use Rattle.tilt_checkpoint.specs.Valid.{IsCell, IsKept, IsLastEnd, IsSeries}
use Rattle.tilt_checkpoint.specs.declared.form.Form.{Form}
use Rattle.tilt_checkpoint.specs.declared.version.Version.{Version}
use Rattle.tilt_checkpoint.specs.declared.version.Version.TheVariants.{First, Second}
use Rattle.tilt_checkpoint.proofs.CutTests.{cut_true, true_cut}
use Rattle.tilt_checkpoint.proofs.Pieces.{text-behind}
use Rattle.tilt_checkpoint.proofs.Rows.{rows-again, rows-were, time_fits}
use Rattle.tilt_checkpoint.proofs.Versions.{AllSuit, Suits}
use Rattle.tilt_checkpoint.proofs.Words.{count-again, count-was, maybe-again, maybe-was, none-apart, number-again, number-was}

-- last ends

last_true : (first cut : ℤ) (end last : Option ℤ) → is_last_end first cut end last ≡ true → IsLastEnd first cut end last
last_true first cut (Some end) None h = absurd (cc h)
last_true first cut (Some end) (Some last) h = ap Some ((Decides-int_eq last end).0 h)
last_true first cut None None h = tt
last_true first cut None (Some last) h =
    let a = and_parts _ (int_lt (neg_ℤ T) cut) h in
    let b = and_parts _ (int_lt last first) a.0 in
    let c = and_parts (int_lt (neg_ℤ T) last) (int_le last T) b.0 in
    (lt_true (neg_ℤ T) last c.0, le_true last T c.1, lt_true last first b.1, lt_true (neg_ℤ T) cut a.1)

true_last : (first cut : ℤ) (end last : Option ℤ) → IsLastEnd first cut end last → is_last_end first cut end last ≡ true
true_last first cut (Some end) None h = absurd (none-some end h)
true_last first cut (Some end) (Some last) h = (Decides-int_eq last end).1 (same_Some last end h)
true_last first cut None None h = refl
true_last first cut None (Some last) h =
    and_from _ (int_lt (neg_ℤ T) cut)
    (and_from _ (int_lt last first)
    (and_from (int_lt (neg_ℤ T) last) (int_le last T) (true_lt (neg_ℤ T) last h.0) (true_le last T h.1))
    (true_lt last first h.2)) (true_lt (neg_ℤ T) cut h.3)

last_high : (from limit : ℤ) (rows : List Snapshot) (end : ℤ) → InOrder from limit rows → last_end rows ≡ Some end → end ≤ℤ limit
last_high from limit [] end order e = absurd (none-some end e)
last_high from limit (r ∷ []) end order e = let same = same_Some r.end end e in let high = order.2 in omega (arith, ints)
last_high from limit (r ∷ next ∷ rows) end order e = last_high r.end limit (next ∷ rows) end order.3 e

last_fits_at : (first cut : ℤ) (rows : List Snapshot) (end last : Option ℤ) → last_end rows ≡ end → InOrder (neg_ℤ T) T rows
    → IsLastEnd first cut end last → IsCell last
last_fits_at first cut rows (Some end) None is order h = tt
last_fits_at first cut rows (Some end) (Some last) is order h =
    let same = same_Some last end h in
    let low = last_end-low (neg_ℤ T) T rows end order is in
    let high = last_high (neg_ℤ T) T rows end order is in
    time_fits last (omega (arith, ints)) (omega (arith, ints))
last_fits_at first cut rows None None is order h = tt
last_fits_at first cut rows None (Some last) is order h =
    let low = h.0 in
    let high = h.1 in
    time_fits last (omega (arith, ints)) (omega (arith, ints))

-- the lines of a series after its cut
abbrev lines_upto : KeptParts → List ℕ
lines_upto kept =
    codes "last "
    ++ (time_text kept.last_end ++ (codes " rows " ++ (decimal (length kept.rows) ++ (codes "\n" ++ row_lines kept.rows))))

-- they, and what follows them
series_shape : (kept : KeptParts) (rest : List ℕ)
    → lines_upto kept ++ rest
    ≡ codes "last " ++ (time_text kept.last_end ++ 32 ∷ (codes "rows " ++ (decimal (length kept.rows) ++ 10 ∷ (row_lines kept.rows ++ rest))))
series_shape kept rest = simp append_assoc

pub cut_fits : (cut : ℤ) → IsCut cut → IsCell (Some cut)
cut_fits cut h = time_fits cut h.0 h.1

-- what is spelled of the cut of a series is read
cut-again : (version : Version) (least cut : ℤ) → Suits version least cut → IsCut cut → (rest : List ℕ)
    → own_cut_at version least (cut_words version cut ++ rest) ≡ Some (cut, rest)
cut-again First least cut same within rest = ap (λ (z : ℤ). Some (z, rest)) (sym same)
cut-again Second least cut same within rest =
    ap (number_at 32) (append_assoc (signed_decimal cut) (codes " ") rest) ∙ number-again 32 (omega arith) cut (cut_fits cut within) rest

head-again : (last : Option ℤ) → IsCell last → (count : ℕ) → count < 2 ^ 63 → (rest : List ℕ)
    → series_head (codes "last " ++ (time_text last ++ 32 ∷ (codes "rows " ++ (decimal count ++ 10 ∷ rest)))) ≡ Some ((last, count), rest)
head-again last fits count small rest =
    rw (
      maybe-again (codes "none") 32 (none-apart 32 (omega arith)) last fits (codes "rows " ++ (decimal count ++ 10 ∷ rest)),
      count-again 10 (omega arith) count small rest,
    ) refl

-- what is spelled of a series after its cut is read
upto-again : (first : ℤ) (kept : KeptParts) → IsSeries first kept → length kept.rows < 2 ^ 63 → (rest : List ℕ)
    → kept_upto first kept.cut (lines_upto kept ++ rest) ≡ Some (kept, rest)
upto-again first kept h small rest =
    let cut = kept.cut in
    let fits = last_fits_at first cut kept.rows (last_end kept.rows) kept.last_end refl h.in_order h.last in
    let rows = rows-again first cut kept.rows [] (neg_ℤ T) rest (omega (arith, ints)) (λ s low. refl) h.in_order h.rows in
    ap (kept_upto first cut) (series_shape kept rest)
    ∙ ap (λ o. o >>= λ head. times (with_row first cut) head.0.1 ([], head.1) >>= kept_with first cut head.0.0)
    (head-again kept.last_end fits (length kept.rows) small (row_lines kept.rows ++ rest))
    ∙ ap (λ o. o >>= kept_with first cut kept.last_end) rows
    ∙ ap (λ (t : Bool). if t then Some (kept, rest) else None) (true_last first cut (last_end kept.rows) kept.last_end h.last)

abbrev head3 : Option ℤ × List ℕ → ℕ × List ℕ → Option ((Option ℤ × ℕ) × List ℕ)
head3 last count = Some ((last.0, count.0), count.1)

abbrev head2 : Option ℤ × List ℕ → List ℕ → Option ((Option ℤ × ℕ) × List ℕ)
head2 last rows = count_at 10 rows >>= head3 last

abbrev head1 : Option ℤ × List ℕ → Option ((Option ℤ × ℕ) × List ℕ)
head1 last = behind (codes "rows ") last.1 >>= head2 last

record WasHead (bytes : List ℕ) (last : Option ℤ) (count : ℕ) (rest : List ℕ) : Type 0 where
  spelled : bytes ≡ codes "last " ++ (time_text last ++ 32 ∷ (codes "rows " ++ (decimal count ++ 10 ∷ rest)))

head-was : (bytes : List ℕ) (last : Option ℤ) (count : ℕ) (rest : List ℕ) → series_head bytes ≡ Some ((last, count), rest)
    → WasHead bytes last count rest
head-was bytes last count rest e =
    let w = bind_some (behind (codes "last ") bytes) (λ word. maybe_at (codes "none") 32 word >>= head1) ((last, count), rest) e in
    let l = bind_some (maybe_at (codes "none") 32 w.0) head1 ((last, count), rest) w.2 in
    let r = bind_some (behind (codes "rows ") l.0.1) (head2 l.0) ((last, count), rest) l.2 in
    let n = bind_some (count_at 10 r.0) (head3 l.0) ((last, count), rest) r.2 in
    let p = some_pair_parts (l.0.0, n.0.0) (last, count) n.0.1 rest n.2 in
    let first_word = text-behind (codes "last ") bytes w.0 w.1 in
    let first_number = (maybe-was (codes "none") 32 w.0 l.0.0 l.0.1 l.1).spelled in
    let second_word = text-behind (codes "rows ") l.0.1 r.0 r.1 in
    let second_number = count-was 10 r.0 n.0.0 n.0.1 n.1 in
    record {
      spelled =
          first_word
          ∙ ap (λ (t : List ℕ). codes "last " ++ t) (first_number
          ∙ ap (λ (t : List ℕ). time_text l.0.0 ++ 32 ∷ t) (second_word ∙ ap (λ (t : List ℕ). codes "rows " ++ t) second_number))
          ∙ (λ i. codes "last " ++ (time_text ((p.0 i).0) ++ 32 ∷ (codes "rows " ++ (decimal ((p.0 i).1) ++ 10 ∷ p.1 i))));
    }

-- what is known of the cut that was read of a series
record WasCut (version : Version) (least : ℤ) (bytes : List ℕ) (cut : ℤ) (rest : List ℕ) : Type 0 where
  spelled : bytes ≡ cut_words version cut ++ rest
  suits : Suits version least cut

cut-was : (version : Version) (least : ℤ) (bytes : List ℕ) (cut : ℤ) (rest : List ℕ) → own_cut_at version least bytes ≡ Some (cut, rest)
    → WasCut version least bytes cut rest
cut-was First least bytes cut rest e =
    let p = some_pair_parts least cut bytes rest e in
    record { spelled = p.1; suits = sym p.0 }
cut-was Second least bytes cut rest e =
    let w = bind_some (behind (codes "cut ") bytes) (number_at 32) (cut, rest) e in
    let number = (number-was 32 w.0 cut rest w.2).spelled in
    record {
      spelled =
          text-behind (codes "cut ") bytes w.0 w.1
          ∙ ap (λ (t : List ℕ). codes "cut " ++ t) (number ∙ sym (append_assoc (signed_decimal cut) (codes " ") rest));
      suits = tt;
    }

-- what is known of what was read of a series with that cut
record WasUpto (first cut : ℤ) (bytes : List ℕ) (kept : KeptParts) (rest : List ℕ) : Type 0 where
  spelled : bytes ≡ lines_upto kept ++ rest
  is : IsSeries first kept
  same : cut ≡ kept.cut

upto-was : (first cut : ℤ) (bytes : List ℕ) (kept : KeptParts) (rest : List ℕ) → IsCut cut → kept_upto first cut bytes ≡ Some (kept, rest)
    → WasUpto first cut bytes kept rest
upto-was first cut bytes kept rest within e =
    let h = bind_some (series_head bytes) (λ head. times (with_row first cut) head.0.1 ([], head.1) >>= kept_with first cut head.0.0) (kept, rest) e in
    let last = h.0.0.0 in
    let count = h.0.0.1 in
    let r = bind_some (times (with_row first cut) count ([], h.0.1)) (kept_with first cut last) (kept, rest) h.2 in
    let made : KeptParts = record { cut = cut; last_end = last; rows = r.0.0 } in
    let g = guard_some (is_last_end first cut (last_end r.0.0) last) (Some (made, r.0.1)) (kept, rest) r.2 in
    let p = some_pair_parts made kept r.0.1 rest g.1 in
    let rows = rows-were first cut count (neg_ℤ T) [] h.0.1 r.0.0 r.0.1 (λ s low h. low) r.1 in
    let head = (head-was bytes last count h.0.1 h.1).spelled in
    let counted : count ≡ length r.0.0 = rows.counted ∙ ap (λ (l : List Snapshot). length l) (sym rows.joined) in
    let lines : h.0.1 ≡ row_lines r.0.0 ++ r.0.1 = rows.spelled ∙ ap (λ (l : List Snapshot). row_lines l ++ r.0.1) (sym rows.joined) in
    let whole : bytes ≡ lines_upto made ++ r.0.1 =
    head ∙ (λ i. codes "last " ++ (time_text last ++ 32 ∷ (codes "rows " ++ (decimal (counted i) ++ 10 ∷ lines i)))) ∙ sym (series_shape made r.0.1) in
    let is : IsSeries first made = record {
      cut = within;
      in_order = subst (λ (l : List Snapshot). InOrder (neg_ℤ T) T l) (sym rows.joined) rows.order;
      rows = subst (λ (l : List Snapshot). AllByRecursion (IsKept first cut) l) (sym rows.joined) rows.kept;
      last = last_true first cut (last_end r.0.0) last g.0;
    } in
    record {
      spelled = whole ∙ (λ i. lines_upto (p.0 i) ++ p.1 i);
      is = subst (IsSeries first) p.0 is;
      same = ap (λ (k : KeptParts). k.cut) p.0;
    }

module _ (form : Form) where
  abbrev version : Version
  version = form.version

  kept-again : (kept : KeptParts) → IsSeries form.first kept → Suits version form.least kept.cut → length kept.rows < 2 ^ 63 → (rest : List ℕ)
      → kept_at form (series_lines version kept ++ rest) ≡ Some (kept, rest)
  kept-again kept h suits small rest =
      let left = lines_upto kept ++ rest in
      ap (kept_at form) (append_assoc (cut_words version kept.cut) (lines_upto kept) rest)
      ∙ ap (λ o. o >>= kept_after form.first) (cut-again version form.least kept.cut suits h.cut left)
      ∙ ap (λ (t : Bool). if t then kept_upto form.first kept.cut left else None) (true_cut kept.cut h.cut)
      ∙ upto-again form.first kept h small rest

  pub series-again : (series before : List KeptParts) (rest : List ℕ) → AllByRecursion (IsSeries form.first) series
      → AllSuit version form.least series → AllByRecursion (λ kept. length kept.rows < 2 ^ 63) series
      → times (with_kept form) (length series) (before, flat_map (series_lines version) series ++ rest) ≡ Some (before ++ series, rest)
  series-again [] before rest all suit small = ap (λ (b : List KeptParts). Some (b, rest)) (sym (append-nil before))
  series-again (kept ∷ series) before rest all suit small =
      let behind = flat_map (series_lines version) series ++ rest in
      let step = kept-again kept all.0 suit.0 small.0 behind in
      ap (λ (t : List ℕ). times (with_kept form) (suc (length series)) (before, t))
      (append_assoc (series_lines version kept) (flat_map (series_lines version) series) rest)
      ∙ ap (λ o. (o >>= λ k. Some (before ++ k.0 ∷ [], k.1)) >>= times (with_kept form) (length series)) step
      ∙ series-again series (before ++ kept ∷ []) rest all.1 suit.1 small.1
      ∙ ap (λ (b : List KeptParts). Some (b, rest)) (append_assoc before (kept ∷ []) series)

  -- what is known of what was read of one input
  record WasKept (bytes : List ℕ) (kept : KeptParts) (rest : List ℕ) : Type 0 where
    spelled : bytes ≡ series_lines version kept ++ rest
    is : IsSeries form.first kept
    suits : Suits version form.least kept.cut

  kept-was : (bytes : List ℕ) (kept : KeptParts) (rest : List ℕ) → kept_at form bytes ≡ Some (kept, rest) → WasKept bytes kept rest
  kept-was bytes kept rest e =
      let c = bind_some (own_cut_at version form.least bytes) (kept_after form.first) (kept, rest) e in
      let cut = c.0.0 in
      let g = guard_some (is_cut cut) (kept_upto form.first cut c.0.1) (kept, rest) c.2 in
      let words = cut-was version form.least bytes cut c.0.1 c.1 in
      let lines = upto-was form.first cut c.0.1 kept rest (cut_true cut g.0) g.1 in
      let same = lines.same in
      let left = lines.spelled in
      record {
        spelled =
            words.spelled
            ∙ (λ i. cut_words version (same i) ++ left i)
            ∙ sym (append_assoc (cut_words version kept.cut) (lines_upto kept) rest);
        is = lines.is;
        suits = subst (λ (z : ℤ). Suits version form.least z) same words.suits;
      }

  -- what is known of what was read of inputs, after others
  pub record WereKept (count : ℕ) (before : List KeptParts) (bytes : List ℕ) (all : List KeptParts) (rest : List ℕ) : Type 0 where
    pub series : List KeptParts
    pub joined : all ≡ before ++ series
    pub counted : count ≡ length series
    pub spelled : bytes ≡ flat_map (series_lines version) series ++ rest
    pub are : AllByRecursion (IsSeries form.first) series
    pub suit : AllSuit version form.least series

  pub series-were : (count : ℕ) (before : List KeptParts) (bytes : List ℕ) (all : List KeptParts) (rest : List ℕ)
      → times (with_kept form) count (before, bytes) ≡ Some (all, rest) → WereKept count before bytes all rest
  series-were zero before bytes all rest e =
      let p = some_pair_parts before all bytes rest e in
      record {
        series = [];
        joined = sym p.0 ∙ sym (append-nil before);
        counted = refl;
        spelled = p.1;
        are = tt;
        suit = tt;
      }
  series-were (suc count) before bytes all rest e =
      let b = bind_some (with_kept form (before, bytes)) (times (with_kept form) count) (all, rest) e in
      let k = bind_some (kept_at form bytes) (λ kept. Some (before ++ kept.0 ∷ [], kept.1)) b.0 b.1 in
      let kept = k.0.0 in
      let p = some_pair_parts (before ++ kept ∷ []) b.0.0 k.0.1 b.0.1 k.2 in
      let was = kept-was bytes kept k.0.1 k.1 in
      let next = series-were count b.0.0 b.0.1 all rest b.2 in
      record {
        series = kept ∷ next.series;
        joined = next.joined ∙ ap (λ (l : List KeptParts). l ++ next.series) (sym p.0) ∙ append_assoc before (kept ∷ []) next.series;
        counted = ap (λ (n : ℕ). suc n) next.counted;
        spelled = was.spelled ∙ ap (λ (t : List ℕ). series_lines version kept ++ t) (p.1 ∙ next.spelled)
            ∙ sym (append_assoc (series_lines version kept) (flat_map (series_lines version) next.series) rest);
        are = (was.is, next.are);
        suit = (was.suits, next.suit);
      }

-- there are no more rows than bytes

row_some : (r : Snapshot) → 1 ≤ length (row_text r)
row_some r = omega (arith, length-append (signed_decimal r.start ++ codes "," ++ signed_decimal r.end ++ codes "," ++ cell_text r.value) (codes "\n"))

rows_fewer : (rows : List Snapshot) → length rows ≤ length (row_lines rows)
rows_fewer [] = omega arith
rows_fewer (r ∷ rows) = omega (arith, row_some r, rows_fewer rows, length-append (row_text r) (row_lines rows))

series_fewer : (version : Version) (kept : KeptParts) → length kept.rows ≤ length (series_lines version kept)
series_fewer version kept =
    let front = codes "last " ++ time_text kept.last_end ++ codes " rows " ++ decimal (length kept.rows) ++ codes "\n" in
    let is : lines_upto kept ≡ front ++ row_lines kept.rows = simp append_assoc in
    omega (
      arith,
      rows_fewer kept.rows,
      ap (λ (t : List ℕ). length t) is,
      length-append front (row_lines kept.rows),
      length-append (cut_words version kept.cut) (lines_upto kept),
    )

pub all_fewer : (version : Version) (limit : ℕ) (series : List KeptParts) → length (flat_map (series_lines version) series) < limit
    → AllByRecursion (λ kept. length kept.rows < limit) series
all_fewer version limit [] h = tt
all_fewer version limit (kept ∷ series) h =
    let parts = length-append (series_lines version kept) (flat_map (series_lines version) series) in
    (omega (arith, series_fewer version kept), all_fewer version limit series (omega arith))
