-- What is read of a line is its text, and its text is read.
use Rattle.std.proofs.Common.{◌≡◌, ℕ, ◌^◌, ◌<◌, Bool, true, false, ◌&&◌, not, if◌then◌else◌, List, [], ◌∷◌, ◌++◌, Option, Some, None}
use Rattle.std.proofs.Common.{ℤ, neg_ℤ, FitsSigned, refl, sym, ap, ◌∙◌, subst, arith, inl, inr, append-nil, append_assoc}
use Rattle.std.specs.Prelude.{codes, ◌==◌, int_lt, int_le}
use Rattle.std.specs.Fmt.{decimal, signed_decimal}
use Rattle.std.specs.Int.{w64}
use Rattle.std.specs.Str.{bytes_eq}
use Rattle.std.specs.List.{join_with_byte, list_all}
use Rattle.std.proofs.lemmas.Bool.{cases_Bool, and_parts, and_from, not-true}
use Rattle.std.proofs.lemmas.Int.{ints}
use Rattle.std.proofs.lemmas.List.Splits.{join_with_byte-slice_split}
use Rattle.std.proofs.lemmas.Option.{same_Some}
use Rattle.tilt_base.proofs.Comparisons.{lt_true, true_lt, le_true, true_le, bytes_same}
use Rattle.tilt_base.proofs.GridPoints.{IsGrid-tested, tested-IsGrid}
use Rattle.tilt_base.specs.Grid.{GridPoints, IsGrid, is_grid}
use Rattle.tilt_base.specs.Reduce.{reducer_word}
use Rattle.tilt_base.specs.declared.limits.TheConstants.{WIDE}
use Rattle.tilt_base.specs.declared.operator.Op1.{Op1}
use Rattle.tilt_base.specs.declared.operator.Op1.TheVariants as op1
use Rattle.tilt_base.specs.declared.operator.Op2.{Op2}
use Rattle.tilt_base.specs.declared.operator.Op2.TheVariants as op2
use Rattle.tilt_base.specs.declared.reducer.Reducer.{Reducer}
use Rattle.tilt_base.specs.declared.reducer.Reducer.TheVariants as reducer
use Rattle.tilt_base.proofs.Lists.{guard_some}
use Rattle.tilt_text.specs.Step.{◌>>=◌}
use Rattle.tilt_text.proofs.Lacks.{Lacks, lacks-more, lacks-parts, lacks-append, all_lack, decimal_lacks, signed_lacks}
use Rattle.tilt_text.proofs.Step.{bind_some}
use Rattle.tilt_lexer.specs.Word.{goes_on_word, is_word, IsWord, IsName}
use Rattle.tilt_lexer.proofs.Fronts.{word_goes_on}
use Rattle.tilt_code.specs.Grammar.{IsInstr, IsNumber, IsStretch, IsWindow}
use Rattle.tilt_code.specs.Line.{one_word, two_word, buffer_word, register_word, map_word, instr_words, line_words, line_text, spaced}
use Rattle.tilt_code.specs.Reading.{named, word_at, number_at, only, pieces, is_reserved, is_input_name, input_line}
use Rattle.tilt_code.specs.Reading.{is_stretch, grid_of, head_at, title_at, step_at, other_at, whole_line, last_word, line_of}
use Rattle.tilt_code.specs.Reading.{instr_at}
use Rattle.tilt_code.specs.declared.instr.Instr.{Instr}
use Rattle.tilt_code.specs.declared.instr.Instr.TheVariants as instr
use Rattle.tilt_code.specs.declared.line.Line.{Line}
use Rattle.tilt_code.specs.declared.line.Line.TheVariants as line
use Rattle.tilt_code.proofs.Instrs.{Words, choose, pair_is, number_takes, number_again, bounded_fits, offset_fits, instr_takes, instr_again}
use Rattle.tilt_code.proofs.Names.{reserved_true, true_reserved}
use Rattle.tilt_code.proofs.Pieces.{pieces_front, pieces_lone}
use Rattle.tilt_code.proofs.Numbers.{named-decimal, decimal-named}

-- a line whose numbers lie within their bounds, and whose name may be an input's
abbrev pub IsLine : Line → Type 0
IsLine line.Title = Unit {0}
IsLine (line.Input name) = IsName name
IsLine (line.Head lo hi grid) = IsStretch lo hi × IsGrid grid
IsLine line.Map = Unit {0}
IsLine (line.Step register i) = IsNumber register × IsInstr i
IsLine line.End = Unit {0}

-- tests

input_name_true : (name : List ℕ) → is_input_name name ≡ true → IsName name
input_name_true name h =
    let p = and_parts (is_word name) (not (is_reserved name)) h in
    (p.0, λ r. let wrong = true_reserved name r in cc (p.1, wrong))

true_input_name : (name : List ℕ) → IsName name → is_input_name name ≡ true
true_input_name name h =
    elim (cases_Bool (is_reserved name)) [
      | inl holds ↦ absurd (h.1 (reserved_true name holds))
      | inr other ↦ rw (h.0, other) refl
    ]

stretch_true : (lo hi : ℤ) → is_stretch lo hi ≡ true → IsStretch lo hi
stretch_true lo hi h =
    let p = and_parts (int_le (neg_ℤ WIDE) lo && int_lt lo hi) (int_le hi WIDE) h in
    let q = and_parts (int_le (neg_ℤ WIDE) lo) (int_lt lo hi) p.0 in
    record { low = le_true (neg_ℤ WIDE) lo q.0; some_ticks = lt_true lo hi q.1; high = le_true hi WIDE p.1 }

true_stretch : (lo hi : ℤ) → IsStretch lo hi → is_stretch lo hi ≡ true
true_stretch lo hi h =
    and_from (int_le (neg_ℤ WIDE) lo && int_lt lo hi) (int_le hi WIDE)
    (and_from (int_le (neg_ℤ WIDE) lo) (int_lt lo hi) (true_le (neg_ℤ WIDE) lo h.low) (true_lt lo hi h.some_ticks)) (true_le hi WIDE h.high)

stretch_fits : (lo hi : ℤ) → IsStretch lo hi → FitsSigned w64 lo × FitsSigned w64 hi
stretch_fits lo hi h =
    let low = h.low in
    let between = h.some_ticks in
    let high = h.high in
    (bounded_fits lo (omega (arith, ints)) (omega (arith, ints)), bounded_fits hi (omega (arith, ints)) (omega (arith, ints)))

grid_fits : (grid : GridPoints) → IsGrid grid → FitsSigned w64 grid.period × FitsSigned w64 grid.offset
grid_fits grid h =
    let a = h.period_low in
    let b = h.period_high in
    let c = h.offset_low in
    let d = h.offset_high in
    (bounded_fits grid.period (omega (arith, ints)) (omega (arith, ints)), bounded_fits grid.offset (omega (arith, ints)) (omega (arith, ints)))

-- the words of a line, the first of which is given
record SpellsLine (first : List ℕ) (words : Words) (l : Line) (rest : Words) : Type 0 where
  parts : first ∷ words ≡ line_words l ++ rest
  within : IsLine l

spells_line : (first : List ℕ) (words : Words) (k l : Line) (r rest : Words) → ◌≡◌ {A = Option (Line × Words)} (Some (k, r)) (Some (l, rest)) → first ∷ words
    ≡ line_words k ++ r → IsLine k → SpellsLine first words l rest
spells_line first words k l r rest e parts within =
    let p = pair_is k l r rest e in
    record { parts = parts ∙ (λ j. line_words (p.0 j) ++ p.1 j); within = subst IsLine p.0 within }

spells_first : (first word : List ℕ) (words : Words) (l : Line) (rest : Words) → bytes_eq first word ≡ true → SpellsLine word words l rest → SpellsLine first words l rest
spells_first first word words l rest is s =
    record { parts = ap (λ (f : List ℕ). f ∷ words) (bytes_same first word is) ∙ s.parts; within = s.within }

title_takes : (words : Words) (l : Line) (rest : Words) → title_at words ≡ Some (l, rest) → SpellsLine (codes "tilt") words l rest
title_takes [] l rest e = absurd (cc e)
title_takes (w ∷ ws) l rest e =
    let g = guard_some (bytes_eq w (codes "1")) (Some (line.Title, ws)) (l, rest) e in
    spells_line (codes "tilt") (w ∷ ws) line.Title l ws rest g.1 (ap (λ (v : List ℕ). codes "tilt" ∷ v ∷ ws) (bytes_same w (codes "1") g.0)) tt

abbrev head5 : ℤ × Words → ℤ × Words → ℤ × Words → ℤ × Words → GridPoints → Option (Line × Words)
head5 lo hi p o grid = if is_stretch lo.0 hi.0 then Some (line.Head lo.0 hi.0 grid, o.1) else None

abbrev head4 : ℤ × Words → ℤ × Words → ℤ × Words → ℤ × Words → Option (Line × Words)
head4 lo hi p o = grid_of p.0 o.0 >>= head5 lo hi p o

abbrev head3 : ℤ × Words → ℤ × Words → ℤ × Words → Option (Line × Words)
head3 lo hi p = number_at p.1 >>= head4 lo hi p

abbrev head2 : ℤ × Words → ℤ × Words → Option (Line × Words)
head2 lo hi = number_at hi.1 >>= head3 lo hi

abbrev head1 : ℤ × Words → Option (Line × Words)
head1 lo = number_at lo.1 >>= head2 lo

head_takes : (words : Words) (l : Line) (rest : Words) → head_at words ≡ Some (l, rest) → SpellsLine (codes "loop") words l rest
head_takes words l rest e =
    let lo = bind_some (number_at words) head1 (l, rest) e in
    let hi = bind_some (number_at lo.0.1) (head2 lo.0) (l, rest) lo.2 in
    let p = bind_some (number_at hi.0.1) (head3 lo.0 hi.0) (l, rest) hi.2 in
    let o = bind_some (number_at p.0.1) (head4 lo.0 hi.0 p.0) (l, rest) p.2 in
    let grid = bind_some (grid_of p.0.0 o.0.0) (head5 lo.0 hi.0 p.0 o.0) (l, rest) o.2 in
    let made = guard_some (is_grid (record { period = p.0.0; offset = o.0.0 })) (Some (record { period = p.0.0; offset = o.0.0 })) grid.0 grid.1 in
    let same = same_Some (record { period = p.0.0; offset = o.0.0 }) grid.0 made.1 in
    let g = guard_some (is_stretch lo.0.0 hi.0.0) (Some (line.Head lo.0.0 hi.0.0 grid.0, o.0.1)) (l, rest) grid.2 in
    let los = number_takes words lo.0.0 lo.0.1 lo.1 in
    let his = number_takes lo.0.1 hi.0.0 hi.0.1 hi.1 in
    let ps = number_takes hi.0.1 p.0.0 p.0.1 p.1 in
    let os = number_takes p.0.1 o.0.0 o.0.1 o.1 in
    let is-grid = tested-IsGrid (record { period = p.0.0; offset = o.0.0 }) made.0 in
    let parts = los.0 ∙ ap (λ (ws : Words). signed_decimal lo.0.0 ∷ ws) (his.0 ∙ ap (λ (ws : Words). signed_decimal hi.0.0 ∷ ws) (ps.0 ∙ ap (λ (ws : Words). signed_decimal p.0.0 ∷ ws) os.0)) in
    spells_line (codes "loop") words (line.Head lo.0.0 hi.0.0 grid.0) l o.0.1 rest g.1
    (ap (λ (ws : Words). codes "loop" ∷ ws) parts ∙ ap (λ (k : GridPoints). line_words (line.Head lo.0.0 hi.0.0 k) ++ o.0.1) same) (stretch_true lo.0.0 hi.0.0 g.0, subst IsGrid same is-grid)

abbrev step3 : ℕ → List ℕ × Words → Instr × Words → Option (Line × Words)
step3 register sign i = if bytes_eq sign.0 (codes "=") then Some (line.Step register i.0, i.1) else None

abbrev step2 : ℕ → List ℕ × Words → Option (Line × Words)
step2 register sign = instr_at sign.1 >>= step3 register sign

abbrev step1 : Words → ℕ → Option (Line × Words)
step1 words register = word_at words >>= step2 register

step_behind : (first : List ℕ) (words : Words) (l : Line) (rest : Words) (register : ℕ) → (first ≡ 114 ∷ decimal register) × (register < 2 ^ 32)
    → step1 words register ≡ Some (l, rest) → SpellsLine first words l rest
step_behind first [] l rest register s e = absurd (cc e)
step_behind first (w ∷ ws) l rest register s e =
    let i = bind_some (instr_at ws) (step3 register (w, ws)) (l, rest) e in
    let g = guard_some (bytes_eq w (codes "=")) (Some (line.Step register i.0.0, i.0.1)) (l, rest) i.2 in
    let is = instr_takes ws i.0.0 i.0.1 i.1 in
    spells_line first (w ∷ ws) (line.Step register i.0.0) l i.0.1 rest g.1 (λ j. s.0 j ∷ bytes_same w (codes "=") g.0 j ∷ is.0 j) (s.1, is.1)

step_takes : (first : List ℕ) (words : Words) (l : Line) (rest : Words) → step_at first words ≡ Some (l, rest) → SpellsLine first words l rest
step_takes first words l rest e =
    let r = bind_some (named 114 first) (step1 words) (l, rest) e in
    step_behind first words l rest r.0 (decimal-named 114 first r.0 r.1) r.2

other_takes : (first : List ℕ) (words : Words) (l : Line) (rest : Words) → other_at first words ≡ Some (l, rest) → SpellsLine first words l rest
other_takes first words l rest e =
    elim (choose (bytes_eq first (codes "tilt")) (title_at words) _ (l, rest) e) [
      | inl y ↦ spells_first first (codes "tilt") words l rest y.0 (title_takes words l rest y.1)
      | inr n1 ↦ elim (choose (bytes_eq first (codes "loop")) (head_at words) _ (l, rest) n1.1) [
        | inl y ↦ spells_first first (codes "loop") words l rest y.0 (head_takes words l rest y.1)
        | inr n2 ↦ elim (choose (bytes_eq first (codes "map")) (Some (line.Map, words)) _ (l, rest) n2.1) [
          | inl y ↦ spells_first first (codes "map") words l rest y.0 (spells_line (codes "map") words line.Map l words rest y.1 refl tt)
          | inr n3 ↦ elim (choose (bytes_eq first (codes "end")) (Some (line.End, words)) (step_at first words) (l, rest) n3.1) [
            | inl y ↦ spells_first first (codes "end") words l rest y.0 (spells_line (codes "end") words line.End l words rest y.1 refl tt)
            | inr n4 ↦ step_takes first words l rest n4.1
          ]
        ]
      ]
    ]

-- no words are left
only_takes : {A : Type 0} (p : A × Words) (x : A) → only p ≡ Some x → p ≡ (x, [])
only_takes {A = A} (y, []) x e = ap (λ (z : A). (z, [])) (same_Some y x e)
only_takes (y, w ∷ ws) x e = absurd (cc e)

word_takes : (words : Words) (p : List ℕ × Words) → word_at words ≡ Some p → words ≡ p.0 ∷ p.1
word_takes [] p e = absurd (cc e)
word_takes (w ∷ ws) p e = let same = same_Some (w, ws) p e in λ i. (same i).0 ∷ (same i).1

input_takes : (words : Words) (l : Line) → last_word words >>= input_line ≡ Some l → (codes "input" ∷ words ≡ line_words l) × IsLine l
input_takes words l e =
    let name = bind_some (last_word words) input_line l e in
    let p = bind_some (word_at words) only name.0 name.1 in
    let whole : words ≡ name.0 ∷ [] = word_takes words p.0 p.1 ∙ ap (λ (q : List ℕ × Words). q.0 ∷ q.1) (only_takes p.0 name.0 p.2) in
    let g = guard_some (is_input_name name.0) (Some (line.Input name.0)) l name.2 in
    let same = same_Some (line.Input name.0) l g.1 in
    (ap (λ (ws : Words). codes "input" ∷ ws) whole ∙ ap line_words same, subst IsLine same (input_name_true name.0 g.0))

whole_takes : (first : List ℕ) (words : Words) (l : Line) → whole_line first words ≡ Some l → (first ∷ words ≡ line_words l) × IsLine l
whole_takes first words l e =
    let p = bind_some (other_at first words) only l e in
    let s = other_takes first words p.0.0 p.0.1 p.1 in
    let same = only_takes p.0 l p.2 in
    (s.parts ∙ ap (λ (q : Line × Words). line_words q.0 ++ q.1) same ∙ append-nil (line_words l), subst (λ (q : Line × Words). IsLine q.0) same s.within)

-- what is read of words is their line
words_takes : (words : Words) (l : Line) → line_of words ≡ Some l → (words ≡ line_words l) × IsLine l
words_takes [] l e = absurd (cc e)
words_takes (first ∷ words) l e =
    elim (choose (bytes_eq first (codes "input")) (last_word words >>= input_line) (whole_line first words) l e) [
      | inl y ↦
          let s = input_takes words l y.1 in
          (ap (λ (f : List ℕ). f ∷ words) (bytes_same first (codes "input") y.0) ∙ s.0, s.1)
      | inr n ↦ whole_takes first words l n.1
    ]

head_again : (lo hi : ℤ) (grid : GridPoints) → IsStretch lo hi → IsGrid grid
    → head_at (signed_decimal lo ∷ signed_decimal hi ∷ signed_decimal grid.period ∷ signed_decimal grid.offset ∷ []) ≡ Some (line.Head lo hi grid, [])
head_again lo hi grid s g =
    let ends = stretch_fits lo hi s in
    let points = grid_fits grid g in
    let rest3 = signed_decimal grid.offset ∷ [] in
    let rest2 = signed_decimal grid.period ∷ rest3 in
    let rest1 = signed_decimal hi ∷ rest2 in
    ap (λ (o : Option (ℤ × Words)). o >>= head1) (number_again lo rest1 ends.0)
    ∙ ap (λ (o : Option (ℤ × Words)). o >>= head2 (lo, rest1)) (number_again hi rest2 ends.1)
    ∙ ap (λ (o : Option (ℤ × Words)). o >>= head3 (lo, rest1) (hi, rest2)) (number_again grid.period rest3 points.0)
    ∙ ap (λ (o : Option (ℤ × Words)). o >>= head4 (lo, rest1) (hi, rest2) (grid.period, rest3)) (number_again grid.offset [] points.1)
    ∙ ap (λ (t : Bool). (if t then Some grid else None) >>= head5 (lo, rest1) (hi, rest2) (grid.period, rest3) (grid.offset, [])) (IsGrid-tested grid g)
    ∙ ap (λ (t : Bool). if t then Some (line.Head lo hi grid, []) else None) (true_stretch lo hi s)

-- and its words are read
words_again : (l : Line) → IsLine l → line_of (line_words l) ≡ Some l
words_again line.Title h = refl
words_again (line.Input name) h = ap (λ (t : Bool). if t then Some (line.Input name) else None) (true_input_name name h)
words_again (line.Head lo hi grid) h = ap (λ (o : Option (Line × Words)). o >>= only) (head_again lo hi grid h.0 h.1)
words_again line.Map h = refl
words_again (line.Step register i) h =
    ap (λ (o : Option ℕ). (o >>= step1 (codes "=" ∷ instr_words i)) >>= only) (named-decimal 114 register h.0)
    ∙ ap (λ (o : Option (Instr × Words)). (o >>= step3 register (codes "=", instr_words i)) >>= only) (instr_again i h.1)
words_again line.End h = refl

-- bytes other than a blank and LF

abbrev is_plain : ℕ → Bool
is_plain b = not (b == 32) && not (b == 10)

abbrev Plain : List ℕ → Type 0
Plain bytes = list_all is_plain bytes ≡ true

abbrev AllPlain : Words → Type 0
AllPlain words = list_all (list_all is_plain) words ≡ true

plain_byte : (b : ℕ) → (b == 32) ≡ false → (b == 10) ≡ false → is_plain b ≡ true
plain_byte b p q = rw (p, q) refl

plain_from : (bs : List ℕ) → Lacks 32 bs → Lacks 10 bs → Plain bs
plain_from [] p q = refl
plain_from (b ∷ bs) p q =
    let blank = lacks-parts 32 b bs p in
    let end = lacks-parts 10 b bs q in
    and_from (is_plain b) (list_all is_plain bs) (plain_byte b blank.0 end.0) (plain_from bs blank.1 end.1)

plain_word : (name : List ℕ) → IsWord name → Plain name
plain_word name h =
    let all = word_goes_on name h in
    plain_from name (all_lack 32 goes_on_word refl name all) (all_lack 10 goes_on_word refl name all)

plain_decimal : (n : ℕ) → n < 2 ^ 64 → Plain (decimal n)
plain_decimal n small = plain_from (decimal n) (decimal_lacks 32 (omega arith) n small) (decimal_lacks 10 (omega arith) n small)

plain_signed : (z : ℤ) → FitsSigned w64 z → Plain (signed_decimal z)
plain_signed z h = plain_from (signed_decimal z) (signed_lacks 32 (omega arith) z h) (signed_lacks 10 (omega arith) z h)

plain_reducer : (r : Reducer) → Plain (reducer_word r)
plain_reducer r = elim r as (λ q. Plain (reducer_word q)) [ reducer.Sum ↦ refl | _ ↦ refl ]

plain_one : (op : Op1) → Plain (one_word op)
plain_one op1.Neg = refl
plain_one op1.Not = refl
plain_one op1.IsNull = refl

plain_two : (op : Op2) → Plain (two_word op)
plain_two op2.Add = refl
plain_two op2.Sub = refl
plain_two op2.Mul = refl
plain_two op2.Div = refl
plain_two op2.Rem = refl
plain_two op2.Eq = refl
plain_two op2.Ne = refl
plain_two op2.Lt = refl
plain_two op2.Le = refl
plain_two op2.Gt = refl
plain_two op2.Ge = refl
plain_two op2.And = refl
plain_two op2.Or = refl
plain_two op2.When = refl
plain_two op2.IfNull = refl

plain_then : (w : List ℕ) (ws : Words) → Plain w → AllPlain ws → AllPlain (w ∷ ws)
plain_then w ws p q = and_from (list_all is_plain w) (list_all (list_all is_plain) ws) p q

number_then : (n : ℕ) (ws : Words) → n < 2 ^ 32 → AllPlain ws → AllPlain (decimal n ∷ ws)
number_then n ws small q = plain_then (decimal n) ws (plain_decimal n (omega arith)) q

win_plain : (r : Reducer) (b : ℕ) (f t : ℤ) (ws : Words) → IsWindow b f t → AllPlain ws → AllPlain (reducer_word r ∷ buffer_word b ∷ signed_decimal f ∷ signed_decimal t ∷ ws)
win_plain r b f t ws w q =
    plain_then (reducer_word r) (buffer_word b ∷ signed_decimal f ∷ signed_decimal t ∷ ws) (plain_reducer r)
    (number_then b (signed_decimal f ∷ signed_decimal t ∷ ws) w.number
    (plain_then (signed_decimal f) (signed_decimal t ∷ ws) (plain_signed f (offset_fits f w.low)) (plain_then (signed_decimal t) ws (plain_signed t (offset_fits t w.high)) q)))

instr_plain : (i : Instr) → IsInstr i → AllPlain (instr_words i)
instr_plain (instr.Const n) h = plain_then (signed_decimal n) [] (plain_signed n h) refl
instr_plain instr.Null h = refl
instr_plain instr.Argument h = refl
instr_plain (instr.Port b d) h = number_then b (signed_decimal d ∷ []) h.0 (plain_then (signed_decimal d) [] (plain_signed d (offset_fits d h.1)) refl)
instr_plain (instr.Win r b f t None) h = win_plain r b f t [] h refl
instr_plain (instr.Win r b f t (Some m)) h = win_plain r b f t (map_word m ∷ []) h.0 (number_then m [] h.1 refl)
instr_plain (instr.One op a) h = plain_then (one_word op) (register_word a ∷ []) (plain_one op) (number_then a [] h refl)
instr_plain (instr.Two op a b) h = plain_then (two_word op) (register_word a ∷ register_word b ∷ []) (plain_two op) (number_then a (register_word b ∷ []) h.0 (number_then b [] h.1 refl))
instr_plain (instr.If c a b) h = number_then c (register_word a ∷ register_word b ∷ []) h.0 (number_then a (register_word b ∷ []) h.1 (number_then b [] h.2 refl))

line_plain : (l : Line) → IsLine l → AllPlain (line_words l)
line_plain line.Title h = refl
line_plain (line.Input name) h = plain_then name [] (plain_word name h.0) refl
line_plain (line.Head lo hi grid) h =
    let ends = stretch_fits lo hi h.0 in
    let points = grid_fits grid h.1 in
    plain_then (signed_decimal lo) (signed_decimal hi ∷ signed_decimal grid.period ∷ signed_decimal grid.offset ∷ []) (plain_signed lo ends.0)
    (plain_then (signed_decimal hi) (signed_decimal grid.period ∷ signed_decimal grid.offset ∷ []) (plain_signed hi ends.1)
    (plain_then (signed_decimal grid.period) (signed_decimal grid.offset ∷ []) (plain_signed grid.period points.0)
    (plain_then (signed_decimal grid.offset) [] (plain_signed grid.offset points.1) refl)))
line_plain line.Map h = refl
line_plain (line.Step register i) h = number_then register (codes "=" ∷ instr_words i) h.0 (instr_plain i h.1)
line_plain line.End h = refl

-- the text of a line

plain_lacks : (bs : List ℕ) → Plain bs → Lacks 32 bs × Lacks 10 bs
plain_lacks [] h = (refl, refl)
plain_lacks (b ∷ bs) h =
    let p = and_parts (is_plain b) (list_all is_plain bs) h in
    let q = and_parts (not (b == 32)) (not (b == 10)) p.0 in
    let rest = plain_lacks bs p.1 in
    (lacks-more 32 b bs (not-true (b == 32) q.0) rest.0, lacks-more 10 b bs (not-true (b == 10) q.1) rest.1)

spaced_joined : (ws : Words) → spaced ws ≡ join_with_byte 32 ws
spaced_joined [] = refl
spaced_joined (w ∷ []) = refl
spaced_joined (w ∷ v ∷ ws) = append_assoc w (codes " ") (spaced (v ∷ ws)) ∙ ap (λ (t : List ℕ). w ++ 32 ∷ t) (spaced_joined (v ∷ ws))

-- pieces with blanks between them are the bytes
spaced_pieces : (bytes : List ℕ) → spaced (pieces 32 bytes) ≡ bytes
spaced_pieces bytes = spaced_joined (pieces 32 bytes) ∙ join_with_byte-slice_split 32 bytes

-- words with blanks between them are cut into those words
pieces_spaced : (w : List ℕ) (ws : Words) → AllPlain (w ∷ ws) → pieces 32 (spaced (w ∷ ws)) ≡ w ∷ ws
pieces_spaced w [] h = pieces_lone 32 w (plain_lacks w (and_parts (list_all is_plain w) true h).0).0
pieces_spaced w (v ∷ ws) h =
    let p = and_parts (list_all is_plain w) (list_all (list_all is_plain) (v ∷ ws)) h in
    ap (pieces 32) (append_assoc w (codes " ") (spaced (v ∷ ws))) ∙ pieces_front 32 w (spaced (v ∷ ws)) (plain_lacks w p.0).0 ∙ ap (λ (l : Words). w ∷ l) (pieces_spaced v ws p.1)

spaced_lacks : (ws : Words) → AllPlain ws → Lacks 10 (spaced ws)
spaced_lacks [] h = refl
spaced_lacks (w ∷ []) h = (plain_lacks w (and_parts (list_all is_plain w) true h).0).1
spaced_lacks (w ∷ v ∷ ws) h =
    let p = and_parts (list_all is_plain w) (list_all (list_all is_plain) (v ∷ ws)) h in
    lacks-append 10 (w ++ codes " ") (spaced (v ∷ ws)) (lacks-append 10 w (codes " ") (plain_lacks w p.0).1 refl) (spaced_lacks (v ∷ ws) p.1)

line_pieces : (l : Line) → AllPlain (line_words l) → pieces 32 (line_text l) ≡ line_words l
line_pieces line.Title h = refl
line_pieces (line.Input name) h = pieces_spaced (codes "input") (name ∷ []) h
line_pieces (line.Head lo hi grid) h = pieces_spaced (codes "loop") (signed_decimal lo ∷ signed_decimal hi ∷ signed_decimal grid.period ∷ signed_decimal grid.offset ∷ []) h
line_pieces line.Map h = refl
line_pieces (line.Step register i) h = pieces_spaced (register_word register) (codes "=" ∷ instr_words i) h
line_pieces line.End h = refl

-- what is read of a text is the line that it is the text of
pub text_takes : (text : List ℕ) (l : Line) → line_of (pieces 32 text) ≡ Some l → (text ≡ line_text l) × IsLine l
text_takes text l e =
    let s = words_takes (pieces 32 text) l e in
    (sym (spaced_pieces text) ∙ ap spaced s.0, s.1)

-- and the text of a line is read
pub text_again : (l : Line) → IsLine l → line_of (pieces 32 (line_text l)) ≡ Some l
text_again l h = ap line_of (line_pieces l (line_plain l h)) ∙ words_again l h

-- the text of a line has no LF within
pub text_lacks : (l : Line) → IsLine l → Lacks 10 (line_text l)
text_lacks l h = spaced_lacks (line_words l) (line_plain l h)
