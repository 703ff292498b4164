-- What is read of an instruction is its words, and its words are read.
use Rattle.std.proofs.Common.{◌≡◌, ℕ, ◌^◌, ◌<◌, Bool, true, false, if◌then◌else◌, List, [], ◌∷◌, ◌++◌, Option, Some, None, ℤ}
use Rattle.std.proofs.Common.{pos, negsuc, neg_ℤ, ◌≤ℤ◌, FitsSigned, refl, sym, ap, ◌∙◌, subst, arith, inl, inr, ◌⊎◌}
use Rattle.std.specs.Prelude.{codes, int_lt, int_le}
use Rattle.std.specs.Fmt.{decimal, signed_decimal}
use Rattle.std.specs.Int.{w64}
use Rattle.std.specs.List.{find}
use Rattle.std.specs.Str.{bytes_eq}
use Rattle.std.proofs.lemmas.Bool.{and_parts}
use Rattle.std.proofs.lemmas.Int.{ints}
use Rattle.std.proofs.lemmas.Option.{some_pair_parts}
use Rattle.tilt_base.proofs.Comparisons.{lt_true, true_lt, bytes_same}
use Rattle.tilt_base.specs.Offset.{IsOffset}
use Rattle.tilt_base.specs.Reduce.{reducer_with, reducer_word}
use Rattle.tilt_base.specs.declared.limits.TheConstants.{OFFSET}
use Rattle.tilt_base.specs.declared.operator.Op1.{Op1}
use Rattle.tilt_base.specs.declared.operator.Op1.TheVariants as op1
use Rattle.tilt_base.specs.declared.operator.Op2.{Op2}
use Rattle.tilt_base.specs.declared.operator.Op2.TheVariants as op2
use Rattle.tilt_base.specs.declared.reducer.Reducer.{Reducer}
use Rattle.tilt_base.proofs.Lists.{guard_some}
use Rattle.tilt_base.proofs.Reducers.{found_passes, reducer_found, reducer_with-word}
use Rattle.tilt_text.specs.Step.{◌>>=◌}
use Rattle.tilt_text.specs.Spelled.{shortest}
use Rattle.tilt_text.proofs.Step.{bind_some}
use Rattle.tilt_text.proofs.Numbers.{shortest-signed, signed-shortest}
use Rattle.tilt_code.specs.Grammar.{IsInstr, IsNumber, IsWindow}
use Rattle.tilt_code.specs.Line.{one_word, two_word, buffer_word, register_word, map_word, instr_words}
use Rattle.tilt_code.specs.Reading.{named, number_at, named_at, is_offset, offset_at, reducer_at, map_at, const_at, port_at, win_at, if_at, two_at, one_at, form_at, instr_at}
use Rattle.tilt_code.specs.declared.instr.Instr.{Instr}
use Rattle.tilt_code.specs.declared.instr.Instr.TheVariants as instr
use Rattle.tilt_code.specs.declared.word.TheConstants.{ONES, TWOS}
use Rattle.tilt_code.proofs.Numbers.{named-decimal, decimal-named}

abbrev pub Words : Type 0
Words = List (List ℕ)

-- a value and the rest, of two equal results
pub pair_is : {A : Type 0} (x y : A) (r s : Words) → ◌≡◌ {A = Option (A × Words)} (Some (x, r)) (Some (y, s)) → (x ≡ y) × (r ≡ s)
pair_is x y r s e = some_pair_parts x y r s e

-- numbers

pub number_takes : (words : Words) (z : ℤ) (rest : Words) → number_at words ≡ Some (z, rest) → (words ≡ signed_decimal z ∷ rest) × FitsSigned w64 z
number_takes [] z rest e = absurd (cc e)
number_takes (w ∷ ws) z rest e =
    let b = bind_some (shortest w) (λ n. Some (n, ws)) (z, rest) e in
    let p = pair_is b.0 z ws rest b.2 in
    let s = signed-shortest w b.0 b.1 in
    (λ i. (s.0 ∙ ap signed_decimal p.0) i ∷ p.1 i, subst (FitsSigned w64) p.0 s.1)

pub number_again : (z : ℤ) (rest : Words) → FitsSigned w64 z → number_at (signed_decimal z ∷ rest) ≡ Some (z, rest)
number_again z rest fits = ap (λ (o : Option ℤ). o >>= λ n. Some (n, rest)) (shortest-signed z fits)

named_takes : (letter : ℕ) (words : Words) (n : ℕ) (rest : Words) → named_at letter words ≡ Some (n, rest) → (words ≡ (letter ∷ decimal n) ∷ rest) × (n < 2 ^ 32)
named_takes letter [] n rest e = absurd (cc e)
named_takes letter (w ∷ ws) n rest e =
    let b = bind_some (named letter w) (λ n. Some (n, ws)) (n, rest) e in
    let p = pair_is b.0 n ws rest b.2 in
    let s = decimal-named letter w b.0 b.1 in
    (λ i. (s.0 ∙ ap (λ (m : ℕ). letter ∷ decimal m) p.0) i ∷ p.1 i, subst (λ (m : ℕ). m < 2 ^ 32) p.0 s.1)

named_again : (letter n : ℕ) (rest : Words) → n < 2 ^ 32 → named_at letter ((letter ∷ decimal n) ∷ rest) ≡ Some (n, rest)
named_again letter n rest small = ap (λ (o : Option ℕ). o >>= λ n. Some (n, rest)) (named-decimal letter n small)

is_offset_true : (z : ℤ) → is_offset z ≡ true → IsOffset z
is_offset_true z h = let p = and_parts (int_le (neg_ℤ OFFSET) z) (int_le z OFFSET) h in (omega (arith, ints, p.0), omega (arith, ints, p.1))

true_is_offset : (z : ℤ) → IsOffset z → is_offset z ≡ true
true_is_offset z h = grind (arith, ints, h.0, h.1)

-- numbers well within 64 bits
pub bounded_fits : (z : ℤ) → negsuc 4999999999999999999 ≤ℤ z → z ≤ℤ pos 5000000000000000000 → FitsSigned w64 z
bounded_fits (pos n) low high = record { sfits = omega (arith, ints) }
bounded_fits (negsuc n) low high = record { sfits = omega (arith, ints) }

pub offset_fits : (z : ℤ) → IsOffset z → FitsSigned w64 z
offset_fits z h = bounded_fits z (omega (arith, ints, h.0)) (omega (arith, ints, h.1))

offset_takes : (words : Words) (z : ℤ) (rest : Words) → offset_at words ≡ Some (z, rest) → (words ≡ signed_decimal z ∷ rest) × IsOffset z
offset_takes words z rest e =
    let b = bind_some (number_at words) (λ n. if is_offset n.0 then Some n else None) (z, rest) e in
    let g = guard_some (is_offset b.0.0) (Some b.0) (z, rest) b.2 in
    let p = pair_is b.0.0 z b.0.1 rest g.1 in
    let s = number_takes words b.0.0 b.0.1 b.1 in
    (s.0 ∙ (λ i. signed_decimal (p.0 i) ∷ p.1 i), subst IsOffset p.0 (is_offset_true b.0.0 g.0))

offset_again : (z : ℤ) (rest : Words) → IsOffset z → offset_at (signed_decimal z ∷ rest) ≡ Some (z, rest)
offset_again z rest h =
    ap (λ (o : Option (ℤ × Words)). o >>= λ n. if is_offset n.0 then Some n else None) (number_again z rest (offset_fits z h))
    ∙ ap (λ (t : Bool). if t then Some (z, rest) else None) (true_is_offset z h)

-- reducers and operators

reducer_takes : (words : Words) (r : Reducer) (rest : Words) → reducer_at words ≡ Some (r, rest) → words ≡ reducer_word r ∷ rest
reducer_takes [] r rest e = absurd (cc e)
reducer_takes (w ∷ ws) r rest e =
    let b = bind_some (reducer_with w) (λ q. Some (q, ws)) (r, rest) e in
    let p = pair_is b.0 r ws rest b.2 in
    let same = reducer_found w b.0 b.1 in
    λ i. (sym same ∙ ap reducer_word p.0) i ∷ p.1 i

reducer_again : (r : Reducer) (rest : Words) → reducer_at (reducer_word r ∷ rest) ≡ Some (r, rest)
reducer_again r rest = ap (λ (found : Option Reducer). found >>= λ q. Some (q, rest)) (reducer_with-word r)

two_found : (op : Op2) → find (λ o. bytes_eq (two_word o) (two_word op)) TWOS ≡ Some op
two_found op2.Add = refl
two_found op2.Sub = refl
two_found op2.Mul = refl
two_found op2.Div = refl
two_found op2.Rem = refl
two_found op2.Eq = refl
two_found op2.Ne = refl
two_found op2.Lt = refl
two_found op2.Le = refl
two_found op2.Gt = refl
two_found op2.Ge = refl
two_found op2.And = refl
two_found op2.Or = refl
two_found op2.When = refl
two_found op2.IfNull = refl

-- no form but an operator on two registers has its word
form_two : (op : Op2) (words : Words) → form_at (two_word op) words ≡ two_at (two_word op) words
form_two op2.Add words = refl
form_two op2.Sub words = refl
form_two op2.Mul words = refl
form_two op2.Div words = refl
form_two op2.Rem words = refl
form_two op2.Eq words = refl
form_two op2.Ne words = refl
form_two op2.Lt words = refl
form_two op2.Le words = refl
form_two op2.Gt words = refl
form_two op2.Ge words = refl
form_two op2.And words = refl
form_two op2.Or words = refl
form_two op2.When words = refl
form_two op2.IfNull words = refl

form_one : (op : Op1) (words : Words) → form_at (one_word op) words ≡ one_at (Some op) (one_word op) words
form_one op1.Neg words = refl
form_one op1.Not words = refl
form_one op1.IsNull words = refl

-- the word of a window's map
abbrev map_part : Option ℕ → Words
map_part None = []
map_part (Some map) = map_word map ∷ []

abbrev IsMap : Option ℕ → Type 0
IsMap None = Unit {0}
IsMap (Some map) = IsNumber map

map_takes : (words : Words) (m : Option ℕ) (rest : Words) → map_at words ≡ Some (m, rest) → (words ≡ map_part m ++ rest) × IsMap m
map_takes [] m rest e =
    let p = pair_is None m [] rest e in
    (λ i. map_part (p.0 i) ++ p.1 i, subst IsMap p.0 tt)
map_takes (w ∷ ws) m rest e =
    let b = bind_some (named_at 109 (w ∷ ws)) (λ n. Some (Some n.0, n.1)) (m, rest) e in
    let p = pair_is (Some b.0.0) m b.0.1 rest b.2 in
    let s = named_takes 109 (w ∷ ws) b.0.0 b.0.1 b.1 in
    (s.0 ∙ (λ i. map_part (p.0 i) ++ p.1 i), subst IsMap p.0 s.1)

map_again : (m : Option ℕ) → IsMap m → map_at (map_part m) ≡ Some (m, [])
map_again None h = refl
map_again (Some n) h = ap (λ (o : Option (ℕ × Words)). o >>= λ k. Some (Some k.0, k.1)) (named_again 109 n [] h)

-- forms

-- the words of an instruction, the first of which is its form
record Spells (form : List ℕ) (words : Words) (i : Instr) (rest : Words) : Type 0 where
  parts : form ∷ words ≡ instr_words i ++ rest
  within : IsInstr i

spells_at : (form : List ℕ) (words : Words) (j i : Instr) (r rest : Words) → ◌≡◌ {A = Option (Instr × Words)} (Some (j, r)) (Some (i, rest)) → form ∷ words
    ≡ instr_words j ++ r → IsInstr j → Spells form words i rest
spells_at form words j i r rest e parts within =
    let p = pair_is j i r rest e in
    record { parts = parts ∙ (λ k. instr_words (p.0 k) ++ p.1 k); within = subst IsInstr p.0 within }

spells_form : (form word : List ℕ) (words : Words) (i : Instr) (rest : Words) → bytes_eq form word ≡ true → Spells word words i rest → Spells form words i rest
spells_form form word words i rest is s =
    record { parts = ap (λ (f : List ℕ). f ∷ words) (bytes_same form word is) ∙ s.parts; within = s.within }

const_takes : (words : Words) (i : Instr) (rest : Words) → const_at words ≡ Some (i, rest) → Spells (codes "const") words i rest
const_takes words i rest e =
    let b = bind_some (number_at words) (λ n. Some (instr.Const n.0, n.1)) (i, rest) e in
    let s = number_takes words b.0.0 b.0.1 b.1 in
    spells_at (codes "const") words (instr.Const b.0.0) i b.0.1 rest b.2 (ap (λ (l : Words). codes "const" ∷ l) s.0) s.1

abbrev port2 : ℕ × Words → ℤ × Words → Option (Instr × Words)
port2 b d = Some (instr.Port b.0 d.0, d.1)

abbrev port1 : ℕ × Words → Option (Instr × Words)
port1 b = offset_at b.1 >>= port2 b

port_takes : (words : Words) (i : Instr) (rest : Words) → port_at words ≡ Some (i, rest) → Spells (codes "port") words i rest
port_takes words i rest e =
    let b = bind_some (named_at 98 words) port1 (i, rest) e in
    let d = bind_some (offset_at b.0.1) (port2 b.0) (i, rest) b.2 in
    let s = named_takes 98 words b.0.0 b.0.1 b.1 in
    let t = offset_takes b.0.1 d.0.0 d.0.1 d.1 in
    spells_at (codes "port") words (instr.Port b.0.0 d.0.0) i d.0.1 rest d.2 (ap (λ (l : Words). codes "port" ∷ l) (s.0 ∙ ap (λ (l : Words). buffer_word b.0.0 ∷ l) t.0)) (s.1, t.1)

abbrev win5 : Reducer × Words → ℕ × Words → ℤ × Words → ℤ × Words → Option ℕ × Words → Option (Instr × Words)
win5 r b f t m = if int_lt f.0 t.0 then Some (instr.Win r.0 b.0 f.0 t.0 m.0, m.1) else None

abbrev win4 : Reducer × Words → ℕ × Words → ℤ × Words → ℤ × Words → Option (Instr × Words)
win4 r b f t = map_at t.1 >>= win5 r b f t

abbrev win3 : Reducer × Words → ℕ × Words → ℤ × Words → Option (Instr × Words)
win3 r b f = offset_at f.1 >>= win4 r b f

abbrev win2 : Reducer × Words → ℕ × Words → Option (Instr × Words)
win2 r b = offset_at b.1 >>= win3 r b

abbrev win1 : Reducer × Words → Option (Instr × Words)
win1 r = named_at 98 r.1 >>= win2 r

win_words : (r : Reducer) (b : ℕ) (f t : ℤ) (m : Option ℕ) (rest : Words) → codes "win" ∷ reducer_word r ∷ buffer_word b ∷ signed_decimal f ∷ signed_decimal t
    ∷ (map_part m ++ rest) ≡ instr_words (instr.Win r b f t m) ++ rest
win_words r b f t None rest = refl
win_words r b f t (Some map) rest = refl

win_within : (r : Reducer) (b : ℕ) (f t : ℤ) (m : Option ℕ) → IsWindow b f t → IsMap m → IsInstr (instr.Win r b f t m)
win_within r b f t None w h = w
win_within r b f t (Some map) w h = (w, h)

win_takes : (words : Words) (i : Instr) (rest : Words) → win_at words ≡ Some (i, rest) → Spells (codes "win") words i rest
win_takes words i rest e =
    let r = bind_some (reducer_at words) win1 (i, rest) e in
    let b = bind_some (named_at 98 r.0.1) (win2 r.0) (i, rest) r.2 in
    let f = bind_some (offset_at b.0.1) (win3 r.0 b.0) (i, rest) b.2 in
    let t = bind_some (offset_at f.0.1) (win4 r.0 b.0 f.0) (i, rest) f.2 in
    let m = bind_some (map_at t.0.1) (win5 r.0 b.0 f.0 t.0) (i, rest) t.2 in
    let g = guard_some (int_lt f.0.0 t.0.0) (Some (instr.Win r.0.0 b.0.0 f.0.0 t.0.0 m.0.0, m.0.1)) (i, rest) m.2 in
    let rs = reducer_takes words r.0.0 r.0.1 r.1 in
    let bs = named_takes 98 r.0.1 b.0.0 b.0.1 b.1 in
    let fs = offset_takes b.0.1 f.0.0 f.0.1 f.1 in
    let ts = offset_takes f.0.1 t.0.0 t.0.1 t.1 in
    let ms = map_takes t.0.1 m.0.0 m.0.1 m.1 in
    let parts = rs ∙ ap (λ (l : Words). reducer_word r.0.0 ∷ l)
    (bs.0 ∙ ap (λ (l : Words). buffer_word b.0.0 ∷ l) (fs.0 ∙ ap (λ (l : Words). signed_decimal f.0.0 ∷ l) (ts.0 ∙ ap (λ (l : Words). signed_decimal t.0.0 ∷ l) ms.0))) in
    spells_at (codes "win") words (instr.Win r.0.0 b.0.0 f.0.0 t.0.0 m.0.0) i m.0.1 rest g.1
    (ap (λ (l : Words). codes "win" ∷ l) parts ∙ win_words r.0.0 b.0.0 f.0.0 t.0.0 m.0.0 m.0.1)
    (win_within r.0.0 b.0.0 f.0.0 t.0.0 m.0.0 (record { number = bs.1; low = fs.1; high = ts.1; some_ticks = lt_true f.0.0 t.0.0 g.0 }) ms.1)

win_again : (r : Reducer) (b : ℕ) (f t : ℤ) (m : Option ℕ) → IsWindow b f t → IsMap m
    → win_at (reducer_word r ∷ buffer_word b ∷ signed_decimal f ∷ signed_decimal t ∷ map_part m) ≡ Some (instr.Win r b f t m, [])
win_again r b f t m w h =
    let rest3 = signed_decimal t ∷ map_part m in
    let rest2 = signed_decimal f ∷ rest3 in
    let rest1 = buffer_word b ∷ rest2 in
    ap (λ (o : Option (Reducer × Words)). o >>= win1) (reducer_again r rest1)
    ∙ ap (λ (o : Option (ℕ × Words)). o >>= win2 (r, rest1)) (named_again 98 b rest2 w.number)
    ∙ ap (λ (o : Option (ℤ × Words)). o >>= win3 (r, rest1) (b, rest2)) (offset_again f rest3 w.low)
    ∙ ap (λ (o : Option (ℤ × Words)). o >>= win4 (r, rest1) (b, rest2) (f, rest3)) (offset_again t (map_part m) w.high)
    ∙ ap (λ (o : Option (Option ℕ × Words)). o >>= win5 (r, rest1) (b, rest2) (f, rest3) (t, map_part m)) (map_again m h)
    ∙ ap (λ (p : Bool). if p then Some (instr.Win r b f t m, []) else None) (true_lt f t w.some_ticks)

abbrev if3 : ℕ × Words → ℕ × Words → ℕ × Words → Option (Instr × Words)
if3 c a b = Some (instr.If c.0 a.0 b.0, b.1)

abbrev if2 : ℕ × Words → ℕ × Words → Option (Instr × Words)
if2 c a = named_at 114 a.1 >>= if3 c a

abbrev if1 : ℕ × Words → Option (Instr × Words)
if1 c = named_at 114 c.1 >>= if2 c

if_takes : (words : Words) (i : Instr) (rest : Words) → if_at words ≡ Some (i, rest) → Spells (codes "if") words i rest
if_takes words i rest e =
    let c = bind_some (named_at 114 words) if1 (i, rest) e in
    let a = bind_some (named_at 114 c.0.1) (if2 c.0) (i, rest) c.2 in
    let b = bind_some (named_at 114 a.0.1) (if3 c.0 a.0) (i, rest) a.2 in
    let cs = named_takes 114 words c.0.0 c.0.1 c.1 in
    let as' = named_takes 114 c.0.1 a.0.0 a.0.1 a.1 in
    let bs = named_takes 114 a.0.1 b.0.0 b.0.1 b.1 in
    spells_at (codes "if") words (instr.If c.0.0 a.0.0 b.0.0) i b.0.1 rest b.2
    (ap (λ (l : Words). codes "if" ∷ l) (cs.0 ∙ ap (λ (l : Words). register_word c.0.0 ∷ l) (as'.0 ∙ ap (λ (l : Words). register_word a.0.0 ∷ l) bs.0))) (cs.1, as'.1, bs.1)

abbrev two3 : Op2 → ℕ × Words → ℕ × Words → Option (Instr × Words)
two3 op a b = Some (instr.Two op a.0 b.0, b.1)

abbrev two2 : Op2 → ℕ × Words → Option (Instr × Words)
two2 op a = named_at 114 a.1 >>= two3 op a

abbrev two1 : Words → Op2 → Option (Instr × Words)
two1 words op = named_at 114 words >>= two2 op

two_takes : (form : List ℕ) (words : Words) (i : Instr) (rest : Words) → two_at form words ≡ Some (i, rest) → Spells form words i rest
two_takes form words i rest e =
    let o = bind_some (find (λ q. bytes_eq (two_word q) form) TWOS) (two1 words) (i, rest) e in
    let a = bind_some (named_at 114 words) (two2 o.0) (i, rest) o.2 in
    let b = bind_some (named_at 114 a.0.1) (two3 o.0 a.0) (i, rest) a.2 in
    let is = bytes_same (two_word o.0) form (found_passes (λ q. bytes_eq (two_word q) form) TWOS o.0 o.1) in
    let as' = named_takes 114 words a.0.0 a.0.1 a.1 in
    let bs = named_takes 114 a.0.1 b.0.0 b.0.1 b.1 in
    spells_at form words (instr.Two o.0 a.0.0 b.0.0) i b.0.1 rest b.2 ((λ k. sym is k ∷ (as'.0 ∙ ap (λ (l : Words). register_word a.0.0 ∷ l) bs.0) k)) (as'.1, bs.1)

one_takes : (o : Option Op1) (form : List ℕ) (words : Words) (i : Instr) (rest : Words) → find (λ q. bytes_eq (one_word q) form) ONES ≡ o → one_at o form words
    ≡ Some (i, rest) → Spells form words i rest
one_takes None form words i rest found e = two_takes form words i rest e
one_takes (Some op) form words i rest found e =
    let a = bind_some (named_at 114 words) (λ n. Some (instr.One op n.0, n.1)) (i, rest) e in
    let is = bytes_same (one_word op) form (found_passes (λ q. bytes_eq (one_word q) form) ONES op found) in
    let as' = named_takes 114 words a.0.0 a.0.1 a.1 in
    spells_at form words (instr.One op a.0.0) i a.0.1 rest a.2 ((λ k. sym is k ∷ as'.0 k)) as'.1

-- which way a choice went
pub choose : {A : Type 0} (t : Bool) (x y : Option A) (z : A) → (if t then x else y) ≡ Some z → ((t ≡ true) × (x ≡ Some z)) ⊎ ((t ≡ false) × (y ≡ Some z))
choose true x y z e = inl (refl, e)
choose false x y z e = inr (refl, e)

form_takes : (form : List ℕ) (words : Words) (i : Instr) (rest : Words) → form_at form words ≡ Some (i, rest) → Spells form words i rest
form_takes form words i rest e =
    elim (choose (bytes_eq form (codes "const")) (const_at words) _ (i, rest) e) [
      | inl y ↦ spells_form form (codes "const") words i rest y.0 (const_takes words i rest y.1)
      | inr n1 ↦ elim (choose (bytes_eq form (codes "null")) (Some (instr.Null, words)) _ (i, rest) n1.1) [
        | inl y ↦ spells_form form (codes "null") words i rest y.0 (spells_at (codes "null") words instr.Null i words rest y.1 refl tt)
        | inr n2 ↦ elim (choose (bytes_eq form (codes "cell")) (Some (instr.Argument, words)) _ (i, rest) n2.1) [
          | inl y ↦ spells_form form (codes "cell") words i rest y.0 (spells_at (codes "cell") words instr.Argument i words rest y.1 refl tt)
          | inr n3 ↦ elim (choose (bytes_eq form (codes "port")) (port_at words) _ (i, rest) n3.1) [
            | inl y ↦ spells_form form (codes "port") words i rest y.0 (port_takes words i rest y.1)
            | inr n4 ↦ elim (choose (bytes_eq form (codes "win")) (win_at words) _ (i, rest) n4.1) [
              | inl y ↦ spells_form form (codes "win") words i rest y.0 (win_takes words i rest y.1)
              | inr n5 ↦ elim (choose (bytes_eq form (codes "if")) (if_at words) _ (i, rest) n5.1) [
                | inl y ↦ spells_form form (codes "if") words i rest y.0 (if_takes words i rest y.1)
                | inr n6 ↦ one_takes (find (λ q. bytes_eq (one_word q) form) ONES) form words i rest refl n6.1
              ]
            ]
          ]
        ]
      ]
    ]

-- what is read of an instruction is its words
pub instr_takes : (words : Words) (i : Instr) (rest : Words) → instr_at words ≡ Some (i, rest) → (words ≡ instr_words i ++ rest) × IsInstr i
instr_takes [] i rest e = absurd (cc e)
instr_takes (form ∷ words) i rest e = let s = form_takes form words i rest e in (s.parts, s.within)

-- and its words are read
pub instr_again : (i : Instr) → IsInstr i → instr_at (instr_words i) ≡ Some (i, [])
instr_again (instr.Const n) h = ap (λ (o : Option (ℤ × Words)). o >>= λ k. Some (instr.Const k.0, k.1)) (number_again n [] h)
instr_again instr.Null h = refl
instr_again instr.Argument h = refl
instr_again (instr.Port b d) h =
    ap (λ (o : Option (ℕ × Words)). o >>= port1) (named_again 98 b (signed_decimal d ∷ []) h.0) ∙ ap (λ (o : Option (ℤ × Words)). o >>= port2 (b, signed_decimal d ∷ [])) (offset_again d [] h.1)
instr_again (instr.Win r b f t None) h = win_again r b f t None h tt
instr_again (instr.Win r b f t (Some m)) h = win_again r b f t (Some m) h.0 h.1
instr_again (instr.One op a) h =
    form_one op (register_word a ∷ []) ∙ ap (λ (o : Option (ℕ × Words)). o >>= λ k. Some (instr.One op k.0, k.1)) (named_again 114 a [] h)
instr_again (instr.Two op a b) h =
    let rest = register_word b ∷ [] in
    form_two op (register_word a ∷ rest) ∙ ap (λ (o : Option Op2). o >>= two1 (register_word a ∷ rest)) (two_found op)
    ∙ ap (λ (o : Option (ℕ × Words)). o >>= two2 op) (named_again 114 a rest h.0) ∙ ap (λ (o : Option (ℕ × Words)). o >>= two3 op (a, rest)) (named_again 114 b [] h.1)
instr_again (instr.If c a b) h =
    let rest = register_word b ∷ [] in
    ap (λ (o : Option (ℕ × Words)). o >>= if1) (named_again 114 c (register_word a ∷ rest) h.0)
    ∙ ap (λ (o : Option (ℕ × Words)). o >>= if2 (c, register_word a ∷ rest)) (named_again 114 a rest h.1)
    ∙ ap (λ (o : Option (ℕ × Words)). o >>= if3 (c, register_word a ∷ rest) (a, rest)) (named_again 114 b [] h.2)
