-- What is read up to a mark is what is spelled there.
use Rattle.std.proofs.Common.{◌≡◌, ℕ, ◌^◌, ◌<◌, Bool, true, false, if◌then◌else◌, List, [], ◌∷◌, ◌++◌, Option, Some, None, ℤ, pos, negsuc, FitsSigned, refl, sym, ap, ◌∙◌, subst, arith, inl, inr}
use Rattle.std.specs.Prelude.{codes}
use Rattle.std.specs.Fmt.{decimal, signed_decimal}
use Rattle.std.specs.Int.{w64}
use Rattle.std.specs.Str.{bytes_eq}
use Rattle.std.proofs.lemmas.Bool.{cases_Bool}
use Rattle.std.proofs.lemmas.Option.{none-some, same_Some, some_pair_parts}
use Rattle.tilt_base.proofs.Comparisons.{bytes_same, same_bytes}
use Rattle.tilt_text.specs.Step.{◌>>=◌}
use Rattle.tilt_text.specs.Spelled.{shortest}
use Rattle.tilt_text.specs.Cut.{until_at}
use Rattle.tilt_text.proofs.Step.{bind_some}
use Rattle.tilt_text.proofs.Numbers.{shortest-signed, signed-shortest}
use Rattle.tilt_text.proofs.Lacks.{Lacks, lacks-more, differs, signed_lacks}
use Rattle.tilt_text.proofs.Words.{until-front, front-until}
use Rattle.tilt_checkpoint.specs.Reading.{count_at, maybe, maybe_at, natural, number_at}
use Rattle.tilt_checkpoint.specs.Spelling.{or_word}
use Rattle.tilt_checkpoint.specs.Valid.{IsCell}

-- numbers

pub number-again : (mark : ℕ) → mark < 45 → (z : ℤ) → FitsSigned w64 z → (rest : List ℕ)
    → number_at mark (signed_decimal z ++ mark ∷ rest) ≡ Some (z, rest)
number-again mark h z fits rest = rw (until-front mark (signed_decimal z) rest (signed_lacks mark h z fits), shortest-signed z fits) refl

-- a number that was read
pub record IsNumber (mark : ℕ) (bytes : List ℕ) (z : ℤ) (rest : List ℕ) : Type 0 where
  pub spelled : bytes ≡ signed_decimal z ++ mark ∷ rest
  pub fits : FitsSigned w64 z

pub number-was : (mark : ℕ) (bytes : List ℕ) (z : ℤ) (rest : List ℕ) → number_at mark bytes ≡ Some (z, rest) → IsNumber mark bytes z rest
number-was mark bytes z rest e =
    let w = bind_some (until_at mark bytes) (λ word. shortest word.0 >>= λ n. Some (n, word.1)) (z, rest) e in
    let n = bind_some (shortest w.0.0) (λ n. Some (n, w.0.1)) (z, rest) w.2 in
    let p = some_pair_parts n.0 z w.0.1 rest n.2 in
    let s = signed-shortest w.0.0 n.0 n.1 in
    record {
      spelled = front-until mark bytes w.0.0 w.0.1 w.1 ∙ (λ i. s.0 i ++ mark ∷ w.0.1) ∙ (λ i. signed_decimal (p.0 i) ++ mark ∷ p.1 i);
      fits = subst (FitsSigned w64) p.0 s.1;
    }

-- counts

pub count-again : (mark : ℕ) → mark < 45 → (n : ℕ) → n < 2 ^ 63 → (rest : List ℕ)
    → count_at mark (decimal n ++ mark ∷ rest) ≡ Some (n, rest)
count-again mark h n small rest = rw (number-again mark h (pos n) (record { sfits = omega arith }) rest) refl

natural_is : (z : ℤ) (n : ℕ) → natural z ≡ Some n → z ≡ pos n
natural_is (pos m) n e = ap pos (same_Some m n e)
natural_is (negsuc m) n e = absurd (none-some n e)

pub count-was : (mark : ℕ) (bytes : List ℕ) (n : ℕ) (rest : List ℕ) → count_at mark bytes ≡ Some (n, rest)
    → bytes ≡ decimal n ++ mark ∷ rest
count-was mark bytes n rest e =
    let z = bind_some (number_at mark bytes) (λ number. natural number.0 >>= λ count. Some (count, number.1)) (n, rest) e in
    let c = bind_some (natural z.0.0) (λ count. Some (count, z.0.1)) (n, rest) z.2 in
    let p = some_pair_parts c.0 n z.0.1 rest c.2 in
    (number-was mark bytes z.0.0 z.0.1 z.1).spelled
    ∙ (λ i. signed_decimal (natural_is z.0.0 c.0 c.1 i) ++ mark ∷ z.0.1)
    ∙ (λ i. decimal (p.0 i) ++ mark ∷ p.1 i)

-- numbers, or a word for none

-- the word is the decimal of no number, and is without the mark
pub record IsApart (nothing : List ℕ) (mark : ℕ) : Type 0 where
  pub low : mark < 45
  pub without : Lacks mark nothing
  pub other : (z : ℤ) → FitsSigned w64 z → bytes_eq (signed_decimal z) nothing ≡ false

pub maybe-again : (nothing : List ℕ) (mark : ℕ) → IsApart nothing mark → (o : Option ℤ) → IsCell o → (rest : List ℕ)
    → maybe_at nothing mark (or_word nothing o ++ mark ∷ rest) ≡ Some (o, rest)
maybe-again nothing mark h None fits rest = rw (until-front mark nothing rest h.without, same_bytes nothing) refl
maybe-again nothing mark h (Some z) fits rest =
    rw (until-front mark (signed_decimal z) rest (signed_lacks mark h.low z fits), h.other z fits, shortest-signed z fits) refl

maybe_is : (nothing word : List ℕ) (o : Option ℤ) (same : Bool) → bytes_eq word nothing ≡ same
    → (if same then Some None else (shortest word >>= λ number. Some (Some number))) ≡ Some o → (word ≡ or_word nothing o) × IsCell o
maybe_is nothing word o true is e =
    subst (λ (p : Option ℤ). (word ≡ or_word nothing p) × IsCell p) (same_Some None o e) (bytes_same word nothing is, tt)
maybe_is nothing word o false is e =
    let b = bind_some (shortest word) (λ number. Some (Some number)) o e in
    subst (λ (p : Option ℤ). (word ≡ or_word nothing p) × IsCell p) (same_Some (Some b.0) o b.2) (signed-shortest word b.0 b.1)

pub record IsMaybe (nothing : List ℕ) (mark : ℕ) (bytes : List ℕ) (o : Option ℤ) (rest : List ℕ) : Type 0 where
  pub spelled : bytes ≡ or_word nothing o ++ mark ∷ rest
  pub fits : IsCell o

pub maybe-was : (nothing : List ℕ) (mark : ℕ) (bytes : List ℕ) (o : Option ℤ) (rest : List ℕ) → maybe_at nothing mark bytes ≡ Some (o, rest)
    → IsMaybe nothing mark bytes o rest
maybe-was nothing mark bytes o rest e =
    let w = bind_some (until_at mark bytes) (λ word. maybe nothing word.0 >>= λ n. Some (n, word.1)) (o, rest) e in
    let n = bind_some (maybe nothing w.0.0) (λ n. Some (n, w.0.1)) (o, rest) w.2 in
    let p = some_pair_parts n.0 o w.0.1 rest n.2 in
    let s = maybe_is nothing w.0.0 n.0 (bytes_eq w.0.0 nothing) refl n.1 in
    record {
      spelled = front-until mark bytes w.0.0 w.0.1 w.1 ∙ (λ i. s.0 i ++ mark ∷ w.0.1) ∙ (λ i. or_word nothing (p.0 i) ++ mark ∷ p.1 i);
      fits = subst IsCell p.0 s.1;
    }

-- the two words for none

no_number : (nothing : List ℕ) → shortest nothing ≡ None → (z : ℤ) → FitsSigned w64 z → bytes_eq (signed_decimal z) nothing ≡ false
no_number nothing none z fits =
    elim (cases_Bool (bytes_eq (signed_decimal z) nothing)) [
      | inl same ↦ absurd (none-some z (sym none ∙ ap shortest (sym (bytes_same (signed_decimal z) nothing same)) ∙ shortest-signed z fits))
      | inr other ↦ other
    ]

pub none-apart : (mark : ℕ) → mark < 45 → IsApart (codes "none") mark
none-apart mark h = record {
  low = h;
  without =
      lacks-more mark 110 (codes "one") (differs 110 mark (omega arith)) (lacks-more mark 111 (codes "ne") (differs 111 mark (omega arith))
      (lacks-more mark 110 (codes "e") (differs 110 mark (omega arith)) (lacks-more mark 101 [] (differs 101 mark (omega arith)) refl)));
  other = no_number (codes "none") refl;
}

pub nothing-apart : (mark : ℕ) → mark < 45 → IsApart [] mark
nothing-apart mark h = record { low = h; without = refl; other = no_number [] refl }
