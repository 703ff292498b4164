-- Texts behind their digests.
use Rattle.std.proofs.Common.{◌≡◌, ◌≢◌, inl, inr, ℕ, zero, suc, ◌/◌, ◌%◌, Bool, true, false, if◌then◌else◌, List, [], ◌∷◌, ◌++◌, codes, Some, None, refl, sym, ◌∙◌, ap, slice_index}
use Rattle.std.specs.Prelude.{◌==◌, bytes_eq}
use Rattle.std.proofs.lemmas.Bool.{cases_Bool}
use Rattle.std.proofs.lemmas.Option.{none-some, same_Some}
use Rattle.std.proofs.lemmas.Slice.Eq.{bytes_eq-Decides}
use Rattle.hex.specs.Hex.{encode_with, lower_digits}
use Rattle.sha2.specs.Sha256.{sha256}
use Rattle.tilt_text.proofs.Lacks.{Lacks, lacks-append, lacks-more, lacks-parts}
use Rattle.tilt_text.proofs.Step.{bind_some}
use Rattle.tilt_text.proofs.Words.{front-until, until-front}
use Rattle.tilt_text.specs.Cut.{until_at}
use Rattle.tilt_store.specs.Seal.{if_sealed, seal_of, sealed, unsealed}

-- what is at a place of a text without LF
at_lacks : (text : List ℕ) (i : ℕ) → Lacks 10 text → (slice_index text i == 10) ≡ false
at_lacks [] i lacks = refl
at_lacks (byte ∷ text) zero lacks = (lacks-parts 10 byte text lacks).0
at_lacks (byte ∷ text) (suc i) lacks = at_lacks text i (lacks-parts 10 byte text lacks).1

digits_lack : (bytes : List ℕ) → Lacks 10 (encode_with lower_digits bytes)
unfolding encode_with
digits_lack [] = refl
digits_lack (b ∷ bytes) =
    let high = slice_index lower_digits (b / 16) in
    let low = slice_index lower_digits (b % 16) in
    let rest = encode_with lower_digits bytes in
    lacks-more 10 high (low ∷ rest) (at_lacks lower_digits (b / 16) refl) (lacks-more 10 low rest (at_lacks lower_digits (b % 16) refl) (digits_lack bytes))

seal_lacks : (text : List ℕ) → Lacks 10 (seal_of text)
seal_lacks text = lacks-append 10 (codes "tilt store 1 ") (encode_with lower_digits (sha256 text)) refl (digits_lack (sha256 text))

same_bytes : (xs : List ℕ) → bytes_eq xs xs ≡ true
same_bytes xs = (bytes_eq-Decides xs xs).1 refl

other_bytes : (xs ys : List ℕ) → xs ≢ ys → bytes_eq xs ys ≡ false
other_bytes xs ys other = elim (cases_Bool (bytes_eq xs ys)) [ inl same ↦ absurd (other ((bytes_eq-Decides xs ys).0 same)) | inr differs ↦ differs ]

-- what is sealed is read
pub unsealed-sealed : (text : List ℕ) → unsealed (sealed text) ≡ Some text
unsealed-sealed text = rw (until-front 10 (seal_of text) text (seal_lacks text), same_bytes (seal_of text)) refl

-- another text behind the same line isn't
pub unsealed-spoiled : (text spoiled : List ℕ) → seal_of spoiled ≢ seal_of text → unsealed (seal_of text ++ 10 ∷ spoiled) ≡ None
unsealed-spoiled text spoiled other =
    rw (until-front 10 (seal_of text) spoiled (seal_lacks text), other_bytes (seal_of text) (seal_of spoiled) (λ same. other (sym same))) refl

-- what is read was sealed
if_seal : (line rest text : List ℕ) (same : Bool) → bytes_eq line (seal_of rest) ≡ same → (if same then Some rest else None) ≡ Some text
    → (line ≡ seal_of rest) × (rest ≡ text)
if_seal line rest text true same is = ((bytes_eq-Decides line (seal_of rest)).0 same, same_Some rest text is)
if_seal line rest text false same is = absurd (none-some text is)

pub sealed-unsealed : (bytes text : List ℕ) → unsealed bytes ≡ Some text → bytes ≡ sealed text
sealed-unsealed bytes text is =
    let step = bind_some (until_at 10 bytes) if_sealed text is in
    let parts = if_seal (step.0.0) (step.0.1) text (bytes_eq step.0.0 (seal_of step.0.1)) refl step.2 in
    front-until 10 bytes step.0.0 step.0.1 step.1 ∙ ap (λ (l : List ℕ). l ++ 10 ∷ step.0.1) parts.0 ∙ ap sealed parts.1
