-- Bytes cut at each mark.
use Rattle.std.proofs.Common.{◌≡◌, ℕ, Bool, true, false, not, List, [], ◌∷◌, ◌++◌, Option, Some, None, is_some, option_map, IsTrue, refl, sym, ap, ◌∙◌, inl, inr}
use Rattle.std.specs.List.{onto_first}
use Rattle.std.specs.Prelude.{◌==◌}
use Rattle.std.proofs.lemmas.Bool.{cases_Bool}
use Rattle.tilt_text.specs.Cut.{onto, until_at}
use Rattle.tilt_text.specs.Step.{◌>>=◌}
use Rattle.tilt_text.proofs.Lacks.{Lacks}
use Rattle.tilt_text.proofs.Words.{until-front, until-lone}
use Rattle.tilt_code.specs.Reading.{pieces, pieces_left}

-- the pieces of bytes, of which the first is cut off
abbrev pub cut_pieces : ℕ → List ℕ → Option (List ℕ × List ℕ) → List (List ℕ)
cut_pieces mark bytes None = bytes ∷ []
cut_pieces mark bytes (Some parts) = parts.0 ∷ pieces mark parts.1

onto_cut : (mark b : ℕ) (bs : List ℕ) (o : Option (List ℕ × List ℕ)) → onto_first b (cut_pieces mark bs o) ≡ cut_pieces mark (b ∷ bs) (o >>= onto b)
onto_cut mark b bs None = refl
onto_cut mark b bs (Some parts) = refl

-- the first piece ends at the first mark
pub pieces-cut : (mark : ℕ) (bytes : List ℕ) → pieces mark bytes ≡ cut_pieces mark bytes (until_at mark bytes)
pieces-cut mark [] = refl
pieces-cut mark (b ∷ bs) =
    elim (cases_Bool (b == mark)) [
      | inl same ↦ rw same refl
      | inr other ↦ rw other (ap (onto_first b) (pieces-cut mark bs) ∙ onto_cut mark b bs (until_at mark bs))
    ]

-- the piece before a mark
pub pieces_front : (mark : ℕ) (front rest : List ℕ) → Lacks mark front → pieces mark (front ++ mark ∷ rest) ≡ front ∷ pieces mark rest
pieces_front mark front rest h =
    pieces-cut mark (front ++ mark ∷ rest) ∙ ap (cut_pieces mark (front ++ mark ∷ rest)) (until-front mark front rest h)

-- the one piece if there is no mark
pub pieces_lone : (mark : ℕ) (bytes : List ℕ) → Lacks mark bytes → pieces mark bytes ≡ bytes ∷ []
pieces_lone mark bytes h = pieces-cut mark bytes ∙ ap (cut_pieces mark bytes) (until-lone mark bytes h)

cut_some : (mark : ℕ) (bytes : List ℕ) (o : Option (List ℕ × List ℕ)) → cut_pieces mark bytes o ≡ [] → ⊥
cut_some mark bytes None e = cc e
cut_some mark bytes (Some parts) e = cc e

-- there is a piece
pub pieces_some : (mark : ℕ) (bytes : List ℕ) → pieces mark bytes ≡ [] → ⊥
pieces_some mark bytes e = cut_some mark bytes (until_at mark bytes) (sym (pieces-cut mark bytes) ∙ e)

-- whether pieces are left, by whether bytes are
pub left_empty : (mark : ℕ) (left : Option (List ℕ)) (none : Bool) → is_some left ≡ not none
    → (IsTrue none → pieces_left mark left ≡ []) × (pieces_left mark left ≡ [] → IsTrue none)
left_empty mark None true e = (λ _. refl, λ _. refl)
left_empty mark None false e = cc e
left_empty mark (Some bytes) true e = cc e
left_empty mark (Some bytes) false e = (λ h. cc h, λ h. absurd (pieces_some mark bytes h))

pub some_map : {A B : Type 0} (f : A → B) (o : Option A) → is_some (option_map f o) ≡ is_some o
some_map f None = refl
some_map f (Some x) = refl
