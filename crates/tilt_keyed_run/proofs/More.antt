-- One line more.
use Rattle.std.proofs.Common.{◌≡◌, ℕ, List, [], ◌∷◌, ◌++◌, sym, ap, ◌∙◌, append_assoc, append-nil}
use Rattle.tilt_keyed_run.specs.Output.{written}

module _ (first : List ℕ) (added : List (List ℕ) → List ℕ → List ℕ) where
  pub written-append : (before xs ys : List (List ℕ)) → written first added before (xs ++ ys) ≡ written first added before xs ++ written first added (before ++ xs) ys
  written-append before [] ys = ap (λ (b : List (List ℕ)). written first added b ys) (sym (append-nil before))
  written-append before (x ∷ xs) ys =
      let rest = written-append (before ++ x ∷ []) xs ys ∙ ap (λ (b : List (List ℕ)). written first added (before ++ x ∷ []) xs ++ written first added b ys)
      (append_assoc before (x ∷ []) xs) in
      ap (λ (t : List ℕ). added before x ++ t) rest
      ∙ sym (append_assoc (added before x) (written first added (before ++ x ∷ []) xs) (written first added (before ++ x ∷ xs) ys))

  pub written-push : (xs : List (List ℕ)) (line : List ℕ) → written first added [] (xs ++ line ∷ []) ≡ written first added [] xs ++ added xs line
  written-push xs line = written-append [] xs (line ∷ []) ∙ ap (λ (t : List ℕ). written first added [] xs ++ t) (append-nil (added xs line))
