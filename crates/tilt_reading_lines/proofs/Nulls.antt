-- Null texts.
use Rattle.std.proofs.Common.{◌≡◌, ℕ, Bool, List, [], ◌∷◌, refl, ap}
use Rattle.std.specs.Prelude.{◌||◌, map}
use Rattle.std.specs.Global.{Vec}
use Rattle.std.specs.List.{list_any}

-- whether one of texts passes a test, by their bytes
pub any_of_items : (test : List ℕ → Bool) (texts : List (Vec ℕ)) → list_any (λ text. test text.items) texts ≡ list_any test (map (λ text. text.items) texts)
any_of_items test [] = refl
any_of_items test (text ∷ texts) = ap (λ (b : Bool). test text.items || b) (any_of_items test texts)
