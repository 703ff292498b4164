-- Texts appended one after another.
use Rattle.std.proofs.Common.{◌≡◌, ℕ, List, ◌++◌, Result, Ok, Err, ap, ◌∙◌, append_assoc}
use Rattle.std.specs.Prelude.{OnOk}

-- what follows from what a call did if it succeeded
pub on_ok : {T E : Type 0} {A B : Type 0} (result : Result T E) → (A → B) → OnOk result A → OnOk result B
on_ok (Ok x) more h = more h
on_ok (Err e) more h = h

pub appended_three : (old one two three a b c : List ℕ) → a ≡ old ++ one → b ≡ a ++ two → c ≡ b ++ three → c ≡ old ++ (one ++ (two ++ three))
appended_three old one two three a b c p q r =
    r ∙ ap (λ (t : List ℕ). t ++ three) (q ∙ ap (λ (t : List ℕ). t ++ two) p) ∙ append_assoc (old ++ one) two three
    ∙ append_assoc old one (two ++ three)
