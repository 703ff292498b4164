-- Lines that are passed.
use Rattle.std.proofs.Common.{◌≡◌, ℕ, zero, suc, ◌≤◌, List, [], ◌∷◌, ◌++◌, length, Some, sym, ap, ◌∙◌, arith, append_assoc, length-append}
use Rattle.std.proofs.lemmas.Option.{same_Some}
use Rattle.tilt_text.specs.Step.{◌>>=◌}
use Rattle.tilt_text.specs.Cut.{until_at}
use Rattle.tilt_text.proofs.Step.{bind_some}
use Rattle.tilt_text.proofs.Words.{front-until}
use Rattle.tilt_checkpoint.specs.Reading.{behind_line, times}

-- the bytes after a line
pub line_passed : (bytes line left : List ℕ) → until_at 10 bytes ≡ Some (line, left) → behind_line bytes ≡ Some left
line_passed bytes line left e = ap (λ o. o >>= λ parts. Some parts.1) e

-- what is left is the end of the bytes
pub record IsLeft (bytes left : List ℕ) : Type 0 where
  pub front : List ℕ
  pub is : bytes ≡ front ++ left

pub left_is : (n : ℕ) (bytes left : List ℕ) → times behind_line n bytes ≡ Some left → IsLeft bytes left
left_is zero bytes left e = record { front = []; is = same_Some bytes left e }
left_is (suc n) bytes left e =
    let b = bind_some (behind_line bytes) (times behind_line n) left e in
    let w = bind_some (until_at 10 bytes) (λ parts. Some parts.1) b.0 b.1 in
    let rest = left_is n b.0 left b.2 in
    let line = front-until 10 bytes w.0.0 w.0.1 w.1 in
    record {
      front = w.0.0 ++ 10 ∷ rest.front;
      is = line ∙ ap (λ (t : List ℕ). w.0.0 ++ 10 ∷ t) (same_Some w.0.1 b.0 w.2 ∙ rest.is) ∙ sym (append_assoc w.0.0 (10 ∷ rest.front) left);
    }

pub left_shorter : (n : ℕ) (bytes left : List ℕ) → times behind_line n bytes ≡ Some left → length left ≤ length bytes
left_shorter n bytes left e =
    let l = left_is n bytes left e in
    omega (arith, ap (λ (t : List ℕ). length t) l.is, length-append l.front left)
