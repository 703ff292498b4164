-- Registers that are written with one cell.
use Rattle.std.proofs.Common.{◌≡◌, ◌<◌, ℕ, zero, suc, ℤ, pos, List, [], ◌∷◌, length, get_or, Option, None, refl, sym, ap, ◌∙◌, arith}
use Rattle.std.proofs.Math.ListN.{set}
use Rattle.std.proofs.lemmas.List.{get_or-set_same, length-set, set-get_or}
use Rattle.std.specs.List.{AllByRecursion}
use Rattle.tilt_code.specs.Code.{Block}
use Rattle.tilt_code.specs.declared.instr.Instr.TheVariants.{Const}
use Rattle.tilt_turn.proofs.Registers.{stand-set}
use Rattle.tilt_turn.proofs.Stepwise.{all-weaker}
use Rattle.tilt_turn.specs.Held.{ConstantsStand, IsStanding}
use Rattle.tilt_turn.specs.Picked.{written}

-- what is written rightly leaves what is right as it is
right-set : (right : ℕ → Option ℤ) (cells : List (Option ℤ)) (place n : ℕ) → get_or cells n None ≡ right n
    → get_or (set cells place (right place)) n None ≡ right n
right-set right [] place n is = is
right-set right (c ∷ cs) zero zero is = refl
right-set right (c ∷ cs) zero (suc n) is = is
right-set right (c ∷ cs) (suc place) zero is = is
right-set right (c ∷ cs) (suc place) (suc n) is = right-set (λ k. right (suc k)) cs place n is

pub written-right : (right : ℕ → Option ℤ) (cell : Option ℤ) (places : List ℕ) (cells : List (Option ℤ)) (n : ℕ)
    → AllByRecursion (λ place. right place ≡ cell) places → get_or cells n None ≡ right n → get_or (written cell places cells) n None ≡ right n
written-right right cell [] cells n all is = is
written-right right cell (place ∷ rest) cells n all is =
    written-right right cell rest (set cells place cell) n all.1
    (ap (λ c. get_or (set cells place c) n None) (sym all.0) ∙ right-set right cells place n is)

-- each register that is written holds the cell
pub written-here : (cell : Option ℤ) (places : List ℕ) (cells : List (Option ℤ)) → AllByRecursion (λ place. place < length cells) places
    → AllByRecursion (λ place. get_or (written cell places cells) place None ≡ cell) places
written-here cell [] cells within = tt
written-here cell (place ∷ rest) cells within =
    let long = length-set cells place cell in (
      written-right (λ n. cell) cell rest (set cells place cell) place
          (all-weaker (λ n. n < length cells) (λ n. cell ≡ cell) rest (λ n below. refl) within.1)
          (get_or-set_same cells place cell None within.0),
      written-here cell rest (set cells place cell)
          (all-weaker (λ n. n < length cells) (λ n. n < length (set cells place cell)) rest (λ n below. omega arith) within.1),
    )

-- where each holds it already, nothing is changed
pub written-same : (cell : Option ℤ) (places : List ℕ) (cells : List (Option ℤ))
    → AllByRecursion (λ place. get_or cells place None ≡ cell) places → written cell places cells ≡ cells
written-same cell [] cells all = refl
written-same cell (place ∷ rest) cells all =
    let same : set cells place cell ≡ cells = ap (set cells place) (sym all.0) ∙ set-get_or cells place None in
    ap (written cell rest) same ∙ written-same cell rest cells all.1

-- and constants are still in place if the cell may be in each of these registers
pub written-stand : (block : Block) (cell : Option ℤ) (places : List ℕ) (cells : List (Option ℤ))
    → AllByRecursion (λ place. IsStanding (get_or block place (Const (pos 0))) cell) places → ConstantsStand block cells
    → ConstantsStand block (written cell places cells)
written-stand block cell [] cells all stand = stand
written-stand block cell (place ∷ rest) cells all stand =
    written-stand block cell rest (set cells place cell) all.1 (stand-set block cells place (Const (pos 0)) cell stand all.0)
