-- The places of a body that its leaves read.
use Rattle.std.proofs.Common.{◌≡◌, ◌<◌, ℕ, zero, suc, ℤ, pos, inl, inr, List, [], ◌∷◌, ◌++◌, map, length, get_or, Option, None, refl, sym, ◌∙◌, subst, arith}
use Rattle.std.proofs.Math.ListN.{set}
use Rattle.std.specs.List.{AllByRecursion}
use Rattle.tilt_code.specs.Code.{Block}
use Rattle.tilt_code.specs.declared.instr.Instr.{Instr}
use Rattle.tilt_code.specs.declared.instr.Instr.TheVariants.{Const}
use Rattle.tilt_turn.proofs.Stepwise.{all-both, all-weaker}
use Rattle.tilt_turn.proofs.Written.{written-here, written-right}
use Rattle.tilt_turn.specs.Held.{AreAllRead, IsAmong, IsOneOf, places_of}
use Rattle.tilt_turn.specs.Picked.{AreRead, written}
use Rattle.tilt_turn.specs.declared.placed.Placed.{Placed}

-- where one place more is among those of a leaf, the others still are, and it is
pub one-of-more : (place more : ℕ) (own : List ℕ) → IsOneOf place own → IsOneOf place (own ++ more ∷ [])
one-of-more place more [] is = absurd is
one-of-more place more (first ∷ rest) (inl is) = inl is
one-of-more place more (first ∷ rest) (inr is) = inr (one-of-more place more rest is)

pub one-of-last : (place : ℕ) (own : List ℕ) → IsOneOf place (own ++ place ∷ [])
one-of-last place [] = inl refl
one-of-last place (first ∷ rest) = inr (one-of-last place rest)

-- what holds of all places of all leaves holds of each
pub one-of-all : (P : ℕ → Type 0) (place : ℕ) (own : List ℕ) → AllByRecursion P own → IsOneOf place own → P place
one-of-all P place [] all is = absurd is
one-of-all P place (first ∷ rest) all (inl is) = subst P (sym is) all.0
one-of-all P place (first ∷ rest) all (inr is) = one-of-all P place rest all.1 is

pub among-all : (P : ℕ → Type 0) (place : ℕ) (leaves : List (List ℕ)) → AllByRecursion (AllByRecursion P) leaves → IsAmong place leaves → P place
among-all P place [] all is = absurd is
among-all P place (own ∷ rest) all (inl is) = one-of-all P place own all.0 is
among-all P place (own ∷ rest) all (inr is) = among-all P place rest all.1 is

-- a leaf more
pub among-more : (place : ℕ) (leaves : List Placed) (new : Placed) → IsAmong place (map places_of leaves)
    → IsAmong place (map places_of (leaves ++ new ∷ []))
among-more place [] new is = absurd is
among-more place (p ∷ ps) new (inl is) = inl is
among-more place (p ∷ ps) new (inr is) = inr (among-more place ps new is)

pub among-last : (place : ℕ) (leaves : List Placed) (new : Placed) → IsOneOf place (places_of new)
    → IsAmong place (map places_of (leaves ++ new ∷ []))
among-last place [] new is = inl is
among-last place (p ∷ ps) new is = inr (among-last place ps new is)

-- a leaf that has more places
pub among-set : (place i : ℕ) (leaves : List Placed) (own new : Placed) → own ≡ get_or leaves i own
    → (IsOneOf place (places_of own) → IsOneOf place (places_of new)) → IsAmong place (map places_of leaves)
    → IsAmong place (map places_of (set leaves i new))
among-set place i [] own new at more is = absurd is
among-set place zero (p ∷ ps) own new at more (inl is) = inl (more (subst (λ (q : Placed). IsOneOf place (places_of q)) (sym at) is))
among-set place zero (p ∷ ps) own new at more (inr is) = inr is
among-set place (suc i) (p ∷ ps) own new at more (inl is) = inl is
among-set place (suc i) (p ∷ ps) own new at more (inr is) = inr (among-set place i ps own new at more is)

pub among-at : (place i : ℕ) (leaves : List Placed) (new : Placed) → i < length leaves → IsOneOf place (places_of new)
    → IsAmong place (map places_of (set leaves i new))
among-at place i [] new within is = absurd (omega arith)
among-at place zero (p ∷ ps) new within is = inl is
among-at place (suc i) (p ∷ ps) new within is = inr (among-at place i ps new (omega arith) is)

-- the registers of these places hold what their instructions give
abbrev pub AreRight : (Instr → Option ℤ) → Block → List (Option ℤ) → List ℕ → Type 0
AreRight leaf body cells own = AllByRecursion (λ place. get_or cells place None ≡ leaf (get_or body place (Const (pos 0)))) own

-- where a cell is written that is right, they still do
pub right-stays : (leaf : Instr → Option ℤ) (body : Block) (cell : Option ℤ) (places : List ℕ) (cells : List (Option ℤ)) (leaves : List (List ℕ))
    → AllByRecursion (λ place. leaf (get_or body place (Const (pos 0))) ≡ cell) places → AllByRecursion (AreRight leaf body cells) leaves
    → AllByRecursion (AreRight leaf body (written cell places cells)) leaves
right-stays leaf body cell places cells leaves right all =
    all-weaker (AreRight leaf body cells) (AreRight leaf body (written cell places cells)) leaves
    (λ own is. all-weaker _ _ own
    (λ n at. written-right (λ k. leaf (get_or body k (Const (pos 0)))) cell places cells n right at) is) all

-- and those that are written do
pub right-here : (leaf : Instr → Option ℤ) (body : Block) (cell : Option ℤ) (places : List ℕ) (cells : List (Option ℤ))
    → AllByRecursion (λ place. leaf (get_or body place (Const (pos 0))) ≡ cell) places → AllByRecursion (λ place. place < length cells) places
    → AreRight leaf body (written cell places cells) places
right-here leaf body cell places cells right within =
    all-both (λ place. leaf (get_or body place (Const (pos 0))) ≡ cell) (λ place. get_or (written cell places cells) place None ≡ cell)
    (λ place. get_or (written cell places cells) place None ≡ leaf (get_or body place (Const (pos 0)))) places
    (λ place is here. here ∙ sym is) right (written-here cell places cells within)

-- once all are right, each instruction that reads a buffer has its cell in its register
pub right-all : (leaf : Instr → Option ℤ) (body : Block) (cells : List (Option ℤ)) (leaves : List (List ℕ)) → AreAllRead body leaves
    → AllByRecursion (AreRight leaf body cells) leaves → AreRead leaf body cells
right-all leaf body cells leaves all right = λ place within by.
    among-all (λ n. get_or cells n None ≡ leaf (get_or body n (Const (pos 0)))) place leaves right (all place within by)
