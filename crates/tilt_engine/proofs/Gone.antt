-- What is left of lists of which the first snapshots have gone.
use Rattle.std.proofs.Common.{◌≡◌, ℕ, zero, suc, ℤ, pos, ◌+ℤ◌, ◌≤ℤ◌, List, [], ◌∷◌, ◌++◌, length, drop, get_or, refl, sym, ap, ◌∙◌, arith}
use Rattle.std.proofs.lemmas.Int.{ints}
use Rattle.std.specs.List.{AllByRecursion}
use Rattle.tilt_code.specs.Code.{Block}
use Rattle.tilt_code.specs.declared.instr.Instr.{Instr}
use Rattle.tilt_code.specs.declared.instr.Instr.TheVariants.{Const, Null, Argument, Port, Win, One, Two, If}
use Rattle.tilt_engine.specs.Gone.{BeginsWith, EndsBelow, IsGoneFor, rests}
use Rattle.tilt_stream.specs.Snap.{Snapshot}

pub drop-nil : {A : Type 0} (n : ℕ) → drop {A = A} n [] ≡ []
drop-nil zero = refl
drop-nil (suc n) = refl

pub drop-none : (list : List Snapshot) → drop 0 list ≡ list
drop-none [] = refl
drop-none (s ∷ ss) = refl

pub drop-front : (g rest : List Snapshot) → drop (length g) (g ++ rest) ≡ rest
drop-front [] rest = drop-none rest
drop-front (s ∷ g) rest = drop-front g rest

-- what is left of the list with a number
pub rest-at : (gone lists : List (List Snapshot)) (number : ℕ)
    → get_or (rests gone lists) number [] ≡ drop (length (get_or gone number [])) (get_or lists number [])
rest-at [] lists number = sym (drop-none (get_or lists number []))
rest-at (g ∷ gone) [] number = sym (drop-nil (length (get_or (g ∷ gone) number [])))
rest-at (g ∷ gone) (list ∷ lists) zero = refl
rest-at (g ∷ gone) (list ∷ lists) (suc number) = rest-at gone lists number

pub rests-long : (gone lists : List (List Snapshot)) → length (rests gone lists) ≡ length lists
rests-long [] lists = refl
rests-long (g ∷ gone) [] = refl
rests-long (g ∷ gone) (list ∷ lists) = ap suc (rests-long gone lists)

-- a list that begins with another one is that one and the rest
pub begins-rest : (g list : List Snapshot) → BeginsWith g list → list ≡ g ++ drop (length g) list
begins-rest g list begins = begins.1 ∙ ap (λ (rest : List Snapshot). g ++ rest) (sym (drop-front g begins.0) ∙ ap (drop (length g)) (sym begins.1))

pub whole-at : (gone lists : List (List Snapshot)) (number : ℕ) → BeginsWith (get_or gone number []) (get_or lists number [])
    → get_or lists number [] ≡ get_or gone number [] ++ get_or (rests gone lists) number []
whole-at gone lists number begins =
    begins-rest (get_or gone number []) (get_or lists number []) begins
    ∙ ap (λ (rest : List Snapshot). get_or gone number [] ++ rest) (sym (rest-at gone lists number))

-- what has gone below a tick has gone below each later one
pub ends-later : (tick later : ℤ) (list : List Snapshot) → tick ≤ℤ later → AllByRecursion (EndsBelow tick) list → AllByRecursion (EndsBelow later) list
ends-later tick later [] up all = tt
ends-later tick later (s ∷ ss) up all = ((all.0.0, (let below = all.0.1 in omega (arith, ints))), ends-later tick later ss up all.1)

gone-instr : (gone : List (List Snapshot)) (point later : ℤ) (i : Instr) → point ≤ℤ later → IsGoneFor gone point i → IsGoneFor gone later i
gone-instr gone point later (Const number) up is = tt
gone-instr gone point later Null up is = tt
gone-instr gone point later Argument up is = tt
gone-instr gone point later (Port buffer offset) up is = ends-later (point +ℤ offset) (later +ℤ offset) (get_or gone buffer []) (omega (arith, ints)) is
gone-instr gone point later (Win reducer buffer from to number) up is =
    ends-later (point +ℤ from +ℤ pos 1) (later +ℤ from +ℤ pos 1) (get_or gone buffer []) (omega (arith, ints)) is
gone-instr gone point later (One op a) up is = tt
gone-instr gone point later (Two op a b) up is = tt
gone-instr gone point later (If c a b) up is = tt

pub gone-later : (gone : List (List Snapshot)) (point later : ℤ) (block : Block) → point ≤ℤ later → AllByRecursion (IsGoneFor gone point) block
    → AllByRecursion (IsGoneFor gone later) block
gone-later gone point later [] up all = tt
gone-later gone point later (i ∷ block) up all = (gone-instr gone point later i up all.0, gone-later gone point later block up all.1)

-- before anything has gone
none-gone : (point : ℤ) (i : Instr) → IsGoneFor [] point i
none-gone point (Const number) = tt
none-gone point Null = tt
none-gone point Argument = tt
none-gone point (Port buffer offset) = tt
none-gone point (Win reducer buffer from to number) = tt
none-gone point (One op a) = tt
none-gone point (Two op a b) = tt
none-gone point (If c a b) = tt

pub all-left : (point : ℤ) (block : Block) → AllByRecursion (IsGoneFor [] point) block
all-left point [] = tt
all-left point (i ∷ block) = (none-gone point i, all-left point block)
