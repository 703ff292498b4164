-- Registers, one instruction after the other.
use Rattle.std.proofs.Common.{◌≡◌, ◌≢◌, ◌<◌, ◌≤◌, ℕ, zero, suc, ℤ, pos, ◌+◌, true, false, inl, inr, List, [], ◌∷◌, ◌++◌, length, get_or, take, slice_get, ◌-◌, Option, Some, None}
use Rattle.std.proofs.Common.{refl, sym, ap, ◌∙◌, subst, arith, append_assoc}
use Rattle.std.proofs.Math.ListN.{set}
use Rattle.std.proofs.lemmas.Bool.{cases_Bool}
use Rattle.std.proofs.lemmas.List.{append-nil, get_or-set_other, get_or-take, length_push, set_at, take-append-le, take_all}
use Rattle.std.proofs.lemmas.Option.{same_Some}
use Rattle.std.specs.List.{AllByRecursion}
use Rattle.tilt_code.specs.Body.{instr_cell, last_or, with_registers}
use Rattle.tilt_code.specs.Code.{Block}
use Rattle.tilt_code.specs.declared.instr.Instr.{Instr}
use Rattle.tilt_code.specs.declared.instr.Instr.TheVariants.{Const, Null, Argument, Port, Win, One, Two, If}
use Rattle.tilt_turn.proofs.Picked.{IsPicked, picked-all}
use Rattle.tilt_turn.specs.Held.{ConstantsStand, IsStanding}
use Rattle.tilt_turn.specs.Picked.{AreRead, IsWithin, computed_by, computes, picked, reads}
use Rattle.tilt_turn.specs.Ready.{NamesBelow, NameEarlier}
use Rattle.tilt_turn.specs.declared.computed.Listed.{Listed}

-- there is a register for each instruction
pub stand-length : (block : Block) (cells : List (Option ℤ)) → ConstantsStand block cells → length cells ≡ length block
stand-length [] [] stand = refl
stand-length [] (cell ∷ cells) stand = absurd stand
stand-length (i ∷ block) [] stand = absurd stand
stand-length (i ∷ block) (cell ∷ cells) stand = ap suc (stand-length block cells stand.1)

-- where a register is written as its instruction has it, constants stand still
pub stand-set : (block : Block) (cells : List (Option ℤ)) (n : ℕ) (d : Instr) (cell : Option ℤ) → ConstantsStand block cells
    → IsStanding (get_or block n d) cell → ConstantsStand block (set cells n cell)
stand-set [] [] n d cell stand new = tt
stand-set [] (other ∷ cells) n d cell stand new = absurd stand
stand-set (i ∷ block) [] n d cell stand new = absurd stand
stand-set (i ∷ block) (other ∷ cells) zero d cell stand new = (new, stand.1)
stand-set (i ∷ block) (other ∷ cells) (suc n) d cell stand new = (stand.0, stand-set block cells n d cell stand.1 new)

pub stand-push : (block : Block) (cells : List (Option ℤ)) (i : Instr) (cell : Option ℤ) → ConstantsStand block cells → IsStanding i cell
    → ConstantsStand (block ++ i ∷ []) (cells ++ cell ∷ [])
stand-push [] [] i cell stand new = (new, tt)
stand-push [] (other ∷ cells) i cell stand new = absurd stand
stand-push (first ∷ block) [] i cell stand new = absurd stand
stand-push (first ∷ block) (other ∷ cells) i cell stand new = (stand.0, stand-push block cells i cell stand.1 new)

-- what an instruction gives may be in its register
gives-standing : (leaf : Instr → Option ℤ) → leaf Argument ≡ None → (cells : List (Option ℤ)) (i : Instr)
    → IsStanding i (instr_cell leaf cells i)
gives-standing leaf none cells (Const number) = refl
gives-standing leaf none cells Null = refl
gives-standing leaf none cells Argument = none
gives-standing leaf none cells (Port buffer offset) = tt
gives-standing leaf none cells (Win reducer buffer from to number) = tt
gives-standing leaf none cells (One op a) = tt
gives-standing leaf none cells (Two op a b) = tt
gives-standing leaf none cells (If c a b) = tt

-- so constants are in the registers of a block
pub registers-stand : (leaf : Instr → Option ℤ) → leaf Argument ≡ None → (done : Block) (cells : List (Option ℤ)) (block : Block)
    → ConstantsStand done cells → ConstantsStand (done ++ block) (with_registers leaf cells block)
registers-stand leaf none done cells [] stand = rw append-nil stand
registers-stand leaf none done cells (i ∷ block) stand =
    let cell = instr_cell leaf cells i in
    subst (λ (all : Block). ConstantsStand all (with_registers leaf (cells ++ cell ∷ []) block)) (append_assoc done (i ∷ []) block)
    (registers-stand leaf none (done ++ i ∷ []) (cells ++ cell ∷ []) block (stand-push done cells i cell stand (gives-standing leaf none cells i)))

-- any cell may stand where a buffer is read
pub reads-stand : (i : Instr) (cell : Option ℤ) → reads i ≡ true → IsStanding i cell
reads-stand (Const number) cell by = cc
reads-stand Null cell by = cc
reads-stand Argument cell by = cc
reads-stand (Port buffer offset) cell by = tt
reads-stand (Win reducer buffer from to number) cell by = tt
reads-stand (One op a) cell by = tt
reads-stand (Two op a b) cell by = tt
reads-stand (If c a b) cell by = tt

-- an instruction that names registers below a number names them below a greater one
names-more : (n m : ℕ) (i : Instr) → n ≤ m → NamesBelow n i → NamesBelow m i
names-more n m (Const number) more names = tt
names-more n m Null more names = tt
names-more n m Argument more names = tt
names-more n m (Port buffer offset) more names = tt
names-more n m (Win reducer buffer from to number) more names = tt
names-more n m (One op a) more names = omega arith
names-more n m (Two op a b) more names =
    let first = names.0 in
    let second = names.1 in
    (omega arith, omega arith)
names-more n m (If c a b) more names =
    let first = names.0 in
    let second = names.1 in
    let third = names.2 in
    (omega arith, omega arith, omega arith)

-- so each instruction of a block names some of all its registers
names-at : (n first : ℕ) (block : Block) (k : ℕ) (d : Instr) → NameEarlier first block → k < length block → first + length block ≤ n
    → NamesBelow n (get_or block k d)
names-at n first [] k d names within all = absurd (omega arith)
names-at n first (i ∷ block) zero d names within all = names-more first n i (omega arith) names.0
names-at n first (i ∷ block) (suc k) d names within all = names-at n (suc first) block k d names.1 (omega arith) (omega arith)

pub computed-within : (n : ℕ) (body : Block) → NameEarlier 0 body → length body ≤ n → AllByRecursion (IsWithin n) (picked computes 0 body)
computed-within n body names all =
    picked-all computes (IsWithin n) 0 body (Const (pos 0))
    (λ k m is within by. (omega arith, names-at n 0 body k (Const (pos 0)) names within (omega arith)))

-- and the other registers don't matter to it
pub cell-before : (leaf : Instr → Option ℤ) (cells : List (Option ℤ)) (n : ℕ) (i : Instr) → NamesBelow n i
    → instr_cell leaf cells i ≡ instr_cell leaf (take n cells) i
cell-before leaf cells n (Const number) names = refl
cell-before leaf cells n Null names = refl
cell-before leaf cells n Argument names = refl
cell-before leaf cells n (Port buffer offset) names = refl
cell-before leaf cells n (Win reducer buffer from to number) names = refl
cell-before leaf cells n (One op a) names = rw (get_or-take n cells a None names) refl
cell-before leaf cells n (Two op a b) names = rw (get_or-take n cells a None names.0, get_or-take n cells b None names.1) refl
cell-before leaf cells n (If c a b) names =
    rw (get_or-take n cells c None names.0, get_or-take n cells a None names.1, get_or-take n cells b None names.2) refl

-- what is in the register of an instruction that isn't computed is what it gives
stands-given : (leaf : Instr → Option ℤ) → leaf Argument ≡ None → (i : Instr) (cell : Option ℤ) (cells : List (Option ℤ)) → computes i ≡ false
    → IsStanding i cell → (reads i ≡ true → cell ≡ leaf i) → cell ≡ instr_cell leaf cells i
stands-given leaf none (Const number) cell cells failed stands read = stands
stands-given leaf none Null cell cells failed stands read = stands
stands-given leaf none Argument cell cells failed stands read = stands ∙ sym none
stands-given leaf none (Port buffer offset) cell cells failed stands read = read refl
stands-given leaf none (Win reducer buffer from to number) cell cells failed stands read = read refl
stands-given leaf none (One op a) cell cells failed stands read = cc
stands-given leaf none (Two op a b) cell cells failed stands read = cc
stands-given leaf none (If c a b) cell cells failed stands read = cc

-- leaves don't matter to one that is computed
computed-alike : (f g : Instr → Option ℤ) (i : Instr) (cells : List (Option ℤ)) → computes i ≡ true → instr_cell f cells i ≡ instr_cell g cells i
computed-alike f g (Const number) cells passed = refl
computed-alike f g Null cells passed = refl
computed-alike f g Argument cells passed = cc
computed-alike f g (Port buffer offset) cells passed = cc
computed-alike f g (Win reducer buffer from to number) cells passed = cc
computed-alike f g (One op a) cells passed = refl
computed-alike f g (Two op a b) cells passed = refl
computed-alike f g (If c a b) cells passed = refl

-- where constants stand, and what reads buffers is read, what is computed makes the registers those of the block
pub computed-all : (leaf : Instr → Option ℤ) → leaf Argument ≡ None → (before cells : List (Option ℤ)) (n : ℕ) (block : Block) → length before ≡ n
    → ConstantsStand block cells → AreRead leaf block cells → NameEarlier n block
    → computed_by (picked computes n block) (before ++ cells) ≡ with_registers leaf before block
computed-all leaf none before [] n [] is stand read names = append-nil before
computed-all leaf none before (cell ∷ cells) n [] is stand read names = absurd stand
computed-all leaf none before [] n (i ∷ block) is stand read names = absurd stand
computed-all leaf none before (cell ∷ cells) n (i ∷ block) is stand read names =
    let given = instr_cell leaf before i in
    let all = before ++ cell ∷ cells in
    let more = length_push before given in
    let rest = computed-all leaf none (before ++ given ∷ []) cells (suc n) block (omega arith) stand.1
    (λ k within by. read (suc k) (omega arith) by) names.1 in
    let joined : (before ++ given ∷ []) ++ cells ≡ before ++ given ∷ cells = append_assoc before (given ∷ []) cells in
    elim (cases_Bool (computes i)) [
      | inl passed ↦
          let first : take n all ≡ before = take-append-le n before (cell ∷ cells) (omega arith) ∙ take_all n before (omega arith) in
          let value : instr_cell (λ other. None) all i ≡ given =
          computed-alike (λ other. None) leaf i all passed ∙ cell-before leaf all n i names.0 ∙ ap (λ front. instr_cell leaf front i) first in
          let written : set all n (instr_cell (λ other. None) all i) ≡ (before ++ given ∷ []) ++ cells =
          set_at before cell cells (instr_cell (λ other. None) all i) n is ∙ ap (λ c. before ++ c ∷ cells) value ∙ sym joined in
          rw passed (ap (computed_by (picked computes (suc n) block)) written ∙ rest)
      | inr failed ↦
          let same : cell ≡ given = stands-given leaf none i cell before failed stand.0 (read zero (omega arith)) in
          rw failed (ap (λ c. computed_by (picked computes (suc n) block) (before ++ c ∷ cells)) same
          ∙ ap (computed_by (picked computes (suc n) block)) (sym joined) ∙ rest)
    ]

-- what reads a buffer isn't computed
reads-apart : (i : Instr) → reads i ≡ true → computes i ≡ true → ⊥
reads-apart (Const number) by passed = cc
reads-apart Null by passed = cc
reads-apart Argument by passed = cc
reads-apart (Port buffer offset) by passed = cc
reads-apart (Win reducer buffer from to number) by passed = cc
reads-apart (One op a) by passed = cc
reads-apart (Two op a b) by passed = cc
reads-apart (If c a b) by passed = cc

-- so its register stays as it is
pub computed-apart : (P : Instr → Type 0) (body : Block) (listed : List Listed) (cells : List (Option ℤ)) (n : ℕ)
    → AllByRecursion (IsPicked computes P body) listed → reads (get_or body n (Const (pos 0))) ≡ true
    → get_or (computed_by listed cells) n None ≡ get_or cells n None
computed-apart P body [] cells n all by = refl
computed-apart P body (i ∷ rest) cells n all by =
    let is = all.0 in
    let cell = instr_cell (λ leaf. None) cells i.instr in
    let apart : n ≢ i.place = λ same.
    reads-apart i.instr (ap reads (sym is.from ∙ ap (λ k. get_or body k (Const (pos 0))) (sym same)) ∙ by) is.passes in
    computed-apart P body rest (set cells i.place cell) n all.1 by ∙ get_or-set_other cells i.place n cell None apart

-- the last register is one place before the end
last_or-get : (cell : Option ℤ) (cells : List (Option ℤ)) → slice_get (cell ∷ cells) (length (cell ∷ cells) - 1) ≡ Some (last_or cell cells)
last_or-get cell [] = refl
last_or-get cell (next ∷ cells) =
    let place : length (cell ∷ next ∷ cells) - 1 ≡ suc (length (next ∷ cells) - 1) = omega arith in
    ap (slice_get (cell ∷ next ∷ cells)) place ∙ last_or-get next cells

pub last-read : (cells : List (Option ℤ)) (cell : Option ℤ) → Some cell ≡ slice_get cells (length cells - 1) → cell ≡ last_or None cells
last-read [] cell is = cc
last-read (first ∷ cells) cell is = same_Some cell (last_or first cells) (is ∙ last_or-get first cells)
