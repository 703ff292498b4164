-- The instructions of a body that pass a test, each with the number of its register.
use Rattle.std.proofs.Common.{◌≡◌, ◌<◌, ◌+◌, ℕ, zero, suc, pos, Bool, true, inl, inr, List, [], ◌∷◌, ◌++◌, length, get_or, refl, ap, subst, arith}
use Rattle.std.proofs.lemmas.Bool.{cases_Bool}
use Rattle.std.proofs.lemmas.List.{get_or_default}
use Rattle.std.specs.List.{AllByRecursion}
use Rattle.tilt_base.proofs.Lists.{all-at}
use Rattle.tilt_code.specs.Code.{Block}
use Rattle.tilt_code.specs.declared.instr.Instr.{Instr}
use Rattle.tilt_code.specs.declared.instr.Instr.TheVariants.{Const}
use Rattle.tilt_turn.specs.Picked.{picked}
use Rattle.tilt_turn.specs.declared.computed.Listed.{Listed}

-- what holds at each place whose instruction passes holds of all that are picked
pub picked-all : (test : Instr → Bool) (P : Listed → Type 0) (first : ℕ) (block : Block) (d : Instr)
    → ((k n : ℕ) → n ≡ first + k → k < length block → test (get_or block k d) ≡ true → P (record { place = n; instr = get_or block k d }))
    → AllByRecursion P (picked test first block)
picked-all test P first [] d each = tt
picked-all test P first (i ∷ block) d each =
    let rest = picked-all test P (suc first) block d (λ k n is within by. each (suc k) n (omega arith) (omega arith) by) in
    elim (cases_Bool (test i)) [
      | inl is ↦ rw is (each zero first (omega arith) (omega arith) is, rest)
      | inr none ↦ rw none rest
    ]

-- of one instruction more, what is picked is what was, and that one where it passes
pub picked-push : (test : Instr → Bool) (first n : ℕ) (block : Block) (i : Instr) → n ≡ first + length block
    → picked test first (block ++ i ∷ []) ≡ picked test first block ++ picked test n (i ∷ [])
picked-push test first n [] i is =
    let here : first ≡ n = omega arith in
    ap (λ (m : ℕ). picked test m (i ∷ [])) here
picked-push test first n (x ∷ block) i is =
    let rest = picked-push test (suc first) n block i (omega arith) in
    elim (cases_Bool (test x)) [
      | inl passed ↦ rw passed (ap (λ (all : List Listed). record { place = first; instr = x } ∷ all) rest)
      | inr failed ↦ rw failed rest
    ]

-- what is known of one that is picked of a body, of whose instructions something holds
pub record IsPicked (test : Instr → Bool) (P : Instr → Type 0) (body : Block) (i : Listed) : Type 0 where
  pub within : i.place < length body
  pub from : get_or body i.place (Const (pos 0)) ≡ i.instr
  pub passes : test i.instr ≡ true
  pub holds : P i.instr

pub all-picked : (test : Instr → Bool) (P : Instr → Type 0) (body : Block) → AllByRecursion P body
    → AllByRecursion (IsPicked test P body) (picked test 0 body)
all-picked test P body all =
    picked-all test (IsPicked test P body) 0 body (Const (pos 0))
    (λ k n is within by.
    let here : k ≡ n = omega arith in
    subst (λ (m : ℕ). IsPicked test P body (record { place = m; instr = get_or body k (Const (pos 0)) })) here (record {
      within = within;
      from = refl;
      passes = by;
      holds = all-at P body k _ all within (get_or_default body k (Const (pos 0)) (get_or body k (Const (pos 0))) within);
    }))
