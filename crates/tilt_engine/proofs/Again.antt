-- The states of which the first ones look again.
use Rattle.std.proofs.Common.{◌≡◌, ◌<◌, ◌≤◌, ◌+◌, ℕ, List, length, slice_get, slice_set, Some, refl, sym, ◌∙◌, subst, arith, inl, inr}
use Rattle.std.proofs.lemmas.Bool.{cases_eq}
use Rattle.std.proofs.lemmas.List.{length-set}
use Rattle.std.proofs.lemmas.Option.{same_Some}
use Rattle.circular_buffer.proofs.Places.{slice_get-set_other, slice_get-set_same}
use Rattle.tilt_engine.specs.Looking.{LooksAgain}
use Rattle.tilt_turn.specs.declared.state.LoopState.{LoopState}

-- the first ones, as many as that, look again, and the others are as they were
pub record HaveLooked (count : ℕ) (old new : List LoopState) : Type 0 where
  pub many : length new ≡ length old
  pub first : (k : ℕ) (state after : LoopState) → k < count → slice_get old k ≡ Some state → slice_get new k ≡ Some after → LooksAgain state after
  pub rest : (k : ℕ) → count ≤ k → slice_get new k ≡ slice_get old k

pub none-looked : (old : List LoopState) → HaveLooked 0 old old
none-looked old = record { many = refl; first = λ k state after below is at. absurd (omega arith); rest = λ k le. refl }

-- one more
pub one-looked : (count : ℕ) (old new : List LoopState) (state after : LoopState) → HaveLooked count old new → count < length new
    → slice_get new count ≡ Some state → LooksAgain state after → HaveLooked (count + 1) old (slice_set new count after)
one-looked count old new state after h within at looks = record {
  many = length-set new count after ∙ h.many;
  first = λ k s t below is at_k. by k s t below is at_k;
  rest = λ k le. slice_get-set_other new count k after (omega arith) ∙ h.rest k (omega arith);
}
  where
    by : (k : ℕ) (s t : LoopState) → k < count + 1 → slice_get old k ≡ Some s → slice_get (slice_set new count after) k ≡ Some t → LooksAgain s t
    by k s t below is at_k =
        elim (cases_eq k count) as (λ _. LooksAgain s t) [
          | inl same ↦ (
              let here : slice_get (slice_set new count after) count ≡ Some t = subst (λ (n : ℕ). slice_get (slice_set new count after) n ≡ Some t) same at_k in
              let now : after ≡ t = same_Some after t (sym (slice_get-set_same new count after within) ∙ here) in
              let was : state ≡ s = same_Some state s
              (sym at ∙ h.rest count (omega arith) ∙ subst (λ (n : ℕ). slice_get old n ≡ Some s) same is) in
              subst (LooksAgain s) now (subst (λ (x : LoopState). LooksAgain x after) was looks))
          | inr apart ↦ h.first k s t (omega arith) is (sym (slice_get-set_other new count k after apart) ∙ at_k)
        ]
