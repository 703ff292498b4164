-- What crashes leave of calls of a folder, one after another.
use Rattle.std.proofs.Common.{inl, inr, ⊎_elim, ℕ, arith}
use Rattle.tilt_store.specs.Crash.{LeavesOnly}
use Rattle.tilt_store.specs.Kept.{Kept}

module _ {F : Type 0} (moment : F → ℕ) (left_since : F → ℕ → Kept → Type 0) where
  -- before the first call
  pub leaves-none : (old : F) (P : Kept → Type 0) → ((c : Kept) → left_since old (moment old) c → P c) → LeavesOnly moment left_since old old P
  leaves-none old P here = record { later = omega arith; each = here; before = λ t c le left. inl left }

  -- what has P has Q
  pub leaves-wider : (old new : F) (P Q : Kept → Type 0) → ((c : Kept) → P c → Q c) → LeavesOnly moment left_since old new P → LeavesOnly moment left_since old new Q
  leaves-wider old new P Q wider leaves = record {
    later = leaves.later;
    each = λ c left. wider c (leaves.each c left);
    before = λ t c le left. ⊎_elim (λ was. inl was) (λ p. inr (wider c p)) (leaves.before t c le left);
  }

  -- one call after another
  pub leaves-then : (old mid new : F) (P : Kept → Type 0) → LeavesOnly moment left_since old mid P → LeavesOnly moment left_since mid new P → LeavesOnly moment left_since old new P
  leaves-then old mid new P one more = record {
    later = omega (arith, one.later, more.later);
    each = λ c left. ⊎_elim (one.each c) (λ p. p) (more.before (moment old) c one.later left);
    before = λ t c le left. ⊎_elim (one.before t c le) (λ p. inr p) (more.before t c (omega (arith, le, one.later)) left);
  }
