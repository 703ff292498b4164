-- A line that is cut where it is too long is heard as the whole line is.
use Rattle.std.proofs.Common.{◌≡◌, ℕ, ◌+◌, List, length, nat_lt, refl, ap, take, inl, inr}
use Rattle.std.proofs.lemmas.Bool.{cases_Bool}
use Rattle.tilt_feed_text.proofs.Cutting.{take_long, take_short}
use Rattle.tilt_feed_text.specs.declared.pending.TheConstants.{LINE}
use Rattle.tilt_live_keys.specs.Output.{heard}

pub heard-cut : (number : ℕ) (x : List ℕ) → heard number (take (LINE + 1) x) ≡ heard number x
heard-cut number x =
    elim (cases_Bool (nat_lt LINE (length x))) [
      | inl long ↦ rw (long, take_long LINE x long) refl
      | inr short ↦ ap (heard number) (take_short LINE x short)
    ]
