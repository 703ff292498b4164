use Rattle.std.proofs.Common.{◌≡◌, ◌∙◌, ℕ, List, [], length, ap, sym, subst, arith}
use Rattle.std.proofs.lemmas.List.{length_push}
use Rattle.std.specs.Global.{Vec}
use Rattle.tilt_pipe.proofs.Starts.{empty-push}
use Rattle.tilt_pipe.specs.Chain.{held_in}
use Rattle.tilt_pipe.proofs.starting.empty_lists.Goals as goal

pub loop-preserved : goal.loop-preserved
loop-preserved c =
    let is = c.in_ok-push.ensures.items in
    let old = c.loop.invariant in
    record {
      many = omega (arith, ap length is ∙ length_push c.loop.lists.items c.new.result, old.many);
      none = subst (λ (lists : List (Vec ℕ)). (place : ℕ) → held_in lists place ≡ []) (sym is)
          (empty-push c.loop.lists.items c.new.result c.new.ensures.items old.none);
    }
