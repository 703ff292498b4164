use Rattle.std.proofs.Common.{◌≡◌, ℕ, pos, true, get_or, map, below_more, arith}
use Rattle.tilt_code.specs.declared.instr.Instr.TheVariants.{Const}
use Rattle.tilt_turn.specs.Held.{IsAmong, places_of}
use Rattle.tilt_turn.specs.Picked.{reads}
use Rattle.tilt_turn.proofs.placed.leaves_of.Goals as goal

pub loop-place-preserved : goal.loop-place-preserved
loop-place-preserved c =
    let inv = c.loop-place.invariant in
    let ensures = c.in_ok-add_leaf.ensures in
    let body = c.args.body.now in
    record {
      unread = ensures.unread;
      all = below_more (λ (place : ℕ). reads (get_or body place (Const (pos 0))) ≡ true → IsAmong place (map places_of c.add_leaf.new.leaves.items))
          c.loop-place.place (λ place below is. ensures.before place (inv.all place below is)) ensures.here;
    }

pub returns-clause-all : goal.returns-clause-all
returns-clause-all c = λ place within is.
    let test = c.loop-place-test.false in
    c.loop-place.invariant.all place (omega arith) is
