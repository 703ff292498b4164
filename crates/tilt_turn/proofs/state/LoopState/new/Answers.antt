use Rattle.std.proofs.Common.{◌≡◌, ◌∙◌, ap, length}
use Rattle.tilt_code.specs.Code.{LoopParts}
use Rattle.tilt_turn.proofs.Origins.{origin-holds}
use Rattle.tilt_turn.proofs.Placing.{unread-placed}
use Rattle.tilt_turn.proofs.Stepwise.{all-weaker}
use Rattle.tilt_turn.specs.Held.{IsPlacedBy, IsUnread}
use Rattle.tilt_turn.specs.Ready.{IsReadable}
use Rattle.tilt_turn.proofs.state.LoopState.new.Goals as goal

pub returns : goal.returns
returns c =
    let parts = c.args.each.now in
    let body = ap (λ (l : LoopParts). l.body) c.each.view_is in
    let first : c.deref.result.now ≡ parts.body = c.deref.ensures.value ∙ body in
    let second : c.deref-2.result.now ≡ parts.body = c.deref-2.ensures.value ∙ body in
    let third : c.deref-3.result.now ≡ parts.body = c.deref-3.ensures.value ∙ body in
    let made = rw second at c.in_ok-leaves.ensures in
    let cells = c.in_ok-registers.registers.items in
    λ lists point ready low. record {
      all = made.all;
      leaves = all-weaker (IsUnread parts.body) (IsPlacedBy lists parts.maps parts.body cells point) _
          (λ own unread. unread-placed lists parts.maps parts.body point cells own unread
          (origin-holds (IsReadable (length lists) (length parts.maps)) parts.body own ready.leaves unread.places) low) made.unread;
      computed = rw third at c.in_ok-computed.ensures;
      registers = rw first at c.in_ok-registers.ensures;
    }
