use Rattle.std.proofs.Common.{◌≡◌, ◌<◌, ℕ, length, get_or, None, []}
use Rattle.tilt_engine.specs.Forgetting.{kept_lists}
use Rattle.tilt_engine.specs.Wanted.{IsUnread}
use Rattle.tilt_engine.proofs.forgetting.count_unread.Given as goal

abbrev pub invariant-loop-number : goal.invariant-loop-number
invariant-loop-number l = record {
  many : length l.counts.items ≡ l.number;
  each : (k : ℕ) → k < l.number
      → IsUnread (get_or l.firsts k None) (get_or (kept_lists l.stock.inputs.items l.stock.loops.items) k []) (get_or l.counts.items k 0);
}
