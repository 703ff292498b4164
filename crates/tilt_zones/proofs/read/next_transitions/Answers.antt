use Rattle.std.proofs.Common.{◌≡◌, ℕ, suc, ◌+◌, ◌-◌, ◌<◌, rules, arith, sym}
use Rattle.tilt_zones.proofs.TableLemmas.{all_left, no_more, none_left, one_more}
use Rattle.tilt_zones.specs.declared.read.TheConstants.{MOST}
use Rattle.tilt_zones.proofs.read.next_transitions.Goals as goal

one_less : (count : ℕ) → count < MOST → MOST - count ≡ suc (MOST - (count + 1))
one_less count inside = omega arith

pub loop-init : goal.loop-init
loop-init c = record {
  range = search rules;
  all = all_left c.args.table.now c.new-transitions.result.items c.new-transitions.ensures.items;
}

pub loop-preserved : goal.loop-preserved
loop-preserved c = record {
  range = c.in-Some.next.timestamp.in_range;
  all = one_more c.args.table.now c.loop.at.0 (MOST - c.loop.counter) (MOST - (c.loop.counter + 1)) c.loop.transitions.items
      c.push.new.self.items _ (c.in-Some.next.timestamp.nanosecond, c.in-Some.next.info) (one_less c.loop.counter c.loop-test.true)
      (sym c.in-Some.ensures) (rw (← c.transition_of.ensures) c.in_ok-push.ensures.items) c.loop.invariant.all;
}

pub returns-in_default : goal.returns-in_default
returns-in_default c = none_left c.args.table.now c.loop.at.0 (MOST - c.loop.counter) c.loop.transitions.items _ (sym c.in_default.ensures) c.loop.invariant.all

pub returns : goal.returns
returns c = no_more c.args.table.now c.loop.at.0 (MOST - c.loop.counter) c.loop.transitions.items _ (omega arith) c.loop.invariant.all
