use Rattle.std.proofs.Common.{◌≡◌, ◌-◌, ◌++◌}
use Rattle.jiff_core.specs.Timestamp.{IsTimestampNanos}
use Rattle.tilt_zones.specs.Table.{next_transitions, transitions_of}
use Rattle.tilt_zones.specs.declared.read.TheConstants.{MOST}
use Rattle.tilt_zones.proofs.read.next_transitions.Given as goal

-- those that were found, and those after them, are the transitions of the table
abbrev pub invariant-loop : goal.invariant-loop
invariant-loop l = record {
  range : IsTimestampNanos l.at.0;
  all : l.transitions.items ++ next_transitions (MOST - l.counter) l.table l.at.0 ≡ transitions_of l.table;
}
