use Rattle.std.proofs.Common.{rules}
use Rattle.tilt_fuse.proofs.Shifted.{moved-none}
use Rattle.tilt_fuse.proofs.shift.+moved.Goals as goal
use Rattle.tilt_fuse.proofs.shift.+moved.Goals.{in-Const, in-Port, in-Win, in-None, in-Some+in_ok-moved-in-Some+in_ok-new-in-Some, in-Argument, in-One+in_ok-moved-in-One+in_ok-new-in-One}
use Rattle.tilt_fuse.proofs.shift.+moved.Goals.{in-Two+in_ok-moved-in-Two+in_ok-a-in-Two+in_ok-moved-in-Two-2+in_ok-b-in-Two}
use Rattle.tilt_fuse.proofs.shift.+moved.Goals.{in-If+in_ok-moved-in-If+in_ok-c-in-If+in_ok-moved-in-If-2+in_ok-a-in-If+in_ok-moved-in-If-3+in_ok-b-in-If}

pub returns : goal.returns
returns t c = elim c.match-tree.branch [
  | in-Const w ↦ search rules
  | in-Port w ↦ search rules
  | in-Win w ↦ elim w.match-map.branch [
    | in-None v ↦ search rules
    | in-Some+in_ok-moved-in-Some+in_ok-new-in-Some v ↦ search (rules, moved-none)
  ]
  | in-Argument w ↦ search rules
  | in-One+in_ok-moved-in-One+in_ok-new-in-One w ↦ search rules
  | in-Two+in_ok-moved-in-Two+in_ok-a-in-Two+in_ok-moved-in-Two-2+in_ok-b-in-Two w ↦ search rules
  | in-If+in_ok-moved-in-If+in_ok-c-in-If+in_ok-moved-in-If-2+in_ok-a-in-If+in_ok-moved-in-If-3+in_ok-b-in-If w ↦ search rules
]
