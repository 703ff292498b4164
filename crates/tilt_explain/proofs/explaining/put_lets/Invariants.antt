-- The lines so far, and those of the definitions that are left, are all of them.
use Rattle.std.proofs.Common.{◌≡◌, ◌++◌, length, map, drop}
use Rattle.tilt_bounds.specs.Margins.{need_of}
use Rattle.tilt_explain.specs.Explain.{let_lines}
use Rattle.tilt_explain.proofs.explaining.put_lets.Given as goal

abbrev pub invariant-loop-place : goal.invariant-loop-place
invariant-loop-place l =
    l.text.items ++ let_lines l.loops (map need_of l.needs) (length l.core.inputs) l.place (drop l.place l.core.names) ≡ l.fn.text.items
    ++ let_lines l.loops (map need_of l.needs) (length l.core.inputs) 0 l.core.names
