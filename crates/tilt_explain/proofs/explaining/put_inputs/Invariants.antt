-- The lines so far, and those of the inputs that are left, are all of them.
use Rattle.std.proofs.Common.{◌≡◌, ◌++◌, map, drop}
use Rattle.tilt_bounds.specs.Margins.{need_of}
use Rattle.tilt_explain.specs.Explain.{input_lines}
use Rattle.tilt_explain.proofs.explaining.put_inputs.Given as goal

abbrev pub invariant-loop-source : goal.invariant-loop-source
invariant-loop-source l =
    l.text.items ++ input_lines (map need_of l.needs) l.source (drop l.source l.names) ≡ l.fn.text.items ++ input_lines (map need_of l.needs) 0 l.names
