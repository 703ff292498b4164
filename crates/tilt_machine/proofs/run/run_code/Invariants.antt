use Rattle.std.proofs.Common.{◌≡◌, ◌++◌, [], length, ◌+◌, ◌<◌, drop}
use Rattle.std.specs.List.{AllByRecursion}
use Rattle.tilt_code.specs.Body.{last_or}
use Rattle.tilt_code.specs.Grammar.{IsLoop}
use Rattle.tilt_code.specs.References.{ReadsBefore}
use Rattle.tilt_code.specs.Run.{with_buffers, run_of}
use Rattle.tilt_machine.proofs.run.run_code.Given as goal

abbrev pub invariant-loop-each : goal.invariant-loop-each
invariant-loop-each l =
    let rest = drop l.each-index l.each-items in
    record {
      some : 0 < length l.made.items + length rest;
      loops : AllByRecursion IsLoop rest;
      references : ReadsBefore (length (l.inputs ++ l.made.items)) rest;
      made : last_or [] (with_buffers (l.inputs ++ l.made.items) rest) ≡ run_of l.code l.inputs;
    }
