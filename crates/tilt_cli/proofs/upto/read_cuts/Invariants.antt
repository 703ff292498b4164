use Rattle.std.proofs.Common.{length, take}
use Rattle.std.specs.List.{AllZip}
use Rattle.tilt_cli.specs.Upto.{IsCutBinding, cut_bindings_of, parts_of}
use Rattle.tilt_cli.proofs.upto.read_cuts.Given as goal

abbrev pub invariant-loop-part : goal.invariant-loop-part
invariant-loop-part l = AllZip IsCutBinding (take (length l.yielded) (parts_of l.word)) (cut_bindings_of l.cuts.items)
