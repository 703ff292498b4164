use Rattle.std.proofs.Common.{◌≡◌, ◌-◌, ◌+◌, pos, drop, arith}
use Rattle.std.proofs.lemmas.List.{drop_more}
use Rattle.std.proofs.lemmas.List.Elements.{All-from_recursion}
use Rattle.tilt_code.specs.declared.instr.Instr.TheVariants.{Const}
use Rattle.tilt_pipe.specs.Reads.{body_reads}
use Rattle.tilt_turn.specs.Ready.{IsReadable}
use Rattle.tilt_pipe.proofs.sources.body_sources.Goals as goal

pub add_instr-requires : goal.add_instr-requires
add_instr-requires c =
    let number = c.loop-number.number - 1 in
    let readable = IsReadable c.requires.0 c.requires.1 in (
      c.requires.0,
      c.requires.1,
      All-from_recursion readable c.args.body.now c.requires.2 number (Const (pos 0)) (omega arith),
      omega (arith, c.requires.3),
    )

pub loop-number-preserved : goal.loop-number-preserved
loop-number-preserved c =
    let body = c.args.body.now in
    let n = c.loop-number.number - 1 in
    let next : n + 1 ≡ c.loop-number.number = omega arith in
    rw (drop_more body n (Const (pos 0)) (omega arith), next)
    (c.in_ok-add_instr.ensures (body_reads (drop c.loop-number.number body)) c.loop-number.invariant)
