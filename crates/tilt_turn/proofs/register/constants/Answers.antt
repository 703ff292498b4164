use Rattle.std.proofs.Common.{◌≡◌, pos, [], ◌∷◌, ◌++◌, take, get_or}
use Rattle.std.proofs.lemmas.List.{take_more}
use Rattle.tilt_code.specs.declared.instr.Instr.TheVariants.{Const}
use Rattle.tilt_turn.proofs.Registers.{stand-push}
use Rattle.tilt_turn.proofs.register.constants.Goals as goal

pub loop-instr-preserved : goal.loop-instr-preserved
loop-instr-preserved c =
    let i = c.loop-instr.instr-index in
    let block = c.args.block.now in
    let more = take_more block i (Const (pos 0)) c.loop-instr-test.true in
    let pushed : c.push.new.self.items ≡ c.loop-instr.registers.items ++ c.constant.result ∷ [] = c.in_ok-push.ensures.items in
    rw (more, pushed) (stand-push (take i block) c.loop-instr.registers.items (get_or block i (Const (pos 0))) c.constant.result
    c.loop-instr.invariant c.constant.ensures)
