-- Which loops may be run.
use Rattle.std.proofs.Common.{◌<◌, ℕ, suc, List, [], ◌∷◌, length, Some, None, IsTrue, subst, rules, tests}
use Rattle.std.proofs.lemmas.Option.{same_Some}
use Rattle.std.specs.List.{AllByRecursion}
use Rattle.tilt_code.specs.Code.{Block, LoopParts}
use Rattle.tilt_code.specs.Grammar.{IsInstr, IsLoop, stands_in_body}
use Rattle.tilt_code.specs.References.{refers_below, RefersBack, ReadsBefore}
use Rattle.tilt_code.specs.declared.instr.Instr.{Instr}
use Rattle.tilt_code.specs.declared.instr.Instr.TheVariants.{Const, Null, Argument, Port, Win, One, Two, If}
use Rattle.tilt_turn.specs.Ready.{NamesBelow, NameEarlier, IsReadable, IsReady}

-- an instruction that refers back, and has its numbers within their bounds, names earlier registers and may be read
instr-names : (buffers maps register : ℕ) (i : Instr) → IsTrue (refers_below buffers maps register i) → NamesBelow register i
instr-names buffers maps register (Const number) h = tt
instr-names buffers maps register Null h = tt
instr-names buffers maps register Argument h = tt
instr-names buffers maps register (Port buffer offset) h = tt
instr-names buffers maps register (Win reducer buffer from to number) h = tt
instr-names buffers maps register (One op a) h = search (rules, tests)
instr-names buffers maps register (Two op a b) h = search (rules, tests)
instr-names buffers maps register (If c a b) h = search (rules, tests)

instr-readable : (buffers maps register : ℕ) (i : Instr) → IsInstr i
    → IsTrue (refers_below buffers maps register i) → IsReadable buffers maps i
instr-readable buffers maps register (Const number) n h = tt
instr-readable buffers maps register Null n h = tt
instr-readable buffers maps register Argument n h = tt
instr-readable buffers maps register (Port buffer offset) n h = (search (rules, tests), n.1)
instr-readable buffers maps register (Win reducer buffer from to None) n h =
    (search (rules, tests), record { low = n.low; high = n.high; some_ticks = n.some_ticks; known = λ map is. cc })
instr-readable buffers maps register (Win reducer buffer from to (Some number)) n h =
    let below : number < maps = search (rules, tests) in (
      search (rules, tests),
      record {
        low = n.0.low;
        high = n.0.high;
        some_ticks = n.0.some_ticks;
        known = λ map is. subst (λ (m : ℕ). m < maps) (same_Some number map is) below;
      },
    )
instr-readable buffers maps register (One op a) n h = tt
instr-readable buffers maps register (Two op a b) n h = tt
instr-readable buffers maps register (If c a b) n h = tt

block-names : (buffers maps register : ℕ) (block : Block) → RefersBack buffers maps register block → NameEarlier register block
block-names buffers maps register [] h = tt
block-names buffers maps register (i ∷ block) h =
    (instr-names buffers maps register i h.0, block-names buffers maps (suc register) block h.1)

block-readable : (buffers maps register : ℕ) (block : Block) → AllByRecursion (λ i. IsTrue (stands_in_body i) × IsInstr i) block
    → RefersBack buffers maps register block → AllByRecursion (IsReadable buffers maps) block
block-readable buffers maps register [] n h = tt
block-readable buffers maps register (i ∷ block) n h =
    (instr-readable buffers maps register i n.0.1 h.0, block-readable buffers maps (suc register) block n.1 h.1)

maps-name : (buffers maps : ℕ) (blocks : List Block) → AllByRecursion (RefersBack buffers maps 0) blocks
    → AllByRecursion (NameEarlier 0) blocks
maps-name buffers maps [] h = tt
maps-name buffers maps (block ∷ blocks) h = (block-names buffers maps 0 block h.0, maps-name buffers maps blocks h.1)

-- the next loop of a code may be run over the buffers so far
pub loop-ready : (buffers : ℕ) (l : LoopParts) (loops : List LoopParts) → IsLoop l → ReadsBefore buffers (l ∷ loops) → IsReady buffers l
loop-ready buffers l loops is reads = record {
  stretch = is.stretch;
  grid = is.grid;
  maps = maps-name buffers (length l.maps) l.maps reads.0;
  registers = block-names buffers (length l.maps) 0 l.body reads.1;
  leaves = block-readable buffers (length l.maps) 0 l.body is.body.instrs reads.1;
}
