-- Loop code as plain data (our own rule): without where its parts lie in memory.
use Rattle.std.specs.Prelude.{ℕ, ℤ, List, refl}
use Rattle.std.specs.Coded.{Coded, code_by, coded×, coded_ℤ, coded_list}
use Rattle.tilt_base.specs.Grid.{GridPoints}
use Rattle.tilt_base.specs.contracts.grid.Grid as grid
use Rattle.std.specs.Coded.{coded_ℕ}
use Rattle.tilt_code.specs.contracts.instr.Instr as instr
use Rattle.tilt_code.specs.declared.instr.Instr.{Instr}

-- a block: its instructions in order, each of which fills the register of its own number
abbrev pub Block : Type 0
Block = List Instr

-- a loop: it fills its buffer on `(lo, hi]`, by its body taken on the grid; the windows of the body name its maps by their numbers
pub record LoopParts : Type 0 where
  pub lo : ℤ
  pub hi : ℤ
  pub grid : GridPoints
  pub maps : List Block
  pub body : Block

-- the names of the inputs, and the loops in order; buffers are numbered, first the inputs and then the loops
pub record CodeParts : Type 0 where
  pub inputs : List (List ℕ)
  pub loops : List LoopParts

-- blocks are distinguished instruction by instruction
abbrev pub coded_block : Coded Block
coded_block = coded_list instr.the_row.coded

-- loops are distinguished part by part
abbrev pub coded_loop : Coded LoopParts
coded_loop =
    code_by (ℤ × (ℤ × (GridPoints × (List Block × Block)))) (coded× coded_ℤ
    (coded× coded_ℤ (coded× grid.the_row.coded (coded× (coded_list coded_block) coded_block))))
    (λ l. (l.lo, (l.hi, (l.grid, (l.maps, l.body)))))
    (λ p. record { lo = p.0; hi = p.1.0; grid = p.1.1.0; maps = p.1.1.1.0; body = p.1.1.1.1 })
    (λ _. refl)

-- and codes too
abbrev pub coded_code : Coded CodeParts
coded_code =
    code_by (List (List ℕ) × List LoopParts) (coded× (coded_list (coded_list coded_ℕ))
    (coded_list coded_loop)) (λ c. (c.inputs, c.loops)) (λ p. record { inputs = p.0; loops = p.1 }) (λ _. refl)
