-- Streams that take each tick by itself: constants, shifts and the scalar operators (after the TiLT paper's temporal expressions; marks
-- are our own rule). A mark is where one of the operands has one, the branch that isn't chosen included.
use Rattle.std.specs.Prelude.{ℤ, ◌+ℤ◌, false, ◌||◌, Option, None}
use Rattle.tilt_base.specs.declared.operator.Op1.{Op1}
use Rattle.tilt_base.specs.declared.operator.Op2.{Op2}
use Rattle.tilt_base.specs.Scalar.{apply1, apply2, choose}
use Rattle.tilt_stream.specs.Stream.{Stream}

-- a cell at every tick, and no mark
abbrev pub constant : Option ℤ → Stream
constant cell = record { cell = λ tick. cell; mark = λ tick. false }

-- null at every tick
abbrev pub nothing : Stream
nothing = constant None

-- the stream as it is so many ticks later
abbrev pub shifted : Stream → ℤ → Stream
shifted x offset = record { cell = λ tick. x.cell (tick +ℤ offset); mark = λ tick. x.mark (tick +ℤ offset) }

-- an operator on one stream
abbrev pub lifted1 : Op1 → Stream → Stream
lifted1 op x = record { cell = λ tick. apply1 op (x.cell tick); mark = x.mark }

-- an operator on two streams
abbrev pub lifted2 : Op2 → Stream → Stream → Stream
lifted2 op x y = record { cell = λ tick. apply2 op (x.cell tick) (y.cell tick); mark = λ tick. x.mark tick || y.mark tick }

-- `if c then x else y`
abbrev pub branched : Stream → Stream → Stream → Stream
branched c x y = record {
  cell = λ tick. choose (c.cell tick) (x.cell tick) (y.cell tick);
  mark = λ tick. c.mark tick || x.mark tick || y.mark tick;
}
