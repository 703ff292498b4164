-- The faults of a text's tokens, as faults of a pipeline.
use Rattle.tilt_lexer.specs.declared.fault.LexFault.{LexFault}
use Rattle.tilt_lexer.specs.declared.fault.LexFault.TheVariants as lexical
use Rattle.tilt_operators.specs.declared.fault.FlowFault.{FlowFault}
use Rattle.tilt_operators.specs.declared.fault.FlowFault.TheVariants as fault

abbrev pub of_place : LexFault → FlowFault
of_place (lexical.BadByte at) = fault.BadByte at
of_place (lexical.BigNumber at) = fault.BigNumber at
of_place lexical.OutOfMemory = fault.OutOfMemory
