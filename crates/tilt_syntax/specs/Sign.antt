-- How an operator is written, by what the printer has of it.
use Rattle.std.specs.Prelude.{◌≡◌, Option, Some, None, ⊤}
use Rattle.tilt_syntax.specs.Grammar.{Infix}
use Rattle.tilt_syntax.specs.Printing.{sign_text}
use Rattle.tilt_syntax.specs.declared.printer.Infix as printer

-- the operator is written so between its operands, or is written as a call
abbrev pub IsWritten : Option Infix → Option printer.Infix → Type 0
IsWritten None None = ⊤
IsWritten None (Some w) = ⊥
IsWritten (Some i) None = ⊥
IsWritten (Some i) (Some w) = w.sign.now ≡ sign_text i.sign × w.level ≡ i.level × w.left ≡ i.left × w.right ≡ i.right
