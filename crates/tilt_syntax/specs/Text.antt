-- Which query a text is, and why a text is none (our own rule).
use Rattle.std.specs.Prelude.{ℕ, List}
use Rattle.tilt_lexer.specs.Tokens.{AreTokens, IsFaultyAt}
use Rattle.tilt_lexer.specs.declared.fault.LexFault.{LexFault}
use Rattle.tilt_lexer.specs.declared.fault.LexFault.TheVariants as lexical
use Rattle.tilt_lexer.specs.declared.token.Token.{Token}
use Rattle.tilt_syntax.specs.Query.{kinds, IsQueryOf, IsRefused}
use Rattle.tilt_syntax.specs.Tree.{StatementTree}
use Rattle.tilt_syntax.specs.declared.fault.SyntaxFault.{SyntaxFault}
use Rattle.tilt_syntax.specs.declared.fault.SyntaxFault.TheVariants as syntax
use Rattle.tilt_syntax.specs.declared.fault.TextFault.{TextFault}
use Rattle.tilt_syntax.specs.declared.fault.TextFault.TheVariants as fault

-- the bytes have tokens, and those are the query
pub record IsQueryText (bytes : List ℕ) (query : List StatementTree) : Type 0 where
  pub tokens : List Token
  pub lexed : AreTokens 0 bytes tokens
  pub parsed : IsQueryOf (kinds tokens) query

-- the bytes are no query, for this fault: the fault of their first faulty place, or if they have tokens, the fault of those
pub data IsRefusedText : List ℕ → TextFault → Type 0 where
  no_tokens : {bytes : List ℕ} {f : LexFault} → IsFaultyAt 0 bytes f → IsRefusedText bytes (fault.Lexical f)
  no_query : {bytes : List ℕ} {f : SyntaxFault} (tokens : List Token) → AreTokens 0 bytes tokens → IsRefused (kinds tokens) f
      → IsRefusedText bytes (fault.Refused f)

-- the faults of both, as faults of a text
abbrev pub of_place : LexFault → TextFault
of_place lexical.OutOfMemory = fault.OutOfMemory
of_place f = fault.Lexical f

abbrev pub of_tokens : SyntaxFault → TextFault
of_tokens syntax.OutOfMemory = fault.OutOfMemory
of_tokens f = fault.Refused f
