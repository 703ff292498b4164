-- The query in units that a text is (our own rule): before it is translated to whole numbers.
use Rattle.std.specs.Prelude.{◌≡◌, ℕ, ◌++◌, List, Ok, None}
use Rattle.tilt_core.specs.Core.{CoreParts}
use Rattle.tilt_input_scales.specs.Scales.{ScalesValue}
use Rattle.tilt_lexer.specs.Tokens.{AreTokens}
use Rattle.tilt_lexer.specs.declared.token.Token.{Token}
use Rattle.tilt_syntax.specs.Query.{IsQueryOf, kinds}
use Rattle.tilt_syntax.specs.Tree.{StatementTree}
use Rattle.tilt_types.specs.Checked.{checked}
use Rattle.tilt_units.specs.Translation.{UnitDefinition}
use Rattle.tilt_unit_text.specs.Numbers.{noted}
use Rattle.tilt_unit_text.specs.Places.{counted, query_fault}
use Rattle.tilt_unit_text.specs.Points.{points_of, without_points}
use Rattle.tilt_unit_text.specs.Units.{scales_for, unit_definitions}
use Rattle.tilt_unit_text.specs.declared.written.Written.{Written}

-- a query in units: the names of its inputs, their scales, and its definitions, of which the last one is emitted
pub record QueryInUnits : Type 0 where
  pub inputs : List (List ℕ)
  pub scales : List ℕ
  pub defs : List UnitDefinition

-- a text is the query in units, if its inputs have these scales. It is read as any query, without its points, and a second time with each
-- number as its count. A literal is the number that the text has there
pub record IsInUnits (scales : ScalesValue) (text : List ℕ) (said : QueryInUnits) : Type 0 where
  pub tokens : List Token
  pub are : AreTokens 0 (without_points text) tokens
  pub numbers : List Written
  pub written : noted (points_of text) tokens ≡ Ok numbers
  pub query : List StatementTree
  pub parsed : IsQueryOf (kinds tokens) query
  pub core : CoreParts
  pub well_formed : checked query ≡ Ok core
  pub places : List StatementTree
  pub placed : IsQueryOf (counted 0 (kinds tokens)) places
  pub whole_ticks : query_fault numbers places ≡ None
  pub inputs : said.inputs ≡ core.inputs
  pub scaled : said.scales ≡ scales_for scales core.inputs
  pub defs : said.defs ≡ unit_definitions (core.inputs ++ core.names) numbers places core.defs
