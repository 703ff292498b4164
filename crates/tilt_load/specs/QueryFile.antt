-- What a query file gives: a core, or the first reason why it has none.
use Rattle.std.specs.Prelude.{◌≡◌, ◌<◌, ◌≤◌, List, ℕ, length, Ok, Err}
use Rattle.tilt_base.specs.declared.limits.TheConstants.{FILE}
use Rattle.tilt_bounds.specs.Margins.{MarginsParts, margins_of}
use Rattle.tilt_lexer.specs.Tokens.{AreTokens, IsFaultyAt}
use Rattle.tilt_lexer.specs.declared.fault.LexFault.{LexFault}
use Rattle.tilt_lexer.specs.declared.token.Token.{Token}
use Rattle.tilt_report.specs.Report.{Reason, refusal, file_too_long, too_far, report_of_place, report_of_syntax, report_of_check}
use Rattle.tilt_syntax.specs.Query.{IsQuery, IsQueryOf, IsRefused, kinds}
use Rattle.tilt_syntax.specs.Tree.{StatementTree}
use Rattle.tilt_syntax.specs.declared.fault.SyntaxFault.{SyntaxFault}
use Rattle.tilt_types.specs.Checked.{checked}
use Rattle.tilt_core.specs.Core.{CoreParts}
use Rattle.tilt_core.specs.Needs.{Need}
use Rattle.tilt_types.specs.declared.fault.CheckFault.{CheckFault}

-- the text of the query file is no longer than a file may be, its tokens are a query, and that is well formed and has this core
pub record HasCore (bytes : List ℕ) (core : CoreParts) : Type 0 where
  pub short : length bytes ≤ FILE
  pub tokens : List Token
  pub lexed : AreTokens 0 bytes tokens
  pub query : List StatementTree
  pub parsed : IsQueryOf (kinds tokens) query
  pub accepted : checked query ≡ Ok core

-- the text is no longer than a file may be, its tokens are exactly this query, and that is well formed and has this core
pub record HasQuery (bytes : List ℕ) (query : List StatementTree) (core : CoreParts) : Type 0 where
  pub short : length bytes ≤ FILE
  pub tokens : List Token
  pub lexed : AreTokens 0 bytes tokens
  pub parsed : IsQueryOf (kinds tokens) query
  pub valid : IsQuery query
  pub accepted : checked query ≡ Ok core

-- the query has this core, and looks no farther than a query may
pub record TakesQuery (bytes : List ℕ) (core : CoreParts) : Type 0 where
  pub has_core : HasCore bytes core
  pub margins : MarginsParts
  pub reach : margins_of core ≡ Ok margins

-- why the query file of a name has no core: it is too long, has a faulty place, its tokens are no query, or the query isn't well formed
pub data HasNoCore (name bytes : List ℕ) : Reason → Type 0 where
  long : FILE < length bytes → HasNoCore name bytes (file_too_long name)
  no_tokens : {why : Reason} (fault : LexFault) → length bytes ≤ FILE → IsFaultyAt 0 bytes fault → report_of_place fault ≡ refusal why
      → HasNoCore name bytes why
  no_statements : {why : Reason} (tokens : List Token) (fault : SyntaxFault) → length bytes ≤ FILE → AreTokens 0 bytes tokens
      → IsRefused (kinds tokens) fault → report_of_syntax fault ≡ refusal why → HasNoCore name bytes why
  ill_formed : {why : Reason} (tokens : List Token) (query : List StatementTree) (fault : CheckFault) → length bytes ≤ FILE
      → AreTokens 0 bytes tokens → IsQueryOf (kinds tokens) query → checked query ≡ Err fault
      → report_of_check fault ≡ refusal why → HasNoCore name bytes why

-- why the query file of a name is rejected: it has no core, or the query looks too far
pub data RefusesQuery (name bytes : List ℕ) : Reason → Type 0 where
  no_core : {why : Reason} → HasNoCore name bytes why → RefusesQuery name bytes why
  far : (core : CoreParts) (widest : Need) → HasCore bytes core → margins_of core ≡ Err widest
      → RefusesQuery name bytes (too_far widest.back widest.ahead)
