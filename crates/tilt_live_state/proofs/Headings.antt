-- The query that is read is the one that is spelled.
use Rattle.std.proofs.Common.{◌≡◌, ℕ, List, ◌++◌, length, Some, refl, ap, ◌∙◌}
use Rattle.std.specs.Prelude.{codes}
use Rattle.tilt_checkpoint.proofs.Queries.{query-again}
use Rattle.tilt_checkpoint.specs.Reading.{query_at}
use Rattle.tilt_checkpoint.specs.Spelling.{query_lines}
use Rattle.tilt_live_state.specs.Reading.{heading_at}
use Rattle.tilt_live_state.specs.Spelling.{headed}
use Rattle.tilt_syntax.specs.Printing.{query_text}
use Rattle.tilt_syntax.specs.Query.{IsQuery}
use Rattle.tilt_syntax.specs.Tree.{StatementTree}

first_passed : (left : List ℕ) → heading_at (codes "tilt live 1\n" ++ left) ≡ query_at left
first_passed left = refl

pub heading-again : (query : List StatementTree) (more : List ℕ) → IsQuery query
    → heading_at (headed query more) ≡ Some ((length query, query_text query), more)
heading-again query more is = first_passed (query_lines query ++ more) ∙ query-again query more is
