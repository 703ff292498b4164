-- The lines of a query that are read are those that are spelled.
use Rattle.std.proofs.Common.{◌≡◌, ℕ, ◌-◌, List, ◌∷◌, ◌++◌, length, take, Some, sym, ap, subst, ◌∙◌, arith, append_assoc, length-append}
use Rattle.std.specs.Prelude.{codes}
use Rattle.std.specs.Fmt.{decimal}
use Rattle.std.proofs.Math.Seq.{take-append_seam}
use Rattle.std.proofs.lemmas.Option.{some_pair_parts}
use Rattle.tilt_types.proofs.Texts.{query-few}
use Rattle.tilt_text.specs.Step.{◌>>=◌}
use Rattle.tilt_text.proofs.Step.{bind_some}
use Rattle.tilt_lexer.specs.Tokens.{AreTokens}
use Rattle.tilt_syntax.proofs.Law.{reads_back}
use Rattle.tilt_syntax.specs.Printing.{query_text}
use Rattle.tilt_syntax.specs.Query.{IsQuery}
use Rattle.tilt_syntax.specs.Text.{IsQueryText}
use Rattle.tilt_syntax.specs.Tree.{StatementTree}
use Rattle.tilt_checkpoint.specs.Reading.{behind, behind_line, count_at, front_of, query_at, statements_at, times}
use Rattle.tilt_checkpoint.specs.Spelling.{query_lines}
use Rattle.tilt_checkpoint.proofs.Lines.{left_is}
use Rattle.tilt_checkpoint.proofs.Pieces.{text-behind}
use Rattle.tilt_checkpoint.proofs.QueryLines.{query-passed}
use Rattle.tilt_checkpoint.proofs.Words.{count-again, count-was}

front-again : (front left : List ℕ) → front_of left (front ++ left) ≡ front
front-again front left =
    let is : length (front ++ left) - length left ≡ length front = omega (arith, length-append front left) in
    ap (λ (n : ℕ). take n (front ++ left)) is ∙ take-append_seam front left

-- the lines of a query, and what follows them
lines_shape : (query : List StatementTree) (more : List ℕ)
    → query_lines query ++ more ≡ codes "query " ++ (decimal (length query) ++ 10 ∷ (query_text query ++ more))
lines_shape query more = simp append_assoc

pub query-again : (query : List StatementTree) (more : List ℕ) → IsQuery query
    → query_at (query_lines query ++ more) ≡ Some ((length query, query_text query), more)
query-again query more is =
    let few = query-few query is in
    let count = count-again 10 (omega arith) (length query) (omega arith) (query_text query ++ more) in
    ap query_at (lines_shape query more)
    ∙ ap (λ o. o >>= λ n. times behind_line n.0 n.1 >>= λ left. Some ((n.0, front_of left n.1), left)) count
    ∙ ap (λ o. o >>= λ left. Some ((length query, front_of left (query_text query ++ more)), left)) (query-passed query is more)
    ∙ ap (λ (t : List ℕ). Some ((length query, t), more)) (front-again (query_text query) more)

-- what is known of the lines of a query that were read
pub record WereLines (bytes : List ℕ) (count : ℕ) (text left : List ℕ) : Type 0 where
  pub spelled : bytes ≡ codes "query " ++ (decimal count ++ 10 ∷ (text ++ left))

pub query-was : (bytes : List ℕ) (count : ℕ) (text left : List ℕ) → query_at bytes ≡ Some ((count, text), left)
    → WereLines bytes count text left
query-was bytes count text left e =
    let n = bind_some (statements_at bytes) (λ n. times behind_line n.0 n.1 >>= λ rest. Some ((n.0, front_of rest n.1), rest)) ((count, text), left) e in
    let l = bind_some (times behind_line n.0.0 n.0.1) (λ rest. Some ((n.0.0, front_of rest n.0.1), rest)) ((count, text), left) n.2 in
    let p = some_pair_parts (n.0.0, front_of l.0 n.0.1) (count, text) l.0 left l.2 in
    let w = bind_some (behind (codes "query ") bytes) (count_at 10) n.0 n.1 in
    let split = left_is n.0.0 n.0.1 l.0 l.1 in
    let front : front_of l.0 n.0.1 ≡ split.front = ap (front_of l.0) split.is ∙ front-again split.front l.0 in
    let lines : n.0.1 ≡ front_of l.0 n.0.1 ++ l.0 = split.is ∙ ap (λ (f : List ℕ). f ++ l.0) (sym front) in
    record {
      spelled =
          text-behind (codes "query ") bytes w.0 w.1
          ∙ ap (λ (u : List ℕ). codes "query " ++ u) (count-was 10 w.0 n.0.0 n.0.1 w.2 ∙ ap (λ (u : List ℕ). decimal n.0.0 ++ 10 ∷ u) lines)
          ∙ (λ i. codes "query " ++ (decimal ((p.0 i).0) ++ 10 ∷ ((p.0 i).1 ++ p.1 i)));
    }

-- lines that are the printing of a query with `count` statements are the lines that are spelled
pub lines-spelled : (bytes : List ℕ) (count : ℕ) (text left : List ℕ) (query : List StatementTree)
    → query_at bytes ≡ Some ((count, text), left)
    → length query ≡ count → text ≡ query_text query → bytes ≡ query_lines query ++ left
lines-spelled bytes count text left query e counted is =
    (query-was bytes count text left e).spelled
    ∙ (λ i. codes "query " ++ (decimal (sym counted i) ++ 10 ∷ (is i ++ left)))
    ∙ sym (lines_shape query left)

-- a text that is the printing of a query reads as the query
pub query-reads : (text : List ℕ) (query : List StatementTree) → IsQuery query → text ≡ query_text query → IsQueryText text query
query-reads text query is e =
    let back = reads_back query is in
    record {
      tokens = back.tokens;
      lexed = subst (λ (t : List ℕ). AreTokens 0 t back.tokens) (sym e) back.are;
      parsed = back.parsed;
    }
