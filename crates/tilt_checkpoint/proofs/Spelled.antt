-- Bytes spell one valid checkpoint at most.
use Rattle.std.proofs.Common.{◌≡◌, ◌∙◌, ℕ, ◌^◌, ◌<◌, List, ◌++◌, length, sym, ap, subst}
use Rattle.std.proofs.lemmas.Option.{same_Some, some_pair_parts}
use Rattle.tilt_lexer.specs.Tokens.{AreTokens}
use Rattle.tilt_syntax.proofs.Law.{reads_back}
use Rattle.tilt_syntax.specs.Printing.{query_text}
use Rattle.tilt_syntax.specs.Query.{IsQuery}
use Rattle.tilt_syntax.specs.Tree.{StatementTree}
use Rattle.tilt_checkpoint.specs.Checkpoint.{CheckpointParts, with_query}
use Rattle.tilt_checkpoint.specs.Reading.{query_at}
use Rattle.tilt_checkpoint.specs.Spelling.{Spells, query_lines}
use Rattle.tilt_checkpoint.specs.Valid.{IsCheckpoint}
use Rattle.tilt_checkpoint.proofs.Decoding.{body_behind, body_of, rest_of, title-read, valid-read}
use Rattle.tilt_checkpoint.proofs.Queries.{query-again}
use Rattle.tilt_checkpoint.proofs.Versions.{in_version}

-- queries that are printed the same are the same
pub one_printed : (query other : List StatementTree) → IsQuery query → IsQuery other → query_text query ≡ query_text other → other ≡ query
one_printed query other is is' same =
    let back = reads_back query is in
    let back' = reads_back other is' in
    back.only back'.tokens other (subst (λ (t : List ℕ). AreTokens 0 t back'.tokens) (sym same) back'.are) back'.parsed

-- valid checkpoints that are spelled the same are the same
pub spelled_once : (c d : CheckpointParts) (bytes : List ℕ) → IsCheckpoint c → IsCheckpoint d → length bytes < 2 ^ 63 → Spells bytes c
    → Spells bytes d → c ≡ d
spelled_once c d bytes is is' small e e' =
    let v = in_version bytes c e in
    let v' = in_version bytes d e' in
    let more = rest_of v.version c in
    let more' = rest_of v'.version d in
    let titles = some_pair_parts v.version v'.version (query_lines c.query ++ more) (query_lines d.query ++ more')
    (sym (title-read c bytes v) ∙ title-read d bytes v') in
    let again = query-again c.query more is.query.parsed in
    let again' = query-again d.query more' is'.query.parsed in
    let both = some_pair_parts (length c.query, query_text c.query) (length d.query, query_text d.query) more more'
    (sym again ∙ ap query_at titles.1 ∙ again') in
    let query = one_printed c.query d.query is.query.parsed is'.query.parsed (ap (λ (p : ℕ × List ℕ). p.1) both.0) in
    let read = valid-read c bytes is v small in
    let read' = valid-read d bytes is' v' small in
    let body = same_Some (body_of c) (body_of d) (sym read ∙ (λ i. body_behind (titles.0 i) (sym query i) (both.1 i)) ∙ read') in
    λ i. with_query (sym query i) (body i)
