-- The text of a query reads as the query and as no other, and is the shortest in tokens.
use Rattle.std.proofs.Common.{◌≡◌, ◌≤◌, List, [], ◌∷◌, length, map, refl, sym, ap, ◌∙◌, subst, arith}
use Rattle.std.specs.List.{flat_map}
use Rattle.tilt_lexer.specs.declared.token.Tok.{Tok}
use Rattle.tilt_lexer.proofs.Unique.{same_tokens}
use Rattle.tilt_syntax.specs.Printing.{query_text, AreShortest, ReadsBack}
use Rattle.tilt_syntax.specs.Query.{kinds, AreSound, statements, IsInPlace, AreGood, IsQueryOf, IsQuery}
use Rattle.tilt_syntax.specs.Tree.{StatementTree, Input, Let, Emit}
use Rattle.tilt_syntax.proofs.Cuts.{query_cut}
use Rattle.tilt_syntax.proofs.Shortest.{statement_shortest}
use Rattle.tilt_syntax.proofs.Sounds.{EachSound, statements_sound, both, statement_sound}
use Rattle.tilt_syntax.proofs.Spelling.{lexed}
use Rattle.tilt_syntax.proofs.Spelt.{query_spells}
use Rattle.tilt_syntax.proofs.Unique.{one_query}
use Rattle.tilt_syntax.proofs.Written.{statement_tokens, statement_is}

-- the printed statements may be in the same places as the others
in_place_again : (rest : List (List Tok)) (query : List StatementTree) (s : StatementTree) → AreGood rest query → IsInPlace rest s
    → IsInPlace (map statement_tokens query) s
in_place_again [] [] s good h = h
in_place_again [] (p ∷ query) s good h = absurd good
in_place_again (ts ∷ rest) [] s good h = absurd good
in_place_again (ts ∷ rest) (p ∷ query) (Input x) good h = h
in_place_again (ts ∷ rest) (p ∷ query) (Let x e over every) good h = h
in_place_again (ts ∷ rest) (p ∷ query) (Emit e over every) good h = h

good_again : (ss : List (List Tok)) (query : List StatementTree) → EachSound ss → AreGood ss query
    → AreGood (map statement_tokens query) query
good_again [] [] each good = tt
good_again [] (s ∷ query) each good = absurd good
good_again (ts ∷ rest) [] each good = absurd good
good_again (ts ∷ rest) (s ∷ query) each good =
    let short : length (statement_tokens s) ≤ 256 = omega (arith, statement_shortest good.0.parsed each.0, good.0.short) in
    let in_place = in_place_again rest query s good.1 good.0.in_place in
    (record { short = short; parsed = statement_is s; in_place = in_place }, good_again rest query each.1 good.1)

-- there are as many
same_count : (ss : List (List Tok)) (query : List StatementTree) → AreGood ss query → length (map statement_tokens query) ≡ length ss
same_count [] [] good = refl
same_count [] (s ∷ query) good = absurd good
same_count (ts ∷ rest) [] good = absurd good
same_count (ts ∷ rest) (s ∷ query) good = omega (arith, same_count rest query good.1)

query_sound : (ss : List (List Tok)) (query : List StatementTree) → EachSound ss → AreGood ss query
    → AreSound (flat_map statement_tokens query)
query_sound [] [] each good = tt
query_sound [] (s ∷ query) each good = absurd good
query_sound (ts ∷ rest) [] each good = absurd good
query_sound (ts ∷ rest) (s ∷ query) each good =
    both (statement_tokens s) (flat_map statement_tokens query) (statement_sound good.0.parsed each.0) (query_sound rest query each.1 good.1)

query_shortest : (query : List StatementTree) → AreShortest (map statement_tokens query) query
query_shortest [] = tt
query_shortest (s ∷ query) = (λ us sound is. statement_shortest is sound, query_shortest query)

pub reads_back : (query : List StatementTree) → IsQuery query → ReadsBack (query_text query) query
reads_back query is =
    let each = statements_sound is.tokens is.sound in
    let read = lexed (query_spells query) (query_sound (statements is.tokens) query each is.parsed.good) 0 in
    let same : statements (kinds read.tokens) ≡ map statement_tokens query = ap statements read.kinds_are ∙ query_cut query in
    let count = same_count (statements is.tokens) query is.parsed.good in
    let parsed : IsQueryOf (kinds read.tokens) query = record {
      some = rw same (omega (arith, count, is.parsed.some));
      few = rw same (omega (arith, count, is.parsed.few));
      good = rw same (good_again (statements is.tokens) query each is.parsed.good);
    } in
    record {
      tokens = read.tokens;
      are = read.are;
      parsed = parsed;
      only = λ others other are of.
          let same_read : others ≡ read.tokens = same_tokens are read.are refl refl in
          one_query (kinds read.tokens) other query (subst (λ ts. IsQueryOf (kinds ts) other) same_read of) parsed;
      shortest = subst (λ ss. AreShortest ss query) (sym same) (query_shortest query);
    }
