-- What the trees of a query keep because some text reads as it.
use Rattle.std.proofs.Common.{◌≡◌, ℕ, suc, ◌+◌, ◌<◌, ◌≤◌, List, [], ◌∷◌, length, IsSome, refl, ap, arith, length-append}
use Rattle.std.specs.List.{AllByRecursion}
use Rattle.tilt_lexer.specs.Word.{IsReserved}
use Rattle.tilt_lexer.specs.declared.token.Tok.{Tok}
use Rattle.tilt_syntax.specs.Grammar.{IsExpr, tighter, choice, between, negation, minus, number, true_word, false_word, name, reading, window, is_null, if_null, enclosed}
use Rattle.tilt_syntax.specs.Grammar.{IsStatement, input, definition, emission}
use Rattle.tilt_syntax.specs.Query.{AreGood, AreSound, IsQuery, statements}
use Rattle.tilt_syntax.proofs.Sounds.{EachSound, statements_sound}
use Rattle.tilt_syntax.specs.Tree.{ExprTree, StatementTree, Input, Let, Emit}
use Rattle.tilt_types.specs.Checked.{definition as core_definition, definitions, input_names, let_names, source_names}
use Rattle.tilt_core.specs.Core.{domain_of}
use Rattle.tilt_core.specs.CoreTree.{Definition, nodes}

-- each node of an expression takes at least one token
nodes-tokens : {level : ℕ} {ts : List Tok} {e : ExprTree} → IsExpr level ts e → nodes e ≤ length ts
nodes-tokens (tighter h) = nodes-tokens h
nodes-tokens (choice c a b) = omega (arith, length-append {A = Tok}, nodes-tokens c, nodes-tokens a, nodes-tokens b)
nodes-tokens (between is a b) = omega (arith, length-append {A = Tok}, nodes-tokens a, nodes-tokens b)
nodes-tokens (negation a) = omega (arith, nodes-tokens a)
nodes-tokens (minus a) = omega (arith, nodes-tokens a)
nodes-tokens number = omega arith
nodes-tokens true_word = omega arith
nodes-tokens false_word = omega arith
nodes-tokens name = omega arith
nodes-tokens (reading d) = omega arith
nodes-tokens (window l h) = omega arith
nodes-tokens (is_null a) = omega (arith, length-append {A = Tok}, nodes-tokens a)
nodes-tokens (if_null a b) = omega (arith, length-append {A = Tok}, nodes-tokens a, nodes-tokens b)
nodes-tokens (enclosed e) = omega (arith, length-append {A = Tok}, nodes-tokens e)

-- its expression is small, and the name that it declares isn't reserved
abbrev pub IsOfText : StatementTree → Type 0
IsOfText (Input x) = ¬ (IsReserved x)
IsOfText (Let x e over every) = (nodes e ≤ 256) × ¬ (IsReserved x)
IsOfText (Emit e over every) = nodes e ≤ 256

statement-of_text : {ts : List Tok} {s : StatementTree} → IsStatement ts s → length ts ≤ 256 → AreSound ts → IsOfText s
statement-of_text input short sound = sound.1.0.1
statement-of_text (definition e span every) short sound = (omega (arith, length-append {A = Tok}, nodes-tokens e, short), sound.1.0.1)
statement-of_text (emission e span every) short sound = omega (arith, length-append {A = Tok}, nodes-tokens e, short)

good-of_text : (ss : List (List Tok)) (query : List StatementTree) → AreGood ss query → EachSound ss → AllByRecursion IsOfText query
good-of_text [] [] good sound = tt
good-of_text [] (s ∷ query) good sound = absurd good
good-of_text (ts ∷ ss) [] good sound = absurd good
good-of_text (ts ∷ ss) (s ∷ query) good sound = (statement-of_text good.0.parsed good.0.short sound.0, good-of_text ss query good.1 sound.1)

-- each statement of a query is of a text
pub query-of_text : (query : List StatementTree) → IsQuery query → AllByRecursion IsOfText query
query-of_text query is = good-of_text (statements is.tokens) query is.parsed.good (statements_sound is.tokens is.sound)

good-length : (ss : List (List Tok)) (query : List StatementTree) → AreGood ss query → length query ≡ length ss
good-length [] [] good = refl
good-length [] (s ∷ query) good = absurd good
good-length (ts ∷ ss) [] good = absurd good
good-length (ts ∷ ss) (s ∷ query) good = ap suc (good-length ss query good.1)

-- a query has at most 256 statements
pub query-few : (query : List StatementTree) → IsQuery query → length query ≤ 256
query-few query is = omega (arith, good-length (statements is.tokens) query is.parsed.good, is.parsed.few)

-- each of them is an input or a definition
definitions-length : (names : List (List ℕ)) (query : List StatementTree) → length (input_names query) + length (definitions names query) ≡ length query
definitions-length names [] = refl
definitions-length names (Input x ∷ query) = omega (arith, definitions-length names query)
definitions-length names (Let x e over every ∷ query) = omega (arith, definitions-length names query)
definitions-length names (Emit e over every ∷ query) = omega (arith, definitions-length names query)

let_names-length : (names : List (List ℕ)) (query : List StatementTree) → length (let_names query) ≤ length (definitions names query)
let_names-length names [] = omega arith
let_names-length names (Input x ∷ query) = let_names-length names query
let_names-length names (Let x e over every ∷ query) = omega (arith, let_names-length names query)
let_names-length names (Emit e over every ∷ query) = omega (arith, let_names-length names query)

-- so there are at most 256 sources
pub sources-few : (query : List StatementTree) → IsQuery query → length (input_names query) + length (definitions (source_names query) query) ≤ 256
sources-few query is = omega (arith, query-few query is, definitions-length (source_names query) query)

pub source_names-few : (query : List StatementTree) → IsQuery query → length (source_names query) ≤ 256
source_names-few query is =
    omega (arith, length-append (input_names query) (let_names query), let_names-length (source_names query) query, sources-few query is)

domain_of-more : (def : Definition) (defs : List Definition) → IsSome (domain_of defs) → IsSome (domain_of (def ∷ defs))
domain_of-more def [] some = cc
domain_of-more def (next ∷ defs) some = some

-- the last statement is emitted, and no other, so it alone is a definition without a name
good-ends : (names : List (List ℕ)) (ss : List (List Tok)) (query : List StatementTree) → AreGood ss query → 0 < length ss
    → (length (definitions names query) ≡ suc (length (let_names query))) × IsSome (domain_of (definitions names query))
good-ends names [] [] good some = absurd (omega (arith, some))
good-ends names [] (s ∷ query) good some = absurd good
good-ends names (ts ∷ ss) [] good some = absurd good
good-ends names (ts ∷ []) (s ∷ next ∷ query) good some = absurd good.1
good-ends names (ts ∷ []) (Input x ∷ []) good some = absurd good.0.in_place
good-ends names (ts ∷ []) (Let x e over every ∷ []) good some = absurd good.0.in_place
good-ends names (ts ∷ []) (Emit e over every ∷ []) good some = (refl, refl)
good-ends names (ts ∷ us ∷ ss) (Input x ∷ query) good some = good-ends names (us ∷ ss) query good.1 (omega arith)
good-ends names (ts ∷ us ∷ ss) (Let x e over every ∷ query) good some =
    let rest = good-ends names (us ∷ ss) query good.1 (omega arith) in
    (ap suc rest.0, domain_of-more (core_definition names e over every) (definitions names query) rest.1)
good-ends names (ts ∷ us ∷ ss) (Emit e over every ∷ query) good some = absurd good.0.in_place

pub query-ends : (names : List (List ℕ)) (query : List StatementTree) → IsQuery query
    → (length (definitions names query) ≡ suc (length (let_names query))) × IsSome (domain_of (definitions names query))
query-ends names query is = good-ends names (statements is.tokens) query is.parsed.good is.parsed.some

-- no name is reserved
pub input_names-free : (query : List StatementTree) → AllByRecursion IsOfText query → AllByRecursion (λ x. ¬ (IsReserved x)) (input_names query)
input_names-free [] h = tt
input_names-free (Input x ∷ query) h = (h.0, input_names-free query h.1)
input_names-free (Let x e over every ∷ query) h = input_names-free query h.1
input_names-free (Emit e over every ∷ query) h = input_names-free query h.1

pub let_names-free : (query : List StatementTree) → AllByRecursion IsOfText query → AllByRecursion (λ x. ¬ (IsReserved x)) (let_names query)
let_names-free [] h = tt
let_names-free (Input x ∷ query) h = let_names-free query h.1
let_names-free (Let x e over every ∷ query) h = (h.0.1, let_names-free query h.1)
let_names-free (Emit e over every ∷ query) h = let_names-free query h.1
