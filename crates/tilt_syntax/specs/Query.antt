-- How tokens are cut into statements, what a query is, and which statement is the first faulty one (our own rule).
use Rattle.std.specs.Prelude.{ℕ, ◌+◌, ◌<◌, ◌≤◌, List, [], ◌∷◌, length, map, ⊤}
use Rattle.std.specs.List.{AllByRecursion}
use Rattle.tilt_lexer.specs.declared.mark.Mark.TheVariants.{Semicolon}
use Rattle.tilt_lexer.specs.declared.token.Tok.{Tok}
use Rattle.tilt_lexer.specs.declared.token.Tok.TheVariants as tok
use Rattle.tilt_lexer.specs.declared.token.Token.{Token}
use Rattle.tilt_lexer.specs.Tokens.{IsSound}
use Rattle.tilt_syntax.specs.Grammar.{IsStatement}
use Rattle.tilt_syntax.specs.Tree.{StatementTree, Input, Let, Emit}
use Rattle.tilt_syntax.specs.declared.fault.SyntaxFault.{SyntaxFault}
use Rattle.tilt_syntax.specs.declared.fault.SyntaxFault.TheVariants as fault

-- what tokens are, without their places
abbrev pub kinds : List Token → List Tok
kinds tokens = map (λ token. token.kind) tokens

-- no name is a reserved word, and each number is one that a text may have
abbrev pub AreSound : List Tok → Type 0
AreSound ts = AllByRecursion IsSound ts

-- one more token at the beginning of the first statement
abbrev pub with_first : Tok → List (List Tok) → List (List Tok)
with_first t [] = (t ∷ []) ∷ []
with_first t (s ∷ ss) = (t ∷ s) ∷ ss

-- tokens are cut after each `;`, and what follows the last `;` is also a statement
abbrev pub statements : List Tok → List (List Tok)
statements [] = []
statements (tok.Mark Semicolon ∷ ts) = (tok.Mark Semicolon ∷ []) ∷ statements ts
statements (t ∷ ts) = with_first t (statements ts)

-- a statement has at most 256 tokens
abbrev pub IsShort : List Tok → Type 0
IsShort ts = length ts ≤ 256

-- statements may end a query, or not: the last one is an `emit`, and no other
abbrev pub IsInPlace : List (List Tok) → StatementTree → Type 0
IsInPlace [] (Emit e over every) = ⊤
IsInPlace [] (Input x) = ⊥
IsInPlace [] (Let x e over every) = ⊥
IsInPlace (next ∷ rest) (Emit e over every) = ⊥
IsInPlace (next ∷ rest) (Input x) = ⊤
IsInPlace (next ∷ rest) (Let x e over every) = ⊤

-- the statement, after which these come, is this one, and may be there
pub record IsGood (ts : List Tok) (behind : List (List Tok)) (s : StatementTree) : Type 0 where
  pub short : IsShort ts
  pub parsed : IsStatement ts s
  pub in_place : IsInPlace behind s

-- the statements are these, in order
abbrev pub AreGood : List (List Tok) → List StatementTree → Type 0
AreGood [] [] = ⊤
AreGood [] (s ∷ ss) = ⊥
AreGood (ts ∷ rest) [] = ⊥
AreGood (ts ∷ rest) (s ∷ ss) = IsGood ts rest s × AreGood rest ss

-- the tokens are the query: from 1 to 256 statements
pub record IsQueryOf (ts : List Tok) (query : List StatementTree) : Type 0 where
  pub some : 0 < length (statements ts)
  pub few : length (statements ts) ≤ 256
  pub good : AreGood (statements ts) query

-- the statement with that number, after which these stand, has the fault; of several the first one counts, in this order
pub data HasFault : ℕ → List Tok → List (List Tok) → SyntaxFault → Type 0 where
  too_long : {n : ℕ} {ts : List Tok} {behind : List (List Tok)} → 256 < length ts → HasFault n ts behind (fault.StatementTooLong n)
  no_statement : {n : ℕ} {ts : List Tok} {behind : List (List Tok)} → IsShort ts → ((s : StatementTree) → ¬ (IsStatement ts s))
      → HasFault n ts behind (fault.Syntax n)
  misplaced : {n : ℕ} {ts : List Tok} {behind : List (List Tok)} (s : StatementTree) → IsShort ts → IsStatement ts s
      → ¬ (IsInPlace behind s) → HasFault n ts behind (fault.EmitPlace n)

-- the first faulty one of statements, of which the first has the number `n`, has the fault
pub data FirstFault : ℕ → List (List Tok) → SyntaxFault → Type 0 where
  here : {n : ℕ} {ts : List Tok} {rest : List (List Tok)} {f : SyntaxFault} → HasFault n ts rest f → FirstFault n (ts ∷ rest) f
  later : {n : ℕ} {ts : List Tok} {rest : List (List Tok)} {f : SyntaxFault} (s : StatementTree) → IsGood ts rest s
      → FirstFault (n + 1) rest f → FirstFault n (ts ∷ rest) f

-- the tokens are rejected for the fault
pub data IsRefused : List Tok → SyntaxFault → Type 0 where
  too_many : {ts : List Tok} → 256 < length (statements ts) → IsRefused ts fault.TooManyStatements
  no_tokens : IsRefused [] (fault.EmitPlace 1)
  faulty : {ts : List Tok} {f : SyntaxFault} → length (statements ts) ≤ 256 → FirstFault 1 (statements ts) f → IsRefused ts f

-- the statements are those of some tokens of a text
pub record IsQuery (query : List StatementTree) : Type 0 where
  pub tokens : List Tok
  pub sound : AreSound tokens
  pub parsed : IsQueryOf tokens query
