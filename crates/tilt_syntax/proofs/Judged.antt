-- Tokens are a query, or are rejected for a fault; and so is a text.
use Rattle.std.proofs.Common.{◌⊎◌, inl, inr, ℕ, ◌+◌, List, [], ◌∷◌, length, arith}
use Rattle.std.proofs.lemmas.Bool.{cases_lt}
use Rattle.tilt_lexer.specs.Tokens.{AreTokens}
use Rattle.tilt_lexer.specs.declared.token.Tok.{Tok}
use Rattle.tilt_lexer.specs.declared.token.Token.{Token}
use Rattle.tilt_lexer.proofs.Sound.{sound}
use Rattle.tilt_lexer.proofs.Whole.{tokens_or_fault}
use Rattle.tilt_syntax.specs.Query.{kinds, AreSound, statements, IsInPlace, AreGood, IsQueryOf, IsRefused, too_many, no_tokens, faulty}
use Rattle.tilt_syntax.specs.Query.{HasFault, too_long, no_statement, misplaced, FirstFault, here, later, IsGood}
use Rattle.tilt_syntax.specs.Tree.{StatementTree, Input, Let, Emit}
use Rattle.tilt_syntax.specs.declared.fault.SyntaxFault.{SyntaxFault}
use Rattle.tilt_syntax.specs.declared.fault.SyntaxFault.TheVariants as fault
use Rattle.tilt_syntax.specs.declared.fault.TextFault.{TextFault}
use Rattle.tilt_syntax.specs.declared.fault.TextFault.TheVariants as text
use Rattle.tilt_syntax.specs.Text.{IsQueryText, IsRefusedText, no_tokens as no_place, no_query}
use Rattle.tilt_syntax.proofs.Cutting.{cut}
use Rattle.tilt_syntax.proofs.Parsing.{sound-kinds}
use Rattle.tilt_syntax.proofs.Total.{statement_or_none}

in_place_or_not : (behind : List (List Tok)) (s : StatementTree) → IsInPlace behind s ⊎ (¬ (IsInPlace behind s))
in_place_or_not [] (Input x) = inr (λ h. h)
in_place_or_not [] (Let x e over every) = inr (λ h. h)
in_place_or_not [] (Emit e over every) = inl tt
in_place_or_not (next ∷ rest) (Input x) = inl tt
in_place_or_not (next ∷ rest) (Let x e over every) = inl tt
in_place_or_not (next ∷ rest) (Emit e over every) = inr (λ h. h)

-- a statement is good, or has a fault
good_or_faulty : (n : ℕ) (ts : List Tok) (behind : List (List Tok))
    → ((s : StatementTree) × IsGood ts behind s) ⊎ ((f : SyntaxFault) × HasFault n ts behind f)
good_or_faulty n ts behind =
    elim (cases_lt 256 (length ts)) [
      | inl long ↦ inr (fault.StatementTooLong n, too_long long)
      | inr short ↦ elim (statement_or_none ts) [
        | inl read ↦ elim (in_place_or_not behind read.0) [
          | inl placed ↦ inl (read.0, record { short = short; parsed = read.1; in_place = placed })
          | inr not_placed ↦ inr (fault.EmitPlace n, misplaced read.0 short read.1 not_placed)
        ]
        | inr none ↦ inr (fault.Syntax n, no_statement short none)
      ]
    ]

-- statements are good, or one is the first faulty one
abbrev AllOrFirst : ℕ → List (List Tok) → Type 0
AllOrFirst n ss = ((query : List StatementTree) × AreGood ss query) ⊎ ((f : SyntaxFault) × FirstFault n ss f)

after_good : (n : ℕ) (ts : List Tok) (rest : List (List Tok)) (s : StatementTree) → IsGood ts rest s → AllOrFirst (n + 1) rest
    → AllOrFirst n (ts ∷ rest)
after_good n ts rest s good (inl more) = inl (s ∷ more.0, (good, more.1))
after_good n ts rest s good (inr first) = inr (first.0, later s good first.1)

all_or_first : (n : ℕ) (ss : List (List Tok)) → AllOrFirst n ss
all_or_first n [] = inl ([], tt)
all_or_first n (ts ∷ rest) =
    elim (good_or_faulty n ts rest) [
      | inl good ↦ after_good n ts rest good.0 good.1 (all_or_first (n + 1) rest)
      | inr bad ↦ inr (bad.0, here bad.1)
    ]

-- tokens are a query or are rejected; `Refused` says that they are not both
pub query_or_refused : (ts : List Tok) → AreSound ts
    → ((query : List StatementTree) × IsQueryOf ts query) ⊎ ((f : SyntaxFault) × IsRefused ts f)
query_or_refused [] sound = inr (fault.EmitPlace 1, no_tokens)
query_or_refused (t ∷ ts) sound =
    elim (cases_lt 256 (length (statements (t ∷ ts)))) [
      | inl many ↦ inr (fault.TooManyStatements, too_many many)
      | inr few ↦ elim (all_or_first 1 (statements (t ∷ ts))) [
        | inl all ↦ inl (all.0, record { some = (let e = cut (t ∷ ts) (omega arith) in rw e (omega arith)); few = few; good = all.1 })
        | inr first ↦ inr (first.0, faulty few first.1)
      ]
    ]
