-- Parts of a step's tokens, with what follows them, by what the readers have of them.
use Rattle.std.specs.Prelude.{◌≡◌, ℕ, ℤ, List, [], ◌∷◌, ◌++◌, Option, MatchOption}
use Rattle.tilt_base.specs.declared.span.Span.{Span}
use Rattle.tilt_lexer.specs.declared.mark.Mark.TheVariants as mark
use Rattle.tilt_lexer.specs.declared.token.Tok.{Tok}
use Rattle.tilt_lexer.specs.declared.token.Tok.TheVariants.{Mark as Sign}
use Rattle.tilt_syntax.specs.Grammar.{IsBound}
use Rattle.tilt_operators.specs.Flow.{StepTree, step_tree}
use Rattle.tilt_operators.specs.Steps.{IsBadStep, IsStepOf}
use Rattle.tilt_operators.specs.declared.fault.FlowFault.{FlowFault}
use Rattle.tilt_operators.specs.declared.fault.FlowFault.TheVariants as fault
use Rattle.tilt_operators.specs.declared.step.Step.{Step}

-- the tokens begin with the bound, and this is the rest
pub record HasBound (ts : List Tok) (n : ℤ) (rest : List Tok) : Type 0 where
  pub front : List Tok
  pub is : IsBound front n
  pub whole : ts ≡ front ++ rest

-- the tokens are `(s, e] ;`
pub record IsInside (ts : List Tok) (span : Span) : Type 0 where
  pub opened : List Tok
  pub between : List Tok
  pub begins : ts ≡ Sign mark.OpenParen ∷ opened
  pub start : HasBound opened span.start (Sign mark.Comma ∷ between)
  pub end : HasBound between span.end (Sign mark.CloseBracket ∷ Sign mark.Semicolon ∷ [])

-- what is between a step's word and its `;` is the step that was found, or no step if none was
abbrev pub FindsStep : List ℕ → List Tok → Option Step → Type 0
FindsStep word inside found = MatchOption found ((s : StepTree) → ¬ (IsStepOf word inside s)) (λ s. IsStepOf word inside (step_tree s))

-- the fault is that of the first bad one of steps, of which the first has the number `n`
pub record IsOfBadStep (n : ℕ) (ss : List (List Tok)) (f : FlowFault) : Type 0 where
  pub bad : ℕ
  pub is : f ≡ fault.BadStep bad
  pub first : IsBadStep n ss bad
