-- Which pipeline tokens are, and which of their steps is the first faulty one (our own rule). Tokens are cut into steps after each `;`,
-- and what follows the last `;` is also a step. Steps are counted from 1.
use Rattle.std.specs.Prelude.{◌≡◌, ℕ, ◌+◌, ◌≤◌, pos, ◌≤ℤ◌, Bool, true, false, ◌&&◌, ◌||◌, ◌==◌, List, [], ◌∷◌, ◌++◌, length, codes}
use Rattle.std.specs.Prelude.{Option, Some, None, if◌then◌else◌}
use Rattle.std.specs.Ordering.{int_eq}
use Rattle.std.specs.Str.{bytes_eq}
use Rattle.tilt_base.specs.Expression.{Leaf, One, Two, If}
use Rattle.tilt_base.specs.declared.operator.Op1.TheVariants as op1
use Rattle.tilt_base.specs.declared.reducer.Reducer.{Reducer}
use Rattle.tilt_base.specs.declared.reducer.Reducer.TheVariants as reducer
use Rattle.tilt_base.specs.declared.span.Span.{Span}
use Rattle.tilt_lexer.specs.Tokens.{AreTokens, IsFaultyAt}
use Rattle.tilt_lexer.specs.declared.key.Key.TheVariants as key
use Rattle.tilt_lexer.specs.declared.mark.Mark.TheVariants as mark
use Rattle.tilt_lexer.specs.declared.token.Tok.{Tok}
use Rattle.tilt_lexer.specs.declared.token.Tok.TheVariants.{Word, Number, Key as Reserved, Mark as Sign}
use Rattle.tilt_lexer.specs.declared.token.Token.{Token}
use Rattle.tilt_lexer.specs.declared.fault.LexFault.TheVariants as lexical
use Rattle.tilt_syntax.specs.Grammar.{IsExpr, IsBound, IsSpan}
use Rattle.tilt_syntax.specs.Query.{AreSound, kinds, statements}
use Rattle.tilt_syntax.specs.Tree.{ExprTree, Num, Truth, Read, Reduce, Input}
use Rattle.tilt_types.specs.Types.{type_of}
use Rattle.tilt_types.specs.WellFormed.{declared_by, is_fitting, is_stretch}
use Rattle.tilt_types.specs.declared.declared.Declared.{Declared}
use Rattle.tilt_operators.specs.Flow.{StepTree, Select, Keep, Shift, Window, Join, FlowTree}
use Rattle.tilt_operators.specs.declared.fault.FlowFault.{FlowFault}
use Rattle.tilt_operators.specs.declared.fault.FlowFault.TheVariants as fault
use Rattle.tilt_operators.specs.declared.operands.Operands.{Operands}
use Rattle.tilt_operators.specs.declared.operands.Operands.TheVariants.{Value, Both}

-- the names that an expression of a step may read: `v` alone, or `w` too
abbrev pub is_operand : Operands → List ℕ → Bool
is_operand Value name = bytes_eq name (codes "v")
is_operand Both name = bytes_eq name (codes "v") || bytes_eq name (codes "w")

-- whether an expression has no window, and each of its readings has the offset 0 and such a name
abbrev pub is_over : Operands → ExprTree → Bool
is_over operands (Leaf (Num n)) = true
is_over operands (Leaf (Truth b)) = true
is_over operands (Leaf (Read name offset)) = is_operand operands name && int_eq offset (pos 0)
is_over operands (Leaf (Reduce r name from to)) = false
is_over operands (One op a) = is_over operands a
is_over operands (Two op a b) = is_over operands a && is_over operands b
is_over operands (If c a b) = is_over operands c && is_over operands a && is_over operands b

-- an expression over such operands
pub record IsExprOver (operands : Operands) (ts : List Tok) (e : ExprTree) : Type 0 where
  pub parsed : IsExpr 0 ts e
  pub over : is_over operands e ≡ true

-- whether a window may have the reducer: `any` and `all` are of truth values
abbrev pub is_of_numbers : Reducer → Bool
is_of_numbers reducer.Any = false
is_of_numbers reducer.All = false
is_of_numbers r = true

-- whether a name begins with `_`: such names are those of the definitions that a pipeline is made into
abbrev pub is_kept_back : List ℕ → Bool
is_kept_back [] = false
is_kept_back (b ∷ name) = b == 95

-- a word, then these tokens, and `;`
abbrev pub step_of : List ℕ → List Tok → List Tok
step_of word inside = Word word ∷ (inside ++ (Sign mark.Semicolon ∷ []))

-- what is between a step's word and its `;` is the step
abbrev pub IsStepOf : List ℕ → List Tok → StepTree → Type 0
IsStepOf word inside (Select e) = (word ≡ codes "select") × IsExprOver Value inside e
IsStepOf word inside (Keep e) = (word ≡ codes "where") × IsExprOver Value inside e
IsStepOf word inside (Shift by) = (word ≡ codes "shift") × IsBound inside by
IsStepOf word inside (Window r width) =
    (word ≡ codes "window") × (inside ≡ Reserved (key.Reducer r) ∷ Number width ∷ []) × (is_of_numbers r ≡ true) × (pos 1 ≤ℤ width)
IsStepOf word inside (Join name e) =
    (word ≡ codes "join") × (ts : List Tok) × (inside ≡ Word name ∷ ts) × (is_kept_back name ≡ false) × IsExprOver Both ts e

-- the tokens are the step
pub record IsStep (ts : List Tok) (s : StepTree) : Type 0 where
  pub word : List ℕ
  pub inside : List Tok
  pub whole : ts ≡ step_of word inside
  pub is : IsStepOf word inside s

-- the tokens are the first step: `from N ;`
abbrev pub IsFirst : List Tok → List ℕ → Type 0
IsFirst ts name = (ts ≡ Reserved key.From ∷ Word name ∷ Sign mark.Semicolon ∷ []) × (is_kept_back name ≡ false)

-- the tokens are the last step: `emit over (s, e] ;`, where the span bounds a stretch of time within `-T..T`
abbrev pub IsLast : List Tok → Span → Type 0
IsLast ts domain =
    (inside : List Tok) × (ts ≡ Reserved key.Emit ∷ (inside ++ (Sign mark.Semicolon ∷ []))) × IsSpan inside domain
    × (is_stretch (Some domain) ≡ true)

-- the step with this number has a place, and few tokens
pub record IsFit (n : ℕ) (ts : List Tok) : Type 0 where
  pub place : n ≤ 100
  pub short : length ts ≤ 200

-- these steps, of which the first has the number `n`, are the steps of a pipeline after its first, and the last gives its domain
abbrev pub AreSteps : ℕ → List (List Tok) → List StepTree → Span → Type 0
AreSteps n [] steps domain = ⊥
AreSteps n (ts ∷ []) [] domain = IsFit n ts × IsLast ts domain
AreSteps n (ts ∷ []) (s ∷ steps) domain = ⊥
AreSteps n (ts ∷ next ∷ rest) [] domain = ⊥
AreSteps n (ts ∷ next ∷ rest) (s ∷ steps) domain = IsFit n ts × IsStep ts s × AreSteps (n + 1) (next ∷ rest) steps domain

-- the steps are the pipeline, whatever the types of its expressions are
abbrev pub AreFlow : List (List Tok) → FlowTree → Type 0
AreFlow [] flow = ⊥
AreFlow (ts ∷ rest) flow = IsFit 1 ts × IsFirst ts flow.first × AreSteps 2 rest flow.steps flow.domain

-- Of these steps the first has the number `n`, and the one with the number `bad` is the first that breaks a rule. One that isn't the
-- last must be a step between, and the last must give the domain.
pub data IsBadStep : ℕ → List (List Tok) → ℕ → Type 0 where
  between : {n : ℕ} {ts next : List Tok} {rest : List (List Tok)} → ((s : StepTree) → IsFit n ts → ¬ (IsStep ts s))
      → IsBadStep n (ts ∷ next ∷ rest) n
  last : {n : ℕ} {ts : List Tok} → ((domain : Span) → IsFit n ts → ¬ (IsLast ts domain)) → IsBadStep n (ts ∷ []) n
  later : {n bad : ℕ} {ts next : List Tok} {rest : List (List Tok)} (s : StepTree) → IsFit n ts → IsStep ts s
      → IsBadStep (n + 1) (next ∷ rest) bad → IsBadStep n (ts ∷ next ∷ rest) bad

-- the first step that breaks a rule is the one with this number: without tokens the first, and also if it is alone
pub data HasBadStep : List (List Tok) → ℕ → Type 0 where
  no_steps : HasBadStep [] 1
  first : {ts : List Tok} {rest : List (List Tok)} → ((name : List ℕ) → IsFit 1 ts → ¬ (IsFirst ts name)) → HasBadStep (ts ∷ rest) 1
  alone : {ts : List Tok} → HasBadStep (ts ∷ []) 1
  behind : {bad : ℕ} {ts next : List Tok} {rest : List (List Tok)} (name : List ℕ) → IsFit 1 ts → IsFirst ts name
      → IsBadStep 2 (next ∷ rest) bad → HasBadStep (ts ∷ next ∷ rest) bad

-- `v` and `w` are numbers, as inputs are
abbrev pub operand_types : List Declared
operand_types = declared_by [] (Input (codes "v")) ++ declared_by [] (Input (codes "w"))

-- whether an expression over them has the type of numbers
abbrev pub is_number : ExprTree → Bool
is_number e = is_fitting true (type_of operand_types e)

-- whether it has the type of truth values, which are what `not` takes
abbrev pub is_truth : ExprTree → Bool
is_truth e = is_fitting false (type_of operand_types (One op1.Not e))

-- whether the expression of a step, if it has one, has the type that the step asks for
abbrev pub is_typed : StepTree → Bool
is_typed (Select e) = is_number e
is_typed (Keep e) = is_truth e
is_typed (Shift by) = true
is_typed (Window r width) = true
is_typed (Join name e) = is_number e

-- the number of the first step that isn't typed, of those of which the first has the number `n`
abbrev pub first_untyped : ℕ → List StepTree → Option ℕ
first_untyped n [] = None
first_untyped n (s ∷ steps) = if is_typed s then first_untyped (n + 1) steps else Some n

-- the tokens are the pipeline
pub record IsFlowOf (ts : List Tok) (flow : FlowTree) : Type 0 where
  pub steps : AreFlow (statements ts) flow
  pub typed : first_untyped 2 flow.steps ≡ None

-- the tokens are no pipeline, for the fault: that of the first bad step, or where there is none, that of the first step of a wrong type
pub data IsRefused : List Tok → FlowFault → Type 0 where
  bad_step : {ts : List Tok} {bad : ℕ} → HasBadStep (statements ts) bad → IsRefused ts (fault.BadStep bad)
  step_type : {ts : List Tok} {n : ℕ} (flow : FlowTree) → AreFlow (statements ts) flow → first_untyped 2 flow.steps ≡ Some n
      → IsRefused ts (fault.StepType n)

-- some tokens of a text are the pipeline
pub record IsFlow (flow : FlowTree) : Type 0 where
  pub tokens : List Tok
  pub sound : AreSound tokens
  pub read : IsFlowOf tokens flow

-- the bytes have tokens, and those are the pipeline
pub record IsFlowText (bytes : List ℕ) (flow : FlowTree) : Type 0 where
  pub tokens : List Token
  pub lexed : AreTokens 0 bytes tokens
  pub read : IsFlowOf (kinds tokens) flow

-- the bytes are no pipeline, for the fault: that of their first faulty place, or where they have tokens, that of those
pub data IsRefusedText : List ℕ → FlowFault → Type 0 where
  bad_byte : {bytes : List ℕ} {at : ℕ} → IsFaultyAt 0 bytes (lexical.BadByte at) → IsRefusedText bytes (fault.BadByte at)
  big_number : {bytes : List ℕ} {at : ℕ} → IsFaultyAt 0 bytes (lexical.BigNumber at) → IsRefusedText bytes (fault.BigNumber at)
  no_flow : {bytes : List ℕ} {f : FlowFault} (tokens : List Token) → AreTokens 0 bytes tokens → IsRefused (kinds tokens) f
      → IsRefusedText bytes f
