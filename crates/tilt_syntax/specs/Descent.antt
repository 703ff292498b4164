-- How an expression is read from left to right without going back. The grammar is laid down apart from it.
use Rattle.std.specs.Prelude.{◌≡◌, ◌≢◌, ℕ, ℤ, pos, neg_ℤ, true, false, List, [], ◌∷◌, Option, Some, None}
use Rattle.tilt_base.specs.Expression.{Leaf, One, Two, If}
use Rattle.tilt_base.specs.declared.operator.Op1.TheVariants as op1
use Rattle.tilt_base.specs.declared.operator.Op2.{Op2}
use Rattle.tilt_base.specs.declared.operator.Op2.TheVariants as op2
use Rattle.tilt_base.specs.declared.reducer.Reducer.{Reducer}
use Rattle.tilt_lexer.specs.declared.key.Key.{Key}
use Rattle.tilt_lexer.specs.declared.key.Key.TheVariants as key
use Rattle.tilt_lexer.specs.declared.mark.Mark.TheVariants as mark
use Rattle.tilt_lexer.specs.declared.token.Tok.{Tok}
use Rattle.tilt_lexer.specs.declared.token.Tok.TheVariants.{Word, Number, Key as Reserved, Mark as Sign}
use Rattle.tilt_syntax.specs.Levels.{operator_of, tighter}
use Rattle.tilt_syntax.specs.Tree.{Num, Truth, Read, Reduce, ExprTree}
use Rattle.tilt_syntax.specs.declared.level.Level.{Level}
use Rattle.tilt_syntax.specs.declared.level.Level.TheVariants.{Choice, When, Negation, Comparison, Minus, Atom}

-- an expression that was read, and the tokens after it
pub record Found : Type 0 where
  pub tree : ExprTree
  pub rest : List Tok

-- what is to be read: an expression of a level at the beginning, or what goes on after a left operand
pub data Task : Type 0 where
  Reading : (level : Level) (ts : List Tok) → Task
  GoingOn : (level : Level) (left : ExprTree) (ts : List Tok) → Task

-- the next step, and what comes after it
pub data Plan : Type 0 where
  -- the end, with what was found
  Done : (found : Option Found) → Plan
  -- a test for a token at the beginning, and the plan after it, or without it
  Test : (t : Tok) (ts : List Tok) (behind : List Tok → Plan) (other : Plan) → Plan
  -- a test for an operator of the level at the beginning
  Between : (level : Level) (ts : List Tok) (behind : Op2 → List Tok → Plan) (other : Plan) → Plan
  -- a task, and the plan after what it finds; if it finds nothing, nothing is found
  Ask : (task : Task) (behind : Found → Plan) → Plan

-- this was found
abbrev pub give : ExprTree → List Tok → Plan
give e ts = Done (Some (record { tree = e; rest = ts }))

-- nothing is found
abbrev pub nothing : Plan
nothing = Done None

-- what the task finds
abbrev pub answer : Task → Plan
answer task = Ask task (λ f. give f.tree f.rest)

-- the token has to come
abbrev pub expect : Tok → List Tok → (List Tok → Plan) → Plan
expect t ts behind = Test t ts behind nothing

-- a number has to come
abbrev pub number_plan : List Tok → (ℤ → List Tok → Plan) → Plan
number_plan (Number n ∷ ts) behind = behind n ts
number_plan ts behind = nothing

-- a name has to come
abbrev pub name_plan : List Tok → (List ℕ → List Tok → Plan) → Plan
name_plan (Word x ∷ ts) behind = behind x ts
name_plan ts behind = nothing

-- an offset has to come
abbrev pub offset_plan : List Tok → (ℤ → List Tok → Plan) → Plan
offset_plan ts behind = expect (Reserved key.Time) ts (λ us.
    Test (Sign mark.Plus) us (λ vs. number_plan vs behind) (
    Test (Sign mark.Minus) us (λ vs. number_plan vs (λ n. behind (neg_ℤ n))) (
    behind (pos 0) us)))

-- what follows a name
abbrev pub reading_plan : List ℕ → List Tok → Plan
reading_plan x ts = Test (Sign mark.OpenBracket) ts
    (λ us. offset_plan us (λ d vs. expect (Sign mark.CloseBracket) vs (give (Leaf (Read x d)))))
    (give (Leaf (Read x (pos 0))) ts)

-- what follows a reducer
abbrev pub window_plan : Reducer → List Tok → Plan
window_plan r ts = expect (Sign mark.OpenParen) ts (λ us. name_plan us (λ x vs. expect (Sign mark.OpenBracket) vs (λ ws.
    offset_plan ws (λ l xs. expect (Sign mark.Colon) xs (λ ys. offset_plan ys (λ h zs.
    expect (Sign mark.CloseBracket) zs (λ qs. expect (Sign mark.CloseParen) qs (give (Leaf (Reduce r x l h))))))))))

-- an expression in parentheses
abbrev pub enclosed_plan : List Tok → (ExprTree → List Tok → Plan) → Plan
enclosed_plan ts behind = expect (Sign mark.OpenParen) ts (λ us. Ask (Reading Choice us) (λ e.
    expect (Sign mark.CloseParen) e.rest (behind e.tree)))

-- two expressions in parentheses
abbrev pub pair_plan : List Tok → (ExprTree → ExprTree → List Tok → Plan) → Plan
pair_plan ts behind = expect (Sign mark.OpenParen) ts (λ us. Ask (Reading Choice us) (λ a.
    expect (Sign mark.Comma) a.rest (λ vs. Ask (Reading Choice vs) (λ b.
    expect (Sign mark.CloseParen) b.rest (behind a.tree b.tree)))))

-- what follows a reserved word with which an atom begins
abbrev pub word_plan : Key → List Tok → Plan
word_plan key.TrueWord ts = give (Leaf (Truth true)) ts
word_plan key.FalseWord ts = give (Leaf (Truth false)) ts
word_plan key.IsNull ts = enclosed_plan ts (λ e. give (One op1.IsNull e))
word_plan key.IfNull ts = pair_plan ts (λ a b. give (Two op2.IfNull a b))
word_plan (key.Reducer r) ts = window_plan r ts
word_plan k ts = nothing

-- what needs no parentheses anywhere
abbrev pub atom_plan : List Tok → Plan
atom_plan [] = nothing
atom_plan (Number n ∷ ts) = give (Leaf (Num n)) ts
atom_plan (Word x ∷ ts) = reading_plan x ts
atom_plan (Reserved k ∷ ts) = word_plan k ts
atom_plan (Sign m ∷ ts) = enclosed_plan (Sign m ∷ ts) give

-- `if c then a else b`, or a tighter expression
abbrev pub choice_plan : List Tok → Plan
choice_plan ts = Test (Reserved key.If) ts
    (λ us. Ask (Reading Choice us) (λ c. expect (Reserved key.Then) c.rest (λ vs.
    Ask (Reading Choice vs) (λ a. expect (Reserved key.Else) a.rest (λ ws.
    Ask (Reading Choice ws) (λ b. give (If c.tree a.tree b.tree) b.rest))))))
    (answer (Reading When ts))

-- operands of a level with operators between them
abbrev pub chain_plan : Level → List Tok → Plan
chain_plan level ts = Ask (Reading (tighter level) ts) (λ a. answer (GoingOn level a.tree a.rest))

-- a comparison isn't gone on with, other operators are
abbrev pub behind_operand : Level → ExprTree → List Tok → Plan
behind_operand Comparison e ts = give e ts
behind_operand level e ts = answer (GoingOn level e ts)

-- what follows a left operand
abbrev pub going_plan : Level → ExprTree → List Tok → Plan
going_plan level left ts = Between level ts
    (λ op us. Ask (Reading (tighter level) us) (λ b. behind_operand level (Two op left b.tree) b.rest))
    (give left ts)

-- `not a`, or a tighter expression
abbrev pub negation_plan : List Tok → Plan
negation_plan ts = Test (Reserved key.Not) ts (λ us. Ask (Reading Negation us) (λ a. give (One op1.Not a.tree) a.rest))
    (answer (Reading Comparison ts))

-- `-a`, or an atom
abbrev pub minus_plan : List Tok → Plan
minus_plan ts = Test (Sign mark.Minus) ts (λ us. Ask (Reading Minus us) (λ a. give (One op1.Neg a.tree) a.rest))
    (answer (Reading Atom ts))

-- the steps of a task
abbrev pub plan_of : Task → Plan
plan_of (Reading Choice ts) = choice_plan ts
plan_of (Reading Negation ts) = negation_plan ts
plan_of (Reading Minus ts) = minus_plan ts
plan_of (Reading Atom ts) = atom_plan ts
plan_of (Reading level ts) = chain_plan level ts
plan_of (GoingOn level left ts) = going_plan level left ts

-- following the plan results in this
pub data Comes : Plan → Option Found → Type 0 where
  done : {r : Option Found} → Comes (Done r) r
  met : {t : Tok} {ts us : List Tok} {behind : List Tok → Plan} {other : Plan} {r : Option Found}
      → ts ≡ t ∷ us → Comes (behind us) r → Comes (Test t ts behind other) r
  missed : {t : Tok} {ts : List Tok} {behind : List Tok → Plan} {other : Plan} {r : Option Found}
      → ((us : List Tok) → ts ≢ t ∷ us) → Comes other r → Comes (Test t ts behind other) r
  between : {level : Level} {t : Tok} {ts us : List Tok} {op : Op2} {behind : Op2 → List Tok → Plan} {other : Plan} {r : Option Found}
      → ts ≡ t ∷ us → operator_of t ≡ Some (level, op) → Comes (behind op us) r → Comes (Between level ts behind other) r
  behind_all : {level : Level} {ts : List Tok} {behind : Op2 → List Tok → Plan} {other : Plan} {r : Option Found}
      → ((t : Tok) (us : List Tok) (op : Op2) → ts ≡ t ∷ us → operator_of t ≢ Some (level, op)) → Comes other r
      → Comes (Between level ts behind other) r
  found : {task : Task} {behind : Found → Plan} {f : Found} {r : Option Found}
      → Comes (plan_of task) (Some f) → Comes (behind f) r → Comes (Ask task behind) r
  none : {task : Task} {behind : Found → Plan} → Comes (plan_of task) None → Comes (Ask task behind) None
