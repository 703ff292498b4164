-- What the descent finds is in the grammar.
use Rattle.std.proofs.Common.{◌≡◌, ℕ, suc, ℤ, pos, neg_ℤ, List, [], ◌∷◌, ◌++◌, Option, Some, None, MatchOption, refl, sym, append_assoc, append-nil}
use Rattle.tilt_base.specs.Expression.{One, Two}
use Rattle.tilt_base.specs.declared.operator.Op1.TheVariants as op1
use Rattle.tilt_base.specs.declared.operator.Op2.{Op2}
use Rattle.tilt_base.specs.declared.reducer.Reducer.{Reducer}
use Rattle.tilt_lexer.specs.declared.key.Key.{Key}
use Rattle.tilt_lexer.specs.declared.key.Key.TheVariants as key
use Rattle.tilt_lexer.specs.declared.mark.Mark.TheVariants as mark
use Rattle.tilt_lexer.specs.declared.token.Tok.{Tok}
use Rattle.tilt_lexer.specs.declared.token.Tok.TheVariants.{Word, Number, Key as Reserved, Mark as Sign}
use Rattle.tilt_syntax.specs.Descent.{Plan, Done, Test, Between, Ask, Found, Task, Comes, done, met, missed, between, behind_all, found, none}
use Rattle.tilt_syntax.specs.Descent.{Reading, GoingOn, plan_of, going_plan, chain_plan, behind_operand}
use Rattle.tilt_syntax.specs.Descent.{offset_plan, number_plan, name_plan, window_plan, reading_plan, enclosed_plan, word_plan, atom_plan, give}
use Rattle.tilt_syntax.specs.Grammar.{Infix, infix_of, SpellsOffset, now, later, earlier, IsExpr, tighter, choice, between as joined, negation, minus}
use Rattle.tilt_syntax.specs.Grammar.{number, true_word, false_word, name, reading, window, is_null, if_null, enclosed}
use Rattle.tilt_syntax.specs.Levels.{level_number, operator_of, tighter as next}
use Rattle.tilt_syntax.specs.Tree.{ExprTree}
use Rattle.tilt_syntax.specs.declared.level.Level.{Level}
use Rattle.tilt_syntax.specs.declared.level.Level.TheVariants.{Choice, When, Or, And, Negation, Comparison, Sum, Product, Minus, Atom}

-- the level that the place of an operator's left operand asks for
abbrev pub left_number : Level → ℕ
left_number Comparison = 6
left_number level = level_number level

-- the prefix of the tokens is the expression, and the rest was left
pub record IsFront (n : ℕ) (ts : List Tok) (f : Found) : Type 0 where
  pub front : List Tok
  pub split : ts ≡ front ++ f.rest
  pub is : IsExpr n front f.tree

-- after the left operand the prefix of the tokens goes on to the expression, and the rest was left
pub record GoesOn (level : Level) (left : ExprTree) (ts : List Tok) (f : Found) : Type 0 where
  pub front : List Tok
  pub split : ts ≡ front ++ f.rest
  pub is : (before : List Tok) → IsExpr (left_number level) before left → IsExpr (level_number level) (before ++ front) f.tree

-- what a task may find
abbrev pub Fits : Task → Found → Type 0
Fits (Reading level ts) f = IsFront (level_number level) ts f
Fits (GoingOn level left ts) f = GoesOn level left ts f

-- what a plan finds has the property, where what it asks for fits
abbrev pub Keeps : Plan → (Found → Type 0) → Type 0
Keeps (Done None) P = Unit {0}
Keeps (Done (Some f)) P = P f
Keeps (Test t ts behind other) P = ((us : List Tok) → ts ≡ t ∷ us → Keeps (behind us) P) × Keeps other P
Keeps (Between level ts behind other) P =
    ((t : Tok) (us : List Tok) (op : Op2) → ts ≡ t ∷ us → operator_of t ≡ Some (level, op) → Keeps (behind op us) P) × Keeps other P
Keeps (Ask task behind) P = (f : Found) → Fits task f → Keeps (behind f) P

-- an operator that the descent knows is in the table
record InTable (level : Level) (op : Op2) (t : Tok) : Type 0 where
  entry : Infix
  is : infix_of op ≡ Some entry
  sign : entry.sign ≡ t
  at : entry.level ≡ level_number level
  left : entry.left ≡ left_number level
  right : entry.right ≡ level_number (next level)

abbrev MayBeInTable : Tok → Option (Level × Op2) → Type 0
MayBeInTable t None = Unit {0}
MayBeInTable t (Some x) = InTable x.0 x.1 t

in-table : (t : Tok) → MayBeInTable t (operator_of t)
in-table (Reserved key.When) = record { entry = _; is = refl; sign = refl; at = refl; left = refl; right = refl }
in-table (Reserved key.Or) = record { entry = _; is = refl; sign = refl; at = refl; left = refl; right = refl }
in-table (Reserved key.And) = record { entry = _; is = refl; sign = refl; at = refl; left = refl; right = refl }
in-table (Sign mark.Equal) = record { entry = _; is = refl; sign = refl; at = refl; left = refl; right = refl }
in-table (Sign mark.NotEqual) = record { entry = _; is = refl; sign = refl; at = refl; left = refl; right = refl }
in-table (Sign mark.Less) = record { entry = _; is = refl; sign = refl; at = refl; left = refl; right = refl }
in-table (Sign mark.AtMost) = record { entry = _; is = refl; sign = refl; at = refl; left = refl; right = refl }
in-table (Sign mark.Greater) = record { entry = _; is = refl; sign = refl; at = refl; left = refl; right = refl }
in-table (Sign mark.AtLeast) = record { entry = _; is = refl; sign = refl; at = refl; left = refl; right = refl }
in-table (Sign mark.Plus) = record { entry = _; is = refl; sign = refl; at = refl; left = refl; right = refl }
in-table (Sign mark.Minus) = record { entry = _; is = refl; sign = refl; at = refl; left = refl; right = refl }
in-table (Sign mark.Star) = record { entry = _; is = refl; sign = refl; at = refl; left = refl; right = refl }
in-table (Sign mark.Slash) = record { entry = _; is = refl; sign = refl; at = refl; left = refl; right = refl }
in-table (Sign mark.Percent) = record { entry = _; is = refl; sign = refl; at = refl; left = refl; right = refl }
in-table t = tt

table : (t : Tok) (level : Level) (op : Op2) → operator_of t ≡ Some (level, op) → InTable level op t
table t level op is = rw is at (in-table t)

-- two operands with an operator of the level between them
two-operands : (level : Level) (op : Op2) (t : Tok) → operator_of t ≡ Some (level, op) → (ts us : List Tok) (a b : ExprTree)
    → IsExpr (left_number level) ts a → IsExpr (level_number (next level)) us b
    → IsExpr (level_number level) (ts ++ (t ∷ us)) (Two op a b)
two-operands level op t is ts us a b ha hb =
    let row = table t level op is in
    let left : IsExpr row.entry.left ts a = rw row.left ha in
    let right : IsExpr row.entry.right us b = rw row.right hb in
    rw (sym row.sign, sym row.at) (joined row.is left right)

-- the steps of a number and of a name
pub number-keeps : (P : Found → Type 0) (ts : List Tok) (behind : ℤ → List Tok → Plan)
    → ((n : ℤ) (us : List Tok) → ts ≡ Number n ∷ us → Keeps (behind n us) P) → Keeps (number_plan ts behind) P
number-keeps P [] behind h = tt
number-keeps P (Number n ∷ us) behind h = h n us refl
number-keeps P (Word x ∷ us) behind h = tt
number-keeps P (Reserved k ∷ us) behind h = tt
number-keeps P (Sign m ∷ us) behind h = tt

pub name-keeps : (P : Found → Type 0) (ts : List Tok) (behind : List ℕ → List Tok → Plan)
    → ((x : List ℕ) (us : List Tok) → ts ≡ Word x ∷ us → Keeps (behind x us) P) → Keeps (name_plan ts behind) P
name-keeps P [] behind h = tt
name-keeps P (Number n ∷ us) behind h = tt
name-keeps P (Word x ∷ us) behind h = h x us refl
name-keeps P (Reserved k ∷ us) behind h = tt
name-keeps P (Sign m ∷ us) behind h = tt

-- the steps of an offset
offset-keeps : (P : Found → Type 0) (ts : List Tok) (behind : ℤ → List Tok → Plan)
    → ((d : ℤ) (front rest : List Tok) → ts ≡ front ++ rest → SpellsOffset front d → Keeps (behind d rest) P)
    → Keeps (offset_plan ts behind) P
offset-keeps P ts behind h = (
  (λ us time. (
    (λ vs plus. number-keeps P vs behind (λ n ws at. h n _ ws (rw (time, plus, at) refl) later)),
    (
      (λ vs minus. number-keeps P vs (λ n. behind (neg_ℤ n)) (λ n ws at. h (neg_ℤ n) _ ws (rw (time, minus, at) refl) earlier)),
      h (pos 0) _ us time now,
    ),
  )),
  tt,
)

-- what is read at a tighter level
loosened : (level : Level) (ts : List Tok) (f : Found) → level_number (next level) ≡ suc (level_number level)
    → IsFront (level_number (next level)) ts f
    → IsFront (level_number level) ts f
loosened level ts f e h = record { front = h.front; split = h.split; is = tighter (rw e at h.is) }

choice-keeps : (ts : List Tok) → Keeps (plan_of (Reading Choice ts)) (IsFront 0 ts)
choice-keeps ts = (
  (λ us if_at c hc. (
    (λ vs then_at a ha. (
      (λ ws else_at b hb. record {
        front = Reserved key.If ∷ (hc.front ++ (Reserved key.Then ∷ (ha.front ++ (Reserved key.Else ∷ hb.front))));
        split = rw (if_at, hc.split, then_at, ha.split, else_at, hb.split) (simp append_assoc);
        is = choice hc.is ha.is hb.is;
      }),
      tt,
    )),
    tt,
  )),
  λ f h. loosened Choice ts f refl h,
)

chain-keeps : (level : Level) (ts : List Tok)
    → ((front : List Tok) (e : ExprTree) → IsExpr (level_number (next level)) front e → IsExpr (left_number level) front e)
    → Keeps (chain_plan level ts) (IsFront (level_number level) ts)
chain-keeps level ts first = λ a ha f g. record {
  front = ha.front ++ g.front;
  split = rw (ha.split, g.split) (simp append_assoc);
  is = g.is ha.front (first ha.front a.tree ha.is);
}

-- a left operand alone is an expression of its operator's level
left-alone : (level : Level) (ts : List Tok) (e : ExprTree) → IsExpr (left_number level) ts e → IsExpr (level_number level) ts e
left-alone Comparison ts e h = tighter h
left-alone level ts e h = h

-- after an operator and its right operand the prefix goes on as after the two
goes-further : (level : Level) (left : ExprTree) (ts us : List Tok) (t : Tok) (op : Op2) (b f : Found)
    → left_number level ≡ level_number level
    → ts ≡ t ∷ us → operator_of t ≡ Some (level, op) → IsFront (level_number (next level)) us b
    → GoesOn level (Two op left b.tree) b.rest f
    → GoesOn level left ts f
goes-further level left ts us t op b f same at is hb g = record {
  front = t ∷ (hb.front ++ g.front);
  split = rw (at, hb.split, g.split) (simp append_assoc);
  is = λ before h. (
      let both : IsExpr (left_number level) (before ++ (t ∷ hb.front)) (Two op left b.tree) =
      rw same (two-operands level op t is before hb.front left b.tree h hb.is) in
      rw append_assoc at (g.is (before ++ (t ∷ hb.front)) both));
}

operand-keeps : (level : Level) (left : ExprTree) (ts us : List Tok) (t : Tok) (op : Op2) (b : Found) → ts ≡ t ∷ us
    → operator_of t ≡ Some (level, op) → IsFront (level_number (next level)) us b
    → Keeps (behind_operand level (Two op left b.tree) b.rest) (GoesOn level left ts)
operand-keeps Comparison left ts us t op b at is hb = record {
  front = t ∷ hb.front;
  split = rw (at, hb.split) refl;
  is = λ before h. two-operands Comparison op t is before hb.front left b.tree h hb.is;
}
operand-keeps level left ts us t op b at is hb = λ f g. goes-further level left ts us t op b f refl at is hb g

going-keeps : (level : Level) (left : ExprTree) (ts : List Tok) → Keeps (going_plan level left ts) (GoesOn level left ts)
going-keeps level left ts = (
  (λ t us op at is b hb. operand-keeps level left ts us t op b at is hb),
  record { front = []; split = refl; is = λ before h. rw append-nil (left-alone level before left h) },
)

negation-keeps : (ts : List Tok) → Keeps (plan_of (Reading Negation ts)) (IsFront 4 ts)
negation-keeps ts = (
  (λ us not_at a ha. record {
    front = Reserved key.Not ∷ ha.front;
    split = rw (not_at, ha.split) refl;
    is = negation ha.is;
  }),
  λ f h. loosened Negation ts f refl h,
)

minus-keeps : (ts : List Tok) → Keeps (plan_of (Reading Minus ts)) (IsFront 8 ts)
minus-keeps ts = (
  (λ us minus_at a ha. record {
    front = Sign mark.Minus ∷ ha.front;
    split = rw (minus_at, ha.split) refl;
    is = minus ha.is;
  }),
  λ f h. loosened Minus ts f refl h,
)

-- what follows a name
reading-keeps : (x : List ℕ) (ts : List Tok) → Keeps (reading_plan x ts) (IsFront 9 (Word x ∷ ts))
reading-keeps x ts = (
  (λ us open_at. offset-keeps _ us _ (λ d front vs at offset. (
    (λ ws close_at. record {
      front = Word x ∷ Sign mark.OpenBracket ∷ (front ++ (Sign mark.CloseBracket ∷ []));
      split = rw (open_at, at, close_at) (simp append_assoc);
      is = reading offset;
    }),
    tt,
  ))),
  record { front = Word x ∷ []; split = refl; is = name },
)

-- what follows a reducer
window-keeps : (r : Reducer) (ts : List Tok) → Keeps (window_plan r ts) (IsFront 9 (Reserved (key.Reducer r) ∷ ts))
window-keeps r ts = (
  (λ us paren_at. name-keeps _ us _ (λ x vs name_at. (
    (λ ws open_at. offset-keeps _ ws _ (λ l front xs from_at from. (
      (λ ys colon_at. offset-keeps _ ys _ (λ h back zs to_at to. (
        (λ qs close_at. (
          (λ rs end_at. record {
            front = Reserved (key.Reducer r) ∷ Sign mark.OpenParen ∷ Word x ∷ Sign mark.OpenBracket
                ∷ (front ++ (Sign mark.Colon ∷ (back ++ (Sign mark.CloseBracket ∷ Sign mark.CloseParen ∷ []))));
            split = rw (paren_at, name_at, open_at, from_at, colon_at, to_at, close_at, end_at) (simp append_assoc);
            is = window from to;
          }),
          tt,
        )),
        tt,
      ))),
      tt,
    ))),
    tt,
  ))),
  tt,
)

-- an expression in parentheses, after what comes before it
enclosed-keeps : (P : Found → Type 0) (ts : List Tok) (behind : ExprTree → List Tok → Plan)
    → ((e : ExprTree) (front rest : List Tok) → ts ≡ (Sign mark.OpenParen ∷ (front ++ (Sign mark.CloseParen ∷ []))) ++ rest
    → IsExpr 0 front e
    → Keeps (behind e rest) P)
    → Keeps (enclosed_plan ts behind) P
enclosed-keeps P ts behind h =
    ((λ us open_at e he. ((λ vs close_at. h e.tree he.front vs (rw (open_at, he.split, close_at) (simp append_assoc)) he.is), tt)), tt)

pair-keeps : (ts : List Tok) → Keeps (word_plan key.IfNull ts) (IsFront 9 (Reserved key.IfNull ∷ ts))
pair-keeps ts = (
  (λ us open_at a ha. (
    (λ vs comma_at b hb. (
      (λ ws close_at. record {
        front = Reserved key.IfNull ∷ Sign mark.OpenParen ∷ (ha.front ++ (Sign mark.Comma ∷ (hb.front ++ (Sign mark.CloseParen ∷ []))));
        split = rw (open_at, ha.split, comma_at, hb.split, close_at) (simp append_assoc);
        is = if_null ha.is hb.is;
      }),
      tt,
    )),
    tt,
  )),
  tt,
)

word-keeps : (k : Key) (ts : List Tok) → Keeps (word_plan k ts) (IsFront 9 (Reserved k ∷ ts))
word-keeps key.TrueWord ts = record { front = Reserved key.TrueWord ∷ []; split = refl; is = true_word }
word-keeps key.FalseWord ts = record { front = Reserved key.FalseWord ∷ []; split = refl; is = false_word }
word-keeps key.IsNull ts =
    enclosed-keeps (IsFront 9 (Reserved key.IsNull ∷ ts)) ts (λ e. give (One op1.IsNull e)) (λ e front rest at h. record {
      front = Reserved key.IsNull ∷ Sign mark.OpenParen ∷ (front ++ (Sign mark.CloseParen ∷ []));
      split = rw at refl;
      is = is_null h;
    })
word-keeps key.IfNull ts = pair-keeps ts
word-keeps (key.Reducer r) ts = window-keeps r ts
word-keeps k ts = tt

atom-keeps : (ts : List Tok) → Keeps (atom_plan ts) (IsFront 9 ts)
atom-keeps [] = tt
atom-keeps (Number n ∷ ts) = record { front = Number n ∷ []; split = refl; is = number }
atom-keeps (Word x ∷ ts) = reading-keeps x ts
atom-keeps (Reserved k ∷ ts) = word-keeps k ts
atom-keeps (Sign m ∷ ts) = enclosed-keeps (IsFront 9 (Sign m ∷ ts)) (Sign m ∷ ts) give (λ e front rest at h. record {
  front = Sign mark.OpenParen ∷ (front ++ (Sign mark.CloseParen ∷ []));
  split = at;
  is = enclosed h;
})

task-keeps : (task : Task) → Keeps (plan_of task) (Fits task)
task-keeps (Reading Choice ts) = choice-keeps ts
task-keeps (Reading When ts) = chain-keeps When ts (λ front e h. tighter h)
task-keeps (Reading Or ts) = chain-keeps Or ts (λ front e h. tighter h)
task-keeps (Reading And ts) = chain-keeps And ts (λ front e h. tighter h)
task-keeps (Reading Negation ts) = negation-keeps ts
task-keeps (Reading Comparison ts) = chain-keeps Comparison ts (λ front e h. h)
task-keeps (Reading Sum ts) = chain-keeps Sum ts (λ front e h. tighter h)
task-keeps (Reading Product ts) = chain-keeps Product ts (λ front e h. tighter h)
task-keeps (Reading Minus ts) = minus-keeps ts
task-keeps (Reading Atom ts) = atom-keeps ts
task-keeps (GoingOn level left ts) = going-keeps level left ts

pub kept : {plan : Plan} {r : Option Found} → Comes plan r → (P : Found → Type 0) → Keeps plan P → MatchOption r (Unit {0}) P
kept (done {r = None}) P keeps = tt
kept (done {r = Some f}) P keeps = keeps
kept (met at h) P keeps = kept h P (keeps.0 _ at)
kept (missed fails h) P keeps = kept h P keeps.1
kept (between at is h) P keeps = kept h P (keeps.0 _ _ _ at is)
kept (behind_all fails h) P keeps = kept h P keeps.1
kept (found {task = task} {f = f} h k) P keeps = kept k P (keeps f (kept h (Fits task) (task-keeps task)))
kept (none h) P keeps = tt

-- what a task finds fits it
pub fits : (task : Task) (f : Found) → Comes (plan_of task) (Some f) → Fits task f
fits task f h = kept h (Fits task) (task-keeps task)
