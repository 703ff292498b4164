-- Reading gives a result, whatever the tokens are: each task asks only for smaller ones.
use Rattle.std.proofs.Common.{◌≡◌, ◌≢◌, ◌⊎◌, inl, inr, ℕ, zero, suc, ◌+◌, ◌*◌, ◌<◌, ◌≤◌, ℤ, pos, negsuc, List, [], ◌∷◌, length, Option, Some, None}
use Rattle.std.proofs.Common.{refl, sym, ap, ◌∙◌, subst, arith, length-append, append-nil}
use Rattle.std.specs.Str.{bytes_eq}
use Rattle.std.proofs.lemmas.Bool.{both_ways, cases_Bool, cases_eq}
use Rattle.tilt_base.proofs.Comparisons.{same_bytes, bytes_same}
use Rattle.tilt_base.specs.Expression.{One, Two}
use Rattle.tilt_base.specs.declared.operator.Op1.TheVariants as op1
use Rattle.tilt_base.specs.declared.operator.Op2.{Op2}
use Rattle.tilt_base.specs.declared.operator.Op2.TheVariants as op2
use Rattle.tilt_base.specs.declared.reducer.Reducer.{Reducer}
use Rattle.tilt_base.specs.declared.span.Span.{Span}
use Rattle.tilt_lexer.specs.Tokens.{mark_text}
use Rattle.tilt_lexer.specs.Word.{key_text}
use Rattle.tilt_lexer.specs.declared.key.Key.{Key}
use Rattle.tilt_lexer.specs.declared.key.Key.TheVariants as key
use Rattle.tilt_lexer.specs.declared.token.Tok.{Tok}
use Rattle.tilt_lexer.specs.declared.token.Tok.TheVariants.{Word, Number, Key as Reserved, Mark as Sign}
use Rattle.tilt_lexer.proofs.Differ.{same_key, same_sign}
use Rattle.tilt_syntax.specs.Descent.{Plan, Done, Test, Between, Ask, Found, Task, Reading, GoingOn, plan_of}
use Rattle.tilt_syntax.specs.Descent.{Comes, done, met, missed, between, behind_all, found, none}
use Rattle.tilt_syntax.specs.Descent.{number_plan, name_plan, offset_plan, reading_plan, window_plan, enclosed_plan, pair_plan, word_plan, atom_plan}
use Rattle.tilt_syntax.specs.Descent.{chain_plan, behind_operand, going_plan, give}
use Rattle.tilt_syntax.specs.Grammar.{IsExpr, IsStatement}
use Rattle.tilt_syntax.specs.Levels.{level_number, operator_of, tighter}
use Rattle.tilt_syntax.specs.Statements.{bound_plan, span_plan, domain_plan, from_plan, grid_plan, empty_plan, end_plan, statement_plan}
use Rattle.tilt_syntax.specs.Tree.{ExprTree, StatementTree}
use Rattle.tilt_syntax.specs.declared.every.Every.{Every}
use Rattle.tilt_syntax.specs.declared.level.Level.{Level}
use Rattle.tilt_syntax.specs.declared.level.Level.TheVariants.{Choice, When, Or, And, Negation, Comparison, Sum, Product, Minus, Atom}
use Rattle.tilt_syntax.proofs.Operators.{same_level}
use Rattle.tilt_syntax.proofs.Sound.{Fits, kept, fits}
use Rattle.tilt_syntax.proofs.Statements.{statement-comes, statement-keeps, told, tells}
use Rattle.tilt_syntax.proofs.Steady.{one_answer}
use Rattle.tilt_syntax.proofs.Whole.{same_rest, whole}

-- two tokens are the same, or not

pub names_same : (x y : List ℕ) → (x ≡ y) ⊎ (x ≢ y)
names_same x y =
    elim (cases_Bool (bytes_eq x y)) [
      | inl same ↦ inl (bytes_same x y same)
      | inr other ↦ inr (λ e. both_ways (bytes_eq x y) other (ap (bytes_eq x) (sym e) ∙ same_bytes x))
    ]

numbers_same : (m n : ℤ) → (m ≡ n) ⊎ (m ≢ n)
numbers_same (pos m) (pos n) =
    elim (cases_eq m n) [ inl same ↦ inl (ap pos same) | inr other ↦ inr (λ e. (let same : m ≡ n = cc in other same)) ]
numbers_same (pos m) (negsuc n) = inr (λ e. cc)
numbers_same (negsuc m) (pos n) = inr (λ e. cc)
numbers_same (negsuc m) (negsuc n) =
    elim (cases_eq m n) [ inl same ↦ inl (ap negsuc same) | inr other ↦ inr (λ e. (let same : m ≡ n = cc in other same)) ]

pub tokens_same : (t u : Tok) → (t ≡ u) ⊎ (t ≢ u)
tokens_same (Word x) (Word y) =
    elim (names_same x y) [ inl same ↦ inl (ap Word same) | inr other ↦ inr (λ e. (let same : x ≡ y = cc in other same)) ]
tokens_same (Number m) (Number n) =
    elim (numbers_same m n) [ inl same ↦ inl (ap Number same) | inr other ↦ inr (λ e. (let same : m ≡ n = cc in other same)) ]
tokens_same (Reserved k) (Reserved j) =
    elim (names_same (key_text k) (key_text j)) [
      | inl same ↦ inl (ap Reserved (same_key k j same))
      | inr other ↦ inr (λ e. (let same : k ≡ j = cc in other (ap key_text same)))
    ]
tokens_same (Sign m) (Sign n) =
    elim (names_same (mark_text m) (mark_text n)) [
      | inl same ↦ inl (ap Sign (same_sign m n same))
      | inr other ↦ inr (λ e. (let same : m ≡ n = cc in other (ap mark_text same)))
    ]
tokens_same t u = inr (λ e. cc)

-- the tests of a plan

-- tokens begin with a token, or not
pub begins_or_not : (t : Tok) (ts : List Tok) → ((us : List Tok) × (ts ≡ t ∷ us)) ⊎ ((us : List Tok) → ts ≢ t ∷ us)
begins_or_not t [] = inr (λ us e. cc)
begins_or_not t (u ∷ us) =
    elim (tokens_same u t) [
      | inl same ↦ inl (us, ap (λ (v : Tok). v ∷ us) same)
      | inr other ↦ inr (λ vs e. (let same : u ≡ t = cc in other same))
    ]

-- tokens begin with an operator of a level
record BeginsWithOperator (level : Level) (ts : List Tok) : Type 0 where
  sign : Tok
  rest : List Tok
  op : Op2
  split : ts ≡ sign ∷ rest
  is : operator_of sign ≡ Some (level, op)

-- or not
abbrev BeginsWithNone : Level → List Tok → Type 0
BeginsWithNone level ts = (t : Tok) (us : List Tok) (op : Op2) → ts ≡ t ∷ us → operator_of t ≢ Some (level, op)

operator_if : (level : Level) (t : Tok) (us : List Tok) (o : Option (Level × Op2)) → operator_of t ≡ o
    → BeginsWithOperator level (t ∷ us) ⊎ BeginsWithNone level (t ∷ us)
operator_if level t us None e = inr (λ u vs op split is. (let same : t ≡ u = cc in cc))
operator_if level t us (Some x) e =
    elim (cases_eq (level_number x.0) (level_number level)) [
      | inl same ↦ inl (record {
        sign = t;
        rest = us;
        op = x.1;
        split = refl;
        is = subst (λ (l : Level). operator_of t ≡ Some (l, x.1)) (same_level x.0 level same) e;
      })
      | inr other ↦ inr (λ u vs op split is. (
          let same : t ≡ u = cc in
          let both : x ≡ (level, op) = cc in
          other (ap (λ (y : Level × Op2). level_number y.0) both)))
    ]

operator_or_none : (level : Level) (ts : List Tok) → BeginsWithOperator level ts ⊎ BeginsWithNone level ts
operator_or_none level [] = inr (λ t us op split is. cc)
operator_or_none level (t ∷ us) = operator_if level t us (operator_of t) refl

-- the size of a task: by its tokens, and then by its level

abbrev rank : Level → ℕ
rank Choice = 10
rank When = 9
rank Or = 8
rank And = 7
rank Negation = 6
rank Comparison = 5
rank Sum = 4
rank Product = 3
rank Minus = 2
rank Atom = 1

abbrev tokens_of : Task → List Tok
tokens_of (Reading level ts) = ts
tokens_of (GoingOn level left ts) = ts

abbrev size : Task → ℕ
size (Reading level ts) = 11 * length ts + rank level
size (GoingOn level left ts) = 11 * length ts

-- what is found leaves no more tokens
shorter : (task : Task) (f : Found) → Fits task f → length f.rest ≤ length (tokens_of task)
shorter (Reading level ts) f h = omega (arith, ap length h.split, length-append h.front f.rest)
shorter (GoingOn level left ts) f h = omega (arith, ap length h.split, length-append h.front f.rest)

-- each task that a plan asks for is smaller than n
abbrev Falls : ℕ → Plan → Type 0
Falls n (Done r) = Unit {0}
Falls n (Test t ts behind other) = ((us : List Tok) → ts ≡ t ∷ us → Falls n (behind us)) × Falls n other
Falls n (Between level ts behind other) =
    ((t : Tok) (us : List Tok) (op : Op2) → ts ≡ t ∷ us → operator_of t ≡ Some (level, op) → Falls n (behind op us)) × Falls n other
Falls n (Ask task behind) = (size task < n) × ((f : Found) → length f.rest ≤ length (tokens_of task) → Falls n (behind f))

-- plans without tasks

number-falls : (n : ℕ) (ts : List Tok) (behind : ℤ → List Tok → Plan) → ((v : ℤ) (us : List Tok) → Falls n (behind v us))
    → Falls n (number_plan ts behind)
number-falls n [] behind h = tt
number-falls n (Number v ∷ us) behind h = h v us
number-falls n (Word x ∷ us) behind h = tt
number-falls n (Reserved k ∷ us) behind h = tt
number-falls n (Sign m ∷ us) behind h = tt

name-falls : (n : ℕ) (ts : List Tok) (behind : List ℕ → List Tok → Plan)
    → ((x : List ℕ) (us : List Tok) → length us ≤ length ts → Falls n (behind x us)) → Falls n (name_plan ts behind)
name-falls n [] behind h = tt
name-falls n (Number v ∷ us) behind h = tt
name-falls n (Word x ∷ us) behind h = h x us (omega arith)
name-falls n (Reserved k ∷ us) behind h = tt
name-falls n (Sign m ∷ us) behind h = tt

offset-falls : (n : ℕ) (ts : List Tok) (behind : ℤ → List Tok → Plan) → ((d : ℤ) (us : List Tok) → Falls n (behind d us))
    → Falls n (offset_plan ts behind)
offset-falls n ts behind h = (
  (λ us time. ((λ vs plus. number-falls n vs _ h), ((λ vs minus. number-falls n vs _ (λ v ws. h _ ws)), h (pos 0) us))),
  tt,
)

reading-falls : (n : ℕ) (x : List ℕ) (ts : List Tok) → Falls n (reading_plan x ts)
reading-falls n x ts = ((λ us open_at. offset-falls n us _ (λ d vs. ((λ ws close_at. tt), tt))), tt)

window-falls : (n : ℕ) (r : Reducer) (ts : List Tok) → Falls n (window_plan r ts)
window-falls n r ts = (
  (λ us open_at. name-falls n us _ (λ x vs le. (
    (λ ws bracket_at. offset-falls n ws _ (λ l xs. (
      (λ ys colon_at. offset-falls n ys _ (λ h zs. ((λ ps close_at. ((λ qs end_at. tt), tt)), tt))),
      tt,
    ))),
    tt,
  ))),
  tt,
)

-- plans of atoms

enclosed-falls : (n : ℕ) (ts : List Tok) (behind : ExprTree → List Tok → Plan) → 11 * length ts ≤ n
    → ((e : ExprTree) (us : List Tok) → Falls n (behind e us)) → Falls n (enclosed_plan ts behind)
enclosed-falls n ts behind le h =
    ((λ us open_at. (omega (arith, ap length open_at), λ e less. ((λ vs close_at. h e.tree vs), tt))), tt)

pair-falls : (n : ℕ) (ts : List Tok) (behind : ExprTree → ExprTree → List Tok → Plan) → 11 * length ts ≤ n
    → ((a b : ExprTree) (us : List Tok) → Falls n (behind a b us)) → Falls n (pair_plan ts behind)
pair-falls n ts behind le h = (
  (λ us open_at. (
    omega (arith, ap length open_at),
    λ a less. (
      (λ vs comma_at. (
        omega (arith, ap length open_at, ap length comma_at),
        λ b fewer. ((λ ws close_at. h a.tree b.tree ws), tt),
      )),
      tt,
    ),
  )),
  tt,
)

word-falls : (n : ℕ) (k : Key) (ts : List Tok) → 11 * length ts ≤ n → Falls n (word_plan k ts)
word-falls n key.IsNull ts le = enclosed-falls n ts (λ e us. give (One op1.IsNull e) us) le (λ e us. tt)
word-falls n key.IfNull ts le = pair-falls n ts (λ a b us. give (Two op2.IfNull a b) us) le (λ a b us. tt)
word-falls n (key.Reducer r) ts le = window-falls n r ts
word-falls n k ts le = tt

atom-falls : (ts : List Tok) → Falls (11 * length ts + 1) (atom_plan ts)
atom-falls [] = tt
atom-falls (Number n ∷ ts) = tt
atom-falls (Word x ∷ ts) = reading-falls _ x ts
atom-falls (Reserved k ∷ ts) = word-falls _ k ts (omega arith)
atom-falls (Sign m ∷ ts) = enclosed-falls _ (Sign m ∷ ts) give (omega arith) (λ e us. tt)

-- plans of the other tasks

choice-falls : (ts : List Tok) → Falls (11 * length ts + 10) (plan_of (Reading Choice ts))
choice-falls ts = (
  (λ us if_at. (
    omega (arith, ap length if_at),
    λ c c_less. (
      (λ vs then_at. (
        omega (arith, ap length if_at, ap length then_at),
        λ a a_less. (
          (λ ws else_at. (omega (arith, ap length if_at, ap length then_at, ap length else_at), λ b b_less. tt)),
          tt,
        ),
      )),
      tt,
    ),
  )),
  (omega arith, λ f less. tt),
)

chain-falls : (level : Level) (ts : List Tok) → rank (tighter level) < rank level
    → Falls (11 * length ts + rank level) (chain_plan level ts)
chain-falls level ts lower = (omega arith, λ a less. (omega arith, λ f fewer. tt))

negation-falls : (ts : List Tok) → Falls (11 * length ts + 6) (plan_of (Reading Negation ts))
negation-falls ts = ((λ us not_at. (omega (arith, ap length not_at), λ a less. tt)), (omega arith, λ f less. tt))

minus-falls : (ts : List Tok) → Falls (11 * length ts + 2) (plan_of (Reading Minus ts))
minus-falls ts = ((λ us minus_at. (omega (arith, ap length minus_at), λ a less. tt)), (omega arith, λ f less. tt))

operand-falls : (n : ℕ) (level : Level) (e : ExprTree) (ts : List Tok) → 11 * length ts < n → Falls n (behind_operand level e ts)
operand-falls n Comparison e ts lt = tt
operand-falls n Choice e ts lt = (lt, λ f less. tt)
operand-falls n When e ts lt = (lt, λ f less. tt)
operand-falls n Or e ts lt = (lt, λ f less. tt)
operand-falls n And e ts lt = (lt, λ f less. tt)
operand-falls n Negation e ts lt = (lt, λ f less. tt)
operand-falls n Sum e ts lt = (lt, λ f less. tt)
operand-falls n Product e ts lt = (lt, λ f less. tt)
operand-falls n Minus e ts lt = (lt, λ f less. tt)
operand-falls n Atom e ts lt = (lt, λ f less. tt)

rank-bounded : (level : Level) → rank level < 11
rank-bounded Choice = omega arith
rank-bounded When = omega arith
rank-bounded Or = omega arith
rank-bounded And = omega arith
rank-bounded Negation = omega arith
rank-bounded Comparison = omega arith
rank-bounded Sum = omega arith
rank-bounded Product = omega arith
rank-bounded Minus = omega arith
rank-bounded Atom = omega arith

going-falls : (level : Level) (left : ExprTree) (ts : List Tok) → Falls (11 * length ts) (going_plan level left ts)
going-falls level left ts = (
  (λ t us op split is. (
    omega (arith, ap length split, rank-bounded (tighter level)),
    λ b less. operand-falls (11 * length ts) level _ b.rest (omega (arith, ap length split)),
  )),
  tt,
)

falls : (task : Task) → Falls (size task) (plan_of task)
falls (Reading Choice ts) = choice-falls ts
falls (Reading When ts) = chain-falls When ts (omega arith)
falls (Reading Or ts) = chain-falls Or ts (omega arith)
falls (Reading And ts) = chain-falls And ts (omega arith)
falls (Reading Negation ts) = negation-falls ts
falls (Reading Comparison ts) = chain-falls Comparison ts (omega arith)
falls (Reading Sum ts) = chain-falls Sum ts (omega arith)
falls (Reading Product ts) = chain-falls Product ts (omega arith)
falls (Reading Minus ts) = minus-falls ts
falls (Reading Atom ts) = atom-falls ts
falls (GoingOn level left ts) = going-falls level left ts

-- plans of statements

span-falls : (n : ℕ) (ts : List Tok) (behind : Span → List Tok → Plan) → ((s : Span) (us : List Tok) → Falls n (behind s us))
    → Falls n (span_plan ts behind)
unfolding span_plan bound_plan
span-falls n ts behind h =
    let bound : (us : List Tok) (next : ℤ → List Tok → Plan) → ((b : ℤ) (vs : List Tok) → Falls n (next b vs)) → Falls n (bound_plan us next) =
    λ us next k. ((λ vs minus. number-falls n vs _ (λ v ws. k _ ws)), number-falls n us next k) in (
      (λ us open_at. bound us _ (λ s vs. (
        (λ ws comma_at. bound ws _ (λ e xs. ((λ ys close_at. h _ ys), tt))),
        tt,
      ))),
      tt,
    )

domain-falls : (n : ℕ) (ts : List Tok) (behind : Option Span → List Tok → Plan) → ((o : Option Span) (us : List Tok) → Falls n (behind o us))
    → Falls n (domain_plan ts behind)
unfolding domain_plan
domain-falls n ts behind h = ((λ us at. span-falls n us _ (λ s vs. h (Some s) vs)), h None ts)

from-falls : (n : ℕ) (ts : List Tok) (behind : ℤ → List Tok → Plan) → ((o : ℤ) (us : List Tok) → Falls n (behind o us)) → Falls n (from_plan ts behind)
unfolding from_plan
from-falls n ts behind h = ((λ us at. number-falls n us _ (λ v vs. h v vs)), h (pos 0) ts)

grid-falls : (n : ℕ) (ts : List Tok) (behind : Option Every → List Tok → Plan) → ((every : Option Every) (us : List Tok) → Falls n (behind every us))
    → Falls n (grid_plan ts behind)
unfolding grid_plan
grid-falls n ts behind h =
    ((λ us at. number-falls n us _ (λ p vs. from-falls n vs _ (λ o ws. h (Some (record { period = p; offset = o })) ws))), h None ts)

empty-falls : (n : ℕ) (ts : List Tok) (plan : Plan) → Falls n plan → Falls n (empty_plan ts plan)
empty-falls n [] plan h = h
empty-falls n (t ∷ ts) plan h = tt

end-falls : (n : ℕ) (ts : List Tok) (plan : Plan) → Falls n plan → Falls n (end_plan ts plan)
unfolding end_plan
end-falls n ts plan h = ((λ us end_at. empty-falls n us plan h), tt)

statement-falls : (ts : List Tok) (behind : StatementTree → Plan) → ((n : ℕ) (s : StatementTree) → Falls n (behind s))
    → Falls (11 * length ts) (statement_plan ts behind)
statement-falls ts behind h =
    let n = 11 * length ts in (
      (λ us input_at. name-falls n us _ (λ x vs le. end-falls n vs _ (h n _))),
      (
        (λ us let_at. name-falls n us _ (λ x vs le. (
          (λ ws assign_at. (
            omega (arith, ap length let_at, ap length assign_at),
            λ e less. domain-falls n e.rest _ (λ o xs. grid-falls n xs _ (λ p ys. end-falls n ys _ (h n _))),
          )),
          tt,
        ))),
        (
          (λ us emit_at. (
            omega (arith, ap length emit_at),
            λ e less. ((λ vs over_at. span-falls n vs _ (λ o xs. grid-falls n xs _ (λ p ys. end-falls n ys _ (h n _)))), tt),
          )),
          tt,
        ),
      ),
    )

-- what a plan results in

abbrev Answers : Plan → Type 0
Answers plan = (r : Option Found) × Comes plan r

-- each task that is smaller gives a result
abbrev Below : ℕ → Type 0
Below n = (task : Task) → size task < n → Answers (plan_of task)

asked : (task : Task) (behind : Found → Plan) (r : Option Found) → Comes (plan_of task) r
    → ((f : Found) → Comes (plan_of task) (Some f) → Answers (behind f)) → Answers (Ask task behind)
asked task behind None h k = (None, none h)
asked task behind (Some f) h k = let q = k f h in (q.0, found h q.1)

followed : (n : ℕ) → Below n → (plan : Plan) → Falls n plan → Answers plan
followed n below (Done r) h = (r, done)
followed n below (Test t ts behind other) h =
    elim (begins_or_not t ts) [
      | inl is ↦ (let q = followed n below (behind is.0) (h.0 is.0 is.1) in (q.0, met is.1 q.1))
      | inr fails ↦ (let q = followed n below other h.1 in (q.0, missed fails q.1))
    ]
followed n below (Between level ts behind other) h =
    elim (operator_or_none level ts) [
      | inl o ↦ (let q = followed n below (behind o.op o.rest) (h.0 o.sign o.rest o.op o.split o.is) in (q.0, between o.split o.is q.1))
      | inr fails ↦ (let q = followed n below other h.1 in (q.0, behind_all fails q.1))
    ]
followed n below (Ask task behind) h =
    let r = below task h.0 in
    asked task behind r.0 r.1 (λ f comes. followed n below (behind f) (h.1 f (shorter task f (fits task f comes))))

answers_below : (n : ℕ) → Below n
answers_below zero task less = absurd (omega arith)
answers_below (suc n) task less = followed (size task) (λ other smaller. answers_below n other (omega arith)) (plan_of task) (falls task)

-- tokens are a statement, or none

statement_if : (ts : List Tok) (r : Option Found) → Comes (statement_plan ts tells) r
    → ((s : StatementTree) × IsStatement ts s) ⊎ ((s : StatementTree) → ¬ (IsStatement ts s))
statement_if ts None comes =
    inr (λ s is. (let one = one_answer comes (statement-comes ts s is tells (Some (told s)) done) in cc))
statement_if ts (Some f) comes =
    let P : Found → Type 0 = λ g. (s : StatementTree) × (g ≡ told s) × IsStatement ts s in
    let read = kept comes P (statement-keeps P ts tells (λ s is. (s, refl, is))) in
    inl (read.0, read.2)

pub statement_or_none : (ts : List Tok) → ((s : StatementTree) × IsStatement ts s) ⊎ ((s : StatementTree) → ¬ (IsStatement ts s))
statement_or_none ts =
    let r = followed (11 * length ts) (answers_below (11 * length ts)) (statement_plan ts tells) (statement-falls ts tells (λ n s. tt)) in
    statement_if ts r.0 r.1

-- tokens are an expression, or none

expr_by : (ts : List Tok) (e : ExprTree) (rest : List Tok) → Comes (plan_of (Reading Choice ts)) (Some (record { tree = e; rest = rest }))
    → ((e : ExprTree) × IsExpr 0 ts e) ⊎ ((e : ExprTree) → ¬ (IsExpr 0 ts e))
expr_by ts e [] comes =
    let front = fits (Reading Choice ts) (record { tree = e; rest = [] }) comes in
    let same : ts ≡ front.front = front.split ∙ append-nil front.front in
    inl (e, subst (λ (us : List Tok). IsExpr 0 us e) (sym same) front.is)
expr_by ts e (t ∷ rest) comes = inr (λ other is. (let left = same_rest e other (t ∷ rest) [] (one_answer comes (whole ts other is)) in cc))

expr_if : (ts : List Tok) (r : Option Found) → Comes (plan_of (Reading Choice ts)) r
    → ((e : ExprTree) × IsExpr 0 ts e) ⊎ ((e : ExprTree) → ¬ (IsExpr 0 ts e))
expr_if ts None comes = inr (λ e is. (let one = one_answer comes (whole ts e is) in cc))
expr_if ts (Some f) comes = expr_by ts f.tree f.rest comes

pub expr_or_none : (ts : List Tok) → ((e : ExprTree) × IsExpr 0 ts e) ⊎ ((e : ExprTree) → ¬ (IsExpr 0 ts e))
expr_or_none ts =
    let r = answers_below (suc (size (Reading Choice ts))) (Reading Choice ts) (omega arith) in
    expr_if ts r.0 r.1
