-- The steps of the descent, each with what it leaves of the tokens.
use Rattle.std.proofs.Common.{◌≡◌, ◌≢◌, ◌<◌, ◌≤◌, ◌-◌, ℕ, List, [], ◌∷◌, length, Option, Some, None, Result, Ok, Err, IfOk, Bor, get_or, take, drop, refl, sym, ap, ◌∙◌, arith}
use Rattle.std.proofs.lemmas.Grind.{common_steps}
use Rattle.tilt_base.specs.declared.operator.Op2.{Op2}
use Rattle.tilt_base.specs.declared.reducer.Reducer.{Reducer}
use Rattle.tilt_lexer.specs.declared.key.Key.{Key}
use Rattle.tilt_lexer.specs.declared.key.Key.TheVariants as key
use Rattle.tilt_lexer.specs.declared.token.Tok.{Tok}
use Rattle.tilt_lexer.specs.declared.token.Tok.TheVariants.{Word}
use Rattle.tilt_lexer.specs.declared.token.Token.{Token}
use Rattle.tilt_syntax.specs.Descent.{Plan, Test, Between, Ask, Found, Task, GoingOn, Comes, done, met, missed, between, behind_all, found, none}
use Rattle.tilt_syntax.specs.Descent.{answer, give, nothing, name_plan, atom_plan, word_plan, behind_operand, plan_of}
use Rattle.tilt_syntax.specs.Levels.{operator_of}
use Rattle.tilt_syntax.specs.Query.{kinds}
use Rattle.tilt_syntax.specs.Rest.{IsRest, Finds, FindsExpr, HasPart}
use Rattle.tilt_syntax.specs.Tree.{ExprTree, expr_tree}
use Rattle.tilt_syntax.specs.declared.expr.Expr.{Expr}
use Rattle.tilt_syntax.specs.declared.level.Level.{Level}
use Rattle.tilt_syntax.specs.declared.level.Level.TheVariants.{Comparison}
use Rattle.tilt_syntax.proofs.Descending.{answered, name-comes, name-none}

-- what is a rest of the tokens

pub same-rest : (ts : List Tok) → IsRest ts ts
same-rest ts = record { fewer = omega arith; sound = λ s. s }

pub first-rest : {t : Tok} {ts us : List Tok} → ts ≡ t ∷ us → IsRest ts us
first-rest e = rw e (record { fewer = omega arith; sound = λ s. s.1 })

pub then-rest : {ts us vs : List Tok} → IsRest ts us → IsRest us vs → IsRest ts vs
then-rest h k = record { fewer = omega (arith, h.fewer, k.fewer); sound = λ s. k.sound (h.sound s) }

-- a step that leaves a rest of the tokens, or all of them

after : {p q : Plan} {ts us : List Tok} {r : Option Found} → IsRest ts us → (Comes p r → Comes q r) → Finds p us r → Finds q ts r
after {r = None} left step h = record { comes = step h.comes; rest = tt }
after {r = Some f} left step h = record { comes = step h.comes; rest = then-rest left h.rest }

stays : {p q : Plan} {ts : List Tok} {r : Option Found} → (Comes p r → Comes q r) → Finds p ts r → Finds q ts r
stays step h = record { comes = step h.comes; rest = h.rest }

-- the end of a plan

pub gives : (e : ExprTree) (ts : List Tok) → Finds (give e ts) ts (Some (record { tree = e; rest = ts }))
gives e ts = record { comes = done; rest = same-rest ts }

pub finds_none : {p : Plan} {ts : List Tok} → Comes p None → Finds p ts None
finds_none h = record { comes = h; rest = tt }

pub gives_nothing : {ts : List Tok} → Finds nothing ts None
gives_nothing = finds_none done

-- a token, a name or an operator with which the tokens begin

pub meets : {t : Tok} {ts us : List Tok} {behind : List Tok → Plan} {other : Plan} {r : Option Found} → ts ≡ t ∷ us
    → Finds (behind us) us r → Finds (Test t ts behind other) ts r
meets e h = after (first-rest e) (λ k. met e k) h

pub misses : {t : Tok} {ts : List Tok} {behind : List Tok → Plan} {other : Plan} {r : Option Found}
    → ((us : List Tok) → ts ≢ t ∷ us) → Finds other ts r → Finds (Test t ts behind other) ts r
misses fails h = stays (λ k. missed fails k) h

pub meets_name : {ts us : List Tok} {x : List ℕ} {r : Option Found} (behind : List ℕ → List Tok → Plan) → ts ≡ Word x ∷ us
    → Finds (behind x us) us r → Finds (name_plan ts behind) ts r
meets_name behind e h = after (first-rest e) (λ k. name-comes _ _ _ behind _ e k) h

pub misses_name : (ts : List Tok) (behind : List ℕ → List Tok → Plan) → ((x : List ℕ) (us : List Tok) → ts ≢ Word x ∷ us)
    → Finds (name_plan ts behind) ts None
misses_name ts behind fails = finds_none (name-none ts behind fails)

pub meets_operator : {level : Level} {t : Tok} {ts us : List Tok} {op : Op2} {behind : Op2 → List Tok → Plan} {other : Plan}
    {r : Option Found} → ts ≡ t ∷ us → operator_of t ≡ Some (level, op) → Finds (behind op us) us r
    → Finds (Between level ts behind other) ts r
meets_operator e is h = after (first-rest e) (λ k. between e is k) h

pub misses_operators : {level : Level} {ts : List Tok} {behind : Op2 → List Tok → Plan} {other : Plan} {r : Option Found}
    → ((t : Tok) (us : List Tok) (op : Op2) → ts ≡ t ∷ us → operator_of t ≢ Some (level, op)) → Finds other ts r
    → Finds (Between level ts behind other) ts r
misses_operators fails h = stays (λ k. behind_all fails k) h

-- a part with which they begin
pub meets_part : {V : Type 0} {plan : (V → List Tok → Plan) → Plan} {ts us : List Tok} {part : V} {r : Option Found}
    (behind : V → List Tok → Plan) → HasPart plan ts part us → Finds (behind part us) us r → Finds (plan behind) ts r
meets_part behind h k = after h.rest (λ g. h.goes_on behind _ g) k

-- a task, and the plan after what it finds

pub asks : {task : Task} {ts : List Tok} {f : Found} {behind : Found → Plan} {r : Option Found} → Finds (plan_of task) ts (Some f)
    → Finds (behind f) f.rest r → Finds (Ask task behind) ts r
asks h k = after h.rest (λ g. found h.comes g) k

pub asks_nothing : {task : Task} {ts : List Tok} {behind : Found → Plan} → Finds (plan_of task) ts None
    → Finds (Ask task behind) ts None
asks_nothing h = finds_none (none h.comes)

pub asked : {ts : List Tok} (task : Task) (r : Option Found) → Finds (plan_of task) ts r → Finds (answer task) ts r
asked task r h = stays (answered task r) h

-- the same of what a task results in, if nothing is said of what it leaves

pub found-comes : {task : Task} {ts : List Tok} {f : Found} {behind : Found → Plan} {r : Option Found}
    → Finds (plan_of task) ts (Some f) → Comes (behind f) r → Comes (Ask task behind) r
found-comes h k = found h.comes k

pub none-comes : {task : Task} {ts : List Tok} {behind : Found → Plan} → Finds (plan_of task) ts None → Comes (Ask task behind) None
none-comes h = none h.comes

-- what one plan finds in memory, another finds where it finds the same
pub carried : {E : Type 0} (result : Result (Option (Expr × Bor (List Token))) E) (p q : Plan) (us ts : List Tok)
    → ((r : Option Found) → Finds p us r → Finds q ts r)
    → IfOk result (λ f. FindsExpr p us f) → IfOk result (λ f. FindsExpr q ts f)
carried (Ok None) p q us ts same h = same None h
carried (Ok (Some x)) p q us ts same h = same (Some (record { tree = expr_tree x.0; rest = kinds x.1.now })) h
carried (Err e) p q us ts same h = h

-- the first token of an atom, and those after it

pub first-split : (ts : List Token) (first : Token) (t : Tok) → 1 ≤ length ts → first ≡ get_or ts 0 first → first.kind ≡ t
    → kinds ts ≡ t ∷ kinds (take (length ts - 1) (drop 1 ts))
first-split [] first t some at kind = absurd (omega arith)
first-split (u ∷ us) first t some at kind =
    let rest : take (length (u ∷ us) - 1) (drop 1 (u ∷ us)) ≡ us = grind (arith, common_steps) in
    let is : u.kind ≡ t = ap (λ (v : Token). v.kind) (sym at) ∙ kind in
    rw (rest, is) refl

pub atom-after : {ts us : List Tok} {r : Option Found} (t : Tok) → ts ≡ t ∷ us → Finds (atom_plan (t ∷ us)) us r
    → Finds (atom_plan ts) ts r
atom-after t e h = after (first-rest e) (λ k. rw e k) h

pub no-atom : (ts : List Token) → length ts < 1 → Finds (atom_plan (kinds ts)) (kinds ts) None
no-atom [] h = gives_nothing
no-atom (t ∷ ts) h = absurd (omega arith)

-- a reserved word that begins no atom
pub no-word : (k : Key) (ts : List Tok) → k ≢ key.TrueWord → k ≢ key.FalseWord → k ≢ key.IsNull → k ≢ key.IfNull
    → ((r : Reducer) → k ≢ key.Reducer r) → Finds (word_plan k ts) ts None
no-word key.TrueWord ts a b c d e = absurd (a refl)
no-word key.FalseWord ts a b c d e = absurd (b refl)
no-word key.IsNull ts a b c d e = absurd (c refl)
no-word key.IfNull ts a b c d e = absurd (d refl)
no-word (key.Reducer r) ts a b c d e = absurd (e r refl)
no-word k ts a b c d e = gives_nothing

-- what isn't a comparison is gone on with
pub gone_on : (level : Level) (e : ExprTree) (ts : List Tok) (r : Option Found) → level ≢ Comparison
    → Finds (plan_of (GoingOn level e ts)) ts r → Finds (behind_operand level e ts) ts r
gone_on Comparison e ts r n h = absurd (n refl)
gone_on level e ts r n h = asked (GoingOn level e ts) r h

-- a comparison isn't
pub stopped : (level : Level) (e : ExprTree) (ts : List Tok) → level ≡ Comparison
    → Finds (behind_operand level e ts) ts (Some (record { tree = e; rest = ts }))
stopped level e ts same = rw same (gives e ts)
