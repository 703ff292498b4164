-- What the grammar has is what the descent finds.
use Rattle.std.proofs.Common.{◌≡◌, ◌≢◌, ◌<◌, ◌≤◌, ℕ, suc, ℤ, List, [], ◌∷◌, ◌++◌, Option, Some, None, refl, sym, ap, subst, ◌∙◌, inl, inr, append_assoc, lit≤, arith}
use Rattle.tilt_base.specs.Expression.{Leaf, Two}
use Rattle.tilt_base.specs.declared.operator.Op2.{Op2}
use Rattle.tilt_base.specs.declared.reducer.Reducer.{Reducer}
use Rattle.tilt_lexer.specs.declared.key.Key.TheVariants as key
use Rattle.tilt_lexer.specs.declared.mark.Mark.TheVariants as mark
use Rattle.tilt_lexer.specs.declared.token.Tok.{Tok}
use Rattle.tilt_lexer.specs.declared.token.Tok.TheVariants.{Word, Key as Reserved, Mark as Sign}
use Rattle.tilt_syntax.specs.Descent.{Plan, Test, Found, Comes, done, met, missed, between, behind_all, found}
use Rattle.tilt_syntax.specs.Descent.{Reading, GoingOn, plan_of, going_plan, behind_operand, offset_plan, window_plan, word_plan, give, answer}
use Rattle.tilt_syntax.specs.Grammar.{Infix, SpellsOffset, now, later, earlier, IsExpr, tighter, choice, between as joined, negation, minus}
use Rattle.tilt_syntax.specs.Grammar.{number, true_word, false_word, name, reading, window, is_null, if_null, enclosed}
use Rattle.tilt_syntax.specs.Levels.{level_number, operator_of, tighter as next}
use Rattle.tilt_syntax.specs.Tree.{Reduce, ExprTree}
use Rattle.tilt_syntax.specs.declared.level.Level.{Level}
use Rattle.tilt_syntax.specs.declared.level.Level.TheVariants.{Choice, When, Or, And, Negation, Comparison, Sum, Product, Minus, Atom}
use Rattle.tilt_syntax.proofs.Descending.{answered}
use Rattle.tilt_syntax.proofs.Operators.{same_level, IsChain, whens, ors, ands, sums, products, IsOperator, known}

-- the smallest level of the operators with which an expression of a level would go on
abbrev barrier : Level → ℕ
barrier Comparison = 5
barrier level = suc (level_number level)

-- no operator of that level or a tighter one is at the beginning, and no bracket
pub record Stops (n : ℕ) (ts : List Tok) : Type 0 where
  pub none_begins : (t : Tok) (us : List Tok) (level : Level) (op : Op2) → ts ≡ t ∷ us → operator_of t ≡ Some (level, op)
      → level_number level < n
  pub no_bracket : (us : List Tok) → ts ≢ Sign mark.OpenBracket ∷ us

-- what no expression goes on with
pub stops-at : (n : ℕ) (t : Tok) (ts : List Tok) → operator_of t ≡ None → t ≢ Sign mark.OpenBracket → Stops n (t ∷ ts)
stops-at n t ts fails other = record {
  none_begins = λ u us level op e is. (let same : t ≡ u = cc in absurd (cc));
  no_bracket = λ us e. other (cc);
}

pub stops-end : (n : ℕ) → Stops n []
stops-end n = record { none_begins = λ u us level op e is. absurd (cc); no_bracket = λ us e. cc }

stops-more : (m n : ℕ) (ts : List Tok) → m ≤ n → Stops m ts → Stops n ts
stops-more m n ts le s = record {
  none_begins = λ u us level op e is. (let lt = s.none_begins u us level op e is in omega arith);
  no_bracket = s.no_bracket;
}

-- an operator stops each tighter level
stops-sign : (n : ℕ) (t : Tok) (level : Level) (op : Op2) (ts : List Tok) → operator_of t ≡ Some (level, op) → level_number level < n
    → Stops n (t ∷ ts)
stops-sign n t level op ts is lt = record {
  none_begins = λ u us other op' e is'. (
      let same : t ≡ u = cc in
      let both : (level, op) ≡ (other, op') = cc in
      let levels : level ≡ other = ap (λ (x : Level × Op2). x.0) both in
      rw (← levels) lt);
  no_bracket = λ us e. (let same : t ≡ Sign mark.OpenBracket = cc in absurd (let no : operator_of t ≡ None = rw same refl in cc));
}

-- what an expression is gone on to
abbrev tail : Level → ExprTree → List Tok → Plan
tail When e ts = answer (GoingOn When e ts)
tail Or e ts = answer (GoingOn Or e ts)
tail And e ts = answer (GoingOn And e ts)
tail Sum e ts = answer (GoingOn Sum e ts)
tail Product e ts = answer (GoingOn Product e ts)
tail level e ts = give e ts

-- nothing is added to it if no operator of its level follows
tail-ends : (level : Level) (e : ExprTree) (ts : List Tok)
    → ((t : Tok) (us : List Tok) (op : Op2) → ts ≡ t ∷ us → operator_of t ≢ Some (level, op))
    → Comes (tail level e ts) (Some (record { tree = e; rest = ts }))
tail-ends When e ts h = found (behind_all h done) done
tail-ends Or e ts h = found (behind_all h done) done
tail-ends And e ts h = found (behind_all h done) done
tail-ends Sum e ts h = found (behind_all h done) done
tail-ends Product e ts h = found (behind_all h done) done
tail-ends level e ts h = done

tail-stops : (n : ℕ) (level : Level) (e : ExprTree) (ts : List Tok) → n ≤ level_number level → Stops n ts
    → Comes (tail level e ts) (Some (record { tree = e; rest = ts }))
tail-stops n level e ts le s =
    tail-ends level e ts (λ t us op is at. (let lt = s.none_begins t us level op is at in absurd (omega arith)))

-- the token with which an expression of a level begins
pub record Begins (n : ℕ) (ts : List Tok) : Type 0 where
  pub first : Tok
  pub rest : List Tok
  pub is : ts ≡ first ∷ rest
  pub no_if : first ≡ Reserved key.If → n ≤ 0
  pub no_not : first ≡ Reserved key.Not → n ≤ 4
  pub no_minus : first ≡ Sign mark.Minus → n ≤ 8

begins-less : (m n : ℕ) (ts : List Tok) → n ≤ m → Begins m ts → Begins n ts
begins-less m n ts le b = record {
  first = b.first;
  rest = b.rest;
  is = b.is;
  no_if = λ e. (let h = b.no_if e in omega arith);
  no_not = λ e. (let h = b.no_not e in omega arith);
  no_minus = λ e. (let h = b.no_minus e in omega arith);
}

begins-other : (n : ℕ) (t : Tok) (ts : List Tok) → t ≢ Reserved key.If → t ≢ Reserved key.Not → t ≢ Sign mark.Minus → Begins n (t ∷ ts)
begins-other n t ts a b c = record {
  first = t;
  rest = ts;
  is = refl;
  no_if = λ e. absurd (a e);
  no_not = λ e. absurd (b e);
  no_minus = λ e. absurd (c e);
}

level-bounded : (level : Level) → level_number level ≤ 9
level-bounded Choice = lit≤ tt
level-bounded When = lit≤ tt
level-bounded Or = lit≤ tt
level-bounded And = lit≤ tt
level-bounded Negation = lit≤ tt
level-bounded Comparison = lit≤ tt
level-bounded Sum = lit≤ tt
level-bounded Product = lit≤ tt
level-bounded Minus = lit≤ tt
level-bounded Atom = lit≤ tt

left-tighter : (op : Op2) (i : Infix) → IsOperator op i → i.level ≤ i.left
left-tighter op i k =
    let number = k.number in
    elim k.left [ inl w ↦ omega (arith, w.1) | inr w ↦ (let five : level_number k.level ≡ 5 = rw w.0 refl in omega (arith, w.1)) ]

begins : (n : ℕ) (ts : List Tok) (e : ExprTree) → IsExpr n ts e → (more : List Tok) → Begins n (ts ++ more)
begins n ts e (tighter h) more = begins-less (suc n) n _ (omega arith) (begins (suc n) ts e h more)
begins n ts e (choice hc ha hb) more = record {
  first = Reserved key.If;
  rest = _;
  is = refl;
  no_if = λ e. omega arith;
  no_not = λ e. cc;
  no_minus = λ e. cc;
}
begins n ts e (joined {op = op} {i = i} {ts = us} {us = vs} is ha hb) more =
    rw (append_assoc us (i.sign ∷ vs) more) (begins-less i.left n _ (left-tighter op i (known op i is)) (
    begins i.left us _ ha ((i.sign ∷ vs) ++ more)))
begins n ts e (negation h) more = record {
  first = Reserved key.Not;
  rest = _;
  is = refl;
  no_if = λ e. cc;
  no_not = λ e. omega arith;
  no_minus = λ e. cc;
}
begins n ts e (minus h) more = record {
  first = Sign mark.Minus;
  rest = _;
  is = refl;
  no_if = λ e. cc;
  no_not = λ e. cc;
  no_minus = λ e. omega arith;
}
begins n ts e number more = begins-other n _ _ (λ e. cc) (λ e. cc) (λ e. cc)
begins n ts e true_word more = begins-other n _ _ (λ e. cc) (λ e. cc) (λ e. cc)
begins n ts e false_word more = begins-other n _ _ (λ e. cc) (λ e. cc) (λ e. cc)
begins n ts e name more = begins-other n _ _ (λ e. cc) (λ e. cc) (λ e. cc)
begins n ts e (reading h) more = begins-other n _ _ (λ e. cc) (λ e. cc) (λ e. cc)
begins n ts e (window l h) more = begins-other n _ _ (λ e. cc) (λ e. cc) (λ e. cc)
begins n ts e (is_null h) more = begins-other n _ _ (λ e. cc) (λ e. cc) (λ e. cc)
begins n ts e (if_null h k) more = begins-other n _ _ (λ e. cc) (λ e. cc) (λ e. cc)
begins n ts e (enclosed h) more = begins-other n _ _ (λ e. cc) (λ e. cc) (λ e. cc)

-- no level is tighter than 9
bounded : (n : ℕ) (ts : List Tok) (e : ExprTree) → IsExpr n ts e → n ≤ 9
bounded n ts e (tighter h) = let le = bounded (suc n) ts e h in omega arith
bounded n ts e (joined {op = op} {i = i} is ha hb) =
    let k = known op i is in
    let le = level-bounded k.level in
    let at = k.number in
    omega arith
bounded n ts e h = lit≤ tt

next-number : (level : Level) → level_number level ≤ 8 → level_number (next level) ≡ suc (level_number level)
next-number Atom le = absurd (omega arith)
next-number Choice le = refl
next-number When le = refl
next-number Or le = refl
next-number And le = refl
next-number Negation le = refl
next-number Comparison le = refl
next-number Sum le = refl
next-number Product le = refl
next-number Minus le = refl

-- reading at a level finds the expression, and what it is gone on to
abbrev Reads : Level → List Tok → ExprTree → Type 0
Reads level front e = (rest : List Tok) (r : Option Found) → Stops (barrier level) rest → Comes (tail level e rest) r
    → Comes (plan_of (Reading level (front ++ rest))) r

-- an expression of a tighter level is read at the next looser one
lower : (level : Level) (front : List Tok) (e : ExprTree) → suc (level_number level) ≤ 9
    → ((more : List Tok) → Begins (suc (level_number level)) (front ++ more)) → Reads (next level) front e → Reads level front e
lower Choice front e le b h rest r s k =
    let begin = b rest in
    missed (λ us is. (let if : begin.first ≡ Reserved key.If = cc (begin.is, is) in let no = begin.no_if if in absurd (omega arith)))
    (found (h rest _ (stops-more 1 2 rest (omega arith) s) (tail-stops 1 When e rest (omega arith) s)) k)
lower When front e le b h rest r s k = found (h rest _ (stops-more 2 3 rest (omega arith) s) (tail-stops 2 Or e rest (omega arith) s)) k
lower Or front e le b h rest r s k = found (h rest _ (stops-more 3 4 rest (omega arith) s) (tail-stops 3 And e rest (omega arith) s)) k
lower And front e le b h rest r s k =
    found (h rest _ (stops-more 4 5 rest (omega arith) s) (tail-stops 4 Negation e rest (omega arith) s)) k
lower Negation front e le b h rest r s k =
    let begin = b rest in
    missed (λ us is. (
    let not : begin.first ≡ Reserved key.Not = cc (begin.is, is) in let no = begin.no_not not in absurd (omega arith)))
    (found (h rest _ s (tail-stops 5 Comparison e rest (omega arith) s)) k)
lower Comparison front e le b h rest r s k =
    found (h rest _ (stops-more 5 7 rest (omega arith) s) (tail-stops 5 Sum e rest (omega arith) s))
    (answered (GoingOn Comparison e rest) r (behind_all (λ t us op is at. (
    let lt = s.none_begins t us Comparison op is at in absurd (omega arith))) k))
lower Sum front e le b h rest r s k =
    found (h rest _ (stops-more 7 8 rest (omega arith) s) (tail-stops 7 Product e rest (omega arith) s)) k
lower Product front e le b h rest r s k =
    found (h rest _ (stops-more 8 9 rest (omega arith) s) (tail-stops 8 Minus e rest (omega arith) s)) k
lower Minus front e le b h rest r s k =
    let begin = b rest in
    missed (λ us is. (
    let sign : begin.first ≡ Sign mark.Minus = cc (begin.is, is) in let no = begin.no_minus sign in absurd (omega arith)))
    (found (h rest _ (stops-more 9 10 rest (omega arith) s) (tail-stops 9 Atom e rest (omega arith) s)) k)
lower Atom front e le b h rest r s k = absurd (omega arith)

-- an offset is asked for and found, where it isn't gone on with
offset-comes : (ts : List Tok) (d : ℤ) → SpellsOffset ts d → (rest : List Tok) (behind : ℤ → List Tok → Plan) (r : Option Found)
    → ((us : List Tok) → rest ≢ Sign mark.Plus ∷ us) → ((us : List Tok) → rest ≢ Sign mark.Minus ∷ us)
    → Comes (behind d rest) r → Comes (offset_plan (ts ++ rest) behind) r
offset-comes ts d now rest behind r no_plus no_minus k = met refl (missed no_plus (missed no_minus k))
offset-comes ts d later rest behind r no_plus no_minus k = met refl (met refl k)
offset-comes ts d earlier rest behind r no_plus no_minus k = met refl (missed (λ us e. cc) (met refl k))

-- a window is found
window-comes : (reducer : Reducer) (x : List ℕ) (ts us : List Tok) (l h : ℤ) → SpellsOffset ts l → SpellsOffset us h
    → (rest : List Tok) (r : Option Found) → Comes (give (Leaf (Reduce reducer x l h)) rest) r
    → Comes (window_plan reducer ((Sign mark.OpenParen ∷ Word x ∷ Sign mark.OpenBracket
    ∷ (ts ++ (Sign mark.Colon ∷ (us ++ (Sign mark.CloseBracket ∷ Sign mark.CloseParen ∷ []))))) ++ rest)) r
window-comes reducer x ts us l h ol oh rest r k =
    met refl (met refl (
    rw (append_assoc ts (Sign mark.Colon ∷ (us ++ (Sign mark.CloseBracket ∷ Sign mark.CloseParen ∷ []))) rest) (
    offset-comes ts l ol _ _ r (λ us e. cc) (λ us e. cc) (met refl (
    rw (append_assoc us (Sign mark.CloseBracket ∷ Sign mark.CloseParen ∷ []) rest) (
    offset-comes us h oh _ _ r (λ us e. cc) (λ us e. cc) (met refl (met refl k))))))))

-- in a chain an operator is gone on with
chained : (level : Level) → IsChain level → (e : ExprTree) (ts : List Tok) (r : Option Found) → Comes (going_plan level e ts) r
    → Comes (tail level e ts) r
chained level whens e ts r h = answered (GoingOn level e ts) r h
chained level ors e ts r h = answered (GoingOn level e ts) r h
chained level ands e ts r h = answered (GoingOn level e ts) r h
chained level sums e ts r h = answered (GoingOn level e ts) r h
chained level products e ts r h = answered (GoingOn level e ts) r h

-- and what it is gone on to is what follows the operand
rejoined : (level : Level) → IsChain level → (e : ExprTree) (ts : List Tok) (r : Option Found) → Comes (tail level e ts) r
    → Comes (behind_operand level e ts) r
rejoined level whens e ts r h = h
rejoined level ors e ts r h = h
rejoined level ands e ts r h = h
rejoined level sums e ts r h = h
rejoined level products e ts r h = h

chain-barrier : (level : Level) → IsChain level → barrier level ≡ suc (level_number level)
chain-barrier level whens = refl
chain-barrier level ors = refl
chain-barrier level ands = refl
chain-barrier level sums = refl
chain-barrier level products = refl

-- the operand on the right of a chain is of a level that stops where the chain's does
chain-next : (level : Level) → IsChain level → (barrier level ≤ barrier (next level)) × (barrier level ≤ level_number (next level))
chain-next level whens = (lit≤ tt, lit≤ tt)
chain-next level ors = (lit≤ tt, lit≤ tt)
chain-next level ands = (lit≤ tt, lit≤ tt)
chain-next level sums = (lit≤ tt, lit≤ tt)
chain-next level products = (lit≤ tt, lit≤ tt)

read-chain : (level : Level) → IsChain level → (op : Op2) (sign : Tok) → operator_of sign ≡ Some (level, op)
    → (ts us : List Tok) (a b : ExprTree) → Reads level ts a → Reads (next level) us b → Reads level (ts ++ (sign ∷ us)) (Two op a b)
read-chain level chain op sign is ts us a b ha hb rest r s k =
    let le = chain-next level chain in
    let at = chain-barrier level chain in
    rw (append_assoc ts (sign ∷ us) rest) (
    ha (sign ∷ (us ++ rest)) r (stops-sign (barrier level) sign level op _ is (omega arith)) (
    chained level chain a _ r (between refl is (
    found (hb rest (Some (record { tree = b; rest = rest })) (stops-more _ _ rest le.0 s) (tail-stops _ (next level) b rest le.1 s)) (
    rejoined level chain _ rest r k)))))

read-comparison : (op : Op2) (sign : Tok) → operator_of sign ≡ Some (Comparison, op)
    → (ts us : List Tok) (a b : ExprTree) → Reads Sum ts a → Reads Sum us b → Reads Comparison (ts ++ (sign ∷ us)) (Two op a b)
read-comparison op sign is ts us a b ha hb rest r s k =
    rw (append_assoc ts (sign ∷ us) rest) (
    found (ha (sign ∷ (us ++ rest)) (Some (record { tree = a; rest = sign ∷ (us ++ rest) }))
    (stops-sign 7 sign Comparison op _ is (omega arith))
    (tail-stops 6 Sum a _ (omega arith) (stops-sign 6 sign Comparison op _ is (omega arith)))) (
    answered (GoingOn Comparison a (sign ∷ (us ++ rest))) r (between refl is (
    found (hb rest (Some (record { tree = b; rest = rest })) (stops-more 5 7 rest (omega arith) s) (
    tail-stops 5 Sum b rest (omega arith) s)) k))))

comparison-reads : (op : Op2) (i : Infix) (k : IsOperator op i) → (k.level ≡ Comparison) × (i.left ≡ 6)
    → (ts us : List Tok) (a b : ExprTree)
    → Reads Sum ts a → Reads (next k.level) us b → Reads k.level (ts ++ (i.sign ∷ us)) (Two op a b)
comparison-reads op i k w ts us a b ha hb =
    let P : Level → Type 0 = λ level. operator_of i.sign ≡ Some (level, op) → Reads (next level) us b
    → Reads level (ts ++ (i.sign ∷ us)) (Two op a b) in
    subst P (sym w.0) (λ is h. read-comparison op i.sign is ts us a b ha h) k.known hb

-- what comes before a sign that ends it
read-before : (n : ℕ) (t : Tok) (ts rest : List Tok) (e : ExprTree) → operator_of t ≡ None → t ≢ Sign mark.OpenBracket
    → Reads Choice ts e
    → Comes (plan_of (Reading Choice (ts ++ (t ∷ rest)))) (Some (record { tree = e; rest = t ∷ rest }))
read-before n t ts rest e fails other h = h (t ∷ rest) _ (stops-at 1 t rest fails other) done

-- a token is met, and what follows it is regrouped
pub met-append : (t : Tok) (ts us rest : List Tok) {behind : List Tok → Plan} {other : Plan} {r : Option Found}
    → Comes (behind (ts ++ (us ++ rest))) r
    → Comes (Test t (t ∷ ((ts ++ us) ++ rest)) behind other) r
met-append t ts us rest h = met (ap (λ (x : List Tok). t ∷ x) (append_assoc ts us rest)) h

pub complete : (level : Level) (n : ℕ) (front : List Tok) (e : ExprTree) → IsExpr n front e → level_number level ≡ n
    → Reads level front e
complete level n front e (tighter h) same =
    let le = bounded (suc n) front e h in
    let number : level_number (next level) ≡ suc (level_number level) = next-number level (omega arith) in
    lower level front e (omega arith) (λ more. rw same (begins (suc n) front e h more)) (
    complete (next level) (suc n) front e h (number ∙ ap suc same))
complete level n front e (choice {ts = ts} {us = us} {vs = vs} {c = c} {a = a} {b = b} hc ha hb) same =
    let if_at : level ≡ Choice = same_level level Choice same in
    rw if_at (λ rest r s k.
    met-append _ ts (Reserved key.Then ∷ (us ++ (Reserved key.Else ∷ vs))) rest (
    found (read-before 1 (Reserved key.Then) ts _ c refl (λ e. cc) (complete Choice 0 ts c hc refl)) (
    met-append _ us (Reserved key.Else ∷ vs) rest (
    found (read-before 1 (Reserved key.Else) us _ a refl (λ e. cc) (complete Choice 0 us a ha refl)) (met refl (
    found (complete Choice 0 vs b hb refl rest _ s done) k))))))
complete level n front e (joined {op = op} {i = i} {ts = ts} {us = us} {a = a} {b = b} is ha hb) same =
    let k = known op i is in
    let at : level ≡ k.level = same_level level k.level (same ∙ sym k.number) in
    rw at (elim k.left [
      | inl w ↦ read-chain k.level w.0 op i.sign k.known ts us a b (complete k.level i.left ts a ha (k.number ∙ sym w.1)) (
          complete (next k.level) i.right us b hb k.right)
      | inr w ↦ comparison-reads op i k w ts us a b (complete Sum i.left ts a ha (sym w.1)) (
          complete (next k.level) i.right us b hb k.right)
    ])
complete level n front e (negation {ts = ts} {a = a} h) same =
    let at : level ≡ Negation = same_level level Negation same in
    rw at (λ rest r s k. met refl (found (complete Negation 4 ts a h refl rest _ s done) k))
complete level n front e (minus {ts = ts} {a = a} h) same =
    let at : level ≡ Minus = same_level level Minus same in
    rw at (λ rest r s k. met refl (found (complete Minus 8 ts a h refl rest _ s done) k))
complete level n front e number same = let at : level ≡ Atom = same_level level Atom same in rw at (λ rest r s k. k)
complete level n front e true_word same = let at : level ≡ Atom = same_level level Atom same in rw at (λ rest r s k. k)
complete level n front e false_word same = let at : level ≡ Atom = same_level level Atom same in rw at (λ rest r s k. k)
complete level n front e name same =
    let at : level ≡ Atom = same_level level Atom same in
    rw at (λ rest r s k. missed s.no_bracket k)
complete level n front e (reading {ts = ts} {d = d} h) same =
    let at : level ≡ Atom = same_level level Atom same in
    rw at (λ rest r s k. met-append _ ts (Sign mark.CloseBracket ∷ []) rest (
    offset-comes ts d h _ _ r (λ us e. cc) (λ us e. cc) (met refl k)))
complete level n front e (window {r = reducer} {x = x} {ts = ts} {us = us} {l = l} {h = h} ol oh) same =
    let at : level ≡ Atom = same_level level Atom same in
    rw at (λ rest r s k. window-comes reducer x ts us l h ol oh rest r k)
complete level n front e (is_null {ts = ts} {a = a} h) same =
    let at : level ≡ Atom = same_level level Atom same in
    rw at (λ rest r s k. met-append _ ts (Sign mark.CloseParen ∷ []) rest (
    found (read-before 1 (Sign mark.CloseParen) ts _ a refl (λ e. cc) (complete Choice 0 ts a h refl)) (met refl k)))
complete level n front e (if_null {ts = ts} {us = us} {a = a} {b = b} ha hb) same =
    let at : level ≡ Atom = same_level level Atom same in
    rw at (λ rest r s k. met-append _ ts (Sign mark.Comma ∷ (us ++ (Sign mark.CloseParen ∷ []))) rest (
    found (read-before 1 (Sign mark.Comma) ts _ a refl (λ e. cc) (complete Choice 0 ts a ha refl)) (
    met-append _ us (Sign mark.CloseParen ∷ []) rest (
    found (read-before 1 (Sign mark.CloseParen) us _ b refl (λ e. cc) (complete Choice 0 us b hb refl)) (met refl k)))))
complete level n front e (enclosed {ts = ts} h) same =
    let at : level ≡ Atom = same_level level Atom same in
    rw at (λ rest r s k. met-append _ ts (Sign mark.CloseParen ∷ []) rest (
    found (read-before 1 (Sign mark.CloseParen) ts _ e refl (λ f. cc) (complete Choice 0 ts e h refl)) (met refl k)))
