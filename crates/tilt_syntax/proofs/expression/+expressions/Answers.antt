use Rattle.std.proofs.Common.{◌≡◌, ◌≢◌, to_z, of_z, w64, rules, arith}
use Rattle.std.proofs.lemmas.Int.{ints}
use Rattle.tilt_syntax.specs.Descent.{Reading, plan_of, atom_plan, choice_plan, chain_plan, going_plan, minus_plan, negation_plan}
use Rattle.tilt_syntax.specs.Query.{kinds}
use Rattle.tilt_syntax.specs.Tree.{expr_tree}
use Rattle.tilt_syntax.specs.declared.level.Level.TheVariants.{When, Comparison, Atom}
use Rattle.tilt_syntax.proofs.Finding.{asked, asks, asks_nothing, gives, gives_nothing, meets, meets_operator, misses, misses_operators}
use Rattle.tilt_syntax.proofs.Finding.{atom-after, carried, first-split, gone_on, no-atom, no-word, stopped}
use Rattle.tilt_syntax.proofs.expression.+expressions.Goals as goal

pub atom-returns-in_default : goal.atom-returns-in_default
atom-returns-in_default t c =
    no-atom c.args.tokens.now c.in_default.len_below

pub atom-returns-in-Number : goal.atom-returns-in-Number
atom-returns-in-Number t c =
    let fits : to_z w64 (of_z w64 c.in-Number.number) ≡ c.in-Number.number = omega (arith, ints) in
    rw fits (atom-after _ (first-split c.args.tokens.now _ _ c.in-len1-up.len_at_least c.first-item.is c.in-Number.is) (gives _ _))

pub atom-returns-in-Word : goal.atom-returns-in-Word
atom-returns-in-Word t c =
    carried c.reading.result _ (atom_plan (kinds c.args.tokens.now)) _ _
    (λ r h. atom-after _ (first-split c.args.tokens.now _ _ c.in-len1-up.len_at_least c.first-item.is c.in-Word.is) h) c.reading.ensures

pub atom-returns-in-Key : goal.atom-returns-in-Key
atom-returns-in-Key t c =
    carried c.word.result _ (atom_plan (kinds c.args.tokens.now)) _ _
    (λ r h. atom-after _ (first-split c.args.tokens.now _ _ c.in-len1-up.len_at_least c.first-item.is c.in-Key.is) h) c.word.ensures

pub chain-returns-in_default : goal.chain-returns-in_default
chain-returns-in_default t c =
    asks_nothing (rw (c.tighter.ensures, c.in_default.is) at c.in_ok-first.ensures)

pub chain-returns : goal.chain-returns
chain-returns t c =
    carried c.going_on.result _ (chain_plan c.args.level (kinds c.args.tokens.now)) _ _
    (λ r h. asks (rw (c.tighter.ensures, c.in-Some.is) at c.in_ok-first.ensures) (asked _ r h)) c.going_on.ensures

pub choice-returns-in_default : goal.choice-returns-in_default
choice-returns-in_default t c =
    carried c.expression.result (plan_of (Reading When (kinds c.args.tokens.now))) (choice_plan (kinds c.args.tokens.now)) _ _
    (λ r h. misses c.in_default.ensures.front (asked _ r h)) c.expression.ensures

pub choice-returns-in_default-2 : goal.choice-returns-in_default-2
choice-returns-in_default-2 t c =
    meets c.in-Some.ensures.front (asks_nothing (rw c.in_default-2.is at c.in_ok-c.ensures))

pub choice-returns-in_default-after_key : goal.choice-returns-in_default-after_key
choice-returns-in_default-after_key t c =
    meets c.in-Some.ensures.front (asks (rw c.in-Some-2.is at c.in_ok-c.ensures) (
    misses c.in_default-after_key.ensures.front gives_nothing))

pub choice-returns-in_default-3 : goal.choice-returns-in_default-3
choice-returns-in_default-3 t c =
    meets c.in-Some.ensures.front (asks (rw c.in-Some-2.is at c.in_ok-c.ensures) (meets c.in-Some-after_key.ensures.front (asks_nothing (
    rw c.in_default-3.is at c.in_ok-a.ensures))))

pub choice-returns-in_default-after_key-2 : goal.choice-returns-in_default-after_key-2
choice-returns-in_default-after_key-2 t c =
    meets c.in-Some.ensures.front (asks (rw c.in-Some-2.is at c.in_ok-c.ensures) (meets c.in-Some-after_key.ensures.front (asks (
    rw c.in-Some-3.is at c.in_ok-a.ensures) (misses c.in_default-after_key-2.ensures.front gives_nothing))))

pub choice-returns-in_default-4 : goal.choice-returns-in_default-4
choice-returns-in_default-4 t c =
    meets c.in-Some.ensures.front (asks (rw c.in-Some-2.is at c.in_ok-c.ensures) (meets c.in-Some-after_key.ensures.front (asks (
    rw c.in-Some-3.is at c.in_ok-a.ensures) (meets c.in-Some-after_key-2.ensures.front (asks_nothing (
    rw c.in_default-4.is at c.in_ok-b.ensures))))))

pub choice-returns : goal.choice-returns
choice-returns t c =
    rw c.in_ok-chosen.ensures (meets c.in-Some.ensures.front (asks (rw c.in-Some-2.is at c.in_ok-c.ensures) (
    meets c.in-Some-after_key.ensures.front (asks (rw c.in-Some-3.is at c.in_ok-a.ensures) (
    meets c.in-Some-after_key-2.ensures.front (asks (rw c.in-Some-4.is at c.in_ok-b.ensures) (gives _ _)))))))

pub enclosed-returns-in_default : goal.enclosed-returns-in_default
enclosed-returns-in_default t c =
    misses c.in_default.ensures.front gives_nothing

pub enclosed-returns-in_default-2 : goal.enclosed-returns-in_default-2
enclosed-returns-in_default-2 t c =
    meets c.in-Some.ensures.front (asks_nothing (rw c.in_default-2.is at c.in_ok-inside.ensures))

pub enclosed-returns-in_default-after_mark : goal.enclosed-returns-in_default-after_mark
enclosed-returns-in_default-after_mark t c =
    meets c.in-Some.ensures.front (asks (rw c.in-Some-2.is at c.in_ok-inside.ensures) (
    misses c.in_default-after_mark.ensures.front gives_nothing))

pub enclosed-returns : goal.enclosed-returns
enclosed-returns t c =
    meets c.in-Some.ensures.front (asks (rw c.in-Some-2.is at c.in_ok-inside.ensures) (
    meets c.in-Some-after_mark.ensures.front (gives _ _)))

pub is_null-returns-in_default : goal.is_null-returns-in_default
is_null-returns-in_default t c =
    misses c.in_default.ensures.front gives_nothing

pub is_null-returns-in_default-2 : goal.is_null-returns-in_default-2
is_null-returns-in_default-2 t c =
    meets c.in-Some.ensures.front (asks_nothing (rw c.in_default-2.is at c.in_ok-a.ensures))

pub is_null-returns-in_default-after_mark : goal.is_null-returns-in_default-after_mark
is_null-returns-in_default-after_mark t c =
    meets c.in-Some.ensures.front (asks (rw c.in-Some-2.is at c.in_ok-a.ensures) (
    misses c.in_default-after_mark.ensures.front gives_nothing))

pub is_null-returns : goal.is_null-returns
is_null-returns t c =
    rw c.in_ok-tested.ensures (meets c.in-Some.ensures.front (asks (rw c.in-Some-2.is at c.in_ok-a.ensures) (
    meets c.in-Some-after_mark.ensures.front (gives _ _))))

pub if_null-returns-in_default : goal.if_null-returns-in_default
if_null-returns-in_default t c =
    misses c.in_default.ensures.front gives_nothing

pub if_null-returns-in_default-2 : goal.if_null-returns-in_default-2
if_null-returns-in_default-2 t c =
    meets c.in-Some.ensures.front (asks_nothing (rw c.in_default-2.is at c.in_ok-a.ensures))

pub if_null-returns-in_default-after_mark : goal.if_null-returns-in_default-after_mark
if_null-returns-in_default-after_mark t c =
    meets c.in-Some.ensures.front (asks (rw c.in-Some-2.is at c.in_ok-a.ensures) (
    misses c.in_default-after_mark.ensures.front gives_nothing))

pub if_null-returns-in_default-3 : goal.if_null-returns-in_default-3
if_null-returns-in_default-3 t c =
    meets c.in-Some.ensures.front (asks (rw c.in-Some-2.is at c.in_ok-a.ensures) (meets c.in-Some-after_mark.ensures.front (asks_nothing (
    rw c.in_default-3.is at c.in_ok-b.ensures))))

pub if_null-returns-in_default-after_mark-2 : goal.if_null-returns-in_default-after_mark-2
if_null-returns-in_default-after_mark-2 t c =
    meets c.in-Some.ensures.front (asks (rw c.in-Some-2.is at c.in_ok-a.ensures) (meets c.in-Some-after_mark.ensures.front (asks (
    rw c.in-Some-3.is at c.in_ok-b.ensures) (misses c.in_default-after_mark-2.ensures.front gives_nothing))))

pub if_null-returns : goal.if_null-returns
if_null-returns t c =
    rw c.in_ok-other.ensures (meets c.in-Some.ensures.front (asks (rw c.in-Some-2.is at c.in_ok-a.ensures) (
    meets c.in-Some-after_mark.ensures.front (asks (rw c.in-Some-3.is at c.in_ok-b.ensures) (
    meets c.in-Some-after_mark-2.ensures.front (gives _ _))))))

pub going_on-returns-in_default : goal.going_on-returns-in_default
going_on-returns-in_default t c =
    misses_operators c.in_default.ensures.front (gives _ _)

pub going_on-returns-in_default-2 : goal.going_on-returns-in_default-2
going_on-returns-in_default-2 t c =
    let op = c.in-Some.ensures.front in
    meets_operator op.1 op.2 (asks_nothing (rw (c.tighter.ensures, c.in_default-2.is) at c.in_ok-right.ensures))

pub going_on-returns-then-eq : goal.going_on-returns-then-eq
going_on-returns-then-eq t c =
    let op = c.in-Some.ensures.front in
    let same : c.args.level ≡ Comparison = search rules in
    rw c.in_ok-both.ensures (meets_operator op.1 op.2 (asks (rw (c.tighter.ensures, c.in-Some-2.is) at c.in_ok-right.ensures) (
    stopped c.args.level _ _ same)))

pub going_on-returns-else-eq : goal.going_on-returns-else-eq
going_on-returns-else-eq t c =
    let op = c.in-Some.ensures.front in
    let other : c.args.level ≢ Comparison = search rules in
    carried c.going_on.result _ (going_plan c.args.level (expr_tree c.args.left) (kinds c.args.tokens.now)) _ _
    (λ r h. meets_operator op.1 op.2 (asks (rw (c.tighter.ensures, c.in-Some-2.is) at c.in_ok-right.ensures) (
    gone_on c.args.level _ _ r other (rw c.in_ok-both.ensures at h)))) c.going_on.ensures

pub minus-returns-in_default : goal.minus-returns-in_default
minus-returns-in_default t c =
    carried c.expression.result (plan_of (Reading Atom (kinds c.args.tokens.now))) (minus_plan (kinds c.args.tokens.now)) _ _
    (λ r h. misses c.in_default.ensures.front (asked (Reading Atom (kinds c.args.tokens.now)) r h)) c.expression.ensures

pub minus-returns-in_default-2 : goal.minus-returns-in_default-2
minus-returns-in_default-2 t c =
    meets c.in-Some.ensures.front (asks_nothing (rw c.in_default-2.is at c.in_ok-a.ensures))

pub minus-returns : goal.minus-returns
minus-returns t c =
    rw c.in_ok-negative.ensures (meets c.in-Some.ensures.front (asks (rw c.in-Some-2.is at c.in_ok-a.ensures) (gives _ _)))

pub negation-returns-in_default : goal.negation-returns-in_default
negation-returns-in_default t c =
    carried c.expression.result (plan_of (Reading Comparison (kinds c.args.tokens.now))) (negation_plan (kinds c.args.tokens.now)) _ _
    (λ r h. misses c.in_default.ensures.front (asked (Reading Comparison (kinds c.args.tokens.now)) r h)) c.expression.ensures

pub negation-returns-in_default-2 : goal.negation-returns-in_default-2
negation-returns-in_default-2 t c =
    meets c.in-Some.ensures.front (asks_nothing (rw c.in_default-2.is at c.in_ok-a.ensures))

pub negation-returns : goal.negation-returns
negation-returns t c =
    rw c.in_ok-negated.ensures (meets c.in-Some.ensures.front (asks (rw c.in-Some-2.is at c.in_ok-a.ensures) (gives _ _)))

pub word-returns-in-TrueWord : goal.word-returns-in-TrueWord
word-returns-in-TrueWord t c =
    rw c.in-TrueWord.is (gives _ _)

pub word-returns-in-FalseWord : goal.word-returns-in-FalseWord
word-returns-in-FalseWord t c =
    rw c.in-FalseWord.is (gives _ _)

pub word-returns-in_default : goal.word-returns-in_default
word-returns-in_default t c =
    no-word c.args.key _ c.in_default.not-TrueWord c.in_default.not-FalseWord c.in_default.not-IsNull
    c.in_default.not-IfNull c.in_default.not-Reducer
