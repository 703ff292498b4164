use Rattle.std.proofs.Common.{◌≡◌, ◌∙◌, subst}
use Rattle.std.specs.Prelude.{IfOk}
use Rattle.tilt_base.specs.Expression.{If, Two}
use Rattle.tilt_core.specs.CoreTree.{tree_of}
use Rattle.tilt_syntax.specs.Tree.{ExprTree, expr_tree}
use Rattle.tilt_unit_text.specs.Named.{first, named, operand, second, third}
use Rattle.tilt_unit_text.proofs.named.+named.Goals as goal

pub named-returns-in_ok-b-in-Two : goal.named-returns-in_ok-b-in-Two
named-returns-in_ok-b-in-Two t c =
    let tree = tree_of c.args.tree.now in
    let left : expr_tree c.in_ok-a-in-Two.a ≡ operand (expr_tree c.in-Two.a.value) (first tree) =
    c.in_ok-a-in-Two.ensures ∙ (λ i. operand (expr_tree (c.deref-in-Two.ensures i)) (c.first-in-Two.ensures i)) in
    let right : expr_tree c.in_ok-b-in-Two.b ≡ operand (expr_tree c.in-Two.b.value) (second tree) =
    c.in_ok-b-in-Two.ensures ∙ (λ i. operand (expr_tree (c.deref-in-Two-2.ensures i)) (c.second.ensures i)) in
    rw c.in-Two.is (subst (λ (x : ExprTree × ExprTree). IfOk c.two.result (λ e. expr_tree e ≡ Two c.in-Two.op x.0 x.1)) (λ i. (left i, right i)) c.two.ensures)

pub named-returns-in_ok-b-in-If : goal.named-returns-in_ok-b-in-If
named-returns-in_ok-b-in-If t c =
    let tree = tree_of c.args.tree.now in
    let head : expr_tree c.in_ok-c-in-If.c ≡ named (expr_tree c.in-If.c.value) (first tree) =
    c.in_ok-c-in-If.ensures ∙ (λ i. named (expr_tree (c.deref-in-If.ensures i)) (c.first-in-If.ensures i)) in
    let left : expr_tree c.in_ok-a-in-If.a ≡ operand (expr_tree c.in-If.a.value) (second tree) =
    c.in_ok-a-in-If.ensures ∙ (λ i. operand (expr_tree (c.deref-in-If-2.ensures i)) (c.second-in-If.ensures i)) in
    let right : expr_tree c.in_ok-b-in-If.b ≡ operand (expr_tree c.in-If.b.value) (third tree) =
    c.in_ok-b-in-If.ensures ∙ (λ i. operand (expr_tree (c.deref-in-If-3.ensures i)) (c.third.ensures i)) in
    rw c.in-If.is (subst (λ (x : ExprTree × ExprTree × ExprTree). IfOk c.choose.result (λ e. expr_tree e ≡ If x.0 x.1 x.2))
    (λ i. (head i, left i, right i)) c.choose.ensures)
