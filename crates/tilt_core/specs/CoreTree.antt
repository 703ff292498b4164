-- The expressions and the definitions of a core, as plain data: without where their parts lie in memory.
use Rattle.std.specs.Prelude.{◌≡◌, ℕ, ◌+◌, ℤ, Option, refl}
use Rattle.std.specs.Coded.{Coded, code_by, coded×, coded_ℕ, coded_ℤ, coded_option}
use base.Stored.{Gv, gnil, gnum, gcons}
use Rattle.tilt_base.specs.Expression.{Expression, Leaf, One, Two, If, coded_expression}
use Rattle.tilt_base.specs.Grid.{GridPoints}
use Rattle.tilt_base.specs.contracts.reducer.Reducer as reducer
use Rattle.tilt_base.specs.declared.reducer.Reducer.{Reducer}
use Rattle.tilt_base.specs.contracts.span.Span as span
use Rattle.tilt_base.specs.declared.span.Span.{Span}
use Rattle.tilt_core.specs.declared.tree.Tree.{Tree}
use Rattle.tilt_core.specs.declared.tree.Tree.TheVariants as tree

-- an expression that has no parts, over numbered sources: a number, a reading, or a reducer on a window
pub data CoreLeaf : Type 0 where
  Const : (number : ℤ) → CoreLeaf
  Read : (source : ℕ) (offset : ℤ) → CoreLeaf
  Reduce : (reducer : Reducer) (source : ℕ) (from to : ℤ) → CoreLeaf

-- an expression
abbrev pub CoreTree : Type 0
CoreTree = Expression CoreLeaf

-- an expression, taken on a grid and then restricted to a span, where there is one
pub record Definition : Type 0 where
  pub body : CoreTree
  pub over : Option Span
  pub grid : GridPoints

-- the tree of an expression in memory
abbrev pub tree_of : Tree → CoreTree
tree_of (tree.Const number) = Leaf (Const number)
tree_of (tree.Read source offset) = Leaf (Read source offset)
tree_of (tree.Reduce reducer source from to) = Leaf (Reduce reducer source from to)
tree_of (tree.One' op p a) = One op (tree_of a)
tree_of (tree.Two' op p a q b) = Two op (tree_of a) (tree_of b)
tree_of (tree.If' p c q a r b) = If (tree_of c) (tree_of a) (tree_of b)

-- how many nodes an expression has
abbrev pub nodes : {L : Type 0} → Expression L → ℕ
nodes (Leaf leaf) = 1
nodes (One op a) = 1 + nodes a
nodes (Two op a b) = 1 + nodes a + nodes b
nodes (If c a b) = 1 + nodes c + nodes a + nodes b

-- how a leaf is distinguished from others, which a type that contracts see as definitions needs
abbrev pub stored_leaf : CoreLeaf → Gv
stored_leaf (Const number) = gcons gnil (coded_ℤ.code number)
stored_leaf (Read source offset) = gcons (gnum 1) (gcons (coded_ℕ.code source) (coded_ℤ.code offset))
stored_leaf (Reduce r source from to) =
    gcons (gcons gnil gnil) (gcons (reducer.the_row.coded.code r)
    (gcons (coded_ℕ.code source) (gcons (coded_ℤ.code from) (coded_ℤ.code to))))

pub stored_leaf_inj : (x y : CoreLeaf) → stored_leaf x ≡ stored_leaf y → x ≡ y
stored_leaf_inj (Const m) (Const n) p = let e = coded_ℤ.inj m n (cc p) in cc
stored_leaf_inj (Read m d) (Read n e) p =
    let i = coded_ℕ.inj m n (cc p) in
    let j = coded_ℤ.inj d e (cc p) in
    cc
stored_leaf_inj (Reduce q m d e) (Reduce r n f g) p =
    let i = reducer.the_row.coded.inj q r (cc p) in
    let j = coded_ℕ.inj m n (cc p) in
    let k = coded_ℤ.inj d f (cc p) in
    let l = coded_ℤ.inj e g (cc p) in
    cc
stored_leaf_inj x y p = absurd (cc p)

abbrev pub coded_tree : Coded CoreTree
coded_tree = coded_expression (record { code = stored_leaf; inj = stored_leaf_inj })

abbrev pub coded_grid : Coded GridPoints
coded_grid = code_by (ℤ × ℤ) (coded× coded_ℤ coded_ℤ) (λ g. (g.period, g.offset)) (λ p. record { period = p.0; offset = p.1 }) (λ _. refl)

-- definitions are distinguished part by part
abbrev pub coded_definition : Coded Definition
coded_definition =
    code_by (CoreTree × (Option Span × GridPoints)) (coded× coded_tree (coded× (coded_option span.the_row.coded) coded_grid))
    (λ d. (d.body, (d.over, d.grid)))
    (λ p. record { body = p.0; over = p.1.0; grid = p.1.1 })
    (λ _. refl)
