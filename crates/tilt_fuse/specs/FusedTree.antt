-- What loops compute, as plain data: without where its parts lie in memory.
use Rattle.std.specs.Prelude.{◌≡◌, ℕ, ℤ, refl}
use Rattle.std.specs.Coded.{Coded, code_by, coded×, coded_ℕ, coded_ℤ}
use base.Stored.{Gv, gnil, gnum, gcons}
use Rattle.tilt_base.specs.declared.operator.Op1.{Op1}
use Rattle.tilt_base.specs.declared.operator.Op2.{Op2}
use Rattle.tilt_base.specs.contracts.operator.Op1 as op1
use Rattle.tilt_base.specs.contracts.operator.Op2 as op2
use Rattle.tilt_base.specs.contracts.reducer.Reducer as reducer
use Rattle.tilt_base.specs.declared.reducer.Reducer.{Reducer}
use Rattle.tilt_fuse.specs.declared.fused.Fused.{Fused, Held-Fused-Win-4, None', Some'}
use Rattle.tilt_fuse.specs.declared.fused.Fused.TheVariants as fused

-- an expression over buffers; a window may have a map, in which `Argument` is the cell that the map is run on
pub data FusedTree : Type 0 where
  Const : (number : ℤ) → FusedTree
  Port : (source : ℕ) (offset : ℤ) → FusedTree
  Win : (reducer : Reducer) (source : ℕ) (from to : ℤ) → FusedTree
  WinBy : (map : FusedTree) (reducer : Reducer) (source : ℕ) (from to : ℤ) → FusedTree
  Argument : FusedTree
  One : (op : Op1) (a : FusedTree) → FusedTree
  Two : (op : Op2) (a b : FusedTree) → FusedTree
  If : (c a b : FusedTree) → FusedTree

-- a loop: the number of its definition, and what it computes
pub record PlannedLoop : Type 0 where
  pub def : ℕ
  pub body : FusedTree

-- the tree of an expression in memory
abbrev mutual
  pub fused_tree_of : Fused → FusedTree
  fused_tree_of (fused.Const number) = Const number
  fused_tree_of (fused.Port source offset) = Port source offset
  fused_tree_of (fused.Win' reducer source from to map) = window_of map reducer source from to
  fused_tree_of fused.Argument = Argument
  fused_tree_of (fused.One' op p a) = One op (fused_tree_of a)
  fused_tree_of (fused.Two' op p a q b) = Two op (fused_tree_of a) (fused_tree_of b)
  fused_tree_of (fused.If' p c q a r b) = If (fused_tree_of c) (fused_tree_of a) (fused_tree_of b)

  pub window_of : Held-Fused-Win-4 → Reducer → ℕ → ℤ → ℤ → FusedTree
  window_of None' reducer source from to = Win reducer source from to
  window_of (Some' p map) reducer source from to = WinBy (fused_tree_of map) reducer source from to

-- how the logic stores a tree
abbrev pub stored_tree : FusedTree → Gv
stored_tree (Const number) = gcons gnil (coded_ℤ.code number)
stored_tree (Port source offset) = gcons (gnum 1) (gcons (coded_ℕ.code source) (coded_ℤ.code offset))
stored_tree (Win r source from to) =
    gcons (gnum 2) (gcons (reducer.the_row.coded.code r) (gcons (coded_ℕ.code source) (gcons (coded_ℤ.code from) (coded_ℤ.code to))))
stored_tree (WinBy map r source from to) =
    gcons (gnum 3) (gcons (stored_tree map)
    (gcons (reducer.the_row.coded.code r) (gcons (coded_ℕ.code source) (gcons (coded_ℤ.code from) (coded_ℤ.code to)))))
stored_tree Argument = gnil
stored_tree (One op a) = gcons (gnum 4) (gcons (op1.the_row.coded.code op) (stored_tree a))
stored_tree (Two op a b) = gcons (gnum 5) (gcons (op2.the_row.coded.code op) (gcons (stored_tree a) (stored_tree b)))
stored_tree (If c a b) = gcons (gnum 6) (gcons (stored_tree c) (gcons (stored_tree a) (stored_tree b)))

pub stored_tree_inj : (x y : FusedTree) → stored_tree x ≡ stored_tree y → x ≡ y
stored_tree_inj (Const m) (Const n) p = let e = coded_ℤ.inj m n (cc p) in cc
stored_tree_inj (Port m d) (Port n e) p =
    let i = coded_ℕ.inj m n (cc p) in
    let j = coded_ℤ.inj d e (cc p) in
    cc
stored_tree_inj (Win q m d e) (Win r n f g) p =
    let i = reducer.the_row.coded.inj q r (cc p) in
    let j = coded_ℕ.inj m n (cc p) in
    let k = coded_ℤ.inj d f (cc p) in
    let l = coded_ℤ.inj e g (cc p) in
    cc
stored_tree_inj (WinBy a q m d e) (WinBy b r n f g) p =
    let h = stored_tree_inj a b (cc p) in
    let i = reducer.the_row.coded.inj q r (cc p) in
    let j = coded_ℕ.inj m n (cc p) in
    let k = coded_ℤ.inj d f (cc p) in
    let l = coded_ℤ.inj e g (cc p) in
    cc
stored_tree_inj Argument Argument p = refl
stored_tree_inj (One f a) (One g b) p =
    let e = op1.the_row.coded.inj f g (cc p) in
    let d = stored_tree_inj a b (cc p) in
    cc
stored_tree_inj (Two f a b) (Two g c d) p =
    let e = op2.the_row.coded.inj f g (cc p) in
    let i = stored_tree_inj a c (cc p) in
    let j = stored_tree_inj b d (cc p) in
    cc
stored_tree_inj (If a b c) (If d e f) p =
    let g = stored_tree_inj a d (cc p) in
    let h = stored_tree_inj b e (cc p) in
    let i = stored_tree_inj c f (cc p) in
    cc
stored_tree_inj x y p = absurd (cc p)

abbrev pub coded_fused : Coded FusedTree
coded_fused = record { code = stored_tree; inj = stored_tree_inj }

-- loops are distinguished part by part
abbrev pub coded_planned : Coded PlannedLoop
coded_planned =
    code_by (ℕ × FusedTree) (coded× coded_ℕ coded_fused) (λ l. (l.def, l.body)) (λ p. record { def = p.0; body = p.1 }) (λ _. refl)
