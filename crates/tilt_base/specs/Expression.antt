-- Expressions over leaves of some kind, as plain data: without where their parts lie in memory.
use Rattle.std.specs.Prelude.{◌≡◌}
use base.Stored.{Coded, Gv, gnil, gnum, gcons}
use Rattle.tilt_base.specs.declared.operator.Op1.{Op1}
use Rattle.tilt_base.specs.declared.operator.Op2.{Op2}
use Rattle.tilt_base.specs.contracts.operator.Op1 as op1
use Rattle.tilt_base.specs.contracts.operator.Op2 as op2

-- a leaf, an operator on one or two expressions, or a choice: `if` the first `then` the second `else` the third
pub data Expression (L : Type 0) : Type 0 where
  Leaf : (leaf : L) → Expression L
  One : (op : Op1) (a : Expression L) → Expression L
  Two : (op : Op2) (a b : Expression L) → Expression L
  If : (c a b : Expression L) → Expression L

-- how the logic stores an expression
abbrev pub stored : {L : Type 0} → Coded L → Expression L → Gv
stored k (Leaf leaf) = gcons gnil (k.code leaf)
stored k (One op a) = gcons (gnum 1) (gcons (op1.the_row.coded.code op) (stored k a))
stored k (Two op a b) = gcons (gcons gnil gnil) (gcons (op2.the_row.coded.code op) (gcons (stored k a) (stored k b)))
stored k (If c a b) = gcons (gcons gnil (gnum 1)) (gcons (stored k c) (gcons (stored k a) (stored k b)))

pub stored_inj : {L : Type 0} (k : Coded L) (x y : Expression L) → stored k x ≡ stored k y → x ≡ y
stored_inj k (Leaf l) (Leaf m) p = let e = k.inj l m (cc p) in cc
stored_inj k (One f a) (One g b) p =
    let e = op1.the_row.coded.inj f g (cc p) in
    let d = stored_inj k a b (cc p) in
    cc
stored_inj k (Two f a b) (Two g c d) p =
    let e = op2.the_row.coded.inj f g (cc p) in
    let i = stored_inj k a c (cc p) in
    let j = stored_inj k b d (cc p) in
    cc
stored_inj k (If a b c) (If d e f) p =
    let g = stored_inj k a d (cc p) in
    let h = stored_inj k b e (cc p) in
    let i = stored_inj k c f (cc p) in
    cc
stored_inj k x y p = absurd (cc p)

-- expressions can be distinguished if their leaves can
abbrev pub coded_expression : {L : Type 0} → Coded L → Coded (Expression L)
coded_expression k = record { code = stored k; inj = stored_inj k }
