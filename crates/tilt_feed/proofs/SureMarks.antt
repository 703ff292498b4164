-- Sources of which one has all marks of the other make definitions of which one has all marks of the other.
use Rattle.std.proofs.Common.{◌≡◌, ℕ, zero, suc, ℤ, pos, ◌+ℤ◌, ◌-ℤ◌, Bool, true, false, ◌&&◌, ◌||◌, List, [], ◌∷◌, ◌++◌, Option, Some, None, unsigned_abs, refl}
use Rattle.std.specs.Prelude.{⊤}
use Rattle.std.specs.Ordering.{int_eq}
use Rattle.tilt_base.specs.Expression.{Leaf, One, Two, If}
use Rattle.tilt_base.specs.Grid.{GridPoints, is_point}
use Rattle.tilt_base.specs.declared.span.Span.{Span}
use Rattle.tilt_core.specs.CoreTree.{Const, Read, Reduce, CoreTree, Definition}
use Rattle.tilt_core.specs.Meaning.{source_of, body_of, within, definition_of, with_definitions}
use Rattle.tilt_stream.specs.Domain.{some_mark, on_grid, lies_in}
use Rattle.tilt_stream.specs.Stream.{Stream}

-- one has all marks of the other
pub record HasMarksOf (x y : Stream) : Type 0 where
  pub all : (tick : ℤ) → x.mark tick ≡ true → y.mark tick ≡ true

pub marks-refl : (x : Stream) → HasMarksOf x x
marks-refl x = record { all = λ tick is. is }

pub marks-trans : (x y z : Stream) → HasMarksOf x y → HasMarksOf y z → HasMarksOf x z
marks-trans x y z first second = record { all = λ tick is. second.all tick (first.all tick is) }

pub either_true : (a b c d : Bool) → (a ≡ true → c ≡ true) → (b ≡ true → d ≡ true) → (a || b) ≡ true → (c || d) ≡ true
either_true true b c d left right is = rw (left refl) refl
either_true false b true d left right is = refl
either_true false b false d left right is = right is

both_true : (a b d : Bool) → (b ≡ true → d ≡ true) → (a && b) ≡ true → (a && d) ≡ true
both_true true b d right is = right is
both_true false b d right is = is

module _ (xs ys : List Stream) (all : (source : ℕ) → HasMarksOf (source_of xs source) (source_of ys source)) where
  body-marks : (body : CoreTree) → HasMarksOf (body_of xs body) (body_of ys body)
  body-marks (Leaf (Const number)) = record { all = λ tick is. is }
  body-marks (Leaf (Read source offset)) = record { all = λ tick is. (all source).all (tick +ℤ offset) is }
  body-marks (Leaf (Reduce reducer source from to)) =
      let x = source_of xs source in
      let y = source_of ys source in
      record {
        all = λ tick is.
            either_true (x.mark (tick +ℤ to)) (x.mark (tick +ℤ from +ℤ pos 1)) (y.mark (tick +ℤ to)) (y.mark (tick +ℤ from +ℤ pos 1))
            ((all source).all (tick +ℤ to)) ((all source).all (tick +ℤ from +ℤ pos 1)) is;
      }
  body-marks (One op a) = let f = body-marks a in record { all = λ tick is. f.all tick is }
  body-marks (Two op a b) =
      let f = body-marks a in
      let g = body-marks b in
      record {
        all = λ tick is.
            either_true ((body_of xs a).mark tick) ((body_of xs b).mark tick) ((body_of ys a).mark tick) ((body_of ys b).mark tick)
            (f.all tick) (g.all tick) is;
      }
  body-marks (If c a b) =
      let e = body-marks c in
      let f = body-marks a in
      let g = body-marks b in
      record {
        all = λ tick is.
            either_true ((body_of xs c).mark tick || (body_of xs a).mark tick) ((body_of xs b).mark tick)
            ((body_of ys c).mark tick || (body_of ys a).mark tick) ((body_of ys b).mark tick)
            (either_true ((body_of xs c).mark tick) ((body_of xs a).mark tick) ((body_of ys c).mark tick) ((body_of ys a).mark tick) (e.all tick) (f.all tick))
            (g.all tick) is;
      }

some_mark-marks : (x y : Stream) → HasMarksOf x y → (tick : ℤ) (n : ℕ) → some_mark x tick n ≡ true → some_mark y tick n ≡ true
some_mark-marks x y h tick zero is = is
some_mark-marks x y h tick (suc n) is =
    either_true (x.mark (tick +ℤ pos 1)) (some_mark x (tick +ℤ pos 1) n) (y.mark (tick +ℤ pos 1)) (some_mark y (tick +ℤ pos 1) n)
    (h.all (tick +ℤ pos 1)) (some_mark-marks x y h (tick +ℤ pos 1) n) is

on_grid-marks : (grid : GridPoints) (x y : Stream) → HasMarksOf x y → HasMarksOf (on_grid grid x) (on_grid grid y)
on_grid-marks grid x y h = record {
  all = λ tick is.
      both_true (is_point grid (tick -ℤ pos 1)) (some_mark x (tick -ℤ pos 1) (unsigned_abs grid.period)) (some_mark y (tick -ℤ pos 1) (unsigned_abs grid.period))
      (some_mark-marks x y h (tick -ℤ pos 1) (unsigned_abs grid.period)) is;
}

within-marks : (over : Option Span) (x y : Stream) → HasMarksOf x y → HasMarksOf (within over x) (within over y)
within-marks None x y h = h
within-marks (Some span) x y h = record {
  all = λ tick is.
      let ends = int_eq tick (span.start +ℤ pos 1) || int_eq tick (span.end +ℤ pos 1) in
      let inside = lies_in span.start span.end tick in
      either_true ends (inside && x.mark tick) ends (inside && y.mark tick) (λ end. end) (both_true inside (x.mark tick) (y.mark tick) (h.all tick)) is;
}

-- two lists of streams, of which each in the second has all marks of that in the first
abbrev pub HaveMarksOf : List Stream → List Stream → Type 0
HaveMarksOf [] [] = ⊤
HaveMarksOf [] (y ∷ ys) = ⊥
HaveMarksOf (x ∷ xs) [] = ⊥
HaveMarksOf (x ∷ xs) (y ∷ ys) = HasMarksOf x y × HaveMarksOf xs ys

pub marks-at : (xs ys : List Stream) → HaveMarksOf xs ys → (source : ℕ) → HasMarksOf (source_of xs source) (source_of ys source)
marks-at [] [] all source = record { all = λ tick is. is }
marks-at [] (y ∷ ys) all source = absurd all
marks-at (x ∷ xs) [] all source = absurd all
marks-at (x ∷ xs) (y ∷ ys) all zero = all.0
marks-at (x ∷ xs) (y ∷ ys) all (suc source) = marks-at xs ys all.1 source

marks-push : (xs ys : List Stream) (x y : Stream) → HaveMarksOf xs ys → HasMarksOf x y → HaveMarksOf (xs ++ x ∷ []) (ys ++ y ∷ [])
marks-push [] [] x y all h = (h, tt)
marks-push [] (w ∷ ys) x y all h = absurd all
marks-push (v ∷ xs) [] x y all h = absurd all
marks-push (v ∷ xs) (w ∷ ys) x y all h = (all.0, marks-push xs ys x y all.1 h)

definition-marks : (xs ys : List Stream) (def : Definition) → HaveMarksOf xs ys → HasMarksOf (definition_of xs def) (definition_of ys def)
definition-marks xs ys def all =
    let x = body_of xs def.body in
    let y = body_of ys def.body in
    within-marks def.over (on_grid def.grid x) (on_grid def.grid y) (on_grid-marks def.grid x y (body-marks xs ys (marks-at xs ys all) def.body))

-- so do definitions over them
pub definitions-marks : (xs ys : List Stream) (defs : List Definition) → HaveMarksOf xs ys → HaveMarksOf (with_definitions xs defs) (with_definitions ys defs)
definitions-marks xs ys [] all = all
definitions-marks xs ys (def ∷ defs) all =
    definitions-marks (xs ++ definition_of xs def ∷ []) (ys ++ definition_of ys def ∷ []) defs
    (marks-push xs ys (definition_of xs def) (definition_of ys def) all (definition-marks xs ys def all))
