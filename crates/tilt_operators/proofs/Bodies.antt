-- An expression of a step, over the sources that it reads: its cells are its values, and it has no mark where they have none.
use Rattle.std.proofs.Common.{◌≡◌, ℕ, ℤ, pos, ◌+ℤ◌, Bool, true, false, ◌&&◌, if◌then◌else◌, List, Some, codes, refl, ap, ◌∙◌, arith}
use Rattle.std.specs.Ordering.{int_eq}
use Rattle.std.specs.Str.{bytes_eq}
use Rattle.std.proofs.lemmas.Bool.{and_parts, or_from, false≢true}
use Rattle.std.proofs.lemmas.Int.{ints}
use Rattle.tilt_base.specs.Expression.{Leaf, One, Two, If}
use Rattle.tilt_base.specs.Scalar.{apply1, apply2, choose}
use Rattle.tilt_core.specs.Meaning.{source_of, body_of}
use Rattle.tilt_stream.specs.Stream.{Stream}
use Rattle.tilt_syntax.specs.Tree.{ExprTree, Num, Truth, Read, Reduce}
use Rattle.tilt_types.specs.Checked.{numbered, place_of}
use Rattle.tilt_operators.specs.Desugared.{over_sources}
use Rattle.tilt_operators.specs.Lists.{value_of}
use Rattle.tilt_operators.specs.Steps.{is_over, is_operand}
use Rattle.tilt_operators.specs.declared.operands.Operands.{Operands}

module _ (names : List (List ℕ)) (xs : List Stream) (p n : List ℕ) (x y : Stream)
    (first : source_of xs (place_of names p) ≡ x) (second : source_of xs (place_of names n) ≡ y) where
  -- what the expression is made into
  abbrev pub body : ExprTree → Stream
  body e = body_of xs (numbered names (over_sources p n e))

  read-cell : (is_v : Bool) (offset tick v w : ℤ) → offset ≡ pos 0 → x.cell tick ≡ Some v → y.cell tick ≡ Some w
      → (body_of xs (numbered names (Leaf (Read (if is_v then p else n) offset)))).cell tick ≡ (if is_v then Some v else Some w)
  read-cell true offset tick v w none at_x at_y =
      let here : tick +ℤ offset ≡ tick = omega (arith, ints) in
      ap (λ (s : Stream). s.cell (tick +ℤ offset)) first ∙ ap x.cell here ∙ at_x
  read-cell false offset tick v w none at_x at_y =
      let here : tick +ℤ offset ≡ tick = omega (arith, ints) in
      ap (λ (s : Stream). s.cell (tick +ℤ offset)) second ∙ ap y.cell here ∙ at_y

  read-mark : (is_v : Bool) (offset tick : ℤ) → offset ≡ pos 0 → x.mark tick ≡ false → y.mark tick ≡ false
      → (body_of xs (numbered names (Leaf (Read (if is_v then p else n) offset)))).mark tick ≡ false
  read-mark true offset tick none at_x at_y =
      let here : tick +ℤ offset ≡ tick = omega (arith, ints) in
      ap (λ (s : Stream). s.mark (tick +ℤ offset)) first ∙ ap x.mark here ∙ at_x
  read-mark false offset tick none at_x at_y =
      let here : tick +ℤ offset ≡ tick = omega (arith, ints) in
      ap (λ (s : Stream). s.mark (tick +ℤ offset)) second ∙ ap y.mark here ∙ at_y

  no_offset : (operands : Operands) (name : List ℕ) (offset : ℤ) → is_over operands (Leaf (Read name offset)) ≡ true → offset ≡ pos 0
  no_offset operands name offset over =
      let test = (and_parts (is_operand operands name) (int_eq offset (pos 0)) over).1 in
      grind (arith, ints)

  module _ (operands : Operands) (tick : ℤ) where
    -- where both have values
    pub body-cell : (v w : ℤ) → x.cell tick ≡ Some v → y.cell tick ≡ Some w → (e : ExprTree) → is_over operands e ≡ true
        → (body e).cell tick ≡ value_of e v w
    body-cell v w at_x at_y (Leaf (Num k)) over = refl
    body-cell v w at_x at_y (Leaf (Truth b)) over = refl
    body-cell v w at_x at_y (Leaf (Read name offset)) over =
        read-cell (bytes_eq name (codes "v")) offset tick v w (no_offset operands name offset over) at_x at_y
    body-cell v w at_x at_y (Leaf (Reduce r name from to)) over = absurd (false≢true over)
    body-cell v w at_x at_y (One op a) over = ap (apply1 op) (body-cell v w at_x at_y a over)
    body-cell v w at_x at_y (Two op a b) over =
        let parts = and_parts (is_over operands a) (is_over operands b) over in
        let left = body-cell v w at_x at_y a parts.0 in
        let right = body-cell v w at_x at_y b parts.1 in
        (λ i. apply2 op (left i) (right i))
    body-cell v w at_x at_y (If c a b) over =
        let parts = and_parts (is_over operands c && is_over operands a) (is_over operands b) over in
        let more = and_parts (is_over operands c) (is_over operands a) parts.0 in
        let test = body-cell v w at_x at_y c more.0 in
        let left = body-cell v w at_x at_y a more.1 in
        let right = body-cell v w at_x at_y b parts.1 in
        (λ i. choose (test i) (left i) (right i))

    -- where none has a mark
    pub body-mark : x.mark tick ≡ false → y.mark tick ≡ false → (e : ExprTree) → is_over operands e ≡ true → (body e).mark tick ≡ false
    body-mark at_x at_y (Leaf (Num k)) over = refl
    body-mark at_x at_y (Leaf (Truth b)) over = refl
    body-mark at_x at_y (Leaf (Read name offset)) over =
        read-mark (bytes_eq name (codes "v")) offset tick (no_offset operands name offset over) at_x at_y
    body-mark at_x at_y (Leaf (Reduce r name from to)) over = absurd (false≢true over)
    body-mark at_x at_y (One op a) over = body-mark at_x at_y a over
    body-mark at_x at_y (Two op a b) over =
        let parts = and_parts (is_over operands a) (is_over operands b) over in
        or_from _ _ (body-mark at_x at_y a parts.0) (body-mark at_x at_y b parts.1)
    body-mark at_x at_y (If c a b) over =
        let parts = and_parts (is_over operands c && is_over operands a) (is_over operands b) over in
        let more = and_parts (is_over operands c) (is_over operands a) parts.0 in
        or_from _ _ (or_from _ _ (body-mark at_x at_y c more.0) (body-mark at_x at_y a more.1)) (body-mark at_x at_y b parts.1)
