-- One loop: it agrees with its definition as far as the definition is asked for, if its buffers agree with the sources as far as its body
-- asks for them.
use Rattle.std.proofs.Common.{◌≡◌, ℕ, zero, suc, ◌+◌, ◌<◌, ◌==◌, ℤ, pos, ◌+ℤ◌, ◌-ℤ◌, ◌<ℤ◌, Bool, true, false, List, [], ◌∷◌, ◌++◌, length, get_or, Option, Some, None, if◌then◌else◌, refl, sym, ap}
use Rattle.std.proofs.Common.{◌∙◌, arith, subst}
use Rattle.std.specs.Prelude.{int_lt, option_map}
use Rattle.std.specs.Int.{int_min, int_max}
use Rattle.std.proofs.lemmas.Int.{ints, clamps}
use Rattle.std.proofs.Math.Bool.{and-false}
use Rattle.tilt_base.specs.Expression.{Leaf, One, Two, If}
use Rattle.tilt_base.specs.Grid.{is_point}
use Rattle.tilt_bounds.proofs.Local.{with_definitions-agrees}
use Rattle.tilt_bounds.proofs.Needs.{same_need}
use Rattle.tilt_bounds.specs.Laws.{AgreeAsAsked}
use Rattle.tilt_bounds.specs.Stretch.{cut_down, stretch_of}
use Rattle.tilt_code.specs.Body as code
use Rattle.tilt_code.specs.Code.{LoopParts}
use Rattle.tilt_code.specs.Meaning.{loop_of}
use Rattle.tilt_code.specs.declared.instr.Instr.TheVariants as instr
use Rattle.tilt_fuse.specs.FusedTree.{FusedTree}
use Rattle.tilt_stream.proofs.Restricted.{uncut, cut, nothing_left}
use Rattle.tilt_lower.specs.Lowering.{block_of, maps_of, each_tick, loop_on}
use Rattle.tilt_stream.proofs.Locality.{narrower-agrees, on_grid-agrees}
use Rattle.tilt_stream.specs.Agreement.{Agree}
use Rattle.tilt_stream.specs.Domain.{some_mark, on_grid}
use Rattle.tilt_stream.specs.Pointwise.{nothing}
use Rattle.tilt_stream.specs.Stream.{Stream, SameStream}
use Rattle.tilt_base.specs.declared.span.Span.{Span}
use Rattle.tilt_core.proofs.Sources.{source_of-last}
use Rattle.tilt_core.specs.Core.{IsStretch, IsDefinition}
use Rattle.tilt_core.specs.CoreTree.{Const, Read, Reduce, CoreTree, Definition}
use Rattle.tilt_core.specs.Meaning.{source_of, body_of, within, definition_of}
use Rattle.tilt_core.specs.Needs.{Need, no_margin, wider, either, reaching, asked_by, body_need}

-- streams that are the same agree on each stretch
pub same-agree : (x y : Stream) (lo hi : ℤ) → SameStream x y → Agree x y lo hi
same-agree x y lo hi same = record { cells = λ tick above below. same.cells tick; marks = λ tick above below. same.marks tick }

pub agree-trans : (x y z : Stream) (lo hi : ℤ) → Agree x y lo hi → Agree y z lo hi → Agree x z lo hi
agree-trans x y z lo hi g h = record {
  cells = λ tick above below. g.cells tick above below ∙ h.cells tick above below;
  marks = λ tick above below. g.marks tick above below ∙ h.marks tick above below;
}

-- a source is what is at its number
pub source_of-at : (xs : List Stream) (source : ℕ) → source_of xs source ≡ get_or xs source nothing
source_of-at [] source = refl
source_of-at (x ∷ xs) zero = refl
source_of-at (x ∷ xs) (suc source) = source_of-at xs source

-- a need that is counted from another
abbrev pub beside : Need → Need → Need
beside n k = record { back = n.back +ℤ k.back; ahead = n.ahead +ℤ k.ahead }

either-beside : (n : Need) (a b : Option Need) → either (option_map (beside n) a) (option_map (beside n) b) ≡ option_map (beside n) (either a b)
either-beside n None b = refl
either-beside n (Some a) None = refl
either-beside n (Some a) (Some b) =
    ap Some (same_need (wider (beside n a) (beside n b)) (beside n (wider a b)) (omega (arith, ints, clamps)) (omega (arith, ints, clamps)))

reaching-beside : (n k : Need) (first last : ℤ) → reaching (beside n k) first last ≡ beside n (reaching k first last)
reaching-beside n k first last =
    same_need (reaching (beside n k) first last) (beside n (reaching k first last)) (omega (arith, ints, clamps)) (omega (arith, ints, clamps))

if-beside : (n k : Need) (test : Bool) (first last : ℤ)
    → (if test then Some (reaching (beside n k) first last) else None) ≡ option_map (beside n) (if test then Some (reaching k first last) else None)
if-beside n k true first last = ap Some (reaching-beside n k first last)
if-beside n k false first last = refl

-- what an expression asks, counted from a need
asked-beside : (n k : Need) (body : CoreTree) (source : ℕ) → asked_by (beside n k) body source ≡ option_map (beside n) (asked_by k body source)
asked-beside n k (Leaf (Const number)) source = refl
asked-beside n k (Leaf (Read read offset)) source = if-beside n k (read == source) offset offset
asked-beside n k (Leaf (Reduce reducer read from to)) source = if-beside n k (read == source) (from +ℤ pos 1) to
asked-beside n k (One op a) source = asked-beside n k a source
asked-beside n k (Two op a b) source =
    rw (asked-beside n k a source, asked-beside n k b source) (either-beside n (asked_by k a source) (asked_by k b source))
asked-beside n k (If c a b) source =
    rw (asked-beside n k c source, asked-beside n k a source, asked-beside n k b source, either-beside n (asked_by k a source) (asked_by k b source))
    (either-beside n (asked_by k c source) (either (asked_by k a source) (asked_by k b source)))

-- to agree on what is asked from a need is to agree on what is asked on the wider stretch
agree-beside : (n : Need) (k : Option Need) (lo hi : ℤ) (x y : Stream) → AgreeAsAsked (option_map (beside n) k) lo hi x y → AgreeAsAsked k (lo -ℤ n.back) (hi +ℤ n.ahead) x y
agree-beside n None lo hi x y h = tt
agree-beside n (Some k) lo hi x y h =
    let m = beside n k in
    narrower-agrees x y (lo -ℤ m.back) (hi +ℤ m.ahead) (lo -ℤ n.back -ℤ k.back) (hi +ℤ n.ahead +ℤ k.ahead) h (omega (arith, ints)) (omega (arith, ints))

no_marks : (x : Stream) (tick : ℤ) (n : ℕ) → ((t : ℤ) → x.mark t ≡ false) → some_mark x tick n ≡ false
no_marks x tick zero h = refl
no_marks x tick (suc n) h = rw (h (tick +ℤ pos 1)) (no_marks x (tick +ℤ pos 1) n h)

module _ (lo hi : ℤ) (number : ℕ) (n : Need) (ys xs : List Stream) (ys_is : length ys ≡ number) (xs_is : length xs ≡ number) where
  abbrev from : ℤ
  from = lo -ℤ n.back

  abbrev to : ℤ
  to = hi +ℤ n.ahead

  -- the sources agree as far as a definition's body asks for them
  abbrev pub AgreeForBody : Definition → Type 0
  AgreeForBody def = (source : ℕ) → source < number → AgreeAsAsked (asked_by (body_need def n) def.body source) lo hi (source_of ys source) (source_of xs source)

  -- so the definition over the one agrees with it over the others
  pub definitions-agree : (def : Definition) → IsDefinition number def → AgreeForBody def → Agree (definition_of ys def) (definition_of xs def) from to
  definitions-agree def is h =
      let y = definition_of ys def in
      let x = definition_of xs def in
      let k = body_need def no_margin in
      let same : beside n k ≡ body_need def n = same_need (beside n k) (body_need def n) (omega (arith, ints)) (omega (arith, ints)) in
      let asked : (source : ℕ) → source < number → AgreeAsAsked (asked_by k def.body source) from to (source_of ys source) (source_of xs source) =
      λ source low.
      agree-beside n (asked_by k def.body source) lo hi (source_of ys source) (source_of xs source)
      (subst (λ (m : Option Need). AgreeAsAsked m lo hi (source_of ys source) (source_of xs source))
      (ap (λ (m : Need). asked_by m def.body source) (sym same) ∙ asked-beside n k def.body source) (h source low)) in
      let at : number + zero ≡ number = omega arith in
      let at_y = ap (source_of (ys ++ y ∷ [])) (at ∙ sym ys_is) ∙ source_of-last ys y in
      let at_x = ap (source_of (xs ++ x ∷ [])) (at ∙ sym xs_is) ∙ source_of-last xs x in
      narrower-agrees y x (from -ℤ pos 0) (to +ℤ pos 0) from to
      (rw (at_y, at_x) at (with_definitions-agrees from to number (def ∷ []) ys xs ys_is xs_is (is, tt) asked zero))
      (omega (arith, ints)) (omega (arith, ints))

  module _ (def : Definition) (is : IsDefinition number def) (h : AgreeForBody def) where
    -- the definition without its span
    abbrev free : Definition
    free = record { body = def.body; over = None; grid = def.grid }

    free_is : IsDefinition number free
    free_is = record { reads = is.reads; small = is.small; stretch = tt; grid = is.grid }

    bodies : Agree (on_grid def.grid (body_of ys def.body)) (on_grid def.grid (body_of xs def.body)) from to
    bodies = definitions-agree free free_is h

    -- a loop of which the body gives what the definition's gives over these sources
    module _ (bs : List Stream) (buffer : ℕ → ℕ) (tree : FusedTree)
        (body : (l : LoopParts) → l.body ≡ block_of buffer 0 0 tree → l.maps ≡ maps_of tree → SameStream (code.body_of bs l) (body_of ys def.body)) where
      abbrev made_on : ℤ → ℤ → LoopParts
      made_on start end = record { lo = start; hi = end; grid = def.grid; maps = maps_of tree; body = block_of buffer 0 0 tree }

      lowered_bodies : (start end : ℤ) → Agree (on_grid def.grid (code.body_of bs (made_on start end))) (on_grid def.grid (body_of xs def.body)) from to
      lowered_bodies start end =
          let made = code.body_of bs (made_on start end) in
          let y = body_of ys def.body in
          agree-trans (on_grid def.grid made) (on_grid def.grid y) (on_grid def.grid (body_of xs def.body)) from to
          (on_grid-agrees def.grid made y from to is.grid.period_low (same-agree made y from (to +ℤ def.grid.period -ℤ pos 1) (body (made_on start end) refl refl)))
          bodies

      cut_loop : (span : Span) → span.start <ℤ span.end → (test : Bool) → int_lt (int_max from span.start) (int_min to span.end) ≡ test
          → Agree (loop_of bs (loop_on
          (if test then record { lo = int_max from span.start; hi = int_min to span.end; empty = false } else record { lo = from; hi = to; empty = true })
          buffer def tree)) (within (Some span) (on_grid def.grid (body_of xs def.body))) from to
      cut_loop span some true is_some =
          cut (on_grid def.grid (code.body_of bs (made_on from to))) (on_grid def.grid (body_of xs def.body)) from to (lowered_bodies from to) span.start span.end
      cut_loop span some false is_none =
          let null = code.body_of bs (record { lo = from; hi = to; grid = each_tick; maps = []; body = instr.Null ∷ [] }) in
          nothing_left from to span.start span.end some (grind (arith, ints)) (on_grid each_tick null) (on_grid def.grid (body_of xs def.body))
          (λ tick. refl)
          (λ tick. rw (no_marks null (tick -ℤ pos 1) 1 (λ t. refl)) (and-false (is_point each_tick (tick -ℤ pos 1))))

      any_loop : (over : Option Span) → IsStretch over
          → Agree (loop_of bs (loop_on (cut_down over from to) buffer def tree)) (within over (on_grid def.grid (body_of xs def.body))) from to
      any_loop None some = uncut (on_grid def.grid (code.body_of bs (made_on from to))) (on_grid def.grid (body_of xs def.body)) from to (lowered_bodies from to)
      any_loop (Some span) some = cut_loop span some.1 (int_lt (int_max from span.start) (int_min to span.end)) refl

      -- the loop of the definition agrees with the definition
      pub loop-agrees : Agree (loop_of bs (loop_on (stretch_of def n lo hi) buffer def tree)) (definition_of xs def) from to
      loop-agrees = any_loop def.over is.stretch
