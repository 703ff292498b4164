-- What a source is asked for is all that matters of it.
use Rattle.std.proofs.Common.{◌≡◌, ℕ, zero, suc, ◌+◌, ◌<◌, ◌==◌, ℤ, pos, ◌+ℤ◌, ◌-ℤ◌, List, [], ◌∷◌, ◌++◌, length, Option, Some, None, if◌then◌else◌, ◌⊎◌, inl, inr, sym, ap, ◌∙◌, arith, subst}
use Rattle.std.proofs.Common.{length-append, get_or}
use Rattle.std.proofs.lemmas.Int.{ints, clamps}
use Rattle.tilt_base.proofs.Comparisons.{same_number, below_or_at}
use Rattle.tilt_base.specs.Expression.{Leaf, One, Two, If}
use Rattle.tilt_stream.proofs.Locality.{same-agrees, narrower-agrees, lifted1-agrees, lifted2-agrees, branched-agrees, shifted-agrees, windowed-agrees, on_grid-agrees, restricted-agrees}
use Rattle.tilt_stream.specs.Agreement.{Agree}
use Rattle.tilt_stream.specs.Domain.{on_grid}
use Rattle.tilt_stream.specs.Pointwise.{constant}
use Rattle.tilt_stream.specs.Stream.{Stream}
use Rattle.tilt_base.specs.declared.span.Span.{Span}
use Rattle.tilt_core.proofs.Sources.{source_of-front, source_of-last, with_definitions-front}
use Rattle.tilt_core.specs.Core.{ReadsBelow, IsDefinition, AreDefinitions}
use Rattle.tilt_core.specs.CoreTree.{Const, Read, Reduce, CoreTree, Definition}
use Rattle.tilt_core.specs.Meaning.{source_of, body_of, within, definition_of, with_definitions}
use Rattle.tilt_core.specs.Needs.{Need, wider, either, reaching, asked_by, body_need, asked_of, need_before, asked_from, needs_from}
use Rattle.tilt_bounds.specs.Laws.{AgreeAsAsked}

module _ (lo hi : ℤ) where
  -- streams that agree on what two have asked agree on what each of the two has
  first_of_both : (m n : Option Need) (x y : Stream) → AgreeAsAsked (either m n) lo hi x y → AgreeAsAsked m lo hi x y
  first_of_both None n x y h = tt
  first_of_both (Some m) None x y h = h
  first_of_both (Some m) (Some n) x y h =
      let w = wider m n in
      narrower-agrees x y (lo -ℤ w.back) (hi +ℤ w.ahead) (lo -ℤ m.back) (hi +ℤ m.ahead) h (omega (arith, ints, clamps)) (omega (arith, ints, clamps))

  second_of_both : (m n : Option Need) (x y : Stream) → AgreeAsAsked (either m n) lo hi x y → AgreeAsAsked n lo hi x y
  second_of_both m None x y h = tt
  second_of_both None (Some n) x y h = h
  second_of_both (Some m) (Some n) x y h =
      let w = wider m n in
      narrower-agrees x y (lo -ℤ w.back) (hi +ℤ w.ahead) (lo -ℤ n.back) (hi +ℤ n.ahead) h (omega (arith, ints, clamps)) (omega (arith, ints, clamps))

  module _ (xs ys : List Stream) (bound : ℕ) where
    -- the sources below a number agree on what an expression with a need asks them for
    abbrev pub AgreeAsAskedBy : Need → CoreTree → Type 0
    AgreeAsAskedBy n body = (source : ℕ) → source < bound → AgreeAsAsked (asked_by n body source) lo hi (source_of xs source) (source_of ys source)

    asked : (read : ℕ) (n : Need) → read < bound → ((source : ℕ) → source < bound → AgreeAsAsked (if read == source then Some n else None) lo hi (source_of xs source) (source_of ys source))
        → Agree (source_of xs read) (source_of ys read) (lo -ℤ n.back) (hi +ℤ n.ahead)
    asked read n low h = rw (same_number read) at (h read low)

    body_of-agrees : (n : Need) (body : CoreTree) → ReadsBelow bound body → AgreeAsAskedBy n body → Agree (body_of xs body) (body_of ys body) (lo -ℤ n.back) (hi +ℤ n.ahead)
    body_of-agrees n (Leaf (Const number)) reads h = same-agrees (constant (Some number)) (lo -ℤ n.back) (hi +ℤ n.ahead)
    body_of-agrees n (Leaf (Read read offset)) reads h =
        let r = reaching n offset offset in
        let source = asked read r reads h in
        shifted-agrees (source_of xs read) (source_of ys read) offset (lo -ℤ n.back) (hi +ℤ n.ahead)
        (narrower-agrees (source_of xs read) (source_of ys read) (lo -ℤ r.back) (hi +ℤ r.ahead) (lo -ℤ n.back +ℤ offset) (hi +ℤ n.ahead +ℤ offset) source
        (omega (arith, ints, clamps)) (omega (arith, ints, clamps)))
    body_of-agrees n (Leaf (Reduce reducer read from to)) reads h =
        let r = reaching n (from +ℤ pos 1) to in
        let source = asked read r reads.0 h in
        windowed-agrees reducer from to (source_of xs read) (source_of ys read) (lo -ℤ n.back) (hi +ℤ n.ahead) reads.1
        (narrower-agrees (source_of xs read) (source_of ys read) (lo -ℤ r.back) (hi +ℤ r.ahead) (lo -ℤ n.back +ℤ from +ℤ pos 1) (hi +ℤ n.ahead +ℤ to) source
        (omega (arith, ints, clamps)) (omega (arith, ints, clamps)))
    body_of-agrees n (One op a) reads h = lifted1-agrees op (body_of xs a) (body_of ys a) (lo -ℤ n.back) (hi +ℤ n.ahead) (body_of-agrees n a reads h)
    body_of-agrees n (Two op a b) reads h =
        lifted2-agrees op (body_of xs a) (body_of ys a) (body_of xs b) (body_of ys b) (lo -ℤ n.back) (hi +ℤ n.ahead)
        (body_of-agrees n a reads.0 (λ s low. first_of_both (asked_by n a s) (asked_by n b s) (source_of xs s) (source_of ys s) (h s low)))
        (body_of-agrees n b reads.1 (λ s low. second_of_both (asked_by n a s) (asked_by n b s) (source_of xs s) (source_of ys s) (h s low)))
    body_of-agrees n (If c a b) reads h =
        let others : (s : ℕ) → s < bound → AgreeAsAsked (either (asked_by n a s) (asked_by n b s)) lo hi (source_of xs s) (source_of ys s) =
        λ s low. second_of_both (asked_by n c s) (either (asked_by n a s) (asked_by n b s)) (source_of xs s) (source_of ys s) (h s low) in
        branched-agrees (body_of xs c) (body_of ys c) (body_of xs a) (body_of ys a) (body_of xs b) (body_of ys b) (lo -ℤ n.back) (hi +ℤ n.ahead)
        (body_of-agrees n c reads.0 (λ s low. first_of_both (asked_by n c s) (either (asked_by n a s) (asked_by n b s)) (source_of xs s) (source_of ys s) (h s low)))
        (body_of-agrees n a reads.1 (λ s low. first_of_both (asked_by n a s) (asked_by n b s) (source_of xs s) (source_of ys s) (others s low)))
        (body_of-agrees n b reads.2 (λ s low. second_of_both (asked_by n a s) (asked_by n b s) (source_of xs s) (source_of ys s) (others s low)))

    within-agrees : (span : Option Span) (x y : Stream) (from to : ℤ) → Agree x y from to → Agree (within span x) (within span y) from to
    within-agrees None x y from to h = h
    within-agrees (Some span) x y from to h = restricted-agrees span.start span.end x y from to h

    definition_of-agrees : (def : Definition) (n : Option Need) → IsDefinition bound def
        → ((source : ℕ) → source < bound → AgreeAsAsked (asked_of def n source) lo hi (source_of xs source) (source_of ys source))
        → AgreeAsAsked n lo hi (definition_of xs def) (definition_of ys def)
    definition_of-agrees def None is h = tt
    definition_of-agrees def (Some n) is h =
        let w = body_need def n in
        let x = body_of xs def.body in
        let y = body_of ys def.body in
        let bodies = body_of-agrees w def.body is.reads h in
        within-agrees def.over (on_grid def.grid x) (on_grid def.grid y) (lo -ℤ n.back) (hi +ℤ n.ahead)
        (on_grid-agrees def.grid x y (lo -ℤ n.back) (hi +ℤ n.ahead) is.grid.period_low
        (narrower-agrees x y (lo -ℤ w.back) (hi +ℤ w.ahead) (lo -ℤ n.back) (hi +ℤ n.ahead +ℤ def.grid.period -ℤ pos 1) bodies (omega (arith, ints)) (omega (arith, ints))))

  -- what the definitions after one ask it for is its need, or they are none and ask nothing
  asked_behind : (number : ℕ) (defs : List Definition) (x y : Stream) → AgreeAsAsked (need_before defs (asked_from (suc number) defs number)) lo hi x y
      → AgreeAsAsked (asked_from (suc number) defs number) lo hi x y
  asked_behind number [] x y h = tt
  asked_behind number (def ∷ defs) x y h = h

  -- one more source agrees on what it is asked for
  one_more : (xs ys : List Stream) (x y : Stream) (number : ℕ) (n : ℕ → Option Need) → length xs ≡ number → length ys ≡ number
      → ((source : ℕ) → source < number → AgreeAsAsked (n source) lo hi (source_of xs source) (source_of ys source))
      → AgreeAsAsked (n number) lo hi x y
      → (source : ℕ) → ((source < number) ⊎ (source ≡ number))
      → AgreeAsAsked (n source) lo hi (source_of (xs ++ x ∷ []) source) (source_of (ys ++ y ∷ []) source)
  one_more xs ys x y number n xs_is ys_is before last source (inl less) =
      rw (source_of-front xs x source (omega arith), source_of-front ys y source (omega arith)) (before source less)
  one_more xs ys x y number n xs_is ys_is before last source (inr same) =
      let at_x = ap (source_of (xs ++ x ∷ [])) (same ∙ sym xs_is) ∙ source_of-last xs x in
      let at_y = ap (source_of (ys ++ y ∷ [])) (same ∙ sym ys_is) ∙ source_of-last ys y in
      rw (at_x, at_y) (subst (λ (s : ℕ). AgreeAsAsked (n s) lo hi x y) (sym same) last)

  -- a definition is the source after those that it is over
  placed : (number : ℕ) (xs : List Stream) (x : Stream) (defs : List Definition) → length xs ≡ number → source_of (with_definitions (xs ++ x ∷ []) defs) number ≡ x
  placed number xs x defs is =
      with_definitions-front (xs ++ x ∷ []) defs number (omega (arith, length-append xs (x ∷ []))) ∙ ap (source_of (xs ++ x ∷ [])) (sym is) ∙ source_of-last xs x

  -- a definition over sources that agree on what they are asked for agrees on what the definitions after it ask
  this_agrees : (number : ℕ) (def : Definition) (defs : List Definition) (xs ys : List Stream) → IsDefinition number def
      → ((source : ℕ) → source < number → AgreeAsAsked (asked_from number (def ∷ defs) source) lo hi (source_of xs source) (source_of ys source))
      → AgreeAsAsked (need_before defs (asked_from (suc number) defs number)) lo hi (definition_of xs def) (definition_of ys def)
  this_agrees number def defs xs ys is h =
      let n = need_before defs (asked_from (suc number) defs number) in
      definition_of-agrees xs ys number def n is
      (λ s low. second_of_both (asked_from (suc number) defs s) (asked_of def n s) (source_of xs s) (source_of ys s) (h s low))

  -- definitions over sources that agree on what they are asked for agree on what they are asked for
  pub with_definitions-agrees : (number : ℕ) (defs : List Definition) (xs ys : List Stream) → length xs ≡ number → length ys ≡ number → AreDefinitions number defs
      → ((source : ℕ) → source < number → AgreeAsAsked (asked_from number defs source) lo hi (source_of xs source) (source_of ys source))
      → (k : ℕ) → AgreeAsAsked (get_or (needs_from number defs) k None) lo hi (source_of (with_definitions xs defs) (number + k)) (source_of (with_definitions ys defs) (number + k))
  with_definitions-agrees number [] xs ys xs_is ys_is are h k = tt
  with_definitions-agrees number (def ∷ defs) xs ys xs_is ys_is are h zero =
      let x = definition_of xs def in
      let y = definition_of ys def in
      let at : number + zero ≡ number = omega arith in
      rw (at, placed number xs x defs xs_is, placed number ys y defs ys_is) (this_agrees number def defs xs ys are.0 h)
  with_definitions-agrees number (def ∷ defs) xs ys xs_is ys_is are h (suc k) =
      let x = definition_of xs def in
      let y = definition_of ys def in
      let at : number + suc k ≡ suc number + k = omega arith in
      let this = this_agrees number def defs xs ys are.0 h in
      rw at (with_definitions-agrees (suc number) defs (xs ++ x ∷ []) (ys ++ y ∷ []) (omega (arith, length-append xs (x ∷ []))) (omega (arith, length-append ys (y ∷ []))) are.1
      (λ s low. one_more xs ys x y number (asked_from (suc number) defs) xs_is ys_is
      (λ t below. first_of_both (asked_from (suc number) defs t) (asked_of def (need_before defs (asked_from (suc number) defs number)) t) (source_of xs t) (source_of ys t) (h t below))
      (asked_behind number defs x y this) s (below_or_at s number low))
      k)
