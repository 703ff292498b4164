-- The list of a pipeline has the stream of its query's core: step by step, each definition over the sources before it.
use Rattle.std.proofs.Common.{◌≡◌, ◌≤◌, ◌<◌, ◌^◌, ℕ, suc, ◌+◌, ℤ, pos, ◌+ℤ◌, neg_ℤ, true, List, [], ◌∷◌, ◌++◌, length, Some, None}
use Rattle.std.proofs.Common.{refl, sym, ap, ◌∙◌, subst, arith, append_assoc, length-append}
use Rattle.std.specs.List.{AllByRecursion}
use Rattle.std.proofs.lemmas.Int.{ints}
use Rattle.tilt_base.specs.declared.span.Span.{Span}
use Rattle.tilt_core.proofs.Sources.{source_of-front, source_of-last}
use Rattle.tilt_core.specs.Meaning.{source_of, body_of, definition_of, with_definitions}
use Rattle.tilt_stream.proofs.Restricted.{uncut}
use Rattle.tilt_stream.proofs.Same.{period-one, same_is}
use Rattle.tilt_stream.specs.Agreement.{Agree}
use Rattle.tilt_stream.specs.Domain.{on_grid, restricted}
use Rattle.tilt_stream.specs.Pointwise.{shifted}
use Rattle.tilt_stream.specs.Snap.{Snapshot, AreRows}
use Rattle.tilt_stream.specs.Stream.{Stream, stream_of}
use Rattle.tilt_stream.specs.Window.{windowed as window_of}
use Rattle.tilt_syntax.specs.Tree.{ExprTree, StatementTree, Emit}
use Rattle.tilt_types.specs.Checked.{definition, definitions, let_names, numbered, place_of}
use Rattle.tilt_types.specs.WellFormed.{grid_of}
use Rattle.tilt_operators.specs.Desugared.{source_name, reading, step_expr, step_definitions}
use Rattle.tilt_operators.specs.Flow.{StepTree, Select, Keep, Shift, Window, Join}
use Rattle.tilt_operators.specs.Lists.{filled, kept_if, step_list, steps_list, value_of}
use Rattle.tilt_operators.specs.declared.operands.Operands.TheVariants.{Value, Both}
use Rattle.tilt_operators.proofs.Bodies.{body, body-cell, body-mark}
use Rattle.tilt_operators.proofs.Known.{IsKnown}
use Rattle.tilt_operators.proofs.Names.{is_among, IsNoneOf, place_of-at, numbers_differ, none_of-push}
use Rattle.tilt_operators.proofs.StepLists.{IsList, revalued-is_list, selected-same, filtered-same, moved-same, moved-is_list, windowed-same, windowed-is_list, join-same, joined-is_list}
use Rattle.tilt_operators.proofs.StepLists.{filled-same, filled-is_list}

unshifted : (x : Stream) → shifted x (pos 0) ≡ x
unshifted x =
    same_is (shifted x (pos 0)) x (record {
      cells = λ tick. (let here : tick +ℤ pos 0 ≡ tick = omega (arith, ints) in ap x.cell here);
      marks = λ tick. (let here : tick +ℤ pos 0 ≡ tick = omega (arith, ints) in ap x.mark here);
    })

-- a definition without a span and without a grid is its body
plain : (xs : List Stream) (names : List (List ℕ)) (e : ExprTree) → definition_of xs (definition names e None None) ≡ body_of xs (numbered names e)
plain xs names e = same_is _ _ (period-one (grid_of None) (body_of xs (numbered names e)) refl)

-- a name's source is this stream, and is one of these
pub record IsAt (names : List (List ℕ)) (xs : List Stream) (name : List ℕ) (x : Stream) : Type 0 where
  pub within : place_of names name < length xs
  pub is : source_of xs (place_of names name) ≡ x

at-more : (names : List (List ℕ)) (xs : List Stream) (name : List ℕ) (x y : Stream) → IsAt names xs name x → IsAt names (xs ++ y ∷ []) name x
at-more names xs name x y h =
    let low = h.within in
    record {
      within = omega (arith, length-append xs (y ∷ []));
      is = source_of-front xs y (place_of names name) h.within ∙ h.is;
    }

-- the definitions of steps after so many, and what is emitted
abbrev pub tail : List ℕ → Span → ℕ → List StepTree → List StatementTree
tail first domain n steps = step_definitions first n steps ++ Emit (reading (source_name first (n + length steps))) domain None ∷ []

agrees-back : (x y : Stream) (lo hi : ℤ) → Agree x y lo hi → Agree y x lo hi
agrees-back x y lo hi h = record {
  cells = λ tick above below. sym (h.cells tick above below);
  marks = λ tick above below. sym (h.marks tick above below);
}

module _ (names : List (List ℕ)) (series : List ℕ → List Snapshot) (rows : (name : List ℕ) → AreRows (series name)) where
  module _ (inputs : List (List ℕ)) where
    -- the stream of a step's list is that of its definition's body
    step-body : (xs : List Stream) (before : List ℕ) (list : List Snapshot) → IsList list → IsAt names xs before (stream_of list)
        → ((name : List ℕ) → is_among inputs name ≡ true → IsAt names xs name (stream_of (series name)))
        → (s : StepTree) → IsKnown inputs s
        → (stream_of (step_list series s list) ≡ body_of xs (numbered names (step_expr before s))) × IsList (step_list series s list)
    step-body xs before list h at others (Select e) known =
        let x = stream_of list in (
          same_is _ _ (selected-same (λ v. value_of e v v) list (shifted (source_of xs (place_of names before)) (pos 0))
              (body names xs before before x x at.is at.is e) (unshifted (source_of xs (place_of names before)) ∙ at.is)
              (λ tick v here. body-cell names xs before before x x at.is at.is Value tick v v here here e known)
              (λ tick none. body-mark names xs before before x x at.is at.is Value tick none none e known)),
          revalued-is_list (λ v. value_of e v v) list h,
        )
    step-body xs before list h at others (Keep e) known =
        let x = stream_of list in (
          same_is _ _ (filtered-same (λ v. value_of e v v) list (shifted (source_of xs (place_of names before)) (pos 0))
              (body names xs before before x x at.is at.is e) (unshifted (source_of xs (place_of names before)) ∙ at.is)
              (λ tick v here. body-cell names xs before before x x at.is at.is Value tick v v here here e known)
              (λ tick none. body-mark names xs before before x x at.is at.is Value tick none none e known)),
          revalued-is_list (λ v. kept_if (value_of e v v) v) list h,
        )
    step-body xs before list h at others (Shift by) known =
        (same_is _ _ (moved-same by list) ∙ ap (λ (x : Stream). shifted x (neg_ℤ by)) (sym at.is), moved-is_list by list h)
    step-body xs before list h at others (Window r width) known = (
      same_is _ _ (windowed-same r width known.0 list h) ∙ ap (λ (x : Stream). window_of r (neg_ℤ width) (pos 0) x) (sym at.is),
      windowed-is_list r width known.0 list h,
    )
    step-body xs before list h at others (Join name e) known =
        let x = stream_of list in
        let z = stream_of (filled (series name)) in
        let other = others name known.1 in
        let also : source_of xs (place_of names name) ≡ z = other.is ∙ sym (same_is _ _ (filled-same (series name) (rows name))) in
        let g = filled-is_list (series name) (rows name) in (
          same_is _ _ (join-same e list (filled (series name)) h g
              (shifted (source_of xs (place_of names before)) (pos 0)) (shifted (source_of xs (place_of names name)) (pos 0))
              (body names xs before name x z at.is also e)
              (unshifted (source_of xs (place_of names before)) ∙ at.is) (unshifted (source_of xs (place_of names name)) ∙ also)
              (λ tick v w here there. body-cell names xs before name x z at.is also Both tick v w here there e known.0)
              (λ tick none none_there. body-mark names xs before name x z at.is also Both tick none none_there e known.0)),
          joined-is_list e list (filled (series name)) h g,
        )

    module _ (first : List ℕ) (domain : Span) where
      -- what is emitted
      last-agrees : (xs : List Stream) (n : ℕ) (list : List Snapshot) → IsAt names xs (source_name first n) (stream_of list)
          → Agree (stream_of list) (definition_of xs (definition names (reading (source_name first n)) (Some domain) None)) domain.start domain.end
      last-agrees xs n list at =
          let z = body_of xs (numbered names (reading (source_name first n))) in
          let is : on_grid (grid_of None) z ≡ stream_of list =
          same_is _ _ (period-one (grid_of None) z refl) ∙ unshifted (source_of xs (place_of names (source_name first n))) ∙ at.is in
          let own : Agree (stream_of list) (stream_of list) domain.start domain.end =
          record { cells = λ tick above below. refl; marks = λ tick above below. refl } in
          subst (λ (x : Stream). Agree (stream_of list) (restricted domain.start domain.end x) domain.start domain.end) (sym is)
          (agrees-back _ _ domain.start domain.end (uncut (stream_of list) (stream_of list) domain.start domain.end own))

      -- step by step
      pub steps-agree : (steps : List StepTree) (n : ℕ) (front : List (List ℕ)) (xs : List Stream) (list : List Snapshot)
          → names ≡ front ++ let_names (tail first domain n steps) → length front ≡ length xs → IsList list
          → IsAt names xs (source_name first n) (stream_of list)
          → ((name : List ℕ) → is_among inputs name ≡ true → IsAt names xs name (stream_of (series name)))
          → ((m : ℕ) → n ≤ m → suc m < 2 ^ 64 → IsNoneOf front (source_name first (suc m))) → suc (n + length steps) < 2 ^ 64
          → AllByRecursion (IsKnown inputs) steps
          → Agree (stream_of (steps_list series steps list)) (source_of (with_definitions xs (definitions names (tail first domain n steps))) (length xs + length steps))
          domain.start domain.end
      steps-agree [] n front xs list split count h at others fresh few known =
          let whole : n + 0 ≡ n = omega arith in
          let place : length xs + 0 ≡ length xs = omega arith in
          let x = definition_of xs (definition names (reading (source_name first n)) (Some domain) None) in
          rw (whole, place, source_of-last xs x) (last-agrees xs n list at)
      steps-agree (s ∷ steps) n front xs list split count h at others fresh few known =
          let name = source_name first (suc n) in
          let x = definition_of xs (definition names (step_expr (source_name first n) s) None None) in
          let next = step-body xs (source_name first n) list h at others s known.0 in
          let here : place_of names name ≡ length xs =
          ap (λ (ns : List (List ℕ)). place_of ns name) split
          ∙ place_of-at front _ name (fresh n (omega arith) (omega arith)) ∙ count in
          let is : source_of (xs ++ x ∷ []) (place_of names name) ≡ stream_of (step_list series s list) =
          ap (λ (place : ℕ). source_of (xs ++ x ∷ []) place) here ∙ source_of-last xs x
          ∙ plain xs names (step_expr (source_name first n) s) ∙ sym next.0 in
          let whole : n + suc (length steps) ≡ suc n + length steps = omega arith in
          let place : length xs + suc (length steps) ≡ length (xs ++ x ∷ []) + length steps = omega (arith, length-append xs (x ∷ [])) in
          rw (whole, place)
          (steps-agree steps (suc n) (front ++ name ∷ []) (xs ++ x ∷ []) (step_list series s list)
          (rw (append_assoc, ← whole) split)
          (omega (arith, length-append front (name ∷ []), length-append xs (x ∷ [])))
          next.1
          (record { within = omega (arith, length-append xs (x ∷ [])); is = is })
          (λ other among. at-more names xs other (stream_of (series other)) x (others other among))
          (λ m later small. none_of-push front name (source_name first (suc m)) (fresh m (omega arith) small)
          (numbers_differ first n m (λ same. absurd (omega arith)) (omega arith) small))
          (omega arith) known.1)
