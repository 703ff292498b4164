-- What the watch of a definition is at a tick.
use Rattle.std.proofs.Common.{◌≡◌, ℤ, pos, Bool, true, false, if◌then◌else◌, List, Option, Some, None, ◌⊎◌, inl, inr, refl, sym, ap, ◌∙◌, subst}
use Rattle.std.specs.Prelude.{option_and_then}
use Rattle.tilt_base.specs.Expression.{Leaf, One, Two, If}
use Rattle.tilt_base.specs.Grid.{GridPoints, ceil}
use Rattle.tilt_base.specs.Scalar.{when_true}
use Rattle.tilt_base.specs.declared.span.Span.{Span}
use Rattle.tilt_core.specs.CoreTree.{CoreTree, Const, Read, Reduce, Definition}
use Rattle.tilt_core.specs.Meaning.{body_of, definition_of, within}
use Rattle.tilt_overflows.proofs.Cells.{expression_decided}
use Rattle.tilt_overflows.proofs.Decided.{Decided}
use Rattle.tilt_overflows.specs.Law.{DefinitionLeaves, ReadsChosen}
use Rattle.tilt_overflows.specs.Leaves.{leaves}
use Rattle.tilt_overflows.specs.Watching.{watch}
use Rattle.tilt_stream.specs.Domain.{lies_in, on_grid}
use Rattle.tilt_stream.specs.Stream.{Stream}
use Rattle.tilt_units.specs.Law.{StaysWithin, clock}

-- a cell is 1 and a fact holds, or it is null and the fact doesn't hold
abbrev pub Reports : Option ℤ → Type 0 → Type 0
Reports cell P = ((cell ≡ Some (pos 1)) × P) ⊎ ((cell ≡ None) × (P → ⊥))

taken_by : (inside : Bool) (x : Stream) (t : ℤ) → (if inside then x.cell t else None) ≡ option_and_then x.cell (if inside then Some t else None)
taken_by true x t = refl
taken_by false x t = refl

-- what is taken of a stream is its cell at the tick that is taken of the clock
taken_is : (over : Option Span) (grid : GridPoints) (x : Stream) (tick : ℤ)
    → (within over (on_grid grid x)).cell tick ≡ option_and_then x.cell ((within over (on_grid grid clock)).cell tick)
taken_is None grid x tick = refl
taken_is (Some span) grid x tick = taken_by (lies_in span.start span.end tick) x (ceil grid tick)

-- an expression reads all that it reads at some tick
pub reads_all : (tick : ℤ) (e : CoreTree) → ReadsChosen (λ source other. true) tick e
reads_all tick (Leaf (Const number)) = tt
reads_all tick (Leaf (Read source offset)) = refl
reads_all tick (Leaf (Reduce r source from to)) = λ other low high. refl
reads_all tick (One op a) = reads_all tick a
reads_all tick (Two op a b) = (reads_all tick a, reads_all tick b)
reads_all tick (If c a b) = (reads_all tick c, reads_all tick a, reads_all tick b)

same_tick : (t u : ℤ) (o : Option ℤ) → o ≡ Some t → o ≡ Some u → t ≡ u
same_tick t u o is too = cc

module _ (xs : List Stream) (def : Definition) (tick : ℤ) where
  abbrev taken_at : Option ℤ
  taken_at = (within def.over (on_grid def.grid clock)).cell tick

  abbrev body_at : ℤ → Option ℤ
  body_at t = (body_of xs (watch def).body).cell t

  abbrev leaves_at : ℤ → Option ℤ
  leaves_at t = (body_of xs (leaves def.body)).cell t

  body_reports : (t : ℤ) → taken_at ≡ Some t → Decided (leaves_at t) (StaysWithin (λ source other. true) xs t def.body) → Reports (body_at t) (DefinitionLeaves xs def tick)
  body_reports t is (inl d) =
      inr (ap (λ c. when_true c (Some (pos 1))) d.0, λ h. h.2 (subst (λ u. StaysWithin (λ source other. true) xs u def.body) (same_tick t h.0 taken_at is h.1) d.1))
  body_reports t is (inr d) = inl (ap (λ c. when_true c (Some (pos 1))) d.0, (t, is, d.1))

  reports_by : (o : Option ℤ) → taken_at ≡ o → Reports (option_and_then (body_of xs (watch def).body).cell o) (DefinitionLeaves xs def tick)
  reports_by None is = inr (refl, λ h. absurd (cc (sym is ∙ h.1)))
  reports_by (Some t) is = body_reports t is (expression_decided xs t (λ source other. true) def.body (reads_all t def.body))

  -- the watch of a definition is 1 if the definition leaves 64 bits, and else null
  pub watch_reports : Reports ((definition_of xs (watch def)).cell tick) (DefinitionLeaves xs def tick)
  watch_reports =
      subst (λ c. Reports c (DefinitionLeaves xs def tick)) (sym (taken_is def.over def.grid (body_of xs (watch def).body) tick)) (reports_by taken_at refl)
