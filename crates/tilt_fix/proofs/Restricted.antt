-- What a query emits is restricted to its output domain: outside of it, and at the two ticks where it starts and has ended, no row
-- changes it.
use Rattle.std.proofs.Common.{◌≡◌, ℕ, suc, ◌+◌, ℤ, pos, ◌+ℤ◌, true, false, refl, sym, ap, ◌∙◌, arith}
use Rattle.std.proofs.Common.{List, [], ◌∷◌, ◌++◌, length, length-append, map, Some}
use Rattle.std.specs.Ordering.{int_eq}
use Rattle.std.proofs.lemmas.List.{length-map}
use Rattle.tilt_base.specs.declared.span.Span.{Span}
use Rattle.tilt_core.proofs.Sources.{source_of-last}
use Rattle.tilt_core.specs.Core.{CoreParts, IsCore, domain_of, emitted_number}
use Rattle.tilt_core.specs.CoreTree.{Definition}
use Rattle.tilt_core.specs.Meaning.{body_of, definition_of, meaning, source_of, with_definitions, within}
use Rattle.tilt_stream.specs.Domain.{lies_in, on_grid, restricted}
use Rattle.tilt_stream.specs.Snap.{Snapshot}
use Rattle.tilt_stream.specs.Stream.{Stream, stream_of}

pub record IsRestricted (domain : Span) (x : Stream) : Type 0 where
  pub inner : Stream
  pub is : x ≡ restricted domain.start domain.end inner

-- the last definition has the output domain for its span
last-restricted : (xs : List Stream) (defs : List Definition) (n : ℕ) (domain : Span) → suc n ≡ length xs + length defs
    → domain_of defs ≡ Some domain → IsRestricted domain (source_of (with_definitions xs defs) n)
last-restricted xs [] n domain count is = absurd (cc is)
last-restricted xs (def ∷ []) n domain count is =
    let at : n ≡ length xs = omega (arith, count) in
    let x = on_grid def.grid (body_of xs def.body) in
    record {
      inner = x;
      is = ap (λ (k : ℕ). source_of (xs ++ definition_of xs def ∷ []) k) at ∙ source_of-last xs (definition_of xs def)
          ∙ ap (λ over. within over x) is;
    }
last-restricted xs (def ∷ next ∷ defs) n domain count is =
    let x = definition_of xs def in
    last-restricted (xs ++ x ∷ []) (next ∷ defs) n domain (omega (arith, count, length-append xs (x ∷ []))) is

pub emitted-restricted : (core : CoreParts) (rows : List (List Snapshot)) (domain : Span) → IsCore core → length rows ≡ length core.inputs
    → domain_of core.defs ≡ Some domain → IsRestricted domain (meaning rows core.defs (emitted_number core))
emitted-restricted core rows domain valid many is =
    last-restricted (map stream_of rows) core.defs (emitted_number core) domain
    (omega (arith, many, valid.one_emitted, length-map rows stream_of)) is

module _ (domain : Span) (x y : Stream) (x_is : IsRestricted domain x) (y_is : IsRestricted domain y) where
  between-cells : (tick : ℤ)
      → (restricted domain.start domain.end x_is.inner).cell tick ≡ (restricted domain.start domain.end y_is.inner).cell tick
      → x.cell tick ≡ y.cell tick
  between-cells tick same = ap (λ (z : Stream). z.cell tick) x_is.is ∙ same ∙ sym (ap (λ (z : Stream). z.cell tick) y_is.is)

  between-marks : (tick : ℤ)
      → (restricted domain.start domain.end x_is.inner).mark tick ≡ (restricted domain.start domain.end y_is.inner).mark tick
      → x.mark tick ≡ y.mark tick
  between-marks tick same = ap (λ (z : Stream). z.mark tick) x_is.is ∙ same ∙ sym (ap (λ (z : Stream). z.mark tick) y_is.is)

  pub cells-outside : (tick : ℤ) → lies_in domain.start domain.end tick ≡ false → x.cell tick ≡ y.cell tick
  cells-outside tick out = between-cells tick (rw out refl)

  pub marks-outside : (tick : ℤ) → lies_in domain.start domain.end tick ≡ false → x.mark tick ≡ y.mark tick
  marks-outside tick out = between-marks tick (rw out refl)

  pub marks-first : (tick : ℤ) → int_eq tick (domain.start +ℤ pos 1) ≡ true → x.mark tick ≡ y.mark tick
  marks-first tick is = between-marks tick (rw is refl)
