-- The cells of what a query gives.
use Rattle.std.proofs.Common.{◌≡◌, ℤ, ◌<ℤ◌, ◌≤ℤ◌, Bool, true, false, List, length, Option, Some, None, if◌then◌else◌, refl, sym, ap, ◌∙◌, arith}
use Rattle.std.proofs.lemmas.Int.{ints}
use Rattle.std.specs.Prelude.{◌==◌, option_and_then, option_map}
use Rattle.tilt_base.specs.declared.span.Span.{Span}
use Rattle.tilt_core.specs.Core.{CoreParts, domain_of, emitted_number}
use Rattle.tilt_core.specs.Meaning.{meaning, output_of}
use Rattle.tilt_stream.proofs.Cutting.{snapshots-stream}
use Rattle.tilt_stream.specs.Agreement.{ChangesOnlyAtMarks}
use Rattle.tilt_stream.specs.Domain.{lies_in}
use Rattle.tilt_stream.specs.Snap.{Snapshot}
use Rattle.tilt_stream.specs.Snapshots.{snapshots}
use Rattle.tilt_stream.specs.Stream.{cell_at}

module _ (core : CoreParts) (rows : List (List Snapshot)) (list : List Snapshot) where
  many_by : (same : Bool) → (length rows == length core.inputs) ≡ same
      → option_and_then (λ x. option_map (λ domain. snapshots x domain.start domain.end) (domain_of core.defs))
      (if same then Some (meaning rows core.defs (emitted_number core)) else None) ≡ Some list → (length rows == length core.inputs) ≡ true
  many_by true is given = is
  many_by false is given = absurd (cc given)

  -- a query that gives something has rows for each of its inputs
  pub output-many : output_of core rows ≡ Some list → length rows ≡ length core.inputs
  output-many given = let is = many_by (length rows == length core.inputs) refl given in grind (arith, is)

  domain_by : (same : Bool) (domain : Option Span) → domain_of core.defs ≡ domain
      → option_and_then (λ x. option_map (λ domain. snapshots x domain.start domain.end) domain)
      (if same then Some (meaning rows core.defs (emitted_number core)) else None) ≡ Some list → (span : Span) × (domain_of core.defs ≡ Some span)
  domain_by true None is given = absurd (cc given)
  domain_by true (Some span) is given = (span, is)
  domain_by false domain is given = absurd (cc given)

  -- and it has an output domain
  pub output-domain : output_of core rows ≡ Some list → (span : Span) × (domain_of core.defs ≡ Some span)
  output-domain given = domain_by (length rows == length core.inputs) (domain_of core.defs) refl given

  cell_by : (same : Bool) (domain : Span) (tick : ℤ) → ChangesOnlyAtMarks (meaning rows core.defs (emitted_number core))
      → option_and_then (λ x. option_map (λ domain. snapshots x domain.start domain.end) (domain_of core.defs))
      (if same then Some (meaning rows core.defs (emitted_number core)) else None) ≡ Some list
      → domain_of core.defs ≡ Some domain → domain.start <ℤ tick → tick ≤ℤ domain.end
      → cell_at list tick ≡ (meaning rows core.defs (emitted_number core)).cell tick
  cell_by true domain tick changes given is after before =
      let x = meaning rows core.defs (emitted_number core) in
      let cut : snapshots x domain.start domain.end ≡ list =
      cc (ap (λ (d : Option Span). option_map (λ (d : Span). snapshots x d.start d.end) d) (sym is) ∙ given) in
      let inside : lies_in domain.start domain.end tick ≡ true = grind (arith, ints, after, before) in
      ap (λ (l : List Snapshot). cell_at l tick) (sym cut)
      ∙ (snapshots-stream x domain.start domain.end (omega (arith, ints, after, before)) changes).cells tick
      ∙ ap (λ (b : Bool). if b then x.cell tick else None) inside
  cell_by false domain tick changes given is after before = absurd (cc given)

  -- at a tick of the output domain it has the cell of the stream that the query emits
  pub output-cell : (domain : Span) (tick : ℤ) → ChangesOnlyAtMarks (meaning rows core.defs (emitted_number core)) → output_of core rows ≡ Some list
      → domain_of core.defs ≡ Some domain → domain.start <ℤ tick → tick ≤ℤ domain.end
      → cell_at list tick ≡ (meaning rows core.defs (emitted_number core)).cell tick
  output-cell domain tick changes given = cell_by (length rows == length core.inputs) domain tick changes given
