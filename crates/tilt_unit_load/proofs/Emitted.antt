-- What a loaded query emits is exactly what the query in units emits.
use Rattle.std.proofs.Common.{◌≡◌, ℕ, zero, suc, ◌^◌, ℤ, true, List, [], ◌∷◌, map, refl, sym, ap, ◌∙◌, subst}
use Rattle.std.specs.List.{slice_get}
use Rattle.tilt_core.specs.Core.{CoreParts, emitted_number}
use Rattle.tilt_core.specs.Meaning.{meaning}
use Rattle.tilt_fractions.specs.Exact.{CellStandsFor}
use Rattle.tilt_input_scales.specs.Scales.{ScalesValue}
use Rattle.tilt_stream.specs.Stream.{stream_of}
use Rattle.tilt_syntax.specs.Tree.{StatementTree}
use Rattle.tilt_unit_load.specs.UnitFile.{IsLoadedInUnits, exact_output, scale_or_one}
use Rattle.tilt_unit_text.proofs.SaidKept.{said_quantities, said_stands}
use Rattle.tilt_unit_text.specs.Said.{IsInUnits, QueryInUnits}
use Rattle.tilt_unit_text.specs.Units.{UnitParts}
use Rattle.tilt_units.specs.Exact.{ExactSource, ScaledRows, exact_sources, quantities_of, rows_of, scale_in, scales_of, source_at}
use Rattle.tilt_units.specs.Law.{Chosen, InputsHaveScales, QueryStaysWithin}
use Rattle.tilt_units.specs.declared.quantity.Quantity.{Quantity}

-- the scale of an exact source
scale_is : (exact : List ExactSource) (number : ℕ) → scale_in (source_at exact number).quantity ≡ scale_or_one (slice_get (quantities_of exact) number)
scale_is [] number = refl
scale_is (source ∷ exact) zero = refl
scale_is (source ∷ exact) (suc number) = scale_is exact number

module _ (chosen : Chosen) (bytes : List ℕ) (scales : ScalesValue) (query : List StatementTree) (core : CoreParts) (decimals : ℕ) (said : QueryInUnits)
    (inputs : List ScaledRows) (loaded : IsLoadedInUnits bytes scales query core decimals) (is : IsInUnits scales bytes said)
    (same : scales_of inputs ≡ said.scales) (positive : InputsHaveScales inputs)
    (stays : QueryStaysWithin chosen (map stream_of (rows_of inputs)) core.defs) where
  pub emitted_cells : (tick : ℤ) → chosen (emitted_number core) tick ≡ true
      → CellStandsFor (10 ^ decimals) ((meaning (rows_of inputs) core.defs (emitted_number core)).cell tick) ((exact_output core inputs said).cell tick)
  emitted_cells tick picked =
      let all : UnitParts = record { query = query; core = core; quantities = loaded.quantities } in
      let stand = said_stands chosen scales bytes all said inputs loaded.reads is same positive stays (emitted_number core) in
      let quantities = said_quantities scales bytes all said inputs loaded.reads is same in
      let exact = exact_sources inputs said.defs in
      let scale : scale_in (source_at exact (emitted_number core)).quantity ≡ 10 ^ decimals =
      scale_is exact (emitted_number core) ∙ ap (λ (qs : List Quantity). scale_or_one (slice_get qs (emitted_number core))) (sym quantities) ∙ sym loaded.scaled in
      subst (λ s. CellStandsFor s ((meaning (rows_of inputs) core.defs (emitted_number core)).cell tick) ((exact_output core inputs said).cell tick)) scale
      (stand.cells tick picked)

  pub emitted_marks : (tick : ℤ)
      → (meaning (rows_of inputs) core.defs (emitted_number core)).mark tick ≡ (exact_output core inputs said).mark tick
  emitted_marks tick =
      let all : UnitParts = record { query = query; core = core; quantities = loaded.quantities } in
      (said_stands chosen scales bytes all said inputs loaded.reads is same positive stays (emitted_number core)).marks tick
