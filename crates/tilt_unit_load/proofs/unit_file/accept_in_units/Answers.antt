use Rattle.std.proofs.Common.{inr, refl}
use Rattle.std.proofs.lemmas.Result.{err_from_is_err_and}
use Rattle.tilt_unit_load.proofs.Reported.{reach_refuses, text_refuses}
use Rattle.tilt_unit_load.specs.UnitFile.{unscaled}
use Rattle.tilt_unit_text.proofs.WholeWritten.{whole_law}
use Rattle.tilt_unit_text.specs.Units.{parts_of}
use Rattle.tilt_unit_load.proofs.unit_file.accept_in_units.Goals as goal

pub returns-in_err-units-clause-fault : goal.returns-in_err-units-clause-fault
returns-in_err-units-clause-fault c =
    λ name.
    let p = err_from_is_err_and c.from_residual.result c.from_residual.ensures.1 in
    rw p.1 (text_refuses name c.args.bytes.now c.args.scales.now c.in_err-units.field-0.0 _ c.requires c.in_err-units.ensures.reads p.2)

pub returns-in_err-decimals-clause-fault : goal.returns-in_err-decimals-clause-fault
returns-in_err-decimals-clause-fault c =
    λ name.
    let p = err_from_is_err_and c.from_residual-in_err-decimals.result c.from_residual-in_err-decimals.ensures.1 in
    let is = c.in_err-decimals.ensures.power in
    rw (p.1, p.2, is.0) (inr (unscaled (parts_of c.in_ok-units.units) c.requires c.in_ok-units.ensures.reads refl is.1))

pub returns-in_err-accepted-clause-fault : goal.returns-in_err-accepted-clause-fault
returns-in_err-accepted-clause-fault c =
    λ name.
    let p = err_from_is_err_and c.from_residual-in_err-accepted.result c.from_residual-in_err-accepted.ensures.1 in
    rw p.1 (reach_refuses name c.args.bytes.now c.args.scales.now (parts_of c.in_ok-units.units) c.in_ok-decimals.decimals c.in_err-accepted.field-0.0 _
    c.requires c.in_ok-units.ensures.reads c.in_ok-decimals.ensures.power c.in_err-accepted.ensures.refused p.2)

pub returns-clause-loaded : goal.returns-clause-loaded
returns-clause-loaded c =
    rw c.in_ok-accepted.ensures.core (record {
      short = c.requires;
      quantities = c.in_ok-units.units.quantities.items;
      reads = c.in_ok-units.ensures.reads;
      scaled = c.in_ok-decimals.ensures.power;
      margins = c.in_ok-accepted.accepted.margins;
      near = c.in_ok-accepted.ensures.margins;
    })

pub returns-clause-checked : goal.returns-clause-checked
returns-clause-checked c =
    let known = whole_law c.args.scales.now c.args.bytes.now (parts_of c.in_ok-units.units) c.named-named.ensures.kept c.in_ok-units.ensures.reads in
    rw c.in_ok-accepted.ensures.core known.1
