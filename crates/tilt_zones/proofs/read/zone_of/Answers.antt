use Rattle.std.proofs.Common.{◌≡◌, ap, rules, ◌∙◌, FitsSigned, w32, w64}
use Rattle.std.proofs.lemmas.Int.{to_z-of_z}
use Rattle.tilt_zones.proofs.TableLemmas.{first_is, zone_made}
use Rattle.tilt_zones.specs.Table.{end_of, transitions_of}
use Rattle.tilt_zones.proofs.read.zone_of.Goals as goal

pub returns-in-Ok : goal.returns-in-Ok
returns-in-Ok c =
    let first_fits : FitsSigned w32 c.to_offset-first.result.seconds = search rules in
    let end_fits : FitsSigned w64 c.end_of-end.result = search rules in
    let all : c.in-Ok.transitions.items ≡ transitions_of c.args.table.now = search rules in
    let first = ap (λ o. o.seconds) c.to_offset-first.ensures ∙ first_is c.args.table.now in
    let end : c.end_of-end.result ≡ end_of c.args.table.now c.in-Ok.transitions.items = rw (← c.deref.ensures.value) c.end_of-end.ensures in
    zone_made c.new.result c.to_offset-first.result.seconds c.end_of-end.result c.in-Ok.transitions.items c.args.table.now (simp to_z-of_z at c.new.ensures) first all end
