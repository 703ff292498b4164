use Rattle.std.proofs.Common.{ℕ, List, ap, subst, sym}
use Rattle.std.specs.Prelude.{option_map}
use Rattle.tilt_reading_options.specs.Values.{ZoneChoiceValue}
use Rattle.tilt_zone_files.specs.ZoneFile.{zone_path}
use Rattle.tilt_live_app.proofs.zoned.load_chosen.Goals as goal

pub load_named-requires : goal.load_named-requires
load_named-requires g c =
    let named = c.requires c.in-Some.zone.name (ap (option_map (λ (z : ZoneChoiceValue). z.name)) c.in-Some.is) in
    subst (λ (name : List ℕ). g.S.Shelf.lends (zone_path name)) (sym c.name.ensures) named

pub returns-clause-zone : goal.returns-clause-zone
returns-clause-zone g c = rw c.in-Some.is (rw c.name.ensures at c.in_ok-table.ensures.zone)
