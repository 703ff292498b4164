-- An accepted query as plain data: its core, how far it looks, and whether its definitions are fused.
use Rattle.std.specs.Prelude.{◌≡◌, Bool, Ok, refl}
use Rattle.std.specs.Coded.{Coded, code_by, coded×, coded_bool}
use Rattle.tilt_bounds.specs.Margins.{MarginsParts, AreMargins, margins_of, coded_margins}
use Rattle.tilt_core.specs.Core.{CoreParts, IsCore, coded_core}

pub record AcceptedParts : Type 0 where
  pub core : CoreParts
  pub margins : MarginsParts
  pub fuse : Bool

-- what it keeps: the margins are those of the core, which is that of a query that was accepted
pub record IsAccepted (a : AcceptedParts) : Type 0 where
  pub valid : IsCore a.core
  pub near : margins_of a.core ≡ Ok a.margins
  pub within : AreMargins a.margins

-- accepted queries are distinguished part by part
abbrev pub coded_accepted : Coded AcceptedParts
coded_accepted =
    code_by (CoreParts × (MarginsParts × Bool)) (coded× coded_core (coded× coded_margins coded_bool))
    (λ a. (a.core, (a.margins, a.fuse)))
    (λ p. record { core = p.0; margins = p.1.0; fuse = p.1.1 })
    (λ _. refl)
