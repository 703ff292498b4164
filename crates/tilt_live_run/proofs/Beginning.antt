-- What has begun, as a live engine returns it.
use Rattle.std.proofs.Common.{◌≡◌, ℤ, Option, None, Some, refl, sym}
use Rattle.std.proofs.lemmas.Option.{same_Some}
use Rattle.tilt_engine.specs.Engines.{begun_pair}
use Rattle.tilt_feed.specs.Printed.{Begun}

pub begun-none : (found : Option Begun) → ◌≡◌ {A = Option (ℤ × Option ℤ)} None (begun_pair found) → found ≡ None
begun-none None e = refl
begun-none (Some b) e = absurd (cc e)

pub begun-some : (found : Option Begun) (start : ℤ) (value : Option ℤ) → ◌≡◌ {A = Option (ℤ × Option ℤ)} (Some (start, value)) (begun_pair found)
    → found ≡ Some (record { start = start; value = value })
begun-some None start value e = absurd (cc e)
begun-some (Some b) start value e =
    let p = same_Some (b.start, b.value) (start, value) (sym e) in
    λ i. Some (record { start = (p i).0; value = (p i).1 })
