-- Up to where the rows of inputs were seen (our own rule).
use Rattle.std.specs.Prelude.{◌≢◌, ℕ, ℤ, neg_ℤ, ◌≤ℤ◌, List, [], replicate, Contains}
use Rattle.std.specs.List.{AllByRecursion}
use Rattle.tilt_base.specs.declared.limits.TheConstants.{T}

-- a cut for each input, in order, and the least of them; for a query without inputs a cut alone
pub record CutsParts : Type 0 where
  pub least : ℤ
  pub each : List ℤ

-- one cut for this number of inputs
abbrev pub same_cuts : ℕ → ℤ → CutsParts
same_cuts inputs cut = record { least = cut; each = replicate inputs cut }

-- a cut lies within the range of times
abbrev pub IsCut : ℤ → Type 0
IsCut cut = (neg_ℤ T ≤ℤ cut) × (cut ≤ℤ T)

-- a number is the least of others: none of them lies below it, and if there are any it is one of them
pub record IsLeast (least : ℤ) (numbers : List ℤ) : Type 0 where
  pub none_below : AllByRecursion (λ number. least ≤ℤ number) numbers
  pub among : numbers ≢ [] → Contains numbers least

-- cuts are within the range of times, and the least of them is
pub record AreCuts (cuts : CutsParts) : Type 0 where
  pub range : IsCut cuts.least
  pub each : AllByRecursion IsCut cuts.each
  pub least : IsLeast cuts.least cuts.each
