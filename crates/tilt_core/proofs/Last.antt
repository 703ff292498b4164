-- The last definition, its span and what is asked of it.
use Rattle.std.proofs.Common.{◌≡◌, ℕ, zero, suc, List, [], ◌∷◌, length, Some, ap, sym, arith, get_or, None, refl}
use Rattle.std.specs.List.{slice_get}
use Rattle.tilt_core.specs.Core.{AreDefinitions, IsStretch, domain_of}
use Rattle.tilt_core.specs.CoreTree.{Definition}
use Rattle.tilt_core.specs.Needs.{no_margin, needs_from}

-- the output domain is the span of the last definition
pub domain_of-last : (defs : List Definition) (k : ℕ) (last : Definition) → length defs ≡ suc k → Some last ≡ slice_get defs k → domain_of defs ≡ last.over
domain_of-last [] k last count is = absurd (omega (arith, count))
domain_of-last (def ∷ []) zero last count is = let same : last ≡ def = cc is in ap (λ (d : Definition). d.over) (sym same)
domain_of-last (def ∷ []) (suc k) last count is = absurd (omega (arith, count))
domain_of-last (def ∷ next ∷ defs) zero last count is = absurd (omega (arith, count))
domain_of-last (def ∷ next ∷ defs) (suc k) last count is = domain_of-last (next ∷ defs) k last (omega (arith, count)) is

-- the output domain is a stretch of time
pub domain_of-stretch : (before : ℕ) (defs : List Definition) → AreDefinitions before defs → IsStretch (domain_of defs)
domain_of-stretch before [] h = tt
domain_of-stretch before (def ∷ []) h = h.0.stretch
domain_of-stretch before (def ∷ next ∷ defs) h = domain_of-stretch (suc before) (next ∷ defs) h.1

-- the last definition is asked for the tick itself
pub last-need : (number place : ℕ) (defs : List Definition) → length defs ≡ suc place → get_or (needs_from number defs) place None ≡ Some no_margin
last-need number place [] is = absurd (omega arith)
last-need number zero (def ∷ []) is = refl
last-need number (suc place) (def ∷ []) is = absurd (omega arith)
last-need number zero (def ∷ next ∷ defs) is = absurd (omega arith)
last-need number (suc place) (def ∷ next ∷ defs) is = last-need (suc number) place (next ∷ defs) (omega arith)
