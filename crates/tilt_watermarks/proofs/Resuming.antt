-- What is kept of inputs, one after another.
use Rattle.std.proofs.Common.{◌≡◌, ◌<◌, ◌+◌, ℕ, zero, suc, true, List, [], ◌∷◌, length, take, get_or, Option, None, refl, sym, ap, subst, arith, add-one}
use Rattle.std.specs.List.{AllByRecursion}
use Rattle.tilt_feed.specs.declared.update.Update.{Update}
use Rattle.tilt_watermarks.proofs.Places.{length-none}
use Rattle.tilt_watermarks.specs.Held.{Waiting, fits}
use Rattle.tilt_watermarks.specs.Laws.{IsFit}
use Rattle.tilt_watermarks.specs.Steps.{held_count}

-- what an input holds is allowed, one after another from its watermark
abbrev pub IsFitting : Waiting → Type 0
IsFitting input = fits input.edge.watermark input.held ≡ true

-- the input at an index is fit if all are
pub fit-at : (lateness : Option ℕ) (inputs : List Waiting) (index : ℕ) (input : Waiting) → AllByRecursion (IsFit lateness) inputs → index < length inputs
    → input ≡ get_or inputs index input → IsFitting input
fit-at lateness [] index input are within is = absurd (omega arith)
fit-at lateness (x ∷ inputs) zero input are within is = subst IsFitting (sym is) are.0.fits
fit-at lateness (x ∷ inputs) (suc index) input are within is = fit-at lateness inputs index input are.1 (omega arith) is

-- inputs are fit if what they hold is allowed, and if they hold nothing without lateness
pub fit-all : (lateness : Option ℕ) (inputs : List Waiting) → (lateness ≡ None → held_count inputs ≡ 0) → AllByRecursion IsFitting inputs → AllByRecursion (IsFit lateness) inputs
fit-all lateness [] none are = tt
fit-all lateness (x ∷ inputs) none are = (
  record { fits = are.0; none = λ is. length-none x.held (let all = none is in omega arith) },
  fit-all lateness inputs (λ is. let all = none is in omega arith) are.1,
)

-- without lateness they hold nothing
pub count-fit : (inputs : List Waiting) → AllByRecursion (IsFit None) inputs → held_count inputs ≡ 0
count-fit [] are = refl
count-fit (x ∷ inputs) are =
    let here = ap (λ (held : List Update). length held) (are.0.none refl) in
    let rest = count-fit inputs are.1 in
    omega (arith, here, rest)

-- how many updates one more input holds with those before it
pub count-take : (inputs : List Waiting) (index : ℕ) (input : Waiting) → index < length inputs → input ≡ get_or inputs index input
    → held_count (take (index + 1) inputs) ≡ held_count (take index inputs) + length input.held
count-take [] index input within is = absurd (omega arith)
count-take (x ∷ inputs) zero input within is = let same = ap (λ (i : Waiting). length i.held) is in omega (arith, same)
count-take (x ∷ inputs) (suc index) input within is =
    let more : held_count (take (suc index) inputs) ≡ held_count (take index inputs) + length input.held =
    rw add-one at (count-take inputs index input (omega arith) is) in
    rw add-one (omega (arith, more))
