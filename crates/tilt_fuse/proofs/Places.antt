-- Lists of definitions and of their needs, from a place on.
use Rattle.std.proofs.Common.{◌≡◌, ℕ, zero, suc, ◌+◌, ◌<◌, ◌≤◌, ◌==◌, Bool, false, List, [], ◌∷◌, length, get_or, drop, drop-cons, Option, Some, None, refl, sym, ap, ◌∙◌, arith}
use Rattle.std.specs.Prelude.{◌||◌, ◌&&◌, is_some}
use Rattle.tilt_bounds.proofs.Needs.{need_at-definition}
use Rattle.tilt_bounds.proofs.Steps.{length-needs, length-needs_from}
use Rattle.tilt_fuse.specs.Plan.{has_window_on, is_windowed, are_none}
use Rattle.tilt_fuse.specs.Trees.{IsKnown}
use Rattle.tilt_core.specs.CoreTree.{Definition}
use Rattle.tilt_core.specs.Needs.{Need, needs_from}

-- after the last definition there are none
pub none-behind : (defs : List Definition) (place : ℕ) → place ≤ length defs → (place == length defs) ≡ are_none (drop place defs)
none-behind [] zero low = refl
none-behind [] (suc place) low = absurd (omega arith)
none-behind (def ∷ defs) zero low = grind arith
none-behind (def ∷ defs) (suc place) low =
    let same : (suc place == suc (length defs)) ≡ (place == length defs) = grind arith in
    same ∙ none-behind defs place (omega arith)

windowed-first : (def : Definition) (n : Option Need) (defs : List Definition) (ns : List (Option Need)) (number : ℕ)
    → is_windowed (def ∷ defs) (n ∷ ns) number ≡ ((is_some n && has_window_on def.body number) || is_windowed defs ns number)
windowed-first def None defs ns number = refl
windowed-first def (Some n) defs ns number = refl

-- the definition at a place, and its need
module _ (inputs : ℕ) (defs : List Definition) (place : ℕ) (low : place < length defs) where
  abbrev ns : List (Option Need)
  ns = needs_from inputs defs

  pub defs-from : (def : Definition) → def ≡ get_or defs place def → drop place defs ≡ def ∷ drop (suc place) defs
  defs-from def is = drop-cons defs place def low ∙ ap (λ (d : Definition). d ∷ drop (suc place) defs) (sym is)

  pub needs-from : drop place ns ≡ get_or ns place None ∷ drop (suc place) ns
  needs-from = drop-cons ns place None (omega (arith, length-needs_from inputs defs))

  -- whether it is used
  pub used-at : (used : List Bool) → IsKnown inputs defs used → get_or used (inputs + place) false ≡ is_some (get_or ns place None)
  used-at used known =
      let many = known.are_used.many ∙ length-needs inputs defs in
      known.are_used.each (inputs + place) (omega (arith, many)) ∙ ap is_some (need_at-definition inputs defs place)

  -- a window on a source is in it or after it
  pub windowed-from : (def : Definition) (number : ℕ) → def ≡ get_or defs place def
      → is_windowed (drop place defs) (drop place ns) number ≡ ((is_some (get_or ns place None) && has_window_on def.body number) || is_windowed (drop (suc place) defs) (drop (suc place) ns) number)
  windowed-from def number is =
      (λ i. is_windowed (defs-from def is i) (needs-from i) number) ∙ windowed-first def (get_or ns place None) (drop (suc place) defs) (drop (suc place) ns) number
