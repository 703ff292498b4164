-- The margins that a core has, or that it has none.
use Rattle.std.proofs.Common.{◌≡◌, ℕ, ◌≤ℤ◌, true, false, List, ◌++◌, length, map, take, drop, Option, Some, None, Ok, Err, refl, sym, ap, subst, ◌∙◌, arith}
use Rattle.std.specs.List.{range_with_len}
use Rattle.std.proofs.Math.Seq.{take-append_seam, drop-append_seam}
use Rattle.std.proofs.lemmas.Int.{ints}
use Rattle.std.proofs.lemmas.List.FromFn.{length-map-range_with_len}
use Rattle.tilt_base.specs.declared.limits.TheConstants.{REACH}
use Rattle.tilt_core.proofs.Constancy.{definitions-AreGrids}
use Rattle.tilt_core.specs.Core.{CoreParts, IsCore}
use Rattle.tilt_core.specs.CoreTree.{Definition}
use Rattle.tilt_core.specs.Needs.{Need, asked_from, needs_from, needs, body_needs, widest, reach}
use Rattle.tilt_bounds.proofs.Needs.{AreWithin-widest, widest-low}
use Rattle.tilt_bounds.proofs.Steps.{length-needs_from}
use Rattle.tilt_bounds.specs.Margins.{IsWithin, AreWithin, evenly, is_too_far, margins_of, need_at}

-- no part is above the limit
pub near : (n : Need) → is_too_far n ≡ false → (n.back ≤ℤ REACH) × (n.ahead ≤ℤ REACH)
near n is = (grind (arith, ints), grind (arith, ints))

module _ (core : CoreParts) where
  abbrev pub far : Need
  far = reach (length core.inputs) core.defs

  pub margins_of-far : is_too_far far ≡ true → margins_of core ≡ Err far
  margins_of-far is = rw is refl

  pub margins_of-near : is_too_far far ≡ false → margins_of core ≡ Ok (record { back = far.back; ahead = far.ahead; needs = needs (length core.inputs) core.defs })
  margins_of-near is = rw is refl

  -- the widest of the needs of inputs and of bodies is the reach
  pub far-is : (ns : List (Option Need)) → ns ≡ needs (length core.inputs) core.defs
      → widest (take (length core.inputs) ns ++ body_needs core.defs (drop (length core.inputs) ns)) ≡ far
  far-is ns is =
      let inputs = map (asked_from (length core.inputs) core.defs) (range_with_len 0 (length core.inputs)) in
      let many = length-map-range_with_len (asked_from (length core.inputs) core.defs) 0 (length core.inputs) in
      let front : take (length core.inputs) ns ≡ inputs =
      ap (take (length core.inputs)) is ∙ ap (λ (n : ℕ). take n (needs (length core.inputs) core.defs)) (sym many) ∙ take-append_seam inputs (needs_from (length core.inputs) core.defs) in
      let back : drop (length core.inputs) ns ≡ needs_from (length core.inputs) core.defs =
      ap (drop (length core.inputs)) is ∙ ap (λ (n : ℕ). drop n (needs (length core.inputs) core.defs)) (sym many) ∙ drop-append_seam inputs (needs_from (length core.inputs) core.defs) in
      rw (front, back) refl

  -- no need is wider than the reach
  pub needs-within : (ns : List (Option Need)) (some : Need) → IsCore core → ns ≡ needs (length core.inputs) core.defs → AreWithin some ns → AreWithin far ns
  needs-within ns some valid is within =
      let inputs = map (asked_from (length core.inputs) core.defs) (range_with_len 0 (length core.inputs)) in
      rw is (AreWithin-widest inputs (needs_from (length core.inputs) core.defs) core.defs some (definitions-AreGrids (length core.inputs) core.defs valid.definitions)
      (length-needs_from (length core.inputs) core.defs) (rw is at within))

  -- the reach is within the limit
  pub far-within : is_too_far far ≡ false → IsWithin (evenly REACH) (Some far)
  far-within is =
      let inputs = map (asked_from (length core.inputs) core.defs) (range_with_len 0 (length core.inputs)) in
      let low = widest-low (inputs ++ body_needs core.defs (needs_from (length core.inputs) core.defs)) in
      let high = near far is in
      (low.0, high.0, low.1, high.1)

-- the same of what was read of the core, and of what was made of it
module _ (core : CoreParts) (names : List (List ℕ)) (defs : List Definition) (items slice : List (Option Need)) (w : Need) (names_is : names ≡ core.inputs) (defs_is : defs ≡ core.defs)
    (items_are : items ≡ needs (length names) defs) (slice_is : slice ≡ items) (w_is : w ≡ widest (take (length names) slice ++ body_needs defs (drop (length names) slice))) where
  pub items-needs : items ≡ needs (length core.inputs) core.defs
  items-needs = items_are ∙ (λ i. needs (length (names_is i)) (defs_is i))

  pub widest-far : w ≡ far core
  widest-far =
      w_is ∙ (λ i. widest (take (length (names_is i)) (slice_is i) ++ body_needs (defs_is i) (drop (length (names_is i)) (slice_is i)))) ∙ far-is core items items-needs

  pub items-within : (some : Need) → IsCore core → AreWithin some items → AreWithin w items
  items-within some valid within = subst (λ (n : Need). AreWithin n items) (sym widest-far) (needs-within core items some valid items-needs within)

  pub widest-within : is_too_far w ≡ false → IsWithin (evenly REACH) (Some w)
  widest-within is = subst (λ (n : Need). IsWithin (evenly REACH) (Some n)) (sym widest-far) (far-within core (ap is_too_far (sym widest-far) ∙ is))

  pub widest-Err : is_too_far w ≡ true → margins_of core ≡ Err w
  widest-Err is = margins_of-far core (ap is_too_far (sym widest-far) ∙ is) ∙ ap Err (sym widest-far)

  pub widest-Ok : is_too_far w ≡ false → (ns : List (Option Need)) → ns ≡ items → margins_of core ≡ Ok (record { back = w.back; ahead = w.ahead; needs = ns })
  widest-Ok is ns ns_are =
      let same = sym widest-far in
      let all = sym (ns_are ∙ items-needs) in
      margins_of-near core (ap is_too_far (sym widest-far) ∙ is) ∙ (λ i. Ok (record { back = (same i).back; ahead = (same i).ahead; needs = all i }))

-- needs within one that is within the limit are within it
within-limit : (limit n : Need) (some : Option Need) → (n.back ≤ℤ limit.back) × (n.ahead ≤ℤ limit.ahead) → IsWithin n some → IsWithin limit some
within-limit limit n None less h = tt
within-limit limit n (Some m) less h =
    let a = less.0 in
    let b = less.1 in
    let c = h.1 in
    let d = h.3 in
    (h.0, omega (arith, ints), h.2, omega (arith, ints))

pub all_within-limit : (limit n : Need) (ns : List (Option Need)) → (n.back ≤ℤ limit.back) × (n.ahead ≤ℤ limit.ahead) → AreWithin n ns → AreWithin limit ns
all_within-limit limit n ns less h = record { each = λ source. within-limit limit n (need_at ns source) less (h.each source) }
