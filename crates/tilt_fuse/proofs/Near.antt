-- The needs of a query that doesn't look too far lie within the reach.
use Rattle.std.proofs.Common.{◌≡◌, ℕ, zero, suc, ◌+◌, ◌≤◌, ℤ, pos, ◌+ℤ◌, ◌≤ℤ◌, ◌==◌, Bool, true, false, List, [], ◌∷◌, length, get_or, Option, Some, None, if◌then◌else◌, inl, inr, Ok, Err, refl}
use Rattle.std.proofs.Common.{sym, ap, ◌∙◌, arith, subst}
use Rattle.std.specs.Prelude.{⊤, IsOk}
use Rattle.std.proofs.lemmas.Int.{ints, clamps}
use Rattle.tilt_base.specs.Expression.{Leaf, One, Two, If}
use Rattle.tilt_base.specs.declared.limits.TheConstants.{REACH}
use Rattle.tilt_bounds.proofs.Needs.{below_or_behind, need_at-input, need_at-definition}
use Rattle.tilt_bounds.proofs.Reached as reached
use Rattle.tilt_bounds.specs.Margins.{MarginsParts, IsWithin, AreWithin, evenly, is_too_far, margins_of, need_at}
use Rattle.tilt_fuse.specs.Trees.{IsKnown}
use Rattle.tilt_fuse.specs.Used.{AreUsed}
use Rattle.tilt_core.specs.Core.{CoreParts, IsCore, AreDefinitions}
use Rattle.tilt_core.specs.CoreTree.{Const, Read, Reduce, CoreTree, Definition}
use Rattle.tilt_core.specs.Needs.{Need, wider, either, reaching, asked_by, body_need, asked_of, need_before, asked_from, needs_from, needs, widest}

-- a need has no negative number
abbrev IsLow : Option Need → Type 0
IsLow None = ⊤
IsLow (Some n) = (pos 0 ≤ℤ n.back) × (pos 0 ≤ℤ n.ahead)

low-either : (m n : Option Need) → IsLow m → IsLow n → IsLow (either m n)
low-either None n g h = h
low-either (Some m) None g h = g
low-either (Some m) (Some n) g h =
    let back = g.0 in
    let ahead = g.1 in
    (omega (arith, ints, clamps), omega (arith, ints, clamps))

low-if : (test : Bool) (n : Need) (first last : ℤ) → IsLow (Some n) → IsLow (if test then Some (reaching n first last) else None)
low-if true n first last h =
    let back = h.0 in
    let ahead = h.1 in
    (omega (arith, ints, clamps), omega (arith, ints, clamps))
low-if false n first last h = tt

low-asked : (n : Need) (body : CoreTree) (source : ℕ) → IsLow (Some n) → IsLow (asked_by n body source)
low-asked n (Leaf (Const number)) source h = tt
low-asked n (Leaf (Read read offset)) source h = low-if (read == source) n offset offset h
low-asked n (Leaf (Reduce reducer read from to)) source h = low-if (read == source) n (from +ℤ pos 1) to h
low-asked n (One op a) source h = low-asked n a source h
low-asked n (Two op a b) source h = low-either (asked_by n a source) (asked_by n b source) (low-asked n a source h) (low-asked n b source h)
low-asked n (If c a b) source h =
    low-either (asked_by n c source) (either (asked_by n a source) (asked_by n b source)) (low-asked n c source h)
    (low-either (asked_by n a source) (asked_by n b source) (low-asked n a source h) (low-asked n b source h))

low-of : (def : Definition) (n : Option Need) (source : ℕ) → pos 1 ≤ℤ def.grid.period → IsLow n → IsLow (asked_of def n source)
low-of def None source period h = tt
low-of def (Some n) source period h =
    let ahead = h.1 in
    low-asked (body_need def n) def.body source (h.0, omega (arith, ints))

low-before : (defs : List Definition) (asked : Option Need) → IsLow asked → IsLow (need_before defs asked)
low-before [] asked h = (omega (arith, ints), omega (arith, ints))
low-before (def ∷ defs) asked h = h

low-asked_from : (number : ℕ) (defs : List Definition) (source : ℕ) → AreDefinitions number defs → IsLow (asked_from number defs source)
low-asked_from number [] source are = tt
low-asked_from number (def ∷ defs) source are =
    let this = need_before defs (asked_from (suc number) defs number) in
    low-either (asked_from (suc number) defs source) (asked_of def this source) (low-asked_from (suc number) defs source are.1)
    (low-of def this source are.0.grid.period_low (low-before defs (asked_from (suc number) defs number) (low-asked_from (suc number) defs number are.1)))

low-needs_from : (number : ℕ) (defs : List Definition) (k : ℕ) → AreDefinitions number defs → IsLow (get_or (needs_from number defs) k None)
low-needs_from number [] k are = tt
low-needs_from number (def ∷ defs) zero are = low-before defs (asked_from (suc number) defs number) (low-asked_from (suc number) defs number are.1)
low-needs_from number (def ∷ defs) (suc k) are = low-needs_from (suc number) defs k are.1

low-needs : (inputs : ℕ) (defs : List Definition) (source : ℕ) → AreDefinitions inputs defs → IsLow (need_at (needs inputs defs) source)
low-needs inputs defs source are = elim (below_or_behind source inputs) [
  | inl low ↦ subst IsLow (sym (need_at-input inputs defs source low)) (low-asked_from inputs defs source are)
  | inr e ↦ subst IsLow (sym (ap (need_at (needs inputs defs)) e.1 ∙ need_at-definition inputs defs e.0)) (low-needs_from inputs defs e.0 are)
]

wider-within : (limit more : Need) (n : Option Need) → IsWithin limit n → IsWithin (wider more limit) n
wider-within limit more None h = tt
wider-within limit more (Some n) h =
    let back = h.1 in
    let ahead = h.3 in
    (h.0, omega (arith, ints, clamps), h.2, omega (arith, ints, clamps))

-- needs without negative numbers lie within the widest of them
widest-within : (ns : List (Option Need)) (k : ℕ) → IsLow (get_or ns k None) → IsWithin (widest ns) (get_or ns k None)
widest-within [] k low = tt
widest-within (None ∷ ns) zero low = tt
widest-within (None ∷ ns) (suc k) low = widest-within ns k low
widest-within (Some n ∷ ns) zero low = (low.0, omega (arith, ints, clamps), low.1, omega (arith, ints, clamps))
widest-within (Some n ∷ ns) (suc k) low = wider-within (widest ns) n (get_or ns k None) (widest-within ns k low)

far-enough : (test : Bool) (margins : MarginsParts) (far : Need) → IsOk (if test then Err far else Ok margins) → test ≡ false
far-enough true margins far is = absurd (cc is)
far-enough false margins far is = refl

within-reach : (limit : Need) (n : Option Need) → limit.back ≤ℤ REACH → limit.ahead ≤ℤ REACH → IsWithin limit n → IsWithin (evenly REACH) n
within-reach limit None back ahead h = tt
within-reach limit (Some n) back ahead h =
    let a = h.1 in
    let b = h.3 in
    (h.0, omega (arith, ints), h.2, omega (arith, ints))

pub needs-near : (core : CoreParts) → IsCore core → IsOk (margins_of core) → AreWithin (evenly REACH) (needs (length core.inputs) core.defs)
needs-near core valid ok =
    let inputs = length core.inputs in
    let all = needs inputs core.defs in
    let far = reached.far core in
    let near = reached.near far (far-enough (is_too_far far) (record { back = far.back; ahead = far.ahead; needs = all }) far ok) in
    let within = reached.needs-within core all (widest all) valid refl (record { each = λ source. widest-within all source (low-needs inputs core.defs source valid.definitions) }) in
    record { each = λ source. within-reach far (need_at all source) near.0 near.1 (within.each source) }

-- what is known of a query that doesn't look too far, of which it was found what is used
pub known-is : (core : CoreParts) (names : List (List ℕ)) (defs : List Definition) (used items : List Bool) → names ≡ core.inputs → defs ≡ core.defs → used ≡ items
    → AreUsed items (needs (length names) defs) → IsCore core → IsOk (margins_of core) → IsKnown (length names) defs used
known-is core names defs used items names_are defs_are used_are found valid ok =
    let inputs : length names ≡ length core.inputs = ap length names_are in
    subst (λ (bs : List Bool). IsKnown (length names) defs bs) (sym used_are)
    (record {
      few = subst (λ (ds : List Definition). length names + length ds ≤ 256) (sym defs_are) (subst (λ (n : ℕ). n + length core.defs ≤ 256) (sym inputs) valid.few);
      definitions = subst (λ (ds : List Definition). AreDefinitions (length names) ds) (sym defs_are) (subst (λ (n : ℕ). AreDefinitions n core.defs) (sym inputs) valid.definitions);
      are_used = found;
      near = subst (λ (ds : List Definition). AreWithin (evenly REACH) (needs (length names) ds)) (sym defs_are)
          (subst (λ (n : ℕ). AreWithin (evenly REACH) (needs n core.defs)) (sym inputs) (needs-near core valid ok));
    })
