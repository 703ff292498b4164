-- A watching query looks no farther than the query, if the output depends on each definition.
use Rattle.std.proofs.Common.{◌≡◌, ℕ, zero, suc, ◌+◌, ◌<◌, ◌==◌, pos, ◌+ℤ◌, ◌≤ℤ◌, Bool, true, false, if◌then◌else◌, List, [], ◌∷◌, ◌++◌, length, get_or, map, Option, Some, None, refl, sym, subst, arith}
use Rattle.std.specs.Prelude.{⊤, IsSome, option_map}
use Rattle.std.specs.List.{range_with_len}
use Rattle.std.proofs.lemmas.Int.{ints, clamps}
use Rattle.std.proofs.lemmas.List.{append_assoc}
use Rattle.tilt_base.proofs.Lists.{all-append, all-parts}
use Rattle.tilt_base.specs.Expression.{Leaf, One, Two, If}
use Rattle.tilt_bounds.proofs.Needs.{need_at-definition, need_at-input}
use Rattle.tilt_bounds.specs.Margins.{need_at}
use Rattle.tilt_core.proofs.Constancy.{definitions-AreGrids}
use Rattle.tilt_core.specs.Core.{CoreParts, IsCore}
use Rattle.tilt_core.specs.CoreTree.{CoreTree, Const, Read, Reduce, Definition}
use Rattle.tilt_core.specs.Meaning.{AreGrids}
use Rattle.tilt_core.specs.Needs.{Need, asked_by, asked_from, asked_of, body_need, body_needs, either, need_before, needs, needs_from, no_margin, reach, reaching, wider, widest}
use Rattle.tilt_overflows.proofs.Near.{AreEnough, AreUsed, AreWithin, BodiesWithin, IsNoFarther, all_enough, all_within, enough, farther_refl, farther_trans, need_is, watches_enough, watches_within, widest_within}
use Rattle.tilt_overflows.proofs.Reach.{reach_low, reach_of}
use Rattle.tilt_overflows.specs.Law.{AllUsed}
use Rattle.tilt_overflows.specs.Watching.{emitted_watch, watch, watching_defs}

-- a need without negative numbers
abbrev IsLow : Option Need → Type 0
IsLow None = ⊤
IsLow (Some n) = (pos 0 ≤ℤ n.back) × (pos 0 ≤ℤ n.ahead)

either_low : (m n : Option Need) → IsLow m → IsLow n → IsLow (either m n)
either_low None n h k = k
either_low (Some m) None h k = h
either_low (Some m) (Some n) h k = let a = h.0 in let b = h.1 in (omega (arith, ints, clamps), omega (arith, ints, clamps))

read_low : (is : Bool) (n : Need) → IsLow (Some n) → IsLow (if is then Some n else None)
read_low true n h = h
read_low false n h = tt

by_low : (n : Need) (e : CoreTree) (s : ℕ) → IsLow (Some n) → IsLow (asked_by n e s)
by_low n (Leaf (Const number)) s h = tt
by_low n (Leaf (Read read offset)) s h =
    let a = h.0 in let b = h.1 in
    read_low (read == s) (reaching n offset offset) (omega (arith, ints, clamps), omega (arith, ints, clamps))
by_low n (Leaf (Reduce r read from to)) s h =
    let a = h.0 in let b = h.1 in
    read_low (read == s) (reaching n (from +ℤ pos 1) to) (omega (arith, ints, clamps), omega (arith, ints, clamps))
by_low n (One op a) s h = by_low n a s h
by_low n (Two op a b) s h = either_low (asked_by n a s) (asked_by n b s) (by_low n a s h) (by_low n b s h)
by_low n (If c a b) s h =
    either_low (asked_by n c s) (either (asked_by n a s) (asked_by n b s)) (by_low n c s h)
    (either_low (asked_by n a s) (asked_by n b s) (by_low n a s h) (by_low n b s h))

of_low : (def : Definition) (n : Option Need) (s : ℕ) → pos 1 ≤ℤ def.grid.period → IsLow n → IsLow (asked_of def n s)
of_low def None s period h = tt
of_low def (Some n) s period h = let a = h.0 in let b = h.1 in by_low (body_need def n) def.body s (omega (arith, ints), omega (arith, ints))

before_low : (defs : List Definition) (n : Option Need) → IsLow n → IsLow (need_before defs n)
before_low [] n h = (omega (arith, ints), omega (arith, ints))
before_low (def ∷ defs) n h = h

from_low : (first : ℕ) (defs : List Definition) (s : ℕ) → AreGrids defs → IsLow (asked_from first defs s)
from_low first [] s grids = tt
from_low first (def ∷ defs) s grids =
    let n = need_before defs (asked_from (suc first) defs first) in
    either_low (asked_from (suc first) defs s) (asked_of def n s) (from_low (suc first) defs s grids.1)
    (of_low def n s grids.0.period_low (before_low defs (asked_from (suc first) defs first) (from_low (suc first) defs first grids.1)))

needs_low : (first : ℕ) (defs : List Definition) (k : ℕ) → AreGrids defs → IsLow (get_or (needs_from first defs) k None)
needs_low first [] k grids = tt
needs_low first (def ∷ defs) zero grids = before_low defs (asked_from (suc first) defs first) (from_low (suc first) defs first grids.1)
needs_low first (def ∷ defs) (suc k) grids = needs_low (suc first) defs k grids.1

low_margin : (n : Option Need) → IsSome n → IsLow n → IsNoFarther (Some no_margin) n
low_margin None some h = absurd (cc some)
low_margin (Some n) some h = h

module _ (core : CoreParts) (is : IsCore core) (used : AllUsed core) where
  abbrev count : ℕ
  count = length core.inputs

  abbrev N : ℕ → Option Need
  N s = need_at (needs count core.defs) s

  abbrev last : Definition
  last = emitted_watch core

  abbrev first : ℕ
  first = count + length core.defs

  grids : AreGrids core.defs
  grids = definitions-AreGrids count core.defs is.definitions

  enough_of : AreEnough N count core.defs
  enough_of = enough N count core.defs (record {
    before = λ s below. subst (λ n. IsNoFarther (asked_from count core.defs s) n) (sym (need_at-input count core.defs s below)) (farther_refl (asked_from count core.defs s));
    each = λ k. need_at-definition count core.defs k;
  })

  used_at : (k : ℕ) → k < length core.defs → IsNoFarther (Some no_margin) (N (count + k))
  used_at k low = low_margin (N (count + k)) (used k low) (subst IsLow (sym (need_at-definition count core.defs k)) (needs_low count core.defs k grids))

  pub used_from : (b : ℕ) (defs : List Definition) → ((k : ℕ) → k < length defs → IsNoFarther (Some no_margin) (N (b + k)))
      → AreUsed N last first (length core.names) refl refl b defs
  used_from b [] h = tt
  used_from b (def ∷ defs) h =
      let none : b + 0 ≡ b = omega arith in (
        subst (λ n. IsNoFarther (Some no_margin) (N n)) none (h 0 (omega arith)),
        used_from (suc b) defs (λ k low.
            let at : b + suc k ≡ suc b + k = omega arith in
            subst (λ n. IsNoFarther (Some no_margin) (N n)) at (h (suc k) (omega arith))),
      )

  each_is : (k : ℕ) → N (count + k) ≡ get_or (needs_from count core.defs) k None
  each_is k = need_at-definition count core.defs k

  abbrev Bodies : Need → ℕ → List Definition → Type 0
  Bodies limit b defs = BodiesWithin N last first (length core.names) refl refl limit b defs

  abbrev Within : Need → List (Option Need) → Type 0
  Within limit ns = AreWithin N last first (length core.names) refl refl limit ns

  bodies_from : (limit : Need) (b : ℕ) (defs : List Definition) → ((k : ℕ) → N (b + k) ≡ get_or (needs_from b defs) k None)
      → Within limit (body_needs defs (needs_from b defs)) → Bodies limit b defs
  bodies_from limit b [] each h = tt
  bodies_from limit b (def ∷ defs) each h =
      let none : b + 0 ≡ b = omega arith in
      let n = need_before defs (asked_from (suc b) defs b) in
      let at : N b ≡ n = subst (λ m. N m ≡ n) none (each 0) in (
        subst (λ m. IsNoFarther (option_map (body_need def) m) (Some limit)) (sym at) h.0,
        bodies_from limit (suc b) defs (λ k.
            let next : b + suc k ≡ suc b + k = omega arith in
            subst (λ m. N m ≡ get_or (needs_from (suc b) defs) k None) next (each (suc k))) h.1,
      )

  limit_more : (m limit : Need) (ns : List (Option Need)) → Within limit ns → Within (wider m limit) ns
  limit_more m limit [] h = tt
  limit_more m limit (n ∷ ns) h = (farther_trans n (Some limit) (Some (wider m limit)) h.0 (omega (arith, ints, clamps), omega (arith, ints, clamps)), limit_more m limit ns h.1)

  widest_has : (ns : List (Option Need)) → Within (widest ns) ns
  widest_has [] = tt
  widest_has (None ∷ ns) = (tt, widest_has ns)
  widest_has (Some n ∷ ns) = ((omega (arith, ints, clamps), omega (arith, ints, clamps)), limit_more n (widest ns) ns (widest_has ns))

  range_within : (f g : ℕ → Option Need) (limit : Need) (from many : ℕ) → ((s : ℕ) → s < from + many → IsNoFarther (f s) (g s))
      → Within limit (map g (range_with_len from many)) → Within limit (map f (range_with_len from many))
  range_within f g limit from zero h w = tt
  range_within f g limit from (suc many) h w = (
    farther_trans (f from) (g from) (Some limit) (h from (omega arith)) w.0,
    range_within f g limit (from + 1) many (λ s low. h s (omega (arith, low))) w.1,
  )

  abbrev limit : Need
  limit = reach_of core

  abbrev behind : List Definition
  behind = map watch core.defs ++ last ∷ []

  tail_enough : (s : ℕ) → s < first → IsNoFarther (asked_from first behind s) (N s)
  tail_enough s low =
      watches_enough N last first (length core.names) refl refl count core.defs is.definitions enough_of (used_from count core.defs used_at) first s (omega arith) low

  need_of : (d : List Definition) (n : Option Need) → need_before (d ++ behind) n ≡ n
  need_of d n =
      subst (λ ds. need_before ds n ≡ n) (append_assoc d (map watch core.defs) (last ∷ [])) (need_is (d ++ map watch core.defs) last n)

  old_within : Within limit (map (asked_from count core.defs) (range_with_len 0 count) ++ body_needs core.defs (needs_from count core.defs))
  old_within = widest_has (map (asked_from count core.defs) (range_with_len 0 count) ++ body_needs core.defs (needs_from count core.defs))

  old_parts : Within limit (map (asked_from count core.defs) (range_with_len 0 count)) × Within limit (body_needs core.defs (needs_from count core.defs))
  old_parts =
      all-parts (λ (n : Option Need). IsNoFarther n (Some limit)) (map (asked_from count core.defs) (range_with_len 0 count)) (body_needs core.defs (needs_from count core.defs))
      old_within

  inputs_near : Within limit (map (asked_from count (core.defs ++ behind)) (range_with_len 0 count))
  inputs_near =
      range_within (asked_from count (core.defs ++ behind)) (asked_from count core.defs) limit 0 count
      (λ s low.
      let below : s < count = omega (arith, low) in
      subst (λ n. IsNoFarther (asked_from count (core.defs ++ behind) s) n) (need_at-input count core.defs s below)
      (all_enough N last first (length core.names) refl refl count core.defs behind is.definitions enough_of need_of tail_enough s (omega (arith, below))))
      old_parts.0

  bodies_near : Within limit (body_needs (core.defs ++ behind) (needs_from count (core.defs ++ behind)))
  bodies_near =
      let low = reach_low core in
      let within = bodies_from limit count core.defs each_is old_parts.1 in
      all_within N last first (length core.names) refl refl limit count core.defs behind is.definitions enough_of within need_of tail_enough
      (watches_within N last first (length core.names) refl refl limit count core.defs is.definitions (used_from count core.defs used_at) within low.0 low.1 first (omega arith))

  pub near : ((reach count (watching_defs core)).back ≤ℤ (reach_of core).back) × ((reach count (watching_defs core)).ahead ≤ℤ (reach_of core).ahead)
  near =
      let low = reach_low core in
      let all = all-append (λ (n : Option Need). IsNoFarther n (Some limit)) (map (asked_from count (core.defs ++ behind)) (range_with_len 0 count))
      (body_needs (core.defs ++ behind) (needs_from count (core.defs ++ behind))) inputs_near bodies_near in
      subst (λ ds. ((reach count ds).back ≤ℤ (reach_of core).back) × ((reach count ds).ahead ≤ℤ (reach_of core).ahead))
      (sym (append_assoc core.defs (map watch core.defs) (last ∷ [])))
      (widest_within N last first (length core.names) refl refl limit
      (map (asked_from count (core.defs ++ behind)) (range_with_len 0 count) ++ body_needs (core.defs ++ behind) (needs_from count (core.defs ++ behind)))
      all low.0 low.1)
