-- What one definition more asks of the sources before it.
use Rattle.std.proofs.Common.{◌≡◌, ◌≢◌, ℕ, zero, suc, ◌+◌, ◌^◌, ◌<◌, ◌≤◌, ◌==◌, ℤ, pos, ◌≤ℤ◌, false, List, [], ◌∷◌, length, map, Option, Some, None, if◌then◌else◌, inl, inr, refl, sym, ap, ◌∙◌}
use Rattle.std.proofs.Common.{arith, subst, get_or, set, length-append, replicate}
use Rattle.std.specs.List.{range_with_len}
use Rattle.std.specs.Prelude.{neg_ℤ}
use Rattle.std.proofs.lemmas.Bool.{ne_eqb, cases_eq}
use Rattle.std.proofs.lemmas.Int.{ints, clamps}
use Rattle.std.proofs.lemmas.List.{ext_get_or, append-nil, get_or-set_same, get_or-set_other}
use Rattle.std.proofs.lemmas.List.FromFn.{length-map-range_with_len}
use Rattle.tilt_base.proofs.Comparisons.{same_number}
use Rattle.tilt_base.specs.Expression.{Leaf, One, Two, If}
use Rattle.tilt_base.specs.Grid.{IsGrid}
use Rattle.tilt_core.specs.Core.{ReadsBelow, IsDefinition, AreDefinitions}
use Rattle.tilt_core.specs.CoreTree.{Const, Read, Reduce, CoreTree, Definition}
use Rattle.tilt_core.specs.Needs.{Need, either, reaching, asked_by, body_need, asked_of, need_before, asked_from, needs_from, needs}
use Rattle.tilt_bounds.proofs.Needs.{below_or_behind, need_at-input, need_at-definition, wider-grows}
use Rattle.tilt_bounds.specs.Margins.{IsWithin, AreWithin, evenly, need_at}

-- two needs and nothing
pub either-none : (m : Option Need) → either m None ≡ m
either-none None = refl
either-none (Some m) = refl

pub either-grows : (a b c : Option Need) → either (either a b) c ≡ either a (either b c)
either-grows None b c = refl
either-grows (Some a) None c = refl
either-grows (Some a) (Some b) None = refl
either-grows (Some a) (Some b) (Some c) = ap Some (wider-grows a b c)

-- an expression asks nothing of a source that it doesn't read
pub asks_none : (bound : ℕ) (n : Need) (body : CoreTree) (source : ℕ) → ReadsBelow bound body → bound ≤ source → asked_by n body source ≡ None
asks_none bound n (Leaf (Const number)) source reads high = refl
asks_none bound n (Leaf (Read read offset)) source reads high =
    let other : (read == source) ≡ false = grind arith in
    rw other refl
asks_none bound n (Leaf (Reduce reducer read from to)) source reads high =
    let low = reads.0 in
    let other : (read == source) ≡ false = grind arith in
    rw other refl
asks_none bound n (One op a) source reads high = asks_none bound n a source reads high
asks_none bound n (Two op a b) source reads high = rw (asks_none bound n a source reads.0 high, asks_none bound n b source reads.1 high) refl
asks_none bound n (If c a b) source reads high =
    rw (asks_none bound n c source reads.0 high, asks_none bound n a source reads.1 high, asks_none bound n b source reads.2 high) refl

-- a source that is asked for more
pub asks-source : (asked : List (Option Need)) (read : ℕ) (n : Need) (source : ℕ) → read < length asked
    → need_at (set asked read (either (need_at asked read) (Some n))) source ≡ either (need_at asked source) (if read == source then Some n else None)
asks-source asked read n source low =
    elim (cases_eq source read) [
      | inl same ↦ rw (same, same_number read) (get_or-set_same asked read (either (need_at asked read) (Some n)) None low)
      | inr other ↦ (let differs : (read == source) ≡ false = ne_eqb read source (λ e. other (sym e)) in
          rw differs (get_or-set_other asked read source (either (need_at asked read) (Some n)) None other ∙ sym (either-none (need_at asked source))))
    ]

pub length-needs_from : (number : ℕ) (defs : List Definition) → length (needs_from number defs) ≡ length defs
length-needs_from number [] = refl
length-needs_from number (def ∷ defs) = ap suc (length-needs_from (suc number) defs)

pub length-needs : (inputs : ℕ) (defs : List Definition) → length (needs inputs defs) ≡ inputs + length defs
length-needs inputs defs =
    let xs = map (asked_from inputs defs) (range_with_len 0 inputs) in
    omega (arith, length-append xs (needs_from inputs defs), length-map-range_with_len (asked_from inputs defs) 0 inputs, length-needs_from inputs defs)

-- what a definition asks of the sources that are none of its own
asks_nothing : (number : ℕ) (def : Definition) (n : Option Need) (source : ℕ) → ReadsBelow number def.body → number ≤ source → asked_of def n source ≡ None
asks_nothing number def None source reads high = refl
asks_nothing number def (Some n) source reads high = asks_none number (body_need def n) def.body source reads high

module _ (number : ℕ) (def : Definition) (behind : List Definition) (old new : List (Option Need)) (n : Option Need) where
  -- the need of the definition was written, and then it asked what it asks
  abbrev pub HasAsked : Type 0
  HasAsked = (source : ℕ) → source < length old → need_at new source ≡ either (need_at (set old number n) source) (asked_of def n source)

  module _ (reads : ReadsBelow number def.body) (so_far : old ≡ needs (suc number) behind) (is : n ≡ need_before behind (need_at old number)) (asks : HasAsked) where
    this : n ≡ need_before behind (asked_from (suc number) behind number)
    this = is ∙ ap (need_before behind) (ap (λ (ns : List (Option Need)). need_at ns number) so_far ∙ need_at-input (suc number) behind number (omega arith))

    many : length old ≡ suc number + length behind
    many = ap length so_far ∙ length-needs (suc number) behind

    at_before : (source : ℕ) → source < number → need_at new source ≡ need_at (needs number (def ∷ behind)) source
    at_before source low =
        let other : source ≢ number = λ e. absurd (omega arith) in
        asks source (omega (arith, many))
        ∙ ap (λ (m : Option Need). either m (asked_of def n source))
        (get_or-set_other old number source n None other ∙ ap (λ (ns : List (Option Need)). need_at ns source) so_far ∙ need_at-input (suc number) behind source (omega arith))
        ∙ ap (λ (m : Option Need). either (asked_from (suc number) behind source) (asked_of def m source)) this
        ∙ sym (need_at-input number (def ∷ behind) source low)

    at_behind : (k : ℕ) → number + k < length old → need_at new (number + k) ≡ need_at (needs number (def ∷ behind)) (number + k)
    at_behind zero low =
        let at : number + zero ≡ number = omega arith in
        asks (number + zero) low
        ∙ rw (asks_nothing number def n (number + zero) reads (omega arith), either-none (need_at (set old number n) (number + zero)))
        (ap (need_at (set old number n)) at ∙ get_or-set_same old number n None (omega (arith, many)) ∙ this ∙ sym (need_at-definition number (def ∷ behind) zero))
    at_behind (suc k) low =
        let other : number + suc k ≢ number = λ e. absurd (omega arith) in
        let at : number + suc k ≡ suc number + k = omega arith in
        asks (number + suc k) low
        ∙ rw (asks_nothing number def n (number + suc k) reads (omega arith), either-none (need_at (set old number n) (number + suc k)))
        (get_or-set_other old number (number + suc k) n None other
        ∙ ap (need_at old) at
        ∙ ap (λ (ns : List (Option Need)). need_at ns (suc number + k)) so_far
        ∙ need_at-definition (suc number) behind k
        ∙ sym (need_at-definition number (def ∷ behind) (suc k)))

    -- so these are the needs if the definition counts with those after it
    pub asked-needs : length new ≡ length old → new ≡ needs number (def ∷ behind)
    asked-needs same =
        ext_get_or None new (needs number (def ∷ behind)) (omega (arith, many, same, length-needs number (def ∷ behind)))
        (λ source low. elim (below_or_behind source number) [
          | inl before ↦ at_before source before
          | inr e ↦ (let at = e.1 in rw at (at_behind e.0 (omega (arith, same))))
        ])

-- needs within a bound are within a greater one
pub within-greater : (low high : ℤ) (n : Option Need) → low ≤ℤ high → IsWithin (evenly low) n → IsWithin (evenly high) n
within-greater low high None less h = tt
within-greater low high (Some n) less h =
    let back = h.1 in
    let ahead = h.3 in
    (h.0, omega (arith, ints), h.2, omega (arith, ints))

pub all_within-greater : (low high : ℤ) (ns : List (Option Need)) → low ≤ℤ high → AreWithin (evenly low) ns → AreWithin (evenly high) ns
all_within-greater low high ns less h = record { each = λ source. within-greater low high (need_at ns source) less (h.each source) }

-- one need is written
pub all_within-set : (limit : Need) (ns : List (Option Need)) (i : ℕ) (n : Option Need) → i < length ns → AreWithin limit ns → IsWithin limit n → AreWithin limit (set ns i n)
all_within-set limit ns i n low h is = record {
  each = λ source. elim (cases_eq source i) [
    | inl same ↦ rw (same, get_or-set_same ns i n None low) is
    | inr other ↦ rw (get_or-set_other ns i source n None other) (h.each source)
  ];
}

-- the wider of needs within a bound is within it
pub within-either : (limit : Need) (m n : Option Need) → IsWithin limit m → IsWithin limit n → IsWithin limit (either m n)
within-either limit None n g h = h
within-either limit (Some m) None g h = g
within-either limit (Some m) (Some n) g h =
    let a = g.0 in
    let b = g.1 in
    let c = g.2 in
    let d = g.3 in
    let e = h.1 in
    let f = h.3 in
    (omega (arith, ints, clamps), omega (arith, ints, clamps), omega (arith, ints, clamps), omega (arith, ints, clamps))

-- a need that is moved by offsets of 65 bits grows by no more
pub within-reaching : (limit : ℕ) (n : Need) (first last : ℤ) → neg_ℤ (pos (2 ^ 64)) ≤ℤ first → last ≤ℤ pos (2 ^ 64) → IsWithin (evenly (pos limit)) (Some n)
    → IsWithin (evenly (pos (limit + 2 ^ 64))) (Some (reaching n first last))
within-reaching limit n first last low high h =
    let a = h.0 in
    let b = h.1 in
    let c = h.2 in
    let d = h.3 in
    (omega (arith, ints, clamps), omega (arith, ints, clamps), omega (arith, ints, clamps), omega (arith, ints, clamps))

-- a source that is asked for more stays within a bound
pub all_within-source : (limit : Need) (asked : List (Option Need)) (read : ℕ) (n : Need) → read < length asked → AreWithin limit asked → IsWithin limit (Some n)
    → AreWithin limit (set asked read (either (need_at asked read) (Some n)))
all_within-source limit asked read n low h is =
    all_within-set limit asked read (either (need_at asked read) (Some n)) low h (within-either limit (need_at asked read) (Some n) (h.each read) is)

-- a definition of an accepted query, by its place
pub definition-at : (before k : ℕ) (defs : List Definition) (other : Definition) → AreDefinitions before defs → k < length defs → IsDefinition (before + k) (get_or defs k other)
definition-at before k [] other are low = absurd (omega arith)
definition-at before zero (def ∷ defs) other are low =
    let at : before + zero ≡ before = omega arith in
    rw at are.0
definition-at before (suc k) (def ∷ defs) other are low =
    let at : before + suc k ≡ suc before + k = omega arith in
    rw at (definition-at (suc before) k defs other are.1 (omega arith))

-- an expression that reads below a number reads below a greater one
pub reads-more : (bound more : ℕ) (body : CoreTree) → bound ≤ more → ReadsBelow bound body → ReadsBelow more body
reads-more bound more (Leaf (Const number)) less reads = tt
reads-more bound more (Leaf (Read read offset)) less reads = omega arith
reads-more bound more (Leaf (Reduce reducer read from to)) less reads = (let low = reads.0 in omega arith, reads.1)
reads-more bound more (One op a) less reads = reads-more bound more a less reads
reads-more bound more (Two op a b) less reads = (reads-more bound more a less reads.0, reads-more bound more b less reads.1)
reads-more bound more (If c a b) less reads = (reads-more bound more c less reads.0, reads-more bound more a less reads.1, reads-more bound more b less reads.2)

-- the need of a definition is within the bound of those asked
pub within-need_before : (limit : ℕ) (behind : List Definition) (n : Option Need) → IsWithin (evenly (pos limit)) n → IsWithin (evenly (pos limit)) (need_before behind n)
within-need_before limit [] n h = (omega (arith, ints), omega (arith, ints), omega (arith, ints), omega (arith, ints))
within-need_before limit (def ∷ behind) n h = h

-- the need of a body is greater by less than a period
pub within-body : (limit : ℕ) (def : Definition) (n : Need) → IsGrid def.grid → IsWithin (evenly (pos limit)) (Some n) → IsWithin (evenly (pos (limit + 2 ^ 41))) (Some (body_need def n))
within-body limit def n grid h =
    let low = grid.period_low in
    let high = grid.period_high in
    let a = h.0 in
    let b = h.1 in
    let c = h.2 in
    let d = h.3 in
    (omega (arith, ints), omega (arith, ints), omega (arith, ints), omega (arith, ints))

-- the need of the body of a definition that is used, by what its definition was asked for
pub within-asked : (limit : ℕ) (def : Definition) (behind : List Definition) (asked n : Option Need) (need body : Need) → IsGrid def.grid → IsWithin (evenly (pos limit)) asked
    → n ≡ need_before behind asked → n ≡ Some need → body ≡ body_need def need → IsWithin (evenly (pos (limit + 2 ^ 41))) (Some body)
within-asked limit def behind asked n need body grid h is used body_is =
    subst (λ (m : Need). IsWithin (evenly (pos (limit + 2 ^ 41))) (Some m)) (sym body_is)
    (within-body limit def need grid (subst (λ (m : Option Need). IsWithin (evenly (pos limit)) m) (sym is ∙ used) (within-need_before limit behind asked h)))

-- the need of a definition is written within the bound of those that were asked
pub all_within-put_down : (so_far limit : ℕ) (behind : List Definition) (old : List (Option Need)) (number : ℕ) (n : Option Need) → number < length old
    → AreWithin (evenly (pos so_far)) old → n ≡ need_before behind (need_at old number) → so_far ≤ limit → AreWithin (evenly (pos limit)) (set old number n)
all_within-put_down so_far limit behind old number n low h is less =
    all_within-set (evenly (pos limit)) old number n low
    (all_within-greater (pos so_far) (pos limit) old (omega (arith, ints)) h)
    (subst (λ (m : Option Need). IsWithin (evenly (pos limit)) m) (sym is)
    (within-need_before limit behind (need_at old number) (within-greater (pos so_far) (pos limit) (need_at old number) (omega (arith, ints)) (h.each number))))

-- if nothing was asked, no source has a need
unasked-map : (number from count : ℕ) → map (asked_from number []) (range_with_len from count) ≡ replicate count None
unasked-map number from zero = refl
unasked-map number from (suc count) = ap (λ (ns : List (Option Need)). None ∷ ns) (unasked-map number (from + 1) count)

pub unasked-needs : (count : ℕ) → replicate count None ≡ needs count []
unasked-needs count = sym (append-nil (map (asked_from count []) (range_with_len 0 count)) ∙ unasked-map count 0 count)

unasked-at : (count source : ℕ) → need_at (replicate count None) source ≡ None
unasked-at zero source = refl
unasked-at (suc count) zero = refl
unasked-at (suc count) (suc source) = unasked-at count source

pub unasked-within : (limit : Need) (count : ℕ) → AreWithin limit (replicate count None)
unasked-within limit count = record { each = λ source. rw (unasked-at count source) tt }
