-- When a source is used: the definitions after it name it.
use Rattle.std.proofs.Common.{◌≡◌, ℕ, zero, suc, ◌+◌, ◌<◌, ◌≤◌, ◌==◌, Bool, true, false, List, [], ◌∷◌, length, Option, Some, None, if◌then◌else◌, inl, inr, refl, sym, ap, ◌∙◌, arith, subst}
use Rattle.std.proofs.Common.{get_or, set, replicate, take, drop, ◌-◌, length-drop, drop-cons}
use Rattle.std.specs.Prelude.{◌||◌, is_some}
use Rattle.std.proofs.Math.Bool.{or-false}
use Rattle.std.proofs.lemmas.List.{get_or-set_same, get_or-set_other, length-replicate, take_all}
use Rattle.std.proofs.Math.Seq.{drop-length}
use Rattle.tilt_base.specs.Expression.{Leaf, One, Two, If}
use Rattle.tilt_core.specs.Core.{ReadsBelow}
use Rattle.tilt_core.specs.CoreTree.{Const, Read, Reduce, CoreTree, Definition}
use Rattle.tilt_core.specs.Needs.{Need, either, asked_by, body_need, asked_of, need_before, asked_from, needs_from, needs}
use Rattle.tilt_bounds.proofs.Needs.{below_or_behind, need_at-input, need_at-definition}
use Rattle.tilt_bounds.proofs.Steps.{length-needs, unasked-needs}
use Rattle.tilt_fuse.specs.Plan.{are_none}
use Rattle.tilt_fuse.specs.Used.{names, AreUsed}

is_some-either : (m n : Option Need) → is_some (either m n) ≡ (is_some m || is_some n)
is_some-either None n = refl
is_some-either (Some m) None = refl
is_some-either (Some m) (Some n) = refl

is_some-if : (test : Bool) (n : Need) → is_some (if test then Some n else None) ≡ test
is_some-if true n = refl
is_some-if false n = refl

-- an expression asks something of the sources that it names
is_some-asked : (n : Need) (body : CoreTree) (source : ℕ) → is_some (asked_by n body source) ≡ names body source
is_some-asked n (Leaf (Const number)) source = refl
is_some-asked n (Leaf (Read read offset)) source = is_some-if (read == source) _
is_some-asked n (Leaf (Reduce reducer read from to)) source = is_some-if (read == source) _
is_some-asked n (One op a) source = is_some-asked n a source
is_some-asked n (Two op a b) source =
    is_some-either (asked_by n a source) (asked_by n b source) ∙ rw (is_some-asked n a source, is_some-asked n b source) refl
is_some-asked n (If c a b) source =
    is_some-either (asked_by n c source) (either (asked_by n a source) (asked_by n b source))
    ∙ rw (is_some-either (asked_by n a source) (asked_by n b source), is_some-asked n c source, is_some-asked n a source, is_some-asked n b source) refl

-- it names only what it reads
names_none : (bound : ℕ) (body : CoreTree) (source : ℕ) → ReadsBelow bound body → bound ≤ source → names body source ≡ false
names_none bound (Leaf (Const number)) source reads high = refl
names_none bound (Leaf (Read read offset)) source reads high = grind arith
names_none bound (Leaf (Reduce reducer read from to)) source reads high = let low = reads.0 in grind arith
names_none bound (One op a) source reads high = names_none bound a source reads high
names_none bound (Two op a b) source reads high = rw (names_none bound a source reads.0 high, names_none bound b source reads.1 high) refl
names_none bound (If c a b) source reads high =
    rw (names_none bound c source reads.0 high, names_none bound a source reads.1 high, names_none bound b source reads.2 high) refl

pub some_need : (m : Option Need) → is_some m ≡ true → (n : Need) × (m ≡ Some n)
some_need None is = absurd (cc is)
some_need (Some n) is = (n, refl)

pub no_need : (m : Option Need) → is_some m ≡ false → m ≡ None
no_need None is = refl
no_need (Some n) is = absurd (cc is)

used_by : (behind : List Definition) (asked : Option Need) (used : Bool) → used ≡ is_some asked → is_some (need_before behind asked) ≡ (are_none behind || used)
used_by [] asked used is = refl
used_by (def ∷ behind) asked used is = sym is

asked_none : (behind : List Definition) (asked : Option Need) → need_before behind asked ≡ None → asked ≡ None
asked_none [] asked is = absurd (cc is)
asked_none (def ∷ behind) asked is = is

module _ (number : ℕ) (def : Definition) (behind : List Definition) (old : List Bool) (so_far : AreUsed old (needs (suc number) behind)) where
  abbrev need : Option Need
  need = need_before behind (asked_from (suc number) behind number)

  many : length old ≡ suc number + length behind
  many = so_far.many ∙ length-needs (suc number) behind

  before : (source : ℕ) → source < suc number → get_or old source false ≡ is_some (asked_from (suc number) behind source)
  before source low = so_far.each source (omega (arith, many)) ∙ ap is_some (need_at-input (suc number) behind source low)

  after : (k : ℕ) → suc number + k < length old → get_or old (suc number + k) false ≡ is_some (get_or (needs_from (suc number) behind) k None)
  after k low = so_far.each (suc number + k) low ∙ ap is_some (need_at-definition (suc number) behind k)

  -- whether the definition is used can be read off what those after it use
  pub is_used : is_some need ≡ (are_none behind || get_or old number false)
  is_used = used_by behind (asked_from (suc number) behind number) (get_or old number false) (before number (omega arith))

  -- the needs where the definition counts with those after it, at each source
  at_before : (source : ℕ) → source < number
      → is_some (get_or (needs number (def ∷ behind)) source None) ≡ (get_or old source false || is_some (asked_of def need source))
  at_before source low =
      ap is_some (need_at-input number (def ∷ behind) source low)
      ∙ is_some-either (asked_from (suc number) behind source) (asked_of def need source)
      ∙ ap (λ (b : Bool). b || is_some (asked_of def need source)) (sym (before source (omega arith)))

  at_this : is_some (get_or (needs number (def ∷ behind)) number None) ≡ is_some need
  at_this =
      let at : number + zero ≡ number = omega arith in
      ap (λ (s : ℕ). is_some (get_or (needs number (def ∷ behind)) s None)) (sym at) ∙ ap is_some (need_at-definition number (def ∷ behind) zero)

  at_behind : (k : ℕ) → number + suc k < length old → get_or old (number + suc k) false ≡ is_some (get_or (needs number (def ∷ behind)) (number + suc k) None)
  at_behind k low =
      let at : number + suc k ≡ suc number + k = omega arith in
      rw at (after k (omega arith)) ∙ sym (ap is_some (need_at-definition number (def ∷ behind) (suc k)))

  -- at the definition, and after it
  at_or_behind : (k : ℕ) → need ≡ None → number + k < length old → get_or old (number + k) false ≡ is_some (get_or (needs number (def ∷ behind)) (number + k) None)
  at_or_behind zero none low =
      let at : number + zero ≡ number = omega arith in
      rw at (before number (omega arith) ∙ ap is_some (asked_none behind (asked_from (suc number) behind number) none) ∙ sym (at_this ∙ ap is_some none))
  at_or_behind (suc k) none low = at_behind k low

  -- a definition that isn't used changes nothing
  pub not_used : (are_none behind || get_or old number false) ≡ false → AreUsed old (needs number (def ∷ behind))
  not_used isnt = record {
    many = omega (arith, many, length-needs number (def ∷ behind));
    each = λ source low.
        let none : need ≡ None = no_need need (is_used ∙ isnt) in
        elim (below_or_behind source number) [
          | inl less ↦ sym (at_before source less ∙ rw none (or-false (get_or old source false)))
          | inr e ↦ rw e.1 (at_or_behind e.0 none (subst (λ (s : ℕ). s < length old) e.1 low))
        ];
  }

  at_or_behind_used : (new : List Bool) (k : ℕ) (n : Need) → need ≡ Some n → ReadsBelow number def.body → length new ≡ length old
      → ((source : ℕ) → source < length old → get_or new source false ≡ (get_or (set old number true) source false || names def.body source))
      → number + k < length new → get_or new (number + k) false ≡ is_some (get_or (needs number (def ∷ behind)) (number + k) None)
  at_or_behind_used new zero n is reads same named low =
      let at : number + zero ≡ number = omega arith in
      rw at (named number (omega arith) ∙ ap (λ (b : Bool). b || names def.body number) (get_or-set_same old number true false (omega arith)) ∙ sym (at_this ∙ ap is_some is))
  at_or_behind_used new (suc k) n is reads same named low =
      named (number + suc k) (omega arith)
      ∙ rw (names_none number def.body (number + suc k) reads (omega arith), or-false (get_or (set old number true) (number + suc k) false))
      (get_or-set_other old number (number + suc k) true false (λ e. absurd (omega arith)))
      ∙ at_behind k (omega arith)

  -- one that is used uses what it names
  pub used_too : (new : List Bool) → (are_none behind || get_or old number false) ≡ true → ReadsBelow number def.body → length new ≡ length old
      → ((source : ℕ) → source < length old → get_or new source false ≡ (get_or (set old number true) source false || names def.body source))
      → AreUsed new (needs number (def ∷ behind))
  used_too new is reads same named = record {
    many = omega (arith, many, same, length-needs number (def ∷ behind));
    each = λ source low.
        let some = some_need need (is_used ∙ is) in
        elim (below_or_behind source number) [
          | inl less ↦ named source (omega (arith, same))
              ∙ ap (λ (b : Bool). b || names def.body source) (get_or-set_other old number source true false (λ e. absurd (omega arith)))
              ∙ ap (λ (b : Bool). get_or old source false || b) (sym (is_some-asked (body_need def some.0) def.body source))
              ∙ ap (λ (n : Option Need). get_or old source false || is_some (asked_of def n source)) (sym some.1)
              ∙ sym (at_before source less)
          | inr e ↦ rw e.1 (at_or_behind_used new e.0 some.0 some.1 reads same named (subst (λ (s : ℕ). s < length new) e.1 low))
        ];
  }

-- each of many that are the same
pub replicate-at : {A : Type 0} (x : A) (count source : ℕ) → get_or (replicate count x) source x ≡ x
replicate-at x zero source = refl
replicate-at x (suc count) zero = refl
replicate-at x (suc count) (suc source) = replicate-at x count source

abbrev none : Option Need
none = None

-- without definitions nothing is used
pub unused : (count : ℕ) → AreUsed (replicate count false) (needs count [])
unused count = subst (λ (ns : List (Option Need)). AreUsed (replicate count false) ns) (unasked-needs count) (record {
  many = length-replicate count false ∙ sym (length-replicate count none);
  each = λ source low. replicate-at false count source ∙ sym (ap is_some (replicate-at none count source));
})

-- the definitions are gone through from the last to the first
pub at_last : (inputs : ℕ) (defs : List Definition) (used : List Bool) → used ≡ replicate (inputs + length defs) false
    → AreUsed used (needs (inputs + (length defs - 0)) (drop (length defs - 0) defs))
at_last inputs defs used is =
    let all : length defs - 0 ≡ length defs = omega arith in
    rw (is, all, drop-length defs) (unused (inputs + length defs))

module _ (inputs done : ℕ) (defs : List Definition) where
  abbrev place : ℕ
  place = length defs - 1 - done

  rest : done < length defs → take (length defs - (place + 1)) (drop (place + 1) defs) ≡ drop (place + 1) defs
  rest low = take_all (length defs - (place + 1)) (drop (place + 1) defs) (omega (arith, length-drop (place + 1) defs))

  pub behind_is : (used : List Bool) → done < length defs → AreUsed used (needs (inputs + (length defs - done)) (drop (length defs - done) defs))
      → AreUsed used (needs (suc (inputs + place)) (take (length defs - (place + 1)) (drop (place + 1) defs)))
  behind_is used low h =
      let at : length defs - done ≡ place + 1 = omega arith in
      let number : suc (inputs + place) ≡ inputs + (place + 1) = omega arith in
      subst (λ (ds : List Definition). AreUsed used (needs (suc (inputs + place)) ds)) (sym (rest low))
      (subst (λ (i : ℕ). AreUsed used (needs i (drop (place + 1) defs))) (sym number)
      (subst (λ (i : ℕ). AreUsed used (needs (inputs + i) (drop i defs))) at h))

  pub next_is : (def : Definition) (used : List Bool) → done < length defs → def ≡ get_or defs place def
      → AreUsed used (needs (inputs + place) (def ∷ take (length defs - (place + 1)) (drop (place + 1) defs)))
      → AreUsed used (needs (inputs + (length defs - (done + 1))) (drop (length defs - (done + 1)) defs))
  next_is def used low is h =
      let at : length defs - (done + 1) ≡ place = omega arith in
      let next : suc place ≡ place + 1 = omega arith in
      rw at (subst (λ (ds : List Definition). AreUsed used (needs (inputs + place) ds))
      (ap (λ (ds : List Definition). def ∷ ds) (rest low ∙ ap (λ (i : ℕ). drop i defs) (sym next)) ∙ ap (λ (d : Definition). d ∷ drop (suc place) defs) is
      ∙ sym (drop-cons defs place def (omega arith))) h)
