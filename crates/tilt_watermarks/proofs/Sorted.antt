-- Under lateness, the rows and values of an input come out in order of their starts.
use Rattle.std.proofs.Common.{◌≡◌, ℤ, ◌≤ℤ◌, ◌<ℤ◌, ◌⊎◌, Bool, true, false, if◌then◌else◌, int_lt, List, [], ◌∷◌, ◌++◌, Option, Some, None}
use Rattle.std.specs.Prelude.{⊤}
use Rattle.std.proofs.Common.{refl, sym, ap, subst, ◌∙◌, inl, inr, arith, append_assoc, append-nil}
use Rattle.std.proofs.lemmas.Bool.{cases_Bool}
use Rattle.std.proofs.lemmas.Int.{ints, by_lt_z}
use Rattle.std.specs.List.{AllByRecursion}
use Rattle.tilt_feed.proofs.Updates.{allowed-of}
use Rattle.tilt_feed.specs.declared.edge.Edge.{Edge}
use Rattle.tilt_feed.specs.declared.update.Update.{Update}
use Rattle.tilt_feed.specs.declared.update.Update.TheVariants.{Row, Value, NoValue, KnownUpTo}
use Rattle.tilt_watermarks.proofs.Fitting.{due-all, start-after}
use Rattle.tilt_watermarks.proofs.Going.{Allowed, allowed-rise}
use Rattle.tilt_watermarks.specs.Held.{Waiting, due, inserted, is_due, known, left, moved, moved_all, rising, start_of, with_update}
use Rattle.tilt_watermarks.specs.Laws.{pieces}
use Rattle.tilt_watermarks.specs.Steps.{raised}

-- rows and values: all but "known up to"
abbrev pub IsPiece : Update → Type 0
IsPiece (Row start end value) = ⊤
IsPiece (Value start value) = ⊤
IsPiece (NoValue start) = ⊤
IsPiece (KnownUpTo tick) = ⊥

pub pieces-all : (updates : List Update) → AllByRecursion IsPiece updates → pieces updates ≡ updates
pieces-all [] are = refl
pieces-all (Row start end value ∷ updates) are = ap (λ (list : List Update). Row start end value ∷ list) (pieces-all updates are.1)
pieces-all (Value start value ∷ updates) are = ap (λ (list : List Update). Value start value ∷ list) (pieces-all updates are.1)
pieces-all (NoValue start ∷ updates) are = ap (λ (list : List Update). NoValue start ∷ list) (pieces-all updates are.1)
pieces-all (KnownUpTo tick ∷ updates) are = absurd are.0

pub pieces-append : (first second : List Update) → pieces (first ++ second) ≡ pieces first ++ pieces second
pieces-append [] second = refl
pieces-append (Row start end value ∷ first) second = ap (λ (list : List Update). Row start end value ∷ list) (pieces-append first second)
pieces-append (Value start value ∷ first) second = ap (λ (list : List Update). Value start value ∷ list) (pieces-append first second)
pieces-append (NoValue start ∷ first) second = ap (λ (list : List Update). NoValue start ∷ list) (pieces-append first second)
pieces-append (KnownUpTo tick ∷ first) second = pieces-append first second

-- what is held stays rows and values
due-pieces : (end : Option ℤ) (updates : List Update) → AllByRecursion IsPiece updates → AllByRecursion IsPiece (due end updates)
due-pieces end [] are = tt
due-pieces end (update ∷ updates) are =
    elim (cases_Bool (is_due end update)) [
      | inl here ↦ subst (λ (b : Bool). AllByRecursion IsPiece (if b then update ∷ due end updates else [])) (sym here) (are.0, due-pieces end updates are.1)
      | inr none ↦ subst (λ (b : Bool). AllByRecursion IsPiece (if b then update ∷ due end updates else [])) (sym none) tt
    ]

pub left-pieces : (end : Option ℤ) (updates : List Update) → AllByRecursion IsPiece updates → AllByRecursion IsPiece (left end updates)
left-pieces end [] are = tt
left-pieces end (update ∷ updates) are =
    elim (cases_Bool (is_due end update)) [
      | inl here ↦ subst (λ (b : Bool). AllByRecursion IsPiece (if b then left end updates else update ∷ updates)) (sym here) (left-pieces end updates are.1)
      | inr none ↦ subst (λ (b : Bool). AllByRecursion IsPiece (if b then left end updates else update ∷ updates)) (sym none) are
    ]

inserted-pieces : (update : Update) (updates : List Update) → IsPiece update → AllByRecursion IsPiece updates → AllByRecursion IsPiece (inserted update updates)
inserted-pieces update [] is are = (is, tt)
inserted-pieces update (first ∷ updates) is are =
    let b = int_lt (start_of update) (start_of first) in
    elim (cases_Bool b) [
      | inl here ↦ subst (λ (b : Bool). AllByRecursion IsPiece (if b then update ∷ first ∷ updates else first ∷ inserted update updates)) (sym here) (is, are)
      | inr none ↦ subst (λ (b : Bool). AllByRecursion IsPiece (if b then update ∷ first ∷ updates else first ∷ inserted update updates)) (sym none)
          (are.0, inserted-pieces update updates is are.1)
    ]

pub with-pieces : (update : Update) (updates : List Update) → AllByRecursion IsPiece updates → AllByRecursion IsPiece (with_update update updates)
with-pieces (Row start end value) updates are = inserted-pieces (Row start end value) updates tt are
with-pieces (Value start value) updates are = inserted-pieces (Value start value) updates tt are
with-pieces (NoValue start) updates are = inserted-pieces (NoValue start) updates tt are
with-pieces (KnownUpTo tick) updates are = are

-- updates that don't start above a tick
abbrev pub AreBelow : ℤ → List Update → Type 0
AreBelow tick updates = AllByRecursion (λ u. start_of u ≤ℤ tick) updates

pub below-more : (tick high : ℤ) (updates : List Update) → tick ≤ℤ high → AreBelow tick updates → AreBelow high updates
below-more tick high [] low are = tt
below-more tick high (update ∷ updates) low are = ((let at = are.0 in omega (arith, ints, at, low)), below-more tick high updates low are.1)

pub below-append : (tick : ℤ) (first second : List Update) → AreBelow tick first → AreBelow tick second → AreBelow tick (first ++ second)
below-append tick [] second one two = two
below-append tick (update ∷ first) second one two = (one.0, below-append tick first second one.1 two)

-- one that doesn't start below them comes after them
inserted-after : (update : Update) (front back : List Update) → AreBelow (start_of update) front → inserted update (front ++ back) ≡ front ++ inserted update back
inserted-after update [] back are = refl
inserted-after update (first ∷ front) back are =
    let at = are.0 in
    let later : int_lt (start_of update) (start_of first) ≡ false = grind (arith, ints) in
    rw later (ap (λ (list : List Update). first ∷ list) (inserted-after update front back are.1))

pub with-after : (update : Update) (front back : List Update) → AreBelow (start_of update) front → with_update update (front ++ back) ≡ front ++ with_update update back
with-after (Row start end value) front back are = inserted-after (Row start end value) front back are
with-after (Value start value) front back are = inserted-after (Value start value) front back are
with-after (NoValue start) front back are = inserted-after (NoValue start) front back are
with-after (KnownUpTo tick) front back are = refl

-- what is handed on doesn't start above the watermark after it
allowed-below : (edge : Edge) (updates : List Update) → Allowed edge updates → AreBelow (moved_all updates edge).watermark updates
allowed-below edge [] is = tt
allowed-below edge (update ∷ updates) is =
    let allowed = (allowed-of false edge update is.0).1 in
    let after = start-after update allowed.range allowed.ticks in
    let high = allowed-rise (moved update edge) updates is.1 in
    (omega (arith, ints, after, high), allowed-below (moved update edge) updates is.1)

pieces-below : (tick : ℤ) (updates : List Update) → AreBelow tick updates → AreBelow tick (pieces updates)
pieces-below tick [] are = tt
pieces-below tick (Row start end value ∷ updates) are = (are.0, pieces-below tick updates are.1)
pieces-below tick (Value start value ∷ updates) are = (are.0, pieces-below tick updates are.1)
pieces-below tick (NoValue start ∷ updates) are = (are.0, pieces-below tick updates are.1)
pieces-below tick (KnownUpTo k ∷ updates) are = pieces-below tick updates are.1

-- rows and values that an input has handed on, and what it holds, are those that were gathered
pub record IsSorted (done : List Update) (input : Waiting) (all : List Update) : Type 0 where
  pub is : done ++ input.held ≡ all
  pub below : AreBelow input.edge.watermark done
  pub held : AllByRecursion IsPiece input.held

rising-none : (b : Bool) (tick : ℤ) → pieces (if b then KnownUpTo tick ∷ [] else []) ≡ []
rising-none true tick = refl
rising-none false tick = refl

rising-pieces : (end : Option ℤ) (edge : Edge) → pieces (rising end edge) ≡ []
rising-pieces None edge = refl
rising-pieces (Some tick) edge = rising-none (int_lt edge.watermark tick) tick

known-pieces : (end : Option ℤ) (input : Waiting) → AllByRecursion IsPiece input.held → pieces (known end input).handed ≡ due end input.held
known-pieces end input are =
    let front = due end input.held in
    let edge = moved_all front input.edge in
    pieces-append front (rising end edge)
    ∙ ap (λ (list : List Update). pieces front ++ list) (rising-pieces end edge)
    ∙ append-nil (pieces front)
    ∙ pieces-all front (due-pieces end input.held are)

pub known-sorted : (done all : List Update) (end : Option ℤ) (input : Waiting) → IsSorted done input all → Allowed input.edge (known end input).handed
    → IsSorted (done ++ pieces (known end input).handed) (raised end input) all
known-sorted done all end input sorted allowed =
    let handed = (known end input).handed in
    let low = allowed-rise input.edge handed allowed in
    let high = (moved_all handed input.edge).watermark in
    record {
      is = ap (λ (list : List Update). (done ++ list) ++ left end input.held) (known-pieces end input sorted.held)
          ∙ append_assoc done (due end input.held) (left end input.held)
          ∙ ap (λ (list : List Update). done ++ list) (due-all end input.held)
          ∙ sorted.is;
      below = below-append high done (pieces handed) (below-more input.edge.watermark high done low sorted.below)
          (pieces-below high handed (allowed-below input.edge handed allowed));
      held = left-pieces end input.held sorted.held;
    }

-- two updates with different starts may come in either order
swap-below : (one two : Update) (updates : List Update) → start_of one <ℤ start_of two → inserted one (inserted two updates) ≡ inserted two (inserted one updates)
swap-below one two [] low =
    let up : int_lt (start_of one) (start_of two) ≡ true = grind (arith, ints) in
    let down : int_lt (start_of two) (start_of one) ≡ false = grind (arith, ints) in
    rw (up, down) refl
swap-below one two (first ∷ rest) low =
    let up : int_lt (start_of one) (start_of two) ≡ true = grind (arith, ints) in
    let down : int_lt (start_of two) (start_of one) ≡ false = grind (arith, ints) in
    elim (cases_Bool (int_lt (start_of two) (start_of first))) [
      | inl here ↦ (let before : int_lt (start_of one) (start_of first) ≡ true = grind (arith, ints) in rw (here, before, up, down, here) refl)
      | inr none ↦ elim (cases_Bool (int_lt (start_of one) (start_of first))) [
        | inl before ↦ rw (none, before, down, none) refl
        | inr after ↦ rw (none, after, none) (ap (λ (list : List Update). first ∷ list) (swap-below one two rest low))
      ]
    ]

swap-inserted : (one two : Update) (updates : List Update) → (start_of one ≡ start_of two → ⊥) → inserted one (inserted two updates) ≡ inserted two (inserted one updates)
swap-inserted one two updates not-same =
    by_lt_z (start_of one) (start_of two) (λ low. swap-below one two updates low)
    (λ high. sym (swap-below two one updates (above (start_of one) (start_of two) not-same high)))
  where
    above : (a b : ℤ) → (a ≡ b → ⊥) → b ≤ℤ a → b <ℤ a
    above a b other low = by_lt_z b a (λ is. is) (λ is. absurd (other (omega (arith, ints))))

-- "known up to" isn't held
with-inserted : (update : Update) (updates : List Update) → IsPiece update → with_update update updates ≡ inserted update updates
with-inserted (Row start end value) updates is = refl
with-inserted (Value start value) updates is = refl
with-inserted (NoValue start) updates is = refl
with-inserted (KnownUpTo tick) updates is = absurd is

pub swap-pieces : (one two : Update) (updates : List Update) → IsPiece one → IsPiece two → (start_of one ≡ start_of two → ⊥)
    → with_update one (with_update two updates) ≡ with_update two (with_update one updates)
swap-pieces one two updates first second not-same =
    ap (with_update one) (with-inserted two updates second) ∙ with-inserted one (inserted two updates) first
    ∙ swap-inserted one two updates not-same
    ∙ sym (with-inserted two (inserted one updates) second) ∙ ap (with_update two) (sym (with-inserted one updates first))

piece-cases : (update : Update) → IsPiece update ⊎ ((updates : List Update) → with_update update updates ≡ updates)
piece-cases (Row start end value) = inl tt
piece-cases (Value start value) = inl tt
piece-cases (NoValue start) = inl tt
piece-cases (KnownUpTo tick) = inr (λ updates. refl)

pub swap-updates : (one two : Update) (updates : List Update) → (start_of one ≡ start_of two → ⊥)
    → with_update one (with_update two updates) ≡ with_update two (with_update one updates)
swap-updates one two updates not-same =
    elim (piece-cases one) [
      | inl first ↦ elim (piece-cases two) [
        | inl second ↦ swap-pieces one two updates first second not-same
        | inr same ↦ ap (with_update one) (same updates) ∙ sym (same (with_update one updates))
      ]
      | inr same ↦ same (with_update two updates) ∙ sym (ap (with_update two) (same updates))
    ]
