-- Cuts that don't fall, and the first one that does.
use Rattle.std.proofs.Common.{◌≡◌, ℤ, ◌<ℤ◌, ◌≤ℤ◌, Bool, true, false, List, [], ◌∷◌, length, ◌⊎◌, inl, inr, Option, Some, None, refl, sym, ap, ◌∙◌, arith, subst, Contains}
use Rattle.std.specs.Prelude.{int_lt, if◌then◌else◌, ◌==◌, MatchOption}
use Rattle.std.specs.List.{AllByRecursion}
use Rattle.std.proofs.lemmas.Int.{ints, by_lt_z}
use Rattle.tilt_base.proofs.Lists.{all-contains}
use Rattle.tilt_checkpoint.specs.Checkpoint.{CheckpointParts, KeptParts, cuts_kept, cuts_of}
use Rattle.tilt_checkpoint.specs.Cuts.{AreCuts, CutsParts, IsLeast}
use Rattle.tilt_session.specs.Cuts.{IsOnward, NoneFalls, fall_of, fall_of_all, first_fall}
use Rattle.tilt_session.specs.declared.cut.Cut.TheVariants.{Upto}
use Rattle.tilt_session.specs.declared.cut_back.CutBack.{CutBack}

-- the fall of one input, and where its cut doesn't fall that of those after it
pub fall-here : (old new : ℤ) (olds news : List ℤ) → new <ℤ old → fall_of (old ∷ olds) (new ∷ news) ≡ Some (old, new)
fall-here old new olds news below =
    let test : int_lt new old ≡ true = grind (arith, ints) in
    rw test refl

pub fall-later : (old new : ℤ) (olds news : List ℤ) → old ≤ℤ new → fall_of (old ∷ olds) (new ∷ news) ≡ fall_of olds news
fall-later old new olds news on =
    let test : int_lt new old ≡ false = grind (arith, ints) in
    rw test refl

-- if no input's cut is reported to fall, none does
none-falls : (olds news : List ℤ) → length news ≡ length olds → fall_of olds news ≡ None → NoneFalls olds news
none-falls [] [] e is = tt
none-falls [] (new ∷ news) e is = absurd (omega arith)
none-falls (old ∷ olds) [] e is = absurd (omega arith)
none-falls (old ∷ olds) (new ∷ news) e is =
    by_lt_z new old
    (λ below. absurd (let told = sym (fall-here old new olds news below) ∙ is in cc))
    (λ on. (on, none-falls olds news (omega arith) (sym (fall-later old new olds news on) ∙ is)))

-- and if one is reported to, one does
falls : (olds news : List ℤ) (old new : ℤ) → fall_of olds news ≡ Some (old, new) → NoneFalls olds news → ⊥
falls [] news old new is on = cc is
falls (o ∷ olds) [] old new is on = on
falls (o ∷ olds) (n ∷ news) old new is on = falls olds news old new (sym (fall-later o n olds news on.0) ∙ is) on.1

-- cuts of which none falls don't fall below what lay below them
none-below : (least : ℤ) (olds news : List ℤ) → AllByRecursion (λ old. least ≤ℤ old) olds → NoneFalls olds news
    → AllByRecursion (λ new. least ≤ℤ new) news
none-below least [] [] below on = tt
none-below least [] (new ∷ news) below on = absurd on
none-below least (old ∷ olds) [] below on = absurd on
none-below least (old ∷ olds) (new ∷ news) below on =
    let here = below.0 in
    let raised = on.0 in
    (omega (arith, ints), none-below least olds news below.1 on.1)

onward-by : (olds : List ℤ) (old new : CutsParts) → olds ≡ old.each → IsLeast old.least old.each → IsLeast new.least new.each
    → length new.each ≡ length olds → fall_of_all olds old new ≡ None → IsOnward old (Upto new)
onward-by [] old new at is_old is_new e is =
    by_lt_z new.least old.least
    (λ below. let test : int_lt new.least old.least ≡ true = grind (arith, ints) in absurd (let told = rw test at is in cc))
    (λ on. (on, subst (λ (olds : List ℤ). NoneFalls olds new.each) at (none-falls [] new.each e refl)))
onward-by (o ∷ os) old new at is_old is_new e is =
    let on = none-falls old.each new.each (e ∙ ap length at) is in
    let among : Contains new.each new.least = is_new.among (λ none. let zero_long = ap length none in absurd (omega arith)) in
    (all-contains (λ n. old.least ≤ℤ n) new.each new.least (none-below old.least old.each new.each is_old.none_below on) among, on)

-- if no cut is reported to fall, a session may end there
pub none-onward : (old new : CutsParts) → IsLeast old.least old.each → IsLeast new.least new.each → length new.each ≡ length old.each
    → first_fall old new ≡ None → IsOnward old (Upto new)
none-onward old new is_old is_new e is = onward-by old.each old new refl is_old is_new e is

never-by : (olds : List ℤ) (old new : CutsParts) (kept cut : ℤ) → fall_of_all olds old new ≡ Some (kept, cut) → IsOnward old (Upto new) → ⊥
never-by [] old new kept cut is on =
    let least = on.0 in
    let test : int_lt new.least old.least ≡ false = grind (arith, ints) in
    let told = rw test at is in
    cc
never-by (o ∷ os) old new kept cut is on = falls old.each new.each kept cut is on.1

-- and where one is, it may not
pub not-both : (old new : CutsParts) → IsOnward old (Upto new) → (back : ℤ × ℤ) → first_fall old new ≡ Some back → ⊥
not-both old new on back is = never-by old.each old new back.0 back.1 is on

-- whether there are inputs, by a test
pub none-there : (series : List KeptParts) → (length series == 0) ≡ true → series ≡ []
none-there [] is = refl
none-there (k ∷ series) is = absurd (grind arith)

pub some-there : (series : List KeptParts) → (length series == 0) ≡ false → series ≡ [] → ⊥
some-there [] is none = cc is
some-there (k ∷ series) is none = cc none

-- the fall that is reported of a checkpoint without inputs; numbers that were passed on are the same
fall-least : (c : CheckpointParts) (new : CutsParts) → c.series ≡ []
    → first_fall (cuts_of c) new ≡ (if int_lt new.least c.cut then Some (c.cut, new.least) else None)
fall-least c new none = ap (λ (series : List KeptParts). fall_of_all (cuts_kept series) (cuts_of c) new) none

abbrev pub IsTold : Option (ℤ × ℤ) → Option CutBack → Type 0
IsTold fall told = MatchOption told (fall ≡ None) (λ back. fall ≡ Some (back.old, back.new))

pub told-least : (c : CheckpointParts) (new : CutsParts) (old cut : ℤ) (told : Option CutBack) → c.series ≡ [] → old ≡ c.cut → cut ≡ new.least
    → MatchOption told (old ≤ℤ cut) (λ back. (back.old ≡ old) × (back.new ≡ cut) × (cut <ℤ old)) → IsTold (first_fall (cuts_of c) new) told
told-least c new old cut None none old_is cut_is on =
    let onward : c.cut ≤ℤ new.least = rw (old_is, cut_is) at on in
    let test : int_lt new.least c.cut ≡ false = grind (arith, ints) in
    fall-least c new none ∙ ap (λ (b : Bool). if b then Some (c.cut, new.least) else None) test
told-least c new old cut (Some back) none old_is cut_is fell =
    let below : new.least <ℤ c.cut = rw (old_is, cut_is) at fell.2 in
    let test : int_lt new.least c.cut ≡ true = grind (arith, ints) in
    fall-least c new none
    ∙ ap (λ (b : Bool). if b then Some (c.cut, new.least) else None) test
    ∙ (λ i. Some (sym (fell.0 ∙ old_is) i, sym (fell.1 ∙ cut_is) i))

-- and of one with some
fall-some : (series : List KeptParts) (old new : CutsParts) → (series ≡ [] → ⊥) → fall_of_all (cuts_kept series) old new ≡ fall_of old.each new.each
fall-some [] old new some = absurd (some refl)
fall-some (k ∷ series) old new some = refl

pub told-input : (c : CheckpointParts) (new : CutsParts) (series : List KeptParts) (cuts : List ℤ) (told : Option CutBack) → series ≡ c.series
    → cuts ≡ new.each → (c.series ≡ [] → ⊥) → IsTold (fall_of (cuts_kept series) cuts) told → IsTold (first_fall (cuts_of c) new) told
told-input c new series cuts told series_are cuts_are some is =
    let same : fall_of (cuts_kept series) cuts ≡ first_fall (cuts_of c) new =
    (λ i. fall_of (cuts_kept (series_are i)) (cuts_are i)) ∙ sym (fall-some c.series (cuts_of c) new some) in
    subst (λ (fall : Option (ℤ × ℤ)). IsTold fall told) same is
