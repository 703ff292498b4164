-- What is tested of cuts.
use Rattle.std.proofs.Common.{◌≡◌, ◌≢◌, ◌⊎◌, ℕ, suc, Bool, true, false, ◌||◌, ℤ, neg_ℤ, ◌≤ℤ◌, List, [], ◌∷◌, length, Contains, inl, inr, refl, sym, ap, ◌∙◌, arith}
use Rattle.std.specs.Prelude.{int_le, ◌==◌}
use Rattle.std.specs.List.{AllByRecursion}
use Rattle.std.specs.Ordering.{int_eq}
use Rattle.std.proofs.lemmas.Bool.{and_parts, and_from, eqb-true, false≢true}
use Rattle.std.proofs.lemmas.Bool.Decides.{Decides-int_eq}
use Rattle.std.proofs.lemmas.List.Elements.{Contains-append_right}
use Rattle.tilt_base.proofs.Comparisons.{le_true, true_le}
use Rattle.tilt_base.proofs.Lists.{Contains-cons_cases}
use Rattle.tilt_base.specs.declared.limits.TheConstants.{T}
use Rattle.tilt_checkpoint.specs.Checkpoint.{KeptParts, cuts_kept}
use Rattle.tilt_checkpoint.specs.Cuts.{IsCut, IsLeast}
use Rattle.tilt_checkpoint.specs.Reading.{is_cut, is_least, none_below, one_has}

-- whether a cut lies within the range of times

pub cut_true : (cut : ℤ) → is_cut cut ≡ true → IsCut cut
cut_true cut h =
    let p = and_parts (int_le (neg_ℤ T) cut) (int_le cut T) h in
    (le_true (neg_ℤ T) cut p.0, le_true cut T p.1)

pub true_cut : (cut : ℤ) → IsCut cut → is_cut cut ≡ true
true_cut cut h = and_from (int_le (neg_ℤ T) cut) (int_le cut T) (true_le (neg_ℤ T) cut h.0) (true_le cut T h.1)

-- whether none lies below it

below_true : (cut : ℤ) (series : List KeptParts) → none_below cut series ≡ true → AllByRecursion (λ n. cut ≤ℤ n) (cuts_kept series)
below_true cut [] h = tt
below_true cut (kept ∷ series) h =
    let p = and_parts (int_le cut kept.cut) (none_below cut series) h in
    (le_true cut kept.cut p.0, below_true cut series p.1)

true_below : (cut : ℤ) (series : List KeptParts) → AllByRecursion (λ n. cut ≤ℤ n) (cuts_kept series) → none_below cut series ≡ true
true_below cut [] h = refl
true_below cut (kept ∷ series) h =
    and_from (int_le cut kept.cut) (none_below cut series) (true_le cut kept.cut h.0) (true_below cut series h.1)

-- whether it is one of them

has_head : (kept : KeptParts) (cut : ℤ) (series : List KeptParts) (here : Bool) → int_eq kept.cut cut ≡ here → (here || one_has cut series) ≡ true
    → (one_has cut series ≡ true → Contains (cuts_kept series) cut) → Contains (kept.cut ∷ cuts_kept series) cut
has_head kept cut series true is h more = (0, omega arith, (Decides-int_eq kept.cut cut).0 is)
has_head kept cut series false is h more = Contains-append_right (kept.cut ∷ []) (cuts_kept series) cut (more h)

has_true : (cut : ℤ) (series : List KeptParts) → one_has cut series ≡ true → Contains (cuts_kept series) cut
has_true cut [] h = absurd (false≢true h)
has_true cut (kept ∷ series) h = has_head kept cut series (int_eq kept.cut cut) refl h (has_true cut series)

or_later : (here later : Bool) → later ≡ true → (here || later) ≡ true
or_later true later h = refl
or_later false later h = h

true_head : (kept : KeptParts) (cut : ℤ) (series : List KeptParts) → (kept.cut ≡ cut) ⊎ Contains (cuts_kept series) cut
    → (Contains (cuts_kept series) cut → one_has cut series ≡ true) → one_has cut (kept ∷ series) ≡ true
true_head kept cut series (inl same) more = ap (λ (b : Bool). b || one_has cut series) ((Decides-int_eq kept.cut cut).1 same)
true_head kept cut series (inr later) more = or_later (int_eq kept.cut cut) (one_has cut series) (more later)

true_has : (cut : ℤ) (series : List KeptParts) → Contains (cuts_kept series) cut → one_has cut series ≡ true
true_has cut [] h = let none = h.1 in absurd (omega arith)
true_has cut (kept ∷ series) h =
    true_head kept cut series (Contains-cons_cases kept.cut (cuts_kept series) cut h) (true_has cut series)

-- whether it is the least of them, if there are any

cons_some : (n : ℤ) (numbers : List ℤ) → n ∷ numbers ≢ []
cons_some n numbers e = cc e

no_length : (n : ℕ) (t : Bool) → (suc n == 0) ≡ t → t ≡ false
no_length n true e = let same = eqb-true (suc n) 0 e in absurd (omega arith)
no_length n false e = refl

-- if there is a series, the test of the others counts
some_series : (kept : KeptParts) (series : List KeptParts) (t : Bool) → (length (kept ∷ series) == 0 || t) ≡ t
some_series kept series t = ap (λ (b : Bool). b || t) (no_length (length series) (length (kept ∷ series) == 0) refl)

among_true : (cut : ℤ) (series : List KeptParts) → (length series == 0 || one_has cut series) ≡ true → cuts_kept series ≢ []
    → Contains (cuts_kept series) cut
among_true cut [] h some = absurd (some refl)
among_true cut (kept ∷ series) h some = has_true cut (kept ∷ series) (sym (some_series kept series (one_has cut (kept ∷ series))) ∙ h)

true_among : (cut : ℤ) (series : List KeptParts) → (cuts_kept series ≢ [] → Contains (cuts_kept series) cut)
    → (length series == 0 || one_has cut series) ≡ true
true_among cut [] h = refl
true_among cut (kept ∷ series) h =
    some_series kept series (one_has cut (kept ∷ series)) ∙ true_has cut (kept ∷ series) (h (cons_some kept.cut (cuts_kept series)))

pub least_true : (cut : ℤ) (series : List KeptParts) → is_least cut series ≡ true → IsLeast cut (cuts_kept series)
least_true cut series h =
    let p = and_parts (none_below cut series) (length series == 0 || one_has cut series) h in
    record { none_below = below_true cut series p.0; among = among_true cut series p.1 }

pub true_least : (cut : ℤ) (series : List KeptParts) → IsLeast cut (cuts_kept series) → is_least cut series ≡ true
true_least cut series h =
    and_from (none_below cut series) (length series == 0 || one_has cut series)
    (true_below cut series h.none_below) (true_among cut series h.among)
