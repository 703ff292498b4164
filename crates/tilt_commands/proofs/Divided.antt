-- A query that is run in parts: its files have one outcome, its cuts lie inside the output domain, and how many snapshots come from each part.
use Rattle.std.proofs.Common.{◌≡◌, ◌⊎◌, ◌∙◌, ◌<◌, ◌+◌, ◌++◌, ◌||◌, ◌<ℤ◌, ℕ, zero, suc, ℤ, pos, Bool, true, false, List, [], ◌∷◌, length, map, slice_get, take}
use Rattle.std.proofs.Common.{Option, Some, None, inl, inr, refl, sym, ap, subst, arith}
use Rattle.std.proofs.lemmas.Bool.{cases_Bool}
use Rattle.std.proofs.lemmas.Bool.Decides.{nat_tests}
use Rattle.std.proofs.lemmas.Int.{ints}
use Rattle.std.proofs.lemmas.Option.{same_Some, none-some}
use Rattle.std.specs.List.{AllByRecursion, find}
use Rattle.std.specs.Option.{ForSome, option_or}
use Rattle.std.specs.Prelude.{◌+ℤ◌, ◌-ℤ◌, int_le, nat_lt, option_map}
use Rattle.tilt_base.proofs.Lists.{all-slice_get, same_found}
use Rattle.tilt_base.specs.declared.span.Span.{Span}
use Rattle.tilt_commands.proofs.Taken.{taken_domain, taken_gives}
use Rattle.tilt_commands.specs.Divided.{IsParted, RefusesParts, TakesParts, no_query, no_parts, fault_within, first_outside, first_unnamed, parts_fault, sizes_on}
use Rattle.tilt_compiler.specs.Accepted.{AcceptedParts}
use Rattle.tilt_core.specs.Core.{CoreParts, domain_of}
use Rattle.tilt_core.specs.Meaning.{output_of}
use Rattle.tilt_load.proofs.OneQuery.{refused_once, refused_or_taken, taken_once}
use Rattle.tilt_load.specs.QueryFile.{RefusesQuery, TakesQuery}
use Rattle.tilt_parts.proofs.Output.{finished-taken}
use Rattle.tilt_parts.specs.Part.{PartValue, is_finished}
use Rattle.tilt_parts.specs.Parts.{AreInside, AreParts, StandFrom, all_on, stretches}
use Rattle.tilt_printed.specs.Sizes.{parts_line}
use Rattle.tilt_report.specs.Report.{Reason, Outcome, printed, part_outside, no_such_part}
use Rattle.tilt_stream.specs.Snap.{Snapshot}
use Rattle.tilt_stream.specs.Text.{text_of}
use Rattle.tilt_cli.specs.Number.{ClimbFrom}

-- a query that is taken has no fault of its parts, or one
module _ (name : List ℕ) (cuts : List ℤ) (order bytes : List ℕ) where
  pub parts_once : (c d : CoreParts) → TakesParts cuts order bytes c → TakesParts cuts order bytes d → c ≡ d
  parts_once c d takes takes' = taken_once bytes c d takes.taken takes'.taken

  one_fault : (c d : CoreParts) (r s : Reason) → c ≡ d → parts_fault cuts order c ≡ Some r → parts_fault cuts order d ≡ Some s → r ≡ s
  one_fault c d r s same is is' = same_Some r s (sym is ∙ ap (parts_fault cuts order) same ∙ is')

  pub parts_refused_once : (r s : Reason) → RefusesParts name cuts order bytes r → RefusesParts name cuts order bytes s → r ≡ s
  parts_refused_once r s (no_query is) (no_query is') = refused_once name bytes r s is is'
  parts_refused_once r s (no_query is) (no_parts c taken fault) = absurd (refused_or_taken name bytes r c is taken)
  parts_refused_once r s (no_parts c taken fault) (no_query is) = absurd (refused_or_taken name bytes s c is taken)
  parts_refused_once r s (no_parts c taken fault) (no_parts d taken' fault') = one_fault c d r s (taken_once bytes c d taken taken') fault fault'

  fault_or_none : (c d : CoreParts) (r : Reason) → c ≡ d → parts_fault cuts order c ≡ Some r → parts_fault cuts order d ≡ None → ⊥
  fault_or_none c d r same is none = none-some r (sym none ∙ ap (parts_fault cuts order) (sym same) ∙ is)

  pub parts_refused_or_taken : (r : Reason) (c : CoreParts) → RefusesParts name cuts order bytes r → TakesParts cuts order bytes c → ⊥
  parts_refused_or_taken r c (no_query is) takes = refused_or_taken name bytes r c is takes.taken
  parts_refused_or_taken r c (no_parts d taken fault) takes = fault_or_none d c r (taken_once bytes d c taken takes.taken) fault takes.fits

  abbrev IsEither : Type 0
  IsEither = ((c : CoreParts) × TakesParts cuts order bytes c) ⊎ ((r : Reason) × RefusesParts name cuts order bytes r)

  by_fault : (c : CoreParts) → TakesQuery bytes c → (fault : Option Reason) → parts_fault cuts order c ≡ fault → IsEither
  by_fault c taken None fits = inl (c, record { taken = taken; fits = fits })
  by_fault c taken (Some why) fault = inr (why, no_parts c taken fault)

  pub parts_taken_or_refused : ((c : CoreParts) × TakesQuery bytes c) ⊎ ((r : Reason) × RefusesQuery name bytes r) → IsEither
  parts_taken_or_refused (inl (c, taken)) = by_fault c taken (parts_fault cuts order c) refl
  parts_taken_or_refused (inr (why, is)) = inr (why, no_query is)

-- it has one outcome, and always one
pub same_parted : (cuts : List ℤ) (c : CoreParts) (rows : List (List Snapshot)) (o p : Outcome) → IsParted cuts c rows o → IsParted cuts c rows p → o ≡ p
same_parted cuts c rows o p is is' =
    let lists = same_found (output_of c rows) is.list is'.list is.means is'.means in
    let domains = same_found (domain_of c.defs) is.domain is'.domain is.stretch is'.stretch in
    is.is ∙ (λ i. printed (text_of (lists i) ++ parts_line (sizes_on c rows (stretches (domains i).start cuts (domains i).end)))) ∙ sym is'.is

pub some_parted : (cuts : List ℤ) (bytes : List ℕ) (c : CoreParts) (rows : List (List Snapshot)) → TakesQuery bytes c → length rows ≡ length c.inputs
    → (o : Outcome) × IsParted cuts c rows o
some_parted cuts bytes c rows taken many =
    let given = taken_gives bytes c taken rows many in
    let domain = taken_domain bytes c taken in (
      printed (text_of given.0 ++ parts_line (sizes_on c rows (stretches domain.0.start cuts domain.0.end))),
      record { list = given.0; domain = domain.0; means = given.1; stretch = domain.1; is = refl },
    )

-- no fault is none of either kind
neither : (a : Option ℤ) (b : Option ℕ) → option_or (option_map part_outside a) (option_map no_such_part b) ≡ None → (a ≡ None) × (b ≡ None)
neither None None is = (refl, refl)
neither None (Some part) is = cc
neither (Some at) b is = cc

pub no_fault : (cuts : List ℤ) (order : List ℕ) (c : CoreParts) (domain : Span) → domain_of c.defs ≡ Some domain → parts_fault cuts order c ≡ None
    → (first_outside domain cuts ≡ None) × (first_unnamed (length cuts) order ≡ None)
no_fault cuts order c domain is fits =
    neither (first_outside domain cuts) (first_unnamed (length cuts) order) (rw is at fits)

-- the test of a domain found a fault, of a query that was taken
pub told_fault : (name : List ℕ) (cuts : List ℤ) (order bytes : List ℕ) (c : CoreParts) (domain : Span) (why : Reason) → domain_of c.defs ≡ Some domain
    → Some why ≡ fault_within cuts order domain → TakesQuery bytes c → RefusesParts name cuts order bytes why
told_fault name cuts order bytes c domain why is told taken =
    let fault : parts_fault cuts order c ≡ Some why = rw is (sym told) in
    no_parts c taken fault

pub told_none : (cuts : List ℤ) (order : List ℕ) (c : CoreParts) (domain : Span) → domain_of c.defs ≡ Some domain → None ≡ fault_within cuts order domain
    → parts_fault cuts order c ≡ None
told_none cuts order c domain is told = rw is (sym told)

-- what isn't found holds of none
found_none : {X : Type 0} (test : X → Bool) (x : X) (xs : List X) → find test (x ∷ xs) ≡ None → (test x ≡ false) × (find test xs ≡ None)
found_none test x xs none = elim (cases_Bool (test x)) [
  | inl is ↦ (let told : Some x ≡ None = rw is at none in absurd (none-some x (sym told)))
  | inr not_so ↦ (not_so, rw not_so at none)
]

within_low : (start end cut : ℤ) → (int_le cut start || int_le end cut) ≡ false → start <ℤ cut
within_low start end cut is = grind (arith, ints)

within_high : (start end cut : ℤ) → (int_le cut start || int_le end cut) ≡ false → cut <ℤ end
within_high start end cut is = grind (arith, ints)

-- cuts of which each is above the one before it and all lie inside a domain
inside_after : (domain : Span) (low limit : ℤ) (cuts : List ℤ) → low <ℤ domain.end → ClimbFrom (low +ℤ pos 1) limit cuts → first_outside domain cuts ≡ None
    → AreInside low cuts domain.end
inside_after domain low limit [] some climb none = some
inside_after domain low limit (cut ∷ cuts) some climb none =
    let found = found_none (λ c. int_le c domain.start || int_le domain.end c) cut cuts none in
    let above = climb.0 in
    (omega (arith, ints), inside_after domain cut limit cuts (within_high domain.start domain.end cut found.0) climb.2 found.1)

pub are_inside : (domain : Span) (low limit : ℤ) (cuts : List ℤ) → domain.start <ℤ domain.end → ClimbFrom low limit cuts → first_outside domain cuts ≡ None
    → AreInside domain.start cuts domain.end
are_inside domain low limit [] some climb none = some
are_inside domain low limit (cut ∷ cuts) some climb none =
    let found = found_none (λ c. int_le c domain.start || int_le domain.end c) cut cuts none in
    (within_low domain.start domain.end cut found.0, inside_after domain cut limit cuts (within_high domain.start domain.end cut found.0) climb.2 found.1)

-- an order of which no number is above the number of cuts names parts
not_above : (count part : ℕ) → nat_lt count part ≡ false → part < suc count
not_above count part is = grind (arith, nat_tests)

pub are_named : (count many : ℕ) (order : List ℕ) → many ≡ suc count → first_unnamed count order ≡ None → AllByRecursion (λ part. part < many) order
are_named count many [] is none = tt
are_named count many (part ∷ order) is none =
    let found = found_none (λ p. nat_lt count p) part order none in
    (subst (λ (n : ℕ). part < n) (sym is) (not_above count part found.0), are_named count many order is found.1)

-- what holds where the option is something
pub for_some : {X : Type 0} (P : X → Type 0) (o : Option X) (x : X) → o ≡ Some x → P x → ForSome o P
for_some P o x is holds = λ y is'. subst P (same_Some x y (sym is ∙ is')) holds

-- as many parts as stretches, of which there is one more than cuts
many_stretches : (start : ℤ) (cuts : List ℤ) (end : ℤ) → length (stretches start cuts end) ≡ suc (length cuts)
many_stretches start [] end = refl
many_stretches start (cut ∷ cuts) end = ap suc (many_stretches (cut -ℤ pos 1) cuts end)

module _ (query : AcceptedParts) (rows : List (List Snapshot)) (steps : List ℕ) where
  stand_many : (place : ℕ) (spans : List Span) (parts : List PartValue) → StandFrom query rows steps place spans parts → length parts ≡ length spans
  stand_many place [] [] stand = refl
  stand_many place [] (part ∷ parts) stand = absurd stand
  stand_many place (s ∷ spans) [] stand = absurd stand
  stand_many place (s ∷ spans) (part ∷ parts) stand = ap suc (stand_many (suc place) spans parts stand.1)

  -- each of its own stretch
  stand_sizes : (place : ℕ) (spans : List Span) (parts : List PartValue) → StandFrom query rows steps place spans parts
      → map (λ part. length (all_on query rows part.stretch)) parts ≡ sizes_on query.core rows spans
  stand_sizes place [] [] stand = refl
  stand_sizes place [] (part ∷ parts) stand = absurd stand
  stand_sizes place (s ∷ spans) [] stand = absurd stand
  stand_sizes place (s ∷ spans) (part ∷ parts) stand =
      let heads : length (all_on query rows part.stretch) ≡ length (all_on query rows s) = ap (λ (span : Span). length (all_on query rows span)) stand.0.stretch_is in
      let tails = stand_sizes (suc place) spans parts stand.1 in
      λ i. heads i ∷ tails i

  module _ (cuts : List ℤ) (parts : List PartValue) (are : AreParts query rows cuts steps parts) where
    pub many_parts : length parts ≡ suc (length cuts)
    many_parts = stand_many 0 (stretches are.domain.start cuts are.domain.end) parts are.stand ∙ many_stretches are.domain.start cuts are.domain.end

-- two functions that are the same on each element
map_each : {X Y : Type 0} (f g : X → Y) (xs : List X) → ((i : ℕ) (x : X) → slice_get xs i ≡ Some x → f x ≡ g x) → map f xs ≡ map g xs
map_each f g [] each = refl
map_each f g (x ∷ xs) each =
    let heads = each 0 x refl in
    let tails = map_each f g xs (λ i y is. each (suc i) y is) in
    λ i. heads i ∷ tails i

-- how many snapshots were taken from each part, once all are finished
pub parts_sizes : (query : AcceptedParts) (rows : List (List Snapshot)) (steps : List ℕ) (cuts : List ℤ) (parts : List PartValue)
    (are : AreParts query rows cuts steps parts) → AllByRecursion (λ (p : PartValue). p.refused ≡ false) parts
    → AllByRecursion (λ (p : PartValue). is_finished p ≡ true) parts
    → map (λ (p : PartValue). length p.taken) parts ≡ sizes_on query.core rows (stretches are.domain.start cuts are.domain.end)
parts_sizes query rows steps cuts parts are granted done =
    map_each (λ (p : PartValue). length p.taken) (λ (p : PartValue). length (all_on query rows p.stretch)) parts
    (λ place part is. finished-taken query rows steps cuts parts are place part is (all-slice_get (λ (p : PartValue). p.refused ≡ false) parts place part granted is)
    (all-slice_get (λ (p : PartValue). is_finished p ≡ true) parts place part done is))
    ∙ stand_sizes query rows steps 0 (stretches are.domain.start cuts are.domain.end) parts are.stand

-- one number more
one_more : {X : Type 0} (f : X → ℕ) (xs : List X) (i n : ℕ) → i < length xs → ForSome (slice_get xs i) (λ x. n ≡ f x)
    → take (suc i) (map f xs) ≡ take i (map f xs) ++ n ∷ []
one_more f [] i n within is = absurd (omega arith)
one_more f (x ∷ xs) zero n within is = ap (λ (m : ℕ). m ∷ []) (sym (is x refl))
one_more f (x ∷ xs) (suc i) n within is = ap (λ (l : List ℕ). f x ∷ l) (one_more f xs i n (omega arith) is)

pub more_sizes : (parts : List PartValue) (i n : ℕ) → i < length parts → ForSome (slice_get parts i) (λ p. n ≡ length p.taken)
    → take (i + 1) (map (λ (p : PartValue). length p.taken) parts) ≡ take i (map (λ (p : PartValue). length p.taken) parts) ++ n ∷ []
more_sizes parts i n within is =
    let next : i + 1 ≡ suc i = omega arith in
    ap (λ (m : ℕ). take m (map (λ (p : PartValue). length p.taken) parts)) next ∙ one_more (λ (p : PartValue). length p.taken) parts i n within is
