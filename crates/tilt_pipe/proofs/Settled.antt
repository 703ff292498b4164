-- Rings that have let go what isn't wanted, and who holds them.
use Rattle.std.specs.List.Sorted.{IsPermutation}
use Rattle.std.proofs.lemmas.List.Sorted.{Contains-permutation, IsPermutation-sym, IsPermutation-swap_remove, length_permutation}
use Rattle.std.proofs.lemmas.List.Elements.{Contains-push_cases}
use Rattle.std.proofs.lemmas.List.{length-set, get_or-take, get_or-set_other}
use Rattle.std.specs.List.{swap_remove}
use Rattle.std.specs.Global.{Vec}
use Rattle.circular_buffer.proofs.Places.{slice_get-set_other, slice_get-set_same, slice_get-append_left, slice_get-some}
use Rattle.std.specs.Vec.{with_item}
use Rattle.tilt_pipe.proofs.Points.{alike-points}
use Rattle.std.proofs.Common.{◌≡◌, ◌≢◌, inl, inr, ◌<◌, ℕ, suc, arith, List, Option, get_or, length, Some, slice_get, refl, sym, ap, ◌∙◌, subst, None, Contains, ◌⊎◌, ◌+◌, ◌++◌, ◌∷◌, [], slice_set, ◌-◌}
use Rattle.std.proofs.lemmas.Bool.{cases_eq}
use Rattle.std.proofs.lemmas.Option.{same_Some, slice_get_read, slice_get_within, get_or_from_slice_get}
use Rattle.tilt_code.specs.References.{IsCode}
use Rattle.tilt_base.proofs.Lists.{Contains-cons_cases}
use Rattle.tilt_pipe.proofs.Covered.{at-contains, contains-at}
use Rattle.tilt_pipe.proofs.Trimming.{IsReleased, alike-turns, alike-holder, alike-long, trimmed-exact}
use Rattle.tilt_pipe.proofs.Turning.{turns-within, turns-long}
use Rattle.tilt_pipe.proofs.Wanting.{gone-less, reader-later, gone-trimmed}
use Rattle.tilt_pipe.specs.Chain.{IsHeldBy, IsSettled, LetsGo, MayLetGo, IsHolder, AreLeft, IsLeft, IsChain, held_in, holder_next, rings_listed}
use Rattle.tilt_pipe.specs.Positions.{AreRings, RingsParts}
use Rattle.tilt_pipe.specs.Sources.{IsReaderOf}
use Rattle.tilt_pipe.specs.Trimmed.{HasLetGo, wanted_at, IsNotLater}
use Rattle.tilt_pipe.specs.declared.chain.Chain.{Chain}
use Rattle.tilt_pipe.specs.declared.chain.Reader.{Reader}

-- there are as many holders as loops
pub holders-within : (c : Chain) (k : ℕ) → MayLetGo c → k < length c.rings.rings → k < length c.holders.items
holders-within c k may there = omega (arith, may.holders.many, may.turns.many, turns-within c.rings c.turns.items k may.turns there)

-- the holder of a ring, as it is found
pub record IsHolding (c : Chain) (k : ℕ) (reader : Reader) : Type 0 where
  pub is : slice_get c.holders.items k ≡ Some (Some reader)
  pub own : IsReaderOf (length c.rings.inputs) c.rings.code.loops k reader

pub found-holder : (c : Chain) (k : ℕ) (x : Option Reader) (reader : Reader) → MayLetGo c → k < length c.rings.rings
    → x ≡ get_or c.holders.items k x → x ≡ Some reader → IsHolding c k reader
found-holder c k x reader may there at is =
    let found = slice_get_read c.holders.items (length c.holders.items) k x refl (holders-within c k may there) at ∙ ap Some is in
    record { is = found; own = may.holders.among k reader found }

-- if its holder reads the first snapshot, a ring is settled
pub held-settled : (c : Chain) (k : ℕ) (x : Option Reader) → slice_get c.holders.items k ≡ Some x → IsHeldBy c.rings k x → IsSettled c k
held-settled c k x at held y is = subst (IsHeldBy c.rings k) (same_Some x y (sym at ∙ is)) held

-- also if it holds none
pub none-settled : (c : Chain) (k : ℕ) → HasLetGo c.rings k None → IsSettled c k
none-settled c k gone x at = gone-less c.rings k (holder_next c.rings x) None tt gone

-- and then all is let go of it that isn't wanted
settled-gone : (c : Chain) (k : ℕ) → IsCode c.rings.code → AreRings c.rings → MayLetGo c → k < length c.rings.rings → IsSettled c k
    → HasLetGo c.rings k (wanted_at c.rings k)
settled-gone c k code are may there settled =
    let x = slice_get-some c.holders.items k (holders-within c k may there) in
    gone-less c.rings k (wanted_at c.rings k) (holder_next c.rings x.0) (by x.0 x.1) (settled x.0 x.1)
  where
    by : (x : Option Reader) → slice_get c.holders.items k ≡ Some x → IsNotLater (wanted_at c.rings k) (holder_next c.rings x)
    by None at = tt
    by (Some reader) at =
        reader-later c.rings k reader code are (may.holders.among k reader at)

-- if nothing goes
pub none-goes : (c : Chain) (k : ℕ) → AreRings c.rings → MayLetGo c → LetsGo c c k
none-goes c k are may = record {
  may = may;
  turns = refl;
  rings = are;
  alike = record { code = refl; inputs = refl; starts = refl };
  more = λ j tick gone. gone;
  others = λ j other. refl;
  listed = λ j n x at. at;
}

-- if the first snapshot of one ring goes
pub one-goes : (c : Chain) (k : ℕ) (rings : RingsParts) → MayLetGo c → IsReleased c.rings rings k
    → LetsGo c (record { rings = rings; turns = c.turns; points = c.points; holders = c.holders; held = c.held }) k
one-goes c k rings may after = record {
  may = record {
    turns = alike-turns c.rings rings c.turns.items after.alike may.turns;
    points = alike-points c.rings rings c.points.items after.alike may.points;
    holders = rw (after.alike.code, after.alike.inputs) may.holders;
    lists = may.lists;
    wanted = after.wanted;
  };
  turns = refl;
  rings = after.rings;
  alike = after.alike;
  more = after.more;
  others = λ j other. refl;
  listed = λ j n x at. at;
}

-- there are as many lists as loops
pub list-within : (c : Chain) (k : ℕ) → MayLetGo c → k < length c.rings.rings → k < length c.held.items
list-within c k may there = omega (arith, may.lists.many, holders-within c k may there)

pub reader-within : (c : Chain) (k : ℕ) (reader : Reader) → MayLetGo c → IsHolder c k reader → reader.place < length c.held.items
reader-within c k reader may holder =
    omega (arith, may.lists.many, may.holders.many, slice_get_within c.rings.code.loops reader.place holder.own.loop holder.own.is)

-- a list that is looked up
pub list-read : (held : List (Vec ℕ)) (place : ℕ) (list : Vec ℕ) → place < length held → list ≡ get_or held place list → held_in held place ≡ list.items
list-read held place list within is = ap rings_listed (slice_get_read held (length held) place list refl within is)

pub ring-read : (c : Chain) (place number ring : ℕ) (list : Vec ℕ) → MayLetGo c → place < length c.rings.rings
    → number < length (held_in c.held.items place) → list ≡ get_or c.held.items place list → ring ≡ get_or list.items number ring
    → slice_get (held_in c.held.items place) number ≡ Some ring
ring-read c place number ring list may there below at is =
    let same = list-read c.held.items place list (list-within c place may there) at in
    ap (λ (xs : List ℕ). slice_get xs number) same
    ∙ slice_get_read list.items (length list.items) number ring refl (omega (arith, below, ap length same)) is

-- an element of one is a ring
pub listed-there : (c : Chain) (place n k : ℕ) → MayLetGo c → slice_get (held_in c.held.items place) n ≡ Some k → k < length c.rings.rings
listed-there c place n k may at =
    let long = turns-long c.rings c.turns.items may.turns in
    omega (arith, long.0, long.1, may.holders.many, may.turns.many, may.lists.within place k (contains-at (held_in c.held.items place) n k at))

-- what is true of each list, where another one took the place of one
pub held-same : (held : List (Vec ℕ)) (place : ℕ) (new : Vec ℕ) → place < length held → held_in (slice_set held place new) place ≡ new.items
held-same held place new within = ap rings_listed (slice_get-set_same held place new within)

each-list : (held : List (Vec ℕ)) (place j : ℕ) (new : Vec ℕ) (Is : ℕ → List ℕ → Type 0) → place < length held → Is place new.items
    → Is j (held_in held j) → Is j (held_in (slice_set held place new) j)
each-list held place j new Is within own is =
    elim (cases_eq j place) as (λ _. Is j (held_in (slice_set held place new) j)) [
      | inl same ↦ subst (λ (n : ℕ). Is n (held_in (slice_set held place new) n)) (sym same) (subst (Is place) (sym (held-same held place new within)) own)
      | inr other ↦ subst (Is j) (sym (ap rings_listed (slice_get-set_other held place j new other))) is
    ]

-- if a reader holds a ring from then on, which is then in the list of its loop
module _ (c : Chain) (k : ℕ) (reader : Reader) (new : Vec ℕ) (are : AreRings c.rings) (may : MayLetGo c)
    (there : k < length c.rings.rings) (holder : IsHolder c k reader) (among : Contains new.items k)
    (added : (new.items ≡ held_in c.held.items reader.place) ⊎ (new.items ≡ held_in c.held.items reader.place ++ k ∷ [])) where
  abbrev pub named : Chain
  named = record {
    rings = c.rings;
    turns = c.turns;
    points = c.points;
    holders = with_item c.holders k (Some reader);
    held = with_item c.held reader.place new;
  }

  in_held : reader.place < length c.held.items
  in_held = reader-within c k reader may holder

  kept : (j n x : ℕ) → slice_get (held_in c.held.items j) n ≡ Some x → slice_get (held_in named.held.items j) n ≡ Some x
  kept j n x =
      let old = held_in c.held.items reader.place in
      each-list c.held.items reader.place j new (λ i list. slice_get (held_in c.held.items i) n ≡ Some x → slice_get list n ≡ Some x) in_held (λ at.
      elim added as (λ _. slice_get new.items n ≡ Some x) [
        | inl is ↦ ap (λ (list : List ℕ). slice_get list n) is ∙ at
        | inr is ↦ ap (λ (list : List ℕ). slice_get list n) is ∙ slice_get-append_left old (k ∷ []) n (slice_get_within old n x at) ∙ at
      ]) (λ at. at)

  own-within : (x : ℕ) → Contains new.items x → x < length c.holders.items
  own-within x in_list = elim added as (λ _. x < length c.holders.items) [
    | inl is ↦ may.lists.within reader.place x (subst (λ (list : List ℕ). Contains list x) is in_list)
    | inr is ↦ elim (Contains-push_cases (held_in c.held.items reader.place) k x (subst (λ (list : List ℕ). Contains list x) is in_list)) as
        (λ _. x < length c.holders.items) [
          | inl old ↦ may.lists.within reader.place x old
          | inr same ↦ omega (arith, same, holders-within c k may there)
        ]
  ]

  -- who holds a ring then is that one, or it was it before
  named-at : (x : ℕ) (y : Reader) → slice_get named.holders.items x ≡ Some (Some y)
      → ((x ≡ k) × (reader ≡ y)) ⊎ (slice_get c.holders.items x ≡ Some (Some y))
  named-at x y at =
      elim (cases_eq x k) as (λ _. ((x ≡ k) × (reader ≡ y)) ⊎ (slice_get c.holders.items x ≡ Some (Some y))) [
        | inl same ↦ inl (
          same,
          same_Some reader y (same_Some (Some reader) (Some y)
              (sym (slice_get-set_same c.holders.items k (Some reader) (holders-within c k may there)) ∙ ap (slice_get named.holders.items) (sym same) ∙ at)),
        )
        | inr other ↦ inr (sym (slice_get-set_other c.holders.items k x (Some reader) other) ∙ at)
      ]

  named-among : (x : ℕ) (y : Reader) → slice_get named.holders.items x ≡ Some (Some y) → IsReaderOf (length c.rings.inputs) c.rings.code.loops x y
  named-among x y at = elim (named-at x y at) as (λ _. IsReaderOf (length c.rings.inputs) c.rings.code.loops x y) [
    | inl is ↦ subst (λ (n : ℕ). IsReaderOf (length c.rings.inputs) c.rings.code.loops n y) (sym is.0)
        (subst (IsReaderOf (length c.rings.inputs) c.rings.code.loops k) is.1 holder.own)
    | inr was ↦ may.holders.among x y was
  ]

  named-listed : (x : ℕ) (y : Reader) → slice_get named.holders.items x ≡ Some (Some y) → Contains (held_in named.held.items y.place) x
  named-listed x y at = elim (named-at x y at) as (λ _. Contains (held_in named.held.items y.place) x) [
    | inl is ↦ subst (λ (n : ℕ). Contains (held_in named.held.items y.place) n) (sym is.0)
        (subst (λ (z : Reader). Contains (held_in named.held.items z.place) k) is.1
        (subst (λ (list : List ℕ). Contains list k) (sym (held-same c.held.items reader.place new in_held)) among))
    | inr was ↦ (
        let it = at-contains (held_in c.held.items y.place) x (may.lists.listed x y was) in
        contains-at (held_in named.held.items y.place) it.0 x (kept y.place it.0 x it.1)
        )
  ]

  pub named-goes : LetsGo c named k
  named-goes =
      let long = length-set c.holders.items k (Some reader) in
      record {
        may = record {
          turns = may.turns;
          points = may.points;
          holders = record { many = long ∙ may.holders.many; among = named-among };
          lists = record {
            many = length-set c.held.items reader.place new ∙ may.lists.many ∙ sym long;
            listed = named-listed;
            within = λ j x. each-list c.held.items reader.place j new (λ _ list. Contains list x → x < length named.holders.items) in_held
                (λ in_list. omega (arith, long, own-within x in_list)) (λ in_list. omega (arith, long, may.lists.within j x in_list));
          };
          wanted = may.wanted;
        };
        turns = refl;
        rings = are;
        alike = record { code = refl; inputs = refl; starts = refl };
        more = λ j tick gone. gone;
        others = λ j other. slice_get-set_other c.holders.items k j (Some reader) other;
        listed = kept;
      }

  pub named-settled : IsSettled named k
  named-settled =
      held-settled named k (Some reader)
      (slice_get-set_same c.holders.items k (Some reader) (holders-within c k may there))
      holder.holds

-- what is settled stays so if another ring lets go
pub settled-too : (c d : Chain) (place k : ℕ) → LetsGo c d place → IsSettled d place → IsSettled c k → IsSettled d k
settled-too c d place k e settled old =
    elim (cases_eq k place) as (λ _. IsSettled d k) [
      | inl same ↦ subst (IsSettled d) (sym same) settled
      | inr other ↦ λ x at.
          subst (HasLetGo d.rings k) (sym (alike-holder c.rings d.rings x e.alike))
          (e.more k (holder_next c.rings x) (old x (sym (e.others k other) ∙ at)))
    ]

-- one ring less is left if the last one in the list lets go
pub left-less : (c d : Chain) (place number ring : ℕ) → AreLeft c place (number + 1) → slice_get (held_in c.held.items place) number ≡ Some ring
    → LetsGo c d ring → IsSettled d ring → AreLeft d place number
left-less c d place number ring are at e settled =
    let long = alike-long c.rings d.rings e.alike in
    record {
      may = e.may;
      rings = e.rings;
      there = omega (arith, long, are.there);
      many = omega (arith, slice_get_within (held_in d.held.items place) number ring (e.listed place number ring at));
      left = λ k below. elim (are.left k (omega (arith, long, below))) as (λ _. IsLeft d place number k) [
        | inl was ↦ inl (settled-too c d ring k e settled was)
        | inr listed ↦ elim (cases_eq listed.0 number) as (λ _. IsLeft d place number k) [
          | inl same ↦ inl (subst (IsSettled d) (same_Some ring k (sym at ∙ ap (slice_get (held_in c.held.items place)) (sym same) ∙ listed.2)) settled)
          | inr other ↦ inr (listed.0, omega (arith, listed.1, other), e.listed place listed.0 k listed.2)
        ]
      ];
    }

-- and if it is taken off, which the loop doesn't hold
module _ (c : Chain) (place number ring : ℕ) (new : Vec ℕ) (are : AreLeft c place number) (at : slice_get (held_in c.held.items place) number ≡ Some ring)
    (is : new.items ≡ swap_remove (held_in c.held.items place) number ring)
    (other : (reader : Reader) → slice_get c.holders.items ring ≡ Some (Some reader) → reader.place ≢ place) where
  abbrev pub shorter : Chain
  shorter = record { rings = c.rings; turns = c.turns; points = c.points; holders = c.holders; held = with_item c.held place new }

  below : number < length (held_in c.held.items place)
  below = slice_get_within (held_in c.held.items place) number ring at

  within : place < length c.held.items
  within = list-within c place are.may are.there

  moved : IsPermutation (held_in c.held.items place) (ring ∷ new.items)
  moved =
      subst (λ (xs : List ℕ). IsPermutation (held_in c.held.items place) (ring ∷ xs)) (sym is)
      (IsPermutation-swap_remove (held_in c.held.items place) number ring below
      (sym (get_or_from_slice_get (held_in c.held.items place) number ring ring at)))

  fewer : length new.items + 1 ≡ length (held_in c.held.items place)
  fewer = omega (arith, length_permutation (held_in c.held.items place) (ring ∷ new.items) moved)

  still : (n x : ℕ) → n < number → slice_get (held_in c.held.items place) n ≡ Some x → slice_get new.items n ≡ Some x
  still n x few found =
      let xs = held_in c.held.items place in
      slice_get_read new.items (length new.items) n x refl (omega (arith, below, fewer, few))
      (sym (ap (λ (list : List ℕ). get_or list n x) is ∙ get_or-take (length xs - 1) _ n x (omega (arith, below, few))
      ∙ get_or-set_other xs number n _ x (omega (arith, few)) ∙ get_or_from_slice_get xs n x x found))

  -- those that it holds are in the list still
  held-still : (x : ℕ) (reader : Reader) → slice_get c.holders.items x ≡ Some (Some reader) → reader.place ≡ place → Contains new.items x
  held-still x reader found own =
      elim (Contains-cons_cases ring new.items x (Contains-permutation (held_in c.held.items place) (ring ∷ new.items) x moved
      (subst (λ (n : ℕ). Contains (held_in c.held.items n) x) own (are.may.lists.listed x reader found)))) as (λ _. Contains new.items x) [
        | inl gone ↦ absurd (other reader (ap (slice_get c.holders.items) gone ∙ found) own)
        | inr among ↦ among
      ]

  old-within : (x : ℕ) → Contains new.items x → x < length c.holders.items
  old-within x among =
      are.may.lists.within place x (Contains-permutation (ring ∷ new.items) (held_in c.held.items place) x
      (IsPermutation-sym (held_in c.held.items place) (ring ∷ new.items) moved) (suc among.0, omega (arith, among.1), among.2))

  pub left-shorter : AreLeft shorter place number
  left-shorter = record {
    may = record {
      turns = are.may.turns;
      points = are.may.points;
      holders = are.may.holders;
      lists = record {
        many = length-set c.held.items place new ∙ are.may.lists.many;
        listed = λ x reader found.
            each-list c.held.items place reader.place new (λ j list. reader.place ≡ j → Contains list x) within (held-still x reader found)
            (λ _. are.may.lists.listed x reader found) refl;
        within = λ j x.
            each-list c.held.items place j new (λ _ list. Contains list x → x < length c.holders.items) within (old-within x) (are.may.lists.within j x);
      };
      wanted = are.may.wanted;
    };
    rings = are.rings;
    there = are.there;
    many = omega (arith, ap length (held-same c.held.items place new within), fewer, below);
    left = λ k few. elim (are.left k few) as (λ _. IsLeft shorter place number k) [
      | inl was ↦ inl was
      | inr found ↦ inr (
        found.0,
        found.1,
        ap (λ (list : List ℕ). slice_get list found.0) (held-same c.held.items place new within) ∙ still found.0 k found.1 found.2,
      )
    ];
  }

-- if none is left, all are settled
pub left-none : (c : Chain) (place : ℕ) → IsCode c.rings.code → AreLeft c place 0 → IsChain c
left-none c place code are =
    let settled : (k : ℕ) → k < length c.rings.rings → IsSettled c k = λ k below.
    elim (are.left k below) as (λ _. IsSettled c k) [ inl is ↦ is | inr listed ↦ absurd (omega (arith, listed.1)) ] in
    let long = turns-long c.rings c.turns.items are.may.turns in
    record {
      turns = are.may.turns;
      points = are.may.points;
      holders = are.may.holders;
      lists = are.may.lists;
      held = λ k x at. (settled k (omega (arith, long.0, long.1, are.may.holders.many, are.may.turns.many, slice_get_within c.holders.items k x at))) x at;
      exact = trimmed-exact c.rings are.rings (λ k w r of at.
          let there = slice_get_within c.rings.rings k r at in
          gone-trimmed c.rings k (are.may.wanted k) (settled-gone c k code are.rings are.may there (settled k there)) w r of at);
    }
