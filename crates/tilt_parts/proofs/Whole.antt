-- What was taken from parts that are finished, joined, are the snapshots on the whole stretch; and how they are joined one after another.
use Rattle.std.proofs.Common.{ℕ, ◌<◌, ◌≤◌, ◌+◌, length, get_or, drop, ◌≡◌, ◌<ℤ◌, ◌≤ℤ◌, ◌-ℤ◌, ℤ, pos, neg_ℤ, List, [], ◌∷◌, sym, ap, ◌∙◌, subst, arith}
use Rattle.std.proofs.lemmas.Int.{ints}
use Rattle.std.proofs.lemmas.List.{drop_all}
use Rattle.tilt_base.proofs.Lists.{drop-at}
use Rattle.tilt_base.specs.declared.limits.TheConstants.{WIDE}
use Rattle.tilt_parts.specs.Joined.{AreWhole, IsMidway}
use Rattle.tilt_parts.specs.Part.{PartValue}
use Rattle.tilt_parts.specs.Parts.{AreInside, joined_after, joint, stretches}
use Rattle.tilt_stream.proofs.Filling.{Fill-AreSnapshots, snapshots-Fill}
use Rattle.tilt_stream.proofs.Joined.{snapshots-parted}
use Rattle.tilt_stream.specs.Agreement.{ChangesOnlyAtMarks}
use Rattle.tilt_stream.specs.Snap.{AreSnapshots, Snapshot}
use Rattle.tilt_stream.specs.Snapshots.{snapshots}
use Rattle.tilt_stream.specs.Stream.{Stream}

pub cuts-up : (start : ℤ) (cuts : List ℤ) (end : ℤ) → AreInside start cuts end → start <ℤ end
cuts-up start [] end inside = inside
cuts-up start (cut ∷ cuts) end inside =
    let more = cuts-up cut cuts end inside.1 in
    let first = inside.0 in
    omega (arith, ints)

module _ (x : Stream) (law : ChangesOnlyAtMarks x) where
  one_joint : (lo mid hi : ℤ) (taken : List Snapshot) → lo <ℤ mid → mid ≤ℤ hi → taken ≡ snapshots x (mid -ℤ pos 1) hi
      → joint (snapshots x lo mid) taken ≡ snapshots x lo hi
  one_joint lo mid hi taken some on is = ap (λ (l : List Snapshot). joint (snapshots x lo mid) l) is ∙ sym (snapshots-parted x law lo mid hi some on)

  -- after the snapshots up to a cut
  pub joined-from_cut : (lo mid : ℤ) (cuts : List ℤ) (hi : ℤ) (parts : List PartValue) → lo <ℤ mid → AreInside mid cuts hi
      → AreWhole x (stretches (mid -ℤ pos 1) cuts hi) parts → joined_after (snapshots x lo mid) parts ≡ snapshots x lo hi
  joined-from_cut lo mid [] hi [] some inside whole = absurd whole
  joined-from_cut lo mid [] hi (part ∷ []) some inside whole = one_joint lo mid hi part.taken some (omega (arith, ints)) whole.0
  joined-from_cut lo mid [] hi (part ∷ next ∷ parts) some inside whole = absurd whole.1
  joined-from_cut lo mid (cut ∷ cuts) hi [] some inside whole = absurd whole
  joined-from_cut lo mid (cut ∷ cuts) hi (part ∷ parts) some inside whole =
      let up = inside.0 in
      ap (λ (l : List Snapshot). joined_after l parts) (one_joint lo mid cut part.taken some (omega (arith, ints)) whole.0)
      ∙ joined-from_cut lo cut cuts hi parts (omega (arith, ints)) inside.1 whole.1

  -- from the first part on
  pub joined-whole : (lo : ℤ) (cuts : List ℤ) (hi : ℤ) (parts : List PartValue) → AreInside lo cuts hi → AreWhole x (stretches lo cuts hi) parts
      → joined_after [] parts ≡ snapshots x lo hi
  joined-whole lo [] hi [] inside whole = absurd whole
  joined-whole lo [] hi (part ∷ []) inside whole = whole.0
  joined-whole lo [] hi (part ∷ next ∷ parts) inside whole = absurd whole.1
  joined-whole lo (cut ∷ cuts) hi [] inside whole = absurd whole
  joined-whole lo (cut ∷ cuts) hi (part ∷ parts) inside whole =
      ap (λ (l : List Snapshot). joined_after l parts) whole.0 ∙ joined-from_cut lo cut cuts hi parts inside.0 inside.1 whole.1

some-whole : (x : Stream) (start : ℤ) (cuts : List ℤ) (hi : ℤ) → AreWhole x (stretches start cuts hi) [] → ⊥
some-whole x start [] hi whole = whole
some-whole x start (cut ∷ cuts) hi whole = whole

-- what the first part gave
pub midway-first : (x : Stream) (law : ChangesOnlyAtMarks x) (lo : ℤ) (cuts : List ℤ) (hi : ℤ) (first : PartValue) (later : List PartValue) → neg_ℤ WIDE ≤ℤ lo → hi ≤ℤ WIDE
    → AreInside lo cuts hi → AreWhole x (stretches lo cuts hi) (first ∷ later) → IsMidway x lo hi first.taken later
midway-first x law lo [] hi first [] low high inside whole = record { law = law; low = low; high = high; up = (inside, whole.0) }
midway-first x law lo [] hi first (part ∷ later) low high inside whole = absurd whole.1
midway-first x law lo (cut ∷ cuts) hi first [] low high inside whole = absurd (some-whole x (cut -ℤ pos 1) cuts hi whole.1)
midway-first x law lo (cut ∷ cuts) hi first (part ∷ later) low high inside whole = record {
  law = law;
  low = low;
  high = high;
  up = record { cut = cut; later = cuts; some = inside.0; inside = inside.1; list_is = whole.0; whole = whole.1 };
}

module _ (x : Stream) (lo hi : ℤ) where
  next-up : (law : ChangesOnlyAtMarks x) (list : List Snapshot) (part : PartValue) (parts : List PartValue) (cut : ℤ) (later : List ℤ) → neg_ℤ WIDE ≤ℤ lo → hi ≤ℤ WIDE → lo <ℤ cut
      → AreInside cut later hi → list ≡ snapshots x lo cut → AreWhole x (stretches (cut -ℤ pos 1) later hi) (part ∷ parts) → IsMidway x lo hi (joint list part.taken) parts
  next-up law list part [] cut [] low high some inside list_is whole = record {
    law = law;
    low = low;
    high = high;
    up = (omega (arith, ints), ap (λ (l : List Snapshot). joint l part.taken) list_is ∙ one_joint x law lo cut hi part.taken some (omega (arith, ints)) whole.0);
  }
  next-up law list part (next ∷ parts) cut [] low high some inside list_is whole = absurd whole.1
  next-up law list part [] cut (mid ∷ later) low high some inside list_is whole = absurd (some-whole x (mid -ℤ pos 1) later hi whole.1)
  next-up law list part (next ∷ parts) cut (mid ∷ later) low high some inside list_is whole =
      let up = inside.0 in
      record {
        law = law;
        low = low;
        high = high;
        up = record {
          cut = mid;
          later = later;
          some = omega (arith, ints);
          inside = inside.1;
          list_is = ap (λ (l : List Snapshot). joint l part.taken) list_is ∙ one_joint x law lo cut mid part.taken some (omega (arith, ints)) whole.0;
          whole = whole.1;
        };
      }

  -- what one more part gives
  pub midway-next : (list : List Snapshot) (part : PartValue) (parts : List PartValue) → IsMidway x lo hi list (part ∷ parts) → IsMidway x lo hi (joint list part.taken) parts
  midway-next list part parts is = next-up is.law list part parts is.up.cut is.up.later is.low is.high is.up.some is.up.inside is.up.list_is is.up.whole

  -- it is a list of snapshots
  pub midway-list : (list : List Snapshot) (parts : List PartValue) → IsMidway x lo hi list parts → AreSnapshots list
  midway-list list [] is = subst AreSnapshots (sym is.up.1) (Fill-AreSnapshots lo hi (snapshots x lo hi) is.low is.high (snapshots-Fill x lo hi is.up.0))
  midway-list list (part ∷ parts) is =
      let below = cuts-up is.up.cut is.up.later hi is.up.inside in
      let high = is.high in
      subst AreSnapshots (sym is.up.list_is)
      (Fill-AreSnapshots lo is.up.cut (snapshots x lo is.up.cut) is.low (omega (arith, ints)) (snapshots-Fill x lo is.up.cut is.up.some))

  pub midway-step : (list : List Snapshot) (later : List PartValue) (i : ℕ) (part : PartValue) → i < length later → part ≡ get_or later i part
      → IsMidway x lo hi list (drop i later) → IsMidway x lo hi (joint list part.taken) (drop (i + 1) later)
  midway-step list later i part within at is =
      midway-next list part (drop (i + 1) later)
      (subst (λ (l : List PartValue). IsMidway x lo hi list l) (drop-at later part i within at) is)

  pub midway-lists : (list : List Snapshot) (later : List PartValue) (i : ℕ) (part : PartValue) → i < length later → part ≡ get_or later i part
      → IsMidway x lo hi list (drop i later) → AreSnapshots (joint list part.taken)
  midway-lists list later i part within at is =
      midway-list (joint list part.taken) (drop (i + 1) later) (midway-step list later i part within at is)

  -- and at the end it has all of them
  pub midway-end : (list : List Snapshot) (later : List PartValue) (i : ℕ) → length later ≤ i → IsMidway x lo hi list (drop i later)
      → list ≡ snapshots x lo hi
  midway-end list later i past is =
      let all = subst (λ (l : List PartValue). IsMidway x lo hi list l) (drop_all i later past) is in
      all.up.1
