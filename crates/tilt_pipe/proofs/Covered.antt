-- The earlier loops that a loop reads, as they are gathered and as they are checked: they say what its next turn waits for.
use Rattle.std.proofs.Common.{◌≡◌, inl, inr, ℕ, suc, ◌+◌, ◌≤◌, ◌<◌, ℤ, ◌+ℤ◌, ◌<ℤ◌, ◌≤ℤ◌, ◌==◌, ◌||◌, Bool, true, false}
use Rattle.std.proofs.Common.{List, [], ◌∷◌, ◌++◌, length, slice_get, slice_set, Some, Contains, refl, sym, ap, ◌∙◌, subst, arith}
use Rattle.std.proofs.lemmas.Bool.{cases_eq}
use Rattle.std.proofs.lemmas.Int.{ints, clamps, by_lt_z}
use Rattle.std.proofs.lemmas.List.Elements.{Contains-append_left, Contains-push}
use Rattle.std.proofs.lemmas.Option.{get_or_from_slice_get, same_Some, slice_get_read, slice_get_within}
use Rattle.circular_buffer.proofs.Places.{slice_get-set_other, slice_get-set_same}
use Rattle.std.specs.Int.{int_max, int_min}
use Rattle.std.specs.List.{AllByRecursion}
use Rattle.tilt_base.proofs.Lists.{Contains-cons_cases, all-each, all-push, all-slice_get}
use Rattle.tilt_turn.proofs.Stepwise.{all-set}
use Rattle.tilt_code.specs.References.{IsCode}
use Rattle.tilt_pipe.proofs.Nears.{loop-reads}
use Rattle.tilt_pipe.proofs.Telling.{told-one}
use Rattle.tilt_pipe.proofs.Works.{work-is}
use Rattle.tilt_pipe.specs.Chain.{AreTold, IsBehind, IsLate, IsNearSource, IsReached, IsTold}
use Rattle.tilt_pipe.specs.Made.{Work, reads_buffer}
use Rattle.tilt_pipe.specs.Positions.{AreRings, RingsParts, start_at, works_in}
use Rattle.tilt_pipe.specs.Reads.{body_reads, turn_point}
use Rattle.tilt_pipe.specs.Sources.{AreSources, IsCovered, IsRead, IsSource}
use Rattle.tilt_pipe.specs.declared.read.Read.{Read}
use Rattle.tilt_pipe.specs.declared.sources.Source.{Source}

-- what is at a place is in the list
pub contains-at : {X : Type 0} (xs : List X) (k : ℕ) (x : X) → slice_get xs k ≡ Some x → Contains xs x
contains-at xs k x is = (k, slice_get_within xs k x is, get_or_from_slice_get xs k x x is)

-- what is true of the first ones, as many as that, and of the next one
pub each-more : {X : Type 0} (xs : List X) (count : ℕ) (x : X) (Is : X → Type 0) → ((n : ℕ) (y : X) → n < count → slice_get xs n ≡ Some y → Is y)
    → slice_get xs count ≡ Some x → Is x → (n : ℕ) (y : X) → n < count + 1 → slice_get xs n ≡ Some y → Is y
each-more xs count x Is each at is n y below found =
    elim (cases_eq n count) as (λ _. Is y) [
      | inl same ↦ subst Is (same_Some x y (sym at ∙ ap (slice_get xs) (sym same) ∙ found)) is
      | inr other ↦ each n y (omega (arith, below, other)) found
    ]

pub at-contains : {X : Type 0} (xs : List X) (x : X) → Contains xs x → (k : ℕ) × (slice_get xs k ≡ Some x)
at-contains xs x (k, within, is) = (k, slice_get_read xs (length xs) k x refl within (sym is))

-- with one read more the others are still reads, and a source is still one
read-later : (reads : List Read) (r : Read) (buffer : ℕ) (x : Read) → IsRead reads buffer x → IsRead (r ∷ reads) buffer x
read-later reads r buffer x it = let among = it.among in record { among = (suc among.0, omega arith, among.2); of = it.of }

each-later : (inputs : ℕ) (reads : List Read) (r : Read) (sources : List Source) → AreSources inputs reads sources
    → AllByRecursion (IsSource inputs (r ∷ reads)) sources
each-later inputs reads r sources of =
    all-each (IsSource inputs (r ∷ reads)) sources (λ i s at.
    let it = all-slice_get (IsSource inputs reads) sources i s of.each at in
    record {
      first = (it.first.0, read-later reads r (inputs + s.place) it.first.0 it.first.1, it.first.2);
      last = (it.last.0, read-later reads r (inputs + s.place) it.last.0 it.last.1, it.last.2);
    })

sources-more : (inputs : ℕ) (reads : List Read) (r : Read) (old new : List Source) → AreSources inputs reads old
    → AllByRecursion (IsSource inputs (r ∷ reads)) new → ((x : Read) → IsCovered inputs old x → IsCovered inputs new x)
    → (inputs ≤ r.buffer → IsCovered inputs new r) → AreSources inputs (r ∷ reads) new
sources-more inputs reads r old new of each kept own = record {
  each = each;
  all = λ x among some.
      elim (Contains-cons_cases r reads x among) as (λ _. IsCovered inputs new x) [
        | inl same ↦ subst (IsCovered inputs new) same (own (subst (λ (y : Read). inputs ≤ y.buffer) (sym same) some))
        | inr rest ↦ kept x (of.all x rest some)
      ];
}

-- an input is read
pub sources-input : (inputs : ℕ) (reads : List Read) (r : Read) (sources : List Source) → r.buffer < inputs → AreSources inputs reads sources
    → AreSources inputs (r ∷ reads) sources
sources-input inputs reads r sources below of =
    sources-more inputs reads r sources sources of (each-later inputs reads r sources of) (λ x covered. covered) (λ some. absurd (omega arith))

-- a source after the others
pub sources-push : (inputs place : ℕ) (reads : List Read) (r : Read) (old : List Source) → r.buffer ≡ inputs + place → AreSources inputs reads old
    → AreSources inputs (r ∷ reads) (old ++ record { place = place; first = r.first; last = r.last } ∷ [])
sources-push inputs place reads r old is of =
    let s : Source = record { place = place; first = r.first; last = r.last } in
    let here : IsRead (r ∷ reads) (inputs + place) r = record { among = (0, omega arith, refl); of = is } in
    sources-more inputs reads r old (old ++ s ∷ []) of
    (all-push (IsSource inputs (r ∷ reads)) old s (each-later inputs reads r old of) (record { first = (r, here, refl); last = (r, here, refl) }))
    (λ x covered.
    record {
      source = covered.source;
      among = Contains-append_left old (s ∷ []) covered.source covered.among;
      of = covered.of;
      first = covered.first;
      last = covered.last;
    }) (λ some. record { source = s; among = Contains-push old s; of = is; first = omega (arith, ints); last = omega (arith, ints) })

-- a source with one read more
abbrev pub widened : Source → Read → Source
widened s r = record { place = s.place; first = int_min s.first r.first; last = int_max s.last r.last }

pub sources-set : (inputs : ℕ) (reads : List Read) (r : Read) (old : List Source) (n : ℕ) (s : Source) → slice_get old n ≡ Some s
    → r.buffer ≡ inputs + s.place → AreSources inputs reads old → AreSources inputs (r ∷ reads) (slice_set old n (widened s r))
sources-set inputs reads r old n s at is of =
    let new = widened s r in
    let within = slice_get_within old n s at in
    let there = contains-at (slice_set old n new) n new (slice_get-set_same old n new within) in
    let here : IsRead (r ∷ reads) (inputs + s.place) r = record { among = (0, omega arith, refl); of = is } in
    let each = each-later inputs reads r old of in
    let own = all-slice_get (IsSource inputs (r ∷ reads)) old n s each at in
    sources-more inputs reads r old (slice_set old n new) of (all-set (IsSource inputs (r ∷ reads)) old n new each (record {
      first = by_lt_z s.first r.first
          (λ below. (own.first.0, own.first.1, omega (arith, ints, clamps))) (λ above. (r, here, omega (arith, ints, clamps)));
      last = by_lt_z s.last r.last
          (λ below. (r, here, omega (arith, ints, clamps))) (λ above. (own.last.0, own.last.1, omega (arith, ints, clamps)));
    })) (λ x covered.
    let it = at-contains old covered.source covered.among in
    elim (cases_eq it.0 n) as (λ _. IsCovered inputs (slice_set old n new) x) [
      | inl same ↦ (
          let is_s : covered.source ≡ s = same_Some covered.source s (sym it.1 ∙ ap (slice_get old) same ∙ at) in
          let first : s.first ≤ℤ x.first = subst (λ (y : Source). y.first ≤ℤ x.first) is_s covered.first in
          let last : x.last ≤ℤ s.last = subst (λ (y : Source). x.last ≤ℤ y.last) is_s covered.last in
          record {
            source = new;
            among = there;
            of = covered.of ∙ ap (λ (y : Source). inputs + y.place) is_s;
            first = omega (arith, ints, clamps);
            last = omega (arith, ints, clamps);
          }
          )
      | inr other ↦ record {
        source = covered.source;
        among = contains-at (slice_set old n new) it.0 covered.source (slice_get-set_other old n it.0 new other ∙ it.1);
        of = covered.of;
        first = covered.first;
        last = covered.last;
      }
    ]) (λ some. record { source = new; among = there; of = is; first = omega (arith, ints, clamps); last = omega (arith, ints, clamps) })

-- a buffer that one of some reads is of
pub one-read : (buffer : ℕ) (reads : List Read) → reads_buffer buffer reads ≡ true → (r : Read) × IsRead reads buffer r
one-read buffer [] is = absurd (cc is)
one-read buffer (x ∷ reads) is = by (x.buffer == buffer) refl is (one-read buffer reads)
  where
    by : (test : Bool) → (x.buffer == buffer) ≡ test → (test || reads_buffer buffer reads) ≡ true
        → (reads_buffer buffer reads ≡ true → (r : Read) × IsRead reads buffer r) → (r : Read) × IsRead (x ∷ reads) buffer r
    by true here is next = (x, record { among = (0, omega arith, refl); of = grind arith })
    by false here is next = let rest = next is in (rest.0, read-later reads x buffer rest.0 rest.1)

-- each is an earlier loop, and reads near
pub source-near : (p : RingsParts) (place : ℕ) (w : Work) (s : Source) → IsCode p.code → AreRings p → slice_get (works_in p) place ≡ Some w
    → IsSource (length p.inputs) (body_reads w.loop.body) s → IsNearSource place s
source-near p place w s code are is own =
    let loop = (work-is p.code p.inputs place w is).loop in
    let near = loop-reads p place w.loop own.last.0 code are loop own.last.1.among in
    record { there = omega arith; low = omega (arith, ints); high = omega (arith, ints) }

pub sources-near : (p : RingsParts) (place : ℕ) (w : Work) (sources : List Source) → IsCode p.code → AreRings p
    → slice_get (works_in p) place ≡ Some w → place < length p.rings → AreSources (length p.inputs) (body_reads w.loop.body) sources
    → AllByRecursion (IsNearSource (length p.rings)) sources
sources-near p place w sources code are is within of =
    all-each (IsNearSource (length p.rings)) sources (λ i s at.
    let near = source-near p place w s code are is (all-slice_get (IsSource (length p.inputs) (body_reads w.loop.body)) sources i s of.each at) in
    record { there = omega arith; low = near.low; high = near.high })

-- if each has made enough, all that the turn reads is known
pub sources-told : (p : RingsParts) (place : ℕ) (w : Work) (sources : List Source)
    → AreSources (length p.inputs) (body_reads w.loop.body) sources
    → ((k : ℕ) (s : Source) → slice_get sources k ≡ Some s → IsReached p s.place (turn_point w.loop (start_at p place) +ℤ s.last))
    → AreTold p place w
sources-told p place w sources of reached =
    let point = turn_point w.loop (start_at p place) in
    all-each (IsTold p point) (body_reads w.loop.body) (λ i r at. λ source v is found.
    let covered = of.all r (contains-at (body_reads w.loop.body) i r at) (omega arith) in
    let it = at-contains sources covered.source covered.among in
    told-one p point covered.source.last r covered.source.place covered.of covered.last (reached it.0 covered.source it.1) source v is found)

-- if one has made less, it is asked for first
pub source-behind : (p : RingsParts) (place : ℕ) (w : Work) (sources : List Source) (number : ℕ) (s : Source) → IsCode p.code → AreRings p
    → slice_get (works_in p) place ≡ Some w → AreSources (length p.inputs) (body_reads w.loop.body) sources
    → slice_get sources number ≡ Some s → IsLate p s.place (turn_point w.loop (start_at p place) +ℤ s.last) → IsBehind p place w s.place
source-behind p place w sources number s code are is of at late =
    let own = all-slice_get (IsSource (length p.inputs) (body_reads w.loop.body)) sources number s of.each at in
    record {
      read = own.last.0;
      reads = own.last.1.among;
      of = own.last.1.of;
      earlier = (source-near p place w s code are is own).there;
      behind = late.work;
      is_open = late.is_open;
      short = subst (λ (t : ℤ). start_at p s.place <ℤ (turn_point w.loop (start_at p place) +ℤ t)) own.last.2 late.short;
    }
