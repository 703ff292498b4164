-- What the rings of a code's loops keep: before the first turn, after one more snapshot, and after some were let go.
use Rattle.std.proofs.Common.{◌≡◌, ◌<◌, ◌+◌, ◌^◌, ℕ, zero, suc, ℤ, pos, neg_ℤ, ◌<ℤ◌, ◌≤ℤ◌, Bool, true, false, List}
use Rattle.std.proofs.Common.{[], ◌∷◌, ◌++◌, map, length, drop, get_or, slice_get, slice_set, option_map, Option, Some, refl, sym, ap, ◌∙◌, subst, arith, length-drop}
use Rattle.std.proofs.lemmas.Int.{ints}
use Rattle.std.proofs.lemmas.List.{drop_all, drop-append-le, length_push, length-set}
use Rattle.std.proofs.lemmas.Option.{same_Some, get_or_from_slice_get, slice_get-map, slice_get_read, slice_get_within}
use Rattle.std.specs.List.{AllByRecursion}
use Rattle.std.specs.Option.{ForSome, unwrap_or}
use Rattle.circular_buffer.proofs.Places.{slice_get-some}
use Rattle.tilt_base.proofs.Lists.{all-slice_get}
use Rattle.tilt_base.specs.declared.limits.TheConstants.{WIDE}
use Rattle.tilt_stream.proofs.Filling.{Fill-AreSnapshots, Fill-up}
use Rattle.tilt_code.proofs.Runs.{loops-timed, turns-Fill}
use Rattle.tilt_code.specs.Code.{LoopParts}
use Rattle.tilt_code.specs.Grammar.{IsLoop}
use Rattle.tilt_code.specs.Meaning.{IsTimed}
use Rattle.tilt_code.specs.References.{IsCode}
use Rattle.tilt_code.specs.Turn.{turns}
use Rattle.tilt_stream.specs.Snap.{Snapshot, AreSnapshots, last_end, Fill}
use Rattle.tilt_stream.specs.Stream.{stream_of}
use Rattle.tilt_pipe.proofs.Kept.{drop-one}
use Rattle.tilt_pipe.proofs.Standing.{IsNextMade, end-made, made-few, next-is, none-fills, none-made}
use Rattle.tilt_pipe.proofs.Works.{work-is, work-fills, works-length}
use Rattle.tilt_pipe.specs.Made.{Work, is_used, works_from}
use Rattle.tilt_pipe.specs.Positions.{RingParts, RingsParts, AreRings, AreRingsOf, IsOpen, IsRing, kept_ring, made_at, made_by, start_at, with_ring, works_in, later_ring}

-- the loop at a place has the ring there
pub ring-at : (works : List Work) (rings : List RingParts) (place : ℕ) (w : Work) (r : RingParts) → AreRingsOf works rings
    → slice_get works place ≡ Some w → slice_get rings place ≡ Some r → IsRing w r
ring-at [] rings place w r are of is = absurd (cc of)
ring-at (x ∷ works) [] place w r are of is = absurd are
ring-at (x ∷ works) (y ∷ rings) zero w r are of is = subst (λ (v : Work). IsRing v r) (same_Some x w of) (subst (IsRing x) (same_Some y r is) are.0)
ring-at (x ∷ works) (y ∷ rings) (suc place) w r are of is = ring-at works rings place w r are.1 of is

-- another ring of the same loop
pub rings-set : (works : List Work) (rings : List RingParts) (place : ℕ) (w : Work) (r : RingParts) → AreRingsOf works rings
    → slice_get works place ≡ Some w → IsRing w r → AreRingsOf works (slice_set rings place r)
rings-set [] rings place w r are of is = absurd (cc of)
rings-set (x ∷ works) [] place w r are of is = absurd are
rings-set (x ∷ works) (y ∷ rings) zero w r are of is = (subst (λ (v : Work). IsRing v r) (sym (same_Some x w of)) is, are.1)
rings-set (x ∷ works) (y ∷ rings) (suc place) w r are of is = (are.0, rings-set works rings place w r are.1 of is)

-- a ring of a loop before its first turn
abbrev pub empty_ring : LoopParts → RingParts
empty_ring l = record { held = []; forgotten = 0; start = l.lo; hi = l.hi }

empty-ring-is : (w : Work) → Fill w.loop.lo w.loop.hi w.whole → IsTimed w.loop → IsRing w (empty_ring w.loop)
empty-ring-is w fills timed =
    let none = none-made w.loop.lo w.loop.hi w.whole fills in
    record {
      fill = none-fills w.loop.lo w.loop.hi w.whole fills;
      within = omega (arith, ints);
      forgotten = omega arith;
      held = sym none;
      hi = refl;
    }

pub empty-rings-are : (buffer : ℕ) (lists : List (List Snapshot)) (loops : List LoopParts) → AllByRecursion IsTimed loops
    → AreRingsOf (works_from buffer lists loops) (map empty_ring loops)
empty-rings-are buffer lists [] timed = tt
empty-rings-are buffer lists (l ∷ loops) timed =
    let whole = turns (map stream_of lists) l in
    let behind = works_from (suc buffer) (lists ++ whole ∷ []) loops in (
      empty-ring-is (record { loop = l; whole = whole; used = is_used buffer behind }) (turns-Fill (map stream_of lists) l timed.0) timed.0,
      empty-rings-are (suc buffer) (lists ++ whole ∷ []) loops timed.1,
    )

-- a loop of a code, and its ring
pub record IsKept (w : Work) (r : RingParts) : Type 0 where
  pub low : neg_ℤ WIDE ≤ℤ w.loop.lo
  pub high : w.loop.hi ≤ℤ WIDE
  pub fills : Fill w.loop.lo w.loop.hi w.whole
  pub ring : IsRing w r

-- the last that is held ends at the loop's position
last_end-drop : (n : ℕ) (list : List Snapshot) (end : ℤ) → last_end (drop n list) ≡ Some end → last_end list ≡ Some end
last_end-drop zero list end is = is
last_end-drop (suc n) [] end is = is
last_end-drop (suc n) (s ∷ []) end is = absurd (cc (last_end-drop n [] end is))
last_end-drop (suc n) (s ∷ next ∷ ss) end is = last_end-drop n (next ∷ ss) end is

-- how many it has made, that they are in order, and within the limits of time
module _ (w : Work) (r : RingParts) (k : IsKept w r) where
  pub kept-count : r.forgotten + length r.held ≡ length (made_by r.start w.whole)
  kept-count =
      omega (arith, k.ring.forgotten, ap length k.ring.held, length-drop r.forgotten (made_by r.start w.whole))

  below : r.start ≤ℤ WIDE
  below = omega (arith, ints, k.ring.within, k.high)

  pub kept-few : length (made_by r.start w.whole) < 9223372036854775807
  kept-few = made-few w.loop.lo r.start (made_by r.start w.whole) k.low below k.ring.fill

  pub kept-made : AreSnapshots (made_by r.start w.whole)
  kept-made = Fill-AreSnapshots w.loop.lo r.start (made_by r.start w.whole) k.low below k.ring.fill

  start-low : neg_ℤ WIDE ≤ℤ r.start
  start-low = omega (arith, ints, k.low, Fill-up w.loop.lo r.start (made_by r.start w.whole) k.ring.fill)

  held-ends : (end : ℤ) → last_end r.held ≡ Some end → end ≡ r.start
  held-ends end is =
      let last = last_end-drop r.forgotten (made_by r.start w.whole) end (rw k.ring.held at is) in
      sym (ap (λ (end : Option ℤ). unwrap_or end w.loop.lo) last) ∙ end-made w.loop.lo r.start (made_by r.start w.whole) k.ring.fill

  later-is : 0 < length r.held → IsRing w (later_ring r)
  later-is some = record {
    fill = k.ring.fill;
    within = k.ring.within;
    forgotten = omega (arith, kept-count, some);
    held = drop-one (made_by r.start w.whole) r.held r.forgotten k.ring.held;
    hi = k.ring.hi;
  }

pub next-kept : (w : Work) (r : RingParts) (s : Snapshot) → IsKept w r → slice_get w.whole (length (made_by r.start w.whole)) ≡ Some s
    → IsNextMade w.loop.lo w.loop.hi r.start w.whole s
next-kept w r s k is = next-is w.loop.lo w.loop.hi r.start w.whole s k.fills k.ring.fill is

-- a ring whose loop has made one snapshot more
pub kept-is : (w : Work) (b : Bool) (r : RingParts) (s : Snapshot) → IsKept w r → (b ≡ false → r.held ≡ [])
    → slice_get w.whole (length (made_by r.start w.whole)) ≡ Some s → IsRing w (kept_ring b r s)
kept-is w true r s k none is =
    let made = made_by r.start w.whole in
    let next = next-kept w r s k is in
    let within = k.ring.forgotten in
    record {
      fill = next.fill;
      within = next.within;
      forgotten = omega (arith, ap length next.more ∙ length_push made s);
      held = ap (λ (front : List Snapshot). front ++ s ∷ []) k.ring.held
          ∙ sym (drop-append-le r.forgotten made (s ∷ []) k.ring.forgotten) ∙ ap (drop r.forgotten) (sym next.more);
      hi = k.ring.hi;
    }
kept-is w false r s k none is =
    let next = next-kept w r s k is in
    let count = ap length next.more ∙ length_push (made_by r.start w.whole) s in
    let held = kept-count w r k in
    let gone = ap length (none refl) in
    record {
      fill = next.fill;
      within = next.within;
      forgotten = omega arith;
      held = none refl ∙ sym (drop_all (r.forgotten + 1) (made_by s.end w.whole) (omega arith));
      hi = k.ring.hi;
    }

-- the loop at a place
pub loop-is : (p : RingsParts) (place : ℕ) (w : Work) (loops : List LoopParts) (l : LoopParts) → slice_get (works_in p) place ≡ Some w
    → loops ≡ p.code.loops → l ≡ get_or loops place l → l ≡ w.loop
loop-is p place w loops l of same is =
    is ∙ ap (λ (all : List LoopParts). get_or all place l) same
    ∙ get_or_from_slice_get p.code.loops place w.loop l (work-is p.code p.inputs place w of).loop

-- a loop and its ring, among all
pub record IsAt (p : RingsParts) (place : ℕ) (w : Work) (r : RingParts) : Type 0 where
  pub are : AreRings p
  pub of : slice_get (works_in p) place ≡ Some w
  pub at : slice_get p.rings place ≡ Some r
  pub kept : IsKept w r
  pub start : start_at p place ≡ r.start
  pub made : made_at p place w ≡ made_by r.start w.whole

pub is-at : (p : RingsParts) (place : ℕ) (w : Work) (r : RingParts) → IsCode p.code → AreRings p → slice_get (works_in p) place ≡ Some w
    → slice_get p.rings place ≡ Some r → IsAt p place w r
is-at p place w r code are of at =
    let loop = all-slice_get IsLoop p.code.loops place w.loop code.grammatical.loops (work-is p.code p.inputs place w of).loop in
    let start : start_at p place ≡ r.start =
    get_or_from_slice_get (map (λ (x : RingParts). x.start) p.rings) place r.start (pos 0)
    (slice_get-map (λ (x : RingParts). x.start) p.rings place ∙ ap (option_map (λ (x : RingParts). x.start)) at) in
    record {
      are = are;
      of = of;
      at = at;
      kept = record {
        low = loop.stretch.low;
        high = loop.stretch.high;
        fills = (work-fills p.code p.inputs place w (loops-timed p.code.loops code.grammatical.loops) of).0;
        ring = ring-at (works_in p) p.rings place w r are.rings of at;
      };
      start = start;
      made = ap (λ (t : ℤ). made_by t w.whole) start;
    }

-- the ring of a loop
pub record HasRing (p : RingsParts) (place : ℕ) (w : Work) : Type 0 where
  pub within : place < length p.rings
  pub ring : RingParts
  pub at : slice_get p.rings place ≡ Some ring
  pub start : start_at p place ≡ ring.start
  pub kept : IsKept w ring

pub ring-of : (p : RingsParts) (place : ℕ) (w : Work) → IsCode p.code → AreRings p → slice_get (works_in p) place ≡ Some w
    → HasRing p place w
ring-of p place w code are of =
    let within : place < length p.rings = omega (arith, are.many, works-length p.code p.inputs, slice_get_within (works_in p) place w of) in
    let ring = slice_get-some p.rings place within in
    let it = is-at p place w ring.0 code are of ring.1 in
    record { within = within; ring = ring.0; at = ring.1; start = it.start; kept = it.kept }

pub read-at : (p : RingsParts) (place : ℕ) (w : Work) (r : RingParts) → IsCode p.code → AreRings p → slice_get (works_in p) place ≡ Some w
    → r ≡ get_or p.rings place r → IsAt p place w r
read-at p place w r code are of is =
    let within = (ring-of p place w code are of).within in
    is-at p place w r code are of (slice_get_read p.rings (length p.rings) place r refl within is)

-- a loop that is before the end of its stretch
pub record IsPlaced (p : RingsParts) (place : ℕ) (w : Work) : Type 0 where
  pub within : place < length p.rings
  pub within_loops : place < length p.code.loops
  pub low : neg_ℤ WIDE ≤ℤ start_at p place
  pub high : start_at p place <ℤ WIDE

pub placed : (p : RingsParts) (place : ℕ) (w : Work) → IsCode p.code → AreRings p → IsOpen p place w → IsPlaced p place w
placed p place w code are open_ =
    let it = ring-of p place w code are open_.is in
    record {
      within = it.within;
      within_loops = omega (arith, are.many, it.within);
      low = omega (arith, ints, it.start, start-low w it.ring it.kept);
      high = omega (arith, ints, open_.before, it.kept.high);
    }

-- its next snapshot may be added, and then rings keep what they have to
pub record MayKeep (p : RingsParts) (place : ℕ) (b : Bool) (r : RingParts) (s : Snapshot) : Type 0 where
  pub at : slice_get p.rings place ≡ Some r
  pub touches : ForSome (last_end r.held) (λ end. end ≡ s.start)
  pub low : neg_ℤ WIDE ≤ℤ s.start
  pub high : s.end ≤ℤ WIDE
  pub fits : r.forgotten + 1 < 2 ^ 64
  pub rings : AreRings (with_ring p place (kept_ring b r s))

pub may-keep : (p : RingsParts) (place : ℕ) (w : Work) (b : Bool) (r : RingParts) (s : Snapshot) → IsCode p.code → AreRings p
    → slice_get (works_in p) place ≡ Some w → slice_get w.whole (length (made_at p place w)) ≡ Some s → r ≡ get_or p.rings place r
    → (b ≡ false → (q : RingParts) → slice_get p.rings place ≡ Some q → q.held ≡ []) → MayKeep p place b r s
may-keep p place w b r s code are of found is none =
    let it = read-at p place w r code are of is in
    let next = next-kept w r s it.kept (rw it.made at found) in
    record {
      at = it.at;
      touches = λ end last. held-ends w r it.kept end last ∙ sym next.begins;
      low = omega (arith, ints, next.begins, start-low w r it.kept);
      high = omega (arith, ints, next.within, it.kept.high);
      fits = omega (arith, kept-few w r it.kept, it.kept.ring.forgotten);
      rings = record {
        inputs = are.inputs;
        many = length-set p.rings place (kept_ring b r s) ∙ are.many;
        rings = rings-set (works_in p) p.rings place w (kept_ring b r s) are.rings of
            (kept-is w b r s it.kept (λ off. none off r it.at) (rw it.made at found));
      };
    }

-- and so they do if its first one is let go
pub later-at : (p : RingsParts) (place : ℕ) (w : Work) (r : RingParts) → IsAt p place w r → 0 < length r.held
    → AreRings (with_ring p place (later_ring r))
later-at p place w r it some = record {
  inputs = it.are.inputs;
  many = length-set p.rings place (later_ring r) ∙ it.are.many;
  rings = rings-set (works_in p) p.rings place w (later_ring r) it.are.rings it.of (later-is w r it.kept some);
}
