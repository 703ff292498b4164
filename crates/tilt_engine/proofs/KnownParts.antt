-- What is known of a loop whose turns were all made is what it has settled.
use Rattle.std.proofs.Common.{◌≡◌, ◌⊎◌, ◌+◌, inl, inr, ℕ, zero, suc, ℤ, ◌<ℤ◌, ◌≤ℤ◌, int_le, Bool, true, false, List, [], ◌∷◌, length, slice_get, Option, Some, None, refl, sym, ap, ◌∙◌, subst, arith}
use Rattle.std.proofs.lemmas.Int.{ints, by_lt_z}
use Rattle.std.proofs.lemmas.Option.{same_Some}
use Rattle.std.specs.Option.{ForSome}
use Rattle.tilt_engine.specs.Needed.{known_part, stages_by}
use Rattle.tilt_engine.specs.Standing.{IsDone, IsWaiting}
use Rattle.tilt_engine.specs.Stock.{MadeParts, reached, reached_by}
use Rattle.tilt_feed.proofs.Known.{IsKnownAt-tested, known-below, tested-IsKnownAt}
use Rattle.tilt_feed.specs.Horizon.{Horizon, IsKnownAt, horizon_of, is_known_at}
use Rattle.tilt_pipe.proofs.Standing.{IsNextMade, next-is}
use Rattle.tilt_pipe.specs.Made.{Work}
use Rattle.tilt_pipe.specs.Positions.{made_by}
use Rattle.tilt_stream.specs.Snap.{Fill, Snapshot}

-- if a tick is known, and the end of the next snapshot after it isn't, what is known is what ends at the tick or below it
pub known-made : (h : Horizon) (tick : ℤ) (list : List Snapshot) → IsKnownAt h tick
    → ((s : Snapshot) → slice_get list (length (made_by tick list)) ≡ Some s → is_known_at h s.end ≡ false) → known_part h list ≡ made_by tick list
known-made h tick [] known late = refl
known-made h tick (s ∷ ss) known late =
    by_lt_z tick s.end
    (λ high.
    let outside : int_le s.end tick ≡ false = grind (arith, ints) in
    let unknown : is_known_at h s.end ≡ false = late s (rw outside refl) in
    rw (outside, unknown) refl)
    (λ low.
    let inside : int_le s.end tick ≡ true = grind (arith, ints) in
    let test : is_known_at h s.end ≡ true = IsKnownAt-tested h s.end (known-below h tick s.end known low) in
    let next : (x : Snapshot) → slice_get ss (length (made_by tick ss)) ≡ Some x → is_known_at h x.end ≡ false = λ x at. late x (rw inside at) in
    rw (inside, test) (ap (λ (rest : List Snapshot). s ∷ rest) (known-made h tick ss known next)))

-- the end of the next snapshot of a loop that has made all that is known isn't known
pub next-unknown : (lo hi : ℤ) (h : Horizon) (whole : List Snapshot) (m : MadeParts) → Fill lo hi whole → Fill lo m.settled (made_by m.settled whole) → m.hi ≡ hi
    → ForSome m.waiting (IsWaiting whole (length (made_by m.settled whole)) h) → IsDone h m
    → (s : Snapshot) → slice_get whole (length (made_by m.settled whole)) ≡ Some s → is_known_at h s.end ≡ false
next-unknown lo hi h whole m fills fill hi_is waits done s at = by m.waiting refl
  where
    next : IsNextMade lo hi m.settled whole s
    next = next-is lo hi m.settled whole s fills fill at

    late : m.waiting ≡ None → (b : Bool) → is_known_at h s.end ≡ b → is_known_at h s.end ≡ false
    late none false is = is
    late none true is =
        let far : (m.hi ≤ℤ reached m) ⊎ (s.end ≤ℤ reached m) = done s.end (tested-IsKnownAt h s.end is) in
        let here : reached m ≡ m.settled = ap (reached_by m.settled) none in
        let rises = next.rises in
        let within = next.within in
        absurd (past (subst (λ (t : ℤ). (m.hi ≤ℤ t) ⊎ (s.end ≤ℤ t)) here far) rises (subst (λ (t : ℤ). s.end ≤ℤ t) (sym hi_is) within))
      where
        past : (m.hi ≤ℤ m.settled) ⊎ (s.end ≤ℤ m.settled) → m.settled <ℤ s.end → s.end ≤ℤ m.hi → ⊥
        past (inl above) rises within = omega (arith, ints)
        past (inr above) rises within = omega (arith, ints)

    by : (x : Option Snapshot) → m.waiting ≡ x → is_known_at h s.end ≡ false
    by None none = late none (is_known_at h s.end) refl
    by (Some x) some =
        let w = waits x some in
        let same : x ≡ s = same_Some x s (sym w.next ∙ at) in
        subst (λ (y : Snapshot). is_known_at h y.end ≡ false) same w.last

-- the loop at a place, with what is known of it
pub stages-long : (hs : List Horizon) (number : ℕ) (works : List Work) → length (stages_by hs number works) ≡ length works
stages-long hs number [] = refl
stages-long hs number (w ∷ works) = ap suc (stages-long hs (suc number) works)

pub stage-at : (hs : List Horizon) (number : ℕ) (works : List Work) (k : ℕ) (w : Work) → slice_get works k ≡ Some w
    → slice_get (stages_by hs number works) k ≡ Some (record { work = w; made = known_part (horizon_of hs (number + k)) w.whole })
stage-at hs number [] k w at = absurd (cc at)
stage-at hs number (x ∷ works) zero w at =
    let same : x ≡ w = same_Some x w at in
    let own : number ≡ number + 0 = omega arith in
    (λ i. Some (record { work = same i; made = known_part (horizon_of hs (own i)) (same i).whole }))
stage-at hs number (x ∷ works) (suc k) w at =
    let next : suc number + k ≡ number + suc k = omega arith in
    stage-at hs (suc number) works k w at
    ∙ (λ i. Some (record { work = w; made = known_part (horizon_of hs (next i)) w.whole }))
