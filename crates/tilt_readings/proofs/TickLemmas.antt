-- Where ticks lie.
use Rattle.std.proofs.Common.{◌≡◌, ℕ, ◌-◌, ◌<◌, ◌^◌, ℤ, pos, negsuc, neg_ℤ, ◌+ℤ◌, ◌-ℤ◌, ◌*ℤ◌, ◌≤ℤ◌, ◌<ℤ◌, sym, ap, subst, arith, inl, inr, ◌⊎◌}
use Rattle.std.specs.Int.{int_div_euclid}
use Rattle.std.proofs.lemmas.Int.{ints, by_lt_z}
use Rattle.tilt_base.specs.declared.limits.TheConstants.{T}
use Rattle.tilt_base.proofs.Multiples.{mul_add, mul_low}
use Rattle.tilt_readings.specs.Tick.{IsBetween, IsInReach, IsInTick, moment_at}
use Rattle.tilt_readings.specs.declared.tick.Clock.{Clock}
use Rattle.tilt_readings.specs.declared.tick.Closed.{Closed}
use Rattle.tilt_readings.specs.declared.tick.Closed.TheVariants.{Left, Right}

-- a multiple of a length is no less if there are no fewer
pub multiple_le : (j k : ℤ) (n : ℕ) → j ≤ℤ k → (j *ℤ pos n) ≤ℤ (k *ℤ pos n)
multiple_le j k n h =
    let sum = mul_add j (k -ℤ j) (pos n) in
    let more = mul_low (k -ℤ j) (pos n) (omega (arith, ints)) (omega (arith, ints)) in
    let back : j +ℤ (k -ℤ j) ≡ k = omega (arith, ints) in
    let same = ap (λ x. x *ℤ pos n) back in
    omega (arith, ints)

-- a later tick doesn't end earlier
pub later : (clock : Clock) (j k : ℤ) → j ≤ℤ k → moment_at clock j ≤ℤ moment_at clock k
later clock j k h = let m = multiple_le j k clock.length h in omega (arith, ints)

-- the multiple of a length that isn't above a number, and that the next one is
pub multiple_below : (z : ℤ) (n : ℕ) → 0 < n → ((int_div_euclid z (pos n) *ℤ pos n) ≤ℤ z) × (z <ℤ (int_div_euclid z (pos n) *ℤ pos n +ℤ pos n))
multiple_below (pos a) n h = (omega (arith, ints), omega (arith, ints))
multiple_below (negsuc a) n h = (omega (arith, ints), omega (arith, ints))

-- the next multiple
pub next_multiple : (q : ℤ) (n : ℕ) → (q +ℤ pos 1) *ℤ pos n ≡ q *ℤ pos n +ℤ pos n
next_multiple q n =
    let sum = mul_add q (pos 1) (pos n) in
    let one : pos 1 *ℤ pos n ≡ pos n = omega (arith, ints) in
    omega (arith, ints)

-- a moment in a tick that isn't within reach isn't in reach
beyond : (closed : Closed) (low high first last moment : ℤ) → IsBetween closed low high moment → IsBetween closed first last moment
    → (last ≤ℤ low) ⊎ (high ≤ℤ first) → ⊥
beyond Left low high first last moment here within (inl after) = let a = here.0 in let b = within.1 in absurd (omega (arith, ints))
beyond Left low high first last moment here within (inr before) = let a = here.1 in let b = within.0 in absurd (omega (arith, ints))
beyond Right low high first last moment here within (inl after) = let a = here.0 in let b = within.1 in absurd (omega (arith, ints))
beyond Right low high first last moment here within (inr before) = let a = here.1 in let b = within.0 in absurd (omega (arith, ints))

pub too_late : (clock : Clock) (tick moment : ℤ) → IsInTick clock tick moment → T <ℤ tick → ¬ (IsInReach clock moment)
too_late clock tick moment here h within = beyond clock.closed _ _ _ _ moment here within (inl (later clock T (tick -ℤ pos 1) (omega (arith, ints))))

pub too_early : (clock : Clock) (tick moment : ℤ) → IsInTick clock tick moment → tick ≤ℤ neg_ℤ T → ¬ (IsInReach clock moment)
too_early clock tick moment here h within = beyond clock.closed _ _ _ _ moment here within (inr (later clock tick (neg_ℤ T) h))

-- two ticks have no moment in common
apart : (clock : Clock) (j k moment : ℤ) → j <ℤ k → IsInTick clock j moment → IsInTick clock k moment → ⊥
apart clock j k moment h first second = beyond clock.closed _ _ _ _ moment first second (inr (later clock j (k -ℤ pos 1) (omega (arith, ints))))

-- a moment lies in one tick only
pub one_tick : (clock : Clock) (j k moment : ℤ) → IsInTick clock j moment → IsInTick clock k moment → j ≡ k
one_tick clock j k moment first second =
    by_lt_z j k (λ (less : j <ℤ k). absurd (apart clock j k moment less first second))
    (λ (not_less : k ≤ℤ j). by_lt_z k j (λ (less : k <ℤ j). absurd (apart clock k j moment less second first)) (λ (not_greater : j ≤ℤ k). omega (arith, ints)))

-- the tick of a moment, from how many whole ticks lie before it
pub tick_left : (origin q moment : ℤ) (n : ℕ) → (q *ℤ pos n) ≤ℤ (moment -ℤ origin) → (moment -ℤ origin) <ℤ (q *ℤ pos n +ℤ pos n)
    → IsBetween Left (origin +ℤ ((q +ℤ pos 1) -ℤ pos 1) *ℤ pos n) (origin +ℤ (q +ℤ pos 1) *ℤ pos n) moment
tick_left origin q moment n low high =
    let next = next_multiple q n in
    let back : (q +ℤ pos 1) -ℤ pos 1 ≡ q = omega (arith, ints) in
    let same = ap (λ x. x *ℤ pos n) back in
    (omega (arith, ints), omega (arith, ints))

pub tick_right : (origin q moment : ℤ) (n : ℕ) → (q *ℤ pos n) ≤ℤ ((moment -ℤ origin) -ℤ pos 1) → ((moment -ℤ origin) -ℤ pos 1) <ℤ (q *ℤ pos n +ℤ pos n)
    → IsBetween Right (origin +ℤ ((q +ℤ pos 1) -ℤ pos 1) *ℤ pos n) (origin +ℤ (q +ℤ pos 1) *ℤ pos n) moment
tick_right origin q moment n low high =
    let next = next_multiple q n in
    let back : (q +ℤ pos 1) -ℤ pos 1 ≡ q = omega (arith, ints) in
    let same = ap (λ x. x *ℤ pos n) back in
    (omega (arith, ints), omega (arith, ints))

-- a moment within reach isn't too far from the origin for 128 bits
near : (closed : Closed) (origin : ℤ) (n : ℕ) (moment : ℤ) → n < 2 ^ 64 → IsBetween closed (origin +ℤ neg_ℤ T *ℤ pos n) (origin +ℤ T *ℤ pos n) moment
    → (neg_ℤ (pos (2 ^ 127 - 2)) ≤ℤ (moment -ℤ origin)) × ((moment -ℤ origin) ≤ℤ pos (2 ^ 127 - 1))
near Left origin n moment small within = let a = within.0 in let b = within.1 in (omega (arith, ints), omega (arith, ints))
near Right origin n moment small within = let a = within.0 in let b = within.1 in (omega (arith, ints), omega (arith, ints))

pub near_origin : (clock : Clock) (moment : ℤ) → clock.length < 2 ^ 64 → IsInReach clock moment
    → (neg_ℤ (pos (2 ^ 127 - 2)) ≤ℤ (moment -ℤ clock.origin)) × ((moment -ℤ clock.origin) ≤ℤ pos (2 ^ 127 - 1))
near_origin clock moment small within = near clock.closed clock.origin clock.length moment small within

-- a tick has the moment at its own end
pub start_within : (clock : Clock) (tick : ℤ) → 0 < clock.length → clock.closed ≡ Left → IsInTick clock tick (moment_at clock (tick -ℤ pos 1))
start_within clock tick some is =
    let next = next_multiple (tick -ℤ pos 1) clock.length in
    let back : (tick -ℤ pos 1) +ℤ pos 1 ≡ tick = omega (arith, ints) in
    let same = ap (λ x. x *ℤ pos clock.length) back in
    rw is (omega (arith, ints), omega (arith, ints))

pub end_within : (clock : Clock) (tick : ℤ) → 0 < clock.length → clock.closed ≡ Right → IsInTick clock tick (moment_at clock tick)
end_within clock tick some is =
    let next = next_multiple (tick -ℤ pos 1) clock.length in
    let back : (tick -ℤ pos 1) +ℤ pos 1 ≡ tick = omega (arith, ints) in
    let same = ap (λ x. x *ℤ pos clock.length) back in
    rw is (omega (arith, ints), omega (arith, ints))

-- how many whole ticks lie before a moment, by a division
pub start_left : (clock : Clock) (moment start : ℤ) → 0 < clock.length → clock.closed ≡ Left
    → start ≡ int_div_euclid (moment -ℤ clock.origin) (pos clock.length) → IsInTick clock (start +ℤ pos 1) moment
start_left clock moment start some is h =
    let below = multiple_below (moment -ℤ clock.origin) clock.length some in
    let low = below.0 in
    let high = below.1 in
    let same = ap (λ x. x *ℤ pos clock.length) h in
    rw is (tick_left clock.origin start moment clock.length (omega (arith, ints)) (omega (arith, ints)))

pub start_right : (clock : Clock) (moment start : ℤ) → 0 < clock.length → clock.closed ≡ Right
    → start ≡ int_div_euclid ((moment -ℤ clock.origin) -ℤ pos 1) (pos clock.length) → IsInTick clock (start +ℤ pos 1) moment
start_right clock moment start some is h =
    let below = multiple_below ((moment -ℤ clock.origin) -ℤ pos 1) clock.length some in
    let low = below.0 in
    let high = below.1 in
    let same = ap (λ x. x *ℤ pos clock.length) h in
    rw is (tick_right clock.origin start moment clock.length (omega (arith, ints)) (omega (arith, ints)))

-- a tick within reach
pub found : (clock : Clock) (start tick moment : ℤ) → tick ≡ start +ℤ pos 1 → IsInTick clock (start +ℤ pos 1) moment → neg_ℤ T ≤ℤ start → start <ℤ T
    → IsInTick clock tick moment × (neg_ℤ T <ℤ tick) × (tick ≤ℤ T)
found clock start tick moment next within low high =
    (subst (λ (t : ℤ). IsInTick clock t moment) (sym next) within, omega (arith, ints), omega (arith, ints))

-- and one that isn't
pub not_found : (clock : Clock) (start moment : ℤ) → IsInTick clock (start +ℤ pos 1) moment → (start <ℤ neg_ℤ T) ⊎ (T ≤ℤ start) → ¬ (IsInReach clock moment)
not_found clock start moment here (inl early) within = too_early clock (start +ℤ pos 1) moment here (omega (arith, ints)) within
not_found clock start moment here (inr late) within = too_late clock (start +ℤ pos 1) moment here (omega (arith, ints)) within

-- a tick's end isn't too far for 128 bits
pub multiple_bounds : (tick : ℤ) (n : ℕ) → neg_ℤ T ≤ℤ tick → tick ≤ℤ T → n < 2 ^ 64
    → (neg_ℤ (pos (2 ^ 126)) ≤ℤ (tick *ℤ pos n)) × ((tick *ℤ pos n) ≤ℤ pos (2 ^ 126))
multiple_bounds tick n low high small =
    let least = multiple_le (neg_ℤ T) tick n low in
    let most = multiple_le tick T n high in
    (omega (arith, ints), omega (arith, ints))
