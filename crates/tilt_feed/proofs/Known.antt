-- Which ticks are known by horizons that are made of others.
use Rattle.std.proofs.Common.{◌≡◌, ℤ, pos, ◌+ℤ◌, ◌-ℤ◌, ◌≤ℤ◌, Bool, true, false, if◌then◌else◌, int_le, Option, Some, None, refl, ap, sym, subst, ◌∙◌, arith}
use Rattle.std.specs.Int.{int_min, int_max}
use Rattle.std.proofs.lemmas.Int.{ints, clamps}
use Rattle.tilt_base.specs.Grid.{GridPoints, is_point, ceil, floor}
use Rattle.tilt_base.proofs.GridPoints.{ceil-IsCeil, floor-IsFloor, ceil-low, ceil-point, floor-high}
use Rattle.tilt_base.specs.declared.span.Span.{Span}
use Rattle.tilt_feed.specs.Horizon.{Horizon, Until, ForEver, IsKnownAt, is_known_at, earlier, earlier_by, grid_horizon, over_horizon, clipped}
use Rattle.tilt_stream.specs.Domain.{lies_in}

-- the test of a known tick is right
pub tested-IsKnownAt : (h : Horizon) (tick : ℤ) → is_known_at h tick ≡ true → IsKnownAt h tick
tested-IsKnownAt (Until last) tick is = grind (arith, ints)
tested-IsKnownAt ForEver tick is = tt

pub IsKnownAt-tested : (h : Horizon) (tick : ℤ) → IsKnownAt h tick → is_known_at h tick ≡ true
IsKnownAt-tested (Until last) tick known = grind (arith, ints)
IsKnownAt-tested ForEver tick known = refl

-- what lies below a known tick is known
pub known-below : (h : Horizon) (tick other : ℤ) → IsKnownAt h tick → other ≤ℤ tick → IsKnownAt h other
known-below (Until last) tick other known below = omega (arith, ints)
known-below ForEver tick other known below = tt

-- by the earlier of two horizons is known what is known by both
pub known-first : (g h : Horizon) (tick : ℤ) → IsKnownAt (earlier g h) tick → IsKnownAt g tick
known-first ForEver h tick known = tt
known-first (Until last) ForEver tick known = known
known-first (Until last) (Until other) tick known = omega (arith, ints, clamps)

pub known-second : (g h : Horizon) (tick : ℤ) → IsKnownAt (earlier g h) tick → IsKnownAt h tick
known-second ForEver h tick known = known
known-second (Until last) ForEver tick known = tt
known-second (Until last) (Until other) tick known = omega (arith, ints, clamps)

pub known-both : (g h : Horizon) (tick : ℤ) → IsKnownAt g tick → IsKnownAt h tick → IsKnownAt (earlier g h) tick
known-both ForEver h tick first second = second
known-both (Until last) ForEver tick first second = first
known-both (Until last) (Until other) tick first second = omega (arith, ints, clamps)

-- by a horizon moved is known what is known so many ticks later by the other
pub known-later : (h : Horizon) (offset tick : ℤ) → IsKnownAt (earlier_by h offset) tick → IsKnownAt h (tick +ℤ offset)
known-later (Until last) offset tick known = omega (arith, ints)
known-later ForEver offset tick known = tt

pub known-earlier : (h : Horizon) (offset tick : ℤ) → IsKnownAt h (tick +ℤ offset) → IsKnownAt (earlier_by h offset) tick
known-earlier (Until last) offset tick known = omega (arith, ints)
known-earlier ForEver offset tick known = tt

-- on a grid is known what is known at the point that isn't below
pub known-point : (grid : GridPoints) (h : Horizon) (tick : ℤ) → pos 1 ≤ℤ grid.period → IsKnownAt (grid_horizon grid h) tick → IsKnownAt h (ceil grid tick)
known-point grid (Until last) tick valid known =
    let up = ceil-IsCeil grid tick valid in
    let down = floor-IsFloor grid last valid in
    let low : ceil grid tick ≤ℤ floor grid last = up.least (floor grid last) down.on_grid known in
    let high = floor-high grid last valid in
    omega (arith, ints)
known-point grid ForEver tick valid known = tt

pub point-known : (grid : GridPoints) (h : Horizon) (tick : ℤ) → pos 1 ≤ℤ grid.period → IsKnownAt h (ceil grid tick) → IsKnownAt (grid_horizon grid h) tick
point-known grid (Until last) tick valid known =
    let up = ceil-IsCeil grid tick valid in
    let down = floor-IsFloor grid last valid in
    let high : ceil grid tick ≤ℤ floor grid last = down.greatest (ceil grid tick) up.on_grid known in
    let low = ceil-low grid tick valid in
    omega (arith, ints)
point-known grid ForEver tick valid known = tt

-- after a point, the whole period up to the next one is known
pub known-period : (grid : GridPoints) (h : Horizon) (tick : ℤ) → pos 1 ≤ℤ grid.period → is_point grid (tick -ℤ pos 1) ≡ true → IsKnownAt (grid_horizon grid h) tick
    → IsKnownAt h (tick +ℤ grid.period -ℤ pos 1)
known-period grid h tick valid point known =
    let law = ceil-point grid (tick -ℤ pos 1) valid point in
    let back : tick -ℤ pos 1 +ℤ pos 1 ≡ tick = omega (arith, ints) in
    let moved : tick -ℤ pos 1 +ℤ grid.period ≡ tick +ℤ grid.period -ℤ pos 1 = omega (arith, ints) in
    let next : ceil grid tick ≡ tick +ℤ grid.period -ℤ pos 1 = ap (ceil grid) (sym back) ∙ law.1 ∙ moved in
    subst (IsKnownAt h) next (known-point grid h tick valid known)

-- inside of a span, what is known of a stream that is restricted to it is known of the stream
known-inside_by : (start end last tick : ℤ) (whole : Bool) → int_le end last ≡ whole
    → IsKnownAt (if whole then ForEver else Until (int_max start last)) tick → lies_in start end tick ≡ true → tick ≤ℤ last
known-inside_by start end last tick true is known inside = grind (arith, ints)
known-inside_by start end last tick false is known inside = grind (arith, ints, clamps)

pub known-inside : (span : Span) (h : Horizon) (tick : ℤ) → IsKnownAt (over_horizon (Some span) h) tick → lies_in span.start span.end tick ≡ true → IsKnownAt h tick
known-inside span (Until last) tick known inside = known-inside_by span.start span.end last tick (int_le span.end last) refl known inside
known-inside span ForEver tick known inside = tt

-- a span takes nothing from what is known
known-over_by : (start last tick : ℤ) (whole : Bool) → tick ≤ℤ last → IsKnownAt (if whole then ForEver else Until (int_max start last)) tick
known-over_by start last tick true known = tt
known-over_by start last tick false known = omega (arith, ints, clamps)

pub known-over : (over : Option Span) (h : Horizon) (tick : ℤ) → IsKnownAt h tick → IsKnownAt (over_horizon over h) tick
known-over None h tick known = known
known-over (Some span) (Until last) tick known = known-over_by span.start last tick (int_le span.end last) known
known-over (Some span) ForEver tick known = tt

-- a horizon that isn't above another
pub record IsNotAbove (g h : Horizon) : Type 0 where
  pub all : (tick : ℤ) → IsKnownAt g tick → IsKnownAt h tick

pub above-refl : (h : Horizon) → IsNotAbove h h
above-refl h = record { all = λ tick known. known }

pub above-trans : (f g h : Horizon) → IsNotAbove f g → IsNotAbove g h → IsNotAbove f h
above-trans f g h first second = record { all = λ tick known. second.all tick (first.all tick known) }

-- for horizons up to ticks
above-ticks : (last other : ℤ) → IsNotAbove (Until last) (Until other) → last ≤ℤ other
above-ticks last other above = above.all last (omega (arith, ints))

over-above_by : (start end last other tick : ℤ) (whole more : Bool) → int_le end last ≡ whole → int_le end other ≡ more → last ≤ℤ other
    → IsKnownAt (if whole then ForEver else Until (int_max start last)) tick → IsKnownAt (if more then ForEver else Until (int_max start other)) tick
over-above_by start end last other tick whole true is more above known = tt
over-above_by start end last other tick true false is more above known = absurd (grind (arith, ints))
over-above_by start end last other tick false false is more above known = omega (arith, ints, clamps)

over-above_known : (span : Span) (g h : Horizon) → IsNotAbove g h → (tick : ℤ) → IsKnownAt (over_horizon (Some span) g) tick → IsKnownAt (over_horizon (Some span) h) tick
over-above_known span g ForEver above tick known = tt
over-above_known span ForEver (Until other) above tick known = let none : (other +ℤ pos 1) ≤ℤ other = above.all (other +ℤ pos 1) tt in absurd (omega (arith, ints))
over-above_known span (Until last) (Until other) above tick known =
    over-above_by span.start span.end last other tick (int_le span.end last) (int_le span.end other) refl refl (above-ticks last other above) known

pub over-above : (over : Option Span) (g h : Horizon) → IsNotAbove g h → IsNotAbove (over_horizon over g) (over_horizon over h)
over-above None g h above = above
over-above (Some span) g h above = record { all = over-above_known span g h above }

-- a horizon, at most a tick
pub clipped-high : (end : ℤ) (h : Horizon) → clipped end h ≤ℤ end
clipped-high end (Until last) = omega (arith, ints, clamps)
clipped-high end ForEver = omega (arith, ints)

-- at most a tick, a later horizon isn't below an earlier one
pub clipped-above : (end : ℤ) (g h : Horizon) → IsNotAbove g h → clipped end g ≤ℤ clipped end h
clipped-above end g ForEver above = clipped-high end g
clipped-above end ForEver (Until other) above = let none : (other +ℤ pos 1) ≤ℤ other = above.all (other +ℤ pos 1) tt in absurd (omega (arith, ints))
clipped-above end (Until last) (Until other) above = let on = above-ticks last other above in omega (arith, ints, clamps)

-- what isn't above it is known
pub clipped-known : (end : ℤ) (h : Horizon) (tick : ℤ) → tick ≤ℤ clipped end h → IsKnownAt h tick
clipped-known end (Until last) tick low = omega (arith, ints, clamps)
clipped-known end ForEver tick low = tt

-- and it isn't below a known tick, nor below its bound if that is lower
pub known-clipped : (end : ℤ) (h : Horizon) (tick : ℤ) → IsKnownAt h tick → int_min end tick ≤ℤ clipped end h
known-clipped end (Until last) tick known = omega (arith, ints, clamps)
known-clipped end ForEver tick known = omega (arith, ints, clamps)
