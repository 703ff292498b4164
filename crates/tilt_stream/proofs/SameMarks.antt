-- Streams and lists whose next marks above a tick are the same.
use Rattle.std.proofs.Common.{◌≡◌, ℕ, zero, suc, ℤ, pos, ◌+ℤ◌, ◌-ℤ◌, ◌<ℤ◌, Bool, true, false, ◌||◌, List, Option, Some, if◌then◌else◌, refl, ap, ◌∙◌, sym, arith}
use Rattle.std.proofs.lemmas.Int.{ints, by_lt_z}
use Rattle.std.proofs.lemmas.Bool.{or_parts}
use Rattle.tilt_base.specs.declared.reducer.Reducer.{Reducer}
use Rattle.tilt_stream.specs.Agreement.{IsSameUpTo}
use Rattle.tilt_stream.specs.Marks.{next_mark}
use Rattle.tilt_stream.specs.Pointwise.{shifted}
use Rattle.tilt_stream.specs.Snap.{Snapshot}
use Rattle.tilt_stream.specs.Stream.{Stream, mark_at, stream_of}
use Rattle.tilt_stream.specs.Window.{windowed_by}

-- above a tick they have the same marks, up to and with the first mark of the first one
abbrev pub SameNext : (ℤ → Bool) → (ℤ → Bool) → ℤ → Type 0
SameNext m k tick = (at : ℤ) → tick <ℤ at → ((other : ℤ) → tick <ℤ other → other <ℤ at → m other ≡ false) → m at ≡ k at

found_by : (here there : Bool) (tick : ℤ) (a b : Option ℤ) → here ≡ there → (here ≡ false → a ≡ b)
    → (if here then Some tick else a) ≡ (if there then Some tick else b)
found_by true true tick a b is rest = refl
found_by true false tick a b is rest = absurd (cc is)
found_by false true tick a b is rest = absurd (cc is)
found_by false false tick a b is rest = rest refl

-- so the first of so many ticks that has a mark is the same
pub next_mark-same : (x y : Stream) (tick : ℤ) (n : ℕ) → SameNext x.mark y.mark tick → next_mark x tick n ≡ next_mark y tick n
next_mark-same x y tick zero same = refl
next_mark-same x y tick (suc n) same =
    found_by (x.mark (tick +ℤ pos 1)) (y.mark (tick +ℤ pos 1)) (tick +ℤ pos 1)
    (next_mark x (tick +ℤ pos 1) n) (next_mark y (tick +ℤ pos 1) n)
    (same (tick +ℤ pos 1) (omega (arith, ints)) (λ other low high. absurd (omega (arith, ints))))
    (λ clear. next_mark-same x y (tick +ℤ pos 1) n (λ at above none.
    same at (omega (arith, ints)) (λ other low high.
    by_lt_z (tick +ℤ pos 1) other
    (λ later. none other later high)
    (λ first. let is : other ≡ tick +ℤ pos 1 = omega (arith, ints) in ap x.mark is ∙ clear))))

or_same : (a b c d : Bool) → a ≡ c → b ≡ d → (a || b) ≡ (c || d)
or_same a b c d left right = rw (left, right) refl

-- where one of two has a mark
pub either-same : (m n k o : ℤ → Bool) (tick : ℤ) → SameNext m k tick → SameNext n o tick
    → SameNext (λ at. m at || n at) (λ at. k at || o at) tick
either-same m n k o tick f g = λ at above none.
    or_same (m at) (n at) (k at) (o at)
    (f at above (λ other low high. (or_parts (m other) (n other) (none other low high)).0))
    (g at above (λ other low high. (or_parts (m other) (n other) (none other low high)).1))

-- a port reads so many ticks later
pub port-same : (a b : List Snapshot) (offset point : ℤ) → IsSameUpTo (point +ℤ offset) a b
    → SameNext (shifted (stream_of a) offset).mark (shifted (stream_of b) offset).mark point
port-same a b offset point s = λ at above none.
    s.next (at +ℤ offset) (omega (arith, ints)) (λ other low high.
    let back : other -ℤ offset +ℤ offset ≡ other = omega (arith, ints) in
    ap (mark_at a) (sym back) ∙ none (other -ℤ offset) (omega (arith, ints)) (omega (arith, ints)))

-- a window looks at its last tick and at its first, which doesn't lie above the last
pub window-same : (f : Option ℤ → Option ℤ) (reducer : Reducer) (from to : ℤ) (a b : List Snapshot) (point : ℤ) → from <ℤ to
    → IsSameUpTo (point +ℤ to) a b
    → SameNext (windowed_by f reducer from to (stream_of a)).mark (windowed_by f reducer from to (stream_of b)).mark point
window-same f reducer from to a b point some s = λ at above none.
    let clear : (other : ℤ) → (point +ℤ to) <ℤ other → other <ℤ (at +ℤ to) → mark_at a other ≡ false = λ other low high.
    let back : other -ℤ to +ℤ to ≡ other = omega (arith, ints) in
    ap (mark_at a) (sym back)
    ∙ (or_parts (mark_at a (other -ℤ to +ℤ to)) (mark_at a (other -ℤ to +ℤ from +ℤ pos 1))
    (none (other -ℤ to) (omega (arith, ints)) (omega (arith, ints)))).0 in
    or_same (mark_at a (at +ℤ to)) (mark_at a (at +ℤ from +ℤ pos 1)) (mark_at b (at +ℤ to)) (mark_at b (at +ℤ from +ℤ pos 1))
    (s.next (at +ℤ to) (omega (arith, ints)) clear)
    (by_lt_z (point +ℤ to) (at +ℤ from +ℤ pos 1)
    (λ later. s.next (at +ℤ from +ℤ pos 1) later (λ other low high. clear other low (omega (arith, ints))))
    (λ within. s.marks (at +ℤ from +ℤ pos 1) within))
