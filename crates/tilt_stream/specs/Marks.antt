-- Where the marks of a stream stand, seen from one tick.
use Rattle.std.specs.Prelude.{◌≡◌, ℤ, ◌<ℤ◌, Option, Some, None, true, false, ℕ, zero, suc, pos, ◌+ℤ◌, if◌then◌else◌, ◌||◌}
use Rattle.tilt_stream.specs.Stream.{Stream}

-- the smallest tick above `tick` that has a mark
pub record IsNextMark (x : Stream) (tick next : ℤ) : Type 0 where
  pub above : tick <ℤ next
  pub marked : x.mark next ≡ true
  pub least : (other : ℤ) → tick <ℤ other → other <ℤ next → x.mark other ≡ false

-- no tick above `tick` has a mark
abbrev pub HasNoMarkAbove : Stream → ℤ → Type 0
HasNoMarkAbove x tick = (other : ℤ) → tick <ℤ other → x.mark other ≡ false

-- the result that names the smallest tick above `tick` that has a mark, and none if there is no such tick
abbrev pub NamesNextMark : Stream → ℤ → Option ℤ → Type 0
NamesNextMark x tick None = HasNoMarkAbove x tick
NamesNextMark x tick (Some next) = IsNextMark x tick next

-- the first of so many ticks after `tick` that has a mark
abbrev pub next_mark : Stream → ℤ → ℕ → Option ℤ
next_mark x tick zero = None
next_mark x tick (suc more) = if x.mark (tick +ℤ pos 1) then Some (tick +ℤ pos 1) else next_mark x (tick +ℤ pos 1) more

-- a stream that has a mark where one of two has one
abbrev pub joined : Stream → Stream → Stream
joined x y = record { cell = λ tick. None; mark = λ tick. x.mark tick || y.mark tick }
