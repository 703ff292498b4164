-- What the next turns of an engine's loops read of each buffer (our own rule).
use Rattle.std.specs.Prelude.{◌≡◌, ℕ, ℤ, if◌then◌else◌, int_lt, List, [], ◌∷◌, take, Option, None}
use Rattle.std.specs.List.{AllByRecursion}
use Rattle.std.specs.Option.{ForSome}
use Rattle.tilt_code.specs.Code.{LoopParts}
use Rattle.tilt_engine.specs.Gone.{EndsBelow}
use Rattle.tilt_engine.specs.Stock.{MadeParts}
use Rattle.tilt_pipe.specs.Reads.{body_reads, earlier, first_tick, turn_point}
use Rattle.tilt_pipe.specs.Rings.{let_go}
use Rattle.tilt_stream.specs.Snap.{Snapshot}

-- the first tick of a buffer that the next turn of a loop reads, if it makes one more
abbrev pub next_read : ℕ → LoopParts → MadeParts → Option ℤ
next_read buffer l m = if int_lt m.settled m.hi then first_tick buffer (turn_point l m.settled) (body_reads l.body) else None

-- the first tick of a buffer that the next turns of these loops read
abbrev pub wanted : ℕ → List LoopParts → List MadeParts → Option ℤ
wanted buffer [] made = None
wanted buffer (l ∷ loops) [] = None
wanted buffer (l ∷ loops) (m ∷ made) = earlier (next_read buffer l m) (wanted buffer loops made)

-- so many snapshots of a list aren't read, if a first tick of it is read, or nothing: those that end below that tick, or all
pub record IsUnread (first : Option ℤ) (list : List Snapshot) (count : ℕ) : Type 0 where
  pub is : count ≡ let_go first list
  pub past : ForSome first (λ tick. AllByRecursion (EndsBelow tick) (take count list))
