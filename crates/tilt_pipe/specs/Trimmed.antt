-- What is let go of the rings of a pipe after a turn.
use Rattle.std.specs.Prelude.{neg_ℤ, ◌≡◌, ◌<◌, ◌≤◌, ◌+◌, ℕ, suc, ℤ, pos, ◌+ℤ◌, ◌≤ℤ◌, ◌&&◌, if◌then◌else◌, drop, map, get_or, [], ⊤}
use Rattle.std.specs.Prelude.{length, slice_get, Option, Some, None, int_lt}
use Rattle.tilt_base.specs.declared.limits.TheConstants.{OFFSET}
use Rattle.tilt_pipe.specs.Made.{Work}
use Rattle.tilt_pipe.specs.Positions.{RingParts, RingsParts, made_by, stages_at, start_at, starts_of, works_in}
use Rattle.tilt_pipe.specs.Reads.{turn_point}
use Rattle.tilt_pipe.specs.Rings.{IsNextEnd, let_go, wanted}
use Rattle.tilt_pipe.specs.declared.chain.Reader.{Reader}
use Rattle.tilt_pipe.specs.declared.read.Read.{Read}

-- a read of one of `count` buffers, no further off than an offset goes and one tick more
pub record IsNear (buffers : ℕ) (r : Read) : Type 0 where
  pub there : r.buffer < buffers
  pub first_low : (neg_ℤ OFFSET) ≤ℤ r.first
  pub first_high : r.first ≤ℤ (OFFSET +ℤ pos 1)
  pub last_low : (neg_ℤ OFFSET) ≤ℤ r.last
  pub last_high : r.last ≤ℤ OFFSET

-- the first tick of a loop's buffer that the next turns of later loops read
abbrev pub wanted_at : RingsParts → ℕ → Option ℤ
wanted_at p place = wanted (length p.inputs + place) (drop (suc place) (stages_at (works_in p) (starts_of p.rings)))

-- the tick that a reader's next turn reads first, if it is at work
abbrev pub read_next : RingsParts → Reader → Option Work → Option ℤ
read_next p reader None = None
read_next p reader (Some w) =
    if w.used && int_lt (start_at p reader.place) w.loop.hi then Some (turn_point w.loop (start_at p reader.place) +ℤ reader.first)
    else None

-- the same of the loop that the reader is
abbrev pub reads_next : RingsParts → Reader → Option ℤ
reads_next p reader = read_next p reader (slice_get (works_in p) reader.place)

-- of two ticks the second is no earlier one; no tick is later than all
abbrev pub IsNotLater : Option ℤ → Option ℤ → Type 0
IsNotLater a None = ⊤
IsNotLater None (Some b) = ⊥
IsNotLater (Some a) (Some b) = a ≤ℤ b

-- a loop that is there, and reads a buffer no further off than an offset goes and one tick more
pub record IsReader (p : RingsParts) (reader : Reader) : Type 0 where
  pub work : Work
  pub is : slice_get (works_in p) reader.place ≡ Some work
  pub low : (neg_ℤ OFFSET) ≤ℤ reader.first
  pub high : reader.first ≤ℤ (OFFSET +ℤ pos 1)

-- of the buffer of a loop no more is let go than what isn't wanted
abbrev pub KeepsWanted : RingsParts → ℕ → Type 0
KeepsWanted p place =
    (w : Work) (r : RingParts) → slice_get (works_in p) place ≡ Some w → slice_get p.rings place ≡ Some r
    → r.forgotten ≤ let_go (wanted_at p place) (made_by r.start w.whole)

-- all that ends below a tick is let go of it, or all of it if there is no tick
abbrev pub HasLetGo : RingsParts → ℕ → Option ℤ → Type 0
HasLetGo p place tick =
    (w : Work) (r : RingParts) → slice_get (works_in p) place ≡ Some w → slice_get p.rings place ≡ Some r
    → let_go tick (made_by r.start w.whole) ≤ r.forgotten

-- the first snapshot that a ring holds ends at a tick; if there is no tick, it holds none
abbrev pub HasNextEnd : RingsParts → ℕ → Option ℤ → Type 0
HasNextEnd p place end =
    (w : Work) (r : RingParts) → slice_get (works_in p) place ≡ Some w → slice_get p.rings place ≡ Some r
    → IsNextEnd r.forgotten (made_by r.start w.whole) end

-- how many snapshots a ring holds
abbrev pub held_at : RingsParts → ℕ → ℕ
held_at p place = length (get_or (map (λ r. r.held) p.rings) place [])

-- rings of the same loops, which stand at the same ticks
pub record StandAlike (p q : RingsParts) : Type 0 where
  pub code : q.code ≡ p.code
  pub inputs : q.inputs ≡ p.inputs
  pub starts : starts_of q.rings ≡ starts_of p.rings
