-- What holds of the loops of a pipe while its next snapshot is made, and of the loops whose turns are asked for on the way. No loop makes
-- more than it will have made then, and each has made all that the last turns of later loops read.
use Rattle.std.specs.Prelude.{◌≡◌, ◌<◌, ◌≤◌, ◌-◌, ◌+◌, ◌*◌, ℕ, zero, suc, ℤ, pos, ◌+ℤ◌, ◌<ℤ◌, ◌≤ℤ◌, true, List, [], ◌∷◌}
use Rattle.std.specs.Prelude.{get_or, length, slice_get, take, Some, ⊤}
use Rattle.std.specs.List.{Contains}
use Rattle.std.specs.Option.{unwrap_or}
use Rattle.tilt_base.specs.Grid.{IsGrid}
use Rattle.tilt_code.specs.Body.{last_or}
use Rattle.tilt_stream.specs.Snap.{Fill, last_end}
use Rattle.tilt_pipe.specs.Made.{Stage, Work, stages_from}
use Rattle.tilt_pipe.specs.Positions.{RingsParts, made_by, stages_at, starts_of, works_in}
use Rattle.tilt_pipe.specs.Reads.{body_reads, turn_point}
use Rattle.tilt_pipe.specs.declared.read.Read.{Read}

-- a loop with a grid whose whole buffer fills its stretch
pub record IsFilled (w : Work) : Type 0 where
  pub whole : Fill w.loop.lo w.loop.hi w.whole
  pub grid : IsGrid w.loop.grid

-- the same of each loop
abbrev pub AreFilled : List Work → Type 0
AreFilled works = (k : ℕ) (w : Work) → slice_get works k ≡ Some w → IsFilled w

-- a loop at a tick: a part of its buffer ends there
pub record IsStanding (w : Work) (start : ℤ) : Type 0 where
  pub filled : IsFilled w
  pub fill : Fill w.loop.lo start (made_by start w.whole)
  pub within : start ≤ℤ w.loop.hi

-- the same of each loop
pub record AreStanding (works : List Work) (starts : List ℤ) : Type 0 where
  pub many : length starts ≡ length works
  pub each : (k : ℕ) (w : Work) → slice_get works k ≡ Some w → IsStanding w (get_or starts k (pos 0))

-- how many snapshots the loop at a place has made
abbrev pub made_in : List Stage → ℕ → ℕ
made_in [] place = 0
made_in (s ∷ stages) zero = length s.made
made_in (s ∷ stages) (suc place) = made_in stages place

-- the position of a loop that has made `count` snapshots
abbrev pub start_after : Work → ℕ → ℤ
start_after w count = unwrap_or (last_end (take count w.whole)) w.loop.lo

-- a later loop reads the buffer of an earlier one; the first of all fills the buffer with the number
pub record IsReadOf (buffer : ℕ) (works : List Work) (source place : ℕ) (v w : Work) (r : Read) : Type 0 where
  pub earlier : source < place
  pub from : slice_get works source ≡ Some v
  pub by : slice_get works place ≡ Some w
  pub among : Contains (body_reads w.loop.body) r
  pub of : r.buffer ≡ buffer + source

-- loops that have made as many snapshots as `count` says have made what the last turns of later ones read, or all
abbrev pub AreEnough : ℕ → List Work → (ℕ → ℕ) → Type 0
AreEnough buffer works count =
    (source place : ℕ) (v w : Work) (r : Read) (last : ℕ) → IsReadOf buffer works source place v w r → count place ≡ suc last
    → start_after v (count source) <ℤ v.loop.hi
    → (turn_point w.loop (start_after w last) +ℤ r.last) ≤ℤ start_after v (count source)

-- how many snapshots loops have made less than there
abbrev pub left_to_make : List Stage → List Stage → ℕ
left_to_make [] ts = 0
left_to_make (s ∷ ss) [] = 0
left_to_make (s ∷ ss) (t ∷ ts) = (length t.made - length s.made) + left_to_make ss ts

-- what each loop has made at its position
abbrev pub stages_in : RingsParts → List Stage
stages_in p = stages_at (works_in p) (starts_of p.rings)

-- how many snapshots the last loop has made
abbrev pub given_in : RingsParts → ℕ
given_in p = made_in (stages_in p) (length p.code.loops - 1)

-- a loop that is used, is before the end of its stretch, and will have made more
pub record IsAsked (works : List Work) (starts : List ℤ) (star : List Stage) (place : ℕ) : Type 0 where
  pub work : Work
  pub is : slice_get works place ≡ Some work
  pub used : work.used ≡ true
  pub before : get_or starts place (pos 0) <ℤ work.loop.hi
  pub fewer : made_in (stages_at works starts) place < made_in star place

-- the places fall, and something is true of each
abbrev pub AreFalling : (ℕ → Type 0) → ℕ → List ℕ → Type 0
AreFalling is above [] = ⊤
AreFalling is above (place ∷ places) = (place < above) × is place × AreFalling is place places

-- the first of the places that are asked for is the last loop, which has made `given` snapshots; if there is none, it has made one more
abbrev pub IsBegun : ℕ → ℕ → List Stage → List ℕ → Type 0
IsBegun last given now [] = made_in now last ≡ suc given
IsBegun last given now (place ∷ places) = (place ≡ last) × (made_in now last ≡ given)

-- the loops of a pipe that has given `given` snapshots, while the next one is made
pub record ArePulled (buffer : ℕ) (works : List Work) (last given : ℕ) (starts : List ℤ) (asked : List ℕ) : Type 0 where
  pub standing : AreStanding works starts
  pub within : (k : ℕ) → made_in (stages_at works starts) k ≤ made_in (stages_from (suc given) buffer works) k
  pub enough : AreEnough buffer works (made_in (stages_at works starts))
  pub falling : AreFalling (IsAsked works starts (stages_from (suc given) buffer works)) (length works) asked
  pub begun : IsBegun last given (stages_at works starts) asked

-- the same of the rings of a pipe
abbrev pub IsPulled : ℕ → RingsParts → List ℕ → Type 0
IsPulled given p asked = ArePulled (length p.inputs) (works_in p) (length p.code.loops - 1) given (starts_of p.rings) asked

-- a bound of the steps that are left until the next snapshot is made
abbrev pub steps_left : ℕ → RingsParts → List ℕ → ℕ
steps_left given p asked =
    left_to_make (stages_in p) (stages_from (suc given) (length p.inputs) (works_in p)) * suc (length (works_in p)) + last_or 0 asked
