-- What the instructions of a code's loops read, within bounds, and that its loops may be run.
use Rattle.std.proofs.Common.{◌≡◌, ◌≤◌, ◌+◌, ℕ, zero, suc, List, [], ◌∷◌, length, slice_get, Some, Contains, sym, subst, arith}
use Rattle.std.proofs.lemmas.Int.{ints}
use Rattle.std.proofs.lemmas.Option.{same_Some}
use Rattle.std.specs.List.{AllByRecursion}
use Rattle.tilt_base.proofs.Lists.{all-contains, all-slice_get}
use Rattle.tilt_stream.proofs.Filling.{Fill-up}
use Rattle.tilt_code.specs.Code.{Block, LoopParts}
use Rattle.tilt_code.specs.Grammar.{IsLoop}
use Rattle.tilt_code.specs.References.{IsCode, ReadsBefore}
use Rattle.tilt_code.specs.declared.instr.Instr.TheVariants.{Const, Null, Argument, Port, Win, One, Two, If}
use Rattle.tilt_turn.proofs.Readies.{loop-ready}
use Rattle.tilt_turn.proofs.TurnTicks.{point-near}
use Rattle.tilt_turn.specs.Ready.{IsBodyTick, IsReadable, IsReady}
use Rattle.tilt_pipe.proofs.RingsKept.{ring-of}
use Rattle.tilt_pipe.proofs.Works.{work-is}
use Rattle.tilt_pipe.specs.Made.{Work}
use Rattle.tilt_pipe.specs.Positions.{RingsParts, AreRings, IsOpen, made_by, start_at, works_in}
use Rattle.tilt_pipe.specs.Reads.{body_reads, turn_point}
use Rattle.tilt_pipe.specs.Trimmed.{IsNear}
use Rattle.tilt_pipe.specs.declared.read.Read.{Read}

-- what a readable body reads is near
pub reads-near : (buffers maps : ℕ) (block : Block) → AllByRecursion (IsReadable buffers maps) block
    → AllByRecursion (IsNear buffers) (body_reads block)
reads-near buffers maps [] h = tt
reads-near buffers maps (Const number ∷ block) h = reads-near buffers maps block h.1
reads-near buffers maps (Null ∷ block) h = reads-near buffers maps block h.1
reads-near buffers maps (Argument ∷ block) h = reads-near buffers maps block h.1
reads-near buffers maps (Port buffer offset ∷ block) h = (
  record { there = h.0.0; first_low = h.0.1.0; first_high = omega (arith, ints); last_low = h.0.1.0; last_high = h.0.1.1 },
  reads-near buffers maps block h.1,
)
reads-near buffers maps (Win reducer buffer from to number ∷ block) h = (
  record {
    there = h.0.0;
    first_low = omega (arith, ints);
    first_high = omega (arith, ints);
    last_low = h.0.1.high.0;
    last_high = h.0.1.high.1;
  },
  reads-near buffers maps block h.1,
)
reads-near buffers maps (One op a ∷ block) h = reads-near buffers maps block h.1
reads-near buffers maps (Two op a b ∷ block) h = reads-near buffers maps block h.1
reads-near buffers maps (If c a b ∷ block) h = reads-near buffers maps block h.1

-- the references of the loop at a place
before-at : (buffers place : ℕ) (loops : List LoopParts) (l : LoopParts) → ReadsBefore buffers loops → slice_get loops place ≡ Some l
    → ReadsBefore (buffers + place) (l ∷ [])
before-at buffers place [] l h is = absurd (cc is)
before-at buffers zero (x ∷ loops) l h is =
    let at : buffers + 0 ≡ buffers = omega arith in
    rw (at, ← same_Some x l is) (h.0, h.1, tt)
before-at buffers (suc place) (x ∷ loops) l h is =
    let at : suc buffers + place ≡ buffers + suc place = omega arith in
    rw (← at) (before-at (suc buffers) place loops l h.2 is)

-- each loop of a code may be run over the buffers before its own
place-ready : (p : RingsParts) (place : ℕ) (l : LoopParts) → IsCode p.code → AreRings p → slice_get p.code.loops place ≡ Some l
    → IsReady (length p.inputs + place) l
place-ready p place l code are is =
    loop-ready (length p.inputs + place) l [] (all-slice_get IsLoop p.code.loops place l code.grammatical.loops is)
    (subst (λ (n : ℕ). ReadsBefore (n + place) (l ∷ [])) (sym are.inputs)
    (before-at (length p.code.inputs) place p.code.loops l code.references is))

pub work-ready : (p : RingsParts) (place : ℕ) (w : Work) → IsCode p.code → AreRings p → slice_get (works_in p) place ≡ Some w
    → IsReady (length p.inputs + place) w.loop
work-ready p place w code are is = place-ready p place w.loop code are (work-is p.code p.inputs place w is).loop

-- a loop that may be run over some buffers may be run over more
readable-more : (few many maps : ℕ) (block : Block) → few ≤ many → AllByRecursion (IsReadable few maps) block
    → AllByRecursion (IsReadable many maps) block
readable-more few many maps [] more h = tt
readable-more few many maps (Const number ∷ block) more h = (tt, readable-more few many maps block more h.1)
readable-more few many maps (Null ∷ block) more h = (tt, readable-more few many maps block more h.1)
readable-more few many maps (Argument ∷ block) more h = (tt, readable-more few many maps block more h.1)
readable-more few many maps (Port buffer offset ∷ block) more h =
    let below = h.0.0 in ((omega arith, h.0.1), readable-more few many maps block more h.1)
readable-more few many maps (Win reducer buffer from to number ∷ block) more h =
    let below = h.0.0 in ((omega arith, h.0.1), readable-more few many maps block more h.1)
readable-more few many maps (One op a ∷ block) more h = (tt, readable-more few many maps block more h.1)
readable-more few many maps (Two op a b ∷ block) more h = (tt, readable-more few many maps block more h.1)
readable-more few many maps (If c a b ∷ block) more h = (tt, readable-more few many maps block more h.1)

pub ready-more : (few many : ℕ) (l : LoopParts) → few ≤ many → IsReady few l → IsReady many l
ready-more few many l more h = record {
  stretch = h.stretch;
  grid = h.grid;
  maps = h.maps;
  registers = h.registers;
  leaves = readable-more few many (length l.maps) l.body more h.leaves;
}

-- the grid point of a loop's next turn
pub turn-near : (p : RingsParts) (place : ℕ) (w : Work) → IsCode p.code → AreRings p → IsOpen p place w
    → IsBodyTick (turn_point w.loop (start_at p place))
turn-near p place w code are is_open =
    let sound = work-ready p place w code are is_open.is in
    let it = ring-of p place w code are is_open.is in
    let up = Fill-up w.loop.lo it.ring.start (made_by it.ring.start w.whole) it.kept.ring.fill in
    point-near w.loop.grid w.loop.lo w.loop.hi (start_at p place) sound.grid sound.stretch (omega (arith, ints)) is_open.before

-- a loop reads earlier buffers alone, no further off than an offset goes and one tick more
pub loop-reads : (p : RingsParts) (k : ℕ) (l : LoopParts) (r : Read) → IsCode p.code → AreRings p → slice_get p.code.loops k ≡ Some l
    → Contains (body_reads l.body) r → IsNear (length p.inputs + k) r
loop-reads p k l r code are is among =
    all-contains (IsNear (length p.inputs + k)) (body_reads l.body) r
    (reads-near (length p.inputs + k) (length l.maps) l.body (place-ready p k l code are is).leaves) among
