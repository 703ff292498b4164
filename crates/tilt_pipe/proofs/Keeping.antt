-- What the next turn of a loop reads first is kept, and the turn is the next one of its whole buffer.
use Rattle.std.proofs.Common.{◌≡◌, inl, inr, ◌≤◌, ◌<◌, ◌+◌, ◌-◌, ℕ, suc, ℤ, pos, ◌+ℤ◌, ◌<ℤ◌, ◌≤ℤ◌, int_lt, Bool, true, ◌&&◌, List, [], ◌∷◌, ◌++◌, map, length, take, drop, get_or, slice_get, Option}
use Rattle.std.proofs.Common.{Some, Contains, refl, sym, ap, ◌∙◌, subst, arith, length-append}
use Rattle.std.proofs.lemmas.Bool.{cases_lt}
use Rattle.std.proofs.lemmas.Int.{ints}
use Rattle.std.proofs.lemmas.List.{get_or-append-add, get_or-take, length-map}
use Rattle.std.proofs.lemmas.Option.{slice_get_within}
use Rattle.std.specs.List.{AllByRecursion}
use Rattle.circular_buffer.proofs.Places.{slice_get-some}
use Rattle.tilt_base.proofs.Lists.{all-contains, all-each, all-parts}
use Rattle.tilt_base.specs.Grid.{ceil}
use Rattle.tilt_stream.proofs.Filling.{Fill-up}
use Rattle.tilt_code.specs.Body.{body_of}
use Rattle.tilt_code.specs.Code.{Block, LoopParts}
use Rattle.tilt_code.specs.References.{IsCode}
use Rattle.tilt_code.specs.Run.{buffers_of}
use Rattle.tilt_code.specs.Turn.{turn, turns}
use Rattle.tilt_code.specs.declared.instr.Instr.{Instr}
use Rattle.tilt_code.specs.declared.instr.Instr.TheVariants.{Const, Null, Argument, Port, Win, One, Two, If}
use Rattle.tilt_stream.proofs.Places.{ended-rises}
use Rattle.tilt_stream.specs.Snap.{Snapshot, ended_below, gap_before, Fill}
use Rattle.tilt_stream.specs.Stream.{stream_of}
use Rattle.tilt_turn.proofs.Elsewhere.{fit-back, fit-elsewhere, turn-elsewhere}
use Rattle.tilt_turn.specs.Held.{IsFit}
use Rattle.tilt_turn.specs.Ready.{IsKept, IsReady}
use Rattle.tilt_turn.specs.Same.{IsSameFor}
use Rattle.tilt_turn.specs.declared.state.LoopState.{LoopState}
use Rattle.tilt_pipe.proofs.Covered.{contains-at}
use Rattle.tilt_pipe.proofs.Nears.{reads-near, ready-more, work-ready}
use Rattle.tilt_pipe.proofs.Telling.{input-forgotten, open-at, same-body}
use Rattle.tilt_pipe.proofs.RingsKept.{ring-of}
use Rattle.tilt_pipe.proofs.Standing.{next-made}
use Rattle.tilt_pipe.proofs.Trimming.{ended-front, stage-behind}
use Rattle.tilt_pipe.proofs.Wanted.{stage_at, wanted-within}
use Rattle.tilt_pipe.proofs.Wanting.{stands-there, IsTrimmed}
use Rattle.tilt_pipe.proofs.Works.{work-is, work-timed, works-length}
use Rattle.tilt_code.proofs.Runs.{loops-timed}
use Rattle.tilt_pipe.specs.Chain.{AreTold, MayTurn}
use Rattle.tilt_pipe.specs.Made.{Work, Stage}
use Rattle.tilt_pipe.specs.Positions.{RingParts, RingsParts, AreRings, IsOpen, forgotten_of, lists_of, made_at, made_by, open_lists, stages_at, start_at, starts_of, works_in}
use Rattle.tilt_pipe.specs.Reads.{body_reads, reads_of, turn_point}
use Rattle.tilt_pipe.specs.Rings.{is_at_work, let_go, position}
use Rattle.tilt_pipe.specs.Trimmed.{IsNear}
use Rattle.tilt_pipe.specs.declared.chain.LoopTurns.{LoopTurns}
use Rattle.tilt_pipe.specs.declared.read.Read.{Read}

-- a read whose first tick is kept
abbrev KeepsRead : RingsParts → ℤ → Read → Type 0
KeepsRead p point r = get_or (forgotten_of p) r.buffer 0 ≤ ended_below (point +ℤ r.first) (get_or (lists_of p) r.buffer [])

-- the loop is at work
works-on : (w : Work) (start : ℤ) (s : Stage) → s.work ≡ w → position s ≡ start → w.used ≡ true → start <ℤ w.loop.hi → is_at_work s ≡ true
works-on w start s same at used before =
    let test : int_lt start w.loop.hi ≡ true = grind (arith, ints) in
    ap (λ (v : Work). v.used && int_lt (position s) v.loop.hi) same ∙ ap (λ (t : ℤ). w.used && int_lt t w.loop.hi) at
    ∙ ap (λ (b : Bool). b && int_lt start w.loop.hi) used ∙ test

-- what a loop has let go
gone-at : (p : RingsParts) (source : ℕ) → get_or (forgotten_of p) (length p.inputs + source) 0 ≡ get_or (map (λ (r : RingParts). r.forgotten) p.rings) source 0
gone-at p source =
    let none : List ℕ = map (λ (rows : List Snapshot). 0) p.inputs in
    let others : List ℕ = map (λ (r : RingParts). r.forgotten) p.rings in
    let long : length p.inputs ≡ length none = sym (length-map p.inputs (λ (rows : List Snapshot). 0)) in
    ap (λ (n : ℕ). get_or (none ++ others) (n + source) 0) long ∙ get_or-append-add none others source 0

keeps-loop : (p : RingsParts) (place source : ℕ) (w : Work) (r : Read) → IsCode p.code → AreRings p → IsTrimmed p source → IsOpen p place w
    → w.used ≡ true → Contains (body_reads w.loop.body) r → r.buffer ≡ length p.inputs + source → source < place
    → KeepsRead p (turn_point w.loop (start_at p place)) r
keeps-loop p place source w r code are trimmed is_open used among at before =
    let here = ring-of p place w code are is_open.is in
    let point = turn_point w.loop (start_at p place) in
    let own = slice_get_within (works_in p) place w is_open.is in
    let found = slice_get-some p.rings source (omega (arith, are.many)) in
    let ring = found.0 in
    let o = open-at p source ring code are found.1 in
    let k = place - suc source in
    let behind : place ≡ suc source + k = omega arith in
    let stage = stage_at w here.ring.start in
    let stands : position stage ≡ start_at p place = stands-there w here.ring here.kept.ring ∙ sym here.start in
    let wants = wanted-within (length p.inputs + source) (drop (suc source) (stages_at (works_in p) (starts_of p.rings))) k stage r
    (stage-behind p place source k w here.ring is_open.is here.at behind)
    (works-on w (start_at p place) stage refl stands used is_open.before) among at in
    let made = made_by ring.start o.work.whole in
    let first : wants.0 ≤ℤ (point +ℤ r.first) =
    subst (λ (t : ℤ). wants.0 ≤ℤ (turn_point w.loop t +ℤ r.first)) stands wants.2 in
    let gone : get_or (forgotten_of p) r.buffer 0 ≡ ended_below wants.0 made =
    ap (λ (n : ℕ). get_or (forgotten_of p) n 0) at ∙ gone-at p source ∙ o.forgotten
    ∙ trimmed o.work ring o.it.of o.it.at ∙ ap (λ (t : Option ℤ). let_go t made) wants.1 in
    let list : get_or (lists_of p) r.buffer [] ≡ made ++ gap_before (Some ring.start) o.work.loop.hi =
    ap (λ (n : ℕ). get_or (lists_of p) n []) at ∙ get_or-append-add p.inputs (open_lists (works_in p) (starts_of p.rings)) source [] ∙ o.list in
    let up = ended-rises wants.0 (point +ℤ r.first) made first in
    let more = ended-front (point +ℤ r.first) made (gap_before (Some ring.start) o.work.loop.hi) in
    let low : get_or (forgotten_of p) r.buffer 0 ≤ ended_below (point +ℤ r.first) (made ++ gap_before (Some ring.start) o.work.loop.hi) = omega arith in
    subst (λ (all : List Snapshot). get_or (forgotten_of p) r.buffer 0 ≤ ended_below (point +ℤ r.first) all) (sym list) low

keeps-read : (p : RingsParts) (place : ℕ) (w : Work) (r : Read) → IsCode p.code → AreRings p → ((k : ℕ) → IsTrimmed p k) → IsOpen p place w
    → w.used ≡ true → Contains (body_reads w.loop.body) r → r.buffer < length p.inputs + place
    → KeepsRead p (turn_point w.loop (start_at p place)) r
keeps-read p place w r code are trimmed is_open used among near =
    elim (cases_lt r.buffer (length p.inputs)) as (λ _. KeepsRead p (turn_point w.loop (start_at p place)) r) [
      | inl input ↦ (let none = input-forgotten p.inputs (map (λ (x : RingParts). x.forgotten) p.rings) r.buffer input in omega arith)
      | inr behind ↦ keeps-loop p place (r.buffer - length p.inputs) w r code are (trimmed (r.buffer - length p.inputs)) is_open used among
          (omega arith) (omega arith)
    ]

keeps-leaf : (p : RingsParts) (point : ℤ) (i : Instr) → AllByRecursion (KeepsRead p point) (reads_of i)
    → IsKept (lists_of p) (forgotten_of p) point i
keeps-leaf p point (Const number) keeps = tt
keeps-leaf p point Null keeps = tt
keeps-leaf p point Argument keeps = tt
keeps-leaf p point (Port buffer offset) keeps = keeps.0
keeps-leaf p point (Win reducer buffer from to number) keeps =
    let first : (point +ℤ (from +ℤ pos 1)) ≡ (point +ℤ from +ℤ pos 1) = omega (arith, ints) in
    subst (λ (t : ℤ). get_or (forgotten_of p) buffer 0 ≤ ended_below t (get_or (lists_of p) buffer [])) first keeps.0
keeps-leaf p point (One op a) keeps = tt
keeps-leaf p point (Two op a b) keeps = tt
keeps-leaf p point (If c a b) keeps = tt

keeps-block : (p : RingsParts) (point : ℤ) (block : Block) → AllByRecursion (KeepsRead p point) (body_reads block)
    → AllByRecursion (IsKept (lists_of p) (forgotten_of p) point) block
keeps-block p point [] keeps = tt
keeps-block p point (i ∷ block) keeps =
    let parts = all-parts (KeepsRead p point) (reads_of i) (body_reads block) keeps in
    (keeps-leaf p point i parts.0, keeps-block p point block parts.1)

-- what the next turn of a loop that is used reads first is kept
pub keeps-body : (p : RingsParts) (place : ℕ) (w : Work) → IsCode p.code → AreRings p → ((k : ℕ) → IsTrimmed p k) → IsOpen p place w
    → w.used ≡ true → AllByRecursion (IsKept (lists_of p) (forgotten_of p) (turn_point w.loop (start_at p place))) w.loop.body
keeps-body p place w code are trimmed is_open used =
    let near = reads-near (length p.inputs + place) (length w.loop.maps) w.loop.body (work-ready p place w code are is_open.is).leaves in
    keeps-block p (turn_point w.loop (start_at p place)) w.loop.body
    (all-each (KeepsRead p (turn_point w.loop (start_at p place))) (body_reads w.loop.body)
    (λ i r at. let among = contains-at (body_reads w.loop.body) i r at in keeps-read p place w r code are trimmed is_open used among
    (all-contains (IsNear (length p.inputs + place)) (body_reads w.loop.body) r near among).there))

-- how many lists there are
open-long : (works : List Work) (starts : List ℤ) → length works ≡ length starts → length (open_lists works starts) ≡ length works
open-long [] starts h = refl
open-long (w ∷ works) [] h = absurd (omega arith)
open-long (w ∷ works) (start ∷ starts) h = ap suc (open-long works starts (omega arith))

pub lists-long : (p : RingsParts) → AreRings p → length (lists_of p) ≡ length p.inputs + length p.code.loops
lists-long p are =
    let count = works-length p.code p.inputs in
    let starts = length-map p.rings (λ (r : RingParts). r.start) in
    let long = open-long (works_in p) (starts_of p.rings) (omega arith) in
    omega (arith, length-append p.inputs (open_lists (works_in p) (starts_of p.rings)))

-- what a turn asks of the loop and of its state
pub record MayGoOn (p : RingsParts) (l : LoopParts) (start : ℤ) (state : LoopState) : Type 0 where
  pub ready : IsReady (length (lists_of p)) l
  pub low : l.lo ≤ℤ start
  pub high : start <ℤ l.hi
  pub kept : AllByRecursion (IsKept (lists_of p) (forgotten_of p) (ceil l.grid (start +ℤ pos 1))) l.body
  pub fit : (before : ℤ) × (before ≤ℤ ceil l.grid (start +ℤ pos 1)) × IsFit (lists_of p) l before state

pub same-all : (p : RingsParts) (place : ℕ) (w : Work) → IsCode p.code → AreRings p → slice_get (works_in p) place ≡ Some w → AreTold p place w
    → AllByRecursion (IsSameFor (lists_of p) (buffers_of p.code p.inputs) (turn_point w.loop (start_at p place))) w.loop.body
same-all p place w code are is told =
    same-body p (buffers_of p.code p.inputs) (length p.inputs + place) (length w.loop.maps) (turn_point w.loop (start_at p place)) w.loop.body
    code are (omega (arith, slice_get_within (works_in p) place w is, works-length p.code p.inputs)) (λ n below. refl) (work-ready p place w code are is).leaves told

pub may-go_on : (p : RingsParts) (place : ℕ) (turns : LoopTurns) (w : Work) → IsCode p.code → AreRings p → MayTurn p place turns w
    → MayGoOn p w.loop (start_at p place) turns.state
may-go_on p place turns w code are may =
    let is_open = may.is_open in
    let it = ring-of p place w code are is_open.is in
    let up = Fill-up w.loop.lo it.ring.start (made_by it.ring.start w.whole) it.kept.ring.fill in
    let within = slice_get_within (works_in p) place w is_open.is in
    let count = works-length p.code p.inputs in
    let long = lists-long p are in
    let same = same-all p place w code are is_open.is may.told in
    record {
      ready = ready-more (length p.inputs + place) (length (lists_of p)) w.loop (omega arith) (work-ready p place w code are is_open.is);
      low = omega (arith, ints);
      high = is_open.before;
      kept = may.kept;
      fit = (
        may.fit.0,
        may.fit.1,
        fit-back (lists_of p) (buffers_of p.code p.inputs) w.loop may.fit.0
            (turn_point w.loop (start_at p place)) turns.state same may.fit.1 may.fit.2,
      );
    }

-- the turn over what the rings tell is the next one of the whole buffer
pub turn-next : (p : RingsParts) (place : ℕ) (w : Work) → IsCode p.code → AreRings p → IsOpen p place w → AreTold p place w
    → slice_get w.whole (length (made_at p place w)) ≡ Some (turn (body_of (map stream_of (lists_of p)) w.loop) w.loop.grid w.loop.hi (start_at p place))
turn-next p place w code are is_open told =
    let n = length p.inputs + place in
    let front = take n (buffers_of p.code p.inputs) in
    let start = start_at p place in
    let it = ring-of p place w code are is_open.is in
    let work = work-is p.code p.inputs place w is_open.is in
    let ready = work-ready p place w code are is_open.is in
    let same = same-body p front n (length w.loop.maps) (turn_point w.loop start) w.loop.body code are (omega (arith, works-length p.code p.inputs))
    (λ i below. sym (get_or-take n (buffers_of p.code p.inputs) i [] below)) ready.leaves told in
    let over = turn-elsewhere (lists_of p) front w.loop start n ready same in
    let timed = work-timed p.code p.inputs place w (loops-timed p.code.loops code.grammatical.loops) is_open.is in
    let stands : Fill w.loop.lo start (made_by start w.whole) = subst (λ (t : ℤ). Fill w.loop.lo t (made_by t w.whole)) (sym it.start) it.kept.ring.fill in
    let whole : Fill w.loop.lo start (made_by start (turns (map stream_of front) w.loop)) =
    subst (λ (list : List Snapshot). Fill w.loop.lo start (made_by start list)) work.whole stands in
    let next = next-made (map stream_of front) w.loop start timed whole is_open.before in
    ap (λ (list : List Snapshot). slice_get list (length (made_by start list))) work.whole ∙ next ∙ ap (λ (s : Snapshot). Some s) (sym over)

-- a state that is fit over what the rings tell is fit over the whole buffers
pub fit-whole : (p : RingsParts) (place : ℕ) (w : Work) (state : LoopState) → IsCode p.code → AreRings p → slice_get (works_in p) place ≡ Some w
    → AreTold p place w → IsFit (lists_of p) w.loop (turn_point w.loop (start_at p place)) state
    → IsFit (buffers_of p.code p.inputs) w.loop (turn_point w.loop (start_at p place)) state
fit-whole p place w state code are is told fit =
    let point = turn_point w.loop (start_at p place) in
    fit-elsewhere (lists_of p) (buffers_of p.code p.inputs) w.loop point point state (same-all p place w code are is told) (omega (arith, ints)) fit
