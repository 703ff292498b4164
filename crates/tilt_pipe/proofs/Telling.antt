-- What a turn reads of the rings of a pipe: of each loop what it has made, and one null snapshot for the rest of its stretch. It gives the
-- same as the whole buffer, up to the loop's position.
use Rattle.std.proofs.Common.{◌≡◌, inl, inr, ◌≤◌, ◌<◌, ◌+◌, ◌-◌, ℕ, zero, suc, ℤ, neg_ℤ, ◌<ℤ◌, List, [], ◌∷◌, ◌++◌, map, length, get_or, slice_get, option_map, Some, None, refl, sym, ap, ◌∙◌, subst}
use Rattle.std.proofs.Common.{arith, length-append, ◌⊎◌, pos, ◌+ℤ◌, ◌≤ℤ◌, true, false, ◌||◌, if◌then◌else◌, int_lt}
use Rattle.std.proofs.lemmas.Bool.{cases_lt}
use Rattle.std.proofs.lemmas.Int.{by_lt_z, ints}
use Rattle.std.proofs.lemmas.List.{drop-append-le, get_or-map, get_or_append_left, length-map, append-nil, get_or-append-add}
use Rattle.std.proofs.lemmas.Option.{same_Some, get_or_from_slice_get, slice_get-map, slice_get_read, slice_get_within}
use Rattle.std.specs.Ordering.{int_eq}
use Rattle.std.specs.List.{AllByRecursion}
use Rattle.circular_buffer.proofs.Places.{slice_get-drop, slice_get-some}
use Rattle.tilt_base.specs.declared.limits.TheConstants.{WIDE}
use Rattle.tilt_base.proofs.Lists.{all-parts}
use Rattle.tilt_code.specs.References.{IsCode}
use Rattle.tilt_code.specs.Code.{Block}
use Rattle.tilt_code.specs.Run.{buffers_of}
use Rattle.tilt_code.specs.declared.instr.Instr.{Instr}
use Rattle.tilt_code.specs.declared.instr.Instr.TheVariants.{Const, Null, Argument, Port, Win, One, Two, If}
use Rattle.tilt_stream.specs.Snap.{Snapshot, InOrder, gap_before, ended_below, Fill}
use Rattle.tilt_stream.proofs.Filling.{Fill-up}
use Rattle.tilt_stream.specs.Agreement.{IsSameUpTo}
use Rattle.tilt_stream.proofs.Ended.{none_ended}
use Rattle.tilt_stream.proofs.Streams.{cell_at-before, mark_at-before, mark_at-start}
use Rattle.tilt_stream.specs.Stream.{cell_at, mark_at, covers}
use Rattle.tilt_turn.specs.Same.{IsSameFor}
use Rattle.tilt_pipe.proofs.RingsKept.{IsAt, is-at, kept-count, kept-few}
use Rattle.tilt_pipe.proofs.Standing.{gap-none, gap-some, open-in_order, all-made, below_end, made-rest}
use Rattle.tilt_pipe.proofs.Works.{works-length, input-is, work-is, work-there}
use Rattle.tilt_pipe.specs.Made.{Work}
use Rattle.tilt_pipe.specs.Positions.{AreRings, RingParts, RingsParts, made_by, open_list, open_lists, starts_of, works_in, lists_of, start_at}
use Rattle.tilt_pipe.specs.Chain.{IsReached, IsTold}
use Rattle.tilt_pipe.specs.Reads.{body_reads, reads_of}
use Rattle.tilt_turn.specs.Ready.{IsReadable}
use Rattle.tilt_pipe.specs.declared.read.Read.{Read}

-- the list of the loop at a place
open-from : (works : List Work) (starts : List ℤ) (place : ℕ) (w : Work) (start : ℤ) → slice_get works place ≡ Some w
    → slice_get starts place ≡ Some start → get_or (open_lists works starts) place [] ≡ open_list w start
open-from [] starts place w start of is = absurd (cc of)
open-from (x ∷ works) [] place w start of is = absurd (cc is)
open-from (x ∷ works) (t ∷ starts) zero w start of is = ap (λ (y : Work). open_list y t) (same_Some x w of) ∙ ap (open_list w) (same_Some t start is)
open-from (x ∷ works) (t ∷ starts) (suc place) w start of is = open-from works starts place w start of is

-- after the last loop there is none
open-past : (works : List Work) (starts : List ℤ) (place : ℕ) → length works ≤ place → get_or (open_lists works starts) place [] ≡ []
open-past [] starts place past = refl
open-past (x ∷ works) [] place past = refl
open-past (x ∷ works) (t ∷ starts) zero past = absurd (omega arith)
open-past (x ∷ works) (t ∷ starts) (suc place) past = open-past works starts place (omega arith)

-- what a turn reads of the loop at a place
abbrev pub open_at : RingsParts → ℕ → List Snapshot
open_at p place = get_or (open_lists (works_in p) (starts_of p.rings)) place []

pub open_at-past : (p : RingsParts) (place : ℕ) → AreRings p → length p.rings ≤ place → open_at p place ≡ []
open_at-past p place are past =
    open-past (works_in p) (starts_of p.rings) place (omega (arith, works-length p.code p.inputs, are.many))

-- the loop, its ring, and what a turn reads of it
pub record IsOpenAt (p : RingsParts) (place : ℕ) (r : RingParts) : Type 0 where
  pub work : Work
  pub it : IsAt p place work r
  pub list : open_at p place ≡ made_by r.start work.whole ++ gap_before (Some r.start) work.loop.hi
  pub in_order : InOrder (neg_ℤ WIDE) WIDE (open_at p place)
  pub count : r.forgotten + length r.held ≡ length (made_by r.start work.whole)
  pub few : length (made_by r.start work.whole) < 9223372036854775807
  pub forgotten : get_or (map (λ (x : RingParts). x.forgotten) p.rings) place 0 ≡ r.forgotten

pub open-at : (p : RingsParts) (place : ℕ) (r : RingParts) → IsCode p.code → AreRings p → slice_get p.rings place ≡ Some r → IsOpenAt p place r
open-at p place r code are at =
    let there = work-there p place (omega (arith, are.many, slice_get_within p.rings place r at)) in
    let w = there.0 in
    let it = is-at p place w r code are there.1 at in
    let start = slice_get-map (λ (x : RingParts). x.start) p.rings place ∙ ap (option_map (λ (x : RingParts). x.start)) at in
    let gone = slice_get-map (λ (x : RingParts). x.forgotten) p.rings place ∙ ap (option_map (λ (x : RingParts). x.forgotten)) at in
    let list = open-from (works_in p) (starts_of p.rings) place w r.start it.of start in
    record {
      work = w;
      it = it;
      list = list;
      in_order = rw list (open-in_order w.loop.lo w.loop.hi r.start (made_by r.start w.whole) it.kept.low it.kept.high it.kept.ring.fill it.kept.ring.within);
      count = kept-count w r it.kept;
      few = kept-few w r it.kept;
      forgotten = get_or_from_slice_get (map (λ (x : RingParts). x.forgotten) p.rings) place r.forgotten 0 gone;
    }

-- the same, where a ring is read off a slice
pub open-read : (p : RingsParts) (place : ℕ) (r : RingParts) → IsCode p.code → AreRings p
    → (place < length p.rings) × ((d : RingParts) → r ≡ get_or p.rings place d) → IsOpenAt p place r
open-read p place r code are is = open-at p place r code are (slice_get_read p.rings (length p.rings) place r refl is.0 (is.1 r))

-- how many these are
pub open-count : (p : RingsParts) (place : ℕ) (r : RingParts) → IsOpenAt p place r
    → r.forgotten + length (r.held ++ gap_before (Some r.start) r.hi) ≡ length (open_at p place)
open-count p place r o =
    let gap = gap_before (Some r.start) r.hi in
    let list = rw (← o.it.kept.ring.hi) at (ap length o.list) in
    omega (arith, o.count, list, length-append r.held gap, length-append (made_by r.start o.work.whole) gap)

-- of those that aren't forgotten it is what the ring holds, with that null snapshot
pub open-kept : (p : RingsParts) (place number : ℕ) (r : RingParts) → IsOpenAt p place r → r.forgotten ≤ number
    → slice_get (open_at p place) number ≡ slice_get (r.held ++ gap_before (Some r.start) r.hi) (number - r.forgotten)
open-kept p place number r o kept =
    let made = made_by r.start o.work.whole in
    let gap = gap_before (Some r.start) o.work.loop.hi in
    ap (λ (xs : List Snapshot). slice_get xs number) o.list
    ∙ sym (slice_get-drop r.forgotten (made ++ gap) (number - r.forgotten) number (omega arith))
    ∙ ap (λ (xs : List Snapshot). slice_get xs (number - r.forgotten)) (drop-append-le r.forgotten made gap o.it.kept.ring.forgotten)
    ∙ rw (o.it.kept.ring.held, o.it.kept.ring.hi) refl

pub input-forgotten : (inputs : List (List Snapshot)) (others : List ℕ) (buffer : ℕ) → buffer < length inputs
    → get_or (map (λ (rows : List Snapshot). 0) inputs ++ others) buffer 0 ≡ 0
input-forgotten inputs others buffer within =
    let count : length (map (λ (rows : List Snapshot). 0) inputs) ≡ length inputs = length-map inputs (λ (rows : List Snapshot). 0) in
    get_or_append_left (map (λ (rows : List Snapshot). 0) inputs) others 0 buffer (subst (λ (n : ℕ). buffer < n) (sym count) within)
    ∙ get_or-map (λ (rows : List Snapshot). 0) inputs buffer [] 0 within

-- what fills a stretch lies in order on it
Fill-InOrder : (lo hi : ℤ) (list : List Snapshot) → Fill lo hi list → InOrder lo hi list
Fill-InOrder lo hi [] h = tt
Fill-InOrder lo hi (s ∷ ss) h =
    let within = Fill-up s.end hi ss h.2 in
    (omega (arith, ints), omega (arith, ints), within, Fill-InOrder s.end hi ss h.2)

-- a stretch as one null snapshot, and any list that fills it, up to the tick after its lower end
abbrev rest_of : ℤ → ℤ → List Snapshot
rest_of start hi = record { start = start; end = hi; value = None } ∷ []

module _ (start hi : ℤ) (some : start <ℤ hi) (list : List Snapshot) (h : Fill start hi list) where
  rest-ended : (tick : ℤ) → tick ≤ℤ start → ended_below tick (rest_of start hi) ≡ ended_below tick list
  rest-ended tick low =
      let one : int_lt hi tick ≡ false = grind (arith, ints) in
      rw one (sym (none_ended start hi list tick (Fill-InOrder start hi list h) low))

  rest-cells : (tick : ℤ) → tick ≤ℤ start → cell_at (rest_of start hi) tick ≡ cell_at list tick
  rest-cells tick low =
      let one : InOrder start hi (rest_of start hi) = (omega (arith, ints), some, omega (arith, ints), tt) in
      cell_at-before start hi (rest_of start hi) tick one low ∙ sym (cell_at-before start hi list tick (Fill-InOrder start hi list h) low)

-- the marks up to the tick after the lower end
rest-marks : (start hi : ℤ) (list : List Snapshot) → start <ℤ hi → Fill start hi list → (tick : ℤ) → tick ≤ℤ (start +ℤ pos 1)
    → mark_at (rest_of start hi) tick ≡ mark_at list tick
rest-marks start hi [] some h tick low = absurd (omega (arith, ints))
rest-marks start hi (s ∷ ss) some h tick low =
    let far : int_eq tick (hi +ℤ pos 1) ≡ false = grind (arith, ints) in
    let end : int_eq tick (s.end +ℤ pos 1) ≡ false = grind (arith, ints) in
    let behind = mark_at-before s.end hi ss tick (Fill-InOrder s.end hi ss h.2) (omega (arith, ints)) in
    rw (far, end, behind, h.0) refl

-- after what is made, the rest may be exchanged for a list that gives the same
made-then : {A : Type 0} (tell : List Snapshot → A) (add : Snapshot → A → A)
    → ((s : Snapshot) (ss : List Snapshot) → tell (s ∷ ss) ≡ add s (tell ss)) → (made a b : List Snapshot) → tell a ≡ tell b
    → tell (made ++ a) ≡ tell (made ++ b)
made-then tell add one [] a b h = h
made-then tell add one (s ∷ made) a b h = one s (made ++ a) ∙ ap (add s) (made-then tell add one made a b h) ∙ sym (one s (made ++ b))

made-marks : (made a b : List Snapshot) (tick : ℤ) → mark_at a tick ≡ mark_at b tick → mark_at (made ++ a) tick ≡ mark_at (made ++ b) tick
made-marks made a b tick =
    made-then (λ list. mark_at list tick) (λ s m. int_eq tick (s.start +ℤ pos 1) || int_eq tick (s.end +ℤ pos 1) || m) (λ s ss. refl) made a b

-- a null snapshot for the rest of the stretch gives the same up to where it begins, and above it the same next mark: its own first one
open-same : (tick start hi : ℤ) (made rest : List Snapshot) → start <ℤ hi → Fill start hi rest → tick ≤ℤ start
    → IsSameUpTo tick (made ++ rest_of start hi) (made ++ rest)
open-same tick start hi made rest some h low =
    let gap = rest_of start hi in
    record {
      ended = λ t le. made-then (ended_below t) (λ s n. if int_lt s.end t then suc n else n) (λ s ss. refl) made gap rest (rest-ended start hi some rest h t (omega (arith, ints)));
      cells = λ t le. made-then (λ list. cell_at list t) (λ s cell. if covers s t then s.value else cell) (λ s ss. refl) made gap rest (rest-cells start hi some rest h t (omega (arith, ints)));
      marks = λ t le. made-marks made gap rest t (rest-marks start hi rest some h t (omega (arith, ints)));
      next = λ t above clear.
          by_lt_z (start +ℤ pos 1) t
          (λ far.
          let first = mark_at-start made (record { start = start; end = hi; value = None }) [] in
          let none = clear (start +ℤ pos 1) (omega (arith, ints)) far in
          let never : true ≡ false = sym first ∙ none in
          absurd (cc never)) (λ near. made-marks made gap rest t (rest-marks start hi rest some h t near));
    }

-- equal lists give the same
pub same-is : (tick : ℤ) (a b : List Snapshot) → a ≡ b → IsSameUpTo tick a b
same-is tick a b is = record {
  ended = λ t le. ap (ended_below t) is;
  cells = λ t le. ap (λ (list : List Snapshot). cell_at list t) is;
  marks = λ t le. ap (λ (list : List Snapshot). mark_at list t) is;
  next = λ t above clear. ap (λ (list : List Snapshot). mark_at list t) is;
}

-- what a turn reads gives the same as the whole buffer: everywhere if the loop is at the end of its stretch, else up to a tick it reached
pub made-same : (lo hi start tick : ℤ) (whole : List Snapshot) → Fill lo hi whole → Fill lo start (made_by start whole)
    → (hi ≤ℤ start) ⊎ (tick ≤ℤ start) → IsSameUpTo tick (made_by start whole ++ gap_before (Some start) hi) whole
made-same lo hi start tick whole h stands reached =
    by_lt_z start hi
    (λ some.
    let parts = made-rest lo hi start whole h stands in
    rw (gap-some start hi some)
    (subst (λ (list : List Snapshot). IsSameUpTo tick (made_by start whole ++ rest_of start hi) list) (sym parts.1)
    (open-same tick start hi (made_by start whole) parts.0 some parts.2 (below_end tick start hi reached some)))) (λ none.
    rw (gap-none start hi none)
    (same-is tick (made_by start whole ++ []) whole (append-nil (made_by start whole) ∙ all-made lo hi start whole h none)))

-- the buffer of a loop
same-loop : (p : RingsParts) (point : ℤ) (r : Read) (source : ℕ) → IsCode p.code → AreRings p → source < length p.code.loops
    → r.buffer ≡ length p.inputs + source → IsTold p point r
    → IsSameUpTo (point +ℤ r.last) (get_or (lists_of p) r.buffer []) (get_or (buffers_of p.code p.inputs) r.buffer [])
same-loop p point r source code are within at told =
    let last = point +ℤ r.last in
    let found = slice_get-some p.rings source (omega (arith, are.many, within)) in
    let ring = found.0 in
    let o = open-at p source ring code are found.1 in
    let w = o.work in
    let reached : (w.loop.hi ≤ℤ ring.start) ⊎ (last ≤ℤ ring.start) =
    subst (λ (t : ℤ). (w.loop.hi ≤ℤ t) ⊎ (last ≤ℤ t)) o.it.start (told source w at o.it.of) in
    let same = made-same w.loop.lo w.loop.hi ring.start last w.whole o.it.kept.fills o.it.kept.ring.fill reached in
    let left : get_or (lists_of p) r.buffer [] ≡ open_at p source =
    ap (λ (n : ℕ). get_or (lists_of p) n []) at ∙ get_or-append-add p.inputs (open_lists (works_in p) (starts_of p.rings)) source [] in
    let right : get_or (buffers_of p.code p.inputs) r.buffer [] ≡ w.whole =
    ap (λ (n : ℕ). get_or (buffers_of p.code p.inputs) n []) at ∙ (work-is p.code p.inputs source w o.it.of).filled in
    subst (λ (list : List Snapshot). IsSameUpTo last (get_or (lists_of p) r.buffer []) list) (sym right)
    (subst (λ (list : List Snapshot). IsSameUpTo last list w.whole) (sym (left ∙ o.list)) same)

-- and of any read
pub same-read : (p : RingsParts) (point : ℤ) (r : Read) → IsCode p.code → AreRings p → r.buffer < length p.inputs + length p.code.loops
    → IsTold p point r → IsSameUpTo (point +ℤ r.last) (get_or (lists_of p) r.buffer []) (get_or (buffers_of p.code p.inputs) r.buffer [])
same-read p point r code are within told =
    elim (cases_lt r.buffer (length p.inputs)) as
    (λ _. IsSameUpTo (point +ℤ r.last) (get_or (lists_of p) r.buffer []) (get_or (buffers_of p.code p.inputs) r.buffer [])) [
      | inl input ↦ same-is (point +ℤ r.last) (get_or (lists_of p) r.buffer []) (get_or (buffers_of p.code p.inputs) r.buffer [])
          (get_or_append_left p.inputs (open_lists (works_in p) (starts_of p.rings)) [] r.buffer input ∙ sym (input-is p.code p.inputs r.buffer input))
      | inr behind ↦ same-loop p point r (r.buffer - length p.inputs) code are (omega arith) (omega arith) told
    ]

-- of what the leaves of a body read, over any lists that hold the whole buffers below a number
same-leaf : (p : RingsParts) (wholes : List (List Snapshot)) (buffers maps : ℕ) (point : ℤ) (i : Instr) → IsCode p.code → AreRings p
    → buffers ≤ length p.inputs + length p.code.loops
    → ((n : ℕ) → n < buffers → get_or (buffers_of p.code p.inputs) n [] ≡ get_or wholes n []) → IsReadable buffers maps i
    → AllByRecursion (IsTold p point) (reads_of i) → IsSameFor (lists_of p) wholes point i
same-leaf p wholes buffers maps point (Const number) code are within hold near told = tt
same-leaf p wholes buffers maps point Null code are within hold near told = tt
same-leaf p wholes buffers maps point Argument code are within hold near told = tt
same-leaf p wholes buffers maps point (Port buffer offset) code are within hold near told =
    let r : Read = record { buffer = buffer; first = offset; last = offset } in
    let there_ = near.0 in
    subst (λ (list : List Snapshot). IsSameUpTo (point +ℤ offset) (get_or (lists_of p) buffer []) list) (hold buffer there_)
    (same-read p point r code are (omega arith) told.0)
same-leaf p wholes buffers maps point (Win reducer buffer from to number) code are within hold near told =
    let r : Read = record { buffer = buffer; first = from +ℤ pos 1; last = to } in
    let there_ = near.0 in
    subst (λ (list : List Snapshot). IsSameUpTo (point +ℤ to) (get_or (lists_of p) buffer []) list) (hold buffer there_)
    (same-read p point r code are (omega arith) told.0)
same-leaf p wholes buffers maps point (One op a) code are within hold near told = tt
same-leaf p wholes buffers maps point (Two op a b) code are within hold near told = tt
same-leaf p wholes buffers maps point (If c a b) code are within hold near told = tt

pub same-body : (p : RingsParts) (wholes : List (List Snapshot)) (buffers maps : ℕ) (point : ℤ) (block : Block) → IsCode p.code → AreRings p
    → buffers ≤ length p.inputs + length p.code.loops
    → ((n : ℕ) → n < buffers → get_or (buffers_of p.code p.inputs) n [] ≡ get_or wholes n [])
    → AllByRecursion (IsReadable buffers maps) block → AllByRecursion (IsTold p point) (body_reads block)
    → AllByRecursion (IsSameFor (lists_of p) wholes point) block
same-body p wholes buffers maps point [] code are within hold near told = tt
same-body p wholes buffers maps point (i ∷ block) code are within hold near told =
    let parts = all-parts (IsTold p point) (reads_of i) (body_reads block) told in (
      same-leaf p wholes buffers maps point i code are within hold near.0 parts.0,
      same-body p wholes buffers maps point block code are within hold near.1 parts.1,
    )

-- a read of the buffer of a loop is known, if that loop has made enough
pub told-one : (p : RingsParts) (point last : ℤ) (r : Read) (source : ℕ) → r.buffer ≡ length p.inputs + source → r.last ≤ℤ last
    → IsReached p source (point +ℤ last) → IsTold p point r
told-one p point last r source at most reached = λ other w is of.
    let same : other ≡ source = omega arith in
    let made = reached w (subst (λ (n : ℕ). slice_get (works_in p) n ≡ Some w) same of) in
    subst (λ (n : ℕ). (w.loop.hi ≤ℤ start_at p n) ⊎ ((point +ℤ r.last) ≤ℤ start_at p n)) (sym same)
    (elim made as (λ _. (w.loop.hi ≤ℤ start_at p source) ⊎ ((point +ℤ r.last) ≤ℤ start_at p source)) [
      | inl end ↦ inl end
      | inr far ↦ inr (omega (arith, ints))
    ])
