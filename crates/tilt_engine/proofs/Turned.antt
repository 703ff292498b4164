-- The next turn of a loop of an engine: it may be made, and what is so after it.
use Rattle.std.proofs.Common.{◌≡◌, ◌⊎◌, inl, inr, ◌<◌, ◌+◌, ℕ, suc, ℤ, pos, neg_ℤ, ◌+ℤ◌, ◌<ℤ◌, ◌≤ℤ◌, Bool, true, false, List, [], ◌∷◌, ◌++◌, length, map, get_or, slice_get, slice_set}
use Rattle.std.proofs.Common.{Option, Some, None, refl, sym, ap, ◌∙◌, subst, arith}
use Rattle.std.proofs.lemmas.Bool.{cases_eq}
use Rattle.std.proofs.lemmas.Int.{ints, by_lt_z}
use Rattle.std.proofs.lemmas.List.{append_assoc, length-append, length-map, length-set}
use Rattle.std.proofs.lemmas.Option.{same_Some, slice_get_read, slice_get_within}
use Rattle.std.specs.List.{AllByRecursion}
use Rattle.std.specs.Option.{ForSome}
use Rattle.circular_buffer.proofs.Places.{slice_get-set_other, slice_get-set_same, slice_get-some}
use Rattle.tilt_base.specs.Grid.{ceil}
use Rattle.tilt_base.specs.declared.limits.TheConstants.{WIDE}
use Rattle.tilt_code.specs.Body.{body_of}
use Rattle.tilt_code.specs.Code.{Block, CodeParts, LoopParts}
use Rattle.tilt_code.specs.References.{IsCode}
use Rattle.tilt_code.specs.Run.{buffers_of}
use Rattle.tilt_code.specs.Turn.{turn}
use Rattle.tilt_code.specs.declared.instr.Instr.{Instr}
use Rattle.tilt_code.specs.declared.instr.Instr.TheVariants.{Const, Null, Argument, Port, Win, One, Two, If}
use Rattle.tilt_engine.proofs.CodeHorizons.{loop_at-is, turn-known}
use Rattle.tilt_engine.proofs.Gone.{begins-rest, gone-later, rests-long}
use Rattle.tilt_engine.proofs.LeftLists.{turn-left}
use Rattle.tilt_engine.proofs.Lefts.{left-block}
use Rattle.tilt_engine.proofs.Ringed.{lefts-at, list-begins, ring-at, rings-are}
use Rattle.tilt_engine.specs.Gone.{IsGoneFor, rests}
use Rattle.tilt_engine.specs.CodeHorizon.{block_horizon, code_horizons, instr_horizon}
use Rattle.tilt_engine.specs.Standing.{AreLoops, IsDone, IsLoopAt, IsStateAt, IsWaiting, MayTurn, gone_at, loop_at, ring_of, rings_parts, turns_left, turns_of, with_piece}
use Rattle.tilt_engine.specs.Stock.{IsPieceOn, MadeParts, made_list, reached}
use Rattle.tilt_feed.proofs.Known.{IsKnownAt-tested, known-below, known-first, known-later, known-second, tested-IsKnownAt}
use Rattle.tilt_feed.specs.Horizon.{Horizon, IsKnownAt, horizon_of, is_known_at}
use Rattle.tilt_pipe.proofs.Keeping.{turn-next}
use Rattle.tilt_pipe.proofs.Nears.{ready-more, turn-near, work-ready}
use Rattle.tilt_pipe.proofs.RingsKept.{is-at}
use Rattle.tilt_pipe.proofs.Standing.{IsNextMade, next-is}
use Rattle.tilt_pipe.proofs.Wanted.{turn_point-rises}
use Rattle.tilt_pipe.proofs.Works.{work-fills, work-is, works-length}
use Rattle.tilt_code.proofs.Runs.{loops-timed}
use Rattle.tilt_pipe.specs.Chain.{AreTold, IsTold}
use Rattle.tilt_pipe.specs.Made.{Work, works_of}
use Rattle.tilt_pipe.specs.Positions.{AreRings, IsOpen, RingsParts, lists_of, made_by, start_at}
use Rattle.tilt_pipe.specs.Reads.{body_reads, turn_point}
use Rattle.tilt_stream.proofs.Cut.{int_gap_is}
use Rattle.tilt_stream.proofs.Filling.{Fill-up}
use Rattle.tilt_stream.specs.Snap.{Snapshot}
use Rattle.tilt_stream.specs.Stream.{stream_of}
use Rattle.tilt_turn.proofs.Elsewhere.{fit-back, fit-elsewhere}
use Rattle.tilt_turn.specs.Same.{IsSameFor}
use Rattle.tilt_turn.specs.Held.{IsFit}
use Rattle.tilt_turn.specs.Ready.{IsKept, IsReadable, IsReady}
use Rattle.tilt_turn.specs.declared.state.LoopState.{LoopState}

-- nothing is let go
kept-leaf : (lists : List (List Snapshot)) (point : ℤ) (i : Instr) → IsKept lists [] point i
kept-leaf lists point (Const number) = tt
kept-leaf lists point Null = tt
kept-leaf lists point Argument = tt
kept-leaf lists point (Port buffer offset) = omega arith
kept-leaf lists point (Win reducer buffer from to number) = omega arith
kept-leaf lists point (One op a) = tt
kept-leaf lists point (Two op a b) = tt
kept-leaf lists point (If c a b) = tt

all-kept : (lists : List (List Snapshot)) (point : ℤ) (block : Block) → AllByRecursion (IsKept lists [] point) block
all-kept lists point [] = tt
all-kept lists point (i ∷ block) = (kept-leaf lists point i, all-kept lists point block)

-- what a turn asks of the loop and of its state
pub record MayMake (lists : List (List Snapshot)) (l : LoopParts) (start : ℤ) (state : LoopState) : Type 0 where
  pub ready : IsReady (length lists) l
  pub low : l.lo ≤ℤ start
  pub high : start <ℤ l.hi
  pub kept : AllByRecursion (IsKept lists [] (ceil l.grid (start +ℤ pos 1))) l.body
  pub fit : (before : ℤ) × (before ≤ℤ ceil l.grid (start +ℤ pos 1)) × IsFit lists l before state

module _ (code : CodeParts) (rows gone : List (List Snapshot)) (hs : List Horizon) (loops : List MadeParts) (states : List LoopState) (place : ℕ)
    (is : IsCode code) (are : AreLoops code rows gone hs loops states place) where
  abbrev p : RingsParts
  p = rings_parts code rows gone loops

  abbrev H : List Horizon
  H = code_horizons code hs

  abbrev lists : List (List Snapshot)
  lists = rests gone rows ++ map made_list loops

  abbrev wholes : List (List Snapshot)
  wholes = rests gone (buffers_of code rows)

  -- a read of a known tick of an earlier buffer
  told-read : (point : ℤ) (buffer : ℕ) (first last : ℤ) → buffer < length rows + place → IsKnownAt (horizon_of H buffer) (point +ℤ last)
      → IsTold p point (record { buffer = buffer; first = first; last = last })
  told-read point buffer first last near known = λ source v from of.
      let within = slice_get_within (works_of code rows) source v of in
      let found = slice_get-some loops source (omega (arith, within, are.many, works-length code rows)) in
      let m = found.0 in
      let state = slice_get-some states source (omega (arith, within, are.many_states, works-length code rows)) in
      let it = are.each source v m state.0 of found.1 state.1 in
      let at = is-at p source v (ring_of (gone_at code gone source) m) is (rings-are code rows gone hs loops states place is are) of
      (ring-at gone (length code.inputs) loops source m found.1) in
      let number : buffer ≡ length code.inputs + source = omega (arith, from, are.inputs) in
      let there : IsKnownAt (loop_at code hs source) (point +ℤ last) = subst (λ (n : ℕ). IsKnownAt (horizon_of H n) (point +ℤ last)) number known in
      let before : source < place = omega (arith, near, from) in
      elim (are.done source m before found.1 (point +ℤ last) there) as (λ _. (v.loop.hi ≤ℤ start_at p source) ⊎ ((point +ℤ last) ≤ℤ start_at p source)) [
        | inl ended ↦ inl (subst (λ (t : ℤ). t ≤ℤ start_at p source) it.hi (subst (λ (t : ℤ). m.hi ≤ℤ t) (sym at.start) ended))
        | inr far ↦ inr (subst (λ (t : ℤ). (point +ℤ last) ≤ℤ t) (sym at.start) far)
      ]

  told-block : (point : ℤ) (maps : ℕ) (block : Block) → AllByRecursion (IsReadable (length rows + place) maps) block
      → IsKnownAt (block_horizon H block) point → AllByRecursion (IsTold p point) (body_reads block)
  told-block point maps [] near known = tt
  told-block point maps (Const number ∷ block) near known = told-block point maps block near.1 known
  told-block point maps (Null ∷ block) near known = told-block point maps block near.1 known
  told-block point maps (Argument ∷ block) near known = told-block point maps block near.1 known
  told-block point maps (Port buffer offset ∷ block) near known =
      let h = horizon_of H buffer in
      let own = known-later h offset point (known-first (instr_horizon H (Port buffer offset)) (block_horizon H block) point known) in
      let rest = known-second (instr_horizon H (Port buffer offset)) (block_horizon H block) point known in (
        told-read point buffer offset offset near.0.0 own,
        told-block point maps block near.1 rest,
      )
  told-block point maps (Win reducer buffer from to number ∷ block) near known =
      let h = horizon_of H buffer in
      let i : Instr = Win reducer buffer from to number in
      let own = known-later h to point (known-first (instr_horizon H i) (block_horizon H block) point known) in
      let rest = known-second (instr_horizon H i) (block_horizon H block) point known in (
        told-read point buffer (from +ℤ pos 1) to near.0.0 own,
        told-block point maps block near.1 rest,
      )
  told-block point maps (One op a ∷ block) near known = told-block point maps block near.1 known
  told-block point maps (Two op a b ∷ block) near known = told-block point maps block near.1 known
  told-block point maps (If c a b ∷ block) near known = told-block point maps block near.1 known

  module _ (w : Work) (m : MadeParts) (state : LoopState) (of : slice_get (works_of code rows) place ≡ Some w) (at : slice_get loops place ≡ Some m)
      (own : slice_get states place ≡ Some state) (may : MayTurn (loop_at code hs place) m) where
    it : IsLoopAt code rows gone hs place w m state
    it = are.each place w m state of at own

    rings : AreRings p
    rings = rings-are code rows gone hs loops states place is are

    -- the loop is where its settled snapshots end
    stands : start_at p place ≡ m.settled
    stands =
        (is-at p place w (ring_of (gone_at code gone place) m) is rings of (ring-at gone (length code.inputs) loops place m at)).start
        ∙ ap (λ (s : Option Snapshot). reached (record m { waiting = s })) may.none

    low : w.loop.lo ≤ℤ m.settled
    low = Fill-up w.loop.lo m.settled (made_by m.settled w.whole) it.fill

    before : m.settled <ℤ w.loop.hi
    before = let end = it.hi in let under = may.before in rw end at under

    open_ : IsOpen p place w
    open_ = record { is = of; before = rw stands before }

    ready : IsReady (length rows + place) w.loop
    ready = work-ready p place w is rings of

    point : ℤ
    point = turn_point w.loop m.settled

    -- what the turn reads is known
    known : IsKnownAt (block_horizon H w.loop.body) (turn_point w.loop m.settled)
    known =
        let inputs = are.inputs in
        let here = loop_at-is code hs place w.loop are.horizons (work-is code rows place w of).loop
        (subst (λ (n : ℕ). AllByRecursion (IsReadable (n + place) (length w.loop.maps)) w.loop.body) inputs ready.leaves) in
        turn-known H w.loop m.settled ready.grid low before (subst (λ (h : Horizon). IsKnownAt h (m.settled +ℤ pos 1)) here may.first)

    told : AreTold p place w
    told =
        subst (λ (t : ℤ). AllByRecursion (IsTold p (turn_point w.loop t)) (body_reads w.loop.body)) (sym stands)
        (told-block (turn_point w.loop m.settled) (length w.loop.maps) w.loop.body ready.leaves known)

    near-low : neg_ℤ WIDE ≤ℤ turn_point w.loop m.settled
    near-low = subst (λ (t : ℤ). neg_ℤ WIDE ≤ℤ turn_point w.loop t) stands (turn-near p place w is rings open_).low

    lists-count : length lists ≡ length rows + length code.loops
    lists-count = omega (arith, length-append (rests gone rows) (map made_list loops), rests-long gone rows, length-map loops made_list, are.many)

    all-ready : IsReady (length lists) w.loop
    all-ready =
        let within = slice_get_within (works_of code rows) place w of in
        ready-more (length rows + place) (length lists) w.loop (omega (arith, within, works-length code rows, lists-count)) ready

    -- it reads the same of what is left as of the whole buffers
    same : AllByRecursion (IsSameFor lists wholes (turn_point w.loop m.settled)) w.loop.body
    same =
        let within = slice_get_within (works_of code rows) place w of in
        left-block code rows gone hs loops states place is are (turn_point w.loop m.settled) (length w.loop.maps) w.loop.body
        (omega (arith, within, works-length code rows)) ready.leaves known

    state-fit : IsStateAt wholes H w.loop m.settled state
        → (earlier : ℤ) × (earlier ≤ℤ turn_point w.loop m.settled) × IsFit lists w.loop earlier state
    state-fit (inl fresh) = (turn_point w.loop m.settled, omega (arith, ints), fresh lists (turn_point w.loop m.settled) all-ready near-low)
    state-fit (inr fit) =
        (fit.point, fit.below, fit-back lists wholes w.loop fit.point (turn_point w.loop m.settled) state same fit.below fit.fit)

    -- the turn may be made
    pub may-make : MayMake lists w.loop m.settled state
    may-make = record {
      ready = all-ready;
      low = low;
      high = before;
      kept = all-kept lists (turn_point w.loop m.settled) w.loop.body;
      fit = state-fit it.fit;
    }

    -- the turn over what is left is that over all that the loops have made
    over-left : turn (body_of (map stream_of lists) w.loop) w.loop.grid w.loop.hi m.settled
        ≡ turn (body_of (map stream_of (lists_of p)) w.loop) w.loop.grid w.loop.hi m.settled
    over-left =
        let within = slice_get_within (works_of code rows) place w of in
        turn-left gone (lists_of p) lists w.loop m.settled (length rows + place) ready
        (λ number below.
        let begins = list-begins code rows gone hs loops states place is are number (omega (arith, below, within, works-length code rows, are.inputs)) in
        begins-rest (get_or gone number []) (get_or (lists_of p) number []) begins
        ∙ ap (λ (rest : List Snapshot). get_or gone number [] ++ rest) (sym (lefts-at code rows gone hs loops states place is are number)))
        (it.unread before)

    module _ (s : Snapshot) (new : LoopState) (snap : s ≡ turn (body_of (map stream_of lists) w.loop) w.loop.grid w.loop.hi m.settled)
        (fit : IsFit lists w.loop (ceil w.loop.grid (m.settled +ℤ pos 1)) new) where
      -- its snapshot is the next one of the whole buffer
      next : slice_get w.whole (length (made_by m.settled w.whole)) ≡ Some s
      next =
          let here = turn-next p place w is rings open_ told in
          let turned : turn (body_of (map stream_of (lists_of p)) w.loop) w.loop.grid w.loop.hi (start_at p place) ≡ s =
          ap (λ (t : ℤ). turn (body_of (map stream_of (lists_of p)) w.loop) w.loop.grid w.loop.hi t) stands ∙ sym over-left ∙ sym snap in
          ap (λ (t : ℤ). slice_get w.whole (length (made_by t w.whole))) (sym stands) ∙ here ∙ ap (λ (x : Snapshot). Some x) turned

      after : IsNextMade w.loop.lo w.loop.hi m.settled w.whole s
      after =
          let fills = work-fills code rows place w (loops-timed code.loops is.grammatical.loops) of in
          next-is w.loop.lo w.loop.hi m.settled w.whole s fills.0 it.fill next

      pub piece-on : IsPieceOn m.settled m.hi s
      piece-on =
          let end = it.hi in
          let begins = after.begins in
          let rises = after.rises in
          record { begins = begins; rises = rw begins rises; within = rw end after.within }

      fit-after : (settled : ℤ) → m.settled ≤ℤ settled → IsStateAt wholes H w.loop settled new
      fit-after settled up =
          let point = turn_point w.loop m.settled in
          inr (record {
            point = point;
            low = near-low;
            below = turn_point-rises w.loop m.settled settled ready.grid up;
            known = known;
            fit = fit-elsewhere lists wholes w.loop point point new same (omega (arith, ints)) fit;
          })

      unread-after : (settled : ℤ) → m.settled ≤ℤ settled → AllByRecursion (IsGoneFor gone (turn_point w.loop settled)) w.loop.body
      unread-after settled up =
          gone-later gone (turn_point w.loop m.settled) (turn_point w.loop settled) w.loop.body (turn_point-rises w.loop m.settled settled ready.grid up)
          (it.unread before)

      turned-by : (b : Bool) → is_known_at (loop_at code hs place) s.end ≡ b → IsLoopAt code rows gone hs place w (with_piece b s m) new
      turned-by true test =
          let n = after in
          let rises = n.rises in
          record {
            fill = n.fill;
            made = sym (append_assoc (gone_at code gone place) m.made (s ∷ [])) ∙ ap (λ (list : List Snapshot). list ++ s ∷ []) it.made ∙ sym n.more;
            within = n.within;
            hi = it.hi;
            known = tested-IsKnownAt (loop_at code hs place) s.end test;
            waiting = λ v no. absurd (cc no);
            unread = λ some. unread-after s.end (omega (arith, ints));
            fit = fit-after s.end (omega (arith, ints));
          }
      turned-by false test = record {
        fill = it.fill;
        made = it.made;
        within = it.within;
        hi = it.hi;
        known = it.known;
        waiting = λ v same. subst (IsWaiting w.whole (length (made_by m.settled w.whole)) (loop_at code hs place)) (cc same) (record {
          next = next;
          first = subst (λ (t : ℤ). IsKnownAt (loop_at code hs place) (t +ℤ pos 1)) (sym after.begins) may.first;
          last = test;
        });
        unread = it.unread;
        fit = fit-after m.settled (omega (arith, ints));
      }

      abbrev piece : MadeParts
      piece = with_piece (is_known_at (loop_at code hs place) s.end) s m

      -- the loops then stand with it
      pub turned-loops : AreLoops code rows gone hs (slice_set loops place piece) (slice_set states place new) place
      turned-loops =
          let within = slice_get_within loops place m at in
          let there = slice_get_within states place state own in
          record {
            inputs = are.inputs;
            horizons = are.horizons;
            begin = are.begin;
            many = length-set loops place piece ∙ are.many;
            many_states = length-set states place new ∙ are.many_states;
            each = λ k v n t of_k at_k own_k. each-turned k v n t of_k at_k own_k;
            done = λ k n below at_k. are.done k n below (sym (slice_get-set_other loops place k piece (omega arith)) ∙ at_k);
          }
        where
          own-turned : (k : ℕ) (v : Work) (n : MadeParts) (t : LoopState) → k ≡ place → slice_get (works_of code rows) k ≡ Some v
              → slice_get (slice_set loops place piece) k ≡ Some n → slice_get (slice_set states place new) k ≡ Some t → IsLoopAt code rows gone hs k v n t
          own-turned k v n t same of_k at_k own_k =
              let within = slice_get_within loops place m at in
              let there = slice_get_within states place state own in
              let of_here : w ≡ v = same_Some w v (sym of ∙ subst (λ (x : ℕ). slice_get (works_of code rows) x ≡ Some v) same of_k) in
              let at_here : piece ≡ n = same_Some piece n
              (sym (slice_get-set_same loops place piece within) ∙ subst (λ (x : ℕ). slice_get (slice_set loops place piece) x ≡ Some n) same at_k) in
              let own_here : new ≡ t = same_Some new t
              (sym (slice_get-set_same states place new there) ∙ subst (λ (x : ℕ). slice_get (slice_set states place new) x ≡ Some t) same own_k) in
              subst (λ (x : ℕ). IsLoopAt code rows gone hs x v n t) (sym same)
              (subst (λ (y : Work). IsLoopAt code rows gone hs place y n t) of_here
              (subst (λ (z : MadeParts). IsLoopAt code rows gone hs place w z t) at_here
              (subst (λ (q : LoopState). IsLoopAt code rows gone hs place w piece q) own_here (turned-by (is_known_at (loop_at code hs place) s.end) refl))))

          each-turned : (k : ℕ) (v : Work) (n : MadeParts) (t : LoopState) → slice_get (works_of code rows) k ≡ Some v
              → slice_get (slice_set loops place piece) k ≡ Some n → slice_get (slice_set states place new) k ≡ Some t → IsLoopAt code rows gone hs k v n t
          each-turned k v n t of_k at_k own_k =
              elim (cases_eq k place) as (λ _. IsLoopAt code rows gone hs k v n t) [
                | inl same ↦ own-turned k v n t same of_k at_k own_k
                | inr apart ↦ are.each k v n t of_k (sym (slice_get-set_other loops place k piece apart) ∙ at_k)
                    (sym (slice_get-set_other states place k new apart) ∙ own_k)
              ]

-- what is read of lists at a place is there
module _ (code : CodeParts) (rows gone : List (List Snapshot)) (hs : List Horizon) (loops : List MadeParts) (states : List LoopState) (place : ℕ)
    (is : IsCode code) (are : AreLoops code rows gone hs loops states place) (there : place < length code.loops) (m : MadeParts)
    (at : m ≡ get_or loops place m) (may : MayTurn (loop_at code hs place) m) where
  m-there : slice_get loops place ≡ Some m
  m-there = slice_get_read loops (length loops) place m refl (omega (arith, there, are.many)) at

  work : (w : Work) × (slice_get (works_of code rows) place ≡ Some w)
  work = slice_get-some (works_of code rows) place (omega (arith, there, works-length code rows))

  module _ (state : LoopState) (own : state ≡ get_or states place state) (l : LoopParts) (of : l ≡ get_or code.loops place l) where
    own-there : slice_get states place ≡ Some state
    own-there = slice_get_read states (length states) place state refl (omega (arith, there, are.many_states)) own

    loop-is : work.0.loop ≡ l
    loop-is = same_Some work.0.loop l
        (sym (work-is code rows place work.0 work.1).loop ∙ slice_get_read code.loops (length code.loops) place l refl there of)

    pub make-here : MayMake (rests gone rows ++ map made_list loops) l m.settled state
    make-here =
        subst (λ (x : LoopParts). MayMake (rests gone rows ++ map made_list loops) x m.settled state) loop-is
        (may-make code rows gone hs loops states place is are work.0 m state work.1 m-there own-there may)

    module _ (s : Snapshot) (new : LoopState)
        (snap : s ≡ turn (body_of (map stream_of (rests gone rows ++ map made_list loops)) l) l.grid l.hi m.settled)
        (fit : IsFit (rests gone rows ++ map made_list loops) l (ceil l.grid (m.settled +ℤ pos 1)) new) where
      snap-of : s ≡ turn (body_of (map stream_of (rests gone rows ++ map made_list loops)) work.0.loop) work.0.loop.grid work.0.loop.hi m.settled
      snap-of = subst (λ (x : LoopParts). s ≡ turn (body_of (map stream_of (rests gone rows ++ map made_list loops)) x) x.grid x.hi m.settled) (sym loop-is) snap

      fit-of : IsFit (rests gone rows ++ map made_list loops) work.0.loop (ceil work.0.loop.grid (m.settled +ℤ pos 1)) new
      fit-of = subst (λ (x : LoopParts). IsFit (rests gone rows ++ map made_list loops) x (ceil x.grid (m.settled +ℤ pos 1)) new) (sym loop-is) fit

      pub piece-here : IsPieceOn m.settled m.hi s
      piece-here = piece-on code rows gone hs loops states place is are work.0 m state work.1 m-there own-there may s new snap-of fit-of

      pub loops-here : AreLoops code rows gone hs (slice_set loops place (with_piece (is_known_at (loop_at code hs place) s.end) s m)) (slice_set states place new) place
      loops-here = turned-loops code rows gone hs loops states place is are work.0 m state work.1 m-there own-there may s new snap-of fit-of

-- a turn leaves fewer
fewer-by : (b : Bool) (s : Snapshot) (m : MadeParts) → m.waiting ≡ None → m.settled <ℤ m.hi → IsPieceOn m.settled m.hi s
    → turns_of (with_piece b s m) < turns_of m
fewer-by true s m none before on =
    let begins = on.begins in
    let rises = on.rises in
    let within = on.within in
    let old = int_gap_is m.settled m.hi (omega (arith, ints)) in
    let new = int_gap_is s.end m.hi (omega (arith, ints)) in
    rw none (omega (arith, ints))
fewer-by false s m none before on = rw none (omega arith)

pub fewer-here : (loops : List MadeParts) (place : ℕ) (b : Bool) (s : Snapshot) (m : MadeParts) → slice_get loops place ≡ Some m
    → m.waiting ≡ None → m.settled <ℤ m.hi → IsPieceOn m.settled m.hi s
    → turns_left (slice_set loops place (with_piece b s m)) place < turns_left loops place
fewer-here loops place b s m at none before on =
    rw (slice_get-set_same loops place (with_piece b s m) (slice_get_within loops place m at), at) (fewer-by b s m none before on)

-- a loop whose next turn isn't to be made has made all that is known
done-by : (h : Horizon) (whole : List Snapshot) (count : ℕ) (m : MadeParts) (waiting : Option Snapshot) → m.waiting ≡ waiting
    → ForSome m.waiting (IsWaiting whole count h) → ¬ (MayTurn h m) → IsDone h m
done-by h whole count m (Some s) is waits may = λ tick known.
    let w = waits s is in
    inr (rw is (by_lt_z s.end tick
    (λ above.
    let no : true ≡ false = sym (IsKnownAt-tested h s.end (known-below h tick s.end known (omega (arith, ints)))) ∙ w.last in
    absurd (cc no)) (λ low. low)))
done-by h whole count m None is waits may = λ tick known.
    by_lt_z m.settled m.hi
    (λ before.
    by_lt_z m.settled tick
    (λ above. absurd (may (record { none = is; before = before; first = known-below h tick (m.settled +ℤ pos 1) known (omega (arith, ints)) })))
    (λ low. inr (rw is low))) (λ end. inl (rw is end))

pub done-next : (code : CodeParts) (rows gone : List (List Snapshot)) (hs : List Horizon) (loops : List MadeParts) (states : List LoopState) (place : ℕ)
    → AreLoops code rows gone hs loops states place → place < length code.loops → (m : MadeParts) → m ≡ get_or loops place m
    → ¬ (MayTurn (loop_at code hs place) m) → AreLoops code rows gone hs loops states (suc place)
done-next code rows gone hs loops states place are there m read may = record {
  inputs = are.inputs;
  horizons = are.horizons;
  many = are.many;
  many_states = are.many_states;
  begin = are.begin;
  each = are.each;
  done = λ k n below at. by k n below at;
}
  where
    by : (k : ℕ) (n : MadeParts) → k < suc place → slice_get loops k ≡ Some n → IsDone (loop_at code hs k) n
    by k n below at =
        elim (cases_eq k place) as (λ _. IsDone (loop_at code hs k) n) [
          | inl same ↦ (
              let own = slice_get_read loops (length loops) place m refl (omega (arith, there, are.many)) read in
              let at_place : slice_get loops place ≡ Some n = subst (λ (x : ℕ). slice_get loops x ≡ Some n) same at in
              let is : m ≡ n = same_Some m n (sym own ∙ at_place) in
              let work = slice_get-some (works_of code rows) place (omega (arith, there, works-length code rows)) in
              let state = slice_get-some states place (omega (arith, there, are.many_states)) in
              let it = are.each place work.0 m state.0 work.1 own state.1 in
              subst (λ (x : ℕ). IsDone (loop_at code hs x) n) (sym same)
              (subst (IsDone (loop_at code hs place)) is (done-by (loop_at code hs place) work.0.whole (length (made_by m.settled work.0.whole)) m m.waiting refl it.waiting may)))
          | inr apart ↦ are.done k n (omega arith) at
        ]
