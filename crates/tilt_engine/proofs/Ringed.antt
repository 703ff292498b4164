-- What the loops of an engine have made, as rings that have let their first snapshots go.
use Rattle.std.proofs.Common.{◌≡◌, ◌<◌, ◌+◌, ◌-◌, inl, inr, ℕ, zero, suc, ℤ, ◌≤ℤ◌, List, [], ◌∷◌, ◌++◌, length, map, drop, get_or, slice_get, Option, Some, None, refl, sym, ap, ◌∙◌, subst, arith}
use Rattle.std.proofs.Common.{append-nil, length-append}
use Rattle.std.proofs.lemmas.Bool.{cases_lt}
use Rattle.std.proofs.lemmas.List.{append_assoc, drop-append-le, get_or-append-add, get_or_append_left}
use Rattle.std.proofs.lemmas.Option.{same_Some, slice_get_within}
use Rattle.std.specs.Option.{ForSome}
use Rattle.tilt_code.proofs.Runs.{loops-timed}
use Rattle.tilt_code.specs.Code.{CodeParts}
use Rattle.tilt_code.specs.References.{IsCode}
use Rattle.tilt_engine.proofs.Gone.{drop-front, drop-nil, rest-at, rests-long}
use Rattle.tilt_engine.specs.Gone.{BeginsWith, rests}
use Rattle.tilt_engine.specs.Standing.{AreLoops, IsWaiting, gone_at, loop_at, ring_of, rings_of, rings_parts}
use Rattle.tilt_engine.specs.Stock.{MadeParts, made_list, pieces, reached, reached_by}
use Rattle.tilt_feed.specs.Horizon.{Horizon}
use Rattle.tilt_pipe.proofs.Standing.{next-is}
use Rattle.tilt_pipe.proofs.Telling.{open-at}
use Rattle.tilt_pipe.proofs.Works.{work-fills, works-length}
use Rattle.tilt_pipe.specs.Made.{Work, works_of}
use Rattle.tilt_pipe.specs.Positions.{AreRings, AreRingsOf, IsRing, RingsParts, lists_of, made_by, open_lists, starts_of}
use Rattle.tilt_stream.specs.Snap.{Fill, Snapshot, gap_before}
use Rattle.tilt_turn.specs.declared.state.LoopState.{LoopState}
use Rattle.circular_buffer.proofs.Places.{slice_get-some}

-- what has gone of a loop, and what it has made since, with the snapshot whose end may still change
pieces-by : (w : Work) (gone made : List Snapshot) (settled : ℤ) (waiting : Option Snapshot) (hi : ℤ) (h : Horizon)
    → Fill w.loop.lo w.loop.hi w.whole → Fill w.loop.lo settled (made_by settled w.whole) → gone ++ made ≡ made_by settled w.whole
    → ForSome waiting (IsWaiting w.whole (length (made_by settled w.whole)) h)
    → gone ++ pieces (record { made = made; settled = settled; waiting = waiting; hi = hi }) ≡ made_by (reached_by settled waiting) w.whole
pieces-by w gone made settled None hi h fills fill is waiting = ap (λ (list : List Snapshot). gone ++ list) (append-nil made) ∙ is
pieces-by w gone made settled (Some s) hi h fills fill is waiting =
    let n = next-is w.loop.lo w.loop.hi settled w.whole s fills fill (waiting s refl).next in
    sym (append_assoc gone made (s ∷ [])) ∙ ap (λ (list : List Snapshot). list ++ s ∷ []) is ∙ sym n.more

fill-by : (w : Work) (settled : ℤ) (waiting : Option Snapshot) (h : Horizon)
    → Fill w.loop.lo w.loop.hi w.whole → Fill w.loop.lo settled (made_by settled w.whole) → settled ≤ℤ w.loop.hi
    → ForSome waiting (IsWaiting w.whole (length (made_by settled w.whole)) h)
    → Fill w.loop.lo (reached_by settled waiting) (made_by (reached_by settled waiting) w.whole) × (reached_by settled waiting ≤ℤ w.loop.hi)
fill-by w settled None h fills fill within waiting = (fill, within)
fill-by w settled (Some s) h fills fill within waiting =
    let n = next-is w.loop.lo w.loop.hi settled w.whole s fills fill (waiting s refl).next in
    (n.fill, n.within)

rings-from : (gone : List (List Snapshot)) (buffer : ℕ) (works : List Work) (loops : List MadeParts) → length loops ≡ length works
    → ((k : ℕ) (w : Work) (m : MadeParts) → slice_get works k ≡ Some w → slice_get loops k ≡ Some m → IsRing w (ring_of (get_or gone (buffer + k) []) m))
    → AreRingsOf works (rings_of gone buffer loops)
rings-from gone buffer [] [] long each = tt
rings-from gone buffer [] (m ∷ loops) long each = absurd (omega arith)
rings-from gone buffer (w ∷ works) [] long each = absurd (omega arith)
rings-from gone buffer (w ∷ works) (m ∷ loops) long each =
    let own : buffer + 0 ≡ buffer = omega arith in (
      subst (λ (n : ℕ). IsRing w (ring_of (get_or gone n []) m)) own (each 0 w m refl refl),
      rings-from gone (suc buffer) works loops (omega arith) (λ k v n of at.
          let next : buffer + suc k ≡ suc buffer + k = omega arith in
          subst (λ (b : ℕ). IsRing v (ring_of (get_or gone b []) n)) next (each (suc k) v n of at)),
    )

rings-long : (gone : List (List Snapshot)) (buffer : ℕ) (loops : List MadeParts) → length (rings_of gone buffer loops) ≡ length loops
rings-long gone buffer [] = refl
rings-long gone buffer (m ∷ loops) = ap suc (rings-long gone (suc buffer) loops)

-- the ring of the loop at a place
pub ring-at : (gone : List (List Snapshot)) (buffer : ℕ) (loops : List MadeParts) (k : ℕ) (m : MadeParts) → slice_get loops k ≡ Some m
    → slice_get (rings_of gone buffer loops) k ≡ Some (ring_of (get_or gone (buffer + k) []) m)
ring-at gone buffer [] k m at = absurd (cc at)
ring-at gone buffer (n ∷ loops) zero m at =
    let own : buffer ≡ buffer + 0 = omega arith in
    ap (λ (x : MadeParts). Some (ring_of (get_or gone buffer []) x)) (same_Some n m at) ∙ ap (λ (b : ℕ). Some (ring_of (get_or gone b []) m)) own
ring-at gone buffer (n ∷ loops) (suc k) m at =
    let next : suc buffer + k ≡ buffer + suc k = omega arith in
    ring-at gone (suc buffer) loops k m at ∙ ap (λ (b : ℕ). Some (ring_of (get_or gone b []) m)) next

-- what loops read of one another is what is left of what they read of the rings
lists-from : (gone : List (List Snapshot)) (buffer : ℕ) (works : List Work) (loops : List MadeParts) → AreRingsOf works (rings_of gone buffer loops)
    → (number : ℕ) → get_or (map made_list loops) number []
    ≡ drop (length (get_or gone (buffer + number) [])) (get_or (open_lists works (starts_of (rings_of gone buffer loops))) number [])
lists-from gone buffer [] [] are number = sym (drop-nil (length (get_or gone (buffer + number) [])))
lists-from gone buffer [] (m ∷ loops) are number = absurd are
lists-from gone buffer (w ∷ works) [] are number = absurd are
lists-from gone buffer (w ∷ works) (m ∷ loops) are zero =
    let made = made_by (reached m) w.whole in
    let own : buffer ≡ buffer + 0 = omega arith in
    let gap = gap_before (Some (reached m)) w.loop.hi in
    let rest : drop (length (get_or gone buffer [])) (made ++ gap) ≡ drop (length (get_or gone buffer [])) made ++ gap =
    drop-append-le (length (get_or gone buffer [])) made gap are.0.forgotten in
    rw (are.0.held, are.0.hi) (sym rest) ∙ ap (λ (b : ℕ). drop (length (get_or gone b [])) (made ++ gap)) own
lists-from gone buffer (w ∷ works) (m ∷ loops) are (suc number) =
    let next : suc buffer + number ≡ buffer + suc number = omega arith in
    lists-from gone (suc buffer) works loops are.1 number
    ∙ ap (λ (b : ℕ). drop (length (get_or gone b [])) (get_or (open_lists works (starts_of (rings_of gone (suc buffer) loops))) number [])) next

module _ (code : CodeParts) (rows gone : List (List Snapshot)) (hs : List Horizon) (loops : List MadeParts) (states : List LoopState) (upto : ℕ)
    (is : IsCode code) (are : AreLoops code rows gone hs loops states upto) where
  pub pieces-are : (k : ℕ) (w : Work) (m : MadeParts) → slice_get (works_of code rows) k ≡ Some w → slice_get loops k ≡ Some m
      → gone_at code gone k ++ pieces m ≡ made_by (reached m) w.whole
  pieces-are k w m of at =
      let fills = work-fills code rows k w (loops-timed code.loops is.grammatical.loops) of in
      let within = slice_get_within loops k m at in
      let found = slice_get-some states k (omega (arith, are.many_states, are.many)) in
      let it = are.each k w m found.0 of at found.1 in
      pieces-by w (gone_at code gone k) m.made m.settled m.waiting m.hi (loop_at code hs k) fills.0 it.fill it.made it.waiting

  pub ring-is : (k : ℕ) (w : Work) (m : MadeParts) → slice_get (works_of code rows) k ≡ Some w → slice_get loops k ≡ Some m
      → IsRing w (ring_of (gone_at code gone k) m)
  ring-is k w m of at =
      let fills = work-fills code rows k w (loops-timed code.loops is.grammatical.loops) of in
      let within = slice_get_within loops k m at in
      let found = slice_get-some states k (omega (arith, are.many_states, are.many)) in
      let it = are.each k w m found.0 of at found.1 in
      let all = pieces-are k w m of at in
      let filled = fill-by w m.settled m.waiting (loop_at code hs k) fills.0 it.fill it.within it.waiting in
      record {
        fill = filled.0;
        within = filled.1;
        forgotten = omega (arith, ap length all, length-append (gone_at code gone k) (pieces m));
        held = sym (ap (drop (length (gone_at code gone k))) (sym all) ∙ drop-front (gone_at code gone k) (pieces m));
        hi = it.hi;
      }

  pub rings-are : AreRings (rings_parts code rows gone loops)
  rings-are = record {
    inputs = are.inputs;
    many = rings-long gone (length code.inputs) loops ∙ are.many;
    rings = rings-from gone (length code.inputs) (works_of code rows) loops (omega (arith, are.many, works-length code rows)) ring-is;
  }

  -- what loops read is what is left of what they read of the rings
  abbrev p : RingsParts
  p = rings_parts code rows gone loops

  pub lefts-at : (number : ℕ) → get_or (rests gone rows ++ map made_list loops) number []
      ≡ drop (length (get_or gone number [])) (get_or (lists_of p) number [])
  lefts-at number =
      elim (cases_lt number (length rows)) as
      (λ _. get_or (rests gone rows ++ map made_list loops) number [] ≡ drop (length (get_or gone number [])) (get_or (lists_of p) number [])) [
        | inl input ↦
            get_or_append_left (rests gone rows) (map made_list loops) [] number (omega (arith, input, rests-long gone rows))
            ∙ rest-at gone rows number
            ∙ ap (drop (length (get_or gone number []))) (sym (get_or_append_left rows (open_lists (works_of code rows) (starts_of p.rings)) [] number input))
        | inr behind ↦ (
            let source = number - length rows in
            let is_at : number ≡ length rows + source = omega (arith, behind) in
            let left : get_or (rests gone rows ++ map made_list loops) (length rows + source) [] ≡ get_or (map made_list loops) source [] =
            ap (λ (n : ℕ). get_or (rests gone rows ++ map made_list loops) (n + source) []) (sym (rests-long gone rows))
            ∙ get_or-append-add (rests gone rows) (map made_list loops) source [] in
            let right = get_or-append-add rows (open_lists (works_of code rows) (starts_of p.rings)) source [] in
            let own : length code.inputs + source ≡ number = omega (arith, is_at, are.inputs) in
            ap (λ (n : ℕ). get_or (rests gone rows ++ map made_list loops) n []) is_at ∙ left
            ∙ lists-from gone (length code.inputs) (works_of code rows) loops rings-are.rings source
            ∙ ap (λ (n : ℕ). drop (length (get_or gone n [])) (get_or (open_lists (works_of code rows) (starts_of p.rings)) source [])) own
            ∙ ap (drop (length (get_or gone number []))) (sym right ∙ ap (λ (n : ℕ). get_or (lists_of p) n []) (sym is_at)))
      ]

  -- and each list begins with what has gone of it
  pub list-begins : (number : ℕ) → number < length code.inputs + length code.loops → BeginsWith (get_or gone number []) (get_or (lists_of p) number [])
  list-begins number within =
      elim (cases_lt number (length rows)) as (λ _. BeginsWith (get_or gone number []) (get_or (lists_of p) number [])) [
        | inl input ↦ (
            let same = get_or_append_left rows (open_lists (works_of code rows) (starts_of p.rings)) [] number input in
            let begins = are.begin number (omega (arith, input, are.inputs)) in
            (begins.0, same ∙ begins.1))
        | inr behind ↦ (
            let source = number - length rows in
            let is_at : number ≡ length rows + source = omega (arith, behind) in
            let m = slice_get-some loops source (omega (arith, within, are.inputs, are.many)) in
            let ring = ring-at gone (length code.inputs) loops source m.0 m.1 in
            let o = open-at p source (ring_of (gone_at code gone source) m.0) is rings-are ring in
            let all = pieces-are source o.work m.0 o.it.of m.1 in
            let gap = gap_before (Some (reached m.0)) o.work.loop.hi in
            let list : get_or (lists_of p) number [] ≡ made_by (reached m.0) o.work.whole ++ gap =
            ap (λ (n : ℕ). get_or (lists_of p) n []) is_at ∙ get_or-append-add rows (open_lists (works_of code rows) (starts_of p.rings)) source [] ∙ o.list in
            let own : length code.inputs + source ≡ number = omega (arith, is_at, are.inputs) in
            subst (λ (n : ℕ). BeginsWith (get_or gone n []) (get_or (lists_of p) number [])) own
            (pieces m.0 ++ gap, list ∙ ap (λ (front : List Snapshot). front ++ gap) (sym all) ∙ append_assoc (gone_at code gone source) (pieces m.0) gap))
      ]
