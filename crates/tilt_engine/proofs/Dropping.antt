-- Loops of which the first snapshots go, that no next turn reads, and whose states begin again.
use Rattle.std.proofs.Common.{◌≡◌, inl, ◌<◌, ◌+◌, ◌-◌, ℕ, zero, suc, ℤ, pos, ◌+ℤ◌, ◌<ℤ◌, ◌≤ℤ◌, List, [], ◌∷◌, ◌++◌, length, map, take, drop, get_or, slice_get}
use Rattle.std.proofs.Common.{Some, Contains, option_map, refl, sym, ap, ◌∙◌, subst, arith}
use Rattle.std.proofs.lemmas.Int.{ints}
use Rattle.std.proofs.lemmas.List.{append_assoc, get_or-append-add, get_or-drop, get_or_append_left, length-map, take-append-drop}
use Rattle.std.proofs.lemmas.Option.{get_or_from_slice_get, same_Some, slice_get-map, slice_get_within}
use Rattle.std.specs.List.{AllByRecursion}
use Rattle.circular_buffer.proofs.Places.{slice_get-some}
use Rattle.tilt_base.proofs.Lists.{all-append, all-contains, all-each}
use Rattle.tilt_code.specs.Code.{Block, CodeParts, LoopParts}
use Rattle.tilt_code.specs.References.{IsCode}
use Rattle.tilt_code.specs.declared.instr.Instr.TheVariants.{Const, Null, Argument, Port, Win, One, Two, If}
use Rattle.tilt_engine.proofs.Gone.{drop-none, ends-later, whole-at}
use Rattle.tilt_engine.proofs.Ringed.{rings-are}
use Rattle.tilt_engine.proofs.NextReads.{wanted-reads}
use Rattle.tilt_engine.proofs.Shorter.{each-long}
use Rattle.tilt_engine.specs.Forgetting.{added, each_later, heads, kept_lists, later_made}
use Rattle.tilt_engine.specs.Gone.{BeginsWith, EndsBelow, IsGoneFor, rests}
use Rattle.tilt_engine.specs.Standing.{AreLoops, IsDone, IsFresh, IsLoopAt, IsStockOf, gone_at, loop_at, rings_parts}
use Rattle.tilt_engine.specs.Stock.{InletParts, MadeParts, inlet_list}
use Rattle.tilt_engine.specs.Wanted.{wanted}
use Rattle.tilt_feed.specs.Feed.{closed_at}
use Rattle.tilt_feed.specs.Horizon.{Horizon}
use Rattle.tilt_pipe.proofs.Covered.{contains-at}
use Rattle.tilt_pipe.proofs.Nears.{loop-reads}
use Rattle.tilt_pipe.proofs.Works.{work-is, works-length}
use Rattle.tilt_pipe.specs.Made.{Work, works_of}
use Rattle.tilt_pipe.specs.Positions.{made_by}
use Rattle.tilt_pipe.specs.Reads.{body_reads, turn_point}
use Rattle.tilt_stream.proofs.Filling.{Fill-up}
use Rattle.tilt_stream.specs.Snap.{Snapshot}
use Rattle.tilt_turn.specs.declared.state.LoopState.{LoopState}

take-nil : (n : ℕ) → take {A = Snapshot} n [] ≡ []
take-nil zero = refl
take-nil (suc n) = refl

take-none : (list : List Snapshot) → take 0 list ≡ []
take-none [] = refl
take-none (s ∷ ss) = refl

-- the first ones of the list with a number
pub heads-at : (counts : List ℕ) (lists : List (List Snapshot)) (number : ℕ)
    → get_or (heads counts lists) number [] ≡ take (get_or counts number 0) (get_or lists number [])
heads-at [] lists number = sym (take-none (get_or lists number []))
heads-at (n ∷ counts) [] number = sym (take-nil (get_or (n ∷ counts) number 0))
heads-at (n ∷ counts) (list ∷ lists) zero = refl
heads-at (n ∷ counts) (list ∷ lists) (suc number) = heads-at counts lists number

pub added-at : (gone more : List (List Snapshot)) (number : ℕ) → get_or (added gone more) number [] ≡ get_or gone number [] ++ get_or more number []
added-at [] more number = refl
added-at (g ∷ gone) [] number = sym (append-none (get_or (g ∷ gone) number []))
  where
    append-none : (list : List Snapshot) → list ++ [] ≡ list
    append-none [] = refl
    append-none (s ∷ ss) = ap (λ (rest : List Snapshot). s ∷ rest) (append-none ss)
added-at (g ∷ gone) (m ∷ more) zero = refl
added-at (g ∷ gone) (m ∷ more) (suc number) = added-at gone more number

-- a loop after that was there before
later-at : (counts : List ℕ) (loops : List MadeParts) (k : ℕ) (n : MadeParts) → slice_get (each_later later_made counts loops) k ≡ Some n
    → (m : MadeParts) × (slice_get loops k ≡ Some m) × (later_made (get_or counts k 0) m ≡ n)
later-at [] loops k n at = (n, at, λ i. record { made = drop-none n.made i; settled = n.settled; waiting = n.waiting; hi = n.hi })
later-at (c ∷ counts) [] k n at = absurd (cc at)
later-at (c ∷ counts) (m ∷ loops) zero n at = (m, refl, same_Some (later_made c m) n at)
later-at (c ∷ counts) (m ∷ loops) (suc k) n at = later-at counts loops k n at

-- of each buffer that a body reads, what has gone ends below the first tick that it reads
abbrev AllGone : List (List Snapshot) → ℤ → Block → Type 0
AllGone gone point block = AllByRecursion (λ r. AllByRecursion (EndsBelow (point +ℤ r.first)) (get_or gone r.buffer [])) (body_reads block)

window-first : (point from : ℤ) → (point +ℤ (from +ℤ pos 1)) ≡ (point +ℤ from +ℤ pos 1)
window-first point from = omega (arith, ints)

-- of each instruction, as of each read
pub to-reads : (gone : List (List Snapshot)) (point : ℤ) (block : Block) → AllByRecursion (IsGoneFor gone point) block
    → AllGone gone point block
to-reads gone point [] all = tt
to-reads gone point (Const number ∷ block) all = to-reads gone point block all.1
to-reads gone point (Null ∷ block) all = to-reads gone point block all.1
to-reads gone point (Argument ∷ block) all = to-reads gone point block all.1
to-reads gone point (Port buffer offset ∷ block) all = (all.0, to-reads gone point block all.1)
to-reads gone point (Win reducer buffer from to number ∷ block) all = (
  subst (λ (t : ℤ). AllByRecursion (EndsBelow t) (get_or gone buffer [])) (sym (window-first point from)) all.0,
  to-reads gone point block all.1,
)
to-reads gone point (One op a ∷ block) all = to-reads gone point block all.1
to-reads gone point (Two op a b ∷ block) all = to-reads gone point block all.1
to-reads gone point (If c a b ∷ block) all = to-reads gone point block all.1

from-reads : (gone : List (List Snapshot)) (point : ℤ) (block : Block) → AllGone gone point block
    → AllByRecursion (IsGoneFor gone point) block
from-reads gone point [] all = tt
from-reads gone point (Const number ∷ block) all = (tt, from-reads gone point block all)
from-reads gone point (Null ∷ block) all = (tt, from-reads gone point block all)
from-reads gone point (Argument ∷ block) all = (tt, from-reads gone point block all)
from-reads gone point (Port buffer offset ∷ block) all = (all.0, from-reads gone point block all.1)
from-reads gone point (Win reducer buffer from to number ∷ block) all = (
  subst (λ (t : ℤ). AllByRecursion (EndsBelow t) (get_or gone buffer [])) (window-first point from) all.0,
  from-reads gone point block all.1,
)
from-reads gone point (One op a ∷ block) all = (tt, from-reads gone point block all)
from-reads gone point (Two op a b ∷ block) all = (tt, from-reads gone point block all)
from-reads gone point (If c a b ∷ block) all = (tt, from-reads gone point block all)

-- what is kept of the input at a place, and of the loop at a place
pub rows-kept : (inlets : List InletParts) (loops : List MadeParts) (k : ℕ) (i : InletParts) → slice_get inlets k ≡ Some i
    → get_or (kept_lists inlets loops) k [] ≡ i.input.rows
rows-kept inlets loops k i at =
    let closed : List (List Snapshot) = map (λ (i : InletParts). i.input.rows) inlets in
    get_or_append_left closed (map (λ (m : MadeParts). m.made) loops) [] k
    (omega (arith, slice_get_within inlets k i at, length-map inlets (λ (i : InletParts). i.input.rows)))
    ∙ get_or_from_slice_get closed k i.input.rows []
    (slice_get-map (λ (i : InletParts). i.input.rows) inlets k ∙ ap (option_map (λ (i : InletParts). i.input.rows)) at)

pub made-kept : (inlets : List InletParts) (loops : List MadeParts) (k : ℕ) (m : MadeParts) → slice_get loops k ≡ Some m
    → get_or (kept_lists inlets loops) (length inlets + k) [] ≡ m.made
made-kept inlets loops k m at =
    let closed : List (List Snapshot) = map (λ (i : InletParts). i.input.rows) inlets in
    let made : List (List Snapshot) = map (λ (m : MadeParts). m.made) loops in
    let long : length closed ≡ length inlets = length-map inlets (λ (i : InletParts). i.input.rows) in
    ap (λ (n : ℕ). get_or (closed ++ made) (n + k) []) (sym long) ∙ get_or-append-add closed made k []
    ∙ get_or_from_slice_get made k m.made [] (slice_get-map (λ (m : MadeParts). m.made) loops k ∙ ap (option_map (λ (m : MadeParts). m.made)) at)

-- where a loop is within its stretch
pub loop-bounds : (code : CodeParts) (rows gone : List (List Snapshot)) (hs : List Horizon) (loops : List MadeParts) (states : List LoopState) (upto k : ℕ)
    (l : LoopParts) (m : MadeParts) → AreLoops code rows gone hs loops states upto → slice_get code.loops k ≡ Some l → slice_get loops k ≡ Some m
    → (l.lo ≤ℤ m.settled) × (m.hi ≡ l.hi)
loop-bounds code rows gone hs loops states upto k l m are loop at =
    let within = slice_get_within code.loops k l loop in
    let work = slice_get-some (works_of code rows) k (omega (arith, within, works-length code rows)) in
    let state = slice_get-some states k (omega (arith, within, are.many_states)) in
    let it = are.each k work.0 m state.0 work.1 at state.1 in
    let same : work.0.loop ≡ l = same_Some work.0.loop l (sym (work-is code rows k work.0 work.1).loop ∙ loop) in (
      subst (λ (x : LoopParts). x.lo ≤ℤ m.settled) same (Fill-up work.0.loop.lo m.settled (made_by m.settled work.0.whole) it.fill),
      it.hi ∙ ap (λ (x : LoopParts). x.hi) same,
    )

-- of each buffer that a loop reads, what goes ends below the first tick that a next turn reads
abbrev pub EndUnread : CodeParts → List InletParts → List MadeParts → List ℕ → Type 0
EndUnread code inlets loops counts =
    (number : ℕ) (tick : ℤ) → number < length code.inputs + (length code.loops - 1) → wanted number code.loops loops ≡ Some tick
    → AllByRecursion (EndsBelow tick) (take (get_or counts number 0) (get_or (kept_lists inlets loops) number []))

module _ (code : CodeParts) (rows gone : List (List Snapshot)) (hs : List Horizon) (inlets : List InletParts) (loops : List MadeParts)
    (old new : List LoopState) (counts : List ℕ) (is : IsCode code)
    (stock : IsStockOf code rows gone hs inlets loops old (length code.loops)) (many : length inlets ≡ length code.inputs)
    (ends : EndUnread code inlets loops counts) (count : length new ≡ length code.loops)
    (fresh : (k : ℕ) (l : LoopParts) (state : LoopState) → slice_get code.loops k ≡ Some l → slice_get new k ≡ Some state → IsFresh l state) where
  abbrev more : List (List Snapshot)
  more = heads counts (kept_lists inlets loops)

  abbrev gone_then : List (List Snapshot)
  gone_then = added gone more

  -- what has gone of a buffer then
  then-at : (number : ℕ) → get_or gone_then number []
      ≡ get_or gone number [] ++ take (get_or counts number 0) (get_or (kept_lists inlets loops) number [])
  then-at number =
      added-at gone more number
      ∙ ap (λ (list : List Snapshot). get_or gone number [] ++ list) (heads-at counts (kept_lists inlets loops) number)

  -- what is kept of the loop at a place
  own-kept : (k : ℕ) (m : MadeParts) → slice_get loops k ≡ Some m → get_or (kept_lists inlets loops) (length code.inputs + k) [] ≡ m.made
  own-kept k m at = ap (λ (n : ℕ). get_or (kept_lists inlets loops) (n + k) []) (sym many) ∙ made-kept inlets loops k m at

  -- each input begins with it
  begins-then : (number : ℕ) → number < length code.inputs → BeginsWith (get_or gone_then number []) (get_or rows number [])
  begins-then number within =
      let found = slice_get-some inlets number (omega (arith, within, many)) in
      let i = found.0 in
      let n = get_or counts number 0 in
      let kept = rows-kept inlets loops number i found.1 in
      let left : get_or (rests gone rows) number [] ≡ inlet_list i =
      ap (λ (lists : List (List Snapshot)). get_or lists number []) (sym stock.left)
      ∙ get_or_from_slice_get (map inlet_list inlets) number (inlet_list i) []
      (slice_get-map inlet_list inlets number ∙ ap (option_map inlet_list) found.1) in
      let whole : get_or rows number [] ≡ get_or gone number [] ++ inlet_list i =
      whole-at gone rows number (stock.are.begin number within) ∙ ap (λ (rest : List Snapshot). get_or gone number [] ++ rest) left in
      let open_row = closed_at i.end i.input.edge.open_row in
      let rest = drop n i.input.rows ++ open_row in
      let own : i.input.rows ++ open_row ≡ take n i.input.rows ++ rest =
      ap (λ (list : List Snapshot). list ++ open_row) (sym (take-append-drop n i.input.rows))
      ∙ append_assoc (take n i.input.rows) (drop n i.input.rows) open_row in
      let front : get_or gone_then number [] ≡ get_or gone number [] ++ take n i.input.rows =
      then-at number ∙ ap (λ (list : List Snapshot). get_or gone number [] ++ take n list) kept in (
        rest,
        whole ∙ ap (λ (list : List Snapshot). get_or gone number [] ++ list) own
            ∙ sym (append_assoc (get_or gone number []) (take n i.input.rows) rest) ∙ ap (λ (list : List Snapshot). list ++ rest) (sym front),
      )

  -- a loop, and its state that begins again
  loop-then : (k : ℕ) (w : Work) (m : MadeParts) (state after : LoopState) → slice_get (works_of code rows) k ≡ Some w → slice_get loops k ≡ Some m
      → slice_get old k ≡ Some state → slice_get new k ≡ Some after
      → IsLoopAt code rows gone_then hs k w (later_made (get_or counts (length code.inputs + k) 0) m) after
  loop-then k w m state after of at own now =
      let it = stock.are.each k w m state of at own in
      let n = get_or counts (length code.inputs + k) 0 in
      let g = gone_at code gone k in
      let front : gone_at code gone_then k ≡ g ++ take n m.made =
      then-at (length code.inputs + k) ∙ ap (λ (list : List Snapshot). g ++ take n list) (own-kept k m at) in
      let loop = (work-is code rows k w of).loop in
      record {
        fill = it.fill;
        made = ap (λ (list : List Snapshot). list ++ drop n m.made) front ∙ append_assoc g (take n m.made) (drop n m.made)
            ∙ ap (λ (list : List Snapshot). g ++ list) (take-append-drop n m.made) ∙ it.made;
        within = it.within;
        hi = it.hi;
        known = it.known;
        waiting = it.waiting;
        unread = λ some.
            let point = turn_point w.loop m.settled in
            let before = to-reads gone point w.loop.body (it.unread some) in
            from-reads gone_then point w.loop.body (all-each (λ r. AllByRecursion (EndsBelow (point +ℤ r.first)) (get_or gone_then r.buffer [])) (body_reads w.loop.body) (λ i r among.
            reads-past r (contains-at (body_reads w.loop.body) i r among) some it.hi before loop));
        fit = inl (fresh k w.loop after loop now);
      }
    where
      reads-past : (r : _) → Contains (body_reads w.loop.body) r → m.settled <ℤ w.loop.hi → m.hi ≡ w.loop.hi
          → AllGone gone (turn_point w.loop m.settled) w.loop.body → slice_get code.loops k ≡ Some w.loop
          → AllByRecursion (EndsBelow (turn_point w.loop m.settled +ℤ r.first)) (get_or gone_then r.buffer [])
      reads-past r among some hi before loop =
          let point = turn_point w.loop m.settled in
          let near = loop-reads (rings_parts code rows gone loops) k w.loop r is (rings-are code rows gone hs loops old (length code.loops) is stock.are) loop among in
          let within = slice_get_within code.loops k w.loop loop in
          let there_ = near.there in
          let want = wanted-reads r.buffer code.loops loops k w.loop m r loop at (subst (λ (t : ℤ). m.settled <ℤ t) (sym hi) some) among refl in
          let goes = ends r.buffer want.0 (omega (arith, there_, within, stock.are.inputs)) want.1 in
          let later = ends-later want.0 (point +ℤ r.first) (take (get_or counts r.buffer 0) (get_or (kept_lists inlets loops) r.buffer [])) want.2 goes in
          let earlier = all-contains (λ r. AllByRecursion (EndsBelow (point +ℤ r.first)) (get_or gone r.buffer [])) (body_reads w.loop.body) r before among in
          subst (AllByRecursion (EndsBelow (point +ℤ r.first))) (sym (then-at r.buffer))
          (all-append (EndsBelow (point +ℤ r.first)) (get_or gone r.buffer [])
          (take (get_or counts r.buffer 0) (get_or (kept_lists inlets loops) r.buffer [])) earlier later)

  -- the number for the loop at a place
  count-at : (k : ℕ) → get_or (drop (length code.inputs) counts) k 0 ≡ get_or counts (length code.inputs + k) 0
  count-at k = get_or-drop (length code.inputs) counts k 0

  -- all loops then
  pub loops-then : AreLoops code rows gone_then hs (each_later later_made (drop (length code.inputs) counts) loops) new (length code.loops)
  loops-then = record {
    inputs = stock.are.inputs;
    begin = begins-then;
    horizons = stock.are.horizons;
    many = each-long later_made (drop (length code.inputs) counts) loops ∙ stock.are.many;
    many_states = count;
    each = λ k w n after of at now.
        let m = later-at (drop (length code.inputs) counts) loops k n at in
        let state = slice_get-some old k (omega (arith, slice_get_within loops k m.0 m.1, stock.are.many, stock.are.many_states)) in
        let same : later_made (get_or counts (length code.inputs + k) 0) m.0 ≡ n = ap (λ (c : ℕ). later_made c m.0) (sym (count-at k)) ∙ m.2 in
        subst (λ (x : MadeParts). IsLoopAt code rows gone_then hs k w x after) same (loop-then k w m.0 state.0 after of m.1 state.1 now);
    done = λ k n below at.
        let m = later-at (drop (length code.inputs) counts) loops k n at in
        subst (IsDone (loop_at code hs k)) m.2 (stock.are.done k m.0 below m.1);
  }
