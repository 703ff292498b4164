-- What an engine keeps once it has forgotten is what is needed.
use Rattle.std.proofs.Common.{◌≡◌, ◌<◌, ◌+◌, ◌-◌, min, inl, inr, ℕ, ℤ, ◌+ℤ◌, ◌<ℤ◌, false, List, [], ◌++◌, length, map, drop, get_or, slice_get, option_map, Option, Some, None, refl, sym, ap, ◌∙◌, subst, arith}
use Rattle.std.proofs.Common.{append-nil, length-append, length-drop}
use Rattle.std.proofs.lemmas.Bool.{cases_lt}
use Rattle.std.proofs.lemmas.List.{get_or-append-add, get_or_append_left, length-map}
use Rattle.std.proofs.lemmas.Option.{get_or_from_slice_get, same_Some, slice_get-map, slice_get_within}
use Rattle.std.specs.List.{AllByRecursion}
use Rattle.circular_buffer.proofs.Places.{slice_get-some}
use Rattle.tilt_base.proofs.Lists.{all-each}
use Rattle.tilt_code.proofs.Runs.{loops-timed}
use Rattle.tilt_code.specs.Code.{CodeParts, LoopParts}
use Rattle.tilt_code.specs.References.{IsCode}
use Rattle.tilt_engine.proofs.Dropping.{made-kept, to-reads}
use Rattle.tilt_engine.proofs.KnownParts.{known-made, next-unknown, stage-at, stages-long}
use Rattle.tilt_engine.proofs.Ringed.{rings-are}
use Rattle.tilt_engine.proofs.Sums.{Fits, held-fits, kept-fits, kept-later}
use Rattle.tilt_engine.proofs.Unreads.{StandsAt, reads-same, wanted-gone, wanted-none}
use Rattle.tilt_engine.specs.CodeHorizon.{code_horizons}
use Rattle.tilt_engine.specs.AtRest.{horizons_of, last_horizon}
use Rattle.tilt_engine.specs.Forgetting.{HasForgotten, each_later, kept_lists}
use Rattle.tilt_engine.specs.Gone.{EndsBelow}
use Rattle.tilt_engine.specs.Needed.{first_read, known_lists, known_part, known_stages, needed, unreturned}
use Rattle.tilt_engine.specs.Standing.{AreLoops, IsLoopAt, gone_at, loop_at, rings_parts}
use Rattle.tilt_engine.specs.Stock.{InletParts, MadeParts}
use Rattle.tilt_engine.specs.Wanted.{wanted}
use Rattle.tilt_feed.specs.Feed.{Feed, InputFeed}
use Rattle.tilt_feed.specs.Horizon.{Horizon}
use Rattle.tilt_feed.specs.Resting.{all_resting}
use Rattle.tilt_pipe.proofs.Covered.{contains-at}
use Rattle.tilt_pipe.proofs.Nears.{loop-reads}
use Rattle.tilt_pipe.proofs.Standing.{end-made}
use Rattle.tilt_pipe.proofs.Works.{last-loop, work-fills, work-is, works-length}
use Rattle.tilt_pipe.specs.Made.{Stage, Work, works_of}
use Rattle.tilt_pipe.specs.Positions.{made_by}
use Rattle.tilt_pipe.specs.Reads.{body_reads, turn_point}
use Rattle.tilt_pipe.specs.Rings.{held, kept_from, let_go, position}
use Rattle.tilt_pipe.specs.Trimmed.{IsNear}
use Rattle.tilt_stream.specs.Snap.{Snapshot}
use Rattle.tilt_turn.specs.declared.state.LoopState.{LoopState}

-- the closed rows of an input: what has gone and what is kept, and the last one if finishing the feed ended it
pub record AreRows (feed : Feed) (gone : List (List Snapshot)) (inlets : List InletParts) (number : ℕ) : Type 0 where
  pub more : List Snapshot
  pub is : get_or (map (λ (a : InputFeed). a.rows) feed.inputs) number []
      ≡ (get_or gone number [] ++ get_or (map (λ (i : InletParts). i.input.rows) inlets) number []) ++ more
  pub none : feed.finished ≡ false → more ≡ []

-- what is known of the loop at a place
record IsKnown (code : CodeParts) (gone : List (List Snapshot)) (hs : List Horizon) (k : ℕ) (w : Work) (m : MadeParts) : Type 0 where
  part : known_part (loop_at code hs k) w.whole ≡ gone_at code gone k ++ m.made
  position : position (record { work = w; made = known_part (loop_at code hs k) w.whole }) ≡ m.settled
  loop : slice_get code.loops k ≡ Some w.loop
  hi : w.loop.hi ≡ m.hi
  unread : m.settled <ℤ m.hi → AllByRecursion (λ r. AllByRecursion (EndsBelow (turn_point w.loop m.settled +ℤ r.first)) (get_or gone r.buffer [])) (body_reads w.loop.body)

module _ (code : CodeParts) (feed : Feed) (gone : List (List Snapshot)) (inlets : List InletParts) (made : List MadeParts) (states : List LoopState)
    (is : IsCode code) (are : AreLoops code (all_resting feed) gone (horizons_of feed) made states (length code.loops)) where
  abbrev hs : List Horizon
  hs = horizons_of feed

  abbrev rows : List (List Snapshot)
  rows = all_resting feed

  known-at : (k : ℕ) (w : Work) (m : MadeParts) → slice_get (works_of code rows) k ≡ Some w → slice_get made k ≡ Some m → IsKnown code gone hs k w m
  known-at k w m of at =
      let within = slice_get_within made k m at in
      let state = slice_get-some states k (omega (arith, within, are.many, are.many_states)) in
      let it : IsLoopAt code rows gone hs k w m state.0 = are.each k w m state.0 of at state.1 in
      let fills = (work-fills code rows k w (loops-timed code.loops is.grammatical.loops) of).0 in
      let done = are.done k m (omega (arith, within, are.many)) at in
      let late = next-unknown w.loop.lo w.loop.hi (loop_at code hs k) w.whole m fills it.fill it.hi it.waiting done in
      let part : known_part (loop_at code hs k) w.whole ≡ made_by m.settled w.whole = known-made (loop_at code hs k) m.settled w.whole it.known late in
      record {
        part = part ∙ sym it.made;
        position = ap (λ (list : List Snapshot). position (record { work = w; made = list })) part ∙ end-made w.loop.lo m.settled (made_by m.settled w.whole) it.fill;
        loop = (work-is code rows k w of).loop;
        hi = sym it.hi;
        unread = λ more. to-reads gone (turn_point w.loop m.settled) w.loop.body (it.unread (subst (λ (t : ℤ). m.settled <ℤ t) it.hi more));
      }

  work-at : (k : ℕ) → k < length code.loops → (w : Work) × (slice_get (works_of code rows) k ≡ Some w)
  work-at k below = slice_get-some (works_of code rows) k (omega (arith, below, works-length code rows))

  stages-count : length (known_stages code feed) ≡ length code.loops
  stages-count = stages-long (code_horizons code hs) (length code.inputs) (works_of code rows) ∙ works-length code rows

  own-stage : (k : ℕ) (w : Work) → slice_get (works_of code rows) k ≡ Some w
      → slice_get (known_stages code feed) k ≡ Some (record { work = w; made = known_part (loop_at code hs k) w.whole })
  own-stage k w of = stage-at (code_horizons code hs) (length code.inputs) (works_of code rows) k w of

  stands : (k : ℕ) (s : Stage) (l : LoopParts) (m : MadeParts) → slice_get (known_stages code feed) k ≡ Some s → slice_get code.loops k ≡ Some l
      → slice_get made k ≡ Some m → StandsAt s l m
  stands k s l m stage loop at =
      let found = work-at k (slice_get_within code.loops k l loop) in
      let known = known-at k found.0 m found.1 at in
      let same : record { work = found.0; made = known_part (loop_at code hs k) found.0.whole } ≡ s =
      same_Some (record { work = found.0; made = known_part (loop_at code hs k) found.0.whole }) s (sym (own-stage k found.0 found.1) ∙ stage) in
      let own : found.0.loop ≡ l = same_Some found.0.loop l (sym known.loop ∙ loop) in
      subst (λ (x : Stage). StandsAt x l m) same (record {
        loop = own;
        position = known.position;
        hi = ap (λ (x : LoopParts). x.hi) (sym own) ∙ known.hi;
      })

  -- what the next turns read is what the engine takes it to be
  first-same : (buffer : ℕ) → first_read buffer (known_stages code feed) ≡ wanted buffer code.loops made
  first-same buffer = reads-same buffer (known_stages code feed) code.loops made stages-count are.many stands

  gone-below : (buffer : ℕ) (tick : ℤ) → wanted buffer code.loops made ≡ Some tick → AllByRecursion (EndsBelow tick) (get_or gone buffer [])
  gone-below buffer tick want =
      wanted-gone buffer tick gone code.loops made (λ k l m loop at more.
      let found = work-at k (slice_get_within code.loops k l loop) in
      let known = known-at k found.0 m found.1 at in
      let own : found.0.loop ≡ l = same_Some found.0.loop l (sym known.loop ∙ loop) in
      subst (λ (x : LoopParts). AllByRecursion (λ r. AllByRecursion (EndsBelow (turn_point x m.settled +ℤ r.first)) (get_or gone r.buffer [])) (body_reads x.body)) own (known.unread more))
      want

  -- no loop reads the last one
  last-unread : wanted (length code.inputs + (length code.loops - 1)) code.loops made ≡ None
  last-unread =
      wanted-none (length code.inputs + (length code.loops - 1)) code.loops made (λ k l loop.
      all-each (IsNear (length code.inputs + (length code.loops - 1))) (body_reads l.body) (λ i r among.
      let near = loop-reads (rings_parts code rows gone made) k l r is (rings-are code rows gone hs made states (length code.loops) is are) loop (contains-at (body_reads l.body) i r among) in
      let there_ = near.there in
      let within = slice_get_within code.loops k l loop in
      record {
        there = omega (arith, there_, within, are.inputs);
        first_low = near.first_low;
        first_high = near.first_high;
        last_low = near.last_low;
        last_high = near.last_high;
      }))

  -- what is known of the buffer of the loop at a place
  loop-list : (long : length feed.inputs ≡ length code.inputs) (k : ℕ) (m : MadeParts) → slice_get made k ≡ Some m
      → get_or (known_lists code feed) (length code.inputs + k) [] ≡ gone_at code gone k ++ m.made
  loop-list long k m at =
      let closed : List (List Snapshot) = map (λ (a : InputFeed). a.rows) feed.inputs in
      let parts : List (List Snapshot) = map (λ (s : Stage). s.made) (known_stages code feed) in
      let count : length closed ≡ length code.inputs = length-map feed.inputs (λ (a : InputFeed). a.rows) ∙ long in
      let within = slice_get_within made k m at in
      let found = work-at k (omega (arith, within, are.many)) in
      let part : List Snapshot = known_part (loop_at code hs k) found.0.whole in
      ap (λ (n : ℕ). get_or (closed ++ parts) (n + k) []) (sym count) ∙ get_or-append-add closed parts k []
      ∙ get_or_from_slice_get parts k part []
      (slice_get-map (λ (s : Stage). s.made) (known_stages code feed) k ∙ ap (option_map (λ (s : Stage). s.made)) (own-stage k found.0 found.1))
      ∙ (known-at k found.0 m found.1 at).part

  -- how many known snapshots of the last loop weren't given
  last-unreturned : (given : ℕ) (m : MadeParts) → slice_get made (length code.loops - 1) ≡ Some m
      → unreturned code feed given ≡ length (gone_at code gone (length code.loops - 1)) + length m.made - given
  last-unreturned given m at =
      let last = last-loop code rows is in
      let known = known-at (length code.loops - 1) last.work m last.is at in
      ap (λ (list : List Snapshot). length (known_part (last_horizon code feed) list) - given) (sym last.run)
      ∙ ap (λ (list : List Snapshot). length list - given) known.part
      ∙ ap (λ (n : ℕ). n - given) (length-append (gone_at code gone (length code.loops - 1)) m.made)

  module _ (many : length inlets ≡ length code.inputs) (long : length feed.inputs ≡ length code.inputs)
      (rows_are : (number : ℕ) → number < length code.inputs → AreRows feed gone inlets number) where
    kept : List (List Snapshot)
    kept = kept_lists inlets made

    closed-count : length (map (λ (i : InletParts). i.input.rows) inlets) ≡ length code.inputs
    closed-count = length-map inlets (λ (i : InletParts). i.input.rows) ∙ many

    kept-count : length (kept_lists inlets made) ≡ length code.inputs + length code.loops
    kept-count =
        let all = length-append (map (λ (i : InletParts). i.input.rows) inlets) (map (λ (m : MadeParts). m.made) made) in
        omega (arith, all, closed-count, length-map made (λ (m : MadeParts). m.made), are.many)

    whole-count : length (known_lists code feed) ≡ length (kept_lists inlets made)
    whole-count =
        let all = length-append (map (λ (a : InputFeed). a.rows) feed.inputs) (map (λ (s : Stage). s.made) (known_stages code feed)) in
        omega (arith, all, kept-count, length-map feed.inputs (λ (a : InputFeed). a.rows), long, length-map (known_stages code feed) (λ (s : Stage). s.made), stages-count)

    -- the known list with a number is what has gone, what is kept, and more of a finished input
    record IsWhole (number : ℕ) : Type 0 where
      more : List Snapshot
      whole : get_or (known_lists code feed) number [] ≡ (get_or gone number [] ++ get_or (kept_lists inlets made) number []) ++ more
      none : feed.finished ≡ false → more ≡ []

    whole-at : (number : ℕ) → number < length code.inputs + length code.loops → IsWhole number
    whole-at number within =
        elim (cases_lt number (length code.inputs)) as (λ _. IsWhole number) [
          | inl input ↦ (
              let it = rows_are number input in
              let closed : List (List Snapshot) = map (λ (a : InputFeed). a.rows) feed.inputs in
              let count : length closed ≡ length code.inputs = length-map feed.inputs (λ (a : InputFeed). a.rows) ∙ long in
              let left = get_or_append_left closed (map (λ (s : Stage). s.made) (known_stages code feed)) [] number (omega (arith, count, input)) in
              let own = get_or_append_left (map (λ (i : InletParts). i.input.rows) inlets) (map (λ (m : MadeParts). m.made) made) [] number (omega (arith, closed-count, input)) in
              record {
                more = it.more;
                whole = left ∙ it.is ∙ ap (λ (list : List Snapshot). (get_or gone number [] ++ list) ++ it.more) (sym own);
                none = it.none;
              })
          | inr behind ↦ (
              let k = number - length code.inputs in
              let at : length code.inputs + k ≡ number = omega (arith, behind) in
              let m = slice_get-some made k (omega (arith, within, behind, are.many)) in
              let own : get_or (kept_lists inlets made) (length code.inputs + k) [] ≡ m.0.made =
              ap (λ (n : ℕ). get_or (kept_lists inlets made) (n + k) []) (sym many) ∙ made-kept inlets made k m.0 m.1 in
              subst IsWhole at (record {
                more = [];
                whole = loop-list long k m.0 m.1 ∙ ap (λ (list : List Snapshot). gone_at code gone k ++ list) (sym own)
                    ∙ sym (append-nil (gone_at code gone k ++ get_or (kept_lists inlets made) (length code.inputs + k) []));
                none = λ _. refl;
              }))
        ]

    -- so many are kept once the first ones of each have gone that no next turn reads, and of the last what was given
    pub forgotten-fits : (inlets_then : List InletParts) (made_then : List MadeParts) (states_then : List LoopState) (counts : List ℕ) (given left last : ℕ)
        → HasForgotten code inlets inlets_then made made_then states_then counts left last → length (gone_at code gone (length code.loops - 1)) + left ≡ given
        → Fits (feed.finished ≡ false) (held (kept_lists inlets_then made_then)) (needed code feed given)
    forgotten-fits inlets_then made_then states_then counts given left last has given_is =
        let some = is.grammatical.some in
        let place = length code.inputs + (length code.loops - 1) in
        let end : length (kept_lists inlets made) - 1 ≡ place = omega (arith, kept-count, some) in
        let m = slice_get-some made (length code.loops - 1) (omega (arith, some, are.many)) in
        let own : get_or (kept_lists inlets made) place [] ≡ m.0.made =
        ap (λ (n : ℕ). get_or (kept_lists inlets made) (n + (length code.loops - 1)) []) (sym many) ∙ made-kept inlets made (length code.loops - 1) m.0 m.1 in
        let count : get_or counts place 0 ≡ min left (length m.0.made) =
        has.last_is ∙ has.returned
        ∙ ap (λ (first : Option ℤ). min left (let_go first (get_or (kept_lists inlets made) place []))) last-unread
        ∙ ap (λ (list : List Snapshot). min left (length list)) own in
        let left_over : length (drop (get_or counts place 0) (get_or (kept_lists inlets made) place [])) ≡ unreturned code feed given =
        length-drop (get_or counts place 0) (get_or (kept_lists inlets made) place [])
        ∙ (let known = last-unreturned given m.0 m.1 in omega (arith, ap length own, count, known, given_is)) in
        let then : kept_lists inlets_then made_then ≡ each_later drop counts (kept_lists inlets made) =
        (λ i. kept_lists (has.inputs i) (has.made_is i)) ∙ kept-later counts inlets made (length code.inputs) closed-count in
        let fits = held-fits (feed.finished ≡ false) (known_stages code feed) 0 counts (kept_lists inlets made) (known_lists code feed) (unreturned code feed given) whole-count
        (omega (arith, kept-count, some))
        (λ k below.
        let it = whole-at k (omega (arith, below, kept-count)) in
        let same = first-same k in
        let counted : get_or counts k 0 ≡ let_go (first_read k (known_stages code feed)) (get_or (kept_lists inlets made) k []) =
        has.unread k (omega (arith, below, end))
        ∙ ap (λ (first : Option ℤ). let_go first (get_or (kept_lists inlets made) k [])) (sym same) in
        let from : k ≡ 0 + k = omega arith in
        subst (λ (n : ℕ). Fits (feed.finished ≡ false) (length (drop (get_or counts k 0) (get_or (kept_lists inlets made) k [])))
        (length (kept_from (first_read n (known_stages code feed)) (get_or (known_lists code feed) k [])))) from
        (kept-fits (feed.finished ≡ false) (first_read k (known_stages code feed)) (get_or gone k []) (get_or (kept_lists inlets made) k []) it.more
        (get_or (known_lists code feed) k []) (get_or counts k 0) it.whole it.none (λ tick first. gone-below k tick (sym same ∙ first)) counted))
        (let from : 0 + (length (kept_lists inlets made) - 1) ≡ place = omega (arith, end) in
        ap (λ (n : ℕ). first_read n (known_stages code feed)) from ∙ first-same place ∙ last-unread)
        (ap (λ (n : ℕ). length (drop (get_or counts n 0) (get_or (kept_lists inlets made) n []))) end ∙ left_over) in
        subst (λ (lists : List (List Snapshot)). Fits (feed.finished ≡ false) (held lists) (needed code feed given)) (sym then) fits
