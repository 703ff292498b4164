-- What a later state of the inputs leaves as it is: the buffers of a code, and what a loop has made.
use Rattle.std.proofs.Common.{◌≡◌, ℕ, zero, suc, ℤ, pos, ◌+ℤ◌, ◌<ℤ◌, ◌≤ℤ◌, true, false, List, [], ◌∷◌, ◌++◌, length, map, get_or, int_lt, refl, sym, ap, ◌∙◌, arith}
use Rattle.std.proofs.Common.{subst}
use Rattle.std.specs.List.{AllByRecursion}
use Rattle.std.specs.Ordering.{int_eq}
use Rattle.std.proofs.lemmas.Int.{ints, by_lt_z}
use Rattle.tilt_base.specs.declared.limits.TheConstants.{REACH, T, WIDE}
use Rattle.tilt_code.proofs.Runs.{turns-Fill, turns-stream}
use Rattle.tilt_code.specs.Code.{CodeParts, LoopParts}
use Rattle.tilt_code.specs.Grammar.{IsLoop}
use Rattle.tilt_code.specs.Meaning.{IsTimed}
use Rattle.tilt_code.specs.References.{IsCode}
use Rattle.tilt_code.specs.Run.{buffers_of, with_buffers}
use Rattle.tilt_code.specs.Turn.{turns}
use Rattle.tilt_engine.proofs.LoopStreams.{StreamGoesOn, loop-goes_on}
use Rattle.tilt_engine.specs.CodeHorizon.{code_horizons, loop_horizon, with_loop_horizons}
use Rattle.tilt_engine.specs.GoingOn.{AllGoOn, IsNearCode}
use Rattle.tilt_feed.specs.Resting.{RestsOn}
use Rattle.tilt_feed.proofs.Known.{known-below}
use Rattle.tilt_feed.specs.Horizon.{Horizon, IsKnownAt, horizon_of}
use Rattle.tilt_pipe.proofs.Standing.{made-passed, made-stopped}
use Rattle.tilt_pipe.specs.Positions.{made_by}
use Rattle.tilt_stream.proofs.Constancy.{stream_of-changes}
use Rattle.tilt_stream.proofs.Ended.{none_ended}
use Rattle.tilt_stream.proofs.Filling.{Fill-up}
use Rattle.tilt_stream.proofs.Streams.{mark_at-end, mark_at-within}
use Rattle.tilt_stream.specs.Agreement.{ChangesOnlyAtMarks}
use Rattle.tilt_stream.specs.Pointwise.{nothing}
use Rattle.tilt_stream.specs.Snap.{Fill, InOrder, Snapshot, ended_below}
use Rattle.tilt_stream.specs.Stream.{cell_at, covers, mark_at, stream_of}

-- what fills a stretch is in order
pub Fill-InOrder : (lo hi : ℤ) (list : List Snapshot) → Fill lo hi list → InOrder lo hi list
Fill-InOrder lo hi [] fills = tt
Fill-InOrder lo hi (s ∷ ss) fills =
    let start = fills.0 in
    let rises = fills.1 in
    (omega (arith, ints), omega (arith, ints), Fill-up s.end hi ss fills.2, Fill-InOrder s.end hi ss fills.2)

-- after the first snapshot, a list has the cells and the marks of the rest
pub rest-cell : (s : Snapshot) (ss : List Snapshot) (tick : ℤ) → s.end <ℤ tick → cell_at (s ∷ ss) tick ≡ cell_at ss tick
rest-cell s ss tick above =
    let outside : covers s tick ≡ false = grind (arith, ints) in
    rw outside refl

rest-mark : (lo hi : ℤ) (s : Snapshot) (ss : List Snapshot) (tick : ℤ) → Fill lo hi (s ∷ ss) → (s.end +ℤ pos 1) <ℤ tick → mark_at (s ∷ ss) tick ≡ mark_at ss tick
rest-mark lo hi s ss tick fills above =
    let at = fills.0 in
    let rises = fills.1 in
    let start : int_eq tick (s.start +ℤ pos 1) ≡ false = grind (arith, ints) in
    let end : int_eq tick (s.end +ℤ pos 1) ≡ false = grind (arith, ints) in
    rw (start, end) refl

-- if a list has a mark right after a tick, its first snapshot doesn't end after that tick
ends-by_mark : (lo hi tick : ℤ) (r : Snapshot) (rs : List Snapshot) → Fill lo hi (r ∷ rs) → lo <ℤ tick → mark_at (r ∷ rs) (tick +ℤ pos 1) ≡ true → r.end ≤ℤ tick
ends-by_mark lo hi tick r rs fills low marked =
    let at = fills.0 in
    by_lt_z tick r.end
    (λ later. absurd (let none = mark_at-within lo hi [] r rs (tick +ℤ pos 1) (Fill-InOrder lo hi (r ∷ rs) fills) (omega (arith, ints)) (omega (arith, ints)) in cc))
    (λ ended. ended)

-- if two lists fill a stretch and have the same marks up to a tick, as many snapshots of both end below it
module _ (tick : ℤ) where
  -- the same marks from the second tick of the stretch up to the tick
  record HaveSameMarks (lo : ℤ) (xs ys : List Snapshot) : Type 0 where
    at : (other : ℤ) → (lo +ℤ pos 1) <ℤ other → other ≤ℤ tick → mark_at xs other ≡ mark_at ys other

  turned : (lo : ℤ) (xs ys : List Snapshot) → HaveSameMarks lo xs ys → HaveSameMarks lo ys xs
  turned lo xs ys same = record { at = λ other low high. sym (same.at other low high) }

  -- if the first snapshot of one list ends below the tick, the first one of the other list doesn't end later
  ends-no_later : (lo hi : ℤ) (s r : Snapshot) (ss rs : List Snapshot) → Fill lo hi (s ∷ ss) → Fill lo hi (r ∷ rs) → HaveSameMarks lo (s ∷ ss) (r ∷ rs)
      → s.end <ℤ tick → r.end ≤ℤ s.end
  ends-no_later lo hi s r ss rs fills others same below =
      let rises = fills.1 in
      ends-by_mark lo hi s.end r rs others rises (sym (same.at (s.end +ℤ pos 1) (omega (arith, ints)) (omega (arith, ints))) ∙ mark_at-end [] s ss)

  -- if both first ones end at the same tick, the rests have the same marks from there on
  rest-same : (lo hi : ℤ) (s r : Snapshot) (ss rs : List Snapshot) → Fill lo hi (s ∷ ss) → Fill lo hi (r ∷ rs) → s.end ≡ r.end
      → HaveSameMarks lo (s ∷ ss) (r ∷ rs) → HaveSameMarks s.end ss rs
  rest-same lo hi s r ss rs fills others is same = record {
    at = λ other low high.
        let rises = fills.1 in
        sym (rest-mark lo hi s ss other fills low) ∙ same.at other (omega (arith, ints)) high ∙ rest-mark lo hi r rs other others (omega (arith, ints));
  }

  ended-same : (lo hi : ℤ) (xs ys : List Snapshot) → Fill lo hi xs → Fill lo hi ys → HaveSameMarks lo xs ys → ended_below tick xs ≡ ended_below tick ys
  ended-same lo hi [] [] fills others same = refl
  ended-same lo hi [] (r ∷ rs) fills others same = let rises = others.1 in absurd (omega (arith, ints, Fill-up r.end hi rs others.2))
  ended-same lo hi (s ∷ ss) [] fills others same = let rises = fills.1 in absurd (omega (arith, ints, Fill-up s.end hi ss fills.2))
  ended-same lo hi (s ∷ ss) (r ∷ rs) fills others same =
      by_lt_z s.end tick
      (λ below.
      let low = ends-no_later lo hi s r ss rs fills others same below in
      let high = ends-no_later lo hi r s rs ss others fills (turned lo (s ∷ ss) (r ∷ rs) same) (omega (arith, ints)) in
      let is : s.end ≡ r.end = omega (arith, ints) in
      let first : int_lt s.end tick ≡ true = grind (arith, ints) in
      let second : int_lt r.end tick ≡ true = grind (arith, ints) in
      let rest : Fill s.end hi rs = subst (λ (end : ℤ). Fill end hi rs) (sym is) others.2 in
      rw (first, second) (ap suc (ended-same s.end hi ss rs fills.2 rest (rest-same lo hi s r ss rs fills others is same))))
      (λ above.
      let late : tick ≤ℤ r.end =
      by_lt_z r.end tick
      (λ below. let high = ends-no_later lo hi r s rs ss others fills (turned lo (s ∷ ss) (r ∷ rs) same) below in omega (arith, ints))
      (λ high. high) in
      let first : int_lt s.end tick ≡ false = grind (arith, ints) in
      let second : int_lt r.end tick ≡ false = grind (arith, ints) in
      let none = none_ended s.end hi ss tick (Fill-InOrder s.end hi ss fills.2) above in
      let no_other = none_ended r.end hi rs tick (Fill-InOrder r.end hi rs others.2) late in
      rw (first, second, none, no_other) refl)

-- each of the buffers changes only at marks
streams-change : (lists : List (List Snapshot)) → AllByRecursion ChangesOnlyAtMarks (map stream_of lists)
streams-change [] = tt
streams-change (list ∷ lists) = (stream_of-changes list, streams-change lists)

-- if lists go on, the stream of each goes on; a buffer that isn't there is null in both
streams-go_on : (hs : List Horizon) (before after : List (List Snapshot)) → AllGoOn hs before after → (buffer : ℕ)
    → StreamGoesOn (horizon_of hs buffer) WIDE (get_or (map stream_of before) buffer nothing) (get_or (map stream_of after) buffer nothing)
streams-go_on [] [] [] all buffer = record { same = record { cells = λ tick known. refl; marks = λ tick known. refl }; kept = λ tick low is. is }
streams-go_on [] [] (y ∷ ys) all buffer = absurd all
streams-go_on [] (x ∷ xs) [] all buffer = absurd all
streams-go_on [] (x ∷ xs) (y ∷ ys) all buffer = absurd all
streams-go_on (h ∷ hs) [] [] all buffer = absurd all
streams-go_on (h ∷ hs) [] (y ∷ ys) all buffer = absurd all
streams-go_on (h ∷ hs) (x ∷ xs) [] all buffer = absurd all
streams-go_on (h ∷ hs) (x ∷ xs) (y ∷ ys) all zero =
    let goes = all.0 in
    record {
      same = record { cells = λ tick known. goes.cells tick known; marks = λ tick known. goes.marks tick known };
      kept = λ tick low is. goes.kept tick low is;
    }
streams-go_on (h ∷ hs) (x ∷ xs) (y ∷ ys) all (suc buffer) = streams-go_on hs xs ys all.1 buffer

-- lists that go on, and one more at the end
push-goes_on : (hs : List Horizon) (before after : List (List Snapshot)) (h : Horizon) (x y : List Snapshot) → AllGoOn hs before after → RestsOn h x y
    → AllGoOn (hs ++ h ∷ []) (before ++ x ∷ []) (after ++ y ∷ [])
push-goes_on [] [] [] h x y all goes = (goes, tt)
push-goes_on [] [] (w ∷ ws) h x y all goes = absurd all
push-goes_on [] (v ∷ vs) [] h x y all goes = absurd all
push-goes_on [] (v ∷ vs) (w ∷ ws) h x y all goes = absurd all
push-goes_on (g ∷ hs) [] [] h x y all goes = absurd all
push-goes_on (g ∷ hs) [] (w ∷ ws) h x y all goes = absurd all
push-goes_on (g ∷ hs) (v ∷ vs) [] h x y all goes = absurd all
push-goes_on (g ∷ hs) (v ∷ vs) (w ∷ ws) h x y all goes = (all.0, push-goes_on hs vs ws h x y all.1 goes)

-- the buffer of a loop over buffers that go on
turns-go_on : (hs : List Horizon) (before after : List (List Snapshot)) (l : LoopParts) → IsLoop l → l.hi ≤ℤ (T +ℤ REACH) → AllGoOn hs before after
    → RestsOn (loop_horizon hs l) (turns (map stream_of before) l) (turns (map stream_of after) l)
turns-go_on hs before after l is near all =
    let xs = map stream_of before in
    let ys = map stream_of after in
    let timed : IsTimed l = record { stretch = is.stretch.some_ticks; grid = is.grid } in
    let goes = loop-goes_on hs xs ys l is near (streams-go_on hs before after all) in
    let old = turns-stream xs l timed (streams-change before) in
    let new = turns-stream ys l timed (streams-change after) in
    let marks : (tick : ℤ) → IsKnownAt (loop_horizon hs l) tick → mark_at (turns xs l) tick ≡ mark_at (turns ys l) tick =
    λ tick known. old.marks tick ∙ goes.same.marks tick known ∙ sym (new.marks tick) in
    record {
      ended = λ tick known.
          ended-same tick l.lo l.hi (turns xs l) (turns ys l) (turns-Fill xs l timed) (turns-Fill ys l timed)
          (record { at = λ other low high. marks other (known-below (loop_horizon hs l) tick other known high) });
      cells = λ tick known. old.cells tick ∙ goes.same.cells tick known ∙ sym (new.cells tick);
      marks = marks;
      kept = λ tick low is. new.marks tick ∙ goes.kept tick low (sym (old.marks tick) ∙ is);
    }

-- loops over lists that go on
pub loops-go_on : (loops : List LoopParts) (hs : List Horizon) (before after : List (List Snapshot)) → AllByRecursion IsLoop loops
    → AllByRecursion (λ l. l.hi ≤ℤ (T +ℤ REACH)) loops → AllGoOn hs before after
    → AllGoOn (with_loop_horizons hs loops) (with_buffers before loops) (with_buffers after loops)
loops-go_on [] hs before after are near all = all
loops-go_on (l ∷ loops) hs before after are near all =
    let x = turns (map stream_of before) l in
    let y = turns (map stream_of after) l in
    let goes = turns-go_on hs before after l are.0 near.0 all in
    loops-go_on loops (hs ++ loop_horizon hs l ∷ []) (before ++ x ∷ []) (after ++ y ∷ []) are.1 near.1
    (push-goes_on hs before after (loop_horizon hs l) x y all goes)

-- if the inputs of a code go on, so do all its buffers
pub buffers-go_on : (code : CodeParts) (hs : List Horizon) (before after : List (List Snapshot)) → IsCode code → IsNearCode code
    → length before ≡ length code.inputs → AllGoOn hs before after → AllGoOn (code_horizons code hs) (buffers_of code before) (buffers_of code after)
buffers-go_on code hs before after is near count all = loops-go_on code.loops hs before after is.grammatical.loops near all

-- a list and a later state of it that fill a stretch. Up to a tick their cells and their marks are the same, and no mark goes. Nothing is
-- said of a mark at the first tick
record MadeRestsOn (start lo hi : ℤ) (before after : List Snapshot) : Type 0 where
  cells : (tick : ℤ) → lo <ℤ tick → tick ≤ℤ start → cell_at before tick ≡ cell_at after tick
  marks : (tick : ℤ) → (lo +ℤ pos 1) <ℤ tick → tick ≤ℤ start → mark_at before tick ≡ mark_at after tick
  kept : (tick : ℤ) → (lo +ℤ pos 1) <ℤ tick → tick ≤ℤ hi → mark_at before tick ≡ true → mark_at after tick ≡ true

module _ (start lo hi : ℤ) (s r : Snapshot) (ss rs : List Snapshot) (fills : Fill lo hi (s ∷ ss)) (others : Fill lo hi (r ∷ rs))
    (goes : MadeRestsOn start lo hi (s ∷ ss) (r ∷ rs)) (made : s.end ≤ℤ start) where
  -- the first snapshot ends where it did
  first-ends : r.end ≡ s.end
  first-ends =
      let rises = fills.1 in
      let grows = others.1 in
      let within = Fill-up s.end hi ss fills.2 in
      let bound = Fill-up r.end hi rs others.2 in
      let low : r.end ≤ℤ s.end =
      by_lt_z s.end hi
      (λ some. ends-by_mark lo hi s.end r rs others rises (goes.kept (s.end +ℤ pos 1) (omega (arith, ints)) (omega (arith, ints)) (mark_at-end [] s ss)))
      (λ last. omega (arith, ints)) in
      let high : s.end ≤ℤ r.end =
      by_lt_z r.end s.end
      (λ less.
      ends-by_mark lo hi r.end s ss fills grows (goes.marks (r.end +ℤ pos 1) (omega (arith, ints)) (omega (arith, ints)) ∙ mark_at-end [] r rs))
      (λ more. more) in
      omega (arith, ints)

  -- and has the value that it had
  first-value : r.value ≡ s.value
  first-value =
      let at = fills.0 in
      let there = others.0 in
      let rises = fills.1 in
      let grows = others.1 in
      let old : covers s (lo +ℤ pos 1) ≡ true = grind (arith, ints) in
      let new : covers r (lo +ℤ pos 1) ≡ true = grind (arith, ints) in
      let same = goes.cells (lo +ℤ pos 1) (omega (arith, ints)) (omega (arith, ints)) in
      sym (rw (old, new) at same)

  first-is : r ≡ s
  first-is =
      let begins : r.start ≡ s.start = others.0 ∙ sym fills.0 in
      λ i. record { start = begins i; end = first-ends i; value = first-value i }

  rest-goes_on : MadeRestsOn start s.end hi ss rs
  rest-goes_on =
      let rises = fills.1 in
      let ends = first-ends in
      record {
        cells = λ tick low high.
            sym (rest-cell s ss tick low) ∙ goes.cells tick (omega (arith, ints)) high ∙ rest-cell r rs tick (omega (arith, ints));
        marks = λ tick low high.
            sym (rest-mark lo hi s ss tick fills low) ∙ goes.marks tick (omega (arith, ints)) high ∙ rest-mark lo hi r rs tick others (omega (arith, ints));
        kept = λ tick low high is.
            sym (rest-mark lo hi r rs tick others (omega (arith, ints)))
            ∙ goes.kept tick (omega (arith, ints)) high (rest-mark lo hi s ss tick fills low ∙ is);
      }

-- so the snapshots that end up to there are the same
made-same : (lo hi start : ℤ) (before after : List Snapshot) → Fill lo hi before → Fill lo hi after → MadeRestsOn start lo hi before after
    → Fill lo start (made_by start before) → made_by start after ≡ made_by start before
made-same lo hi start [] [] fills others goes stands = refl
made-same lo hi start [] (r ∷ rs) fills others goes stands = let rises = others.1 in absurd (omega (arith, ints, Fill-up r.end hi rs others.2))
made-same lo hi start (s ∷ ss) [] fills others goes stands = let rises = fills.1 in absurd (omega (arith, ints, Fill-up s.end hi ss fills.2))
made-same lo hi start (s ∷ ss) (r ∷ rs) fills others goes stands =
    by_lt_z start s.end
    (λ later.
    let none = made-stopped start s ss later in
    let at : lo ≡ start = rw none at stands in
    let rises = others.1 in
    made-stopped start r rs (omega (arith, ints)) ∙ sym none)
    (λ made.
    let some = made-passed start s ss made in
    let filled : Fill lo start (s ∷ made_by start ss) = rw some at stands in
    let ends = first-ends start lo hi s r ss rs fills others goes made in
    let rest : Fill s.end hi rs = subst (λ (end : ℤ). Fill end hi rs) ends others.2 in
    made-passed start r rs (omega (arith, ints))
    ∙ ap (λ (list : List Snapshot). r ∷ list) (made-same s.end hi start ss rs fills.2 rest (rest-goes_on start lo hi s r ss rs fills others goes made) filled.2)
    ∙ ap (λ (x : Snapshot). x ∷ made_by start ss) (first-is start lo hi s r ss rs fills others goes made) ∙ sym some)

-- what a loop has made up to a known tick stays as it is
pub made-stays : (lo hi start : ℤ) (h : Horizon) (before after : List Snapshot) → Fill lo hi before → Fill lo hi after
    → start ≤ℤ hi → hi ≤ℤ WIDE → RestsOn h before after → IsKnownAt h start → Fill lo start (made_by start before) → made_by start after ≡ made_by start before
made-stays lo hi start h before after fills others below wide goes known stands =
    made-same lo hi start before after fills others (record {
      cells = λ tick low high. goes.cells tick (known-below h start tick known high);
      marks = λ tick low high. goes.marks tick (known-below h start tick known high);
      kept = λ tick low high is. goes.kept tick (omega (arith, ints)) is;
    }) stands
