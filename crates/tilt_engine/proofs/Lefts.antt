-- What a turn reads of what is left of the buffers is what it reads of the whole ones.
use Rattle.std.proofs.Common.{◌≡◌, ◌⊎◌, inl, inr, ◌<◌, ◌≤◌, ◌+◌, ◌-◌, ℕ, ℤ, ◌+ℤ◌, ◌≤ℤ◌, List, [], ◌∷◌, ◌++◌, length, map, drop, get_or, option_map, Some, sym, ap, ◌∙◌, subst, arith}
use Rattle.std.proofs.lemmas.Bool.{cases_lt}
use Rattle.std.proofs.lemmas.Int.{by_lt_z}
use Rattle.std.proofs.lemmas.List.{get_or-append-add, get_or_append_left}
use Rattle.std.proofs.lemmas.Option.{get_or_from_slice_get, slice_get-map}
use Rattle.std.specs.List.{AllByRecursion}
use Rattle.circular_buffer.proofs.Places.{slice_get-some}
use Rattle.tilt_code.proofs.Runs.{loops-timed}
use Rattle.tilt_code.specs.Code.{Block, CodeParts}
use Rattle.tilt_code.specs.References.{IsCode}
use Rattle.tilt_code.specs.Run.{buffers_of}
use Rattle.tilt_code.specs.declared.instr.Instr.{Instr}
use Rattle.tilt_code.specs.declared.instr.Instr.TheVariants.{Const, Null, Argument, Port, Win, One, Two, If}
use Rattle.tilt_engine.proofs.Gone.{drop-none, rest-at, rests-long}
use Rattle.tilt_engine.proofs.Ringed.{lefts-at, pieces-are, ring-is}
use Rattle.tilt_engine.specs.CodeHorizon.{block_horizon, code_horizons, instr_horizon}
use Rattle.tilt_engine.specs.Gone.{rests}
use Rattle.tilt_engine.specs.Standing.{AreLoops, gone_at, loop_at, rings_parts}
use Rattle.tilt_engine.specs.Stock.{MadeParts, made_list, pieces, reached}
use Rattle.tilt_feed.proofs.Known.{known-first, known-later, known-second}
use Rattle.tilt_feed.specs.Horizon.{Horizon, IsKnownAt, horizon_of}
use Rattle.tilt_pipe.proofs.Standing.{made-passed, made-stopped}
use Rattle.tilt_pipe.proofs.Telling.{made-same, same-is}
use Rattle.tilt_pipe.proofs.Works.{input-is, work-fills, work-is, works-length}
use Rattle.tilt_pipe.specs.Made.{works_of}
use Rattle.tilt_pipe.specs.Positions.{RingsParts, made_by, open_lists, starts_of}
use Rattle.tilt_stream.specs.Agreement.{IsSameUpTo}
use Rattle.tilt_stream.specs.Snap.{Fill, Snapshot, gap_before}
use Rattle.tilt_turn.specs.Ready.{IsReadable}
use Rattle.tilt_turn.specs.Same.{IsSameFor}
use Rattle.tilt_turn.specs.declared.state.LoopState.{LoopState}

-- what a loop has made since the first ones went reads the same as what is left of its whole buffer
left-same : (lo hi reach last : ℤ) (g made whole : List Snapshot) → Fill lo hi whole → Fill lo reach (made_by reach whole) → g ++ made ≡ made_by reach whole
    → (hi ≤ℤ reach) ⊎ (last ≤ℤ reach) → IsSameUpTo last (made ++ gap_before (Some reach) hi) (drop (length g) whole)
left-same lo hi reach last [] made whole fills stands all far =
    subst (λ (front : List Snapshot). IsSameUpTo last (front ++ gap_before (Some reach) hi) (drop 0 whole)) (sym all)
    (subst (λ (list : List Snapshot). IsSameUpTo last (made_by reach whole ++ gap_before (Some reach) hi) list) (sym (drop-none whole))
    (made-same lo hi reach last whole fills stands far))
left-same lo hi reach last (s ∷ g) made [] fills stands all far = absurd (cc all)
left-same lo hi reach last (s ∷ g) made (x ∷ whole) fills stands all far =
    by_lt_z reach x.end
    (λ high. let none = all ∙ made-stopped reach x whole high in absurd (cc none))
    (λ low.
    let some = made-passed reach x whole low in
    let both : s ∷ (g ++ made) ≡ x ∷ made_by reach whole = all ∙ some in
    let rest : g ++ made ≡ made_by reach whole = cc both in
    let filled : Fill lo reach (x ∷ made_by reach whole) = rw some at stands in
    left-same x.end hi reach last g made whole fills.2 filled.2 rest far)

module _ (code : CodeParts) (rows gone : List (List Snapshot)) (hs : List Horizon) (loops : List MadeParts) (states : List LoopState) (place : ℕ)
    (is : IsCode code) (are : AreLoops code rows gone hs loops states place) where
  abbrev p : RingsParts
  p = rings_parts code rows gone loops

  abbrev H : List Horizon
  H = code_horizons code hs

  abbrev lefts : List (List Snapshot)
  lefts = rests gone rows ++ map made_list loops

  abbrev wholes : List (List Snapshot)
  wholes = buffers_of code rows

  left-input : (last : ℤ) (buffer : ℕ) → buffer < length rows → IsSameUpTo last (get_or lefts buffer []) (get_or (rests gone wholes) buffer [])
  left-input last buffer input =
      same-is last (get_or lefts buffer []) (get_or (rests gone wholes) buffer [])
      (lefts-at code rows gone hs loops states place is are buffer
      ∙ ap (drop (length (get_or gone buffer [])))
      (get_or_append_left rows (open_lists (works_of code rows) (starts_of p.rings)) [] buffer input ∙ sym (input-is code rows buffer input))
      ∙ sym (rest-at gone wholes buffer))

  left-loop : (last : ℤ) (source : ℕ) → source < place → source < length code.loops → IsKnownAt (loop_at code hs source) last
      → IsSameUpTo last (get_or lefts (length rows + source) []) (get_or (rests gone wholes) (length rows + source) [])
  left-loop last source before within known =
      let work = slice_get-some (works_of code rows) source (omega (arith, within, works-length code rows)) in
      let found = slice_get-some loops source (omega (arith, within, are.many)) in
      let state = slice_get-some states source (omega (arith, within, are.many_states)) in
      let w = work.0 in
      let m = found.0 in
      let it = are.each source w m state.0 work.1 found.1 state.1 in
      let g = gone_at code gone source in
      let ring = ring-is code rows gone hs loops states place is are source w m work.1 found.1 in
      let fills = (work-fills code rows source w (loops-timed code.loops is.grammatical.loops) work.1).0 in
      let far : (w.loop.hi ≤ℤ reached m) ⊎ (last ≤ℤ reached m) =
      subst (λ (t : ℤ). (t ≤ℤ reached m) ⊎ (last ≤ℤ reached m)) it.hi (are.done source m before found.1 last known) in
      let same = left-same w.loop.lo w.loop.hi (reached m) last g (pieces m) w.whole fills ring.fill
      (pieces-are code rows gone hs loops states place is are source w m work.1 found.1) far in
      let list : get_or (map made_list loops) source [] ≡ pieces m ++ gap_before (Some (reached m)) w.loop.hi =
      get_or_from_slice_get (map made_list loops) source (made_list m) [] (slice_get-map made_list loops source ∙ ap (option_map made_list) found.1)
      ∙ ap (λ (t : ℤ). pieces m ++ gap_before (Some (reached m)) t) it.hi in
      let left : get_or lefts (length rows + source) [] ≡ pieces m ++ gap_before (Some (reached m)) w.loop.hi =
      ap (λ (n : ℕ). get_or lefts (n + source) []) (sym (rests-long gone rows)) ∙ get_or-append-add (rests gone rows) (map made_list loops) source [] ∙ list in
      let at : get_or (rests gone wholes) (length rows + source) [] ≡ drop (length g) w.whole =
      rest-at gone wholes (length rows + source)
      ∙ ap (drop (length (get_or gone (length rows + source) []))) (work-is code rows source w work.1).filled
      ∙ ap (λ (n : ℕ). drop (length (get_or gone (n + source) [])) w.whole) are.inputs in
      subst (λ (list : List Snapshot). IsSameUpTo last list (get_or (rests gone wholes) (length rows + source) [])) (sym left)
      (subst (λ (list : List Snapshot). IsSameUpTo last (pieces m ++ gap_before (Some (reached m)) w.loop.hi) list) (sym at) same)

  left-read : (point last : ℤ) (buffer : ℕ) → buffer < length rows + place → buffer < length rows + length code.loops
      → IsKnownAt (horizon_of H buffer) (point +ℤ last) → IsSameUpTo (point +ℤ last) (get_or lefts buffer []) (get_or (rests gone wholes) buffer [])
  left-read point last buffer near there known =
      elim (cases_lt buffer (length rows)) as (λ _. IsSameUpTo (point +ℤ last) (get_or lefts buffer []) (get_or (rests gone wholes) buffer [])) [
        | inl input ↦ left-input (point +ℤ last) buffer input
        | inr behind ↦ (
            let source = buffer - length rows in
            let is_at : length rows + source ≡ buffer = omega (arith, behind) in
            let own : buffer ≡ length code.inputs + source = omega (arith, is_at, are.inputs) in
            subst (λ (n : ℕ). IsSameUpTo (point +ℤ last) (get_or lefts n []) (get_or (rests gone wholes) n [])) is_at
            (left-loop (point +ℤ last) source (omega (arith, near, is_at)) (omega (arith, there, is_at))
            (subst (λ (n : ℕ). IsKnownAt (horizon_of H n) (point +ℤ last)) own known)))
      ]

  -- so does what a body reads at a grid point at which all of that is known
  pub left-block : (point : ℤ) (maps : ℕ) (block : Block) → place ≤ length code.loops → AllByRecursion (IsReadable (length rows + place) maps) block
      → IsKnownAt (block_horizon H block) point → AllByRecursion (IsSameFor lefts (rests gone wholes) point) block
  left-block point maps [] upto near known = tt
  left-block point maps (Const number ∷ block) upto near known = (tt, left-block point maps block upto near.1 known)
  left-block point maps (Null ∷ block) upto near known = (tt, left-block point maps block upto near.1 known)
  left-block point maps (Argument ∷ block) upto near known = (tt, left-block point maps block upto near.1 known)
  left-block point maps (Port buffer offset ∷ block) upto near known =
      let h = horizon_of H buffer in
      let there_ = near.0.0 in
      let own = known-later h offset point (known-first (instr_horizon H (Port buffer offset)) (block_horizon H block) point known) in
      let rest = known-second (instr_horizon H (Port buffer offset)) (block_horizon H block) point known in
      (left-read point offset buffer there_ (omega (arith, there_, upto)) own, left-block point maps block upto near.1 rest)
  left-block point maps (Win reducer buffer from to number ∷ block) upto near known =
      let h = horizon_of H buffer in
      let i : Instr = Win reducer buffer from to number in
      let there_ = near.0.0 in
      let own = known-later h to point (known-first (instr_horizon H i) (block_horizon H block) point known) in
      let rest = known-second (instr_horizon H i) (block_horizon H block) point known in
      (left-read point to buffer there_ (omega (arith, there_, upto)) own, left-block point maps block upto near.1 rest)
  left-block point maps (One op a ∷ block) upto near known = (tt, left-block point maps block upto near.1 known)
  left-block point maps (Two op a b ∷ block) upto near known = (tt, left-block point maps block upto near.1 known)
  left-block point maps (If c a b ∷ block) upto near known = (tt, left-block point maps block upto near.1 known)
