-- The next snapshot of a pipe: what holds of its loops before the first of the turns that it needs, from each turn to the next, and in the
-- end. Also what the pipe is seen as between two of them.
use Rattle.std.proofs.Common.{◌≡◌, ◌≢◌, inl, inr, ◌<◌, ◌≤◌, ℕ, zero, suc, ◌+◌, ◌-◌, ◌*◌, ℤ, pos, ◌+ℤ◌, ◌<ℤ◌, ◌≤ℤ◌, List, [], ◌∷◌, ◌++◌}
use Rattle.std.proofs.Common.{map, length, take, get_or, slice_get, slice_set, Option, Some, None, refl, sym, ap, ◌∙◌, subst, arith, Contains, false, Result, Ok, Err, OnOk}
use Rattle.std.proofs.lemmas.Bool.{cases_eq, cases_lt, false≢true}
use Rattle.std.proofs.lemmas.Int.{ints}
use Rattle.std.proofs.lemmas.List.{get_or-set_other, get_or-set_same, length-map, length-set, length-take, length_push, take_all}
use Rattle.std.specs.Option.{unwrap_or}
use Rattle.std.proofs.lemmas.Option.{same_Some, slice_get_past, slice_get_within}
use Rattle.std.specs.List.{AllByRecursion}
use Rattle.std.specs.Result.{is_err}
use Rattle.circular_buffer.proofs.Places.{slice_get-some}
use Rattle.tilt_base.proofs.Lists.{all-contains}
use Rattle.tilt_code.specs.Body.{last_or}
use Rattle.tilt_code.specs.Code.{LoopParts, CodeParts}
use Rattle.tilt_code.specs.Meaning.{IsTimed}
use Rattle.tilt_code.specs.References.{IsCode}
use Rattle.tilt_code.specs.Run.{run_of}
use Rattle.tilt_code.specs.Turn.{turns}
use Rattle.tilt_code.proofs.Runs.{last_or-pushed, loops-timed, turns-Fill}
use Rattle.tilt_stream.specs.Snap.{Snapshot, last_end}
use Rattle.tilt_stream.specs.Stream.{stream_of}
use Rattle.tilt_pipe.proofs.Exact.{ended-rises, made-prefix, ArePrefixes, prefix-few, least, same-stages, star-enough, star-prefixes}
use Rattle.tilt_pipe.proofs.RingsKept.{ring-of}
use Rattle.tilt_pipe.proofs.Standing.{IsNextMade, all-made, below_end, end-made, next-is, none-made}
use Rattle.tilt_pipe.proofs.Wanted.{turn_point-rises, used-source}
use Rattle.tilt_pipe.proofs.Works.{HasLast, last-loop, run-last, works-filled, works-length}
use Rattle.tilt_pipe.specs.Chain.{AreTold, IsBehind, IsTold}
use Rattle.tilt_pipe.specs.Made.{Stage, Work, stages_from, stages_after, works_from}
use Rattle.tilt_pipe.specs.Positions.{AreRings, IsOpen, RingParts, RingsParts, made_at, made_by, stages_at, start_at, starts_of, works_in}
use Rattle.tilt_pipe.specs.Pulled.{AreEnough, AreFalling, AreFilled, AreStanding, ArePulled, IsAsked, IsBegun, IsPulled, IsReadOf, IsStanding, given_in, left_to_make, made_in, stages_in, start_after}
use Rattle.tilt_pipe.specs.Pulled.{steps_left}
use Rattle.tilt_pipe.specs.Reads.{body_reads, turn_point}
use Rattle.tilt_pipe.specs.Rings.{rings_after, rings_of}
use Rattle.tilt_pipe.specs.Value.{PipeParts, pipe_after}

-- places that fall: the last is the lowest, a still lower one may follow, and the others are left without it
falling-top : (is : ℕ → Type 0) (above : ℕ) (places : List ℕ) (place : ℕ) → AreFalling is above (places ++ place ∷ [])
    → (place < above) × is place
falling-top is above [] place h = (h.0, h.1)
falling-top is above (p ∷ places) place h =
    let rest = falling-top is p places place h.2 in
    (omega (arith, rest.0, h.0), rest.1)

falling-lower : (is : ℕ → Type 0) (above : ℕ) (places : List ℕ) (place lower : ℕ) → AreFalling is above (places ++ place ∷ [])
    → lower < place → is lower → AreFalling is above ((places ++ place ∷ []) ++ lower ∷ [])
falling-lower is above [] place lower h low here = (h.0, h.1, (low, here, tt))
falling-lower is above (p ∷ places) place lower h low here = (h.0, h.1, falling-lower is p places place lower h.2 low here)

falling-pop : (is becomes : ℕ → Type 0) (above : ℕ) (places : List ℕ) (place : ℕ) → AreFalling is above (places ++ place ∷ [])
    → ((p : ℕ) → place < p → is p → becomes p) → AreFalling becomes above places
falling-pop is becomes above [] place h each = tt
falling-pop is becomes above (p ∷ places) place h each =
    (h.0, each p (falling-top is p places place h.2).0 h.1, falling-pop is becomes p places place h.2 each)

falling-last : (is : ℕ → Type 0) (above given : ℕ) (places : List ℕ) → AreFalling is above places → given ≤ above
    → last_or given places ≤ above
falling-last is above given [] h low = low
falling-last is above given (p ∷ places) h low = omega (arith, h.0, falling-last is p p places h.2 (omega arith))

begun-push : (last given : ℕ) (now : List Stage) (places : List ℕ) (place lower : ℕ) → IsBegun last given now (places ++ place ∷ [])
    → IsBegun last given now ((places ++ place ∷ []) ++ lower ∷ [])
begun-push last given now [] place lower h = h
begun-push last given now (p ∷ places) place lower h = h

begun-pop : (is : ℕ → Type 0) (above last given : ℕ) (now later : List Stage) (places : List ℕ) (place : ℕ)
    → made_in later place ≡ suc (made_in now place) → ((k : ℕ) → k ≢ place → made_in later k ≡ made_in now k)
    → AreFalling is above (places ++ place ∷ []) → IsBegun last given now (places ++ place ∷ []) → IsBegun last given later places
begun-pop is above last given now later [] place more same falling h = let begins = h.0 in let count = h.1 in cc
begun-pop is above last given now later (p ∷ places) place more same falling h =
    (h.0, same last (λ equal. omega (arith, (falling-top is p places place falling.2).0, h.0, equal)) ∙ h.1)

-- how many snapshots each loop has made at its position
made_in-at : (works : List Work) (starts : List ℤ) (k : ℕ) (w : Work) → length starts ≡ length works → slice_get works k ≡ Some w
    → made_in (stages_at works starts) k ≡ length (made_by (get_or starts k (pos 0)) w.whole)
made_in-at [] starts k w many is = absurd (cc is)
made_in-at (x ∷ works) [] k w many is = absurd (omega arith)
made_in-at (x ∷ works) (t ∷ starts) zero w many is = ap (λ (v : Work). length (made_by t v.whole)) (same_Some x w is)
made_in-at (x ∷ works) (t ∷ starts) (suc k) w many is = made_in-at works starts k w (omega arith) is

now-prefixes : (works : List Work) (starts : List ℤ) → length starts ≡ length works → ArePrefixes works (stages_at works starts)
now-prefixes [] starts many k = refl
now-prefixes (w ∷ works) [] many k = absurd (omega arith)
now-prefixes (w ∷ works) (t ∷ starts) many zero = ap (λ (made : List Snapshot). Some (record { work = w; made = made })) (made-prefix t w.whole)
now-prefixes (w ∷ works) (t ∷ starts) many (suc k) = now-prefixes works starts (omega arith) k

stands-at : (works : List Work) (starts : List ℤ) (k : ℕ) (w : Work) → AreStanding works starts → slice_get works k ≡ Some w
    → start_after w (made_in (stages_at works starts) k) ≡ get_or starts k (pos 0)
stands-at works starts k w all is =
    let start = get_or starts k (pos 0) in
    ap (λ (n : ℕ). start_after w n) (made_in-at works starts k w all.many is)
    ∙ sym (ap (λ (list : List Snapshot). unwrap_or (last_end list) w.loop.lo) (made-prefix start w.whole))
    ∙ end-made w.loop.lo start (made_by start w.whole) (all.each k w is).fill

-- a turn is of its own loop alone
made_in-other : (works : List Work) (starts : List ℤ) (place : ℕ) (end : ℤ) (k : ℕ) → k ≢ place
    → made_in (stages_at works (slice_set starts place end)) k ≡ made_in (stages_at works starts) k
made_in-other [] starts place end k apart = refl
made_in-other (x ∷ works) [] place end k apart = refl
made_in-other (x ∷ works) (t ∷ starts) zero end zero apart = absurd (apart refl)
made_in-other (x ∷ works) (t ∷ starts) zero end (suc k) apart = refl
made_in-other (x ∷ works) (t ∷ starts) (suc place) end zero apart = refl
made_in-other (x ∷ works) (t ∷ starts) (suc place) end (suc k) apart = made_in-other works starts place end k (λ same. apart (ap suc same))

-- and leaves one less to make
left-falls : (works : List Work) (starts : List ℤ) (star : List Stage) (place : ℕ) (end : ℤ)
    → made_in (stages_at works (slice_set starts place end)) place ≡ suc (made_in (stages_at works starts) place)
    → made_in (stages_at works starts) place < made_in star place
    → suc (left_to_make (stages_at works (slice_set starts place end)) star) ≡ left_to_make (stages_at works starts) star
left-falls [] starts star place end more less = absurd (omega arith)
left-falls (x ∷ works) [] star place end more less = absurd (omega arith)
left-falls (x ∷ works) (t ∷ starts) [] place end more less = absurd (omega arith)
left-falls (x ∷ works) (t ∷ starts) (s ∷ star) zero end more less = omega arith
left-falls (x ∷ works) (t ∷ starts) (s ∷ star) (suc place) end more less = omega (arith, left-falls works starts star place end more less)

less-left : (left m top place : ℕ) → top < m → left * m + top < suc left * m + place
less-left left m top place low = omega arith

-- what holds of a place, and of each other
by-place : {P : ℕ → Type 0} (place : ℕ) → P place → ((k : ℕ) → k ≢ place → P k) → (k : ℕ) → P k
by-place {P} place here others k = elim (cases_eq k place) as (λ _. P k) [ inl same ↦ subst P (sym same) here | inr apart ↦ others k apart ]

-- what each loop makes until the next snapshot is given
abbrev star : ℕ → RingsParts → List Stage
star given p = stages_from (suc given) (length p.inputs) (works_in p)

-- the last of the loops that are asked for
module _ (given : ℕ) (p : RingsParts) (asked : List ℕ) (place : ℕ) (h : IsPulled given p (asked ++ place ∷ [])) where
  pub asked-last : IsAsked (works_in p) (starts_of p.rings) (star given p) place
  asked-last = (falling-top (IsAsked (works_in p) (starts_of p.rings) (star given p)) (length (works_in p)) asked place h.falling).1

  pub asked-open : IsOpen p place asked-last.work
  asked-open = record { is = asked-last.is; before = asked-last.before }

  -- an earlier loop that it waits for will have made more
  source-makes : (source : ℕ) → IsBehind p place asked-last.work source → made_in (star given p) source ≤ made_in (stages_in p) source → ⊥
  source-makes source b most =
      let now = made_in (stages_in p) in
      let v = b.behind in
      let w = asked-last.work in
      let last = made_in (star given p) place - 1 in
      let less = asked-last.fewer in
      let read : IsReadOf (length p.inputs) (works_in p) source place v w b.read =
      record { earlier = b.earlier; from = b.is_open.is; by = asked-last.is; among = b.reads; of = b.of } in
      let own = (h.standing.each place w asked-last.is).filled in
      let more = ended-rises w.loop.lo w.loop.hi w.whole (now place) last own.whole (omega arith) in
      let rises = ended-rises v.loop.lo v.loop.hi v.whole (made_in (star given p) source) (now source)
      (h.standing.each source v b.is_open.is).filled.whole most in
      let at = stands-at (works_in p) (starts_of p.rings) place w h.standing asked-last.is in
      let from = stands-at (works_in p) (starts_of p.rings) source v h.standing b.is_open.is in
      let point = turn_point-rises w.loop (start_at p place) (start_after w last) own.grid (omega (arith, ints)) in
      let reads = star-enough (suc given) (length p.inputs) (works_in p) (λ k u of. (h.standing.each k u of).filled) source place v w b.read last
      read (omega arith) (omega (arith, ints, b.is_open.before)) in
      omega (arith, ints, b.short)

  -- so it may be asked for, and with it a step is done
  pub source-asked : (source : ℕ) → ((w : Work) → IsOpen p place w → IsBehind p place w source)
      → IsPulled given p ((asked ++ place ∷ []) ++ source ∷ [])
  source-asked source each =
      let b = each asked-last.work asked-open in
      let is = IsAsked (works_in p) (starts_of p.rings) (star given p) in
      record {
        standing = h.standing;
        within = h.within;
        enough = h.enough;
        falling = falling-lower is (length (works_in p)) asked place source h.falling b.earlier (record {
          work = b.behind;
          is = b.is_open.is;
          used = used-source p.code p.inputs place source asked-last.work b.behind b.read asked-last.is asked-last.used b.reads b.of b.earlier b.is_open.is;
          before = b.is_open.before;
          fewer = elim (cases_lt (made_in (stages_in p) source) (made_in (star given p) source)) as
              (λ _. made_in (stages_in p) source < made_in (star given p) source) [
                | inl less ↦ less
                | inr most ↦ absurd (source-makes source b most)
              ];
        });
        begun = begun-push (length p.code.loops - 1) given (stages_in p) asked place source h.begun;
      }

  pub source-nearer : (source : ℕ) → ((w : Work) → IsOpen p place w → IsBehind p place w source)
      → steps_left given p ((asked ++ place ∷ []) ++ source ∷ []) < steps_left given p (asked ++ place ∷ [])
  source-nearer source each =
      rw (last_or-pushed 0 (asked ++ place ∷ []) source, last_or-pushed 0 asked place) (omega (arith, (each asked-last.work asked-open).earlier))

-- the rings after the turn of a loop
pub record IsTurned (p q : RingsParts) (place : ℕ) (s : Snapshot) : Type 0 where
  pub told : (w : Work) → IsOpen p place w → AreTold p place w
  pub found : (w : Work) → IsOpen p place w → slice_get w.whole (length (made_at p place w)) ≡ Some s
  pub code : q.code ≡ p.code
  pub inputs : q.inputs ≡ p.inputs
  pub starts : starts_of q.rings ≡ slice_set (starts_of p.rings) place s.end

-- the turn of the last of the loops that are asked for
module _ (given : ℕ) (p q : RingsParts) (asked : List ℕ) (place : ℕ) (h : IsPulled given p (asked ++ place ∷ [])) (s : Snapshot)
    (t : IsTurned p q place s) where
  abbrev here : IsAsked (works_in p) (starts_of p.rings) (star given p) place
  here = asked-last given p asked place h

  abbrev after : List ℤ
  after = slice_set (starts_of p.rings) place s.end

  abbrev now-made : ℕ → ℕ
  now-made = made_in (stages_in p)

  abbrev then-made : ℕ → ℕ
  then-made = made_in (stages_at (works_in p) after)

  next : IsNextMade here.work.loop.lo here.work.loop.hi (start_at p place) here.work.whole s
  next =
      let stands = h.standing.each place here.work here.is in
      next-is here.work.loop.lo here.work.loop.hi (start_at p place) here.work.whole s stands.filled.whole stands.fill
      (t.found here.work (asked-open given p asked place h))

  many : length after ≡ length (works_in p)
  many = length-set (starts_of p.rings) place s.end ∙ h.standing.many

  at : get_or after place (pos 0) ≡ s.end
  at =
      get_or-set_same (starts_of p.rings) place s.end (pos 0)
      (omega (arith, slice_get_within (works_in p) place here.work here.is, h.standing.many))

  one-more : then-made place ≡ suc (now-made place)
  one-more =
      made_in-at (works_in p) after place here.work many here.is
      ∙ ap (λ (t : ℤ). length (made_by t here.work.whole)) at ∙ ap length next.more
      ∙ length_push (made_by (start_at p place) here.work.whole) s
      ∙ omega (arith, made_in-at (works_in p) (starts_of p.rings) place here.work h.standing.many here.is)

  as-many : (k : ℕ) → k ≢ place → then-made k ≡ now-made k
  as-many = made_in-other (works_in p) (starts_of p.rings) place s.end

  no-fewer : (k : ℕ) → now-made k ≤ then-made k
  no-fewer =
      by-place {P = λ (k : ℕ). now-made k ≤ then-made k} place (omega (arith, one-more)) (λ k apart. omega (arith, as-many k apart))

  turned-standing : AreStanding (works_in p) after
  turned-standing = record {
    many = many;
    each = by-place {P = λ (k : ℕ). (w : Work) → slice_get (works_in p) k ≡ Some w → IsStanding w (get_or after k (pos 0))} place
        (λ w is.
        subst (IsStanding w) (sym at) (subst (λ (v : Work). IsStanding v s.end) (same_Some here.work w (sym here.is ∙ is))
        (record { filled = (h.standing.each place here.work here.is).filled; fill = next.fill; within = next.within }))) (λ k apart w is.
        subst (IsStanding w) (sym (get_or-set_other (starts_of p.rings) place k s.end (pos 0) apart)) (h.standing.each k w is));
  }

  -- what the turn read is made
  turned-enough : AreEnough (length p.inputs) (works_in p) then-made
  turned-enough source k v w r last read is before =
      let filled = (h.standing.each source v read.from).filled in
      let rises = ended-rises v.loop.lo v.loop.hi v.whole (now-made source) (then-made source) filled.whole (no-fewer source) in
      let at = stands-at (works_in p) (starts_of p.rings) source v h.standing read.from in
      let reads : (turn_point w.loop (start_after w last) +ℤ r.last) ≤ℤ start_after v (now-made source) =
      elim (cases_eq k place) as (λ _. (turn_point w.loop (start_after w last) +ℤ r.last) ≤ℤ start_after v (now-made source)) [
        | inl same ↦ (
            let own : w ≡ here.work = same_Some w here.work (sym read.by ∙ ap (slice_get (works_in p)) same ∙ here.is) in
            let count : last ≡ now-made place = omega (arith, one-more, sym is ∙ ap then-made same) in
            let point = turn_point here.work.loop (start_at p place) in
            let among = subst (λ (u : Work). Contains (body_reads u.loop.body) r) own read.among in
            let told = all-contains (IsTold p point) (body_reads here.work.loop.body) r
            (t.told here.work (asked-open given p asked place h)) among source v read.of read.from in
            rw (own, count, stands-at (works_in p) (starts_of p.rings) place here.work h.standing here.is, at)
            (below_end (point +ℤ r.last) (start_at p source) v.loop.hi told (omega (arith, ints)))
            )
        | inr apart ↦ h.enough source k v w r last read (sym (as-many k apart) ∙ is) (omega (arith, ints))
      ] in
      omega (arith, ints)

  -- after it the others are still asked for
  pub turn-pulled : IsPulled given q asked
  turn-pulled =
      let is = IsAsked (works_in p) (starts_of p.rings) (star given p) in
      let becomes = IsAsked (works_in p) after (star given p) in
      let pulled : ArePulled (length p.inputs) (works_in p) (length p.code.loops - 1) given after asked = record {
        standing = turned-standing;
        within = by-place {P = λ (k : ℕ). then-made k ≤ made_in (star given p) k} place (omega (arith, one-more, here.fewer))
            (λ k apart. omega (arith, as-many k apart, h.within k));
        enough = turned-enough;
        falling = falling-pop is becomes (length (works_in p)) asked place h.falling
            (λ k high one.
            let apart : k ≢ place = λ same. omega arith in
            record {
              work = one.work;
              is = one.is;
              used = one.used;
              before = rw (get_or-set_other (starts_of p.rings) place k s.end (pos 0) apart) one.before;
              fewer = rw (as-many k apart) one.fewer;
            });
        begun = begun-pop is (length (works_in p)) (length p.code.loops - 1) given (stages_in p) (stages_at (works_in p) after) asked place
            one-more as-many h.falling h.begun;
      } in
      rw (t.code, t.inputs, t.starts) pulled

  -- and a step is done
  pub turn-nearer : steps_left given q asked < steps_left given p (asked ++ place ∷ [])
  turn-nearer =
      let falls = left-falls (works_in p) (starts_of p.rings) (star given p) place s.end one-more here.fewer in
      let top = falling-last (λ k. k ≡ k) (length (works_in p)) 0 asked
      (falling-pop (IsAsked (works_in p) (starts_of p.rings) (star given p)) (λ k. k ≡ k) (length (works_in p)) asked place h.falling
      (λ k high one. refl)) (omega arith) in
      let left = left_to_make (stages_at (works_in p) after) (star given p) in
      rw (t.code, t.inputs, t.starts, ← falls, last_or-pushed 0 asked place)
      (less-left left (suc (length (works_in p))) (last_or 0 asked) place (omega arith))

  -- if it was the only one, its snapshot is the next one of the run
  pub turn-given : asked ≡ [] → Some s ≡ slice_get (run_of p.code p.inputs) given
  turn-given none =
      let begun = rw none at h.begun in
      let last = run-last p.code p.inputs here.work (subst (λ (k : ℕ). slice_get (works_in p) k ≡ Some here.work) begun.0 here.is) in
      let count = made_in-at (works_in p) (starts_of p.rings) place here.work h.standing.many here.is in
      let given_is : now-made place ≡ given = subst (λ (k : ℕ). now-made k ≡ given) (sym begun.0) begun.1 in
      sym (t.found here.work (asked-open given p asked place h)) ∙ ap (slice_get here.work.whole) (sym count ∙ given_is)
      ∙ ap (λ (list : List Snapshot). slice_get list given) last.0

-- the loops of rings stand
pub rings-stand : (p : RingsParts) → IsCode p.code → AreRings p → AreStanding (works_in p) (starts_of p.rings)
rings-stand p code rings =
    let filled = works-filled p.code p.inputs (loops-timed p.code.loops code.grammatical.loops) in
    record {
      many = omega (arith, rings.many, works-length p.code p.inputs, length-map p.rings (λ (r : RingParts). r.start));
      each = λ k w is.
          let it = ring-of p k w code rings is in
          rw it.start (record { filled = filled k w is; fill = it.kept.ring.fill; within = it.kept.ring.within });
    }

-- if the last loop is at the end of its stretch, the run has no more snapshots
pub none-left : (p : RingsParts) (l : HasLast p.code p.inputs) → AreStanding (works_in p) (starts_of p.rings)
    → l.work.loop.hi ≤ℤ start_at p (length p.code.loops - 1) → None ≡ slice_get (run_of p.code p.inputs) (given_in p)
none-left p l standing ended =
    let last = length p.code.loops - 1 in
    let filled = (standing.each last l.work l.is).filled in
    let all = all-made l.work.loop.lo l.work.loop.hi (start_at p last) l.work.whole filled.whole ended in
    let count = made_in-at (works_in p) (starts_of p.rings) last l.work standing.many l.is in
    sym (slice_get_past (run_of p.code p.inputs) (given_in p) (omega (arith, ap (λ (list : List Snapshot). length list) (all ∙ l.run))))

-- before that it may be asked for
star-last : (given buffer : ℕ) (works : List Work) (last : ℕ) (w : Work) → suc last ≡ length works → slice_get works last ≡ Some w
    → made_in (stages_from given buffer works) last ≡ length (take given w.whole)
star-last given buffer [] last w long is = absurd (cc is)
star-last given buffer (x ∷ []) zero w long is = ap (λ (v : Work). length (take given v.whole)) (same_Some x w is)
star-last given buffer (x ∷ []) (suc last) w long is = absurd (cc is)
star-last given buffer (x ∷ next ∷ works) zero w long is = absurd (omega arith)
star-last given buffer (x ∷ next ∷ works) (suc last) w long is = star-last given (suc buffer) (next ∷ works) last w (omega arith) is

pub pull-begun : (p : RingsParts) (l : HasLast p.code p.inputs) → AreStanding (works_in p) (starts_of p.rings)
    → stages_in p ≡ stages_after p.code p.inputs (given_in p) → start_at p (length p.code.loops - 1) <ℤ l.work.loop.hi
    → IsPulled (given_in p) p ((length p.code.loops - 1) ∷ [])
pull-begun p l standing made before =
    let works = works_in p in
    let last = length p.code.loops - 1 in
    let given = given_in p in
    let buffer = length p.inputs in
    let w = l.work in
    let filled : AreFilled works = λ k v is. (standing.each k v is).filled in
    let most = star-last (suc given) buffer works last w l.place l.is in
    let cut = length-take (suc given) w.whole in
    let less : given < length w.whole = elim (cases_lt given (length w.whole)) as (λ _. given < length w.whole) [
      | inl less ↦ less
      | inr all ↦ (
          let at = stands-at works (starts_of p.rings) last w standing l.is in
          let rises = ended-rises w.loop.lo w.loop.hi w.whole (length w.whole) given (filled last w l.is).whole all in
          let whole = rw (take_all (length w.whole) w.whole (omega arith), end-made w.loop.lo w.loop.hi w.whole (filled last w l.is).whole) at rises in
          absurd (omega (arith, ints))
          )
    ] in
    record {
      standing = standing;
      within = subst (λ (now : List Stage). (k : ℕ) → made_in now k ≤ made_in (star given p) k) (sym made)
          (least given buffer works (made_in (star given p)) filled (star-enough (suc given) buffer works filled)
          (λ k is. let same : k ≡ last = omega arith in rw same (omega arith)));
      enough = subst (λ (now : List Stage). AreEnough buffer works (made_in now)) (sym made) (star-enough given buffer works filled);
      falling = (
        omega arith,
        record { work = w; is = l.is; used = l.used; before = before; fewer = omega arith },
        tt,
      );
      begun = (refl, refl);
    }

-- once no loop is asked for any more, a pipe has given one snapshot more, and it was there
pub record IsPulledOn (given : ℕ) (p : RingsParts) (next : Option Snapshot) : Type 0 where
  pub given_is : given_in p ≡ suc given
  pub made : stages_in p ≡ stages_after p.code p.inputs (given_in p)
  pub there : (s : Snapshot) × (next ≡ Some s)

pub pull-ends : (given : ℕ) (p : RingsParts) (next : Option Snapshot) → IsCode p.code → IsPulled given p []
    → next ≡ slice_get (run_of p.code p.inputs) given → IsPulledOn given p next
pull-ends given p next code h is =
    let l = last-loop p.code p.inputs code in
    let works = works_in p in
    let prefixes = now-prefixes works (starts_of p.rings) h.standing.many in
    let few = prefix-few works (stages_in p) (length p.code.loops - 1) l.work prefixes l.is in
    let run = ap (λ (list : List Snapshot). length list) l.run in
    let begun : given_in p ≡ suc given = h.begun in
    let there = slice_get-some (run_of p.code p.inputs) given (omega arith) in
    let no-fewer = least (suc given) (length p.inputs) works (made_in (stages_in p)) (λ k w is. (h.standing.each k w is).filled) h.enough
    (λ k is. let same : k ≡ length p.code.loops - 1 = omega arith in rw same (omega arith)) in
    record {
      given_is = h.begun;
      made = rw begun
          (same-stages works (stages_in p) (star given p) prefixes (star-prefixes (suc given) (length p.inputs) works)
          (λ k. omega (arith, no-fewer k, h.within k)));
      there = (there.0, is ∙ there.1);
    }

-- before the first snapshot no loop has made any
none-made_in : (buffer : ℕ) (lists : List (List Snapshot)) (loops : List LoopParts) → AllByRecursion IsTimed loops → (k : ℕ)
    → made_in (stages_at (works_from buffer lists loops) (map (λ (l : LoopParts). l.lo) loops)) k ≡ 0
none-made_in buffer lists [] timed k = refl
none-made_in buffer lists (l ∷ loops) timed zero =
    let whole = turns (map stream_of lists) l in
    ap (λ (list : List Snapshot). length list) (none-made l.lo l.hi whole (turns-Fill (map stream_of lists) l timed.0))
none-made_in buffer lists (l ∷ loops) timed (suc k) = none-made_in (suc buffer) (lists ++ turns (map stream_of lists) l ∷ []) loops timed.1 k

pub rings-new : (p : RingsParts) → IsCode p.code → starts_of p.rings ≡ map (λ (l : LoopParts). l.lo) p.code.loops
    → (given_in p ≡ 0) × (stages_in p ≡ stages_after p.code p.inputs 0)
rings-new p code starts =
    let works = works_in p in
    let buffer = length p.inputs in
    let timed = loops-timed p.code.loops code.grammatical.loops in
    let many = ap length starts ∙ length-map p.code.loops (λ (l : LoopParts). l.lo) ∙ sym (works-length p.code p.inputs) in
    let none : (k : ℕ) → made_in (stages_in p) k ≡ 0 = rw starts (none-made_in buffer p.inputs p.code.loops timed) in
    let filled = works-filled p.code p.inputs timed in
    let fewest = least 0 buffer works (λ _. 0) filled (λ source place v w r last read is. absurd (omega (arith, is))) (λ last is. omega arith) in (
      none (length p.code.loops - 1),
      same-stages works (stages_in p) (stages_from 0 buffer works) (now-prefixes works (starts_of p.rings) many) (star-prefixes 0 buffer works)
          (λ k. omega (arith, none k, fewest k)),
    )

-- the rings of a pipe, as they are seen
abbrev seen : RingsParts → PipeParts
seen p = record { code = p.code; inputs = p.inputs; rings = map (λ (r : RingParts). r.held) p.rings; given = given_in p; refused = false }

-- they are those of the definition where the loops have made what it says, and hold no more of it than it says
pub seen-of : (p : RingsParts) (code : CodeParts) (inputs : List (List Snapshot)) (given : ℕ)
    → map (λ (r : RingParts). r.held) p.rings ≡ rings_of (length p.inputs) (stages_in p)
    → stages_in p ≡ stages_after p.code p.inputs given → given_in p ≡ given → p.code ≡ code → p.inputs ≡ inputs
    → seen p ≡ pipe_after code inputs given
seen-of p code inputs given exact made is same_code same_inputs =
    let after : rings_after p.code p.inputs given ≡ rings_after code inputs given = λ i. rings_after (same_code i) (same_inputs i) given in
    let rings = exact ∙ ap (rings_of (length p.inputs)) made ∙ after in
    λ i. record { code = same_code i; inputs = same_inputs i; rings = rings i; given = is i; refused = false }

-- what follows from an `Ok`
pub from-ok : {A E : Type 0} (P : Type 0) (r : Result A E) → OnOk r P → is_err r ≡ false → P
from-ok P (Ok a) h fine = h
from-ok P (Err e) h fine = absurd (false≢true (sym fine))
