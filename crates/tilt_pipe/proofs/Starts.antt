-- The loops of a pipe before their first turns: which loops read their buffers, which of them are used, and what is kept of each.
use Rattle.std.proofs.Common.{◌≢◌, ◌≡◌, inl, inr, ◌<◌, ◌≤◌, ℕ, zero, suc, ◌+◌, ◌==◌, ◌&&◌, ◌||◌, not, ℤ, pos, neg_ℤ, ◌+ℤ◌, ◌≤ℤ◌, Bool, true, false, replicate, None, Option}
use Rattle.std.proofs.Common.{List, [], ◌∷◌, ◌++◌, map, length, take, drop, slice_get, slice_set, option_map, Some, Contains, refl}
use Rattle.std.proofs.Common.{sym, ap, ◌∙◌, subst, arith, length-drop}
use Rattle.std.specs.Global.{Vec}
use Rattle.std.proofs.lemmas.Bool.{cases_eq}
use Rattle.std.proofs.lemmas.Int.{ints}
use Rattle.std.proofs.lemmas.List.{drop_all, length-map, length-set, length_push, take_at, length-replicate}
use Rattle.std.proofs.lemmas.List.Elements.{Contains-append_left, Contains-push}
use Rattle.std.proofs.lemmas.Option.{same_Some, slice_get-map, slice_get_within}
use Rattle.circular_buffer.proofs.Places.{slice_get-drop, slice_get-last, slice_get-push, slice_get-set_other, slice_get-set_same}
use Rattle.tilt_base.proofs.GridPoints.{ceil-IsCeil}
use Rattle.tilt_base.proofs.Lists.{all-push, all-slice_get}
use Rattle.tilt_base.specs.declared.limits.TheConstants.{WIDE}
use Rattle.tilt_code.proofs.Runs.{loops-timed}
use Rattle.tilt_code.specs.Code.{LoopParts}
use Rattle.tilt_code.specs.References.{IsCode}
use Rattle.tilt_code.specs.Run.{buffers_of}
use Rattle.tilt_stream.proofs.Filling.{Fill-up}
use Rattle.tilt_stream.specs.Snap.{Snapshot}
use Rattle.tilt_turn.specs.Held.{IsFit}
use Rattle.tilt_turn.specs.Ready.{IsReady}
use Rattle.tilt_pipe.proofs.Covered.{at-contains, one-read, source-near}
use Rattle.tilt_pipe.proofs.Kept.{let_go-within}
use Rattle.tilt_pipe.proofs.Nears.{ready-more, work-ready}
use Rattle.tilt_pipe.proofs.RingsKept.{empty_ring, ring-of}
use Rattle.tilt_pipe.proofs.Standing.{none-made}
use Rattle.tilt_pipe.proofs.Trimming.{trimmed-exact}
use Rattle.tilt_pipe.proofs.Turning.{each-at}
use Rattle.tilt_pipe.proofs.Wanted.{used-source}
use Rattle.tilt_pipe.proofs.Works.{buffers-length, work-fills, work-is, work-there, works-length}
use Rattle.tilt_pipe.specs.Chain.{AreTurns, AreHolders, IsHeld, AreLists, IsHeldBy, held_in}
use Rattle.tilt_pipe.specs.Gathered.{AreEach, HasAdded, HasBegun, HaveBegun, AreEmpty}
use Rattle.tilt_pipe.specs.Made.{Work, is_used, is_used_by, reads_buffer}
use Rattle.tilt_pipe.specs.Positions.{AreRings, RingParts, RingsParts, made_by, stages_at, start_at, starts_of, works_in}
use Rattle.tilt_pipe.specs.Reads.{body_reads}
use Rattle.tilt_pipe.specs.Rings.{rings_of}
use Rattle.tilt_pipe.specs.Sources.{AreReaders, AreSources, HasReader, IsRead, IsReaderOf, IsSource}
use Rattle.tilt_pipe.specs.Trimmed.{wanted_at}
use Rattle.tilt_pipe.specs.declared.chain.LoopTurns.{LoopTurns}
use Rattle.tilt_pipe.specs.declared.chain.Reader.{Reader}
use Rattle.tilt_pipe.specs.declared.read.Read.{Read}
use Rattle.tilt_pipe.specs.declared.sources.Source.{Source}

-- those at one place are others, or one more is there
each-set : (p : RingsParts) (count : ℕ) (Old New : ℕ → Work → LoopTurns → Type 0) (all : List LoopTurns) (place : ℕ) (new : LoopTurns)
    → place < length all → AreEach p count Old all → ((k : ℕ) (w : Work) (t : LoopTurns) → k ≢ place → Old k w t → New k w t)
    → ((w : Work) → slice_get (works_in p) place ≡ Some w → New place w new) → AreEach p count New (slice_set all place new)
each-set p count Old New all place new within are other own = record {
  many = length-set all place new ∙ are.many;
  each = each-at (works_in p) Old New all (slice_set all place new) place new are.each
      (λ k apart. slice_get-set_other all place k new apart) (slice_get-set_same all place new within) other own;
}

pub each-push : {T : Type 0} (p : RingsParts) (Has : ℕ → Work → T → Type 0) (all : List T) (place : ℕ) (new : T)
    → AreEach p place Has all → ((w : Work) → slice_get (works_in p) place ≡ Some w → Has place w new)
    → AreEach p (suc place) Has (all ++ new ∷ [])
each-push {T} p Has all place new are own = record {
  many = omega (arith, length_push all new);
  each = each-at (works_in p) Has Has all (all ++ new ∷ []) place new are.each
      (λ k apart. slice_get-push all new k (λ same. apart (same ∙ are.many))) (slice_get-last all new place (sym are.many))
      (λ k w t apart had. had) own;
}

-- a loop before any said what it reads, with a state that is fit for a first turn over any buffers
pub first-begun : (p : RingsParts) (place : ℕ) (w : Work) (turns : LoopTurns) → IsCode p.code → AreRings p
    → slice_get (works_in p) place ≡ Some w → turns.readers.items ≡ [] → turns.passed ≡ 0
    → ((lists : List (List Snapshot)) (point : ℤ) → IsReady (length lists) w.loop → neg_ℤ WIDE ≤ℤ point → IsFit lists w.loop point turns.state)
    → HasBegun p (length p.code.loops) place w turns
first-begun p place w turns code are is none no_passed fresh =
    let ready = work-ready p place w code are is in
    let it = ring-of p place w code are is in
    let up = Fill-up w.loop.lo it.ring.start (made_by it.ring.start w.whole) it.kept.ring.fill in
    let above = (ceil-IsCeil w.loop.grid (start_at p place +ℤ pos 1) ready.grid.period_low).not_below in
    let all = buffers-length p.code p.inputs in
    let count = works-length p.code p.inputs in
    record {
      fit = (
        neg_ℤ WIDE,
        omega (arith, ints),
        fresh (buffers_of p.code p.inputs) (neg_ℤ WIDE)
            (ready-more (length p.inputs + place) (length (buffers_of p.code p.inputs)) w.loop (omega arith) ready) (omega (arith, ints)),
      );
      sources = λ from. absurd (omega arith);
      readers = subst (AreReaders p.code p.inputs (length p.code.loops) place) (sym none)
          (record { each = tt; all = λ k v r from of. let inside = slice_get_within (works_in p) k v of in absurd (omega arith) });
      used = λ some. let long = ap length none in absurd (omega arith);
      passed = no_passed;
    }

-- a buffer that no used loop reads
none-reads : (buffer : ℕ) (works : List Work)
    → ((k : ℕ) (w : Work) (r : Read) → slice_get works k ≡ Some w → w.used ≡ true → IsRead (body_reads w.loop.body) buffer r → ⊥)
    → is_used_by buffer works ≡ false
none-reads buffer [] none = refl
none-reads buffer (x ∷ works) none =
    by x.used (reads_buffer buffer (body_reads x.loop.body)) refl refl (none-reads buffer works (λ k. none (suc k)))
  where
    by : (used reads : Bool) → x.used ≡ used → reads_buffer buffer (body_reads x.loop.body) ≡ reads → is_used_by buffer works ≡ false
        → ((used && reads) || is_used_by buffer works) ≡ false
    by true true mark found rest = let it = one-read buffer (body_reads x.loop.body) found in absurd (none 0 x it.0 refl mark it.1)
    by true false mark found rest = rest
    by false reads mark found rest = rest

used-by : (buffer : ℕ) (works : List Work) → 0 < length works → is_used buffer works ≡ is_used_by buffer works
used-by buffer [] some = absurd (omega arith)
used-by buffer (w ∷ works) some = refl

-- the last loop is used, and so is an earlier one that has a reader, if all later loops have said what they read
pub last-used : (p : RingsParts) (place : ℕ) (w : Work) → slice_get (works_in p) place ≡ Some w → suc place ≡ length p.code.loops → w.used ≡ true
last-used p place w is end =
    (work-is p.code p.inputs place w is).used
    ∙ ap (is_used (length p.inputs + place)) (drop_all (suc place) (works_in p) (omega (arith, works-length p.code p.inputs)))

pub used-is : (p : RingsParts) (from place : ℕ) (w : Work) (turns : LoopTurns) (many : ℕ) → from ≤ suc place → suc place ≢ length p.code.loops
    → slice_get (works_in p) place ≡ Some w → HasBegun p from place w turns → many ≡ length turns.readers.items → w.used ≡ not (many == 0)
used-is p from place w turns zero high more is begun long =
    let behind = drop (suc place) (works_in p) in
    let count = works-length p.code p.inputs in
    let within = slice_get_within (works_in p) place w is in
    let rest = length-drop (suc place) (works_in p) in
    (work-is p.code p.inputs place w is).used ∙ used-by (length p.inputs + place) behind (omega arith)
    ∙ none-reads (length p.inputs + place) behind (λ k v r at mark read.
    let has = begun.readers.all (suc place + k) v r (omega arith) (sym (slice_get-drop (suc place) (works_in p) k (suc place + k) refl) ∙ at) mark read in
    omega arith)
used-is p from place w turns (suc n) high more is begun long =
    let test : (suc n == 0) ≡ false = grind arith in
    begun.used (omega arith) ∙ ap not (sym test)

-- each loop that it reads is one of them
pub source-there : (p : RingsParts) (place : ℕ) (sources : List Source) (n : ℕ) (s : Source) → IsCode p.code → AreRings p
    → place < length p.code.loops
    → ((w : Work) → slice_get (works_in p) place ≡ Some w → AreSources (length p.inputs) (body_reads w.loop.body) sources)
    → slice_get sources n ≡ Some s → s.place < length p.code.loops
source-there p place sources n s code are there reads at =
    let w = work-there p place there in
    let own = all-slice_get (IsSource (length p.inputs) (body_reads w.0.loop.body)) sources n s (reads w.0 w.1).each at in
    omega (arith, (source-near p place w.0 s code are w.1 own).there)

-- one source more
pub added-push : (p : RingsParts) (place n : ℕ) (w : Work) (sources : List Source) (all : List LoopTurns) (s : Source) (own : LoopTurns)
    (readers : Vec Reader) → IsCode p.code → AreRings p → slice_get (works_in p) place ≡ Some w → w.used ≡ true
    → AreSources (length p.inputs) (body_reads w.loop.body) sources → slice_get sources n ≡ Some s → slice_get all s.place ≡ Some own
    → readers.items ≡ own.readers.items ++ record { place = place; first = s.first } ∷ []
    → AreEach p (length p.code.loops) (HasAdded p place sources n) all → AreEach p (length p.code.loops) (HasAdded p place sources (suc n))
    (slice_set all s.place (record { state = own.state; sources = own.sources; readers = readers; passed = own.passed }))
added-push p place n w sources all s own readers code are is used known at there more added =
    let source = all-slice_get (IsSource (length p.inputs) (body_reads w.loop.body)) sources n s known.each at in
    let low = source.first in
    let x : Reader = record { place = place; first = s.first } in
    each-set p (length p.code.loops) (HasAdded p place sources n) (HasAdded p place sources (suc n)) all s.place
    (record { state = own.state; sources = own.sources; readers = readers; passed = own.passed }) (slice_get_within all s.place own there) added
    (λ k v t apart had.
    record {
      begun = had.begun;
      found = λ u here mark i y below is_y same.
          elim (cases_eq i n) as (λ _. Contains t.readers.items (record { place = place; first = y.first })) [
            | inl last ↦ absurd (apart (let equal : y ≡ s = (let at_i : slice_get sources i ≡ Some s = rw last at in cc) in cc))
            | inr before ↦ had.found u here mark i y (omega arith) is_y same
          ];
    }) (λ v of.
    let had = added.each s.place v own of there in
    record {
      begun = record {
        fit = had.begun.fit;
        sources = had.begun.sources;
        readers = rw more (record {
          each = all-push (IsReaderOf (length p.inputs) p.code.loops s.place) own.readers.items x had.begun.readers.each
              (record { loop = w.loop; is = (work-is p.code p.inputs place w is).loop; read = low.0; reads = low.1; first = low.2 });
          all = λ k u r from of_u mark read.
              let had_k = had.begun.readers.all k u r from of_u mark read in
              let among = Contains-append_left own.readers.items (x ∷ []) had_k.reader had_k.among in
              record { reader = had_k.reader; among = among; place = had_k.place; first = had_k.first };
        });
        used = λ some. used-source p.code p.inputs place s.place w v low.0 is used low.1.among low.1.of
            (source-near p place w s code are is source).there of;
        passed = had.begun.passed;
      };
      found = λ u here mark i y below is_y same.
          rw more (elim (cases_eq i n) as (λ _. Contains (own.readers.items ++ x ∷ []) (record { place = place; first = y.first })) [
            | inl last ↦ (
                let equal : y ≡ s = (let at_i : slice_get sources i ≡ Some s = rw last at in cc) in
                rw equal (Contains-push own.readers.items x)
                )
            | inr before ↦ Contains-append_left own.readers.items (x ∷ []) (record { place = place; first = y.first })
                (had.found u here mark i y (omega arith) is_y same)
          ]);
    })

-- with all of its sources added, a loop has said what it reads
begun-down : (p : RingsParts) (place k : ℕ) (w v : Work) (sources : List Source) (t : LoopTurns) (own : Vec Source)
    → slice_get (works_in p) place ≡ Some w → AreSources (length p.inputs) (body_reads w.loop.body) sources
    → HasAdded p place sources (length sources) k v t → (place ≤ k → AreSources (length p.inputs) (body_reads v.loop.body) own.items)
    → HasBegun p place k v (record { state = t.state; sources = own; readers = t.readers; passed = t.passed })
begun-down p place k w v sources t own is known added own_known = record {
  fit = added.begun.fit;
  sources = own_known;
  readers = record {
    each = added.begun.readers.each;
    all = λ j u r from of mark read.
        elim (cases_eq j place) as (λ _. HasReader t.readers.items j r) [
          | inl same ↦ (
              let at : slice_get (works_in p) place ≡ Some u = ap (slice_get (works_in p)) (sym same) ∙ of in
              let among = subst (λ (x : Work). Contains (body_reads x.loop.body) r) (same_Some u w (sym at ∙ is)) read.among in
              let covered = known.all r among (omega arith) in
              let it = at-contains sources covered.source covered.among in
              record {
                reader = record { place = place; first = covered.source.first };
                among = added.found u at mark it.0 covered.source (slice_get_within sources it.0 covered.source it.1) it.1 (omega arith);
                place = sym same;
                first = covered.first;
              }
              )
          | inr other ↦ added.begun.readers.all j u r (omega arith) of mark read
        ];
  };
  used = added.begun.used;
  passed = added.begun.passed;
}

pub all-down : (p : RingsParts) (place : ℕ) (w : Work) (sources : Vec Source) (all : List LoopTurns) (own : LoopTurns)
    → slice_get (works_in p) place ≡ Some w → AreSources (length p.inputs) (body_reads w.loop.body) sources.items
    → slice_get all place ≡ Some own → AreEach p (length p.code.loops) (HasAdded p place sources.items (length sources.items)) all
    → HaveBegun p place (slice_set all place (record { state = own.state; sources = sources; readers = own.readers; passed = own.passed }))
all-down p place w sources all own is known at are =
    each-set p (length p.code.loops) (HasAdded p place sources.items (length sources.items)) (HasBegun p place) all place
    (record { state = own.state; sources = sources; readers = own.readers; passed = own.passed }) (slice_get_within all place own at) are
    (λ k v t apart had. begun-down p place k w v sources.items t t.sources is known had (λ from. had.begun.sources (omega arith)))
    (λ v of. begun-down p place place w v sources.items own sources is known (are.each place v own of at)
    (λ from. subst (λ (x : Work). AreSources (length p.inputs) (body_reads x.loop.body) sources.items) (same_Some w v (sym is ∙ of)) known))

-- a list that is written back over one of the same length
pub written : (count : ℕ) (all changed : List LoopTurns) → count ≡ length all → length changed ≡ length all
    → take count (changed ++ drop (length changed) all) ≡ changed
written count all changed long same = take_at changed (drop (length changed) all) count (same ∙ sym long)

-- if all have said what they read, they are the turns of loops that are at these starts
pub first-turns : (p : RingsParts) (all : List LoopTurns) → AreRings p → HaveBegun p 0 all → AreTurns p.code p.inputs (starts_of p.rings) all
first-turns p all are begun = record {
  begins = length-map p.rings (λ (r : RingParts). r.start) ∙ are.many;
  many = begun.many;
  each = λ k w t of at.
      let own = begun.each k w t of at in
      record { sources = own.sources (omega arith); readers = own.readers; fit = own.fit; passed = λ i s below at. absurd (omega (arith, own.passed)) };
}

-- one empty list more
pub empty-push : (lists : List (Vec ℕ)) (list : Vec ℕ) → list.items ≡ [] → ((place : ℕ) → held_in lists place ≡ [])
    → (place : ℕ) → held_in (lists ++ list ∷ []) place ≡ []
empty-push [] list none are zero = none
empty-push [] list none are (suc place) = refl
empty-push (x ∷ lists) list none are zero = are zero
empty-push (x ∷ lists) list none are (suc place) = empty-push lists list none (λ n. are (suc n)) place

-- if nobody holds a ring
none-found : (count k : ℕ) (x : Option Reader) → slice_get (replicate count None) k ≡ Some x → None ≡ x
none-found zero k x at = absurd (cc at)
none-found (suc count) zero x at = same_Some None x at
none-found (suc count) (suc k) x at = none-found count k x at

-- nothing is made then
module _ (p : RingsParts) (loops : List LoopParts) (code : IsCode p.code) (are : AreRings p) (same : loops ≡ p.code.loops)
    (first : p.rings ≡ map empty_ring loops) where
  first-made : (k : ℕ) (w : Work) (r : RingParts) → slice_get (works_in p) k ≡ Some w → slice_get p.rings k ≡ Some r
      → (r.forgotten ≡ 0) × (made_by r.start w.whole ≡ [])
  first-made k w r of at =
      let fills = (work-fills p.code p.inputs k w (loops-timed p.code.loops code.grammatical.loops) of).0 in
      let loop : slice_get loops k ≡ Some w.loop = ap (λ (ls : List LoopParts). slice_get ls k) same ∙ (work-is p.code p.inputs k w of).loop in
      let here : slice_get p.rings k ≡ Some (empty_ring w.loop) =
      ap (λ (rings : List RingParts). slice_get rings k) first ∙ slice_get-map empty_ring loops k ∙ ap (option_map empty_ring) loop in
      subst (λ (x : RingParts). (x.forgotten ≡ 0) × (made_by x.start w.whole ≡ [])) (same_Some (empty_ring w.loop) r (sym here ∙ at))
      (refl, none-made w.loop.lo w.loop.hi w.whole fills)

  -- so the rings hold just what is wanted of them
  pub first-exact : map (λ (r : RingParts). r.held) p.rings ≡ rings_of (length p.inputs) (stages_at (works_in p) (starts_of p.rings))
  first-exact =
      trimmed-exact p are (λ k w r of at.
      let none = first-made k w r of at in
      omega (arith, none.0, ap length none.1, let_go-within (wanted_at p k) (made_by r.start w.whole)))

  -- and nobody has to hold one
  pub none-held : (count k : ℕ) → IsHeld p (replicate count None) k
  none-held count k x at =
      subst (IsHeldBy p k) (none-found count k x at) (λ w r of here. omega (arith, ap length (first-made k w r of here).1))

pub no-holders : (inputs : ℕ) (loops : List LoopParts) (count : ℕ) (lists : Vec (Vec ℕ)) → count ≡ length loops → AreEmpty count lists
    → AreHolders inputs loops (replicate count None) × AreLists (replicate count None) lists.items
no-holders inputs loops count lists many empty = (
  record {
    many = length-replicate count None ∙ many;
    among = λ k x at. (let no = none-found count k (Some x) at in absurd (cc no));
  },
  record {
    many = empty.many ∙ sym (length-replicate count None);
    listed = λ k x at. (let no = none-found count k (Some x) at in absurd (cc no));
    within = λ place k among. absurd (omega (arith, among.1, ap length (empty.none place)));
  },
)
