-- The code of a query means what the query means.
use Rattle.std.proofs.Common.{◌≡◌, ℕ, zero, suc, ◌+◌, ◌-◌, ◌<◌, ◌==◌, ℤ, pos, ◌+ℤ◌, ◌-ℤ◌, Bool, true, false, List, [], ◌∷◌, ◌++◌, length, map, get_or, drop, Option, Some, None, inl, inr, refl, sym}
use Rattle.std.proofs.Common.{ap, ◌∙◌, arith, subst, length-append}
use Rattle.std.specs.Prelude.{int_lt, nat_lt, ◌&&◌}
use Rattle.std.specs.Int.{int_min, int_max}
use Rattle.std.specs.List.{AllByRecursion}
use Rattle.std.specs.Option.{unwrap_or}
use Rattle.std.proofs.Math.Seq.{get_or-append_seam, drop-length}
use Rattle.std.proofs.lemmas.Int.{ints, clamps}
use Rattle.std.proofs.lemmas.List.{length-map, map-append, append-nil, get_or_past, get_or_default}
use Rattle.std.proofs.lemmas.Bool.{or_right}
use Rattle.tilt_core.proofs.Last.{last-need}
use Rattle.tilt_bounds.proofs.Needs.{below_or_behind, need_at-definition}
use Rattle.tilt_bounds.proofs.Steps.{length-needs}
use Rattle.tilt_bounds.specs.Laws.{AgreeAsAsked}
use Rattle.tilt_bounds.specs.Margins.{MarginsParts, need_at}
use Rattle.tilt_bounds.specs.Stretch.{cut_down, stretch_of}
use Rattle.tilt_bounds.specs.declared.loop_span.LoopSpan.{LoopSpan}
use Rattle.tilt_code.proofs.Runs.{with_buffers-streams, run-is, last_or-pushed, with_loops-last}
use Rattle.tilt_code.specs.Body.{last_or}
use Rattle.tilt_code.specs.Code.{LoopParts, CodeParts}
use Rattle.tilt_code.specs.Meaning.{IsTimed, loop_of, with_loops, meaning_of}
use Rattle.tilt_code.specs.Run.{buffers_of, run_of}
use Rattle.tilt_fuse.proofs.Planned.{rest-loop}
use Rattle.tilt_fuse.specs.FusedTree.{FusedTree, PlannedLoop}
use Rattle.tilt_fuse.specs.Plan.{fused, is_merged, loops_from, plan_of, has_loop}
use Rattle.tilt_fuse.specs.Trees.{IsKnown}
use Rattle.tilt_lower.proofs.Numbers.{loops_from-behind, buffer_of-next}
use Rattle.tilt_lower.proofs.States.{AreLowered, State, state, length-with_loops}
use Rattle.tilt_stream.proofs.Snapped.{snapshots-agree}
use Rattle.tilt_lower.specs.Law.{LiesWithin, MeansTheQuery, has_buffer}
use Rattle.tilt_lower.specs.Lowering.{buffer_of, loop_on, no_definition, lowered, code_of}
use Rattle.tilt_stream.proofs.Locality.{narrower-agrees}
use Rattle.tilt_stream.specs.Agreement.{Agree}
use Rattle.tilt_stream.specs.Pointwise.{nothing}
use Rattle.tilt_stream.specs.Snap.{Snapshot}
use Rattle.tilt_stream.specs.Snapshots.{snapshots}
use Rattle.tilt_stream.specs.Stream.{Stream, stream_of}
use Rattle.tilt_base.specs.declared.span.Span.{Span}
use Rattle.tilt_core.specs.Core.{CoreParts, domain_of, emitted_number}
use Rattle.tilt_core.specs.CoreTree.{Definition}
use Rattle.tilt_core.specs.Meaning.{source_of, with_definitions, meaning}
use Rattle.tilt_core.specs.Needs.{Need, no_margin, needs_from, needs}

-- the stretch of the emitted definition is the stretch of the output
output_stretch : (over : Option Span) (lo hi : ℤ) → LiesWithin over lo hi
    → (let s = cut_down over (lo -ℤ pos 0) (hi +ℤ pos 0) in s ≡ record { lo = lo; hi = hi; empty = false })
output_stretch None lo hi within = absurd within
output_stretch (Some span) lo hi within =
    let low = within.0 in
    let some = within.1 in
    let high = within.2 in
    let start : int_max (lo -ℤ pos 0) span.start ≡ lo = omega (arith, ints, clamps) in
    let end : int_min (hi +ℤ pos 0) span.end ≡ hi = omega (arith, ints, clamps) in
    let test : int_lt lo hi ≡ true = grind (arith, ints) in
    rw (start, end, test) refl

last-domain : (place : ℕ) (defs : List Definition) (other : Definition) → length defs ≡ suc place → domain_of defs ≡ (get_or defs place other).over
last-domain place [] other is = absurd (omega arith)
last-domain zero (def ∷ []) other is = refl
last-domain (suc place) (def ∷ []) other is = absurd (omega arith)
last-domain zero (def ∷ next ∷ defs) other is = absurd (omega arith)
last-domain (suc place) (def ∷ next ∷ defs) other is = last-domain place (next ∷ defs) other (omega arith)

-- it is never merged
never-merged : (fuse : Bool) (def : Definition) (behind : List Definition) (ns : List (Option Need)) (number : ℕ) (t : FusedTree) → behind ≡ [] → (fuse && is_merged def behind ns number t) ≡ false
never-merged false def behind ns number t is = refl
never-merged true def behind ns number t is = rw is refl

last-is : (bs : List Stream) (front : List LoopParts) (l : LoopParts) → last_or nothing (with_loops bs (front ++ l ∷ [])) ≡ get_or (with_loops bs (front ++ l ∷ [])) (length bs + length front) nothing
last-is bs front l =
    let made = with_loops bs front in
    rw (with_loops-last bs front l, ← length-with_loops bs front) (last_or-pushed nothing made (loop_of made l) ∙ sym (get_or-append_seam made (loop_of made l) [] nothing))

has_loop-last : (front : List PlannedLoop) (l : PlannedLoop) (k : ℕ) → l.def ≡ k → has_loop (front ++ l ∷ []) k ≡ true
has_loop-last [] l k is =
    let test : (l.def == k) ≡ true = grind arith in
    rw test refl
has_loop-last (m ∷ front) l k is = or_right (m.def == k) (has_loop (front ++ l ∷ []) k) (has_loop-last front l k is)

-- a definition without a loop has no buffer
no_buffer : (inputs k : ℕ) (loops : List PlannedLoop) → has_loop loops k ≡ false → has_buffer inputs loops (inputs + k) ≡ false
no_buffer inputs k loops none =
    let test : nat_lt (inputs + k) inputs ≡ false = grind arith in
    let at : inputs + k - inputs ≡ k = omega arith in
    rw (test, at) none

module _ (query : CoreParts) (margins : MarginsParts) (lo hi : ℤ) (used : List Bool) (known : IsKnown (length query.inputs) query.defs used)
    (margins_are : margins.needs ≡ needs (length query.inputs) query.defs) (fuse : Bool) (loops : List PlannedLoop) (plan : loops ≡ plan_of query fuse)
    (one_emitted : length query.defs ≡ suc (length query.names)) where
  abbrev inputs : ℕ
  inputs = length query.inputs

  abbrev defs : List Definition
  defs = query.defs

  abbrev ns : List (Option Need)
  ns = needs_from inputs defs

  abbrev all : List (Option Need)
  all = needs inputs defs

  abbrev buffer : ℕ → ℕ
  buffer = buffer_of inputs loops

  abbrev lower : PlannedLoop → LoopParts
  lower = lowered loops query margins lo hi

  -- the place of the emitted definition
  abbrev place : ℕ
  place = length query.names

  module _ (bs : List Stream) (many : length bs ≡ inputs) where
    abbrev At : ℕ → Type 0
    At = State query margins lo hi used known margins_are fuse loops plan bs many

    -- before the emitted definition, and after it
    pub before : At place
    before = state query margins lo hi used known margins_are fuse loops plan bs many place (omega (arith, one_emitted))

    end : At (length defs)
    end = state query margins lo hi used known margins_are fuse loops plan bs many (length defs) (omega arith)

    front_all : end.front ≡ loops
    front_all =
        sym (append-nil end.front)
        ∙ ap (λ (ds : List Definition). end.front ++ loops_from fuse inputs (length defs) end.merged ds (drop (length defs) ns)) (sym (drop-length defs))
        ∙ sym end.loops_are

    -- what is known of each loop
    pub all-lowered : AreLowered query margins lo hi used known margins_are fuse loops plan inputs loops
    all-lowered = subst (λ (ls : List PlannedLoop). AreLowered query margins lo hi used known margins_are fuse loops plan inputs ls) front_all end.lowered

    sources-all : with_definitions bs defs ≡ end.xs
    sources-all = end.rest ∙ ap (with_definitions end.xs) (drop-length defs)

    -- the buffer of each source that has one agrees with the source
    unmerged : (source : ℕ) → has_buffer inputs loops source ≡ true → (of : Option FusedTree) → get_or end.merged source None ≡ of → of ≡ None
    unmerged source buffered None is = refl
    unmerged source buffered (Some t) is =
        let a = end.apart source t is in
        let none : has_buffer inputs loops source ≡ false =
        ap (has_buffer inputs loops) a.1.0 ∙ no_buffer inputs a.0 loops (subst (λ (ls : List PlannedLoop). has_loop ls a.0 ≡ false) front_all a.1.1) in
        absurd (cc (sym none ∙ buffered))

    abbrev made_buffers : List Stream
    made_buffers = with_loops bs (map lower loops)

    by_need : (source : ℕ) → has_buffer inputs loops source ≡ true → (m : Option Need) → need_at all source ≡ m
        → AgreeAsAsked m lo hi (get_or made_buffers (buffer source) nothing) (source_of (with_definitions bs defs) source)
    by_need source buffered None m_is = tt
    by_need source buffered (Some m) m_is =
        let below : source < inputs + length defs = elim (below_or_behind source (inputs + length defs)) [
          | inl less ↦ less
          | inr past ↦ (let at = past.1 in absurd (cc (sym (get_or_past all source None (omega (arith, length-needs inputs defs))) ∙ m_is)))
        ] in
        let has = end.have source below (unmerged source buffered (get_or end.merged source None) refl) m m_is in
        let made : source_of end.ys source ≡ get_or made_buffers (buffer source) nothing =
        has.1 ∙ ap (λ (ls : List PlannedLoop). get_or (with_loops bs (map lower ls)) (buffer source) nothing) front_all in
        let agreed = subst (λ (k : Option Need). AgreeAsAsked k lo hi (source_of end.ys source) (source_of end.xs source)) m_is (end.agreed source below) in
        subst (λ (y : Stream). Agree y (source_of (with_definitions bs defs) source) (lo -ℤ m.back) (hi +ℤ m.ahead)) made
        (subst (λ (zs : List Stream). Agree (source_of end.ys source) (source_of zs source) (lo -ℤ m.back) (hi +ℤ m.ahead)) (sym sources-all) agreed)

    buffers-agree : (source : ℕ) → has_buffer inputs loops source ≡ true
        → AgreeAsAsked (need_at all source) lo hi (get_or made_buffers (buffer source) nothing) (source_of (with_definitions bs defs) source)
    buffers-agree source buffered = by_need source buffered (need_at all source) refl

    -- the loop of the emitted definition is the last one
    abbrev def : Definition
    def = get_or defs place no_definition

    def_there : def ≡ get_or defs place def
    def_there = get_or_default defs place no_definition (get_or defs place no_definition) (omega (arith, one_emitted))

    abbrev pub last : PlannedLoop
    last = record { def = place; body = fused before.merged def.body }

    none_behind : drop (suc place) defs ≡ []
    none_behind = ap (λ (k : ℕ). drop k defs) (sym one_emitted) ∙ drop-length defs

    ends : loops ≡ before.front ++ last ∷ []
    ends =
        let low : place < length defs = omega (arith, one_emitted) in
        before.loops_are
        ∙ ap (λ (ls : List PlannedLoop). before.front ++ ls)
        (rest-loop inputs defs used known place low def def_there before.merged before.as_many before.trees fuse no_margin (last-need inputs place defs one_emitted)
        (never-merged fuse def (drop (suc place) defs) (drop (suc place) ns) (inputs + place) (fused before.merged def.body) none_behind)
        ∙ ap (λ (ds : List Definition). last ∷ loops_from fuse inputs (suc place) (before.merged ++ None ∷ []) ds (drop (suc place) ns)) none_behind)

    pub some-loop : 0 < length loops
    some-loop = omega (arith, ap length ends, length-append before.front (last ∷ []))

    emitted-buffered : has_buffer inputs loops (inputs + place) ≡ true
    emitted-buffered =
        let test : nat_lt (inputs + place) inputs ≡ false = grind arith in
        let at : inputs + place - inputs ≡ place = omega arith in
        rw (test, at) (ap (λ (ls : List PlannedLoop). has_loop ls place) ends ∙ has_loop-last before.front last place refl)

    emitted-buffer : buffer (inputs + place) ≡ inputs + length before.front
    emitted-buffer =
        ap (λ (ls : List PlannedLoop). buffer_of inputs ls (inputs + place)) before.loops_are
        ∙ buffer_of-next inputs place before.front (loops_from fuse inputs place before.merged (drop place defs) (drop place ns)) before.before
        (loops_from-behind fuse inputs place before.merged (drop place defs) (drop place ns))

    loops_end : map lower loops ≡ map lower before.front ++ lower last ∷ []
    loops_end = ap (map lower) ends ∙ map-append lower before.front (last ∷ [])

  emitted-need : need_at all (inputs + place) ≡ Some no_margin
  emitted-need = need_at-definition inputs defs place ∙ last-need inputs place defs one_emitted

  -- the stretch of its loop is the stretch of the output
  stretch-last : (t : FusedTree) → LiesWithin (domain_of defs) lo hi
      → lower (record { def = place; body = t }) ≡ loop_on (record { lo = lo; hi = hi; empty = false }) buffer (get_or defs place no_definition) t
  stretch-last t within =
      let def = get_or defs place no_definition in
      let need_there : unwrap_or (need_at margins.needs (inputs + place)) no_margin ≡ no_margin =
      ap (λ (ms : List (Option Need)). unwrap_or (need_at ms (inputs + place)) no_margin) margins_are ∙ ap (λ (m : Option Need). unwrap_or m no_margin) emitted-need in
      ap (λ (m : Need). loop_on (stretch_of def m lo hi) buffer def t) need_there
      ∙ ap (λ (s : LoopSpan). loop_on s buffer def t)
      (output_stretch def.over lo hi (subst (λ (o : Option Span). LiesWithin o lo hi) (last-domain place defs no_definition one_emitted) within))

  abbrev made : CodeParts
  made = code_of loops query margins lo hi

  module _ (timed : AllByRecursion IsTimed made.loops) (rows : List (List Snapshot)) (rows_are : length rows ≡ inputs) where
    abbrev bs : List Stream
    bs = map stream_of rows

    bs_are : length bs ≡ inputs
    bs_are = length-map rows stream_of ∙ rows_are

    agrees : (source : ℕ) → has_buffer inputs loops source ≡ true
        → AgreeAsAsked (need_at margins.needs source) lo hi (get_or (map stream_of (buffers_of made rows)) (buffer source) nothing) (meaning rows defs source)
    agrees source buffered =
        subst (λ (ms : List (Option Need)). AgreeAsAsked (need_at ms source) lo hi (get_or (map stream_of (buffers_of made rows)) (buffer source) nothing) (meaning rows defs source))
        (sym margins_are)
        (subst (λ (ys : List Stream). AgreeAsAsked (need_at all source) lo hi (get_or ys (buffer source) nothing) (meaning rows defs source))
        (sym (with_buffers-streams rows made.loops timed)) (buffers-agree bs bs_are source buffered))

    -- the run gives what the query gives
    runs : LiesWithin (domain_of defs) lo hi → run_of made rows ≡ snapshots (meaning rows defs (emitted_number query)) lo hi
    runs within =
        let l = lower (last bs bs_are) in
        let front = map lower (before bs bs_are).front in
        let x = meaning rows defs (inputs + place) in
        let y = get_or (with_loops bs made.loops) (buffer (inputs + place)) nothing in
        let ends_so = loops_end bs bs_are in
        let stretch = stretch-last (last bs bs_are).body within in
        let last_place : buffer (inputs + place) ≡ length bs + length front =
        emitted-buffer bs bs_are ∙ omega (arith, bs_are, length-map (before bs bs_are).front lower) in
        let emitted : Agree y x (lo -ℤ pos 0) (hi +ℤ pos 0) =
        subst (λ (m : Option Need). AgreeAsAsked m lo hi y x) emitted-need (buffers-agree bs bs_are (inputs + place) (emitted-buffered bs bs_are)) in
        let meant : meaning_of made rows ≡ y =
        ap (λ (ls : List LoopParts). last_or nothing (with_loops bs ls)) ends_so ∙ last-is bs front l
        ∙ (λ i. get_or (with_loops bs (sym ends_so i)) (sym last_place i) nothing) in
        run-is made rows front l ends_so timed
        ∙ (λ i. snapshots (meant i) (stretch i).lo (stretch i).hi)
        ∙ snapshots-agree y x lo hi (narrower-agrees y x (lo -ℤ pos 0) (hi +ℤ pos 0) lo hi emitted (omega (arith, ints)) (omega (arith, ints)))

  pub means : AllByRecursion IsTimed made.loops → LiesWithin (domain_of defs) lo hi → MeansTheQuery query margins loops lo hi made
  means timed within = record {
    runs = λ rows many. runs timed rows many within;
    agrees = λ rows many source. agrees timed rows many source;
  }
