-- What a watching query emits.
use Rattle.std.proofs.Common.{◌≡◌, ℕ, zero, suc, ◌+◌, ◌<◌, ◌≤◌, ℤ, pos, ◌+ℤ◌, ◌≤ℤ◌, ◌<ℤ◌, true, if◌then◌else◌, List, [], ◌∷◌, ◌++◌, length, map, Option, Some, None, ◌⊎◌, inl, inr, refl, sym, ap, ◌∙◌, subst, arith, length-append}
use Rattle.std.proofs.lemmas.Int.{ints}
use Rattle.std.proofs.lemmas.List.{length-map}
use Rattle.tilt_base.proofs.Comparisons.{below_or_at}
use Rattle.tilt_base.proofs.GridPoints.{ceil-high, ceil-low}
use Rattle.tilt_base.specs.Grid.{ceil}
use Rattle.tilt_base.specs.Scalar.{if_null}
use Rattle.tilt_base.specs.declared.span.Span.{Span}
use Rattle.tilt_core.proofs.Sources.{source_of-last}
use Rattle.tilt_core.specs.Core.{AreDefinitions, CoreParts, IsCore, domain_of, emitted_number}
use Rattle.tilt_core.specs.CoreTree.{Definition}
use Rattle.tilt_core.specs.Meaning.{body_of, definition_of, source_of, with_definitions, within}
use Rattle.tilt_overflows.proofs.Accepted.{before_last, last_domain}
use Rattle.tilt_overflows.proofs.Asked.{AreClosed, lies}
use Rattle.tilt_overflows.proofs.Cells.{expression_decided}
use Rattle.tilt_overflows.proofs.Decided.{Decided, leaves_is}
use Rattle.tilt_overflows.proofs.Taken.{Reports, reads_all, watch_reports}
use Rattle.tilt_overflows.proofs.Underscores.{length-more_names}
use Rattle.tilt_overflows.proofs.Watched.{AreWatched, length-with_definitions, watched, with_definitions-append}
use Rattle.tilt_overflows.specs.Law.{DefinitionLeaves, QueryLeaves, watch_cell}
use Rattle.tilt_overflows.specs.Leaves.{leaves}
use Rattle.tilt_overflows.specs.Watching.{each_tick, emitted_watch, more_names, most_bytes, some_of, watch, watching_core, watching_defs}
use Rattle.tilt_stream.specs.Domain.{on_grid}
use Rattle.tilt_stream.specs.Snap.{Snapshot}
use Rattle.tilt_stream.specs.Stream.{Stream, stream_of}
use Rattle.tilt_units.specs.Law.{Chosen, QueryStaysWithin, StaysWithin, clock}

null_both : (a b : Option ℤ) → if_null a b ≡ None → (a ≡ None) × (b ≡ None)
null_both None b h = (refl, h)
null_both (Some n) b h = absurd (cc h)

-- a cell is null or 1
abbrev pub IsReport : Option ℤ → Type 0
IsReport cell = (cell ≡ None) ⊎ (cell ≡ Some (pos 1))

both_reports : (a b : Option ℤ) → IsReport a → IsReport b → IsReport (if_null a b)
both_reports a b (inl d) e = subst (λ c. IsReport (if_null c b)) (sym d) e
both_reports a b (inr d) e = inr (ap (λ c. if_null c b) d)

module _ (zs : List Stream) (first : ℕ) (tick : ℤ) where
  abbrev pub watch_at : ℕ → Option ℤ
  watch_at k = (source_of zs (first + k)).cell tick

  abbrev pub some_at : ℕ → Option ℤ
  some_at more = (body_of zs (some_of first more)).cell tick

  here : (source : ℕ) → (source_of zs source).cell (tick +ℤ pos 0) ≡ (source_of zs source).cell tick
  here source = let is : tick +ℤ pos 0 ≡ tick = omega (arith, ints) in ap (source_of zs source).cell is

  first_is : some_at 0 ≡ watch_at 0
  first_is = let is : first ≡ first + 0 = omega arith in here first ∙ ap (λ n. (source_of zs n).cell tick) is

  next_is : (more : ℕ) → some_at (suc more) ≡ if_null (some_at more) (watch_at (suc more))
  next_is more = ap (if_null (some_at more)) (here (first + suc more))

  -- null if all are null
  pub some_none : (more : ℕ) → some_at more ≡ None → (k : ℕ) → k ≤ more → watch_at k ≡ None
  some_none zero h k low = let is : 0 ≡ k = omega arith in subst (λ n. watch_at n ≡ None) is (sym first_is ∙ h)
  some_none (suc more) h k low =
      let both = null_both (some_at more) (watch_at (suc more)) (sym (next_is more) ∙ h) in
      elim (below_or_at k (suc more) (omega arith)) [
        | inl below ↦ some_none more both.0 k (omega arith)
        | inr same ↦ subst (λ n. watch_at n ≡ None) (sym same) both.1
      ]

  pub none_some : (more : ℕ) → ((k : ℕ) → k ≤ more → watch_at k ≡ None) → some_at more ≡ None
  none_some zero h = first_is ∙ h 0 (omega arith)
  none_some (suc more) h = next_is more ∙ (λ i. if_null (none_some more (λ k low. h k (omega arith)) i) (h (suc more) (omega arith) i))

  pub some_reports : (more : ℕ) → ((k : ℕ) → k ≤ more → IsReport (watch_at k)) → IsReport (some_at more)
  some_reports zero h = subst IsReport (sym first_is) (h 0 (omega arith))
  some_reports (suc more) h =
      subst IsReport (sym (next_is more)) (both_reports (some_at more) (watch_at (suc more)) (some_reports more (λ k low. h k (omega arith))) (h (suc more) (omega arith)))

report_of : (cell : Option ℤ) (P : Type 0) → Reports cell P → IsReport cell
report_of cell P (inl d) = inr d.0
report_of cell P (inr d) = inl d.0

reports_one : (cell : Option ℤ) (P : Type 0) → Reports cell P → P → cell ≡ Some (pos 1)
reports_one cell P (inl d) p = d.0
reports_one cell P (inr d) p = absurd (d.1 p)

reports_none : (cell : Option ℤ) (P : Type 0) → Reports cell P → (P → ⊥) → cell ≡ None
reports_none cell P (inl d) n = absurd (n d.1)
reports_none cell P (inr d) n = d.0

none_reports : (cell : Option ℤ) (P : Type 0) → Reports cell P → cell ≡ None → P → ⊥
none_reports cell P (inl d) is p = absurd (cc (sym is ∙ d.0))
none_reports cell P (inr d) is p = d.1 p

module _ (zs : List Stream) (tick : ℤ) where
  -- the watch of the first definition, and those of the others
  head_reports : (first : ℕ) (xs : List Stream) (def : Definition) → source_of zs first ≡ definition_of xs (watch def)
      → Reports (watch_at zs first tick 0) (DefinitionLeaves xs def tick)
  head_reports first xs def at =
      let is : first + 0 ≡ first = omega arith in
      subst (λ x. Reports (x.cell tick) (DefinitionLeaves xs def tick)) (sym (ap (source_of zs) is ∙ at)) (watch_reports xs def tick)

  later_is : (first k : ℕ) → watch_at zs (suc first) tick k ≡ watch_at zs first tick (suc k)
  later_is first k = let is : suc first + k ≡ first + suc k = omega arith in ap (λ n. (source_of zs n).cell tick) is

  pub all_reports : (first : ℕ) (xs : List Stream) (defs : List Definition) → AreWatched zs first xs defs → (k : ℕ) → k < length defs → IsReport (watch_at zs first tick k)
  all_reports first xs [] w k low = absurd (omega arith)
  all_reports first xs (def ∷ defs) w zero low = report_of (watch_at zs first tick 0) (DefinitionLeaves xs def tick) (head_reports first xs def w.0)
  all_reports first xs (def ∷ defs) w (suc k) low = subst IsReport (later_is first k) (all_reports (suc first) (xs ++ definition_of xs def ∷ []) defs w.1 k (omega arith))

  pub one_leaves : (first : ℕ) (xs : List Stream) (defs : List Definition) → AreWatched zs first xs defs → QueryLeaves xs defs tick
      → (k : ℕ) × (k < length defs) × (watch_at zs first tick k ≡ Some (pos 1))
  one_leaves first xs [] w h = absurd h
  one_leaves first xs (def ∷ defs) w (inl h) =
      (0, omega arith, reports_one (watch_at zs first tick 0) (DefinitionLeaves xs def tick) (head_reports first xs def w.0) h)
  one_leaves first xs (def ∷ defs) w (inr h) =
      let rest = one_leaves (suc first) (xs ++ definition_of xs def ∷ []) defs w.1 h in
      let low = rest.1 in
      (suc rest.0, omega arith, sym (later_is first rest.0) ∙ rest.2)

  pub none_leaves : (first : ℕ) (xs : List Stream) (defs : List Definition) → AreWatched zs first xs defs → (QueryLeaves xs defs tick → ⊥)
      → (k : ℕ) → k < length defs → watch_at zs first tick k ≡ None
  none_leaves first xs [] w h k low = absurd (omega arith)
  none_leaves first xs (def ∷ defs) w h zero low =
      reports_none (watch_at zs first tick 0) (DefinitionLeaves xs def tick) (head_reports first xs def w.0) (λ d. h (inl d))
  none_leaves first xs (def ∷ defs) w h (suc k) low =
      sym (later_is first k) ∙ none_leaves (suc first) (xs ++ definition_of xs def ∷ []) defs w.1 (λ d. h (inr d)) k (omega arith)

-- if the watches are null at the chosen ticks, no node leaves 64 bits there
stays_by : (chosen : Chosen) (xs : List Stream) (def : Definition) (tick taken : ℤ) → (DefinitionLeaves xs def tick → ⊥)
    → (within def.over (on_grid def.grid clock)).cell tick ≡ Some taken → Decided ((body_of xs (leaves def.body)).cell taken) (StaysWithin chosen xs taken def.body)
    → StaysWithin chosen xs taken def.body
stays_by chosen xs def tick taken none at (inl d) = d.1
stays_by chosen xs def tick taken none at (inr d) =
    let all : Chosen = λ source other. true in
    let cell = (body_of xs (leaves def.body)).cell taken in
    absurd (none (taken, at, (leaves_is cell (StaysWithin all xs taken def.body) (expression_decided xs taken all def.body (reads_all taken def.body))).1 d.0))

pub quiet : (zs : List Stream) (chosen : Chosen) (first : ℕ) (xs : List Stream) (defs : List Definition) → AreWatched zs first xs defs
    → AreClosed chosen (length xs) defs → ((k : ℕ) (tick : ℤ) → k < length defs → chosen (length xs + k) tick ≡ true → watch_at zs first tick k ≡ None)
    → QueryStaysWithin chosen xs defs
quiet zs chosen first xs [] w closed h = tt
quiet zs chosen first xs (def ∷ defs) w closed h =
    let x = definition_of xs def in
    let more : length (xs ++ x ∷ []) ≡ suc (length xs) = omega (arith, length-append xs (x ∷ [])) in
    let none : length xs + 0 ≡ length xs = omega arith in (
      λ tick taken is at.
          let null = h 0 tick (omega arith) (subst (λ n. chosen n tick ≡ true) (sym none) is) in
          stays_by chosen xs def tick taken (none_reports (watch_at zs first tick 0) (DefinitionLeaves xs def tick) (head_reports zs tick first xs def w.0) null) at
          (expression_decided xs taken chosen def.body (closed.0 tick taken is at)),
      quiet zs chosen (suc first) (xs ++ x ∷ []) defs w.1 (subst (λ n. AreClosed chosen n defs) (sym more) closed.1)
          (λ k tick low is.
          let at : length (xs ++ x ∷ []) + k ≡ length xs + suc k = omega (arith, more) in
          later_is zs tick first k ∙ h (suc k) tick (omega arith) (subst (λ n. chosen n tick ≡ true) at is)),
    )

module _ (core : CoreParts) (rows : List (List Snapshot)) (is : IsCore core) (many : length rows ≡ length core.inputs) where
  abbrev pub inputs_of : List Stream
  inputs_of = map stream_of rows

  abbrev pub watches_of : List Stream
  watches_of = with_definitions (with_definitions inputs_of core.defs) (map watch core.defs)

  abbrev pub first_of : ℕ
  first_of = length (with_definitions inputs_of core.defs)

  pub count_inputs : length inputs_of ≡ length core.inputs
  count_inputs = length-map rows stream_of ∙ many

  count_first : first_of ≡ length core.inputs + length core.defs
  count_first = omega (arith, length-with_definitions inputs_of core.defs, count_inputs)

  pub are_watched : AreWatched watches_of first_of inputs_of core.defs
  are_watched =
      let ys = with_definitions inputs_of core.defs in
      let many_first = length-with_definitions inputs_of core.defs in
      watched inputs_of ys core.defs (subst (λ n. AreDefinitions n core.defs) (sym count_inputs) is.definitions) (omega (arith, many_first)) (λ number low. refl)

  emitted_is : (tick : ℤ) → watch_cell core rows tick ≡ (definition_of watches_of (emitted_watch core)).cell tick
  emitted_is tick =
      let last = emitted_watch core in
      let w = definition_of watches_of last in
      let all = with_definitions-append inputs_of (before_last core) (last ∷ [])
      ∙ ap (λ zs. with_definitions zs (last ∷ [])) (with_definitions-append inputs_of core.defs (map watch core.defs)) in
      let bytes = most_bytes (core.inputs ++ core.names) in
      let more = suc (length core.defs) in
      let one = is.one_emitted in
      let number : emitted_number (watching_core core) ≡ length watches_of =
      omega (
        arith,
        length-append core.names (more_names bytes more),
        length-more_names bytes more,
        length-with_definitions (with_definitions inputs_of core.defs) (map watch core.defs),
        length-map core.defs watch,
        count_first,
      ) in
      ap (λ zs. (source_of zs (emitted_number (watching_core core))).cell tick) all
      ∙ ap (λ n. (source_of (watches_of ++ w ∷ []) n).cell tick) number
      ∙ ap (λ x. x.cell tick) (source_of-last watches_of w)

  each_tick_is : (tick : ℤ) → ceil each_tick tick ≡ tick
  each_tick_is tick =
      let low = ceil-low each_tick tick (omega (arith, ints)) in
      let high = ceil-high each_tick tick (omega (arith, ints)) in
      omega (arith, ints)

  within_is : (over : Option Span) (span : Span) (x : Stream) (tick : ℤ) → over ≡ Some span → span.start <ℤ tick → tick ≤ℤ span.end
      → (within over x).cell tick ≡ x.cell tick
  within_is over span x tick same low high =
      let inside = lies span.start span.end tick low high in
      ap (λ o. (within o x).cell tick) same ∙ ap (λ b. if b then x.cell tick else None) inside

  -- on its domain it is the first of the watches that isn't null
  pub on_domain : (span : Span) (tick : ℤ) → domain_of (watching_defs core) ≡ Some span → span.start <ℤ tick → tick ≤ℤ span.end
      → watch_cell core rows tick ≡ (body_of watches_of (some_of first_of (length core.names))).cell tick
  on_domain span tick domain low high =
      let last = emitted_watch core in
      let body = body_of watches_of last.body in
      emitted_is tick
      ∙ within_is last.over span (on_grid each_tick body) tick (sym (last_domain (before_last core) last) ∙ domain) low high
      ∙ ap body.cell (each_tick_is tick)
      ∙ ap (λ n. (body_of watches_of (some_of n (length core.names))).cell tick) (sym count_first)
