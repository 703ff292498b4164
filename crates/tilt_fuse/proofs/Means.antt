-- Each loop of a plan gives what the body of its definition gives.
use Rattle.std.proofs.Common.{◌≡◌, ℕ, zero, suc, ◌+◌, ◌<◌, ◌≤◌, Bool, true, false, List, [], ◌∷◌, ◌++◌, length, map, get_or, drop, replicate, Option, Some, None, refl, sym, ap, ◌∙◌, arith, subst}
use Rattle.std.proofs.Common.{length-append}
use Rattle.std.specs.Prelude.{◌&&◌, is_some}
use Rattle.std.specs.List.{AllByRecursion}
use Rattle.std.proofs.Math.Seq.{drop-length}
use Rattle.std.proofs.lemmas.List.{append-nil, drop_all, length-map, length-replicate, get_or_default}
use Rattle.std.proofs.lemmas.Bool.{or_left, and_parts}
use Rattle.tilt_base.specs.Expression.{Leaf}
use Rattle.tilt_base.specs.Expression as expression
use Rattle.tilt_fuse.proofs.Law.{AllStand, fused-means}
use Rattle.tilt_fuse.proofs.Planned.{Held, merged-is, is, windows, merged-more, trees-kept, trees-merged, rest-skip, rest-merge, rest-loop}
use Rattle.tilt_fuse.proofs.Places.{defs-from}
use Rattle.tilt_stream.proofs.Same.{same-sym, same-trans, period-one}
use Rattle.tilt_fuse.proofs.Used.{replicate-at}
use Rattle.tilt_fuse.specs.FusedTree.{FusedTree, PlannedLoop}
use Rattle.tilt_fuse.specs.Plan.{fused, has_window_on, is_windowed, is_merged, loops_from, plan_of}
use Rattle.tilt_fuse.specs.Streams.{fused_stream, MeansItsBody, MeanTheirBodies}
use Rattle.tilt_fuse.specs.Trees.{AreMergedTrees, IsKnown, IsPlanned}
use Rattle.tilt_stream.specs.Domain.{on_grid}
use Rattle.tilt_stream.specs.Pointwise.{shifted, lifted1, lifted2, branched}
use Rattle.tilt_stream.specs.Stream.{Stream, SameStream, stream_of}
use Rattle.tilt_stream.specs.Window.{windowed}
use Rattle.tilt_base.specs.declared.span.Span.{Span}
use Rattle.tilt_core.proofs.Sources.{source_of-last, with_definitions-front}
use Rattle.tilt_core.specs.Core.{CoreParts, ReadsBelow}
use Rattle.tilt_core.specs.CoreTree as core
use Rattle.tilt_core.specs.CoreTree.{CoreTree, Definition}
use Rattle.tilt_core.specs.Meaning.{source_of, body_of, within, definition_of, with_definitions, sources}
use Rattle.tilt_core.specs.Needs.{Need, needs_from, needs}

-- an expression is the same over sources that are the same below a number
pub body_of-below : (xs ys : List Stream) (bound : ℕ) (body : CoreTree) → ReadsBelow bound body → ((source : ℕ) → source < bound → source_of xs source ≡ source_of ys source)
    → body_of xs body ≡ body_of ys body
body_of-below xs ys bound (Leaf (core.Const number)) reads h = refl
body_of-below xs ys bound (Leaf (core.Read source offset)) reads h = ap (λ (x : Stream). shifted x offset) (h source reads)
body_of-below xs ys bound (Leaf (core.Reduce reducer source from to)) reads h = ap (windowed reducer from to) (h source reads.0)
body_of-below xs ys bound (expression.One op a) reads h = ap (lifted1 op) (body_of-below xs ys bound a reads h)
body_of-below xs ys bound (expression.Two op a b) reads h = (λ i. lifted2 op (body_of-below xs ys bound a reads.0 h i) (body_of-below xs ys bound b reads.1 h i))
body_of-below xs ys bound (expression.If c a b) reads h =
    (λ i. branched (body_of-below xs ys bound c reads.0 h i) (body_of-below xs ys bound a reads.1 h i) (body_of-below xs ys bound b reads.2 h i))

unbounded : (over : Option Span) (x : Stream) → is_some over ≡ false → within over x ≡ x
unbounded None x none = refl
unbounded (Some span) x none = absurd (cc none)

abbrev none_merged : Option FusedTree
none_merged = None

-- the definition at a place
pub definition-there : (defs : List Definition) (place : ℕ) → place < length defs → (def : Definition) × (def ≡ get_or defs place def)
definition-there [] place low = absurd (omega arith)
definition-there (def ∷ defs) zero low = (def, refl)
definition-there (def ∷ defs) (suc place) low = definition-there defs place (omega arith)

-- a definition that has neither a span nor a period above 1 gives what its body gives
pub merged-definition : (xs : List Stream) (def : Definition) (behind : List Definition) (ns : List (Option Need)) (number : ℕ) (tree : FusedTree) → is_merged def behind ns number tree ≡ true
    → SameStream (definition_of xs def) (body_of xs def.body)
merged-definition xs def behind ns number tree test =
    let merged = merged-is def behind ns number tree test in
    subst (λ (x : Stream). SameStream x (body_of xs def.body)) (sym (unbounded def.over (on_grid def.grid (body_of xs def.body)) merged.no_span))
    (period-one def.grid (body_of xs def.body) merged.period)

module _ (fuse : Bool) (inputs : ℕ) (defs : List Definition) (used : List Bool) (known : IsKnown inputs defs used) (xs : List Stream) where
  abbrev all : List (Option Need)
  all = needs inputs defs

  -- each merged source has the stream of its tree
  abbrev Stand : List (Option FusedTree) → Type 0
  Stand merged = (source : ℕ) (tree : FusedTree) → get_or merged source None ≡ Some tree → SameStream (source_of xs source) (fused_stream xs tree)

  stands : (windowed_on on : ℕ → Bool) (merged : List (Option FusedTree)) → AreMergedTrees all windowed_on merged → ((source : ℕ) → on source ≡ true → windowed_on source ≡ true) → Stand merged
      → AllStand (Held all) xs merged on
  stands windowed_on on merged trees less stand source tree at =
      let t = trees.each source tree at in
      record { need = t.need; asks = t.asks; same = stand source tree at; fits = λ is_on. t.fits (less source is_on) }

  abbrev left : ℕ → List (Option FusedTree) → List PlannedLoop
  left place merged = loops_from fuse inputs place merged (drop place defs) (drop place (needs_from inputs defs))

  -- all loops from a place on mean what their bodies mean
  abbrev From : ℕ → Type 0
  From place = (ps : List Stream) → length ps ≡ inputs + place → xs ≡ with_definitions ps (drop place defs)
      → (merged : List (Option FusedTree)) → length merged ≡ inputs + place
      → AreMergedTrees all (is_windowed (drop place defs) (drop place (needs_from inputs defs))) merged → Stand merged → AllByRecursion (MeansItsBody xs defs) (left place merged)

  module _ (place : ℕ) (low : place < length defs) (def : Definition) (def_is : def ≡ get_or defs place def) (ps : List Stream) (ps_are : length ps ≡ inputs + place)
      (xs_are : xs ≡ with_definitions ps (drop place defs)) (merged : List (Option FusedTree)) (many : length merged ≡ inputs + place)
      (trees : AreMergedTrees all (is_windowed (drop place defs) (drop place (needs_from inputs defs))) merged) (stand : Stand merged) where
    abbrev tree : FusedTree
    tree = fused merged def.body

    abbrev more : List Stream
    more = ps ++ definition_of ps def ∷ []

    more_are : length more ≡ inputs + suc place
    more_are = omega (arith, ps_are, length-append ps (definition_of ps def ∷ []))

    xs_next : xs ≡ with_definitions more (drop (suc place) defs)
    xs_next = xs_are ∙ ap (with_definitions ps) (defs-from inputs defs place low def def_is)

    -- the sources before the definition are those that it is over
    before : (source : ℕ) → source < inputs + place → source_of ps source ≡ source_of xs source
    before source below = sym (ap (λ (ys : List Stream). source_of ys source) xs_are ∙ with_definitions-front ps (drop place defs) source (omega (arith, ps_are)))

    this_is : source_of xs (inputs + place) ≡ definition_of ps def
    this_is =
        ap (λ (ys : List Stream). source_of ys (inputs + place)) xs_next
        ∙ with_definitions-front more (drop (suc place) defs) (inputs + place) (omega (arith, more_are))
        ∙ ap (source_of more) (sym ps_are) ∙ source_of-last ps (definition_of ps def)

    module _ (n : Need) (n_is : get_or (needs_from inputs defs) place None ≡ Some n) where
      tree-means : SameStream (fused_stream xs tree) (body_of xs def.body)
      tree-means =
          fused-means (Held all) xs merged def.body
          (stands (is_windowed (drop place defs) (drop place (needs_from inputs defs))) (has_window_on def.body) merged trees
          (λ source on. windows inputs defs used known place low def def_is source
          ∙ or_left (is_some (get_or (needs_from inputs defs) place None) && has_window_on def.body source)
          (is_windowed (drop (suc place) defs) (drop (suc place) (needs_from inputs defs)) source)
          (ap (λ (m : Option Need). is_some m && has_window_on def.body source) n_is ∙ on))
          stand)

      stand-merged : is_merged def (drop (suc place) defs) (drop (suc place) (needs_from inputs defs)) (inputs + place) tree ≡ true → Stand (merged ++ Some tree ∷ [])
      stand-merged test =
          merged-more (λ source t. SameStream (source_of xs source) (fused_stream xs t)) merged (inputs + place) (Some tree) many stand
          (λ t t_is.
          let same : tree ≡ t = cc t_is in
          let reads = (is inputs defs used known place low def def_is).reads in
          let body : body_of ps def.body ≡ body_of xs def.body = body_of-below ps xs (inputs + place) def.body reads before in
          subst (λ (u : FusedTree). SameStream (source_of xs (inputs + place)) (fused_stream xs u)) same
          (subst (λ (x : Stream). SameStream x (fused_stream xs tree)) (sym this_is)
          (same-trans (definition_of ps def) (body_of ps def.body) (fused_stream xs tree)
          (merged-definition ps def (drop (suc place) defs) (drop (suc place) (needs_from inputs defs)) (inputs + place) tree test)
          (subst (λ (x : Stream). SameStream x (fused_stream xs tree)) (sym body) (same-sym (fused_stream xs tree) (body_of xs def.body) tree-means)))))

      loop-means : MeansItsBody xs defs (record { def = place; body = tree })
      loop-means other other_is =
          let same : other ≡ def = other_is ∙ get_or_default defs place other def low ∙ sym def_is in
          subst (λ (d : Definition). SameStream (fused_stream xs tree) (body_of xs d.body)) (sym same) tree-means

    stand-kept : Stand (merged ++ None ∷ [])
    stand-kept = merged-more (λ source t. SameStream (source_of xs source) (fused_stream xs t)) merged (inputs + place) None many stand (λ t none. absurd (cc none))

    module _ (behind : From (suc place)) where
      rest-kept : AllByRecursion (MeansItsBody xs defs) (left (suc place) (merged ++ None ∷ []))
      rest-kept =
          behind more more_are xs_next (merged ++ None ∷ [])
          (omega (arith, many, length-append merged (None ∷ [])))
          (trees-kept inputs defs used known place low def def_is merged many trees) stand-kept

      by_test : (n : Need) → get_or (needs_from inputs defs) place None ≡ Some n → (test : Bool)
          → (fuse && is_merged def (drop (suc place) defs) (drop (suc place) (needs_from inputs defs)) (inputs + place) (fused merged def.body)) ≡ test
          → AllByRecursion (MeansItsBody xs defs) (left place merged)
      by_test n n_is true test =
          let tree = fused merged def.body in
          let merge = (and_parts fuse (is_merged def (drop (suc place) defs) (drop (suc place) (needs_from inputs defs)) (inputs + place) tree) test).1 in
          subst (λ (ls : List PlannedLoop). AllByRecursion (MeansItsBody xs defs) ls) (sym (rest-merge inputs defs used known place low def def_is merged many trees fuse n n_is test))
          (behind more more_are xs_next (merged ++ Some tree ∷ [])
          (omega (arith, many, length-append merged (Some tree ∷ [])))
          (trees-merged inputs defs used known place low def def_is merged many trees n n_is merge)
          (stand-merged n n_is merge))
      by_test n n_is false test =
          subst (λ (ls : List PlannedLoop). AllByRecursion (MeansItsBody xs defs) ls) (sym (rest-loop inputs defs used known place low def def_is merged many trees fuse n n_is test))
          (loop-means n n_is, rest-kept)

      by_need : (m : Option Need) → get_or (needs_from inputs defs) place None ≡ m → AllByRecursion (MeansItsBody xs defs) (left place merged)
      by_need None none =
          subst (λ (ls : List PlannedLoop). AllByRecursion (MeansItsBody xs defs) ls) (sym (rest-skip inputs defs used known place low def def_is merged many trees fuse none)) rest-kept
      by_need (Some n) n_is = by_test n n_is (fuse && is_merged def (drop (suc place) defs) (drop (suc place) (needs_from inputs defs)) (inputs + place) (fused merged def.body)) refl

  from-place : (count place : ℕ) → place + count ≡ length defs → From place
  from-place zero place at ps ps_are xs_are merged many trees stand =
      let end : place ≡ length defs = omega arith in
      let none : drop place defs ≡ [] = ap (λ (k : ℕ). drop k defs) end ∙ drop-length defs in
      subst (λ (ds : List Definition). AllByRecursion (MeansItsBody xs defs) (loops_from fuse inputs place merged ds (drop place (needs_from inputs defs)))) (sym none) tt
  from-place (suc count) place at ps ps_are xs_are merged many trees stand =
      let low : place < length defs = omega arith in
      let here = definition-there defs place low in
      by_need place low here.0 here.1 ps ps_are xs_are merged many trees stand (from-place count (suc place) (omega arith)) (get_or (needs_from inputs defs) place None) refl

no_trees : (all : List (Option Need)) (windowed_on : ℕ → Bool) (count : ℕ) → AreMergedTrees all windowed_on (replicate count None)
no_trees all windowed_on count = record { each = λ source tree at. absurd (cc (sym (replicate-at none_merged count source) ∙ at)) }

-- where all definitions are gone through, the loops are those of the plan
pub all-planned : (core : CoreParts) (names : List (List ℕ)) (defs : List Definition) (fuse : Bool) (place : ℕ) (merged : List (Option FusedTree)) (loops : List PlannedLoop) → names ≡ core.inputs
    → defs ≡ core.defs → IsPlanned fuse (length names) defs place merged loops → length defs ≤ place → loops ≡ plan_of core fuse
all-planned core names defs fuse place merged loops names_are defs_are planned high =
    let inputs = length names in
    sym (append-nil loops)
    ∙ ap (λ (ds : List Definition). loops ++ loops_from fuse inputs place merged ds (drop place (needs_from inputs defs))) (sym (drop_all place defs high))
    ∙ planned.so_far
    ∙ (λ i. loops_from fuse (length (names_are i)) 0 (replicate (length (names_are i)) None) (defs_are i) (needs_from (length (names_are i)) (defs_are i)))

-- each loop of the plan does
pub plan-means : (core : CoreParts) (fuse : Bool) (used : List Bool) → IsKnown (length core.inputs) core.defs used → MeanTheirBodies core (plan_of core fuse)
plan-means core fuse used known = record {
  each = λ rows many.
      let inputs = length core.inputs in
      let ps = map stream_of rows in
      let ps_are : length ps ≡ inputs + 0 = omega (arith, length-map rows stream_of, many) in
      from-place fuse inputs core.defs used known (sources rows core.defs) (length core.defs) 0 (omega arith) ps ps_are refl (replicate inputs None)
      (omega (arith, length-replicate inputs none_merged))
      (no_trees (needs inputs core.defs) (is_windowed core.defs (needs_from inputs core.defs)) inputs)
      (λ source tree at. absurd (cc (sym (replicate-at none_merged inputs source) ∙ at)));
}
