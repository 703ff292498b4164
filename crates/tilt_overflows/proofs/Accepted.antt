-- A watching query that is small enough is the core of an accepted query.
use Rattle.std.proofs.Common.{◌≡◌, ℕ, zero, suc, ◌+◌, ◌<◌, ◌≤◌, ℤ, pos, ◌≤ℤ◌, Bool, true, false, if◌then◌else◌, List, [], ◌∷◌, ◌++◌, length, map, Option, Some, None, refl, sym, subst, arith, length-append}
use Rattle.std.specs.Prelude.{IsSome, option_map}
use Rattle.std.specs.List.{AllByRecursion}
use Rattle.std.proofs.lemmas.Int.{ints, clamps}
use Rattle.std.proofs.lemmas.List.{append_assoc, length-map}
use Rattle.tilt_base.proofs.Lists.{all-append}
use Rattle.tilt_base.specs.Expression.{Leaf, One, Two, If}
use Rattle.tilt_base.specs.Grid.{IsGrid}
use Rattle.tilt_base.specs.declared.operator.Op1.{Op1}
use Rattle.tilt_base.specs.declared.operator.Op1.TheVariants.{Neg, Not, IsNull}
use Rattle.tilt_base.specs.declared.operator.Op2.{Op2}
use Rattle.tilt_base.specs.declared.operator.Op2.TheVariants.{Add, Sub, Mul, Div, Rem, Eq, Ne, Lt, Le, Gt, Ge, And, Or, When, IfNull}
use Rattle.tilt_base.specs.declared.reducer.Reducer.{Reducer}
use Rattle.tilt_base.specs.declared.reducer.Reducer.TheVariants as reducer
use Rattle.tilt_base.specs.declared.span.Span.{Span}
use Rattle.tilt_core.proofs.Last.{domain_of-stretch}
use Rattle.tilt_core.specs.Core.{AreDefinitions, CoreParts, IsCore, IsDefinition, IsStretch, ReadsBelow, domain_of}
use Rattle.tilt_core.specs.CoreTree.{CoreTree, Const, Read, Reduce, Definition, nodes}
use Rattle.tilt_core.specs.Needs.{Need}
use Rattle.tilt_lexer.specs.Word.{AreDistinct, IsName}
use Rattle.tilt_overflows.proofs.Reach.{reach_low, reach_of}
use Rattle.tilt_overflows.proofs.Underscores.{length-more_names, more_named, names_distinct}
use Rattle.tilt_overflows.specs.Leaves.{is_never, leaves, leaves1, leaves2, leaves_window, one_of}
use Rattle.tilt_overflows.specs.Watching.{AreSmall, each_tick, emitted_watch, more_names, most_bytes, some_of, watch, watching_core, watching_defs, widened}

-- what reads only sources below a number reads only sources below a larger one
pub reads_more : (m n : ℕ) (e : CoreTree) → m ≤ n → ReadsBelow m e → ReadsBelow n e
reads_more m n (Leaf (Const number)) h r = tt
reads_more m n (Leaf (Read source offset)) h r = omega (arith, r)
reads_more m n (Leaf (Reduce reducer source from to)) h r = (let a = r.0 in omega arith, r.1)
reads_more m n (One op a) h r = reads_more m n a h r
reads_more m n (Two op a b) h r = (reads_more m n a h r.0, reads_more m n b h r.1)
reads_more m n (If c a b) h r = (reads_more m n c h r.0, reads_more m n a h r.1, reads_more m n b h r.2)

module _ (bound : ℕ) where
  one_by : (left right : Bool) (x y : CoreTree) → ReadsBelow bound x → ReadsBelow bound y → ReadsBelow bound (if left then y else if right then x else Two Or x y)
  one_by true right x y r s = s
  one_by false true x y r s = r
  one_by false false x y r s = (r, s)

  one_reads : (x y : CoreTree) → ReadsBelow bound x → ReadsBelow bound y → ReadsBelow bound (one_of x y)
  one_reads x y r s = one_by (is_never x) (is_never y) x y r s

  reads1 : (op : Op1) (a : CoreTree) → ReadsBelow bound a → ReadsBelow bound (leaves1 op a)
  reads1 Neg a r = (r, r)
  reads1 Not a r = tt
  reads1 IsNull a r = tt

  reads2 : (op : Op2) (a b : CoreTree) → ReadsBelow bound a → ReadsBelow bound b → ReadsBelow bound (leaves2 op a b)
  reads2 Add a b r s = ((r, s), (r, s))
  reads2 Sub a b r s = ((r, s), (r, s))
  reads2 Mul a b r s = ((r, s), (r, s))
  reads2 Div a b r s = ((r, s), (r, s))
  reads2 Rem a b r s = tt
  reads2 Eq a b r s = tt
  reads2 Ne a b r s = tt
  reads2 Lt a b r s = tt
  reads2 Le a b r s = tt
  reads2 Gt a b r s = tt
  reads2 Ge a b r s = tt
  reads2 And a b r s = tt
  reads2 Or a b r s = tt
  reads2 When a b r s = tt
  reads2 IfNull a b r s = tt

  reads_window : (r : Reducer) (source : ℕ) (from to : ℤ) → ReadsBelow bound (Leaf (Reduce r source from to)) → ReadsBelow bound (leaves_window r source from to)
  reads_window reducer.Sum source from to h = (h, h)
  reads_window reducer.Avg source from to h = tt
  reads_window reducer.Min source from to h = tt
  reads_window reducer.Max source from to h = tt
  reads_window reducer.Count source from to h = tt
  reads_window reducer.First source from to h = tt
  reads_window reducer.Last source from to h = tt
  reads_window reducer.Any source from to h = tt
  reads_window reducer.All source from to h = tt

  -- the watch of an expression reads what the expression reads
  pub leaves_reads : (e : CoreTree) → ReadsBelow bound e → ReadsBelow bound (leaves e)
  leaves_reads (Leaf (Const number)) r = tt
  leaves_reads (Leaf (Read source offset)) r = tt
  leaves_reads (Leaf (Reduce reducer source from to)) r = reads_window reducer source from to r
  leaves_reads (One op a) r = one_reads (leaves a) (leaves1 op a) (leaves_reads a r) (reads1 op a r)
  leaves_reads (Two op a b) r =
      one_reads (one_of (leaves a) (leaves b)) (leaves2 op a b) (one_reads (leaves a) (leaves b) (leaves_reads a r.0) (leaves_reads b r.1)) (reads2 op a b r.0 r.1)
  leaves_reads (If c a b) r =
      one_reads (leaves c) (one_of (leaves a) (leaves b)) (leaves_reads c r.0) (one_reads (leaves a) (leaves b) (leaves_reads a r.1) (leaves_reads b r.2))

-- the first of some sources that isn't null reads those
pub some_reads : (bound first more : ℕ) → first + more < bound → ReadsBelow bound (some_of first more)
some_reads bound first zero h = omega (arith, h)
some_reads bound first (suc more) h = (some_reads bound first more (omega (arith, h)), omega (arith, h))

some_nodes : (first more : ℕ) → nodes (some_of first more) ≡ 1 + more + more
some_nodes first zero = omega arith
some_nodes first (suc more) = omega (arith, some_nodes first more)

-- definitions after definitions
pub definitions_append : (before : ℕ) (xs ys : List Definition) → AreDefinitions before xs → AreDefinitions (before + length xs) ys → AreDefinitions before (xs ++ ys)
definitions_append before [] ys h k = let is : before + 0 ≡ before = omega arith in subst (λ n. AreDefinitions n ys) is k
definitions_append before (def ∷ defs) ys h k =
    let is : before + suc (length defs) ≡ suc before + length defs = omega arith in
    (h.0, definitions_append (suc before) defs ys h.1 (subst (λ n. AreDefinitions n ys) is k))

watches_accepted : (before later : ℕ) (defs : List Definition) → before ≤ later → AreDefinitions before defs → AreSmall (map watch defs) → AreDefinitions later (map watch defs)
watches_accepted before later [] h are small = tt
watches_accepted before later (def ∷ defs) h are small = (
  record {
    reads = (tt, reads_more before later (leaves def.body) h (leaves_reads before def.body are.0.reads));
    small = small.0;
    stretch = are.0.stretch;
    grid = are.0.grid;
  },
  watches_accepted (suc before) (suc later) defs (omega (arith, h)) are.1 small.1,
)

-- a span that is widened is a stretch of time
widened_stretch : (reach : Need) (domain : Option Span) → pos 0 ≤ℤ reach.back → pos 0 ≤ℤ reach.ahead → IsStretch domain → IsStretch (option_map (widened reach) domain)
widened_stretch reach None back ahead h = tt
widened_stretch reach (Some span) back ahead h =
    let a = h.0 in
    let b = h.1 in
    let c = h.2 in
    (omega (arith, ints, clamps), omega (arith, ints, clamps), omega (arith, ints, clamps))

tick_grid : IsGrid each_tick
tick_grid = record { period_low = omega (arith, ints); period_high = omega (arith, ints); offset_low = omega (arith, ints); offset_high = omega (arith, ints) }

pub last_domain : (defs : List Definition) (last : Definition) → domain_of (defs ++ last ∷ []) ≡ last.over
last_domain [] last = refl
last_domain (def ∷ []) last = refl
last_domain (def ∷ next ∷ defs) last = last_domain (next ∷ defs) last

widened_some : (reach : Need) (domain : Option Span) → IsSome domain → IsSome (option_map (widened reach) domain)
widened_some reach None h = h
widened_some reach (Some span) h = h

module _ (core : CoreParts) where
  abbrev pub before_last : List Definition
  before_last = core.defs ++ map watch core.defs

  pub length-before_last : length before_last ≡ length core.defs + length core.defs
  length-before_last = omega (arith, length-append core.defs (map watch core.defs), length-map core.defs watch)

  pub length-watching_defs : length (watching_defs core) ≡ length core.defs + length core.defs + 1
  length-watching_defs =
      let last = emitted_watch core in
      omega (arith, length-append before_last (last ∷ []), length-before_last)

  module _ (is : IsCore core) (few : length core.inputs + length core.defs + length core.defs < 256) where
    last_accepted : IsDefinition (length core.inputs + length before_last) (emitted_watch core)
    last_accepted =
        let one = is.one_emitted in
        let many = length-before_last in
        let low = reach_low core in
        record {
          reads = some_reads (length core.inputs + length before_last) (length core.inputs + length core.defs) (length core.names) (omega arith);
          small = omega (arith, some_nodes (length core.inputs + length core.defs) (length core.names));
          stretch = widened_stretch (reach_of core) (domain_of core.defs) low.0 low.1 (domain_of-stretch (length core.inputs) core.defs is.definitions);
          grid = tick_grid;
        }

    pub watching_accepted : AreSmall (map watch core.defs) → IsCore (watching_core core)
    watching_accepted small =
        let names = core.inputs ++ core.names in
        let bytes = most_bytes names in
        let more = suc (length core.defs) in
        let count = length core.inputs in
        let one = is.one_emitted in
        record {
          one_emitted = omega (arith, length-watching_defs, length-append core.names (more_names bytes more), length-more_names bytes more);
          few = omega (arith, length-watching_defs);
          distinct = subst AreDistinct (append_assoc core.inputs core.names (more_names bytes more)) (names_distinct names more is.distinct);
          named = subst (AllByRecursion IsName) (append_assoc core.inputs core.names (more_names bytes more))
              (all-append IsName names (more_names bytes more) is.named (more_named bytes more));
          definitions = definitions_append count before_last (emitted_watch core ∷ [])
              (definitions_append count core.defs (map watch core.defs) is.definitions
              (watches_accepted count (count + length core.defs) core.defs (omega arith) is.definitions small))
              (last_accepted, tt);
          domain = subst IsSome (sym (last_domain before_last (emitted_watch core))) (widened_some (reach_of core) (domain_of core.defs) is.domain);
        }
