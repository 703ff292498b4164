-- The code of a plan keeps what a code keeps, if its constants are 64-bit numbers.
use Rattle.std.proofs.Common.{◌≡◌, ℕ, suc, ◌+◌, ◌*◌, ◌<◌, ◌≤◌, ℤ, pos, ◌+ℤ◌, ◌-ℤ◌, ◌≤ℤ◌, ◌<ℤ◌, Bool, true, false, List, [], ◌∷◌, length, map, get_or, Option, Some, refl, sym, ap, ◌∙◌, arith}
use Rattle.std.proofs.Common.{subst, IsTrue}
use Rattle.std.specs.Prelude.{⊤, neg_ℤ}
use Rattle.std.specs.List.{AllByRecursion}
use Rattle.std.specs.Option.{unwrap_or}
use Rattle.std.proofs.lemmas.Int.{ints}
use Rattle.tilt_base.proofs.Lists.{all-parts}
use Rattle.tilt_base.specs.declared.limits.TheConstants.{T, REACH}
use Rattle.tilt_bounds.proofs.Needs.{need_at-definition}
use Rattle.tilt_bounds.proofs.Spans.{IsBounded, cut_down-bounded}
use Rattle.tilt_bounds.proofs.Steps.{definition-at}
use Rattle.tilt_bounds.specs.Margins.{MarginsParts, IsWithin, evenly, need_at}
use Rattle.tilt_bounds.specs.Stretch.{stretch_of}
use Rattle.tilt_code.specs.Code.{Block, LoopParts}
use Rattle.tilt_code.specs.Grammar.{IsInstr, IsBlock, IsLoop, stands_in_body, stands_in_map}
use Rattle.tilt_code.specs.References.{RefersBack, ReadsBefore, IsCode}
use Rattle.tilt_code.specs.declared.instr.Instr.{Instr}
use Rattle.tilt_core.proofs.Inputs.{inputs-distinct}
use Rattle.tilt_fuse.proofs.Asks.{asks-weaker}
use Rattle.tilt_fuse.proofs.Planned.{held-within}
use Rattle.tilt_fuse.specs.FusedTree.{FusedTree, PlannedLoop}
use Rattle.tilt_fuse.specs.Plan.{nodes, plan_of}
use Rattle.tilt_fuse.specs.Trees.{EachAsks, Holds, IsKnown}
use Rattle.tilt_lexer.specs.Word.{IsName}
use Rattle.tilt_lower.proofs.Blocks.{registers-some, length-block, length-maps_of}
use Rattle.tilt_lower.proofs.Bounds.{IsGood, IsGoodMap, Bounded, good, back, maps-good, registers-few, maps-few}
use Rattle.tilt_lower.proofs.States.{IsLowered, AreLowered}
use Rattle.tilt_lower.specs.Constants.{BlockFits, ConstantsFit}
use Rattle.tilt_lower.specs.Lowering.{maps_of, block_of, buffer_of, loop_on, no_definition, lowered, code_of}
use Rattle.tilt_core.specs.Core.{CoreParts, IsCore, IsDefinition}
use Rattle.tilt_core.specs.CoreTree.{Definition}
use Rattle.tilt_core.specs.Needs.{Need, no_margin, body_need, needs}

-- what a loop keeps, with this number of buffers before it
record IsKept (count : ℕ) (l : LoopParts) : Type 0 where
  pub loop : IsLoop l
  pub maps : AllByRecursion (RefersBack count (length l.maps) 0) l.maps
  pub body : RefersBack count (length l.maps) 0 l.body

abbrev AreKept : ℕ → List LoopParts → Type 0
AreKept count [] = ⊤
AreKept count (l ∷ loops) = IsKept count l × AreKept (suc count) loops

kept-loops : (count : ℕ) (loops : List LoopParts) → AreKept count loops → AllByRecursion IsLoop loops
kept-loops count [] h = tt
kept-loops count (l ∷ loops) h = (h.0.loop, kept-loops (suc count) loops h.1)

kept-references : (count : ℕ) (loops : List LoopParts) → AreKept count loops → ReadsBefore count loops
kept-references count [] h = tt
kept-references count (l ∷ loops) h = (h.0.maps, h.0.body, kept-references (suc count) loops h.1)

fitting : (stands : Instr → Bool) (block : Block) → AllByRecursion (IsGood stands) block → BlockFits block → AllByRecursion (λ i. IsTrue (stands i) × IsInstr i) block
fitting stands [] good fit = tt
fitting stands (i ∷ block) good fit = ((good.0.0, good.0.1 fit.0), fitting stands block good.1 fit.1)

fitting-maps : (maps : List Block) → AllByRecursion IsGoodMap maps → AllByRecursion BlockFits maps → AllByRecursion (IsBlock stands_in_map) maps
fitting-maps [] good fit = tt
fitting-maps (block ∷ maps) good fit =
    (record { some = good.0.some; few = good.0.few; instrs = fitting stands_in_map block good.0.good fit.0 }, fitting-maps maps good.1 fit.1)

maps-back : (count made : ℕ) (maps : List Block) → AllByRecursion IsGoodMap maps → AllByRecursion (RefersBack count made 0) maps
maps-back count made [] good = tt
maps-back count made (block ∷ maps) good = (good.0.back count made, maps-back count made maps good.1)

module _ (buffer : ℕ → ℕ) (number count : ℕ) (few : count ≤ 256) (def : Definition) (n : Need) (is : IsDefinition number def) (within : IsWithin (evenly REACH) (Some n)) (t : FusedTree)
    (small : nodes t ≤ 65 * 256) where
  abbrev w : Need
  w = body_need def n

  back_low : pos 0 ≤ℤ w.back
  back_low = within.0

  ahead_low : pos 0 ≤ℤ w.ahead
  ahead_low =
      let low = within.2 in
      let period = is.grid.period_low in
      omega (arith, ints)

  kept_on : EachAsks (Bounded buffer count few w back_low ahead_low) w t → (lo hi : ℤ) (empty : Bool) → IsBounded (record { lo = lo; hi = hi; empty = empty })
      → ConstantsFit (loop_on (record { lo = lo; hi = hi; empty = empty }) buffer def t) → IsKept count (loop_on (record { lo = lo; hi = hi; empty = empty }) buffer def t)
  kept_on asks lo hi true bounded fit = record {
    loop = record {
      stretch = record { low = bounded.0; some_ticks = bounded.1; high = bounded.2 };
      grid = record { period_low = omega (arith, ints); period_high = omega (arith, ints); offset_low = omega (arith, ints); offset_high = omega (arith, ints) };
      maps = tt;
      body = record { some = omega arith; few = omega arith; instrs = ((refl, tt), tt) };
    };
    maps = tt;
    body = (refl, tt);
  }
  kept_on asks lo hi false bounded fit =
      let block = block_of buffer 0 0 t in
      let some = registers-some t in
      let many = length-block buffer 0 0 t in
      let fewer = registers-few t in
      let few_maps = maps-few t in
      let all_maps = maps-good (Bounded buffer count few w back_low ahead_low) w t asks (omega arith) in
      record {
        loop = record {
          stretch = record { low = bounded.0; some_ticks = bounded.1; high = bounded.2 };
          grid = is.grid;
          maps = fitting-maps (maps_of t) all_maps fit.maps;
          body = record {
            some = omega (arith, many);
            few = omega (arith, many);
            instrs = fitting stands_in_body block (good buffer count few w back_low ahead_low t asks 0 0 (omega arith) (omega arith)) fit.body;
          };
        };
        maps = maps-back count (length (maps_of t)) (maps_of t) all_maps;
        body = back buffer count few w back_low ahead_low t asks 0 0 (length (maps_of t)) (omega (arith, length-maps_of t));
      }

module _ (query : CoreParts) (margins : MarginsParts) (lo hi : ℤ) (used : List Bool) (known : IsKnown (length query.inputs) query.defs used)
    (margins_are : margins.needs ≡ needs (length query.inputs) query.defs) (fuse : Bool) (loops : List PlannedLoop) (plan : loops ≡ plan_of query fuse)
    (low : neg_ℤ T ≤ℤ lo) (some : lo <ℤ hi) (high : hi ≤ℤ T) where
  abbrev inputs : ℕ
  inputs = length query.inputs

  abbrev buffer : ℕ → ℕ
  buffer = buffer_of inputs loops

  abbrev lower : PlannedLoop → LoopParts
  lower = lowered loops query margins lo hi

  kept-one : (count : ℕ) (l : PlannedLoop) → count ≤ 256 → IsLowered query margins lo hi used known margins_are fuse loops plan count l → ConstantsFit (lower l) → IsKept count (lower l)
  kept-one count l few is fit =
      let def = get_or query.defs l.def no_definition in
      let isdef = definition-at inputs l.def query.defs no_definition known.definitions is.numbered in
      let need_is : need_at (needs inputs query.defs) (inputs + l.def) ≡ Some is.need = need_at-definition inputs query.defs l.def ∙ is.needed in
      let within = subst (λ (m : Option Need). IsWithin (evenly REACH) m) need_is (known.near.each (inputs + l.def)) in
      let need_there : unwrap_or (need_at margins.needs (inputs + l.def)) no_margin ≡ is.need =
      ap (λ (ms : List (Option Need)). unwrap_or (need_at ms (inputs + l.def)) no_margin) margins_are ∙ ap (λ (m : Option Need). unwrap_or m no_margin) need_is in
      let same : lower l ≡ loop_on (stretch_of def is.need lo hi) buffer def l.body = ap (λ (m : Need). loop_on (stretch_of def m lo hi) buffer def l.body) need_there in
      let s = stretch_of def is.need lo hi in
      let back_low = within.0 in
      let back_high = within.1 in
      let ahead_low = within.2 in
      let ahead_high = within.3 in
      subst (λ (made : LoopParts). IsKept count made) (sym same)
      (kept_on buffer (inputs + l.def) count few def is.need isdef within l.body is.small
      (asks-weaker (λ source asked. (buffer source < count) × Holds (need_at (needs inputs query.defs) source) asked)
      (λ source asked. (buffer source < count) × ((asked.back ≤ℤ REACH) × (asked.ahead ≤ℤ REACH)))
      (λ source asked h. (h.0, held-within (need_at (needs inputs query.defs) source) asked (known.near.each source) h.1)) (body_need def is.need) l.body is.asks)
      s.lo s.hi s.empty
      (cut_down-bounded (lo -ℤ is.need.back) (hi +ℤ is.need.ahead) (omega (arith, ints)) (omega (arith, ints)) (omega (arith, ints)) def.over)
      (subst (λ (made : LoopParts). ConstantsFit made) same fit))

  kept : (count : ℕ) (ls : List PlannedLoop) → count + length ls ≤ 256 → AreLowered query margins lo hi used known margins_are fuse loops plan count ls → AllByRecursion ConstantsFit (map lower ls)
      → AreKept count (map lower ls)
  kept count [] few are fit = tt
  kept count (l ∷ ls) few are fit = (kept-one count l (omega arith) are.0 fit.0, kept (suc count) ls (omega arith) are.1 fit.1)

  -- the code is one
  pub code-is : IsCore query → inputs + length loops ≤ 256 → AreLowered query margins lo hi used known margins_are fuse loops plan inputs loops → 0 < length (map lower loops)
      → AllByRecursion ConstantsFit (map lower loops) → IsCode (code_of loops query margins lo hi)
  code-is is few are some_loops fit =
      let all = kept inputs loops few are fit in
      record {
        grammatical = record {
          named = (all-parts IsName query.inputs query.names is.named).0;
          distinct = inputs-distinct query is;
          some = some_loops;
          loops = kept-loops inputs (map lower loops) all;
        };
        references = kept-references inputs (map lower loops) all;
      }
