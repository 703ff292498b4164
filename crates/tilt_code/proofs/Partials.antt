-- The lines so far are those of the partial code that they make, and each prefix of a listing makes one.
use Rattle.std.proofs.Common.{◌≡◌, ℕ, ◌^◌, ◌<◌, ◌≤◌, Bool, true, false, ◌&&◌, not, if◌then◌else◌, nat_eq, List, [], ◌∷◌, ◌++◌, length, map}
use Rattle.std.proofs.Common.{Option, Some, None, ℤ, IsTrue, refl, sym, ap, ◌∙◌, subst, arith, inl, inr, append-nil, append_assoc, length-append}
use Rattle.std.specs.List.{flat_map, list_any, AllByRecursion}
use Rattle.std.specs.Str.{bytes_eq}
use Rattle.std.proofs.lemmas.Bool.{cases_Bool, and_parts, not-true, eqb-true}
use Rattle.std.proofs.lemmas.Grind.{flat_map-append}
use Rattle.std.proofs.lemmas.List.{map-append}
use Rattle.std.proofs.lemmas.List.Elements.{Contains-append_cases}
use Rattle.std.proofs.lemmas.Option.{none-some, same_Some}
use Rattle.tilt_base.proofs.Lists.{all-append, Contains-cons_cases, guard_some}
use Rattle.tilt_base.specs.Grid.{GridPoints, IsGrid}
use Rattle.tilt_base.proofs.Comparisons.{same_bytes}
use Rattle.tilt_text.specs.Step.{◌>>=◌}
use Rattle.tilt_text.proofs.Step.{bind_some}
use Rattle.tilt_lexer.specs.Word.{AreDistinct, IsName}
use Rattle.tilt_code.specs.Code.{Block, LoopParts}
use Rattle.tilt_code.specs.Grammar.{IsInstr, IsNumber, IsStretch, IsBlock, IsLoop, stands_in_map, stands_in_body}
use Rattle.tilt_code.specs.Line.{line_text}
use Rattle.tilt_code.specs.Listing.{block_lines, map_lines, loop_lines}
use Rattle.tilt_code.specs.Partial.{PartialCode, nothing, is_nil, is_new, with_title, with_input, with_head, with_map, with_step, open_loop, with_end, with_line, line_read}
use Rattle.tilt_code.specs.declared.instr.Instr.{Instr}
use Rattle.tilt_code.specs.declared.line.Line.{Line}
use Rattle.tilt_code.specs.declared.line.Line.TheVariants as line
use Rattle.tilt_code.specs.declared.stage.Stage.{Stage}
use Rattle.tilt_code.specs.declared.stage.Stage.TheVariants as stage
use Rattle.tilt_code.proofs.LineText.{IsLine, text_takes}
use Rattle.tilt_code.proofs.Lines.{block_lines-push}

-- the lines so far

-- the lines of the inputs and of the whole loops
abbrev pub opened : PartialCode → List Line
opened p = line.Title ∷ (map line.Input p.inputs ++ flat_map loop_lines p.loops)

-- and of the open loop, up to its whole maps
abbrev pub headed : PartialCode → List Line
headed p = opened p ++ line.Head p.lo p.hi p.grid ∷ flat_map map_lines p.maps

abbrev pub written_in : Stage → PartialCode → List Line
written_in stage.Before p = []
written_in stage.Outside p = opened p
written_in stage.InMap p = headed p ++ line.Map ∷ block_lines 0 p.block
written_in stage.InBody p = headed p ++ block_lines 0 p.block

abbrev pub written : PartialCode → List Line
written p = written_in p.stage p

-- what a partial code keeps

-- an open block, which may be empty
pub record IsOpen (stands : Instr → Bool) (block : Block) : Type 0 where
  pub few : length block ≤ 2 ^ 32
  pub instrs : AllByRecursion (λ i. IsTrue (stands i) × IsInstr i) block

-- an open loop
pub record IsHeaded (lo hi : ℤ) (grid : GridPoints) (maps : List Block) : Type 0 where
  pub stretch : IsStretch lo hi
  pub on_grid : IsGrid grid
  pub mapped : AllByRecursion (IsBlock stands_in_map) maps

abbrev pub IsIn : Stage → PartialCode → Type 0
IsIn stage.Before p = (p.inputs ≡ []) × (p.loops ≡ []) × (p.maps ≡ []) × (p.block ≡ [])
IsIn stage.Outside p = (p.maps ≡ []) × (p.block ≡ [])
IsIn stage.InMap p = IsHeaded p.lo p.hi p.grid p.maps × IsOpen stands_in_map p.block
IsIn stage.InBody p = IsHeaded p.lo p.hi p.grid p.maps × IsOpen stands_in_body p.block

pub record IsPartialAt (at : Stage) (p : PartialCode) : Type 0 where
  pub named : AllByRecursion IsName p.inputs
  pub distinct : AreDistinct p.inputs
  pub loops : AllByRecursion IsLoop p.loops
  pub inside : IsIn at p

abbrev pub IsPartial : PartialCode → Type 0
IsPartial p = IsPartialAt p.stage p

pub nothing-is : IsPartial nothing
nothing-is = record { named = tt; distinct = tt; loops = tt; inside = (refl, refl, refl, refl) }

-- lists

pub nil_true : {X : Type 0} (xs : List X) → is_nil xs ≡ true → xs ≡ []
nil_true [] e = refl
nil_true (x ∷ xs) e = cc e

pub some_length : {X : Type 0} (xs : List X) → is_nil xs ≡ false → 0 < length xs
some_length [] e = cc e
some_length (x ∷ xs) e = omega arith

-- names

-- the name is none of these
abbrev IsFresh : List ℕ → List (List ℕ) → Type 0
IsFresh name names = list_any (λ other. bytes_eq other name) names ≡ false

-- a fresh name after distinct ones leaves them distinct
distinct-push : (names : List (List ℕ)) (name : List ℕ) → AreDistinct names → IsFresh name names → AreDistinct (names ++ name ∷ [])
distinct-push [] name d f = (λ c. absurd (omega (arith, c.1)), tt)
distinct-push (x ∷ xs) name d f =
    elim (cases_Bool (bytes_eq x name)) [
      | inl same ↦ cc (rw same at f)
      | inr other ↦ (
        λ c. elim (Contains-append_cases xs (name ∷ []) x c) [
          | inl before ↦ d.0 before
          | inr last ↦ elim (Contains-cons_cases name [] x last) [
            | inl same ↦ cc (sym other ∙ ap (λ (y : List ℕ). bytes_eq x y) same ∙ same_bytes x)
            | inr never ↦ absurd (omega (arith, never.1))
          ]
        ],
        distinct-push xs name d.1 (rw other at f),
      )
    ]

-- one line more

pub record Step (at : Stage) (p q : PartialCode) (l : Line) : Type 0 where
  pub lines : written q ≡ written_in at p ++ l ∷ []
  pub kept : IsPartial q

step_is : (at : Stage) (p r q : PartialCode) (l : Line) → Some r ≡ Some q → written r ≡ written_in at p ++ l ∷ [] → IsPartial r → Step at p q l
step_is at p r q l e lines kept =
    let same = same_Some r q e in
    record { lines = sym (ap written same) ∙ lines; kept = subst IsPartial same kept }

title-sound : (at : Stage) (p q : PartialCode) → IsPartialAt at p → with_title at p ≡ Some q → Step at p q line.Title
title-sound stage.Before p q g e =
    let h = g.inside in
    step_is stage.Before p (record p { stage = stage.Outside }) q line.Title e (λ i. line.Title ∷ (map line.Input (h.0 i) ++ flat_map loop_lines (h.1 i)))
    (record { named = g.named; distinct = g.distinct; loops = g.loops; inside = (h.2, h.3) })
title-sound stage.Outside p q g e = absurd (none-some q e)
title-sound stage.InMap p q g e = absurd (none-some q e)
title-sound stage.InBody p q g e = absurd (none-some q e)

input-lines : (inputs : List (List ℕ)) (name : List ℕ) (loops : List LoopParts) → loops ≡ [] → map line.Input (inputs ++ name ∷ []) ++ flat_map loop_lines loops
    ≡ (map line.Input inputs ++ flat_map loop_lines loops) ++ line.Input name ∷ []
input-lines inputs name loops e =
    rw e (append-nil (map line.Input (inputs ++ name ∷ [])) ∙ map-append line.Input inputs (name ∷ []) ∙ ap (λ (t : List Line). t ++ line.Input name ∷ []) (sym (append-nil (map line.Input inputs))))

input-sound : (at : Stage) (name : List ℕ) (p q : PartialCode) → IsName name → IsPartialAt at p → with_input at name p ≡ Some q → Step at p q (line.Input name)
input-sound stage.Outside name p q n g e =
    let r : PartialCode = record p { stage = stage.Outside; inputs = p.inputs ++ name ∷ [] } in
    let kept = guard_some (is_new p.loops p.inputs name) (Some r) q e in
    let tests = and_parts (is_nil p.loops) (not (list_any (λ other. bytes_eq other name) p.inputs)) kept.0 in
    let fresh = not-true (list_any (λ other. bytes_eq other name) p.inputs) tests.1 in
    step_is stage.Outside p r q (line.Input name) kept.1 (ap (λ (ls : List Line). line.Title ∷ ls) (input-lines p.inputs name p.loops (nil_true p.loops tests.0))) (record {
      named = all-append IsName p.inputs (name ∷ []) g.named (n, tt);
      distinct = distinct-push p.inputs name g.distinct fresh;
      loops = g.loops;
      inside = g.inside;
    })
input-sound stage.Before name p q n g e = absurd (none-some q e)
input-sound stage.InMap name p q n g e = absurd (none-some q e)
input-sound stage.InBody name p q n g e = absurd (none-some q e)

none-open : (stands : Instr → Bool) (block : Block) → block ≡ [] → IsOpen stands block
none-open stands block e = subst (IsOpen stands) (sym e) (record { few = omega arith; instrs = tt })

head-sound : (at : Stage) (lo hi : ℤ) (grid : GridPoints) (p q : PartialCode) → IsStretch lo hi → IsGrid grid → IsPartialAt at p → with_head at lo hi grid p
    ≡ Some q → Step at p q (line.Head lo hi grid)
head-sound stage.Outside lo hi grid p q s k g e =
    let r : PartialCode = record p { stage = stage.InBody; lo = lo; hi = hi; grid = grid } in
    let h = g.inside in
    step_is stage.Outside p r q (line.Head lo hi grid) e ((λ i. (opened p ++ line.Head lo hi grid ∷ flat_map map_lines (h.0 i)) ++ block_lines 0 (h.1 i))
    ∙ append-nil (opened p ++ line.Head lo hi grid ∷ [])) (record {
      named = g.named;
      distinct = g.distinct;
      loops = g.loops;
      inside = (
        record { stretch = s; on_grid = k; mapped = subst (AllByRecursion (IsBlock stands_in_map)) (sym h.0) tt },
        none-open stands_in_body p.block h.1,
      );
    })
head-sound stage.Before lo hi grid p q s k g e = absurd (none-some q e)
head-sound stage.InMap lo hi grid p q s k g e = absurd (none-some q e)
head-sound stage.InBody lo hi grid p q s k g e = absurd (none-some q e)

map-lines : (front : List Line) (block : Block) → block ≡ [] → front ++ line.Map ∷ block_lines 0 block ≡ (front ++ block_lines 0 block) ++ line.Map ∷ []
map-lines front block e = rw e (ap (λ (t : List Line). t ++ line.Map ∷ []) (sym (append-nil front)))

map-sound : (at : Stage) (p q : PartialCode) → IsPartialAt at p → with_map at p ≡ Some q → Step at p q line.Map
map-sound stage.InBody p q g e =
    let r : PartialCode = record p { stage = stage.InMap } in
    let kept = guard_some (is_nil p.block) (Some r) q e in
    let none = nil_true p.block kept.0 in
    step_is stage.InBody p r q line.Map kept.1 (map-lines (headed p) p.block none) (record {
      named = g.named;
      distinct = g.distinct;
      loops = g.loops;
      inside = (g.inside.0, none-open stands_in_map p.block none);
    })
map-sound stage.Before p q g e = absurd (none-some q e)
map-sound stage.Outside p q g e = absurd (none-some q e)
map-sound stage.InMap p q g e = absurd (none-some q e)

-- an instruction more in an open block
open-push : (stands : Instr → Bool) (block : Block) (register : ℕ) (i : Instr) → IsNumber register → IsInstr i → stands i ≡ true → register ≡ length block
    → IsOpen stands block → IsOpen stands (block ++ i ∷ [])
open-push stands block register i n w s same h = record {
  few = omega (arith, n, same, length-append block (i ∷ []));
  instrs = all-append (λ j. IsTrue (stands j) × IsInstr j) block (i ∷ []) h.instrs ((s, w), tt);
}

step-sound : (at : Stage) (register : ℕ) (i : Instr) (p q : PartialCode) → IsNumber register → IsInstr i → IsPartialAt at p → with_step at register i p ≡ Some q → Step at p q (line.Step register i)
step-sound stage.InMap register i p q n w g e =
    let r : PartialCode = record p { stage = stage.InMap; block = p.block ++ i ∷ [] } in
    let kept = guard_some (stands_in_map i && nat_eq register (length p.block)) (Some r) q e in
    let tests = and_parts (stands_in_map i) (nat_eq register (length p.block)) kept.0 in
    let same = eqb-true register (length p.block) tests.1 in
    step_is stage.InMap p r q (line.Step register i) kept.1 (ap (λ (ls : List Line). headed p ++ line.Map ∷ ls)
    (block_lines-push 0 register p.block i (omega (arith, same))) ∙ sym (append_assoc (headed p) (line.Map ∷ block_lines 0 p.block) (line.Step register i ∷ []))) (record {
      named = g.named;
      distinct = g.distinct;
      loops = g.loops;
      inside = (g.inside.0, open-push stands_in_map p.block register i n w tests.0 same g.inside.1);
    })
step-sound stage.InBody register i p q n w g e =
    let r : PartialCode = record p { stage = stage.InBody; block = p.block ++ i ∷ [] } in
    let kept = guard_some (stands_in_body i && nat_eq register (length p.block)) (Some r) q e in
    let tests = and_parts (stands_in_body i) (nat_eq register (length p.block)) kept.0 in
    let same = eqb-true register (length p.block) tests.1 in
    step_is stage.InBody p r q (line.Step register i) kept.1
    (ap (λ (ls : List Line). headed p ++ ls) (block_lines-push 0 register p.block i (omega (arith, same)))
    ∙ sym (append_assoc (headed p) (block_lines 0 p.block) (line.Step register i ∷ []))) (record {
      named = g.named;
      distinct = g.distinct;
      loops = g.loops;
      inside = (g.inside.0, open-push stands_in_body p.block register i n w tests.0 same g.inside.1);
    })
step-sound stage.Before register i p q n w g e = absurd (none-some q e)
step-sound stage.Outside register i p q n w g e = absurd (none-some q e)

pub guard_else : {A : Type 0} (t : Bool) (o : Option A) (y : A) → (if t then None else o) ≡ Some y → (t ≡ false) × (o ≡ Some y)
guard_else true o y e = absurd (none-some y e)
guard_else false o y e = (refl, e)

-- an open block that isn't empty is a block
open-block : (stands : Instr → Bool) (block : Block) → is_nil block ≡ false → IsOpen stands block → IsBlock stands block
open-block stands block some h = record { some = some_length block some; few = h.few; instrs = h.instrs }

map-end-lines : (front maps block : List Line) (head map end : Line) → (front ++ head ∷ (maps ++ ((map ∷ (block ++ end ∷ [])) ++ []))) ++ [] ≡ ((front ++ head ∷ maps) ++ map ∷ block) ++ end ∷ []
map-end-lines front maps block head map end = simp (append_assoc, append-nil)

loop-end-lines : (inputs loops maps block : List Line) (head end : Line) → inputs ++ (loops ++ ((head ∷ (maps ++ block ++ end ∷ [])) ++ []))
    ≡ (((inputs ++ loops) ++ head ∷ maps) ++ block) ++ end ∷ []
loop-end-lines inputs loops maps block head end = simp (append_assoc, append-nil)

end-sound : (at : Stage) (p q : PartialCode) → IsPartialAt at p → with_end at p ≡ Some q → Step at p q line.End
end-sound stage.InMap p q g e =
    let r : PartialCode = record p { stage = stage.InBody; maps = p.maps ++ p.block ∷ []; block = [] } in
    let kept = guard_else (is_nil p.block) (Some r) q e in
    let block = open-block stands_in_map p.block kept.0 g.inside.1 in
    let head = line.Head p.lo p.hi p.grid in
    step_is stage.InMap p r q line.End kept.1 (ap (λ (ls : List Line). (opened p ++ head ∷ ls) ++ []) (flat_map-append map_lines p.maps (p.block ∷ []))
    ∙ map-end-lines (opened p) (flat_map map_lines p.maps) (block_lines 0 p.block) head line.Map line.End) (record {
      named = g.named;
      distinct = g.distinct;
      loops = g.loops;
      inside = (
        record {
          stretch = g.inside.0.stretch;
          on_grid = g.inside.0.on_grid;
          mapped = all-append (IsBlock stands_in_map) p.maps (p.block ∷ []) g.inside.0.mapped (block, tt);
        },
        record { few = omega arith; instrs = tt },
      );
    })
end-sound stage.InBody p q g e =
    let r : PartialCode = record p { stage = stage.Outside; loops = p.loops ++ open_loop p ∷ []; maps = []; block = [] } in
    let kept = guard_else (is_nil p.block) (Some r) q e in
    let block = open-block stands_in_body p.block kept.0 g.inside.1 in
    let head = line.Head p.lo p.hi p.grid in
    let whole : IsLoop (open_loop p) = record { stretch = g.inside.0.stretch; grid = g.inside.0.on_grid; maps = g.inside.0.mapped; body = block } in
    step_is stage.InBody p r q line.End kept.1 (ap (λ (ls : List Line). line.Title ∷ (map line.Input p.inputs ++ ls))
    (flat_map-append loop_lines p.loops (open_loop p ∷ []))
    ∙ loop-end-lines (line.Title ∷ map line.Input p.inputs) (flat_map loop_lines p.loops) (flat_map map_lines p.maps) (block_lines 0 p.block) head line.End) (record {
      named = g.named;
      distinct = g.distinct;
      loops = all-append IsLoop p.loops (open_loop p ∷ []) g.loops (whole, tt);
      inside = (refl, refl);
    })
end-sound stage.Before p q g e = absurd (none-some q e)
end-sound stage.Outside p q g e = absurd (none-some q e)

pub line-sound : (l : Line) (p q : PartialCode) → IsLine l → IsPartial p → with_line l p ≡ Some q → Step p.stage p q l
line-sound line.Title p q n g e = title-sound p.stage p q g e
line-sound (line.Input name) p q n g e = input-sound p.stage name p q n g e
line-sound (line.Head lo hi grid) p q n g e = head-sound p.stage lo hi grid p q n.0 n.1 g e
line-sound line.Map p q n g e = map-sound p.stage p q g e
line-sound (line.Step register i) p q n g e = step-sound p.stage register i p q n.0 n.1 g e
line-sound line.End p q n g e = end-sound p.stage p q g e

-- after one text more
abbrev pub take_text : List ℕ → PartialCode → Option PartialCode
take_text text p = line_read text >>= λ l. with_line l p

-- the lines after one text more are those before it and it
pub record TextStep (text : List ℕ) (p q : PartialCode) : Type 0 where
  pub texts : map line_text (written q) ≡ map line_text (written p) ++ text ∷ []
  pub kept : IsPartial q

pub text-sound : (text : List ℕ) (p q : PartialCode) → IsPartial p → take_text text p ≡ Some q → TextStep text p q
text-sound text p q g e =
    let b = bind_some (line_read text) (λ l. with_line l p) q e in
    let t = text_takes text b.0 b.1 in
    let s = line-sound b.0 p q t.1 g b.2 in
    record {
      texts = ap (map line_text) s.lines ∙ map-append line_text (written p) (b.0 ∷ []) ∙ ap (λ (x : List ℕ). map line_text (written p) ++ x ∷ []) (sym t.0);
      kept = s.kept;
    }
