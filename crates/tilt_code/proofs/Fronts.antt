-- A partial code is a prefix of a whole one.
use Rattle.std.proofs.Common.{◌≡◌, ℕ, Bool, true, List, [], ◌∷◌, ◌++◌, map, Some, pos, refl, sym, ap, ◌∙◌, subst, arith, append-nil, append_assoc, length-append}
use Rattle.std.specs.List.{flat_map}
use Rattle.std.proofs.lemmas.Grind.{flat_map-append}
use Rattle.std.proofs.lemmas.Int.{ints}
use Rattle.std.proofs.lemmas.List.{map-append}
use Rattle.std.proofs.lemmas.Option.{same_Some}
use Rattle.tilt_base.proofs.Lists.{all-append}
use Rattle.tilt_text.proofs.Step.{bind_some}
use Rattle.tilt_code.specs.Code.{Block, LoopParts, CodeParts}
use Rattle.tilt_code.specs.Fault.{IsFront}
use Rattle.tilt_code.specs.Grammar.{IsBlock, IsLoop, IsGrammatical, stands_in_map, stands_in_body}
use Rattle.tilt_code.specs.Line.{line_text}
use Rattle.tilt_code.specs.Listing.{block_lines, map_lines, loop_lines, code_lines}
use Rattle.tilt_code.specs.Partial.{PartialCode, nothing}
use Rattle.tilt_code.specs.declared.instr.Instr.{Instr}
use Rattle.tilt_code.specs.declared.instr.Instr.TheVariants as instr
use Rattle.tilt_code.specs.declared.line.Line.{Line}
use Rattle.tilt_code.specs.declared.line.Line.TheVariants as line
use Rattle.tilt_code.specs.declared.stage.Stage.{Stage}
use Rattle.tilt_code.specs.declared.stage.Stage.TheVariants as stage
use Rattle.tilt_code.proofs.Complete.{code-run, code-fits, run_texts, texts-run, texts-front}
use Rattle.tilt_code.proofs.Partials.{IsOpen, IsPartial, IsPartialAt, nothing-is, opened, written_in, written, take_text, text-sound}

-- an open block, filled if it is empty
abbrev filled : Block → Block
filled [] = instr.Null ∷ []
filled (x ∷ xs) = x ∷ xs

-- the lines that fill it
abbrev fill : Block → List Line
fill [] = line.Step 0 instr.Null ∷ []
fill (x ∷ xs) = []

filled-lines : (block : Block) → block_lines 0 (filled block) ≡ block_lines 0 block ++ fill block
filled-lines [] = refl
filled-lines (x ∷ xs) = sym (append-nil (block_lines 0 (x ∷ xs)))

filled-is : (stands : Instr → Bool) (block : Block) → stands instr.Null ≡ true → IsOpen stands block → IsBlock stands (filled block)
filled-is stands [] s h = record { some = omega arith; few = omega arith; instrs = ((s, tt), tt) }
filled-is stands (x ∷ xs) s h = record { some = omega arith; few = h.few; instrs = h.instrs }

-- a whole code that begins with these lines
record Ended (lines : List Line) : Type 0 where
  code : CodeParts
  more : List Line
  grammatical : IsGrammatical code
  begins : code_lines code ≡ lines ++ more

-- a loop of one instruction
abbrev least : LoopParts
least = record { lo = pos 0; hi = pos 1; grid = record { period = pos 1; offset = pos 0 }; maps = []; body = instr.Null ∷ [] }

least-is : IsLoop least
least-is = record {
  stretch = record { low = omega (arith, ints); some_ticks = omega (arith, ints); high = omega (arith, ints) };
  grid = record { period_low = omega (arith, ints); period_high = omega (arith, ints); offset_low = omega (arith, ints); offset_high = omega (arith, ints) };
  maps = tt;
  body = record { some = omega arith; few = omega arith; instrs = ((refl, tt), tt) };
}

-- the code of a partial code's whole loops and one loop more
abbrev with_loop : PartialCode → LoopParts → CodeParts
with_loop p l = record { inputs = p.inputs; loops = p.loops ++ l ∷ [] }

with_loop-is : (s : Stage) (p : PartialCode) (l : LoopParts) → IsPartialAt s p → IsLoop l → IsGrammatical (with_loop p l)
with_loop-is s p l g h = record {
  named = g.named;
  distinct = g.distinct;
  some = omega (arith, length-append p.loops (l ∷ []));
  loops = all-append IsLoop p.loops (l ∷ []) g.loops (h, tt);
}

with_loop-lines : (p : PartialCode) (l : LoopParts) → code_lines (with_loop p l) ≡ opened p ++ loop_lines l
with_loop-lines p l =
    ap (λ (ls : List Line). line.Title ∷ (map line.Input p.inputs ++ ls))
    (flat_map-append loop_lines p.loops (l ∷ []) ∙ ap (λ (ls : List Line). flat_map loop_lines p.loops ++ ls) (append-nil (loop_lines l)))
    ∙ ap (λ (ls : List Line). line.Title ∷ ls) (sym (append_assoc (map line.Input p.inputs) (flat_map loop_lines p.loops) (loop_lines l)))

body-end : (front maps block fill : List Line) (head end : Line) → front ++ head ∷ (maps ++ (block ++ fill) ++ end ∷ []) ≡ ((front ++ head ∷ maps) ++ block) ++ (fill ++ end ∷ [])
body-end front maps block fill head end = simp append_assoc

map-end : (front maps block fill : List Line) (head map step end : Line) → front ++ head
    ∷ (maps ++ ((map ∷ ((block ++ fill) ++ end ∷ [])) ++ []) ++ step ∷ [] ++ end ∷ []) ≡ ((front ++ head ∷ maps) ++ map ∷ block) ++ (fill ++ end ∷ step ∷ end ∷ [])
map-end front maps block fill head map step end = simp (append_assoc, append-nil)

ended : (s : Stage) (p : PartialCode) → IsPartialAt s p → Ended (written_in s p)
ended stage.Before p g = record {
  code = record { inputs = []; loops = least ∷ [] };
  more = code_lines (record { inputs = []; loops = least ∷ [] });
  grammatical = record { named = tt; distinct = tt; some = omega arith; loops = (least-is, tt) };
  begins = refl;
}
ended stage.Outside p g = record {
  code = with_loop p least;
  more = loop_lines least;
  grammatical = with_loop-is stage.Outside p least g least-is;
  begins = with_loop-lines p least;
}
ended stage.InBody p g =
    let l : LoopParts = record { lo = p.lo; hi = p.hi; grid = p.grid; maps = p.maps; body = filled p.block } in
    let whole : IsLoop l = record { stretch = g.inside.0.stretch; grid = g.inside.0.on_grid; maps = g.inside.0.mapped; body = filled-is stands_in_body p.block refl g.inside.1 } in
    let head = line.Head p.lo p.hi p.grid in
    record {
      code = with_loop p l;
      more = fill p.block ++ line.End ∷ [];
      grammatical = with_loop-is stage.InBody p l g whole;
      begins = with_loop-lines p l ∙ ap (λ (ls : List Line). opened p ++ head ∷ (flat_map map_lines p.maps ++ ls ++ line.End ∷ [])) (filled-lines p.block)
          ∙ body-end (opened p) (flat_map map_lines p.maps) (block_lines 0 p.block) (fill p.block) head line.End;
    }
ended stage.InMap p g =
    let l : LoopParts = record { lo = p.lo; hi = p.hi; grid = p.grid; maps = p.maps ++ filled p.block ∷ []; body = instr.Null ∷ [] } in
    let mapped = all-append (IsBlock stands_in_map) p.maps (filled p.block ∷ []) g.inside.0.mapped (filled-is stands_in_map p.block refl g.inside.1, tt) in
    let whole : IsLoop l = record { stretch = g.inside.0.stretch; grid = g.inside.0.on_grid; maps = mapped; body = least-is.body } in
    let head = line.Head p.lo p.hi p.grid in
    let step = line.Step 0 instr.Null in
    record {
      code = with_loop p l;
      more = fill p.block ++ line.End ∷ step ∷ line.End ∷ [];
      grammatical = with_loop-is stage.InMap p l g whole;
      begins = with_loop-lines p l ∙ ap (λ (ls : List Line). opened p ++ head ∷ (ls ++ step ∷ [] ++ line.End ∷ []))
          (flat_map-append map_lines p.maps (filled p.block ∷ []))
          ∙ ap (λ (ls : List Line). opened p ++ head ∷ (flat_map map_lines p.maps ++ ((line.Map ∷ (ls ++ line.End ∷ [])) ++ []) ++ step ∷ [] ++ line.End ∷ []))
          (filled-lines p.block) ∙ map-end (opened p) (flat_map map_lines p.maps) (block_lines 0 p.block) (fill p.block) head line.Map step line.End;
    }

-- texts that make a partial code are its lines
pub texts-sound : (p q : PartialCode) (texts : List (List ℕ)) → IsPartial p → run_texts p texts ≡ Some q → IsPartial q × (map line_text (written q) ≡ map line_text (written p) ++ texts)
texts-sound p q [] g e =
    let same = same_Some p q e in
    (subst IsPartial same g, ap (λ (r : PartialCode). map line_text (written r)) (sym same) ∙ sym (append-nil (map line_text (written p))))
texts-sound p q (t ∷ ts) g e =
    let b = bind_some (take_text t p) (λ r. run_texts r ts) q e in
    let s = text-sound t p b.0 g b.1 in
    let rest = texts-sound b.0 q ts s.kept b.2 in
    (rest.0, rest.1 ∙ ap (λ (xs : List (List ℕ)). xs ++ ts) s.texts ∙ append_assoc (map line_text (written p)) (t ∷ []) ts)

-- texts that make a partial code are a prefix
pub taken-front : (q : PartialCode) (texts : List (List ℕ)) → run_texts nothing texts ≡ Some q → IsFront texts
taken-front q texts e =
    let s = texts-sound nothing q texts nothing-is e in
    let whole = ended q.stage q s.0 in (
      whole.code,
      whole.grammatical,
      (
        map line_text whole.more,
        ap (map line_text) whole.begins ∙ map-append line_text (written q) whole.more
            ∙ ap (λ (xs : List (List ℕ)). xs ++ map line_text whole.more) s.1,
      ),
    )

-- and a prefix makes one
pub front-taken : (texts : List (List ℕ)) → IsFront texts → (q : PartialCode) × (run_texts nothing texts ≡ Some q)
front-taken texts (code, grammatical, behind) =
    let made = code-run code grammatical in
    let all = texts-run nothing (code_lines code) (code-fits code grammatical) ∙ made.made in
    let front = texts-front nothing _ texts behind.0 (ap (run_texts nothing) (sym behind.1) ∙ all) in
    (front.0, front.1)
