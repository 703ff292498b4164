-- The text of lists of lines, one part after the other.
use Rattle.std.proofs.Common.{◌≡◌, ℕ, suc, ◌+◌, ◌<◌, List, [], ◌∷◌, ◌++◌, length, get_or, map, take, ℤ, sym, ap, ◌∙◌, append_assoc, arith, length-take}
use Rattle.std.specs.Prelude.{codes}
use Rattle.std.specs.Fmt.{signed_decimal}
use Rattle.std.specs.List.{flat_map}
use Rattle.tilt_base.specs.Grid.{GridPoints}
use Rattle.std.proofs.lemmas.List.{map-append, take_more}
use Rattle.std.proofs.lemmas.Grind.{flat_map-append}
use Rattle.tilt_code.specs.Code.{Block, LoopParts}
use Rattle.tilt_code.specs.Line.{line_text, spaced}
use Rattle.tilt_code.specs.Listing.{block_lines, map_lines, loop_lines, ended}
use Rattle.tilt_code.specs.declared.instr.Instr.{Instr}
use Rattle.tilt_code.specs.declared.line.Line.{Line}
use Rattle.tilt_code.specs.declared.line.Line.TheVariants as line

-- the text of more lines
pub ended-append : (xs ys : List Line) → ended (map line_text (xs ++ ys)) ≡ ended (map line_text xs) ++ ended (map line_text ys)
ended-append xs ys = ap ended (map-append line_text xs ys) ∙ flat_map-append _ (map line_text xs) (map line_text ys)

-- the lines of a block and one instruction more
pub block_lines-push : (register at : ℕ) (xs : Block) (i : Instr) → at ≡ register + length xs → block_lines register (xs ++ i ∷ []) ≡ block_lines register xs ++ line.Step at i ∷ []
block_lines-push register at [] i h = let same : register ≡ at = omega arith in ap (λ (r : ℕ). line.Step r i ∷ []) same
block_lines-push register at (x ∷ xs) i h =
    ap (λ (ls : List Line). line.Step register x ∷ ls) (block_lines-push (suc register) at xs i (omega arith))

-- the text of a block up to a place, and of the instruction there
pub block_text_more : (block : Block) (k : ℕ) (d : Instr) → k < length block → ended (map line_text (block_lines 0 (take (k + 1) block)))
    ≡ ended (map line_text (block_lines 0 (take k block))) ++ ended (line_text (line.Step k (get_or block k d)) ∷ [])
block_text_more block k d below =
    let at : k ≡ 0 + length (take k block) = omega (arith, length-take k block) in
    ap (λ (b : Block). ended (map line_text (block_lines 0 b))) (take_more block k d below)
    ∙ ap (λ (ls : List Line). ended (map line_text ls)) (block_lines-push 0 k (take k block) (get_or block k d) at)
    ∙ ended-append (block_lines 0 (take k block)) (line.Step k (get_or block k d) ∷ [])

-- the text of a map
pub map_text : (block : Block) → ended (map line_text (map_lines block)) ≡ codes "map\n" ++ (ended (map line_text (block_lines 0 block)) ++ codes "end\n")
map_text block = ap (λ (t : List ℕ). codes "map\n" ++ t) (ended-append (block_lines 0 block) (line.End ∷ []))

-- the text of a loop
pub loop_text : (loop : LoopParts) → ended (map line_text (loop_lines loop)) ≡ ended (line_text (line.Head loop.lo loop.hi loop.grid) ∷ [])
    ++ (ended (map line_text (flat_map map_lines loop.maps)) ++ (ended (map line_text (block_lines 0 loop.body)) ++ codes "end\n"))
loop_text loop =
    let head = line.Head loop.lo loop.hi loop.grid in
    let maps = flat_map map_lines loop.maps in
    let body = block_lines 0 loop.body in
    ended-append (head ∷ []) (maps ++ body ++ line.End ∷ []) ∙
    ap (λ (t : List ℕ). ended (line_text head ∷ []) ++ t) (ended-append (maps ++ body) (line.End ∷ [])
    ∙ ap (λ (t : List ℕ). t ++ codes "end\n") (ended-append maps body) ∙ append_assoc (ended (map line_text maps)) (ended (map line_text body)) (codes "end\n"))

-- a block up to a place, and the instruction there, put one after the other
pub block_put : (block : Block) (k : ℕ) (d : Instr) (before progress whole : List ℕ) → k < length block → progress ≡ before
    ++ ended (map line_text (block_lines 0 (take k block))) → whole ≡ progress ++ ended (line_text (line.Step k (get_or block k d)) ∷ []) → whole ≡ before
    ++ ended (map line_text (block_lines 0 (take (k + 1) block)))
block_put block k d before progress whole below s w =
    w ∙ ap (λ (t : List ℕ). t ++ ended (line_text (line.Step k (get_or block k d)) ∷ [])) s
    ∙ append_assoc before (ended (map line_text (block_lines 0 (take k block)))) (ended (line_text (line.Step k (get_or block k d)) ∷ []))
    ∙ ap (λ (t : List ℕ). before ++ t) (sym (block_text_more block k d below))

regroup : (a b c d e : List ℕ) → (((a ++ b) ++ c) ++ d) ++ e ≡ a ++ (b ++ (c ++ (d ++ e)))
regroup a b c d e = simp append_assoc

-- the parts of a loop, put one after the other
pub loop_put : (loop : LoopParts) (before head maps body whole : List ℕ) → head ≡ before ++ ended (line_text (line.Head loop.lo loop.hi loop.grid) ∷ []) → maps
    ≡ head ++ ended (map line_text (flat_map map_lines loop.maps)) → body ≡ maps ++ ended (map line_text (block_lines 0 loop.body)) → whole ≡ body
    ++ codes "end\n" → whole ≡ before ++ ended (map line_text (loop_lines loop))
loop_put loop before head maps body whole h m b w =
    let first = ended (line_text (line.Head loop.lo loop.hi loop.grid) ∷ []) in
    let second = ended (map line_text (flat_map map_lines loop.maps)) in
    let third = ended (map line_text (block_lines 0 loop.body)) in
    w ∙ ap (λ (t : List ℕ). t ++ codes "end\n") (b ∙ ap (λ (t : List ℕ). t ++ third) (m ∙ ap (λ (t : List ℕ). t ++ second) h))
    ∙ regroup before first second third (codes "end\n") ∙ ap (λ (t : List ℕ). before ++ t) (sym (loop_text loop))

-- the parts of a loop's first line, put one after the other
pub head_put : (lo hi : ℤ) (grid : GridPoints) (before word ends blank points whole : List ℕ) → word ≡ before ++ codes "loop " → ends ≡ word
    ++ spaced (signed_decimal lo ∷ signed_decimal hi ∷ []) → blank ≡ ends ++ codes " " → points ≡ blank
    ++ spaced (signed_decimal grid.period ∷ signed_decimal grid.offset ∷ []) → whole ≡ points ++ codes "\n" → whole ≡ before ++ ended (line_text (line.Head lo hi grid) ∷ [])
head_put lo hi grid before word ends blank points whole a b c d e =
    e ∙ ap (λ (t : List ℕ). t ++ codes "\n") (d ∙ ap (λ (t : List ℕ). t ++ spaced (signed_decimal grid.period ∷ signed_decimal grid.offset ∷ []))
    (c ∙ ap (λ (t : List ℕ). t ++ codes " ") (b ∙ ap (λ (t : List ℕ). t ++ spaced (signed_decimal lo ∷ signed_decimal hi ∷ [])) a))) ∙ simp append_assoc
