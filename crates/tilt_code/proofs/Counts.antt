-- References, line by line and part by part.
use Rattle.std.proofs.Common.{◌≡◌, ℕ, suc, ◌+◌, ◌-◌, List, [], ◌∷◌, ◌++◌, length, map, IsTrue, refl, sym, ap, ◌∙◌, subst, arith}
use Rattle.std.specs.List.{flat_map, AllByRecursion}
use Rattle.tilt_code.specs.Code.{Block, LoopParts, CodeParts}
use Rattle.tilt_code.specs.Fault.{Counted, none_counted, count_line, count_lines, AreGood}
use Rattle.tilt_code.specs.Grammar.{IsBlock, IsLoop, stands_in_map, IsInstr}
use Rattle.tilt_code.specs.Listing.{block_lines, map_lines, loop_lines, code_lines}
use Rattle.tilt_code.specs.References.{refers_below, RefersBack, ReadsBefore, HasGoodReferences}
use Rattle.tilt_code.specs.declared.instr.Instr.{Instr}
use Rattle.tilt_code.specs.declared.instr.Instr.TheVariants as instr
use Rattle.tilt_code.specs.declared.line.Line.{Line}
use Rattle.tilt_code.specs.declared.line.Line.TheVariants as line

pub good-append : (c : Counted) (xs ys : List Line) → AreGood c xs → AreGood (count_lines c xs) ys → AreGood c (xs ++ ys)
good-append c [] ys p q = q
good-append c (x ∷ xs) ys p q = (p.0, good-append (count_line c x) xs ys p.1 q)

pub good-parts : (c : Counted) (xs ys : List Line) → AreGood c (xs ++ ys) → AreGood c xs × AreGood (count_lines c xs) ys
good-parts c [] ys p = (tt, p)
good-parts c (x ∷ xs) ys p = let rest = good-parts (count_line c x) xs ys p.1 in ((p.0, rest.0), rest.1)

pub count-append : (c : Counted) (xs ys : List Line) → count_lines c (xs ++ ys) ≡ count_lines (count_lines c xs) ys
count-append c [] ys = refl
count-append c (x ∷ xs) ys = count-append (count_line c x) xs ys

-- a block counts nothing
pub block-count : (c : Counted) (register : ℕ) (xs : Block) → count_lines c (block_lines register xs) ≡ c
block-count c register [] = refl
block-count c register (x ∷ xs) = block-count c (suc register) xs

-- which buffers are before the open loop
abbrev pub before : Counted → ℕ
before c = c.inputs + (c.loops - 1)

pub block-good : (c : Counted) (register : ℕ) (xs : Block) → RefersBack (before c) c.maps register xs → AreGood c (block_lines register xs)
block-good c register [] h = tt
block-good c register (x ∷ xs) h = (h.0, block-good c (suc register) xs h.1)

pub good-block : (c : Counted) (register : ℕ) (xs : Block) → AreGood c (block_lines register xs) → RefersBack (before c) c.maps register xs
good-block c register [] h = tt
good-block c register (x ∷ xs) h = (h.0, good-block c (suc register) xs h.1)

-- in a map it is the registers alone that matter
pub map_refers : (b m d n register : ℕ) (i : Instr) → IsTrue (stands_in_map i) → refers_below b m register i ≡ refers_below d n register i
map_refers b m d n register (instr.Const z) h = refl
map_refers b m d n register instr.Null h = refl
map_refers b m d n register instr.Argument h = refl
map_refers b m d n register (instr.Port k o) h = cc h
map_refers b m d n register (instr.Win r k f t j) h = cc h
map_refers b m d n register (instr.One op a) h = refl
map_refers b m d n register (instr.Two op a k) h = refl
map_refers b m d n register (instr.If k a e) h = refl

pub map_refers_back : (b m d n register : ℕ) (xs : Block) → AllByRecursion (λ i. IsTrue (stands_in_map i) × IsInstr i) xs → RefersBack b m register xs → RefersBack d n register xs
map_refers_back b m d n register [] all h = tt
map_refers_back b m d n register (x ∷ xs) all h =
    (sym (map_refers b m d n register x all.0.0) ∙ h.0, map_refers_back b m d n (suc register) xs all.1 h.1)

-- the counts after maps
abbrev with_maps : Counted → ℕ → Counted
with_maps c n = record c { maps = n }

map-count : (c : Counted) (m : Block) → count_lines c (map_lines m) ≡ with_maps c (suc c.maps)
map-count c m =
    count-append (with_maps c (suc c.maps)) (block_lines 0 m) (line.End ∷ []) ∙ ap (λ (d : Counted). count_lines d (line.End ∷ [])) (block-count (with_maps c (suc c.maps)) 0 m)

maps-count : (c : Counted) (n : ℕ) (maps : List Block) → n ≡ c.maps + length maps → count_lines c (flat_map map_lines maps) ≡ with_maps c n
maps-count c n [] e = let same : c.maps ≡ n = omega arith in ap (with_maps c) same
maps-count c n (m ∷ maps) e =
    count-append c (map_lines m) (flat_map map_lines maps) ∙ ap (λ (d : Counted). count_lines d (flat_map map_lines maps)) (map-count c m) ∙ maps-count (with_maps c (suc c.maps)) n maps (omega arith)

-- maps are good, whatever is counted before them
pub maps-good : (c : Counted) (b n : ℕ) (maps : List Block) → AllByRecursion (IsBlock stands_in_map) maps → AllByRecursion (RefersBack b n 0) maps → AreGood c (flat_map map_lines maps)
maps-good c b n [] is h = tt
maps-good c b n (m ∷ maps) is h =
    let inside = with_maps c (suc c.maps) in
    let block = block-good inside 0 m (map_refers_back b n (before inside) (suc c.maps) 0 m is.0.instrs h.0) in
    good-append c (map_lines m) (flat_map map_lines maps) (refl, good-append inside (block_lines 0 m) (line.End ∷ []) block (refl, tt))
    (subst (λ (d : Counted). AreGood d (flat_map map_lines maps)) (sym (map-count c m)) (maps-good inside b n maps is.1 h.1))

pub good-maps : (c : Counted) (b n : ℕ) (maps : List Block) → AllByRecursion (IsBlock stands_in_map) maps → AreGood c (flat_map map_lines maps) → AllByRecursion (RefersBack b n 0) maps
good-maps c b n [] is h = tt
good-maps c b n (m ∷ maps) is h =
    let inside = with_maps c (suc c.maps) in
    let parts = good-parts c (map_lines m) (flat_map map_lines maps) h in
    let block = (good-parts inside (block_lines 0 m) (line.End ∷ []) parts.0.1).0 in (
      map_refers_back (before inside) (suc c.maps) b n 0 m is.0.instrs (good-block inside 0 m block),
      good-maps inside b n maps is.1 (subst (λ (d : Counted). AreGood d (flat_map map_lines maps)) (map-count c m) parts.1),
    )

-- loops

-- the counts after a loop's first line
abbrev headed : Counted → Counted
headed c = record c { loops = suc c.loops; maps = 0 }

body-count : (c : Counted) (l : LoopParts) → count_lines (headed c) (flat_map map_lines l.maps) ≡ with_maps (headed c) (length l.maps)
body-count c l = maps-count (headed c) (length l.maps) l.maps (omega arith)

loop-count : (c : Counted) (l : LoopParts) → count_lines c (loop_lines l) ≡ with_maps (headed c) (length l.maps)
loop-count c l =
    count-append (headed c) (flat_map map_lines l.maps ++ block_lines 0 l.body) (line.End ∷ [])
    ∙ ap (λ (d : Counted). count_lines d (line.End ∷ []))
    (count-append (headed c) (flat_map map_lines l.maps) (block_lines 0 l.body)
    ∙ ap (λ (d : Counted). count_lines d (block_lines 0 l.body)) (body-count c l) ∙ block-count (with_maps (headed c) (length l.maps)) 0 l.body)

loop-good : (c : Counted) (b : ℕ) (l : LoopParts) → b ≡ c.inputs + c.loops → IsLoop l → AllByRecursion (RefersBack b (length l.maps) 0) l.maps
    → RefersBack b (length l.maps) 0 l.body → AreGood c (loop_lines l)
loop-good c b l e is maps body =
    let inside = with_maps (headed c) (length l.maps) in
    let same : b ≡ before inside = omega arith in
    let block = block-good inside 0 l.body (subst (λ (n : ℕ). RefersBack n (length l.maps) 0 l.body) same body) in (
      refl,
      good-append (headed c) (flat_map map_lines l.maps ++ block_lines 0 l.body) (line.End ∷ [])
          (good-append (headed c) (flat_map map_lines l.maps) (block_lines 0 l.body) (maps-good (headed c) b (length l.maps) l.maps is.maps maps)
          (subst (λ (d : Counted). AreGood d (block_lines 0 l.body)) (sym (body-count c l)) block)) (refl, tt),
    )

good-loop : (c : Counted) (b : ℕ) (l : LoopParts) → b ≡ c.inputs + c.loops → IsLoop l → AreGood c (loop_lines l)
    → AllByRecursion (RefersBack b (length l.maps) 0) l.maps × RefersBack b (length l.maps) 0 l.body
good-loop c b l e is h =
    let inside = with_maps (headed c) (length l.maps) in
    let same : before inside ≡ b = omega arith in
    let front = (good-parts (headed c) (flat_map map_lines l.maps ++ block_lines 0 l.body) (line.End ∷ []) h.1).0 in
    let parts = good-parts (headed c) (flat_map map_lines l.maps) (block_lines 0 l.body) front in (
      good-maps (headed c) b (length l.maps) l.maps is.maps parts.0,
      subst (λ (n : ℕ). RefersBack n (length l.maps) 0 l.body) same (good-block inside 0 l.body (subst (λ (d : Counted). AreGood d (block_lines 0 l.body)) (body-count c l) parts.1)),
    )

loops-good : (c : Counted) (b : ℕ) (loops : List LoopParts) → b ≡ c.inputs + c.loops → AllByRecursion IsLoop loops → ReadsBefore b loops → AreGood c (flat_map loop_lines loops)
loops-good c b [] e is h = tt
loops-good c b (l ∷ loops) e is h =
    good-append c (loop_lines l) (flat_map loop_lines loops) (loop-good c b l e is.0 h.0 h.1)
    (subst (λ (d : Counted). AreGood d (flat_map loop_lines loops)) (sym (loop-count c l)) (loops-good (with_maps (headed c) (length l.maps)) (suc b) loops (omega arith) is.1 h.2))

good-loops : (c : Counted) (b : ℕ) (loops : List LoopParts) → b ≡ c.inputs + c.loops → AllByRecursion IsLoop loops → AreGood c (flat_map loop_lines loops) → ReadsBefore b loops
good-loops c b [] e is h = tt
good-loops c b (l ∷ loops) e is h =
    let parts = good-parts c (loop_lines l) (flat_map loop_lines loops) h in
    let here = good-loop c b l e is.0 parts.0 in
    (here.0, here.1, good-loops (with_maps (headed c) (length l.maps)) (suc b) loops (omega arith) is.1 (subst (λ (d : Counted). AreGood d (flat_map loop_lines loops)) (loop-count c l) parts.1))

-- codes

inputs-count : (c : Counted) (n : ℕ) (names : List (List ℕ)) → n ≡ c.inputs + length names → count_lines c (map line.Input names) ≡ record c { inputs = n }
inputs-count c n [] e = let same : c.inputs ≡ n = omega arith in ap (λ (k : ℕ). record c { inputs = k }) same
inputs-count c n (name ∷ names) e = inputs-count (record c { inputs = suc c.inputs }) n names (omega arith)

inputs-good : (c : Counted) (names : List (List ℕ)) → AreGood c (map line.Input names)
inputs-good c [] = tt
inputs-good c (name ∷ names) = (refl, inputs-good (record c { inputs = suc c.inputs }) names)

-- references that are good part by part are good line by line
pub code-good : (code : CodeParts) → AllByRecursion IsLoop code.loops → HasGoodReferences code → AreGood none_counted (code_lines code)
code-good code is h =
    let named : Counted = record { inputs = length code.inputs; loops = 0; maps = 0 } in (
      refl,
      good-append none_counted (map line.Input code.inputs) (flat_map loop_lines code.loops) (inputs-good none_counted code.inputs)
          (subst (λ (d : Counted). AreGood d (flat_map loop_lines code.loops)) (sym (inputs-count none_counted (length code.inputs) code.inputs (omega arith)))
          (loops-good named (length code.inputs) code.loops (omega arith) is h)),
    )

-- and the other way
pub good-code : (code : CodeParts) → AllByRecursion IsLoop code.loops → AreGood none_counted (code_lines code) → HasGoodReferences code
good-code code is h =
    let named : Counted = record { inputs = length code.inputs; loops = 0; maps = 0 } in
    let parts = good-parts none_counted (map line.Input code.inputs) (flat_map loop_lines code.loops) h.1 in
    good-loops named (length code.inputs) code.loops (omega arith) is
    (subst (λ (d : Counted). AreGood d (flat_map loop_lines code.loops)) (inputs-count none_counted (length code.inputs) code.inputs (omega arith)) parts.1)
