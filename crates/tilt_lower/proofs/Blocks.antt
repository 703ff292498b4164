-- What the block of an expression gives, register by register: its last register is the expression's cell, and its leaves have the expression's marks.
use Rattle.std.proofs.Common.{◌≡◌, ℕ, ◌+◌, ◌<◌, ◌≤◌, ℤ, pos, ◌+ℤ◌, Bool, List, [], ◌∷◌, ◌++◌, length, map, get_or, Option, Some, None, refl, sym, ap, ◌∙◌, arith, subst, append_assoc, length-append}
use Rattle.std.specs.Prelude.{◌||◌}
use Rattle.std.proofs.Math.Bool.{or-false, or_assoc}
use Rattle.std.proofs.Math.Seq.{get_or-append_seam}
use Rattle.std.proofs.Math.ListN.{get_or-append}
use Rattle.std.proofs.lemmas.List.{map-id, get_or-append-add}
use Rattle.tilt_base.specs.Reduce.{numbers, reduce}
use Rattle.tilt_base.specs.Scalar.{apply1, apply2, choose}
use Rattle.tilt_code.proofs.Runs.{last_or-pushed}
use Rattle.tilt_code.specs.Body as code
use Rattle.tilt_code.specs.Body.{last_or, instr_cell, with_registers, block_cell, map_leaf, mapped, leaf_of, leaf_marked}
use Rattle.tilt_code.specs.Code.{Block, LoopParts}
use Rattle.tilt_code.specs.declared.instr.Instr.{Instr}
use Rattle.tilt_code.specs.declared.instr.Instr.TheVariants as instr
use Rattle.tilt_fuse.specs.FusedTree.{FusedTree}
use Rattle.tilt_fuse.specs.FusedTree as tree
use Rattle.tilt_fuse.specs.Streams.{map_cell, fused_stream}
use Rattle.tilt_fuse.specs.Trees.{EachAsks, IsMap}
use Rattle.tilt_lower.specs.Lowering.{registers, result_at, maps, maps_of, block_of}
use Rattle.tilt_stream.specs.Pointwise.{nothing}
use Rattle.tilt_stream.specs.Stream.{Stream, SameStream}
use Rattle.tilt_stream.specs.Window.{met}
use Rattle.tilt_core.specs.Meaning.{source_of}
use Rattle.tilt_core.specs.Needs.{Need}
use mathlib.Core.Path.{fun_ext}

with_registers-append : (leaf : Instr → Option ℤ) (cells : List (Option ℤ)) (first second : Block)
    → with_registers leaf cells (first ++ second) ≡ with_registers leaf (with_registers leaf cells first) second
with_registers-append leaf cells [] second = refl
with_registers-append leaf cells (i ∷ first) second = with_registers-append leaf (cells ++ instr_cell leaf cells i ∷ []) first second

leaf_marked-append : (bs : List Stream) (maps : List Block) (tick : ℤ) (first second : Block)
    → leaf_marked bs maps tick (first ++ second) ≡ (leaf_marked bs maps tick first || leaf_marked bs maps tick second)
leaf_marked-append bs maps tick [] second = refl
leaf_marked-append bs maps tick (i ∷ first) second =
    ap (λ (m : Bool). (leaf_of bs maps i).mark tick || m) (leaf_marked-append bs maps tick first second)
    ∙ sym (or_assoc ((leaf_of bs maps i).mark tick) (leaf_marked bs maps tick first) (leaf_marked bs maps tick second))

-- a tree takes one register at least
pub registers-some : (t : FusedTree) → 1 ≤ registers t
registers-some (tree.Const number) = omega arith
registers-some (tree.Port source offset) = omega arith
registers-some (tree.Win reducer source from to) = omega arith
registers-some (tree.WinBy map reducer source from to) = omega arith
registers-some tree.Argument = omega arith
registers-some (tree.One op a) = omega arith
registers-some (tree.Two op a b) = omega arith
registers-some (tree.If c a b) = omega arith

-- a block has as many instructions as its tree takes registers
pub length-block : (buffer : ℕ → ℕ) (register number : ℕ) (t : FusedTree) → length (block_of buffer register number t) ≡ registers t
length-block buffer register number (tree.Const value) = refl
length-block buffer register number (tree.Port source offset) = refl
length-block buffer register number (tree.Win reducer source from to) = refl
length-block buffer register number (tree.WinBy map reducer source from to) = refl
length-block buffer register number tree.Argument = refl
length-block buffer register number (tree.One op a) =
    let first = block_of buffer register number a in
    omega (arith, length-append first (instr.One op (result_at register a) ∷ []), length-block buffer register number a)
length-block buffer register number (tree.Two op a b) =
    let second = register + registers a in
    let first = block_of buffer register number a in
    let next = block_of buffer second (number + maps a) b in
    omega (
      arith,
      length-append (first ++ next) (instr.Two op (result_at register a) (result_at second b) ∷ []),
      length-append first next,
      length-block buffer register number a,
      length-block buffer second (number + maps a) b,
    )
length-block buffer register number (tree.If c a b) =
    let second = register + registers c in
    let third = second + registers a in
    let one = block_of buffer register number c in
    let two = block_of buffer second (number + maps c) a in
    let three = block_of buffer third (number + maps c + maps a) b in
    omega (
      arith,
      length-append (one ++ two ++ three) (instr.If (result_at register c) (result_at second a) (result_at third b) ∷ []),
      length-append (one ++ two) three,
      length-append one two,
      length-block buffer register number c,
      length-block buffer second (number + maps c) a,
      length-block buffer third (number + maps c + maps a) b,
    )

-- a tree has as many maps as their blocks
pub length-maps_of : (t : FusedTree) → length (maps_of t) ≡ maps t
length-maps_of (tree.Const value) = refl
length-maps_of (tree.Port source offset) = refl
length-maps_of (tree.Win reducer source from to) = refl
length-maps_of (tree.WinBy map reducer source from to) = refl
length-maps_of tree.Argument = refl
length-maps_of (tree.One op a) = length-maps_of a
length-maps_of (tree.Two op a b) = omega (arith, length-append (maps_of a) (maps_of b), length-maps_of a, length-maps_of b)
length-maps_of (tree.If c a b) =
    omega (arith, length-append (maps_of c ++ maps_of a) (maps_of b), length-append (maps_of c) (maps_of a), length-maps_of c, length-maps_of a, length-maps_of b)

module _ (leaf : Instr → Option ℤ) (buffer : ℕ → ℕ) where
  -- what a tree gives by the cells of its leaves, where its first map has a number
  abbrev pub tree_cell : ℕ → FusedTree → Option ℤ
  tree_cell number (tree.Const value) = Some value
  tree_cell number (tree.Port source offset) = leaf (instr.Port (buffer source) offset)
  tree_cell number (tree.Win reducer source from to) = leaf (instr.Win reducer (buffer source) from to None)
  tree_cell number (tree.WinBy map reducer source from to) = leaf (instr.Win reducer (buffer source) from to (Some number))
  tree_cell number tree.Argument = leaf instr.Argument
  tree_cell number (tree.One op a) = apply1 op (tree_cell number a)
  tree_cell number (tree.Two op a b) = apply2 op (tree_cell number a) (tree_cell (number + maps a) b)
  tree_cell number (tree.If c a b) = choose (tree_cell number c) (tree_cell (number + maps c) a) (tree_cell (number + maps c + maps a) b)

  -- the registers of a tree except its last, and all of them
  abbrev front : ℕ → FusedTree → List (Option ℤ)
  front number (tree.One op a) = front number a ++ tree_cell number a ∷ []
  front number (tree.Two op a b) = (front number a ++ tree_cell number a ∷ []) ++ (front (number + maps a) b ++ tree_cell (number + maps a) b ∷ [])
  front number (tree.If c a b) =
      (front number c ++ tree_cell number c ∷ [])
      ++ ((front (number + maps c) a ++ tree_cell (number + maps c) a ∷ []) ++ (front (number + maps c + maps a) b ++ tree_cell (number + maps c + maps a) b ∷ []))
  front number other = []

  abbrev values : ℕ → FusedTree → List (Option ℤ)
  values number t = front number t ++ tree_cell number t ∷ []

  length-front : (number : ℕ) (t : FusedTree) → length (front number t) + 1 ≡ registers t
  length-front number (tree.Const value) = refl
  length-front number (tree.Port source offset) = refl
  length-front number (tree.Win reducer source from to) = refl
  length-front number (tree.WinBy map reducer source from to) = refl
  length-front number tree.Argument = refl
  length-front number (tree.One op a) = omega (arith, length-append (front number a) (tree_cell number a ∷ []), length-front number a)
  length-front number (tree.Two op a b) =
      let second = number + maps a in
      omega (
        arith,
        length-append (values number a) (values second b),
        length-append (front number a) (tree_cell number a ∷ []),
        length-append (front second b) (tree_cell second b ∷ []),
        length-front number a,
        length-front second b,
      )
  length-front number (tree.If c a b) =
      let second = number + maps c in
      let third = second + maps a in
      omega (
        arith,
        length-append (values number c) (values second a ++ values third b),
        length-append (values second a) (values third b),
        length-append (front number c) (tree_cell number c ∷ []),
        length-append (front second a) (tree_cell second a ∷ []),
        length-append (front third b) (tree_cell third b ∷ []),
        length-front number c,
        length-front second a,
        length-front third b,
      )

  length-values : (number : ℕ) (t : FusedTree) → length (values number t) ≡ registers t
  length-values number t = length-append (front number t) (tree_cell number t ∷ []) ∙ length-front number t

  -- the result of a tree is in its last register, whatever registers come after
  result-last : (cells : List (Option ℤ)) (register number : ℕ) (t : FusedTree) → register ≡ length cells → get_or (cells ++ values number t) (result_at register t) None ≡ tree_cell number t
  result-last cells register number t is =
      let at : result_at register t ≡ length (cells ++ front number t) = omega (arith, length-append cells (front number t), length-front number t) in
      ap (λ (xs : List (Option ℤ)). get_or xs (result_at register t) None) (sym (append_assoc cells (front number t) (tree_cell number t ∷ [])))
      ∙ ap (λ (i : ℕ). get_or ((cells ++ front number t) ++ tree_cell number t ∷ []) i None) at
      ∙ get_or-append_seam (cells ++ front number t) (tree_cell number t) [] None

  result-before : (cells more : List (Option ℤ)) (register number : ℕ) (t : FusedTree) → register ≡ length cells
      → get_or ((cells ++ values number t) ++ more) (result_at register t) None ≡ tree_cell number t
  result-before cells more register number t is =
      let some = registers-some t in
      get_or-append (cells ++ values number t) more None (result_at register t) (omega (arith, length-append cells (values number t), length-values number t))
      ∙ result-last cells register number t is

  result-far : (cells more most : List (Option ℤ)) (register number : ℕ) (t : FusedTree) → register ≡ length cells
      → get_or (((cells ++ values number t) ++ more) ++ most) (result_at register t) None ≡ tree_cell number t
  result-far cells more most register number t is =
      ap (λ (xs : List (Option ℤ)). get_or xs (result_at register t) None) (append_assoc (cells ++ values number t) more most)
      ∙ result-before cells (more ++ most) register number t is

  -- the registers are made one after the other
  runs : (t : FusedTree) (cells : List (Option ℤ)) (register number : ℕ) → register ≡ length cells → with_registers leaf cells (block_of buffer register number t) ≡ cells ++ values number t
  runs (tree.Const value) cells register number is = refl
  runs (tree.Port source offset) cells register number is = refl
  runs (tree.Win reducer source from to) cells register number is = refl
  runs (tree.WinBy map reducer source from to) cells register number is = refl
  runs tree.Argument cells register number is = refl
  runs (tree.One op a) cells register number is =
      let first = block_of buffer register number a in
      with_registers-append leaf cells first (instr.One op (result_at register a) ∷ [])
      ∙ ap (λ (made : List (Option ℤ)). made ++ apply1 op (get_or made (result_at register a) None) ∷ []) (runs a cells register number is)
      ∙ ap (λ (x : Option ℤ). (cells ++ values number a) ++ apply1 op x ∷ []) (result-last cells register number a is)
      ∙ append_assoc cells (values number a) (tree_cell number (tree.One op a) ∷ [])
  runs (tree.Two op a b) cells register number is =
      let second = register + registers a in
      let later = number + maps a in
      let first = block_of buffer register number a in
      let next = block_of buffer second later b in
      let mid = cells ++ values number a in
      let mid_is : second ≡ length mid = omega (arith, length-append cells (values number a), length-values number a) in
      let last = instr.Two op (result_at register a) (result_at second b) ∷ [] in
      with_registers-append leaf cells (first ++ next) last
      ∙ ap (λ (made : List (Option ℤ)). with_registers leaf made last)
      (with_registers-append leaf cells first next
      ∙ ap (λ (made : List (Option ℤ)). with_registers leaf made next) (runs a cells register number is)
      ∙ runs b mid second later mid_is)
      ∙ (λ i. (mid ++ values later b) ++ apply2 op (result-before cells (values later b) register number a is i) (result-last mid second later b mid_is i) ∷ [])
      ∙ ap (λ (made : List (Option ℤ)). made ++ tree_cell number (tree.Two op a b) ∷ []) (append_assoc cells (values number a) (values later b))
      ∙ append_assoc cells (values number a ++ values later b) (tree_cell number (tree.Two op a b) ∷ [])
  runs (tree.If c a b) cells register number is =
      let second = register + registers c in
      let third = second + registers a in
      let later = number + maps c in
      let last_map = later + maps a in
      let one = block_of buffer register number c in
      let two = block_of buffer second later a in
      let three = block_of buffer third last_map b in
      let mid = cells ++ values number c in
      let far = mid ++ values later a in
      let mid_is : second ≡ length mid = omega (arith, length-append cells (values number c), length-values number c) in
      let far_is : third ≡ length far = omega (arith, length-append mid (values later a), length-values later a, mid_is) in
      let last = instr.If (result_at register c) (result_at second a) (result_at third b) ∷ [] in
      with_registers-append leaf cells (one ++ two ++ three) last
      ∙ ap (λ (made : List (Option ℤ)). with_registers leaf made last)
      (with_registers-append leaf cells (one ++ two) three
      ∙ ap (λ (made : List (Option ℤ)). with_registers leaf made three)
      (with_registers-append leaf cells one two
      ∙ ap (λ (made : List (Option ℤ)). with_registers leaf made two) (runs c cells register number is)
      ∙ runs a mid second later mid_is)
      ∙ runs b far third last_map far_is)
      ∙ (λ i. (far ++ values last_map b)
      ++ choose (result-far cells (values later a) (values last_map b) register number c is i) (result-before mid (values last_map b) second later a mid_is i)
      (result-last far third last_map b far_is i) ∷ [])
      ∙ ap (λ (made : List (Option ℤ)). made ++ tree_cell number (tree.If c a b) ∷ [])
      (append_assoc mid (values later a) (values last_map b) ∙ append_assoc cells (values number c) (values later a ++ values last_map b))
      ∙ append_assoc cells (values number c ++ (values later a ++ values last_map b)) (tree_cell number (tree.If c a b) ∷ [])

  -- the result of the block of a tree is what the tree gives
  pub block_cell-is : (t : FusedTree) → block_cell leaf (block_of buffer 0 0 t) ≡ tree_cell 0 t
  block_cell-is t = ap (last_or None) (runs t [] 0 0 refl) ∙ last_or-pushed None (front 0 t) (tree_cell 0 t)

-- a map gives on a cell what its block gives
map_tree-cell : (buffer : ℕ → ℕ) (cell : Option ℤ) (number : ℕ) (t : FusedTree) → tree_cell (map_leaf cell) buffer number t ≡ map_cell t cell
map_tree-cell buffer cell number (tree.Const value) = refl
map_tree-cell buffer cell number (tree.Port source offset) = refl
map_tree-cell buffer cell number (tree.Win reducer source from to) = refl
map_tree-cell buffer cell number (tree.WinBy map reducer source from to) = refl
map_tree-cell buffer cell number tree.Argument = refl
map_tree-cell buffer cell number (tree.One op a) = ap (apply1 op) (map_tree-cell buffer cell number a)
map_tree-cell buffer cell number (tree.Two op a b) = λ i. apply2 op (map_tree-cell buffer cell number a i) (map_tree-cell buffer cell (number + maps a) b i)
map_tree-cell buffer cell number (tree.If c a b) =
    λ i. choose (map_tree-cell buffer cell number c i) (map_tree-cell buffer cell (number + maps c) a i) (map_tree-cell buffer cell (number + maps c + maps a) b i)

map_block-cell : (map : FusedTree) (cell : Option ℤ) → block_cell (map_leaf cell) (block_of (λ source. source) 0 0 map) ≡ map_cell map cell
map_block-cell map cell = block_cell-is (map_leaf cell) (λ source. source) map ∙ map_tree-cell (λ source. source) cell 0 map

-- a map reads no buffer, whatever the numbers of buffers are
pub map_block-any : (f g : ℕ → ℕ) (map : FusedTree) → IsMap map → (register number : ℕ) → block_of f register number map ≡ block_of g register number map
map_block-any f g (tree.Const value) is register number = refl
map_block-any f g (tree.Port source offset) is register number = absurd is
map_block-any f g (tree.Win reducer source from to) is register number = absurd is
map_block-any f g (tree.WinBy map reducer source from to) is register number = absurd is
map_block-any f g tree.Argument is register number = refl
map_block-any f g (tree.One op a) is register number =
    let one = map_block-any f g a is register number in λ i. one i ++ instr.One op (result_at register a) ∷ []
map_block-any f g (tree.Two op a b) is register number =
    let second = register + registers a in
    let one = map_block-any f g a is.0 register number in
    let two = map_block-any f g b is.1 second (number + maps a) in
    λ i. one i ++ two i ++ instr.Two op (result_at register a) (result_at second b) ∷ []
map_block-any f g (tree.If c a b) is register number =
    let second = register + registers c in
    let third = second + registers a in
    let one = map_block-any f g c is.0 register number in
    let two = map_block-any f g a is.1 second (number + maps c) in
    let three = map_block-any f g b is.2 third (number + maps c + maps a) in
    λ i. one i ++ two i ++ three i ++ instr.If (result_at register c) (result_at second a) (result_at third b) ∷ []

-- the maps of a tree stand among those of a loop from a number on
abbrev MapsStand : List Block → ℕ → FusedTree → Type 0
MapsStand loop_maps number t = (i : ℕ) → i < maps t → get_or loop_maps (number + i) [] ≡ get_or (maps_of t) i []

stand-first : (loop_maps : List Block) (number : ℕ) (one two : List Block) (some all : ℕ) → some ≡ length one → some ≤ all
    → ((i : ℕ) → i < all → get_or loop_maps (number + i) [] ≡ get_or (one ++ two) i []) → (i : ℕ) → i < some → get_or loop_maps (number + i) [] ≡ get_or one i []
stand-first loop_maps number one two some all some_is less h i low = h i (omega arith) ∙ get_or-append one two [] i (omega (arith, some_is))

stand-second : (loop_maps : List Block) (number : ℕ) (one two : List Block) (some more all : ℕ) → some ≡ length one → some + more ≤ all
    → ((i : ℕ) → i < all → get_or loop_maps (number + i) [] ≡ get_or (one ++ two) i []) → (i : ℕ) → i < more → get_or loop_maps (number + some + i) [] ≡ get_or two i []
stand-second loop_maps number one two some more all some_is less h i low =
    let at : number + some + i ≡ number + (length one + i) = omega (arith, some_is) in
    ap (λ (j : ℕ). get_or loop_maps j []) at ∙ h (length one + i) (omega (arith, some_is)) ∙ get_or-append-add one two i []

module _ (bs : List Stream) (loop_maps : List Block) (buffer : ℕ → ℕ) (ys : List Stream) (n : Need) where
  -- a source is what its buffer gives
  abbrev pub IsBuffered : ℕ → Need → Type 0
  IsBuffered source asked = source_of ys source ≡ get_or bs (buffer source) nothing

  module _ (tick : ℤ) where
    abbrev leaf : Instr → Option ℤ
    leaf i = (leaf_of bs loop_maps i).cell tick

    -- the leaves of a tree give its cells
    cells : (t : FusedTree) (number : ℕ) → EachAsks IsBuffered n t → MapsStand loop_maps number t → tree_cell leaf buffer number t ≡ (fused_stream ys t).cell tick
    cells (tree.Const value) number asks stand = refl
    cells (tree.Port source offset) number asks stand = ap (λ (x : Stream). x.cell (tick +ℤ offset)) (sym asks)
    cells (tree.Win reducer source from to) number asks stand =
        let x = get_or bs (buffer source) nothing in
        ap (λ (list : List (Option ℤ)). reduce reducer (numbers list)) (map-id (met x (tick +ℤ from) (tick +ℤ to)))
        ∙ ap (λ (y : Stream). reduce reducer (numbers (met y (tick +ℤ from) (tick +ℤ to)))) (sym asks.0)
    cells (tree.WinBy map_tree reducer source from to) number asks stand =
        let at : number + 0 ≡ number = omega arith in
        let block : get_or loop_maps number [] ≡ block_of (λ s. s) 0 0 map_tree = ap (λ (i : ℕ). get_or loop_maps i []) (sym at) ∙ stand 0 (omega arith) in
        let same : mapped loop_maps (Some number) ≡ map_cell map_tree =
        fun_ext (λ cell. ap (block_cell (map_leaf cell)) block ∙ map_block-cell map_tree cell) in
        λ i. reduce reducer (numbers (map (same i) (met (sym asks.0 i) (tick +ℤ from) (tick +ℤ to))))
    cells tree.Argument number asks stand = refl
    cells (tree.One op a) number asks stand = ap (apply1 op) (cells a number asks stand)
    cells (tree.Two op a b) number asks stand =
        let many = sym (length-maps_of a) in
        λ i. apply2 op (cells a number asks.0 (stand-first loop_maps number (maps_of a) (maps_of b) (maps a) (maps a + maps b) many (omega arith) stand) i)
        (cells b (number + maps a) asks.1 (stand-second loop_maps number (maps_of a) (maps_of b) (maps a) (maps b) (maps a + maps b) many (omega arith) stand) i)
    cells (tree.If c a b) number asks stand =
        let many_c = sym (length-maps_of c) in
        let many_a = sym (length-maps_of a) in
        let both : maps c + maps a ≡ length (maps_of c ++ maps_of a) = omega (arith, length-append (maps_of c) (maps_of a), many_c, many_a) in
        let fronts = stand-first loop_maps number (maps_of c ++ maps_of a) (maps_of b) (maps c + maps a) (maps c + maps a + maps b) both (omega arith) stand in
        let at : number + (maps c + maps a) ≡ number + maps c + maps a = omega arith in
        let last = subst (λ (k : ℕ). (i : ℕ) → i < maps b → get_or loop_maps (k + i) [] ≡ get_or (maps_of b) i []) at
        (stand-second loop_maps number (maps_of c ++ maps_of a) (maps_of b) (maps c + maps a) (maps b) (maps c + maps a + maps b) both (omega arith) stand) in
        λ i. choose (cells c number asks.0 (stand-first loop_maps number (maps_of c) (maps_of a) (maps c) (maps c + maps a) many_c (omega arith) fronts) i)
        (cells a (number + maps c) asks.1 (stand-second loop_maps number (maps_of c) (maps_of a) (maps c) (maps a) (maps c + maps a) many_c (omega arith) fronts) i)
        (cells b (number + maps c + maps a) asks.2 last i)

    -- its leaves have its marks
    marks : (t : FusedTree) (register number : ℕ) → EachAsks IsBuffered n t → leaf_marked bs loop_maps tick (block_of buffer register number t) ≡ (fused_stream ys t).mark tick
    marks (tree.Const value) register number asks = refl
    marks (tree.Port source offset) register number asks =
        or-false ((get_or bs (buffer source) nothing).mark (tick +ℤ offset)) ∙ ap (λ (x : Stream). x.mark (tick +ℤ offset)) (sym asks)
    marks (tree.Win reducer source from to) register number asks =
        let x = get_or bs (buffer source) nothing in
        or-false (x.mark (tick +ℤ to) || x.mark (tick +ℤ from +ℤ pos 1)) ∙ ap (λ (y : Stream). y.mark (tick +ℤ to) || y.mark (tick +ℤ from +ℤ pos 1)) (sym asks.0)
    marks (tree.WinBy map_tree reducer source from to) register number asks =
        let x = get_or bs (buffer source) nothing in
        or-false (x.mark (tick +ℤ to) || x.mark (tick +ℤ from +ℤ pos 1)) ∙ ap (λ (y : Stream). y.mark (tick +ℤ to) || y.mark (tick +ℤ from +ℤ pos 1)) (sym asks.0)
    marks tree.Argument register number asks = absurd asks
    marks (tree.One op a) register number asks =
        leaf_marked-append bs loop_maps tick (block_of buffer register number a) (instr.One op (result_at register a) ∷ [])
        ∙ or-false (leaf_marked bs loop_maps tick (block_of buffer register number a))
        ∙ marks a register number asks
    marks (tree.Two op a b) register number asks =
        let second = register + registers a in
        let first = block_of buffer register number a in
        let next = block_of buffer second (number + maps a) b in
        let last = instr.Two op (result_at register a) (result_at second b) ∷ [] in
        leaf_marked-append bs loop_maps tick (first ++ next) last
        ∙ or-false (leaf_marked bs loop_maps tick (first ++ next))
        ∙ leaf_marked-append bs loop_maps tick first next
        ∙ (λ i. marks a register number asks.0 i || marks b second (number + maps a) asks.1 i)
    marks (tree.If c a b) register number asks =
        let second = register + registers c in
        let third = second + registers a in
        let one = block_of buffer register number c in
        let two = block_of buffer second (number + maps c) a in
        let three = block_of buffer third (number + maps c + maps a) b in
        let last = instr.If (result_at register c) (result_at second a) (result_at third b) ∷ [] in
        leaf_marked-append bs loop_maps tick (one ++ two ++ three) last
        ∙ or-false (leaf_marked bs loop_maps tick (one ++ two ++ three))
        ∙ leaf_marked-append bs loop_maps tick (one ++ two) three
        ∙ ap (λ (m : Bool). m || leaf_marked bs loop_maps tick three) (leaf_marked-append bs loop_maps tick one two)
        ∙ (λ i. marks c register number asks.0 i || marks a second (number + maps c) asks.1 i || marks b third (number + maps c + maps a) asks.2 i)

-- so the body of a loop is the tree over the sources for which the buffers stand
pub body-same : (bs : List Stream) (l : LoopParts) (buffer : ℕ → ℕ) (ys : List Stream) (n : Need) (t : FusedTree) → EachAsks (IsBuffered bs l.maps buffer ys n) n t
    → l.body ≡ block_of buffer 0 0 t → l.maps ≡ maps_of t → SameStream (code.body_of bs l) (fused_stream ys t)
body-same bs l buffer ys n t asks body_is maps_are = record {
  cells = λ tick.
      ap (block_cell (λ i. (leaf_of bs l.maps i).cell tick)) body_is
      ∙ block_cell-is (λ i. (leaf_of bs l.maps i).cell tick) buffer t
      ∙ cells bs l.maps buffer ys n tick t 0 asks
      (λ i low. let at : 0 + i ≡ i = omega arith in ap (λ (j : ℕ). get_or l.maps j []) at ∙ ap (λ (blocks : List Block). get_or blocks i []) maps_are);
  marks = λ tick. ap (leaf_marked bs l.maps tick) body_is ∙ marks bs l.maps buffer ys n tick t 0 0 asks;
}
