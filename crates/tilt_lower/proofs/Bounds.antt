-- The instructions of a tree keep what instructions keep: their numbers lie within their bounds, and each names only what is before it.
use Rattle.std.proofs.Common.{◌≡◌, ℕ, suc, ◌+◌, ◌<◌, ◌≤◌, ◌^◌, ℤ, pos, ◌+ℤ◌, ◌≤ℤ◌, ◌<ℤ◌, Bool, true, [], ◌∷◌, ◌++◌, length, refl, arith, subst, length-append, IsTrue}
use Rattle.std.specs.Prelude.{◌&&◌, nat_lt}
use Rattle.std.specs.List.{AllByRecursion}
use Rattle.std.proofs.lemmas.Int.{ints, clamps}
use Rattle.tilt_base.proofs.Lists.{all-append}
use Rattle.tilt_code.specs.Code.{Block}
use Rattle.tilt_code.specs.Grammar.{IsInstr, IsWindow, stands_in_body, stands_in_map}
use Rattle.tilt_code.specs.References.{RefersBack}
use Rattle.tilt_code.specs.declared.instr.Instr.{Instr}
use Rattle.tilt_code.specs.declared.instr.Instr.TheVariants as instr
use Rattle.tilt_fuse.proofs.Asks.{WithinReach}
use Rattle.tilt_fuse.specs.FusedTree.{FusedTree}
use Rattle.tilt_fuse.specs.FusedTree as tree
use Rattle.tilt_fuse.specs.Plan.{nodes}
use Rattle.tilt_fuse.specs.Trees.{IsMap, HasMaps, EachAsks}
use Rattle.tilt_lower.proofs.Blocks.{registers-some, length-block}
use Rattle.tilt_lower.specs.Constants.{ConstantFits}
use Rattle.tilt_lower.specs.Lowering.{registers, maps, maps_of, block_of, result_at}
use Rattle.tilt_core.specs.Needs.{Need, reaching}

-- a tree takes no more registers than it has nodes, and no more maps
pub registers-few : (t : FusedTree) → registers t ≤ nodes t
registers-few (tree.Const number) = omega arith
registers-few (tree.Port source offset) = omega arith
registers-few (tree.Win reducer source from to) = omega arith
registers-few (tree.WinBy map reducer source from to) = omega arith
registers-few tree.Argument = omega arith
registers-few (tree.One op a) = omega (arith, registers-few a)
registers-few (tree.Two op a b) = omega (arith, registers-few a, registers-few b)
registers-few (tree.If c a b) = omega (arith, registers-few c, registers-few a, registers-few b)

pub maps-few : (t : FusedTree) → maps t ≤ nodes t
maps-few (tree.Const number) = omega arith
maps-few (tree.Port source offset) = omega arith
maps-few (tree.Win reducer source from to) = omega arith
maps-few (tree.WinBy map reducer source from to) = omega arith
maps-few tree.Argument = omega arith
maps-few (tree.One op a) = omega (arith, maps-few a)
maps-few (tree.Two op a b) = omega (arith, maps-few a, maps-few b)
maps-few (tree.If c a b) = omega (arith, maps-few c, maps-few a, maps-few b)

-- a map has no windows, and so no maps
pub map-plain : (t : FusedTree) → IsMap t → maps t ≡ 0
map-plain (tree.Const number) is = refl
map-plain (tree.Port source offset) is = refl
map-plain (tree.Win reducer source from to) is = refl
map-plain (tree.WinBy map reducer source from to) is = absurd is
map-plain tree.Argument is = refl
map-plain (tree.One op a) is = map-plain a is
map-plain (tree.Two op a b) is = omega (arith, map-plain a is.0, map-plain b is.1)
map-plain (tree.If c a b) is = omega (arith, map-plain c is.0, map-plain a is.1, map-plain b is.2)

-- the maps of a tree that asks something of its sources are maps
pub asks-maps : (P : ℕ → Need → Type 0) (n : Need) (t : FusedTree) → EachAsks P n t → HasMaps t
asks-maps P n (tree.Const number) asks = tt
asks-maps P n (tree.Port source offset) asks = tt
asks-maps P n (tree.Win reducer source from to) asks = tt
asks-maps P n (tree.WinBy map reducer source from to) asks = asks.2
asks-maps P n tree.Argument asks = tt
asks-maps P n (tree.One op a) asks = asks-maps P n a asks
asks-maps P n (tree.Two op a b) asks = (asks-maps P n a asks.0, asks-maps P n b asks.1)
asks-maps P n (tree.If c a b) asks = (asks-maps P n c asks.0, asks-maps P n a asks.1, asks-maps P n b asks.2)

is_below : (m n : ℕ) → m < n → IsTrue (nat_lt m n)
is_below m n low = let test : nat_lt m n ≡ true = grind arith in test

both : (a b m n : ℕ) → a < m → b < n → IsTrue (nat_lt a m && nat_lt b n)
both a b m n p q =
    let first : nat_lt a m ≡ true = grind arith in
    let second : nat_lt b n ≡ true = grind arith in
    rw (first, second) refl

all_three : (c a b n : ℕ) → c < n → a < n → b < n → IsTrue (nat_lt c n && (nat_lt a n && nat_lt b n))
all_three c a b n p q r =
    let first : nat_lt c n ≡ true = grind arith in
    let second : nat_lt a n ≡ true = grind arith in
    let third : nat_lt b n ≡ true = grind arith in
    rw (first, second, third) refl

RefersBack-append : (buffers maps register : ℕ) (one two : Block) → RefersBack buffers maps register one
    → RefersBack buffers maps (register + length one) two → RefersBack buffers maps register (one ++ two)
RefersBack-append buffers maps register [] two g h =
    let at : register + 0 ≡ register = omega arith in
    subst (λ (r : ℕ). RefersBack buffers maps r two) at h
RefersBack-append buffers maps register (i ∷ one) two g h =
    let at : register + suc (length one) ≡ suc register + length one = omega arith in
    (g.0, RefersBack-append buffers maps (suc register) one two g.1 (subst (λ (r : ℕ). RefersBack buffers maps r two) at h))

-- the instruction may be there, and is one if its constant is a 64-bit number
abbrev pub IsGood : (Instr → Bool) → Instr → Type 0
IsGood stands i = IsTrue (stands i) × (ConstantFits i → IsInstr i)

-- a block after another
module _ (count made : ℕ) where
  back-two : (register : ℕ) (first next : Block) (second : ℕ) → second ≡ register + length first → RefersBack count made register first
      → RefersBack count made second next → RefersBack count made register (first ++ next)
  back-two register first next second at g h =
      RefersBack-append count made register first next g (subst (λ (r : ℕ). RefersBack count made r next) at h)

module _ (buffer : ℕ → ℕ) (count : ℕ) (few : count ≤ 256) (n : Need) (back_low : pos 0 ≤ℤ n.back) (ahead_low : pos 0 ≤ℤ n.ahead) where
  -- the number of a source's buffer is below the count, and it is asked for within the reach
  abbrev pub Bounded : ℕ → Need → Type 0
  Bounded source asked = (buffer source < count) × WithinReach asked

  window-is : (source : ℕ) (from to : ℤ) → Bounded source (reaching n (from +ℤ pos 1) to) → from <ℤ to → IsWindow (buffer source) from to
  window-is source from to bound some =
      let low = bound.0 in
      let back = bound.1.0 in
      let ahead = bound.1.1 in
      record {
        number = omega arith;
        low = (omega (arith, ints, clamps), omega (arith, ints, clamps));
        high = (omega (arith, ints, clamps), omega (arith, ints, clamps));
        some_ticks = some;
      }

  pub good : (t : FusedTree) → EachAsks Bounded n t → (register map : ℕ) → register + registers t ≤ 2 ^ 16 → map + maps t ≤ 2 ^ 16
      → AllByRecursion (IsGood stands_in_body) (block_of buffer register map t)
  good (tree.Const value) asks register map small fewer = ((refl, λ fits. fits), tt)
  good (tree.Port source offset) asks register map small fewer =
      let low = asks.0 in
      let back = asks.1.0 in
      let ahead = asks.1.1 in
      ((refl, λ fits. (omega arith, (omega (arith, ints, clamps), omega (arith, ints, clamps)))), tt)
  good (tree.Win reducer source from to) asks register map small fewer = ((refl, λ fits. window-is source from to asks.0 asks.1), tt)
  good (tree.WinBy map_tree reducer source from to) asks register map small fewer = ((refl, λ fits. (window-is source from to asks.0 asks.1, omega arith)), tt)
  good tree.Argument asks register map small fewer = absurd asks
  good (tree.One op a) asks register map small fewer =
      all-append (IsGood stands_in_body) (block_of buffer register map a) (instr.One op (result_at register a) ∷ [])
      (good a asks register map (omega arith) (omega arith)) ((refl, λ fits. omega arith), tt)
  good (tree.Two op a b) asks register map small fewer =
      let second = register + registers a in
      all-append (IsGood stands_in_body) (block_of buffer register map a ++ block_of buffer second (map + maps a) b) (instr.Two op (result_at register a) (result_at second b) ∷ [])
      (all-append (IsGood stands_in_body) (block_of buffer register map a) (block_of buffer second (map + maps a) b)
      (good a asks.0 register map (omega arith) (omega arith)) (good b asks.1 second (map + maps a) (omega arith) (omega arith)))
      ((refl, λ fits. (omega arith, omega arith)), tt)
  good (tree.If c a b) asks register map small fewer =
      let second = register + registers c in
      let third = second + registers a in
      let one = block_of buffer register map c in
      let two = block_of buffer second (map + maps c) a in
      let three = block_of buffer third (map + maps c + maps a) b in
      all-append (IsGood stands_in_body) (one ++ two ++ three) (instr.If (result_at register c) (result_at second a) (result_at third b) ∷ [])
      (all-append (IsGood stands_in_body) (one ++ two) three
      (all-append (IsGood stands_in_body) one two (good c asks.0 register map (omega arith) (omega arith)) (good a asks.1 second (map + maps c) (omega arith) (omega arith)))
      (good b asks.2 third (map + maps c + maps a) (omega arith) (omega arith)))
      ((refl, λ fits. (omega arith, omega arith, omega arith)), tt)

  -- each instruction names earlier registers, buffers before the count, and maps before theirs
  pub back : (t : FusedTree) → EachAsks Bounded n t → (register map made : ℕ) → map + maps t ≤ made → RefersBack count made register (block_of buffer register map t)
  back (tree.Const value) asks register map made fewer = (refl, tt)
  back (tree.Port source offset) asks register map made fewer = (is_below (buffer source) count asks.0, tt)
  back (tree.Win reducer source from to) asks register map made fewer = (is_below (buffer source) count asks.0.0, tt)
  back (tree.WinBy map_tree reducer source from to) asks register map made fewer = (both (buffer source) map count made asks.0.0 (omega arith), tt)
  back tree.Argument asks register map made fewer = absurd asks
  back (tree.One op a) asks register map made fewer =
      let first = block_of buffer register map a in
      let some = registers-some a in
      let many = length-block buffer register map a in
      RefersBack-append count made register first (instr.One op (result_at register a) ∷ []) (back a asks register map made fewer)
      (is_below (result_at register a) (register + length first) (omega (arith, many)), tt)
  back (tree.Two op a b) asks register map made fewer =
      let second = register + registers a in
      let first = block_of buffer register map a in
      let next = block_of buffer second (map + maps a) b in
      let some_a = registers-some a in
      let some_b = registers-some b in
      let many_a = length-block buffer register map a in
      let many_b = length-block buffer second (map + maps a) b in
      let many = length-append first next in
      let end = register + length (first ++ next) in
      RefersBack-append count made register (first ++ next) (instr.Two op (result_at register a) (result_at second b) ∷ [])
      (back-two count made register first next second (omega (arith, many_a)) (back a asks.0 register map made (omega arith)) (back b asks.1 second (map + maps a) made (omega arith)))
      (both (result_at register a) (result_at second b) end end (omega (arith, many, many_a, many_b)) (omega (arith, many, many_a, many_b)), tt)
  back (tree.If c a b) asks register map made fewer =
      let second = register + registers c in
      let third = second + registers a in
      let one = block_of buffer register map c in
      let two = block_of buffer second (map + maps c) a in
      let three = block_of buffer third (map + maps c + maps a) b in
      let some_c = registers-some c in
      let some_a = registers-some a in
      let some_b = registers-some b in
      let many_c = length-block buffer register map c in
      let many_a = length-block buffer second (map + maps c) a in
      let many_b = length-block buffer third (map + maps c + maps a) b in
      let many = length-append one two in
      let all = length-append (one ++ two) three in
      let end = register + length (one ++ two ++ three) in
      RefersBack-append count made register (one ++ two ++ three) (instr.If (result_at register c) (result_at second a) (result_at third b) ∷ [])
      (back-two count made register (one ++ two) three third (omega (arith, many, many_c, many_a))
      (back-two count made register one two second (omega (arith, many_c)) (back c asks.0 register map made (omega arith)) (back a asks.1 second (map + maps c) made (omega arith)))
      (back b asks.2 third (map + maps c + maps a) made (omega arith))) (
        all_three (result_at register c) (result_at second a) (result_at third b) end (omega (arith, all, many, many_a, many_b, many_c)) (omega (arith, all, many, many_a, many_b, many_c))
            (omega (arith, all, many, many_a, many_b, many_c)),
        tt,
      )

-- maps have no leaves but arguments and constants, so a block of a map has no bounds to keep but those of registers
module _ (buffer : ℕ → ℕ) where
  map_good : (t : FusedTree) → IsMap t → (register map : ℕ) → register + registers t ≤ 2 ^ 16 → AllByRecursion (IsGood stands_in_map) (block_of buffer register map t)
  map_good (tree.Const value) is register map small = ((refl, λ fits. fits), tt)
  map_good (tree.Port source offset) is register map small = absurd is
  map_good (tree.Win reducer source from to) is register map small = absurd is
  map_good (tree.WinBy map_tree reducer source from to) is register map small = absurd is
  map_good tree.Argument is register map small = ((refl, λ fits. tt), tt)
  map_good (tree.One op a) is register map small =
      all-append (IsGood stands_in_map) (block_of buffer register map a) (instr.One op (result_at register a) ∷ []) (map_good a is register map (omega arith)) ((refl, λ fits. omega arith), tt)
  map_good (tree.Two op a b) is register map small =
      let second = register + registers a in
      all-append (IsGood stands_in_map) (block_of buffer register map a ++ block_of buffer second (map + maps a) b) (instr.Two op (result_at register a) (result_at second b) ∷ [])
      (all-append (IsGood stands_in_map) (block_of buffer register map a) (block_of buffer second (map + maps a) b)
      (map_good a is.0 register map (omega arith)) (map_good b is.1 second (map + maps a) (omega arith)))
      ((refl, λ fits. (omega arith, omega arith)), tt)
  map_good (tree.If c a b) is register map small =
      let second = register + registers c in
      let third = second + registers a in
      let one = block_of buffer register map c in
      let two = block_of buffer second (map + maps c) a in
      let three = block_of buffer third (map + maps c + maps a) b in
      all-append (IsGood stands_in_map) (one ++ two ++ three) (instr.If (result_at register c) (result_at second a) (result_at third b) ∷ [])
      (all-append (IsGood stands_in_map) (one ++ two) three
      (all-append (IsGood stands_in_map) one two (map_good c is.0 register map (omega arith)) (map_good a is.1 second (map + maps c) (omega arith)))
      (map_good b is.2 third (map + maps c + maps a) (omega arith)))
      ((refl, λ fits. (omega arith, omega arith, omega arith)), tt)

  map_back : (t : FusedTree) → IsMap t → (count register map made : ℕ) → RefersBack count made register (block_of buffer register map t)
  map_back (tree.Const value) is count register map made = (refl, tt)
  map_back (tree.Port source offset) is count register map made = absurd is
  map_back (tree.Win reducer source from to) is count register map made = absurd is
  map_back (tree.WinBy map_tree reducer source from to) is count register map made = absurd is
  map_back tree.Argument is count register map made = (refl, tt)
  map_back (tree.One op a) is count register map made =
      let first = block_of buffer register map a in
      let some = registers-some a in
      let many = length-block buffer register map a in
      RefersBack-append count made register first (instr.One op (result_at register a) ∷ []) (map_back a is count register map made)
      (is_below (result_at register a) (register + length first) (omega (arith, many)), tt)
  map_back (tree.Two op a b) is count register map made =
      let second = register + registers a in
      let first = block_of buffer register map a in
      let next = block_of buffer second (map + maps a) b in
      let some_a = registers-some a in
      let some_b = registers-some b in
      let many_a = length-block buffer register map a in
      let many_b = length-block buffer second (map + maps a) b in
      let many = length-append first next in
      let end = register + length (first ++ next) in
      RefersBack-append count made register (first ++ next) (instr.Two op (result_at register a) (result_at second b) ∷ [])
      (back-two count made register first next second (omega (arith, many_a)) (map_back a is.0 count register map made) (map_back b is.1 count second (map + maps a) made))
      (both (result_at register a) (result_at second b) end end (omega (arith, many, many_a, many_b)) (omega (arith, many, many_a, many_b)), tt)
  map_back (tree.If c a b) is count register map made =
      let second = register + registers c in
      let third = second + registers a in
      let one = block_of buffer register map c in
      let two = block_of buffer second (map + maps c) a in
      let three = block_of buffer third (map + maps c + maps a) b in
      let some_c = registers-some c in
      let some_a = registers-some a in
      let some_b = registers-some b in
      let many_c = length-block buffer register map c in
      let many_a = length-block buffer second (map + maps c) a in
      let many_b = length-block buffer third (map + maps c + maps a) b in
      let many = length-append one two in
      let all = length-append (one ++ two) three in
      let end = register + length (one ++ two ++ three) in
      RefersBack-append count made register (one ++ two ++ three) (instr.If (result_at register c) (result_at second a) (result_at third b) ∷ [])
      (back-two count made register (one ++ two) three third (omega (arith, many, many_c, many_a))
      (back-two count made register one two second (omega (arith, many_c)) (map_back c is.0 count register map made) (map_back a is.1 count second (map + maps c) made))
      (map_back b is.2 count third (map + maps c + maps a) made)) (
        all_three (result_at register c) (result_at second a) (result_at third b) end (omega (arith, all, many, many_a, many_b, many_c)) (omega (arith, all, many, many_a, many_b, many_c))
            (omega (arith, all, many, many_a, many_b, many_c)),
        tt,
      )

-- the block of a map
pub record IsGoodMap (block : Block) : Type 0 where
  pub some : 0 < length block
  pub few : length block ≤ 2 ^ 32
  pub good : AllByRecursion (IsGood stands_in_map) block
  pub back : (buffers maps : ℕ) → RefersBack buffers maps 0 block

map_is : (map : FusedTree) → IsMap map → nodes map ≤ 2 ^ 16 → IsGoodMap (block_of (λ source. source) 0 0 map)
map_is map is small =
    let many = length-block (λ source. source) 0 0 map in
    let some = registers-some map in
    let few = registers-few map in
    record {
      some = omega (arith, many);
      few = omega (arith, many);
      good = map_good (λ source. source) map is 0 0 (omega arith);
      back = λ buffers made. map_back (λ source. source) map is buffers 0 0 made;
    }

-- the maps of a tree
pub maps-good : (P : ℕ → Need → Type 0) (n : Need) (t : FusedTree) → EachAsks P n t → nodes t ≤ 2 ^ 16 → AllByRecursion IsGoodMap (maps_of t)
maps-good P n (tree.Const value) asks small = tt
maps-good P n (tree.Port source offset) asks small = tt
maps-good P n (tree.Win reducer source from to) asks small = tt
maps-good P n (tree.WinBy map reducer source from to) asks small = (map_is map asks.2 (omega arith), tt)
maps-good P n tree.Argument asks small = tt
maps-good P n (tree.One op a) asks small = maps-good P n a asks (omega arith)
maps-good P n (tree.Two op a b) asks small =
    all-append IsGoodMap (maps_of a) (maps_of b) (maps-good P n a asks.0 (omega arith)) (maps-good P n b asks.1 (omega arith))
maps-good P n (tree.If c a b) asks small =
    all-append IsGoodMap (maps_of c ++ maps_of a) (maps_of b)
    (all-append IsGoodMap (maps_of c) (maps_of a) (maps-good P n c asks.0 (omega arith)) (maps-good P n a asks.1 (omega arith))) (maps-good P n b asks.2 (omega arith))
