-- Horizons of buffers as ticks.
use Rattle.std.proofs.Common.{◌≡◌, ℕ, zero, suc, ◌<◌, ◌≤◌, ◌+◌, ℤ, neg_ℤ, ◌≤ℤ◌, ◌<ℤ◌, List, [], ◌∷◌, ◌++◌, length, map, drop, get_or, false, int_le, Option, refl, ap, sym, ◌∙◌, arith}
use Rattle.std.proofs.lemmas.Int.{ints, clamps}
use Rattle.std.proofs.lemmas.List.{map_push}
use Rattle.std.specs.Int.{int_max}
use Rattle.tilt_base.proofs.Lists.{drop-at}
use Rattle.tilt_base.specs.declared.limits.TheConstants.{WIDE}
use Rattle.tilt_code.specs.Code.{LoopParts}
use Rattle.tilt_code.specs.Grammar.{IsStretch}
use Rattle.tilt_engine.specs.CodeHorizon.{horizon_by, loop_horizon, with_loop_horizons}
use Rattle.tilt_feed.specs.Horizon.{Horizon, ForEver, horizon_of}

-- the horizon of a buffer that is there
pub horizon-there : (hs : List (Option ℤ)) (number : ℕ) (h : Option ℤ) → number < length hs → h ≡ get_or hs number h → horizon_by h ≡ horizon_of (map horizon_by hs) number
horizon-there [] number h within is = absurd (omega arith)
horizon-there (x ∷ hs) zero h within is = ap horizon_by is
horizon-there (x ∷ hs) (suc number) h within is = horizon-there hs number h (omega arith) is

-- and of one that isn't
pub horizon-past : (hs : List (Option ℤ)) (number : ℕ) → length hs ≤ number → ForEver ≡ horizon_of (map horizon_by hs) number
horizon-past [] number past = refl
horizon-past (x ∷ hs) zero past = absurd (omega arith)
horizon-past (x ∷ hs) (suc number) past = horizon-past hs number (omega arith)

-- the horizons of the loops from a place on, once that of the first one of them is there
pub loops-next : (hs : List (Option ℤ)) (loops : List LoopParts) (place : ℕ) (l : LoopParts) (h : Option ℤ) → place < length loops → l ≡ get_or loops place l
    → horizon_by h ≡ loop_horizon (map horizon_by hs) l
    → with_loop_horizons (map horizon_by (hs ++ h ∷ [])) (drop (place + 1) loops) ≡ with_loop_horizons (map horizon_by hs) (drop place loops)
loops-next hs loops place l h within is value =
    let rest = drop (place + 1) loops in
    let added = map_push horizon_by hs h ∙ ap (λ (x : Horizon). map horizon_by hs ++ x ∷ []) value in
    ap (λ (all : List Horizon). with_loop_horizons all rest) added ∙ ap (with_loop_horizons (map horizon_by hs)) (sym (drop-at loops l place within is))

-- a point below the end of a stretch, at least its start, is a time
pub clipped-time : (lo hi point : ℤ) → IsStretch lo hi → point <ℤ hi → (neg_ℤ WIDE ≤ℤ int_max lo point) × (int_max lo point ≤ℤ WIDE)
clipped-time lo hi point is below =
    let low = is.low in
    let some = is.some_ticks in
    let high = is.high in
    (omega (arith, ints, clamps), omega (arith, ints, clamps))

-- what a test says that failed
pub not-le : (a b : ℤ) → int_le a b ≡ false → b <ℤ a
not-le a b is = grind (arith, ints)
