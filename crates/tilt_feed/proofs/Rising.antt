-- Sources whose horizons rise make definitions whose horizons rise.
use Rattle.std.proofs.Common.{ℕ, zero, suc, ℤ, pos, ◌+ℤ◌, ◌≤ℤ◌, List, [], ◌∷◌, ◌++◌}
use Rattle.std.specs.Prelude.{⊤}
use Rattle.tilt_base.specs.Expression.{Leaf, One, Two, If}
use Rattle.tilt_base.specs.Grid.{GridPoints, ceil, IsGrid}
use Rattle.tilt_core.specs.CoreTree.{Const, Read, Reduce, CoreTree, Definition}
use Rattle.tilt_core.specs.Meaning.{AreGrids}
use Rattle.tilt_feed.proofs.Known.{IsNotAbove, known-both, known-earlier, known-first, known-later, known-point, known-second, over-above, point-known}
use Rattle.tilt_feed.specs.Horizon.{Horizon, earlier, earlier_by, horizon_of, body_horizon, grid_horizon, definition_horizon, with_horizons}

pub moved-rises : (g h : Horizon) (offset : ℤ) → IsNotAbove g h → IsNotAbove (earlier_by g offset) (earlier_by h offset)
moved-rises g h offset rises = record { all = λ tick known. known-earlier h offset tick (rises.all (tick +ℤ offset) (known-later g offset tick known)) }

pub earlier-rises : (f g h i : Horizon) → IsNotAbove f h → IsNotAbove g i → IsNotAbove (earlier f g) (earlier h i)
earlier-rises f g h i first second = record {
  all = λ tick known. known-both h i tick (first.all tick (known-first f g tick known)) (second.all tick (known-second f g tick known));
}

pub grid-rises : (grid : GridPoints) (g h : Horizon) → pos 1 ≤ℤ grid.period → IsNotAbove g h → IsNotAbove (grid_horizon grid g) (grid_horizon grid h)
grid-rises grid g h valid rises = record {
  all = λ tick known. point-known grid h tick valid (rises.all (ceil grid tick) (known-point grid g tick valid known));
}

module _ (gs hs : List Horizon) (all : (source : ℕ) → IsNotAbove (horizon_of gs source) (horizon_of hs source)) where
  body-rises : (body : CoreTree) → IsNotAbove (body_horizon gs body) (body_horizon hs body)
  body-rises (Leaf (Const number)) = record { all = λ tick known. known }
  body-rises (Leaf (Read source offset)) = moved-rises (horizon_of gs source) (horizon_of hs source) offset (all source)
  body-rises (Leaf (Reduce reducer source from to)) = moved-rises (horizon_of gs source) (horizon_of hs source) to (all source)
  body-rises (One op a) = body-rises a
  body-rises (Two op a b) = earlier-rises (body_horizon gs a) (body_horizon gs b) (body_horizon hs a) (body_horizon hs b) (body-rises a) (body-rises b)
  body-rises (If c a b) =
      earlier-rises (body_horizon gs c) (earlier (body_horizon gs a) (body_horizon gs b)) (body_horizon hs c) (earlier (body_horizon hs a) (body_horizon hs b))
      (body-rises c)
      (earlier-rises (body_horizon gs a) (body_horizon gs b) (body_horizon hs a) (body_horizon hs b) (body-rises a) (body-rises b))

-- two lists of horizons, of which none in the first is above that in the second
abbrev pub AreNotAbove : List Horizon → List Horizon → Type 0
AreNotAbove [] [] = ⊤
AreNotAbove [] (h ∷ hs) = ⊥
AreNotAbove (g ∷ gs) [] = ⊥
AreNotAbove (g ∷ gs) (h ∷ hs) = IsNotAbove g h × AreNotAbove gs hs

pub rises-at : (gs hs : List Horizon) → AreNotAbove gs hs → (source : ℕ) → IsNotAbove (horizon_of gs source) (horizon_of hs source)
rises-at [] [] all source = record { all = λ tick known. known }
rises-at [] (h ∷ hs) all source = absurd all
rises-at (g ∷ gs) [] all source = absurd all
rises-at (g ∷ gs) (h ∷ hs) all zero = all.0
rises-at (g ∷ gs) (h ∷ hs) all (suc source) = rises-at gs hs all.1 source

pub rises-push : (gs hs : List Horizon) (g h : Horizon) → AreNotAbove gs hs → IsNotAbove g h → AreNotAbove (gs ++ g ∷ []) (hs ++ h ∷ [])
rises-push [] [] g h all rises = (rises, tt)
rises-push [] (i ∷ hs) g h all rises = absurd all
rises-push (f ∷ gs) [] g h all rises = absurd all
rises-push (f ∷ gs) (i ∷ hs) g h all rises = (all.0, rises-push gs hs g h all.1 rises)

definition-rises : (gs hs : List Horizon) (def : Definition) → IsGrid def.grid → AreNotAbove gs hs → IsNotAbove (definition_horizon gs def) (definition_horizon hs def)
definition-rises gs hs def grid all =
    let g = body_horizon gs def.body in
    let h = body_horizon hs def.body in
    over-above def.over (grid_horizon def.grid g) (grid_horizon def.grid h) (grid-rises def.grid g h grid.period_low (body-rises gs hs (rises-at gs hs all) def.body))

-- so do definitions over them
pub definitions-rise : (gs hs : List Horizon) (defs : List Definition) → AreGrids defs → AreNotAbove gs hs → AreNotAbove (with_horizons gs defs) (with_horizons hs defs)
definitions-rise gs hs [] grids all = all
definitions-rise gs hs (def ∷ defs) grids all =
    definitions-rise (gs ++ definition_horizon gs def ∷ []) (hs ++ definition_horizon hs def ∷ []) defs grids.1
    (rises-push gs hs (definition_horizon gs def) (definition_horizon hs def) all (definition-rises gs hs def grids.0 all))
