-- The loops of a code may be run over all buffers, each of which has a horizon.
use Rattle.std.proofs.Common.{◌≡◌, ◌<◌, ◌≤◌, ◌+◌, ℕ, zero, suc, List, [], ◌∷◌, ◌++◌, ℤ, length, map, get_or, Option, None, refl, sym, ap, ◌∙◌, arith}
use Rattle.std.proofs.lemmas.List.{length-map, length_push}
use Rattle.std.specs.List.{AllByRecursion}
use Rattle.tilt_code.specs.Code.{CodeParts, LoopParts}
use Rattle.tilt_code.specs.Grammar.{IsLoop}
use Rattle.tilt_code.specs.References.{IsCode, ReadsBefore}
use Rattle.tilt_engine.specs.CodeHorizon.{code_horizons, horizon_by, loop_horizon, with_loop_horizons}
use Rattle.tilt_engine.specs.GoingOn.{AllRise}
use Rattle.tilt_feed.proofs.Rising.{AreNotAbove}
use Rattle.tilt_feed.specs.Horizon.{Horizon, horizon_of}
use Rattle.tilt_pipe.proofs.Nears.{ready-more}
use Rattle.tilt_turn.proofs.Readies.{loop-ready}
use Rattle.tilt_turn.specs.Ready.{IsReady}

ready-from : (buffers many : ℕ) (loops : List LoopParts) → AllByRecursion IsLoop loops → ReadsBefore buffers loops → buffers + length loops ≤ many
    → AllByRecursion (IsReady many) loops
ready-from buffers many [] all reads within = tt
ready-from buffers many (l ∷ loops) all reads within = (
  ready-more buffers many l (omega arith) (loop-ready buffers l loops all.0 reads),
  ready-from (suc buffers) many loops all.1 reads.2 (omega arith),
)

pub loops-ready : (code : CodeParts) → IsCode code → AllByRecursion (IsReady (length code.inputs + length code.loops)) code.loops
loops-ready code is =
    ready-from (length code.inputs) (length code.inputs + length code.loops) code.loops is.grammatical.loops is.references (omega arith)

-- a horizon for each input and each loop
pub horizons-long : (hs : List Horizon) (loops : List LoopParts) → length (with_loop_horizons hs loops) ≡ length hs + length loops
horizons-long hs [] = omega arith
horizons-long hs (l ∷ loops) = horizons-long (hs ++ loop_horizon hs l ∷ []) loops ∙ omega (arith, length_push hs (loop_horizon hs l))

pub many-horizons : (code : CodeParts) (hs : List Horizon) (found : List (Option ℤ)) → map horizon_by found ≡ code_horizons code hs
    → length found ≡ length hs + length code.loops
many-horizons code hs found is = sym (length-map found horizon_by) ∙ ap length is ∙ horizons-long hs code.loops

-- horizons that rise aren't above those to which they rise
pub rise-above : (gs hs : List Horizon) → AllRise gs hs → AreNotAbove gs hs
rise-above [] [] all = tt
rise-above [] (h ∷ hs) all = absurd all
rise-above (g ∷ gs) [] all = absurd all
rise-above (g ∷ gs) (h ∷ hs) all = (record { all = all.0 }, rise-above gs hs all.1)

-- the horizon that was found for a buffer
pub horizon-read : (found : List (Option ℤ)) (number : ℕ) → number < length found → horizon_by (get_or found number None) ≡ horizon_of (map horizon_by found) number
horizon-read [] number within = absurd (omega arith)
horizon-read (h ∷ found) zero within = refl
horizon-read (h ∷ found) (suc number) within = horizon-read found number (omega arith)
