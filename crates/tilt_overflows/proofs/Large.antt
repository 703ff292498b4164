-- When a watching query is too large.
use Rattle.std.proofs.Common.{◌≡◌, ℕ, zero, suc, ◌<◌, ◌≤◌, List, [], ◌∷◌, ◌++◌, length, get_or, map, Result, Ok, Err, MatchResult, sym, subst, arith}
use Rattle.std.specs.Prelude.{IsErr, IsErrAnd}
use Rattle.tilt_base.proofs.Lists.{all-parts}
use Rattle.tilt_core.specs.Core.{AreDefinitions, CoreParts, IsCore}
use Rattle.tilt_core.specs.CoreTree.{Definition, nodes}
use Rattle.tilt_overflows.specs.Watching.{AreSmall, emitted_watch, watch, watching_core}

-- what holds of a fault holds of the result that it was given as
pub err_and : {A E : Type 0} (result : Result A E) (fault : E) (O : A → Type 0) (N : E → Type 0) → IsErr result × IsErrAnd result (λ e. e ≡ fault) → N fault
    → MatchResult result O N
err_and (Ok a) fault O N h n = absurd h.1
err_and (Err e) fault O N h n = subst N (sym h.1) n

-- if the watch of one definition is too large, not all watches are small
pub too_large : (defs : List Definition) (i : ℕ) (def : Definition) → i < length defs → def ≡ get_or defs i def → 256 < nodes (watch def).body
    → AreSmall (map watch defs) → ⊥
too_large [] i def low is h small = absurd (omega arith)
too_large (other ∷ defs) zero def low is h small =
    let one : nodes (watch def).body ≤ 256 = subst (λ (d : Definition). nodes (watch d).body ≤ 256) (sym is) small.0 in
    absurd (omega (arith, one, h))
too_large (other ∷ defs) (suc i) def low is h small = too_large defs i def (omega arith) is h small.1

accepted_small : (before : ℕ) (defs : List Definition) → AreDefinitions before defs → AreSmall defs
accepted_small before [] h = tt
accepted_small before (def ∷ defs) h = (h.0.small, accepted_small (suc before) defs h.1)

-- all watches of an accepted watching query are small
pub watches_small : (core : CoreParts) → IsCore (watching_core core) → AreSmall (map watch core.defs)
watches_small core is =
    let P : Definition → Type 0 = λ def. nodes def.body ≤ 256 in
    let all = accepted_small (length core.inputs) (watching_core core).defs is.definitions in
    (all-parts P core.defs (map watch core.defs) (all-parts P (core.defs ++ map watch core.defs) (emitted_watch core ∷ []) all).0).1
