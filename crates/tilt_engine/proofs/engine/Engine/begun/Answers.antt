-- What has begun is the next snapshot of the run, if it starts below the limit.
use Rattle.std.proofs.Common.{◌≡◌, true, false, int_lt, FitsSigned, to_z-of_z, w64, refl, subst, ap, sym, arith, rules}
use Rattle.std.proofs.lemmas.Int.{ints}
use Rattle.tilt_code.specs.References.{IsCode}
use Rattle.tilt_engine.proofs.Engined.{begun-past_limit}
use Rattle.tilt_engine.proofs.Given.{begun-there}
use Rattle.tilt_engine.specs.AtRest.{run_at_rest}
use Rattle.tilt_engine.specs.Engines.{IsNextOf, begun_pair}
use Rattle.tilt_stream.specs.Snap.{Snapshot}
use Rattle.tilt_engine.proofs.engine.Engine.begun.Goals as goal

pub returns-in-Some-clause-begun : goal.returns-in-Some-clause-begun
returns-in-Some-clause-begun c = λ code feed given of known.
    let n = c.in_ok-snap.ensures.next code feed given of in
    let fits : FitsSigned w64 c.snap.inside.start = search rules in
    let test = rw (to_z-of_z fits) at c.if-snap-limit.true in
    let start = ap (λ (s : Snapshot). s.start) c.snap.view_is in
    let value = ap (λ (s : Snapshot). s.value) c.snap.view_is in
    let s = c.in-Some.snap in
    let below : int_lt s.start c.args.limit ≡ true = grind (arith, ints) in
    let at = begun-there c.args.limit (run_at_rest code feed) given s (subst (IsNextOf code feed given) c.in-Some.is n.0) in
    (rw (to_z-of_z fits, at, below, start, value) refl, n.1)

pub returns-in_default-clause-begun : goal.returns-in_default-clause-begun
returns-in_default-clause-begun c = λ code feed given of known.
    let n = c.in_ok-snap.ensures.next code feed given of in
    let fits : FitsSigned w64 c.snap.inside.start = search rules in
    let test = rw (to_z-of_z fits) at c.if-snap-limit.false in
    let start = ap (λ (s : Snapshot). s.start) c.snap.view_is in
    let s = c.in-Some.snap in
    let on : int_lt s.start c.args.limit ≡ false = grind (arith, ints) in
    let at = begun-there c.args.limit (run_at_rest code feed) given s (subst (IsNextOf code feed given) c.in-Some.is n.0) in
    (rw (at, on) refl, n.1)

pub returns-in_default-2-clause-begun : goal.returns-in_default-2-clause-begun
returns-in_default-2-clause-begun c = λ code feed given of known.
    let n = c.in_ok-snap.ensures.next code feed given of in
    let is = subst IsCode of.at.code_is c.loops.ensures.code in
    (ap begun_pair (sym (begun-past_limit code feed is c.args.limit known given (subst (IsNextOf code feed given) c.in_default.is n.0))), n.1)
