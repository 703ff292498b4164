use Rattle.std.proofs.Common.{rules, ◌∙◌, sym, ap, subst, length}
use Rattle.tilt_code.specs.Code.{CodeParts}
use Rattle.std.proofs.lemmas.Simd.{map-map}
use Rattle.tilt_pipe.proofs.RingsKept.{empty_ring}
use Rattle.tilt_pipe.proofs.Starts.{first-exact, first-turns, written, none-held, no-holders}
use Rattle.tilt_pipe.specs.Chain.{AreTurns}
use Rattle.tilt_pipe.specs.Gathered.{HaveBegun}
use Rattle.tilt_pipe.specs.Positions.{RingParts, starts_of}
use Rattle.tilt_pipe.proofs.chain.Chain.new.Goals as goal

pub first_points-requires : goal.first_points-requires
first_points-requires c =
    let all = c.in_ok-turns.turns in
    let begun = c.in_ok-find_sources.ensures in
    let back = written all.len all.items c.find_sources.new.turns (search rules) (begun.many ∙ sym c.in_ok-turns.ensures.many) in
    subst (HaveBegun c.in_ok-rings.rings 0) (sym (c.deref.ensures.value ∙ back)) begun

pub returns-clause-is : goal.returns-clause-is
returns-clause-is c =
    let p = c.in_ok-rings.rings in
    let all = c.in_ok-turns.turns in
    let begun = c.in_ok-find_sources.ensures in
    let back = written all.len all.items c.find_sources.new.turns (search rules) (begun.many ∙ sym c.in_ok-turns.ensures.many) in
    let rings = c.in_ok-rings.ensures in
    let code = c.loops-count.ensures in
    let loops = ap (λ (x : CodeParts). x.loops) (sym rings.code) in
    let count = length c.loops-count.result.now in
    let none = no-holders (length p.inputs) p.code.loops count c.in_ok-held.held (ap length code.loops) c.in_ok-held.ensures in
    record {
      turns = subst (AreTurns p.code p.inputs (starts_of p.rings)) (sym back) (first-turns p c.find_sources.new.turns code.rings begun);
      points = c.in_ok-points.ensures;
      holders = rw c.in_ok-holders.ensures none.0;
      lists = rw c.in_ok-holders.ensures none.1;
      held = rw c.in_ok-holders.ensures (none-held p c.args.code.loops code.code code.rings loops rings.rings count);
      exact = first-exact p c.args.code.loops code.code code.rings loops rings.rings;
    }

pub returns-clause-starts : goal.returns-clause-starts
returns-clause-starts c = ap starts_of c.in_ok-rings.ensures.rings ∙ map-map (λ (r : RingParts). r.start) empty_ring c.args.code.loops
