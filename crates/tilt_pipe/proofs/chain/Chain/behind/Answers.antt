-- The sources that are checked, and those that were passed before, are all that the loop reads.
use Rattle.std.proofs.Common.{◌≡◌, ◌∙◌, FitsSigned, to_z, of_z, w64, sym, subst, rules}
use Rattle.std.proofs.lemmas.Int.{to_z-of_z}
use Rattle.std.proofs.lemmas.Option.{get_or_from_slice_get, same_Some, slice_get_within}
use Rattle.tilt_pipe.proofs.Nears.{turn-near}
use Rattle.tilt_pipe.proofs.RingsKept.{placed}
use Rattle.tilt_pipe.proofs.Covered.{source-behind, sources-near, sources-told}
use Rattle.tilt_pipe.proofs.Turning.{HasMany, found-turns, has-many, own-turns, turns-passed}
use Rattle.tilt_pipe.specs.Chain.{AreTurnsOf, IsBehind}
use Rattle.tilt_pipe.specs.Made.{Work}
use Rattle.tilt_pipe.specs.Positions.{IsOpen, start_at, starts_of}
use Rattle.tilt_pipe.specs.Reads.{turn_point}
use Rattle.tilt_pipe.specs.declared.chain.LoopTurns.{LoopTurns}
use Rattle.tilt_pipe.specs.declared.sources.Source.{Source}
use Rattle.tilt_pipe.proofs.chain.Chain.behind.Goals as goal
use Rattle.tilt_pipe.proofs.chain.Chain.behind.Goals.{After-index-turns, Start}

many : (c : Start) → HasMany c.args.self.now.rings c.args.self.now.turns.items c.args.place
many c = has-many c.args.self.now.rings c.args.self.now.turns.items c.args.place c.requires.«open».0 c.requires.is.turns c.requires.«open».1.is

pub index-turns-requires : goal.index-turns-requires
index-turns-requires c = let m = many (goal.at.index-turns-requires c).Start in search rules

pub index_mut-requires : goal.index_mut-requires
index_mut-requires c = let m = many (goal.at.index_mut-requires c).Start in search rules

-- what is known of the loop, and of the point where its next turn reads
known : (c : After-index-turns) (w : Work) → IsOpen c.args.self.now.rings c.args.place w
    → AreTurnsOf c.args.self.now.rings.code c.args.self.now.rings.inputs (starts_of c.args.self.now.rings.rings) c.args.place w c.index-turns.result.now
    × (to_z w64 (of_z w64 c.point-point.result) ≡ turn_point w.loop (start_at c.args.self.now.rings c.args.place))
known c w open_ =
    let fits : FitsSigned w64 c.point-point.result = search rules in (
      own-turns c.args.self.now.rings c.args.self.now.turns.items c.args.place w c.index-turns.result.now c.requires.is.turns open_.is c.index-turns.ensures,
      to_z-of_z w64 c.point-point.result fits ∙ c.point-point.ensures w open_,
    )

pub short_source-requires-clause-near : goal.short_source-requires-clause-near
short_source-requires-clause-near c =
    let p = c.args.self.now.rings in
    let w = c.requires.«open».0 in
    let open_ = c.requires.«open».1 in
    let own = (known (goal.at.short_source-requires-clause-near c).After-index-turns w open_).0 in
    let within = (placed p c.args.place w c.loops.ensures.code c.loops.ensures.rings open_).within in
    rw c.deref.ensures.value
    (sources-near p c.args.place w c.index-turns.result.now.sources.items c.loops.ensures.code c.loops.ensures.rings open_.is within own.sources)

pub short_source-requires-clause-point : goal.short_source-requires-clause-point
short_source-requires-clause-point c =
    let p = c.args.self.now.rings in
    let it = known (goal.at.short_source-requires-clause-point c).After-index-turns c.requires.«open».0 c.requires.«open».1 in
    rw it.1 (turn-near p c.args.place c.requires.«open».0 c.loops.ensures.code c.loops.ensures.rings c.requires.«open».1)

pub short_source-requires-clause-passed : goal.short_source-requires-clause-passed
short_source-requires-clause-passed c =
    let it = known (goal.at.short_source-requires-clause-passed c).After-index-turns c.requires.«open».0 c.requires.«open».1 in
    rw (c.deref.ensures.value, it.1) it.0.passed

pub returns-in_default-clause-behind : goal.returns-in_default-clause-behind
returns-in_default-clause-behind c = λ w open_.
    let it = known (goal.at.returns-in_default-clause-behind c).After-index-turns w open_ in
    sources-told c.args.self.now.rings c.args.place w c.index-turns.result.now.sources.items it.0.sources
    (rw (c.in_default.is, c.deref.ensures.value, it.1) at c.short_source.ensures.found)

pub index-requires : goal.index-requires
index-requires c =
    let late = rw (c.in-Some.is, c.deref.ensures.value) at c.short_source.ensures.found in
    let within = slice_get_within c.index-turns.result.now.sources.items c.in-Some.number late.0 late.1 in
    search rules

pub returns-clause-behind : goal.returns-clause-behind
returns-clause-behind c = λ w open_.
    let p = c.args.self.now.rings in
    let sources = c.index-turns.result.now.sources.items in
    let number = c.in-Some.number in
    let it = known (goal.at.returns-clause-behind c).After-index-turns w open_ in
    let late = rw (c.in-Some.is, c.deref.ensures.value, it.1) at c.short_source.ensures.found in
    let same : c.index.result.now ≡ late.0 = c.index.ensures ∙ get_or_from_slice_get sources number late.0 c.index.result.now late.1 in
    subst (λ (s : Source). IsBehind p c.args.place w s.place) (sym same)
    (source-behind p c.args.place w sources number late.0 c.loops.ensures.code c.loops.ensures.rings open_.is it.0.sources late.1 late.2)

pub returns-clause-is : goal.returns-clause-is
returns-clause-is c =
    let d = c.args.self.now in
    let w = c.requires.«open».0 in
    let open_ = c.requires.«open».1 in
    let is = c.requires.is in
    let old = c.index_mut.result.now in
    let new : LoopTurns = record { state = old.state; sources = old.sources; readers = old.readers; passed = c.in-Some.number } in
    let there = (many (goal.at.returns-clause-is c).Start).rings in
    let at = found-turns d.rings d.turns.items c.args.place old is.turns there c.index_mut.ensures.value in
    let same = same_Some c.index-turns.result.now old
    (sym (found-turns d.rings d.turns.items c.args.place c.index-turns.result.now is.turns there c.index-turns.ensures) ∙ at) in
    let it = known (goal.at.returns-clause-is c).After-index-turns w open_ in
    let passed = rw (c.deref.ensures.value, it.1) at (c.short_source.ensures.passed c.in-Some.number c.in-Some.is) in
    let own = is.turns.each c.args.place w old open_.is at in
    record {
      turns = turns-passed d.rings d.turns.items c.args.place w new is.turns open_.is
          (record { sources = own.sources; readers = own.readers; fit = own.fit; passed = rw (← same) passed });
      points = is.points;
      holders = is.holders;
      lists = is.lists;
      held = is.held;
      exact = is.exact;
    }
