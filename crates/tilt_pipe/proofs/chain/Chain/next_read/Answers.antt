-- A reader's next turn reads near its grid point, which lies near the stretches of loops.
use Rattle.std.proofs.Common.{◌≡◌, ◌∙◌, ℤ, ◌+ℤ◌, Option, Some, FitsSigned, w64, sym, ap, arith, rules}
use Rattle.std.proofs.lemmas.Int.{ints, to_z-of_z}
use Rattle.std.proofs.lemmas.Option.{slice_get_within}
use Rattle.tilt_pipe.proofs.Nears.{turn-near}
use Rattle.tilt_pipe.proofs.Points.{at-work, point-found, read_from, reads-from}
use Rattle.tilt_pipe.specs.Chain.{point_at}
use Rattle.tilt_pipe.specs.declared.chain.Reader.{Reader}
use Rattle.tilt_pipe.proofs.chain.Chain.next_read.Goals as goal
use Rattle.tilt_pipe.proofs.chain.Chain.next_read.Goals.{After-index, In-Some}

pub index-requires : goal.index-requires
index-requires c =
    let p = c.args.self.now.rings in
    let reader = c.requires.reader in
    let within = slice_get_within c.args.self.now.points.items c.args.reader.place (point_at p c.args.reader.place reader.work)
    (c.requires.points c.args.reader.place reader.work reader.is) in
    search rules

-- the point that is found, and where there is one, it fits its type, and so does what is read first
found : (c : After-index) → c.index.result.now ≡ point_at c.args.self.now.rings c.args.reader.place c.requires.reader.work
found c =
    let is = c.requires.reader in
    point-found c.args.self.now.rings c.args.self.now.points.items c.args.reader.place is.work c.index.result.now c.requires.points is.is c.index.ensures

record IsNearPoint (reader : Reader) (point : ℤ) : Type 0 where
  point_fits : FitsSigned w64 point
  first_fits : FitsSigned w64 reader.first
  both : FitsSigned w64 (point +ℤ reader.first)

near : (c : In-Some) → point_at c.args.self.now.rings c.args.reader.place c.requires.reader.work ≡ Some c.in-Some.point
    → IsNearPoint c.args.reader c.in-Some.point
near c at =
    let p = c.args.self.now.rings in
    let is = c.requires.reader in
    let it = at-work p c.args.reader.place is.work c.in-Some.point is.is at in
    let tick = turn-near p c.args.reader.place is.work c.loops.ensures.code c.loops.ensures.rings it.is_open in
    record { point_fits = omega (arith, ints); first_fits = omega (arith, ints); both = omega (arith, ints) }

pub overflow_add-result : goal.overflow_add-result
overflow_add-result c =
    let g = goal.at.overflow_add-result c in
    let fits = near g.In-Some (sym (found g.After-index) ∙ c.in-Some.is) in
    rw (to_z-of_z w64 c.in-Some.point fits.point_fits, to_z-of_z w64 c.args.reader.first fits.first_fits) fits.both

pub returns-in-Some : goal.returns-in-Some
returns-in-Some c =
    let p = c.args.self.now.rings in
    let reader = c.args.reader in
    let g = goal.at.returns-in-Some c in
    let at = sym (found g.After-index) ∙ c.in-Some.is in
    let fits = near g.In-Some at in
    rw (to_z-of_z w64 c.in-Some.point fits.point_fits, to_z-of_z w64 reader.first fits.first_fits, to_z-of_z w64 (c.in-Some.point +ℤ reader.first) fits.both)
    (sym (reads-from p reader c.requires.reader.work c.requires.reader.is ∙ ap (λ (t : Option ℤ). read_from t reader.first) at))

pub returns-in-None : goal.returns-in-None
returns-in-None c =
    let at = sym (found (goal.at.returns-in-None c).After-index) ∙ c.in-None.is in
    sym (reads-from c.args.self.now.rings c.args.reader c.requires.reader.work c.requires.reader.is
    ∙ ap (λ (t : Option ℤ). read_from t c.args.reader.first) at)
