-- The ring is settled, and goes off the list if the loop doesn't hold it.
use Rattle.std.specs.List.{swap_remove}
use Rattle.tilt_pipe.proofs.Trimming.{alike-long}
use Rattle.std.proofs.Common.{◌≡◌, ◌<◌, ◌∙◌, ℕ, List, Some, length, slice_get, sym, ap, arith, rules}
use Rattle.std.proofs.lemmas.Option.{slice_get_within, get_or_from_slice_get}
use Rattle.tilt_pipe.proofs.Covered.{contains-at}
use Rattle.tilt_pipe.proofs.Settled.{left-less, left-shorter, list-read, list-within, listed-there, ring-read}
use Rattle.tilt_pipe.specs.Chain.{held_in}
use Rattle.tilt_pipe.proofs.chain.Chain.trim_number.Goals as goal
use Rattle.tilt_pipe.proofs.chain.Chain.trim_number.Goals.{After-index-ring, After-index_mut}

pub index-requires : goal.index-requires
index-requires c = let within = list-within c.args.self.now c.args.place c.requires.may c.requires.there in search rules

pub index-ring-requires : goal.index-ring-requires
index-ring-requires c =
    let d = c.args.self.now in
    let same = list-read d.held.items c.args.place c.index.result.now (list-within d c.args.place c.requires.may c.requires.there) c.index.ensures in
    let below : c.args.number < length c.index.result.now.items = omega (arith, c.requires.many, ap length same) in
    search rules

at : (c : After-index-ring) → slice_get (held_in c.args.self.now.held.items c.args.place) c.args.number ≡ Some c.index-ring.result.now
at c =
    ring-read c.args.self.now c.args.place c.args.number c.index-ring.result.now c.index.result.now c.requires.may c.requires.there
    (omega (arith, c.requires.many)) c.index.ensures c.index-ring.ensures

pub trim-requires-clause-there : goal.trim-requires-clause-there
trim-requires-clause-there c =
    listed-there c.args.self.now c.args.place c.args.number c.index-ring.result.now c.requires.may (at (goal.at.trim-requires-clause-there c).After-index-ring)

pub holds-requires : goal.holds-requires
holds-requires c =
    let e = c.in_ok-trim.ensures.settles.lets in
    let now = e.listed c.args.place c.args.number c.index-ring.result.now (at (goal.at.holds-requires c).After-index-ring) in
    e.may.lists.within c.args.place c.index-ring.result.now
    (contains-at (held_in c.trim.new.self.held.items c.args.place) c.args.number c.index-ring.result.now now)

pub returns-else-not-holds-clause-left : goal.returns-else-not-holds-clause-left
returns-else-not-holds-clause-left c =
    left-less c.args.self.now c.trim.new.self c.args.place c.args.number c.index-ring.result.now c.requires
    (at (goal.at.returns-else-not-holds-clause-left c).After-index-ring) c.in_ok-trim.ensures.settles.lets c.in_ok-trim.ensures.settles.settled

-- the list after it let go
read : (c : After-index_mut) → held_in c.trim.new.self.held.items c.args.place ≡ c.index_mut.result.now.items
read c =
    let z = c.trim.new.self in
    let e = c.in_ok-trim.ensures.settles.lets in
    let there : c.args.place < length z.rings.rings = omega (arith, c.requires.there, alike-long c.args.self.now.rings z.rings e.alike) in
    list-read z.held.items c.args.place c.index_mut.result.now (list-within z c.args.place e.may there) c.index_mut.ensures.value

pub index_mut-requires : goal.index_mut-requires
index_mut-requires c =
    let z = c.trim.new.self in
    let e = c.in_ok-trim.ensures.settles.lets in
    let there : c.args.place < length z.rings.rings = omega (arith, c.requires.there, alike-long c.args.self.now.rings z.rings e.alike) in
    let within = list-within z c.args.place e.may there in
    search rules

pub swap_remove-requires : goal.swap_remove-requires
swap_remove-requires c =
    let now = c.in_ok-trim.ensures.settles.lets.listed c.args.place c.args.number c.index-ring.result.now (at (goal.at.swap_remove-requires c).After-index-ring) in
    let below : c.args.number < length c.index_mut.result.now.items =
    omega (arith, ap length (read c), slice_get_within (held_in c.trim.new.self.held.items c.args.place) c.args.number c.index-ring.result.now now) in
    search rules

pub returns-then-not-holds-clause-left : goal.returns-then-not-holds-clause-left
returns-then-not-holds-clause-left c =
    let z = c.trim.new.self in
    let ring = c.index-ring.result.now in
    let old = at (goal.at.returns-then-not-holds-clause-left c).After-index-ring in
    let now = c.in_ok-trim.ensures.settles.lets.listed c.args.place c.args.number ring old in
    let same = read (goal.at.returns-then-not-holds-clause-left c).After-index_mut in
    let taken : c.swap_remove.result ≡ ring =
    c.swap_remove.ensures.value
    ∙ get_or_from_slice_get c.index_mut.result.now.items c.args.number ring c.swap_remove.result (ap (λ (xs : List ℕ). slice_get xs c.args.number) (sym same) ∙ now) in
    left-shorter z c.args.place c.args.number ring c.swap_remove.new.self
    (left-less c.args.self.now z c.args.place c.args.number ring c.requires old c.in_ok-trim.ensures.settles.lets c.in_ok-trim.ensures.settles.settled) now
    (c.swap_remove.ensures.items ∙ ap (swap_remove c.index_mut.result.now.items c.args.number) taken
    ∙ ap (λ (xs : List ℕ). swap_remove xs c.args.number ring) (sym same))
    (c.holds.ensures c.if-not-holds.true)
