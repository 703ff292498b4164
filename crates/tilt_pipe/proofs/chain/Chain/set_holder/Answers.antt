-- The ring is in the list of the reader's loop before its holder is set.
use Rattle.std.proofs.Common.{◌⊎◌, ◌≡◌, ◌++◌, ◌∷◌, [], ℕ, List, sym, subst, rules}
use Rattle.tilt_pipe.proofs.Settled.{list-read, named-goes, named-settled, reader-within}
use Rattle.tilt_pipe.specs.Chain.{held_in}
use Rattle.tilt_pipe.proofs.chain.Chain.set_holder.Goals as goal
use Rattle.tilt_pipe.proofs.chain.Chain.set_holder.Goals.{After-add_ring}

pub index_mut-requires : goal.index_mut-requires
index_mut-requires c =
    let within = reader-within c.args.self.now c.args.place c.args.reader c.requires.may c.requires.holder in search rules

added : (c : After-add_ring) → let new = c.add_ring.new.rings.items in let old = held_in c.args.self.now.held.items c.args.reader.place in
    (new ≡ old) ⊎ (new ≡ old ++ c.args.place ∷ [])
added c =
    let within = reader-within c.args.self.now c.args.place c.args.reader c.requires.may c.requires.holder in
    subst (λ (list : List ℕ). (c.add_ring.new.rings.items ≡ list) ⊎ (c.add_ring.new.rings.items ≡ list ++ c.args.place ∷ []))
    (sym (list-read c.args.self.now.held.items c.args.reader.place c.index_mut.result.now within c.index_mut.ensures.value)) c.add_ring.ensures.added

pub returns-clause-settles : goal.returns-clause-settles
returns-clause-settles c =
    let own = added (goal.at.returns-clause-settles c).After-add_ring in
    record {
      lets = named-goes c.args.self.now c.args.place c.args.reader c.add_ring.new.rings c.loops.ensures.rings c.requires.may
          c.requires.there c.requires.holder c.in_ok-add_ring.ensures.among own;
      settled = named-settled c.args.self.now c.args.place c.args.reader c.add_ring.new.rings c.loops.ensures.rings c.requires.may
          c.requires.there c.requires.holder c.in_ok-add_ring.ensures.among own;
    }
