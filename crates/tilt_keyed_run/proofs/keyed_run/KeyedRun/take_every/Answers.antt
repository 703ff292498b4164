use Rattle.std.proofs.Common.{rules, ◌≡◌, ◌∙◌, ◌∷◌, [], ℕ, List, length, map, ap, sym}
use Rattle.std.proofs.lemmas.List.{take_at}
use Rattle.tilt_keyed_line.specs.Feeds.{given}
use Rattle.tilt_keyed_run.proofs.Indexes.{given-named}
use Rattle.tilt_keyed_run.specs.Runs.{AreKeysOf}
use Rattle.tilt_keyed_run.proofs.keyed_run.KeyedRun.take_every.Goals as goal

pub returns-clause-is : goal.returns-clause-is
returns-clause-is g c = λ recipe feed is.
    let ones = c.args.self.now.keys in
    let many : length c.take_all.new.keys ≡ ones.len = search rules in
    let before : AreKeysOf g.R.KeyRun.is c.deref_mut.result.now recipe feed.keys = rw c.deref_mut.ensures.value is.keys_are in
    let keys : AreKeysOf g.R.KeyRun.is c.take_all.new.keys recipe (map (given c.args.line.now) feed.keys) = c.in_ok-why.ensures.is recipe feed.keys before in
    record {
      shared_is = ap (λ (line : List ℕ). line ∷ []) c.in_ok-kept.ensures.items;
      keys_are = rw (take_at c.take_all.new.keys _ ones.len many) keys;
      places_are = is.places_are ∙ sym (given-named c.args.line.now feed.keys);
    }
