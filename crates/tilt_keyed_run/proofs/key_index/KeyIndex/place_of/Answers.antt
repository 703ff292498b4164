use Rattle.std.proofs.Common.{ℕ, ◌∙◌, sym}
use Rattle.std.specs.Global.{Vec}
use Rattle.std.specs.Str.{bytes_eq}
use Rattle.tilt_keyed_run.proofs.Indexes.{position-map}
use Rattle.tilt_keyed_run.proofs.key_index.KeyIndex.place_of.Goals as goal

pub returns : goal.returns
returns c = rw (← c.self.view_is) (c.get_index_of.ensures.index ∙ sym (position-map (bytes_eq c.args.key.now) (λ (k : Vec ℕ). k.items) c.self.inside.keys.keys))
