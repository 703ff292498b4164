use Rattle.std.proofs.Common.{◌∙◌}
use Rattle.std.specs.Option.{option_map}
use Rattle.tilt_code.proofs.Pieces.{left_empty, some_map}
use Rattle.tilt_code.proofs.word.Words.is_empty.Goals as goal

pub returns : goal.returns
returns c = rw (← c.self.view_is) (left_empty 32 (option_map (λ b. b.now) c.self.inside.left) c.is_none.result (some_map _ c.self.inside.left ∙ c.is_none.ensures))
