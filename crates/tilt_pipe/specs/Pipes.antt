-- What a pipe keeps.
use Rattle.std.specs.Prelude.{◌≡◌, false, [], map}
use Rattle.tilt_pipe.specs.Chain.{IsChain}
use Rattle.tilt_pipe.specs.Made.{stages_after}
use Rattle.tilt_pipe.specs.Pulled.{given_in, stages_in}
use Rattle.tilt_pipe.specs.Value.{PipeParts}
use Rattle.tilt_pipe.specs.declared.chain.Chain.{Chain}
use Rattle.tilt_pipe.specs.declared.pipe.Pipe.TheInside.{Inside}

-- a pipe is seen as what its rings hold, and as many snapshots as its last loop has made
abbrev pub pipe_parts : Inside → PipeParts
pipe_parts p = record {
  code = p.chain.rings.code;
  inputs = p.chain.rings.inputs;
  rings = map (λ r. r.held) p.chain.rings.rings;
  given = given_in p.chain.rings;
  refused = p.refused;
}

-- between two snapshots the loops of a pipe have made what its definition says
pub record IsExact (c : Chain) : Type 0 where
  pub chain : IsChain c
  pub made : stages_in c.rings ≡ stages_after c.rings.code c.rings.inputs (given_in c.rings)

-- the same, and no loop waits for another
pub record IsWhole (p : Inside) : Type 0 where
  pub exact : IsExact p.chain
  pub none_asked : p.asked.items ≡ []

-- what holds of a pipe: nothing is said once memory ran out
abbrev pub IsPipe : Inside → Type 0
IsPipe p = p.refused ≡ false → IsWhole p
