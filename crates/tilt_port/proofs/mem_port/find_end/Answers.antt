use Rattle.tilt_port.proofs.Pieces.{next_end-IsEnd}
use Rattle.tilt_port.proofs.mem_port.find_end.Goals as goal

pub returns-clause-within : goal.returns-clause-within
returns-clause-within c = rw (c.unwrap_or.ensures, c.next_cut.ensures) (next_end-IsEnd _ _ _ c.requires).within

pub returns-clause-beyond : goal.returns-clause-beyond
returns-clause-beyond c = rw (c.unwrap_or.ensures, c.next_cut.ensures) (next_end-IsEnd _ _ _ c.requires).beyond
