use Rattle.tilt_keyed_line.proofs.Addresses.{comes-off, key-off}
use Rattle.tilt_keyed_line.proofs.Owning.{own-others, own-own, with-key-joined}
use Rattle.tilt_keyed_line.proofs.law.keys_come_off.Goals as goal

pub returns-clause-off : goal.returns-clause-off
returns-clause-off c = key-off

pub returns-clause-only : goal.returns-clause-only
returns-clause-only c = λ line key rest e. let off = comes-off line key rest e in (off.is, off.whole)

pub returns-clause-own : goal.returns-clause-own
returns-clause-own c = own-own

pub returns-clause-others : goal.returns-clause-others
returns-clause-others c = own-others

pub returns-clause-joined : goal.returns-clause-joined
returns-clause-joined c = with-key-joined
