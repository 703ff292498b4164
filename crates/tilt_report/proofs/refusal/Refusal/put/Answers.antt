use Rattle.tilt_report.proofs.refusal.Refusal.put.Goals as goal

pub returns-in-UnexpectedName : goal.returns-in-UnexpectedName
returns-in-UnexpectedName g c = rw (c.in-UnexpectedName.is, ← c.bytes.ensures.value) c.put_named.ensures

pub returns-in-UnboundInput : goal.returns-in-UnboundInput
returns-in-UnboundInput g c = rw (c.in-UnboundInput.is, ← c.bytes-in-UnboundInput.ensures.value) c.put_named-in-UnboundInput.ensures

pub returns-in-BadByte : goal.returns-in-BadByte
returns-in-BadByte g c = rw c.in-BadByte.is c.put_counted.ensures

pub returns-in-BigNumber : goal.returns-in-BigNumber
returns-in-BigNumber g c = rw c.in-BigNumber.is c.put_counted-in-BigNumber.ensures

pub returns-in-TooManyStatements : goal.returns-in-TooManyStatements
returns-in-TooManyStatements g c = rw c.in-TooManyStatements.is c.put_text.ensures

pub returns-in-BadCheckpoint : goal.returns-in-BadCheckpoint
returns-in-BadCheckpoint g c = rw c.in-BadCheckpoint.is c.put_text-in-BadCheckpoint.ensures

pub returns-in-CutNames : goal.returns-in-CutNames
returns-in-CutNames g c = rw (c.in-CutNames.is, ← c.bytes-in-CutNames.ensures.value) c.put_named-in-CutNames.ensures
