use Rattle.tilt_report.proofs.fault.Fault.put_words.Goals as goal

pub returns-in-ReadFault : goal.returns-in-ReadFault
returns-in-ReadFault g c = rw (c.in-ReadFault.is, ← c.as_bytes.ensures.value) c.put_named.ensures

pub returns-in-SaveFault : goal.returns-in-SaveFault
returns-in-SaveFault g c = rw (c.in-SaveFault.is, ← c.as_bytes-in-SaveFault.ensures.value) c.put_named-in-SaveFault.ensures
