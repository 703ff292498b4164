use Rattle.tilt_live_app.proofs.folder_fault.put_fault.Goals as goal

pub returns : goal.returns
returns g c = rw (c.front_of.ensures, c.as_bytes.ensures.value) at c.put_line.ensures
