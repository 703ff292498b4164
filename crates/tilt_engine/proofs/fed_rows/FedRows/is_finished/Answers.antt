use Rattle.tilt_engine.proofs.fed_rows.FedRows.is_finished.Goals as goal

pub returns : goal.returns
returns c = λ first feed is. is.finished
