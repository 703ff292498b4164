use Rattle.tilt_live_app.proofs.serve.serve.Goals as goal

pub returns-in-By-clause-served : goal.returns-in-By-clause-served
returns-in-By-clause-served g c = λ start at. rw c.in-By.is (c.serve_counting.ensures.served start at)
