use Rattle.std.specs.Prelude.{string_bytes}
use Rattle.std.proofs.Common.{[]}
use Rattle.tilt_cli.specs.Upto.{upto_of}
use Rattle.tilt_app.proofs.Shown.{does_weaker, fits_saved, fits_unsaved}
use Rattle.tilt_app.proofs.answer.answer.Goals as goal

pub run-requires-clause-lent : goal.run-requires-clause-lent
run-requires-clause-lent g c =
    λ name turn. c.requires.lent [] name (rw c.in-Run.is (rw (c.deref.ensures, c.deref-in-Run.ensures.value) at turn))

pub compile-requires : goal.compile-requires
compile-requires g c =
    let fuse = rw c.in-Compile.is at c.is_plain-fuse.ensures in
    λ name turn. c.requires.lent [] name (rw c.in-Compile.is (rw (c.deref-in-Compile.ensures, fuse) at turn))

pub exec-requires : goal.exec-requires
exec-requires g c =
    λ name turn. c.requires.lent [] name (rw c.in-Exec.is (rw (c.deref-in-Exec.ensures, c.deref-in-Exec-2.ensures.value) at turn))

pub explain-requires : goal.explain-requires
explain-requires g c =
    λ name turn. c.requires.lent [] name (rw c.in-Explain.is (rw c.deref-in-Explain.ensures at turn))

pub pipe-requires : goal.pipe-requires
pipe-requires g c =
    let fuse = rw c.in-Pipe.is at c.is_plain-fuse.ensures in
    λ name turn. c.requires.lent [] name (rw c.in-Pipe.is (rw (c.deref-in-Pipe.ensures, c.deref-in-Pipe-2.ensures.value, fuse) at turn))

pub watch-requires : goal.watch-requires
watch-requires g c =
    λ name turn. c.requires.lent [] name (rw c.in-Watch.is (rw (c.deref-in-Watch.ensures, c.deref-in-Watch-2.ensures.value) at turn))

pub parts-requires-clause-lent : goal.parts-requires-clause-lent
parts-requires-clause-lent g c =
    λ name turn. c.requires.lent [] name (rw c.in-Parts.is (rw (
      c.division.ensures.cuts,
      c.division.ensures.order,
      c.deref-in-Parts.ensures,
      c.deref-in-Parts-2.ensures.value,
      c.deref-in-Parts-3.ensures.value,
      c.deref-in-Parts-4.ensures.value,
    ) at turn))

pub parts-requires-clause-cuts : goal.parts-requires-clause-cuts
parts-requires-clause-cuts g c =
    let within = rw c.in-Parts.is at c.requires.within in
    rw (c.division.ensures.cuts, c.deref-in-Parts-3.ensures.value) within

pub flow-requires : goal.flow-requires
flow-requires g c =
    λ name turn. c.requires.lent [] name (rw c.in-Flow.is (rw (c.deref-in-Flow.ensures, c.deref-in-Flow-2.ensures.value) at turn))

pub fix-requires : goal.fix-requires
fix-requires g c =
    λ name turn. c.requires.lent [] name
    (rw c.in-Fix.is (rw (c.deref-in-Fix.ensures, c.deref-in-Fix-2.ensures.value, c.deref-in-Fix-3.ensures) at turn))

pub start_session-requires-clause-lent : goal.start_session-requires-clause-lent
start_session-requires-clause-lent g c =
    λ name turn. c.requires.lent [] name
    (rw c.in-Start.is (rw (c.cut.ensures.upto, c.cut.ensures.save, c.deref-in-Start.ensures, c.deref-in-Start-2.ensures.value, c.deref-in-Start-3.ensures) at turn))

pub resume_session-requires-clause-lent : goal.resume_session-requires-clause-lent
resume_session-requires-clause-lent g c =
    λ name turn. c.requires.lent [] name (rw c.in-ResumeUpto.is
    (rw (c.ending.ensures, c.deref-in-ResumeUpto.ensures, c.deref-in-ResumeUpto-2.ensures.value, c.deref-in-ResumeUpto-3.ensures) at turn))

pub resume_session-requires-in-ResumeEnd-clause-lent : goal.resume_session-requires-in-ResumeEnd-clause-lent
resume_session-requires-in-ResumeEnd-clause-lent g c =
    λ name turn. c.requires.lent [] name (rw c.in-ResumeEnd.is (rw (c.deref-in-ResumeEnd.ensures, c.deref-in-ResumeEnd-2.ensures.value) at turn))

pub returns-in-ResumeUpto-clause-does : goal.returns-in-ResumeUpto-clause-does
returns-in-ResumeUpto-clause-does g c =
    let does =
    rw (c.ending.ensures, c.deref-in-ResumeUpto.ensures, c.deref-in-ResumeUpto-2.ensures.value, c.deref-in-ResumeUpto-3.ensures)
    at c.resume_session.ensures.does in
    rw c.in-ResumeUpto.is (does_weaker _ _ _ _ _ _ _ (fits_saved ⊥ ⊥ (record { upto = upto_of c.in-ResumeUpto.upto; save = string_bytes c.in-ResumeUpto.save })) does)

pub returns-in-ResumeUpto-clause-continues : goal.returns-in-ResumeUpto-clause-continues
returns-in-ResumeUpto-clause-continues g c =
    λ told. rw c.in-ResumeUpto.is
    (rw (c.ending.ensures, c.deref-in-ResumeUpto.ensures, c.deref-in-ResumeUpto-2.ensures.value, c.deref-in-ResumeUpto-3.ensures)
    at (c.resume_session.ensures.beyond told))

pub returns-in-ResumeEnd-clause-does : goal.returns-in-ResumeEnd-clause-does
returns-in-ResumeEnd-clause-does g c =
    let does = rw (c.deref-in-ResumeEnd.ensures, c.deref-in-ResumeEnd-2.ensures.value) at c.resume_session-in-ResumeEnd.ensures.does in
    rw c.in-ResumeEnd.is (does_weaker _ _ _ _ _ _ _ (fits_unsaved ⊥ ⊥) does)

pub returns-in-ResumeEnd-clause-continues : goal.returns-in-ResumeEnd-clause-continues
returns-in-ResumeEnd-clause-continues g c =
    λ told. rw c.in-ResumeEnd.is (rw (c.deref-in-ResumeEnd.ensures, c.deref-in-ResumeEnd-2.ensures.value) at (c.resume_session-in-ResumeEnd.ensures.beyond told))
