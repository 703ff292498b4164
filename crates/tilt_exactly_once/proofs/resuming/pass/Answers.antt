use Rattle.std.proofs.Common.{◌≡◌, ◌∙◌, arith}
use Rattle.tilt_exactly_once.proofs.Lasts.{ends-other, ends-same}
use Rattle.tilt_exactly_once.specs.Passing.{IsReached, count_passed}
use Rattle.tilt_exactly_once.proofs.resuming.pass.Goals as goal

pub returns-then-ends_with-clause-passed : goal.returns-then-ends_with-clause-passed
returns-then-ends_with-clause-passed g c told of bytes kept =
    let over = c.in_ok-last.ensures.passed told in
    let count : c.in-Some.count ≡ count_passed c.args.from bytes = let taken = c.taken.ensures of bytes kept in grind (arith, taken, c.in-Some.ensures) in
    record {
      passed = over.passed;
      read = over.read;
      all = over.all ∙ count;
      so = ends-same over.passed bytes _ _ c.ends_with.result (c.deref-2.ensures.value ∙ over.so) (c.deref.ensures.value ∙ kept.last)
          c.ends_with.ensures.value c.if-ends_with.true;
      unwritten = over.unwritten;
    }

pub returns-clause-unpassed : goal.returns-clause-unpassed
returns-clause-unpassed g c of bytes kept =
    let taken = c.taken.ensures of bytes kept in
    let reached : IsReached c.args.from bytes = grind (arith, taken, c.in-Some.ensures) in
    let count : c.in-Some.count ≡ count_passed c.args.from bytes = grind (arith, taken, c.in-Some.ensures) in (
      reached,
      λ told.
          let over = c.in_ok-last.ensures.passed told in
          record {
            passed = over.passed;
            read = over.read;
            all = over.all ∙ count;
            so = ends-other over.passed bytes _ _ c.ends_with.result (c.deref-2.ensures.value ∙ over.so) (c.deref.ensures.value ∙ kept.last)
                c.ends_with.ensures.value c.if-ends_with.false;
            unwritten = over.unwritten;
          },
    )
