use Rattle.std.proofs.Common.{◌≡◌, ◌+◌, ◌∙◌, ℕ, get_or, slice_get, Some, sym, ap}
use Rattle.std.proofs.lemmas.Option.{get_or_from_slice_get}
use Rattle.tilt_pipe.proofs.Covered.{sources-push, sources-set}
use Rattle.tilt_pipe.proofs.sources.add_read.Goals as goal

pub returns-then-is_source : goal.returns-then-is_source
returns-then-is_source c = λ inputs reads is of.
    let items = c.args.sources.now.items in
    let read = c.args.read in
    let number = get_or c.args.numbers.now c.args.place 0 in
    let it = c.is_source.ensures c.if-is_source.true in
    let at : slice_get items number ≡ Some it.0 = rw c.deref.ensures.value at it.1 in
    let same : c.index.result.now ≡ it.0 = c.index.ensures ∙ get_or_from_slice_get items number it.0 c.index.result.now at in
    rw (c.with_read.ensures, same) (sources-set inputs reads read items number it.0 at (is ∙ ap (λ (n : ℕ). inputs + n) (sym it.2)) of)

pub returns : goal.returns
returns c = λ inputs reads is of.
    rw (c.in_ok-push.ensures.items, c.source_of.ensures) (sources-push inputs c.args.place reads c.args.read c.args.sources.now.items is of)
