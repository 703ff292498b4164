use Rattle.std.proofs.Common.{List, ℕ, length, subst}
use Rattle.std.proofs.lemmas.Result.{on_ok_weaker}
use Rattle.tilt_store.specs.Kept.{Torn}
use Rattle.tilt_store.specs.MemFolder.{kept_of}
use Rattle.tilt_store.proofs.tear.tear_change.Goals as goal

pub returns-in-Append : goal.returns-in-Append
returns-in-Append c =
    let old = kept_of c.args.contents.now in
    rw (c.in-Append.is) (on_ok_weaker c.tear_append.result
    (λ torn. subst (λ (bytes : List ℕ). Torn c.in-Append.at (length bytes) old (record old { output = c.tear_append.new.output.items })) c.deref.ensures.value (torn old.state))
    c.tear_append.ensures)

pub returns-in-Cut : goal.returns-in-Cut
returns-in-Cut c = rw (c.in-Cut.is) (c.tear_cut.ensures c.args.contents.now.state.items)
