use Rattle.std.proofs.Common.{◌≡◌, ◌∙◌, ◌+◌, ◌==◌, ℤ, pos, ◌+ℤ◌, ap, arith, List, Option, Some, None, if◌then◌else◌, to_z, of_z}
use Rattle.std.proofs.lemmas.Int.{ints}
use Rattle.std.specs.Int.{w128}
use Rattle.tilt_core.specs.CoreTree.{tree_of}
use Rattle.tilt_core.specs.Needs.{Need, either, reaching, asked_by}
use Rattle.tilt_bounds.specs.Margins.{evenly, need_at}
use Rattle.tilt_bounds.proofs.Steps.{asks-source, either-grows, within-reaching, all_within-source}
use Rattle.tilt_bounds.proofs.asking.+ask.Goals as goal

pub returns-in-Read-clause-asks : goal.returns-in-Read-clause-asks
returns-in-Read-clause-asks t c =
    λ source low.
    let read = c.in-Read.source in
    let below = rw c.in-Read.is at c.requires.reads in
    let offset : to_z w128 (of_z w128 c.from-offset.result) ≡ c.in-Read.offset = omega (arith, ints) in
    let moved = c.reaching.ensures ∙ ap (λ (d : ℤ). reaching c.args.need d d) offset in
    rw c.in-Read.is (ap (λ (ns : List (Option Need)). need_at ns source) c.ask_source.ensures ∙ asks-source c.args.asked.now read c.reaching.result source below
    ∙ ap (λ (n : Need). either (need_at c.args.asked.now source) (if read == source then Some n else None)) moved)

pub returns-in-Read-clause-bounded : goal.returns-in-Read-clause-bounded
returns-in-Read-clause-bounded t c =
    λ limit near all.
    let below = rw c.in-Read.is at c.requires.reads in
    rw (c.ask_source.ensures, c.reaching.ensures)
    (all_within-source (evenly (pos (limit + 18446744073709551616))) c.args.asked.now c.in-Read.source
    (reaching c.args.need (to_z w128 (of_z w128 c.from-offset.result)) (to_z w128 (of_z w128 c.from-offset.result))) below all
    (within-reaching limit c.args.need (to_z w128 (of_z w128 c.from-offset.result)) (to_z w128 (of_z w128 c.from-offset.result)) (omega (arith, ints)) (omega (arith, ints)) near))

pub returns-in-Reduce-clause-asks : goal.returns-in-Reduce-clause-asks
returns-in-Reduce-clause-asks t c =
    λ source low.
    let read = c.in-Reduce.source in
    let below = (rw c.in-Reduce.is at c.requires.reads).0 in
    let first : to_z w128 (of_z w128 (to_z w128 (of_z w128 c.from-first.result) +ℤ pos 1)) ≡ c.in-Reduce.from +ℤ pos 1 = omega (arith, ints) in
    let last : to_z w128 (of_z w128 c.from.result) ≡ c.in-Reduce.to = omega (arith, ints) in
    let moved : c.reaching-in-Reduce.result ≡ reaching c.args.need (c.in-Reduce.from +ℤ pos 1) c.in-Reduce.to = rw (first, last) at c.reaching-in-Reduce.ensures in
    rw c.in-Reduce.is (ap (λ (ns : List (Option Need)). need_at ns source) c.ask_source-in-Reduce.ensures ∙ asks-source c.args.asked.now read c.reaching-in-Reduce.result source below
    ∙ ap (λ (n : Need). either (need_at c.args.asked.now source) (if read == source then Some n else None)) moved)

pub returns-in-Reduce-clause-bounded : goal.returns-in-Reduce-clause-bounded
returns-in-Reduce-clause-bounded t c =
    λ limit near all.
    let below = (rw c.in-Reduce.is at c.requires.reads).0 in
    let first = to_z w128 (of_z w128 (to_z w128 (of_z w128 c.from-first.result) +ℤ pos 1)) in
    let last = to_z w128 (of_z w128 c.from.result) in
    rw (c.ask_source-in-Reduce.ensures, c.reaching-in-Reduce.ensures)
    (all_within-source (evenly (pos (limit + 18446744073709551616))) c.args.asked.now c.in-Reduce.source (reaching c.args.need first last) below all
    (within-reaching limit c.args.need first last (omega (arith, ints)) (omega (arith, ints)) near))

pub returns-in-Two-clause-asks : goal.returns-in-Two-clause-asks
returns-in-Two-clause-asks t c =
    λ source low.
    let n = c.args.need in
    let a = tree_of c.deref-in-Two.result.now in
    let b = tree_of c.deref-in-Two-2.result.now in
    let first = c.ask-in-Two.ensures.asks source low in
    let second = c.ask-in-Two-2.ensures.asks source (omega (arith, c.ask-in-Two.ensures.many)) in
    let both = second ∙ ap (λ (m : Option Need). either m (asked_by n b source)) first ∙ either-grows (need_at c.args.asked.now source) (asked_by n a source) (asked_by n b source) in
    rw c.in-Two.is (rw (c.deref-in-Two.ensures, c.deref-in-Two-2.ensures) at both)

pub returns-in-If-clause-asks : goal.returns-in-If-clause-asks
returns-in-If-clause-asks t c =
    λ source low.
    let n = c.args.need in
    let old = need_at c.args.asked.now source in
    let x = asked_by n (tree_of c.deref-in-If.result.now) source in
    let y = asked_by n (tree_of c.deref-in-If-2.result.now) source in
    let z = asked_by n (tree_of c.deref-in-If-3.result.now) source in
    let first = c.ask-in-If.ensures.asks source low in
    let second = c.ask-in-If-2.ensures.asks source (omega (arith, c.ask-in-If.ensures.many)) in
    let third = c.ask-in-If-3.ensures.asks source (omega (arith, c.ask-in-If.ensures.many, c.ask-in-If-2.ensures.many)) in
    let all =
    third ∙ ap (λ (m : Option Need). either m z) (second ∙ ap (λ (m : Option Need). either m y) first)
    ∙ ap (λ (m : Option Need). either m z) (either-grows old x y) ∙ either-grows old (either x y) z ∙ ap (either old) (either-grows x y z) in
    rw c.in-If.is (rw (c.deref-in-If.ensures, c.deref-in-If-2.ensures, c.deref-in-If-3.ensures) at all)
