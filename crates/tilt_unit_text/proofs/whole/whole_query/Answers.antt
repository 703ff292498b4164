use Rattle.std.proofs.Common.{◌≡◌, None, length, map, sym, ap, ◌∙◌, arith}
use Rattle.std.proofs.lemmas.List.{length-map}
use Rattle.tilt_syntax.specs.Tree.{statement_tree}
use Rattle.tilt_types.proofs.Texts.{query-few}
use Rattle.tilt_unit_text.proofs.Frames.{frames_length, whole_core}
use Rattle.tilt_unit_text.proofs.WholeStatements.{no_more}
use Rattle.tilt_unit_text.proofs.WholeWritten.{neither_fault, none_long}
use Rattle.tilt_unit_text.specs.Named.{whole_statements}
use Rattle.tilt_unit_text.specs.Size.{long_fault}
use Rattle.tilt_unit_text.specs.Units.{large_fault}
use Rattle.tilt_unit_text.proofs.whole.whole_query.Goals as goal

pub large_fault-requires-clause-few : goal.large_fault-requires-clause-few
large_fault-requires-clause-few c =
    let trees = ap length c.statements-2.ensures.trees in
    omega (arith, query-few c.args.query.now c.statements-2.ensures.parsed, trees, length-map c.statements-2.result.now statement_tree)

pub large_fault-requires-clause-small : goal.large_fault-requires-clause-small
large_fault-requires-clause-small c =
    let core = c.args.core.now in
    let n = frames_length (length core.inputs) core.defs c.args.translated.defs.items c.requires.core in
    let few = c.inputs.ensures.accepted.few in
    rw c.deref-2.ensures.value (omega arith)

pub long_fault-requires : goal.long_fault-requires
long_fault-requires c =
    let whole : map statement_tree c.in_ok-statements.statements.items ≡ whole_statements c.args.query.now c.args.translated.defs.items =
    c.in_ok-statements.ensures ∙ (λ i. whole_statements (c.statements.ensures.trees i) (c.deref.ensures.value i)) in
    let count = ap length whole in
    let few = no_more c.args.query.now c.args.translated.defs.items in
    rw c.deref-3.ensures.value (omega (arith, query-few c.args.query.now c.statements.ensures.parsed, count, few, length-map c.in_ok-statements.statements.items statement_tree))

pub new-requires : goal.new-requires
new-requires c =
    let whole : map statement_tree c.in_ok-statements.statements.items ≡ whole_statements c.args.query.now c.args.translated.defs.items =
    c.in_ok-statements.ensures ∙ (λ i. whole_statements (c.statements.ensures.trees i) (c.deref.ensures.value i)) in
    let same : map statement_tree c.deref-3.result.now ≡ whole_statements c.args.query.now c.args.translated.defs.items =
    ap (map statement_tree) c.deref-3.ensures.value ∙ whole in
    let none = neither_fault c.large_fault.result c.long_fault.result (sym c.or.ensures ∙ c.in-None.is) in
    let short = none_long 1 (whole_statements c.args.query.now c.args.translated.defs.items)
    (ap (long_fault 1) (sym same) ∙ sym c.long_fault.ensures ∙ none.1) in
    rw whole (c.requires.written c.statements.ensures.parsed short)

pub new-requires-in-None : goal.new-requires-in-None
new-requires-in-None c =
    let core = c.args.core.now in
    let places = map statement_tree c.statements-2.result.now in
    let inputs : c.in_ok-inputs.inputs.items ≡ core.inputs = c.in_ok-inputs.ensures ∙ c.inputs.ensures.names in
    let names : c.in_ok-names.names.items ≡ core.names = c.in_ok-names.ensures ∙ c.names.ensures.names in
    let neither = neither_fault c.large_fault.result c.long_fault.result (sym c.or.ensures ∙ c.in-None.is) in
    let none : large_fault places 0 c.args.translated.defs.items ≡ None =
    ap (large_fault places 0) (sym c.deref-2.ensures.value) ∙ sym c.large_fault.ensures ∙ neither.0 in
    rw (inputs, names) (whole_core places core c.args.translated.defs.items c.inputs.ensures.accepted c.requires.core none)
