use Rattle.std.proofs.Common.{◌≡◌, ◌++◌, ℕ, List, length, map, ap, ◌∙◌, arith, rules, vec_len}
use Rattle.tilt_syntax.specs.Tree.{StatementTree, statement_tree}
use Rattle.tilt_types.proofs.Built.{cut-IsCore}
use Rattle.tilt_types.proofs.Texts.{source_names-few}
use Rattle.tilt_types.specs.Checked.{definitions, input_names, let_names, source_names}
use Rattle.tilt_types.proofs.builder.build.Goals as goal

pub definitions-requires-clause-few : goal.definitions-requires-clause-few
definitions-requires-clause-few c =
    let trees = map statement_tree c.statements-statements.result.now in
    let sources : c.deref.result.now ≡ source_names c.args.query.now =
    c.deref.ensures.value ∙ c.in_ok-push_let_names.ensures.names
    ∙ ap (λ (xs : List (List ℕ)). xs ++ let_names trees) c.in_ok-sources.ensures.names
    ∙ ap source_names c.statements-statements.ensures.trees in
    omega (arith, ap length sources, source_names-few c.args.query.now c.statements-statements.ensures.parsed)

pub new-requires : goal.new-requires
new-requires c =
    let trees = map statement_tree c.statements-statements.result.now in
    let all = c.push_let_names.new.names.items in
    let sources : all ≡ source_names c.args.query.now =
    c.in_ok-push_let_names.ensures.names
    ∙ ap (λ (xs : List (List ℕ)). xs ++ let_names trees) c.in_ok-sources.ensures.names
    ∙ ap source_names c.statements-statements.ensures.trees in
    let stored : vec_len c.in_ok-sources.sources ≡ length c.in_ok-sources.sources.items = search rules in
    let count : c.len-count.result ≡ length (input_names c.args.query.now) =
    c.len-count.ensures ∙ stored ∙ ap length (c.in_ok-sources.ensures.names ∙ ap input_names c.statements-statements.ensures.trees) in
    let defs : c.in_ok-defs.defs.items ≡ definitions all c.args.query.now =
    c.in_ok-defs.ensures ∙ ap (λ (xs : List (List ℕ)). definitions xs trees) c.deref.ensures.value
    ∙ ap (λ (query : List StatementTree). definitions all query) c.statements-statements.ensures.trees in
    cut-IsCore c.args.query.now all c.split_off.new.self.items c.in_ok-names.names.items c.in_ok-defs.defs.items c.len-count.result
    c.statements-statements.ensures.parsed c.requires (c.in_ok-push_let_names.ensures.words c.in_ok-sources.ensures.words)
    sources count c.in_ok-names.ensures.items c.in_ok-names.ensures.tail defs
