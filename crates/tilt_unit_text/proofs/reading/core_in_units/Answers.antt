use Rattle.std.proofs.Common.{◌≡◌, ◌++◌, Ok, ℕ, List, length, map, sym, ap, ◌∙◌}
use Rattle.std.proofs.lemmas.List.Elements.{recursion_from_All}
use Rattle.tilt_core.specs.CoreTree.{Definition}
use Rattle.tilt_syntax.specs.Tree.{StatementTree, statement_tree}
use Rattle.tilt_types.proofs.CheckedCore.{checked-core}
use Rattle.tilt_types.specs.Checked.{core_of}
use Rattle.tilt_units.specs.Translation.{UnitDefinition, query_of, translated, unit_definition}
use Rattle.tilt_unit_text.proofs.Chains.{faultless}
use Rattle.tilt_unit_text.proofs.Frames.{translation_is}
use Rattle.tilt_unit_text.proofs.WholeWritten.{scales_length, whole_written}
use Rattle.tilt_unit_text.specs.Numbers.{IsWritten}
use Rattle.tilt_unit_text.specs.Units.{of_scale, scales_for, unit_definitions}
use Rattle.tilt_unit_text.proofs.reading.core_in_units.Goals as goal

pub whole_query-requires-clause-core : goal.whole_query-requires-clause-core
whole_query-requires-clause-core c =
    let core = c.args.core.now in
    let numbers = c.args.numbers.now in
    let places = c.args.places.now in
    let parts = c.in_ok-parts.parts.items in
    let names = c.deref.ensures.value ∙ c.in_ok-names.ensures in
    let units : map unit_definition c.deref-3.result.now ≡ unit_definitions (core.inputs ++ core.names) numbers places core.defs =
    ap (map unit_definition) c.deref-3.ensures.value ∙ c.in_ok-units.ensures
    ∙ ap (λ (xs : List (List ℕ)). unit_definitions xs numbers (map statement_tree c.statements.result.now) c.defs.result.now) names
    ∙ ap (λ (q : List StatementTree). unit_definitions (core.inputs ++ core.names) numbers q c.defs.result.now) c.statements.ensures.trees
    ∙ ap (λ (ds : List Definition). unit_definitions (core.inputs ++ core.names) numbers places ds) c.defs.ensures.defs in
    let is : translated parts (unit_definitions (core.inputs ++ core.names) numbers places core.defs) ≡ Ok (query_of c.in_ok-translated.translated) =
    ap (λ (ds : List UnitDefinition). translated parts ds) (sym units)
    ∙ ap (λ (xs : List ℕ). translated xs (map unit_definition c.deref-3.result.now)) (sym c.deref-2.ensures.value)
    ∙ faultless (of_scale places) (translated c.deref-2.result.now (map unit_definition c.deref-3.result.now)) (query_of c.in_ok-translated.translated)
    c.in_ok-translated.ensures in
    let same = sym (checked-core c.args.query.now core c.requires.checked) ∙ ap core_of (sym c.requires.placed) in
    translation_is numbers places core parts (query_of c.in_ok-translated.translated) c.inputs.ensures.accepted same is

pub whole_query-requires-clause-written : goal.whole_query-requires-clause-written
whole_query-requires-clause-written c =
    let core = c.args.core.now in
    let numbers = c.args.numbers.now in
    let places = c.args.places.now in
    let parts = c.in_ok-parts.parts.items in
    let names = c.deref.ensures.value ∙ c.in_ok-names.ensures in
    let units : map unit_definition c.deref-3.result.now ≡ unit_definitions (core.inputs ++ core.names) numbers places core.defs =
    ap (map unit_definition) c.deref-3.ensures.value ∙ c.in_ok-units.ensures
    ∙ ap (λ (xs : List (List ℕ)). unit_definitions xs numbers (map statement_tree c.statements.result.now) c.defs.result.now) names
    ∙ ap (λ (q : List StatementTree). unit_definitions (core.inputs ++ core.names) numbers q c.defs.result.now) c.statements.ensures.trees
    ∙ ap (λ (ds : List Definition). unit_definitions (core.inputs ++ core.names) numbers places ds) c.defs.ensures.defs in
    let is : translated parts (unit_definitions (core.inputs ++ core.names) numbers places core.defs) ≡ Ok (query_of c.in_ok-translated.translated) =
    ap (λ (ds : List UnitDefinition). translated parts ds) (sym units)
    ∙ ap (λ (xs : List ℕ). translated xs (map unit_definition c.deref-3.result.now)) (sym c.deref-2.ensures.value)
    ∙ faultless (of_scale places) (translated c.deref-2.result.now (map unit_definition c.deref-3.result.now)) (query_of c.in_ok-translated.translated)
    c.in_ok-translated.ensures in
    let given : parts ≡ scales_for c.args.scales.now core.inputs =
    c.in_ok-parts.ensures.parts ∙ ap (scales_for c.args.scales.now) c.inputs.ensures.names in
    λ read short. whole_written numbers c.args.query.now places core parts (query_of c.in_ok-translated.translated)
    (recursion_from_All IsWritten numbers c.requires.written) c.requires.placed c.requires.checked c.in_ok-parts.ensures.small
    (ap length given ∙ scales_length c.args.scales.now core.inputs) is read short
