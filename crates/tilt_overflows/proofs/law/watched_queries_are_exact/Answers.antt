use Rattle.std.proofs.Common.{◌≡◌, List, length, map, ◌∙◌, sym, subst}
use Rattle.std.proofs.lemmas.List.{length-map}
use Rattle.tilt_core.specs.Core.{emitted_number}
use Rattle.tilt_core.specs.CoreTree.{Definition}
use Rattle.tilt_core.specs.Meaning.{meaning}
use Rattle.tilt_fractions.specs.Exact.{CellStandsFor}
use Rattle.tilt_overflows.proofs.law.watched_queries_are_exact.Goals as goal
use Rattle.tilt_overflows.specs.Law.{asked_for, exact_emitted}
use Rattle.tilt_stream.specs.Stream.{stream_of}
use Rattle.tilt_units.specs.Exact.{ScaledRows, rows_of, scale_in}
use Rattle.tilt_units.specs.Law.{QueryStaysWithin}

pub returns : goal.returns
returns c = λ core inputs defs query span lo hi is many scales literals translation same domain spans nothing tick low high.
    let rows = rows_of inputs in
    let rows_many : length rows ≡ length core.inputs = length-map inputs (λ (input : ScaledRows). input.rows) ∙ many in
    let chosen = asked_for core lo hi in
    let stays = c.watching_queries_see_overflows.ensures.query core rows span lo hi is rows_many domain spans nothing in
    let whole = subst (λ (ds : List Definition). QueryStaysWithin chosen (map stream_of rows) ds) (sym same) stays in
    let stand = c.translation_keeps_meaning.ensures.query chosen inputs defs query scales literals translation whole in
    let number = emitted_number core in
    let exact = exact_emitted core inputs defs in
    subst (λ (ds : List Definition). CellStandsFor (scale_in exact.quantity) ((meaning rows ds number).cell tick) (exact.stream.cell tick)) same
    ((stand number).cells tick (c.watching_queries_see_overflows.ensures.covers core lo hi tick is low high))
