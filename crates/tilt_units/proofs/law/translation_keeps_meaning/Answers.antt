use Rattle.tilt_units.proofs.Marked.{expression_marked}
use Rattle.tilt_units.proofs.Meaning.{expression_kept}
use Rattle.tilt_units.proofs.Queries.{query_quantities, query_stands}
use Rattle.tilt_units.proofs.law.translation_keeps_meaning.Goals as goal

pub returns : goal.returns
returns c = record {
  expression = λ chosen xs sources place e x tick s i l h stays.
      (expression_kept (record { chosen = chosen; sources = xs; tick = tick }) sources place e x s l i h).stands stays;
  marks = λ chosen xs sources place e x tick l h. expression_marked xs tick chosen sources l place e x h;
  query = query_stands;
  quantities = query_quantities;
}
