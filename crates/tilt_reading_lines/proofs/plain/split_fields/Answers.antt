use Rattle.std.proofs.lemmas.Result.{on_ok_weaker}
use Rattle.csv.specs.Records.{fields_of, partial_of}
use Rattle.tilt_reading_lines.proofs.PlainWords.{after_shorter, last_taken, word_taken}
use Rattle.tilt_reading_lines.proofs.plain.split_fields.Goals as goal

pub loop-word-smaller : goal.loop-word-smaller
loop-word-smaller c = after_shorter c.args.delimiter c.loop-word.rest.now c.in-Some.word.now c.in-Some.after.now c.in-Some.ensures

pub loop-word-preserved : goal.loop-word-preserved
loop-word-preserved c = record {
  partial = c.in_ok-push_field.ensures.partial;
  fields =
      word_taken c.args.delimiter c.loop-word.rest.now c.in-Some.word.now c.in-Some.after.now c.trim.result.now (partial_of c.loop-word.fields)
      (fields_of c.loop-word.fields) _ _ c.in-Some.ensures c.trim.ensures c.loop-word.invariant.partial c.in_ok-push_field.ensures.fields
      c.loop-word.invariant.fields;
}

pub returns : goal.returns
returns c =
    on_ok_weaker c.push_field-2.result
    (λ pushed. last_taken c.args.delimiter c.loop-word.rest.now c.trim-2.result.now (partial_of c.loop-word.fields)
    (fields_of c.loop-word.fields) _ _ c.in_default.ensures c.trim-2.ensures c.loop-word.invariant.partial pushed
    c.loop-word.invariant.fields)
    c.push_field-2.ensures.fields
