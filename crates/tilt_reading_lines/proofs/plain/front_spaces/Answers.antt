use Rattle.std.proofs.Common.{◌≡◌, ◌∙◌, length, get_or, sym, arith, rules, true, false}
use Rattle.std.proofs.lemmas.List.{drop_all}
use Rattle.std.specs.Char.{is_ascii_whitespace}
use Rattle.csv.specs.Records.{trim_start}
use Rattle.csv.proofs.RecordFacts.{start-plain, start-space}
use Rattle.tilt_reading_lines.proofs.plain.front_spaces.Goals as goal

pub bytes-preserved : goal.bytes-preserved
bytes-preserved c =
    let w : is_ascii_whitespace (get_or c.args.field.now c.bytes.at 0) ≡ true = search rules in
    sym (start-space c.args.field.now c.bytes.at c.bytes-test.true w) ∙ c.bytes.invariant

pub returns-then-not-is_ascii_whitespace-clause-value : goal.returns-then-not-is_ascii_whitespace-clause-value
returns-then-not-is_ascii_whitespace-clause-value c =
    let w : is_ascii_whitespace (get_or c.args.field.now c.bytes.at 0) ≡ false = search rules in
    sym (start-plain c.args.field.now c.bytes.at c.bytes-test.true w) ∙ c.bytes.invariant

pub returns-clause-value : goal.returns-clause-value
unfolding trim_start
returns-clause-value c =
    let all = drop_all c.bytes.at c.args.field.now c.bytes-test.false in
    let none = drop_all (length c.args.field.now) c.args.field.now (omega arith) in
    rw none (rw all at c.bytes.invariant)
