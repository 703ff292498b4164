use Rattle.std.proofs.Common.{◌≡◌, ◌<◌, ◌+◌, ◌-◌, length, take, get_or, arith, rules, true, false, refl}
use Rattle.std.proofs.lemmas.List.{length-take, take_all, take_more}
use Rattle.std.specs.Char.{is_ascii_whitespace}
use Rattle.csv.specs.Records.{trim_end}
use Rattle.csv.proofs.RecordFacts.{end-plain, end-space}
use Rattle.tilt_reading_lines.proofs.plain.back_start.Goals as goal

pub bytes-init : goal.bytes-init
bytes-init c = rw (take_all (length c.args.field.now - 0) c.args.field.now (omega arith)) refl

pub bytes-preserved : goal.bytes-preserved
bytes-preserved c =
    let f = c.args.field.now in
    let k = c.bytes.count in
    let lt : (length f - k) - 1 < length f = omega (arith, c.bytes-test.true) in
    let n : length f - k ≡ ((length f - k) - 1) + 1 = omega (arith, c.bytes-test.true) in
    let m : length f - (k + 1) ≡ (length f - k) - 1 = omega arith in
    let w : is_ascii_whitespace (get_or f ((length f - k) - 1) 0) ≡ true = search rules in
    let inv = rw (n, take_more f ((length f - k) - 1) 0 lt, end-space (take ((length f - k) - 1) f) _ w) at c.bytes.invariant in
    rw m inv

pub returns-then-not-is_ascii_whitespace-clause-value : goal.returns-then-not-is_ascii_whitespace-clause-value
returns-then-not-is_ascii_whitespace-clause-value c =
    let f = c.args.field.now in
    let k = c.bytes.count in
    let lt : (length f - k) - 1 < length f = omega (arith, c.bytes-test.true) in
    let n : length f - k ≡ ((length f - k) - 1) + 1 = omega (arith, c.bytes-test.true) in
    let w : is_ascii_whitespace (get_or f ((length f - k) - 1) 0) ≡ false = search rules in
    let len = length-take ((length f - k) - 1) f in
    let inv = rw (n, take_more f ((length f - k) - 1) 0 lt, end-plain (take ((length f - k) - 1) f) _ w) at c.bytes.invariant in
    omega (arith, inv)

pub returns-clause-value : goal.returns-clause-value
unfolding trim_end
returns-clause-value c =
    let z : length c.args.field.now - c.bytes.count ≡ 0 = omega (arith, c.bytes-test.false) in
    rw z at c.bytes.invariant
