use Rattle.std.proofs.Common.{◌∷◌, codes, length, string_bytes, pos, subst, sym, ap, ◌∙◌, arith}
use Rattle.std.proofs.lemmas.Bool.Decides.{nat_tests}
use Rattle.std.proofs.lemmas.List.{length-map}
use Rattle.tilt_cli.specs.Command.{tries}
use Rattle.tilt_cli.specs.Number.{IsNumber}
use Rattle.tilt_cli.proofs.Answered.{one_text, try_texts, try_count}
use Rattle.tilt_cli.proofs.reader.read_try.Goals as goal
use Rattle.tilt_cli.proofs.reader.read_try.Goals.{in_default-via-then-rest-lt1, in_default-via-else-rest-lt1+else-rest-lt2}

pub returns-in_default : goal.returns-in_default
returns-in_default c = λ seed count is.
    let same = (try_texts _ _ _ seed count is).1 in
    elim c.in_default.branch [
      | in_default-via-then-rest-lt1 w ↦ grind (arith, nat_tests, ap length same, length-map c.args.rest.now (λ t. string_bytes t))
      | in_default-via-else-rest-lt1+else-rest-lt2 w ↦ grind (arith, nat_tests, ap length same, length-map c.args.rest.now (λ t. string_bytes t))
    ]

pub returns-in_err-seed : goal.returns-in_err-seed
returns-in_err-seed c =
    rw c.from_residual.ensures (λ seed count is.
    let same = (try_texts _ _ _ seed count is).0 in
    c.in_err-seed.ensures (pos seed) (subst (λ w. IsNumber (pos 0) (pos 2147483647) w (pos seed)) same is.is_seed))

pub returns-in_err-count : goal.returns-in_err-count
returns-in_err-count c =
    rw c.from_residual-in_err-count.ensures (λ seed count is.
    let same =
    try_count c.args.rest.now c.count-item.result is.count_word c.count-item.is (try_texts _ _ _ seed count is).1 ∙ sym c.as_str.ensures.value in
    c.in_err-count.ensures (pos count) (subst (λ w. IsNumber (pos 0) (pos 1000000) w (pos count)) same is.is_count))

pub returns : goal.returns
returns c =
    let rest = one_text c.args.rest.now c.count-item.result c.as_str.result.now (omega arith) (omega arith) c.count-item.is c.as_str.ensures.value in
    tries (record {
      seed_word = c.args.seed.now;
      count_word = c.as_str.result.now;
      words_are = λ i. codes "try" ∷ c.args.seed.now ∷ rest i;
      is_seed = c.in_ok-seed.ensures;
      is_count = c.in_ok-count.ensures;
    })
