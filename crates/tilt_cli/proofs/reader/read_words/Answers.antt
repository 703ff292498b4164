use Rattle.std.proofs.Common.{◌≡◌, ◌≢◌, codes, string_bytes, sym, ◌∙◌, arith, Err}
use Rattle.std.specs.Option.{ok_or}
use Rattle.std.proofs.lemmas.Bool.Decides.{Decides-eqb, not_from_Decides}
use Rattle.std.proofs.lemmas.List.{length-map}
use Rattle.std.proofs.lemmas.Slice.Eq.{slice_eq-Decides}
use Rattle.tilt_cli.specs.declared.fault.WordsFault.TheVariants.{Usage}
use Rattle.tilt_cli.specs.Command.{texts}
use Rattle.tilt_cli.proofs.OneCommand.{one_command, two_words}
use Rattle.tilt_cli.proofs.Answered.{IsAnswer, two_texts, by_try, by_call, command_part, usage_part, within_part, only_part, none_part}
use Rattle.tilt_cli.proofs.reader.read_words.Goals as goal

pub returns-in_default : goal.returns-in_default
returns-in_default c =
    let words = texts c.args.words.now in
    let short = length-map c.args.words.now (λ w. string_bytes w) in
    let answer : IsAnswer words (Err Usage) =
    λ usage command is. omega (arith, two_words words command is, c.in_default.len_below, short) in
    record {
      command = tt;
      usage = answer;
      within = tt;
      one = one_command words;
      only = only_part words (Err Usage) answer;
      none = none_part words (Err Usage) answer;
    }

pub returns-then-eq : goal.returns-then-eq
returns-then-eq c =
    let words = texts c.args.words.now in
    let second = c.as_str-then-eq.result.now in
    let name : c.as_str.result.now ≡ codes "try" = (slice_eq-Decides Decides-eqb _ _ _ c.eq.ensures).0 c.if-eq.true in
    let split =
    two_texts c.args.words.now c.name-item.result c.second-item.result (codes "try") second c.in-len2-up.len_at_least
    c.name-item.is c.second-item.is (sym name ∙ c.as_str.ensures.value) c.as_str-then-eq.ensures.value in
    let answer : IsAnswer words (ok_or c.read_try.result Usage) =
    by_try words _ c.read_try.result split (rw split c.read_try.ensures) in
    rw c.ok_or.ensures.value (record {
      command = command_part words _ answer;
      usage = usage_part words _ answer;
      within = within_part words _ answer;
      one = one_command words;
      only = only_part words _ answer;
      none = none_part words _ answer;
    })

pub returns-else-eq : goal.returns-else-eq
returns-else-eq c =
    let words = texts c.args.words.now in
    let name = c.as_str-else-eq.result.now in
    let second = c.as_str-else-eq-2.result.now in
    let differs : c.as_str.result.now ≢ codes "try" =
    not_from_Decides _ (slice_eq-Decides Decides-eqb _ _ _ c.eq.ensures) c.if-eq.false in
    let same = c.as_str.ensures.value ∙ sym c.as_str-else-eq.ensures.value in
    let split =
    two_texts c.args.words.now c.name-item.result c.second-item.result name second c.in-len2-up.len_at_least
    c.name-item.is c.second-item.is c.as_str-else-eq.ensures.value c.as_str-else-eq-2.ensures.value in
    let answer : IsAnswer words c.read_call.result =
    by_call words name _ c.read_call.result split (λ e. differs (same ∙ e)) (rw split c.read_call.ensures) in
    record {
      command = command_part words _ answer;
      usage = usage_part words _ answer;
      within = within_part words _ answer;
      one = one_command words;
      only = only_part words _ answer;
      none = none_part words _ answer;
    }
