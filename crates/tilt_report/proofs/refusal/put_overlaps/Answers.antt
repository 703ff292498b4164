use Rattle.std.proofs.Common.{◌≡◌, ◌++◌, ◌-◌, ◌+◌, ℕ, List, length, take, codes, sym, ap, ◌∙◌, arith, length-append}
use Rattle.std.proofs.lemmas.List.{take-take, take_at}
use Rattle.tilt_report.specs.Report.{row_words}
use Rattle.tilt_report.proofs.refusal.put_overlaps.Goals as goal

-- a line without its end
without_end : (line room : List ℕ) (n : ℕ) → take n room ≡ line ++ codes "\n" → n ≡ length (line ++ codes "\n") → take (n - 1) room ≡ line
without_end line room n is long =
    let one_more : n ≡ length line + 1 = long ∙ length-append line (codes "\n") in
    sym (take-take (n - 1) n room (omega arith)) ∙ ap (λ l. take (n - 1) l) is ∙ take_at line (codes "\n") (n - 1) (omega (arith, one_more))

pub returns : goal.returns
returns g c =
    let row = c.row_text-length in
    rw (without_end (row_words c.args.row.now) row.new.room row.result row.ensures.text row.ensures.len) at c.put_named.ensures
