use Rattle.std.proofs.Common.{◌≡◌, ◌++◌, ◌-◌, ◌∙◌, ℕ, ap, length, min, take, rules}
use Rattle.tilt_feed_text.proofs.Splitting.{cut_append}
use Rattle.tilt_feed_text.proofs.pending.append_cut.Goals as goal

pub returns-clause-ok : goal.returns-clause-ok
returns-clause-ok c =
    let line = c.args.line.now.items in
    let piece = c.args.piece.now in
    let count : c.min-count.result ≡ min (65537 - length line) (length piece) = search rules in
    c.in_ok-extend_from_slice.ensures.items ∙ ap (λ (n : ℕ). line ++ take n piece) count ∙ cut_append 65537 line piece c.requires
