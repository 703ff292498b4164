use Rattle.std.proofs.Common.{rules, ◌≡◌, ◌∙◌, ◌++◌, List, ℕ, length, drop, sym, ap, arith}
use Rattle.std.proofs.lemmas.Bool.{false≢true}
use Rattle.std.proofs.lemmas.Bool.Decides.{Decides-eqb}
use Rattle.std.proofs.lemmas.Slice.Eq.{starts_is}
use Rattle.tilt_reading_state.specs.Spelling.{spelled_kept}
use Rattle.tilt_reading_state.proofs.decoder.spelled_bytes.Goals as goal

pub returns-then-starts_with : goal.returns-then-starts_with
returns-then-starts_with c =
    let text = c.args.text.now in
    let front = c.as_slice.result.now in
    let same : front ≡ spelled_kept c.args.kept.now = search rules in
    let count : c.len.result ≡ length front = search rules in
    let is = (starts_is Decides-eqb text front c.starts_with.result c.starts_with.ensures.value).0 c.if-starts_with.true in
    let inside = c.starts_with.ensures.bound c.if-starts_with.true in
    record {
      spelled = is ∙ (λ i. same i ++ drop (sym count i) text);
      inside = omega (arith, count, inside);
    }

pub returns : goal.returns
returns c =
    λ rest e.
    let front = c.as_slice.result.now in
    let same : front ≡ spelled_kept c.args.kept.now = search rules in
    let is = (starts_is Decides-eqb c.args.text.now front c.starts_with.result c.starts_with.ensures.value).1 in
    false≢true (sym c.if-starts_with.false ∙ is rest (e ∙ ap (λ (t : List ℕ). t ++ rest) (sym same)))
