use Rattle.std.proofs.Common.{◌≡◌, ◌∙◌, sym, ap, List, ℕ, length, Result, Ok, Err}
use Rattle.std.specs.Prelude.{MatchResult}
use Rattle.std.proofs.lemmas.Option.{none-some, some_pair_parts}
use Rattle.tilt_live_state.proofs.Headings.{heading-again}
use Rattle.tilt_live_state.specs.Reading.{heading_at}
use Rattle.tilt_syntax.specs.Printing.{query_text}
use Rattle.tilt_live_state.proofs.query.read_query.Goals as goal

and_more : {A E : Type 0} (P : A → Type 0) (Q : E → Type 0) (X : Type 0) (r : Result A E) → MatchResult r P Q → X
    → MatchResult r (λ a. P a × X) Q
and_more P Q X (Ok a) h x = (h, x)
and_more P Q X (Err e) h x = h

pub returns-in-Some-clause-only : goal.returns-in-Some-clause-only
returns-in-Some-clause-only c =
    λ query more is e.
    let same = sym c.in-Some.ensures ∙ ap heading_at e ∙ heading-again query more is.parsed in
    let p = some_pair_parts (_, c.in-Some.text.now) (length query, query_text query) c.heading.new.self more same in
    let text : c.in-Some.text.now ≡ query_text query = ap (λ (q : ℕ × List ℕ). q.1) p.0 in
    and_more _ _ _ c.asked_of.result (c.asked_of.ensures.only query is text) p.1

pub returns-in-None-clause-only : goal.returns-in-None-clause-only
returns-in-None-clause-only c =
    λ query more is e.
    absurd (none-some ((length query, query_text query), more) (sym c.in-None.ensures ∙ ap heading_at e ∙ heading-again query more is.parsed))
