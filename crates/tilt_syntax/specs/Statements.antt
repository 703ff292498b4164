-- How a statement is read from left to right, in the manner of the descent. The grammar is laid down apart from it.
use Rattle.std.specs.Prelude.{ℤ, pos, neg_ℤ, List, [], ◌∷◌, Option, Some, None}
use Rattle.tilt_lexer.specs.declared.key.Key.TheVariants as key
use Rattle.tilt_lexer.specs.declared.mark.Mark.TheVariants as mark
use Rattle.tilt_lexer.specs.declared.token.Tok.{Tok}
use Rattle.tilt_lexer.specs.declared.token.Tok.TheVariants.{Key as Reserved, Mark as Sign}
use Rattle.tilt_syntax.specs.Descent.{Plan, Test, Ask, Reading, nothing, expect, number_plan, name_plan}
use Rattle.tilt_syntax.specs.Tree.{StatementTree, Input, Let, Emit}
use Rattle.tilt_syntax.specs.declared.level.Level.TheVariants.{Choice}
use Rattle.tilt_base.specs.declared.span.Span.{Span}
use Rattle.tilt_syntax.specs.declared.every.Every.{Every}

-- a bound has to come
unfoldable pub bound_plan : List Tok → (ℤ → List Tok → Plan) → Plan
bound_plan ts behind = Test (Sign mark.Minus) ts (λ us. number_plan us (λ n. behind (neg_ℤ n))) (number_plan ts behind)

-- what follows `over`
unfoldable pub span_plan : List Tok → (Span → List Tok → Plan) → Plan
span_plan ts behind = expect (Sign mark.OpenParen) ts (λ us. bound_plan us (λ s vs. expect (Sign mark.Comma) vs (λ ws.
    bound_plan ws (λ e xs. expect (Sign mark.CloseBracket) xs (behind (record { start = s; end = e }))))))

-- a span that may be left out
unfoldable pub domain_plan : List Tok → (Option Span → List Tok → Plan) → Plan
domain_plan ts behind = Test (Reserved key.Over) ts (λ us. span_plan us (λ span. behind (Some span))) (behind None ts)

-- an offset that may be left out, and then is 0
unfoldable pub from_plan : List Tok → (ℤ → List Tok → Plan) → Plan
from_plan ts behind = Test (Reserved key.From) ts (λ us. number_plan us behind) (behind (pos 0) ts)

-- a grid that may be left out
unfoldable pub grid_plan : List Tok → (Option Every → List Tok → Plan) → Plan
grid_plan ts behind = Test (Reserved key.Every) ts
    (λ us. number_plan us (λ p vs. from_plan vs (λ o. behind (Some (record { period = p; offset = o }))))) (behind None ts)

-- no token may come
abbrev pub empty_plan : List Tok → Plan → Plan
empty_plan [] behind = behind
empty_plan (t ∷ ts) behind = nothing

-- the `;` has to come, and no token after it
unfoldable pub end_plan : List Tok → Plan → Plan
end_plan ts behind = expect (Sign mark.Semicolon) ts (λ us. empty_plan us behind)

-- what follows `input`
abbrev pub input_plan : List Tok → (StatementTree → Plan) → Plan
input_plan ts behind = name_plan ts (λ x us. end_plan us (behind (Input x)))

-- what follows `let`
abbrev pub let_plan : List Tok → (StatementTree → Plan) → Plan
let_plan ts behind = name_plan ts (λ x us. expect (Sign mark.Assign) us (λ vs. Ask (Reading Choice vs) (λ e.
    domain_plan e.rest (λ over ws. grid_plan ws (λ every xs. end_plan xs (behind (Let x e.tree over every)))))))

-- what follows `emit`
abbrev pub emit_plan : List Tok → (StatementTree → Plan) → Plan
emit_plan ts behind = Ask (Reading Choice ts) (λ e. expect (Reserved key.Over) e.rest (λ us.
    span_plan us (λ over vs. grid_plan vs (λ every ws. end_plan ws (behind (Emit e.tree over every))))))

-- a statement has to come
abbrev pub statement_plan : List Tok → (StatementTree → Plan) → Plan
statement_plan ts behind = Test (Reserved key.Input) ts (λ us. input_plan us behind) (
    Test (Reserved key.Let) ts (λ us. let_plan us behind) (
    expect (Reserved key.Emit) ts (λ us. emit_plan us behind)))
