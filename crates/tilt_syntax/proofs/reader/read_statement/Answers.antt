use Rattle.std.proofs.Common.{Option, Some, None, Result, Ok, Err, IfOk, MatchOption}
use Rattle.tilt_syntax.specs.Descent.{Comes, Found, Plan, done, met, missed}
use Rattle.tilt_syntax.specs.Query.{kinds}
use Rattle.tilt_syntax.specs.Statements.{emit_plan, input_plan, let_plan, statement_plan}
use Rattle.tilt_syntax.specs.Tree.{StatementTree, statement_tree}
use Rattle.tilt_syntax.specs.declared.statement.Statement.{Statement}
use Rattle.tilt_syntax.proofs.reader.read_statement.Goals as goal

-- a result for what follows the first word is one for the statement
as_statement : {E : Type 0} (result : Result (Option Statement) E) (p q : (StatementTree → Plan) → Plan)
    → ((behind : StatementTree → Plan) (r : Option Found) → Comes (p behind) r → Comes (q behind) r)
    → IfOk result (λ found. MatchOption found ((behind : StatementTree → Plan) → Comes (p behind) None)
    (λ s. (behind : StatementTree → Plan) (r : Option Found) → Comes (behind (statement_tree s)) r → Comes (p behind) r))
    → IfOk result (λ found. MatchOption found ((behind : StatementTree → Plan) → Comes (q behind) None)
    (λ s. (behind : StatementTree → Plan) (r : Option Found) → Comes (behind (statement_tree s)) r → Comes (q behind) r))
as_statement (Ok None) p q same h = λ behind. same behind None (h behind)
as_statement (Ok (Some s)) p q same h = λ behind r k. same behind r (h behind r k)
as_statement (Err e) p q same h = h

pub returns-in-Some : goal.returns-in-Some
returns-in-Some c =
    as_statement c.read_input.result (input_plan (kinds c.in-Some.behind.now)) (statement_plan (kinds c.args.tokens.now))
    (λ behind r h. met c.in-Some.ensures.front h) c.read_input.ensures

pub returns-in-Some-after_key : goal.returns-in-Some-after_key
returns-in-Some-after_key c =
    as_statement c.read_let.result (let_plan (kinds c.in-Some-after_key.behind.now)) (statement_plan (kinds c.args.tokens.now))
    (λ behind r h. missed c.in_default.ensures.front (met c.in-Some-after_key.ensures.front h)) c.read_let.ensures

pub returns-in-Some-after_key-2 : goal.returns-in-Some-after_key-2
returns-in-Some-after_key-2 c =
    as_statement c.read_emit.result (emit_plan (kinds c.in-Some-after_key-2.behind.now)) (statement_plan (kinds c.args.tokens.now))
    (λ behind r h. missed c.in_default.ensures.front (missed c.in_default-after_key.ensures.front (
    met c.in-Some-after_key-2.ensures.front h)))
    c.read_emit.ensures

pub returns-in-None : goal.returns-in-None
returns-in-None c = λ behind.
    missed c.in_default.ensures.front (missed c.in_default-after_key.ensures.front (missed c.in-None.ensures.front done))
