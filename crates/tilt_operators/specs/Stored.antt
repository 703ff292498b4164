-- How pipelines are distinguished, which a type that contracts see as plain data needs.
use Rattle.std.specs.Prelude.{◌≡◌, ℕ, List, refl}
use Rattle.std.specs.Coded.{Coded, code_by, coded×, coded_ℤ, coded_list}
use base.Stored.{Gv, gnil, gnum, gcons}
use Rattle.tilt_base.specs.contracts.reducer.Reducer as reducer
use Rattle.tilt_base.specs.declared.span.Span.{Span}
use Rattle.tilt_syntax.specs.Stored.{coded_expr, coded_name, coded_span}
use Rattle.tilt_operators.specs.Flow.{StepTree, Select, Keep, Shift, Window, Join, FlowTree}

-- the parts of a step, as one tree of numbers
abbrev pub stored_step : StepTree → Gv
stored_step (Select e) = gcons gnil (coded_expr.code e)
stored_step (Keep e) = gcons (gnum 1) (coded_expr.code e)
stored_step (Shift by) = gcons (gcons gnil gnil) (coded_ℤ.code by)
stored_step (Window r width) = gcons (gcons gnil (gnum 1)) (gcons (reducer.the_row.coded.code r) (coded_ℤ.code width))
stored_step (Join name e) = gcons (gcons (gnum 1) gnil) (gcons (coded_name.code name) (coded_expr.code e))

pub stored_step_inj : (x y : StepTree) → stored_step x ≡ stored_step y → x ≡ y
stored_step_inj (Select d) (Select e) p = let i = coded_expr.inj d e (cc p) in cc
stored_step_inj (Keep d) (Keep e) p = let i = coded_expr.inj d e (cc p) in cc
stored_step_inj (Shift m) (Shift n) p = let i = coded_ℤ.inj m n (cc p) in cc
stored_step_inj (Window q m) (Window r n) p =
    let i = reducer.the_row.coded.inj q r (cc p) in
    let j = coded_ℤ.inj m n (cc p) in
    cc
stored_step_inj (Join m d) (Join n e) p =
    let i = coded_name.inj m n (cc p) in
    let j = coded_expr.inj d e (cc p) in
    cc
stored_step_inj x y p = absurd (cc p)

-- pipelines are distinguished part by part
abbrev pub coded_flow : Coded FlowTree
coded_flow =
    code_by (List ℕ × (List StepTree × Span))
    (coded× coded_name (coded× (coded_list (record { code = stored_step; inj = stored_step_inj })) coded_span))
    (λ f. (f.first, (f.steps, f.domain)))
    (λ p. record { first = p.0; steps = p.1.0; domain = p.1.1 })
    (λ _. refl)
