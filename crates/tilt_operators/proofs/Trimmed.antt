-- The tokens of a text that are kept are the same pipeline, or are rejected for the same fault.
use Rattle.std.proofs.Common.{◌≡◌, ◌⊎◌, inl, inr, ℕ, zero, suc, ◌+◌, ◌<◌, ◌≤◌, List, [], ◌∷◌, length, sym, subst, arith}
use Rattle.tilt_base.specs.declared.span.Span.{Span}
use Rattle.tilt_lexer.specs.declared.token.Tok.{Tok}
use Rattle.tilt_syntax.specs.Query.{statements}
use Rattle.tilt_syntax.specs.Trimmed.{trimmed}
use Rattle.tilt_syntax.proofs.Trimming.{AreAlike, IsAlike, trimmed_alike}
use Rattle.tilt_operators.specs.Flow.{StepTree, FlowTree}
use Rattle.tilt_operators.specs.Steps.{AreFlow, AreSteps, HasBadStep, no_steps, first, alone, behind, IsBadStep, between, last, later}
use Rattle.tilt_operators.specs.Steps.{IsFirst, IsFit, IsFlowOf, IsLast, IsRefused, bad_step, step_type, IsStep}
use Rattle.tilt_operators.specs.declared.fault.FlowFault.{FlowFault}

-- of two steps that are alike, one that is fit is the other
same_if_fit : (n : ℕ) (t u : List Tok) → IsAlike 257 t u → IsFit n t → t ≡ u
same_if_fit n t u (inl same) fit = same
same_if_fit n t u (inr long) fit = absurd (omega (arith, fit.short, long.0))

same_if_other_fit : (n : ℕ) (t u : List Tok) → IsAlike 257 t u → IsFit n u → u ≡ t
same_if_other_fit n t u (inl same) fit = sym same
same_if_other_fit n t u (inr long) fit = absurd (omega (arith, fit.short, long.1))

module _ (n : ℕ) (t u : List Tok) (same : t ≡ u) where
  fit_too : IsFit n t → IsFit n u
  fit_too fit = subst (IsFit n) same fit

  step_too : (s : StepTree) → IsStep t s → IsStep u s
  step_too s is = subst (λ (l : List Tok). IsStep l s) same is

  last_too : (domain : Span) → IsLast t domain → IsLast u domain
  last_too domain is = subst (λ (l : List Tok). IsLast l domain) same is

  first_too : (name : List ℕ) → IsFirst t name → IsFirst u name
  first_too name is = subst (λ (l : List Tok). IsFirst l name) same is

-- steps have places
placed : (n : ℕ) (ts : List (List Tok)) (steps : List StepTree) (domain : Span) → AreSteps n ts steps domain → n ≤ 100
placed n [] steps domain h = absurd h
placed n (t ∷ []) [] domain h = h.0.place
placed n (t ∷ []) (s ∷ steps) domain h = absurd h
placed n (t ∷ next ∷ rest) [] domain h = absurd h
placed n (t ∷ next ∷ rest) (s ∷ steps) domain h = h.0.place

-- steps that are alike are the same steps of a pipeline, if more of them are alike than have places
steps_too : (m n : ℕ) (ts us : List (List Tok)) (steps : List StepTree) (domain : Span) → AreAlike m ts us → 257 < n + m
    → AreSteps n ts steps domain → AreSteps n us steps domain
steps_too zero n ts us steps domain alike many h = absurd (omega (arith, many, placed n ts steps domain h))
steps_too (suc zero) n ts us steps domain alike many h = absurd (omega (arith, many, placed n ts steps domain h))
steps_too (suc (suc m)) n [] us steps domain alike many h = absurd h
steps_too (suc (suc m)) n (t ∷ ts) [] steps domain alike many h = absurd alike
steps_too (suc (suc m)) n (t ∷ []) (u ∷ []) [] domain alike many h =
    let same = same_if_fit n t u alike.0 h.0 in
    (fit_too n t u same h.0, last_too n t u same domain h.1)
steps_too (suc (suc m)) n (t ∷ []) (u ∷ []) (s ∷ steps) domain alike many h = absurd h
steps_too (suc (suc m)) n (t ∷ []) (u ∷ v ∷ us) steps domain alike many h = absurd alike.1
steps_too (suc (suc m)) n (t ∷ next ∷ ts) (u ∷ []) steps domain alike many h = absurd alike.1
steps_too (suc (suc m)) n (t ∷ next ∷ ts) (u ∷ v ∷ us) [] domain alike many h = absurd h
steps_too (suc (suc m)) n (t ∷ next ∷ ts) (u ∷ v ∷ us) (s ∷ steps) domain alike many h =
    let same = same_if_fit n t u alike.0 h.0 in (
      fit_too n t u same h.0,
      step_too n t u same s h.1,
      steps_too (suc m) (n + 1) (next ∷ ts) (v ∷ us) steps domain alike.1 (omega (arith, many)) h.2,
    )

-- and their first bad one is the same
bad_too : (m n : ℕ) (ts us : List (List Tok)) (bad : ℕ) → AreAlike m ts us → 257 < n + m → n ≤ 101 → IsBadStep n ts bad
    → IsBadStep n us bad
bad_too zero n ts us bad alike many low h = absurd (omega (arith, many, low))
bad_too (suc zero) n ts us bad alike many low h = absurd (omega (arith, many, low))
bad_too (suc (suc m)) n [] us bad alike many low h = elim h [ ]
bad_too (suc (suc m)) n (t ∷ next ∷ ts) [] bad alike many low h = absurd alike
bad_too (suc (suc m)) n (t ∷ next ∷ ts) (u ∷ []) bad alike many low h = absurd alike.1
bad_too (suc (suc m)) n (t ∷ []) [] bad alike many low h = absurd alike
bad_too (suc (suc m)) n (t ∷ []) (u ∷ v ∷ us) bad alike many low h = absurd alike.1
bad_too (suc (suc m)) n (t ∷ next ∷ ts) (u ∷ v ∷ us) bad alike many low (between none) =
    between (λ s fit is. (
    let same = same_if_other_fit n t u alike.0 fit in
    none s (fit_too n u t same fit) (step_too n u t same s is)))
bad_too (suc (suc m)) n (t ∷ []) (u ∷ []) bad alike many low (last none) =
    last (λ domain fit is. (
    let same = same_if_other_fit n t u alike.0 fit in
    none domain (fit_too n u t same fit) (last_too n u t same domain is)))
bad_too (suc (suc m)) n (t ∷ next ∷ ts) (u ∷ v ∷ us) bad alike many low (later s fit is more) =
    let same = same_if_fit n t u alike.0 fit in
    later s (fit_too n t u same fit) (step_too n t u same s is)
    (bad_too (suc m) (n + 1) (next ∷ ts) (v ∷ us) bad alike.1 (omega (arith, many)) (omega (arith, fit.place)) more)

flow_too : (ts us : List (List Tok)) (flow : FlowTree) → AreAlike 257 ts us → AreFlow ts flow → AreFlow us flow
flow_too [] us flow alike h = absurd h
flow_too (t ∷ ts) [] flow alike h = absurd alike
flow_too (t ∷ ts) (u ∷ us) flow alike h =
    let same = same_if_fit 1 t u alike.0 h.0 in (
      fit_too 1 t u same h.0,
      first_too 1 t u same flow.first h.1,
      steps_too 256 2 ts us flow.steps flow.domain alike.1 (omega arith) h.2,
    )

first_bad_too : (ts us : List (List Tok)) (bad : ℕ) → AreAlike 257 ts us → HasBadStep ts bad → HasBadStep us bad
first_bad_too [] [] bad alike no_steps = no_steps
first_bad_too [] (u ∷ us) bad alike h = absurd alike
first_bad_too (t ∷ ts) [] bad alike h = absurd alike
first_bad_too (t ∷ ts) (u ∷ us) bad alike (first none) =
    first (λ name fit is. (
    let same = same_if_other_fit 1 t u alike.0 fit in
    none name (fit_too 1 u t same fit) (first_too 1 u t same name is)))
first_bad_too (t ∷ []) (u ∷ []) bad alike alone = alone
first_bad_too (t ∷ []) (u ∷ v ∷ us) bad alike alone = absurd alike.1
first_bad_too (t ∷ next ∷ ts) (u ∷ []) bad alike (behind name fit is more) = absurd alike.1
first_bad_too (t ∷ next ∷ ts) (u ∷ v ∷ us) bad alike (behind name fit is more) =
    let same = same_if_fit 1 t u alike.0 fit in
    behind name (fit_too 1 t u same fit) (first_too 1 t u same name is)
    (bad_too 256 2 (next ∷ ts) (v ∷ us) bad alike.1 (omega arith) (omega arith) more)

-- the laws of what is kept

module _ (ts : List Tok) where
  -- it is the pipeline that all are
  pub trimmed_flow : (flow : FlowTree) → IsFlowOf (trimmed 257 257 ts) flow → IsFlowOf ts flow
  trimmed_flow flow is = record {
    steps = flow_too (statements (trimmed 257 257 ts)) (statements ts) flow (trimmed_alike ts) is.steps;
    typed = is.typed;
  }

  -- it is rejected for the fault for which all are
  pub trimmed_rejected : (kept : List Tok) (f : FlowFault) → kept ≡ trimmed 257 257 ts → IsRefused kept f → IsRefused ts f
  trimmed_rejected kept f same (bad_step {bad = bad} is) =
      bad_step (first_bad_too (statements (trimmed 257 257 ts)) (statements ts) bad (trimmed_alike ts)
      (subst (λ (l : List Tok). HasBadStep (statements l) bad) same is))
  trimmed_rejected kept f same (step_type flow is untyped) =
      step_type flow (flow_too (statements (trimmed 257 257 ts)) (statements ts) flow (trimmed_alike ts)
      (subst (λ (l : List Tok). AreFlow (statements l) flow) same is)) untyped
