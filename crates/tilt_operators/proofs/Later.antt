-- How the steps of a pipeline are read in order, over plain tokens.
use Rattle.std.proofs.Common.{◌≡◌, ◌≤◌, ℕ, ◌+◌, List, [], ◌∷◌, ◌++◌, length, map, refl, sym, ap, ◌∙◌, subst, arith, append_assoc, append-nil}
use Rattle.std.proofs.lemmas.List.{map-append}
use Rattle.tilt_base.specs.declared.span.Span.{Span}
use Rattle.tilt_lexer.specs.declared.token.Tok.{Tok}
use Rattle.tilt_syntax.specs.Query.{statements}
use Rattle.tilt_operators.specs.Flow.{StepTree, step_tree}
use Rattle.tilt_operators.specs.Parts.{IsOfBadStep}
use Rattle.tilt_operators.specs.Steps.{AreFlow, AreSteps, HasBadStep, no_steps, first, alone, behind, IsBadStep, between, last, later}
use Rattle.tilt_operators.specs.Steps.{IsFirst, IsFit, IsLast, IsRefused, bad_step, IsStep}
use Rattle.tilt_operators.specs.declared.fault.FlowFault.{FlowFault}
use Rattle.tilt_operators.specs.declared.fault.FlowFault.TheVariants as fault
use Rattle.tilt_operators.specs.declared.step.Step.{Step}
use Rattle.tilt_operators.proofs.Known.{steps-few}

-- a good step, after those that were read
pub good-later : (m : ℕ) (all : List (List Tok)) (ts next : List Tok) (rest tail : List (List Tok)) (read new : List Step) (s : Step)
    → new ≡ read ++ s ∷ [] → rest ≡ next ∷ tail → IsFit (m + 2) ts × IsStep ts (step_tree s)
    → ((others : List StepTree) (domain : Span) → AreSteps (m + 2) (ts ∷ rest) others domain
    → AreSteps 2 all (map step_tree read ++ others) domain)
    → (others : List StepTree) (domain : Span) → AreSteps (m + 1 + 2) (next ∷ tail) others domain
    → AreSteps 2 all (map step_tree new ++ others) domain
good-later m all ts next rest tail read new s is cut fit h others domain k =
    let number : m + 1 + 2 ≡ m + 2 + 1 = omega arith in
    let regrouped : map step_tree new ++ others ≡ map step_tree read ++ (step_tree s ∷ others) = rw is (simp (map-append, append_assoc) refl) in
    let after : AreSteps (m + 2 + 1) (next ∷ tail) others domain = subst (λ (n : ℕ). AreSteps n (next ∷ tail) others domain) number k in
    let whole : AreSteps (m + 2) (ts ∷ rest) (step_tree s ∷ others) domain =
    subst (λ (ss : List (List Tok)). AreSteps (m + 2) (ts ∷ ss) (step_tree s ∷ others) domain) (sym cut) (fit.0, fit.1, after) in
    subst (λ (steps : List StepTree). AreSteps 2 all steps domain) (sym regrouped) (h (step_tree s ∷ others) domain whole)

pub faulty-later : (m : ℕ) (ts next : List Tok) (rest tail : List (List Tok)) (s : Step) (f : FlowFault)
    → rest ≡ next ∷ tail → IsFit (m + 2) ts × IsStep ts (step_tree s) → IsOfBadStep (m + 1 + 2) (next ∷ tail) f
    → IsOfBadStep (m + 2) (ts ∷ rest) f
faulty-later m ts next rest tail s f cut fit h =
    let number : m + 1 + 2 ≡ m + 2 + 1 = omega arith in
    let after : IsBadStep (m + 2 + 1) (next ∷ tail) h.bad = subst (λ (n : ℕ). IsBadStep n (next ∷ tail) h.bad) number h.first in
    record {
      bad = h.bad;
      is = h.is;
      first = subst (λ (ss : List (List Tok)). IsBadStep (m + 2) (ts ∷ ss) h.bad) (sym cut) (later (step_tree s) fit.0 fit.1 after);
    }

-- a bad one, before others and as the last
pub bad-between : (n : ℕ) (ts next : List Tok) (rest tail : List (List Tok)) (f : FlowFault) → rest ≡ next ∷ tail
    → (f ≡ fault.BadStep n) × ((s : StepTree) → IsFit n ts → IsStep ts s → ⊥) → IsOfBadStep n (ts ∷ rest) f
bad-between n ts next rest tail f cut h = record {
  bad = n;
  is = h.0;
  first = subst (λ (ss : List (List Tok)). IsBadStep n (ts ∷ ss) n) (sym cut) (between h.1);
}

pub bad-last : (n : ℕ) (ts : List Tok) (rest : List (List Tok)) (f : FlowFault) → rest ≡ []
    → (f ≡ fault.BadStep n) × ((domain : Span) → IsFit n ts → IsLast ts domain → ⊥) → IsOfBadStep n (ts ∷ rest) f
bad-last n ts rest f none h = record {
  bad = n;
  is = h.0;
  first = subst (λ (ss : List (List Tok)). IsBadStep n (ts ∷ ss) n) (sym none) (last h.1);
}

-- the last step, after those that were read
pub good-last : (m : ℕ) (all : List (List Tok)) (ts : List Tok) (rest : List (List Tok)) (read : List Step) (domain : Span) → rest ≡ []
    → IsFit (m + 2) ts × IsLast ts domain
    → ((others : List StepTree) (domain : Span) → AreSteps (m + 2) (ts ∷ rest) others domain
    → AreSteps 2 all (map step_tree read ++ others) domain)
    → AreSteps 2 all (map step_tree read) domain
good-last m all ts rest read domain none fit h =
    let whole : AreSteps (m + 2) (ts ∷ rest) [] domain = subst (λ (ss : List (List Tok)). AreSteps (m + 2) (ts ∷ ss) [] domain) (sym none) fit in
    rw append-nil at (h [] domain whole)

-- the first step, before the others

pub first-fit : (ts : List Tok) (name : List ℕ) → IsFirst ts name → IsFit 1 ts
first-fit ts name h = record { place = omega arith; short = rw h.0 (omega arith) }

no-bad : (n bad : ℕ) (ss : List (List Tok)) → ss ≡ [] → IsBadStep n ss bad → ⊥
no-bad n bad ss none (between h) = absurd (cc none)
no-bad n bad ss none (last h) = absurd (cc none)
no-bad n bad ss none (later s fit is h) = absurd (cc none)

pub refused-later : (ts step : List Tok) (rest : List (List Tok)) (name : List ℕ) (f : FlowFault) → statements ts ≡ step ∷ rest → IsFirst step name
    → IsOfBadStep 2 rest f → IsRefused ts f
refused-later ts step [] name f cut is h = absurd (no-bad 2 h.bad [] refl h.first)
refused-later ts step (next ∷ rest) name f cut is h =
    let bad = subst (λ (ss : List (List Tok)). HasBadStep ss h.bad) (sym cut) (behind name (first-fit step name is) is h.first) in
    subst (λ (g : FlowFault). IsRefused ts g) (sym h.is) (bad_step bad)

pub refused-first : (ts step : List Tok) (rest : List (List Tok)) → statements ts ≡ step ∷ rest → ((name : List ℕ) → IsFirst step name → ⊥)
    → IsRefused ts (fault.BadStep 1)
refused-first ts step rest cut none = bad_step (subst (λ (ss : List (List Tok)). HasBadStep ss 1) (sym cut) (first (λ name fit is. none name is)))

pub refused-alone : (ts step : List Tok) (rest : List (List Tok)) → statements ts ≡ step ∷ rest → rest ≡ [] → IsRefused ts (fault.BadStep 1)
refused-alone ts step rest cut none =
    bad_step (subst (λ (ss : List (List Tok)). HasBadStep ss 1) (sym (cut ∙ ap (λ (ss : List (List Tok)). step ∷ ss) none)) alone)

pub refused-none : (ts : List Tok) → ts ≡ [] → IsRefused ts (fault.BadStep 1)
refused-none ts none = bad_step (subst (λ (us : List Tok). HasBadStep (statements us) 1) (sym none) no_steps)

-- the steps of a pipeline are few
pub few-steps : (ss : List (List Tok)) (name : List ℕ) (steps : List StepTree) (domain : Span)
    → AreFlow ss (record { first = name; steps = steps; domain = domain }) → length steps ≤ 98
few-steps [] name steps domain h = absurd h
few-steps (ts ∷ rest) name steps domain h = let few = steps-few 2 rest steps domain h.2 in omega arith
