-- How the query of a pipeline is composed.
use Rattle.std.proofs.Common.{◌≡◌, ◌<◌, ◌^◌, ℕ, zero, suc, ◌+◌, List, [], ◌∷◌, ◌++◌, length, map, codes, decimal, get_or, drop, None, refl, sym, ap, ◌∙◌, arith, append_assoc}
use Rattle.std.specs.List.{AllByRecursion}
use Rattle.std.proofs.lemmas.Int.{ints}
use Rattle.std.proofs.lemmas.List.{length-map}
use Rattle.tilt_base.specs.declared.span.Span.{Span}
use Rattle.tilt_lexer.specs.Word.{IsWord}
use Rattle.tilt_lexer.specs.declared.token.Tok.{Tok}
use Rattle.tilt_syntax.proofs.Sounds.{EachSound, statements_sound}
use Rattle.tilt_syntax.specs.Query.{AreSound, statements}
use Rattle.tilt_syntax.specs.Tree.{StatementTree, Input, Let, Emit}
use Rattle.tilt_operators.specs.Desugared.{IsNegatable, query_of, reading, source_name, step_definitions, step_expr}
use Rattle.tilt_operators.specs.Flow.{StepTree, Select, Keep, Shift, Window, Join, FlowTree, step_tree}
use Rattle.tilt_operators.specs.Inputs.{inputs_of}
use Rattle.tilt_operators.specs.Steps.{AreFlow, AreSteps, IsFlow}
use Rattle.tilt_operators.specs.declared.step.Step.{Step}
use Rattle.tilt_operators.proofs.Written.{bound-within, decimal_goes_on, inside-sound}

-- the negatives of shifts and widths of a text have 64 bits
steps-negatable : (n : ℕ) (ss : List (List Tok)) (steps : List StepTree) (domain : Span) → AreSteps n ss steps domain → EachSound ss
    → AllByRecursion IsNegatable steps
steps-negatable n [] steps domain h sound = absurd h
steps-negatable n (ts ∷ []) [] domain h sound = tt
steps-negatable n (ts ∷ []) (s ∷ steps) domain h sound = absurd h
steps-negatable n (ts ∷ next ∷ rest) [] domain h sound = absurd h
steps-negatable n (ts ∷ next ∷ rest) (Select e ∷ steps) domain h sound =
    (tt, steps-negatable (n + 1) (next ∷ rest) steps domain h.2 sound.1)
steps-negatable n (ts ∷ next ∷ rest) (Keep e ∷ steps) domain h sound =
    (tt, steps-negatable (n + 1) (next ∷ rest) steps domain h.2 sound.1)
steps-negatable n (ts ∷ next ∷ rest) (Shift by ∷ steps) domain h sound =
    let inner : AreSound h.1.inside = inside-sound h.1.word h.1.inside (rw h.1.whole at sound.0) in
    ((bound-within h.1.is.1 inner).0, steps-negatable (n + 1) (next ∷ rest) steps domain h.2 sound.1)
steps-negatable n (ts ∷ next ∷ rest) (Window r width ∷ steps) domain h sound =
    (omega (arith, ints, h.1.is.3), steps-negatable (n + 1) (next ∷ rest) steps domain h.2 sound.1)
steps-negatable n (ts ∷ next ∷ rest) (Join x e ∷ steps) domain h sound =
    (tt, steps-negatable (n + 1) (next ∷ rest) steps domain h.2 sound.1)

negatable-by : (ss : List (List Tok)) (flow : FlowTree) → AreFlow ss flow → EachSound ss → AllByRecursion IsNegatable flow.steps
negatable-by [] flow h sound = absurd h
negatable-by (ts ∷ rest) flow h sound = steps-negatable 2 rest flow.steps flow.domain h.2 sound.1

pub negatable : (flow : FlowTree) → IsFlow flow → AllByRecursion IsNegatable flow.steps
negatable flow is = negatable-by (statements is.tokens) flow is.read.steps (statements_sound is.tokens is.sound)

-- at one of them
pub negatable-at : (steps : List Step) (i : ℕ) (s : Step) → AllByRecursion IsNegatable (map step_tree steps) → i < length steps
    → s ≡ get_or steps i s → IsNegatable (step_tree s)
negatable-at [] i s h low is = absurd (omega arith)
negatable-at (x ∷ steps) zero s h low is = rw is h.0
negatable-at (x ∷ steps) (suc i) s h low is = negatable-at steps i s h.1 (omega arith) is

-- the name of a definition is a word
pub number-word : (n : ℕ) → n < 2 ^ 64 → IsWord (codes "_" ++ decimal n)
number-word n small = decimal_goes_on n small

-- a step more
defined : (first name before : List ℕ) (i : ℕ) (s : Step) (rest : List Step) (old new all : List StatementTree)
    → name ≡ source_name first (suc i) → before ≡ source_name first i
    → new ≡ old ++ Let name (step_expr before (step_tree s)) None None ∷ []
    → old ++ step_definitions first i (map step_tree (s ∷ rest)) ≡ all
    → new ++ step_definitions first (suc i) (map step_tree rest) ≡ all
defined first name before i s rest old new all named was is h = rw (is, named, was, append_assoc) h

from-place : (steps : List Step) (i : ℕ) (s : Step) → i < length steps → s ≡ get_or steps i s → drop i steps ≡ s ∷ drop (suc i) steps
from-place [] i s low is = absurd (omega arith)
from-place (x ∷ steps) zero s low is = ap (λ (y : Step). y ∷ steps) (sym is)
from-place (x ∷ steps) (suc i) s low is = from-place steps i s (omega arith) is

pub defined-at : (first name before : List ℕ) (steps : List Step) (i : ℕ) (s : Step) (old new all : List StatementTree)
    → i < length steps → s ≡ get_or steps i s → name ≡ source_name first (suc i) → before ≡ source_name first i
    → new ≡ old ++ Let name (step_expr before (step_tree s)) None None ∷ []
    → old ++ step_definitions first i (map step_tree (drop i steps)) ≡ all
    → new ++ step_definitions first (i + 1) (map step_tree (drop (i + 1) steps)) ≡ all
defined-at first name before steps i s old new all low at named was is h =
    let next : i + 1 ≡ suc i = omega arith in
    rw next (defined first name before i s (drop (suc i) steps) old new all named was is (rw (from-place steps i s low at) at h))

-- the name of a definition, by its number
pub named-at : (first name : List ℕ) (number i : ℕ) → name ≡ codes "_" ++ decimal (number + 1) → number ≡ i → name ≡ source_name first (i + 1)
named-at first name number i is same =
    let next : number + 1 ≡ suc i = omega (arith, same) in
    let place : i + 1 ≡ suc i = omega arith in
    rw place (rw next at is)

-- the whole of them
pub composed : (flow : FlowTree) (inputs defs made : List StatementTree) → inputs ≡ map Input (inputs_of flow)
    → defs ≡ inputs ++ step_definitions flow.first 0 flow.steps
    → made ≡ defs ++ Emit (reading (source_name flow.first (length flow.steps))) flow.domain None ∷ [] → made ≡ query_of flow
composed flow inputs defs made a b c = rw (c, b, a, append_assoc) refl

-- the name of the last source, by the steps in memory
pub last-name : (first other : List ℕ) (steps : List Step) (trees : List StepTree) → first ≡ other → map step_tree steps ≡ trees
    → source_name first (length steps) ≡ source_name other (length trees)
last-name first other steps trees is h =
    let count : length trees ≡ length steps = ap length (sym h) ∙ length-map steps step_tree in
    rw (is, count) refl
