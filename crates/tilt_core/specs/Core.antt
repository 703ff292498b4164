-- What a query's core keeps: the names and the definitions of a query that was accepted.
use Rattle.std.specs.Prelude.{◌≡◌, ℕ, suc, ◌+◌, ◌≤◌, ◌<◌, neg_ℤ, ◌<ℤ◌, ◌≤ℤ◌, List, [], ◌∷◌, ◌++◌, length, Option, Some, None}
use Rattle.std.specs.Prelude.{IsSome, ⊤, refl}
use Rattle.std.specs.Coded.{Coded, code_by, coded×, coded_ℕ, coded_list}
use Rattle.std.specs.List.{AllByRecursion}
use Rattle.tilt_base.specs.Expression.{Leaf, One, Two, If}
use Rattle.tilt_base.specs.Grid.{IsGrid}
use Rattle.tilt_base.specs.declared.limits.TheConstants.{T}
use Rattle.tilt_lexer.specs.Word.{AreDistinct, IsName}
use Rattle.tilt_base.specs.declared.span.Span.{Span}
use Rattle.tilt_core.specs.CoreTree.{Const, Read, Reduce, CoreTree, Definition, nodes, coded_definition}

-- the names of the inputs, the names of the definitions except the last one, which is emitted, and the definitions
pub record CoreParts : Type 0 where
  pub inputs : List (List ℕ)
  pub names : List (List ℕ)
  pub defs : List Definition

-- cores are distinguished part by part
abbrev pub coded_core : Coded CoreParts
coded_core =
    code_by (List (List ℕ) × (List (List ℕ) × List Definition))
    (coded× (coded_list (coded_list coded_ℕ)) (coded× (coded_list (coded_list coded_ℕ)) (coded_list coded_definition)))
    (λ c. (c.inputs, (c.names, c.defs)))
    (λ p. record { inputs = p.0; names = p.1.0; defs = p.1.1 })
    (λ _. refl)

-- an expression reads only sources below a number, and each window ends after its start
abbrev pub ReadsBelow : ℕ → CoreTree → Type 0
ReadsBelow bound (Leaf (Const number)) = ⊤
ReadsBelow bound (Leaf (Read source offset)) = source < bound
ReadsBelow bound (Leaf (Reduce reducer source from to)) = (source < bound) × (from <ℤ to)
ReadsBelow bound (One op a) = ReadsBelow bound a
ReadsBelow bound (Two op a b) = ReadsBelow bound a × ReadsBelow bound b
ReadsBelow bound (If c a b) = ReadsBelow bound c × ReadsBelow bound a × ReadsBelow bound b

-- where a span is written, it bounds a stretch of time within `-T..T`
abbrev pub IsStretch : Option Span → Type 0
IsStretch None = ⊤
IsStretch (Some span) = (neg_ℤ T ≤ℤ span.start) × (span.start <ℤ span.end) × (span.end ≤ℤ T)

-- a definition of an accepted query, before which stand so many sources
pub record IsDefinition (before : ℕ) (def : Definition) : Type 0 where
  pub reads : ReadsBelow before def.body
  pub small : nodes def.body ≤ 256
  pub stretch : IsStretch def.over
  pub grid : IsGrid def.grid

-- each definition names only what comes before it
abbrev pub AreDefinitions : ℕ → List Definition → Type 0
AreDefinitions before [] = ⊤
AreDefinitions before (def ∷ defs) = IsDefinition before def × AreDefinitions (suc before) defs

-- the span of the last definition, which is the output domain
abbrev pub domain_of : List Definition → Option Span
domain_of [] = None
domain_of (def ∷ []) = def.over
domain_of (def ∷ next ∷ defs) = domain_of (next ∷ defs)

-- the number of the source that is emitted: the definition after those that have names
abbrev pub emitted_number : CoreParts → ℕ
emitted_number core = length core.inputs + length core.names

-- what the core of an accepted query keeps
pub record IsCore (core : CoreParts) : Type 0 where
  pub one_emitted : length core.defs ≡ suc (length core.names)
  pub few : length core.inputs + length core.defs ≤ 256
  pub distinct : AreDistinct (core.inputs ++ core.names)
  pub named : AllByRecursion IsName (core.inputs ++ core.names)
  pub definitions : AreDefinitions (length core.inputs) core.defs
  pub domain : IsSome (domain_of core.defs)
