-- The conventions of the inputs with some names, and of all others (our own rule).
use Rattle.std.specs.Prelude.{ℕ, if◌then◌else◌, List, [], ◌∷◌}
use Rattle.std.specs.List.{AllByRecursion}
use Rattle.std.specs.Str.{bytes_eq}
use Rattle.tilt_conventions.specs.Laws.{HoldsATick}
use Rattle.tilt_conventions.specs.declared.options.Convention.{Convention}
use Rattle.tilt_reading_options.specs.declared.input_convention.InputConvention.{InputConvention}

pub record ConventionsValue : Type 0 where
  pub named : List InputConvention
  pub others : Convention

-- each age is a tick at least
pub record AreConventions (conventions : ConventionsValue) : Type 0 where
  pub named : AllByRecursion (λ (one : InputConvention). HoldsATick one.convention) conventions.named
  pub others : HoldsATick conventions.others

-- the convention of the input with a name: the first one with that name, or else that of the others
abbrev pub convention_among : Convention → List InputConvention → List ℕ → Convention
convention_among others [] name = others
convention_among others (one ∷ conventions) name =
    if bytes_eq one.name name then one.convention else convention_among others conventions name

abbrev pub convention_named : ConventionsValue → List ℕ → Convention
convention_named conventions name = convention_among conventions.others conventions.named name

-- the name that a convention has
abbrev pub convention_name : InputConvention → List ℕ
convention_name one = one.name
