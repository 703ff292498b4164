-- Why no state was read of a text.
use Rattle.std.specs.Prelude.{◌≡◌, ⊤, ℕ, List, ◌++◌}
use Rattle.tilt_keyed_state.specs.Spelling.{first_line, spelled}
use Rattle.tilt_keyed_state.specs.State.{KeyedStateParts}
use Rattle.tilt_keyed_state.specs.declared.fault.KeyedStateFault.{KeyedStateFault}
use Rattle.tilt_keyed_state.specs.declared.fault.KeyedStateFault.TheVariants as faults

-- a text begins with the first line of a state
abbrev pub HasFirstLine : List ℕ → Type 0
HasFirstLine text = (rest : List ℕ) × (text ≡ first_line ++ rest)

-- why no state was read: the text begins otherwise, or it begins so and spells no state
abbrev pub SpellsNone : List ℕ → KeyedStateFault → Type 0
SpellsNone text faults.OtherFormat = ¬ (HasFirstLine text)
SpellsNone text faults.Damaged = HasFirstLine text × ((s : KeyedStateParts) → ¬ (text ≡ spelled s))
SpellsNone text faults.OutOfMemory = ⊤
