-- What the fields of a record say, by its time and its values.
use Rattle.std.proofs.Common.{◌≡◌, ℕ, ℤ, ◌==◌, Bool, true, List, [], length, get_or, Option, Result, Ok, Err, sym, ap, ◌∙◌, subst, arith}
use Rattle.std.specs.Prelude.{if◌then◌else◌}
use Rattle.tilt_reading_lines.specs.Lines.{◌>>=◌, Gives, Said, fields_said, tick_said, values_said}
use Rattle.tilt_reading_lines.specs.Rules.{Layout, RulesValue, SourceValue}
use Rattle.tilt_reading_lines.specs.declared.fault.LineFault.{LineFault}
use Rattle.tilt_reading_lines.specs.declared.fault.LineFault.TheVariants.{FieldCount}
use Rattle.tilt_reading_lines.specs.declared.fault.ReadLineFault.{ReadLineFault}
use Rattle.tilt_reading_lines.specs.declared.rules.InputReading.{InputReading}

-- equal numbers pass the test
equal : (a b : ℕ) → a ≡ b → (a == b) ≡ true
equal a b same = grind arith

-- a record of the right length with a time says what its values say
values_decide : (layout : Layout) (rules : RulesValue) (sources : List SourceValue) (fields : List (List ℕ)) (tick : ℤ) → length fields ≡ layout.count
    → Ok tick ≡ tick_said rules (get_or fields layout.time [])
    → fields_said layout rules sources fields ≡ values_said rules sources fields tick layout.values
values_decide layout rules sources fields tick count said =
    ap (λ (b : Bool). if b then (tick_said rules (get_or fields layout.time []) >>= λ tick. values_said rules sources fields tick layout.values)
    else Err (FieldCount layout.count)) (equal (length fields) layout.count count)
    ∙ ap (λ (r : Result ℤ LineFault). r >>= λ tick. values_said rules sources fields tick layout.values) (sym said)

-- so what gives the one gives the other; one tick may be written in two ways
pub values_given : (layout : Layout) (rules : RulesValue) (sources : List SourceValue) (fields : List (List ℕ)) (tick t2 : ℤ) (text : List ℕ)
    (result : Result (Option ℤ) ReadLineFault) (readings : List InputReading) → length fields ≡ layout.count
    → text ≡ get_or fields layout.time [] → Ok tick ≡ tick_said rules text → t2 ≡ tick
    → Gives result readings (values_said rules sources fields t2 layout.values)
    → Gives result readings (fields_said layout rules sources fields)
values_given layout rules sources fields tick t2 text result readings count at said e2 given =
    subst (λ (s : Result Said LineFault). Gives result readings s)
    (sym (values_decide layout rules sources fields tick count (subst (λ (x : List ℕ). Ok tick ≡ tick_said rules x) at said)))
    (subst (λ (t : ℤ). Gives result readings (values_said rules sources fields t layout.values)) e2 given)
