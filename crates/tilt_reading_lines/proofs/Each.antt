-- Inputs, one after another.
use Rattle.std.proofs.Common.{◌≡◌, ℕ, ◌+◌, ◌<◌, ◌≤◌, ℤ, List, [], ◌∷◌, ◌++◌, length, get_or, drop, Option, Result}
use Rattle.std.proofs.Common.{Ok, Err, refl, sym, ap, ◌∙◌, ap₂, subst, suc, min, append_assoc, append-nil, add-one, drop-cons, length-drop, arith}
use Rattle.tilt_reading_lines.specs.Lines.{◌>>=◌, Fills, appended, each_reading, listed, reading_said}
use Rattle.tilt_reading_lines.specs.Rules.{RulesValue, SourceValue}
use Rattle.tilt_reading_lines.specs.declared.fault.HeaderFault.{HeaderFault}
use Rattle.tilt_reading_lines.specs.declared.fault.LineFault.{LineFault}
use Rattle.tilt_reading_lines.specs.declared.fault.ReadLineFault.{ReadLineFault}
use Rattle.tilt_reading_lines.specs.declared.fault.ReadLineFault.TheVariants.{BadLine, OutOfMemory}
use Rattle.tilt_reading_lines.specs.declared.rules.InputReading.{InputReading}

-- readings before others, and places before others
abbrev pub continued : List InputReading → Result (List InputReading) LineFault → Result (List InputReading) LineFault
continued front (Ok others) = Ok (front ++ others)
continued front (Err fault) = Err fault

abbrev pub placed : List ℕ → Result (List ℕ) HeaderFault → Result (List ℕ) HeaderFault
placed front (Ok others) = Ok (front ++ others)
placed front (Err fault) = Err fault

-- a reading, and then the others
abbrev pub each_of : Result (Option InputReading) LineFault → Result (List InputReading) LineFault → Result (List InputReading) LineFault
each_of here rest = here >>= λ first. (rest >>= λ others. Ok (listed first ++ others))

-- after one more reading the others come after it
then_others : (here : Result (Option InputReading) LineFault) (rest : Result (List InputReading) LineFault)
    (front more : List InputReading) → appended front here ≡ Ok more → continued front (each_of here rest) ≡ continued more rest
then_others (Err fault) rest front more is = cc is
then_others (Ok first) (Err fault) front more is = refl
then_others (Ok first) (Ok others) front more is =
    let same : front ++ listed first ≡ more = cc is in
    ap (λ (all : List InputReading). Ok all) (sym (append_assoc front (listed first) others) ∙ ap (λ (all : List InputReading). all ++ others) same)

-- one that is bad makes all bad
then_bad : (here : Result (Option InputReading) LineFault) (rest : Result (List InputReading) LineFault)
    (front : List InputReading) (fault : LineFault) → appended front here ≡ Err fault → continued front (each_of here rest) ≡ Err fault
then_bad (Err other) rest front fault is = is
then_bad (Ok first) rest front fault is = cc is

-- the readings of inputs from one on: its own, and then those of the others
from_input : (rules : RulesValue) (fields : List (List ℕ)) (tick : ℤ) (input : ℕ) (source : SourceValue) (sources : List SourceValue) (places : List ℕ)
    → input < length sources → input < length places → source ≡ get_or sources input source
    → each_reading rules fields tick input (drop input sources) (drop input places)
    ≡ each_of (reading_said rules tick input source.scale (get_or fields (get_or places input 0) []))
    (each_reading rules fields tick (input + 1) (drop (input + 1) sources) (drop (input + 1) places))
from_input rules fields tick input source sources places low lower is =
    let first : drop input sources ≡ source ∷ drop (input + 1) sources =
    rw add-one (drop-cons sources input source low ∙ ap (λ (x : SourceValue). x ∷ drop (suc input) sources) (sym is)) in
    let second : drop input places ≡ get_or places input 0 ∷ drop (input + 1) places = rw add-one (drop-cons places input 0 lower) in
    ap₂ (λ (xs : List SourceValue) (ys : List ℕ). each_reading rules fields tick input xs ys) first second

-- the readings so far and those of the inputs that are left are all
abbrev pub Goes : RulesValue → List (List ℕ) → List SourceValue → List ℕ → ℕ → List InputReading → ℤ → Type 0
Goes rules fields sources places input front tick =
    continued front (each_reading rules fields tick input (drop input sources) (drop input places)) ≡ each_reading rules fields tick 0 sources places

-- after one more input
plain_more : (rules : RulesValue) (fields : List (List ℕ)) (sources : List SourceValue) (places : List ℕ) (tick : ℤ) (input : ℕ) (source : SourceValue)
    (front more : List InputReading) → input < length sources → input < length places → source ≡ get_or sources input source
    → Goes rules fields sources places input front tick
    → appended front (reading_said rules tick input source.scale (get_or fields (get_or places input 0) [])) ≡ Ok more
    → Goes rules fields sources places (input + 1) more tick
plain_more rules fields sources places tick input source front more low lower is goes said =
    sym (ap (continued front) (from_input rules fields tick input source sources places low lower is)
    ∙ then_others (reading_said rules tick input source.scale (get_or fields (get_or places input 0) []))
    (each_reading rules fields tick (input + 1) (drop (input + 1) sources) (drop (input + 1) places)) front more said)
    ∙ goes

-- the same, where one tick is written in several ways
pub one_more : (rules : RulesValue) (fields : List (List ℕ)) (sources : List SourceValue) (places : List ℕ) (tick t1 t2 t3 : ℤ) (input : ℕ)
    (source : SourceValue) (text : List ℕ) (front more : List InputReading)
    → t1 ≡ tick → t2 ≡ tick → t3 ≡ tick → input < length sources → input < length places → source ≡ get_or sources input source
    → text ≡ get_or fields (get_or places input 0) []
    → Goes rules fields sources places input front t2
    → appended front (reading_said rules t3 input source.scale text) ≡ Ok more
    → Goes rules fields sources places (input + 1) more t1
one_more rules fields sources places tick t1 t2 t3 input source text front more e1 e2 e3 low lower is at goes said =
    subst (λ (t : ℤ). Goes rules fields sources places (input + 1) more t) (sym e1)
    (plain_more rules fields sources places tick input source front more low lower is
    (subst (λ (t : ℤ). Goes rules fields sources places input front t) e2 goes)
    (subst (λ (x : List ℕ). appended front (reading_said rules tick input source.scale x) ≡ Ok more) at
    (subst (λ (t : ℤ). appended front (reading_said rules t input source.scale text) ≡ Ok more) e3 said)))

-- an input whose text is bad
plain_bad : (rules : RulesValue) (fields : List (List ℕ)) (sources : List SourceValue) (places : List ℕ) (tick : ℤ) (input : ℕ) (source : SourceValue)
    (front any : List InputReading) (fault : ReadLineFault) → input < length sources → input < length places
    → source ≡ get_or sources input source → Goes rules fields sources places input front tick
    → Fills (Err fault) any (appended front (reading_said rules tick input source.scale (get_or fields (get_or places input 0) [])))
    → Fills (Err fault) any (each_reading rules fields tick 0 sources places)
plain_bad rules fields sources places tick input source front any OutOfMemory low lower is goes said = said
plain_bad rules fields sources places tick input source front any (BadLine cause) low lower is goes said =
    sym goes ∙ ap (continued front) (from_input rules fields tick input source sources places low lower is)
    ∙ then_bad (reading_said rules tick input source.scale (get_or fields (get_or places input 0) []))
    (each_reading rules fields tick (input + 1) (drop (input + 1) sources) (drop (input + 1) places)) front cause said

pub one_bad : (rules : RulesValue) (fields : List (List ℕ)) (sources : List SourceValue) (places : List ℕ) (tick t2 t3 : ℤ) (input : ℕ)
    (source : SourceValue) (text : List ℕ) (front any : List InputReading) (fault : ReadLineFault)
    → t2 ≡ tick → t3 ≡ tick → input < length sources → input < length places → source ≡ get_or sources input source
    → text ≡ get_or fields (get_or places input 0) []
    → Goes rules fields sources places input front t2
    → Fills (Err fault) any (appended front (reading_said rules t3 input source.scale text))
    → Fills (Err fault) any (each_reading rules fields tick 0 sources places)
one_bad rules fields sources places tick t2 t3 input source text front any fault e2 e3 low lower is at goes said =
    plain_bad rules fields sources places tick input source front any fault low lower is
    (subst (λ (t : ℤ). Goes rules fields sources places input front t) e2 goes)
    (subst (λ (x : List ℕ). Fills (Err fault) any (appended front (reading_said rules tick input source.scale x))) at
    (subst (λ (t : ℤ). Fills (Err fault) any (appended front (reading_said rules t input source.scale text))) e3 said))

-- no input is left
none_left : (rules : RulesValue) (fields : List (List ℕ)) (tick : ℤ) (input : ℕ) (sources : List SourceValue) (places : List ℕ)
    → min (length sources) (length places) ≡ 0 → each_reading rules fields tick input sources places ≡ Ok []
none_left rules fields tick input [] places none = refl
none_left rules fields tick input (source ∷ sources) [] none = refl
none_left rules fields tick input (source ∷ sources) (place ∷ places) none = absurd (omega arith)

-- the readings of all inputs
pub all_read : (rules : RulesValue) (fields : List (List ℕ)) (sources : List SourceValue) (places : List ℕ) (tick t2 : ℤ) (input : ℕ)
    (front : List InputReading) → t2 ≡ tick → min (length sources) (length places) ≤ input
    → Goes rules fields sources places input front t2 → each_reading rules fields tick 0 sources places ≡ Ok front
all_read rules fields sources places tick t2 input front e2 over goes =
    let none : min (length (drop input sources)) (length (drop input places)) ≡ 0 = grind (arith, length-drop) in
    sym (subst (λ (t : ℤ). Goes rules fields sources places input front t) e2 goes)
    ∙ ap (continued front) (none_left rules fields tick input (drop input sources) (drop input places) none)
    ∙ ap (λ (all : List InputReading). Ok all) (append-nil front)
