-- What a word spells as the value of an option: a value of its shape, and one at most.
use Rattle.std.proofs.Common.{◌≡◌, ◌≢◌, ℕ, ℤ, pos, neg_ℤ, List, [], refl, sym, ap, ◌∙◌}
use Rattle.std.specs.Prelude.{◌+ℤ◌}
use Rattle.tilt_base.specs.declared.limits.TheConstants.{T}
use Rattle.tilt_cli.specs.Number.{AreRising, AreUpTo, IsNumber}
use Rattle.tilt_cli.specs.Options.{IsValue, OptionValue, text, times, numbers, cuts, span}
use Rattle.tilt_cli.specs.Upto.{IsUpto, UptoValue}
use Rattle.tilt_cli.specs.declared.option_table.Shape.{Shape}
use Rattle.tilt_cli.specs.declared.option_table.Shape.TheVariants as shape
use Rattle.tilt_cli.proofs.Listed.{same_number, same_parts, same_rising}
use Rattle.tilt_cli.proofs.UptoRead.{same_upto}

-- the value of each shape
pub only_text : (word : List ℕ) (value : OptionValue) → IsValue shape.Text word value → (word ≢ []) × (value ≡ text word)
only_text word (text bytes) is = (is.1, ap text is.0)
only_text word value is = absurd is

pub only_times : (word : List ℕ) (value : OptionValue) → IsValue shape.Times word value →
    (ticks : List ℤ) × AreRising (pos 0) (neg_ℤ T) T word ticks × (value ≡ times ticks)
only_times word (times ticks) is = (ticks, is, refl)
only_times word value is = absurd is

pub only_rising : (word : List ℕ) (value : OptionValue) → IsValue shape.RisingTimes word value →
    (ticks : List ℤ) × AreRising (pos 1) (neg_ℤ T) T word ticks × (value ≡ times ticks)
only_rising word (times ticks) is = (ticks, is, refl)
only_rising word value is = absurd is

pub only_numbers : (word : List ℕ) (value : OptionValue) → IsValue shape.Numbers word value →
    (parts : List ℕ) × AreUpTo 4294967295 word parts × (value ≡ numbers parts)
only_numbers word (numbers parts) is = (parts, is, refl)
only_numbers word value is = absurd is

pub only_ticks : (word : List ℕ) (value : OptionValue) → IsValue shape.Ticks word value →
    (ticks : ℕ) × IsNumber (pos 0) (T +ℤ T) word (pos ticks) × (value ≡ span ticks)
only_ticks word (span ticks) is = (ticks, is, refl)
only_ticks word value is = absurd is

pub only_cuts : (word : List ℕ) (value : OptionValue) → IsValue shape.Cuts word value →
    (upto : UptoValue) × IsUpto word upto × (value ≡ cuts upto)
only_cuts word (cuts upto) is = (upto, is, refl)
only_cuts word value is = absurd is

-- a word spells one value
pub same_value : (form : Shape) (word : List ℕ) (x y : OptionValue) → IsValue form word x → IsValue form word y → x ≡ y
same_value shape.Flag word x y a b = absurd a
same_value shape.Text word x y a b = (only_text word x a).1 ∙ sym (only_text word y b).1
same_value shape.Times word x y a b =
    let p = only_times word x a in
    let q = only_times word y b in
    p.2 ∙ ap times (same_rising (pos 0) T (neg_ℤ T) word p.0 q.0 p.1 q.1) ∙ sym q.2
same_value shape.RisingTimes word x y a b =
    let p = only_rising word x a in
    let q = only_rising word y b in
    p.2 ∙ ap times (same_rising (pos 1) T (neg_ℤ T) word p.0 q.0 p.1 q.1) ∙ sym q.2
same_value shape.Numbers word x y a b =
    let p = only_numbers word x a in
    let q = only_numbers word y b in
    p.2 ∙ ap numbers (same_parts 4294967295 word p.0 q.0 p.1 q.1) ∙ sym q.2
same_value shape.Cuts word x y a b =
    let p = only_cuts word x a in
    let q = only_cuts word y b in
    p.2 ∙ ap cuts (same_upto word p.0 q.0 p.1 q.1) ∙ sym q.2
same_value shape.Ticks word x y a b =
    let p = only_ticks word x a in
    let q = only_ticks word y b in
    let same : pos p.0 ≡ pos q.0 = same_number (pos 0) (T +ℤ T) (pos 0) (T +ℤ T) word (pos p.0) (pos q.0) p.1 q.1 in
    let ticks : p.0 ≡ q.0 = cc in
    p.2 ∙ ap span ticks ∙ sym q.2
