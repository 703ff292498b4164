-- The lines of snapshots, one after another, and in the plain style.
use Rattle.std.proofs.Common.{◌≡◌, ◌==◌, ℕ, Bool, true, false, if◌then◌else◌, List, [], ◌∷◌, ◌++◌, ℤ, Option, None, Some, is_some, codes}
use Rattle.std.proofs.Common.{refl, sym, append_assoc}
use Rattle.std.proofs.lemmas.Bool.{and_parts, eqb-true}
use Rattle.std.specs.Fmt.{signed_decimal}
use Rattle.tilt_row_text.specs.Lines.{begun_line, lines_in, row_line, text_in, time_text, value_text}
use Rattle.tilt_row_text.specs.Styles.{are_ticks, is_plain}
use Rattle.tilt_row_text.specs.declared.style.RowStyle.{RowStyle}
use Rattle.tilt_row_text.specs.declared.times.Times.{Times}
use Rattle.tilt_row_text.specs.declared.times.Times.TheVariants.{Dates, Ticks}
use Rattle.tilt_stream.specs.Snap.{Snapshot}
use Rattle.tilt_stream.specs.Text.{cell_text, lines_of, row_text, text_of}

by_value : (some : Bool) (line rest more : List ℕ) → (if some then line ++ (rest ++ more) else rest ++ more) ≡ (if some then line ++ rest else rest) ++ more
by_value true line rest more = sym (append_assoc line rest more)
by_value false line rest more = refl

-- the lines of two lists, one after the other
pub lines-append : (style : RowStyle) (xs ys : List Snapshot) → lines_in style (xs ++ ys) ≡ lines_in style xs ++ lines_in style ys
lines-append style [] ys = refl
lines-append style (x ∷ xs) ys = rw (lines-append style xs ys) (by_value (is_some x.value) (row_line style x) (lines_in style xs) (lines_in style ys))

-- ticks as times, and whole numbers as values
time-plain : (times : Times) (tick : ℤ) → are_ticks times ≡ true → time_text times tick ≡ signed_decimal tick
time-plain Ticks tick e = refl
time-plain (Dates clock) tick e = absurd (cc e)

value-plain : (value : Option ℤ) → value_text 0 value ≡ cell_text value
value-plain None = refl
value-plain (Some value) = refl

-- in the plain style a line is that of the rows of series
pub row-plain : (style : RowStyle) (s : Snapshot) → is_plain style ≡ true → row_line style s ≡ row_text s
row-plain style s plain =
    let parts = and_parts (are_ticks style.times) (style.decimals == 0) plain in
    let none : style.decimals ≡ 0 = eqb-true style.decimals 0 parts.1 in
    rw (time-plain style.times s.start parts.0, time-plain style.times s.end parts.0, none, value-plain s.value) refl

pub lines-plain : (style : RowStyle) (list : List Snapshot) → is_plain style ≡ true → lines_in style list ≡ lines_of list
lines-plain style [] plain = refl
lines-plain style (s ∷ ss) plain = rw (row-plain style s plain, lines-plain style ss plain) refl

pub text-plain : (style : RowStyle) (list : List Snapshot) → is_plain style ≡ true → text_in style list ≡ text_of list
text-plain style list plain = rw (lines-plain style list plain) refl

pub begun-plain : (style : RowStyle) (start value : ℤ) → is_plain style ≡ true
    → begun_line style start value ≡ signed_decimal start ++ codes ",," ++ signed_decimal value ++ codes "\n"
begun-plain style start value plain =
    let parts = and_parts (are_ticks style.times) (style.decimals == 0) plain in
    let none : style.decimals ≡ 0 = eqb-true style.decimals 0 parts.1 in
    rw (time-plain style.times start parts.0, none) refl
