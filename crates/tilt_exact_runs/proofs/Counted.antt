-- What it means that no rows are counted.
use Rattle.std.proofs.Common.{◌≡◌, ℕ, zero, suc, ◌+◌, ◌≤◌, ℤ, List, [], ◌∷◌, ◌++◌, Option, Some, None, Bool, true, false, if◌then◌else◌, is_some, refl, arith}
use Rattle.std.proofs.lemmas.List.Sums.{sum_by-append}
use Rattle.std.specs.List.{AllByRecursion}
use Rattle.std.specs.Prelude.{◌==◌, cond, codes}
use Rattle.tilt_counting.specs.Count.{count_report, line_count, row_count}
use Rattle.tilt_row_text.specs.Lines.{lines_in, row_line, text_in, time_text, value_text}
use Rattle.tilt_row_text.specs.declared.style.RowStyle.{RowStyle}
use Rattle.tilt_stream.specs.Snap.{Snapshot}
use Rattle.tilt_stream.specs.Stream.{cell_at, covers}

-- none of the snapshots has a value
abbrev pub AreNull : List Snapshot → Type 0
AreNull list = AllByRecursion (λ (s : Snapshot). s.value ≡ None) list

-- nothing is reported of no rows alone
pub report-none : (n : ℕ) → count_report n ≡ [] → n ≡ 0
report-none zero is = refl
report-none (suc n) is = absurd (cc is)

lines_of_both : (text more : List ℕ) → line_count (text ++ more) ≡ line_count text + line_count more
lines_of_both text more = sum_by-append (λ byte. cond (byte == 10) 1 0) text more

lines_behind : (text more : List ℕ) → 1 ≤ line_count more → 1 ≤ line_count (text ++ more)
lines_behind text more some = omega (arith, lines_of_both text more, some)

row_has_line : (style : RowStyle) (s : Snapshot) → 1 ≤ line_count (row_line style s)
row_has_line style s =
    lines_behind (time_text style.times s.start ++ codes "," ++ time_text style.times s.end ++ codes "," ++ value_text style.decimals s.value) (codes "\n")
    (omega (arith))

module _ (style : RowStyle) where
  lines_by : (s : Snapshot) (ss : List Snapshot) (value : Option ℤ) → s.value ≡ value
      → line_count (if is_some value then row_line style s ++ lines_in style ss else lines_in style ss) ≡ 0
      → (s.value ≡ None) × (line_count (lines_in style ss) ≡ 0)
  lines_by s ss None is none = (is, none)
  lines_by s ss (Some value) is none =
      let both = lines_of_both (row_line style s) (lines_in style ss) in
      let some = row_has_line style s in
      let wrong : ⊥ = omega (arith, both, some, none) in
      absurd wrong

  lines_none : (list : List Snapshot) → line_count (lines_in style list) ≡ 0 → AreNull list
  lines_none [] none = tt
  lines_none (s ∷ ss) none = let parts = lines_by s ss s.value refl none in (parts.0, lines_none ss parts.1)

  -- a text with no rows is one of snapshots without values
  pub rows-none : (list : List Snapshot) → row_count (text_in style list) ≡ 0 → AreNull list
  rows-none list none =
      let both = lines_of_both (codes "start,end,value\n") (lines_in style list) in
      lines_none list (omega (arith, both, none))

none_either : (inside : Bool) (first rest : Option ℤ) → first ≡ None → rest ≡ None → (if inside then first else rest) ≡ None
none_either true first rest is others = is
none_either false first rest is others = others

-- and their cells are null
pub null-cell : (list : List Snapshot) (tick : ℤ) → AreNull list → cell_at list tick ≡ None
null-cell [] tick nulls = refl
null-cell (s ∷ ss) tick nulls = none_either (covers s tick) s.value (cell_at ss tick) nulls.0 (null-cell ss tick nulls.1)
