-- How many marks definitions can have, and how many snapshots windows meet.
use Rattle.std.proofs.Common.{◌≡◌, ℕ, zero, suc, ◌+◌, ◌≤◌, ℤ, pos, negsuc, ◌+ℤ◌, ◌-ℤ◌, ◌≤ℤ◌, ◌<ℤ◌, Bool, true, false, ◌||◌, ◌&&◌, if◌then◌else◌, List, [], ◌∷◌, ◌++◌, length, Option, Some, None, unsigned_abs, refl, sym, ap, ◌∙◌, arith, ◌==◌, map, ◌<◌, min, subst}
use Rattle.std.specs.Int.{int_gap}
use Rattle.std.specs.Ordering.{int_eq}
use Rattle.std.proofs.lemmas.Int.{ints}
use Rattle.std.proofs.lemmas.List.{length_push}
use Rattle.tilt_base.proofs.GridPoints.{ceil-IsCeil, ceil-point, is_point-Decides}
use Rattle.tilt_base.specs.Expression.{Leaf, One, Two, If}
use Rattle.tilt_base.specs.Grid.{GridPoints, IsGrid, is_point}
use Rattle.tilt_base.specs.declared.reducer.Reducer.{Reducer}
use Rattle.tilt_base.specs.declared.span.Span.{Span}
use Rattle.tilt_core.specs.CoreTree.{CoreTree, Const, Read, Reduce, Definition}
use Rattle.tilt_core.specs.Meaning.{AreGrids, body_of, definition_of, source_of, with_definitions, within, sources}
use Rattle.tilt_magnitudes.proofs.Counts.{bit, count_all, count_apart, count_either, count_implied, count_in_ticks, count_none, count_shifted}
use Rattle.tilt_magnitudes.proofs.Windows.{few_met, same_gap}
use Rattle.tilt_base.proofs.Lists.{length-numbers}
use Rattle.tilt_base.specs.Reduce.{numbers}
use Rattle.tilt_magnitudes.specs.Law.{HaveAllMarks}
use Rattle.tilt_magnitudes.specs.Marks.{HasAtMost, HaveMarks, count_behind, in_ticks, marks_at, marks_of_body, marks_of_definition, marks_on_grid, marks_over, more_marks, snapshots_met, HaveRates, input_marks, marks_in}
use Rattle.tilt_stream.specs.Domain.{lies_in, on_grid, some_mark}
use Rattle.tilt_stream.specs.Pointwise.{shifted}
use Rattle.tilt_magnitudes.specs.declared.met.Rate.{Rate}
use Rattle.std.proofs.lemmas.Bool.Decides.{nat_tests}
use Rattle.tilt_stream.specs.Snap.{Snapshot}
use Rattle.tilt_stream.specs.Stream.{Stream, mark_at, stream_of}
use Rattle.tilt_stream.specs.Window.{met, met_behind, windowed}

no_marks : (tick : ℤ) (n : ℕ) → count_behind (λ t. false) tick n ≤ 0
no_marks tick n = let e = count_none (λ t. false) tick n (λ other low high. refl) in omega arith

read_marks : (x : Stream) (offset : ℤ) (most n : ℕ) → HasAtMost most n x.mark → HasAtMost most n (shifted x offset).mark
read_marks x offset most n h tick = let e = count_shifted x.mark offset tick n in let a = h (tick +ℤ offset) in omega arith

first_tick : (tick from : ℤ) → tick +ℤ from +ℤ pos 1 ≡ tick +ℤ (from +ℤ pos 1)
first_tick tick from = omega (arith, ints)

window_marks : (r : Reducer) (x : Stream) (from to : ℤ) (most n : ℕ) → HasAtMost most n x.mark → HasAtMost (most + most) n (windowed r from to x).mark
window_marks r x from to most n h tick =
    let last : ℤ → Bool = λ t. x.mark (t +ℤ to) in
    let first : ℤ → Bool = λ t. x.mark (t +ℤ from +ℤ pos 1) in
    let moved : ℤ → Bool = λ t. x.mark (t +ℤ (from +ℤ pos 1)) in
    let a = count_either last first tick n in
    let b = read_marks x to most n h tick in
    let c = count_implied first moved (λ t is. sym (ap x.mark (first_tick t from)) ∙ is) tick n in
    let d = read_marks x (from +ℤ pos 1) most n h tick in
    omega arith

pub body_marks : (n : ℕ) (marks : List ℕ) (xs : List Stream) → HaveMarks n marks xs → (e : CoreTree)
    → HasAtMost (marks_of_body marks e) n (body_of xs e).mark
body_marks n marks xs h (Leaf (Const number)) tick = no_marks tick n
body_marks n marks xs h (Leaf (Read source offset)) tick = read_marks (source_of xs source) offset (marks_at marks source) n (h source) tick
body_marks n marks xs h (Leaf (Reduce r source from to)) tick =
    window_marks r (source_of xs source) from to (marks_at marks source) n (h source) tick
body_marks n marks xs h (One op a) tick = body_marks n marks xs h a tick
body_marks n marks xs h (Two op a b) tick =
    let c = count_either (body_of xs a).mark (body_of xs b).mark tick n in
    let d = body_marks n marks xs h a tick in
    let e = body_marks n marks xs h b tick in
    omega arith
body_marks n marks xs h (If c a b) tick =
    let p = (body_of xs c).mark in
    let q = (body_of xs a).mark in
    let r = (body_of xs b).mark in
    let d = count_either (λ t. p t || q t) r tick n in
    let e = count_either p q tick n in
    let f = body_marks n marks xs h c tick in
    let g = body_marks n marks xs h a tick in
    let i = body_marks n marks xs h b tick in
    omega arith

both_true : (x y : Bool) → (x && y) ≡ true → (x ≡ true) × (y ≡ true)
both_true true true h = (refl, refl)
both_true true false h = absurd (cc h)
both_true false y h = absurd (cc h)

or_false : (x : Bool) → (x || false) ≡ true → x ≡ true
or_false true h = refl
or_false false h = h

one_tick : (x : Stream) (tick : ℤ) (p : ℕ) → p ≡ 1 → some_mark x (tick -ℤ pos 1) p ≡ true → x.mark tick ≡ true
one_tick x tick p e h =
    let back : (tick -ℤ pos 1) +ℤ pos 1 ≡ tick = omega (arith, ints) in
    sym (ap x.mark back) ∙ or_false (x.mark ((tick -ℤ pos 1) +ℤ pos 1)) (sym (ap (λ k. some_mark x (tick -ℤ pos 1) k) e) ∙ h)

size_is : (p : ℤ) → pos 1 ≤ℤ p → pos (unsigned_abs p) ≡ p
size_is (pos n) h = refl
size_is (negsuc n) h = absurd (omega (arith, ints))

not_both : (x y : Bool) → (x ≡ true → ⊥) → (x && y) ≡ false
not_both true y h = absurd (h refl)
not_both false y h = refl

-- two grid points are a period apart
apart : (grid : GridPoints) → pos 1 ≤ℤ grid.period → (a b : ℤ) → is_point grid a ≡ true → a <ℤ b → b <ℤ (a +ℤ grid.period)
    → is_point grid b ≡ true → ⊥
apart grid h a b at low high is =
    let next = (ceil-point grid a h at).1 in
    let point = (is_point-Decides grid b h).0 is in
    let least = (ceil-IsCeil grid (a +ℤ pos 1) h).least b point (omega (arith, ints)) in
    omega (arith, ints)

-- a mark on a grid is after a grid point
grid_apart : (grid : GridPoints) (x : Stream) (p : ℕ) → pos 1 ≤ℤ grid.period → pos p ≡ grid.period → (a b : ℤ)
    → (on_grid grid x).mark a ≡ true → a <ℤ b → b <ℤ (a +ℤ pos p) → (on_grid grid x).mark b ≡ false
grid_apart grid x p h e a b at low high =
    let point = (both_true (is_point grid (a -ℤ pos 1)) (some_mark x (a -ℤ pos 1) (unsigned_abs grid.period)) at).0 in
    not_both (is_point grid (b -ℤ pos 1)) (some_mark x (b -ℤ pos 1) (unsigned_abs grid.period))
    (λ is. apart grid h (a -ℤ pos 1) (b -ℤ pos 1) point (omega (arith, ints)) (omega (arith, ints)) is)

grid_by : (each : Bool) (grid : GridPoints) (x : Stream) (most n : ℕ) → pos 1 ≤ℤ grid.period → int_eq grid.period (pos 1) ≡ each
    → HasAtMost most n x.mark → HasAtMost (if each then most else in_ticks 1 (unsigned_abs grid.period) n) n (on_grid grid x).mark
grid_by true grid x most n h e few tick =
    let one : grid.period ≡ pos 1 = grind (arith, ints) in
    let a = count_implied (on_grid grid x).mark x.mark (λ t is.
    one_tick x t (unsigned_abs grid.period) (ap unsigned_abs one)
    (both_true (is_point grid (t -ℤ pos 1)) (some_mark x (t -ℤ pos 1) (unsigned_abs grid.period)) is).1) tick n in
    let b = few tick in
    omega arith
grid_by false grid x most n h e few tick =
    let p = unsigned_abs grid.period in
    let is : pos p ≡ grid.period = size_is grid.period h in
    count_in_ticks (on_grid grid x).mark 1 p
    (λ t. count_apart (on_grid grid x).mark p (λ a b at low high. grid_apart grid x p h is a b at low high) t p (omega arith))
    (omega (arith, ints)) n tick

equal_at : (c t : ℤ) → int_eq t c ≡ true → t ≡ c
equal_at c t e = grind (arith, ints)

not_equal : (c t : ℤ) → c <ℤ t → int_eq t c ≡ false
not_equal c t h = grind (arith, ints)

-- one tick alone
count_one : (c tick : ℤ) (n : ℕ) → count_behind (λ t. int_eq t c) tick n ≤ 1
count_one c tick n =
    count_apart (λ t. int_eq t c) n (λ a b at low high. not_equal c b (let e = equal_at c a at in omega (arith, ints))) tick n (omega arith)

over_marks : (over : Option Span) (x : Stream) (most n : ℕ) → HasAtMost most n x.mark → HasAtMost (marks_over over most) n (within over x).mark
over_marks None x most n h tick = h tick
over_marks (Some span) x most n h tick =
    let p : ℤ → Bool = λ t. int_eq t (span.start +ℤ pos 1) in
    let q : ℤ → Bool = λ t. int_eq t (span.end +ℤ pos 1) in
    let r : ℤ → Bool = λ t. lies_in span.start span.end t && x.mark t in
    let a = count_either (λ t. p t || q t) r tick n in
    let b = count_either p q tick n in
    let c = count_one (span.start +ℤ pos 1) tick n in
    let d = count_one (span.end +ℤ pos 1) tick n in
    let e = count_implied r x.mark (λ t is. (both_true (lies_in span.start span.end t) (x.mark t) is).1) tick n in
    let f = h tick in
    omega arith

pub definition_marks : (n : ℕ) (marks : List ℕ) (xs : List Stream) → HaveMarks n marks xs → (def : Definition) → IsGrid def.grid
    → HasAtMost (marks_of_definition n marks def) n (definition_of xs def).mark
definition_marks n marks xs h def grid tick =
    let body = body_of xs def.body in
    let a = over_marks def.over (on_grid def.grid body) (marks_on_grid n def.grid (marks_of_body marks def.body)) n
    (λ t. grid_by (int_eq def.grid.period (pos 1)) def.grid body (marks_of_body marks def.body) n grid.period_low refl (body_marks n marks xs h def.body) t) tick in
    let b = count_all (definition_of xs def).mark tick n in
    omega arith

marks_push : (n : ℕ) (marks : List ℕ) (xs : List Stream) (most : ℕ) (x : Stream) → length marks ≡ length xs → HaveMarks n marks xs
    → HasAtMost most n x.mark → HaveMarks n (marks ++ most ∷ []) (xs ++ x ∷ [])
marks_push n [] [] most x e h new zero tick = new tick
marks_push n [] [] most x e h new (suc number) tick = no_marks tick n
marks_push n [] (y ∷ xs) most x e h new number tick = absurd (omega (arith, e))
marks_push n (m ∷ marks) [] most x e h new number tick = absurd (omega (arith, e))
marks_push n (m ∷ marks) (y ∷ xs) most x e h new zero tick = h 0 tick
marks_push n (m ∷ marks) (y ∷ xs) most x e h new (suc number) tick =
    marks_push n marks xs most x (omega (arith, e)) (λ k. h (suc k)) new number tick

pub definitions_marks : (n : ℕ) (marks : List ℕ) (xs : List Stream) (defs : List Definition) → length marks ≡ length xs → AreGrids defs
    → HaveMarks n marks xs → HaveMarks n (more_marks n marks defs) (with_definitions xs defs)
definitions_marks n marks xs [] e grids h = h
definitions_marks n marks xs (def ∷ defs) e grids h =
    let most = marks_of_definition n marks def in
    let x = definition_of xs def in
    definitions_marks n (marks ++ most ∷ []) (xs ++ x ∷ []) defs (omega (arith, e, length_push marks most, length_push xs x)) grids.1
    (marks_push n marks xs most x e h (definition_marks n marks xs h def grids.0))

input_by : (none : Bool) (rate : Rate) (n : ℕ) (test : ℤ → Bool) → (rate.ticks == 0) ≡ none → HasAtMost rate.marks rate.ticks test
    → HasAtMost (if none then n else min n (in_ticks rate.marks rate.ticks n)) n test
input_by true rate n test e h tick = count_all test tick n
input_by false rate n test e h tick =
    let some : 0 < rate.ticks = grind (arith, nat_tests) in
    let a = count_all test tick n in
    let b = count_in_ticks test rate.marks rate.ticks h some n tick in
    omega arith

inputs_marks : (rates : List Rate) (rows : List (List Snapshot)) (n : ℕ) → HaveRates rates rows
    → HaveMarks n (map (input_marks n) rates) (map stream_of rows)
inputs_marks [] [] n h number tick = no_marks tick n
inputs_marks [] (list ∷ rows) n h number tick = absurd h
inputs_marks (rate ∷ rates) [] n h number tick = absurd h
inputs_marks (rate ∷ rates) (list ∷ rows) n h zero tick = input_by (rate.ticks == 0) rate n (mark_at list) refl h.0 tick
inputs_marks (rate ∷ rates) (list ∷ rows) n h (suc number) tick = inputs_marks rates rows n h.1 number tick

as_many : (rates : List Rate) (rows : List (List Snapshot)) (n : ℕ) → HaveRates rates rows
    → length (map (input_marks n) rates) ≡ length (map stream_of rows)
as_many [] [] n h = refl
as_many [] (list ∷ rows) n h = absurd h
as_many (rate ∷ rates) [] n h = absurd h
as_many (rate ∷ rates) (list ∷ rows) n h = ap suc (as_many rates rows n h.1)

pub rows_marks : (n : ℕ) (rates : List Rate) (rows : List (List Snapshot)) (defs : List Definition) → HaveRates rates rows → AreGrids defs
    → HaveMarks n (marks_in rates defs n) (sources rows defs)
rows_marks n rates rows defs h grids =
    definitions_marks n (map (input_marks n) rates) (map stream_of rows) defs (as_many rates rows n h) grids (inputs_marks rates rows n h)

-- a window meets one snapshot at its first tick, and one at each mark
one_more : (begins here : Bool) (c : Option ℤ) (cells : List (Option ℤ)) (rest : ℕ) → length cells ≤ rest
    → length (if begins || here then c ∷ cells else cells) ≤ bit begins + (bit here + rest)
one_more true here c cells rest h = omega (arith, h)
one_more false true c cells rest h = omega (arith, h)
one_more false false c cells rest h = omega (arith, h)

met_marks : (x : Stream) (begins : Bool) (tick : ℤ) (n : ℕ) → length (met_behind x begins tick n) ≤ bit begins + count_behind x.mark tick n
met_marks x begins tick zero = omega arith
met_marks x begins tick (suc n) =
    let rest = met_marks x false (tick +ℤ pos 1) n in
    one_more begins (x.mark (tick +ℤ pos 1)) (x.cell (tick +ℤ pos 1)) (met_behind x false (tick +ℤ pos 1) n)
    (count_behind x.mark (tick +ℤ pos 1) n) (omega (arith, rest))

pub few_snapshots : (lo hi : ℤ) (marks : List ℕ) (xs : List Stream) → HaveMarks (int_gap lo hi) marks xs → (source : ℕ)
    → length (met (source_of xs source) lo hi) ≤ snapshots_met (int_gap lo hi) marks source
few_snapshots lo hi marks xs h source =
    let a = met_marks (source_of xs source) true lo (int_gap lo hi) in
    let b = h source lo in
    let c = few_met (source_of xs source) true lo (int_gap lo hi) in
    omega arith

-- the sources before others
shorter_by : (n : ℕ) (xs : List Stream) (x : Stream) (most : ℕ → ℕ) → ((number : ℕ) → HasAtMost (most number) n (source_of (xs ++ x ∷ []) number).mark)
    → (number : ℕ) → HasAtMost (most number) n (source_of xs number).mark
shorter_by n [] x most h number tick = let a = no_marks tick n in omega arith
shorter_by n (y ∷ xs) x most h zero tick = h 0 tick
shorter_by n (y ∷ xs) x most h (suc number) tick = shorter_by n xs x (λ k. most (suc k)) (λ k. h (suc k)) number tick

pub earlier_marks : (n : ℕ) (marks : List ℕ) (xs : List Stream) (defs : List Definition) → HaveMarks n marks (with_definitions xs defs)
    → HaveMarks n marks xs
earlier_marks n marks xs [] h = h
earlier_marks n marks xs (def ∷ defs) h =
    shorter_by n xs (definition_of xs def) (marks_at marks) (earlier_marks n marks (xs ++ definition_of xs def ∷ []) defs h)

pub few_numbers : (marks : ℕ → List ℕ) (xs : List Stream) → HaveAllMarks marks xs → (source : ℕ) (from to tick : ℤ)
    → length (numbers (met (source_of xs source) (tick +ℤ from) (tick +ℤ to))) ≤ snapshots_met (int_gap from to) (marks (int_gap from to)) source
few_numbers marks xs h source from to tick =
    let lo = tick +ℤ from in
    let hi = tick +ℤ to in
    let cells = met (source_of xs source) lo hi in
    let few = subst (λ gap. length cells ≤ snapshots_met gap (marks gap) source) (same_gap tick from to)
    (few_snapshots lo hi (marks (int_gap lo hi)) xs (h (int_gap lo hi)) source) in
    omega (arith, length-numbers cells, few)
