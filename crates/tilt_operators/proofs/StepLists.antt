-- Each step's list has the stream of its definition: one lemma for each step.
use Rattle.std.proofs.Common.{◌≡◌, ℤ, pos, ◌+ℤ◌, ◌-ℤ◌, neg_ℤ, ◌≤ℤ◌, ◌<ℤ◌, Bool, true, false, ◌&&◌, ◌||◌, if◌then◌else◌, int_lt, int_le, List, [], ◌∷◌, ◌++◌, map, filter, Option}
use Rattle.std.proofs.Common.{Some, None, option_and_then, refl, sym, ap, ◌∙◌, arith, subst}
use Rattle.std.specs.Int.{int_min, int_max}
use Rattle.std.specs.Ordering.{int_eq}
use Rattle.std.proofs.lemmas.Int.{ints, clamps}
use Rattle.std.proofs.lemmas.Bool.{or_left, or_right, or_parts}
use Rattle.tilt_base.specs.Reduce.{numbers, reduce}
use Rattle.tilt_base.specs.Scalar.{apply1, apply2, is_true}
use Rattle.tilt_base.specs.declared.operator.Op1.TheVariants as op1
use Rattle.tilt_base.specs.declared.operator.Op2.TheVariants as op2
use Rattle.tilt_base.specs.declared.reducer.Reducer.{Reducer}
use Rattle.tilt_base.specs.declared.limits.TheConstants.{T}
use Rattle.tilt_stream.proofs.Constancy.{stream_of-changes, windowed-changes}
use Rattle.tilt_stream.proofs.Filled.{filled_behind, stream-filled}
use Rattle.tilt_stream.proofs.Streams.{cell_at-before, mark_at-start, mark_at-end}
use Rattle.tilt_stream.specs.Agreement.{ChangesOnlyAtMarks}
use Rattle.tilt_stream.specs.Pointwise.{shifted, lifted1, lifted2}
use Rattle.tilt_stream.specs.Snap.{Snapshot, InOrder, Touch, AreRows, gap_before}
use Rattle.tilt_stream.specs.Stream.{Stream, SameStream, stream_of, cell_at, mark_at, covers}
use Rattle.tilt_stream.specs.Window.{windowed as window_of}
use Rattle.tilt_syntax.specs.Tree.{ExprTree}
use Rattle.tilt_operators.specs.Lists.{filled, revalued, moved, boundaries, merged, pieces, is_taken, windowed, value_from, both_values, joined, kept_if, value_of}
use Rattle.tilt_operators.proofs.Boundaries.{Rise, Rise-wider, marks_of, merged-marks, merged-rises, IsNotOne, not_one, boundaries-rise, boundaries-marks, moved-marks, moved-rises}
use Rattle.tilt_operators.proofs.Pieces.{pieces-same, pieces-in_order, pieces-touch}
use Rattle.tilt_operators.proofs.Taken.{takes, values, values-before, values-after, met-values}

-- a list: in order, and without gaps
pub record IsList (list : List Snapshot) : Type 0 where
  pub from : ℤ
  pub limit : ℤ
  pub in_order : InOrder from limit list
  pub touch : Touch list

-- pointwise steps

revalued-by : (rule : ℤ → Option ℤ) (own a b : Option ℤ) (inside : Bool) → a ≡ option_and_then (λ v. rule v) b
    → (if inside then option_and_then (λ v. rule v) own else a) ≡ option_and_then (λ v. rule v) (if inside then own else b)
revalued-by rule own a b true is = refl
revalued-by rule own a b false is = is

revalued-cells : (rule : ℤ → Option ℤ) (list : List Snapshot) (tick : ℤ)
    → cell_at (map (revalued rule) list) tick ≡ option_and_then (λ v. rule v) (cell_at list tick)
revalued-cells rule [] tick = refl
revalued-cells rule (s ∷ list) tick =
    revalued-by rule s.value (cell_at (map (revalued rule) list) tick) (cell_at list tick) (covers s tick) (revalued-cells rule list tick)

revalued-marks : (rule : ℤ → Option ℤ) (list : List Snapshot) (tick : ℤ) → mark_at (map (revalued rule) list) tick ≡ mark_at list tick
revalued-marks rule [] tick = refl
revalued-marks rule (s ∷ list) tick = rw (revalued-marks rule list tick) refl

revalued-in_order : (rule : ℤ → Option ℤ) (from limit : ℤ) (list : List Snapshot) → InOrder from limit list → InOrder from limit (map (revalued rule) list)
revalued-in_order rule from limit [] h = tt
revalued-in_order rule from limit (s ∷ list) h = (h.0, h.1, h.2, revalued-in_order rule s.end limit list h.3)

revalued-touch : (rule : ℤ → Option ℤ) (list : List Snapshot) → Touch list → Touch (map (revalued rule) list)
revalued-touch rule [] h = tt
revalued-touch rule (s ∷ []) h = tt
revalued-touch rule (s ∷ next ∷ list) h = (h.0, revalued-touch rule (next ∷ list) h.1)

pub revalued-is_list : (rule : ℤ → Option ℤ) (list : List Snapshot) → IsList list → IsList (map (revalued rule) list)
revalued-is_list rule list h = record {
  from = h.from;
  limit = h.limit;
  in_order = revalued-in_order rule h.from h.limit list h.in_order;
  touch = revalued-touch rule list h.touch;
}

-- where one test of two says no more than the other
absorbed : (a b : Bool) → (b ≡ false → a ≡ false) → (a || b) ≡ b
absorbed true true h = refl
absorbed false true h = refl
absorbed a false h = rw (h refl) refl

absorbs : (a b : Bool) → (a ≡ false → b ≡ false) → (a || b) ≡ a
absorbs true b h = refl
absorbs false b h = h refl

-- `select`
select-cell : (rule : ℤ → Option ℤ) (a b : Option ℤ) → ((v : ℤ) → a ≡ Some v → b ≡ rule v)
    → option_and_then (λ v. rule v) a ≡ apply2 op2.When b (apply1 op1.Not (apply1 op1.IsNull a))
select-cell rule None b h = refl
select-cell rule (Some v) b h = sym (h v refl)

pub selected-same : (rule : ℤ → Option ℤ) (list : List Snapshot) (x y : Stream) → x ≡ stream_of list
    → ((tick v : ℤ) → cell_at list tick ≡ Some v → y.cell tick ≡ rule v) → ((tick : ℤ) → mark_at list tick ≡ false → y.mark tick ≡ false)
    → SameStream (stream_of (map (revalued rule) list)) (lifted2 op2.When y (lifted1 op1.Not (lifted1 op1.IsNull x)))
selected-same rule list x y is cells marks =
    subst (λ (s : Stream). SameStream (stream_of (map (revalued rule) list)) (lifted2 op2.When y (lifted1 op1.Not (lifted1 op1.IsNull s)))) (sym is)
    (record {
      cells = λ tick. revalued-cells rule list tick ∙ select-cell rule (cell_at list tick) (y.cell tick) (cells tick);
      marks = λ tick. revalued-marks rule list tick ∙ sym (absorbed (y.mark tick) (mark_at list tick) (marks tick));
    })

-- `where`
either_way : (c : Bool) (x : Option ℤ) → (if c then x else x) ≡ x
either_way true x = refl
either_way false x = refl

null-kept : (b : Option ℤ) → None ≡ apply2 op2.When None b
null-kept None = refl
null-kept (Some c) = sym (either_way (is_true c) None)

kept-same : (b : Option ℤ) (v : ℤ) → kept_if b v ≡ apply2 op2.When (Some v) b
kept-same None v = refl
kept-same (Some c) v = refl

kept-cell : (test : ℤ → Option ℤ) (a b : Option ℤ) → ((v : ℤ) → a ≡ Some v → b ≡ test v)
    → option_and_then (λ v. kept_if (test v) v) a ≡ apply2 op2.When a b
kept-cell test None b h = null-kept b
kept-cell test (Some v) b h = ap (λ (c : Option ℤ). kept_if c v) (sym (h v refl)) ∙ kept-same b v

pub filtered-same : (test : ℤ → Option ℤ) (list : List Snapshot) (x y : Stream) → x ≡ stream_of list
    → ((tick v : ℤ) → cell_at list tick ≡ Some v → y.cell tick ≡ test v) → ((tick : ℤ) → mark_at list tick ≡ false → y.mark tick ≡ false)
    → SameStream (stream_of (map (revalued (λ v. kept_if (test v) v)) list)) (lifted2 op2.When x y)
filtered-same test list x y is cells marks =
    subst (λ (s : Stream). SameStream (stream_of (map (revalued (λ v. kept_if (test v) v)) list)) (lifted2 op2.When s y)) (sym is)
    (record {
      cells = λ tick. revalued-cells (λ v. kept_if (test v) v) list tick ∙ kept-cell test (cell_at list tick) (y.cell tick) (cells tick);
      marks = λ tick. revalued-marks (λ v. kept_if (test v) v) list tick ∙ sym (absorbs (mark_at list tick) (y.mark tick) (marks tick));
    })

-- `shift`

moved-cells : (by : ℤ) (list : List Snapshot) (tick : ℤ) → cell_at (moved by list) tick ≡ cell_at list (tick +ℤ neg_ℤ by)
moved-cells by [] tick = refl
moved-cells by (s ∷ list) tick =
    let same : covers (record { start = s.start +ℤ by; end = s.end +ℤ by; value = s.value }) tick ≡ covers s (tick +ℤ neg_ℤ by) = grind (arith, ints) in
    rw (same, moved-cells by list tick) refl

moved-mark_at : (by : ℤ) (list : List Snapshot) (tick : ℤ) → mark_at (moved by list) tick ≡ mark_at list (tick +ℤ neg_ℤ by)
moved-mark_at by [] tick = refl
moved-mark_at by (s ∷ list) tick =
    let start : int_eq tick (s.start +ℤ by +ℤ pos 1) ≡ int_eq (tick +ℤ neg_ℤ by) (s.start +ℤ pos 1) = grind (arith, ints) in
    let end : int_eq tick (s.end +ℤ by +ℤ pos 1) ≡ int_eq (tick +ℤ neg_ℤ by) (s.end +ℤ pos 1) = grind (arith, ints) in
    rw (start, end, moved-mark_at by list tick) refl

moved-in_order : (by from limit : ℤ) (list : List Snapshot) → InOrder from limit list → InOrder (from +ℤ by) (limit +ℤ by) (moved by list)
moved-in_order by from limit [] h = tt
moved-in_order by from limit (s ∷ list) h =
    let a = h.0 in
    let b = h.1 in
    let c = h.2 in
    (omega (arith, ints), omega (arith, ints), omega (arith, ints), moved-in_order by s.end limit list h.3)

moved-touch : (by : ℤ) (list : List Snapshot) → Touch list → Touch (moved by list)
moved-touch by [] h = tt
moved-touch by (s ∷ []) h = tt
moved-touch by (s ∷ next ∷ list) h = (ap (λ (t : ℤ). t +ℤ by) h.0, moved-touch by (next ∷ list) h.1)

pub moved-is_list : (by : ℤ) (list : List Snapshot) → IsList list → IsList (moved by list)
moved-is_list by list h = record {
  from = h.from +ℤ by;
  limit = h.limit +ℤ by;
  in_order = moved-in_order by h.from h.limit list h.in_order;
  touch = moved-touch by list h.touch;
}

pub moved-same : (by : ℤ) (list : List Snapshot) → SameStream (stream_of (moved by list)) (shifted (stream_of list) (neg_ℤ by))
moved-same by list = record { cells = moved-cells by list; marks = moved-mark_at by list }

-- lists that are made of boundaries

pieces-is_list : (value : ℤ → Option ℤ) (low high : ℤ) (bs : List ℤ) → Rise low high bs → IsList (pieces value bs)
pieces-is_list value low high [] h = record { from = low; limit = high; in_order = tt; touch = tt }
pieces-is_list value low high (b ∷ bs) h = record {
  from = b;
  limit = high;
  in_order = pieces-in_order value low high b bs h;
  touch = pieces-touch value (b ∷ bs);
}

-- after the last snapshot all is null
cell_at-after : (from limit : ℤ) (list : List Snapshot) (tick : ℤ) → InOrder from limit list → limit <ℤ tick → cell_at list tick ≡ None
cell_at-after from limit [] tick h after = refl
cell_at-after from limit (s ∷ list) tick h after =
    let end = h.2 in
    let outside : covers s tick ≡ false = grind (arith, ints) in
    rw outside (cell_at-after s.end limit list tick h.3 after)

-- where a list isn't empty, boundaries with its own among them aren't just one
some-not_one : (list : List Snapshot) (bs : List ℤ) → Touch list → ((tick : ℤ) → mark_at list tick ≡ true → marks_of bs tick ≡ true)
    → (from limit : ℤ) → InOrder from limit list → (s : Snapshot) (rest : List Snapshot) → list ≡ s ∷ rest → IsNotOne bs
some-not_one list bs touch among from limit h s rest is =
    let order : InOrder from limit (s ∷ rest) = subst (InOrder from limit) is h in
    let width = order.1 in
    not_one bs (s.start +ℤ pos 1) (s.end +ℤ pos 1) (omega (arith, ints))
    (among (s.start +ℤ pos 1) (ap (λ (l : List Snapshot). mark_at l (s.start +ℤ pos 1)) is ∙ mark_at-start [] s rest))
    (among (s.end +ℤ pos 1) (ap (λ (l : List Snapshot). mark_at l (s.end +ℤ pos 1)) is ∙ mark_at-end [] s rest))

-- `window`
module _ (reducer : Reducer) (width : ℤ) (some : pos 1 ≤ℤ width) (list : List Snapshot) (h : IsList list) where
  abbrev ends : List ℤ
  ends = merged (boundaries list) (map (λ b. b +ℤ width -ℤ pos 1) (boundaries list))

  abbrev last : ℤ
  last = h.limit +ℤ width -ℤ pos 1

  abbrev seen : Stream
  seen = window_of reducer (neg_ℤ width) (pos 0) (stream_of list)

  ends-rise : Rise h.from last ends
  ends-rise =
      let all = boundaries-rise h.from h.limit list h.in_order h.touch in
      merged-rises h.from last (boundaries list) (map (λ b. b +ℤ width -ℤ pos 1) (boundaries list))
      (Rise-wider h.from h.limit h.from last (boundaries list) all (omega (arith, ints)) (omega (arith, ints)))
      (Rise-wider (h.from +ℤ width -ℤ pos 1) last h.from last (map (λ b. b +ℤ width -ℤ pos 1) (boundaries list))
      (moved-rises width h.from h.limit (boundaries list) all) (omega (arith, ints)) (omega (arith, ints)))

  ends-marks : (tick : ℤ) → seen.mark tick ≡ marks_of ends tick
  ends-marks tick =
      let here : tick +ℤ pos 0 ≡ tick = omega (arith, ints) in
      let own = ap (mark_at list) here ∙ boundaries-marks list tick h.touch in
      let other = boundaries-marks list (tick +ℤ neg_ℤ width +ℤ pos 1) h.touch ∙ sym (moved-marks width (boundaries list) tick) in
      (λ i. own i || other i)
      ∙ sym (merged-marks (boundaries list) (map (λ b. b +ℤ width -ℤ pos 1) (boundaries list)) tick)

  seen-cell : (tick : ℤ) → seen.cell tick ≡ reduce reducer (values (tick +ℤ neg_ℤ width) (tick +ℤ pos 0) list)
  seen-cell tick = ap (reduce reducer) (met-values h.from h.limit (tick +ℤ neg_ℤ width) (tick +ℤ pos 0) list h.in_order (omega (arith, ints)))

  is_taken-takes : (b : ℤ) (s : Snapshot) → is_taken width b s ≡ takes (b +ℤ pos 1 +ℤ neg_ℤ width) (b +ℤ pos 1 +ℤ pos 0) s
  is_taken-takes b s = grind (arith, ints)

  ends-not_one : IsNotOne ends
  ends-not_one = by list refl
    where
      by : (l : List Snapshot) → list ≡ l → IsNotOne ends
      by [] is = subst (λ (l : List Snapshot). IsNotOne (merged (boundaries l) (map (λ b. b +ℤ width -ℤ pos 1) (boundaries l)))) (sym is) tt
      by (s ∷ rest) is =
          some-not_one list ends h.touch
          (λ tick here. merged-marks (boundaries list) (map (λ b. b +ℤ width -ℤ pos 1) (boundaries list)) tick
          ∙ or_left _ _ (sym (boundaries-marks list tick h.touch) ∙ here))
          h.from h.limit h.in_order s rest is

  pub windowed-same : SameStream (stream_of (windowed reducer width list)) seen
  windowed-same =
      pieces-same seen (λ c. reduce reducer (numbers (map (λ (s : Snapshot). s.value) (filter (is_taken width c) list)))) last
      (windowed-changes reducer (neg_ℤ width) (pos 0) (stream_of list) (stream_of-changes list))
      (λ b. ap (λ (test : Snapshot → Bool). reduce reducer (numbers (map (λ (s : Snapshot). s.value) (filter test list)))) (λ i s. is_taken-takes b s i)
      ∙ sym (seen-cell (b +ℤ pos 1)))
      (λ tick after. seen-cell tick
      ∙ ap (reduce reducer) (values-after h.from h.limit (tick +ℤ neg_ℤ width) (tick +ℤ pos 0) list h.in_order (omega (arith, ints))))
      h.from
      (λ tick before. seen-cell tick
      ∙ ap (reduce reducer) (values-before h.from h.limit (tick +ℤ neg_ℤ width) (tick +ℤ pos 0) list h.in_order (omega (arith, ints))))
      ends ends-rise ends-not_one ends-marks

  pub windowed-is_list : IsList (windowed reducer width list)
  windowed-is_list =
      pieces-is_list (λ c. reduce reducer (numbers (map (λ (s : Snapshot). s.value) (filter (is_taken width c) list)))) h.from last ends ends-rise

-- `join`

value_from-is : (list : List Snapshot) (c : ℤ) → value_from list c ≡ cell_at list (c +ℤ pos 1)
value_from-is [] c = refl
value_from-is (s ∷ list) c =
    let same : (int_le s.start c && int_lt c s.end) ≡ covers s (c +ℤ pos 1) = grind (arith, ints) in
    rw (same, value_from-is list c) refl

no_first : (e : ExprTree) (a b : Option ℤ) → a ≡ None → both_values e a b ≡ None
no_first e a b is = ap (λ (c : Option ℤ). both_values e c b) is

-- a stream that has the marks of both lists, and where both have values the expression at them
module _ (e : ExprTree) (list other : List Snapshot) (h : IsList list) (g : IsList other) (y : Stream)
    (cells : (tick : ℤ) → y.cell tick ≡ both_values e (cell_at list tick) (cell_at other tick))
    (marks : (tick : ℤ) → y.mark tick ≡ (mark_at list tick || mark_at other tick)) where
  abbrev all : List ℤ
  all = merged (boundaries list) (boundaries other)

  abbrev low : ℤ
  low = int_min h.from g.from

  abbrev high : ℤ
  high = int_max h.limit g.limit

  changes : ChangesOnlyAtMarks y
  changes = record {
    unchanged = λ tick clear.
        let none = or_parts (mark_at list tick) (mark_at other tick) (sym (marks tick) ∙ clear) in
        let left = (stream_of-changes list).unchanged tick none.0 in
        let right = (stream_of-changes other).unchanged tick none.1 in
        cells tick ∙ (λ i. both_values e (left i) (right i)) ∙ sym (cells (tick -ℤ pos 1));
  }

  all-rise : Rise low high all
  all-rise =
      merged-rises low high (boundaries list) (boundaries other)
      (Rise-wider h.from h.limit low high (boundaries list) (boundaries-rise h.from h.limit list h.in_order h.touch)
      (omega (arith, ints, clamps)) (omega (arith, ints, clamps)))
      (Rise-wider g.from g.limit low high (boundaries other) (boundaries-rise g.from g.limit other g.in_order g.touch)
      (omega (arith, ints, clamps)) (omega (arith, ints, clamps)))

  all-marks : (tick : ℤ) → y.mark tick ≡ marks_of all tick
  all-marks tick =
      let own = boundaries-marks list tick h.touch in
      let others = boundaries-marks other tick g.touch in
      marks tick ∙ (λ i. own i || others i) ∙ sym (merged-marks (boundaries list) (boundaries other) tick)

  all-not_one : IsNotOne all
  all-not_one = by list other refl refl
    where
      by : (l m : List Snapshot) → list ≡ l → other ≡ m → IsNotOne all
      by [] [] is also =
          subst (λ (l : List Snapshot). IsNotOne (merged (boundaries l) (boundaries other))) (sym is)
          (subst (λ (l : List Snapshot). IsNotOne (boundaries l)) (sym also) tt)
      by (s ∷ rest) m is also =
          some-not_one list all h.touch
          (λ tick here. merged-marks (boundaries list) (boundaries other) tick
          ∙ or_left _ _ (sym (boundaries-marks list tick h.touch) ∙ here))
          h.from h.limit h.in_order s rest is
      by [] (s ∷ rest) is also =
          some-not_one other all g.touch
          (λ tick here. merged-marks (boundaries list) (boundaries other) tick
          ∙ or_right _ _ (sym (boundaries-marks other tick g.touch) ∙ here))
          g.from g.limit g.in_order s rest also

  pub joined-same : SameStream (stream_of (joined e list other)) y
  joined-same =
      pieces-same y (λ c. both_values e (value_from list c) (value_from other c)) high changes
      (λ b. (let left = value_from-is list b in let right = value_from-is other b in (λ i. both_values e (left i) (right i)))
      ∙ sym (cells (b +ℤ pos 1)))
      (λ tick after. cells tick
      ∙ no_first e (cell_at list tick) (cell_at other tick) (cell_at-after h.from h.limit list tick h.in_order (omega (arith, ints, clamps))))
      low
      (λ tick before. cells tick
      ∙ no_first e (cell_at list tick) (cell_at other tick) (cell_at-before h.from h.limit list tick h.in_order (omega (arith, ints, clamps))))
      all all-rise all-not_one all-marks

pub joined-is_list : (e : ExprTree) (list other : List Snapshot) → IsList list → IsList other → IsList (joined e list other)
joined-is_list e list other h g =
    pieces-is_list (λ c. both_values e (value_from list c) (value_from other c)) (int_min h.from g.from) (int_max h.limit g.limit)
    (merged (boundaries list) (boundaries other))
    (merged-rises (int_min h.from g.from) (int_max h.limit g.limit) (boundaries list) (boundaries other)
    (Rise-wider h.from h.limit (int_min h.from g.from) (int_max h.limit g.limit) (boundaries list)
    (boundaries-rise h.from h.limit list h.in_order h.touch) (omega (arith, ints, clamps)) (omega (arith, ints, clamps)))
    (Rise-wider g.from g.limit (int_min h.from g.from) (int_max h.limit g.limit) (boundaries other)
    (boundaries-rise g.from g.limit other g.in_order g.touch) (omega (arith, ints, clamps)) (omega (arith, ints, clamps))))

-- the definition of `join`
join-cell : (e : ExprTree) (a b y : Option ℤ) → ((v w : ℤ) → a ≡ Some v → b ≡ Some w → y ≡ value_of e v w)
    → apply2 op2.When y (apply2 op2.And (apply1 op1.Not (apply1 op1.IsNull a)) (apply1 op1.Not (apply1 op1.IsNull b))) ≡ both_values e a b
join-cell e None None y h = refl
join-cell e None (Some w) y h = refl
join-cell e (Some v) None y h = refl
join-cell e (Some v) (Some w) y h = h v w refl refl

pub join-same : (e : ExprTree) (list other : List Snapshot) → IsList list → IsList other → (x z y : Stream) → x ≡ stream_of list
    → z ≡ stream_of other → ((tick v w : ℤ) → cell_at list tick ≡ Some v → cell_at other tick ≡ Some w → y.cell tick ≡ value_of e v w)
    → ((tick : ℤ) → mark_at list tick ≡ false → mark_at other tick ≡ false → y.mark tick ≡ false)
    → SameStream (stream_of (joined e list other))
    (lifted2 op2.When y (lifted2 op2.And (lifted1 op1.Not (lifted1 op1.IsNull x)) (lifted1 op1.Not (lifted1 op1.IsNull z))))
join-same e list other h g x z y is also cells marks =
    subst (λ (s : Stream). SameStream (stream_of (joined e list other))
    (lifted2 op2.When y (lifted2 op2.And (lifted1 op1.Not (lifted1 op1.IsNull s)) (lifted1 op1.Not (lifted1 op1.IsNull z))))) (sym is)
    (subst (λ (s : Stream). SameStream (stream_of (joined e list other))
    (lifted2 op2.When y (lifted2 op2.And (lifted1 op1.Not (lifted1 op1.IsNull (stream_of list))) (lifted1 op1.Not (lifted1 op1.IsNull s))))) (sym also)
    (joined-same e list other h g
    (lifted2 op2.When y (lifted2 op2.And (lifted1 op1.Not (lifted1 op1.IsNull (stream_of list))) (lifted1 op1.Not (lifted1 op1.IsNull (stream_of other)))))
    (λ tick. join-cell e (cell_at list tick) (cell_at other tick) (y.cell tick) (cells tick))
    (λ tick. absorbed (y.mark tick) (mark_at list tick || mark_at other tick)
    (λ none. (let parts = or_parts (mark_at list tick) (mark_at other tick) none in marks tick parts.0 parts.1)))))

-- `from`: the rows of a series, with their gaps filled
filled-is : (row : Snapshot) (rows : List Snapshot) → filled (row ∷ rows) ≡ row ∷ filled_behind (Some row.end) rows
filled-is row [] = refl
filled-is row (next ∷ rows) = ap (λ (l : List Snapshot). row ∷ (gap_before (Some row.end) next.start ++ l)) (filled-is next rows)

filled-all : (rows : List Snapshot) → filled rows ≡ filled_behind None rows
filled-all [] = refl
filled-all (row ∷ rows) = filled-is row rows

pub filled-same : (rows : List Snapshot) → AreRows rows → SameStream (stream_of (filled rows)) (stream_of rows)
filled-same rows h = rw (filled-all rows) (stream-filled rows h)

filled-touch_by : (some : Bool) (row next : Snapshot) (list : List Snapshot) → int_lt row.end next.start ≡ some → row.end ≤ℤ next.start
    → Touch (next ∷ list)
    → Touch (row ∷ ((if some then record { start = row.end; end = next.start; value = None } ∷ [] else []) ++ next ∷ list))
filled-touch_by true row next list is after touch = (refl, (refl, touch))
filled-touch_by false row next list is after touch = (grind (arith, ints), touch)

filled-order_by : (some : Bool) (limit : ℤ) (row next : Snapshot) (list : List Snapshot) → int_lt row.end next.start ≡ some
    → InOrder row.end limit (next ∷ list)
    → InOrder row.end limit ((if some then record { start = row.end; end = next.start; value = None } ∷ [] else []) ++ next ∷ list)
filled-order_by true limit row next list is h =
    let a = h.1 in
    let b = h.2 in
    (omega (arith, ints), grind (arith, ints), omega (arith, ints), (omega (arith, ints), h.1, h.2, h.3))
filled-order_by false limit row next list is h = h

filled-in_order : (from limit : ℤ) (row : Snapshot) (rows : List Snapshot) → InOrder from limit (row ∷ rows)
    → InOrder from limit (row ∷ filled_behind (Some row.end) rows) × Touch (row ∷ filled_behind (Some row.end) rows)
filled-in_order from limit row [] h = ((h.0, h.1, h.2, tt), tt)
filled-in_order from limit row (next ∷ rows) h =
    let rest = filled-in_order row.end limit next rows h.3 in (
      (h.0, h.1, h.2, filled-order_by (int_lt row.end next.start) limit row next (filled_behind (Some next.end) rows) refl rest.0),
      filled-touch_by (int_lt row.end next.start) row next (filled_behind (Some next.end) rows) refl h.3.0 rest.1,
    )

pub filled-is_list : (rows : List Snapshot) → AreRows rows → IsList (filled rows)
filled-is_list [] h = record { from = pos 0; limit = pos 0; in_order = tt; touch = tt }
filled-is_list (row ∷ rows) h =
    let both = filled-in_order (neg_ℤ T) T row rows h in
    rw (filled-is row rows) (record { from = neg_ℤ T; limit = T; in_order = both.0; touch = both.1 })
