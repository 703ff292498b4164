-- Rows that are kept of a feed.
use Rattle.std.proofs.Common.{◌≡◌, ◌∙◌, ℕ, zero, suc, ℤ, neg_ℤ, ◌≤ℤ◌, ◌<ℤ◌, Bool, true, false, int_le, int_lt, List, [], ◌∷◌, ◌++◌, drop, map, replicate, Option, Some, None, IfSome, Result, Ok, Err, IfOk, OnOk, refl, sym, ap, subst, arith, inl, inr}
use Rattle.std.specs.Option.{ok_or}
use Rattle.std.proofs.lemmas.Bool.{cases_Bool}
use Rattle.std.proofs.lemmas.Int.{ints}
use Rattle.tilt_base.specs.declared.limits.TheConstants.{T}
use Rattle.tilt_engine.specs.Engines.{finishes}
use Rattle.tilt_engine.specs.FedRows.{KeepsInput, KeepsInputs, KeepsRowsOf, left_inlet}
use Rattle.tilt_engine.specs.Forgetting.{later_inlet}
use Rattle.tilt_engine.specs.Inlets.{inlet_edge, inlet_fault, inlets_after, updated_inlets}
use Rattle.tilt_engine.specs.Stock.{InletParts, resting_inlet}
use Rattle.tilt_engine.specs.declared.fed_rows.FedRows.{FedRows}
use Rattle.tilt_feed.specs.Events.{after, closed_by, edge_of, event_fault, update_fault, updated, updated_at}
use Rattle.tilt_feed.specs.Feed.{Feed, InputFeed, closed_at, unknown_input}
use Rattle.tilt_feed.specs.Laws.{IsInOrder}
use Rattle.tilt_feed.specs.declared.event.Event.{Event}
use Rattle.tilt_feed.specs.declared.event.Event.TheVariants.{Input, Finish}
use Rattle.tilt_feed.specs.declared.update.Update.{Update}
use Rattle.tilt_input_state.specs.Resume.{left_input}
use Rattle.tilt_stream.specs.Pieces.{kept}
use Rattle.tilt_stream.proofs.Ended.{none_ended}
use Rattle.tilt_stream.proofs.Order.{InOrder-front}
use Rattle.tilt_stream.specs.Snap.{InOrder, Snapshot, ended_below}

-- of two lists the rows are kept that are kept of each
kept-append : (first : ℤ) (rows more : List Snapshot) → kept first (rows ++ more) ≡ kept first rows ++ kept first more
kept-append first [] more = refl
kept-append first (row ∷ rows) more =
    let rest = kept-append first rows more in
    elim (cases_Bool (int_le first row.end)) [
      | inl is ↦ rw is (ap (λ (list : List Snapshot). row ∷ list) rest)
      | inr other ↦ rw other rest
    ]

-- what is kept from a later tick on is kept of what is kept from an earlier one on
kept-later : (lower first : ℤ) (rows : List Snapshot) → lower ≤ℤ first → kept first (kept lower rows) ≡ kept first rows
kept-later lower first [] on = refl
kept-later lower first (row ∷ rows) on =
    let rest = kept-later lower first rows on in
    elim (cases_Bool (int_le lower row.end)) [
      | inl is ↦ rw is (elim (cases_Bool (int_le first row.end)) [
        | inl late ↦ rw late (ap (λ (list : List Snapshot). row ∷ list) rest)
        | inr early ↦ rw early rest
      ])
      | inr other ↦
          let early : int_le first row.end ≡ false = grind (arith, ints) in
          rw (other, early) rest
    ]

-- what one list keeps and another does, they keep from a later tick on
kept-rises : (lower first : ℤ) (rows list : List Snapshot) → lower ≤ℤ first → kept lower rows ≡ kept lower list → kept first rows ≡ kept first list
kept-rises lower first rows list on same =
    sym (kept-later lower first rows on) ∙ ap (kept first) same ∙ kept-later lower first list on

-- an update keeps what is kept
update-keeps : (first : ℤ) (update : Update) (input : InputFeed) (i : InletParts) → KeepsInput first input i
    → KeepsInput first (updated update input) (resting_inlet (updated update i.input))
update-keeps first update input i is =
    let more : closed_by input.edge update ≡ closed_by i.input.edge update = rw is.edge refl in
    record {
      rows = kept-append first input.rows (closed_by input.edge update)
          ∙ ap (λ (list : List Snapshot). list ++ kept first (closed_by input.edge update)) is.rows
          ∙ ap (λ (list : List Snapshot). kept first i.input.rows ++ kept first list) more
          ∙ sym (kept-append first i.input.rows (closed_by i.input.edge update));
      edge = rw is.edge refl;
    }

updates-keep : (first : ℤ) (number : ℕ) (update : Update) (inputs : List InputFeed) (inlets : List InletParts) → KeepsInputs first inputs inlets
    → KeepsInputs first (updated_at number update inputs) (updated_inlets number update inlets)
updates-keep first zero update [] [] is = tt
updates-keep first (suc number) update [] [] is = tt
updates-keep first number update [] (i ∷ inlets) is = absurd is
updates-keep first number update (input ∷ inputs) [] is = absurd is
updates-keep first zero update (input ∷ inputs) (i ∷ inlets) is = (update-keeps first update input i is.0, is.1)
updates-keep first (suc number) update (input ∷ inputs) (i ∷ inlets) is = (is.0, updates-keep first number update inputs inlets is.1)

-- the edges are those of the feed
edges-keep : (first : ℤ) (number : ℕ) (inputs : List InputFeed) (inlets : List InletParts) → KeepsInputs first inputs inlets
    → inlet_edge inlets number ≡ edge_of inputs number
edges-keep first number [] [] is = refl
edges-keep first number [] (i ∷ inlets) is = absurd is
edges-keep first number (input ∷ inputs) [] is = absurd is
edges-keep first zero (input ∷ inputs) (i ∷ inlets) is = is.0.edge
edges-keep first (suc number) (input ∷ inputs) (i ∷ inlets) is = edges-keep first number inputs inlets is.1

-- an event breaks the same rule, of a feed that is finished or not
fault-by : (done finished : Bool) (first : ℤ) (inputs : List InputFeed) (inlets : List InletParts) (event : Event) → done ≡ finished
    → (finished ≡ false → KeepsInputs first inputs inlets) → inlet_fault done inlets event ≡ event_fault (record { inputs = inputs; finished = finished }) event
fault-by done true first inputs inlets (Input number update) same is = rw same refl
fault-by done true first inputs inlets Finish same is = rw same refl
fault-by done false first inputs inlets (Input number update) same is = rw (same, edges-keep first number inputs inlets (is refl)) refl
fault-by done false first inputs inlets Finish same is = rw same refl

-- an event breaks the same rule
pub fed-fault : (fed : FedRows) (first : ℤ) (feed : Feed) (event : Event) → KeepsRowsOf fed first feed
    → inlet_fault fed.finished fed.inputs.items event ≡ event_fault feed event
fed-fault fed first feed event is = fault-by fed.finished feed.finished first feed.inputs fed.inputs.items event is.finished is.inputs

-- nothing was known
pub none-kept : (first : ℤ) (count : ℕ) → KeepsInputs first (replicate count unknown_input) (replicate count (resting_inlet unknown_input))
none-kept first zero = tt
none-kept first (suc count) = (record { rows = refl; edge = refl }, none-kept first count)

-- rows that end below a tick were let go
pub later-keeps : (lower first : ℤ) (inputs : List InputFeed) (inlets : List InletParts) → lower ≤ℤ first → KeepsInputs lower inputs inlets
    → KeepsInputs first inputs (map (left_inlet first) inlets)
later-keeps lower first [] [] on is = tt
later-keeps lower first [] (i ∷ inlets) on is = absurd is
later-keeps lower first (input ∷ inputs) [] on is = absurd is
later-keeps lower first (input ∷ inputs) (i ∷ inlets) on is = (
  record {
    rows = kept-rises lower first input.rows i.input.rows on is.0.rows ∙ sym (kept-later first first i.input.rows (omega (arith, ints)));
    edge = is.0.edge;
  },
  later-keeps lower first inputs inlets on is.1,
)

-- they may be let go later
pub rises-keeps : (lower first : ℤ) (inputs : List InputFeed) (inlets : List InletParts) → lower ≤ℤ first → KeepsInputs lower inputs inlets
    → KeepsInputs first inputs inlets
rises-keeps lower first [] [] on is = tt
rises-keeps lower first [] (i ∷ inlets) on is = absurd is
rises-keeps lower first (input ∷ inputs) [] on is = absurd is
rises-keeps lower first (input ∷ inputs) (i ∷ inlets) on is = (
  record { rows = kept-rises lower first input.rows i.input.rows on is.0.rows; edge = is.0.edge },
  rises-keeps lower first inputs inlets on is.1,
)

-- what is left of the inputs
pub left-same : (first : ℤ) (inputs : List InputFeed) (inlets : List InletParts) → KeepsInputs first inputs inlets
    → map (λ (i : InletParts). left_input first i.input) inlets ≡ map (left_input first) inputs
left-same first [] [] is = refl
left-same first [] (i ∷ inlets) is = absurd is
left-same first (input ∷ inputs) [] is = absurd is
left-same first (input ∷ inputs) (i ∷ inlets) is =
    let same : left_input first i.input ≡ left_input first input = λ k. record { rows = (sym is.0.rows) k; edge = is.0.edge k } in
    λ k. same k ∷ left-same first inputs inlets is.1 k

-- an event that is allowed was taken
taken-by : (event : Event) (later : FedRows) (first : ℤ) (feed : Feed) (inlets : List InletParts) → feed.finished ≡ false → event_fault feed event ≡ None
    → KeepsInputs first feed.inputs inlets → later.finished ≡ finishes event → later.inputs.items ≡ inlets_after event inlets → KeepsRowsOf later first (after event feed)
taken-by (Input number update) later first feed inlets unfinished none is done made =
    rw none (record { finished = done; inputs = λ _. rw made (updates-keep first number update feed.inputs inlets is) })
taken-by Finish later first feed inlets unfinished none is done made = rw none (record { finished = done; inputs = λ e. absurd (cc e) })

-- none is allowed after the feed was finished
allowed-unfinished : (feed : Feed) (event : Event) (finished : Bool) → feed.finished ≡ finished → event_fault feed event ≡ None → feed.finished ≡ false
allowed-unfinished feed event false is none = is
allowed-unfinished feed (Input number update) true is none = absurd (cc (rw is at none))
allowed-unfinished feed Finish true is none = absurd (cc (rw is at none))

pub fed-taken : (fed later : FedRows) (first : ℤ) (feed : Feed) (event : Event) → KeepsRowsOf fed first feed → event_fault feed event ≡ None
    → later.finished ≡ finishes event → later.inputs.items ≡ inlets_after event fed.inputs.items → KeepsRowsOf later first (after event feed)
fed-taken fed later first feed event is none done made =
    let unfinished = allowed-unfinished feed event feed.finished refl none in
    taken-by event later first feed fed.inputs.items unfinished none (is.inputs unfinished) done made

-- an input that is left without its early rows is one that was kept of it
pub fed-same : (fed later : FedRows) (first : ℤ) (feed : Feed) → later.finished ≡ fed.finished → later.inputs.items ≡ fed.inputs.items → KeepsRowsOf fed first feed
    → KeepsRowsOf later first feed
fed-same fed later first feed done same is = record {
  finished = done ∙ is.finished;
  inputs = λ unfinished. rw same (is.inputs unfinished);
}

pub fed-rises : (fed : FedRows) (lower first : ℤ) (feed : Feed) → lower ≤ℤ first → KeepsRowsOf fed lower feed → KeepsRowsOf fed first feed
fed-rises fed lower first feed on is = record {
  finished = is.finished;
  inputs = λ unfinished. rises-keeps lower first feed.inputs fed.inputs.items on (is.inputs unfinished);
}

pub fed-later : (fed later : FedRows) (lower first : ℤ) (feed : Feed) → lower ≤ℤ first → KeepsRowsOf fed lower feed → later.finished ≡ fed.finished
    → later.inputs.items ≡ map (left_inlet first) fed.inputs.items → KeepsRowsOf later first feed
fed-later fed later lower first feed on is done made = record {
  finished = done ∙ is.finished;
  inputs = λ unfinished. rw made (later-keeps lower first feed.inputs fed.inputs.items on (is.inputs unfinished));
}

-- of rows in order, those that end below a tick come first
pub kept-drop : (low high first : ℤ) (rows : List Snapshot) → InOrder low high rows → drop (ended_below first rows) rows ≡ kept first rows
kept-drop low high first [] order = refl
kept-drop low high first (row ∷ rows) order =
    let rest = kept-drop row.end high first rows order.3 in
    elim (cases_Bool (int_lt row.end first)) [
      | inl early ↦
          let none : int_le first row.end ≡ false = grind (arith, ints) in
          rw (early, none) rest
      | inr other ↦
          let late : int_le first row.end ≡ true = grind (arith, ints) in
          let on : first ≤ℤ row.end = grind (arith, ints) in
          let zero_ended = none_ended row.end high rows first order.3 on in
          rw (other, late, zero_ended) (ap (λ (list : List Snapshot). row ∷ list) (rw zero_ended at rest))
    ]

pub inlet-left : (low high first : ℤ) (i : InletParts) (count : ℕ) → InOrder low high i.input.rows → count ≡ ended_below first i.input.rows
    → later_inlet count i ≡ left_inlet first i
inlet-left low high first i count order is =
    λ k. record {
      input = record { rows = (ap (λ (n : ℕ). drop n i.input.rows) is ∙ kept-drop low high first i.input.rows order) k; edge = i.input.edge };
      end = i.end;
    }

-- the closed rows of an input are in order
pub rows-order : (input : InputFeed) → IsInOrder input → InOrder (neg_ℤ T) input.edge.watermark input.rows
rows-order input is = InOrder-front (neg_ℤ T) input.edge.watermark input.rows (closed_at input.edge.watermark input.edge.open_row) is.rows

-- what is so of a result is so of it, said otherwise
pub when-ok : {E A B : Type 0} (r : Result (Unit {0}) E) → (A → B) → OnOk r A → OnOk r B
when-ok (Ok done) into a = into a
when-ok (Err e) into a = tt

pub some-ok : {A E : Type 0} {P Q : A → Type 0} (e : E) (r : Option A) → ((x : A) → P x → Q x) → IfSome r P → IfOk (ok_or r e) Q
some-ok e None into is = tt
some-ok e (Some x) into is = into x is

-- what was left of inputs keeps what is left of them
pub left-keeps : (first : ℤ) (inputs : List InputFeed) → KeepsInputs first inputs (map resting_inlet (map (left_input first) inputs))
left-keeps first [] = tt
left-keeps first (input ∷ inputs) = (
  record { rows = sym (kept-later first first input.rows (omega (arith, ints))); edge = refl },
  left-keeps first inputs,
)
