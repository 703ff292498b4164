-- What is checked of inputs is that they are valid.
use Rattle.std.proofs.Common.{◌≡◌, ℕ, zero, suc, Bool, true, false, List, [], ◌∷◌, ◌++◌, length, Option, Some, None, ℤ, neg_ℤ, ◌≤ℤ◌, ◌<ℤ◌, refl, sym, ap, ◌∙◌, subst, arith, append-nil}
use Rattle.std.specs.Prelude.{◌==◌, ◌&&◌, ◌||◌, int_le, int_lt, is_some}
use Rattle.std.specs.List.{AllByRecursion, list_all}
use Rattle.std.specs.Option.{ForSome}
use Rattle.std.proofs.lemmas.Bool.{and_parts, and_from, eqb-true}
use Rattle.std.proofs.lemmas.Int.{ints}
use Rattle.std.proofs.lemmas.Option.{none-some, same_Some}
use Rattle.tilt_base.proofs.Comparisons.{lt_true, true_lt, le_true, true_le, same_number}
use Rattle.tilt_base.specs.declared.limits.TheConstants.{T}
use Rattle.tilt_checkpoint.specs.Reading.{follows}
use Rattle.tilt_core.specs.Core.{CoreParts}
use Rattle.tilt_feed.specs.Events.{is_time}
use Rattle.tilt_feed.specs.Feed.{closed_at}
use Rattle.tilt_feed.specs.Horizon.{output_domain}
use Rattle.tilt_feed.specs.Laws.{IsInOrder}
use Rattle.tilt_feed.specs.declared.edge.Edge.{Edge}
use Rattle.tilt_feed.specs.declared.open_row.OpenRow.{OpenRow}
use Rattle.tilt_feed.specs.declared.update.Update.{Update}
use Rattle.tilt_live_state.specs.Reading.{are_in_order, edge_follows, is_in_order, is_input, is_state_of}
use Rattle.tilt_live_state.specs.State.{InputParts, LiveStateParts, feed_of}
use Rattle.tilt_live_state.specs.Valid.{IsInput, IsStateOf}
use Rattle.tilt_stream.proofs.Order.{InOrder-front, InOrder-push}
use Rattle.tilt_stream.specs.Snap.{Snapshot, AreRows, InOrder, last_end}
use Rattle.tilt_watermarks.specs.Held.{fits}

-- rows in order of which the last one ends at a tick at the latest
order_within : (from limit w : ℤ) (rows : List Snapshot) → InOrder from limit rows → follows (last_end rows) w ≡ true → InOrder from w rows
order_within from limit w [] order h = tt
order_within from limit w (r ∷ []) order h = (order.0, order.1, le_true r.end w h, tt)
order_within from limit w (r ∷ next ∷ rows) order h =
    let more = order_within r.end limit w (next ∷ rows) order.3 h in
    let starts = more.0 in
    let some = more.1 in
    let ends = more.2 in
    (order.0, order.1, omega (arith, ints), more)

within_order : (from w : ℤ) (rows : List Snapshot) → InOrder from w rows → follows (last_end rows) w ≡ true
within_order from w [] order = refl
within_order from w (r ∷ []) order = true_le r.end w order.2
within_order from w (r ∷ next ∷ rows) order = within_order r.end w (next ∷ rows) order.3

-- what follows a tick follows those before it
follows_later : (end : Option ℤ) (a b : ℤ) → a ≤ℤ b → follows end a ≡ true → follows end b ≡ true
follows_later None a b le h = refl
follows_later (Some end) a b le h = let first = le_true end a h in true_le end b (omega (arith, ints))

follows_some : (end : Option ℤ) (a : ℤ) → follows end a ≡ true → ForSome end (λ e. e ≤ℤ a)
follows_some end a h = λ e is. le_true e a (subst (λ (o : Option ℤ). follows o a ≡ true) is h)

-- what is known of the last one of rows in order
record IsLast (from w : ℤ) (rows : List Snapshot) (s : Snapshot) : Type 0 where
  follows_is : follows (last_end rows) s.start ≡ true
  low : from ≤ℤ s.start
  width : s.start <ℤ s.end

last_row : (from w : ℤ) (rows : List Snapshot) (s : Snapshot) → InOrder from w (rows ++ s ∷ []) → IsLast from w rows s
last_row from w [] s order = record { follows_is = refl; low = order.0; width = order.1 }
last_row from w (r ∷ []) s order =
    let start = order.0 in
    let some = order.1 in
    let next = order.3.0 in
    record { follows_is = true_le r.end s.start order.3.0; low = omega (arith, ints); width = order.3.1 }
last_row from w (r ∷ next ∷ rows) s order =
    let start = order.0 in
    let some = order.1 in
    let more = last_row r.end w (next ∷ rows) s order.3 in
    let low = more.low in
    record { follows_is = more.follows_is; low = omega (arith, ints); width = more.width }

-- the rows and the edge of an input

rows_follow : (rows : List Snapshot) (w : ℤ) (o : Option OpenRow) → AreRows rows → edge_follows (last_end rows) w o ≡ true
    → InOrder (neg_ℤ T) w (rows ++ closed_at w o)
rows_follow rows w None are h = subst (InOrder (neg_ℤ T) w) (sym (append-nil rows)) (order_within (neg_ℤ T) T w rows are h)
rows_follow rows w (Some row) are h =
    let a = and_parts _ (int_lt row.start w) h in
    let b = and_parts (int_le (neg_ℤ T) row.start) (follows (last_end rows) row.start) a.0 in
    let below = lt_true row.start w a.1 in
    let front = order_within (neg_ℤ T) T w rows are (follows_later (last_end rows) row.start w (omega (arith, ints)) b.1) in
    InOrder-push (neg_ℤ T) w rows (record { start = row.start; end = w; value = Some row.value }) front (le_true (neg_ℤ T) row.start b.0)
    (follows_some (last_end rows) row.start b.1) below (omega (arith, ints))

follow_rows : (rows : List Snapshot) (w : ℤ) (o : Option OpenRow) → InOrder (neg_ℤ T) w (rows ++ closed_at w o)
    → edge_follows (last_end rows) w o ≡ true
follow_rows rows w None order = within_order (neg_ℤ T) w rows (subst (InOrder (neg_ℤ T) w) (append-nil rows) order)
follow_rows rows w (Some row) order =
    let last = last_row (neg_ℤ T) w rows (record { start = row.start; end = w; value = Some row.value }) order in
    and_from _ (int_lt row.start w)
    (and_from (int_le (neg_ℤ T) row.start) (follows (last_end rows) row.start) (true_le (neg_ℤ T) row.start last.low) last.follows_is)
    (true_lt row.start w last.width)

-- that rows are in order is decided

order_true : (from limit : ℤ) (rows : List Snapshot) → are_in_order from limit rows ≡ true → InOrder from limit rows
order_true from limit [] h = tt
order_true from limit (r ∷ rows) h =
    let a = and_parts _ (are_in_order r.end limit rows) h in
    let b = and_parts _ (int_le r.end limit) a.0 in
    let c = and_parts (int_le from r.start) (int_lt r.start r.end) b.0 in
    (le_true from r.start c.0, lt_true r.start r.end c.1, le_true r.end limit b.1, order_true r.end limit rows a.1)

true_order : (from limit : ℤ) (rows : List Snapshot) → InOrder from limit rows → are_in_order from limit rows ≡ true
true_order from limit [] order = refl
true_order from limit (r ∷ rows) order =
    and_from _ (are_in_order r.end limit rows)
    (and_from _ (int_le r.end limit)
    (and_from (int_le from r.start) (int_lt r.start r.end) (true_le from r.start order.0) (true_lt r.start r.end order.1))
    (true_le r.end limit order.2)) (true_order r.end limit rows order.3)

same_truth : (a b : Bool) → (a ≡ true → b ≡ true) → (b ≡ true → a ≡ true) → a ≡ b
same_truth true b to from = sym (to refl)
same_truth false true to from = from refl
same_truth false false to from = refl

pub edge-follows : (rows : List Snapshot) (w : ℤ) (o : Option OpenRow) → AreRows rows
    → edge_follows (last_end rows) w o ≡ are_in_order (neg_ℤ T) w (rows ++ closed_at w o)
edge-follows rows w o are =
    same_truth (edge_follows (last_end rows) w o) (are_in_order (neg_ℤ T) w (rows ++ closed_at w o))
    (λ h. true_order (neg_ℤ T) w (rows ++ closed_at w o) (rows_follow rows w o are h))
    (λ h. follow_rows rows w o (order_true (neg_ℤ T) w (rows ++ closed_at w o) h))

order_sound : (input : InputParts) → is_in_order input.rows input.edge ≡ true → IsInOrder (feed_of input)
order_sound input h =
    let w = input.edge.watermark in
    let now = input.rows ++ closed_at w input.edge.open_row in
    let a = and_parts (is_time w) (are_in_order (neg_ℤ T) w now) h in
    let b = and_parts (int_le (neg_ℤ T) w) (int_le w T) a.0 in
    record { rows = order_true (neg_ℤ T) w now a.1; low = le_true (neg_ℤ T) w b.0; high = le_true w T b.1 }

order_complete : (input : InputParts) → IsInOrder (feed_of input) → is_in_order input.rows input.edge ≡ true
order_complete input is =
    let w = input.edge.watermark in
    let now = input.rows ++ closed_at w input.edge.open_row in
    and_from (is_time w) (are_in_order (neg_ℤ T) w now)
    (and_from (int_le (neg_ℤ T) w) (int_le w T) (true_le (neg_ℤ T) w is.low) (true_le w T is.high))
    (true_order (neg_ℤ T) w now is.rows)

-- rows that are in order up to a watermark are rows of a series
order_up : (from limit w : ℤ) (rows : List Snapshot) → w ≤ℤ limit → InOrder from w rows → InOrder from limit rows
order_up from limit w [] le order = tt
order_up from limit w (r ∷ rows) le order =
    let ends = order.2 in (order.0, order.1, omega (arith, ints), order_up r.end limit w rows le order.3)

pub rows_of : (input : InputParts) → IsInOrder (feed_of input) → AreRows input.rows
rows_of input is =
    order_up (neg_ℤ T) T input.edge.watermark input.rows is.high
    (InOrder-front (neg_ℤ T) input.edge.watermark input.rows (closed_at input.edge.watermark input.edge.open_row) is.rows)

-- nothing is held without lateness

none_held : (lateness : Option ℕ) (held : List Update) → (is_some lateness || length held == 0) ≡ true → lateness ≡ None → held ≡ []
none_held lateness [] h none = refl
none_held None (u ∷ held) h none = let some = eqb-true (length (u ∷ held)) 0 h in absurd (omega (arith, some))
none_held (Some ticks) (u ∷ held) h none = absurd (none-some ticks (sym none))

held_none : (lateness : Option ℕ) (held : List Update) → (lateness ≡ None → held ≡ []) → (is_some lateness || length held == 0) ≡ true
held_none None held none = rw (none refl) refl
held_none (Some ticks) held none = refl

-- an input

input_sound : (lateness : Option ℕ) (input : InputParts) → is_input lateness input ≡ true → IsInput lateness input
input_sound lateness input h =
    let a = and_parts _ (is_some lateness || length input.held == 0) h in
    let b = and_parts (is_in_order input.rows input.edge) (fits input.edge.watermark input.held) a.0 in
    record {
      in_order = order_sound input b.0;
      fit = record { fits = b.1; none = none_held lateness input.held a.1 };
    }

input_complete : (lateness : Option ℕ) (input : InputParts) → IsInput lateness input → is_input lateness input ≡ true
input_complete lateness input is =
    and_from _ (is_some lateness || length input.held == 0)
    (and_from (is_in_order input.rows input.edge) (fits input.edge.watermark input.held) (order_complete input is.in_order) is.fit.fits)
    (held_none lateness input.held is.fit.none)

inputs_sound : (lateness : Option ℕ) (inputs : List InputParts) → list_all (is_input lateness) inputs ≡ true → AllByRecursion (IsInput lateness) inputs
inputs_sound lateness [] h = tt
inputs_sound lateness (i ∷ inputs) h =
    let a = and_parts (is_input lateness i) (list_all (is_input lateness) inputs) h in
    (input_sound lateness i a.0, inputs_sound lateness inputs a.1)

inputs_complete : (lateness : Option ℕ) (inputs : List InputParts) → AllByRecursion (IsInput lateness) inputs
    → list_all (is_input lateness) inputs ≡ true
inputs_complete lateness [] are = refl
inputs_complete lateness (i ∷ inputs) are =
    and_from (is_input lateness i) (list_all (is_input lateness) inputs) (input_complete lateness i are.0)
    (inputs_complete lateness inputs are.1)

-- a state

pub state_sound : (core : CoreParts) (s : LiveStateParts) → is_state_of core s ≡ true → IsStateOf core s
state_sound core s h =
    let a = and_parts _ (list_all (is_input s.progress.options.lateness) s.inputs) h in
    let b = and_parts _ (length s.inputs == length core.inputs) a.0 in
    let c = and_parts (int_le (output_domain core).start s.progress.from) (int_le s.progress.from (output_domain core).end) b.0 in
    record {
      low = le_true (output_domain core).start s.progress.from c.0;
      high = le_true s.progress.from (output_domain core).end c.1;
      counted = eqb-true (length s.inputs) (length core.inputs) b.1;
      inputs = inputs_sound s.progress.options.lateness s.inputs a.1;
    }

pub state_complete : (core : CoreParts) (s : LiveStateParts) → IsStateOf core s → is_state_of core s ≡ true
state_complete core s is =
    and_from _ (list_all (is_input s.progress.options.lateness) s.inputs)
    (and_from _ (length s.inputs == length core.inputs)
    (and_from (int_le (output_domain core).start s.progress.from) (int_le s.progress.from (output_domain core).end)
    (true_le (output_domain core).start s.progress.from is.low) (true_le s.progress.from (output_domain core).end is.high))
    (rw is.counted (same_number (length core.inputs)))) (inputs_complete s.progress.options.lateness s.inputs is.inputs)
