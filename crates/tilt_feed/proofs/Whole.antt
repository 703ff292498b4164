-- When a feed is finished, the whole output is printed.
use Rattle.std.proofs.Common.{◌≡◌, ℕ, zero, suc, Bool, true, false, List, [], ◌∷◌, ◌++◌, length, map, Option, Some, None, is_none}
use Rattle.std.proofs.Common.{if◌then◌else◌, refl, ap, sym, ◌∙◌, append-nil}
use Rattle.std.specs.Prelude.{⊤}
use Rattle.std.proofs.lemmas.Bool.Decides.{Decides-int_eq}
use Rattle.std.proofs.lemmas.List.{length-map}
use Rattle.tilt_base.specs.Expression.{Leaf, One, Two, If}
use Rattle.tilt_base.specs.declared.span.Span.{Span}
use Rattle.tilt_core.specs.Core.{CoreParts, IsCore, emitted_number}
use Rattle.tilt_core.specs.CoreTree.{Const, Read, Reduce, CoreTree, Definition}
use Rattle.tilt_core.specs.Meaning.{output_of}
use Rattle.tilt_feed.proofs.Final.{output-is}
use Rattle.tilt_feed.proofs.Following.{after_all-length, fed-length, input_horizons}
use Rattle.tilt_feed.specs.Events.{after, after_all, changed_by, event_fault, finished_input}
use Rattle.tilt_feed.specs.Feed.{InputFeed, Feed, all_rows_now, closed_rows, empty_feed, closed_at, rows_now}
use Rattle.tilt_feed.specs.Horizon.{Horizon, ForEver, clipped, body_horizon, definition_horizon, output_domain, earlier, grid_horizon, horizon, horizon_of, earlier_by}
use Rattle.tilt_feed.specs.Horizon.{over_horizon, with_horizons}
use Rattle.tilt_feed.specs.Laws.{fed}
use Rattle.tilt_feed.specs.Printed.{closed_of, is_closed, known_snapshots, meaning_now, printed}
use Rattle.tilt_feed.specs.declared.event.Event.{Event}
use Rattle.tilt_feed.specs.declared.event.Event.TheVariants.{Input, Finish}
use Rattle.tilt_feed.specs.declared.fault.EventFault.TheVariants.{Finished}
use Rattle.tilt_feed.specs.declared.open_row.OpenRow.{OpenRow}
use Rattle.tilt_stream.specs.Snapshots.{snapshots}

-- definitions over sources that are known for ever are known for ever
module _ (hs : List Horizon) (all : (source : ℕ) → horizon_of hs source ≡ ForEver) where
  body-ever : (body : CoreTree) → body_horizon hs body ≡ ForEver
  body-ever (Leaf (Const number)) = refl
  body-ever (Leaf (Read source offset)) = ap (λ (h : Horizon). earlier_by h offset) (all source)
  body-ever (Leaf (Reduce reducer source from to)) = ap (λ (h : Horizon). earlier_by h to) (all source)
  body-ever (One op a) = body-ever a
  body-ever (Two op a b) = ap (λ (h : Horizon). earlier h (body_horizon hs b)) (body-ever a) ∙ body-ever b
  body-ever (If c a b) =
      ap (λ (h : Horizon). earlier h (earlier (body_horizon hs a) (body_horizon hs b))) (body-ever c)
      ∙ ap (λ (h : Horizon). earlier h (body_horizon hs b)) (body-ever a)
      ∙ body-ever b

over-ever : (over : Option Span) → over_horizon over ForEver ≡ ForEver
over-ever None = refl
over-ever (Some span) = refl

definition-ever : (hs : List Horizon) (def : Definition) → ((source : ℕ) → horizon_of hs source ≡ ForEver) → definition_horizon hs def ≡ ForEver
definition-ever hs def all = ap (λ (h : Horizon). over_horizon def.over (grid_horizon def.grid h)) (body-ever hs all def.body) ∙ over-ever def.over

ever-push : (hs : List Horizon) (h : Horizon) → ((source : ℕ) → horizon_of hs source ≡ ForEver) → h ≡ ForEver → (source : ℕ) → horizon_of (hs ++ h ∷ []) source ≡ ForEver
ever-push [] h all is zero = is
ever-push [] h all is (suc source) = refl
ever-push (g ∷ hs) h all is zero = all 0
ever-push (g ∷ hs) h all is (suc source) = ever-push hs h (λ n. all (suc n)) is source

definitions-ever : (hs : List Horizon) (defs : List Definition) → ((source : ℕ) → horizon_of hs source ≡ ForEver) → (source : ℕ) → horizon_of (with_horizons hs defs) source ≡ ForEver
definitions-ever hs [] all = all
definitions-ever hs (def ∷ defs) all = definitions-ever (hs ++ definition_horizon hs def ∷ []) defs (ever-push hs (definition_horizon hs def) all (definition-ever hs def all))

inputs-ever : (inputs : List InputFeed) (source : ℕ) → horizon_of (input_horizons true inputs) source ≡ ForEver
inputs-ever [] source = refl
inputs-ever (a ∷ inputs) zero = refl
inputs-ever (a ∷ inputs) (suc source) = inputs-ever inputs source

-- a finished feed is known up to the end of the output domain
pub horizon-end : (core : CoreParts) (feed : Feed) → feed.finished ≡ true → horizon core feed ≡ (output_domain core).end
horizon-end core feed finished =
    ap (clipped (output_domain core).end)
    (ap (λ (b : Bool). horizon_of (with_horizons (input_horizons b feed.inputs) core.defs) (emitted_number core)) finished
    ∙ definitions-ever (input_horizons true feed.inputs) core.defs (inputs-ever feed.inputs) (emitted_number core))

-- so what is printed is the whole output
module _ (core : CoreParts) (is : IsCore core) (feed : Feed) (finished : feed.finished ≡ true) where
  all-closed : is_closed core feed ≡ true
  all-closed =
      let end = (Decides-int_eq (horizon core feed) (output_domain core).end).1 (horizon-end core feed finished) in
      rw end refl

  all-printed : printed core feed ≡ snapshots (meaning_now core feed (emitted_number core)) (output_domain core).start (output_domain core).end
  all-printed =
      ap (λ (b : Bool). closed_of b (known_snapshots core feed)) all-closed
      ∙ ap (snapshots (meaning_now core feed (emitted_number core)) (output_domain core).start) (horizon-end core feed finished)

  pub finished-output : length feed.inputs ≡ length core.inputs → output_of core (all_rows_now feed) ≡ Some (printed core feed)
  finished-output many = output-is core (all_rows_now feed) is (length-map feed.inputs rows_now ∙ many) ∙ ap Some (sym all-printed)

-- no input has an open row
abbrev pub AreClosed : List InputFeed → Type 0
AreClosed [] = ⊤
AreClosed (a ∷ inputs) = (a.edge.open_row ≡ None) × AreClosed inputs

finished-closed : (inputs : List InputFeed) → AreClosed (map finished_input inputs)
finished-closed [] = tt
finished-closed (a ∷ inputs) = (refl, finished-closed inputs)

-- the inputs of a finished feed have none
abbrev pub IsClosed : Feed → Type 0
IsClosed feed = feed.finished ≡ true → AreClosed feed.inputs

changed-closed : (event : Event) (inputs : List InputFeed) → IsClosed (changed_by event inputs)
changed-closed (Input number update) inputs = λ is. absurd (cc is)
changed-closed Finish inputs = λ is. finished-closed inputs

after_by-closed : (event : Event) (feed : Feed) (allowed : Bool) → IsClosed feed → IsClosed (if allowed then changed_by event feed.inputs else feed)
after_by-closed event feed true closed = changed-closed event feed.inputs
after_by-closed event feed false closed = closed

pub after_all-closed : (events : List Event) (feed : Feed) → IsClosed feed → IsClosed (after_all events feed)
after_all-closed [] feed closed = closed
after_all-closed (event ∷ events) feed closed =
    after_all-closed events (after event feed) (after_by-closed event feed (is_none (event_fault feed event)) closed)

-- after the end a feed is finished
finish-finishes_by : (feed : Feed) (finished : Bool) → feed.finished ≡ finished
    → (if is_none (if finished then Some Finished else None) then changed_by Finish feed.inputs else feed).finished ≡ true
finish-finishes_by feed true is = is
finish-finishes_by feed false is = refl

finish-finishes : (feed : Feed) → (after Finish feed).finished ≡ true
finish-finishes feed = finish-finishes_by feed feed.finished refl

closed-now : (inputs : List InputFeed) → AreClosed inputs → map (λ (a : InputFeed). a.rows) inputs ≡ map rows_now inputs
closed-now [] closed = refl
closed-now (a ∷ inputs) closed =
    let here : a.rows ≡ rows_now a = sym (append-nil a.rows) ∙ ap (λ (o : Option OpenRow). a.rows ++ closed_at a.edge.watermark o) (sym closed.0) in
    λ i. here i ∷ closed-now inputs closed.1 i

pub fed-whole : (core : CoreParts) (events : List Event) → IsCore core
    → output_of core (closed_rows (after Finish (fed core events))) ≡ Some (printed core (after Finish (fed core events)))
fed-whole core events is =
    let before = fed core events in
    let feed = after Finish before in
    let finished = finish-finishes before in
    let first : IsClosed (empty_feed (length core.inputs)) = λ e. absurd (cc e) in
    let closed = after_by-closed Finish before (is_none (event_fault before Finish)) (after_all-closed events (empty_feed (length core.inputs)) first) finished in
    ap (output_of core) (closed-now feed.inputs closed)
    ∙ finished-output core is feed finished (after_all-length (Finish ∷ []) before ∙ fed-length core events)
