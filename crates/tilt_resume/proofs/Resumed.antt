-- Of the whole output on the rows at rest, what comes after all that was printed is what the rows that are left give.
use Rattle.std.proofs.Common.{◌≡◌, ℤ, pos, ◌+ℤ◌, ◌-ℤ◌, ◌≤ℤ◌, ◌<ℤ◌, neg_ℤ, List, [], ◌∷◌, ◌++◌, length, map, drop, Option, Some, None, Ok, refl, sym, ap, ◌∙◌, subst, arith, append_assoc, inl, inr, unwrap_or}
use Rattle.std.specs.List.{AllByRecursion}
use Rattle.std.specs.Prelude.{int_le}
use Rattle.std.proofs.lemmas.Bool.{cases_Bool}
use Rattle.std.proofs.lemmas.Int.{ints}
use Rattle.std.proofs.lemmas.List.{length-map}
use Rattle.tilt_base.specs.declared.limits.TheConstants.{T}
use Rattle.tilt_base.specs.declared.span.Span.{Span}
use Rattle.tilt_bounds.proofs.Margin.{margins-reach}
use Rattle.tilt_bounds.specs.Margins.{AreMargins, MarginsParts, margins_of}
use Rattle.tilt_core.proofs.Last.{domain_of-stretch}
use Rattle.tilt_core.specs.Core.{CoreParts, IsCore, IsStretch, domain_of, emitted_number}
use Rattle.tilt_engine.proofs.Gone.{drop-front}
use Rattle.tilt_engine.proofs.WholeFeeds.{whole-after_all}
use Rattle.tilt_engine.specs.Gone.{whole_feed, with_gone}
use Rattle.tilt_feed.proofs.AllAtRest.{fed-printed_at_rest}
use Rattle.tilt_feed.proofs.Final.{fed-printed}
use Rattle.tilt_feed.proofs.Following.{after_all-length, fed-length}
use Rattle.tilt_feed.proofs.Ordered.{AreInOrder, fed-order}
use Rattle.tilt_feed.specs.Events.{after_all}
use Rattle.tilt_feed.specs.Feed.{Feed, InputFeed, closed_at}
use Rattle.tilt_feed.specs.Horizon.{horizon, output_domain}
use Rattle.tilt_feed.specs.Laws.{ListGoesOn, fed}
use Rattle.tilt_feed.specs.Printed.{printed}
use Rattle.tilt_feed.specs.Resting.{LooksNear, all_resting, ended_by, meaning_at_rest, resting, resting_end, whole}
use Rattle.tilt_feed.specs.declared.event.Event.{Event}
use Rattle.tilt_input_state.specs.Resume.{first_read, left_feed, left_input, resume_tick}
use Rattle.tilt_resume.proofs.Behind.{snapshots-rest}
use Rattle.tilt_resume.proofs.Left.{AreBehind, kept-behind, left-gives}
use Rattle.tilt_resume.proofs.Restored.{after_all-append}
use Rattle.tilt_stream.proofs.Order.{InOrder-front}
use Rattle.tilt_stream.specs.Snap.{Snapshot}
use Rattle.tilt_stream.specs.Snapshots.{snapshots}

-- inputs with the rows that have gone before their own, which end below a tick
pub record AreGone (first : ℤ) (inputs lefts : List InputFeed) : Type 0 where
  pub gone : List (List Snapshot)
  pub is : inputs ≡ with_gone gone lefts
  pub below : AllByRecursion (λ (g : List Snapshot). AllByRecursion (λ (s : Snapshot). (s.start <ℤ s.end) × (s.end <ℤ first)) g) gone

-- the rows that aren't left of inputs
pub inputs-gone : (first : ℤ) (inputs : List InputFeed) → AreInOrder inputs → AreGone first inputs (map (left_input first) inputs)
inputs-gone first [] are = record { gone = []; is = refl; below = tt }
inputs-gone first (a ∷ inputs) are =
    let b = kept-behind first (neg_ℤ T) a.edge.watermark a.rows (InOrder-front (neg_ℤ T) a.edge.watermark a.rows (closed_at a.edge.watermark a.edge.open_row) are.0.rows) in
    let rest = inputs-gone first inputs are.1 in
    record {
      gone = b.gone ∷ rest.gone;
      is = λ i. record { rows = b.is i; edge = a.edge } ∷ rest.is i;
      below = (b.below, rest.below);
    }

-- the rows at rest are behind those that have gone
resting-behind : (first : ℤ) (gone : List (List Snapshot)) (inputs : List InputFeed)
    → AllByRecursion (λ (g : List Snapshot). AllByRecursion (λ (s : Snapshot). (s.start <ℤ s.end) × (s.end <ℤ first)) g) gone
    → AreBehind first (map resting (with_gone gone inputs)) (map resting inputs)
resting-behind first [] [] below = tt
resting-behind first [] (a ∷ inputs) below = (record { gone = []; is = refl; below = tt }, resting-behind first [] inputs below)
resting-behind first (g ∷ gone) [] below = tt
resting-behind first (g ∷ gone) (a ∷ inputs) below = (
  record { gone = g; is = append_assoc g a.rows (closed_at (resting_end a.edge) a.edge.open_row); below = below.0 },
  resting-behind first gone inputs below.1,
)

-- the first ones of a list
pub ended-front : (tick : ℤ) (list : List Snapshot) → ListGoesOn (ended_by tick list) list
ended-front tick [] = record { rest = []; is = refl }
ended-front tick (s ∷ list) =
    elim (cases_Bool (int_le s.end tick)) [
      | inl is ↦ (let go = ended-front tick list in rw is (record { rest = go.rest; is = ap (λ (l : List Snapshot). s ∷ l) go.is }))
      | inr none ↦ rw none (record { rest = s ∷ list; is = refl })
    ]

domain-rises : (domain : Option Span) → IsStretch domain
    → (unwrap_or domain (record { start = pos 0; end = pos 0 })).start ≤ℤ (unwrap_or domain (record { start = pos 0; end = pos 0 })).end
domain-rises None stretch = omega (arith, ints)
domain-rises (Some span) stretch = let some = stretch.1 in omega (arith, ints)

module _ (core : CoreParts) (margins : MarginsParts) (is : IsCore core) (near : margins_of core ≡ Ok margins) (bounded : AreMargins margins) (looks : LooksNear core)
    (events : List Event) where
  abbrev feed : Feed
  feed = fed core events

  -- the whole output begins with what is printed, whatever comes
  pub printed-first : (more : List Event) → ListGoesOn (printed core feed) (whole core (after_all more feed))
  printed-first more =
      let later = after_all more feed in
      let all : fed core (events ++ more) ≡ later = after_all-append events more _ in
      let one = fed-printed core events more is in
      let printed_is : printed core later ≡ ended_by (horizon core later) (whole core later) =
      subst (λ (f : Feed). printed core f ≡ ended_by (horizon core f) (whole core f)) all (fed-printed_at_rest core (events ++ more) is looks) in
      let two = ended-front (horizon core later) (whole core later) in
      record {
        rest = one.rest ++ two.rest;
        is = two.is ∙ ap (λ (l : List Snapshot). l ++ two.rest) (sym printed_is ∙ one.is) ∙ append_assoc (printed core feed) one.rest two.rest;
      }

  pub rest-given : (more : List Event) → drop (length (printed core feed)) (whole core (after_all more feed))
      ≡ snapshots (meaning_at_rest core (after_all more (left_feed core (resume_tick core feed) feed)) (emitted_number core)) (resume_tick core feed) (output_domain core).end
  rest-given more =
      let from = resume_tick core feed in
      let lo = (output_domain core).start in
      let hi = (output_domain core).end in
      let later = after_all more feed in
      let left = left_feed core from feed in
      let first = first_read core from in
      let go = printed-first more in
      let rises = domain-rises (domain_of core.defs) (domain_of-stretch (length core.inputs) core.defs is.definitions) in
      let gone = inputs-gone first feed.inputs (fed-order (length core.inputs) events) in
      let feed_is : feed ≡ whole_feed gone.gone left = (λ i. record { inputs = gone.is i; finished = feed.finished }) in
      let later_is : later ≡ whole_feed gone.gone (after_all more left) = ap (after_all more) feed_is ∙ whole-after_all gone.gone more left in
      let back = (margins-reach core margins near).0 in
      let behind : AreBehind (from +ℤ pos 1 -ℤ margins.back) (all_resting later) (all_resting (after_all more left)) =
      subst (λ (f : Feed). AreBehind (from +ℤ pos 1 -ℤ margins.back) (all_resting f) (all_resting (after_all more left))) (sym later_is)
      (subst (λ (b : ℤ). AreBehind (from +ℤ pos 1 -ℤ b) (all_resting (whole_feed gone.gone (after_all more left))) (all_resting (after_all more left))) back
      (resting-behind first gone.gone (after_all more left).inputs gone.below)) in
      let many : length (all_resting later) ≡ length core.inputs = length-map later.inputs resting ∙ after_all-length more feed ∙ fed-length core events in
      ap (drop (length (printed core feed))) go.is
      ∙ drop-front (printed core feed) go.rest
      ∙ snapshots-rest (meaning_at_rest core later (emitted_number core)) hi lo (printed core feed) go.rest rises go.is
      ∙ left-gives core margins is near bounded from hi (all_resting later) (all_resting (after_all more left)) many behind
