-- What is known is final.
use Rattle.std.proofs.Common.{◌≡◌, ◌==◌, ℕ, ℤ, pos, ◌+ℤ◌, ◌≤ℤ◌, ◌<ℤ◌, Bool, true, List, length, Option, Some, None, option_map, option_and_then, IsSome}
use Rattle.std.proofs.Common.{if◌then◌else◌, refl, ap, sym, subst, ◌∙◌, inl, inr, unwrap_or, int_eq, arith}
use Rattle.std.proofs.Math.Bool.{or-true}
use Rattle.std.proofs.lemmas.Bool.{or_cases}
use Rattle.std.proofs.lemmas.Bool.Decides.{Decides-int_eq}
use Rattle.std.proofs.lemmas.Int.{ints}
use Rattle.std.proofs.lemmas.List.{length-map}
use Rattle.tilt_base.proofs.Comparisons.{same_number}
use Rattle.tilt_base.specs.declared.span.Span.{Span}
use Rattle.tilt_core.proofs.Constancy.{definitions-AreGrids, meaning-changes}
use Rattle.tilt_core.specs.Core.{CoreParts, IsCore, domain_of, emitted_number}
use Rattle.tilt_core.specs.Meaning.{AreGrids, emitted, meaning, output_of, with_definitions}
use Rattle.tilt_feed.proofs.Following.{AllFollow, after_all-follows, after_all-length, fed-length, input_horizons, inputs-rise, inputs-same, inputs-sure, now, sure-all, sure-marks, surely}
use Rattle.tilt_feed.proofs.Known.{clipped-above, clipped-high, clipped-known}
use Rattle.tilt_feed.proofs.Rising.{definitions-rise, rises-at}
use Rattle.tilt_feed.proofs.Same.{definitions-same, same-agree, same-at}
use Rattle.tilt_feed.proofs.Starts.{Continues, printed-continues, printed-goes_on}
use Rattle.tilt_feed.proofs.SureMarks.{definitions-marks, marks-at}
use Rattle.tilt_feed.specs.Events.{after_all}
use Rattle.tilt_feed.specs.Feed.{Feed, all_rows_now, rows_now}
use Rattle.tilt_feed.specs.Horizon.{output_domain, horizon, horizon_of, horizons, with_horizons}
use Rattle.tilt_feed.specs.Laws.{AgreeUpTo, AreSureWhereKnown, ListGoesOn, OutputGoesOn, IsFinal, fed}
use Rattle.tilt_feed.specs.Printed.{begun, begun_of, closed_of, is_closed, known_snapshots, meaning_now, printed}
use Rattle.tilt_feed.specs.Sure.{is_sure}
use Rattle.tilt_feed.specs.declared.event.Event.{Event}
use Rattle.tilt_stream.proofs.Snapped.{snapshots-agree}
use Rattle.tilt_stream.specs.Agreement.{ChangesOnlyAtMarks}
use Rattle.tilt_stream.specs.Snap.{Snapshot}
use Rattle.tilt_stream.specs.Snapshots.{snapshots}
use Rattle.tilt_stream.specs.Stream.{Stream}

-- the snapshots on the output domain, where there is one
on-domain : (x : Stream) (span : Option Span) → IsSome span
    → option_map (λ (d : Span). snapshots x d.start d.end) span
    ≡ Some (snapshots x (unwrap_or span (record { start = pos 0; end = pos 0 })).start (unwrap_or span (record { start = pos 0; end = pos 0 })).end)
on-domain x None some = absurd (cc some)
on-domain x (Some span) some = refl

-- what an accepted query gives on as many inputs as it has
pub output-is : (core : CoreParts) (rows : List (List Snapshot)) → IsCore core → length rows ≡ length core.inputs
    → output_of core rows ≡ Some (snapshots (meaning rows core.defs (emitted_number core)) (output_domain core).start (output_domain core).end)
output-is core rows is many =
    let count : (length rows == length core.inputs) ≡ true = rw many (same_number (length core.inputs)) in
    let x = meaning rows core.defs (emitted_number core) in
    let given : emitted core rows ≡ Some x = ap (λ (b : Bool). if b then Some x else None) count in
    ap (option_and_then (λ (y : Stream). option_map (λ (d : Span). snapshots y d.start d.end) (domain_of core.defs))) given
    ∙ on-domain x (domain_of core.defs) is.domain

past-end : (at hi end : ℤ) → at ≡ end → hi ≤ℤ end → at <ℤ hi → ⊥
past-end at hi end is high before = omega (arith, ints)

module _ (core : CoreParts) (is : IsCore core) (feed : Feed) where
  grids : AreGrids core.defs
  grids = definitions-AreGrids (length core.inputs) core.defs is.definitions

  -- up to the horizons the sure marks are all marks
  pub sure-where_known : AreSureWhereKnown core feed
  sure-where_known = λ source tick known.
      let hs = input_horizons feed.finished feed.inputs in
      let xs = surely feed.finished feed.inputs in
      let ys = now feed.inputs in
      let all = definitions-same (length core.inputs) hs xs ys core.defs (sure-all feed.finished feed.inputs) is.definitions in
      (same-at (with_horizons hs core.defs) (with_definitions xs core.defs) (with_definitions ys core.defs) all source).marks tick known

  module _ (later : Feed) (follows : AllFollow feed.finished later.finished feed.inputs later.inputs) where
    final-same : (source : ℕ) → AgreeUpTo (horizon_of (horizons core feed) source) (meaning_now core feed source) (meaning_now core later source)
    final-same source =
        let hs = input_horizons feed.finished feed.inputs in
        let xs = now feed.inputs in
        let ys = now later.inputs in
        let all = definitions-same (length core.inputs) hs xs ys core.defs (inputs-same feed.finished later.finished feed.inputs later.inputs follows) is.definitions in
        same-at (with_horizons hs core.defs) (with_definitions xs core.defs) (with_definitions ys core.defs) all source

    -- a sure mark stays sure
    sure-stays : (source : ℕ) (tick : ℤ) → is_sure core feed source tick ≡ true → is_sure core later source tick ≡ true
    sure-stays source tick mark =
        let xs = surely feed.finished feed.inputs in
        let ys = surely later.finished later.inputs in
        let all = definitions-marks xs ys core.defs (inputs-sure feed.finished later.finished feed.inputs later.inputs follows) in
        (marks-at (with_definitions xs core.defs) (with_definitions ys core.defs) all source).all tick mark

    -- and is a mark
    sure-is : (source : ℕ) (tick : ℤ) → is_sure core later source tick ≡ true → (meaning_now core later source).mark tick ≡ true
    sure-is source tick mark =
        let xs = surely later.finished later.inputs in
        let ys = now later.inputs in
        let all = definitions-marks xs ys core.defs (sure-marks later.finished later.inputs) in
        (marks-at (with_definitions xs core.defs) (with_definitions ys core.defs) all source).all tick mark

    pub final : IsFinal core feed later
    final = record { same = final-same; sure = λ source tick mark. sure-is source tick (sure-stays source tick mark) }

    -- the horizon doesn't fall
    horizon-rises : horizon core feed ≤ℤ horizon core later
    horizon-rises =
        let gs = input_horizons feed.finished feed.inputs in
        let hs = input_horizons later.finished later.inputs in
        let all = definitions-rise gs hs core.defs grids (inputs-rise feed.finished later.finished feed.inputs later.inputs follows) in
        clipped-above (output_domain core).end (horizon_of (horizons core feed) (emitted_number core)) (horizon_of (horizons core later) (emitted_number core))
        (rises-at (with_horizons gs core.defs) (with_horizons hs core.defs) all (emitted_number core))

    abbrev x : Stream
    x = meaning_now core later (emitted_number core)

    changes : ChangesOnlyAtMarks x
    changes = meaning-changes (all_rows_now later) core.defs grids (emitted_number core)

    -- what is known is the same on the later feed
    known-is : known_snapshots core feed ≡ snapshots x (output_domain core).start (horizon core feed)
    known-is =
        let h = horizon_of (horizons core feed) (emitted_number core) in
        let y = meaning_now core feed (emitted_number core) in
        let at = horizon core feed in
        snapshots-agree y x (output_domain core).start at
        (same-agree h y x (output_domain core).start at (final-same (emitted_number core)) (clipped-known (output_domain core).end h at (omega (arith, ints))))

    -- the last one ends at the horizon if it is closed
    closed-mark : (hi : ℤ) → hi ≤ℤ (output_domain core).end → is_closed core feed ≡ true → horizon core feed <ℤ hi → x.mark (horizon core feed +ℤ pos 1) ≡ true
    closed-mark hi high closed before =
        let at = horizon core feed in
        elim (or_cases (int_eq at (output_domain core).end) (is_sure core feed (emitted_number core) (at +ℤ pos 1)) closed) [
          | inl end ↦ absurd (past-end at hi (output_domain core).end ((Decides-int_eq at (output_domain core).end).0 end) high before)
          | inr sure ↦ final.sure (emitted_number core) (at +ℤ pos 1) sure
        ]

    closed-stays : is_closed core feed ≡ true → horizon core feed ≡ horizon core later → is_closed core later ≡ true
    closed-stays closed same =
        let at = horizon core feed in
        elim (or_cases (int_eq at (output_domain core).end) (is_sure core feed (emitted_number core) (at +ℤ pos 1)) closed) [
          | inl end ↦ (let test : int_eq (horizon core later) (output_domain core).end ≡ true = subst (λ (t : ℤ). int_eq t (output_domain core).end ≡ true) same end in
              rw test refl)
          | inr sure ↦ (let there : is_sure core later (emitted_number core) (horizon core later +ℤ pos 1) ≡ true =
              subst (λ (t : ℤ). is_sure core later (emitted_number core) (t +ℤ pos 1) ≡ true) same (sure-stays (emitted_number core) (at +ℤ pos 1) sure) in
              rw there (or-true (int_eq (horizon core later) (output_domain core).end)))
        ]

    pub final-printed : ListGoesOn (printed core feed) (printed core later)
    final-printed =
        let lo = (output_domain core).start in
        let high = clipped-high (output_domain core).end (horizon_of (horizons core later) (emitted_number core)) in
        subst (λ (l : List Snapshot). ListGoesOn (closed_of (is_closed core feed) l) (printed core later)) (sym known-is)
        (printed-goes_on x changes lo (horizon core feed) (horizon core later) horizon-rises (is_closed core feed)
        (closed-mark (horizon core later) high) (is_closed core later) closed-stays)

    pub final-output : length later.inputs ≡ length core.inputs → OutputGoesOn core feed later
    final-output many =
        let lo = (output_domain core).start in
        let hi = (output_domain core).end in
        let high = clipped-high hi (horizon_of (horizons core feed) (emitted_number core)) in
        let c : Continues (printed core feed) (begun core feed) (snapshots x lo hi) =
        subst (λ (l : List Snapshot). Continues (closed_of (is_closed core feed) l) (begun_of (is_closed core feed) l) (snapshots x lo hi)) (sym known-is)
        (printed-continues x changes lo (horizon core feed) hi high (is_closed core feed) (closed-mark hi (omega (arith, ints)))) in
        record {
          output = snapshots x lo hi;
          given = output-is core (all_rows_now later) is (length-map later.inputs rows_now ∙ many);
          rest = c.rest;
          is = c.is;
          next = c.next;
        }

-- of every list of events, and every further one
module _ (core : CoreParts) (events more : List Event) (is : IsCore core) where
  pub fed-final : IsFinal core (fed core events) (after_all more (fed core events))
  fed-final = final core is (fed core events) (after_all more (fed core events)) (after_all-follows more (fed core events))

  pub fed-rises : horizon core (fed core events) ≤ℤ horizon core (after_all more (fed core events))
  fed-rises = horizon-rises core is (fed core events) (after_all more (fed core events)) (after_all-follows more (fed core events))

  pub fed-printed : ListGoesOn (printed core (fed core events)) (printed core (after_all more (fed core events)))
  fed-printed = final-printed core is (fed core events) (after_all more (fed core events)) (after_all-follows more (fed core events))

  pub fed-output : OutputGoesOn core (fed core events) (after_all more (fed core events))
  fed-output =
      final-output core is (fed core events) (after_all more (fed core events)) (after_all-follows more (fed core events))
      (after_all-length more (fed core events) ∙ fed-length core events)
