-- A watching query emits 1 at the ticks at which a node of a definition leaves 64 bits, and misses nothing that the output can depend on.
use Rattle.std.proofs.Common.{◌≡◌, ℕ, ◌+◌, ◌<◌, ◌≤◌, ℤ, pos, neg_ℤ, ◌+ℤ◌, ◌-ℤ◌, ◌≤ℤ◌, ◌<ℤ◌, true, List, length, get_or, Option, Some, None, inl, inr, refl, sym, ap, ◌∙◌, subst, arith}
use Rattle.std.specs.Prelude.{option_map}
use Rattle.std.proofs.lemmas.Int.{ints, clamps}
use Rattle.tilt_base.specs.declared.limits.TheConstants.{T}
use Rattle.tilt_base.specs.declared.span.Span.{Span}
use Rattle.tilt_bounds.proofs.Needs.{need_at-definition}
use Rattle.tilt_core.proofs.Last.{last-need}
use Rattle.tilt_core.specs.Core.{CoreParts, IsCore, domain_of, emitted_number}
use Rattle.tilt_core.specs.Needs.{Need, needs_from}
use Rattle.tilt_overflows.proofs.Accepted.{before_last, last_domain}
use Rattle.tilt_overflows.proofs.Asked.{AreClosed, above, asked_closed, lies, not_above}
use Rattle.tilt_overflows.proofs.Emitted.{IsReport, all_reports, are_watched, count_inputs, first_of, inputs_of, none_leaves, none_some, on_domain, one_leaves, quiet, some_at, some_none, some_reports, watch_at, watches_of}
use Rattle.tilt_overflows.proofs.Reach.{in_reach, reach_of}
use Rattle.tilt_overflows.specs.Law.{EmitsNothing, QueryLeaves, Spans, asked_for, is_asked, watch_cell}
use Rattle.tilt_overflows.specs.Watching.{emitted_watch, watching_defs, widened}
use Rattle.tilt_stream.specs.Snap.{Snapshot}
use Rattle.tilt_stream.specs.Stream.{Stream}
use Rattle.tilt_units.specs.Law.{QueryStaysWithin}

report_one : (cell : Option ℤ) → IsReport cell → (cell ≡ None → ⊥) → cell ≡ Some (pos 1)
report_one cell (inl is) n = absurd (n is)
report_one cell (inr is) n = is

none_one : (cell : Option ℤ) → cell ≡ Some (pos 1) → cell ≡ None → ⊥
none_one cell one none = absurd (cc (sym one ∙ none))

module _ (core : CoreParts) (rows : List (List Snapshot)) (is : IsCore core) (many : length rows ≡ length core.inputs) where
  abbrev zs_of : List Stream
  zs_of = watches_of core rows is many

  abbrev start_of : ℕ
  start_of = first_of core rows is many

  abbrev leaves_at : ℤ → Type 0
  leaves_at tick = QueryLeaves (inputs_of core rows is many) core.defs tick

  few : (k : ℕ) → k ≤ length core.names → k < length core.defs
  few k low = let one = is.one_emitted in omega arith

  names_few : (k : ℕ) → k < length core.defs → k ≤ length core.names
  names_few k low = let one = is.one_emitted in omega arith

  module _ (tick : ℤ) where
    some_one : leaves_at tick → some_at zs_of start_of tick (length core.names) ≡ Some (pos 1)
    some_one left =
        let one = one_leaves zs_of tick start_of (inputs_of core rows is many) core.defs (are_watched core rows is many) left in
        report_one (some_at zs_of start_of tick (length core.names))
        (some_reports zs_of start_of tick (length core.names)
        (λ k low. all_reports zs_of tick start_of (inputs_of core rows is many) core.defs (are_watched core rows is many) k (few k low)))
        (λ none. none_one (watch_at zs_of start_of tick one.0) one.2 (some_none zs_of start_of tick (length core.names) none one.0 (names_few one.0 one.1)))

    none_at : (leaves_at tick → ⊥) → some_at zs_of start_of tick (length core.names) ≡ None
    none_at none =
        none_some zs_of start_of tick (length core.names)
        (λ k low. none_leaves zs_of tick start_of (inputs_of core rows is many) core.defs (are_watched core rows is many) none k (few k low))

  module _ (span : Span) (domain : domain_of (watching_defs core) ≡ Some span) where
    pub emits : (tick : ℤ) → span.start <ℤ tick → tick ≤ℤ span.end
        → (leaves_at tick → watch_cell core rows tick ≡ Some (pos 1)) × ((leaves_at tick → ⊥) → watch_cell core rows tick ≡ None)
    emits tick low high =
        let at = on_domain core rows is many span tick domain low high in
        (λ left. at ∙ some_one tick left, λ none. at ∙ none_at tick none)

    asked_within : (lo hi tick : ℤ) (n : Option Need) → Spans core lo hi span → ((m : Need) → n ≡ Some m → (m.back ≤ℤ (reach_of core).back) × (m.ahead ≤ℤ (reach_of core).ahead))
        → is_asked n lo hi tick ≡ true → (span.start <ℤ tick) × (tick ≤ℤ span.end)
    asked_within lo hi tick None spans h asked = absurd (cc asked)
    asked_within lo hi tick (Some m) spans h asked =
        let within = h m refl in
        let back = within.0 in
        let ahead = within.1 in
        let start = spans.start in
        let end = spans.end in
        let low = above (lo -ℤ m.back) (hi +ℤ m.ahead) tick asked in
        let high = not_above (lo -ℤ m.back) (hi +ℤ m.ahead) tick asked in
        (omega (arith, ints), omega (arith, ints))

    definition_within : (lo hi tick : ℤ) (k : ℕ) → Spans core lo hi span → asked_for core lo hi (length core.inputs + k) tick ≡ true
        → (span.start <ℤ tick) × (tick ≤ℤ span.end)
    definition_within lo hi tick k spans asked =
        let count = length core.inputs in
        asked_within lo hi tick (get_or (needs_from count core.defs) k None) spans (λ m at. in_reach core k m is at)
        (subst (λ n. is_asked n lo hi tick ≡ true) (need_at-definition count core.defs k) asked)

    pub stays : (lo hi : ℤ) → Spans core lo hi span → EmitsNothing core rows span → QueryStaysWithin (asked_for core lo hi) (inputs_of core rows is many) core.defs
    stays lo hi spans nothing =
        let xs = inputs_of core rows is many in
        let count = count_inputs core rows is many in
        quiet zs_of (asked_for core lo hi) start_of xs core.defs (are_watched core rows is many)
        (subst (λ n. AreClosed (asked_for core lo hi) n core.defs) (sym count) (asked_closed core lo hi is))
        (λ k tick low asked.
        let at = definition_within lo hi tick k spans (subst (λ n. asked_for core lo hi (n + k) tick ≡ true) count asked) in
        some_none zs_of start_of tick (length core.names) (sym (on_domain core rows is many span tick domain at.0 at.1) ∙ nothing tick at.0 at.1) k (names_few k low))

-- the output is asked for itself
pub covers : (core : CoreParts) (lo hi tick : ℤ) → IsCore core → lo <ℤ tick → tick ≤ℤ hi → asked_for core lo hi (emitted_number core) tick ≡ true
covers core lo hi tick is low high =
    let count = length core.inputs in
    let place = length core.names in
    let need = need_at-definition count core.defs place ∙ last-need count place core.defs is.one_emitted in
    subst (λ n. is_asked n lo hi tick ≡ true) (sym need) (lies (lo -ℤ pos 0) (hi +ℤ pos 0) tick (omega (arith, ints)) (omega (arith, ints)))

-- the domain of a watching query has all ticks that the output can depend on, if a span may have them
same_span : (reach : Need) (over : Option Span) (domain span : Span) → over ≡ Some domain → option_map (widened reach) over ≡ Some span → widened reach domain ≡ span
same_span reach over domain span is at = let same = sym (ap (option_map (widened reach)) is) ∙ at in cc same

pub spans : (core : CoreParts) (domain span : Span) → domain_of core.defs ≡ Some domain → domain_of (watching_defs core) ≡ Some span
    → neg_ℤ T ≤ℤ (domain.start -ℤ (reach_of core).back) → (domain.end +ℤ (reach_of core).ahead) ≤ℤ T → Spans core domain.start domain.end span
spans core domain span is at low high =
    let same = same_span (reach_of core) (domain_of core.defs) domain span is (sym (last_domain (before_last core) (emitted_watch core)) ∙ at) in
    let start = ap (λ (s : Span). s.start) same in
    let end = ap (λ (s : Span). s.end) same in
    record { start = omega (arith, ints, clamps); end = omega (arith, ints, clamps) }
