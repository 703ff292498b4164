-- The transitions of a table, one after another.
use Rattle.std.proofs.Common.{◌≡◌, ◌≢◌, ℕ, zero, suc, ◌-◌, List, [], ◌∷◌, ◌++◌, ℤ, Some, None, Result, Ok, Err, IfOk, MatchResult, refl}
use Rattle.std.proofs.Common.{sym, ◌∙◌, append_assoc, arith}
use Rattle.std.proofs.lemmas.List.{append-nil}
use Rattle.jiff_tz.specs.Tzif.{next_at, offset_at, tzif_view}
use Rattle.jiff_tz.specs.TzifReader.{read_tzif}
use Rattle.jiff_tz.specs.declared.info.OffsetInfo.{OffsetInfo}
use Rattle.jiff_tz.specs.declared.tzif.Tzif.{Tzif}
use Rattle.tilt_zones.specs.Order.{IsInOrder}
use Rattle.tilt_zones.specs.Table.{end_of, first_of, next_transitions, start, transition_of, transitions_of, zone_of}
use Rattle.tilt_zones.specs.Zone.{ZoneParts}
use Rattle.tilt_zones.specs.declared.fault.ZoneFault.{ZoneFault}
use Rattle.tilt_zones.specs.declared.fault.ZoneFault.TheVariants.{NotZone, Disordered}
use Rattle.tilt_zones.specs.declared.read.TheConstants.{MOST}
use Rattle.tilt_zones.specs.declared.transition.Transition.{Transition}

-- what is made of a table: its zone, or why it has none
abbrev pub IsZoneOf : Tzif → Result ZoneParts ZoneFault → Type 0
IsZoneOf table r = MatchResult r
    (λ zone. zone ≡ zone_of table)
    (λ fault. (fault ≢ NotZone) × (fault ≡ Disordered → ¬ (IsInOrder (first_of table) (transitions_of table))))

-- before the first one, all are left
pub all_left : (table : Tzif) (found : List Transition) → found ≡ []
    → found ++ next_transitions (MOST - 0) table start ≡ transitions_of table
unfolding transitions_of
all_left table found none = rw none refl

-- with none after them, those that were found are all
pub none_left : (table : Tzif) (n : ℤ) (count : ℕ) (found all : List Transition) → next_at table n ≡ None
    → found ++ next_transitions count table n ≡ all → found ≡ all
unfolding next_transitions
none_left table n zero found all none left = sym (append-nil found) ∙ left
none_left table n (suc count) found all none left =
    sym (append-nil found) ∙ (rw none at left)

pub no_more : (table : Tzif) (n : ℤ) (count : ℕ) (found all : List Transition) → count ≡ 0 → found ++ next_transitions count table n ≡ all
    → found ≡ all
unfolding next_transitions
no_more table n zero found all end left = sym (append-nil found) ∙ left
no_more table n (suc count) found all end left = cc

-- one more was found
pub one_more : (table : Tzif) (n : ℤ) (count rest : ℕ) (found more all : List Transition) (next : ℤ × OffsetInfo) → count ≡ suc rest
    → next_at table n ≡ Some next → more ≡ found ++ transition_of next ∷ [] → found ++ next_transitions count table n ≡ all
    → more ++ next_transitions rest table next.0 ≡ all
unfolding next_transitions
one_more table n zero rest found more all next count_is is pushed left = cc
one_more table n (suc count) rest found more all next count_is is pushed left =
    let same : count ≡ rest = omega arith in
    let opened : found ++ (transition_of next ∷ next_transitions count table next.0) ≡ all = rw is at left in
    rw (pushed, append_assoc, ← same) opened

-- the offset before all transitions
pub first_is : (table : Tzif) → (offset_at table start).seconds ≡ first_of table
unfolding first_of
first_is table = refl

-- the zone of a table, from its parts
pub zone_made : (r : Result ZoneParts ZoneFault) (first end : ℤ) (ts : List Transition) (table : Tzif)
    → MatchResult r (λ zone. IsInOrder first ts × (zone ≡ record { first = first; transitions = ts; end = end })) (λ fault. (¬ (IsInOrder first ts)) × (fault ≡ Disordered))
    → first ≡ first_of table → ts ≡ transitions_of table → end ≡ end_of table ts → IsZoneOf table r
zone_made (Ok zone) first end ts table made first_same all end_same =
    made.1 ∙ (rw (← all, first_same, end_same) refl)
zone_made (Err fault) first end ts table made first_same all end_same =
    (λ not_zone. cc (made.1, not_zone), λ disordered order. made.0 (rw (first_same, all) order))

-- what is read from bytes whose table this is
pub zone_read : (r : Result ZoneParts ZoneFault) (bytes : List ℕ) (table : Tzif) → read_tzif bytes ≡ Ok (tzif_view table)
    → IsZoneOf table r → IfOk r (λ zone. (t : Tzif) × (read_tzif bytes ≡ Ok (tzif_view t)) × (zone ≡ zone_of t))
zone_read (Ok zone) bytes table read made = (table, read, made)
zone_read (Err fault) bytes table read made = tt

pub disorder_read : (r : Result ZoneParts ZoneFault) (bytes : List ℕ) (table : Tzif) → read_tzif bytes ≡ Ok (tzif_view table)
    → IsZoneOf table r → r ≡ Err Disordered
    → (t : Tzif) × (read_tzif bytes ≡ Ok (tzif_view t)) × (¬ (IsInOrder (first_of t) (transitions_of t)))
disorder_read (Ok zone) bytes table read made is = cc
disorder_read (Err fault) bytes table read made is = (table, read, made.1 (cc))
