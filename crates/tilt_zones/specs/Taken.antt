-- Which moment a local time is taken for, also one that clocks skip. With the first fold that is the moment by the offset before the change
-- of the clocks, with the second fold the one by the offset after it. RFC 5545 and PEP 495 of Python say the same.
use Rattle.std.specs.Prelude.{◌≡◌, ◌-◌, ◌^◌, Bool, true, false, ◌&&◌, if◌then◌else◌, List, [], ◌∷◌, ℤ, pos, negsuc, ◌+ℤ◌, ◌-ℤ◌, ◌<ℤ◌, int_le, int_lt}
use Rattle.std.specs.Prelude.{Option, Some, None, Result, Ok, Err}
use Rattle.std.specs.Ordering.{int_eq}
use Rattle.tilt_zones.specs.declared.fault.LocalFault.{LocalFault}
use Rattle.tilt_zones.specs.declared.fault.LocalFault.TheVariants.{Skipped, Doubled, Beyond}
use Rattle.tilt_zones.specs.declared.moments.Fold.{Fold}
use Rattle.tilt_zones.specs.declared.moments.Fold.TheVariants.{First, Second}
use Rattle.tilt_zones.specs.declared.transition.Transition.{Transition}
use Rattle.tilt_zones.specs.Zone.{ZoneParts, local_at, offset_at}

-- of the local times that clocks show by the offsets before and after a change: the later one with the first fold, else the earlier one
abbrev pub edge : Fold → ℤ → ℤ → ℤ
edge First old new = if int_lt old new then new else old
edge Second old new = if int_lt old new then old else new

-- the offset for a local time: up to the edge of a change, the one before it
abbrev pub offset_for : Fold → ℤ → List Transition → ℤ → ℤ
offset_for fold offset [] local = offset
offset_for fold offset (t ∷ ts) local =
    if int_lt local (edge fold (t.moment +ℤ offset) (t.moment +ℤ t.offset)) then offset else offset_for fold t.offset ts local

-- the moment by that offset
abbrev pub moment_by : ZoneParts → Fold → ℤ → ℤ
moment_by zone fold local = local -ℤ offset_for fold zone.first zone.transitions local

-- whether clocks show a local time at a moment
abbrev pub is_shown : ZoneParts → ℤ → ℤ → Bool
is_shown zone local moment = int_eq (local_at zone moment) local

-- of the moments by the two offsets, the one of a fold
abbrev pub by_fold : Fold → ℤ → ℤ → ℤ
by_fold First before after = before
by_fold Second before after = after

-- the moment that is meant, by whether clocks show the local time at the moments by the two offsets: at none if they skip it
abbrev pub meant : Bool → Bool → Option Fold → ℤ → ℤ → Result ℤ LocalFault
meant true false fold before after = Ok before
meant true true None before after = if int_eq before after then Ok before else Err Doubled
meant true true (Some fold) before after = Ok (by_fold fold before after)
meant false shown None before after = Err Skipped
meant false shown (Some fold) before after = Ok (by_fold fold before after)

-- a moment of 64 bits before the end of the table
abbrev pub known : ℤ → Result ℤ LocalFault → Result ℤ LocalFault
known end (Err fault) = Err fault
known end (Ok moment) =
    if int_le (negsuc (2 ^ 63 - 1)) moment && int_le moment (pos (2 ^ 63 - 1)) && int_lt moment end then Ok moment else Err Beyond

-- the moment of a local time
unfoldable pub moment_taken : ZoneParts → ℤ → Option Fold → Result ℤ LocalFault
moment_taken zone local fold =
    let before = moment_by zone First local in
    let after = moment_by zone Second local in
    known zone.end (meant (is_shown zone local before) (is_shown zone local after) fold before after)

-- clocks are set past a local time at a moment: just before, they show an earlier one, and then a later one
abbrev pub IsPassedAt : ZoneParts → ℤ → ℤ → Type 0
IsPassedAt zone local change = (local_at zone (change -ℤ pos 1) <ℤ local) × (local <ℤ local_at zone change)

-- a moment is by the offset before such a change, or by the one after it
abbrev pub IsByOffset : ZoneParts → ℤ → Fold → ℤ → Type 0
IsByOffset zone local First moment = (change : ℤ) × IsPassedAt zone local change × (moment ≡ local -ℤ offset_at zone (change -ℤ pos 1))
IsByOffset zone local Second moment = (change : ℤ) × IsPassedAt zone local change × (moment ≡ local -ℤ offset_at zone change)

-- so is the moment of a local time that clocks skip; without a fold it has none
abbrev pub IsOfSkipped : ZoneParts → ℤ → Option Fold → ℤ → Type 0
IsOfSkipped zone local None moment = ⊥
IsOfSkipped zone local (Some fold) moment = IsByOffset zone local fold moment
