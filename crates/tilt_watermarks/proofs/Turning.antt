-- What an input holds after a turn is allowed.
use Rattle.std.proofs.Common.{◌≡◌, ℕ, ℤ, pos, ◌-ℤ◌, ◌≤ℤ◌, neg_ℤ, Bool, true, false, if◌then◌else◌, int_lt, int_le, List, [], ◌∷◌, map, Option, Some, None}
use Rattle.std.proofs.Common.{refl, sym, ap, subst, arith}
use Rattle.std.proofs.lemmas.Bool.{and_from, not-false}
use Rattle.std.proofs.lemmas.Int.{ints, clamps}
use Rattle.std.proofs.lemmas.Option.{same_Some}
use Rattle.std.specs.Int.{int_max}
use Rattle.std.specs.List.{AllByRecursion}
use Rattle.tilt_base.specs.declared.limits.TheConstants.{T}
use Rattle.tilt_feed.specs.Events.{in_range, is_time, update_fault, watermark_after}
use Rattle.tilt_feed.specs.declared.edge.Edge.{Edge}
use Rattle.tilt_feed.specs.declared.update.Update.{Update}
use Rattle.tilt_feed.specs.declared.update.Update.TheVariants.{Row, Value, NoValue, KnownUpTo}
use Rattle.tilt_watermarks.proofs.Fitting.{due-left, fits-at, fits-left, moved-append, moved-watermark, next-high, next-range}
use Rattle.tilt_watermarks.proofs.Going.{Allowed, handed-allowed}
use Rattle.tilt_watermarks.specs.Held.{Waiting, due, entered, fits, given_by, left, less, moved_all, rising, turned, with_update}
use Rattle.tilt_watermarks.specs.Laws.{IsFit}
use Rattle.tilt_watermarks.specs.Steps.{closed, judged_by, overlaps, raised}

-- after it became known up to an end
rising-fits-by : (b : Bool) (tick : ℤ) (edge : Edge) (held : List Update) → int_lt edge.watermark tick ≡ b → fits edge.watermark held ≡ true → due (Some tick) held ≡ []
    → fits (moved_all (if b then KnownUpTo tick ∷ [] else []) edge).watermark held ≡ true
rising-fits-by false tick edge held is fit none = fit
rising-fits-by true tick edge held is fit none = fits-at tick edge.watermark held fit none

pub rising-fits : (end : Option ℤ) (edge : Edge) (held : List Update) → fits edge.watermark held ≡ true → due end held ≡ []
    → fits (moved_all (rising end edge) edge).watermark held ≡ true
rising-fits None edge held fit none = fit
rising-fits (Some tick) edge held fit none = rising-fits-by (int_lt edge.watermark tick) tick edge held refl fit none

pub due-fits : (end : Option ℤ) (input : Waiting) → fits input.edge.watermark input.held ≡ true
    → fits (moved_all (due end input.held) input.edge).watermark (left end input.held) ≡ true
due-fits end input fit =
    subst (λ (w : ℤ). fits w (left end input.held) ≡ true) (sym (moved-watermark (due end input.held) input.edge)) (fits-left end input.edge.watermark input.held fit)

pub raised-fits : (end : Option ℤ) (input : Waiting) → fits input.edge.watermark input.held ≡ true → fits (raised end input).edge.watermark (raised end input).held ≡ true
raised-fits end input fit =
    let edge = moved_all (due end input.held) input.edge in
    let now = rising-fits end edge (left end input.held) (due-fits end input fit) (due-left end input.held) in
    subst (λ (e : Edge). fits e.watermark (left end input.held) ≡ true) (sym (moved-append (due end input.held) (rising end edge) input.edge)) now

pub raised-fit : (lateness : Option ℕ) (end : Option ℤ) (input : Waiting) → IsFit lateness input → IsFit lateness (raised end input)
raised-fit lateness end input fit = record {
  fits = raised-fits end input fit.fits;
  none = λ is. ap (left end) (fit.none is);
}

pub all-raised-fit : (lateness : Option ℕ) (end : Option ℤ) (inputs : List Waiting) → AllByRecursion (IsFit lateness) inputs → AllByRecursion (IsFit lateness) (map (raised end) inputs)
all-raised-fit lateness end [] fit = tt
all-raised-fit lateness end (input ∷ inputs) fit = (raised-fit lateness end input fit.0, all-raised-fit lateness end inputs fit.1)

pub all-closed-fit : (lateness : Option ℕ) (inputs : List Waiting) → AllByRecursion (IsFit lateness) inputs → AllByRecursion (IsFit lateness) (map closed inputs)
all-closed-fit lateness [] fit = tt
all-closed-fit lateness (input ∷ inputs) fit = (record { fits = fit.0.fits; none = fit.0.none }, all-closed-fit lateness inputs fit.1)

-- ticks that are times
pub less-time : (ticks : ℕ) (tick : ℤ) → tick ≤ℤ T → is_time (less ticks tick) ≡ true
less-time ticks tick high =
    let below : int_le (neg_ℤ T) (int_max (neg_ℤ T) (tick -ℤ pos ticks)) ≡ true = grind (arith, ints) in
    let above : int_le (int_max (neg_ℤ T) (tick -ℤ pos ticks)) T ≡ true = grind (arith, ints) in
    and_from (int_le (neg_ℤ T) (less ticks tick)) (int_le (less ticks tick) T) below above

pub given-time : (ticks : ℕ) (update : Update) → in_range update ≡ true → watermark_after update ≤ℤ T → is_time (given_by (Some ticks) update) ≡ true
given-time ticks (Row start end value) range high = less-time ticks end high
given-time ticks (Value start value) range high = less-time ticks (watermark_after (Value start value)) high
given-time ticks (NoValue start) range high = less-time ticks (watermark_after (NoValue start)) high
given-time ticks (KnownUpTo tick) range high = range

less-high : (ticks : ℕ) (tick : ℤ) → tick ≤ℤ T → less ticks tick ≤ℤ T
less-high ticks tick high = omega (arith, ints, clamps)

pub given-high : (lateness : Option ℕ) (update : Update) → watermark_after update ≤ℤ T → given_by lateness update ≤ℤ T
given-high None (Row start end value) high = high
given-high None (Value start value) high = high
given-high None (NoValue start) high = high
given-high None (KnownUpTo tick) high = high
given-high (Some ticks) (Row start end value) high = less-high ticks end high
given-high (Some ticks) (Value start value) high = less-high ticks (watermark_after (Value start value)) high
given-high (Some ticks) (NoValue start) high = less-high ticks (watermark_after (NoValue start)) high
given-high (Some ticks) (KnownUpTo tick) high = high

-- an update that is allowed and fits
pub entered-allowed : (lateness : Option ℕ) (update : Update) (input : Waiting) → IsFit lateness input → overlaps lateness input update ≡ false
    → update_fault false (judged_by lateness input.edge) update ≡ None → Allowed input.edge (entered lateness update input).handed
entered-allowed None update input fit fits-in rule = (rule, tt)
entered-allowed (Some ticks) update input fit fits-in rule =
    let now : Waiting = record { edge = input.edge; held = with_update update input.held } in
    let time = given-time ticks update (next-range input.edge.watermark update rule) (next-high input.edge.watermark update rule) in
    handed-allowed (Some (given_by (Some ticks) update)) now (λ tick is. subst (λ (t : ℤ). is_time t ≡ true) (same_Some (given_by (Some ticks) update) tick is) time)
    (not-false (fits input.edge.watermark (with_update update input.held)) fits-in)

pub entered-fit : (lateness : Option ℕ) (update : Update) (input : Waiting) → IsFit lateness input → overlaps lateness input update ≡ false
    → IsFit lateness (turned (entered lateness update input) input.edge)
entered-fit None update input fit fits-in = record {
  fits = subst (λ (held : List Update). fits (watermark_after update) held ≡ true) (sym (fit.none refl)) refl;
  none = fit.none;
}
entered-fit (Some ticks) update input fit fits-in =
    let now : Waiting = record { edge = input.edge; held = with_update update input.held } in
    record {
      fits = raised-fits (Some (given_by (Some ticks) update)) now (not-false (fits input.edge.watermark (with_update update input.held)) fits-in);
      none = λ is. absurd (cc is);
    }
