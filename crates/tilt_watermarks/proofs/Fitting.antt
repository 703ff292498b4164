-- Updates that are allowed one after another from a watermark.
use Rattle.std.proofs.Common.{◌≡◌, ◌≤◌, ◌<◌, ℕ, zero, suc, ℤ, ◌≤ℤ◌, ◌<ℤ◌, Bool, true, false, ◌&&◌, if◌then◌else◌, int_lt, int_le, List, [], ◌∷◌, ◌++◌, length, take, drop, insert, slice_get, get_or, Option, Some, None, is_none}
use Rattle.std.proofs.Common.{refl, ap, subst, ◌∙◌, inl, inr, arith}
use Rattle.std.proofs.Math.Bool.{and-true}
use Rattle.std.specs.List.Sorted.{IsPartitionPoint, IsPartitionedBy}
use Rattle.std.proofs.lemmas.Bool.{and_parts, cases_Bool}
use Rattle.std.proofs.lemmas.Int.{ints, clamps}
use Rattle.std.proofs.lemmas.Option.{same_Some}
use Rattle.tilt_base.proofs.Comparisons.{lt_true}
use Rattle.tilt_base.specs.declared.limits.TheConstants.{T}
use Rattle.tilt_feed.proofs.Following.{none-is}
use Rattle.tilt_feed.proofs.Updates.{allowed-of, step-of, time-high}
use Rattle.tilt_feed.specs.Events.{comes_at, continues, has_ticks, in_range, update_fault, watermark_after}
use Rattle.tilt_feed.specs.declared.edge.Edge.{Edge}
use Rattle.tilt_feed.specs.declared.update.Update.{Update}
use Rattle.tilt_feed.specs.declared.update.Update.TheVariants.{Row, Value, NoValue, KnownUpTo}
use Rattle.tilt_watermarks.specs.Held.{bare, due, fits, inserted, is_due, last_watermark, left, moved, moved_all, start_of}

-- whether an update is allowed after a watermark
abbrev pub IsNext : ℤ → Update → Type 0
IsNext watermark update = update_fault false (bare watermark) update ≡ None

-- the first one of those that fit, and the others
pub fits-parts : (watermark : ℤ) (update : Update) (updates : List Update) → fits watermark (update ∷ updates) ≡ true
    → IsNext watermark update × (fits (watermark_after update) updates ≡ true)
fits-parts watermark update updates is =
    let both = and_parts (is_none (update_fault false (bare watermark) update)) (fits (watermark_after update) updates) is in
    (none-is (update_fault false (bare watermark) update) both.0, both.1)

pub fits-cons : (watermark : ℤ) (update : Update) (updates : List Update) → IsNext watermark update → fits (watermark_after update) updates ≡ true
    → fits watermark (update ∷ updates) ≡ true
fits-cons watermark update updates next is = rw (next, is) refl

-- an update that is allowed after a watermark
comes-bare : (watermark : ℤ) (update : Update) → comes_at (bare watermark) update ≡ start_of update
comes-bare watermark (Row start end value) = refl
comes-bare watermark (Value start value) = refl
comes-bare watermark (NoValue start) = refl
comes-bare watermark (KnownUpTo tick) = refl

pub next-range : (watermark : ℤ) (update : Update) → IsNext watermark update → in_range update ≡ true
next-range watermark update next = (allowed-of false (bare watermark) update next).1.range

pub next-start : (watermark : ℤ) (update : Update) → IsNext watermark update → watermark ≤ℤ start_of update
next-start watermark update next = subst (λ (t : ℤ). watermark ≤ℤ t) (comes-bare watermark update) (allowed-of false (bare watermark) update next).1.on

pub next-rises : (watermark : ℤ) (update : Update) → IsNext watermark update → watermark ≤ℤ watermark_after update
next-rises watermark update next = (step-of (bare watermark) update (allowed-of false (bare watermark) update next).1).low

pub next-high : (watermark : ℤ) (update : Update) → IsNext watermark update → watermark_after update ≤ℤ T
next-high watermark update next = (step-of (bare watermark) update (allowed-of false (bare watermark) update next).1).high

-- it starts at the watermark after it, or below it
pub start-after : (update : Update) → in_range update ≡ true → has_ticks update ≡ true → start_of update ≤ℤ watermark_after update
start-after (Row start end value) range ticks = let some = lt_true start end ticks in omega (arith, ints)
start-after (Value start value) range ticks = omega (arith, ints)
start-after (NoValue start) range ticks = let high = time-high start range in omega (arith, ints, clamps)
start-after (KnownUpTo tick) range ticks = omega (arith, ints)

pub next-after : (watermark : ℤ) (update : Update) → IsNext watermark update → start_of update ≤ℤ watermark_after update
next-after watermark update next =
    let allowed = (allowed-of false (bare watermark) update next).1 in
    start-after update allowed.range allowed.ticks

-- what is allowed by its times, and where it comes
allowed-by : (edge : Edge) (update : Update) → in_range update ≡ true → int_lt (comes_at edge update) edge.watermark ≡ false → has_ticks update ≡ true
    → update_fault false edge update ≡ None
allowed-by edge update range late ticks = rw (range, late, ticks) refl

-- it is allowed after another watermark that isn't above its start
pub next-at : (watermark end : ℤ) (update : Update) → IsNext watermark update → end ≤ℤ start_of update → IsNext end update
next-at watermark end update next low =
    let allowed = (allowed-of false (bare watermark) update next).1 in
    let late : int_lt (start_of update) end ≡ false = grind (arith, ints) in
    allowed-by (bare end) update allowed.range (ap (λ (t : ℤ). int_lt t end) (comes-bare end update) ∙ late) allowed.ticks

-- and at an edge with this watermark, whatever row is open
row-late : (watermark start end : ℤ) (joins : Bool) → watermark ≤ℤ start → start <ℤ end → int_lt (if joins then end else start) watermark ≡ false
row-late watermark start end true on some = grind (arith, ints)
row-late watermark start end false on some = grind (arith, ints)

not-late : (watermark start : ℤ) → watermark ≤ℤ start → int_lt start watermark ≡ false
not-late watermark start on = grind (arith, ints)

edge-late : (edge : Edge) (update : Update) → edge.watermark ≤ℤ start_of update → has_ticks update ≡ true → int_lt (comes_at edge update) edge.watermark ≡ false
edge-late edge (Row start end value) on ticks = row-late edge.watermark start end (continues edge.open_row start value) on (lt_true start end ticks)
edge-late edge (Value start value) on ticks = not-late edge.watermark start on
edge-late edge (NoValue start) on ticks = not-late edge.watermark start on
edge-late edge (KnownUpTo tick) on ticks = not-late edge.watermark tick on

pub next-allowed : (edge : Edge) (update : Update) → IsNext edge.watermark update → update_fault false edge update ≡ None
next-allowed edge update next =
    let allowed = (allowed-of false (bare edge.watermark) update next).1 in
    allowed-by edge update allowed.range (edge-late edge update (next-start edge.watermark update next) allowed.ticks) allowed.ticks

-- those that are due, and those that are left
pub due-left : (end : Option ℤ) (updates : List Update) → due end (left end updates) ≡ []
due-left end [] = refl
due-left end (update ∷ updates) =
    elim (cases_Bool (is_due end update)) [
      | inl is ↦ rw is (due-left end updates)
      | inr none ↦ rw none (rw none refl)
    ]

pub due-none : (end : Option ℤ) (updates : List Update) → due end updates ≡ [] → left end updates ≡ updates
due-none end [] is = refl
due-none end (update ∷ updates) is =
    elim (cases_Bool (is_due end update)) [
      | inl here ↦ absurd (let has = rw here at is in cc has)
      | inr none ↦ rw none refl
    ]

pub due-all : (end : Option ℤ) (updates : List Update) → due end updates ++ left end updates ≡ updates
due-all end [] = refl
due-all end (update ∷ updates) =
    elim (cases_Bool (is_due end update)) [
      | inl is ↦ rw is (ap (λ (list : List Update). update ∷ list) (due-all end updates))
      | inr none ↦ rw none refl
    ]

pub fits-left : (end : Option ℤ) (watermark : ℤ) (updates : List Update) → fits watermark updates ≡ true
    → fits (last_watermark watermark (due end updates)) (left end updates) ≡ true
fits-left end watermark [] is = is
fits-left end watermark (update ∷ updates) is =
    elim (cases_Bool (is_due end update)) [
      | inl here ↦ rw here (fits-left end (watermark_after update) updates (fits-parts watermark update updates is).1)
      | inr none ↦ rw none is
    ]

pub moved-watermark : (updates : List Update) (edge : Edge) → (moved_all updates edge).watermark ≡ last_watermark edge.watermark updates
moved-watermark [] edge = refl
moved-watermark (update ∷ updates) edge = moved-watermark updates (moved update edge)

-- if none is due below an end, they fit after the end
pub fits-at : (end watermark : ℤ) (updates : List Update) → fits watermark updates ≡ true → due (Some end) updates ≡ [] → fits end updates ≡ true
fits-at end watermark [] is none = refl
fits-at end watermark (update ∷ updates) is none =
    let parts = fits-parts watermark update updates is in
    elim (cases_Bool (int_lt (start_of update) end)) [
      | inl here ↦ absurd (let has = rw here at none in cc has)
      | inr low ↦ (let on : end ≤ℤ start_of update = grind (arith, ints) in
          fits-cons end update updates (next-at watermark end update parts.0 on) parts.1)
    ]

-- a place among those that fit
pub fits-take : (watermark : ℤ) (updates : List Update) (place : ℕ) → fits watermark updates ≡ true
    → fits (last_watermark watermark (take place updates)) (drop place updates) ≡ true
fits-take watermark [] zero is = is
fits-take watermark [] (suc place) is = is
fits-take watermark (update ∷ updates) zero is = is
fits-take watermark (update ∷ updates) (suc place) is = fits-take (watermark_after update) updates place (fits-parts watermark update updates is).1

-- the watermark after the ones before a place is that after the last one of them
pub last-at : (watermark : ℤ) (updates : List Update) (place : ℕ) (update : Update) → slice_get updates place ≡ Some update
    → last_watermark watermark (take (suc place) updates) ≡ watermark_after update
last-at watermark [] place update is = absurd (cc is)
last-at watermark (first ∷ updates) zero update is = ap watermark_after (same_Some first update is)
last-at watermark (first ∷ updates) (suc place) update is = last-at (watermark_after first) updates place update is

-- each is in range
pub fits-range : (watermark : ℤ) (updates : List Update) (place : ℕ) (update : Update) → fits watermark updates ≡ true → slice_get updates place ≡ Some update
    → in_range update ≡ true
fits-range watermark [] place update is at = absurd (cc at)
fits-range watermark (first ∷ updates) zero update is at =
    subst (λ (u : Update). in_range u ≡ true) (same_Some first update at) (next-range watermark first (fits-parts watermark first updates is).0)
fits-range watermark (first ∷ updates) (suc place) update is at = fits-range (watermark_after first) updates place update (fits-parts watermark first updates is).1 at

-- one more fits at a place if it fits between its neighbours
pub fits-insert : (watermark : ℤ) (updates : List Update) (place : ℕ) (update : Update) → fits watermark updates ≡ true
    → fits watermark (insert updates place update) ≡ fits (last_watermark watermark (take place updates)) (update ∷ drop place updates)
fits-insert watermark [] zero update is = refl
fits-insert watermark [] (suc place) update is = refl
fits-insert watermark (first ∷ updates) zero update is = refl
fits-insert watermark (first ∷ updates) (suc place) update is =
    let parts = fits-parts watermark first updates is in
    rw (parts.0) (fits-insert (watermark_after first) updates place update parts.1)

-- and what comes after it fits if the next one does
pub fits-next : (watermark end : ℤ) (update : Update) (updates : List Update) → fits watermark (update ∷ updates) ≡ true
    → fits end (update ∷ updates) ≡ is_none (update_fault false (bare end) update)
fits-next watermark end update updates is =
    rw ((fits-parts watermark update updates is).1) (and-true (is_none (update_fault false (bare end) update)))

-- the starts are in order
abbrev pub StartsBy : ℤ → Update → Bool
StartsBy start update = int_le (start_of update) start

-- a later one doesn't start below the watermark, or below one before it
starts-above : (watermark : ℤ) (updates : List Update) (i : ℕ) (d : Update) → fits watermark updates ≡ true → i < length updates
    → watermark ≤ℤ start_of (get_or updates i d)
starts-above watermark [] i d is within = absurd (omega arith)
starts-above watermark (update ∷ updates) zero d is within = next-start watermark update (fits-parts watermark update updates is).0
starts-above watermark (update ∷ updates) (suc i) d is within =
    let parts = fits-parts watermark update updates is in
    let more = starts-above (watermark_after update) updates i d parts.1 (omega arith) in
    let rises = next-rises watermark update parts.0 in
    omega (arith, ints, more, rises)

starts-rise : (watermark : ℤ) (updates : List Update) (i j : ℕ) (d : Update) → fits watermark updates ≡ true → i ≤ j → j < length updates
    → start_of (get_or updates i d) ≤ℤ start_of (get_or updates j d)
starts-rise watermark [] i j d is le within = absurd (omega arith)
starts-rise watermark (update ∷ updates) zero zero d is le within = omega (arith, ints)
starts-rise watermark (update ∷ updates) (suc i) zero d is le within = absurd (omega arith)
starts-rise watermark (update ∷ updates) zero (suc j) d is le within =
    let parts = fits-parts watermark update updates is in
    let more = starts-above (watermark_after update) updates j d parts.1 (omega arith) in
    let after = next-after watermark update parts.0 in
    omega (arith, ints, more, after)
starts-rise watermark (update ∷ updates) (suc i) (suc j) d is le within =
    starts-rise (watermark_after update) updates i j d (fits-parts watermark update updates is).1 (omega arith) (omega arith)

pub starts-parted : (watermark : ℤ) (updates : List Update) (start : ℤ) → fits watermark updates ≡ true → IsPartitionedBy (StartsBy start) updates
starts-parted watermark updates start is = λ i j d le there below.
    let rise = starts-rise watermark updates i j d is le there in
    grind (arith, ints)

-- a search that parts them finds the place of an update
pub place-found : (updates : List Update) (update : Update) (i : ℕ) → i ≤ length updates
    → IsPartitionPoint (λ (u : Update). StartsBy (start_of update) u ≡ true) (λ (u : Update). StartsBy (start_of update) u ≡ false) updates i
    → inserted update updates ≡ insert updates i update
place-found [] update zero within point = refl
place-found [] update (suc i) within point = absurd (omega arith)
place-found (first ∷ updates) update zero within point =
    let out = point.1 0 first (omega arith) (omega arith) in
    let above : int_lt (start_of update) (start_of first) ≡ true = grind (arith, ints) in
    rw above refl
place-found (first ∷ updates) update (suc i) within point =
    let in_ = point.0 0 first (omega arith) (omega arith) in
    let below : int_lt (start_of update) (start_of first) ≡ false = grind (arith, ints) in
    rw below (ap (λ (list : List Update). first ∷ list)
    (place-found updates update i (omega arith) ((λ k d l h. point.0 (suc k) d (omega arith) (omega arith)), (λ k d l h. point.1 (suc k) d (omega arith) (omega arith)))))

-- the updates of a turn are moved over one after another
pub moved-append : (first second : List Update) (edge : Edge) → moved_all (first ++ second) edge ≡ moved_all second (moved_all first edge)
moved-append [] second edge = refl
moved-append (update ∷ first) second edge = moved-append first second (moved update edge)

-- whether one more fits at a place: it has to fit after the ones before it, and the next one after it
drop-at : (updates : List Update) (place : ℕ) (next : Update) → slice_get updates place ≡ Some next → drop place updates ≡ next ∷ drop (suc place) updates
drop-at [] place next is = absurd (cc is)
drop-at (first ∷ updates) zero next is = ap (λ (u : Update). u ∷ updates) (same_Some first next is)
drop-at (first ∷ updates) (suc place) next is = drop-at updates place next is

drop-past : (updates : List Update) (place : ℕ) → length updates ≤ place → drop place updates ≡ []
drop-past [] zero past = refl
drop-past [] (suc place) past = refl
drop-past (first ∷ updates) zero past = absurd (omega arith)
drop-past (first ∷ updates) (suc place) past = drop-past updates place (omega arith)

fits-first : (first : Bool) (watermark : ℤ) (update : Update) (updates : List Update) → is_none (update_fault false (bare watermark) update) ≡ first
    → fits watermark (update ∷ updates) ≡ first && fits (watermark_after update) updates
fits-first first watermark update updates is = ap (λ (b : Bool). b && fits (watermark_after update) updates) is

pub takes-not : (watermark : ℤ) (updates : List Update) (place : ℕ) (update : Update) → fits watermark updates ≡ true
    → is_none (update_fault false (bare (last_watermark watermark (take place updates))) update) ≡ false → fits watermark (insert updates place update) ≡ false
takes-not watermark updates place update is first =
    fits-insert watermark updates place update is ∙ fits-first false (last_watermark watermark (take place updates)) update (drop place updates) first

pub takes-last : (watermark : ℤ) (updates : List Update) (place : ℕ) (update : Update) → fits watermark updates ≡ true
    → is_none (update_fault false (bare (last_watermark watermark (take place updates))) update) ≡ true → length updates ≤ place
    → fits watermark (insert updates place update) ≡ true
takes-last watermark updates place update is first past =
    fits-insert watermark updates place update is ∙ fits-first true (last_watermark watermark (take place updates)) update (drop place updates) first
    ∙ ap (fits (watermark_after update)) (drop-past updates place past)

pub takes-between : (watermark : ℤ) (updates : List Update) (place : ℕ) (update next : Update) → fits watermark updates ≡ true
    → is_none (update_fault false (bare (last_watermark watermark (take place updates))) update) ≡ true → slice_get updates place ≡ Some next
    → fits watermark (insert updates place update) ≡ is_none (update_fault false (bare (watermark_after update)) next)
takes-between watermark updates place update next is first at =
    let here = drop-at updates place next at in
    let rest = subst (λ (list : List Update). fits (last_watermark watermark (take place updates)) list ≡ true) here (fits-take watermark updates place is) in
    fits-insert watermark updates place update is ∙ fits-first true (last_watermark watermark (take place updates)) update (drop place updates) first
    ∙ ap (fits (watermark_after update)) here
    ∙ fits-next (last_watermark watermark (take place updates)) (watermark_after update) next (drop (suc place) updates) rest
