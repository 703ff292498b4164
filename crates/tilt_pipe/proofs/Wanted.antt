-- What the next turns of loops want of a buffer, what is let go of it, and what the rings hold, place by place.
use Rattle.std.proofs.Common.{◌≡◌, ◌<◌, ◌≤◌, ℕ, zero, suc, ◌+◌, ◌-◌, ◌==◌, ℤ, pos, ◌+ℤ◌, ◌≤ℤ◌, int_lt, Bool, true, false, ◌&&◌, ◌||◌, if◌then◌else◌, List, [], ◌∷◌, length, drop}
use Rattle.std.proofs.Common.{slice_get, slice_set, Option, Some, None, refl, sym, ap, ◌∙◌, subst, arith, Contains}
use Rattle.std.proofs.lemmas.Int.{ints, clamps}
use Rattle.std.proofs.lemmas.Option.{same_Some}
use Rattle.std.proofs.Math.Bool.{or-true}
use Rattle.std.proofs.lemmas.Bool.{eq-eqb}
use Rattle.tilt_base.specs.Grid.{IsGrid, ceil}
use Rattle.tilt_base.proofs.GridPoints.{ceil-IsCeil}
use Rattle.tilt_code.specs.Code.{LoopParts, CodeParts}
use Rattle.circular_buffer.proofs.Places.{slice_get-drop}
use Rattle.tilt_pipe.proofs.Works.{work-is}
use Rattle.tilt_pipe.specs.Made.{Work, Stage, reads_buffer, is_used_by, is_used, works_of}
use Rattle.tilt_pipe.specs.Positions.{made_by, stages_at}
use Rattle.tilt_pipe.specs.Reads.{body_reads, earlier, first_tick, turn_point}
use Rattle.tilt_pipe.specs.Rings.{position, is_at_work, next_read, wanted, let_go, kept_from, rings_of}
use Rattle.tilt_pipe.specs.Trimmed.{IsNotLater}
use Rattle.tilt_pipe.specs.declared.read.Read.{Read}
use Rattle.tilt_stream.proofs.Places.{ended-within, ended-rises}
use Rattle.tilt_stream.specs.Snap.{Snapshot}

pub not_later-same : (a : Option ℤ) → IsNotLater a a
not_later-same None = tt
not_later-same (Some a) = omega (arith, ints)

-- what isn't later than a tick is a tick
pub not_later-tick : (a : Option ℤ) (b : ℤ) → IsNotLater a (Some b) → (tick : ℤ) × (a ≡ Some tick) × (tick ≤ℤ b)
not_later-tick None b h = absurd h
not_later-tick (Some a) b h = (a, refl, h)

-- the earlier of two ticks
pub earlier-left : (a b c : Option ℤ) → IsNotLater a c → IsNotLater (earlier a b) c
earlier-left a b None h = tt
earlier-left None b (Some c) h = absurd h
earlier-left (Some a) None (Some c) h = h
earlier-left (Some a) (Some b) (Some c) h = omega (arith, ints, clamps)

pub earlier-right : (a b c : Option ℤ) → IsNotLater b c → IsNotLater (earlier a b) c
earlier-right a b None h = tt
earlier-right None b (Some c) h = h
earlier-right (Some a) None (Some c) h = absurd h
earlier-right (Some a) (Some b) (Some c) h = omega (arith, ints, clamps)

earlier-rises : (a b c d : Option ℤ) → IsNotLater a b → IsNotLater c d → IsNotLater (earlier a c) (earlier b d)
earlier-rises a None c None h k = tt
earlier-rises a None c (Some d) h k = earlier-right a c (Some d) k
earlier-rises a (Some b) c None h k = earlier-left a c (Some b) h
earlier-rises None (Some b) c (Some d) h k = absurd h
earlier-rises (Some a) (Some b) None (Some d) h k = absurd k
earlier-rises (Some a) (Some b) (Some c) (Some d) h k = omega (arith, ints, clamps)

-- the first tick that some reads want isn't later than what any of them wants
pub first_tick-within : (buffer : ℕ) (point : ℤ) (reads : List Read) (r : Read) → Contains reads r → r.buffer ≡ buffer
    → IsNotLater (first_tick buffer point reads) (Some (point +ℤ r.first))
first_tick-within buffer point [] r among is = absurd (omega (arith, among.1))
first_tick-within buffer point (x ∷ reads) r (zero, within, at) is =
    let same : x ≡ r = at in
    let test : (x.buffer == buffer) ≡ true = eq-eqb x.buffer buffer (ap (λ (y : Read). y.buffer) same ∙ is) in
    let low : IsNotLater (Some (point +ℤ x.first)) (Some (point +ℤ r.first)) =
    subst (λ (y : Read). IsNotLater (Some (point +ℤ x.first)) (Some (point +ℤ y.first))) same (omega (arith, ints)) in
    rw test (earlier-left (Some (point +ℤ x.first)) (first_tick buffer point reads) (Some (point +ℤ r.first)) low)
first_tick-within buffer point (x ∷ reads) r (suc k, within, at) is =
    let rest = first_tick-within buffer point reads r (k, omega arith, at) is in
    by (x.buffer == buffer) rest
  where
    by : (test : Bool) → IsNotLater (first_tick buffer point reads) (Some (point +ℤ r.first))
        → IsNotLater (if test then earlier (Some (point +ℤ x.first)) (first_tick buffer point reads) else first_tick buffer point reads)
        (Some (point +ℤ r.first))
    by true rest = earlier-right (Some (point +ℤ x.first)) (first_tick buffer point reads) (Some (point +ℤ r.first)) rest
    by false rest = rest

-- at a later point it isn't earlier
first_tick-rises : (buffer : ℕ) (a b : ℤ) (reads : List Read) → a ≤ℤ b → IsNotLater (first_tick buffer a reads) (first_tick buffer b reads)
first_tick-rises buffer a b [] le = tt
first_tick-rises buffer a b (r ∷ reads) le = by (r.buffer == buffer) (first_tick-rises buffer a b reads le)
  where
    by : (test : Bool) → IsNotLater (first_tick buffer a reads) (first_tick buffer b reads)
        → IsNotLater (if test then earlier (Some (a +ℤ r.first)) (first_tick buffer a reads) else first_tick buffer a reads)
        (if test then earlier (Some (b +ℤ r.first)) (first_tick buffer b reads) else first_tick buffer b reads)
    by true rest =
        earlier-rises (Some (a +ℤ r.first)) (Some (b +ℤ r.first)) (first_tick buffer a reads) (first_tick buffer b reads)
        (omega (arith, ints)) rest
    by false rest = rest

-- the grid point of a turn doesn't fall
pub turn_point-rises : (l : LoopParts) (a b : ℤ) → IsGrid l.grid → a ≤ℤ b → turn_point l a ≤ℤ turn_point l b
turn_point-rises l a b valid le =
    let from = ceil-IsCeil l.grid (a +ℤ pos 1) valid.period_low in
    let to = ceil-IsCeil l.grid (b +ℤ pos 1) valid.period_low in
    from.least (ceil l.grid (b +ℤ pos 1)) to.on_grid (omega (arith, ints, to.not_below))

-- what the next turn of a loop at a tick wants
abbrev wanted_at : ℕ → Work → ℤ → Option ℤ
wanted_at buffer w start = if w.used && int_lt start w.loop.hi then first_tick buffer (turn_point w.loop start) (body_reads w.loop.body) else None

wanted_at-rises : (buffer : ℕ) (w : Work) (a b : ℤ) → IsGrid w.loop.grid → a ≤ℤ b → IsNotLater (wanted_at buffer w a) (wanted_at buffer w b)
wanted_at-rises buffer w a b valid le = by w.used (int_lt a w.loop.hi) (int_lt b w.loop.hi) refl refl
  where
    by : (used before after : Bool) → int_lt a w.loop.hi ≡ before → int_lt b w.loop.hi ≡ after
        → IsNotLater (if used && before then first_tick buffer (turn_point w.loop a) (body_reads w.loop.body) else None)
        (if used && after then first_tick buffer (turn_point w.loop b) (body_reads w.loop.body) else None)
    by false before after is also = tt
    by true before false is also = tt
    by true false true is also =
        absurd (omega (arith, ints))
    by true true true is also =
        first_tick-rises buffer (turn_point w.loop a) (turn_point w.loop b) (body_reads w.loop.body) (turn_point-rises w.loop a b valid le)

-- a loop that has gone on, or is where it was
pub record HasRisen (s later : Stage) : Type 0 where
  pub work : later.work ≡ s.work
  pub grid : IsGrid s.work.loop.grid
  pub rises : position s ≤ℤ position later

next_read-rises : (buffer : ℕ) (s t : Stage) → HasRisen s t → IsNotLater (next_read buffer s) (next_read buffer t)
next_read-rises buffer s t risen =
    subst (λ (w : Work). IsNotLater (next_read buffer s) (wanted_at buffer w (position t))) (sym risen.work)
    (wanted_at-rises buffer s.work (position s) (position t) risen.grid risen.rises)

pub wanted-set : (buffer : ℕ) (stages : List Stage) (k : ℕ) (s t : Stage) → slice_get stages k ≡ Some s → HasRisen s t
    → IsNotLater (wanted buffer stages) (wanted buffer (slice_set stages k t))
wanted-set buffer [] k s t is risen = absurd (cc is)
wanted-set buffer (x ∷ stages) zero s t is risen =
    let same : s ≡ x = cc in
    earlier-rises (next_read buffer x) (next_read buffer t) (wanted buffer stages) (wanted buffer stages)
    (next_read-rises buffer x t (subst (λ (y : Stage). HasRisen y t) same risen)) (not_later-same (wanted buffer stages))
wanted-set buffer (x ∷ stages) (suc k) s t is risen =
    earlier-rises (next_read buffer x) (next_read buffer x) (wanted buffer stages) (wanted buffer (slice_set stages k t))
    (not_later-same (next_read buffer x)) (wanted-set buffer stages k s t is risen)

-- so no less is let go
pub let_go-rises : (a b : Option ℤ) (list : List Snapshot) → IsNotLater a b → let_go a list ≤ let_go b list
let_go-rises None None list h = omega arith
let_go-rises (Some a) None list h = ended-within a list
let_go-rises None (Some b) list h = absurd h
let_go-rises (Some a) (Some b) list h = ended-rises a b list h

pub wanted-rises : (buffer : ℕ) (stages : List Stage) (k : ℕ) (s t : Stage) → slice_get stages k ≡ Some s → t.work ≡ s.work
    → IsGrid s.work.loop.grid → position s ≤ℤ position t → (list : List Snapshot)
    → let_go (wanted buffer stages) list ≤ let_go (wanted buffer (slice_set stages k t)) list
wanted-rises buffer stages k s t is same valid rises list =
    let_go-rises (wanted buffer stages) (wanted buffer (slice_set stages k t)) list
    (wanted-set buffer stages k s t is (record { work = same; grid = valid; rises = rises }))

-- what is wanted isn't after what the next turn of a loop at work reads
next_read-within : (buffer : ℕ) (s : Stage) (r : Read) → is_at_work s ≡ true → Contains (body_reads s.work.loop.body) r → r.buffer ≡ buffer
    → IsNotLater (next_read buffer s) (Some (turn_point s.work.loop (position s) +ℤ r.first))
next_read-within buffer s r work among is =
    rw work (first_tick-within buffer (turn_point s.work.loop (position s)) (body_reads s.work.loop.body) r among is)

pub wanted-not_later : (buffer : ℕ) (stages : List Stage) (k : ℕ) (s : Stage) (r : Read) → slice_get stages k ≡ Some s → is_at_work s ≡ true
    → Contains (body_reads s.work.loop.body) r → r.buffer ≡ buffer
    → IsNotLater (wanted buffer stages) (Some (turn_point s.work.loop (position s) +ℤ r.first))
wanted-not_later buffer [] k s r is work among at = absurd (cc is)
wanted-not_later buffer (x ∷ stages) zero s r is work among at =
    let same : s ≡ x = cc in
    earlier-left (next_read buffer x) (wanted buffer stages) (Some (turn_point s.work.loop (position s) +ℤ r.first))
    (subst (λ (y : Stage). IsNotLater (next_read buffer y) (Some (turn_point s.work.loop (position s) +ℤ r.first))) same
    (next_read-within buffer s r work among at))
wanted-not_later buffer (x ∷ stages) (suc k) s r is work among at =
    earlier-right (next_read buffer x) (wanted buffer stages) (Some (turn_point s.work.loop (position s) +ℤ r.first))
    (wanted-not_later buffer stages k s r is work among at)

pub wanted-within : (buffer : ℕ) (stages : List Stage) (k : ℕ) (s : Stage) (r : Read) → slice_get stages k ≡ Some s → is_at_work s ≡ true
    → Contains (body_reads s.work.loop.body) r → r.buffer ≡ buffer
    → (tick : ℤ) × (wanted buffer stages ≡ Some tick) × (tick ≤ℤ (turn_point s.work.loop (position s) +ℤ r.first))
wanted-within buffer stages k s r is work among at =
    not_later-tick (wanted buffer stages) (turn_point s.work.loop (position s) +ℤ r.first)
    (wanted-not_later buffer stages k s r is work among at)

-- a buffer that one of some reads is of
pub reads_buffer-found : (buffer : ℕ) (reads : List Read) (r : Read) → Contains reads r → r.buffer ≡ buffer
    → reads_buffer buffer reads ≡ true
reads_buffer-found buffer [] r among is = absurd (omega (arith, among.1))
reads_buffer-found buffer (x ∷ reads) r (zero, within, at) is =
    let same : x ≡ r = at in
    let test : (x.buffer == buffer) ≡ true = eq-eqb x.buffer buffer (ap (λ (y : Read). y.buffer) same ∙ is) in
    rw test refl
reads_buffer-found buffer (x ∷ reads) r (suc k, within, at) is =
    rw (reads_buffer-found buffer reads r (k, omega arith, at) is) (or-true (x.buffer == buffer))

-- a loop is used whose buffer a used loop after it reads
pub is_used_by-found : (buffer : ℕ) (works : List Work) (k : ℕ) (w : Work) (r : Read) → slice_get works k ≡ Some w → w.used ≡ true
    → Contains (body_reads w.loop.body) r → r.buffer ≡ buffer → is_used_by buffer works ≡ true
is_used_by-found buffer [] k w r is used among at = absurd (cc is)
is_used_by-found buffer (x ∷ works) zero w r is used among at =
    let same : w ≡ x = cc in
    let reads = reads_buffer-found buffer (body_reads w.loop.body) r among at in
    subst (λ (y : Work). ((y.used && reads_buffer buffer (body_reads y.loop.body)) || is_used_by buffer works) ≡ true) same
    (rw (used, reads) refl)
is_used_by-found buffer (x ∷ works) (suc k) w r is used among at =
    rw (is_used_by-found buffer works k w r is used among at) (or-true (x.used && reads_buffer buffer (body_reads x.loop.body)))

is_used-found : (buffer : ℕ) (works : List Work) (k : ℕ) (w : Work) (r : Read) → slice_get works k ≡ Some w → w.used ≡ true
    → Contains (body_reads w.loop.body) r → r.buffer ≡ buffer → is_used buffer works ≡ true
is_used-found buffer [] k w r is used among at = refl
is_used-found buffer (x ∷ works) k w r is used among at = is_used_by-found buffer (x ∷ works) k w r is used among at

pub used-source : (code : CodeParts) (inputs : List (List Snapshot)) (place source : ℕ) (w v : Work) (r : Read)
    → slice_get (works_of code inputs) place ≡ Some w → w.used ≡ true → Contains (body_reads w.loop.body) r
    → r.buffer ≡ length inputs + source → source < place → slice_get (works_of code inputs) source ≡ Some v → v.used ≡ true
used-source code inputs place source w v r is used among at before found =
    let works = works_of code inputs in
    let later : place ≡ suc source + (place - suc source) = omega arith in
    (work-is code inputs source v found).used ∙ is_used-found (length inputs + source) (drop (suc source) works) (place - suc source) w r
    (slice_get-drop (suc source) works (place - suc source) place later ∙ is) used among at

-- a loop at a position, and loops at their positions, place by place
abbrev pub stage_at : Work → ℤ → Stage
stage_at w start = record { work = w; made = made_by start w.whole }

pub stages_at-get : (works : List Work) (starts : List ℤ) (place : ℕ) (w : Work) (start : ℤ) → slice_get works place ≡ Some w
    → slice_get starts place ≡ Some start → slice_get (stages_at works starts) place ≡ Some (stage_at w start)
stages_at-get [] starts place w start is at = absurd (cc is)
stages_at-get (x ∷ works) [] place w start is at = absurd (cc at)
stages_at-get (x ∷ works) (y ∷ starts) zero w start is at = λ i. Some (stage_at (same_Some x w is i) (same_Some y start at i))
stages_at-get (x ∷ works) (y ∷ starts) (suc place) w start is at = stages_at-get works starts place w start is at

-- what is at a place is the loop and the start there
pub record StandsAt (works : List Work) (starts : List ℤ) (place : ℕ) (s : Stage) : Type 0 where
  pub start : ℤ
  pub work : slice_get works place ≡ Some s.work
  pub at : slice_get starts place ≡ Some start
  pub made : s.made ≡ made_by start s.work.whole

pub stages_at-found : (works : List Work) (starts : List ℤ) (place : ℕ) (s : Stage) → slice_get (stages_at works starts) place ≡ Some s
    → StandsAt works starts place s
stages_at-found [] starts place s is = absurd (cc is)
stages_at-found (x ∷ works) [] place s is = absurd (cc is)
stages_at-found (x ∷ works) (y ∷ starts) zero s is =
    let same : stage_at x y ≡ s = cc in
    subst (λ (t : Stage). StandsAt (x ∷ works) (y ∷ starts) zero t) same (record { start = y; work = refl; at = refl; made = refl })
stages_at-found (x ∷ works) (y ∷ starts) (suc place) s is =
    let rest = stages_at-found works starts place s is in
    record { start = rest.start; work = rest.work; at = rest.at; made = rest.made }

pub stages_at-set : (works : List Work) (starts : List ℤ) (place : ℕ) (w : Work) (start : ℤ) → slice_get works place ≡ Some w
    → stages_at works (slice_set starts place start) ≡ slice_set (stages_at works starts) place (stage_at w start)
stages_at-set [] starts place w start is = refl
stages_at-set (x ∷ works) [] place w start is = refl
stages_at-set (x ∷ works) (y ∷ starts) zero w start is = λ i. stage_at (same_Some x w is i) start ∷ stages_at works starts
stages_at-set (x ∷ works) (y ∷ starts) (suc place) w start is =
    ap (λ (stages : List Stage). stage_at x y ∷ stages) (stages_at-set works starts place w start is)

-- the ring of the loop at a place, of loops of which the first fills the buffer with the number
abbrev pub ring_at : ℕ → List Stage → ℕ → Stage → List Snapshot
ring_at buffer stages k s = kept_from (wanted (buffer + k) (drop (suc k) stages)) s.made

pub rings_of-at : (buffer : ℕ) (stages : List Stage) (k : ℕ) (s : Stage) → slice_get stages k ≡ Some s
    → slice_get (rings_of buffer stages) k ≡ Some (ring_at buffer stages k s)
rings_of-at buffer [] k s is = absurd (cc is)
rings_of-at buffer (x ∷ stages) zero s is =
    let same : x ≡ s = cc in
    let first : buffer ≡ buffer + 0 = omega arith in
    ap (λ (y : Stage). Some (kept_from (wanted buffer stages) y.made)) same
    ∙ ap (λ (n : ℕ). Some (kept_from (wanted n stages) s.made)) first
rings_of-at buffer (x ∷ stages) (suc k) s is =
    let next : suc buffer + k ≡ buffer + suc k = omega arith in
    rings_of-at (suc buffer) stages k s is ∙ ap (λ (n : ℕ). Some (kept_from (wanted n (drop (suc k) stages)) s.made)) next
