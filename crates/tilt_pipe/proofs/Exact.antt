-- When what the loops of a pipe have made is exactly what they have made after n snapshots were given out. It is the minimum that is enough
-- for what the last turns of later loops read.
use Rattle.std.proofs.Common.{◌≡◌, ◌<◌, ◌≤◌, ℕ, zero, suc, ℤ, ◌<ℤ◌, ◌≤ℤ◌, Bool, true, false, if◌then◌else◌, int_lt, int_le, List, [], ◌∷◌, length, take, Option, Some, None, refl, sym, ap, ◌∙◌, arith}
use Rattle.std.proofs.Common.{◌==◌, ◌+ℤ◌, slice_get, subst, Contains, ◌-◌, option_map}
use Rattle.std.proofs.lemmas.Int.{ints, by_lt_z, clamps}
use Rattle.std.specs.Bool.{⊤}
use Rattle.std.proofs.lemmas.Bool.{eq-eqb}
use Rattle.std.proofs.lemmas.List.{length-take, take_min}
use Rattle.std.proofs.lemmas.Option.{same_Some}
use Rattle.tilt_stream.proofs.Filling.{Fill-up}
use Rattle.tilt_stream.specs.Pieces.{last_start}
use Rattle.tilt_stream.specs.Snap.{Snapshot, Fill, last_end}
use Rattle.tilt_pipe.proofs.Standing.{ended-after}
use Rattle.tilt_pipe.specs.Made.{begun_below, Stage, read_by_turn, asked, Work, stages_from}
use Rattle.tilt_pipe.specs.Positions.{made_by}
use Rattle.std.specs.Option.{unwrap_or}
use Rattle.tilt_pipe.specs.Reads.{body_reads, later, last_tick, turn_point}
use Rattle.tilt_pipe.specs.declared.read.Read.{Read}
use Rattle.tilt_pipe.proofs.Wanted.{turn_point-rises}
use Rattle.tilt_pipe.specs.Pulled.{AreEnough, AreFilled, IsFilled, made_in, start_after}

-- where the first `n` of them end
abbrev pub ended : ℤ → List Snapshot → ℕ → ℤ
ended lo whole n = unwrap_or (last_end (take n whole)) lo

-- more of them end no earlier
pub ended-rises : (lo hi : ℤ) (whole : List Snapshot) (m n : ℕ) → Fill lo hi whole → m ≤ n → ended lo whole m ≤ℤ ended lo whole n
ended-rises lo hi whole zero zero h le = omega (arith, ints)
ended-rises lo hi [] zero (suc n) h le = omega (arith, ints)
ended-rises lo hi (s ∷ ss) zero (suc n) h le =
    rw (ended-after lo s (take n ss)) (omega (arith, ints, h.1, ended-rises s.end hi ss 0 n h.2 (omega arith)))
ended-rises lo hi whole (suc m) zero h le = absurd (omega arith)
ended-rises lo hi [] (suc m) (suc n) h le = omega (arith, ints)
ended-rises lo hi (s ∷ ss) (suc m) (suc n) h le =
    rw (ended-after lo s (take m ss), ended-after lo s (take n ss)) (ended-rises s.end hi ss m n h.2 (omega arith))

-- the last of one more starts there
pub begins-at : (lo hi : ℤ) (whole : List Snapshot) (n : ℕ) → Fill lo hi whole → n < length whole
    → last_start (take (suc n) whole) ≡ Some (ended lo whole n)
begins-at lo hi [] n h less = absurd (omega arith)
begins-at lo hi (s ∷ ss) zero h less = ap (λ (tick : ℤ). Some tick) h.0
begins-at lo hi (s ∷ []) (suc n) h less = absurd (omega arith)
begins-at lo hi (s ∷ next ∷ ss) (suc n) h less =
    begins-at s.end hi (next ∷ ss) n h.2 (omega arith) ∙ ap (λ (tick : ℤ). Some tick) (sym (ended-after lo s (take n (next ∷ ss))))

-- both are the first ones
prefix-of : (first : List Snapshot → List Snapshot) (test : Snapshot → Bool) → first [] ≡ []
    → ((s : Snapshot) (ss : List Snapshot) → first (s ∷ ss) ≡ (if test s then s ∷ first ss else [])) → (list : List Snapshot)
    → first list ≡ take (length (first list)) list
prefix-of first test none one [] = rw none refl
prefix-of first test none one (s ∷ ss) = rw (one s ss) (by (test s) (prefix-of first test none one ss))
  where
    by : (is : Bool) → first ss ≡ take (length (first ss)) ss
        → (if is then s ∷ first ss else []) ≡ take (length (if is then s ∷ first ss else [])) (s ∷ ss)
    by true rest = ap (λ (list : List Snapshot). s ∷ list) rest
    by false rest = refl

pub made-prefix : (tick : ℤ) (list : List Snapshot) → made_by tick list ≡ take (length (made_by tick list)) list
made-prefix tick = prefix-of (made_by tick) (λ s. int_le s.end tick) refl (λ s ss. refl)

begun-prefix : (tick : Option ℤ) (list : List Snapshot) → begun_below tick list ≡ take (length (begun_below tick list)) list
begun-prefix None list = refl
begun-prefix (Some tick) list = prefix-of (begun_below (Some tick)) (λ s. int_lt s.start tick) refl (λ s ss. refl) list

-- a tick is none, or no later than one
abbrev pub IsUpTo : ℤ → Option ℤ → Type 0
IsUpTo at None = ⊤
IsUpTo at (Some tick) = tick ≤ℤ at

-- those that begin below a tick are the fewest that reach it, or their end
pub begun-least : (lo hi : ℤ) (tick : Option ℤ) (whole : List Snapshot) (n : ℕ) → Fill lo hi whole
    → (ended lo whole n <ℤ hi → IsUpTo (ended lo whole n) tick) → length (begun_below tick whole) ≤ n
begun-least lo hi None whole n h reached = omega arith
begun-least lo hi (Some tick) [] n h reached = omega arith
begun-least lo hi (Some tick) (s ∷ ss) zero h reached =
    let high = reached (omega (arith, ints, h.1, Fill-up s.end hi ss h.2)) in
    let outside : int_lt s.start tick ≡ false = grind (arith, ints) in
    rw outside (omega arith)
begun-least lo hi (Some tick) (s ∷ ss) (suc n) h reached =
    by (int_lt s.start tick) (begun-least s.end hi (Some tick) ss n h.2 (rw (ended-after lo s (take n ss)) at reached))
  where
    by : (is : Bool) → length (begun_below (Some tick) ss) ≤ n → length (if is then s ∷ begun_below (Some tick) ss else []) ≤ suc n
    by true rest = omega arith
    by false rest = omega arith

pub begun-reaches : (lo hi tick : ℤ) (whole : List Snapshot) → Fill lo hi whole
    → ended lo whole (length (begun_below (Some tick) whole)) <ℤ hi → tick ≤ℤ ended lo whole (length (begun_below (Some tick) whole))
begun-reaches lo hi tick [] h = λ before. absurd (omega (arith, ints))
begun-reaches lo hi tick (s ∷ ss) h =
    by_lt_z s.start tick
    (λ low.
    let inside : int_lt s.start tick ≡ true = grind (arith, ints) in
    rw (inside, ended-after lo s (take (length (begun_below (Some tick) ss)) ss)) (begun-reaches s.end hi tick ss h.2)) (λ high.
    let outside : int_lt s.start tick ≡ false = grind (arith, ints) in
    rw outside (λ before. omega (arith, ints)))

-- the later of two ticks is at most a tick if both are
later-up : (at : ℤ) (a b : Option ℤ) → IsUpTo at a → IsUpTo at b → IsUpTo at (later a b)
later-up at None b h k = k
later-up at (Some a) None h k = h
later-up at (Some a) (Some b) h k = omega (arith, ints, clamps)

later-both : (at : ℤ) (a b : Option ℤ) → IsUpTo at (later a b) → IsUpTo at a × IsUpTo at b
later-both at None b h = (tt, h)
later-both at (Some a) None h = (h, tt)
later-both at (Some a) (Some b) h = (omega (arith, ints, clamps), omega (arith, ints, clamps))

-- the last tick of some reads is at most a tick if the last tick of each is
last_tick-up : (buffer : ℕ) (point at : ℤ) (reads : List Read)
    → ((r : Read) → Contains reads r → r.buffer ≡ buffer → (point +ℤ r.last) ≤ℤ at) → IsUpTo at (last_tick buffer point reads)
last_tick-up buffer point at [] each = tt
last_tick-up buffer point at (x ∷ reads) each =
    by (x.buffer == buffer) refl
    (last_tick-up buffer point at reads (λ r among is. each r (suc among.0, omega (arith, among.1), among.2) is))
  where
    by : (test : Bool) → (x.buffer == buffer) ≡ test → IsUpTo at (last_tick buffer point reads)
        → IsUpTo at (if test then later (Some (point +ℤ x.last)) (last_tick buffer point reads) else last_tick buffer point reads)
    by true is rest =
        later-up at (Some (point +ℤ x.last)) (last_tick buffer point reads) (each x (0, omega arith, refl) (grind arith)) rest
    by false is rest = rest

last_tick-each : (buffer : ℕ) (point at : ℤ) (reads : List Read) (r : Read) → IsUpTo at (last_tick buffer point reads)
    → Contains reads r → r.buffer ≡ buffer → (point +ℤ r.last) ≤ℤ at
last_tick-each buffer point at [] r up among of = absurd (omega (arith, among.1))
last_tick-each buffer point at (x ∷ reads) r up (zero, within, is) of =
    let same : x ≡ r = is in
    let test : (x.buffer == buffer) ≡ true = eq-eqb x.buffer buffer (ap (λ (y : Read). y.buffer) same ∙ of) in
    let first = (later-both at (Some (point +ℤ x.last)) (last_tick buffer point reads) (rw test at up)).0 in
    subst (λ (y : Read). (point +ℤ y.last) ≤ℤ at) same first
last_tick-each buffer point at (x ∷ reads) r up (suc k, within, is) of =
    last_tick-each buffer point at reads r (by (x.buffer == buffer) up) (k, omega arith, is) of
  where
    by : (test : Bool)
        → IsUpTo at (if test then later (Some (point +ℤ x.last)) (last_tick buffer point reads) else last_tick buffer point reads)
        → IsUpTo at (last_tick buffer point reads)
    by true both = (later-both at (Some (point +ℤ x.last)) (last_tick buffer point reads) both).1
    by false rest = rest

-- what is asked of a buffer is at most a tick if what each turn reads is
pub asked-up : (buffer : ℕ) (at : ℤ) (stages : List Stage)
    → ((k : ℕ) (s : Stage) (tick : ℤ) (r : Read) → slice_get stages k ≡ Some s → last_start s.made ≡ Some tick
    → Contains (body_reads s.work.loop.body) r → r.buffer ≡ buffer → (turn_point s.work.loop tick +ℤ r.last) ≤ℤ at)
    → IsUpTo at (asked buffer stages)
asked-up buffer at [] each = tt
asked-up buffer at (s ∷ stages) each =
    later-up at (read_by_turn buffer s.work.loop (last_start s.made)) (asked buffer stages) (by (last_start s.made) refl)
    (asked-up buffer at stages (λ k. each (suc k)))
  where
    by : (start : Option ℤ) → last_start s.made ≡ start → IsUpTo at (read_by_turn buffer s.work.loop start)
    by None is = tt
    by (Some tick) is =
        last_tick-up buffer (turn_point s.work.loop tick) at (body_reads s.work.loop.body) (λ r. each 0 s tick r refl is)

pub asked-each : (buffer : ℕ) (at : ℤ) (stages : List Stage) (k : ℕ) (s : Stage) (tick : ℤ) (r : Read) → IsUpTo at (asked buffer stages)
    → slice_get stages k ≡ Some s → last_start s.made ≡ Some tick → Contains (body_reads s.work.loop.body) r → r.buffer ≡ buffer
    → (turn_point s.work.loop tick +ℤ r.last) ≤ℤ at
asked-each buffer at [] k s tick r up is starts among of = absurd (cc is)
asked-each buffer at (x ∷ stages) zero s tick r up is starts among of =
    let same : x ≡ s = cc in
    let first = (later-both at (read_by_turn buffer x.work.loop (last_start x.made)) (asked buffer stages) up).0 in
    let here = subst (λ (y : Stage). IsUpTo at (read_by_turn buffer y.work.loop (last_start y.made))) same first in
    last_tick-each buffer (turn_point s.work.loop tick) at (body_reads s.work.loop.body) r (rw starts at here) among of
asked-each buffer at (x ∷ stages) (suc k) s tick r up is starts among of =
    asked-each buffer at stages k s tick r (later-both at (read_by_turn buffer x.work.loop (last_start x.made)) (asked buffer stages) up).1
    is starts among of

-- a loop that has made `count` snapshots
abbrev pub stage_of : ℕ → Work → Stage
stage_of count w = record { work = w; made = take count w.whole }

-- each has made the first snapshots of its buffer
abbrev pub ArePrefixes : List Work → List Stage → Type 0
ArePrefixes works stages = (k : ℕ) → slice_get stages k ≡ option_map (stage_of (made_in stages k)) (slice_get works k)

-- so they are the same if they have made as many
same-at : {A : Type 0} (xs ys : List A) → ((k : ℕ) → slice_get xs k ≡ slice_get ys k) → xs ≡ ys
same-at [] [] each = refl
same-at [] (y ∷ ys) each = absurd (cc (each 0))
same-at (x ∷ xs) [] each = absurd (cc (each 0))
same-at (x ∷ xs) (y ∷ ys) each =
    let first : x ≡ y = same_Some x y (each 0) in
    let rest = same-at xs ys (λ k. each (suc k)) in
    cc

pub same-stages : (works : List Work) (ss ts : List Stage) → ArePrefixes works ss → ArePrefixes works ts
    → ((k : ℕ) → made_in ss k ≡ made_in ts k) → ss ≡ ts
same-stages works ss ts prefixes also same =
    same-at ss ts (λ k. prefixes k ∙ ap (λ (n : ℕ). option_map (stage_of n) (slice_get works k)) (same k) ∙ sym (also k))

made_in-found : (stages : List Stage) (k : ℕ) (s : Stage) → slice_get stages k ≡ Some s → made_in stages k ≡ length s.made
made_in-found [] k s is = absurd (cc is)
made_in-found (x ∷ stages) zero s is = ap (λ (y : Stage). length y.made) (same_Some x s is)
made_in-found (x ∷ stages) (suc k) s is = made_in-found stages k s is

pub prefix-few : (works : List Work) (stages : List Stage) (k : ℕ) (w : Work) → ArePrefixes works stages → slice_get works k ≡ Some w
    → made_in stages k ≤ length w.whole
prefix-few works stages k w prefixes is =
    let n = made_in stages k in
    omega (arith, made_in-found stages k (stage_of n w) (prefixes k ∙ ap (option_map (stage_of n)) is), length-take n w.whole)

-- a loop that has made some, the last of which starts at a tick
record HasTurned (works : List Work) (stages : List Stage) (k : ℕ) (s : Stage) (tick : ℤ) : Type 0 where
  last : ℕ
  is : slice_get works k ≡ Some s.work
  count : made_in stages k ≡ suc last
  starts : start_after s.work last ≡ tick

has-turned : (works : List Work) (stages : List Stage) (k : ℕ) (s : Stage) (tick : ℤ) → AreFilled works → ArePrefixes works stages
    → slice_get stages k ≡ Some s → last_start s.made ≡ Some tick → HasTurned works stages k s tick
has-turned works stages k s tick filled prefixes is starts = by (slice_get works k) refl (made_in stages k) refl (sym is ∙ prefixes k)
  where
    by : (of : Option Work) → slice_get works k ≡ of → (n : ℕ) → made_in stages k ≡ n
        → Some s ≡ option_map (stage_of (made_in stages k)) (slice_get works k) → HasTurned works stages k s tick
    by None of n count same = absurd (cc (rw of at same))
    by (Some w) of zero count same =
        let stage : s ≡ stage_of 0 w = same_Some s (stage_of 0 w) (rw (of, count) at same) in
        let none : None ≡ Some tick = sym (ap (λ (x : Stage). last_start x.made) stage) ∙ starts in
        absurd (cc none)
    by (Some w) of (suc last) count same =
        let stage : s ≡ stage_of (suc last) w = same_Some s (stage_of (suc last) w) (rw (of, count) at same) in
        let begins = begins-at w.loop.lo w.loop.hi w.whole last (filled k w of).whole (omega (arith, prefix-few works stages k w prefixes of)) in
        let both : Some (start_after w last) ≡ Some tick = sym begins ∙ sym (ap (λ (x : Stage). last_start x.made) stage) ∙ starts in
        subst (λ (x : Stage). HasTurned works stages k x tick) (sym stage)
        (record { last = last; is = of; count = count; starts = same_Some (start_after w last) tick both })

-- after `given` snapshots each has made the first ones of its buffer
pub star-prefixes : (given buffer : ℕ) (works : List Work) → ArePrefixes works (stages_from given buffer works)
star-prefixes given buffer [] k = refl
star-prefixes given buffer (w ∷ []) zero =
    ap (λ (made : List Snapshot). Some (record { work = w; made = made }))
    (sym (ap (λ (n : ℕ). take n w.whole) (length-take given w.whole) ∙ take_min given w.whole))
star-prefixes given buffer (w ∷ []) (suc k) = refl
star-prefixes given buffer (w ∷ next ∷ works) zero =
    ap (λ (made : List Snapshot). Some (record { work = w; made = made }))
    (begun-prefix (asked buffer (stages_from given (suc buffer) (next ∷ works))) w.whole)
star-prefixes given buffer (w ∷ next ∷ works) (suc k) = star-prefixes given (suc buffer) (next ∷ works) k

-- and they have made enough
pub star-enough : (given buffer : ℕ) (works : List Work) → AreFilled works → AreEnough buffer works (made_in (stages_from given buffer works))
star-enough given buffer [] filled source place v w r last read is = absurd (cc read.from)
star-enough given buffer (x ∷ works) filled source zero v w r last read is = absurd (omega (arith, read.earlier))
star-enough given buffer (x ∷ []) filled source (suc place) v w r last read is = absurd (cc read.by)
star-enough given buffer (x ∷ next ∷ works) filled zero (suc place) v w r last read is =
    let stages = stages_from given (suc buffer) (next ∷ works) in
    let same : v ≡ x = cc in
    let prefixes = star-prefixes given (suc buffer) (next ∷ works) in
    let few = prefix-few (next ∷ works) stages place w prefixes read.by in
    let found : slice_get stages place ≡ Some (stage_of (suc last) w) =
    prefixes place ∙ ap (option_map (stage_of (made_in stages place))) read.by ∙ ap (λ (n : ℕ). Some (stage_of n w)) is in
    let begins = begins-at w.loop.lo w.loop.hi w.whole last (filled (suc place) w read.by).whole (omega arith) in
    rw same (λ before.
    asked-each buffer (start_after x (length (begun_below (asked buffer stages) x.whole))) stages place (stage_of (suc last) w)
    (start_after w last) r (up x (asked buffer stages) (filled 0 x refl) before) found begins read.among (omega (arith, read.of)))
  where
    up : (x : Work) (o : Option ℤ) → IsFilled x → start_after x (length (begun_below o x.whole)) <ℤ x.loop.hi
        → IsUpTo (start_after x (length (begun_below o x.whole))) o
    up x None is before = tt
    up x (Some tick) is before = begun-reaches x.loop.lo x.loop.hi tick x.whole is.whole before
star-enough given buffer (x ∷ next ∷ works) filled (suc source) (suc place) v w r last read is =
    star-enough given (suc buffer) (next ∷ works) (λ k. filled (suc k)) source place v w r last
    (record { earlier = omega (arith, read.earlier); from = read.from; by = read.by; among = read.among; of = omega (arith, read.of) }) is

-- loops that have made enough, and the last one so many, have made no fewer
first-least : (buffer : ℕ) (x : Work) (works : List Work) (stages : List Stage) (count : ℕ → ℕ) → AreFilled (x ∷ works)
    → ArePrefixes works stages → AreEnough buffer (x ∷ works) count → ((k : ℕ) → made_in stages k ≤ count (suc k))
    → length (begun_below (asked buffer stages) x.whole) ≤ count 0
first-least buffer x works stages count filled prefixes enough rest =
    begun-least x.loop.lo x.loop.hi (asked buffer stages) x.whole (count 0) (filled 0 x refl).whole
    (λ before. asked-up buffer (start_after x (count 0)) stages (λ k s tick r is starts among of.
    let t = has-turned works stages k s tick (λ j. filled (suc j)) prefixes is starts in
    let last = count (suc k) - 1 in
    let f = filled (suc k) s.work t.is in
    let rises = ended-rises s.work.loop.lo s.work.loop.hi s.work.whole t.last last f.whole (omega (arith, t.count, rest k)) in
    let point = turn_point-rises s.work.loop tick (start_after s.work last) f.grid (rw t.starts at rises) in
    let reads = enough 0 (suc k) x s.work r last
    (record { earlier = omega arith; from = refl; by = t.is; among = among; of = omega arith }) (omega (arith, t.count, rest k)) before in
    omega (arith, ints)))

pub least : (given buffer : ℕ) (works : List Work) (count : ℕ → ℕ) → AreFilled works → AreEnough buffer works count
    → ((last : ℕ) → suc last ≡ length works → given ≤ count last) → (k : ℕ) → made_in (stages_from given buffer works) k ≤ count k
least given buffer [] count filled enough most k = omega arith
least given buffer (x ∷ []) count filled enough most zero = omega (arith, length-take given x.whole, most 0 refl)
least given buffer (x ∷ []) count filled enough most (suc k) = omega arith
least given buffer (x ∷ next ∷ works) count filled enough most k =
    by k
    (least given (suc buffer) (next ∷ works) (λ j. count (suc j)) (λ j. filled (suc j))
    (λ source place v w r last read. enough (suc source) (suc place) v w r last
    (record { earlier = omega (arith, read.earlier); from = read.from; by = read.by; among = read.among; of = omega (arith, read.of) }))
    (λ last is. most (suc last) (ap suc is)))
  where
    by : (k : ℕ) → ((j : ℕ) → made_in (stages_from given (suc buffer) (next ∷ works)) j ≤ count (suc j))
        → made_in (stages_from given buffer (x ∷ next ∷ works)) k ≤ count k
    by zero rest =
        first-least buffer x (next ∷ works) (stages_from given (suc buffer) (next ∷ works)) count filled
        (star-prefixes given (suc buffer) (next ∷ works)) enough rest
    by (suc k) rest = rest k
