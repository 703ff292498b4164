-- What no next turn reads: the same by what is known of the loops as by what they have made.
use Rattle.std.proofs.Common.{◌≡◌, ◌⊎◌, ◌==◌, inl, inr, ℕ, suc, ℤ, ◌+ℤ◌, ◌<ℤ◌, int_lt, Bool, true, false, if◌then◌else◌, List, [], ◌∷◌, length, get_or, slice_get, Option, Some, None, refl, sym, ap, ◌∙◌, subst, arith}
use Rattle.std.proofs.lemmas.Int.{ints, clamps, by_lt_z}
use Rattle.std.proofs.lemmas.Bool.{cases_eq, ne_eqb}
use Rattle.std.specs.Int.{int_min}
use Rattle.std.specs.List.{AllByRecursion}
use Rattle.tilt_base.proofs.Comparisons.{same_number}
use Rattle.tilt_code.specs.Code.{LoopParts}
use Rattle.tilt_engine.specs.Gone.{EndsBelow}
use Rattle.tilt_engine.specs.Needed.{first_read}
use Rattle.tilt_engine.specs.Stock.{MadeParts}
use Rattle.tilt_engine.specs.Wanted.{next_read, wanted}
use Rattle.tilt_pipe.specs.Made.{Stage}
use Rattle.tilt_pipe.specs.Reads.{body_reads, earlier, first_tick, turn_point}
use Rattle.tilt_pipe.specs.Rings.{position}
use Rattle.tilt_pipe.specs.Trimmed.{IsNear}
use Rattle.tilt_stream.specs.Snap.{Snapshot}

-- what is known of a loop goes up to where its settled snapshots do
pub record StandsAt (s : Stage) (l : LoopParts) (m : MadeParts) : Type 0 where
  pub loop : s.work.loop ≡ l
  pub position : position s ≡ m.settled
  pub hi : l.hi ≡ m.hi

abbrev read_by : ℕ → LoopParts → ℤ → ℤ → Option ℤ
read_by buffer l settled hi = if int_lt settled hi then first_tick buffer (turn_point l settled) (body_reads l.body) else None

read-same : (buffer : ℕ) (s : Stage) (l : LoopParts) (m : MadeParts) → StandsAt s l m
    → read_by buffer s.work.loop (position s) s.work.loop.hi ≡ next_read buffer l m
read-same buffer s l m is =
    (λ i. read_by buffer (is.loop i) (is.position i) (is.loop i).hi) ∙ ap (read_by buffer l m.settled) is.hi

-- the first ticks that the next turns read are the same
pub reads-same : (buffer : ℕ) (stages : List Stage) (loops : List LoopParts) (made : List MadeParts) → length stages ≡ length loops
    → length made ≡ length loops
    → ((k : ℕ) (s : Stage) (l : LoopParts) (m : MadeParts) → slice_get stages k ≡ Some s → slice_get loops k ≡ Some l → slice_get made k ≡ Some m
    → StandsAt s l m)
    → first_read buffer stages ≡ wanted buffer loops made
reads-same buffer [] [] made long many each = refl
reads-same buffer [] (l ∷ loops) made long many each = absurd (omega arith)
reads-same buffer (s ∷ stages) [] made long many each = absurd (omega arith)
reads-same buffer (s ∷ stages) (l ∷ loops) [] long many each = absurd (omega arith)
reads-same buffer (s ∷ stages) (l ∷ loops) (m ∷ made) long many each =
    let own = read-same buffer s l m (each 0 s l m refl refl refl) in
    let rest = reads-same buffer stages loops made (omega arith) (omega arith) (λ k. each (suc k)) in
    (λ i. earlier (own i) (rest i))

-- the earlier of two ticks is one of them
earlier-either : (a b : Option ℤ) (tick : ℤ) → earlier a b ≡ Some tick → (a ≡ Some tick) ⊎ (b ≡ Some tick)
earlier-either None b tick is = inr is
earlier-either (Some a) None tick is = inl is
earlier-either (Some a) (Some b) tick is =
    by_lt_z a b
    (λ less. let least : int_min a b ≡ a = omega (arith, ints, clamps) in inl (sym (ap Some least) ∙ is))
    (λ more. let least : int_min a b ≡ b = omega (arith, ints, clamps) in inr (sym (ap Some least) ∙ is))

-- what has gone of a buffer ends below the first tick that is read of it, if it does so for each read
first-gone : (buffer : ℕ) (point tick : ℤ) (gone : List (List Snapshot)) (reads : List _)
    → first_tick buffer point reads ≡ Some tick → AllByRecursion (λ r. AllByRecursion (EndsBelow (point +ℤ r.first)) (get_or gone r.buffer [])) reads
    → AllByRecursion (EndsBelow tick) (get_or gone buffer [])
first-gone buffer point tick gone [] is all = absurd (cc is)
first-gone buffer point tick gone (r ∷ reads) is all =
    elim (cases_eq r.buffer buffer) as (λ _. AllByRecursion (EndsBelow tick) (get_or gone buffer [])) [
      | inl same ↦ (
          let test : (r.buffer == buffer) ≡ true = rw same (same_number buffer) in
          let first : earlier (Some (point +ℤ r.first)) (first_tick buffer point reads) ≡ Some tick = rw test at is in
          either same (λ later. first-gone buffer point tick gone reads later all.1) (earlier-either (Some (point +ℤ r.first)) (first_tick buffer point reads) tick first))
      | inr apart ↦ (
          let test : (r.buffer == buffer) ≡ false = ne_eqb r.buffer buffer apart in
          let rest : first_tick buffer point reads ≡ Some tick = rw test at is in
          first-gone buffer point tick gone reads rest all.1)
    ]
  where
    either : r.buffer ≡ buffer → (first_tick buffer point reads ≡ Some tick → AllByRecursion (EndsBelow tick) (get_or gone buffer []))
        → (Some (point +ℤ r.first) ≡ Some tick) ⊎ (first_tick buffer point reads ≡ Some tick)
        → AllByRecursion (EndsBelow tick) (get_or gone buffer [])
    either same behind (inl own) =
        let at : (point +ℤ r.first) ≡ tick = cc own in
        subst (λ (t : ℤ). AllByRecursion (EndsBelow t) (get_or gone buffer [])) at
        (subst (λ (n : ℕ). AllByRecursion (EndsBelow (point +ℤ r.first)) (get_or gone n [])) same all.0)
    either same behind (inr later) = behind later

-- the same of the next turns of loops
next-gone : (buffer : ℕ) (tick : ℤ) (gone : List (List Snapshot)) (l : LoopParts) (m : MadeParts)
    → (m.settled <ℤ m.hi → AllByRecursion (λ r. AllByRecursion (EndsBelow (turn_point l m.settled +ℤ r.first)) (get_or gone r.buffer [])) (body_reads l.body))
    → next_read buffer l m ≡ Some tick → AllByRecursion (EndsBelow tick) (get_or gone buffer [])
next-gone buffer tick gone l m all is =
    by_lt_z m.settled m.hi
    (λ more.
    let test : int_lt m.settled m.hi ≡ true = grind (arith, ints) in
    let first : first_tick buffer (turn_point l m.settled) (body_reads l.body) ≡ Some tick = rw test at is in
    first-gone buffer (turn_point l m.settled) tick gone (body_reads l.body) first (all more))
    (λ ended.
    let test : int_lt m.settled m.hi ≡ false = grind (arith, ints) in
    let none : None ≡ Some tick = rw test at is in
    absurd (cc none))

pub wanted-gone : (buffer : ℕ) (tick : ℤ) (gone : List (List Snapshot)) (loops : List LoopParts) (made : List MadeParts)
    → ((k : ℕ) (l : LoopParts) (m : MadeParts) → slice_get loops k ≡ Some l → slice_get made k ≡ Some m → m.settled <ℤ m.hi
    → AllByRecursion (λ r. AllByRecursion (EndsBelow (turn_point l m.settled +ℤ r.first)) (get_or gone r.buffer [])) (body_reads l.body))
    → wanted buffer loops made ≡ Some tick → AllByRecursion (EndsBelow tick) (get_or gone buffer [])
wanted-gone buffer tick gone [] made all is = absurd (cc is)
wanted-gone buffer tick gone (l ∷ loops) [] all is = absurd (cc is)
wanted-gone buffer tick gone (l ∷ loops) (m ∷ made) all is =
    either (wanted-gone buffer tick gone loops made (λ k. all (suc k))) (earlier-either (next_read buffer l m) (wanted buffer loops made) tick is)
  where
    either : (wanted buffer loops made ≡ Some tick → AllByRecursion (EndsBelow tick) (get_or gone buffer []))
        → (next_read buffer l m ≡ Some tick) ⊎ (wanted buffer loops made ≡ Some tick) → AllByRecursion (EndsBelow tick) (get_or gone buffer [])
    either behind (inl own) = next-gone buffer tick gone l m (all 0 l m refl refl) own
    either behind (inr later) = behind later

-- a buffer that comes after all that loops read
first-none : (buffer : ℕ) (point : ℤ) (reads : List _) → AllByRecursion (IsNear buffer) reads → first_tick buffer point reads ≡ None
first-none buffer point [] all = refl
first-none buffer point (r ∷ reads) all =
    let below = all.0.there in
    let test : (r.buffer == buffer) ≡ false = ne_eqb r.buffer buffer (λ same. absurd (omega arith)) in
    rw test (first-none buffer point reads all.1)

pub wanted-none : (buffer : ℕ) (loops : List LoopParts) (made : List MadeParts)
    → ((k : ℕ) (l : LoopParts) → slice_get loops k ≡ Some l → AllByRecursion (IsNear buffer) (body_reads l.body)) → wanted buffer loops made ≡ None
wanted-none buffer [] made all = refl
wanted-none buffer (l ∷ loops) [] all = refl
wanted-none buffer (l ∷ loops) (m ∷ made) all =
    let first = first-none buffer (turn_point l m.settled) (body_reads l.body) (all 0 l refl) in
    let own : next_read buffer l m ≡ None = by (int_lt m.settled m.hi) first in
    rw own (wanted-none buffer loops made (λ k. all (suc k)))
  where
    by : (b : Bool) → first_tick buffer (turn_point l m.settled) (body_reads l.body) ≡ None
        → (if b then first_tick buffer (turn_point l m.settled) (body_reads l.body) else None) ≡ None
    by true is = is
    by false is = refl
