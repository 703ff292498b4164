-- The first ticks of buffers that the next turns of loops read.
use Rattle.std.proofs.Common.{◌≡◌, ◌<◌, ◌≤◌, ℕ, zero, suc, ◌+◌, ◌==◌, ℤ, ◌+ℤ◌, ◌<ℤ◌, ◌≤ℤ◌, int_lt, Bool, true, false, if◌then◌else◌, inl, inr, List, [], ◌∷◌, ◌++◌}
use Rattle.std.proofs.Common.{length, drop, take, get_or, slice_get, slice_set, Option, Some, None, refl, sym, ap, ◌∙◌, subst, arith, Contains}
use Rattle.std.proofs.lemmas.Int.{ints, clamps}
use Rattle.std.proofs.lemmas.Bool.{cases_eq, ne_eqb}
use Rattle.std.proofs.lemmas.List.{drop_more, get_or-set_other, get_or-set_same}
use Rattle.std.specs.List.{AllByRecursion}
use Rattle.tilt_base.proofs.Comparisons.{same_number}
use Rattle.tilt_code.specs.Code.{Block, LoopParts}
use Rattle.tilt_code.specs.declared.instr.Instr.{Instr}
use Rattle.tilt_engine.specs.Gone.{EndsBelow}
use Rattle.tilt_engine.specs.Stock.{MadeParts}
use Rattle.tilt_engine.specs.Wanted.{IsUnread, next_read, wanted}
use Rattle.tilt_pipe.proofs.Wanted.{earlier-left, earlier-right, first_tick-within, not_later-tick}
use Rattle.tilt_pipe.specs.Reads.{body_reads, earlier, first_tick, reads_of, turn_point}
use Rattle.tilt_pipe.specs.Rings.{let_go}
use Rattle.tilt_pipe.specs.Trimmed.{IsNotLater}
use Rattle.tilt_stream.proofs.Ended.{none_ended}
use Rattle.tilt_stream.proofs.Places.{ended-within}
use Rattle.tilt_stream.specs.Snap.{InOrder, Snapshot, ended_below}

-- the earlier of two ticks
pub earlier-none : (a : Option ℤ) → earlier a None ≡ a
earlier-none None = refl
earlier-none (Some a) = refl

pub earlier-joins : (a b c : Option ℤ) → earlier (earlier a b) c ≡ earlier a (earlier b c)
earlier-joins None b c = refl
earlier-joins (Some a) None c = refl
earlier-joins (Some a) (Some b) None = refl
earlier-joins (Some a) (Some b) (Some c) = ap Some (omega (arith, ints, clamps))

-- the first tick of two lists of reads is the earlier of theirs
pub first_tick-append : (buffer : ℕ) (point : ℤ) (reads more : List _)
    → first_tick buffer point (reads ++ more) ≡ earlier (first_tick buffer point reads) (first_tick buffer point more)
first_tick-append buffer point [] more = refl
first_tick-append buffer point (r ∷ reads) more = by (r.buffer == buffer) (first_tick-append buffer point reads more)
  where
    by : (test : Bool) → first_tick buffer point (reads ++ more) ≡ earlier (first_tick buffer point reads) (first_tick buffer point more)
        → (if test then earlier (Some (point +ℤ r.first)) (first_tick buffer point (reads ++ more)) else first_tick buffer point (reads ++ more))
        ≡ earlier (if test then earlier (Some (point +ℤ r.first)) (first_tick buffer point reads) else first_tick buffer point reads)
        (first_tick buffer point more)
    by true rest =
        ap (earlier (Some (point +ℤ r.first))) rest
        ∙ sym (earlier-joins (Some (point +ℤ r.first)) (first_tick buffer point reads) (first_tick buffer point more))
    by false rest = rest

-- a body from an instruction on reads what that one reads, and what the rest reads
pub reads-next : (buffer : ℕ) (point : ℤ) (body : Block) (i : ℕ) (d : Instr) → i < length body
    → first_tick buffer point (body_reads (drop i body))
    ≡ earlier (first_tick buffer point (reads_of (get_or body i d))) (first_tick buffer point (body_reads (drop (i + 1) body)))
reads-next buffer point body i d within =
    ap (λ (block : Block). first_tick buffer point (body_reads block)) (drop_more body i d within)
    ∙ first_tick-append buffer point (reads_of (get_or body i d)) (body_reads (drop (i + 1) body))

-- adding the next tick doesn't change the earlier of what was added and what is left
pub added-next : (before next after left rest whole : Option ℤ) → after ≡ earlier before next → left ≡ earlier next rest
    → earlier before left ≡ whole → earlier after rest ≡ whole
added-next before next after left rest whole is splits all =
    ap (λ (a : Option ℤ). earlier a rest) is ∙ earlier-joins before next rest ∙ sym (ap (earlier before) splits) ∙ all

-- adding a tick of one buffer leaves the others as they are
pub tick-added : (firsts : List (Option ℤ)) (buffer other : ℕ) (tick : ℤ) → buffer < length firsts
    → get_or (slice_set firsts buffer (earlier (get_or firsts buffer None) (Some tick))) other None
    ≡ earlier (get_or firsts other None) (if buffer == other then Some tick else None)
tick-added firsts buffer other tick within =
    elim (cases_eq other buffer) [
      | inl same ↦ rw (same, same_number buffer)
          (get_or-set_same firsts buffer (earlier (get_or firsts buffer None) (Some tick)) None within)
      | inr apart ↦
          let differs : (buffer == other) ≡ false = ne_eqb buffer other (λ e. apart (sym e)) in
          rw differs
          (get_or-set_other firsts buffer other (earlier (get_or firsts buffer None) (Some tick)) None apart
          ∙ sym (earlier-none (get_or firsts other None)))
    ]

-- what is wanted isn't after what the next turn of a loop reads
next_read-within : (buffer : ℕ) (l : LoopParts) (m : MadeParts) (r : _) → m.settled <ℤ m.hi → Contains (body_reads l.body) r
    → r.buffer ≡ buffer → IsNotLater (next_read buffer l m) (Some (turn_point l m.settled +ℤ r.first))
next_read-within buffer l m r more among is =
    let test : int_lt m.settled m.hi ≡ true = grind (arith, ints) in
    rw test (first_tick-within buffer (turn_point l m.settled) (body_reads l.body) r among is)

wanted-not_later : (buffer : ℕ) (loops : List LoopParts) (made : List MadeParts) (k : ℕ) (l : LoopParts) (m : MadeParts) (r : _)
    → slice_get loops k ≡ Some l → slice_get made k ≡ Some m → m.settled <ℤ m.hi → Contains (body_reads l.body) r → r.buffer ≡ buffer
    → IsNotLater (wanted buffer loops made) (Some (turn_point l m.settled +ℤ r.first))
wanted-not_later buffer [] made k l m r is at more among of = absurd (cc is)
wanted-not_later buffer (x ∷ loops) [] k l m r is at more among of = absurd (cc at)
wanted-not_later buffer (x ∷ loops) (y ∷ made) zero l m r is at more among of =
    let tick = Some (turn_point l m.settled +ℤ r.first) in
    let own = next_read-within buffer l m r more among of in
    let loop : l ≡ x = cc in
    let made_by : m ≡ y = cc in
    earlier-left (next_read buffer x y) (wanted buffer loops made) tick
    (subst (λ (n : MadeParts). IsNotLater (next_read buffer x n) tick) made_by
    (subst (λ (n : LoopParts). IsNotLater (next_read buffer n m) tick) loop own))
wanted-not_later buffer (x ∷ loops) (y ∷ made) (suc k) l m r is at more among of =
    earlier-right (next_read buffer x y) (wanted buffer loops made) (Some (turn_point l m.settled +ℤ r.first))
    (wanted-not_later buffer loops made k l m r is at more among of)

pub wanted-reads : (buffer : ℕ) (loops : List LoopParts) (made : List MadeParts) (k : ℕ) (l : LoopParts) (m : MadeParts) (r : _)
    → slice_get loops k ≡ Some l → slice_get made k ≡ Some m → m.settled <ℤ m.hi → Contains (body_reads l.body) r → r.buffer ≡ buffer
    → (tick : ℤ) × (wanted buffer loops made ≡ Some tick) × (tick ≤ℤ (turn_point l m.settled +ℤ r.first))
wanted-reads buffer loops made k l m r is at more among of =
    not_later-tick (wanted buffer loops made) (turn_point l m.settled +ℤ r.first)
    (wanted-not_later buffer loops made k l m r is at more among of)

-- if a snapshot doesn't end below a tick, none after it does
ended-next : (tick low high : ℤ) (s : Snapshot) (ss : List Snapshot) → InOrder low high (s ∷ ss)
    → AllByRecursion (EndsBelow tick) (take (ended_below tick ss) ss) → (ended : Bool) → int_lt s.end tick ≡ ended
    → AllByRecursion (EndsBelow tick) (take (ended_below tick (s ∷ ss)) (s ∷ ss))
ended-next tick low high s ss order rest true is =
    let below : s.end <ℤ tick = grind (arith, ints) in
    rw is ((order.1, below), rest)
ended-next tick low high s ss order rest false is =
    let later : tick ≤ℤ s.end = grind (arith, ints) in
    rw (is, none_ended s.end high ss tick order.3 later) tt

-- what is let go ends below the first tick that is read
ended-ends : (tick low high : ℤ) (list : List Snapshot) → InOrder low high list
    → AllByRecursion (EndsBelow tick) (take (ended_below tick list) list)
ended-ends tick low high [] order = tt
ended-ends tick low high (s ∷ ss) order = ended-next tick low high s ss order (ended-ends tick s.end high ss order.3) (int_lt s.end tick) refl

pub let_go-ends : (first : Option ℤ) (tick : ℤ) (low high : ℤ) (list : List Snapshot) → InOrder low high list → first ≡ Some tick
    → AllByRecursion (EndsBelow tick) (take (let_go first list) list)
let_go-ends None tick low high list order is = absurd (cc is)
let_go-ends (Some first) tick low high list order is =
    let same : tick ≡ first = cc in
    subst (λ (t : ℤ). AllByRecursion (EndsBelow tick) (take (ended_below t list) list)) same (ended-ends tick low high list order)

-- no more are let go than there are
pub let_go-within : (first : Option ℤ) (list : List Snapshot) → let_go first list ≤ length list
let_go-within None list = omega arith
let_go-within (Some tick) list = ended-within tick list

-- so many aren't read
pub unread-is : (first : Option ℤ) (list : List Snapshot) (count : ℕ) (low high : ℤ) → InOrder low high list → count ≡ let_go first list
    → IsUnread first list count
unread-is first list count low high order is = record {
  is = is;
  past = λ tick same.
      subst (λ (n : ℕ). AllByRecursion (EndsBelow tick) (take n list)) (sym is) (let_go-ends first tick low high list order same);
}
