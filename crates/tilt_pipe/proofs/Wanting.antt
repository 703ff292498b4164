-- What the readers of a buffer want is what the loops after it want.
use Rattle.std.proofs.Common.{◌≡◌, ◌<◌, ◌+◌, ◌-◌, ℕ, suc, ◌==◌, ℤ, ◌+ℤ◌, int_lt, Bool, true, false, ◌&&◌, if◌then◌else◌, List, [], ◌∷◌, length, drop, slice_get, option_map, Option, Some, None}
use Rattle.std.proofs.Common.{Contains, refl, sym, ap, ◌∙◌, subst, arith}
use Rattle.std.proofs.lemmas.Bool.{and_parts}
use Rattle.std.proofs.lemmas.Int.{ints, clamps}
use Rattle.std.specs.Option.{unwrap_or}
use Rattle.std.proofs.lemmas.Option.{same_Some, slice_get-map, slice_get_within}
use Rattle.circular_buffer.proofs.Places.{slice_get-drop, slice_get-some}
use Rattle.tilt_base.proofs.Booleans.{by_test}
use Rattle.tilt_code.specs.Code.{LoopParts}
use Rattle.tilt_code.specs.References.{IsCode}
use Rattle.tilt_pipe.proofs.Nears.{loop-reads}
use Rattle.tilt_pipe.proofs.RingsKept.{ring-of}
use Rattle.tilt_pipe.proofs.Standing.{end-made}
use Rattle.tilt_pipe.proofs.Wanted.{let_go-rises, stage_at, stages_at-found, stages_at-get, wanted-not_later}
use Rattle.tilt_pipe.proofs.Works.{work-is, works-length}
use Rattle.tilt_pipe.specs.Made.{Work, Stage}
use Rattle.tilt_pipe.specs.Positions.{RingParts, RingsParts, AreRings, IsRing, made_by, stages_at, start_at, starts_of, works_in}
use Rattle.tilt_pipe.specs.Reads.{body_reads, earlier, first_tick, turn_point}
use Rattle.tilt_pipe.specs.Rings.{is_at_work, next_read, position, wanted, let_go}
use Rattle.tilt_pipe.specs.Sources.{AreReaders, HasReader, IsRead, IsReaderOf}
use Rattle.tilt_pipe.specs.Trimmed.{IsNotLater, HasLetGo, IsReader, KeepsWanted, read_next, reads_next, wanted_at}
use Rattle.tilt_pipe.specs.declared.chain.Reader.{Reader}
use Rattle.tilt_pipe.specs.declared.read.Read.{Read}
use Rattle.tilt_stream.specs.Snap.{Snapshot, last_end}

-- a loop's position is where what it has made ends
pub stands-there : (w : Work) (r : RingParts) → IsRing w r → position (record { work = w; made = made_by r.start w.whole }) ≡ r.start
stands-there w r is = end-made w.loop.lo r.start (made_by r.start w.whole) is.fill

-- what ends below a tick ends below a later one
pub gone-less : (p : RingsParts) (place : ℕ) (tick end : Option ℤ) → IsNotLater tick end → HasLetGo p place end → HasLetGo p place tick
gone-less p place tick end le gone = λ w r of at.
    omega (arith, let_go-rises tick end (made_by r.start w.whole) le, gone w r of at)

-- just what isn't wanted is let go of it
abbrev pub IsTrimmed : RingsParts → ℕ → Type 0
IsTrimmed p place =
    (w : Work) (r : RingParts) → slice_get (works_in p) place ≡ Some w → slice_get p.rings place ≡ Some r
    → r.forgotten ≡ let_go (wanted_at p place) (made_by r.start w.whole)

-- if no more than what isn't wanted was let go, and no less, it is just that
pub gone-trimmed : (p : RingsParts) (place : ℕ) → KeepsWanted p place → HasLetGo p place (wanted_at p place) → IsTrimmed p place
gone-trimmed p place keeps gone = λ w r of at. let low = keeps w r of at in let high = gone w r of at in omega arith

-- a tick that is no later than two is no later than the earlier one
pub not_later-both : (x a b : Option ℤ) → IsNotLater x a → IsNotLater x b → IsNotLater x (earlier a b)
not_later-both x None b h k = k
not_later-both x (Some a) None h k = h
not_later-both None (Some a) (Some b) h k = absurd h
not_later-both (Some x) (Some a) (Some b) h k = omega (arith, ints, clamps)

not_later-trans : (x a b : Option ℤ) → IsNotLater x a → IsNotLater a b → IsNotLater x b
not_later-trans x a None h k = tt
not_later-trans x None (Some b) h k = absurd k
not_later-trans None (Some a) (Some b) h k = absurd h
not_later-trans (Some x) (Some a) (Some b) h k = omega (arith, ints)

pub not_later-none : (a : Option ℤ) → IsNotLater None a → a ≡ None
not_later-none None h = refl
not_later-none (Some a) h = absurd h

-- no later than what each of some loops reads next, and than what each of some reads reads
wants-all : (x : Option ℤ) (buffer : ℕ) (stages : List Stage)
    → ((i : ℕ) (s : Stage) → slice_get stages i ≡ Some s → IsNotLater x (next_read buffer s)) → IsNotLater x (wanted buffer stages)
wants-all x buffer [] each = tt
wants-all x buffer (s ∷ stages) each =
    not_later-both x (next_read buffer s) (wanted buffer stages) (each 0 s refl) (wants-all x buffer stages (λ i t is. each (suc i) t is))

ticks-all : (x : Option ℤ) (buffer : ℕ) (point : ℤ) (reads : List Read)
    → ((r : Read) → IsRead reads buffer r → IsNotLater x (Some (point +ℤ r.first))) → IsNotLater x (first_tick buffer point reads)
ticks-all x buffer point [] each = tt
ticks-all x buffer point (r ∷ reads) each =
    by (r.buffer == buffer) refl
    (ticks-all x buffer point reads (λ y read. let among = read.among in let within = among.1 in
    each y (record { among = (suc among.0, omega arith, among.2); of = read.of })))
  where
    by : (test : Bool) → (r.buffer == buffer) ≡ test → IsNotLater x (first_tick buffer point reads)
        → IsNotLater x (if test then earlier (Some (point +ℤ r.first)) (first_tick buffer point reads) else first_tick buffer point reads)
    by true here rest =
        not_later-both x (Some (point +ℤ r.first)) (first_tick buffer point reads)
        (each r (record { among = (0, omega arith, refl); of = grind arith })) rest
    by false here rest = rest

-- the position of a loop, and what it has made ends there
record StandsThere (p : RingsParts) (place : ℕ) (w : Work) : Type 0 where
  at : slice_get (starts_of p.rings) place ≡ Some (start_at p place)
  position : position (stage_at w (start_at p place)) ≡ start_at p place

stands-at : (p : RingsParts) (place : ℕ) (w : Work) → IsCode p.code → AreRings p → slice_get (works_in p) place ≡ Some w
    → StandsThere p place w
stands-at p place w code are is =
    let it = ring-of p place w code are is in
    record {
      at = slice_get-map (λ (x : RingParts). x.start) p.rings place ∙ ap (option_map (λ (x : RingParts). x.start)) it.at
          ∙ ap (λ (t : ℤ). Some t) (sym it.start);
      position = subst (λ (t : ℤ). position (stage_at w t) ≡ t) (sym it.start) (stands-there w it.ring it.kept.ring);
    }

-- the loop of a reader
reader-work : (p : RingsParts) (k : ℕ) (reader : Reader) → IsReaderOf (length p.inputs) p.code.loops k reader
    → (w : Work) × (slice_get (works_in p) reader.place ≡ Some w)
reader-work p k reader own =
    slice_get-some (works_in p) reader.place (omega (arith, slice_get_within p.code.loops reader.place own.loop own.is, works-length p.code p.inputs))

-- it is there, and reads near
pub reader-near : (p : RingsParts) (k : ℕ) (reader : Reader) → IsCode p.code → AreRings p
    → IsReaderOf (length p.inputs) p.code.loops k reader → IsReader p reader
reader-near p k reader code are own =
    let w = reader-work p k reader own in
    let near = loop-reads p reader.place own.loop own.read code are own.is own.reads.among in
    let low = near.first_low in
    let high = near.first_high in
    record { work = w.0; is = w.1; low = omega (arith, ints); high = omega (arith, ints) }

-- a reader that is at work
next-is : (p : RingsParts) (reader : Reader) (w : Work) (test : Bool) → slice_get (works_in p) reader.place ≡ Some w
    → (w.used && int_lt (start_at p reader.place) w.loop.hi) ≡ test → read_next p reader (slice_get (works_in p) reader.place)
    ≡ (if test then Some (turn_point w.loop (start_at p reader.place) +ℤ reader.first) else None)
next-is p reader w test is same =
    ap (read_next p reader) is
    ∙ ap (λ (b : Bool). if b then Some (turn_point w.loop (start_at p reader.place) +ℤ reader.first) else None) same

-- it is after the loop whose buffer it reads
pub reader-behind : (p : RingsParts) (k : ℕ) (reader : Reader) → IsCode p.code → AreRings p
    → IsReaderOf (length p.inputs) p.code.loops k reader → k < reader.place
reader-behind p k reader code are own =
    omega (arith, (loop-reads p reader.place own.loop own.read code are own.is own.reads.among).there, own.reads.of)

-- what is wanted of a buffer isn't later than what a reader reads next
pub reader-later : (p : RingsParts) (k : ℕ) (reader : Reader) → IsCode p.code → AreRings p
    → IsReaderOf (length p.inputs) p.code.loops k reader
    → IsNotLater (wanted_at p k) (read_next p reader (slice_get (works_in p) reader.place))
reader-later p k reader code are own =
    let j = reader.place in
    let buffer = length p.inputs + k in
    let it = reader-work p k reader own in
    let w = it.0 in
    let loop : own.loop ≡ w.loop = same_Some own.loop w.loop (sym own.is ∙ (work-is p.code p.inputs j w it.1).loop) in
    let among = subst (λ (l : LoopParts). Contains (body_reads l.body) own.read) loop own.reads.among in
    let stands = stands-at p j w code are it.1 in
    let all = stages_at (works_in p) (starts_of p.rings) in
    let s = stage_at w (start_at p j) in
    let place : j ≡ suc k + (j - suc k) = omega (arith, reader-behind p k reader code are own) in
    let later = slice_get-drop (suc k) all (j - suc k) j place ∙ stages_at-get (works_in p) (starts_of p.rings) j w (start_at p j) it.1 stands.at in
    by_test (w.used && int_lt (start_at p j) w.loop.hi) (IsNotLater (wanted_at p k) (read_next p reader (slice_get (works_in p) j)))
    (λ busy.
    let at_work : is_at_work s ≡ true = ap (λ (t : ℤ). w.used && int_lt t w.loop.hi) stands.position ∙ busy in
    let low = wanted-not_later buffer (drop (suc k) all) (j - suc k) s own.read later at_work among own.reads.of in
    let here = subst (λ (t : ℤ). IsNotLater (wanted_at p k) (Some (turn_point w.loop t +ℤ own.read.first))) stands.position low in
    subst (λ (o : Option ℤ). IsNotLater (wanted_at p k) o) (sym (next-is p reader w true it.1 busy))
    (subst (λ (t : ℤ). IsNotLater (wanted_at p k) (Some (turn_point w.loop (start_at p j) +ℤ t))) (sym own.first) here))
    (λ idle. subst (λ (o : Option ℤ). IsNotLater (wanted_at p k) o) (sym (next-is p reader w false it.1 idle)) tt)

-- a tick that isn't later than what the readers read next isn't later than what a later loop does
read-wanted : (p : RingsParts) (j : ℕ) (w : Work) (r : Read) (readers : List Reader) (tick : Option ℤ) → slice_get (works_in p) j ≡ Some w
    → (w.used && int_lt (start_at p j) w.loop.hi) ≡ true → HasReader readers j r
    → ((x : Reader) → Contains readers x → IsNotLater tick (read_next p x (slice_get (works_in p) x.place)))
    → IsNotLater tick (Some (turn_point w.loop (start_at p j) +ℤ r.first))
read-wanted p j w r readers tick is busy has low =
    let x = has.reader in
    let busy_ = ap (λ (n : ℕ). w.used && int_lt (start_at p n) w.loop.hi) has.place ∙ busy in
    let reads = next-is p x w true (ap (slice_get (works_in p)) has.place ∙ is) busy_
    ∙ ap (λ (n : ℕ). Some (turn_point w.loop (start_at p n) +ℤ x.first)) has.place in
    not_later-trans tick (Some (turn_point w.loop (start_at p j) +ℤ x.first)) (Some (turn_point w.loop (start_at p j) +ℤ r.first))
    (subst (IsNotLater tick) reads (low x has.among)) (omega (arith, ints, has.first))

stage-wanted : (p : RingsParts) (k i : ℕ) (s : Stage) (readers : List Reader) (tick : Option ℤ) → IsCode p.code → AreRings p
    → AreReaders p.code p.inputs 0 k readers
    → ((x : Reader) → Contains readers x → IsNotLater tick (read_next p x (slice_get (works_in p) x.place)))
    → slice_get (drop (suc k) (stages_at (works_in p) (starts_of p.rings))) i ≡ Some s → IsNotLater tick (next_read (length p.inputs + k) s)
stage-wanted p k i s readers tick code are of low is =
    let buffer = length p.inputs + k in
    let j = suc k + i in
    let found = stages_at-found (works_in p) (starts_of p.rings) j s
    (sym (slice_get-drop (suc k) (stages_at (works_in p) (starts_of p.rings)) i j refl) ∙ is) in
    let w = s.work in
    let stands = stands-at p j w code are found.work in
    let start : found.start ≡ start_at p j = same_Some found.start (start_at p j) (sym found.at ∙ stands.at) in
    let at : position s ≡ start_at p j =
    ap (λ (list : List Snapshot). unwrap_or (last_end list) w.loop.lo) (found.made ∙ ap (λ (t : ℤ). made_by t w.whole) start) ∙ stands.position in
    let reads = first_tick buffer (turn_point w.loop (position s)) (body_reads w.loop.body) in
    by_test (is_at_work s) (IsNotLater tick (next_read buffer s))
    (λ busy.
    let busy_ : (w.used && int_lt (start_at p j) w.loop.hi) ≡ true = ap (λ (t : ℤ). w.used && int_lt t w.loop.hi) (sym at) ∙ busy in
    subst (λ (b : Bool). IsNotLater tick (if b then reads else None)) (sym busy)
    (ticks-all tick buffer (turn_point w.loop (position s)) (body_reads w.loop.body) (λ r read.
    subst (λ (t : ℤ). IsNotLater tick (Some (turn_point w.loop t +ℤ r.first))) (sym at) (read-wanted p j w r readers tick found.work busy_
    (of.all j w r (omega arith) found.work (and_parts w.used (int_lt (start_at p j) w.loop.hi) busy_).0 read) low))))
    (λ idle. subst (λ (b : Bool). IsNotLater tick (if b then reads else None)) (sym idle) tt)

-- nor than what is wanted
pub wanted-low : (p : RingsParts) (k : ℕ) (readers : List Reader) (tick : Option ℤ) → IsCode p.code → AreRings p
    → AreReaders p.code p.inputs 0 k readers → ((x : Reader) → Contains readers x → IsNotLater tick (reads_next p x)) → IsNotLater tick (wanted_at p k)
wanted-low p k readers tick code are of low =
    wants-all tick (length p.inputs + k) (drop (suc k) (stages_at (works_in p) (starts_of p.rings)))
    (λ i s is. stage-wanted p k i s readers tick code are of low is)
