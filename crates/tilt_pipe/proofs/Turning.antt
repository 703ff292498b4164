-- The turns of a chain's loops, place by place.
use Rattle.std.proofs.Common.{◌≡◌, ◌≢◌, inl, inr, ◌<◌, ℕ, ℤ, pos, ◌+ℤ◌, ◌≤ℤ◌, List, get_or, length, slice_get, slice_set, Some, refl, sym, ◌∙◌, subst, arith}
use Rattle.std.proofs.lemmas.Bool.{cases_eq}
use Rattle.std.proofs.lemmas.Int.{ints}
use Rattle.std.proofs.lemmas.List.{get_or-set_other, get_or-set_same, length-map, length-set, set-get_or}
use Rattle.std.proofs.lemmas.Option.{same_Some, slice_get_read, slice_get_within}
use Rattle.circular_buffer.proofs.Places.{slice_get-set_other, slice_get-set_same, slice_get-some}
use Rattle.tilt_code.specs.Code.{CodeParts}
use Rattle.tilt_stream.specs.Snap.{Snapshot}
use Rattle.tilt_pipe.proofs.Works.{works-length}
use Rattle.tilt_pipe.specs.Chain.{AreTurns, AreTurnsOf, HasMade}
use Rattle.tilt_pipe.specs.Made.{Work, works_of}
use Rattle.tilt_pipe.specs.Positions.{RingParts, RingsParts, start_at, starts_of, works_in}
use Rattle.tilt_pipe.specs.Reads.{turn_point}
use Rattle.tilt_base.proofs.Lists.{all-at}
use Rattle.tilt_pipe.specs.Sources.{AreReaders, IsReaderOf}
use Rattle.tilt_pipe.specs.declared.chain.LoopTurns.{LoopTurns}
use Rattle.tilt_pipe.specs.declared.chain.Reader.{Reader}

-- what holds of each place but one, and of that one
pub each-at : {T : Type 0} (works : List Work) (Old New : ℕ → Work → T → Type 0) (old all : List T) (place : ℕ) (new : T)
    → ((k : ℕ) (w : Work) (t : T) → slice_get works k ≡ Some w → slice_get old k ≡ Some t → Old k w t)
    → ((k : ℕ) → k ≢ place → slice_get all k ≡ slice_get old k) → slice_get all place ≡ Some new
    → ((k : ℕ) (w : Work) (t : T) → k ≢ place → Old k w t → New k w t)
    → ((w : Work) → slice_get works place ≡ Some w → New place w new)
    → (k : ℕ) (w : Work) (t : T) → slice_get works k ≡ Some w → slice_get all k ≡ Some t → New k w t
each-at {T} works Old New old all place new are others here other own k w t of at =
    elim (cases_eq k place) as (λ _. New k w t) [
      | inl same ↦ subst (λ (n : ℕ). (v : Work) → slice_get works n ≡ Some v → slice_get all n ≡ Some t → New n v t) (sym same)
          (λ v is there. subst (New place v) (same_Some new t (sym here ∙ there)) (own v is)) w of at
      | inr apart ↦ other k w t apart (are k w t of (sym (others k apart) ∙ at))
    ]

-- a loop that goes on has made what it had
rises-on : (works : List Work) (starts : List ℤ) (place k : ℕ) (start tick : ℤ) → place < length starts → get_or starts place (pos 0) ≤ℤ start
    → HasMade works starts k tick → HasMade works (slice_set starts place start) k tick
rises-on works starts place k start tick within up made = λ w of.
    elim (cases_eq k place) as (λ _. HasMade works (slice_set starts place start) k tick) [
      | inl same ↦ rw (same, get_or-set_same starts place start (pos 0) within) (λ v is.
          elim (rw same at made v is) [ inl end ↦ inl (omega (arith, ints)) | inr far ↦ inr (omega (arith, ints)) ])
      | inr apart ↦ rw (get_or-set_other starts place k start (pos 0) apart) made
    ] w of

-- others of the same loop, which is further on
pub turns-set : (code : CodeParts) (inputs : List (List Snapshot)) (starts : List ℤ) (all : List LoopTurns) (place : ℕ) (start : ℤ)
    (w : Work) (turns : LoopTurns) → AreTurns code inputs starts all → slice_get (works_of code inputs) place ≡ Some w
    → get_or starts place (pos 0) ≤ℤ start → AreTurnsOf code inputs (slice_set starts place start) place w turns
    → AreTurns code inputs (slice_set starts place start) (slice_set all place turns)
turns-set code inputs starts all place start w turns are of up new =
    let within = slice_get_within (works_of code inputs) place w of in
    let New = AreTurnsOf code inputs (slice_set starts place start) in
    record {
      begins = length-set starts place start ∙ are.begins;
      many = length-set all place turns ∙ are.many;
      each = each-at (works_of code inputs) (AreTurnsOf code inputs starts) New all (slice_set all place turns) place turns are.each
          (λ k apart. slice_get-set_other all place k turns apart) (slice_get-set_same all place turns (omega (arith, works-length code inputs)))
          (λ k v t apart old.
          record {
            sources = old.sources;
            readers = old.readers;
            fit = rw (get_or-set_other starts place k start (pos 0) apart) old.fit;
            passed = rw (get_or-set_other starts place k start (pos 0) apart) (λ i s below at.
                rises-on (works_of code inputs) starts place s.place start (turn_point v.loop (get_or starts k (pos 0)) +ℤ s.last)
                (omega (arith, are.begins, works-length code inputs)) up (old.passed i s below at));
          })
          (λ v is. subst (λ (x : Work). New place x turns) (same_Some w v (sym of ∙ is)) new);
    }

-- other turns of a loop that is where it was
pub turns-passed : (p : RingsParts) (all : List LoopTurns) (place : ℕ) (w : Work) (new : LoopTurns) → AreTurns p.code p.inputs (starts_of p.rings) all
    → slice_get (works_in p) place ≡ Some w → AreTurnsOf p.code p.inputs (starts_of p.rings) place w new
    → AreTurns p.code p.inputs (starts_of p.rings) (slice_set all place new)
turns-passed p all place w new are of own =
    let same = set-get_or (starts_of p.rings) place (pos 0) in
    subst (λ (starts : List ℤ). AreTurns p.code p.inputs starts (slice_set all place new)) same
    (turns-set p.code p.inputs (starts_of p.rings) all place (start_at p place) w new are of (omega (arith, ints))
    (subst (λ (starts : List ℤ). AreTurnsOf p.code p.inputs starts place w new) (sym same) own))

-- the loop at a place has its ring and its turns
pub record HasMany (p : RingsParts) (all : List LoopTurns) (place : ℕ) : Type 0 where
  pub rings : place < length p.rings
  pub turns : place < length all

pub turns-long : (p : RingsParts) (all : List LoopTurns) → AreTurns p.code p.inputs (starts_of p.rings) all
    → (length p.rings ≡ length (works_in p)) × (length all ≡ length (works_in p))
turns-long p all are =
    let count = sym (works-length p.code p.inputs) in
    (sym (length-map p.rings (λ (r : RingParts). r.start)) ∙ are.begins ∙ count, are.many ∙ count)

pub has-many : (p : RingsParts) (all : List LoopTurns) (place : ℕ) (w : Work) → AreTurns p.code p.inputs (starts_of p.rings) all
    → slice_get (works_in p) place ≡ Some w → HasMany p all place
has-many p all place w are is =
    let long = turns-long p all are in
    let within = slice_get_within (works_in p) place w is in
    record { rings = omega arith; turns = omega arith }

pub turns-within : (p : RingsParts) (all : List LoopTurns) (place : ℕ) → AreTurns p.code p.inputs (starts_of p.rings) all
    → place < length p.rings → place < length all
turns-within p all place are there = let long = turns-long p all are in omega (arith, long.0, long.1)

pub found-turns : (p : RingsParts) (all : List LoopTurns) (place : ℕ) (turns : LoopTurns) → AreTurns p.code p.inputs (starts_of p.rings) all
    → place < length p.rings → turns ≡ get_or all place turns → slice_get all place ≡ Some turns
found-turns p all place turns are there at = slice_get_read all (length all) place turns refl (turns-within p all place are there) at

-- the turns of a loop of a chain
pub own-turns : (p : RingsParts) (all : List LoopTurns) (place : ℕ) (w : Work) (turns : LoopTurns)
    → AreTurns p.code p.inputs (starts_of p.rings) all → slice_get (works_in p) place ≡ Some w → turns ≡ get_or all place turns
    → AreTurnsOf p.code p.inputs (starts_of p.rings) place w turns
own-turns p all place w turns are is at =
    are.each place w turns is (slice_get_read all (length all) place turns refl (has-many p all place w are is).turns at)

-- if no loop is named
pub own-readers : (p : RingsParts) (all : List LoopTurns) (place : ℕ) (turns : LoopTurns)
    → AreTurns p.code p.inputs (starts_of p.rings) all → place < length p.rings → turns ≡ get_or all place turns
    → AreReaders p.code p.inputs 0 place turns.readers.items
own-readers p all place turns are there at =
    let long = turns-long p all are in
    let found = slice_get-some (works_in p) place (omega (arith, long.0)) in
    (own-turns p all place found.0 turns are found.1 at).readers

-- one of them with a number
pub reader-at : (p : RingsParts) (all : List LoopTurns) (place : ℕ) (turns : LoopTurns) (n : ℕ) (reader : Reader)
    → AreTurns p.code p.inputs (starts_of p.rings) all → place < length p.rings → turns ≡ get_or all place turns
    → n < length turns.readers.items → reader ≡ get_or turns.readers.items n reader → IsReaderOf (length p.inputs) p.code.loops place reader
reader-at p all place turns n reader are there at within is =
    all-at (IsReaderOf (length p.inputs) p.code.loops place) turns.readers.items n reader (own-readers p all place turns are there at).each within is
