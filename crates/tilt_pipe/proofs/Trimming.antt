-- What rings keep after a turn of one loop, and while they are trimmed one after the other.
use Rattle.std.proofs.Common.{◌≡◌, ◌≢◌, inl, inr, ◌≤◌, ◌<◌, ◌+◌, ◌-◌, ℕ, suc, ℤ, pos, neg_ℤ, int_lt, Bool, true, false, if◌then◌else◌, List, [], ◌∷◌, ◌++◌, map, length, drop, get_or, ◌+ℤ◌, ◌&&◌}
use Rattle.std.proofs.Common.{slice_get, slice_set, option_map, Option, Some, None, refl, sym, ap, ◌∙◌, subst, arith, length-drop, length-append}
use Rattle.std.proofs.lemmas.Bool.{cases_lt, cases_eq}
use Rattle.std.proofs.lemmas.Int.{ints}
use Rattle.std.proofs.lemmas.List.{drop_all, drop-set-lt, drop-set-add, length-map, map-set, set-get_or, get_or-set_other}
use Rattle.std.proofs.lemmas.Option.{same_Some, get_or_from_slice_get, slice_get-map, slice_get_within}
use Rattle.circular_buffer.proofs.Places.{slice_get-append_left, slice_get-append_right, slice_get-drop, slice_get-set_other, slice_get-set_same, slice_get-some}
use Rattle.tilt_base.specs.Grid.{IsGrid}
use Rattle.tilt_code.specs.Code.{CodeParts}
use Rattle.tilt_code.specs.References.{IsCode}
use Rattle.tilt_base.specs.declared.limits.TheConstants.{WIDE}
use Rattle.tilt_stream.proofs.Filling.{Fill-AreSnapshots}
use Rattle.tilt_stream.proofs.Places.{passed-at, ended-within}
use Rattle.tilt_stream.specs.Snap.{Snapshot, InOrder, ended_below}
use Rattle.tilt_pipe.proofs.Kept.{let_go-within, next-end}
use Rattle.tilt_pipe.proofs.RingsKept.{IsAt, IsKept, kept-count, kept-made, read-at, ring-at, later-at}
use Rattle.tilt_pipe.proofs.Standing.{IsNextMade, end-made}
use Rattle.tilt_pipe.proofs.Wanted.{rings_of-at, stage_at, stages_at-get, stages_at-set, wanted-rises, let_go-rises}
use Rattle.tilt_pipe.proofs.Wanting.{stands-there, IsTrimmed}
use Rattle.tilt_pipe.proofs.Works.{work-there}
use Rattle.tilt_pipe.specs.Chain.{AreTurns, IsHeldBy, holder_next}
use Rattle.tilt_pipe.specs.Made.{Work, Stage, works_of}
use Rattle.tilt_pipe.specs.Positions.{RingParts, RingsParts, AreRings, AreRingsOf, kept_ring, made_by, stages_at, start_at, starts_of, with_ring, works_in, later_ring}
use Rattle.tilt_pipe.specs.Reads.{turn_point}
use Rattle.tilt_pipe.specs.Rings.{kept_from, let_go, rings_of, wanted}
use Rattle.tilt_pipe.specs.Trimmed.{KeepsWanted, StandAlike, wanted_at, HasLetGo, read_next, IsNotLater, HasNextEnd, held_at}
use Rattle.tilt_pipe.specs.declared.chain.LoopTurns.{LoopTurns}
use Rattle.tilt_pipe.specs.declared.chain.Reader.{Reader}

pub alike-both : (p q r : RingsParts) → StandAlike p q → StandAlike q r → StandAlike p r
alike-both p q r h k = record { code = k.code ∙ h.code; inputs = k.inputs ∙ h.inputs; starts = k.starts ∙ h.starts }

pub alike-works : (p q : RingsParts) → StandAlike p q → works_in q ≡ works_in p
alike-works p q a = ap (λ (code : CodeParts). works_of code q.inputs) a.code ∙ ap (λ (inputs : List (List Snapshot)). works_of p.code inputs) a.inputs

pub alike-wanted : (p q : RingsParts) (k : ℕ) → StandAlike p q → wanted_at q k ≡ wanted_at p k
alike-wanted p q k a = λ i.
    wanted (length (a.inputs i) + k) (drop (suc k) (stages_at (works_of (a.code i) (a.inputs i)) (a.starts i)))

pub alike-turns : (p q : RingsParts) (all : List LoopTurns) → StandAlike p q → AreTurns p.code p.inputs (starts_of p.rings) all
    → AreTurns q.code q.inputs (starts_of q.rings) all
alike-turns p q all a h =
    subst (λ (code : CodeParts). AreTurns code q.inputs (starts_of q.rings) all) (sym a.code)
    (subst (λ (inputs : List (List Snapshot)). AreTurns p.code inputs (starts_of q.rings) all) (sym a.inputs)
    (subst (λ (starts : List ℤ). AreTurns p.code p.inputs starts all) (sym a.starts) h))

pub alike-long : (p q : RingsParts) → StandAlike p q → length q.rings ≡ length p.rings
alike-long p q a = sym (length-map q.rings (λ (r : RingParts). r.start)) ∙ ap length a.starts ∙ length-map p.rings (λ (r : RingParts). r.start)

-- another ring at the same position as the one there
pub alike-set : (p : RingsParts) (place : ℕ) (r : RingParts) → r.start ≡ start_at p place → StandAlike p (with_ring p place r)
alike-set p place r at = record {
  code = refl;
  inputs = refl;
  starts = map-set (λ (x : RingParts). x.start) p.rings place r
      ∙ ap (λ (t : ℤ). slice_set (starts_of p.rings) place t) at ∙ set-get_or (starts_of p.rings) place (pos 0);
}

-- a reader reads what it read if its loop is where it was
next-same : (p q : RingsParts) (reader : Reader) (w : Option Work) → start_at q reader.place ≡ start_at p reader.place
    → read_next q reader w ≡ read_next p reader w
next-same p q reader None same = refl
next-same p q reader (Some w) same = ap (λ (t : ℤ). if w.used && int_lt t w.loop.hi then Some (turn_point w.loop t +ℤ reader.first) else None) same

-- what holds of a loop and its ring, if the ring of one is another
ring-set : (p : RingsParts) (place k : ℕ) (w : Work) (r ring : RingParts) (Is : Work → RingParts → Type 0)
    → slice_get (works_in p) place ≡ Some w → slice_get p.rings place ≡ Some r
    → (k ≢ place → (v : Work) (q : RingParts) → slice_get (works_in p) k ≡ Some v → slice_get p.rings k ≡ Some q → Is v q)
    → (k ≡ place → Is w ring)
    → (v : Work) (q : RingParts) → slice_get (works_in p) k ≡ Some v → slice_get (with_ring p place ring).rings k ≡ Some q → Is v q
ring-set p place k w r ring Is of at others own v q is there =
    elim (cases_eq k place) as (λ _. Is v q) [
      | inl same ↦ (
          let set = slice_get-set_same p.rings place ring (slice_get_within p.rings place r at) in
          let here = same_Some ring q (sym set ∙ ap (slice_get (slice_set p.rings place ring)) (sym same) ∙ there) in
          subst (λ (x : Work). Is x q) (same_Some w v (sym of ∙ ap (slice_get (works_in p)) (sym same) ∙ is)) (subst (Is w) here (own same))
          )
      | inr other ↦ others other v q is (sym (slice_get-set_other p.rings place k ring other) ∙ there)
    ]

-- exact rings are trimmed, and the other way round
stage-there : (p : RingsParts) (k : ℕ) (w : Work) (r : RingParts) → slice_get (works_in p) k ≡ Some w → slice_get p.rings k ≡ Some r
    → slice_get (stages_at (works_in p) (starts_of p.rings)) k ≡ Some (stage_at w r.start)
stage-there p k w r of is =
    stages_at-get (works_in p) (starts_of p.rings) k w r.start of
    (slice_get-map (λ (x : RingParts). x.start) p.rings k ∙ ap (option_map (λ (x : RingParts). x.start)) is)

held-there : (p : RingsParts) (k : ℕ) (r : RingParts) → slice_get p.rings k ≡ Some r
    → slice_get (map (λ (x : RingParts). x.held) p.rings) k ≡ Some r.held
held-there p k r is = slice_get-map (λ (x : RingParts). x.held) p.rings k ∙ ap (option_map (λ (x : RingParts). x.held)) is

same-dropped : (n m : ℕ) (list : List Snapshot) → n ≤ length list → m ≤ length list → drop n list ≡ drop m list → n ≡ m
same-dropped n m list few less same = omega (arith, length-drop n list, length-drop m list, ap length same)

pub exact-trimmed : (p : RingsParts) (k : ℕ) → AreRings p
    → map (λ (r : RingParts). r.held) p.rings ≡ rings_of (length p.inputs) (stages_at (works_in p) (starts_of p.rings)) → IsTrimmed p k
exact-trimmed p k are exact = λ w r of is.
    let stages = stages_at (works_in p) (starts_of p.rings) in
    let made = made_by r.start w.whole in
    let ring = ring-at (works_in p) p.rings k w r are.rings of is in
    let kept = rings_of-at (length p.inputs) stages k (stage_at w r.start) (stage-there p k w r of is) in
    let held = sym (held-there p k r is) ∙ ap (λ (lists : List (List Snapshot)). slice_get lists k) exact ∙ kept in
    let same : r.held ≡ kept_from (wanted_at p k) made = same_Some r.held (kept_from (wanted_at p k) made) held in
    same-dropped r.forgotten (let_go (wanted_at p k) made) made ring.forgotten (let_go-within (wanted_at p k) made) (sym ring.held ∙ same)

-- trimmed rings are exact, ring by ring
rings-exact : (buffer : ℕ) (works : List Work) (rings : List RingParts) → AreRingsOf works rings
    → ((k : ℕ) (w : Work) (r : RingParts) → slice_get works k ≡ Some w → slice_get rings k ≡ Some r
    → r.forgotten ≡ let_go (wanted (buffer + k) (drop (suc k) (stages_at works (starts_of rings)))) (made_by r.start w.whole))
    → map (λ (r : RingParts). r.held) rings ≡ rings_of buffer (stages_at works (starts_of rings))
rings-exact buffer [] [] are each = refl
rings-exact buffer [] (r ∷ rings) are each = absurd are
rings-exact buffer (w ∷ works) [] are each = absurd are
rings-exact buffer (w ∷ works) (r ∷ rings) are each =
    let stages = stages_at works (starts_of rings) in
    let made = made_by r.start w.whole in
    let at : buffer + 0 ≡ buffer = omega arith in
    let first : r.held ≡ kept_from (wanted buffer stages) made =
    are.0.held ∙ ap (λ (n : ℕ). drop n made) (each 0 w r refl refl) ∙ ap (λ (n : ℕ). kept_from (wanted n stages) made) at in
    let rest = rings-exact (suc buffer) works rings are.1 (λ k v q of is.
    let next : buffer + suc k ≡ suc buffer + k = omega arith in
    each (suc k) v q of is ∙ ap (λ (n : ℕ). let_go (wanted n (drop (suc k) stages)) (made_by q.start v.whole)) next) in
    λ i. first i ∷ rest i

pub trimmed-exact : (p : RingsParts) → AreRings p → ((k : ℕ) → IsTrimmed p k)
    → map (λ (r : RingParts). r.held) p.rings ≡ rings_of (length p.inputs) (stages_at (works_in p) (starts_of p.rings))
trimmed-exact p are trimmed = rings-exact (length p.inputs) (works_in p) p.rings are.rings trimmed

-- one more snapshot lets no fewer go
ended-step : (test : Bool) (n m : ℕ) → n ≤ m → (if test then suc n else n) ≤ (if test then suc m else m)
ended-step true n m le = omega arith
ended-step false n m le = le

pub ended-front : (tick : ℤ) (list more : List Snapshot) → ended_below tick list ≤ ended_below tick (list ++ more)
ended-front tick [] more = omega arith
ended-front tick (s ∷ list) more =
    let rest = ended-front tick list more in
    ended-step (int_lt s.end tick) (ended_below tick list) (ended_below tick (list ++ more)) rest

pub let_go-front : (first : Option ℤ) (list more : List Snapshot) → let_go first list ≤ let_go first (list ++ more)
let_go-front None list more = omega (arith, length-append list more)
let_go-front (Some tick) list more = ended-front tick list more

-- a turn of the loop at a place
pub record IsTurn (p : RingsParts) (place : ℕ) (w : Work) (b : Bool) (r : RingParts) (s : Snapshot) : Type 0 where
  pub are : AreRings p
  pub of : slice_get (works_in p) place ≡ Some w
  pub at : slice_get p.rings place ≡ Some r
  pub kept : IsKept w r
  pub grid : IsGrid w.loop.grid
  pub next : IsNextMade w.loop.lo w.loop.hi r.start w.whole s
  pub unread : b ≡ false → wanted_at p place ≡ None

abbrev pub turned : RingsParts → ℕ → Bool → RingParts → Snapshot → RingsParts
turned p place b r s = with_ring p place (kept_ring b r s)

pub turned-starts : (p : RingsParts) (place : ℕ) (b : Bool) (r : RingParts) (s : Snapshot)
    → starts_of (turned p place b r s).rings ≡ slice_set (starts_of p.rings) place s.end
turned-starts p place b r s = map-set (λ (x : RingParts). x.start) p.rings place (kept_ring b r s)

turned-stages : (p : RingsParts) (place : ℕ) (w : Work) (b : Bool) (r : RingParts) (s : Snapshot) → slice_get (works_in p) place ≡ Some w
    → stages_at (works_in p) (starts_of (turned p place b r s).rings) ≡ slice_set (stages_at (works_in p) (starts_of p.rings)) place (stage_at w s.end)
turned-stages p place w b r s of =
    ap (λ (starts : List ℤ). stages_at (works_in p) starts) (turned-starts p place b r s)
    ∙ stages_at-set (works_in p) (starts_of p.rings) place w s.end of

-- the loops after it don't read it
pub turned-later : (p : RingsParts) (place k : ℕ) (w : Work) (b : Bool) (r : RingParts) (s : Snapshot) → slice_get (works_in p) place ≡ Some w → place ≤ k
    → wanted_at (turned p place b r s) k ≡ wanted_at p k
turned-later p place k w b r s of behind =
    let stages = stages_at (works_in p) (starts_of p.rings) in
    let before : place < suc k = omega arith in
    ap (λ (all : List Stage). wanted (length p.inputs + k) (drop (suc k) all)) (turned-stages p place w b r s of)
    ∙ ap (λ (rest : List Stage). wanted (length p.inputs + k) rest) (drop-set-lt (suc k) stages place (stage_at w s.end) before)

-- what those before it want is seen among the loops after them
turned-earlier : (p : RingsParts) (place k i : ℕ) (w : Work) (b : Bool) (r : RingParts) (s : Snapshot) → slice_get (works_in p) place ≡ Some w
    → place ≡ suc k + i → wanted_at (turned p place b r s) k
    ≡ wanted (length p.inputs + k) (slice_set (drop (suc k) (stages_at (works_in p) (starts_of p.rings))) i (stage_at w s.end))
turned-earlier p place k i w b r s of at =
    let stages = stages_at (works_in p) (starts_of p.rings) in
    ap (λ (all : List Stage). wanted (length p.inputs + k) (drop (suc k) all)) (turned-stages p place w b r s of)
    ∙ ap (λ (n : ℕ). wanted (length p.inputs + k) (drop (suc k) (slice_set stages n (stage_at w s.end)))) at
    ∙ ap (λ (rest : List Stage). wanted (length p.inputs + k) rest) (drop-set-add (suc k) stages i (stage_at w s.end))

pub stage-behind : (p : RingsParts) (place k i : ℕ) (w : Work) (r : RingParts) → slice_get (works_in p) place ≡ Some w → slice_get p.rings place ≡ Some r
    → place ≡ suc k + i → slice_get (drop (suc k) (stages_at (works_in p) (starts_of p.rings))) i ≡ Some (stage_at w r.start)
stage-behind p place k i w r of is at = slice_get-drop (suc k) (stages_at (works_in p) (starts_of p.rings)) i place at ∙ stage-there p place w r of is

turned-rises : (p : RingsParts) (place k : ℕ) (w : Work) (b : Bool) (r : RingParts) (s : Snapshot) → IsTurn p place w b r s → k < place
    → (list : List Snapshot) → let_go (wanted_at p k) list ≤ let_go (wanted_at (turned p place b r s) k) list
turned-rises p place k w b r s t before list =
    let i = place - suc k in
    let at : place ≡ suc k + i = omega arith in
    let rest = drop (suc k) (stages_at (works_in p) (starts_of p.rings)) in
    subst (λ (tick : Option ℤ). let_go (wanted_at p k) list ≤ let_go tick list) (sym (turned-earlier p place k i w b r s t.of at))
    (wanted-rises (length p.inputs + k) rest i (stage_at w r.start) (stage_at w s.end) (stage-behind p place k i w r t.of t.at at) refl t.grid
    (omega (arith, ints, stands-there w r t.kept.ring, end-made w.loop.lo s.end (made_by s.end w.whole) t.next.fill, t.next.rises)) list)

-- no ring has let go what is wanted then
turned-few : (p : RingsParts) (place : ℕ) (w : Work) (b : Bool) (r : RingParts) (s : Snapshot) → IsTurn p place w b r s → IsTrimmed p place
    → (kept_ring b r s).forgotten ≤ let_go (wanted_at p place) (made_by s.end w.whole)
turned-few p place w true r s t trimmed =
    omega (arith, let_go-front (wanted_at p place) (made_by r.start w.whole) (s ∷ []), ap (let_go (wanted_at p place)) t.next.more, trimmed w r t.of t.at)
turned-few p place w false r s t trimmed =
    rw (t.unread refl) (omega (arith, ap length t.next.more ∙ length-append (made_by r.start w.whole) (s ∷ []), t.kept.ring.forgotten))

-- what is made then is in order
turned-order : (p : RingsParts) (place : ℕ) (w : Work) (b : Bool) (r : RingParts) (s : Snapshot) → IsTurn p place w b r s
    → InOrder (neg_ℤ WIDE) WIDE (made_by s.end w.whole)
turned-order p place w b r s t =
    (Fill-AreSnapshots w.loop.lo s.end (made_by s.end w.whole) t.kept.low (omega (arith, ints, t.next.within, t.kept.high)) t.next.fill).in_order

-- if the ring held a snapshot, that one is wanted still, and no more is let go
let_go-still : (first : Option ℤ) (from limit : ℤ) (list more : List Snapshot) → InOrder from limit list → InOrder from limit (list ++ more)
    → let_go first list < length list → let_go first (list ++ more) ≡ let_go first list
let_go-still None from limit list more before after few = absurd (omega arith)
let_go-still (Some tick) from limit list more before after few =
    let n = ended_below tick list in
    let it = slice_get-some list n few in
    let old = (passed-at from limit list n it.0 tick before it.1).0 in
    let new = (passed-at from limit (list ++ more) n it.0 tick after (slice_get-append_left list more n few ∙ it.1)).1 in
    let low = ended-front tick list more in
    elim (cases_lt n (ended_below tick (list ++ more))) as (λ _. ended_below tick (list ++ more) ≡ n) [
      | inl passed ↦ (let again = old (new passed) in absurd (omega arith))
      | inr high ↦ omega arith
    ]

gone-kept : (b : Bool) (r : RingParts) (s : Snapshot) (n : ℕ) → n ≤ r.forgotten → n ≤ (kept_ring b r s).forgotten
gone-kept true r s n le = le
gone-kept false r s n le = omega arith

turned-gone : (p : RingsParts) (place : ℕ) (w : Work) (b : Bool) (r : RingParts) (s : Snapshot) (tick : Option ℤ) → IsTurn p place w b r s
    → 0 < length r.held → let_go tick (made_by r.start w.whole) ≤ r.forgotten → let_go tick (made_by s.end w.whole) ≤ (kept_ring b r s).forgotten
turned-gone p place w b r s tick t some gone =
    let count = kept-count w r t.kept in
    let still = let_go-still tick (neg_ℤ WIDE) WIDE (made_by r.start w.whole) (s ∷ []) (kept-made w r t.kept).in_order
    (subst (InOrder (neg_ℤ WIDE) WIDE) t.next.more (turned-order p place w b r s t)) (omega arith) in
    let now = ap (let_go tick) t.next.more in
    gone-kept b r s (let_go tick (made_by s.end w.whole)) (omega arith)

pub turned-still : (p : RingsParts) (place k : ℕ) (w : Work) (b : Bool) (r : RingParts) (s : Snapshot) (tick : Option ℤ) → IsTurn p place w b r s
    → (k ≡ place → 0 < length r.held) → HasLetGo p k tick → HasLetGo (turned p place b r s) k tick
turned-still p place k w b r s tick t some gone =
    ring-set p place k w r (kept_ring b r s) (λ v q. let_go tick (made_by q.start v.whole) ≤ q.forgotten) t.of t.at (λ _. gone)
    (λ same. turned-gone p place w b r s tick t (some same) (gone w r (ap (slice_get (works_in p)) same ∙ t.of) (ap (slice_get p.rings) same ∙ t.at)))

-- if the ring held none, all is let go that ends below the end of the new one
pub turned-first : (p : RingsParts) (place : ℕ) (w : Work) (b : Bool) (r : RingParts) (s : Snapshot) → IsTurn p place w b r s → length r.held ≡ 0
    → HasLetGo (turned p place b r s) place (Some s.end)
turned-first p place w b r s t none =
    let made = made_by s.end w.whole in
    let n = r.forgotten in
    let at : slice_get made n ≡ Some s =
    ap (λ (list : List Snapshot). slice_get list n) t.next.more
    ∙ slice_get-append_right (made_by r.start w.whole) (s ∷ []) n 0 (omega (arith, kept-count w r t.kept, none)) in
    let end = next-end (neg_ℤ WIDE) WIDE made (drop n made) n s (turned-order p place w b r s t) refl (slice_get-drop n made 0 n (omega arith) ∙ at) in
    ring-set p place place w r (kept_ring b r s) (λ v q. let_go (Some s.end) (made_by q.start v.whole) ≤ q.forgotten) t.of t.at
    (λ other. absurd (other refl)) (λ _. gone-kept b r s (ended_below s.end made) end.0)

-- and so it is held
holder-same : (p q : RingsParts) (x : Option Reader) → ((reader : Reader) → x ≡ Some reader → start_at q reader.place ≡ start_at p reader.place)
    → works_in q ≡ works_in p → holder_next q x ≡ holder_next p x
holder-same p q None same works = refl
holder-same p q (Some reader) same works =
    next-same p q reader (slice_get (works_in q) reader.place) (same reader refl)
    ∙ ap (λ (ws : List Work). read_next p reader (slice_get ws reader.place)) works

pub alike-holder : (p q : RingsParts) (x : Option Reader) → StandAlike p q → holder_next q x ≡ holder_next p x
alike-holder p q x a =
    holder-same p q x (λ reader _. ap (λ (starts : List ℤ). get_or starts reader.place (pos 0)) a.starts) (alike-works p q a)

pub turned-held : (p : RingsParts) (place k : ℕ) (w : Work) (b : Bool) (r : RingParts) (s : Snapshot) (x : Option Reader) → IsTurn p place w b r s
    → (k ≡ place → 0 < length r.held) → ((reader : Reader) → x ≡ Some reader → reader.place ≢ place) → IsHeldBy p k x
    → IsHeldBy (turned p place b r s) k x
turned-held p place k w b r s x t some other held =
    let q = turned p place b r s in
    let same = holder-same p q x (λ reader is. ap (λ (starts : List ℤ). get_or starts reader.place (pos 0)) (turned-starts p place b r s)
    ∙ get_or-set_other (starts_of p.rings) place reader.place s.end (pos 0) (other reader is)) refl in
    subst (HasLetGo q k) (sym same) (turned-still p place k w b r s (holder_next p x) t some held)

-- if no loop reads the ring, it holds none
pub unread-none : (p : RingsParts) (place : ℕ) (w : Work) (r : RingParts) → IsKept w r → slice_get (works_in p) place ≡ Some w
    → slice_get p.rings place ≡ Some r → IsTrimmed p place → wanted_at p place ≡ None → r.held ≡ []
unread-none p place w r kept of at trimmed none =
    kept.ring.held ∙ drop_all r.forgotten (made_by r.start w.whole) (omega (arith, trimmed w r of at ∙ ap (λ (tick : Option ℤ). let_go tick (made_by r.start w.whole)) none))

pub turned-wanted : (p : RingsParts) (place k : ℕ) (w : Work) (b : Bool) (r : RingParts) (s : Snapshot) → IsTurn p place w b r s → ((j : ℕ) → IsTrimmed p j)
    → KeepsWanted (turned p place b r s) k
turned-wanted p place k w b r s t trimmed =
    let wants = wanted_at (turned p place b r s) in
    ring-set p place k w r (kept_ring b r s) (λ v q. q.forgotten ≤ let_go (wants k) (made_by q.start v.whole)) t.of t.at (λ other v q of at.
    elim (cases_lt k place) as (λ _. q.forgotten ≤ let_go (wants k) (made_by q.start v.whole)) [
      | inl before ↦ (let up = turned-rises p place k w b r s t before (made_by q.start v.whole) in omega arith)
      | inr behind ↦ (let same = ap (λ (tick : Option ℤ). let_go tick (made_by q.start v.whole)) (turned-later p place k w b r s t.of behind) in omega arith)
    ]) (λ same. subst (λ (tick : Option ℤ). (kept_ring b r s).forgotten ≤ let_go tick (made_by s.end w.whole))
    (sym (turned-later p place place w b r s t.of (omega arith)) ∙ ap wants (sym same)) (turned-few p place w b r s t (trimmed place)))

-- the loop at a place, and its ring
pub record IsThere (p : RingsParts) (place : ℕ) : Type 0 where
  pub work : Work
  pub ring : RingParts
  pub it : IsAt p place work ring

pub there-at : (p : RingsParts) (place : ℕ) → IsCode p.code → AreRings p → place < length p.rings → IsThere p place
there-at p place code are within =
    let work = work-there p place (omega (arith, are.many)) in
    let ring = slice_get-some p.rings place within in
    let at : ring.0 ≡ get_or p.rings place ring.0 = sym (get_or_from_slice_get p.rings place ring.0 ring.0 ring.1) in
    record { work = work.0; ring = ring.0; it = read-at p place work.0 ring.0 code are work.1 at }

-- rings of which one let its first snapshot go, which isn't wanted
pub record IsReleased (p q : RingsParts) (place : ℕ) : Type 0 where
  pub rings : AreRings q
  pub alike : StandAlike p q
  pub more : (k : ℕ) (tick : Option ℤ) → HasLetGo p k tick → HasLetGo q k tick
  pub wanted : (k : ℕ) → KeepsWanted q k
  pub fewer : held_at q place < held_at p place

pub some-held : (p : RingsParts) (place : ℕ) (w : Work) (r : RingParts) (end : ℤ) → IsAt p place w r → HasNextEnd p place (Some end) → 0 < length r.held
some-held p place w r end it first =
    let made = made_by r.start w.whole in
    omega (arith, (first w r it.of it.at).1, ended-within (end +ℤ pos 1) made, ap length it.kept.ring.held, length-drop r.forgotten made)

held_at-is : (p : RingsParts) (place : ℕ) (r : RingParts) → slice_get p.rings place ≡ Some r → held_at p place ≡ length r.held
held_at-is p place r at =
    ap length (get_or_from_slice_get (map (λ (x : RingParts). x.held) p.rings) place r.held [] (held-there p place r at))

pub released : (p : RingsParts) (place : ℕ) (w : Work) (r : RingParts) (end : ℤ) → IsAt p place w r → HasNextEnd p place (Some end)
    → IsNotLater (Some (end +ℤ pos 1)) (wanted_at p place) → ((k : ℕ) → KeepsWanted p k) → IsReleased p (with_ring p place (later_ring r)) place
released p place w r end it first late keeps =
    let made = made_by r.start w.whole in
    let ring = later_ring r in
    let q = with_ring p place ring in
    let alike = alike-set p place ring (sym it.start) in
    let some = some-held p place w r end it first in
    let few : r.forgotten + 1 ≤ let_go (wanted_at q place) made =
    subst (λ (t : Option ℤ). r.forgotten + 1 ≤ let_go t made) (sym (alike-wanted p q place alike))
    (omega (arith, (first w r it.of it.at).1, let_go-rises (Some (end +ℤ pos 1)) (wanted_at p place) made late)) in
    let set = slice_get-set_same p.rings place ring (slice_get_within p.rings place r it.at) in
    record {
      rings = later-at p place w r it some;
      alike = alike;
      more = λ k tick gone.
          ring-set p place k w r ring (λ v x. let_go tick (made_by x.start v.whole) ≤ x.forgotten) it.of it.at (λ _. gone) (λ here.
          let was = gone w r (ap (slice_get (works_in p)) here ∙ it.of) (ap (slice_get p.rings) here ∙ it.at) in omega arith);
      wanted = λ k.
          ring-set p place k w r ring (λ v x. x.forgotten ≤ let_go (wanted_at q k) (made_by x.start v.whole)) it.of it.at
          (λ _. subst (λ (t : Option ℤ). (v : Work) (x : RingParts) → slice_get (works_in p) k ≡ Some v → slice_get p.rings k ≡ Some x
          → x.forgotten ≤ let_go t (made_by x.start v.whole)) (sym (alike-wanted p q k alike)) (keeps k))
          (λ here. subst (λ (n : ℕ). r.forgotten + 1 ≤ let_go (wanted_at q n) made) (sym here) few);
      fewer = omega (arith, held_at-is p place r it.at, held_at-is q place ring set, length-drop 1 r.held, some);
    }
