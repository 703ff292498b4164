-- A turn of a chain: what it asks, and what the chain keeps.
use Rattle.std.proofs.lemmas.Bool.{cases_eq}
use Rattle.std.specs.Global.{Vec}
use Rattle.tilt_pipe.proofs.Covered.{at-contains}
use Rattle.tilt_pipe.proofs.Settled.{held-settled, holders-within}
use Rattle.tilt_pipe.specs.declared.chain.Chain.{Chain}
use Rattle.std.proofs.Common.{◌≡◌, ◌≢◌, false, ◌∙◌, ℕ, ℤ, pos, ◌≤ℤ◌, Bool, true, List, map, length, get_or, slice_get, slice_set, Some, None, sym, ap, subst, arith, ◌<◌, inl, inr, Option, Contains}
use Rattle.std.proofs.lemmas.Int.{ints}
use Rattle.std.proofs.lemmas.List.{length-map}
use Rattle.std.proofs.lemmas.Option.{get_or_from_slice_get, same_Some, slice_get_within}
use Rattle.circular_buffer.proofs.Places.{slice_get-set_same, slice_get-some}
use Rattle.tilt_code.specs.References.{IsCode}
use Rattle.tilt_code.specs.Run.{buffers_of}
use Rattle.tilt_stream.specs.Snap.{Snapshot}
use Rattle.tilt_turn.specs.Held.{IsFit}
use Rattle.tilt_pipe.proofs.Keeping.{keeps-body}
use Rattle.tilt_pipe.proofs.Nears.{work-ready}
use Rattle.tilt_pipe.proofs.RingsKept.{next-kept, ring-of}
use Rattle.tilt_pipe.proofs.Trimming.{IsTurn, exact-trimmed, turned, turned-starts, turned-held, alike-long, alike-holder}
use Rattle.tilt_pipe.proofs.Turning.{has-many, own-turns, turns-set}
use Rattle.tilt_pipe.proofs.Wanted.{turn_point-rises}
use Rattle.tilt_pipe.specs.Chain.{AreTold, AreTurns, AreTurnsOf, MayTurn, IsHeldBy, IsChain, MayLetGo, LetsGo, IsSettled, IsLeft, held_in, holder_next}
use Rattle.tilt_pipe.specs.Made.{Work}
use Rattle.tilt_pipe.specs.Positions.{AreRings, IsOpen, RingParts, RingsParts, made_at, made_by, stages_at, start_at, starts_of, works_in}
use Rattle.tilt_pipe.specs.Reads.{body_reads, turn_point}
use Rattle.tilt_pipe.specs.Rings.{rings_of}
use Rattle.tilt_pipe.specs.Sources.{AreReaders, AreSources}
use Rattle.tilt_pipe.specs.Trimmed.{wanted_at, HasLetGo}
use Rattle.tilt_pipe.specs.declared.chain.LoopTurns.{LoopTurns}
use Rattle.tilt_pipe.specs.declared.chain.Reader.{Reader}

pub may-turn : (p : RingsParts) (all : List LoopTurns) (place : ℕ) (w : Work) (turns : LoopTurns) → IsCode p.code → AreRings p
    → AreTurns p.code p.inputs (starts_of p.rings) all
    → map (λ (r : RingParts). r.held) p.rings ≡ rings_of (length p.inputs) (stages_at (works_in p) (starts_of p.rings))
    → IsOpen p place w → w.used ≡ true → AreTold p place w → turns ≡ get_or all place turns → MayTurn p place turns w
may-turn p all place w turns code are fit exact is_open used told at = record {
  is_open = is_open;
  told = told;
  kept = keeps-body p place w code are (λ k. exact-trimmed p k are exact) is_open used;
  fit = (own-turns p all place w turns fit is_open.is at).fit;
}

-- the next snapshot of the loop is a turn of it
pub record HasTurned (p : RingsParts) (place : ℕ) (w : Work) (b : Bool) (s : Snapshot) : Type 0 where
  pub ring : RingParts
  pub turn : IsTurn p place w b ring s
  pub stands : start_at p place ≡ ring.start

pub made-turn : (p : RingsParts) (place : ℕ) (w : Work) (b : Bool) (s : Snapshot) → IsCode p.code → AreRings p → IsOpen p place w
    → (b ≡ false → wanted_at p place ≡ None) → slice_get w.whole (length (made_at p place w)) ≡ Some s → HasTurned p place w b s
made-turn p place w b s code are is_open unread is =
    let it = ring-of p place w code are is_open.is in
    let here : slice_get w.whole (length (made_by it.ring.start w.whole)) ≡ Some s =
    subst (λ (t : ℤ). slice_get w.whole (length (made_by t w.whole)) ≡ Some s) it.start is in
    record {
      ring = it.ring;
      turn = record {
        are = are;
        of = is_open.is;
        at = it.at;
        kept = it.kept;
        grid = (work-ready p place w code are is_open.is).grid;
        next = next-kept w it.ring s it.kept here;
        unread = unread;
      };
      stands = it.start;
    }

-- and then the chain has the turns that it is to have
pub new-turns : (p : RingsParts) (all : List LoopTurns) (place : ℕ) (w : Work) (old new : LoopTurns) (b : Bool) (r : RingParts) (s : Snapshot)
    → AreTurns p.code p.inputs (starts_of p.rings) all → IsTurn p place w b r s
    → start_at p place ≡ r.start → old ≡ get_or all place old → new.sources.items ≡ old.sources.items
    → new.readers.items ≡ old.readers.items → new.passed ≡ 0 → IsFit (buffers_of p.code p.inputs) w.loop (turn_point w.loop (start_at p place)) new.state
    → AreTurns p.code p.inputs (starts_of (turned p place b r s).rings) (slice_set all place new)
new-turns p all place w old new b r s are turn stands at sources readers none fit =
    let here = own-turns p all place w old are turn.of at in
    let within = (has-many p all place w are turn.of).rings in
    let long = length-map p.rings (λ (x : RingParts). x.start) in
    let start : get_or (slice_set (starts_of p.rings) place s.end) place (pos 0) ≡ s.end =
    get_or_from_slice_get (slice_set (starts_of p.rings) place s.end) place s.end (pos 0)
    (slice_get-set_same (starts_of p.rings) place s.end (omega arith)) in
    let later = turn_point-rises w.loop (start_at p place) s.end turn.grid (omega (arith, ints)) in
    let own : AreTurnsOf p.code p.inputs (slice_set (starts_of p.rings) place s.end) place w new = record {
      sources = subst (AreSources (length p.inputs) (body_reads w.loop.body)) (sym sources) here.sources;
      readers = subst (AreReaders p.code p.inputs 0 place) (sym readers) here.readers;
      fit = (
        turn_point w.loop (start_at p place),
        subst (λ (t : ℤ). turn_point w.loop (start_at p place) ≤ℤ turn_point w.loop t) (sym start) later,
        fit,
      );
      passed = λ i x below found. absurd (omega (arith, none));
    } in
    let rises = turn.next.rises in
    subst (λ (starts : List ℤ). AreTurns p.code p.inputs starts (slice_set all place new)) (sym (turned-starts p place b r s))
    (turns-set p.code p.inputs (starts_of p.rings) all place s.end w new are turn.of (omega (arith, ints)) own)

-- after a turn, a ring is still held by another loop, or by none; the ring of the loop itself, if it held a snapshot before
module _ (c d : Chain) (place k : ℕ) (w : Work) (b : Bool) (r : RingParts) (s : Snapshot) (turn : IsTurn c.rings place w b r s)
    (rings : d.rings ≡ turned c.rings place b r s) (holders : d.holders.items ≡ c.holders.items) (is : IsChain c) where
  pub held-after : (x : Option Reader) → (k ≡ place → 0 < length r.held) → ((reader : Reader) → x ≡ Some reader → reader.place ≢ place)
      → slice_get d.holders.items k ≡ Some x → IsHeldBy d.rings k x
  held-after x some other at =
      subst (λ (q : RingsParts). IsHeldBy q k x) (sym rings) (turned-held c.rings place k w b r s x turn some other
      (is.held k x (ap (λ (xs : List (Option Reader)). slice_get xs k) (sym holders) ∙ at)))

  -- once the loop's own ring is settled, each other one is, or it is in the loop's list
  pub turned-left : (z : Chain) → d.held.items ≡ c.held.items → MayLetGo d → LetsGo d z place → IsSettled z place → k < length z.rings.rings
      → IsLeft z place (length (held_in z.held.items place)) k
  turned-left z lists may goes settled there =
      elim (cases_eq k place) as (λ _. IsLeft z place (length (held_in z.held.items place)) k) [
        | inl same ↦ inl (subst (IsSettled z) (sym same) settled)
        | inr other ↦ (
            let below : k < length d.rings.rings = omega (arith, there, alike-long d.rings z.rings goes.alike) in
            let x = slice_get-some d.holders.items k (holders-within d k may below) in by other x.0 x.1
            )
      ]
    where
      apart : (x : Option Reader) → k ≢ place → ((reader : Reader) → x ≡ Some reader → reader.place ≢ place) → slice_get d.holders.items k ≡ Some x
          → IsLeft z place (length (held_in z.held.items place)) k
      apart x other away at =
          inl (held-settled z k x (goes.others k other ∙ at)
          (subst (HasLetGo z.rings k) (sym (alike-holder d.rings z.rings x goes.alike))
          (goes.more k (holder_next d.rings x) (held-after x (λ same. absurd (other same)) away at))))

      by : k ≢ place → (x : Option Reader) → slice_get d.holders.items k ≡ Some x → IsLeft z place (length (held_in z.held.items place)) k
      by other None at = apart None other (λ reader no. absurd (cc no)) at
      by other (Some reader) at =
          elim (cases_eq reader.place place) as (λ _. IsLeft z place (length (held_in z.held.items place)) k) [
            | inl own ↦ (
                let was = is.lists.listed k reader (ap (λ (xs : List (Option Reader)). slice_get xs k) (sym holders) ∙ at) in
                let here = at-contains (held_in c.held.items place) k (subst (λ (n : ℕ). Contains (held_in c.held.items n) k) own was) in
                let now = goes.listed place here.0 k (ap (λ (all : List (Vec ℕ)). slice_get (held_in all place) here.0) lists ∙ here.1) in
                inr (here.0, slice_get_within (held_in z.held.items place) here.0 k now, now)
                )
            | inr away ↦ apart (Some reader) other (λ x same. subst (λ (y : Reader). y.place ≢ place) (same_Some reader x same) away) at
          ]
