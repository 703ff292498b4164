-- The grid points of the next turns of loops.
use Rattle.std.proofs.Common.{◌≡◌, inl, inr, ℕ, ℤ, pos, ◌+ℤ◌, int_lt, Bool, true, false, ◌&&◌, if◌then◌else◌, List, get_or}
use Rattle.std.proofs.Common.{slice_get, slice_set, Option, Some, None, refl, sym, ap, ◌∙◌, subst, arith}
use Rattle.std.proofs.lemmas.Bool.{cases_eq}
use Rattle.std.proofs.lemmas.Int.{ints}
use Rattle.std.proofs.lemmas.List.{get_or-set_other}
use Rattle.std.proofs.lemmas.Option.{get_or_from_slice_get, same_Some, slice_get_within}
use Rattle.circular_buffer.proofs.Places.{slice_get-set_other, slice_get-set_same}
use Rattle.tilt_stream.specs.Snap.{Snapshot}
use Rattle.tilt_pipe.proofs.Trimming.{IsTurn, alike-works, turned, turned-starts}
use Rattle.tilt_pipe.specs.Chain.{ArePoints, point_at}
use Rattle.tilt_pipe.specs.Made.{Work}
use Rattle.tilt_pipe.specs.Positions.{IsOpen, RingParts, RingsParts, start_at, starts_of, works_in}
use Rattle.tilt_pipe.specs.Reads.{turn_point}
use Rattle.tilt_pipe.specs.Trimmed.{StandAlike, read_next}
use Rattle.tilt_pipe.specs.declared.chain.Reader.{Reader}

-- by whether the loop is used and before the end of its stretch
pub point-at : (p : RingsParts) (place : ℕ) (w : Work) (used before : Bool) → w.used ≡ used → int_lt (start_at p place) w.loop.hi ≡ before
    → point_at p place w ≡ (if used && before then Some (turn_point w.loop (start_at p place)) else None)
point-at p place w used before mark test =
    let next : Option ℤ = Some (turn_point w.loop (start_at p place)) in
    ap (λ (b : Bool). if b && int_lt (start_at p place) w.loop.hi then next else None) mark
    ∙ ap (λ (b : Bool). if used && b then next else None) test

-- a loop at work is before the end of its stretch
pub record IsAtWork (p : RingsParts) (place : ℕ) (w : Work) (point : ℤ) : Type 0 where
  pub is_open : IsOpen p place w
  pub at : point ≡ turn_point w.loop (start_at p place)

pub at-work : (p : RingsParts) (place : ℕ) (w : Work) (point : ℤ) → slice_get (works_in p) place ≡ Some w
    → point_at p place w ≡ Some point → IsAtWork p place w point
at-work p place w point is at = by w.used (int_lt (start_at p place) w.loop.hi) refl at
  where
    by : (used before : Bool) → int_lt (start_at p place) w.loop.hi ≡ before
        → (if used && before then Some (turn_point w.loop (start_at p place)) else None) ≡ Some point → IsAtWork p place w point
    by true true test at =
        record {
          is_open = record { is = is; before = grind (arith, ints) };
          at = sym (same_Some (turn_point w.loop (start_at p place)) point at);
        }
    by true false test at = absurd (cc at)
    by false before test at = absurd (cc at)

pub open-point : (p : RingsParts) (place : ℕ) (w : Work) → IsOpen p place w → w.used ≡ true
    → point_at p place w ≡ Some (turn_point w.loop (start_at p place))
open-point p place w is_open used =
    let test : int_lt (start_at p place) w.loop.hi ≡ true = grind (arith, ints) in
    point-at p place w true true used test

-- the point that is found of a loop
pub point-found : (p : RingsParts) (points : List (Option ℤ)) (place : ℕ) (w : Work) (point : Option ℤ) → ArePoints p points
    → slice_get (works_in p) place ≡ Some w → point ≡ get_or points place point → point ≡ point_at p place w
point-found p points place w point are is at = at ∙ get_or_from_slice_get points place (point_at p place w) point (are place w is)

-- what a reader reads next, from the point of its loop
abbrev pub read_from : Option ℤ → ℤ → Option ℤ
read_from None first = None
read_from (Some point) first = Some (point +ℤ first)

pub reads-from : (p : RingsParts) (reader : Reader) (w : Work) → slice_get (works_in p) reader.place ≡ Some w
    → read_next p reader (slice_get (works_in p) reader.place) ≡ read_from (point_at p reader.place w) reader.first
reads-from p reader w is = ap (read_next p reader) is ∙ by (w.used && int_lt (start_at p reader.place) w.loop.hi)
  where
    by : (test : Bool) → (if test then Some (turn_point w.loop (start_at p reader.place) +ℤ reader.first) else None)
        ≡ read_from (if test then Some (turn_point w.loop (start_at p reader.place)) else None) reader.first
    by true = refl
    by false = refl

-- the point from the positions of the loops
abbrev point_of : List ℤ → ℕ → Work → Option ℤ
point_of starts k w = if w.used && int_lt (get_or starts k (pos 0)) w.loop.hi then Some (turn_point w.loop (get_or starts k (pos 0))) else None

pub alike-points : (p q : RingsParts) (points : List (Option ℤ)) → StandAlike p q → ArePoints p points → ArePoints q points
alike-points p q points a are = λ k w of.
    are k w (subst (λ (ws : List Work). slice_get ws k ≡ Some w) (alike-works p q a) of)
    ∙ ap (λ (starts : List ℤ). Some (point_of starts k w)) (sym a.starts)

-- those after a turn
pub turned-points : (p : RingsParts) (place : ℕ) (w : Work) (b : Bool) (r : RingParts) (s : Snapshot) (points : List (Option ℤ)) → IsTurn p place w b r s
    → ArePoints p points → ArePoints (turned p place b r s) (slice_set points place (point_at (turned p place b r s) place w))
turned-points p place w b r s points turn are = λ k v of.
    let q = turned p place b r s in
    let point = point_at q place w in
    let within = slice_get_within points place (point_at p place w) (are place w turn.of) in
    elim (cases_eq k place) as (λ _. slice_get (slice_set points place point) k ≡ Some (point_at q k v)) [
      | inl same ↦ (
          let loop : w ≡ v = same_Some w v (sym turn.of ∙ ap (slice_get (works_in p)) (sym same) ∙ of) in
          ap (slice_get (slice_set points place point)) same ∙ slice_get-set_same points place point within
          ∙ ap (λ (x : Work). Some (point_at q place x)) loop ∙ ap (λ (n : ℕ). Some (point_at q n v)) (sym same)
          )
      | inr other ↦ (
          slice_get-set_other points place k point other ∙ are k v of
          ∙ ap (λ (t : ℤ). Some (if v.used && int_lt t v.loop.hi then Some (turn_point v.loop t) else None))
          (sym (ap (λ (starts : List ℤ). get_or starts k (pos 0)) (turned-starts p place b r s)
          ∙ get_or-set_other (starts_of p.rings) place k s.end (pos 0) other))
          )
    ]
