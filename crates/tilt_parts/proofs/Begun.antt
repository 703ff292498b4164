-- Parts that are made one after another.
use Rattle.std.proofs.Common.{◌≡◌, ◌<◌, ◌+◌, ◌-ℤ◌, ◌<ℤ◌, ◌≤ℤ◌, ◌++◌, ◌∙◌, ℕ, suc, ℤ, pos, false, List, [], ◌∷◌, length, drop, get_or, Some, SFits, w64, sym, ap, subst, arith, append_assoc}
use Rattle.std.proofs.lemmas.Int.{ints}
use Rattle.std.proofs.lemmas.List.{length_push}
use Rattle.std.proofs.Math.Nat.{min-zero}
use Rattle.std.specs.List.{AllByRecursion}
use Rattle.tilt_base.proofs.Lists.{all-push, drop-at}
use Rattle.tilt_base.proofs.Wide.{wide_fits}
use Rattle.tilt_base.specs.declared.span.Span.{Span}
use Rattle.tilt_code.specs.Run.{run_of}
use Rattle.tilt_compiler.specs.Accepted.{AcceptedParts}
use Rattle.tilt_core.specs.Core.{IsStretch, domain_of}
use Rattle.tilt_lower.specs.Law.{LiesWithin}
use Rattle.tilt_parts.proofs.Whole.{cuts-up}
use Rattle.tilt_parts.specs.Part.{PartValue, part_after}
use Rattle.tilt_parts.specs.Parts.{AreInside, StandFrom, Stands, all_on, code_on, stretches}
use Rattle.tilt_stream.specs.Snap.{Snapshot}

-- a part that was made of a stretch follows the empty list of steps there
pub stands-new : (query : AcceptedParts) (rows : List (List Snapshot)) (place : ℕ) (stretch : Span) (part : PartValue)
    → run_of part.pipe.code rows ≡ all_on query rows stretch → part ≡ part_after stretch (code_on query stretch) rows 0
    → Stands query rows [] place stretch part
stands-new query rows place stretch part means is = record {
  stretch_is = ap (λ (p : PartValue). p.stretch) is;
  means = ap (λ (p : PartValue). run_of p.pipe.code rows) (sym is) ∙ means;
  after = λ granted. is ∙ ap (λ (n : ℕ). part_after stretch (code_on query stretch) rows n) (sym (min-zero (length (all_on query rows stretch))));
}

-- the parts up to a cut: any parts that follow the steps from there on go on from them
pub record AreBegun (query : AcceptedParts) (rows : List (List Snapshot)) (domain : Span) (cuts : List ℤ) (start : ℤ) (left : List ℤ)
    (parts : List PartValue) : Type 0 where
  pub before : ℤ
  pub low : domain.start ≤ℤ start
  pub near : start ≤ℤ before
  pub inside : AreInside before left domain.end
  pub fresh : AllByRecursion (λ (part : PartValue). part.refused ≡ false) parts
  pub stand : (more : List PartValue) → StandFrom query rows [] (length parts) (stretches start left domain.end) more
      → StandFrom query rows [] 0 (stretches domain.start cuts domain.end) (parts ++ more)

pub begun-none : (query : AcceptedParts) (rows : List (List Snapshot)) (domain : Span) (cuts : List ℤ)
    → AreInside domain.start cuts domain.end → AreBegun query rows domain cuts domain.start cuts []
begun-none query rows domain cuts inside = record {
  before = domain.start;
  low = omega (arith, ints);
  near = omega (arith, ints);
  inside = inside;
  fresh = tt;
  stand = λ more stand. stand;
}

module _ (query : AcceptedParts) (rows : List (List Snapshot)) (domain : Span) (cuts : List ℤ) (start : ℤ) where
  -- the cut that comes next lies where its part may end
  next_inside : (before cut : ℤ) (left : List ℤ) → domain.start ≤ℤ start → start ≤ℤ before → AreInside before (cut ∷ left) domain.end
      → (domain.start ≤ℤ start) × (start <ℤ cut) × (cut ≤ℤ domain.end)
  next_inside before cut left low near inside =
      let first = inside.0 in
      let up = cuts-up cut left domain.end inside.1 in
      (low, omega (arith, ints), omega (arith, ints))

  pub next-inside : (cut : ℤ) (i : ℕ) (parts : List PartValue) → i < length cuts → cut ≡ get_or cuts i cut
      → AreBegun query rows domain cuts start (drop i cuts) parts → (domain.start ≤ℤ start) × (start <ℤ cut) × (cut ≤ℤ domain.end)
  next-inside cut i parts within is begun =
      next_inside begun.before cut (drop (i + 1) cuts) begun.low begun.near
      (subst (λ (l : List ℤ). AreInside begun.before l domain.end) (drop-at cuts cut i within is) begun.inside)

  -- so that it fits, and so does the tick before it
  pub cut-fits : (cut : ℤ) (i : ℕ) (parts : List PartValue) → IsStretch (Some domain) → i < length cuts → cut ≡ get_or cuts i cut
      → AreBegun query rows domain cuts start (drop i cuts) parts → SFits w64 cut × SFits w64 (cut -ℤ pos 1)
  cut-fits cut i parts stretch within is begun =
      let inside = next-inside cut i parts within is begun in
      let a = inside.0 in
      let b = inside.1 in
      let e = inside.2 in
      let low = stretch.0 in
      let high = stretch.2 in
      (wide_fits cut (omega (arith, ints)) (omega (arith, ints)), wide_fits (cut -ℤ pos 1) (omega (arith, ints)) (omega (arith, ints)))

  pub next-within : (cut : ℤ) (i : ℕ) (parts : List PartValue) → domain_of query.core.defs ≡ Some domain → i < length cuts → cut ≡ get_or cuts i cut
      → AreBegun query rows domain cuts start (drop i cuts) parts → LiesWithin (domain_of query.core.defs) start cut
  next-within cut i parts domain_is within is begun = rw domain_is (next-inside cut i parts within is begun)

  begun_next : (cut : ℤ) (left : List ℤ) (parts : List PartValue) (part : PartValue) → AreBegun query rows domain cuts start (cut ∷ left) parts
      → Stands query rows [] (length parts) (record { start = start; end = cut }) part → part.refused ≡ false
      → AreBegun query rows domain cuts (cut -ℤ pos 1) left (parts ++ part ∷ [])
  begun_next cut left parts part begun stands granted =
      let low = begun.low in
      let near = begun.near in
      let first = begun.inside.0 in
      let more_parts : length (parts ++ part ∷ []) ≡ suc (length parts) = length_push parts part ∙ omega arith in
      record {
        before = cut;
        low = omega (arith, ints);
        near = omega (arith, ints);
        inside = begun.inside.1;
        fresh = all-push (λ (p : PartValue). p.refused ≡ false) parts part begun.fresh granted;
        stand = λ more stand. subst (λ (l : List PartValue). StandFrom query rows [] 0 (stretches domain.start cuts domain.end) l)
            (sym (append_assoc parts (part ∷ []) more))
            (begun.stand (part ∷ more)
            (stands, subst (λ (n : ℕ). StandFrom query rows [] n (stretches (cut -ℤ pos 1) left domain.end) more) more_parts stand));
      }

  pub begun-next : (cut : ℤ) (i : ℕ) (parts : List PartValue) (part : PartValue) → i < length cuts → cut ≡ get_or cuts i cut
      → AreBegun query rows domain cuts start (drop i cuts) parts → run_of part.pipe.code rows ≡ all_on query rows (record { start = start; end = cut })
      → part ≡ part_after (record { start = start; end = cut }) (code_on query (record { start = start; end = cut })) rows 0
      → AreBegun query rows domain cuts (cut -ℤ pos 1) (drop (i + 1) cuts) (parts ++ part ∷ [])
  begun-next cut i parts part within is begun means made =
      begun_next cut (drop (i + 1) cuts) parts part
      (subst (λ (l : List ℤ). AreBegun query rows domain cuts start l parts) (drop-at cuts cut i within is) begun)
      (stands-new query rows (length parts) (record { start = start; end = cut }) part means made) (ap (λ (p : PartValue). p.refused) made)

  -- the last part
  pub all-begun : (parts : List PartValue) (part : PartValue) → AreBegun query rows domain cuts start [] parts
      → run_of part.pipe.code rows ≡ all_on query rows (record { start = start; end = domain.end })
      → part ≡ part_after (record { start = start; end = domain.end }) (code_on query (record { start = start; end = domain.end })) rows 0
      → StandFrom query rows [] 0 (stretches domain.start cuts domain.end) (parts ++ part ∷ [])
  all-begun parts part begun means made =
      begun.stand (part ∷ []) (stands-new query rows (length parts) (record { start = start; end = domain.end }) part means made, tt)
