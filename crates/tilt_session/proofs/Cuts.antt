-- Cuts that don't fall, and what is printed after the last one.
use Rattle.std.proofs.Common.{◌≡◌, ◌<◌, ◌+◌, ℕ, zero, suc, ℤ, pos, negsuc, rules, neg_ℤ, ◌≤ℤ◌, List, [], ◌∷◌, length, drop, slice_index_or, Some, Result, Ok, Err, arith, ap, ◌∙◌, sym, FitsSigned}
use Rattle.std.specs.Prelude.{IfOk}
use Rattle.std.specs.Int.{w64}
use Rattle.std.proofs.lemmas.Int.{ints}
use Rattle.std.specs.declared.alloc.AllocError.{AllocError}
use Rattle.tilt_base.specs.declared.limits.TheConstants.{T}
use Rattle.tilt_session.specs.Emitted.{emitted}
use Rattle.tilt_session.specs.declared.cut.Cut.TheVariants.{End}
use Rattle.tilt_session.proofs.Whole.{output-given}
use Rattle.tilt_stream.specs.Snap.{Snapshot}
use Rattle.tilt_base.specs.declared.span.Span.{Span}
use Rattle.tilt_core.specs.Core.{CoreParts, domain_of}
use Rattle.tilt_core.specs.Meaning.{output_of}
use Rattle.tilt_cli.specs.Number.{RiseFrom}

-- the next of cuts that don't fall
pub rise-at : (from limit : ℤ) (cuts : List ℤ) (i : ℕ) → i < length cuts → RiseFrom from limit (drop i cuts)
    → (from ≤ℤ slice_index_or cuts i (pos 0)) × (slice_index_or cuts i (pos 0) ≤ℤ limit) × RiseFrom (slice_index_or cuts i (pos 0)) limit (drop (i + 1) cuts)
rise-at from limit [] i within h = absurd (omega arith)
rise-at from limit (cut ∷ cuts) zero within h = (h.0, h.1, h.2)
rise-at from limit (cut ∷ cuts) (suc i) within h =
    let same : suc i + 1 ≡ suc (i + 1) = omega arith in
    rw same (rise-at from limit cuts i (omega arith) h)

cut-in_bounds : (cut : ℤ) → neg_ℤ (pos 4000000000000000000) ≤ℤ cut → cut ≤ℤ pos 4000000000000000000 → FitsSigned w64 cut
cut-in_bounds (pos n) low high = search rules
cut-in_bounds (negsuc n) low high = search rules

-- a cut after one that lies in the range of times fits 64 bits
pub cut-fits : (old new : ℤ) → neg_ℤ T ≤ℤ old → old ≤ℤ new → new ≤ℤ T → FitsSigned w64 new
cut-fits old new low up high =
    let above : neg_ℤ T ≤ℤ new = omega (arith, ints) in
    cut-in_bounds new above high

-- what is printed at the end is what the query gives
pub all-output : (core : CoreParts) (rows : List (List Snapshot)) (domain : Span) (result : Result (List Snapshot) AllocError) → domain_of core.defs ≡ Some domain → length rows ≡ length core.inputs
    → IfOk result (λ list. list ≡ emitted core rows End) → IfOk result (λ list. output_of core rows ≡ Some list)
all-output core rows domain (Ok list) is many all = output-given core rows domain is many ∙ ap (λ (l : List Snapshot). Some l) (sym all)
all-output core rows domain (Err fault) is many all = tt
