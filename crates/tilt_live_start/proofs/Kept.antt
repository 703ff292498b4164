-- What is known of inputs from what sessions saw is in order.
use Rattle.std.proofs.Common.{◌≡◌, ℤ, neg_ℤ, ◌≤ℤ◌, List, Option, Some, None, refl, sym, subst, ◌∙◌, arith, append-nil}
use Rattle.std.proofs.lemmas.Int.{ints, clamps}
use Rattle.tilt_base.specs.declared.limits.TheConstants.{T}
use Rattle.tilt_checkpoint.specs.Checkpoint.{KeptParts}
use Rattle.tilt_checkpoint.specs.Cuts.{IsCut}
use Rattle.tilt_checkpoint.specs.Valid.{IsLastEnd, IsSeries}
use Rattle.tilt_feed.specs.Laws.{IsInOrder}
use Rattle.tilt_input_state.proofs.Ordered.{ends-order, none-order, order-ends}
use Rattle.tilt_live_start.specs.Seen.{kept_input, seen_input, seen_upto}
use Rattle.tilt_stream.specs.Snap.{AreRows, InOrder, Snapshot, last_end}

-- rows up to a watermark that isn't below their end
up-to : (rows : List Snapshot) (watermark : ℤ) → InOrder (neg_ℤ T) watermark rows → neg_ℤ T ≤ℤ watermark → watermark ≤ℤ T
    → IsInOrder (record { rows = rows; edge = record { open_row = None; watermark = watermark } })
up-to rows watermark order low high = record {
  rows = subst (InOrder (neg_ℤ T) watermark) (sym (append-nil rows)) order;
  low = low;
  high = high;
}

in-order_by : (cut : ℤ) (rows : List Snapshot) (end last : Option ℤ) → last_end rows ≡ end → (end ≡ None → (e : ℤ) → last ≡ Some e → e ≤ℤ T)
    → ((e : ℤ) → end ≡ Some e → last ≡ Some e) → AreRows rows → IsCut cut
    → IsInOrder (record { rows = rows; edge = record { open_row = None; watermark = seen_upto cut last } })
in-order_by cut rows None None is above ends order within =
    let low = within.0 in
    let high = within.1 in
    up-to rows (seen_upto cut None) (none-order (neg_ℤ T) (seen_upto cut None) rows is) (grind (arith, ints, clamps)) (grind (arith, ints, clamps))
in-order_by cut rows None (Some e) is above ends order within =
    let low = within.0 in
    let high = within.1 in
    let most = above refl e refl in
    up-to rows (seen_upto cut (Some e)) (none-order (neg_ℤ T) (seen_upto cut (Some e)) rows is) (grind (arith, ints, clamps)) (grind (arith, ints, clamps))
in-order_by cut rows (Some end) None is above ends order within = absurd (let some = ends end refl in cc some)
in-order_by cut rows (Some end) (Some e) is above ends order within =
    let low = within.0 in
    let high = within.1 in
    let most = order-ends (neg_ℤ T) T end rows order is in
    let same : e ≡ end = (let some = ends end refl in cc some) in
    up-to rows (seen_upto cut (Some e)) (ends-order (neg_ℤ T) T (seen_upto cut (Some e)) end rows order is (grind (arith, ints, clamps)))
    (grind (arith, ints, clamps)) (grind (arith, ints, clamps))

-- an input of which sessions saw these rows
pub seen-order : (cut : ℤ) (rows : List Snapshot) → AreRows rows → IsCut cut → IsInOrder (seen_input cut rows)
seen-order cut rows order within =
    in-order_by cut rows (last_end rows) (last_end rows) refl (λ none e some. absurd (let both = sym none ∙ some in cc both)) (λ e is. is) order within

-- the last end that is kept
last-high : (first cut : ℤ) (end last : Option ℤ) → IsLastEnd first cut end last → end ≡ None → (e : ℤ) → last ≡ Some e → e ≤ℤ T
last-high first cut (Some end) last is none e some = absurd (cc none)
last-high first cut None None is none e some = absurd (cc some)
last-high first cut None (Some last) is none e some = let high = is.1 in let same : last ≡ e = cc some in omega (arith, ints)

last-same : (first cut : ℤ) (end last : Option ℤ) → IsLastEnd first cut end last → (e : ℤ) → end ≡ Some e → last ≡ Some e
last-same first cut None last is e some = absurd (cc some)
last-same first cut (Some end) last is e some = let same : end ≡ e = cc some in subst (λ (t : ℤ). last ≡ Some t) same is

-- an input of which a checkpoint keeps this
pub kept-order : (first : ℤ) (kept : KeptParts) → IsSeries first kept → IsInOrder (kept_input kept)
kept-order first kept is =
    in-order_by kept.cut kept.rows (last_end kept.rows) kept.last_end refl (last-high first kept.cut (last_end kept.rows) kept.last_end is.last)
    (last-same first kept.cut (last_end kept.rows) kept.last_end is.last) is.in_order is.cut
