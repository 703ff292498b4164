-- Where the ticks that an edit reaches lie.
use Rattle.std.proofs.Common.{◌≡◌, ℤ, pos, neg_ℤ, SFits, w64, to_z, of_z, ◌∙◌, ◌+ℤ◌, ◌-ℤ◌, ◌<ℤ◌, ◌≤ℤ◌, Bool, true, false, if◌then◌else◌, Option, Some, None, ◌⊎◌, inl, inr, refl, sym, ap, arith}
use Rattle.std.specs.Prelude.{int_lt, option_and_then}
use Rattle.std.specs.Int.{int_max, int_min}
use Rattle.std.proofs.lemmas.Int.{ints, clamps, by_lt_z, to_z-of_z}
use Rattle.tilt_base.proofs.Wide.{wide_fits}
use Rattle.tilt_base.specs.declared.limits.TheConstants.{REACH, T}
use Rattle.tilt_base.specs.declared.span.Span.{Span}
use Rattle.tilt_bounds.specs.Margins.{IsWithin, evenly}
use Rattle.tilt_core.specs.Core.{IsStretch}
use Rattle.tilt_core.specs.Needs.{Need}
use Rattle.tilt_fix.proofs.Reaching.{IsFar}
use Rattle.tilt_fix.specs.Reached.{looking_at}

-- a stretch of the domain: it begins with the domain, or before it nothing is looked at that differs; and so at its end
pub record IsStretchOf (domain : Span) (n : Need) (start end : ℤ) (span : Span) : Type 0 where
  pub low : domain.start ≤ℤ span.start
  pub some : span.start <ℤ span.end
  pub high : span.end ≤ℤ domain.end
  pub left : (span.start ≡ domain.start) ⊎ ((span.start +ℤ n.ahead) ≤ℤ start)
  pub right : (span.end ≡ domain.end) ⊎ (end ≤ℤ (span.end -ℤ pos 1 -ℤ n.back))

ticks-some : (lo hi : ℤ) (test : Bool) (span : Span) → int_lt lo hi ≡ test
    → (if test then Some (record { start = lo; end = hi }) else None) ≡ Some span → (span.start ≡ lo) × (span.end ≡ hi) × (lo <ℤ hi)
ticks-some lo hi true span below is =
    let e : (let made : Span = record { start = lo; end = hi } in made ≡ span) = cc is in
    (sym (ap (λ (s : Span). s.start) e), sym (ap (λ (s : Span). s.end) e), grind (arith, ints))
ticks-some lo hi false span below is = absurd (cc is)

ticks-none : (lo hi : ℤ) (test : Bool) → int_lt lo hi ≡ test
    → ◌≡◌ {A = Option Span} (if test then Some (record { start = lo; end = hi }) else None) None → hi ≤ℤ lo
ticks-none lo hi true below is = absurd (cc is)
ticks-none lo hi false below is = grind (arith, ints)

-- bounds that are the greater or the lesser of two
greater : (a b c : ℤ) → c ≡ int_max a b → (a ≤ℤ c) × ((c ≡ a) ⊎ (c ≤ℤ b))
greater a b c is =
    by_lt_z a b
    (λ below. (omega (arith, ints, clamps), inr (omega (arith, ints, clamps))))
    (λ above. (omega (arith, ints, clamps), inl (omega (arith, ints, clamps))))

lesser : (a b c : ℤ) → c ≡ int_min a b → (c ≤ℤ a) × ((c ≡ a) ⊎ (b ≤ℤ c))
lesser a b c is =
    by_lt_z a b
    (λ below. (omega (arith, ints, clamps), inl (omega (arith, ints, clamps))))
    (λ above. (omega (arith, ints, clamps), inr (omega (arith, ints, clamps))))

left_of : (n : Need) (start first at : ℤ) → (at ≡ first) ⊎ (at ≤ℤ (start -ℤ n.ahead)) → (at ≡ first) ⊎ ((at +ℤ n.ahead) ≤ℤ start)
left_of n start first at (inl is) = inl is
left_of n start first at (inr low) = inr (omega (arith, ints))

right_of : (n : Need) (end last at : ℤ) → (at ≡ last) ⊎ ((end +ℤ n.back +ℤ pos 1) ≤ℤ at) → (at ≡ last) ⊎ (end ≤ℤ (at -ℤ pos 1 -ℤ n.back))
right_of n end last at (inl is) = inl is
right_of n end last at (inr low) = inr (omega (arith, ints))

module _ (domain : Span) (start end : ℤ) where
  -- the ticks that look at a stretch, where there are some
  pub looking-some : (n : Option Need) (span : Span) → option_and_then (looking_at domain start end) n ≡ Some span
      → (m : Need) × (n ≡ Some m) × IsStretchOf domain m start end span
  looking-some None span is = absurd (cc is)
  looking-some (Some n) span is =
      let lo = int_max domain.start (start -ℤ n.ahead) in
      let hi = int_min domain.end (end +ℤ n.back +ℤ pos 1) in
      let at = ticks-some lo hi (int_lt lo hi) span refl is in
      let l = greater domain.start (start -ℤ n.ahead) span.start at.0 in
      let r = lesser domain.end (end +ℤ n.back +ℤ pos 1) span.end at.1 in
      let a = at.0 in
      let b = at.1 in
      let c = at.2 in (
        n,
        refl,
        record {
          low = l.0;
          some = omega (arith, ints);
          high = r.0;
          left = left_of n start domain.start span.start l.1;
          right = right_of n end domain.end span.end r.1;
        },
      )

  -- where there are none, the whole domain is far away
  none-far : (n : Need) → pos 0 ≤ℤ n.back → pos 0 ≤ℤ n.ahead → domain.start <ℤ domain.end → start <ℤ end
      → int_min domain.end (end +ℤ n.back +ℤ pos 1) ≤ℤ int_max domain.start (start -ℤ n.ahead) → IsFar (Some n) start end domain.start domain.end
  none-far n back ahead some width none =
      by_lt_z start (domain.end +ℤ n.ahead)
      (λ below. inr (omega (arith, ints, clamps)))
      (λ above. inl above)

  pub looking-none : (limit : Need) (n : Option Need) → IsWithin limit n → domain.start <ℤ domain.end → start <ℤ end
      → option_and_then (looking_at domain start end) n ≡ None → IsFar n start end domain.start domain.end
  looking-none limit None within some width is = tt
  looking-none limit (Some n) within some width is =
      let lo = int_max domain.start (start -ℤ n.ahead) in
      let hi = int_min domain.end (end +ℤ n.back +ℤ pos 1) in
      none-far n within.0 within.2 some width (ticks-none lo hi (int_lt lo hi) refl is)

-- the ticks that look at a stretch, from their bounds
pub looking-is : (domain : Span) (start end first last : ℤ) (n : Need) → first ≡ int_max domain.start (start -ℤ n.ahead)
    → last ≡ int_min domain.end (end +ℤ n.back +ℤ pos 1) → (test : Bool) → int_lt first last ≡ test
    → (if test then Some (record { start = first; end = last }) else None) ≡ looking_at domain start end n
looking-is domain start end first last n first_is last_is test is = rw (← is, first_is, last_is) refl

-- the same from bounds that were computed in 64 bits
module _ (domain : Span) (start end back ahead found_start found_end first last : ℤ) (stretch : IsStretch (Some domain))
    (near : IsWithin (evenly REACH) (Some (record { back = back; ahead = ahead }))) (low : neg_ℤ T ≤ℤ start) (some : start <ℤ end) (high : end ≤ℤ T)
    (start_is : found_start ≡ start) (end_is : found_end ≡ end)
    (first_is : first ≡ int_max (to_z w64 (of_z w64 domain.start)) (to_z w64 (of_z w64 (to_z w64 (of_z w64 found_start) -ℤ to_z w64 (of_z w64 ahead)))))
    (last_is : last ≡ int_min (to_z w64 (of_z w64 domain.end))
    (to_z w64 (of_z w64 (to_z w64 (of_z w64 (to_z w64 (of_z w64 found_end) +ℤ to_z w64 (of_z w64 back))) +ℤ pos 1)))) where
  first-exact : first ≡ int_max domain.start (start -ℤ ahead)
  first-exact =
      let a = stretch.0 in
      let b = stretch.1 in
      let d = stretch.2 in
      let e = near.2 in
      let f = near.3 in
      first_is ∙ rw (
        start_is,
        to_z-of_z w64 start (wide_fits start (omega (arith, ints)) (omega (arith, ints))),
        to_z-of_z w64 ahead (wide_fits ahead (omega (arith, ints)) (omega (arith, ints))),
        to_z-of_z w64 (start -ℤ ahead) (wide_fits (start -ℤ ahead) (omega (arith, ints)) (omega (arith, ints))),
        to_z-of_z w64 domain.start (wide_fits domain.start (omega (arith, ints)) (omega (arith, ints))),
      ) refl

  last-exact : last ≡ int_min domain.end (end +ℤ back +ℤ pos 1)
  last-exact =
      let a = stretch.0 in
      let b = stretch.1 in
      let d = stretch.2 in
      let e = near.0 in
      let f = near.1 in
      last_is ∙ rw (
        end_is,
        to_z-of_z w64 end (wide_fits end (omega (arith, ints)) (omega (arith, ints))),
        to_z-of_z w64 back (wide_fits back (omega (arith, ints)) (omega (arith, ints))),
        to_z-of_z w64 (end +ℤ back) (wide_fits (end +ℤ back) (omega (arith, ints)) (omega (arith, ints))),
        to_z-of_z w64 (end +ℤ back +ℤ pos 1) (wide_fits (end +ℤ back +ℤ pos 1) (omega (arith, ints)) (omega (arith, ints))),
        to_z-of_z w64 domain.end (wide_fits domain.end (omega (arith, ints)) (omega (arith, ints))),
      ) refl

  first-fits : SFits w64 first
  first-fits =
      let a = stretch.0 in
      let b = stretch.1 in
      let d = stretch.2 in
      let e = near.2 in
      let f = near.3 in
      let is = first-exact in
      wide_fits first (omega (arith, ints, clamps)) (omega (arith, ints, clamps))

  last-fits : SFits w64 last
  last-fits =
      let a = stretch.0 in
      let b = stretch.1 in
      let d = stretch.2 in
      let e = near.0 in
      let f = near.1 in
      let is = last-exact in
      wide_fits last (omega (arith, ints, clamps)) (omega (arith, ints, clamps))

  pub looked : (test : Bool) → int_lt (to_z w64 (of_z w64 first)) (to_z w64 (of_z w64 last)) ≡ test
      → (if test then Some (record { start = to_z w64 (of_z w64 first); end = to_z w64 (of_z w64 last) }) else None)
      ≡ looking_at domain start end (record { back = back; ahead = ahead })
  looked test is =
      let p = to_z-of_z w64 first first-fits in
      let q = to_z-of_z w64 last last-fits in
      rw (p, q) (looking-is domain start end first last (record { back = back; ahead = ahead }) first-exact last-exact test (rw (p, q) at is))
