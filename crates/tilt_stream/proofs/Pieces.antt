-- Parts of lists of snapshots, put together.
use Rattle.std.proofs.Common.{◌≡◌, ◌<◌, List, [], ◌∷◌, ◌++◌, length, Option, Some, None, ℤ, refl, ap, ◌∙◌, arith, length-append, neg_ℤ, inl, inr, sym, subst, append-nil, append_assoc}
use Rattle.std.specs.Prelude.{int_le}
use Rattle.std.specs.Option.{ForSome}
use Rattle.std.proofs.lemmas.Bool.{cases_Bool}
use Rattle.tilt_base.specs.declared.limits.TheConstants.{T, WIDE}
use Rattle.tilt_stream.proofs.Order.{InOrder-rest, last_end-push}
use Rattle.tilt_stream.specs.Snap.{Snapshot, AreSnapshots, InOrder, Touch, last_end}
use Rattle.tilt_stream.specs.Pieces.{without_last, last_start, joined_from, kept}

pub without_last-more : (s : Snapshot) (ss : List Snapshot) → 0 < length ss → without_last (s ∷ ss) ≡ s ∷ without_last ss
without_last-more s [] some = absurd (omega arith)
without_last-more s (next ∷ ss) some = refl

pub last_start-more : (s : Snapshot) (ss : List Snapshot) → 0 < length ss → last_start (s ∷ ss) ≡ last_start ss
last_start-more s [] some = absurd (omega arith)
last_start-more s (next ∷ ss) some = refl

-- the last one of two lists is that of the second, where it has one
pub without_last-append : (xs ys : List Snapshot) → 0 < length ys → without_last (xs ++ ys) ≡ xs ++ without_last ys
without_last-append [] ys some = refl
without_last-append (x ∷ xs) ys some =
    without_last-more x (xs ++ ys) (omega (arith, length-append xs ys)) ∙ ap (λ (l : List Snapshot). x ∷ l) (without_last-append xs ys some)

pub last_start-append : (xs ys : List Snapshot) → 0 < length ys → last_start (xs ++ ys) ≡ last_start ys
last_start-append [] ys some = refl
last_start-append (x ∷ xs) ys some = last_start-more x (xs ++ ys) (omega (arith, length-append xs ys)) ∙ last_start-append xs ys some

pub length-joined_from : (o : Option ℤ) (list : List Snapshot) → length (joined_from o list) ≡ length list
length-joined_from None list = refl
length-joined_from (Some start) [] = refl
length-joined_from (Some start) (s ∷ ss) = refl

-- all but the last, and where it starts
pub without_last-push : (front : List Snapshot) (last : Snapshot) → without_last (front ++ last ∷ []) ≡ front
without_last-push [] last = refl
without_last-push (s ∷ []) last = refl
without_last-push (s ∷ next ∷ ss) last = ap (λ (l : List Snapshot). s ∷ l) (without_last-push (next ∷ ss) last)

pub last_start-push : (front : List Snapshot) (last : Snapshot) → last_start (front ++ last ∷ []) ≡ Some last.start
last_start-push [] last = refl
last_start-push (s ∷ []) last = refl
last_start-push (s ∷ next ∷ ss) last = last_start-push (next ∷ ss) last

-- all but the last are snapshots too
InOrder-without_last : (from limit : ℤ) (list : List Snapshot) → InOrder from limit list → InOrder from limit (without_last list)
InOrder-without_last from limit [] h = tt
InOrder-without_last from limit (s ∷ []) h = tt
InOrder-without_last from limit (s ∷ next ∷ ss) h = (h.0, h.1, h.2, InOrder-without_last s.end limit (next ∷ ss) h.3)

Touch-without_last : (list : List Snapshot) → Touch list → Touch (without_last list)
Touch-without_last [] h = tt
Touch-without_last (s ∷ []) h = tt
Touch-without_last (s ∷ next ∷ []) h = tt
Touch-without_last (s ∷ next ∷ after ∷ ss) h = (h.0, Touch-without_last (next ∷ after ∷ ss) h.1)

pub AreSnapshots-without_last : (list : List Snapshot) → AreSnapshots list → AreSnapshots (without_last list)
AreSnapshots-without_last list h = record { in_order = InOrder-without_last (neg_ℤ WIDE) WIDE list h.in_order; touch = Touch-without_last list h.touch }

-- a row more is kept where it reaches far enough
pub kept-step : (first : ℤ) (rows all rest : List Snapshot) (row : Snapshot) → rows ++ kept first (row ∷ rest) ≡ all
    → (rows ++ kept first (row ∷ [])) ++ kept first rest ≡ all
kept-step first rows all rest row h =
    elim (cases_Bool (int_le first row.end)) [
      | inl is ↦ rw is (append_assoc rows (row ∷ []) (kept first rest) ∙ (rw is at h))
      | inr none ↦ rw none (ap (λ (l : List Snapshot). l ++ kept first rest) (append-nil rows) ∙ (rw none at h))
    ]

pub kept-behind : (first from : ℤ) (rows rest : List Snapshot) (row : Snapshot)
    → ForSome (last_end rows) (λ end. InOrder end T (row ∷ rest))
    → InOrder from T (row ∷ rest) → ForSome (last_end (rows ++ kept first (row ∷ []))) (λ end. InOrder end T rest)
kept-behind first from rows rest row h order =
    elim (cases_Bool (int_le first row.end)) [
      | inl is ↦ rw is (λ end ends. let e : Some end ≡ Some row.end = sym ends ∙ last_end-push rows row in
          let same : end ≡ row.end = cc in subst (λ (t : ℤ). InOrder t T rest) (sym same) order.3)
      | inr none ↦ rw none (λ end ends. InOrder-rest end T row rest (h end (ap last_end (sym (append-nil rows)) ∙ ends)))
    ]
