-- The position of a loop, and what it has made there: the part of its whole buffer that ends there.
use Rattle.std.proofs.Common.{◌≡◌, ◌⊎◌, inl, inr, ◌<◌, ℤ, pos, neg_ℤ, ◌+ℤ◌, ◌<ℤ◌, ◌≤ℤ◌, true, false, int_lt, int_le, List, [], ◌∷◌, ◌++◌, length, slice_get, Some, None, refl, sym, ap, ◌∙◌, subst}
use Rattle.std.proofs.Common.{arith}
use Rattle.std.proofs.lemmas.Int.{ints, by_lt_z}
use Rattle.std.proofs.lemmas.List.{length-append}
use Rattle.std.proofs.lemmas.Option.{same_Some, slice_get_within}
use Rattle.circular_buffer.proofs.Places.{slice_get-append_right}
use Rattle.tilt_base.specs.declared.limits.TheConstants.{WIDE}
use Rattle.tilt_stream.proofs.Filling.{Fill-AreSnapshots, Fill-up}
use Rattle.tilt_code.proofs.Turns.{turns_until-first}
use Rattle.tilt_code.specs.Body.{body_of}
use Rattle.tilt_code.specs.Code.{LoopParts}
use Rattle.tilt_base.specs.Grid.{GridPoints, IsGrid}
use Rattle.tilt_code.specs.Meaning.{IsTimed}
use Rattle.tilt_code.specs.Turn.{turn, turns_until, turns}
use Rattle.tilt_pipe.specs.Positions.{made_by}
use Rattle.std.specs.Option.{unwrap_or}
use Rattle.tilt_stream.specs.Snap.{Snapshot, InOrder, last_end, gap_before, Fill}
use Rattle.tilt_stream.specs.Stream.{Stream}

-- the first one is made, or none is
pub made-passed : (start : ℤ) (s : Snapshot) (ss : List Snapshot) → s.end ≤ℤ start → made_by start (s ∷ ss) ≡ s ∷ made_by start ss
made-passed start s ss low =
    let inside : int_le s.end start ≡ true = grind (arith, ints) in
    rw inside refl

pub made-stopped : (start : ℤ) (s : Snapshot) (ss : List Snapshot) → start <ℤ s.end → made_by start (s ∷ ss) ≡ []
made-stopped start s ss high =
    let outside : int_le s.end start ≡ false = grind (arith, ints) in
    rw outside refl

-- a loop that is at the end of its stretch has made its whole buffer
pub all-made : (lo hi start : ℤ) (whole : List Snapshot) → Fill lo hi whole → hi ≤ℤ start → made_by start whole ≡ whole
all-made lo hi start [] h end = refl
all-made lo hi start (s ∷ ss) h end =
    made-passed start s ss (omega (arith, ints, Fill-up s.end hi ss h.2)) ∙ ap (λ (rest : List Snapshot). s ∷ rest) (all-made s.end hi start ss h.2 end)

-- and one at the lower end nothing
pub none-made : (lo hi : ℤ) (whole : List Snapshot) → Fill lo hi whole → made_by lo whole ≡ []
none-made lo hi [] h = refl
none-made lo hi (s ∷ ss) h = made-stopped lo s ss h.1

pub none-fills : (lo hi : ℤ) (whole : List Snapshot) → Fill lo hi whole → Fill lo lo (made_by lo whole)
none-fills lo hi whole h = subst (Fill lo lo) (sym (none-made lo hi whole h)) refl

-- where the last one ends, where the first one does
pub ended-after : (lo : ℤ) (s : Snapshot) (ss : List Snapshot) → unwrap_or (last_end (s ∷ ss)) lo ≡ unwrap_or (last_end ss) s.end
ended-after lo s [] = refl
ended-after lo s (next ∷ ss) = ended-after lo next ss ∙ sym (ended-after s.end next ss)

-- what has filled a stretch ends where it ends
pub end-made : (lo start : ℤ) (made : List Snapshot) → Fill lo start made → unwrap_or (last_end made) lo ≡ start
end-made lo start [] h = h
end-made lo start (s ∷ made) h = ended-after lo s made ∙ end-made s.end start made h.2

-- a loop before the end of its stretch has reached a tick if it has reached that or the end
pub below_end : (tick start hi : ℤ) → (hi ≤ℤ start) ⊎ (tick ≤ℤ start) → start <ℤ hi → tick ≤ℤ start
below_end tick start hi (inl ended) some = absurd (omega (arith, ints))
below_end tick start hi (inr reached) some = reached

-- the next snapshot of a buffer: it begins at the loop's position, and once it is made the loop's position is its end
pub record IsNextMade (lo hi start : ℤ) (whole : List Snapshot) (s : Snapshot) : Type 0 where
  pub begins : s.start ≡ start
  pub more : made_by s.end whole ≡ made_by start whole ++ s ∷ []
  pub rises : start <ℤ s.end
  pub within : s.end ≤ℤ hi
  pub fill : Fill lo s.end (made_by s.end whole)

-- a whole buffer is what is made of it, and what isn't yet, which fills the rest of the stretch
pub made-rest : (lo hi start : ℤ) (whole : List Snapshot) → Fill lo hi whole → Fill lo start (made_by start whole)
    → (rest : List Snapshot) × (whole ≡ made_by start whole ++ rest) × Fill start hi rest
made-rest lo hi start [] h stands = ([], refl, sym stands ∙ h)
made-rest lo hi start (s ∷ ss) h stands =
    by_lt_z start s.end
    (λ high.
    let none = made-stopped start s ss high in
    let at : lo ≡ start = rw none at stands in
    (s ∷ ss, ap (λ (made : List Snapshot). made ++ s ∷ ss) (sym none), subst (λ (t : ℤ). Fill t hi (s ∷ ss)) at h)) (λ low.
    let some = made-passed start s ss low in
    let filled : Fill lo start (s ∷ made_by start ss) = rw some at stands in
    let later = made-rest s.end hi start ss h.2 filled.2 in (
      later.0,
      ap (λ (rest : List Snapshot). s ∷ rest) later.1 ∙ ap (λ (made : List Snapshot). made ++ later.0) (sym some),
      later.2,
    ))

made-on : (lo start tick : ℤ) (made rest : List Snapshot) → Fill lo start made → start ≤ℤ tick
    → made_by tick (made ++ rest) ≡ made ++ made_by tick rest
made-on lo start tick [] rest h le = refl
made-on lo start tick (s ∷ made) rest h le =
    made-passed tick s (made ++ rest) (omega (arith, ints, Fill-up s.end start made h.2))
    ∙ ap (λ (list : List Snapshot). s ∷ list) (made-on s.end start tick made rest h.2 le)

Fill-append : (lo start hi : ℤ) (made rest : List Snapshot) → Fill lo start made → Fill start hi rest → Fill lo hi (made ++ rest)
Fill-append lo start hi [] rest h k = subst (λ (t : ℤ). Fill t hi rest) (sym h) k
Fill-append lo start hi (s ∷ made) rest h k = (h.0, h.1, Fill-append s.end start hi made rest h.2 k)

pub next-is : (lo hi start : ℤ) (whole : List Snapshot) (s : Snapshot) → Fill lo hi whole → Fill lo start (made_by start whole)
    → slice_get whole (length (made_by start whole)) ≡ Some s → IsNextMade lo hi start whole s
next-is lo hi start whole s h stands is =
    let parts = made-rest lo hi start whole h stands in
    by parts.0 parts.1 parts.2
  where
    by : (rest : List Snapshot) → whole ≡ made_by start whole ++ rest → Fill start hi rest → IsNextMade lo hi start whole s
    by [] all fills =
        let within = slice_get_within whole (length (made_by start whole)) s is in
        absurd (omega (arith, ap length all, length-append (made_by start whole) []))
    by (x ∷ rest) all fills =
        let made = made_by start whole in
        let at = slice_get-append_right made (x ∷ rest) (length made) 0 (omega arith) in
        let same : x ≡ s = same_Some x s (sym (ap (λ (list : List Snapshot). slice_get list (length made)) all ∙ at) ∙ is) in
        let filled : Fill start hi (s ∷ rest) = subst (λ (y : Snapshot). Fill start hi (y ∷ rest)) same fills in
        let rises = filled.1 in
        let more : made_by s.end whole ≡ made ++ s ∷ [] =
        ap (made_by s.end) (all ∙ ap (λ (y : Snapshot). made ++ y ∷ rest) same)
        ∙ made-on lo start s.end made (s ∷ rest) stands (omega (arith, ints))
        ∙ ap (λ (list : List Snapshot). made ++ list) (made-passed s.end s rest (omega (arith, ints))
        ∙ ap (λ (list : List Snapshot). s ∷ list) (none-made s.end hi rest filled.2)) in
        record {
          begins = filled.0;
          more = more;
          rises = rises;
          within = Fill-up s.end hi rest filled.2;
          fill = rw more (Fill-append lo start s.end made (s ∷ []) stands (filled.0, rises, refl));
        }

-- if whole buffers are turns, the next one is the turn that begins at the loop's position
turn-next : (body : Stream) (grid : GridPoints) → IsGrid grid → (lo hi start : ℤ) (whole : List Snapshot)
    → whole ≡ turns_until body grid hi lo → Fill lo start (made_by start whole) → start <ℤ hi
    → slice_get whole (length (made_by start whole)) ≡ Some (turn body grid hi start)
turn-next body grid valid lo hi start [] is stands before =
    let both : [] ≡ turn body grid hi lo ∷ turns_until body grid hi (turn body grid hi lo).end =
    is ∙ turns_until-first body grid valid hi lo (omega (arith, ints)) in
    absurd (cc both)
turn-next body grid valid lo hi start (s ∷ ss) is stands before =
    let up = Fill-up lo start (made_by start (s ∷ ss)) stands in
    let both : s ∷ ss ≡ turn body grid hi lo ∷ turns_until body grid hi (turn body grid hi lo).end =
    is ∙ turns_until-first body grid valid hi lo (omega (arith, ints)) in
    let first : s ≡ turn body grid hi lo = cc both in
    by_lt_z start s.end
    (λ high.
    let none = made-stopped start s ss high in
    let at : lo ≡ start = rw none at stands in
    rw none (ap (λ (x : Snapshot). Some x) first ∙ ap (λ (t : ℤ). Some (turn body grid hi t)) at)) (λ low.
    let some = made-passed start s ss low in
    let filled : Fill lo start (s ∷ made_by start ss) = rw some at stands in
    let rest : ss ≡ turns_until body grid hi s.end = cc (both, first) in
    rw some (turn-next body grid valid s.end hi start ss rest filled.2 before))

pub next-made : (xs : List Stream) (l : LoopParts) (start : ℤ) → IsTimed l → Fill l.lo start (made_by start (turns xs l)) → start <ℤ l.hi
    → slice_get (turns xs l) (length (made_by start (turns xs l))) ≡ Some (turn (body_of xs l) l.grid l.hi start)
next-made xs l start timed stands before = turn-next (body_of xs l) l.grid timed.grid l.lo l.hi start (turns xs l) refl stands before

-- the null snapshot for the rest of a stretch, if there is a rest
pub gap-some : (start hi : ℤ) → start <ℤ hi → gap_before (Some start) hi ≡ record { start = start; end = hi; value = None } ∷ []
gap-some start hi some = let test : int_lt start hi ≡ true = grind (arith, ints) in rw test refl

pub gap-none : (start hi : ℤ) → hi ≤ℤ start → gap_before (Some start) hi ≡ []
gap-none start hi none = let test : int_lt start hi ≡ false = grind (arith, ints) in rw test refl

-- what is made, with that, fills the stretch, so that it is in order
gap-fills : (start hi : ℤ) → start ≤ℤ hi → Fill start hi (gap_before (Some start) hi)
gap-fills start hi within =
    by_lt_z start hi (λ some. rw (gap-some start hi some) (refl, some, refl)) (λ none. rw (gap-none start hi none) (omega (arith, ints)))

pub open-in_order : (lo hi start : ℤ) (made : List Snapshot) → neg_ℤ WIDE ≤ℤ lo → hi ≤ℤ WIDE → Fill lo start made → start ≤ℤ hi
    → InOrder (neg_ℤ WIDE) WIDE (made ++ gap_before (Some start) hi)
open-in_order lo hi start made low high h within =
    let fills = Fill-append lo start hi made (gap_before (Some start) hi) h (gap-fills start hi within) in
    (Fill-AreSnapshots lo hi (made ++ gap_before (Some start) hi) low high fills).in_order

-- each takes a tick at least
made-count : (lo start : ℤ) (made : List Snapshot) → Fill lo start made → (lo +ℤ pos (length made)) ≤ℤ start
made-count lo start [] h = omega (arith, ints)
made-count lo start (s ∷ made) h = omega (arith, ints, made-count s.end start made h.2)

pub made-few : (lo start : ℤ) (made : List Snapshot) → neg_ℤ WIDE ≤ℤ lo → start ≤ℤ WIDE → Fill lo start made
    → length made < 9223372036854775807
made-few lo start made low high h = omega (arith, ints, made-count lo start made h)
