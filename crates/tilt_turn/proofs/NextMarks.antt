-- The next marks of what leaves read, and of a body.
use Rattle.std.proofs.Common.{◌≡◌, ◌<◌, ◌+◌, ℕ, zero, suc, ℤ, pos, ◌+ℤ◌, Bool, true, false, ◌||◌, inl, inr, List, [], ◌∷◌, ◌++◌, map, length, take}
use Rattle.std.proofs.Common.{get_or, Option, refl, sym, ap, ◌∙◌, arith}
use Rattle.std.proofs.lemmas.Bool.{cases_Bool, or_left, or_right}
use Rattle.std.proofs.lemmas.Int.{ints}
use Rattle.std.proofs.lemmas.List.{take_more}
use Rattle.std.proofs.Math.Bool.{or-false}
use Rattle.std.specs.List.{AllByRecursion}
use Rattle.tilt_base.proofs.Booleans.{or_step}
use Rattle.tilt_base.specs.declared.reducer.Reducer.{Reducer}
use Rattle.tilt_stream.proofs.Ended.{names-same}
use Rattle.tilt_code.specs.Body.{leaf_of, leaf_marked, body_of}
use Rattle.tilt_code.specs.Code.{Block, LoopParts}
use Rattle.tilt_code.specs.declared.instr.Instr.{Instr}
use Rattle.tilt_code.specs.declared.instr.Instr.TheVariants.{Const, Null, Argument, Port, Win, One, Two, If}
use Rattle.tilt_stream.specs.Marks.{NamesNextMark, joined}
use Rattle.tilt_stream.specs.Pointwise.{shifted, nothing}
use Rattle.tilt_stream.specs.Snap.{Snapshot}
use Rattle.tilt_stream.specs.Stream.{Stream}
use Rattle.tilt_turn.proofs.Repeats.{one-of-all}
use Rattle.tilt_turn.proofs.Stepwise.{all-weaker}
use Rattle.tilt_turn.specs.Held.{AreAllRead, IsAmong, IsOneOf, IsPlaceOf, IsPlacedBy, origin, places_of}
use Rattle.tilt_turn.specs.declared.placed.Placed.{Placed}
use Rattle.tilt_turn.specs.Picked.{reads}

-- a window has a mark where its buffer has one at its last tick or at its first
pub window-next : (xs : List Stream) (maps : List Block) (reducer : Reducer) (buffer : ℕ) (from to : ℤ) (number : Option ℕ)
    (y : Stream) (tick : ℤ) (answer : Option ℤ)
    → y ≡ get_or xs buffer nothing → NamesNextMark (joined (shifted y to) (shifted y (from +ℤ pos 1))) tick answer
    → NamesNextMark (leaf_of xs maps (Win reducer buffer from to number)) tick answer
window-next xs maps reducer buffer from to number y tick answer is names =
    names-same (leaf_of xs maps (Win reducer buffer from to number)) (joined (shifted y to) (shifted y (from +ℤ pos 1))) tick
    (λ other above.
    let first : other +ℤ from +ℤ pos 1 ≡ other +ℤ (from +ℤ pos 1) = omega (arith, ints) in
    ap (λ (t : ℤ). (get_or xs buffer nothing).mark (other +ℤ to) || (get_or xs buffer nothing).mark t) first
    ∙ ap (λ (z : Stream). z.mark (other +ℤ to) || z.mark (other +ℤ (from +ℤ pos 1))) (sym is))
    answer names

marked_push : (xs : List Stream) (maps : List Block) (tick : ℤ) (block : Block) (instr : Instr)
    → leaf_marked xs maps tick (block ++ instr ∷ []) ≡ (leaf_marked xs maps tick block || (leaf_of xs maps instr).mark tick)
marked_push xs maps tick [] instr = or-false ((leaf_of xs maps instr).mark tick)
marked_push xs maps tick (first ∷ block) instr =
    or_step ((leaf_of xs maps first).mark tick) (leaf_marked xs maps tick (block ++ instr ∷ [])) (leaf_marked xs maps tick block)
    ((leaf_of xs maps instr).mark tick) (marked_push xs maps tick block instr)

-- the body as far as one instruction more
pub body-next : (xs : List Stream) (l : LoopParts) (block : Block) (i : ℕ) (d : Instr) (tick : ℤ) (answer : Option ℤ)
    → i < length block
    → NamesNextMark (joined (body_of xs (record l { body = take i block })) (leaf_of xs l.maps (get_or block i d))) tick answer
    → NamesNextMark (body_of xs (record l { body = take (i + 1) block })) tick answer
body-next xs l block i d tick answer within names =
    let instr = get_or block i d in
    names-same (body_of xs (record l { body = take (i + 1) block }))
    (joined (body_of xs (record l { body = take i block })) (leaf_of xs l.maps instr)) tick
    (λ other above. ap (leaf_marked xs l.maps other) (take_more block i d within) ∙ marked_push xs l.maps other (take i block) instr)
    answer names

-- the marks of an instruction are among those of its block
marked-at : (xs : List Stream) (maps : List Block) (tick : ℤ) (block : Block) (k : ℕ) (d : Instr) → k < length block
    → (leaf_of xs maps (get_or block k d)).mark tick ≡ true → leaf_marked xs maps tick block ≡ true
marked-at xs maps tick [] k d within is = absurd (omega arith)
marked-at xs maps tick (i ∷ block) zero d within is = or_left ((leaf_of xs maps i).mark tick) (leaf_marked xs maps tick block) is
marked-at xs maps tick (i ∷ block) (suc k) d within is =
    or_right ((leaf_of xs maps i).mark tick) (leaf_marked xs maps tick block) (marked-at xs maps tick block k d (omega arith) is)

-- and those of a block are those of some of its instructions
marked-some : (xs : List Stream) (maps : List Block) (tick : ℤ) (block : Block) (d : Instr) → leaf_marked xs maps tick block ≡ true
    → (k : ℕ) × (k < length block) × ((leaf_of xs maps (get_or block k d)).mark tick ≡ true)
marked-some xs maps tick [] d is = cc
marked-some xs maps tick (i ∷ block) d is =
    elim (cases_Bool ((leaf_of xs maps i).mark tick)) [
      | inl here ↦ (0, omega arith, here)
      | inr none ↦
          let rest = marked-some xs maps tick block d (rw none at is) in
          (suc rest.0, omega (arith, rest.1), rest.2)
    ]

-- what doesn't read a buffer has no marks
marks-read : (xs : List Stream) (maps : List Block) (tick : ℤ) (i : Instr) → (leaf_of xs maps i).mark tick ≡ true → reads i ≡ true
marks-read xs maps tick (Const number) is = cc
marks-read xs maps tick Null is = cc
marks-read xs maps tick Argument is = cc
marks-read xs maps tick (Port buffer offset) is = refl
marks-read xs maps tick (Win reducer buffer from to number) is = refl
marks-read xs maps tick (One op a) is = cc
marks-read xs maps tick (Two op a b) is = cc
marks-read xs maps tick (If c a b) is = cc

-- the instruction at the first of these places
abbrev pub first_of : Block → List ℕ → Instr
first_of body [] = Null
first_of body (place ∷ rest) = get_or body place (Const (pos 0))

-- the same instruction is at all of these places
abbrev pub AreEqual : Block → List ℕ → Type 0
AreEqual body own = AllByRecursion (IsPlaceOf body (first_of body own)) own

equal-at : (body : Block) (i : Instr) (place : ℕ) (own : List ℕ) → AllByRecursion (IsPlaceOf body i) own → IsOneOf place own
    → get_or body place (Const (pos 0)) ≡ i
equal-at body i place own all is = one-of-all (λ k. get_or body k (Const (pos 0)) ≡ i) place own (all-weaker (IsPlaceOf body i) _ own (λ k at. at.1) all) is

leaves-within : (xs : List Stream) (maps : List Block) (tick : ℤ) (body : Block) (leaves : List (List ℕ)) → AllByRecursion (AreEqual body) leaves
    → leaf_marked xs maps tick (map (first_of body) leaves) ≡ true → leaf_marked xs maps tick body ≡ true
leaves-within xs maps tick body [] all is = cc
leaves-within xs maps tick body ([] ∷ rest) all is = leaves-within xs maps tick body rest all.1 is
leaves-within xs maps tick body ((place ∷ own) ∷ rest) all is =
    elim (cases_Bool ((leaf_of xs maps (get_or body place (Const (pos 0)))).mark tick)) [
      | inl here ↦ marked-at xs maps tick body place (Const (pos 0)) all.0.0.0 here
      | inr none ↦ leaves-within xs maps tick body rest all.1 (rw none at is)
    ]

among-marked : (xs : List Stream) (maps : List Block) (tick : ℤ) (body : Block) (place : ℕ) (leaves : List (List ℕ))
    → AllByRecursion (AreEqual body) leaves → (leaf_of xs maps (get_or body place (Const (pos 0)))).mark tick ≡ true → IsAmong place leaves
    → leaf_marked xs maps tick (map (first_of body) leaves) ≡ true
among-marked xs maps tick body place [] all is among = absurd among
among-marked xs maps tick body place (own ∷ rest) all is (inl here) =
    or_left ((leaf_of xs maps (first_of body own)).mark tick) (leaf_marked xs maps tick (map (first_of body) rest))
    (ap (λ (i : Instr). (leaf_of xs maps i).mark tick) (sym (equal-at body (first_of body own) place own all.0 here)) ∙ is)
among-marked xs maps tick body place (own ∷ rest) all is (inr later) =
    or_right ((leaf_of xs maps (first_of body own)).mark tick) (leaf_marked xs maps tick (map (first_of body) rest))
    (among-marked xs maps tick body place rest all.1 is later)

by-both : (a b : Bool) → (a ≡ true → b ≡ true) → (b ≡ true → a ≡ true) → a ≡ b
by-both true b there back = sym (there refl)
by-both false true there back = back refl
by-both false false there back = refl

-- the marks of leaves that read all that a body reads are those of the body
pub leaves-marks : (xs : List Stream) (maps : List Block) (tick : ℤ) (body : Block) (leaves : List (List ℕ))
    → AllByRecursion (AreEqual body) leaves → AreAllRead body leaves
    → leaf_marked xs maps tick body ≡ leaf_marked xs maps tick (map (first_of body) leaves)
leaves-marks xs maps tick body leaves equal all =
    by-both (leaf_marked xs maps tick body) (leaf_marked xs maps tick (map (first_of body) leaves))
    (λ is.
    let found = marked-some xs maps tick body (Const (pos 0)) is in
    among-marked xs maps tick body found.0 leaves equal found.2
    (all found.0 found.1 (marks-read xs maps tick (get_or body found.0 (Const (pos 0))) found.2)))
    (λ is. leaves-within xs maps tick body leaves equal is)

-- the instruction at all places of a leaf of a body is the one at its first place
pub leaves-equal : (lists : List (List Snapshot)) (maps : List Block) (body : Block) (cells : List (Option ℤ)) (point : ℤ) (leaves : List Placed)
    → AllByRecursion (IsPlacedBy lists maps body cells point) leaves → AllByRecursion (AreEqual body) (map places_of leaves)
leaves-equal lists maps body cells point [] all = tt
leaves-equal lists maps body cells point (p ∷ ps) all =
    let places = all.0.places in (
      all-weaker (IsPlaceOf body (origin p.leaf)) (IsPlaceOf body (get_or body p.place (Const (pos 0)))) (places_of p)
          (λ place is. (is.0, is.1 ∙ sym places.0.1)) places,
      leaves-equal lists maps body cells point ps all.1,
    )
