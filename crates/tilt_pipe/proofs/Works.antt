-- The loops of a code with their whole buffers: where each is, and what it is.
use Rattle.std.proofs.Common.{◌≡◌, ◌<◌, ℕ, zero, suc, ◌+◌, ◌-◌, true, List, [], ◌∷◌, ◌++◌, map, length, take, drop, get_or, slice_get, Some, refl, sym, ap, ◌∙◌, subst, arith}
use Rattle.std.proofs.Common.{append_assoc, length-append}
use Rattle.std.proofs.lemmas.List.{append-nil, take_at, drop_all, length_push, get_or_append_left, get_or-append-add, get_or-map, length-map}
use Rattle.std.proofs.lemmas.Option.{slice_get_within, get_or_from_slice_get, same_Some}
use Rattle.std.specs.List.{AllByRecursion}
use Rattle.circular_buffer.proofs.Places.{slice_get-some}
use Rattle.tilt_base.proofs.Lists.{all-slice_get}
use Rattle.tilt_code.proofs.Runs.{turns-Fill}
use Rattle.tilt_code.specs.Body.{last_or}
use Rattle.tilt_code.specs.Code.{LoopParts, CodeParts}
use Rattle.tilt_code.specs.Meaning.{IsTimed}
use Rattle.tilt_code.specs.References.{IsCode}
use Rattle.tilt_code.specs.Run.{with_buffers, buffers_of, run_of}
use Rattle.tilt_code.specs.Turn.{turns}
use Rattle.tilt_pipe.specs.Made.{Work, is_used, works_from, works_of}
use Rattle.tilt_pipe.specs.Positions.{RingsParts, works_in}
use Rattle.tilt_pipe.specs.Pulled.{AreFilled}
use Rattle.tilt_stream.specs.Snap.{Snapshot, Fill}
use Rattle.tilt_stream.specs.Stream.{stream_of}

-- the whole buffers of loops
abbrev pub wholes : List Work → List (List Snapshot)
wholes works = map (λ (w : Work). w.whole) works

-- all buffers are those given, and then those of the loops
pub with_buffers-works : (buffer : ℕ) (lists : List (List Snapshot)) (loops : List LoopParts)
    → with_buffers lists loops ≡ lists ++ wholes (works_from buffer lists loops)
with_buffers-works buffer lists [] = sym (append-nil lists)
with_buffers-works buffer lists (l ∷ loops) =
    let made = turns (map stream_of lists) l in
    with_buffers-works (suc buffer) (lists ++ made ∷ []) loops
    ∙ append_assoc lists (made ∷ []) (wholes (works_from (suc buffer) (lists ++ made ∷ []) loops))

pub works_from-length : (buffer : ℕ) (lists : List (List Snapshot)) (loops : List LoopParts)
    → length (works_from buffer lists loops) ≡ length loops
works_from-length buffer lists [] = refl
works_from-length buffer lists (l ∷ loops) = ap suc (works_from-length (suc buffer) (lists ++ turns (map stream_of lists) l ∷ []) loops)

-- what the loop at a place is
pub record IsWork (buffer : ℕ) (lists : List (List Snapshot)) (loops : List LoopParts) (place : ℕ) (w : Work) : Type 0 where
  pub loop : slice_get loops place ≡ Some w.loop
  pub whole : w.whole ≡ turns (map stream_of (take (length lists + place) (with_buffers lists loops))) w.loop
  pub filled : get_or (with_buffers lists loops) (length lists + place) [] ≡ w.whole
  pub used : w.used ≡ is_used (buffer + place) (drop (suc place) (works_from buffer lists loops))

-- the buffers that were given stand first
given_first : (lists : List (List Snapshot)) (loops : List LoopParts) → take (length lists + 0) (with_buffers lists loops) ≡ lists
given_first lists loops =
    let at : length lists ≡ length lists + 0 = omega arith in
    ap (take (length lists + 0)) (with_buffers-works 0 lists loops)
    ∙ take_at lists (wholes (works_from 0 lists loops)) (length lists + 0) at

filled-at : (buffer : ℕ) (lists : List (List Snapshot)) (loops : List LoopParts) (place : ℕ) (w : Work)
    → slice_get (works_from buffer lists loops) place ≡ Some w → get_or (with_buffers lists loops) (length lists + place) [] ≡ w.whole
filled-at buffer lists loops place w is =
    let works = works_from buffer lists loops in
    ap (λ (all : List (List Snapshot)). get_or all (length lists + place) []) (with_buffers-works buffer lists loops)
    ∙ get_or-append-add lists (wholes works) place []
    ∙ get_or-map (λ (x : Work). x.whole) works place w [] (slice_get_within works place w is)
    ∙ ap (λ (x : Work). x.whole) (get_or_from_slice_get works place w w is)

work_from-is : (buffer : ℕ) (lists : List (List Snapshot)) (loops : List LoopParts) (place : ℕ) (w : Work)
    → slice_get (works_from buffer lists loops) place ≡ Some w → IsWork buffer lists loops place w
work_from-is buffer lists [] place w is = absurd (cc is)
work_from-is buffer lists (l ∷ loops) zero w is =
    let whole = turns (map stream_of lists) l in
    let behind = works_from (suc buffer) (lists ++ whole ∷ []) loops in
    let at : buffer ≡ buffer + 0 = omega arith in
    subst (IsWork buffer lists (l ∷ loops) 0) (same_Some _ w is) (record {
      loop = refl;
      whole = ap (λ (all : List (List Snapshot)). turns (map stream_of all) l) (sym (given_first lists (l ∷ loops)));
      filled = filled-at buffer lists (l ∷ loops) 0 (record { loop = l; whole = whole; used = is_used buffer behind }) refl;
      used = ap (λ (n : ℕ). is_used n behind) at;
    })
work_from-is buffer lists (l ∷ loops) (suc place) w is =
    let made = turns (map stream_of lists) l in
    let rest = work_from-is (suc buffer) (lists ++ made ∷ []) loops place w is in
    let at : length (lists ++ made ∷ []) + place ≡ length lists + suc place = omega (arith, length_push lists made) in
    let number : suc buffer + place ≡ buffer + suc place = omega arith in
    record {
      loop = rest.loop;
      whole = rest.whole ∙ ap (λ (n : ℕ). turns (map stream_of (take n (with_buffers (lists ++ made ∷ []) loops))) w.loop) at;
      filled = filled-at buffer lists (l ∷ loops) (suc place) w is;
      used = rest.used ∙ ap (λ (n : ℕ). is_used n (drop (suc place) (works_from (suc buffer) (lists ++ made ∷ []) loops))) number;
    }

-- the loop of a code at a place, its buffer, and whether it is used
pub work-is : (code : CodeParts) (inputs : List (List Snapshot)) (place : ℕ) (w : Work) → slice_get (works_of code inputs) place ≡ Some w
    → IsWork (length inputs) inputs code.loops place w
work-is code inputs place w is = work_from-is (length inputs) inputs code.loops place w is

-- a code has as many works as loops, and a buffer for each input and each loop
pub works-length : (code : CodeParts) (inputs : List (List Snapshot)) → length (works_of code inputs) ≡ length code.loops
works-length code inputs = works_from-length (length inputs) inputs code.loops

pub work-there : (p : RingsParts) (place : ℕ) → place < length p.code.loops → (w : Work) × (slice_get (works_in p) place ≡ Some w)
work-there p place there = slice_get-some (works_in p) place (omega (arith, works-length p.code p.inputs))

pub buffers-works : (code : CodeParts) (inputs : List (List Snapshot)) → buffers_of code inputs ≡ inputs ++ wholes (works_of code inputs)
buffers-works code inputs = with_buffers-works (length inputs) inputs code.loops

pub buffers-length : (code : CodeParts) (inputs : List (List Snapshot))
    → length (buffers_of code inputs) ≡ length inputs + length code.loops
buffers-length code inputs =
    ap length (buffers-works code inputs) ∙ length-append inputs (wholes (works_of code inputs))
    ∙ ap (λ (n : ℕ). length inputs + n) (length-map (works_of code inputs) (λ (w : Work). w.whole) ∙ works-length code inputs)

-- the buffers of the inputs are their rows
pub input-is : (code : CodeParts) (inputs : List (List Snapshot)) (i : ℕ) → i < length inputs
    → get_or (buffers_of code inputs) i [] ≡ get_or inputs i []
input-is code inputs i within =
    ap (λ (all : List (List Snapshot)). get_or all i []) (buffers-works code inputs)
    ∙ get_or_append_left inputs (wholes (works_of code inputs)) [] i within

-- the last of a list is in its last place
last_or-is : {A : Type 0} (given : A) (xs : List A) (i : ℕ) (d : A) → suc i ≡ length xs → last_or given xs ≡ get_or xs i d
last_or-is given [] i d at = absurd (omega arith)
last_or-is given (x ∷ []) zero d at = refl
last_or-is given (x ∷ []) (suc i) d at = absurd (omega arith)
last_or-is given (x ∷ y ∷ xs) zero d at = absurd (omega arith)
last_or-is given (x ∷ y ∷ xs) (suc i) d at = last_or-is x (y ∷ xs) i d (omega arith)

-- the last loop of a code makes its run, and is used
pub run-last : (code : CodeParts) (inputs : List (List Snapshot)) (w : Work)
    → slice_get (works_of code inputs) (length code.loops - 1) ≡ Some w → (w.whole ≡ run_of code inputs) × (w.used ≡ true)
run-last code inputs w is =
    let works = works_of code inputs in
    let last = length code.loops - 1 in
    let it = work-is code inputs last w is in
    let within = slice_get_within works last w is in
    let count = works-length code inputs in
    let at : suc (length inputs + last) ≡ length (buffers_of code inputs) = omega (arith, buffers-length code inputs) in
    let later : drop (suc last) works ≡ [] = drop_all (suc last) works (omega arith) in (
      sym (last_or-is [] (buffers_of code inputs) (length inputs + last) [] at ∙ it.filled),
      it.used ∙ ap (λ (ws : List Work). is_used (length inputs + last) ws) later,
    )

pub record HasLast (code : CodeParts) (inputs : List (List Snapshot)) : Type 0 where
  pub work : Work
  pub is : slice_get (works_of code inputs) (length code.loops - 1) ≡ Some work
  pub run : work.whole ≡ run_of code inputs
  pub used : work.used ≡ true
  pub place : suc (length code.loops - 1) ≡ length (works_of code inputs)

pub last-loop : (code : CodeParts) (inputs : List (List Snapshot)) → IsCode code → HasLast code inputs
last-loop code inputs is =
    let many = works-length code inputs in
    let it = slice_get-some (works_of code inputs) (length code.loops - 1) (omega arith) in
    let last = run-last code inputs it.0 it.1 in
    record { work = it.0; is = it.1; run = last.0; used = last.1; place = omega arith }

-- a loop's whole buffer goes from the lower end of its stretch to the upper one
pub work-timed : (code : CodeParts) (inputs : List (List Snapshot)) (place : ℕ) (w : Work) → AllByRecursion IsTimed code.loops
    → slice_get (works_of code inputs) place ≡ Some w → IsTimed w.loop
work-timed code inputs place w all is = all-slice_get IsTimed code.loops place w.loop all (work-is code inputs place w is).loop

pub work-fills : (code : CodeParts) (inputs : List (List Snapshot)) (place : ℕ) (w : Work) → AllByRecursion IsTimed code.loops
    → slice_get (works_of code inputs) place ≡ Some w → Fill w.loop.lo w.loop.hi w.whole × IsTimed w.loop
work-fills code inputs place w all is =
    let timed = work-timed code inputs place w all is in
    let before = map stream_of (take (length inputs + place) (buffers_of code inputs)) in
    (subst (Fill w.loop.lo w.loop.hi) (sym (work-is code inputs place w is).whole) (turns-Fill before w.loop timed), timed)

-- the loops of a code have a grid, and their buffers fill their stretches
pub works-filled : (code : CodeParts) (inputs : List (List Snapshot)) → AllByRecursion IsTimed code.loops → AreFilled (works_of code inputs)
works-filled code inputs timed k w is =
    let fills = work-fills code inputs k w timed is in
    record { whole = fills.0; grid = fills.1.grid }
