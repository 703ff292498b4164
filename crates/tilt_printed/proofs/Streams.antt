-- How the lines of what a pipe gives out are written.
use Rattle.std.proofs.Common.{◌≡◌, ◌≤◌, ◌+◌, ℕ, zero, suc, List, [], ◌∷◌, ◌++◌, length, max, take, drop, slice_get, Option, Some}
use Rattle.std.proofs.Common.{None, Result, Ok, Err, IsErr, false, refl, sym, ap, ◌∙◌, subst, arith, append_assoc, length-append}
use Rattle.std.proofs.lemmas.List.{take-append-drop}
use Rattle.tilt_base.proofs.Lists.{one-more}
use Rattle.tilt_code.specs.Code.{CodeParts}
use Rattle.tilt_code.specs.Run.{run_of}
use Rattle.tilt_outside.specs.Written.{Puts}
use Rattle.tilt_outside.specs.declared.failed.Failed.{Failed}
use Rattle.tilt_pipe.proofs.Collected.{given-out}
use Rattle.tilt_pipe.specs.Rings.{held, most_held, rings_after}
use Rattle.tilt_pipe.specs.Value.{PipeParts, pipe_after}
use Rattle.tilt_printed.proofs.Printing.{prints-as, prints-none, prints-put, prints-short, prints-stopped, prints-then}
use Rattle.tilt_printed.specs.Prints.{Prints}
use Rattle.tilt_printed.specs.declared.unput.Unput.{Unput}
use Rattle.tilt_printed.specs.declared.unput.Unput.TheVariants as variant
use Rattle.tilt_series.proofs.Writes.{lines_of-append}
use Rattle.tilt_stream.specs.Snap.{Snapshot}
use Rattle.tilt_stream.specs.Text.{lines_of}

-- the lines of one more snapshot
pub lines-more : (all : List Snapshot) (place : ℕ) (s : Snapshot) → slice_get all place ≡ Some s
    → lines_of (take (suc place) all) ≡ lines_of (take place all) ++ lines_of (s ∷ [])
lines-more all place s is = ap lines_of (sym (one-more all place s is)) ∙ lines_of-append (take place all) (s ∷ [])

-- all lines, from those so far on
pub lines-rest : (all : List Snapshot) (place : ℕ) → lines_of all ≡ lines_of (take place all) ++ lines_of (drop place all)
lines-rest all place = ap lines_of (sym (take-append-drop place all)) ∙ lines_of-append (take place all) (drop place all)

-- all lines, those so far, one more, and the others
pub lines-parts : (all : List Snapshot) (place : ℕ) (s : Snapshot) → slice_get all place ≡ Some s
    → lines_of all ≡ lines_of (take place all) ++ (lines_of (s ∷ []) ++ lines_of (drop (suc place) all))
lines-parts all place s is =
    lines-rest all (suc place) ∙ ap (λ (l : List ℕ). l ++ lines_of (drop (suc place) all)) (lines-more all place s is)
    ∙ append_assoc (lines_of (take place all)) (lines_of (s ∷ [])) (lines_of (drop (suc place) all))

-- they are long enough for one more
pub lines-long : (all : List Snapshot) (place : ℕ) (s : Snapshot) → slice_get all place ≡ Some s
    → length (lines_of (take place all)) + length (lines_of (s ∷ [])) ≤ length (lines_of all)
lines-long all place s is =
    let first = lines_of (take place all) in
    let later = lines_of (drop (suc place) all) in
    let whole = ap length (lines-parts all place s is) ∙ length-append first (lines_of (s ∷ []) ++ later) in
    omega (arith, whole, length-append (lines_of (s ∷ [])) later)

-- nothing was found
pub none-of : {found here : Option Snapshot} → here ≡ found → ((s : Snapshot) → found ≡ Some s → ⊥) → here ≡ None
none-of {found = None} is nothing = is
none-of {found = Some s} is nothing = absurd (nothing s refl)

-- a place is within a list, or after its end
pub place-end : (all : List Snapshot) (place : ℕ) → slice_get all place ≡ None → place ≤ length all → place ≡ length all
place-end [] place none within = omega arith
place-end (x ∷ xs) zero none within = absurd (cc none)
place-end (x ∷ xs) (suc place) none within =
    let rest = place-end xs place none (omega arith) in
    omega arith

-- a pipe of a code that gave out one more
pub one-later : (code : CodeParts) (rows : List (List Snapshot)) (pipe new : PipeParts) → pipe ≡ pipe_after code rows pipe.given
    → new ≡ pipe_after pipe.code pipe.inputs (suc pipe.given) → (new.given ≡ suc pipe.given) × (new ≡ pipe_after code rows new.given)
one-later code rows pipe new is after =
    let code_is : pipe.code ≡ code = ap (λ (p : PipeParts). p.code) is in
    let rows_are : pipe.inputs ≡ rows = ap (λ (p : PipeParts). p.inputs) is in
    let at : new ≡ pipe_after code rows (suc pipe.given) = after ∙ (λ i. pipe_after (code_is i) (rows_are i) (suc pipe.given)) in
    let given : new.given ≡ suc pipe.given = ap (λ (p : PipeParts). p.given) at in
    (given, at ∙ ap (pipe_after code rows) (sym given))

-- the most that its rings held
pub most-later : (code : CodeParts) (rows : List (List Snapshot)) (pipe new : PipeParts) (most : ℕ) → most ≡ most_held code rows pipe.given
    → (new.given ≡ suc pipe.given) × (new ≡ pipe_after code rows new.given) → max most (held new.rings) ≡ most_held code rows new.given
most-later code rows pipe new most is (given, at) =
    let rings : new.rings ≡ rings_after code rows (suc pipe.given) = ap (λ (p : PipeParts). p.rings) at ∙ ap (rings_after code rows) given in
    (λ i. max (is i) (held (rings i))) ∙ sym (ap (most_held code rows) given)

-- what a pipe of a code gave out
pub next-of : (code : CodeParts) (rows : List (List Snapshot)) (pipe : PipeParts) (found : Option Snapshot) → pipe ≡ pipe_after code rows pipe.given
    → (pipe.refused ≡ false → found ≡ slice_get (run_of pipe.code pipe.inputs) pipe.given) → slice_get (run_of code rows) pipe.given ≡ found
next-of code rows pipe found is gives =
    given-out pipe code rows found (ap (λ (p : PipeParts). p.code) is) (ap (λ (p : PipeParts). p.inputs) is) (gives (ap (λ (p : PipeParts). p.refused) is))

-- and if it gave out nothing so far, its rings hold the most
pub most-first : (code : CodeParts) (rows : List (List Snapshot)) (pipe : PipeParts) → pipe ≡ pipe_after code rows 0
    → held pipe.rings ≡ most_held code rows pipe.given
most-first code rows pipe is =
    ap (λ (p : PipeParts). held p.rings) is ∙ sym (ap (λ (p : PipeParts). most_held code rows p.given) is)

-- no line was written so far
pub lines-none : {K : Type 0} (tells : Type 0) (written : K → List ℕ) (faults : K → ℕ) (takes : K → ℕ → Type 0) (sink : K) (all : List Snapshot)
    (place : ℕ) → place ≡ 0 → Prints {T = Unit {0}} tells written faults takes sink sink (lines_of (take place all)) (Ok tt)
lines-none tells written faults takes sink all place none =
    subst (λ (n : ℕ). Prints {T = Unit {0}} tells written faults takes sink sink (lines_of (take n all)) (Ok tt)) (sym none)
    (prints-none tells written faults takes sink tt)

-- the lines of this number of snapshots were written whole
module _ {K : Type 0} (tells : Type 0) (written : K → List ℕ) (faults : K → ℕ) (takes : K → ℕ → Type 0) (old now : K) (all : List Snapshot) (place : ℕ)
    (far : Prints {T = Unit {0}} tells written faults takes old now (lines_of (take place all)) (Ok tt)) where
  -- no memory was there for the next one
  pub line-wanting : {T : Type 0} (e : Unput) (told : Result T Unput) → told ≡ Err e → e ≡ variant.OutOfMemory
      → Prints tells written faults takes old now (lines_of all) told
  line-wanting e told same memory =
      subst (λ (l : List ℕ). Prints tells written faults takes old now l told) (sym (lines-rest all place))
      (prints-then tells written faults takes old now now (lines_of (take place all)) (lines_of (drop place all)) tt told far
      (prints-stopped tells written faults takes now (lines_of (drop place all)) e told same memory))

  -- the line of the next one is taken
  pub line-room : (s : Snapshot) → ((sink : K) (m n : ℕ) → m ≤ n → takes sink n → takes sink m) → takes old (length (lines_of all))
      → slice_get all place ≡ Some s → takes now (length (lines_of (s ∷ [])))
  line-room s fewer room is =
      far.room (length (lines_of (s ∷ [])))
      (fewer old (length (lines_of (take place all)) + length (lines_of (s ∷ []))) (length (lines_of all)) (lines-long all place s is) room)

  -- its write failed
  pub line-failed : {T : Type 0} (s : Snapshot) (new : K) (e : Failed) (told : Result T Unput) → IsErr told → slice_get all place ≡ Some s
      → Puts tells written faults takes now new (lines_of (s ∷ [])) (Err e) → Prints tells written faults takes old new (lines_of all) told
  line-failed s new e told failed is cut =
      subst (λ (l : List ℕ). Prints tells written faults takes old new l told) (sym (lines-parts all place s is))
      (prints-then tells written faults takes old now new (lines_of (take place all)) (lines_of (s ∷ []) ++ lines_of (drop (suc place) all)) tt told far
      (prints-short tells written faults takes now new (lines_of (s ∷ [])) (lines_of (drop (suc place) all)) e told failed cut))

  -- it was written
  pub line-put : (s : Snapshot) (new : K) (later : ℕ) → later ≡ suc place → slice_get all place ≡ Some s
      → Puts tells written faults takes now new (lines_of (s ∷ [])) (Ok tt)
      → Prints {T = Unit {0}} tells written faults takes old new (lines_of (take later all)) (Ok tt)
  line-put s new later one_more is put =
      subst (λ (l : List ℕ). Prints {T = Unit {0}} tells written faults takes old new l (Ok tt))
      (sym (ap (λ (n : ℕ). lines_of (take n all)) one_more ∙ lines-more all place s is))
      (prints-then tells written faults takes old now new (lines_of (take place all)) (lines_of (s ∷ [])) tt (Ok tt) far
      (prints-put tells written faults takes now new (lines_of (s ∷ [])) tt put))

  -- all of them were written
  pub lines-put : {T : Type 0} (x : T) → take place all ≡ all → Prints tells written faults takes old now (lines_of all) (Ok x)
  lines-put x whole =
      subst (λ (l : List Snapshot). Prints tells written faults takes old now (lines_of l) (Ok x)) whole
      (prints-as tells written faults takes old now (lines_of (take place all)) tt x far)
