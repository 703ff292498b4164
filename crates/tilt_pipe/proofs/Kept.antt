-- Which of the snapshots that were made are let go, one after the other.
use Rattle.tilt_pipe.specs.Rings.{IsNextEnd, let_go}
use Rattle.std.proofs.Common.{◌≡◌, inl, inr, true, ◌≤◌, ◌+◌, ℕ, ℤ, List, length, drop, slice_get, Option, Some, None, int_lt, arith, sym, ap, ◌∙◌, length-drop, pos, ◌+ℤ◌}
use Rattle.std.proofs.lemmas.Bool.{cases_lt}
use Rattle.std.proofs.lemmas.Int.{ints}
use Rattle.std.proofs.lemmas.List.{drop-drop}
use Rattle.circular_buffer.proofs.Places.{slice_get-drop}
use Rattle.tilt_stream.proofs.Places.{ended-within, passed-at, past-all}
use Rattle.tilt_stream.specs.Snap.{Snapshot, InOrder, ended_below}

-- no more are let go than were made
pub let_go-within : (first : Option ℤ) (made : List Snapshot) → let_go first made ≤ length made
let_go-within None made = omega arith
let_go-within (Some tick) made = ended-within tick made

-- the first that is held is the next one
pub next-end : (from limit : ℤ) (made held : List Snapshot) (n : ℕ) (s : Snapshot) → InOrder from limit made → held ≡ drop n made
    → slice_get held 0 ≡ Some s → IsNextEnd n made (Some s.end)
next-end from limit made held n s h is found =
    let at = sym (slice_get-drop n made 0 n (omega arith)) ∙ ap (λ (xs : List Snapshot). slice_get xs 0) (sym is) ∙ found in
    let more = (passed-at from limit made n s s.end h at).1 in (
      elim (cases_lt n (ended_below s.end made)) as (λ _. ended_below s.end made ≤ n) [
        | inl less ↦ (let test : int_lt s.end s.end ≡ true = more less in absurd (grind (arith, ints)))
        | inr all ↦ all
      ],
      (passed-at from limit made n s (s.end +ℤ pos 1) h at).0 (grind (arith, ints)),
    )

pub no-end : (made held : List Snapshot) (n : ℕ) → held ≡ drop n made → slice_get held 0 ≡ None → IsNextEnd n made None
no-end made held n is none = omega (arith, length-drop n made, ap length is, past-all held 0 none)

-- the others are held after one more was let go
pub drop-one : (made held : List Snapshot) (n : ℕ) → held ≡ drop n made → drop 1 held ≡ drop (n + 1) made
drop-one made held n is = ap (drop 1) is ∙ drop-drop 1 n made
