-- What folders hold as committed.
use Rattle.std.proofs.Common.{◌≡◌, ◌≢◌, ℕ, ◌<◌, ◌≤◌, ◌^◌, nat_le, Bool, true, false, if◌then◌else◌, List, [], ◌∷◌, ◌++◌, length, take, length-append}
use Rattle.std.proofs.Common.{Option, Some, None, Result, Ok, Err, refl, sym, ◌∙◌, ap, arith}
use Rattle.std.proofs.lemmas.Bool.Decides.{nat_tests}
use Rattle.std.proofs.Math.Seq.{take-length}
use Rattle.std.proofs.lemmas.List.{length-take-le}
use Rattle.tilt_text.proofs.Step.{bind_some}
use Rattle.tilt_text.specs.Step.{◌>>=◌}
use Rattle.tilt_store.proofs.Counted.{uncounted-counted}
use Rattle.tilt_store.proofs.Seals.{sealed-unsealed, unsealed-sealed, unsealed-spoiled}
use Rattle.tilt_store.specs.Commit.{Commit, commit_in, commit_of, committed, counted, spelled, uncounted, unspelled}
use Rattle.tilt_store.specs.Kept.{Kept}
use Rattle.tilt_store.specs.Seal.{seal_of, sealed, unsealed}
use Rattle.tilt_store.specs.declared.open_error.OpenError.{OpenError}
use Rattle.tilt_store.specs.declared.open_error.OpenError.TheVariants.{BrokenState, OutputTooShort}

-- what is spelled is read
pub unspelled-spelled : (n : ℕ) (state : List ℕ) → n < 2 ^ 63 → unspelled (spelled n state) ≡ Some (n, state)
unspelled-spelled n state small = rw (unsealed-sealed (counted n state)) (uncounted-counted n state small)

-- a folder holds a commit: its state file spells the commit's length and state, and the output starts with the commit's
pub record Holds (commit : Commit) (state output : List ℕ) : Type 0 where
  pub some : 0 < length state
  pub mark : unspelled state ≡ Some (length commit.output, commit.state)
  pub within : length commit.output ≤ length output
  pub front : take (length commit.output) output ≡ commit.output

abbrev commit_or : Commit → Result (Option Commit) OpenError → Commit
commit_or other (Ok (Some commit)) = commit
commit_or other (Ok None) = other
commit_or other (Err error) = other

at_least : (n m : ℕ) → nat_le n m ≡ true → n ≤ m
at_least n m le = grind (arith, nat_tests)

is_at_least : (n m : ℕ) → n ≤ m → nat_le n m ≡ true
is_at_least n m le = grind (arith, nat_tests)

holds_if : (commit : Commit) (state output : List ℕ) (n : ℕ) (rest : List ℕ) (fits : Bool) → 0 < length state → unspelled state ≡ Some (n, rest) → nat_le n (length output) ≡ fits
    → (if fits then Ok (Some (record { output = take n output; state = rest })) else Err OutputTooShort) ≡ Ok (Some commit) → Holds commit state output
holds_if commit state output n rest true some mark le is =
    let same : record { output = take n output; state = rest } ≡ commit = ap (commit_or commit) is in
    let within : n ≤ length output = at_least n (length output) le in
    let size : n ≡ length commit.output = sym (length-take-le n output within) ∙ ap (λ (c : Commit). length c.output) same in
    let is_state : rest ≡ commit.state = ap (λ (c : Commit). c.state) same in
    record {
      some = some;
      mark = mark ∙ λ i. Some (size i, is_state i);
      within = omega (arith, within, size);
      front = ap (λ (k : ℕ). take k output) (sym size) ∙ ap (λ (c : Commit). c.output) same;
    }
holds_if commit state output n rest false some mark le is = absurd (cc is)

holds_mark : (commit : Commit) (state output : List ℕ) (mark : Option (ℕ × List ℕ)) → 0 < length state → unspelled state ≡ mark
    → commit_of output mark ≡ Ok (Some commit) → Holds commit state output
holds_mark commit state output None some mark is = absurd (cc is)
holds_mark commit state output (Some parts) some mark is = holds_if commit state output parts.0 parts.1 (nat_le parts.0 (length output)) some mark refl is

pub holds : (commit : Commit) (state output : List ℕ) → commit_in state output ≡ Ok (Some commit) → Holds commit state output
holds commit [] [] is = absurd (cc is)
holds commit [] (byte ∷ output) is = absurd (cc is)
holds commit (byte ∷ state) output is = holds_mark commit (byte ∷ state) output (unspelled (byte ∷ state)) (omega arith) refl is

pub is_held : (commit : Commit) (state output : List ℕ) → Holds commit state output → commit_in state output ≡ Ok (Some commit)
is_held commit [] output held = absurd (omega (arith, held.some))
is_held commit (byte ∷ state) output held =
    let fits = is_at_least (length commit.output) (length output) held.within in
    ap (commit_of output) held.mark
    ∙ ap (λ (b : Bool). if b then Ok (Some (record { output = take (length commit.output) output; state = commit.state })) else Err OutputTooShort) fits
    ∙ λ i. Ok (Some (record { output = held.front i; state = commit.state }))

-- the same state beside an output that starts with as many of the same bytes holds the same commit
pub same_front : (commit : Commit) (old new : Kept) → committed old ≡ Ok (Some commit) → new.state ≡ old.state → length commit.output ≤ length new.output
    → take (length commit.output) new.output ≡ take (length commit.output) old.output → committed new ≡ Ok (Some commit)
same_front commit old new is state long front =
    let held = holds commit old.state old.output is in
    is_held commit new.state new.output (record {
      some = omega (arith, ap length state, held.some);
      mark = ap unspelled state ∙ held.mark;
      within = long;
      front = front ∙ held.front;
    })

-- a state that was spelled for all of the output is the commit of it
pub spelled_for_all : (output state : List ℕ) → length output < 2 ^ 63 → commit_in (spelled (length output) state) output ≡ Ok (Some (record { output = output; state = state }))
spelled_for_all output state short =
    is_held (record { output = output; state = state }) (spelled (length output) state) output (record {
      some = omega (arith, length-append (seal_of (counted (length output) state)) (10 ∷ counted (length output) state));
      mark = unspelled-spelled (length output) state short;
      within = omega arith;
      front = take-length output;
    })

-- a state that is taken was sealed
pub is-sealed : (kept : Kept) (commit : Commit) → committed kept ≡ Ok (Some commit) → (text : List ℕ) × (kept.state ≡ sealed text)
is-sealed kept commit is =
    let step = bind_some (unsealed kept.state) uncounted (length commit.output, commit.state) (holds commit kept.state kept.output is).mark in
    (step.0, sealed-unsealed kept.state step.0 step.1)

-- and one whose text is another one isn't taken
pub spoiled-broken : (output text spoiled : List ℕ) → seal_of spoiled ≢ seal_of text
    → committed (record { output = output; state = seal_of text ++ 10 ∷ spoiled }) ≡ Err BrokenState
spoiled-broken output text spoiled other = ap (λ (t : Option (List ℕ)). commit_of output (t >>= uncounted)) (unsealed-spoiled text spoiled other)
