-- What calls of a folder leave of a commit.
use Rattle.std.proofs.Common.{◌≡◌, ◌⊎◌, inl, inr, ⊎_elim, ℕ, ◌<◌, ◌≤◌, ◌^◌, min, List, ◌++◌, length, take, Some, Ok, refl, sym, ◌∙◌, ap, arith, length-append}
use Rattle.std.proofs.lemmas.List.{take-append-le, take-take}
use Rattle.tilt_store.specs.Commit.{Commit, committed, spelled}
use Rattle.tilt_store.specs.Crash.{Follows, Only}
use Rattle.tilt_store.specs.Kept.{Kept, Replaced, Torn}
use Rattle.tilt_store.specs.Open.{HasCommitted, IsOpen, SameCommit}
use Rattle.tilt_store.proofs.Commits.{holds, same_front, spelled_for_all}

-- bytes after the commit can be torn
torn_keeps : (commit : Commit) (at n : ℕ) (old new : Kept) → committed old ≡ Ok (Some commit) → length commit.output ≤ at → Torn at n old new → committed new ≡ Ok (Some commit)
torn_keeps commit at n old new is long torn =
    let held = holds commit old.state old.output is in
    let m = min at (length old.output) in
    let reach : length commit.output ≤ m = omega (arith, held.within, long) in
    same_front commit old new is torn.state (omega (arith, held.within, torn.no_shorter))
    (sym (take-take (length commit.output) m new.output reach) ∙ ap (take (length commit.output)) torn.before ∙ take-take (length commit.output) m old.output reach)

pub append_keeps : (seen : Kept) (old new : Kept → Type 0) (n : ℕ) → IsOpen seen old → Follows (Torn (length seen.output) n) old new → (c : Kept) → new c → committed c ≡ committed seen
append_keeps seen old new n ready follows c left =
    let from = follows c left in
    torn_keeps ready.commit (length seen.output) n from.0 c (ready.left from.0 from.1) (holds ready.commit seen.state seen.output ready.there).within from.2 ∙ sym ready.there

-- bytes that are appended leave the commit
pub appended_keeps : (commit : Commit) (seen new : Kept) (bytes : List ℕ) → committed seen ≡ Ok (Some commit) → new ≡ record seen { output = seen.output ++ bytes } → committed new ≡ Ok (Some commit)
appended_keeps commit seen new bytes is appended =
    let held = holds commit seen.state seen.output is in
    ap committed appended
    ∙ same_front commit seen (record seen { output = seen.output ++ bytes }) is refl (omega (arith, held.within, length-append seen.output bytes))
    (take-append-le (length commit.output) seen.output bytes held.within)

-- the new state counts all of the output
pub replaced_commits : (seen new : Kept) (state text : List ℕ) → length seen.output < 2 ^ 63 → text ≡ spelled (length seen.output) state → new ≡ record seen { state = text }
    → HasCommitted seen.output state new
replaced_commits seen new state text short is replaced =
    ap committed replaced ∙ ap (λ (t : List ℕ). committed (record seen { state = t })) is ∙ spelled_for_all seen.output state short

-- a crash while the state is replaced leaves the old commit or the new one
pub replace_leaves : (seen : Kept) (old new : Kept → Type 0) (state text : List ℕ) → length seen.output < 2 ^ 63 → text ≡ spelled (length seen.output) state → Only seen old
    → Follows (Replaced text) old new
    → (c : Kept) → new c → SameCommit seen c ⊎ HasCommitted seen.output state c
replace_leaves seen old new state text short is only follows c left =
    let from = follows c left in
    let was : from.0 ≡ seen = only from.0 from.1 in
    let output : c.output ≡ seen.output = from.2.output ∙ ap (λ (k : Kept). k.output) was in
    ⊎_elim
    (λ same. inl (ap committed (λ i. record { output = output i; state = (same ∙ ap (λ (k : Kept). k.state) was) i })))
    (λ replaced. inr (replaced_commits seen c state text short is (λ i. record { output = output i; state = replaced i })))
    from.2.state

-- a crash before the state is replaced
pub unreplaced : (seen : Kept) (old : Kept → Type 0) (output state : List ℕ) → IsOpen seen old → (c : Kept) → old c → SameCommit seen c ⊎ HasCommitted output state c
unreplaced seen old output state ready c left = inl (ready.left c left ∙ sym ready.there)

-- and if nothing has changed
pub unchanged : (seen c : Kept) (output state : List ℕ) → c ≡ seen → SameCommit seen c ⊎ HasCommitted output state c
unchanged seen c output state is = inl (ap committed is)
