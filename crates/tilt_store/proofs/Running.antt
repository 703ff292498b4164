-- Runs with crashes keep each committed piece once.
use Rattle.std.proofs.Common.{◌≡◌, ℕ, Bool, true, false, if◌then◌else◌, List, [], ◌∷◌, ◌++◌, Some, None, Result, Ok, Err, refl, sym, ◌∙◌, ap, append_assoc}
use Rattle.std.proofs.lemmas.List.{append-nil}
use Rattle.tilt_store.specs.Commit.{Commit, committed, or_initial, resumed}
use Rattle.tilt_store.specs.Kept.{Kept}
use Rattle.tilt_store.specs.Open.{IsReopened}
use Rattle.tilt_store.specs.Runs.{Event, Append, Commit_returns, Crash, ExactlyOnce, ExactlyOnceFromNothing, Run, committed_bytes, is_committed, last_state}
use Rattle.tilt_store.specs.declared.open_error.OpenError.{OpenError}

abbrev ok_or : Commit → Result Commit OpenError → Commit
ok_or other (Ok commit) = commit
ok_or other (Err error) = other

-- where a folder holds a commit, it is opened with just that
record Opened (commit : Commit) (state : List ℕ) (now : Kept) : Type 0 where
  there : committed now ≡ Ok (Some commit)
  output : now.output ≡ commit.output
  state_is : state ≡ commit.state

opened : (initial : List ℕ) (commit : Commit) (was now : Kept) (state : List ℕ) → resumed initial was ≡ Ok commit → IsReopened initial was now state → Opened commit state now
opened initial commit was now state is reopened =
    let same : record { output = now.output; state = state } ≡ commit = ap (ok_or commit) (sym reopened.same ∙ is) in
    record {
      there = reopened.committed ∙ ap (λ (c : Commit). Ok (Some c)) same;
      output = ap (λ (c : Commit). c.output) same;
      state_is = ap (λ (c : Commit). c.state) same;
    }

-- a piece counts where what follows it is committed
piece : (counts : Bool) (old pending bytes rest : List ℕ)
    → (old ++ (if counts then pending ++ bytes else [])) ++ rest ≡ (old ++ (if counts then pending else [])) ++ ((if counts then bytes else []) ++ rest)
piece true old pending bytes rest = ap (λ (l : List ℕ). l ++ rest) (sym (append_assoc old pending bytes)) ∙ append_assoc (old ++ pending) bytes rest
piece false old pending bytes rest = refl

none_pending : (counts : Bool) (old rest : List ℕ) → (old ++ (if counts then [] else [])) ++ rest ≡ old ++ rest
none_pending true old rest = ap (λ (l : List ℕ). l ++ rest) (append-nil old)
none_pending false old rest = ap (λ (l : List ℕ). l ++ rest) (append-nil old)

-- all of the output counts
counted : (counts : Bool) (all old pending rest : List ℕ) → all ≡ old ++ pending → (all ++ (if counts then [] else [])) ++ rest ≡ (old ++ pending) ++ rest
counted counts all old pending rest is = none_pending counts all rest ∙ ap (λ (l : List ℕ). l ++ rest) is

-- the commit after a run from one with bytes pending behind it
abbrev after_run : Commit → List ℕ → List Event → Commit
after_run commit pending events = record {
  output = (commit.output ++ (if is_committed events then pending else [])) ++ committed_bytes events;
  state = last_state commit.state events;
}

runs : (initial : List ℕ) (events : List Event) (commit : Commit) (pending : List ℕ) (start end : Kept) → committed start ≡ Ok (Some commit) → start.output ≡ commit.output ++ pending
    → Run initial events start end → committed end ≡ Ok (Some (after_run commit pending events))
runs initial [] commit pending start end there output same =
    ap committed same ∙ there ∙ λ i. Ok (Some (record { output = sym (append-nil (commit.output ++ []) ∙ append-nil commit.output) i; state = commit.state }))
runs initial (Append bytes ∷ events) commit pending start end there output (mid, appended, more) =
    let longer : mid.output ≡ commit.output ++ (pending ++ bytes) = ap (λ (k : Kept). k.output) appended.appended ∙ ap (λ (l : List ℕ). l ++ bytes) output ∙ append_assoc commit.output pending bytes in
    runs initial events commit (pending ++ bytes) mid end (appended.same ∙ there) longer more
    ∙ λ i. Ok (Some (record { output = piece (is_committed events) commit.output pending bytes (committed_bytes events) i; state = last_state commit.state events }))
runs initial (Commit_returns state ∷ events) commit pending start end there output (mid, returned, more) =
    let new : Commit = record { output = start.output; state = state } in
    let same : mid.output ≡ start.output ++ [] = ap (λ (k : Kept). k.output) returned.written ∙ sym (append-nil start.output) in
    runs initial events new [] mid end returned.committed same more
    ∙ λ i. Ok (Some (record { output = counted (is_committed events) start.output commit.output pending (committed_bytes events) output i; state = last_state state events }))
runs initial (Crash None ∷ events) commit pending start end there output (mid, (c, d, left, again, state, reopened), more) =
    let now = opened initial commit d mid state (again ∙ ap (or_initial initial) (left ∙ there)) reopened in
    runs initial events commit [] mid end now.there (now.output ∙ sym (append-nil commit.output)) more
    ∙ λ i. Ok (Some (record {
      output = counted (is_committed events) commit.output commit.output [] (committed_bytes events) (sym (append-nil commit.output)) i;
      state = last_state commit.state events;
    }))
runs initial (Crash (Some state) ∷ events) commit pending start end there output (mid, (c, d, left, same, again, reopened), more) =
    let new : Commit = record { output = start.output; state = state } in
    let now = opened initial new d mid again (same ∙ ap (or_initial initial) left) reopened in
    runs initial events new [] mid end now.there (now.output ∙ sym (append-nil start.output)) more
    ∙ λ i. Ok (Some (record { output = counted (is_committed events) start.output commit.output pending (committed_bytes events) output i; state = last_state state events }))

pub once : (initial : List ℕ) (first : Kept) (events : List Event) → ExactlyOnce initial first events
once initial first events state start end c reopened run same =
    let commit : Commit = record { output = start.output; state = state } in
    ap (or_initial initial) (same ∙ runs initial events commit [] start end reopened.committed (sym (append-nil start.output)) run)
    ∙ λ i. Ok (record { output = none_pending (is_committed events) start.output (committed_bytes events) i; state = last_state state events })

pub once_from_nothing : (initial : List ℕ) (events : List Event) → ExactlyOnceFromNothing initial events
once_from_nothing initial events state start end c reopened run same =
    let nothing : Kept = record { output = []; state = [] } in
    let now = opened initial (record { output = []; state = initial }) nothing start state refl reopened in
    once initial nothing events state start end c reopened run same
    ∙ λ i. Ok (record { output = now.output i ++ committed_bytes events; state = last_state (now.state_is i) events })
