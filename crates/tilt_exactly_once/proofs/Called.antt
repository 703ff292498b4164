-- A program that served a feed, as a run.
use Rattle.std.proofs.Common.{◌≡◌, ◌≤◌, ℕ, List, [], ◌++◌, length, Result, refl, sym, ◌∙◌, ap, arith, append_assoc, length-append}
use Rattle.std.proofs.lemmas.List.{append_cancel_left}
use Rattle.tilt_exactly_once.proofs.Passed.{rest-left}
use Rattle.tilt_exactly_once.proofs.Steps.{front-none}
use Rattle.tilt_exactly_once.specs.Committed.{HoldsFront}
use Rattle.tilt_exactly_once.specs.Feeding.{HasServedFeed, served, unreached, unstarted}
use Rattle.tilt_exactly_once.specs.Runs.{GivesFrom}
use Rattle.tilt_exactly_once.specs.declared.failure.Failure.{Failure}
use Rattle.tilt_outside.specs.Counts.{added_count, last_count}
use Rattle.tilt_port.specs.Transcript.{Transcript}
use Rattle.tilt_store.specs.Commit.{Commit}
use Rattle.tilt_store.specs.Kept.{Kept}

-- a front of the feed isn't longer
front-short : (feed bytes rest : List ℕ) → feed ≡ bytes ++ rest → length feed ≤ last_count → length bytes ≤ last_count
front-short feed bytes rest parts short = let both = ap length parts ∙ length-append bytes rest in omega (arith, both, short)

-- a byte that is reached, if counts are exact
reached-exact : (bytes : List ℕ) (from : ℕ) → from ≤ added_count 0 (length bytes) → from ≤ length bytes
reached-exact bytes from low = omega (arith, low)

module _ {F M Of : Type 0} (seen : F → Kept) (may_leave : F → Kept → Type 0) (is : M → Of → List ℕ → Type 0) (output : Of → List ℕ → List ℕ) (of : Of)
    (commits : Of → List ℕ → Commit → Type 0) (stops fits : Of → List ℕ → Type 0) (moment : F → ℕ) (left_since : F → ℕ → Kept → Type 0)
    (port_tells : Type 0) (from : ℕ) (bytes : List ℕ) (first : F) (old : Transcript) (folder : F) (new : Transcript) (feed more rest : List ℕ) (c : Kept)
    (told : port_tells) (short : length feed ≤ last_count) (gives : GivesFrom feed from more old new) (parts : feed ≡ bytes ++ rest)
    (left : left_since folder (moment first) c) where
  pub is-run : (end : Result (Unit {0}) Failure)
      → HasServedFeed seen may_leave is output of commits stops fits moment left_since port_tells from bytes first old folder new end
      → (read : List ℕ) × (behind : List ℕ) × (rest ≡ read ++ behind) × HoldsFront (commits of) bytes read c
  is-run end (unstarted same passing leaves) = ([], rest, refl, front-none (commits of) bytes c (leaves.each c left))
  is-run end (unreached because leaves) = ([], rest, refl, front-none (commits of) bytes c (leaves.each c left))
  is-run end (served between reached over halts was) =
      let passed = (over told).passed in
      let all : old.read ++ gives.read ≡ old.read ++ (passed ++ was.read) =
      sym gives.is_read ∙ was.from_port told ∙ ap (λ (l : List ℕ). l ++ was.read) (over told).read ∙ append_assoc old.read passed was.read in
      let read : gives.read ≡ passed ++ was.read = append_cancel_left old.read gives.read (passed ++ was.read) all in
      let from_there = gives.given ∙ ap (λ (l : List ℕ). l ++ more) read ∙ append_assoc passed was.read more in (
        was.read,
        more,
        sym (rest-left feed bytes rest passed (was.read ++ more) from parts (front-short feed bytes rest parts short)
            (reached-exact bytes from reached) from_there (over told).all),
        was.leaves.each c left,
      )
