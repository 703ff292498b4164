-- A feed that was changed, or wasn't.
use Rattle.std.proofs.Common.{◌≡◌, ◌⊎◌, inl, inr, ◌≤◌, ◌-◌, ℕ, List, [], ◌++◌, length, Result, Ok, Err, IfErr, sym, ◌∙◌, ap, subst, arith, append_assoc, append-nil}
use Rattle.std.specs.Prelude.{drop, take}
use Rattle.std.proofs.lemmas.List.{append_cancel_left, drop-append-le, length-drop, take-append-drop}
use Rattle.std.proofs.Math.Seq.{take-append_seam}
use Rattle.tilt_exactly_once.proofs.Lasts.{ends-rest}
use Rattle.tilt_exactly_once.specs.Committed.{Holds}
use Rattle.tilt_exactly_once.specs.Feeding.{HasServedFeed, failing, served, unreached, unstarted}
use Rattle.tilt_exactly_once.specs.Last.{EndsAs}
use Rattle.tilt_exactly_once.specs.Passing.{HasPassed, HasPassedOthers, IsUnpassed, count_passed}
use Rattle.tilt_exactly_once.specs.Runs.{GivesFrom}
use Rattle.tilt_exactly_once.specs.Serving.{IsServingHalt}
use Rattle.tilt_exactly_once.specs.declared.failure.Failure.{Failure}
use Rattle.tilt_exactly_once.specs.declared.failure.Failure.TheVariants.{Halted, Unstarted}
use Rattle.tilt_exactly_once.specs.declared.halt.Halt.{Halt}
use Rattle.tilt_exactly_once.specs.declared.halt.Halt.TheVariants.{Changed}
use Rattle.tilt_outside.specs.Counts.{last_count}
use Rattle.tilt_port.specs.Transcript.{Transcript}
use Rattle.tilt_store.specs.Commit.{Commit}
use Rattle.tilt_store.specs.Kept.{Kept}

-- the halt that ended a feed, or another one
abbrev halt_of : Halt → Result (Unit {0}) Failure → Halt
halt_of other (Ok u) = other
halt_of other (Err (Halted why)) = why
halt_of other (Err (Unstarted error)) = other

-- a feed whose service was halted so wasn't changed
not-served : (end : Result (Unit {0}) Halt) → IfErr end IsServingHalt → failing end ≡ Err (Halted Changed) → ⊥
not-served (Ok u) halts is = cc is
not-served (Err why) halts is = subst IsServingHalt (ap (halt_of why) is) halts

module _ (feed more bytes : List ℕ) (from : ℕ) (old new : Transcript) (short : length bytes ≤ last_count) (gives : GivesFrom feed from more old new) where
  -- what was passed over is what comes before the others
  passed-is : (between : Transcript) (later : List ℕ) (Of : List ℕ → Type 0) (over : HasPassed (count_passed from bytes) Of old between)
      → new.read ≡ between.read ++ later → take (length bytes - from) (drop from feed) ≡ over.passed
  passed-is between later Of over read =
      let all : old.read ++ gives.read ≡ old.read ++ (over.passed ++ later) =
      sym gives.is_read ∙ read ∙ ap (λ (l : List ℕ). l ++ later) over.read ∙ append_assoc old.read over.passed later in
      let is = append_cancel_left old.read gives.read (over.passed ++ later) all in
      let there : drop from feed ≡ over.passed ++ (later ++ more) = gives.given ∙ ap (λ (l : List ℕ). l ++ more) is ∙ append_assoc over.passed later more in
      let size : length bytes - from ≡ length over.passed = omega (arith, short, over.all) in
      ap (take (length bytes - from)) there ∙ ap (λ (n : ℕ). take n (over.passed ++ (later ++ more))) size
      ∙ take-append_seam over.passed (later ++ more)

  -- a feed that starts with the bytes that are committed
  kept-is : (rest : List ℕ) → feed ≡ bytes ++ rest → from ≤ length bytes → take (length bytes - from) (drop from feed) ≡ drop from bytes
  kept-is rest parts low =
      let size : length bytes - from ≡ length (drop from bytes) = sym (length-drop from bytes) in
      ap (λ (l : List ℕ). take (length bytes - from) (drop from l)) parts
      ∙ ap (take (length bytes - from)) (drop-append-le from bytes rest low)
      ∙ ap (λ (n : ℕ). take n (drop from bytes ++ rest)) size ∙ take-append_seam (drop from bytes) rest

  not-others : (rest : List ℕ) → feed ≡ bytes ++ rest → from ≤ length bytes → HasPassedOthers from bytes old new → ⊥
  not-others rest parts low over =
      let is = sym (passed-is new [] (λ (l : List ℕ). ¬ EndsAs l bytes) over (sym (append-nil new.read))) ∙ kept-is rest parts low in
      let ends = subst (λ (l : List ℕ). EndsAs (drop from bytes) l) (take-append-drop from bytes) (ends-rest (take from bytes) (drop from bytes)) in
      over.so (subst (λ (l : List ℕ). EndsAs l bytes) (sym is) ends)

  module _ {F M Of : Type 0} (seen : F → Kept) (may_leave : F → Kept → Type 0) (is : M → Of → List ℕ → Type 0) (output : Of → List ℕ → List ℕ) (of : Of)
      (commits : Of → List ℕ → Commit → Type 0) (stops fits : Of → List ℕ → Type 0) (moment : F → ℕ) (left_since : F → ℕ → Kept → Type 0)
      (port_tells : Type 0) (first folder : F) (told : port_tells) where
    pub noticed : (c : Kept) → left_since folder (moment first) c → (end : Result (Unit {0}) Failure)
        → HasServedFeed seen may_leave is output of commits stops fits moment left_since port_tells from bytes first old folder new end
        → Holds (commits of) bytes c ⊎ EndsAs (take (length bytes - from) (drop from feed)) bytes
    noticed c left end (unstarted same passing leaves) = inl (leaves.each c left)
    noticed c left end (unreached because leaves) = inl (leaves.each c left)
    noticed c left end (served between reached over halts was) =
        let passed = over told in
        inr (subst (λ (l : List ℕ). EndsAs l bytes) (sym (passed-is between was.read (λ (l : List ℕ). EndsAs l bytes) passed (was.from_port told))) passed.so)

    pub unchanged : (rest : List ℕ) → feed ≡ bytes ++ rest → (end : Result (Unit {0}) Failure)
        → HasServedFeed seen may_leave is output of commits stops fits moment left_since port_tells from bytes first old folder new end
        → end ≡ Err (Halted Changed) → ⊥
    unchanged rest parts end (unstarted same passing leaves) is_changed = cc is_changed
    unchanged rest parts end (unreached {why} because leaves) is_changed =
        let others = subst (IsUnpassed port_tells from bytes old new) (ap (halt_of why) is_changed) because in
        let low : from ≤ length bytes = let reached = others.0 in omega (arith, reached) in
        not-others rest parts low (others.1 told)
    unchanged rest parts end (served {end = served_end} between reached over halts was) is_changed = not-served served_end halts is_changed
