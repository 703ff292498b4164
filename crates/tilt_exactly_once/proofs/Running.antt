-- Runs leave the commit of a front of the feed.
use Rattle.std.proofs.Common.{◌≡◌, inl, ℕ, List, [], ◌∷◌, ◌++◌, refl, sym, ◌∙◌, ap, append_assoc}
use Rattle.tilt_exactly_once.specs.Committed.{nothing}
use Rattle.tilt_exactly_once.specs.Runs.{AreRuns, HoldsPart, IsRun, last_left, no_files}
use Rattle.tilt_store.specs.Commit.{Commit}
use Rattle.tilt_store.specs.Kept.{Kept}

joined : (bytes front behind more : List ℕ) → bytes ++ ((front ++ behind) ++ more) ≡ (bytes ++ front) ++ (behind ++ more)
joined bytes front behind more = ap (λ (l : List ℕ). bytes ++ l) (append_assoc front behind more) ∙ sym (append_assoc bytes front (behind ++ more))

module _ (Is : List ℕ → Commit → Type 0) (feed : List ℕ) where
  one-more : (old new : Kept) → IsRun Is feed old new → HoldsPart Is feed old → HoldsPart Is feed new
  one-more old new run part =
      let step = run part.bytes part.rest part.holds part.parts in
      let held = step.3 in
      record {
        bytes = part.bytes ++ held.front;
        rest = held.rest ++ step.1;
        parts = part.parts ∙ (ap (λ (l : List ℕ). part.bytes ++ l) (step.2 ∙ ap (λ (l : List ℕ). l ++ step.1) held.parts) ∙ joined part.bytes held.front held.rest step.1);
        holds = held.holds;
      }

  pub all-runs : (old : Kept) (left : List Kept) → AreRuns Is feed old left → HoldsPart Is feed old → HoldsPart Is feed (last_left old left)
  all-runs old [] runs part = part
  all-runs old (new ∷ later) runs part = all-runs new later runs.1 (one-more old new runs.0 part)

  -- nothing is a front
  pub none-yet : HoldsPart Is feed no_files
  none-yet = record { bytes = []; rest = feed; parts = refl; holds = record { commit = nothing; resumes = refl; is = inl (refl, refl) } }
