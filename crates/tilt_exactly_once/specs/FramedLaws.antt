-- Laws of commits with the last bytes that were taken.
use Rattle.std.proofs.Common.{◌≡◌, ◌++◌, ℕ, List, [], ◌∷◌, length, arith, sym, ◌∙◌, ap, length-append}
use Rattle.std.specs.Fmt.{decimal}
use Rattle.tilt_exactly_once.specs.Framed.{frames}
use Rattle.tilt_exactly_once.specs.Last.{last_of}
use Rattle.tilt_store.specs.Commit.{Commit}

module _ {Of : Type 0} (output : Of → List ℕ → List ℕ) (commits : Of → List ℕ → Commit → Type 0) where
  -- a commit has the output for its bytes
  pub has_output : ((of : Of) (bytes : List ℕ) (commit : Commit) → commits of bytes commit → commit.output ≡ output of bytes)
      → (of : Of) (bytes : List ℕ) (commit : Commit) → frames commits of bytes commit → commit.output ≡ output of bytes
  has_output law of bytes commit is = law of bytes (record { output = commit.output; state = is.text }) is.is

module _ {Of : Type 0} (commits : Of → List ℕ → Commit → Type 0) where
  -- a state has a first line
  pub has_state : (of : Of) (bytes : List ℕ) (commit : Commit) → frames commits of bytes commit → commit.state ≡ [] → ⊥
  has_state of bytes commit is none =
      let line = decimal (length (last_of bytes)) in
      let size = ap length (sym is.state_is ∙ none) in
      let both = length-append line (10 ∷ (last_of bytes ++ is.text)) in
      omega (arith, size, both)
