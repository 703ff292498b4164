-- What a folder holds after appends and commits.
use Rattle.std.proofs.Common.{◌⊎◌, ⊎_elim, ℕ, List, [], ◌++◌, refl, sym, ◌∙◌, ap, subst, append_assoc, append-nil}
use Rattle.tilt_exactly_once.specs.Committed.{Holds, HoldsFront}
use Rattle.tilt_store.specs.Commit.{Commit, or_initial}
use Rattle.tilt_store.specs.Kept.{Kept}
use Rattle.tilt_store.specs.Open.{SameCommit}

module _ (Is : List ℕ → Commit → Type 0) where
  -- the last commit is the same
  pub holds-same : (bytes : List ℕ) (old c : Kept) → Holds Is bytes old → SameCommit old c → Holds Is bytes c
  holds-same bytes old c holds same = record { commit = holds.commit; resumes = ap (or_initial []) same ∙ holds.resumes; is = holds.is }

  pub front-same : (bytes read : List ℕ) (old c : Kept) → HoldsFront Is bytes read old → SameCommit old c → HoldsFront Is bytes read c
  front-same bytes read old c held same = record {
    front = held.front;
    rest = held.rest;
    parts = held.parts;
    holds = holds-same (bytes ++ held.front) old c held.holds same;
  }

  -- more was read
  pub front-more : (bytes read more : List ℕ) (c : Kept) → HoldsFront Is bytes read c → HoldsFront Is bytes (read ++ more) c
  front-more bytes read more c held = record {
    front = held.front;
    rest = held.rest ++ more;
    parts = ap (λ (l : List ℕ). l ++ more) held.parts ∙ append_assoc held.front held.rest more;
    holds = held.holds;
  }

  -- all or nothing of it is committed
  pub front-whole : (bytes read : List ℕ) (c : Kept) → Holds Is (bytes ++ read) c → HoldsFront Is bytes read c
  front-whole bytes read c holds = record { front = read; rest = []; parts = sym (append-nil read); holds = holds }

  pub front-none : (bytes : List ℕ) (c : Kept) → Holds Is bytes c → HoldsFront Is bytes [] c
  front-none bytes c holds = record { front = []; rest = []; parts = refl; holds = subst (λ (l : List ℕ). Holds Is l c) (sym (append-nil bytes)) holds }

  -- a step that commits or doesn't
  pub front-either : (bytes read : List ℕ) (old c : Kept) → HoldsFront Is bytes read old → SameCommit old c ⊎ Holds Is (bytes ++ read) c → HoldsFront Is bytes read c
  front-either bytes read old c held step = ⊎_elim (front-same bytes read old c held) (front-whole bytes read c) step
