-- How much of what was taken a crash can cost, step by step.
use Rattle.std.proofs.Common.{◌≡◌, ◌≤◌, ◌+◌, ◌==◌, ℕ, Bool, true, false, if◌then◌else◌, List, [], ◌∷◌, ◌++◌, Result, Ok, Err, OnOk, length, sym, ◌∙◌, ap, subst, arith, append_assoc, append-nil}
use Rattle.std.specs.Prelude.{drop}
use Rattle.std.proofs.lemmas.List.{drop_all}
use Rattle.tilt_exactly_once.proofs.Steps.{holds-same}
use Rattle.tilt_exactly_once.specs.Committed.{Holds}
use Rattle.tilt_exactly_once.specs.Recent.{HoldsBut, lines_in}
use Rattle.tilt_outside.specs.Counts.{added_count, last_count}
use Rattle.tilt_store.specs.Commit.{Commit}
use Rattle.tilt_store.specs.Kept.{Kept}
use Rattle.tilt_store.specs.Open.{SameCommit}

-- lines of bytes, and of bytes after them
plus_one : (b : Bool) (m n k : ℕ) → k ≡ m + n → (if b then k + 1 else k) ≡ (if b then m + 1 else m) + n
plus_one true m n k is = omega (arith, is)
plus_one false m n k is = is

pub lines-more : (bytes more : List ℕ) → lines_in (bytes ++ more) ≡ lines_in bytes + lines_in more
lines-more [] more = omega arith
lines-more (byte ∷ bytes) more = plus_one (byte == 10) (lines_in bytes) (lines_in more) (lines_in (bytes ++ more)) (lines-more bytes more)

-- all of a piece was counted
pub counted-all : (piece : List ℕ) (index count : ℕ) → length piece ≤ index → count ≤ last_count
    → added_count count (lines_in (drop index piece)) ≡ added_count 0 (lines_in piece) → count ≡ added_count 0 (lines_in piece)
counted-all piece index count over low rest =
    let none = ap lines_in (drop_all index piece over) in omega (arith, none, low, rest)

module _ (Is : List ℕ → Commit → Type 0) where
  -- a piece more was taken, and nothing was committed
  pub recent-taken : (bytes piece : List ℕ) (old new : ℕ) (was now : Kept) → SameCommit was now → new ≡ added_count old (added_count 0 (lines_in piece))
      → HoldsBut Is bytes old was → HoldsBut Is (bytes ++ piece) new now
  recent-taken bytes piece old new was now same count held = record {
    front = held.front;
    rest = held.rest ++ piece;
    parts = ap (λ (l : List ℕ). l ++ piece) held.parts ∙ append_assoc held.front held.rest piece;
    few = let both = lines-more held.rest piece in omega (arith, both, count, held.few);
    holds = holds-same Is held.front was now held.holds same;
  }

  -- all was committed
  pub recent-whole : (bytes : List ℕ) (lines : ℕ) (now : Kept) → Holds Is bytes now → HoldsBut Is bytes lines now
  recent-whole bytes lines now holds = record { front = bytes; rest = []; parts = sym (append-nil bytes); few = omega arith; holds = holds }

  pub recent-committed : {E : Type 0} (bytes : List ℕ) (lines : ℕ) (now : Kept) (result : Result (Unit {0}) E) → OnOk result (Holds Is bytes now)
      → OnOk result (HoldsBut Is bytes lines now)
  recent-committed bytes lines now (Ok u) holds = recent-whole bytes lines now holds
  recent-committed bytes lines now (Err e) holds = tt

  -- the same bytes, put together in another way
  pub recent-joined : (start read piece : List ℕ) (lines : ℕ) (now : Kept) → HoldsBut Is ((start ++ read) ++ piece) lines now
      → HoldsBut Is (start ++ (read ++ piece)) lines now
  recent-joined start read piece lines now held = subst (λ (l : List ℕ). HoldsBut Is l lines now) (append_assoc start read piece) held
