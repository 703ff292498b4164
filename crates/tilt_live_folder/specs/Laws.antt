-- Laws of commits.
use Rattle.std.proofs.Common.{◌≡◌, ℕ, List, [], ◌∷◌, ◌++◌, length, refl, sym, ◌∙◌}
use Rattle.tilt_feed_text.specs.Split.{unfinished}
use Rattle.tilt_live_folder.specs.Feeds.{Commits, LiveFeed, output_for, state_of}
use Rattle.tilt_live_state.specs.Spelling as live
use Rattle.tilt_run_state.specs.Spelling.{kept_lines, opening}
use Rattle.tilt_store.specs.Commit.{Commit}

-- of two texts that are nothing together each is nothing
front_none : (x y : List ℕ) → x ++ y ≡ [] → x ≡ []
front_none [] y is = refl
front_none (b ∷ x) y is = absurd (cc is)

behind_none : (x y : List ℕ) → x ++ y ≡ [] → y ≡ []
behind_none [] y is = is
behind_none (b ∷ x) y is = absurd (cc is)

-- a commit has the output of the lines of its bytes
pub has_output : (feed : LiveFeed) (bytes : List ℕ) (commit : Commit) → Commits feed bytes commit → commit.output ≡ output_for feed bytes
has_output feed bytes commit is = is.output

-- a state has a first line
pub has_state : (feed : LiveFeed) (bytes : List ℕ) (commit : Commit) → Commits feed bytes commit → commit.state ≡ [] → ⊥
has_state feed bytes commit is none =
    let s = state_of feed bytes (length commit.output) in
    let behind = kept_lines s.kept ++ live.spelled s.state in
    let all : (opening feed.options.form ++ behind) ++ unfinished bytes ≡ [] = sym is.state ∙ none in
    let spelled_none = front_none (opening feed.options.form ++ behind) (unfinished bytes) all in
    let state_none = behind_none (kept_lines s.kept) (live.spelled s.state) (behind_none (opening feed.options.form) behind spelled_none) in
    cc state_none
