-- Commits of a query's feed.
use Rattle.std.proofs.Common.{◌≡◌, ℕ, ◌<◌, ◌^◌, List, [], ◌++◌, false, length, refl, subst, ap, ◌∙◌, arith}
use Rattle.tilt_feed_text.specs.Split.{ended, unfinished}
use Rattle.tilt_live_folder.proofs.Tails.{state-parts}
use Rattle.tilt_live_folder.specs.Feeds.{Commits, IsLeft, LiveFeed, output_for, state_of}
use Rattle.tilt_live_run.specs.Runs.{is_stopped}
use Rattle.tilt_outside.specs.Counts.{added_count}
use Rattle.tilt_run_state.specs.Spelling.{spelled}
use Rattle.tilt_run_state.specs.State.{RunStateParts}
use Rattle.tilt_run_state.specs.Valid.{IsInRange, IsRunState}
use Rattle.tilt_store.specs.Commit.{Commit}

-- a count below 2 ^ 63 is exact
exact : (n written : ℕ) → written ≡ added_count 0 n → written < 2 ^ 63 → written ≡ n
exact n written is low = omega (arith, is, low)

pub counted : (n : ℕ) → n < 2 ^ 63 → n ≡ added_count 0 n
counted n low = omega (arith, low)

-- the text of a machine's state makes a commit
pub commit-of : (feed : LiveFeed) (bytes : List ℕ) (written : ℕ) (s : RunStateParts) (text : List ℕ) → is_stopped feed.options feed.accepted.core [] bytes ≡ false
    → written ≡ added_count 0 (length (output_for feed bytes)) → s ≡ state_of feed bytes written → IsRunState feed.options.form s → IsInRange s → text ≡ spelled feed.options.form s ++ unfinished bytes
    → Commits feed bytes (record { output = output_for feed bytes; state = text })
commit-of feed bytes written s text none count is valid range text-is =
    let low = subst (λ (n : ℕ). n < 2 ^ 63) (ap (λ (x : RunStateParts). x.state.progress.written) is) range.state.progress.written in
    let same = is ∙ ap (state_of feed bytes) (exact (length (output_for feed bytes)) written count low) in record {
      output = refl;
      state = text-is ∙ ap (λ (x : RunStateParts). spelled feed.options.form x ++ unfinished bytes) same;
      no_stop = none;
      valid = subst (IsRunState feed.options.form) same valid;
      in_range = subst IsInRange same range;
    }

-- what a commit leaves, of which this is the text
pub left-of : (feed : LiveFeed) (bytes : List ℕ) (commit : Commit) (text : List ℕ) → Commits feed bytes commit → text ≡ commit.state
    → IsLeft feed bytes (length commit.output) (ended text)
left-of feed bytes commit text is same =
    let s = state_of feed bytes (length commit.output) in record {
      spelled = ap ended (same ∙ is.state) ∙ (state-parts feed.options.form s bytes).lines;
      no_stop = is.no_stop;
      valid = is.valid;
      in_range = is.in_range;
    }

pub tail-of : (feed : LiveFeed) (bytes : List ℕ) (commit : Commit) (text : List ℕ) → Commits feed bytes commit → text ≡ commit.state
    → unfinished text ≡ unfinished bytes
tail-of feed bytes commit text is same = ap unfinished (same ∙ is.state) ∙ (state-parts feed.options.form (state_of feed bytes (length commit.output)) bytes).tail
