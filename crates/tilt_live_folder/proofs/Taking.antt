-- A piece more of the feed.
use Rattle.std.proofs.Common.{◌≡◌, ◌||◌, ◌&&◌, ℕ, true, false, List, [], ◌++◌, sym, ◌∙◌, ap, append_assoc}
use Rattle.tilt_live_folder.specs.Feeds.{EndsBadly, LiveFeed, output_for}
use Rattle.tilt_live_run.proofs.Stepping.{added-more, stopped-more}
use Rattle.tilt_live_run.specs.Output.{first_news}
use Rattle.tilt_live_run.specs.Runs.{added, is_stopped, is_unfinished}

module _ (feed : LiveFeed) (bytes piece : List ℕ) (none : is_stopped feed.options feed.accepted.core [] bytes ≡ false) where
  pub output-more : output_for feed (bytes ++ piece) ≡ output_for feed bytes ++ added feed.options feed.accepted.core bytes piece
  output-more =
      ap (λ (more : List ℕ). first_news feed.options.display feed.accepted.core ++ more) (added-more feed.accepted.core feed.options [] bytes piece none)
      ∙ sym (append_assoc (first_news feed.options.display feed.accepted.core) (added feed.options feed.accepted.core [] bytes)
      (added feed.options feed.accepted.core bytes piece))

  pub none-more : is_stopped feed.options feed.accepted.core bytes piece ≡ false → is_stopped feed.options feed.accepted.core [] (bytes ++ piece) ≡ false
  none-more still = stopped-more feed.accepted.core feed.options [] bytes piece none ∙ still

  pub bad-more : is_stopped feed.options feed.accepted.core bytes piece ≡ true → EndsBadly feed (bytes ++ piece)
  bad-more bad = ap (λ b. b || (feed.options.strict && is_unfinished (bytes ++ piece))) (stopped-more feed.accepted.core feed.options [] bytes piece none ∙ bad)
