-- The feed of a command that chooses a folder.
use Rattle.std.proofs.Common.{◌≡◌, ◌∙◌, ap}
use Rattle.tilt_compiler.specs.Accepted.{AcceptedParts}
use Rattle.tilt_live_cli.specs.Arguments.{CommandValue}
use Rattle.tilt_live_app.specs.Begun.{IsBegun}
use Rattle.tilt_live_app.specs.Change.{ShelfChange}
use Rattle.tilt_live_app.specs.InFolder.{IsFeedOf}
use Rattle.tilt_live_folder.specs.Feeds.{LiveFeed}

-- it is made of the query that was taken and what the command asks of its run
pub feed-of : (shelf : ShelfChange) (command : CommandValue) (begun : IsBegun shelf command) (accepted : AcceptedParts) (feed : LiveFeed)
    → accepted.core ≡ begun.core → feed ≡ record { query = begun.query; accepted = accepted; options = begun.options } → IsFeedOf shelf command begun feed
feed-of shelf command begun accepted feed core same = record {
  query = ap (λ (f : LiveFeed). f.query) same;
  core = ap (λ (f : LiveFeed). f.accepted.core) same ∙ core;
  options = ap (λ (f : LiveFeed). f.options) same;
}
