-- What an input hands on, one update after another.
use Rattle.std.specs.Prelude.{◌≡◌, ◌+◌, ℤ, [], ◌∷◌, length, Option}
use Rattle.tilt_feed.specs.declared.update.Update.{Update}
use Rattle.tilt_watermarks.specs.Held.{Waiting, due, left, moved}

-- nothing that an input holds is due
pub record RestsAt (end : Option ℤ) (input later : Waiting) : Type 0 where
  pub same : later ≡ input
  pub due : due end input.held ≡ []
  pub left : left end input.held ≡ input.held

-- an input hands on the first one of what is due
pub record HandsOn (end : Option ℤ) (update : Update) (input later : Waiting) : Type 0 where
  pub due : due end input.held ≡ update ∷ due end later.held
  pub left : left end input.held ≡ left end later.held
  pub edge : later.edge ≡ moved update input.edge
  pub len : length later.held + 1 ≡ length input.held
