-- What is kept of a converter fits exactly if its latest reading has a tick that a reading can have.
use Rattle.std.proofs.Common.{◌≡◌, true, Option, None, Some, refl, subst}
use Rattle.std.proofs.lemmas.Option.{none-some, same_Some}
use Rattle.std.specs.Option.{ForSome}
use Rattle.tilt_conventions.specs.Resumable.{has_reading_time}
use Rattle.tilt_conventions.specs.Steps.{is_reading_time}
use Rattle.tilt_conventions.specs.declared.turn.Reading.{Reading}

pub times-fit : (latest : Option Reading) → ForSome latest (λ reading. is_reading_time reading.tick ≡ true) → has_reading_time latest ≡ true
times-fit None are = refl
times-fit (Some reading) are = are reading refl

pub fit-times : (latest : Option Reading) → has_reading_time latest ≡ true → ForSome latest (λ reading. is_reading_time reading.tick ≡ true)
fit-times None fits = λ other is. absurd (none-some other is)
fit-times (Some reading) fits = λ other is. subst (λ (r : Reading). is_reading_time r.tick ≡ true) (same_Some reading other is) fits
