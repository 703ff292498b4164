-- The first line of bytes, by a search for its LF.
use Rattle.std.proofs.Common.{◌≡◌, ℕ, ◌+◌, ◌-◌, ◌<◌, Bool, true, false, List, length, get_or, take, drop, Some, None, refl, arith}
use Rattle.std.specs.List.{position, position_or_len}
use Rattle.std.specs.Prelude.{◌==◌}
use Rattle.std.proofs.lemmas.Grind.{common_steps}
use Rattle.std.proofs.lemmas.List.Sums.{position_or_len_is}
use Rattle.memchr.specs.Find.{NoneBefore, Nowhere, Passes, is_byte}
use Rattle.tilt_text.proofs.Words.{until_found, until_none}
use Rattle.tilt_text.specs.Cut.{until_at}

fails : (b : Bool) → ¬ (b ≡ true) → b ≡ false
fails true unless = absurd (unless refl)
fails false unless = refl

-- an LF is at a place, and none before it
pub line_found : (bytes : List ℕ) (at : ℕ) → NoneBefore (Passes (is_byte 10) bytes) 0 (length bytes) at → Passes (is_byte 10) bytes at
    → until_at 10 bytes ≡ Some (take at bytes, take (length bytes - (at + 1)) (drop (at + 1) bytes))
line_found bytes at first here =
    let place : position_or_len (λ b. b == 10) bytes ≡ at =
    position_or_len_is (λ b. b == 10) bytes at 0 (omega (arith, first.high))
    (λ k below. fails (get_or bytes k 0 == 10) (first.before k (omega arith) below)) (λ within. here) in
    let within = first.high in
    let found : position (λ b. b == 10) bytes ≡ Some at = grind (arith, common_steps) in
    until_found 10 bytes at found

-- there is none
pub no_line : (bytes : List ℕ) → Nowhere (Passes (is_byte 10) bytes) 0 (length bytes) → until_at 10 bytes ≡ None
no_line bytes none =
    let place : position_or_len (λ b. b == 10) bytes ≡ length bytes =
    position_or_len_is (λ b. b == 10) bytes (length bytes) 0 (omega arith)
    (λ k below. fails (get_or bytes k 0 == 10) (none k (omega arith) below)) (λ within. absurd (omega (arith, within))) in
    let found : position (λ b. b == 10) bytes ≡ None = grind (arith, common_steps) in
    until_none 10 bytes found
