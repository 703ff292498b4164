-- Texts behind a number.
use Rattle.std.proofs.Common.{◌≡◌, ℕ, pos, ◌<◌, ◌^◌, List, Some, refl, arith}
use Rattle.std.specs.Fmt.{decimal}
use Rattle.tilt_store.specs.Commit.{counted, uncounted}
use Rattle.tilt_text.proofs.Lacks.{decimal_lacks}
use Rattle.tilt_text.proofs.Numbers.{shortest-signed}
use Rattle.tilt_text.proofs.Words.{until-front}

-- what is counted is read
pub uncounted-counted : (n : ℕ) (text : List ℕ) → n < 2 ^ 63 → uncounted (counted n text) ≡ Some (n, text)
uncounted-counted n text small =
    rw (until-front 10 (decimal n) text (decimal_lacks 10 (omega arith) n (omega arith)), shortest-signed (pos n) (search arith)) refl
