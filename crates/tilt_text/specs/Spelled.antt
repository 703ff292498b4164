-- Numbers spelled in shortest decimal.
use Rattle.std.specs.Prelude.{ℕ, ℤ, if◌then◌else◌, List, Option, Some, None}
use Rattle.std.specs.Fmt.{signed_decimal}
use Rattle.std.specs.Str.{bytes_eq}
use Rattle.tilt_base.specs.Number.{number_spelled}
use Rattle.tilt_text.specs.Step.{◌>>=◌}

-- the number, where its shortest decimal is the word
abbrev pub where_shortest : List ℕ → ℤ → Option ℤ
where_shortest word z = if bytes_eq (signed_decimal z) word then Some z else None

-- the number of 64 bits whose shortest decimal the word is
abbrev pub shortest : List ℕ → Option ℤ
shortest word = number_spelled word >>= where_shortest word
