-- The key of a line of a feed with keys (our own rule). It is what comes before the first comma, and can't be in quotes.
use Rattle.std.specs.Prelude.{◌≡◌, ℕ, ◌==◌, ◌||◌, Bool, false, if◌then◌else◌, List, [], codes, Option, None, Some, Result, Ok, Err}
use Rattle.std.specs.List.{list_any}
use Rattle.std.specs.Str.{bytes_eq}
use Rattle.tilt_keyed_line.specs.declared.key_fault.KeyFault.{KeyFault}
use Rattle.tilt_keyed_line.specs.declared.key_fault.KeyFault.TheVariants.{BadKey, NoKey}
use Rattle.tilt_text.specs.Cut.{until_at}

-- whether a byte is a quote or ends a record, and so is in no key
abbrev pub is_special : ℕ → Bool
is_special byte = byte == 34 || byte == 10 || byte == 13

-- whether a byte is in no key: it is a comma, or special
abbrev pub ends_key : ℕ → Bool
ends_key byte = byte == 44 || is_special byte

-- the bytes can be a key
abbrev pub IsKey : List ℕ → Type 0
IsKey key = list_any ends_key key ≡ false

-- whether a line is blank: empty, or a lone CR
abbrev pub is_blank : List ℕ → Bool
is_blank bytes = bytes_eq bytes [] || bytes_eq bytes (codes "\r")

-- what comes before a comma and after it, if what comes before is a key
abbrev pub addressed : Option (List ℕ × List ℕ) → Result (Option (List ℕ × List ℕ)) KeyFault
addressed None = Err NoKey
addressed (Some parts) = if list_any is_special parts.0 then Err BadKey else Ok (Some parts)

-- the key of a line and what it says to the key, unless it is blank. The key is empty in a line of every key
abbrev pub address : List ℕ → Result (Option (List ℕ × List ℕ)) KeyFault
address line = if is_blank line then Ok None else addressed (until_at 44 line)
