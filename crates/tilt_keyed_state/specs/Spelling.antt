-- How the state of a run over a feed with keys is spelled (our own rule). A part is spelled after its length in bytes, as shortest decimal.
use Rattle.std.specs.Prelude.{ℕ, List, ◌∷◌, [], ◌++◌, length, Option, None, Some, codes, flat_map}
use Rattle.std.specs.Fmt.{decimal}
use Rattle.tilt_keyed_state.specs.State.{KeyStateParts, KeyedStateParts}

-- the first line: the format and its version
abbrev pub first_line : List ℕ
first_line = codes "tilt keys 1\n"

-- the last line
abbrev pub last_line : List ℕ
last_line = codes "end\n"

-- a part after its length
abbrev pub part_text : List ℕ → List ℕ
part_text bytes = decimal (length bytes) ++ 10 ∷ (bytes ++ 10 ∷ [])

-- the last line of every key
abbrev pub shared_text : Option (List ℕ) → List ℕ
shared_text None = codes "none\n"
shared_text (Some line) = part_text line

-- a key and its state
abbrev pub key_text : KeyStateParts → List ℕ
key_text k = part_text k.key ++ part_text k.state

-- what comes before the keys
abbrev pub opening : Option (List ℕ) → List ℕ
opening shared = first_line ++ shared_text shared

-- the keys, and the last line
abbrev pub keys_text : List KeyStateParts → List ℕ
keys_text keys = flat_map key_text keys ++ last_line

-- a state
abbrev pub spelled : KeyedStateParts → List ℕ
spelled s = opening s.shared ++ keys_text s.keys
