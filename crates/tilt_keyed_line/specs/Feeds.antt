-- Which lines of a feed with keys are those of a key (our own rule).
use Rattle.std.specs.Prelude.{ℕ, Bool, false, ◌||◌, if◌then◌else◌, List, [], ◌∷◌, ◌++◌, map, Option, None, Some, Result, Ok, Err}
use Rattle.std.specs.Str.{bytes_eq}
use Rattle.tilt_keyed_line.specs.Address.{address}
use Rattle.tilt_keyed_line.specs.declared.key_fault.KeyFault.{KeyFault}

-- whether an address has a key
abbrev pub has_key : List ℕ → Result (Option (List ℕ × List ℕ)) KeyFault → Bool
has_key key (Ok (Some parts)) = bytes_eq parts.0 key
has_key key (Ok None) = false
has_key key (Err why) = false

-- what is said under an address
abbrev pub said : Result (Option (List ℕ × List ℕ)) KeyFault → List (List ℕ)
said (Ok (Some parts)) = parts.1 ∷ []
said (Ok None) = []
said (Err why) = []

-- the lines that have a key, without it
abbrev pub own_lines : List ℕ → List (List ℕ) → List (List ℕ)
own_lines key [] = []
own_lines key (line ∷ lines) = (if has_key key (address line) then said (address line) else []) ++ own_lines key lines

-- the lines that have a key or are of every key, without it
abbrev pub heard_lines : List ℕ → List (List ℕ) → List (List ℕ)
heard_lines key [] = []
heard_lines key (line ∷ lines) =
    (if has_key key (address line) || has_key [] (address line) then said (address line) else []) ++ heard_lines key lines

-- the lines of a key, if this was said to every key before: the first one that has the key, and from there on all that the key hears.
-- What was said to every key last, before that line, comes first. Only the last such line is kept for new keys: a watermark says more than
-- those before it, and so little has to be kept
abbrev pub lines_from : List ℕ → List (List ℕ) → List (List ℕ) → List (List ℕ)
lines_from key shared [] = []
lines_from key shared (line ∷ lines) =
    if has_key key (address line) then shared ++ heard_lines key (line ∷ lines)
    else lines_from key (if has_key [] (address line) then said (address line) else shared) lines

-- the lines of a key of the feed with these lines
abbrev pub lines_of : List ℕ → List (List ℕ) → List (List ℕ)
lines_of key lines = lines_from key [] lines

-- a key with the lines that it was given so far
pub record KeyFeed : Type 0 where
  pub key : List ℕ
  pub lines : List (List ℕ)

-- a feed with keys after some lines: the last line of every key, if there was one, and the keys, in the order of their first lines
pub record KeyedFeed : Type 0 where
  pub shared : List (List ℕ)
  pub keys : List KeyFeed

-- the feed before its first line
abbrev pub empty_keyed_feed : KeyedFeed
empty_keyed_feed = record { shared = []; keys = [] }

-- a key that was given one line more
abbrev pub given : List ℕ → KeyFeed → KeyFeed
given line feed = record { key = feed.key; lines = feed.lines ++ line ∷ [] }

-- keys after a line of one of them; a new one comes last, with the lines that it starts with
abbrev pub after_own : List ℕ → List (List ℕ) → List ℕ → List KeyFeed → List KeyFeed
after_own key shared line [] = record { key = key; lines = shared ++ line ∷ [] } ∷ []
after_own key shared line (feed ∷ feeds) =
    if bytes_eq feed.key key then given line feed ∷ feeds else feed ∷ after_own key shared line feeds

-- a feed after a line that has this key, or is of every key
abbrev pub after_key : List ℕ → List ℕ → KeyedFeed → KeyedFeed
after_key [] line feed = record { shared = line ∷ []; keys = map (given line) feed.keys }
after_key (byte ∷ key) line feed = record { shared = feed.shared; keys = after_own (byte ∷ key) feed.shared line feed.keys }

-- a feed after a line with an address: one that is blank or has no key changes nothing
abbrev pub after_address : Result (Option (List ℕ × List ℕ)) KeyFault → KeyedFeed → KeyedFeed
after_address (Ok (Some parts)) feed = after_key parts.0 parts.1 feed
after_address (Ok None) feed = feed
after_address (Err why) feed = feed

-- a feed after lines
abbrev pub after_lines : List (List ℕ) → KeyedFeed → KeyedFeed
after_lines [] feed = feed
after_lines (line ∷ lines) feed = after_lines lines (after_address (address line) feed)

-- the lines that a key was given, or none if it isn't there
abbrev pub lines_given : List ℕ → List KeyFeed → List (List ℕ)
lines_given key [] = []
lines_given key (feed ∷ feeds) = if bytes_eq feed.key key then feed.lines else lines_given key feeds
