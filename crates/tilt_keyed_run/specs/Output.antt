-- What is written for the lines of a feed with keys, and which of them are bad, if this is so for the lines of one key (our own rule).
use Rattle.std.specs.Prelude.{ℕ, Bool, false, not, ◌&&◌, if◌then◌else◌, List, [], ◌∷◌, ◌++◌, length, nat_le}
use Rattle.std.specs.Prelude.{Option, None, Some, option_map, Result, Ok, Err}
use Rattle.std.specs.List.{list_any}
use Rattle.std.specs.Option.{option_or}
use Rattle.std.specs.Str.{bytes_eq}
use Rattle.tilt_keyed_line.specs.Address.{address}
use Rattle.tilt_keyed_line.specs.Feeds.{KeyFeed, KeyedFeed, after_address}
use Rattle.tilt_keyed_line.specs.Outputs.{lines_in, with_key}
use Rattle.tilt_keyed_line.specs.declared.key_fault.KeyFault.{KeyFault}
use Rattle.tilt_keyed_run.specs.declared.bad_keyed_line.BadKeyedLine.{BadKeyedLine}
use Rattle.tilt_keyed_run.specs.declared.bad_keyed_line.BadKeyedLine.TheVariants.{NoKey, OfKey}

-- What a run of one key writes before its first line, and for a line after others.
module _ (first : List ℕ) (added : List (List ℕ) → List ℕ → List ℕ) where
  -- what a run writes for lines after others
  abbrev pub written : List (List ℕ) → List (List ℕ) → List ℕ
  written before [] = []
  written before (line ∷ lines) = added before line ++ written (before ++ line ∷ []) lines

  -- all that a run writes that is alone with its lines
  abbrev pub alone : List (List ℕ) → List ℕ
  alone lines = first ++ written [] lines

  -- the lines that it writes then, if it has a line
  abbrev pub alone_lines : List (List ℕ) → List (List ℕ)
  alone_lines [] = []
  alone_lines (line ∷ lines) = lines_in (alone (line ∷ lines))

  -- what is written for a line of one key: with the key, what its run writes for it. The run of a new key starts with the last line of
  -- every key
  abbrev pub own_output : List ℕ → List (List ℕ) → List ℕ → List KeyFeed → List ℕ
  own_output key shared line [] = with_key key (alone (shared ++ line ∷ []))
  own_output key shared line (feed ∷ feeds) =
      if bytes_eq feed.key key then with_key feed.key (added feed.lines line) else own_output key shared line feeds

  -- what is written for a line of every key: what the run of each key writes for it, in the order of the keys
  abbrev pub every_output : List ℕ → List KeyFeed → List ℕ
  every_output line [] = []
  every_output line (feed ∷ feeds) = with_key feed.key (added feed.lines line) ++ every_output line feeds

  abbrev pub key_output : List ℕ → List ℕ → KeyedFeed → List ℕ
  key_output [] line feed = every_output line feed.keys
  key_output (byte ∷ key) line feed = own_output (byte ∷ key) feed.shared line feed.keys

  -- what is written for a line with an address: nothing if it is blank or has no key
  abbrev pub address_output : Result (Option (List ℕ × List ℕ)) KeyFault → KeyedFeed → List ℕ
  address_output (Ok (Some parts)) feed = key_output parts.0 parts.1 feed
  address_output (Ok None) feed = []
  address_output (Err why) feed = []

  -- what is written for lines of a feed
  abbrev pub output : List (List ℕ) → KeyedFeed → List ℕ
  output [] feed = []
  output (line ∷ lines) feed = address_output (address line) feed ++ output lines (after_address (address line) feed)

-- Why a line after others is bad for the run of one key, if it is.
module _ {Bad : Type 0} (fault : List (List ℕ) → List ℕ → Option Bad) where
  -- why a line of one key is. The run of a new key starts with the last line of every key, which was judged when it came
  abbrev pub own_fault : List ℕ → List (List ℕ) → List ℕ → List KeyFeed → Option Bad
  own_fault key shared line [] = fault shared line
  own_fault key shared line (feed ∷ feeds) = if bytes_eq feed.key key then fault feed.lines line else own_fault key shared line feeds

  -- why a line of every key is: the first cause in the order of the keys
  abbrev pub every_fault : List ℕ → List KeyFeed → Option Bad
  every_fault line [] = None
  every_fault line (feed ∷ feeds) = option_or (fault feed.lines line) (every_fault line feeds)

  abbrev pub key_fault : List ℕ → List ℕ → KeyedFeed → Option Bad
  key_fault [] line feed = every_fault line feed.keys
  key_fault (byte ∷ key) line feed = own_fault (byte ∷ key) feed.shared line feed.keys

  -- why a line with an address is bad, if it is
  abbrev pub address_fault : Result (Option (List ℕ × List ℕ)) KeyFault → KeyedFeed → Option (BadKeyedLine Bad)
  address_fault (Ok (Some parts)) feed = option_map OfKey (key_fault parts.0 parts.1 feed)
  address_fault (Ok None) feed = None
  address_fault (Err why) feed = Some (NoKey why)

-- whether a key is one of these
abbrev pub is_known : List ℕ → List KeyFeed → Bool
is_known key feeds = list_any (λ feed. bytes_eq feed.key key) feeds

-- whether a key would be one more than there may be. A line of every key has no key of its own
abbrev pub key_exceeds : ℕ → List ℕ → List KeyFeed → Bool
key_exceeds most [] feeds = false
key_exceeds most (byte ∷ key) feeds = not (is_known (byte ∷ key) feeds) && nat_le most (length feeds)

-- whether the key of a line with an address would be
abbrev pub address_exceeds : ℕ → Result (Option (List ℕ × List ℕ)) KeyFault → KeyedFeed → Bool
address_exceeds most (Ok (Some parts)) feed = key_exceeds most parts.0 feed.keys
address_exceeds most (Ok None) feed = false
address_exceeds most (Err why) feed = false
