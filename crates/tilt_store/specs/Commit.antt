-- What a folder holds as committed.
use Rattle.std.specs.Prelude.{ℕ, ℤ, pos, negsuc, if◌then◌else◌, nat_le, List, [], ◌∷◌, ◌++◌, length, take, Option, Some, None, Result, Ok}
use Rattle.std.specs.Prelude.{Err}
use Rattle.std.specs.Fmt.{decimal}
use Rattle.tilt_text.specs.Cut.{until_at}
use Rattle.tilt_text.specs.Spelled.{shortest}
use Rattle.tilt_text.specs.Step.{◌>>=◌}
use Rattle.tilt_store.specs.Kept.{Kept}
use Rattle.tilt_store.specs.Seal.{sealed, unsealed}
use Rattle.tilt_store.specs.declared.open_error.OpenError.{OpenError}
use Rattle.tilt_store.specs.declared.open_error.OpenError.TheVariants.{OutputWithoutState, BrokenState, OutputTooShort}

-- the committed output, and the state that the caller committed with it
pub record Commit : Type 0 where
  pub output : List ℕ
  pub state : List ℕ

-- a number in decimal, LF, and a text
abbrev pub counted : ℕ → List ℕ → List ℕ
counted n text = decimal n ++ 10 ∷ text

-- the bytes of a state file: how many bytes of the output are committed, and the caller's state, behind the seal of both
abbrev pub spelled : ℕ → List ℕ → List ℕ
spelled n state = sealed (counted n state)

-- the number if it isn't negative
abbrev pub natural : ℤ → Option ℕ
natural (pos n) = Some n
natural (negsuc n) = None

-- the number that a line spells in shortest decimal
abbrev pub length_spelled : List ℕ → Option ℕ
length_spelled line = shortest line >>= natural

-- a number, and the text behind its line
abbrev pub before : List ℕ → ℕ → Option (ℕ × List ℕ)
before text n = Some (n, text)

-- the number that a line spells, and the text behind it
abbrev pub with_length : List ℕ × List ℕ → Option (ℕ × List ℕ)
with_length parts = length_spelled parts.0 >>= before parts.1

-- the number in the first line of bytes, and the text behind that line
abbrev pub uncounted : List ℕ → Option (ℕ × List ℕ)
uncounted bytes = until_at 10 bytes >>= with_length

-- the length and the caller's state that a state file spells
abbrev pub unspelled : List ℕ → Option (ℕ × List ℕ)
unspelled bytes = unsealed bytes >>= uncounted

-- the commit of an output and what the state file spells
abbrev pub commit_of : List ℕ → Option (ℕ × List ℕ) → Result (Option Commit) OpenError
commit_of output None = Err BrokenState
commit_of output (Some mark) =
    if nat_le mark.0 (length output) then Ok (Some (record { output = take mark.0 output; state = mark.1 })) else Err OutputTooShort

-- an output file with no state file beside it
abbrev pub without_state : List ℕ → Result (Option Commit) OpenError
without_state [] = Ok None
without_state (byte ∷ output) = Err OutputWithoutState

-- the commit of a state file and an output file
abbrev pub commit_in : List ℕ → List ℕ → Result (Option Commit) OpenError
commit_in [] output = without_state output
commit_in (byte ∷ state) output = commit_of output (unspelled (byte ∷ state))

-- the last commit of a folder: none if the folder is empty, and the first fault if it is none of ours
abbrev pub committed : Kept → Result (Option Commit) OpenError
committed kept = commit_in kept.state kept.output

-- the commit, or no output and the initial state if there is none
abbrev pub or_initial : List ℕ → Result (Option Commit) OpenError → Result Commit OpenError
or_initial initial (Ok (Some commit)) = Ok commit
or_initial initial (Ok None) = Ok (record { output = []; state = initial })
or_initial initial (Err error) = Err error

-- what a program that starts with this initial state goes on from
abbrev pub resumed : List ℕ → Kept → Result Commit OpenError
resumed initial kept = or_initial initial (committed kept)
