-- Pieces that are read, and moments that are noted.
use Rattle.std.proofs.Common.{◌≡◌, ◌+◌, ◌<◌, ◌≤◌, ℕ, Bool, true, false, cond, List, [], ◌∷◌, ◌++◌, drop, find, length, map, nat_lt, take, Option, Some}
use Rattle.std.proofs.Common.{unwrap_or, All, Ok, Err, refl, sym, ◌∙◌, ap, arith}
use Rattle.std.proofs.lemmas.Bool.Decides.{nat_tests}
use Rattle.std.proofs.Math.Seq.{take-add, take-length}
use Rattle.std.proofs.lemmas.List.{length-drop, length-take-le, map-append, take-append-le, take_at}
use Rattle.std.proofs.lemmas.List.Elements.{All-head, All-tail}
use Rattle.std.specs.Bool.{⊤}
use Rattle.tilt_outside.proofs.Fronts.{AppendsFront-take}
use Rattle.tilt_outside.specs.Faults.{Rose}
use Rattle.tilt_outside.specs.declared.failed.Failed.{Failed}
use Rattle.tilt_port.specs.MemPort.{PortState, WasWithin, moment_at, next_end, transcript_of}
use Rattle.tilt_port.specs.Transcript.{Writes}
use Rattle.tilt_port.specs.declared.asked.Asked.{Asked}

-- an end is within the input, and beyond what was read if more is left
pub record IsEnd (all read end : ℕ) : Type 0 where
  pub within : end ≤ all
  pub beyond : read < all → read < end

is_end-cons : (all read cut : ℕ) (rest : Option ℕ) (is_beyond : Bool) → nat_lt read cut ≡ is_beyond → cut ≤ all → IsEnd all read (unwrap_or rest all)
    → IsEnd all read (unwrap_or (cond is_beyond (Some cut) rest) all)
is_end-cons all read cut rest true is within then = record { within = within; beyond = λ _. grind (arith, nat_tests) }
is_end-cons all read cut rest false is within then = then

is_end : (all read : ℕ) (cuts : List ℕ) → All (λ cut. cut ≤ all) cuts → IsEnd all read (unwrap_or (find (λ cut. nat_lt read cut) cuts) all)
is_end all read [] within = record { within = omega arith; beyond = λ more. more }
is_end all read (cut ∷ cuts) within =
    is_end-cons all read cut (find (λ cut. nat_lt read cut) cuts) (nat_lt read cut) refl (All-head (λ cut. cut ≤ all) cut cuts within)
    (is_end all read cuts (All-tail (λ cut. cut ≤ all) cut cuts within))

pub next_end-IsEnd : (input cuts : List ℕ) (read : ℕ) → All (λ cut. cut ≤ length input) cuts → IsEnd (length input) read (next_end input cuts read)
next_end-IsEnd input cuts read within = is_end (length input) read cuts within

-- bytes that are written leave earlier moments as they were
pub moments-written : (input written piece : List ℕ) (asked : List Asked) → All (WasWithin input written) asked
    → map (moment_at input (written ++ piece)) asked ≡ map (moment_at input written) asked
moments-written input written piece [] within = refl
moments-written input written piece (moment ∷ asked) within =
    let same = take-append-le moment.written written piece (All-head (WasWithin input written) moment asked within).1 in
    rw (same, moments-written input written piece asked (All-tail (WasWithin input written) moment asked within)) refl

-- a moment that is noted is the last
pub moments-noted : (input written : List ℕ) (asked : List Asked) (place held_back : ℕ)
    → map (moment_at input written) (asked ++ record { read = place; written = length written; held_back = held_back } ∷ [])
    ≡ map (moment_at input written) asked ++ record { read = take place input; written = written; held_back = held_back } ∷ []
moments-noted input written asked place held_back =
    map-append (moment_at input written) asked (record { read = place; written = length written; held_back = held_back } ∷ []) ∙ rw (take-length written) refl

-- what a read copies into the room is the next bytes of the input
pub piece-read : (input before : List ℕ) (place n : ℕ) → place + n ≤ length input
    → take (place + n) input ≡ take place input ++ take n (take n (drop place input) ++ drop n before)
piece-read input before place n there =
    let fits : length (take n (drop place input)) ≡ n = length-take-le n (drop place input) (omega (arith, length-drop place input)) in
    take-add place n input ∙ ap (λ (l : List ℕ). take place input ++ l) (sym (take_at (take n (drop place input)) (drop n before) n fits))

-- a write of the whole piece
pub writes-whole : (port : PortState) (piece : List ℕ) (room calls : ℕ) → All (WasWithin port.input port.written) port.asked
    → Writes ⊤ (transcript_of port) (transcript_of (record port { written = port.written ++ piece; room = room; calls = calls })) piece (Ok tt)
writes-whole port piece room calls within = record {
  whole = λ _. refl;
  front = λ _. tt;
  reads_nothing = λ _. record { read = refl; asked = moments-written port.input port.written piece port.asked within; ended = refl };
  cause = record { kept = omega arith; rose = tt };
  reads = refl;
}

-- a write of its first bytes, which failed
pub writes-front : (port : PortState) (piece : List ℕ) (n room faults calls : ℕ) (e : Failed) → All (WasWithin port.input port.written) port.asked
    → port.write_faults ≤ faults → Rose port.write_faults faults
    → Writes ⊤ (transcript_of port) (transcript_of (record port { written = port.written ++ take n piece; room = room; write_faults = faults; calls = calls })) piece (Err e)
writes-front port piece n room faults calls e within kept rose = record {
  whole = λ _. tt;
  front = λ _. AppendsFront-take port.written piece n;
  reads_nothing = λ _. record { read = refl; asked = moments-written port.input port.written (take n piece) port.asked within; ended = refl };
  cause = record { kept = kept; rose = rose };
  reads = refl;
}
