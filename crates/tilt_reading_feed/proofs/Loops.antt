-- The loops over inputs, one step on.
use Rattle.std.proofs.Common.{◌≡◌, ◌<◌, ◌+◌, ℕ, suc, List, ◌++◌, length, map, take, drop, slice_get, Option, Some, option_map}
use Rattle.std.proofs.Common.{sym, ap, ◌∙◌, append_assoc, add-one}
use Rattle.std.proofs.lemmas.Option.{slice_get-map}
use Rattle.tilt_conventions.specs.declared.converter.Converter.{Converter}
use Rattle.tilt_conventions.specs.declared.turn.Turn.{Turn}
use Rattle.tilt_feed.specs.declared.event.Event.{Event}
use Rattle.tilt_feed.specs.declared.update.Update.{Update}
use Rattle.tilt_reading_feed.proofs.Turns.{each-next, handed-next, turned-next}
use Rattle.tilt_reading_feed.specs.Machine.{input_of, inputs_of}
use Rattle.tilt_reading_feed.specs.Steps.{InputKept, events_at, events_each, handed, handed_at, inputs_turned, turned}

-- an input by its converter
pub input-at : (converters : List Converter) (place : ℕ) (converter : Converter) → slice_get converters place ≡ Some converter
    → slice_get (inputs_of converters) place ≡ Some (input_of converter)
input-at converters place converter at =
    slice_get-map input_of converters place ∙ ap (λ (found : Option Converter). option_map input_of found) at

-- one more input takes a turn
pub turn-next : (turn : Turn) (all now later : List InputKept) (place : ℕ) → place < length all
    → now ≡ map (turned turn) (take place all) ++ drop place all → later ≡ inputs_turned place turn now
    → later ≡ map (turned turn) (take (place + 1) all) ++ drop (place + 1) all
turn-next turn all now later place within is more =
    more ∙ ap (inputs_turned place turn) is ∙ rw add-one (turned-next turn all place within)

pub turn-events : (turn : Turn) (all now : List InputKept) (place : ℕ) (input : InputKept) (items new base : List Event) → slice_get all place ≡ Some input
    → now ≡ map (turned turn) (take place all) ++ drop place all → new ≡ items ++ events_at place (handed_at place turn now)
    → items ++ events_each (handed turn) place (drop place all) ≡ base → new ++ events_each (handed turn) (place + 1) (drop (place + 1) all) ≡ base
turn-events turn all now place input items new base at is more before =
    let rest = events_each (handed turn) (suc place) (drop (suc place) all) in
    let here = ap (handed_at place turn) is ∙ handed-next turn all place input at in
    rw add-one
    (ap (λ (list : List Event). list ++ rest) (more ∙ ap (λ (list : List Update). items ++ events_at place list) here)
    ∙ append_assoc items (events_at place (handed turn input)) rest
    ∙ ap (λ (list : List Event). items ++ list) (sym (each-next (handed turn) all place place input at))
    ∙ before)

-- one more input hands on what it does
pub hand-next : (updates : InputKept → List Update) (all : List InputKept) (place : ℕ) (input : InputKept) (items new base : List Event) → slice_get all place ≡ Some input
    → new ≡ items ++ events_at place (updates input) → items ++ events_each updates place (drop place all) ≡ base
    → new ++ events_each updates (place + 1) (drop (place + 1) all) ≡ base
hand-next updates all place input items new base at more before =
    let rest = events_each updates (suc place) (drop (suc place) all) in
    rw add-one
    (ap (λ (list : List Event). list ++ rest) more
    ∙ append_assoc items (events_at place (updates input)) rest
    ∙ ap (λ (list : List Event). items ++ list) (sym (each-next updates all place place input at))
    ∙ before)
