-- Inputs by their numbers, and the turns that they take.
use Rattle.std.proofs.Common.{◌≡◌, ◌≤◌, ◌<◌, ℕ, zero, suc, List, [], ◌∷◌, ◌++◌, length, map, take, drop, slice_get, slice_set, Option, Some, None}
use Rattle.std.proofs.Common.{Result, Ok, Err, is_ok, if◌then◌else◌, refl, sym, ap, ap₂, ◌∙◌, arith}
use Rattle.std.specs.Prelude.{IsOk}
use Rattle.std.proofs.lemmas.Option.{same_Some}
use Rattle.tilt_conventions.proofs.Converting.{stepped_by}
use Rattle.tilt_conventions.specs.Machine.{IsTaken, kept_by, options_of}
use Rattle.tilt_conventions.specs.Steps.{Kept, taken, turn_fault}
use Rattle.tilt_conventions.specs.declared.converter.Converter.{Converter}
use Rattle.tilt_conventions.specs.declared.fault.TakeError.{TakeError}
use Rattle.tilt_conventions.specs.declared.fault.TakeError.TheVariants.{Fault, OutOfMemory}
use Rattle.tilt_conventions.specs.declared.fault.TurnFault.{TurnFault}
use Rattle.tilt_conventions.specs.declared.options.Options.{Options}
use Rattle.tilt_conventions.specs.declared.turn.Turn.{Turn}
use Rattle.tilt_feed.specs.declared.update.Update.{Update}
use Rattle.tilt_reading_feed.specs.Machine.{input_of, inputs_of}
use Rattle.tilt_reading_feed.specs.Steps.{InputKept, events_at, events_each, handed, handed_at, inputs_turned, turned}

-- the converter with a number after a turn
pub turned-set : (converters : List Converter) (number : ℕ) (old new : Converter) (turn : Turn) → slice_get converters number ≡ Some old
    → input_of new ≡ turned turn (input_of old) → inputs_of (slice_set converters number new) ≡ inputs_turned number turn (inputs_of converters)
turned-set [] number old new turn at is = absurd (cc at)
turned-set (first ∷ converters) zero old new turn at is =
    ap (λ (input : InputKept). input ∷ inputs_of converters) (is ∙ ap (λ (c : Converter). turned turn (input_of c)) (sym (same_Some first old at)))
turned-set (first ∷ converters) (suc number) old new turn at is =
    ap (λ (list : List InputKept). input_of first ∷ list) (turned-set converters number old new turn at is)

pub handed-of : (converters : List Converter) (number : ℕ) (converter : Converter) (turn : Turn) → slice_get converters number ≡ Some converter
    → handed_at number turn (inputs_of converters) ≡ handed turn (input_of converter)
handed-of [] number converter turn at = absurd (cc at)
handed-of (first ∷ converters) zero converter turn at = ap (λ (c : Converter). handed turn (input_of c)) (same_Some first converter at)
handed-of (first ∷ converters) (suc number) converter turn at = handed-of converters number converter turn at

-- no input has the number
pub turned-past : (inputs : List InputKept) (number : ℕ) (turn : Turn) → length inputs ≤ number → inputs_turned number turn inputs ≡ inputs
turned-past [] number turn past = refl
turned-past (input ∷ inputs) zero turn past = absurd (omega arith)
turned-past (input ∷ inputs) (suc number) turn past = ap (λ (list : List InputKept). input ∷ list) (turned-past inputs number turn (omega arith))

pub handed-past : (inputs : List InputKept) (number : ℕ) (turn : Turn) → length inputs ≤ number → handed_at number turn inputs ≡ []
handed-past [] number turn past = refl
handed-past (input ∷ inputs) zero turn past = absurd (omega arith)
handed-past (input ∷ inputs) (suc number) turn past = handed-past inputs number turn (omega arith)

-- a turn, by the result of the call that takes it
pub record Steps (options : Options) (turn : Turn) (before now : Kept) (more : List Update) : Type 0 where
  pub kept : now ≡ (stepped_by (turn_fault options.ties before turn) options turn before).kept
  pub updates : more ≡ (stepped_by (turn_fault options.ties before turn) options turn before).updates

pub steps : (options : Options) (turn : Turn) (kept now : Kept) (updates : List Update) (result : Result (Unit {0}) TakeError)
    → IsTaken result (turn_fault options.ties kept turn) → (turn_fault options.ties kept turn ≡ None → IsOk result)
    → now ≡ (if is_ok result then (taken options turn kept).kept else kept)
    → updates ≡ (if is_ok result then [] ++ (taken options turn kept).updates else []) → Steps options turn kept now updates
steps options turn kept now updates (Ok done) is memory same more = record {
  kept = same ∙ ap (λ (fault : Option TurnFault). (stepped_by fault options turn kept).kept) (sym is);
  updates = more ∙ ap (λ (fault : Option TurnFault). (stepped_by fault options turn kept).updates) (sym is);
}
steps options turn kept now updates (Err (Fault found)) is memory same more = record {
  kept = same ∙ ap (λ (fault : Option TurnFault). (stepped_by fault options turn kept).kept) (sym is);
  updates = more ∙ ap (λ (fault : Option TurnFault). (stepped_by fault options turn kept).updates) (sym is);
}
steps options turn kept now updates (Err OutOfMemory) is memory same more = absurd (cc (memory is))

pub steps-input : (turn : Turn) (old new : Converter) (updates : List Update) → options_of new ≡ options_of old
    → Steps (options_of old) turn (kept_by old) (kept_by new) updates → input_of new ≡ turned turn (input_of old)
steps-input turn old new updates same is = ap₂ (λ (o : Options) (k : Kept). record { options = o; kept = k }) same is.kept

-- a loop over all inputs: one more took the turn,
pub turned-next : (turn : Turn) (inputs : List InputKept) (number : ℕ) → number < length inputs
    → inputs_turned number turn (map (turned turn) (take number inputs) ++ drop number inputs)
    ≡ map (turned turn) (take (suc number) inputs) ++ drop (suc number) inputs
turned-next turn [] number within = absurd (omega arith)
turned-next turn (input ∷ inputs) zero within = refl
turned-next turn (input ∷ inputs) (suc number) within =
    ap (λ (list : List InputKept). turned turn input ∷ list) (turned-next turn inputs number (omega arith))

-- and handed on what it does,
pub handed-next : (turn : Turn) (inputs : List InputKept) (number : ℕ) (input : InputKept) → slice_get inputs number ≡ Some input
    → handed_at number turn (map (turned turn) (take number inputs) ++ drop number inputs) ≡ handed turn input
handed-next turn [] number input at = absurd (cc at)
handed-next turn (first ∷ inputs) zero input at = ap (handed turn) (same_Some first input at)
handed-next turn (first ∷ inputs) (suc number) input at = handed-next turn inputs number input at

-- and the others follow
pub each-next : (updates : InputKept → List Update) (inputs : List InputKept) (place number : ℕ) (input : InputKept) → slice_get inputs place ≡ Some input
    → events_each updates number (drop place inputs)
    ≡ events_at number (updates input) ++ events_each updates (suc number) (drop (suc place) inputs)
each-next updates [] place number input at = absurd (cc at)
each-next updates (first ∷ inputs) zero number input at =
    ap (λ (i : InputKept). events_at number (updates i) ++ events_each updates (suc number) inputs) (same_Some first input at)
each-next updates (first ∷ inputs) (suc place) number input at = each-next updates inputs place number input at
