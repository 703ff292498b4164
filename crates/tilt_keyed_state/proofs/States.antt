-- Whole states.
use Rattle.std.proofs.Common.{◌≡◌, ℕ, ◌<◌, ◌^◌, List, ◌∷◌, ◌++◌, length, Option, None, Some, Result, Ok, Err, IfOk, IfErr, MatchResult, refl, sym, ap, ◌∙◌, arith, subst}
use Rattle.tilt_keyed_state.specs.Faults.{SpellsNone}
use Rattle.tilt_keyed_state.specs.declared.fault.KeyedStateFault.{KeyedStateFault}
use Rattle.tilt_keyed_state.specs.declared.fault.KeyedStateFault.TheVariants as faults
use Rattle.std.proofs.lemmas.List.{append_cancel_left, length-append}
use Rattle.tilt_keyed_state.proofs.Keys.{keys_once}
use Rattle.tilt_keyed_state.proofs.Parts.{not_part, part_shorter, parts_apart}
use Rattle.tilt_keyed_state.specs.Spelling.{first_line, keys_text, shared_text, spelled}
use Rattle.tilt_keyed_state.specs.State.{KeyedStateParts}

-- a text begins with the last line of every key in one way only
pub shared_apart : (bytes : List ℕ) (a b : Option (List ℕ)) (r s : List ℕ) → length bytes < 2 ^ 63 → bytes ≡ shared_text a ++ r → bytes ≡ shared_text b ++ s
    → (a ≡ b) × (r ≡ s)
shared_apart bytes None None r s small first second = (refl, append_cancel_left (shared_text None) r s (sym first ∙ second))
shared_apart bytes None (Some q) r s small first second =
    let few = part_shorter bytes q s second in
    absurd (not_part 110 (111 ∷ 110 ∷ 101 ∷ 10 ∷ r) q s (omega arith) (omega (arith, few, small)) (sym first ∙ second))
shared_apart bytes (Some p) None r s small first second =
    let few = part_shorter bytes p r first in
    absurd (not_part 110 (111 ∷ 110 ∷ 101 ∷ 10 ∷ s) p r (omega arith) (omega (arith, few, small)) (sym second ∙ first))
shared_apart bytes (Some p) (Some q) r s small first second =
    let few = part_shorter bytes p r first in
    let less = part_shorter bytes q s second in
    let apart = parts_apart p q r s (omega (arith, few, small)) (omega (arith, less, small)) (sym first ∙ second) in
    (ap (λ (l : List ℕ). Some l) apart.0, apart.1)

pub state_shape : (s : KeyedStateParts) → spelled s ≡ first_line ++ (shared_text s.shared ++ keys_text s.keys)
state_shape s = refl

-- a state is spelled in one way
pub states_once : (s t : KeyedStateParts) → length (spelled s) < 2 ^ 63 → spelled s ≡ spelled t → s ≡ t
states_once s t small e =
    let bodies = append_cancel_left first_line (shared_text s.shared ++ keys_text s.keys) (shared_text t.shared ++ keys_text t.keys) e in
    let body = length-append (shared_text s.shared) (keys_text s.keys) in
    let front = length-append first_line (shared_text s.shared ++ keys_text s.keys) in
    let apart = shared_apart (shared_text s.shared ++ keys_text s.keys) s.shared t.shared (keys_text s.keys) (keys_text t.keys) (omega (arith, front, small)) refl bodies in
    let keys = keys_once s.keys t.keys (omega (arith, body, front, small)) apart.1 in
    λ i. record { shared = apart.0 i; keys = keys i }

-- why no state was read of the text after its first line, as that of the whole
fault_of_body : (text body : List ℕ) (fault : KeyedStateFault) → text ≡ first_line ++ body → (fault ≡ faults.OtherFormat → ⊥)
    → (fault ≡ faults.Damaged → (s : KeyedStateParts) → ¬ (body ≡ shared_text s.shared ++ keys_text s.keys)) → SpellsNone text fault
fault_of_body text body faults.OtherFormat begins other none = absurd (other refl)
fault_of_body text body faults.Damaged begins other none =
    ((body, begins), λ s e. none refl s (append_cancel_left first_line body (shared_text s.shared ++ keys_text s.keys) (sym begins ∙ e)))
fault_of_body text body faults.OutOfMemory begins other none = tt

pub none_of_body : {T : Type 0} (text body : List ℕ) (result : Result T KeyedStateFault) → text ≡ first_line ++ body
    → IfErr result (λ fault. (fault ≡ faults.OtherFormat → ⊥)
    × (fault ≡ faults.Damaged → (s : KeyedStateParts) → ¬ (body ≡ shared_text s.shared ++ keys_text s.keys))) → IfErr result (SpellsNone text)
none_of_body text body (Ok s) begins why = tt
none_of_body text body (Err fault) begins why = fault_of_body text body fault begins why.0 why.1

-- of a state that is spelled, only memory can be the fault
only_memory : (text : List ℕ) (fault : KeyedStateFault) (s : KeyedStateParts) → text ≡ spelled s → SpellsNone text fault → fault ≡ faults.OutOfMemory
only_memory text faults.OtherFormat s e none = absurd (none (shared_text s.shared ++ keys_text s.keys, e))
only_memory text faults.Damaged s e none = absurd (none.1 s e)
only_memory text faults.OutOfMemory s e none = refl

pub only_of : {T : Type 0} (text : List ℕ) → length text < 2 ^ 63 → (result : Result T KeyedStateFault) (seen : T → KeyedStateParts)
    → IfOk result (λ found. text ≡ spelled (seen found)) → IfErr result (SpellsNone text) → (s : KeyedStateParts) → text ≡ spelled s
    → MatchResult result (λ found. seen found ≡ s) (λ fault. fault ≡ faults.OutOfMemory)
only_of text small (Ok found) seen is none s e =
    states_once (seen found) s (subst (λ (t : List ℕ). length t < 2 ^ 63) is small) (sym is ∙ e)
only_of text small (Err fault) seen is none s e = only_memory text fault s e none
