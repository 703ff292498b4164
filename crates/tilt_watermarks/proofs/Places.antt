-- Inputs by their numbers, and how many updates they hold.
use Rattle.std.proofs.Common.{◌≡◌, ◌≤◌, ◌<◌, ◌+◌, ℕ, zero, suc, ℤ, false, List, [], ◌∷◌, ◌++◌, length, map, replicate, take, drop, get_or, slice_get, slice_set, Option, Some, None}
use Rattle.std.proofs.Common.{refl, sym, ap, subst, ◌∙◌, arith, append_assoc, append-nil, drop-cons}
use Rattle.std.proofs.lemmas.Option.{same_Some}
use Rattle.tilt_feed.specs.declared.event.Event.{Event}
use Rattle.tilt_feed.specs.declared.update.Update.{Update}
use Rattle.tilt_watermarks.specs.Held.{Waiting, entered, known, turned}
use Rattle.tilt_watermarks.specs.Steps.{closed, events_at, handed_at, held_count, input_at, inputs_entered, overlaps, overlaps_at, raising, unknown}

-- the input with a number, and none
pub input-at : (inputs : List Waiting) (number : ℕ) (input : Waiting) → slice_get inputs number ≡ Some input → input_at inputs number ≡ input
input-at [] number input is = absurd (cc is)
input-at (x ∷ inputs) zero input is = same_Some x input is
input-at (x ∷ inputs) (suc number) input is = input-at inputs number input is

pub input-past : (inputs : List Waiting) (number : ℕ) → length inputs ≤ number → input_at inputs number ≡ unknown
input-past [] number past = refl
input-past (x ∷ inputs) zero past = absurd (omega arith)
input-past (x ∷ inputs) (suc number) past = input-past inputs number (omega arith)

-- whether an update overlaps what it holds
pub overlaps-at : (lateness : Option ℕ) (inputs : List Waiting) (number : ℕ) (input : Waiting) (update : Update) → slice_get inputs number ≡ Some input
    → overlaps_at lateness inputs number update ≡ overlaps lateness input update
overlaps-at lateness [] number input update is = absurd (cc is)
overlaps-at lateness (x ∷ inputs) zero input update is = ap (λ (i : Waiting). overlaps lateness i update) (same_Some x input is)
overlaps-at lateness (x ∷ inputs) (suc number) input update is = overlaps-at lateness inputs number input update is

pub overlaps-past : (lateness : Option ℕ) (inputs : List Waiting) (number : ℕ) (update : Update) → length inputs ≤ number → overlaps_at lateness inputs number update ≡ false
overlaps-past lateness [] number update past = refl
overlaps-past lateness (x ∷ inputs) zero update past = absurd (omega arith)
overlaps-past lateness (x ∷ inputs) (suc number) update past = overlaps-past lateness inputs number update (omega arith)

pub overlaps-never : (inputs : List Waiting) (number : ℕ) (update : Update) → overlaps_at None inputs number update ≡ false
overlaps-never [] number update = refl
overlaps-never (x ∷ inputs) zero update = refl
overlaps-never (x ∷ inputs) (suc number) update = overlaps-never inputs number update

-- the inputs after it takes an update, and what it hands on
pub entered-at : (lateness : Option ℕ) (inputs : List Waiting) (number : ℕ) (input : Waiting) (update : Update) → slice_get inputs number ≡ Some input
    → inputs_entered lateness number update inputs ≡ slice_set inputs number (turned (entered lateness update input) input.edge)
entered-at lateness [] number input update is = absurd (cc is)
entered-at lateness (x ∷ inputs) zero input update is = ap (λ (i : Waiting). turned (entered lateness update i) i.edge ∷ inputs) (same_Some x input is)
entered-at lateness (x ∷ inputs) (suc number) input update is = ap (λ (list : List Waiting). x ∷ list) (entered-at lateness inputs number input update is)

pub handed-at : (lateness : Option ℕ) (inputs : List Waiting) (number : ℕ) (input : Waiting) (update : Update) → slice_get inputs number ≡ Some input
    → handed_at lateness number update inputs ≡ (entered lateness update input).handed
handed-at lateness [] number input update is = absurd (cc is)
handed-at lateness (x ∷ inputs) zero input update is = ap (λ (i : Waiting). (entered lateness update i).handed) (same_Some x input is)
handed-at lateness (x ∷ inputs) (suc number) input update is = handed-at lateness inputs number input update is

pub entered-past : (lateness : Option ℕ) (inputs : List Waiting) (number : ℕ) (update : Update) → length inputs ≤ number → inputs_entered lateness number update inputs ≡ inputs
entered-past lateness [] number update past = refl
entered-past lateness (x ∷ inputs) zero update past = absurd (omega arith)
entered-past lateness (x ∷ inputs) (suc number) update past = ap (λ (list : List Waiting). x ∷ list) (entered-past lateness inputs number update (omega arith))

pub handed-past : (lateness : Option ℕ) (inputs : List Waiting) (number : ℕ) (update : Update) → length inputs ≤ number → handed_at lateness number update inputs ≡ update ∷ []
handed-past lateness [] number update past = refl
handed-past lateness (x ∷ inputs) zero update past = absurd (omega arith)
handed-past lateness (x ∷ inputs) (suc number) update past = handed-past lateness inputs number update (omega arith)

-- how many updates are held
pub count-item : (inputs : List Waiting) (number : ℕ) (input : Waiting) → slice_get inputs number ≡ Some input → length input.held ≤ held_count inputs
count-item [] number input is = absurd (cc is)
count-item (x ∷ inputs) zero input is = subst (λ (i : Waiting). length i.held ≤ length x.held + held_count inputs) (same_Some x input is) (omega arith)
count-item (x ∷ inputs) (suc number) input is = let more = count-item inputs number input is in omega (arith, more)

pub count-set : (inputs : List Waiting) (number : ℕ) (input now : Waiting) → slice_get inputs number ≡ Some input
    → held_count (slice_set inputs number now) + length input.held ≡ held_count inputs + length now.held
count-set [] number input now is = absurd (cc is)
count-set (x ∷ inputs) zero input now is =
    subst (λ (i : Waiting). (length now.held + held_count inputs) + length i.held ≡ (length x.held + held_count inputs) + length now.held) (same_Some x input is) (omega arith)
count-set (x ∷ inputs) (suc number) input now is = let more = count-set inputs number input now is in omega (arith, more)

pub length-none : (updates : List Update) → length updates ≡ 0 → updates ≡ []
length-none [] is = refl
length-none (update ∷ updates) is = absurd (omega arith)

pub count-none : (inputs : List Waiting) (number : ℕ) (input : Waiting) → held_count inputs ≡ 0 → slice_get inputs number ≡ Some input → input.held ≡ []
count-none inputs number input none is = let few = count-item inputs number input is in length-none input.held (omega (arith, few, none))

pub count-closed : (inputs : List Waiting) → held_count (map closed inputs) ≡ held_count inputs
count-closed [] = refl
count-closed (input ∷ inputs) = ap (λ (n : ℕ). length input.held + n) (count-closed inputs)

pub count-unknown : (inputs : ℕ) → held_count (replicate inputs unknown) ≡ 0
count-unknown zero = refl
count-unknown (suc inputs) = ap (λ (n : ℕ). 0 + n) (count-unknown inputs)

-- where a loop has changed the items below an index, the item there is as it was
pub item-next : (f : Waiting → Waiting) (xs : List Waiting) (i : ℕ) (d : Waiting) → i < length xs → get_or (map f (take i xs) ++ drop i xs) i d ≡ get_or xs i d
item-next f [] i d within = absurd (omega arith)
item-next f (x ∷ xs) zero d within = refl
item-next f (x ∷ xs) (suc i) d within = item-next f xs i d (omega arith)

-- the item itself, and what is left from it on
pub rest-next : (f : Waiting → Waiting) (xs ys : List Waiting) (i : ℕ) (d : Waiting) → i < length xs → ys ≡ map f (take i xs) ++ drop i xs
    → drop i xs ≡ get_or ys i d ∷ drop (suc i) xs
rest-next f xs ys i d within is =
    let same = ap (λ (list : List Waiting). get_or list i d) is ∙ item-next f xs i d within in
    rw same (drop-cons xs i d within)

pub raising-cons : (number : ℕ) (end : Option ℤ) (input : Waiting) (inputs : List Waiting)
    → raising number end (input ∷ inputs) ≡ raising number end (input ∷ []) ++ raising (suc number) end inputs
raising-cons number end input inputs =
    ap (λ (list : List Event). list ++ raising (suc number) end inputs) (sym (append-nil (events_at number (known end input).handed)))

-- the events of a loop that raises one input after another
pub raising-step : (items new base : List Event) (i : ℕ) (end : Option ℤ) (xs : List Waiting) (x : Waiting) → drop i xs ≡ x ∷ drop (suc i) xs
    → items ++ raising i end (drop i xs) ≡ base → new ≡ items ++ raising i end (x ∷ []) → new ++ raising (suc i) end (drop (suc i) xs) ≡ base
raising-step items new base i end xs x rest before is =
    ap (λ (list : List Event). list ++ raising (suc i) end (drop (suc i) xs)) is
    ∙ append_assoc items (raising i end (x ∷ [])) (raising (suc i) end (drop (suc i) xs))
    ∙ ap (λ (list : List Event). items ++ list) (sym (raising-cons i end x (drop (suc i) xs)))
    ∙ ap (λ (list : List Waiting). items ++ raising i end list) (sym rest)
    ∙ before
