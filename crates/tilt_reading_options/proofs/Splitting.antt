-- What the parts of a text make of a table, part by part.
use Rattle.std.proofs.Common.{◌≡◌, ◌<◌, ◌+◌, ℕ, List, [], ◌∷◌, ◌++◌, length, get_or, take, drop, Option, Some, None, refl, sym, ap, ◌∙◌, arith}
use Rattle.std.proofs.lemmas.List.{take-append-drop, take_all, take_more}
use Rattle.tilt_reading_options.specs.Parts.{after_parts}
use Rattle.tilt_text.specs.Step.{◌>>=◌}

module _ {T : Type 0} (with_part : T → List ℕ → Option T) where
  -- parts after other parts
  after_next : (found : Option T) (parts more : List (List ℕ))
      → ((table : T) → after_parts with_part table (parts ++ more) ≡ (after_parts with_part table parts >>= (λ table. after_parts with_part table more)))
      → (found >>= (λ table. after_parts with_part table (parts ++ more)))
      ≡ ((found >>= (λ table. after_parts with_part table parts)) >>= (λ table. after_parts with_part table more))
  after_next None parts more same = refl
  after_next (Some table) parts more same = same table

  after_append : (table : T) (parts more : List (List ℕ))
      → after_parts with_part table (parts ++ more) ≡ (after_parts with_part table parts >>= (λ table. after_parts with_part table more))
  after_append table [] more = refl
  after_append table (part ∷ parts) more = after_next (with_part table part) parts more (λ table. after_append table parts more)

  only_part : (found : Option T) → (found >>= (λ table. after_parts with_part table [])) ≡ found
  only_part None = refl
  only_part (Some table) = refl

  after_none : (found : Option T) (parts : List (List ℕ)) → found ≡ None → (found >>= (λ table. after_parts with_part table parts)) ≡ None
  after_none found parts none = rw none refl

  -- the parts up to a place, and the one there
  module _ (first : T) (parts : List (List ℕ)) (place : ℕ) (part : List ℕ) (is : (place < length parts) × (part ≡ get_or parts place part)) (table : T)
      (before : after_parts with_part first (take place parts) ≡ Some table) where
    more : take (place + 1) parts ≡ take place parts ++ part ∷ []
    more = take_more parts place part is.0 ∙ ap (λ (p : List ℕ). take place parts ++ p ∷ []) (sym is.1)

    after_part : after_parts with_part first (take (place + 1) parts) ≡ with_part table part
    after_part = ap (λ ps. after_parts with_part first ps) more ∙ after_append first (take place parts) (part ∷ [])
        ∙ ap (λ (found : Option T). found >>= (λ table. after_parts with_part table (part ∷ []))) before ∙ only_part (with_part table part)

    pub part_taken : (next : ℕ) (table' : T) → next ≡ place + 1 → Some table' ≡ with_part table part
        → after_parts with_part first (take next parts) ≡ Some table'
    part_taken next table' one taken = rw one (after_part ∙ sym taken)

    pub part_bad : None ≡ with_part table part → after_parts with_part first parts ≡ None
    part_bad bad =
        ap (λ ps. after_parts with_part first ps) (sym (take-append-drop (place + 1) parts))
        ∙ after_append first (take (place + 1) parts) (drop (place + 1) parts)
        ∙ after_none (after_parts with_part first (take (place + 1) parts)) (drop (place + 1) parts) (after_part ∙ sym bad)

  pub parts_read : (first : T) (parts : List (List ℕ)) (place : ℕ) (table : T) → place ≡ length parts
      → after_parts with_part first (take place parts) ≡ Some table → after_parts with_part first parts ≡ Some table
  parts_read first parts place table end before = ap (λ ps. after_parts with_part first ps) (sym (take_all place parts (omega (arith, end)))) ∙ before

-- the same of the parts themselves
pub one_taken : (parts : List (List ℕ)) (place : ℕ) (part : List ℕ) (is : (place < length parts) × (part ≡ get_or parts place part))
    (taken taken' : List (List ℕ)) (next : ℕ) → next ≡ place + 1 → taken ≡ take place parts → taken' ≡ taken ++ part ∷ [] → taken' ≡ take next parts
one_taken parts place part is taken taken' next one before added =
    rw one (added ∙ ap (λ (ps : List (List ℕ)). ps ++ part ∷ []) before ∙ ap (λ (p : List ℕ). take place parts ++ p ∷ []) is.1
    ∙ sym (take_more parts place part is.0))

pub all_taken : (parts : List (List ℕ)) (place : ℕ) (taken : List (List ℕ)) → place ≡ length parts → taken ≡ take place parts → taken ≡ parts
all_taken parts place taken end before = before ∙ take_all place parts (omega (arith, end))
