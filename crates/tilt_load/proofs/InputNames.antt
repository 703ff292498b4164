-- The names that the arguments bind, one after another.
use Rattle.std.proofs.Common.{◌≡◌, ◌<◌, inl, inr, ℕ, zero, suc, get_or, length, slice_index_or, true, List, [], ◌∷◌, ◌++◌, take, drop, map, refl, sym, ap, subst, ◌∙◌, arith, Option, Some}
use Rattle.std.proofs.Common.{None, Contains}
use Rattle.std.specs.Str.{bytes_eq}
use Rattle.std.proofs.lemmas.Bool.{cases_Bool, false≢true}
use Rattle.tilt_base.proofs.Comparisons.{bytes_same}
use Rattle.tilt_cli.specs.Binding.{Binding, bindings_of}
use Rattle.tilt_cli.specs.Upto.{cut_bindings_of}
use Rattle.tilt_cli.specs.declared.bind.Bind.{Bind}
use Rattle.tilt_cli.specs.declared.cut_bind.CutBind.{CutBind}
use Rattle.tilt_load.specs.InputCuts.{names_cut}
use Rattle.tilt_load.specs.Inputs.{is_among, bound_names, first_unexpected, first_unbound, first_of_two, file_of, faulty_name}

-- the first unexpected name is looked for after this place, and those before it are the names before this place
pub record IsBehind {A : Type 0} (named : A → List ℕ) (declared : List (List ℕ)) (words : List A) (before : List (List ℕ)) (place : ℕ) : Type 0 where
  pub same : first_unexpected declared before (map named (drop place words)) ≡ first_unexpected declared [] (map named words)
  pub among : (name : List ℕ) → is_among name before ≡ is_among name (map named (take place words))

-- the names of binds, taken at once
pub names-bound : (binds : List Bind) → map (λ (b : Bind). b.name) binds ≡ bound_names (bindings_of binds)
names-bound [] = refl
names-bound (b ∷ binds) = ap (λ (ns : List (List ℕ)). b.name ∷ ns) (names-bound binds)

pub names-cut : (binds : List CutBind) → map (λ (b : CutBind). b.name) binds ≡ names_cut (cut_bindings_of binds)
names-cut [] = refl
names-cut (b ∷ binds) = ap (λ (ns : List (List ℕ)). b.name ∷ ns) (names-cut binds)

-- if no name is faulty, a file is bound to each declared name
file_among : (binds : List Binding) (name : List ℕ) → is_among name (bound_names binds) ≡ true → Contains binds (record { name = name; file = file_of binds name })
file_among [] name h = absurd (false≢true h)
file_among (bind ∷ binds) name h =
    elim (cases_Bool (bytes_eq bind.name name)) [
      | inl same ↦
          let names = bytes_same bind.name name same in
          let file : file_of (bind ∷ binds) name ≡ bind.file = rw same refl in
          let it : Binding = record { name = name; file = file_of (bind ∷ binds) name } in
          let is : bind ≡ it = λ i. record { name = names i; file = sym file i } in
          (0, omega arith, is)
      | inr differs ↦
          let file : file_of (bind ∷ binds) name ≡ file_of binds name = rw differs refl in
          let rest = file_among binds name (rw differs at h) in
          let found : Contains (bind ∷ binds) (record { name = name; file = file_of binds name }) = (suc rest.0, omega arith, rest.2) in
          subst (λ (f : List ℕ). Contains (bind ∷ binds) (record { name = name; file = f })) (sym file) found
    ]

unbound_none : (bound : List (List ℕ)) (name : List ℕ) (before after : List (List ℕ)) → first_unbound bound (before ++ name ∷ after) ≡ None → is_among name bound ≡ true
unbound_none bound name [] after none =
    elim (cases_Bool (is_among name bound)) [
      | inl is ↦ is
      | inr differs ↦ let told : Some name ≡ None = rw differs at none in cc
    ]
unbound_none bound name (first ∷ before) after none =
    elim (cases_Bool (is_among first bound)) [
      | inl is ↦ unbound_none bound name before after (rw is at none)
      | inr differs ↦ let told : Some first ≡ None = rw differs at none in cc
    ]

unbound_none_of_two : (first second : Option (List ℕ)) → first_of_two first second ≡ None → second ≡ None
unbound_none_of_two None second none = none
unbound_none_of_two (Some name) second none = cc

pub bound_file : (declared : List (List ℕ)) (binds : List Binding) (name : List ℕ) (before after : List (List ℕ)) → faulty_name declared binds ≡ None → declared
    ≡ before ++ name ∷ after → Contains binds (record { name = name; file = file_of binds name })
bound_file declared binds name before after none place =
    let unbound = unbound_none_of_two (first_unexpected declared [] (bound_names binds)) (first_unbound (bound_names binds) declared) none in
    file_among binds name (unbound_none (bound_names binds) name before after (ap (first_unbound (bound_names binds)) (sym place) ∙ unbound))

-- the name at a place
pub name_at : (names : List (List ℕ)) (place : ℕ) (default name : List ℕ) → place < length names → name ≡ get_or names place name
    → slice_index_or names place default ≡ name
name_at [] place default name low is = absurd (omega (arith, low))
name_at (first ∷ names) zero default name low is = sym is
name_at (first ∷ names) (suc place) default name low is = name_at names place default name (omega (arith, low)) is
