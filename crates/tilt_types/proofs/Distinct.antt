-- No name of a well-formed query occurs twice.
use Rattle.std.proofs.Common.{◌≡◌, ℕ, zero, suc, ◌+◌, true, false, ◌||◌, if◌then◌else◌, ◌⊎◌, inl, inr, ⊎_elim, List, [], ◌∷◌}
use Rattle.std.proofs.Common.{◌++◌, Option, Some, None, is_some, Contains, refl, sym, ◌∙◌, arith, subst, append-nil}
use Rattle.std.specs.Option.{option_or}
use Rattle.std.specs.Str.{bytes_eq}
use Rattle.std.proofs.lemmas.List.Elements.{Contains-append_cases, Contains-append_left, Contains-append_right}
use Rattle.std.proofs.lemmas.Bool.{or_parts, or_right}
use Rattle.tilt_base.proofs.Comparisons.{same_bytes}
use Rattle.tilt_base.proofs.Lists.{Contains-cons_cases}
use Rattle.tilt_lexer.specs.Word.{AreDistinct}
use Rattle.tilt_syntax.specs.Tree.{StatementTree, Input, Let, Emit}
use Rattle.tilt_types.proofs.Clear.{neither, name-clear, expr-clear}
use Rattle.tilt_types.specs.Checked.{input_names, let_names, source_names}
use Rattle.tilt_types.specs.Types.{type_declared, type_of}
use Rattle.tilt_types.specs.WellFormed.{declared_as, declared_by, domain_fault, expr_fault, fault_of, first_fault, is_declared, is_fitting, name_fault}
use Rattle.tilt_types.specs.declared.declared.Declared.{Declared}
use Rattle.tilt_types.specs.declared.value_type.ValueType.{ValueType}
use Rattle.tilt_types.specs.declared.value_type.ValueType.TheVariants as value

-- a name is declared after one more declaration where it was before, or is that one's
pub is_declared-push : (declared : List Declared) (d : Declared) (name : List ℕ) → is_declared (declared ++ d ∷ []) name ≡ (is_declared declared name || bytes_eq d.name name)
is_declared-push [] d name =
    elim (bytes_eq d.name name) as (λ same. is_some (if same then Some d.value_type else None) ≡ same) [ true ↦ refl | false ↦ refl ]
is_declared-push (x ∷ xs) d name =
    elim (bytes_eq x.name name) as (λ same. is_some (if same then Some x.value_type else type_declared (xs ++ d ∷ []) name)
    ≡ (is_some (if same then Some x.value_type else type_declared xs name) || bytes_eq d.name name)) [
      | true ↦ refl
      | false ↦ is_declared-push xs d name
    ]

-- one of these is declared by none of those
pub record AreFresh (declared : List Declared) (names : List (List ℕ)) : Type 0 where
  pub none : (name : List ℕ) → Contains names name → is_declared declared name ≡ false

module _ (declared : List Declared) (x : List ℕ) (a : ValueType) (names : List (List ℕ)) (fresh : AreFresh (declared ++ record { name = x; value_type = a } ∷ []) names) where
  fresh-before : AreFresh declared names
  fresh-before = record {
    none = λ name among.
        (or_parts (is_declared declared name) (bytes_eq x name) (sym (is_declared-push declared (record { name = x; value_type = a }) name) ∙ fresh.none name among)).0;
  }

  not_among : ¬ (Contains names x)
  not_among among =
      let wrong : true ≡ false = sym (or_right (is_declared declared x) (bytes_eq x x) (same_bytes x))
      ∙ sym (is_declared-push declared (record { name = x; value_type = a }) x) ∙ fresh.none x among in
      cc

Contains-insert_cases : (xs ys : List (List ℕ)) (x y : List ℕ) → Contains (xs ++ x ∷ ys) y → (x ≡ y) ⊎ Contains (xs ++ ys) y
Contains-insert_cases xs ys x y among =
    ⊎_elim
    (λ left. inr (Contains-append_left xs ys y left))
    (λ right. ⊎_elim (λ same. inl same) (λ later. inr (Contains-append_right xs ys y later)) (Contains-cons_cases x ys y right))
    (Contains-append_cases xs (x ∷ ys) y among)

AreDistinct-insert : (xs ys : List (List ℕ)) (x : List ℕ) → AreDistinct (xs ++ ys) → ¬ (Contains (xs ++ ys) x) → AreDistinct (xs ++ x ∷ ys)
AreDistinct-insert [] ys x h absent = (absent, h)
AreDistinct-insert (y ∷ xs) ys x h absent = (
  λ among. ⊎_elim (λ same. absent (zero, omega arith, sym same)) (λ later. h.0 later) (Contains-insert_cases xs ys x y among),
  AreDistinct-insert xs ys x h.1 (λ among. absent (suc among.0, omega (arith, among.1), among.2)),
)

-- the names of these statements are fresh and distinct
pub record AreNew (declared : List Declared) (names : List (List ℕ)) : Type 0 where
  pub fresh : AreFresh declared names
  pub distinct : AreDistinct names

module _ (declared : List Declared) (x : List ℕ) (free : is_declared declared x ≡ false) (xs ys : List (List ℕ)) where
  new-insert : (a : ValueType) → AreNew (declared ++ record { name = x; value_type = a } ∷ []) (xs ++ ys) → AreNew declared (xs ++ x ∷ ys)
  new-insert a new = record {
    fresh = record {
      none = λ name among.
          ⊎_elim
          (λ same. subst (λ (n : List ℕ). is_declared declared n ≡ false) same free)
          (λ later. (fresh-before declared x a (xs ++ ys) new.fresh).none name later)
          (Contains-insert_cases xs ys x name among);
    };
    distinct = AreDistinct-insert xs ys x new.distinct (not_among declared x a (xs ++ ys) new.fresh);
  }

  new-insert_typed : (o : Option ValueType) → is_fitting false o ≡ true → AreNew (declared ++ declared_as x o) (xs ++ ys) → AreNew declared (xs ++ x ∷ ys)
  new-insert_typed None fits new = absurd (cc fits)
  new-insert_typed (Some a) fits new = new-insert a new

names-new : (n : ℕ) (declared : List Declared) (query : List StatementTree) → first_fault n declared query ≡ None → AreNew declared (source_names query)
names-new n declared [] h = record { fresh = record { none = λ name among. absurd (omega (arith, among.1)) }; distinct = tt }
names-new n declared (Input x ∷ query) h =
    let here = neither (fault_of n declared (Input x)) (first_fault (n + 1) (declared ++ declared_by declared (Input x)) query) h in
    let new = names-new (n + 1) (declared ++ declared_by declared (Input x)) query here.1 in
    new-insert declared x (name-clear n declared x here.0) [] (source_names query) value.Int new
names-new n declared (Let x e over every ∷ query) h =
    let here = neither (fault_of n declared (Let x e over every)) (first_fault (n + 1) (declared ++ declared_by declared (Let x e over every)) query) h in
    let parts = neither (option_or (name_fault n declared x) (expr_fault n declared false e)) (domain_fault n over every) here.0 in
    let first = neither (name_fault n declared x) (expr_fault n declared false e) parts.0 in
    let new = names-new (n + 1) (declared ++ declared_by declared (Let x e over every)) query here.1 in
    new-insert_typed declared x (name-clear n declared x first.0) (input_names query) (let_names query) (type_of declared e) (expr-clear n declared false e first.1).typed new
names-new n declared (Emit e over every ∷ query) h =
    let here = neither (fault_of n declared (Emit e over every)) (first_fault (n + 1) (declared ++ declared_by declared (Emit e over every)) query) h in
    subst (λ (ds : List Declared). AreNew ds (source_names query)) (append-nil declared) (names-new (n + 1) (declared ++ declared_by declared (Emit e over every)) query here.1)

-- no name occurs twice among the sources
pub source_names-distinct : (query : List StatementTree) → first_fault 1 [] query ≡ None → AreDistinct (source_names query)
source_names-distinct query h = (names-new 1 [] query h).distinct
