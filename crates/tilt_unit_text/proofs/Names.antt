-- The places of names, and what was declared.
use Rattle.std.proofs.Common.{◌≡◌, ◌⊎◌, inl, inr, ℕ, zero, suc, ◌+◌, ◌<◌, Bool, true, false, if◌then◌else◌, List, [], ◌∷◌, ◌++◌, length, Option, Some, None}
use Rattle.std.proofs.Common.{Ok, refl, sym, ap, arith}
use Rattle.std.specs.Bool.{⊤}
use Rattle.std.specs.List.{slice_get}
use Rattle.std.specs.Str.{bytes_eq}
use Rattle.std.proofs.lemmas.List.Elements.{Contains-append_right}
use Rattle.std.proofs.lemmas.Slice.Eq.{bytes_eq-Decides}
use Rattle.tilt_base.proofs.Comparisons.{same_bytes}
use Rattle.tilt_lexer.specs.Word.{AreDistinct}
use Rattle.tilt_core.specs.Core.{CoreParts}
use Rattle.tilt_lexer.specs.declared.token.Tok.{Tok}
use Rattle.tilt_syntax.specs.Query.{AreGood}
use Rattle.tilt_syntax.specs.Tree.{StatementTree, Input, Let, Emit}
use Rattle.tilt_types.specs.Checked.{core_unless, place_of}
use Rattle.tilt_types.specs.Types.{type_declared}
use Rattle.tilt_types.specs.WellFormed.{is_fitting}
use Rattle.tilt_types.specs.declared.declared.Declared.{Declared}
use Rattle.tilt_types.specs.declared.fault.CheckFault.{CheckFault}
use Rattle.tilt_types.specs.declared.value_type.ValueType.{ValueType}
use Rattle.tilt_units.specs.declared.quantity.Quantity.{Quantity}

place_by : (y : List ℕ) (front : List (List ℕ)) (x : List ℕ) (back : List (List ℕ)) → AreDistinct ((y ∷ front) ++ x ∷ back) → (same : Bool) → bytes_eq y x ≡ same
    → place_of (front ++ x ∷ back) x ≡ length front → (if same then zero else suc (place_of (front ++ x ∷ back) x)) ≡ suc (length front)
place_by y front x back h true e r =
    let is : y ≡ x = (bytes_eq-Decides y x).0 e in
    absurd (h.0 (Contains-append_right front (x ∷ back) y (zero, omega arith, sym is)))
place_by y front x back h false e r = ap suc r

-- the place of a name that occurs once
pub place_once : (front : List (List ℕ)) (x : List ℕ) (back : List (List ℕ)) → AreDistinct (front ++ x ∷ back) → place_of (front ++ x ∷ back) x ≡ length front
place_once [] x back h = rw (same_bytes x) refl
place_once (y ∷ front) x back h = place_by y front x back h (bytes_eq y x) refl (place_once front x back h.1)

pub get_front : (xs ys : List Quantity) (k : ℕ) (q : Quantity) → slice_get xs k ≡ Some q → slice_get (xs ++ ys) k ≡ Some q
get_front [] ys k q h = absurd (cc h)
get_front (x ∷ xs) ys zero q h = h
get_front (x ∷ xs) ys (suc k) q h = get_front xs ys k q h

pub get_end : (xs : List Quantity) (q : Quantity) → slice_get (xs ++ q ∷ []) (length xs) ≡ Some q
get_end [] q = refl
get_end (x ∷ xs) q = get_end xs q

-- a name that is declared after one more declaration was declared before, or is that one's
push_by : (is : Bool) (t a : ValueType) (r s : Option ValueType) {P : Type 0} → (if is then Some t else r) ≡ Some a → (r ≡ Some a → (s ≡ Some a) ⊎ P)
    → ((if is then Some t else s) ≡ Some a) ⊎ P
push_by true t a r s h go = inl h
push_by false t a r s h go = go h

alone_by : (is : Bool) (n y : List ℕ) (t a : ValueType) → bytes_eq n y ≡ is → (if is then Some t else None) ≡ Some a → (n ≡ y) × (t ≡ a)
alone_by true n y t a e h = ((bytes_eq-Decides n y).0 e, cc h)
alone_by false n y t a e h = absurd (cc h)

pub declared_push : (declared : List Declared) (d : Declared) (y : List ℕ) (a : ValueType) → type_declared (declared ++ d ∷ []) y ≡ Some a
    → (type_declared declared y ≡ Some a) ⊎ ((d.name ≡ y) × (d.value_type ≡ a))
declared_push [] d y a h = inr (alone_by (bytes_eq d.name y) d.name y d.value_type a refl h)
declared_push (e ∷ ds) d y a h =
    push_by (bytes_eq e.name y) e.value_type a (type_declared (ds ++ d ∷ []) y) (type_declared ds y) h (declared_push ds d y a)

pub fits : (emitted : Bool) (o : Option ValueType) → is_fitting emitted o ≡ true → (t : ValueType) × (o ≡ Some t)
fits emitted None h = absurd (cc h)
fits emitted (Some t) h = (t, refl)

-- only the last statement emits
abbrev pub LastEmits : List StatementTree → Type 0
LastEmits [] = ⊤
LastEmits (Input x ∷ query) = LastEmits query
LastEmits (Let x e o g ∷ query) = LastEmits query
LastEmits (Emit e o g ∷ []) = ⊤
LastEmits (Emit e o g ∷ s ∷ query) = ⊥

-- a query's last statement emits
pub last_emits : (ss : List (List Tok)) (query : List StatementTree) → AreGood ss query → LastEmits query
last_emits [] [] g = tt
last_emits [] (s ∷ query) g = absurd g
last_emits (ts ∷ ss) [] g = absurd g
last_emits (ts ∷ ss) (Input x ∷ query) g = last_emits ss query g.1
last_emits (ts ∷ ss) (Let x e o h ∷ query) g = last_emits ss query g.1
last_emits (ts ∷ ss) (Emit e o h ∷ []) g = tt
last_emits (ts ∷ []) (Emit e o h ∷ s ∷ query) g = absurd g.1
last_emits (ts ∷ us ∷ ss) (Emit e o h ∷ s ∷ query) g = absurd g.0.in_place

-- a core is given if there is no fault
pub no_check : (f : Option CheckFault) (made core : CoreParts) → core_unless f made ≡ Ok core → f ≡ None
no_check None made core h = refl
no_check (Some fault) made core h = absurd (cc h)

-- a name isn't after its first place
front_by : (is : Bool) (k n : ℕ) → k < n → (if is then zero else suc k) < suc n
front_by true k n h = omega arith
front_by false k n h = omega (arith, h)

pub place_front : (front : List (List ℕ)) (x : List ℕ) (back : List (List ℕ)) → place_of (front ++ x ∷ back) x < suc (length front)
place_front [] x back = rw (same_bytes x) (omega arith)
place_front (y ∷ front) x back = front_by (bytes_eq y x) (place_of (front ++ x ∷ back) x) (suc (length front)) (place_front front x back)

pub long_is : (front : List (List ℕ)) (x : List ℕ) (inputs : List (List ℕ)) → length (front ++ x ∷ inputs) ≡ length front + suc (length inputs)
long_is [] x inputs = omega arith
long_is (y ∷ front) x inputs = let n = long_is front x inputs in omega arith
