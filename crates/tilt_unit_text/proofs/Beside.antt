-- A query's expression beside its expression over whole numbers.
use Rattle.std.proofs.Common.{◌≡◌, ℕ, ℤ, Bool, true, false, List, Some}
use Rattle.std.proofs.Common.{refl, ap, ◌∙◌}
use Rattle.tilt_base.specs.Expression.{Leaf, One, Two, If}
use Rattle.tilt_base.specs.declared.operator.Op2.{Op2}
use Rattle.tilt_base.specs.declared.operator.Op2.TheVariants.{Mul}
use Rattle.tilt_base.specs.declared.reducer.Reducer.{Reducer}
use Rattle.tilt_core.specs.CoreTree.{CoreTree, Const, Read as CoreRead, Reduce as CoreReduce}
use Rattle.tilt_base.specs.declared.operator.Op1.{Op1}
use Rattle.tilt_lexer.specs.Tokens.{IsSound}
use Rattle.tilt_lexer.specs.declared.token.Tok.TheVariants as tok
use Rattle.tilt_syntax.specs.Tree.{ExprTree, Num, Truth, Read, Reduce}
use Rattle.tilt_types.specs.Checked.{number_of, numbered, place_of}
use Rattle.tilt_types.specs.Types.{type_of}
use Rattle.tilt_types.specs.WellFormed.{has_windows, knows_names}
use Rattle.tilt_types.specs.declared.declared.Declared.{Declared}
use Rattle.tilt_types.specs.declared.value_type.ValueType.TheVariants as value
use Rattle.tilt_unit_text.specs.Named.{is_raised, named, operand}

-- a number that a text may have
abbrev pub IsNumber : ℤ → Type 0
IsNumber n = IsSound (tok.Number n)

abbrev pub is_product : Op2 → Bool
is_product Mul = true
is_product op = false

-- an expression of a core that a query's expression is over whole numbers; and an operand that is one, or is one times a factor
pub data Beside (names : List (List ℕ)) (declared : List Declared) : Bool → ExprTree → CoreTree → Type 0 where
  literal : {n m : ℤ} → (IsNumber n → IsNumber m) → Beside names declared false (Leaf (Num n)) (Leaf (Const m))
  truth : {b : Bool} → Beside names declared false (Leaf (Truth b)) (Leaf (Const (number_of b)))
  reading : {x : List ℕ} {d : ℤ} → Beside names declared false (Leaf (Read x d)) (Leaf (CoreRead (place_of names x) d))
  window : {r : Reducer} {x : List ℕ} {l k : ℤ}
      → Beside names declared false (Leaf (Reduce r x l k)) (Leaf (CoreReduce r (place_of names x) l k))
  one : {op : Op1} {a : ExprTree} {x : CoreTree} → Beside names declared false a x → Beside names declared false (One op a) (One op x)
  product : {a b : ExprTree} {x y : CoreTree} → Beside names declared false a x → Beside names declared false b y
      → Beside names declared false (Two Mul a b) (Two Mul x y)
  two : {a b : ExprTree} {x y : CoreTree} (op : Op2) → is_product op ≡ false → Beside names declared true a x → Beside names declared true b y
      → Beside names declared false (Two op a b) (Two op x y)
  choice : {c a b : ExprTree} {z x y : CoreTree} → Beside names declared false c z → Beside names declared true a x → Beside names declared true b y
      → Beside names declared false (If c a b) (If z x y)
  itself : {e : ExprTree} {t : CoreTree} → Beside names declared false e t → Beside names declared true e t
  raised_by : {e : ExprTree} {t : CoreTree} {k : ℤ} → IsNumber k → type_of declared e ≡ Some value.Int → Beside names declared false e t
      → Beside names declared true e (Two Mul (Leaf (Const k)) t)

-- what the expression or the operand is over whole numbers
abbrev pub written : Bool → ExprTree → CoreTree → ExprTree
written false e t = named e t
written true e t = operand e t

other_operator : (op : Op2) (a b : ExprTree) (x y : CoreTree) → is_product op ≡ false → is_raised (Two op a b) (Two op x y) ≡ false
other_operator Mul a b x y h = absurd (cc h)
other_operator op a b x y h = refl

other_raised : (op : Op2) (a b : ExprTree) (x y : CoreTree) → is_product op ≡ false → is_raised (Two op a b) (Two Mul x y) ≡ true
other_raised Mul a b x y h = absurd (cc h)
other_raised op a b x y h = refl

module _ (names : List (List ℕ)) (declared : List Declared) where
  raised_more : {e : ExprTree} {t : CoreTree} (c : CoreTree) → Beside names declared false e t → is_raised e (Two Mul c t) ≡ true
  raised_more c (literal h) = refl
  raised_more c truth = refl
  raised_more c reading = refl
  raised_more c window = refl
  raised_more c (one h) = refl
  raised_more c (product {x = x} h k) = raised_more x k
  raised_more c (two {a = a} {b = b} {x = x} {y = y} op n h k) = other_raised op a b c (Two op x y) n
  raised_more c (choice f h k) = refl

  pub not_raised : {e : ExprTree} {t : CoreTree} → Beside names declared false e t → is_raised e t ≡ false
  not_raised (literal h) = refl
  not_raised truth = refl
  not_raised reading = refl
  not_raised window = refl
  not_raised (one h) = refl
  not_raised (product h k) = not_raised k
  not_raised (two {a = a} {b = b} {x = x} {y = y} op n h k) = other_operator op a b x y n
  not_raised (choice f h k) = refl

  -- an operand is the expression, or the expression times its factor
  pub operand_itself : {e : ExprTree} {t : CoreTree} → Beside names declared false e t → operand e t ≡ named e t
  operand_itself h = rw (not_raised h) refl

  pub operand_raised : {e : ExprTree} {t : CoreTree} (k : ℤ) → Beside names declared false e t
      → operand e (Two Mul (Leaf (Const k)) t) ≡ Two Mul (Leaf (Num k)) (named e t)
  operand_raised k h = rw (raised_more (Leaf (Const k)) h) refl

  -- its core is the expression over whole numbers
  pub numbered_same : {b : Bool} {e : ExprTree} {t : CoreTree} → Beside names declared b e t → numbered names (written b e t) ≡ t
  numbered_same (literal h) = refl
  numbered_same truth = refl
  numbered_same reading = refl
  numbered_same window = refl
  numbered_same (one {op = op} h) = ap (One op) (numbered_same h)
  numbered_same (product h k) = rw (operand_itself h, operand_itself k, numbered_same h, numbered_same k) refl
  numbered_same (two op n h k) = λ i. Two op (numbered_same h i) (numbered_same k i)
  numbered_same (choice f h k) = λ i. If (numbered_same f i) (numbered_same h i) (numbered_same k i)
  numbered_same (itself h) = ap (numbered names) (operand_itself h) ∙ numbered_same h
  numbered_same (raised_by {k = k} n typed h) =
      ap (numbered names) (operand_raised k h) ∙ ap (Two Mul (Leaf (Const k))) (numbered_same h)

  -- it has the same type, the same names and the same windows
  pub type_same : {b : Bool} {e : ExprTree} {t : CoreTree} → Beside names declared b e t → type_of declared (written b e t) ≡ type_of declared e
  type_same (literal h) = refl
  type_same truth = refl
  type_same reading = refl
  type_same window = refl
  type_same (one h) = rw (type_same h) refl
  type_same (product h k) = rw (operand_itself h, operand_itself k, type_same h, type_same k) refl
  type_same (two op n h k) = rw (type_same h, type_same k) refl
  type_same (choice f h k) = rw (type_same f, type_same h, type_same k) refl
  type_same (itself h) = ap (type_of declared) (operand_itself h) ∙ type_same h
  type_same (raised_by {k = k} n typed h) = ap (type_of declared) (operand_raised k h) ∙ rw (type_same h, typed) refl

  pub names_same : {b : Bool} {e : ExprTree} {t : CoreTree} → Beside names declared b e t → knows_names declared (written b e t) ≡ knows_names declared e
  names_same (literal h) = refl
  names_same truth = refl
  names_same reading = refl
  names_same window = refl
  names_same (one h) = names_same h
  names_same (product h k) = rw (operand_itself h, operand_itself k, names_same h, names_same k) refl
  names_same (two op n h k) = rw (names_same h, names_same k) refl
  names_same (choice f h k) = rw (names_same f, names_same h, names_same k) refl
  names_same (itself h) = ap (knows_names declared) (operand_itself h) ∙ names_same h
  names_same (raised_by {k = k} n typed h) = ap (knows_names declared) (operand_raised k h) ∙ names_same h

  pub windows_same : {b : Bool} {e : ExprTree} {t : CoreTree} → Beside names declared b e t → has_windows (written b e t) ≡ has_windows e
  windows_same (literal h) = refl
  windows_same truth = refl
  windows_same reading = refl
  windows_same window = refl
  windows_same (one h) = windows_same h
  windows_same (product h k) = rw (operand_itself h, operand_itself k, windows_same h, windows_same k) refl
  windows_same (two op n h k) = rw (windows_same h, windows_same k) refl
  windows_same (choice f h k) = rw (windows_same f, windows_same h, windows_same k) refl
  windows_same (itself h) = ap has_windows (operand_itself h) ∙ windows_same h
  windows_same (raised_by {k = k} n typed h) = ap has_windows (operand_raised k h) ∙ windows_same h
