-- The operators of the grammar's table are those of the descent.
use Rattle.std.proofs.Common.{◌≡◌, ℕ, Option, Some, None, ◌⊎◌, inl, inr, nat_eq, if◌then◌else◌, refl, sym, ap, ◌∙◌}
use Rattle.tilt_base.specs.declared.operator.Op2.{Op2}
use Rattle.tilt_base.specs.declared.operator.Op2.TheVariants as op2
use Rattle.tilt_syntax.specs.Grammar.{Infix, infix_of}
use Rattle.tilt_syntax.specs.Levels.{level_number, operator_of, tighter}
use Rattle.tilt_syntax.specs.declared.level.Level.{Level}
use Rattle.tilt_syntax.specs.declared.level.Level.TheVariants.{Choice, When, Or, And, Negation, Comparison, Sum, Product, Minus, Atom}

-- the level with a number
abbrev level_at : ℕ → Level
level_at n = if nat_eq n 0 then Choice else if nat_eq n 1 then When else if nat_eq n 2 then Or else if nat_eq n 3 then And
    else if nat_eq n 4 then Negation else if nat_eq n 5 then Comparison else if nat_eq n 6 then Sum else if nat_eq n 7 then Product
    else if nat_eq n 8 then Minus else Atom

level_at-number : (level : Level) → level_at (level_number level) ≡ level
level_at-number Choice = refl
level_at-number When = refl
level_at-number Or = refl
level_at-number And = refl
level_at-number Negation = refl
level_at-number Comparison = refl
level_at-number Sum = refl
level_at-number Product = refl
level_at-number Minus = refl
level_at-number Atom = refl

pub same_level : (l m : Level) → level_number l ≡ level_number m → l ≡ m
same_level l m e = sym (level_at-number l) ∙ ap level_at e ∙ level_at-number m

-- the levels of which any number of operators follow one another
pub data IsChain : Level → Type 0 where
  whens : IsChain When
  ors : IsChain Or
  ands : IsChain And
  sums : IsChain Sum
  products : IsChain Product

-- what the descent knows of an operator in the table
pub record IsOperator (op : Op2) (i : Infix) : Type 0 where
  pub level : Level
  pub known : operator_of i.sign ≡ Some (level, op)
  pub number : level_number level ≡ i.level
  pub right : level_number (tighter level) ≡ i.right
  pub left : (IsChain level × (i.left ≡ i.level)) ⊎ ((level ≡ Comparison) × (i.left ≡ 6))

abbrev Known : Op2 → Option Infix → Type 0
Known op None = Unit {0}
Known op (Some i) = IsOperator op i

known_of : (op : Op2) → Known op (infix_of op)
known_of op2.When = record { level = When; known = refl; number = refl; right = refl; left = inl (whens, refl) }
known_of op2.Or = record { level = Or; known = refl; number = refl; right = refl; left = inl (ors, refl) }
known_of op2.And = record { level = And; known = refl; number = refl; right = refl; left = inl (ands, refl) }
known_of op2.Eq = record { level = Comparison; known = refl; number = refl; right = refl; left = inr (refl, refl) }
known_of op2.Ne = record { level = Comparison; known = refl; number = refl; right = refl; left = inr (refl, refl) }
known_of op2.Lt = record { level = Comparison; known = refl; number = refl; right = refl; left = inr (refl, refl) }
known_of op2.Le = record { level = Comparison; known = refl; number = refl; right = refl; left = inr (refl, refl) }
known_of op2.Gt = record { level = Comparison; known = refl; number = refl; right = refl; left = inr (refl, refl) }
known_of op2.Ge = record { level = Comparison; known = refl; number = refl; right = refl; left = inr (refl, refl) }
known_of op2.Add = record { level = Sum; known = refl; number = refl; right = refl; left = inl (sums, refl) }
known_of op2.Sub = record { level = Sum; known = refl; number = refl; right = refl; left = inl (sums, refl) }
known_of op2.Mul = record { level = Product; known = refl; number = refl; right = refl; left = inl (products, refl) }
known_of op2.Div = record { level = Product; known = refl; number = refl; right = refl; left = inl (products, refl) }
known_of op2.Rem = record { level = Product; known = refl; number = refl; right = refl; left = inl (products, refl) }
known_of op2.IfNull = tt

pub known : (op : Op2) (i : Infix) → infix_of op ≡ Some i → IsOperator op i
known op i is = rw is at (known_of op)
