-- The tokens of expressions over whole numbers, and how many they are.
use Rattle.std.proofs.Common.{◌≡◌, inl, inr, ℕ, zero, suc, ◌≤◌, ℤ, pos, negsuc, Bool, true, false, List, [], ◌∷◌, ◌++◌, length, Option, Some, None, nat_lt}
use Rattle.std.proofs.Common.{refl, sym, ap, ◌∙◌, subst, arith, length-append}
use Rattle.std.proofs.lemmas.Bool.{cases_Bool}
use Rattle.tilt_base.specs.Expression.{Leaf, One, Two, If}
use Rattle.tilt_base.specs.declared.operator.Op1.TheVariants as op1
use Rattle.tilt_base.specs.declared.operator.Op2.TheVariants.{Mul}
use Rattle.tilt_base.specs.declared.span.Span.{Span}
use Rattle.tilt_core.specs.CoreTree.{CoreTree}
use Rattle.tilt_lexer.specs.declared.key.Key.TheVariants as key
use Rattle.tilt_lexer.specs.declared.mark.Mark.TheVariants as mark
use Rattle.tilt_lexer.specs.declared.token.Tok.{Tok}
use Rattle.tilt_lexer.specs.declared.token.Tok.TheVariants.{Key as Reserved, Mark as Sign}
use Rattle.tilt_syntax.proofs.Shortest.{statement_shortest}
use Rattle.tilt_syntax.proofs.Sounds.{both, sound_parts}
use Rattle.tilt_syntax.proofs.Written.{bound_tokens, domain_tokens, expr_tokens, grid_tokens, offset_tokens, operands_tokens, place_tokens}
use Rattle.tilt_syntax.proofs.Written.{reading_tokens, span_tokens, statement_tokens}
use Rattle.tilt_syntax.specs.Grammar.{Infix, IsStatement, infix_of}
use Rattle.tilt_syntax.specs.Printing.{level_of}
use Rattle.tilt_syntax.specs.Query.{AreSound}
use Rattle.tilt_syntax.specs.Tree.{ExprTree, StatementTree, Num, Truth, Read, Reduce, Input, Let, Emit}
use Rattle.tilt_syntax.specs.declared.every.Every.{Every}
use Rattle.tilt_types.specs.declared.declared.Declared.{Declared}
use Rattle.tilt_unit_text.proofs.Beside.{Beside, choice, itself, literal, one, operand_itself, operand_raised, product, raised_by, reading, truth, two, window, written}
use Rattle.tilt_unit_text.specs.Named.{named}
use Rattle.tilt_unit_text.specs.Size.{bound_size, domain_size, expr_size, grid_size, offset_size, operands_size, period_size, reading_size, size_in_place, span_size}
use Rattle.tilt_unit_text.specs.Size.{statement_size}

-- tokens in parentheses are sound if the others are
place_on : (place level : ℕ) (ts : List Tok) → AreSound ts → AreSound (place_tokens place level ts)
place_on place level ts h =
    elim (cases_Bool (nat_lt level place)) [
      | inl lower ↦ rw lower (tt, both ts (Sign mark.CloseParen ∷ []) h (tt, tt))
      | inr not_lower ↦ rw not_lower h
    ]

place_back : (place level : ℕ) (ts : List Tok) → AreSound (place_tokens place level ts) → AreSound ts
place_back place level ts h =
    elim (cases_Bool (nat_lt level place)) [
      | inl lower ↦ (sound_parts ts (Sign mark.CloseParen ∷ []) (rw lower at h).1).0
      | inr not_lower ↦ rw not_lower at h
    ]

place_kept : (place l m : ℕ) (ts us : List Tok) → (AreSound ts → AreSound us) → AreSound (place_tokens place l ts) → AreSound (place_tokens place m us)
place_kept place l m ts us go h = place_on place m us (go (place_back place l ts h))

operands_kept : (o : Option Infix) (l m p q : ℕ) (ts us vs ws : List Tok) → (AreSound ts → AreSound vs) → (AreSound us → AreSound ws)
    → AreSound (operands_tokens o l ts m us) → AreSound (operands_tokens o p vs q ws)
operands_kept None l m p q ts us vs ws f g h =
    let end = Sign mark.CloseParen ∷ [] in
    let left = sound_parts ts (Sign mark.Comma ∷ (us ++ end)) h.1.1 in
    let right = sound_parts us end left.1.1 in
    (tt, (tt, both vs (Sign mark.Comma ∷ (ws ++ end)) (f left.0) (tt, both ws end (g right.0) (tt, tt))))
operands_kept (Some i) l m p q ts us vs ws f g h =
    let parts = sound_parts (place_tokens i.left l ts) (i.sign ∷ place_tokens i.right m us) h in
    both (place_tokens i.left p vs) (i.sign ∷ place_tokens i.right q ws) (place_kept i.left l p ts vs f parts.0)
    (parts.1.0, place_kept i.right m q us ws g parts.1.1)

module _ (names : List (List ℕ)) (declared : List Declared) where
  abbrev tokens_of : Bool → ExprTree → CoreTree → List Tok
  tokens_of b e t = expr_tokens (written b e t)

  -- what is written over whole numbers has sound tokens
  pub sound_kept : {b : Bool} {e : ExprTree} {t : CoreTree} → Beside names declared b e t → AreSound (expr_tokens e) → AreSound (tokens_of b e t)
  sound_kept (literal f) s = (f s.0, tt)
  sound_kept truth s = s
  sound_kept reading s = s
  sound_kept window s = s
  sound_kept (one {op = op1.Neg} {a = a} {x = x} h) s =
      (tt, place_kept 8 (level_of a) (level_of (named a x)) (expr_tokens a) (tokens_of false a x) (sound_kept h) s.1)
  sound_kept (one {op = op1.Not} {a = a} {x = x} h) s =
      (tt, place_kept 4 (level_of a) (level_of (named a x)) (expr_tokens a) (tokens_of false a x) (sound_kept h) s.1)
  sound_kept (one {op = op1.IsNull} {a = a} {x = x} h) s =
      let end = Sign mark.CloseParen ∷ [] in
      (tt, (tt, both (tokens_of false a x) end (sound_kept h (sound_parts (expr_tokens a) end s.1.1).0) (tt, tt)))
  sound_kept (product {a = a} {b = b} {x = x} {y = y} h k) s =
      rw (operand_itself names declared h, operand_itself names declared k)
      (operands_kept (infix_of Mul) (level_of a) (level_of b) (level_of (named a x)) (level_of (named b y)) (expr_tokens a) (expr_tokens b)
      (tokens_of false a x) (tokens_of false b y) (sound_kept h) (sound_kept k) s)
  sound_kept (two {a = a} {b = b} {x = x} {y = y} op n h k) s =
      operands_kept (infix_of op) (level_of a) (level_of b) (level_of (written true a x)) (level_of (written true b y)) (expr_tokens a) (expr_tokens b)
      (tokens_of true a x) (tokens_of true b y) (sound_kept h) (sound_kept k) s
  sound_kept (choice {c = c} {a = a} {b = b} {z = z} {x = x} {y = y} f h k) s =
      let first = sound_parts (expr_tokens c) (Reserved key.Then ∷ (expr_tokens a ++ (Reserved key.Else ∷ expr_tokens b))) s.1 in
      let second = sound_parts (expr_tokens a) (Reserved key.Else ∷ expr_tokens b) first.1.1 in (
        tt,
        both (tokens_of false c z) (Reserved key.Then ∷ (tokens_of true a x ++ (Reserved key.Else ∷ tokens_of true b y))) (sound_kept f first.0)
            (tt, both (tokens_of true a x) (Reserved key.Else ∷ tokens_of true b y) (sound_kept h second.0) (tt, sound_kept k second.1.1)),
      )
  sound_kept (itself h) s = subst (λ e. AreSound (expr_tokens e)) (sym (operand_itself names declared h)) (sound_kept h s)
  sound_kept (raised_by {e = e} {t = t} {k = k} n typed h) s =
      subst (λ e. AreSound (expr_tokens e)) (sym (operand_raised names declared k h))
      (n, (tt, place_on 8 (level_of (named e t)) (tokens_of false e t) (sound_kept h s)))

-- how many tokens there are
place_length : (place level : ℕ) (ts : List Tok) → length (place_tokens place level ts) ≡ size_in_place place level (length ts)
place_length place level ts =
    elim (cases_Bool (nat_lt level place)) [
      | inl lower ↦ rw lower (omega (arith, length-append ts (Sign mark.CloseParen ∷ [])))
      | inr not_lower ↦ rw not_lower refl
    ]

offset_length : (d : ℤ) → length (offset_tokens d) ≡ offset_size d
offset_length (pos zero) = refl
offset_length (pos (suc n)) = refl
offset_length (negsuc n) = refl

reading_length : (x : List ℕ) (d : ℤ) → length (reading_tokens x d) ≡ reading_size d
reading_length x (pos zero) = refl
reading_length x (pos (suc n)) = refl
reading_length x (negsuc n) = refl

operands_length : (o : Option Infix) (l m : ℕ) (ts us : List Tok) → length (operands_tokens o l ts m us) ≡ operands_size o l (length ts) m (length us)
operands_length None l m ts us =
    let end = Sign mark.CloseParen ∷ [] in
    omega (arith, length-append ts (Sign mark.Comma ∷ (us ++ end)), length-append us end)
operands_length (Some i) l m ts us =
    omega (
      arith,
      length-append (place_tokens i.left l ts) (i.sign ∷ place_tokens i.right m us),
      place_length i.left l ts,
      place_length i.right m us,
    )

pub expr_length : (e : ExprTree) → length (expr_tokens e) ≡ expr_size e
expr_length (Leaf (Num n)) = refl
expr_length (Leaf (Truth true)) = refl
expr_length (Leaf (Truth false)) = refl
expr_length (Leaf (Read x d)) = reading_length x d
expr_length (Leaf (Reduce r x l k)) =
    let end = Sign mark.CloseBracket ∷ Sign mark.CloseParen ∷ [] in
    omega (
      arith,
      length-append (offset_tokens l) (Sign mark.Colon ∷ (offset_tokens k ++ end)),
      length-append (offset_tokens k) end,
      offset_length l,
      offset_length k,
    )
expr_length (One op1.Neg a) =
    omega (arith, place_length 8 (level_of a) (expr_tokens a) ∙ ap (size_in_place 8 (level_of a)) (expr_length a))
expr_length (One op1.Not a) =
    omega (arith, place_length 4 (level_of a) (expr_tokens a) ∙ ap (size_in_place 4 (level_of a)) (expr_length a))
expr_length (One op1.IsNull a) = omega (arith, length-append (expr_tokens a) (Sign mark.CloseParen ∷ []), expr_length a)
expr_length (Two op a b) =
    operands_length (infix_of op) (level_of a) (level_of b) (expr_tokens a) (expr_tokens b)
    ∙ (λ i. operands_size (infix_of op) (level_of a) (expr_length a i) (level_of b) (expr_length b i))
expr_length (If c a b) =
    omega (
      arith,
      length-append (expr_tokens c) (Reserved key.Then ∷ (expr_tokens a ++ (Reserved key.Else ∷ expr_tokens b))),
      length-append (expr_tokens a) (Reserved key.Else ∷ expr_tokens b),
      expr_length c,
      expr_length a,
      expr_length b,
    )

bound_length : (n : ℤ) → length (bound_tokens n) ≡ bound_size n
bound_length (pos n) = refl
bound_length (negsuc n) = refl

span_length : (span : Span) → length (span_tokens span) ≡ span_size span
span_length span =
    let end = Sign mark.CloseBracket ∷ [] in
    omega (
      arith,
      length-append (bound_tokens span.start) (Sign mark.Comma ∷ (bound_tokens span.end ++ end)),
      length-append (bound_tokens span.end) end,
      bound_length span.start,
      bound_length span.end,
    )

domain_length : (over : Option Span) → length (domain_tokens over) ≡ domain_size over
domain_length None = refl
domain_length (Some span) = span_length span

period_length : (p o : ℤ) → length (grid_tokens (Some (record { period = p; offset = o }))) ≡ period_size o
period_length p (pos zero) = refl
period_length p (pos (suc n)) = refl
period_length p (negsuc n) = refl

grid_length : (every : Option Every) → length (grid_tokens every) ≡ grid_size every
grid_length None = refl
grid_length (Some every) = period_length every.period every.offset

pub statement_length : (s : StatementTree) → length (statement_tokens s) ≡ statement_size s
statement_length (Input x) = refl
statement_length (Let x e over every) =
    let end = Sign mark.Semicolon ∷ [] in
    omega (
      arith,
      length-append (expr_tokens e) (domain_tokens over ++ (grid_tokens every ++ end)),
      length-append (domain_tokens over) (grid_tokens every ++ end),
      length-append (grid_tokens every) end,
      expr_length e,
      domain_length over,
      grid_length every,
    )
statement_length (Emit e over every) =
    let end = Sign mark.Semicolon ∷ [] in
    omega (
      arith,
      length-append (expr_tokens e) (span_tokens over ++ (grid_tokens every ++ end)),
      length-append (span_tokens over) (grid_tokens every ++ end),
      length-append (grid_tokens every) end,
      expr_length e,
      span_length over,
      grid_length every,
    )

-- and no text of the statement has fewer
pub size_least : (s : StatementTree) (ts : List Tok) → AreSound ts → IsStatement ts s → statement_size s ≤ length ts
size_least s ts sound is = omega (arith, statement_shortest is sound, statement_length s)
