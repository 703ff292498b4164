-- The text of a query spells its tokens.
use Rattle.std.proofs.Common.{inl, inr, ℕ, zero, suc, ℤ, pos, negsuc, true, false, IsTrue, List, [], ◌∷◌, ◌++◌, Option, Some, None, codes, nat_lt, refl, append_assoc}
use Rattle.std.specs.Fmt.{signed_decimal}
use Rattle.std.specs.List.{flat_map}
use Rattle.std.proofs.lemmas.Bool.{cases_Bool}
use Rattle.tilt_base.specs.Expression.{Leaf, One, Two, If}
use Rattle.tilt_base.specs.declared.operator.Op1.TheVariants as op1
use Rattle.tilt_lexer.specs.declared.key.Key.TheVariants as key
use Rattle.tilt_lexer.specs.declared.mark.Mark.TheVariants as mark
use Rattle.tilt_lexer.specs.declared.token.Tok.{Tok}
use Rattle.tilt_lexer.specs.declared.token.Tok.TheVariants.{Word, Number, Key as Reserved, Mark as Sign}
use Rattle.tilt_syntax.specs.Grammar.{Infix, infix_of}
use Rattle.tilt_syntax.specs.Printing.{level_of, in_place, offset_text, reading_text, atom_text}
use Rattle.tilt_syntax.specs.Printing.{sign_text, operands_text, expr_text, span_text, domain_text, from_text, grid_text, statement_text, query_text}
use Rattle.tilt_syntax.specs.Tree.{Atom, Num, Truth, Read, Reduce, ExprTree, StatementTree, Input, Let, Emit}
use Rattle.tilt_base.specs.declared.span.Span.{Span}
use Rattle.tilt_syntax.specs.declared.every.Every.{Every}
use Rattle.tilt_syntax.proofs.Spelling.{closes, is_alone, ends_before, Spells, end, blank, token}
use Rattle.tilt_syntax.proofs.Written.{place_tokens, offset_tokens, reading_tokens, atom_tokens, operands_tokens, expr_tokens}
use Rattle.tilt_syntax.proofs.Written.{bound_tokens, span_tokens, domain_tokens, from_tokens, grid_tokens, statement_tokens}

-- bytes that spell the tokens, and before which any token ends
record Tail (rest : List ℕ) (ks : List Tok) : Type 0 where
  closed : IsTrue (closes rest)
  spelt : Spells rest ks

-- the text spells the tokens where any token ends after it
record Spelt (text : List ℕ) (ts : List Tok) : Type 0 where
  go_on : {rest : List ℕ} {ks : List Tok} → Tail rest ks → Spells (text ++ rest) (ts ++ ks)

ends : (k : Tok) (rest : List ℕ) → IsTrue (closes rest) → IsTrue (ends_before k rest)
ends k rest closed = elim (cases_Bool (is_alone k)) [ inl alone ↦ rw alone refl | inr other ↦ rw other closed ]

token_spelt : (k : Tok) → Spelt (sign_text k) (k ∷ [])
token_spelt k = record { go_on = λ {rest} {ks} tail. token k (ends k rest tail.closed) tail.spelt }

enclosed_spelt : (text : List ℕ) (ts : List Tok) → Spelt text ts
    → Spelt (codes "(" ++ text ++ codes ")") (Sign mark.OpenParen ∷ (ts ++ (Sign mark.CloseParen ∷ [])))
enclosed_spelt text ts inner = record {
  go_on = λ {rest} {ks} tail. simp append_assoc (token (Sign mark.OpenParen) refl
      (inner.go_on (record { closed = refl; spelt = token (Sign mark.CloseParen) refl tail.spelt })));
}

place_spelt : (place level : ℕ) (text : List ℕ) (ts : List Tok) → Spelt text ts
    → Spelt (in_place place level text) (place_tokens place level ts)
place_spelt place level text ts inner =
    elim (cases_Bool (nat_lt level place)) [ inl lower ↦ rw lower (enclosed_spelt text ts inner) | inr not_lower ↦ rw not_lower inner ]

offset_spelt : (d : ℤ) → Spelt (offset_text d) (offset_tokens d)
offset_spelt (pos zero) = token_spelt (Reserved key.Time)
offset_spelt (pos (suc n)) = record {
  go_on = λ {rest} {ks} tail.
      token (Reserved key.Time) refl (token (Sign mark.Plus) refl (token (Number (pos (suc n))) tail.closed tail.spelt));
}
offset_spelt (negsuc n) = record {
  go_on = λ {rest} {ks} tail.
      token (Reserved key.Time) refl (token (Sign mark.Minus) refl (token (Number (pos (suc n))) tail.closed tail.spelt));
}

-- a name with an offset in brackets
bracket_spelt : (x : List ℕ) (d : ℤ)
    → Spelt (x ++ codes "[" ++ offset_text d ++ codes "]") (Word x ∷ Sign mark.OpenBracket ∷ (offset_tokens d ++ (Sign mark.CloseBracket ∷ [])))
bracket_spelt x d = record {
  go_on = λ {rest} {ks} tail. simp append_assoc (token (Word x) refl (token (Sign mark.OpenBracket) refl
      ((offset_spelt d).go_on (record { closed = refl; spelt = token (Sign mark.CloseBracket) refl tail.spelt }))));
}

reading_spelt : (x : List ℕ) (d : ℤ) → Spelt (reading_text x d) (reading_tokens x d)
reading_spelt x (pos zero) = token_spelt (Word x)
reading_spelt x (pos (suc n)) = bracket_spelt x (pos (suc n))
reading_spelt x (negsuc n) = bracket_spelt x (negsuc n)

atom_spelt : (atom : Atom) → Spelt (atom_text atom) (atom_tokens atom)
atom_spelt (Num n) = token_spelt (Number n)
atom_spelt (Truth true) = token_spelt (Reserved key.TrueWord)
atom_spelt (Truth false) = token_spelt (Reserved key.FalseWord)
atom_spelt (Read x d) = reading_spelt x d
atom_spelt (Reduce r x from to) = record {
  go_on = λ {rest} {ks} tail.
      let end = token (Sign mark.CloseBracket) refl (token (Sign mark.CloseParen) refl tail.spelt) in
      let behind = token (Sign mark.Colon) refl ((offset_spelt to).go_on (record { closed = refl; spelt = end })) in
      let window = (offset_spelt from).go_on (record { closed = refl; spelt = behind }) in
      simp append_assoc
      (token (Reserved (key.Reducer r)) refl (token (Sign mark.OpenParen) refl (token (Word x) refl (token (Sign mark.OpenBracket) refl window))));
}

operands_spelt : (i : Option Infix) (l m : ℕ) (a b : List ℕ) (ts us : List Tok) → Spelt a ts → Spelt b us
    → Spelt (operands_text i l a m b) (operands_tokens i l ts m us)
operands_spelt None l m a b ts us ha hb = record {
  go_on = λ {rest} {ks} tail. simp append_assoc (token (Reserved key.IfNull) refl (token (Sign mark.OpenParen) refl
      (ha.go_on (record {
        closed = refl;
        spelt = token (Sign mark.Comma) refl (blank refl
            (hb.go_on (record { closed = refl; spelt = token (Sign mark.CloseParen) refl tail.spelt })));
      }))));
}
operands_spelt (Some i) l m a b ts us ha hb =
    let left = place_spelt i.left l a ts ha in
    let right = place_spelt i.right m b us hb in
    record {
      go_on = λ {rest} {ks} tail. simp append_assoc (left.go_on (record {
        closed = refl;
        spelt = blank refl
            (token i.sign (ends i.sign (codes " " ++ (in_place i.right m b ++ rest)) refl) (blank refl (right.go_on tail)));
      }));
    }

expr_spelt : (e : ExprTree) → Spelt (expr_text e) (expr_tokens e)
expr_spelt (Leaf atom) = atom_spelt atom
expr_spelt (One op1.Neg a) =
    let operand = place_spelt 8 (level_of a) (expr_text a) (expr_tokens a) (expr_spelt a) in
    record { go_on = λ {rest} {ks} tail. token (Sign mark.Minus) refl (operand.go_on tail) }
expr_spelt (One op1.Not a) =
    let operand = place_spelt 4 (level_of a) (expr_text a) (expr_tokens a) (expr_spelt a) in
    record { go_on = λ {rest} {ks} tail. token (Reserved key.Not) refl (blank refl (operand.go_on tail)) }
expr_spelt (One op1.IsNull a) =
    let inner = enclosed_spelt (expr_text a) (expr_tokens a) (expr_spelt a) in
    record { go_on = λ {rest} {ks} tail. token (Reserved key.IsNull) refl (inner.go_on tail) }
expr_spelt (Two op a b) =
    operands_spelt (infix_of op) (level_of a) (level_of b) (expr_text a) (expr_text b) (expr_tokens a) (expr_tokens b)
    (expr_spelt a) (expr_spelt b)
expr_spelt (If c a b) = record {
  go_on = λ {rest} {ks} tail. simp append_assoc (token (Reserved key.If) refl (blank refl
      ((expr_spelt c).go_on (record {
        closed = refl;
        spelt = blank refl (token (Reserved key.Then) refl (blank refl
            ((expr_spelt a).go_on (record {
              closed = refl;
              spelt = blank refl (token (Reserved key.Else) refl (blank refl
                  ((expr_spelt b).go_on tail)));
            }))));
      }))));
}

bound_spelt : (n : ℤ) → Spelt (signed_decimal n) (bound_tokens n)
bound_spelt (pos n) = token_spelt (Number (pos n))
bound_spelt (negsuc n) = record {
  go_on = λ {rest} {ks} tail. token (Sign mark.Minus) refl (token (Number (pos (suc n))) tail.closed tail.spelt);
}

module _ {rest : List ℕ} {ks : List Tok} (tail : Tail rest ks) where
  span_tail : (span : Span) → Tail (span_text span ++ rest) (span_tokens span ++ ks)
  span_tail span = record {
    closed = refl;
    spelt = simp append_assoc (blank refl (token (Reserved key.Over) refl (blank refl (token (Sign mark.OpenParen) refl
        ((bound_spelt span.start).go_on (record {
          closed = refl;
          spelt = token (Sign mark.Comma) refl (blank refl
              ((bound_spelt span.end).go_on (record { closed = refl; spelt = token (Sign mark.CloseBracket) refl tail.spelt })));
        }))))));
  }

  domain_tail : (domain : Option Span) → Tail (domain_text domain ++ rest) (domain_tokens domain ++ ks)
  domain_tail None = tail
  domain_tail (Some span) = span_tail span

  from_tail : (o : ℤ) → Tail (from_text o ++ rest) (from_tokens o ++ ks)
  from_tail (pos zero) = tail
  from_tail (pos (suc n)) = record {
    closed = refl;
    spelt = blank refl (token (Reserved key.From) refl (blank refl (token (Number (pos (suc n))) tail.closed tail.spelt)));
  }
  from_tail (negsuc n) = record {
    closed = refl;
    spelt = blank refl (token (Reserved key.From) refl (blank refl (token (Number (negsuc n)) tail.closed tail.spelt)));
  }

  grid_tail : (grid : Option Every) → Tail (grid_text grid ++ rest) (grid_tokens grid ++ ks)
  grid_tail None = tail
  grid_tail (Some every) = record {
    closed = refl;
    spelt = simp append_assoc (blank refl (token (Reserved key.Every) refl (blank refl
        (token (Number every.period) (from_tail every.offset).closed (from_tail every.offset).spelt))));
  }

-- the end of a line, and then the rest
line_end : (rest : List ℕ) (ks : List Tok) → Spells rest ks → Tail (codes ";\n" ++ rest) (Sign mark.Semicolon ∷ ks)
line_end rest ks more = record { closed = refl; spelt = token (Sign mark.Semicolon) refl (blank refl more) }

emission_spells : (e over every rest : List ℕ) (ts us vs ks : List Tok) → Spelt e ts
    → Tail (over ++ (every ++ (codes ";\n" ++ rest))) (us ++ (vs ++ (Sign mark.Semicolon ∷ ks)))
    → Spells ((codes "emit " ++ e ++ over ++ every ++ codes ";\n") ++ rest)
    ((Reserved key.Emit ∷ (ts ++ (us ++ (vs ++ (Sign mark.Semicolon ∷ []))))) ++ ks)
emission_spells e over every rest ts us vs ks spelt tail =
    simp append_assoc (token (Reserved key.Emit) refl (blank refl (spelt.go_on tail)))

statement_spells : (s : StatementTree) (rest : List ℕ) (ks : List Tok) → Spells rest ks
    → Spells (statement_text s ++ rest) (statement_tokens s ++ ks)
statement_spells (Input x) rest ks more =
    simp append_assoc (token (Reserved key.Input) refl (blank refl (token (Word x) refl (line_end rest ks more).spelt)))
statement_spells (Let x e domain grid) rest ks more =
    simp append_assoc (token (Reserved key.Let) refl (blank refl (token (Word x) refl (blank refl (token (Sign mark.Assign) refl (blank refl
    ((expr_spelt e).go_on (domain_tail (grid_tail (line_end rest ks more) grid) domain))))))))
statement_spells (Emit e span grid) rest ks more =
    emission_spells (expr_text e) (span_text span) (grid_text grid) rest (expr_tokens e) (span_tokens span) (grid_tokens grid) ks
    (expr_spelt e) (span_tail (grid_tail (line_end rest ks more) grid) span)

pub query_spells : (query : List StatementTree) → Spells (query_text query) (flat_map statement_tokens query)
query_spells [] = end
query_spells (s ∷ query) = statement_spells s (query_text query) (flat_map statement_tokens query) (query_spells query)
