-- Tokens in which each number is its count are an expression if the tokens themselves are, and it is the same except for its numbers.
use Rattle.std.proofs.Common.{◌≡◌, ℕ, ℤ, pos, negsuc, zero, suc, neg_ℤ, List, [], ◌∷◌, ◌++◌, refl, sym, ap, ◌∙◌, subst, arith}
use Rattle.std.proofs.lemmas.Int.{ints}
use Rattle.tilt_base.specs.Expression.{Leaf, One, Two, If}
use Rattle.tilt_base.specs.declared.operator.Op1.TheVariants as op1
use Rattle.tilt_base.specs.declared.operator.Op2.TheVariants as op2
use Rattle.tilt_lexer.specs.declared.key.Key.TheVariants as key
use Rattle.tilt_lexer.specs.declared.mark.Mark.TheVariants as mark
use Rattle.tilt_lexer.specs.declared.token.Tok.{Tok}
use Rattle.tilt_lexer.specs.declared.token.Tok.TheVariants.{Word, Number, Key as Reserved, Mark as Sign}
use Rattle.tilt_syntax.specs.Grammar.{SpellsOffset, now, later, earlier, IsExpr, tighter, choice, between, negation, minus}
use Rattle.tilt_syntax.specs.Grammar.{number, true_word, false_word, name, reading, window, is_null, if_null, enclosed}
use Rattle.tilt_syntax.specs.Tree.{Num, Read, Reduce, ExprTree}
use Rattle.tilt_unit_text.proofs.Split.{after, after_number, fixed_key, fixed_operator, fixed_sign, fixed_word, none_left, split_at, tokens_with}
use Rattle.tilt_unit_text.specs.Places.{digits_of, number_at, digits_at, with_numbers}
use Rattle.tilt_unit_text.specs.declared.written.Written.{Written}

module _ (numbers : List Written) where
  pub negated : (n : ℤ) → digits_at numbers (neg_ℤ n) ≡ neg_ℤ (digits_at numbers n)
  negated (pos zero) = refl
  negated (pos (suc n)) = refl
  negated (negsuc n) = let d = digits_of (number_at numbers (negsuc n)) in omega (arith, ints)

  -- an offset
  pub record OffsetBefore (us : List Tok) (d : ℤ) : Type 0 where
    pub offset : ℤ
    pub is : SpellsOffset us offset
    pub same : digits_at numbers offset ≡ d

  pub offset_before : {ts : List Tok} {d : ℤ} → SpellsOffset ts d → (us : List Tok) → tokens_with numbers us ≡ ts → OffsetBefore us d
  offset_before now us e =
      let a = after numbers (Reserved key.Time) (fixed_key numbers key.Time) [] us e in
      let z = none_left numbers a.rest a.others in
      let w : us ≡ Reserved key.Time ∷ [] = cc (a.is, z) in
      record { offset = pos 0; is = subst (λ ws. SpellsOffset ws (pos 0)) (sym w) now; same = refl }
  offset_before (later {n = n}) us e =
      let a = after numbers (Reserved key.Time) (fixed_key numbers key.Time) _ us e in
      let b = after numbers (Sign mark.Plus) (fixed_sign numbers mark.Plus) _ a.rest a.others in
      let c = after_number numbers n [] b.rest b.others in
      let z = none_left numbers c.rest c.others in
      let w : us ≡ Reserved key.Time ∷ Sign mark.Plus ∷ Number c.place ∷ [] = cc (a.is, b.is, c.is, z) in
      record { offset = c.place; is = subst (λ ws. SpellsOffset ws c.place) (sym w) later; same = c.same }
  offset_before (earlier {n = n}) us e =
      let a = after numbers (Reserved key.Time) (fixed_key numbers key.Time) _ us e in
      let b = after numbers (Sign mark.Minus) (fixed_sign numbers mark.Minus) _ a.rest a.others in
      let c = after_number numbers n [] b.rest b.others in
      let z = none_left numbers c.rest c.others in
      let w : us ≡ Reserved key.Time ∷ Sign mark.Minus ∷ Number c.place ∷ [] = cc (a.is, b.is, c.is, z) in
      record {
        offset = neg_ℤ c.place;
        is = subst (λ ws. SpellsOffset ws (neg_ℤ c.place)) (sym w) earlier;
        same = negated c.place ∙ ap neg_ℤ c.same;
      }

  -- an expression
  pub record Before (level : ℕ) (us : List Tok) (e : ExprTree) : Type 0 where
    pub tree : ExprTree
    pub is : IsExpr level us tree
    pub same : with_numbers numbers tree ≡ e

  -- of tokens that are these
  before : (level : ℕ) (us ws : List Tok) (tree e : ExprTree) → us ≡ ws → IsExpr level ws tree → with_numbers numbers tree ≡ e → Before level us e
  before level us ws tree e w is same = record { tree = tree; is = subst (λ vs. IsExpr level vs tree) (sym w) is; same = same }

  pub expr_before : {level : ℕ} {ts : List Tok} {e : ExprTree} → IsExpr level ts e → (us : List Tok) → tokens_with numbers us ≡ ts → Before level us e
  expr_before (tighter h) us p = let b = expr_before h us p in record { tree = b.tree; is = tighter b.is; same = b.same }
  expr_before (choice {ts = ts} {us = us} {vs = vs} {c = c} {a = a} {b = b} hc ha hb) ws p =
      let i = after numbers (Reserved key.If) (fixed_key numbers key.If) (ts ++ (Reserved key.Then ∷ (us ++ (Reserved key.Else ∷ vs)))) ws p in
      let s = split_at numbers ts (Reserved key.Then ∷ (us ++ (Reserved key.Else ∷ vs))) i.rest i.others in
      let t = after numbers (Reserved key.Then) (fixed_key numbers key.Then) (us ++ (Reserved key.Else ∷ vs)) s.back s.back_is in
      let u = split_at numbers us (Reserved key.Else ∷ vs) t.rest t.others in
      let x = after numbers (Reserved key.Else) (fixed_key numbers key.Else) vs u.back u.back_is in
      let d = expr_before hc s.front s.front_is in
      let f = expr_before ha u.front u.front_is in
      let g = expr_before hb x.rest x.others in
      let w : ws ≡ Reserved key.If ∷ (s.front ++ (Reserved key.Then ∷ (u.front ++ (Reserved key.Else ∷ x.rest)))) = cc (i.is, s.is, t.is, u.is, x.is) in
      let same : If (with_numbers numbers d.tree) (with_numbers numbers f.tree) (with_numbers numbers g.tree) ≡ If c a b = cc (d.same, f.same, g.same) in
      before 0 ws _ (If d.tree f.tree g.tree) (If c a b) w (choice d.is f.is g.is) same
  expr_before (between {op = op} {i = i} {ts = ts} {us = us} {a = a} {b = b} is ha hb) ws p =
      let s = split_at numbers ts (i.sign ∷ us) ws p in
      let t = after numbers i.sign (fixed_operator numbers op i is) us s.back s.back_is in
      let f = expr_before ha s.front s.front_is in
      let g = expr_before hb t.rest t.others in
      let w : ws ≡ s.front ++ (i.sign ∷ t.rest) = cc (s.is, t.is) in
      let same : Two op (with_numbers numbers f.tree) (with_numbers numbers g.tree) ≡ Two op a b = cc (f.same, g.same) in
      before i.level ws _ (Two op f.tree g.tree) (Two op a b) w (between is f.is g.is) same
  expr_before (negation {ts = ts} {a = a} h) ws p =
      let i = after numbers (Reserved key.Not) (fixed_key numbers key.Not) ts ws p in
      let f = expr_before h i.rest i.others in
      before 4 ws _ (One op1.Not f.tree) (One op1.Not a) i.is (negation f.is) (ap (λ e. One op1.Not e) f.same)
  expr_before (minus {ts = ts} {a = a} h) ws p =
      let i = after numbers (Sign mark.Minus) (fixed_sign numbers mark.Minus) ts ws p in
      let f = expr_before h i.rest i.others in
      before 8 ws _ (One op1.Neg f.tree) (One op1.Neg a) i.is (minus f.is) (ap (λ e. One op1.Neg e) f.same)
  expr_before (number {n = n}) ws p =
      let i = after_number numbers n [] ws p in
      let z = none_left numbers i.rest i.others in
      let w : ws ≡ Number i.place ∷ [] = cc (i.is, z) in
      before 9 ws _ (Leaf (Num i.place)) (Leaf (Num n)) w number (ap (λ m. Leaf (Num m)) i.same)
  expr_before true_word ws p =
      let i = after numbers (Reserved key.TrueWord) (fixed_key numbers key.TrueWord) [] ws p in
      let z = none_left numbers i.rest i.others in
      let w : ws ≡ Reserved key.TrueWord ∷ [] = cc (i.is, z) in
      before 9 ws _ _ _ w true_word refl
  expr_before false_word ws p =
      let i = after numbers (Reserved key.FalseWord) (fixed_key numbers key.FalseWord) [] ws p in
      let z = none_left numbers i.rest i.others in
      let w : ws ≡ Reserved key.FalseWord ∷ [] = cc (i.is, z) in
      before 9 ws _ _ _ w false_word refl
  expr_before (name {x = x}) ws p =
      let i = after numbers (Word x) (fixed_word numbers x) [] ws p in
      let z = none_left numbers i.rest i.others in
      let w : ws ≡ Word x ∷ [] = cc (i.is, z) in
      before 9 ws _ (Leaf (Read x (pos 0))) (Leaf (Read x (pos 0))) w name refl
  expr_before (reading {x = x} {ts = ts} {d = d} h) ws p =
      let i = after numbers (Word x) (fixed_word numbers x) (Sign mark.OpenBracket ∷ (ts ++ (Sign mark.CloseBracket ∷ []))) ws p in
      let j = after numbers (Sign mark.OpenBracket) (fixed_sign numbers mark.OpenBracket) (ts ++ (Sign mark.CloseBracket ∷ [])) i.rest i.others in
      let s = split_at numbers ts (Sign mark.CloseBracket ∷ []) j.rest j.others in
      let k = after numbers (Sign mark.CloseBracket) (fixed_sign numbers mark.CloseBracket) [] s.back s.back_is in
      let z = none_left numbers k.rest k.others in
      let o = offset_before h s.front s.front_is in
      let w : ws ≡ Word x ∷ Sign mark.OpenBracket ∷ (s.front ++ (Sign mark.CloseBracket ∷ [])) = cc (i.is, j.is, s.is, k.is, z) in
      before 9 ws _ (Leaf (Read x o.offset)) (Leaf (Read x d)) w (reading o.is) (ap (λ m. Leaf (Read x m)) o.same)
  expr_before (window {r = r} {x = x} {ts = ts} {us = us} {l = l} {h = h} from to) ws p =
      let end = Sign mark.CloseBracket ∷ Sign mark.CloseParen ∷ [] in
      let a = after numbers (Reserved (key.Reducer r)) (fixed_key numbers (key.Reducer r)) _ ws p in
      let b = after numbers (Sign mark.OpenParen) (fixed_sign numbers mark.OpenParen) _ a.rest a.others in
      let c = after numbers (Word x) (fixed_word numbers x) _ b.rest b.others in
      let d = after numbers (Sign mark.OpenBracket) (fixed_sign numbers mark.OpenBracket) _ c.rest c.others in
      let s = split_at numbers ts (Sign mark.Colon ∷ (us ++ end)) d.rest d.others in
      let f = after numbers (Sign mark.Colon) (fixed_sign numbers mark.Colon) (us ++ end) s.back s.back_is in
      let t = split_at numbers us end f.rest f.others in
      let g = after numbers (Sign mark.CloseBracket) (fixed_sign numbers mark.CloseBracket) (Sign mark.CloseParen ∷ []) t.back t.back_is in
      let k = after numbers (Sign mark.CloseParen) (fixed_sign numbers mark.CloseParen) [] g.rest g.others in
      let z = none_left numbers k.rest k.others in
      let o = offset_before from s.front s.front_is in
      let q = offset_before to t.front t.front_is in
      let w : ws ≡ Reserved (key.Reducer r) ∷ Sign mark.OpenParen ∷ Word x ∷ Sign mark.OpenBracket
      ∷ (s.front ++ (Sign mark.Colon ∷ (t.front ++ (Sign mark.CloseBracket ∷ Sign mark.CloseParen ∷ [])))) =
      cc (a.is, b.is, c.is, d.is, s.is, f.is, t.is, g.is, k.is, z) in
      let same : Leaf (Reduce r x (digits_at numbers o.offset) (digits_at numbers q.offset)) ≡ Leaf (Reduce r x l h) = cc (o.same, q.same) in
      before 9 ws _ (Leaf (Reduce r x o.offset q.offset)) (Leaf (Reduce r x l h)) w (window o.is q.is) same
  expr_before (is_null {ts = ts} {a = a} h) ws p =
      let i = after numbers (Reserved key.IsNull) (fixed_key numbers key.IsNull) _ ws p in
      let j = after numbers (Sign mark.OpenParen) (fixed_sign numbers mark.OpenParen) (ts ++ (Sign mark.CloseParen ∷ [])) i.rest i.others in
      let s = split_at numbers ts (Sign mark.CloseParen ∷ []) j.rest j.others in
      let k = after numbers (Sign mark.CloseParen) (fixed_sign numbers mark.CloseParen) [] s.back s.back_is in
      let z = none_left numbers k.rest k.others in
      let f = expr_before h s.front s.front_is in
      let w : ws ≡ Reserved key.IsNull ∷ Sign mark.OpenParen ∷ (s.front ++ (Sign mark.CloseParen ∷ [])) = cc (i.is, j.is, s.is, k.is, z) in
      before 9 ws _ (One op1.IsNull f.tree) (One op1.IsNull a) w (is_null f.is) (ap (λ e. One op1.IsNull e) f.same)
  expr_before (if_null {ts = ts} {us = us} {a = a} {b = b} ha hb) ws p =
      let end = Sign mark.CloseParen ∷ [] in
      let i = after numbers (Reserved key.IfNull) (fixed_key numbers key.IfNull) _ ws p in
      let j = after numbers (Sign mark.OpenParen) (fixed_sign numbers mark.OpenParen) (ts ++ (Sign mark.Comma ∷ (us ++ end))) i.rest i.others in
      let s = split_at numbers ts (Sign mark.Comma ∷ (us ++ end)) j.rest j.others in
      let k = after numbers (Sign mark.Comma) (fixed_sign numbers mark.Comma) (us ++ end) s.back s.back_is in
      let t = split_at numbers us end k.rest k.others in
      let l = after numbers (Sign mark.CloseParen) (fixed_sign numbers mark.CloseParen) [] t.back t.back_is in
      let z = none_left numbers l.rest l.others in
      let f = expr_before ha s.front s.front_is in
      let g = expr_before hb t.front t.front_is in
      let w : ws ≡ Reserved key.IfNull ∷ Sign mark.OpenParen ∷ (s.front ++ (Sign mark.Comma ∷ (t.front ++ (Sign mark.CloseParen ∷ [])))) =
      cc (i.is, j.is, s.is, k.is, t.is, l.is, z) in
      let same : Two op2.IfNull (with_numbers numbers f.tree) (with_numbers numbers g.tree) ≡ Two op2.IfNull a b = cc (f.same, g.same) in
      before 9 ws _ (Two op2.IfNull f.tree g.tree) (Two op2.IfNull a b) w (if_null f.is g.is) same
  expr_before (enclosed {ts = ts} h) ws p =
      let i = after numbers (Sign mark.OpenParen) (fixed_sign numbers mark.OpenParen) (ts ++ (Sign mark.CloseParen ∷ [])) ws p in
      let s = split_at numbers ts (Sign mark.CloseParen ∷ []) i.rest i.others in
      let k = after numbers (Sign mark.CloseParen) (fixed_sign numbers mark.CloseParen) [] s.back s.back_is in
      let z = none_left numbers k.rest k.others in
      let f = expr_before h s.front s.front_is in
      let w : ws ≡ Sign mark.OpenParen ∷ (s.front ++ (Sign mark.CloseParen ∷ [])) = cc (i.is, s.is, k.is, z) in
      before 9 ws _ f.tree _ w (enclosed f.is) f.same
