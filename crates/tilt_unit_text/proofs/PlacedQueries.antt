-- Tokens in which each number is its count are a query if the tokens themselves are, and it is the same except for its numbers.
use Rattle.std.proofs.Common.{◌≡◌, ℤ, pos, neg_ℤ, ◌≤◌, List, [], ◌∷◌, ◌++◌, map, length, Option, Some, None, option_map, refl, sym, ap, ◌∙◌, subst, arith}
use Rattle.tilt_base.specs.declared.span.Span.{Span}
use Rattle.tilt_lexer.specs.declared.key.Key.TheVariants as key
use Rattle.tilt_lexer.specs.declared.mark.Mark.{Mark}
use Rattle.tilt_lexer.specs.declared.mark.Mark.TheVariants as mark
use Rattle.tilt_lexer.specs.declared.token.Tok.{Tok}
use Rattle.tilt_lexer.specs.declared.token.Tok.TheVariants.{Word, Number, Key as Reserved, Mark as Sign}
use Rattle.tilt_syntax.specs.Grammar.{IsBound, from_zero, below_zero, IsSpan, over, MayBeSpan, no_span, some_span, MayBeGrid, no_grid, on_multiples, with_offset}
use Rattle.tilt_syntax.specs.Grammar.{IsStatement, input, definition, emission}
use Rattle.tilt_syntax.specs.Query.{AreGood, IsGood, IsInPlace, IsQueryOf, statements, with_first}
use Rattle.tilt_syntax.specs.Tree.{StatementTree, Input, Let, Emit}
use Rattle.tilt_syntax.specs.declared.every.Every.{Every}
use Rattle.tilt_unit_text.proofs.Placed.{expr_before, negated}
use Rattle.tilt_unit_text.proofs.Split.{after, after_number, fixed_key, fixed_sign, fixed_word, none_left, split_at, token_with, tokens_with}
use Rattle.tilt_unit_text.specs.Places.{grid_with, query_with, span_with, statement_with, digits_at}
use Rattle.tilt_unit_text.specs.declared.written.Written.{Written}

module _ (numbers : List Written) where
  record BoundBefore (us : List Tok) (n : ℤ) : Type 0 where
    bound : ℤ
    is : IsBound us bound
    same : digits_at numbers bound ≡ n

  bound_before : {ts : List Tok} {n : ℤ} → IsBound ts n → (us : List Tok) → tokens_with numbers us ≡ ts → BoundBefore us n
  bound_before (from_zero {n = n}) us e =
      let a = after_number numbers n [] us e in
      let z = none_left numbers a.rest a.others in
      let w : us ≡ Number a.place ∷ [] = cc (a.is, z) in
      record { bound = a.place; is = subst (λ ws. IsBound ws a.place) (sym w) from_zero; same = a.same }
  bound_before (below_zero {n = n}) us e =
      let m = after numbers (Sign mark.Minus) (fixed_sign numbers mark.Minus) _ us e in
      let a = after_number numbers n [] m.rest m.others in
      let z = none_left numbers a.rest a.others in
      let w : us ≡ Sign mark.Minus ∷ Number a.place ∷ [] = cc (m.is, a.is, z) in
      record {
        bound = neg_ℤ a.place;
        is = subst (λ ws. IsBound ws (neg_ℤ a.place)) (sym w) below_zero;
        same = negated numbers a.place ∙ ap neg_ℤ a.same;
      }

  record SpanBefore (us : List Tok) (s : Span) : Type 0 where
    span : Span
    is : IsSpan us span
    same : span_with numbers span ≡ s

  span_before : {ts : List Tok} {s : Span} → IsSpan ts s → (us : List Tok) → tokens_with numbers us ≡ ts → SpanBefore us s
  span_before (over {ts = ts} {us = us} {s = s} {e = e} hs he) ws p =
      let end = Sign mark.CloseBracket ∷ [] in
      let a = after numbers (Reserved key.Over) (fixed_key numbers key.Over) _ ws p in
      let b = after numbers (Sign mark.OpenParen) (fixed_sign numbers mark.OpenParen) (ts ++ (Sign mark.Comma ∷ (us ++ end))) a.rest a.others in
      let c = split_at numbers ts (Sign mark.Comma ∷ (us ++ end)) b.rest b.others in
      let d = after numbers (Sign mark.Comma) (fixed_sign numbers mark.Comma) (us ++ end) c.back c.back_is in
      let f = split_at numbers us end d.rest d.others in
      let g = after numbers (Sign mark.CloseBracket) (fixed_sign numbers mark.CloseBracket) [] f.back f.back_is in
      let z = none_left numbers g.rest g.others in
      let x = bound_before hs c.front c.front_is in
      let y = bound_before he f.front f.front_is in
      let w : ws ≡ Reserved key.Over ∷ Sign mark.OpenParen ∷ (c.front ++ (Sign mark.Comma ∷ (f.front ++ (Sign mark.CloseBracket ∷ [])))) =
      cc (a.is, b.is, c.is, d.is, f.is, g.is, z) in
      let span : Span = record { start = x.bound; end = y.bound } in
      record { span = span; is = subst (λ vs. IsSpan vs span) (sym w) (over x.is y.is); same = λ i. record { start = x.same i; end = y.same i } }

  record DomainBefore (us : List Tok) (d : Option Span) : Type 0 where
    domain : Option Span
    is : MayBeSpan us domain
    same : option_map (span_with numbers) domain ≡ d

  domain_before : {ts : List Tok} {d : Option Span} → MayBeSpan ts d → (us : List Tok) → tokens_with numbers us ≡ ts → DomainBefore us d
  domain_before no_span us e =
      record { domain = None; is = subst (λ ws. MayBeSpan ws None) (sym (none_left numbers us e)) no_span; same = refl }
  domain_before (some_span h) us e =
      let s = span_before h us e in
      record { domain = Some s.span; is = some_span s.is; same = ap (λ x. Some x) s.same }

  record GridBefore (us : List Tok) (g : Option Every) : Type 0 where
    grid : Option Every
    is : MayBeGrid us grid
    same : option_map (grid_with numbers) grid ≡ g

  grid_before : {ts : List Tok} {g : Option Every} → MayBeGrid ts g → (us : List Tok) → tokens_with numbers us ≡ ts → GridBefore us g
  grid_before no_grid us e =
      record { grid = None; is = subst (λ ws. MayBeGrid ws None) (sym (none_left numbers us e)) no_grid; same = refl }
  grid_before (on_multiples {p = p}) us e =
      let a = after numbers (Reserved key.Every) (fixed_key numbers key.Every) _ us e in
      let b = after_number numbers p [] a.rest a.others in
      let z = none_left numbers b.rest b.others in
      let w : us ≡ Reserved key.Every ∷ Number b.place ∷ [] = cc (a.is, b.is, z) in
      let every : Every = record { period = b.place; offset = pos 0 } in
      let same : grid_with numbers every ≡ record { period = p; offset = pos 0 } = (λ i. record { period = b.same i; offset = pos 0 }) in
      record { grid = Some every; is = subst (λ ws. MayBeGrid ws (Some every)) (sym w) on_multiples; same = ap (λ x. Some x) same }
  grid_before (with_offset {p = p} {o = o}) us e =
      let a = after numbers (Reserved key.Every) (fixed_key numbers key.Every) _ us e in
      let b = after_number numbers p _ a.rest a.others in
      let c = after numbers (Reserved key.From) (fixed_key numbers key.From) _ b.rest b.others in
      let d = after_number numbers o [] c.rest c.others in
      let z = none_left numbers d.rest d.others in
      let w : us ≡ Reserved key.Every ∷ Number b.place ∷ Reserved key.From ∷ Number d.place ∷ [] = cc (a.is, b.is, c.is, d.is, z) in
      let every : Every = record { period = b.place; offset = d.place } in
      let same : grid_with numbers every ≡ record { period = p; offset = o } = (λ i. record { period = b.same i; offset = d.same i }) in
      record { grid = Some every; is = subst (λ ws. MayBeGrid ws (Some every)) (sym w) with_offset; same = ap (λ x. Some x) same }

  record StatementBefore (us : List Tok) (s : StatementTree) : Type 0 where
    statement : StatementTree
    is : IsStatement us statement
    same : statement_with numbers statement ≡ s

  statement_before : {ts : List Tok} {s : StatementTree} → IsStatement ts s → (us : List Tok) → tokens_with numbers us ≡ ts → StatementBefore us s
  statement_before (input {x = x}) ws p =
      let a = after numbers (Reserved key.Input) (fixed_key numbers key.Input) _ ws p in
      let b = after numbers (Word x) (fixed_word numbers x) _ a.rest a.others in
      let c = after numbers (Sign mark.Semicolon) (fixed_sign numbers mark.Semicolon) [] b.rest b.others in
      let z = none_left numbers c.rest c.others in
      let w : ws ≡ Reserved key.Input ∷ Word x ∷ Sign mark.Semicolon ∷ [] = cc (a.is, b.is, c.is, z) in
      record { statement = Input x; is = subst (λ vs. IsStatement vs (Input x)) (sym w) input; same = refl }
  statement_before (definition {x = x} {ts = ts} {us = us} {vs = vs} {e = e} {over = o} {every = g} he hd hp) ws p =
      let end = Sign mark.Semicolon ∷ [] in
      let a = after numbers (Reserved key.Let) (fixed_key numbers key.Let) _ ws p in
      let b = after numbers (Word x) (fixed_word numbers x) _ a.rest a.others in
      let c = after numbers (Sign mark.Assign) (fixed_sign numbers mark.Assign) (ts ++ (us ++ (vs ++ end))) b.rest b.others in
      let d = split_at numbers ts (us ++ (vs ++ end)) c.rest c.others in
      let f = split_at numbers us (vs ++ end) d.back d.back_is in
      let h = split_at numbers vs end f.back f.back_is in
      let k = after numbers (Sign mark.Semicolon) (fixed_sign numbers mark.Semicolon) [] h.back h.back_is in
      let z = none_left numbers k.rest k.others in
      let l = expr_before numbers he d.front d.front_is in
      let m = domain_before hd f.front f.front_is in
      let n = grid_before hp h.front h.front_is in
      let w : ws ≡ Reserved key.Let ∷ Word x ∷ Sign mark.Assign ∷ (d.front ++ (f.front ++ (h.front ++ (Sign mark.Semicolon ∷ [])))) =
      cc (a.is, b.is, c.is, d.is, f.is, h.is, k.is, z) in
      let s = Let x l.tree m.domain n.grid in
      record { statement = s; is = subst (λ vs. IsStatement vs s) (sym w) (definition l.is m.is n.is); same = cc (l.same, m.same, n.same) }
  statement_before (emission {ts = ts} {us = us} {vs = vs} {e = e} {over = o} {every = g} he hd hp) ws p =
      let end = Sign mark.Semicolon ∷ [] in
      let a = after numbers (Reserved key.Emit) (fixed_key numbers key.Emit) (ts ++ (us ++ (vs ++ end))) ws p in
      let d = split_at numbers ts (us ++ (vs ++ end)) a.rest a.others in
      let f = split_at numbers us (vs ++ end) d.back d.back_is in
      let h = split_at numbers vs end f.back f.back_is in
      let k = after numbers (Sign mark.Semicolon) (fixed_sign numbers mark.Semicolon) [] h.back h.back_is in
      let z = none_left numbers k.rest k.others in
      let l = expr_before numbers he d.front d.front_is in
      let m = span_before hd f.front f.front_is in
      let n = grid_before hp h.front h.front_is in
      let w : ws ≡ Reserved key.Emit ∷ (d.front ++ (f.front ++ (h.front ++ (Sign mark.Semicolon ∷ [])))) =
      cc (a.is, d.is, f.is, h.is, k.is, z) in
      let s = Emit l.tree m.span n.grid in
      record { statement = s; is = subst (λ vs. IsStatement vs s) (sym w) (emission l.is m.is n.is); same = cc (l.same, m.same, n.same) }

  -- the statements of tokens are those of the tokens with their numbers
  abbrev pub lists_with : List (List Tok) → List (List Tok)
  lists_with ss = map (tokens_with numbers) ss

  first_with : (t : Tok) (ss : List (List Tok)) → lists_with (with_first t ss) ≡ with_first (token_with numbers t) (lists_with ss)
  first_with t [] = refl
  first_with t (s ∷ ss) = refl

  -- a token that isn't a `;` joins the first statement
  sign_with : (m : Mark) (ts : List Tok) → statements (tokens_with numbers ts) ≡ lists_with (statements ts)
      → statements (Sign m ∷ tokens_with numbers ts) ≡ lists_with (statements (Sign m ∷ ts))
  sign_with mark.Semicolon ts e = ap (λ ss. (Sign mark.Semicolon ∷ []) ∷ ss) e
  sign_with m ts e = ap (with_first (Sign m)) e ∙ sym (first_with (Sign m) (statements ts))

  pub statements_with : (ts : List Tok) → statements (tokens_with numbers ts) ≡ lists_with (statements ts)
  statements_with [] = refl
  statements_with (Number n ∷ ts) = ap (with_first (Number (digits_at numbers n))) (statements_with ts) ∙ sym (first_with (Number n) (statements ts))
  statements_with (Word x ∷ ts) = ap (with_first (Word x)) (statements_with ts) ∙ sym (first_with (Word x) (statements ts))
  statements_with (Reserved k ∷ ts) = ap (with_first (Reserved k)) (statements_with ts) ∙ sym (first_with (Reserved k) (statements ts))
  statements_with (Sign m ∷ ts) = sign_with m ts (statements_with ts)

  length_with : {A B : Type 0} (f : A → B) (xs : List A) → length (map f xs) ≡ length xs
  length_with f [] = refl
  length_with f (x ∷ xs) = let e = length_with f xs in omega arith

  in_place : (behind : List (List Tok)) (s p : StatementTree) → statement_with numbers p ≡ s → IsInPlace (lists_with behind) s → IsInPlace behind p
  in_place [] s (Input x) e h = subst (λ t. IsInPlace [] t) (sym e) h
  in_place [] s (Let x f o g) e h = subst (λ t. IsInPlace [] t) (sym e) h
  in_place [] s (Emit f o g) e h = tt
  in_place (ts ∷ tss) s (Input x) e h = tt
  in_place (ts ∷ tss) s (Let x f o g) e h = tt
  in_place (ts ∷ tss) s (Emit f o g) e h = subst (λ t. IsInPlace (tokens_with numbers ts ∷ lists_with tss) t) (sym e) h

  record GoodBefore (uss : List (List Tok)) (query : List StatementTree) : Type 0 where
    places : List StatementTree
    are : AreGood uss places
    same : query_with numbers places ≡ query

  good_before : (uss : List (List Tok)) (query : List StatementTree) → AreGood (lists_with uss) query → GoodBefore uss query
  good_before [] [] h = record { places = []; are = tt; same = refl }
  good_before [] (s ∷ query) h = absurd h
  good_before (us ∷ uss) [] h = absurd h
  good_before (us ∷ uss) (s ∷ query) h =
      let b = statement_before h.0.parsed us refl in
      let r = good_before uss query h.1 in
      let n = length_with (token_with numbers) us in
      let short : length (tokens_with numbers us) ≤ 256 = h.0.short in
      let good : IsGood us uss b.statement = record { short = omega arith; parsed = b.is; in_place = in_place uss s b.statement b.same h.0.in_place } in
      record { places = b.statement ∷ r.places; are = (good, r.are); same = cc (b.same, r.same) }

  pub record QueryBefore (us : List Tok) (query : List StatementTree) : Type 0 where
    pub places : List StatementTree
    pub is : IsQueryOf us places
    pub same : query_with numbers places ≡ query

  pub query_before : (us : List Tok) (query : List StatementTree) → IsQueryOf (tokens_with numbers us) query → QueryBefore us query
  query_before us query h =
      let e = statements_with us in
      let n = length_with (tokens_with numbers) (statements us) in
      let m = ap length e in
      let some = h.some in
      let few = h.few in
      let g = good_before (statements us) query (subst (λ ss. AreGood ss query) e h.good) in
      record { places = g.places; is = record { some = omega arith; few = omega arith; good = g.are }; same = g.same }
