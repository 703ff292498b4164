-- The printing of a query has a line for each statement.
use Rattle.std.proofs.Common.{◌≡◌, ℕ, zero, suc, nat_lt, Bool, true, false, if◌then◌else◌, List, [], ◌∷◌, ◌++◌, length}
use Rattle.std.proofs.Common.{Option, Some, None, ℤ, pos, negsuc, ◌≤ℤ◌, FitsSigned, refl, sym, ap, ◌∙◌, arith, append_assoc}
use Rattle.std.specs.Prelude.{codes, ⊤}
use Rattle.std.specs.Fmt.{signed_decimal}
use Rattle.std.specs.Int.{w64}
use Rattle.std.proofs.lemmas.Int.{ints}
use Rattle.tilt_base.specs.Expression.{Leaf, One, Two, If}
use Rattle.tilt_base.specs.declared.operator.Op1.TheVariants as op1
use Rattle.tilt_base.specs.declared.operator.Op2.{Op2}
use Rattle.tilt_base.specs.declared.operator.Op2.TheVariants as op2
use Rattle.tilt_base.specs.Reduce.{reducer_word}
use Rattle.tilt_base.specs.declared.reducer.Reducer.{Reducer}
use Rattle.tilt_base.specs.declared.reducer.Reducer.TheVariants as reducer
use Rattle.tilt_text.specs.Step.{◌>>=◌}
use Rattle.tilt_text.proofs.Lacks.{Lacks, all_lack, lacks-append, signed_lacks}
use Rattle.tilt_text.proofs.Words.{until-front}
use Rattle.tilt_lexer.proofs.Fronts.{word_goes_on}
use Rattle.tilt_lexer.specs.Tokens.{greatest_number}
use Rattle.tilt_lexer.specs.Word.{IsWord, goes_on_word}
use Rattle.tilt_lexer.specs.declared.mark.Mark.TheVariants as mark
use Rattle.tilt_lexer.specs.declared.token.Tok.{Tok}
use Rattle.tilt_lexer.specs.declared.token.Tok.TheVariants.{Mark as Sign}
use Rattle.tilt_syntax.proofs.Sounds.{EachSound, sound_parts, statement_sound, statements_sound}
use Rattle.tilt_syntax.proofs.Written.{bound_tokens, domain_tokens, expr_tokens, from_tokens, grid_tokens, offset_tokens, operands_tokens, place_tokens, span_tokens, statement_tokens}
use Rattle.tilt_syntax.specs.Grammar.{Infix, infix_of}
use Rattle.tilt_syntax.specs.Printing.{domain_text, expr_text, from_text, grid_text, in_place, level_of, offset_text, operands_text, query_text, sign_text, span_text, statement_text}
use Rattle.tilt_syntax.specs.Query.{AreGood, AreSound, IsQuery, statements}
use Rattle.tilt_syntax.specs.Tree.{Num, Truth, Read, Reduce, ExprTree, StatementTree, Input, Let, Emit}
use Rattle.tilt_base.specs.declared.span.Span.{Span}
use Rattle.tilt_syntax.specs.declared.every.Every.{Every}
use Rattle.tilt_checkpoint.specs.Reading.{behind_line, times}

-- text without LF
abbrev OneLine : List ℕ → Type 0
OneLine text = Lacks 10 text

join : (xs ys : List ℕ) → OneLine xs → OneLine ys → OneLine (xs ++ ys)
join xs ys p q = lacks-append 10 xs ys p q

-- names and numbers

name_plain : (x : List ℕ) → IsWord x → OneLine x
name_plain x h = all_lack 10 goes_on_word refl x (word_goes_on x h)

number_plain : (z : ℤ) → FitsSigned w64 z → OneLine (signed_decimal z)
number_plain z fits = signed_lacks 10 (omega arith) z fits

sound_fits : (z : ℤ) → (pos 0 ≤ℤ z) × (z ≤ℤ greatest_number) → FitsSigned w64 z
sound_fits (pos n) h = let high = h.1 in record { sfits = omega (arith, ints) }
sound_fits (negsuc n) h = let low = h.0 in absurd (omega (arith, ints))

below_fits : (n : ℕ) → (pos 0 ≤ℤ pos (suc n)) × (pos (suc n) ≤ℤ greatest_number) → FitsSigned w64 (negsuc n)
below_fits n h = let high = h.1 in record { sfits = omega (arith, ints) }

-- the parts of expressions

offset_plain : (d : ℤ) → AreSound (offset_tokens d) → OneLine (offset_text d)
offset_plain (pos zero) s = refl
offset_plain (pos (suc n)) s = join (codes "t+") (signed_decimal (pos (suc n))) refl (number_plain (pos (suc n)) (sound_fits (pos (suc n)) s.1.1.0))
offset_plain (negsuc n) s = join (codes "t") (signed_decimal (negsuc n)) refl (number_plain (negsuc n) (below_fits n s.1.1.0))

reducer_plain : (r : Reducer) → OneLine (reducer_word r)
reducer_plain r = elim r as (λ q. OneLine (reducer_word q)) [ reducer.Sum ↦ refl | _ ↦ refl ]

-- a text in its place is plain where it is
placed : (t : Bool) (ts : List Tok) (text : List ℕ) → AreSound (if t then Sign mark.OpenParen ∷ (ts ++ (Sign mark.CloseParen ∷ [])) else ts)
    → (AreSound ts → OneLine text) → OneLine (if t then codes "(" ++ text ++ codes ")" else text)
placed true ts text s h = join (codes "(" ++ text) (codes ")") (join (codes "(") text refl (h (sound_parts ts (Sign mark.CloseParen ∷ []) s.1).0)) refl
placed false ts text s h = h s

place_plain : (place level : ℕ) (ts : List Tok) (text : List ℕ) → AreSound (place_tokens place level ts) → (AreSound ts → OneLine text)
    → OneLine (in_place place level text)
place_plain place level ts text s h = placed (nat_lt level place) ts text s h

abbrev SignPlain : Option Infix → Type 0
SignPlain None = ⊤
SignPlain (Some i) = OneLine (sign_text i.sign)

sign_plain : (op : Op2) → SignPlain (infix_of op)
sign_plain op2.Add = refl
sign_plain op2.Sub = refl
sign_plain op2.Mul = refl
sign_plain op2.Div = refl
sign_plain op2.Rem = refl
sign_plain op2.Eq = refl
sign_plain op2.Ne = refl
sign_plain op2.Lt = refl
sign_plain op2.Le = refl
sign_plain op2.Gt = refl
sign_plain op2.Ge = refl
sign_plain op2.And = refl
sign_plain op2.Or = refl
sign_plain op2.When = refl
sign_plain op2.IfNull = tt

operands_plain : (o : Option Infix) → SignPlain o → (l m : ℕ) (ts us : List Tok) (a b : List ℕ) → AreSound (operands_tokens o l ts m us)
    → (AreSound ts → OneLine a) → (AreSound us → OneLine b) → OneLine (operands_text o l a m b)
operands_plain None sign l m ts us a b s p q =
    let first = sound_parts ts _ s.1.1 in
    let second = sound_parts us _ first.1.1 in
    join (codes "ifnull(" ++ a ++ codes ", " ++ b) (codes ")")
    (join (codes "ifnull(" ++ a ++ codes ", ") b (join (codes "ifnull(" ++ a) (codes ", ") (join (codes "ifnull(") a refl (p first.0)) refl) (q second.0)) refl
operands_plain (Some i) sign l m ts us a b s p q =
    let parts = sound_parts (place_tokens i.left l ts) (i.sign ∷ place_tokens i.right m us) s in
    let left = in_place i.left l a in
    let right = in_place i.right m b in
    let text = sign_text i.sign in
    join (left ++ codes " " ++ text ++ codes " ") right
    (join (left ++ codes " " ++ text) (codes " ") (join (left ++ codes " ") text (join left (codes " ") (place_plain i.left l ts a parts.0 p) refl) sign) refl)
    (place_plain i.right m us b parts.1.1 q)

-- an offset after a name
at_offset : (x : List ℕ) (d : ℤ) → IsWord x → AreSound (offset_tokens d ++ (Sign mark.CloseBracket ∷ []))
    → OneLine (x ++ codes "[" ++ offset_text d ++ codes "]")
at_offset x d name s =
    let offset = offset_plain d (sound_parts (offset_tokens d) (Sign mark.CloseBracket ∷ []) s).0 in
    join (x ++ codes "[" ++ offset_text d) (codes "]") (join (x ++ codes "[") (offset_text d) (join x (codes "[") (name_plain x name) refl) offset) refl

expr_plain : (e : ExprTree) → AreSound (expr_tokens e) → OneLine (expr_text e)
expr_plain (Leaf (Num n)) s = number_plain n (sound_fits n s.0)
expr_plain (Leaf (Truth true)) s = refl
expr_plain (Leaf (Truth false)) s = refl
expr_plain (Leaf (Read x (pos zero))) s = name_plain x s.0.0
expr_plain (Leaf (Read x (pos (suc n)))) s = at_offset x (pos (suc n)) s.0.0 s.1.1
expr_plain (Leaf (Read x (negsuc n))) s = at_offset x (negsuc n) s.0.0 s.1.1
expr_plain (Leaf (Reduce r x from to)) s =
    let first = sound_parts (offset_tokens from) _ s.1.1.1.1 in
    let second = sound_parts (offset_tokens to) _ first.1.1 in
    let word = reducer_word r in
    let opened = word ++ codes "(" ++ x ++ codes "[" in
    let start = join (word ++ codes "(" ++ x) (codes "[") (join (word ++ codes "(") x (join word (codes "(") (reducer_plain r) refl) (name_plain x s.1.1.0.0)) refl in
    let before = join opened (offset_text from) start (offset_plain from first.0) in
    let between = join (opened ++ offset_text from) (codes ":") before refl in
    let behind = join (opened ++ offset_text from ++ codes ":") (offset_text to) between (offset_plain to second.0) in
    join (opened ++ offset_text from ++ codes ":" ++ offset_text to) (codes "])") behind refl
expr_plain (One op1.Neg a) s =
    join (codes "-") (in_place 8 (level_of a) (expr_text a)) refl (place_plain 8 (level_of a) (expr_tokens a) (expr_text a) s.1 (expr_plain a))
expr_plain (One op1.Not a) s =
    join (codes "not ") (in_place 4 (level_of a) (expr_text a)) refl (place_plain 4 (level_of a) (expr_tokens a) (expr_text a) s.1 (expr_plain a))
expr_plain (One op1.IsNull a) s =
    join (codes "isnull(" ++ expr_text a) (codes ")") (join (codes "isnull(") (expr_text a) refl (expr_plain a (sound_parts (expr_tokens a) _ s.1.1).0)) refl
expr_plain (Two op a b) s =
    operands_plain (infix_of op) (sign_plain op) (level_of a) (level_of b) (expr_tokens a) (expr_tokens b) (expr_text a) (expr_text b) s (expr_plain a) (expr_plain b)
expr_plain (If c a b) s =
    let first = sound_parts (expr_tokens c) _ s.1 in
    let second = sound_parts (expr_tokens a) _ first.1.1 in
    let test = join (codes "if ") (expr_text c) refl (expr_plain c first.0) in
    let then_word = join (codes "if " ++ expr_text c) (codes " then ") test refl in
    let one = join (codes "if " ++ expr_text c ++ codes " then ") (expr_text a) then_word (expr_plain a second.0) in
    let else_word = join (codes "if " ++ expr_text c ++ codes " then " ++ expr_text a) (codes " else ") one refl in
    join (codes "if " ++ expr_text c ++ codes " then " ++ expr_text a ++ codes " else ") (expr_text b) else_word (expr_plain b second.1.1)

-- the parts of statements

bound_plain : (z : ℤ) → AreSound (bound_tokens z) → OneLine (signed_decimal z)
bound_plain (pos n) s = number_plain (pos n) (sound_fits (pos n) s.0)
bound_plain (negsuc n) s = number_plain (negsuc n) (below_fits n s.1.0)

span_plain : (span : Span) → AreSound (span_tokens span) → OneLine (span_text span)
span_plain span s =
    let first = sound_parts (bound_tokens span.start) _ s.1.1 in
    let second = sound_parts (bound_tokens span.end) _ first.1.1 in
    let start = join (codes " over (") (signed_decimal span.start) refl (bound_plain span.start first.0) in
    let comma = join (codes " over (" ++ signed_decimal span.start) (codes ", ") start refl in
    let end = join (codes " over (" ++ signed_decimal span.start ++ codes ", ") (signed_decimal span.end) comma (bound_plain span.end second.0) in
    join (codes " over (" ++ signed_decimal span.start ++ codes ", " ++ signed_decimal span.end) (codes "]") end refl

domain_plain : (domain : Option Span) → AreSound (domain_tokens domain) → OneLine (domain_text domain)
domain_plain None s = refl
domain_plain (Some span) s = span_plain span s

from_plain : (o : ℤ) → AreSound (from_tokens o) → OneLine (from_text o)
from_plain (pos zero) s = refl
from_plain (pos (suc n)) s = join (codes " from ") (signed_decimal (pos (suc n))) refl (number_plain (pos (suc n)) (sound_fits (pos (suc n)) s.1.0))
from_plain (negsuc n) s = join (codes " from ") (signed_decimal (negsuc n)) refl (number_plain (negsuc n) (sound_fits (negsuc n) s.1.0))

grid_plain : (grid : Option Every) → AreSound (grid_tokens grid) → OneLine (grid_text grid)
grid_plain None s = refl
grid_plain (Some every) s =
    let period = join (codes " every ") (signed_decimal every.period) refl (number_plain every.period (sound_fits every.period s.1.0)) in
    join (codes " every " ++ signed_decimal every.period) (from_text every.offset) period (from_plain every.offset s.1.1)

-- a line of its own
record IsLine (text : List ℕ) : Type 0 where
  line : List ℕ
  plain : OneLine line
  is : text ≡ line ++ codes "\n"

line_of : (front : List ℕ) → OneLine front → IsLine (front ++ codes ";\n")
line_of front h = record { line = front ++ codes ";"; plain = join front (codes ";") h refl; is = sym (append_assoc front (codes ";") (codes "\n")) }

statement_line : (s : StatementTree) → AreSound (statement_tokens s) → IsLine (statement_text s)
statement_line (Input x) s = line_of (codes "input " ++ x) (join (codes "input ") x refl (name_plain x s.1.0.0))
statement_line (Let x e domain grid) s =
    let first = sound_parts (expr_tokens e) _ s.1.1.1 in
    let second = sound_parts (domain_tokens domain) _ first.1 in
    let third = sound_parts (grid_tokens grid) _ second.1 in
    let name = join (codes "let ") x refl (name_plain x s.1.0.0) in
    let sign = join (codes "let " ++ x) (codes " = ") name refl in
    let body = join (codes "let " ++ x ++ codes " = ") (expr_text e) sign (expr_plain e first.0) in
    let over = join (codes "let " ++ x ++ codes " = " ++ expr_text e) (domain_text domain) body (domain_plain domain second.0) in
    line_of (codes "let " ++ x ++ codes " = " ++ expr_text e ++ domain_text domain ++ grid_text grid)
    (join (codes "let " ++ x ++ codes " = " ++ expr_text e ++ domain_text domain) (grid_text grid) over (grid_plain grid third.0))
statement_line (Emit e span grid) s =
    let first = sound_parts (expr_tokens e) _ s.1 in
    let second = sound_parts (span_tokens span) _ first.1 in
    let third = sound_parts (grid_tokens grid) _ second.1 in
    let body = join (codes "emit ") (expr_text e) refl (expr_plain e first.0) in
    let over = join (codes "emit " ++ expr_text e) (span_text span) body (span_plain span second.0) in
    line_of (codes "emit " ++ expr_text e ++ span_text span ++ grid_text grid)
    (join (codes "emit " ++ expr_text e ++ span_text span) (grid_text grid) over (grid_plain grid third.0))

line-again : (text : List ℕ) → IsLine text → (more : List ℕ) → behind_line (text ++ more) ≡ Some more
line-again text h more =
    let whole : text ++ more ≡ h.line ++ 10 ∷ more = ap (λ (t : List ℕ). t ++ more) h.is ∙ append_assoc h.line (codes "\n") more in
    ap behind_line whole ∙ ap (λ o. o >>= λ parts. Some parts.1) (until-front 10 h.line more h.plain)

passed : (ss : List (List Tok)) (query : List StatementTree) → EachSound ss → AreGood ss query → (more : List ℕ)
    → times behind_line (length query) (query_text query ++ more) ≡ Some more
passed [] [] each good more = refl
passed [] (s ∷ query) each good more = absurd good
passed (ts ∷ rest) [] each good more = absurd good
passed (ts ∷ rest) (s ∷ query) each good more =
    let line = statement_line s (statement_sound good.0.parsed each.0) in
    ap (λ (t : List ℕ). times behind_line (suc (length query)) t) (append_assoc (statement_text s) (query_text query) more)
    ∙ ap (λ o. o >>= times behind_line (length query)) (line-again (statement_text s) line (query_text query ++ more))
    ∙ passed rest query each.1 good.1 more

-- the printing of a query is passed by as many lines as it has statements
pub query-passed : (query : List StatementTree) → IsQuery query → (more : List ℕ)
    → times behind_line (length query) (query_text query ++ more) ≡ Some more
query-passed query is more =
    passed (statements is.tokens) query (statements_sound is.tokens is.sound) is.parsed.good more
