-- A text in units has one answer.
use Rattle.std.proofs.Common.{◌≡◌, ◌≢◌, ◌⊎◌, inl, inr, ℕ, List, Result, Ok, Err, refl, sym, ap, ◌∙◌, subst}
use Rattle.tilt_input_scales.specs.Scales.{ScalesValue}
use Rattle.tilt_lexer.specs.Tokens.{AreTokens, IsFaultyAt}
use Rattle.tilt_lexer.specs.declared.fault.LexFault.{LexFault}
use Rattle.tilt_lexer.specs.declared.fault.LexFault.TheVariants as lexical
use Rattle.tilt_lexer.specs.declared.token.Tok.{Tok}
use Rattle.tilt_lexer.specs.declared.token.Token.{Token}
use Rattle.tilt_lexer.proofs.Unique.{same_tokens, same_fault, tokens_or_fault}
use Rattle.tilt_syntax.specs.Query.{kinds, IsQueryOf, IsRefused}
use Rattle.tilt_syntax.specs.Tree.{StatementTree}
use Rattle.tilt_syntax.specs.declared.fault.SyntaxFault.{SyntaxFault}
use Rattle.tilt_syntax.specs.declared.fault.SyntaxFault.TheVariants as syntax
use Rattle.tilt_syntax.proofs.Refused.{one_refusal, query-or-refused}
use Rattle.tilt_syntax.proofs.Unique.{one_query}
use Rattle.tilt_unit_text.proofs.Numbered.{counted_with}
use Rattle.tilt_unit_text.proofs.PlacedQueries.{QueryBefore, query_before}
use Rattle.tilt_unit_text.specs.Numbers.{noted}
use Rattle.tilt_unit_text.specs.Places.{counted, query_with}
use Rattle.tilt_unit_text.specs.Points.{fault_in_text, points_of, without_points}
use Rattle.tilt_unit_text.specs.Reading.{Gives, GivesAnswer, GivesReading, IsAnswer, no_numbers, no_query, query, Reads, no_tokens, tokens}
use Rattle.tilt_unit_text.specs.Units.{UnitParts, of_syntax, query_in_units}
use Rattle.tilt_unit_text.specs.declared.fault.UnitFault.{UnitFault}
use Rattle.tilt_unit_text.specs.declared.fault.UnitFault.TheVariants as fault
use Rattle.tilt_unit_text.specs.declared.written.Written.{Written}

same_noted : (points : List ℕ) (ts : List Token) (m n : List Written) → noted points ts ≡ Ok m → noted points ts ≡ Ok n → m ≡ n
same_noted points ts m n e f = cc

one_answer : {scales : ScalesValue} {points : List ℕ} {ts : List Token} {a b : Result UnitParts UnitFault}
    → IsAnswer scales points ts a → IsAnswer scales points ts b → a ≡ b
one_answer (no_numbers e) (no_numbers f) = cc
one_answer (no_numbers e) (no_query n f r) = absurd (cc (e, f))
one_answer (no_numbers e) (query n q p f r s) = absurd (cc (e, f))
one_answer (no_query m e r) (no_numbers f) = absurd (cc (e, f))
one_answer (no_query {tokens = ts} {f = d} m e r) (no_query {f = g} n f s) = ap (λ x. Err (of_syntax x)) (one_refusal (kinds ts) d g r s)
one_answer (no_query {tokens = ts} {f = d} m e r) (query n q p f s t) = absurd (query-or-refused (kinds ts) q d s r)
one_answer (query m q p e r s) (no_numbers f) = absurd (cc (e, f))
one_answer (query {tokens = ts} m q p e r s) (no_query {f = d} n f t) = absurd (query-or-refused (kinds ts) q d r t)
one_answer (query {scales = scales} {points = points} {tokens = ts} m q p e r s) (query n o k f t u) =
    let numbers = same_noted points ts m n e f in
    let queries = one_query (kinds ts) q o r t in
    let places = one_query (counted 0 (kinds ts)) p k s u in
    cc (numbers, queries, places)

pub one_reading : {scales : ScalesValue} {text : List ℕ} {a b : Result UnitParts UnitFault}
    → Reads scales text a → Reads scales text b → a ≡ b
one_reading (no_tokens {text = text} e) (no_tokens f) = ap (λ x. Err (fault_in_text (points_of text) x)) (same_fault e f refl refl)
one_reading (no_tokens e) (tokens ts are is) = absurd (tokens_or_fault are e refl)
one_reading (tokens ts are is) (no_tokens e) = absurd (tokens_or_fault are e refl)
one_reading (tokens {scales = scales} {text = text} ts are is) (tokens {answer = b} us these so) =
    one_answer is (subst (λ vs. IsAnswer scales (points_of text) vs b) (same_tokens these are refl refl) so)

-- what is given is the one answer
pub gives_only : {A : Type 0} (seen : A → UnitParts) (scales : ScalesValue) (text : List ℕ) (given : Result A UnitFault)
    → GivesReading seen scales text given → (answer : Result UnitParts UnitFault) → Reads scales text answer → Gives seen given answer
gives_only seen scales text (Ok a) g answer r = one_reading r g
gives_only seen scales text (Err f) g answer r = elim g [ inl memory ↦ inl memory | inr read ↦ inr (one_reading r read) ]

-- what is given for the text without points is given for the text
pub lexed_fault : (scales : ScalesValue) (text : List ℕ) (f : LexFault) → (f ≢ lexical.OutOfMemory → IsFaultyAt 0 (without_points text) f)
    → (fault_in_text (points_of text) f ≡ fault.OutOfMemory) ⊎ Reads scales text (Err (fault_in_text (points_of text) f))
lexed_fault scales text (lexical.BadByte at) h = inr (no_tokens (h (λ e. cc)))
lexed_fault scales text (lexical.BigNumber at) h = inr (no_tokens (h (λ e. cc)))
lexed_fault scales text lexical.OutOfMemory h = inl refl

pub reading_of : {A : Type 0} (seen : A → UnitParts) (scales : ScalesValue) (text : List ℕ) (ts : List Token) (given : Result A UnitFault)
    → AreTokens 0 (without_points text) ts → GivesAnswer seen scales (points_of text) ts given → GivesReading seen scales text given
reading_of seen scales text ts (Ok a) are g = tokens ts are g
reading_of seen scales text ts (Err f) are g = elim g [ inl memory ↦ inl memory | inr is ↦ inr (tokens ts are is) ]

module _ (scales : ScalesValue) (points : List ℕ) (ts : List Token) where
  pub noted_fault : (f : UnitFault) → (f ≡ fault.OutOfMemory) ⊎ (noted points ts ≡ Err f)
      → (f ≡ fault.OutOfMemory) ⊎ IsAnswer scales points ts (Err f)
  noted_fault f h = elim h [ inl memory ↦ inl memory | inr e ↦ inr (no_numbers e) ]

  pub parsed_fault : (numbers : List Written) (f : SyntaxFault) → noted points ts ≡ Ok numbers → (f ≢ syntax.OutOfMemory → IsRefused (kinds ts) f)
      → (of_syntax f ≡ fault.OutOfMemory) ⊎ IsAnswer scales points ts (Err (of_syntax f))
  parsed_fault numbers syntax.TooManyStatements e h = inr (no_query numbers e (h (λ p. cc)))
  parsed_fault numbers (syntax.StatementTooLong n) e h = inr (no_query numbers e (h (λ p. cc)))
  parsed_fault numbers (syntax.Syntax n) e h = inr (no_query numbers e (h (λ p. cc)))
  parsed_fault numbers (syntax.EmitPlace n) e h = inr (no_query numbers e (h (λ p. cc)))
  parsed_fault numbers syntax.OutOfMemory e h = inl refl

  pub query_answer : {A : Type 0} (seen : A → UnitParts) (numbers : List Written) (q places : List StatementTree) (given : Result A UnitFault)
      → noted points ts ≡ Ok numbers → IsQueryOf (kinds ts) q → IsQueryOf (counted 0 (kinds ts)) places
      → Gives seen given (query_in_units scales numbers q places) → GivesAnswer seen scales points ts given
  query_answer seen numbers q places (Ok a) e is so g =
      subst (λ (r : Result UnitParts UnitFault). IsAnswer scales points ts r) g (query numbers q places e is so)
  query_answer seen numbers q places (Err f) e is so g = elim g [
    | inl memory ↦ inl memory
    | inr same ↦ inr (subst (λ (r : Result UnitParts UnitFault). IsAnswer scales points ts r) same (query numbers q places e is so))
  ]

-- the query with each number as its count is one, and the only one
pub placed : (points : List ℕ) (ts : List Token) (numbers : List Written) (q : List StatementTree) → noted points ts ≡ Ok numbers → IsQueryOf (kinds ts) q
    → QueryBefore numbers (counted 0 (kinds ts)) q
placed points ts numbers q e is =
    query_before numbers (counted 0 (kinds ts)) q (subst (λ (us : List Tok). IsQueryOf us q) (sym (counted_with points ts numbers e)) is)

pub placed_same : (points : List ℕ) (ts : List Token) (numbers : List Written) (q places : List StatementTree) → noted points ts ≡ Ok numbers
    → IsQueryOf (kinds ts) q → IsQueryOf (counted 0 (kinds ts)) places → query_with numbers places ≡ q
placed_same points ts numbers q places e is so =
    let b = placed points ts numbers q e is in
    ap (query_with numbers) (one_query (counted 0 (kinds ts)) places b.places so b.is) ∙ b.same
