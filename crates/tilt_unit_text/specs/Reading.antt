-- What a text in units is (our own rule). Its points are taken out, and the rest is read as any query. Each point has to be between two digits
-- of a number of that.
use Rattle.std.specs.Prelude.{◌≡◌, ◌⊎◌, ℕ, List, Result, Ok, Err, MatchResult}
use Rattle.tilt_input_scales.specs.Scales.{ScalesValue}
use Rattle.tilt_lexer.specs.Tokens.{AreTokens, IsFaultyAt}
use Rattle.tilt_lexer.specs.declared.fault.LexFault.{LexFault}
use Rattle.tilt_lexer.specs.declared.token.Token.{Token}
use Rattle.tilt_syntax.specs.Query.{kinds, IsQueryOf, IsRefused}
use Rattle.tilt_syntax.specs.Tree.{StatementTree}
use Rattle.tilt_syntax.specs.declared.fault.SyntaxFault.{SyntaxFault}
use Rattle.tilt_unit_text.specs.Numbers.{noted}
use Rattle.tilt_unit_text.specs.Places.{counted}
use Rattle.tilt_unit_text.specs.Points.{fault_in_text, points_of, without_points}
use Rattle.tilt_unit_text.specs.Units.{UnitParts, of_syntax, query_in_units}
use Rattle.tilt_unit_text.specs.declared.fault.UnitFault.{UnitFault}
use Rattle.tilt_unit_text.specs.declared.fault.UnitFault.TheVariants as fault
use Rattle.tilt_unit_text.specs.declared.written.Written.{Written}

-- the answer for the tokens of a text, whose points are these: a misplaced point, tokens that are no query, or what the query is
pub data IsAnswer : ScalesValue → List ℕ → List Token → Result UnitParts UnitFault → Type 0 where
  no_numbers : {scales : ScalesValue} {points : List ℕ} {tokens : List Token} {f : UnitFault} → noted points tokens ≡ Err f
      → IsAnswer scales points tokens (Err f)
  no_query : {scales : ScalesValue} {points : List ℕ} {tokens : List Token} {f : SyntaxFault} (numbers : List Written)
      → noted points tokens ≡ Ok numbers → IsRefused (kinds tokens) f → IsAnswer scales points tokens (Err (of_syntax f))
  query : {scales : ScalesValue} {points : List ℕ} {tokens : List Token} (numbers : List Written) (query places : List StatementTree)
      → noted points tokens ≡ Ok numbers → IsQueryOf (kinds tokens) query → IsQueryOf (counted 0 (kinds tokens)) places
      → IsAnswer scales points tokens (query_in_units scales numbers query places)

-- the answer for a text, if its inputs have these scales: the first faulty place of the text without its points, or the answer for its tokens
pub data Reads : ScalesValue → List ℕ → Result UnitParts UnitFault → Type 0 where
  no_tokens : {scales : ScalesValue} {text : List ℕ} {f : LexFault} → IsFaultyAt 0 (without_points text) f
      → Reads scales text (Err (fault_in_text (points_of text) f))
  tokens : {scales : ScalesValue} {text : List ℕ} {answer : Result UnitParts UnitFault} (tokens : List Token)
      → AreTokens 0 (without_points text) tokens → IsAnswer scales (points_of text) tokens answer → Reads scales text answer

-- what is given is the answer, or there was no memory
abbrev pub Gives : {A B : Type 0} → (A → B) → Result A UnitFault → Result B UnitFault → Type 0
Gives seen given answer = MatchResult given (λ a. answer ≡ Ok (seen a)) (λ f. (f ≡ fault.OutOfMemory) ⊎ (answer ≡ Err f))

-- what is given is what the text is, or there was no memory
abbrev pub GivesReading : {A : Type 0} → (A → UnitParts) → ScalesValue → List ℕ → Result A UnitFault → Type 0
GivesReading seen scales text given =
    MatchResult given (λ a. Reads scales text (Ok (seen a))) (λ f. (f ≡ fault.OutOfMemory) ⊎ Reads scales text (Err f))

-- what is given is the answer for the tokens of a text, or there was no memory
abbrev pub GivesAnswer : {A : Type 0} → (A → UnitParts) → ScalesValue → List ℕ → List Token → Result A UnitFault → Type 0
GivesAnswer seen scales points ts given =
    MatchResult given (λ a. IsAnswer scales points ts (Ok (seen a))) (λ f. (f ≡ fault.OutOfMemory) ⊎ IsAnswer scales points ts (Err f))
