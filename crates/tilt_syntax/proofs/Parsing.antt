-- The steps of the parser over plain tokens.
use Rattle.std.proofs.Common.{◌≡◌, ◌≢◌, ◌<◌, ℕ, suc, List, [], ◌∷◌, ◌++◌, length, take, drop, map, All}
use Rattle.std.proofs.Common.{Bool, true, false, not, IsTrue, ◌==◌, Option, Some, None, refl, ap, ◌∙◌, ◌↔◌, append_assoc, append-nil, arith}
use Rattle.std.proofs.lemmas.List.{length-map, map-append}
use Rattle.std.proofs.lemmas.List.Elements.{All-map, recursion_from_All}
use Rattle.tilt_lexer.specs.Tokens.{IsSound}
use Rattle.tilt_lexer.specs.declared.token.Tok.{Tok}
use Rattle.tilt_lexer.specs.declared.token.Token.{Token}
use Rattle.tilt_syntax.specs.Query.{kinds, AreSound, statements, IsInPlace, IsGood, AreGood}
use Rattle.tilt_syntax.specs.Cut.{first_length}
use Rattle.tilt_syntax.specs.Descent.{Reading, plan_of}
use Rattle.tilt_syntax.specs.Grammar.{IsExpr}
use Rattle.tilt_syntax.specs.Rest.{Finds}
use Rattle.tilt_syntax.specs.Tree.{ExprTree, StatementTree, Input, Let, Emit, statement_tree}
use Rattle.tilt_syntax.specs.declared.level.Level.TheVariants.{Choice}
use Rattle.tilt_base.specs.declared.span.Span.{Span}
use Rattle.tilt_syntax.specs.declared.every.Every.{Every}
use Rattle.tilt_syntax.specs.declared.statement.Statement.{Statement}
use Rattle.tilt_syntax.proofs.Cutting.{cut}
use Rattle.tilt_syntax.proofs.Sound.{fits}
use Rattle.tilt_syntax.proofs.Steady.{one_answer}
use Rattle.tilt_syntax.proofs.Whole.{whole, same_rest}

pub sound-kinds : (ts : List Token) → All (λ token. IsSound token.kind) ts → AreSound (kinds ts)
sound-kinds ts h = recursion_from_All IsSound (kinds ts) (All-map IsSound (λ token. token.kind) ts h)

-- no tokens and some

pub none-left : (ts : List Token) → true ≡ (length ts == 0) → kinds ts ≡ []
none-left [] e = refl
none-left (t ∷ ts) e = absurd (grind arith)

pub more-left : (ts : List Token) → false ≡ (length ts == 0) → kinds ts ≢ []
more-left [] e = absurd (cc)
more-left (t ∷ ts) e = λ h. cc

pub some-left : (ts : List Token) → false ≡ (length ts == 0) → 0 < length ts
some-left ts e = grind arith

pub first-statement : (ts : List Token) → 0 < length ts
    → statements (kinds ts) ≡ take (first_length (kinds ts)) (kinds ts) ∷ statements (drop (first_length (kinds ts)) (kinds ts))
first-statement ts some = let more : 0 < length (kinds ts) = rw length-map some in cut (kinds ts) more

pub some-statement : (ts : List Token) → 0 < length ts → 0 < length (statements (kinds ts))
some-statement ts some =
    rw (first-statement ts some) (omega arith)

-- where a statement of each kind may stand

not-zero : (n : ℕ) → (suc n == 0) ≡ false
not-zero n = grind arith

pub emit-in-place : (ts : List Token) (r : Bool) (e : ExprTree) (o : Span) (p : Option Every) → r ≡ (length ts == 0)
    → IsTrue r ↔ IsInPlace (statements (kinds ts)) (Emit e o p)
emit-in-place [] r e o p is = (λ h. tt, λ h. is)
emit-in-place (t ∷ ts) r e o p is =
    rw (first-statement (t ∷ ts) (omega arith)) (λ h. (let no : r ≡ false = is ∙ not-zero (length ts) in absurd (cc)), λ h. absurd h)

pub input-in-place : (ts : List Token) (r : Bool) (x : List ℕ) → r ≡ (length ts == 0)
    → IsTrue (not r) ↔ IsInPlace (statements (kinds ts)) (Input x)
input-in-place [] r x is = (λ h. (let no : not r ≡ false = rw is refl in absurd (cc)), λ h. absurd h)
input-in-place (t ∷ ts) r x is =
    rw (first-statement (t ∷ ts) (omega arith)) (λ h. tt, λ h. (let no : r ≡ false = is ∙ not-zero (length ts) in rw no refl))

pub let-in-place : (ts : List Token) (r : Bool) (x : List ℕ) (e : ExprTree) (o : Option Span) (p : Option Every) → r ≡ (length ts == 0)
    → IsTrue (not r) ↔ IsInPlace (statements (kinds ts)) (Let x e o p)
let-in-place [] r x e o p is = (λ h. (let no : not r ≡ false = rw is refl in absurd (cc)), λ h. absurd h)
let-in-place (t ∷ ts) r x e o p is =
    rw (first-statement (t ∷ ts) (omega arith)) (λ h. tt, λ h. (let no : r ≡ false = is ∙ not-zero (length ts) in rw no refl))

-- a good statement before good ones, after those that were read
pub good-step : (ss : List (List Tok)) (ts : List Tok) (behind : List (List Tok)) (read new : List Statement) (s : Statement)
    → new ≡ read ++ s ∷ [] → IsGood ts behind (statement_tree s)
    → ((others : List StatementTree) → AreGood (ts ∷ behind) others → AreGood ss (map statement_tree read ++ others))
    → (others : List StatementTree) → AreGood behind others → AreGood ss (map statement_tree new ++ others)
good-step ss ts behind read new s e g h others k =
    let regrouped : map statement_tree new ++ others ≡ map statement_tree read ++ (statement_tree s ∷ others) = rw e (simp
    (map-append, append_assoc)) in
    rw regrouped (h (statement_tree s ∷ others) (g, k))

-- reading exactly the tokens, or not

pub no-expr : (ts : List Tok) → Finds (plan_of (Reading Choice ts)) ts None → (e : ExprTree) → IsExpr 0 ts e → ⊥
no-expr ts h e is = let none = one_answer h.comes (whole ts e is) in cc

pub all-read : (ts rest : List Tok) (e : ExprTree) → Finds (plan_of (Reading Choice ts)) ts (Some (record { tree = e; rest = rest }))
    → rest ≡ []
    → IsExpr 0 ts e
all-read ts rest e h none =
    let front = fits (Reading Choice ts) (record { tree = e; rest = rest }) h.comes in
    let empty : front.front ++ [] ≡ front.front = rw append-nil refl in
    let same : ts ≡ front.front = front.split ∙ ap (λ (r : List Tok). front.front ++ r) none ∙ empty in
    rw same front.is

pub some-rest : (ts rest : List Tok) (a b : ExprTree) → Finds (plan_of (Reading Choice ts)) ts (Some (record { tree = a; rest = rest }))
    → IsExpr 0 ts b → rest ≡ []
some-rest ts rest a b h is = same_rest a b rest [] (one_answer h.comes (whole ts b is))
