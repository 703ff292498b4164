-- How the steps of a pipeline are read, over plain tokens.
use Rattle.std.proofs.Common.{◌≡◌, ◌≢◌, ℕ, ℤ, pos, ◌≤ℤ◌, true, false, List, [], ◌∷◌, ◌++◌, length, codes, Option, Some, None, MatchOption, refl, sym, ap, ◌∙◌, subst, arith, length-append}
use Rattle.std.specs.Str.{bytes_eq}
use Rattle.std.proofs.lemmas.Bool.{false≢true}
use Rattle.tilt_base.proofs.Comparisons.{same_bytes}
use Rattle.tilt_base.specs.declared.reducer.Reducer.{Reducer}
use Rattle.tilt_base.specs.declared.span.Span.{Span}
use Rattle.tilt_lexer.specs.declared.key.Key.TheVariants as key
use Rattle.tilt_lexer.specs.declared.mark.Mark.TheVariants as mark
use Rattle.tilt_lexer.specs.declared.token.Tok.{Tok}
use Rattle.tilt_lexer.specs.declared.token.Tok.TheVariants.{Word, Number, Key as Reserved, Mark as Sign}
use Rattle.tilt_syntax.specs.Grammar.{IsBound}
use Rattle.tilt_lexer.specs.declared.token.Token.{Token}
use Rattle.tilt_syntax.specs.Query.{kinds}
use Rattle.tilt_syntax.proofs.Texts.{Keeps}
use Rattle.tilt_syntax.specs.Tree.{ExprTree}
use Rattle.tilt_types.specs.WellFormed.{is_stretch}
use Rattle.tilt_operators.specs.Flow.{FlowTree, StepTree, Select, Keep, Shift, Window, Join, step_tree}
use Rattle.tilt_operators.specs.Parts.{IsInside, FindsStep}
use Rattle.tilt_operators.specs.Steps.{IsExprOver, IsFlowOf, IsFlowText, IsLast, IsRefused, IsRefusedText, no_flow, IsStep, IsStepOf, is_kept_back, is_of_numbers}
use Rattle.tilt_operators.specs.declared.fault.FlowFault.{FlowFault}
use Rattle.tilt_operators.specs.declared.fault.FlowFault.TheVariants as fault
use Rattle.tilt_operators.specs.declared.operands.Operands.TheVariants.{Value, Both}
use Rattle.tilt_operators.specs.declared.step.Step.{Step}
use Rattle.tilt_operators.proofs.Spans.{last_emits, last_inside, one_has, opened, parted}
use Rattle.tilt_operators.proofs.Trimmed.{trimmed_flow, trimmed_rejected}
use Rattle.tilt_operators.proofs.Unique.{ended-inj, word_number}

pub one_inside : (ts : List Tok) (a b : Span) → IsInside ts a → IsInside ts b → a ≡ b
one_inside ts a b g h =
    let there = opened ts g.opened b g.begins h in
    let starts : a.start ≡ b.start = (one_has g.opened a.start b.start _ _ g.start there.start).0 in
    let after = parted g.opened _ g.between a.start b g.start refl there in
    let ends : a.end ≡ b.end = (one_has g.between a.end b.end _ _ g.end after).0 in
    (λ i. record { start = starts i; end = ends i })

pub no_emit : (ts : List Tok) → ((us : List Tok) → ts ≢ Reserved key.Emit ∷ us) → (domain : Span) → IsLast ts domain → ⊥
no_emit ts none domain h = let begins = last_emits ts domain h in none (Reserved key.Over ∷ begins.0) begins.1

pub no_over : (ts us : List Tok) → ts ≡ Reserved key.Emit ∷ us → ((vs : List Tok) → us ≢ Reserved key.Over ∷ vs)
    → (domain : Span) → IsLast ts domain → ⊥
no_over ts us emit none domain h =
    let begins = last_emits ts domain h in
    let same : Reserved key.Emit ∷ us ≡ Reserved key.Emit ∷ Reserved key.Over ∷ begins.0 = sym emit ∙ begins.1 in
    let tails : us ≡ Reserved key.Over ∷ begins.0 = cc in
    none begins.0 tails

pub no_stretch : (ts us vs : List Tok) (span : Span) → ts ≡ Reserved key.Emit ∷ us → us ≡ Reserved key.Over ∷ vs → IsInside vs span
    → is_stretch (Some span) ≡ false → (domain : Span) → IsLast ts domain → ⊥
no_stretch ts us vs span emit at inner none domain h =
    let same = one_inside vs span domain inner (last_inside ts us vs domain emit at h) in
    absurd (false≢true (sym none ∙ ap (λ (s : Span). is_stretch (Some s)) same ∙ h.3))

-- the last of tokens
pub last_same : (a b : List Tok) (x y : Tok) → a ++ x ∷ [] ≡ b ++ y ∷ [] → x ≡ y
last_same [] [] x y is = cc
last_same [] (z ∷ b) x y is = absurd (omega (arith, ap length is, length-append b (y ∷ [])))
last_same (z ∷ a) [] x y is = absurd (omega (arith, ap length is, length-append a (x ∷ [])))
last_same (w ∷ a) (z ∷ b) x y is = let tails : a ++ x ∷ [] ≡ b ++ y ∷ [] = cc in last_same a b x y tails

-- a step is a word, what it says, and `;`

pub no-word : {ts : List Tok} → ((x : List ℕ) (us : List Tok) → ts ≢ Word x ∷ us) → (s : StepTree) → IsStep ts s → ⊥
no-word none s h = none h.word (h.inside ++ Sign mark.Semicolon ∷ []) h.whole

pub behind-of : {ts us : List Tok} {x : List ℕ} {s : StepTree} → ts ≡ Word x ∷ us → (h : IsStep ts s)
    → (h.word ≡ x) × (us ≡ h.inside ++ Sign mark.Semicolon ∷ [])
behind-of {us = us} {x = x} is h =
    let same : Word h.word ∷ (h.inside ++ Sign mark.Semicolon ∷ []) ≡ Word x ∷ us = sym h.whole ∙ is in
    (cc, cc)

pub not-ended : {ts us : List Tok} {x : List ℕ} → ts ≡ Word x ∷ us → ((vs : List Tok) → us ≢ vs ++ Sign mark.Semicolon ∷ [])
    → (s : StepTree) → IsStep ts s → ⊥
not-ended is none s h = none h.inside (behind-of is h).1

pub found-step : (ts us inner : List Tok) (x : List ℕ) (s : StepTree) → ts ≡ Word x ∷ us → us ≡ inner ++ Sign mark.Semicolon ∷ []
    → IsStepOf x inner s → IsStep ts s
found-step ts us inner x s is ended h = record { word = x; inside = inner; whole = is ∙ ap (λ (vs : List Tok). Word x ∷ vs) ended; is = h }

pub found-none : (ts us inner : List Tok) (x : List ℕ) → ts ≡ Word x ∷ us → us ≡ inner ++ Sign mark.Semicolon ∷ []
    → ((s : StepTree) → IsStepOf x inner s → ⊥) → (s : StepTree) → IsStep ts s → ⊥
found-none ts us inner x is ended none s h =
    let parts = behind-of is h in
    let same = ended-inj h.inside inner (Sign mark.Semicolon) (sym parts.1 ∙ ended) in
    let words = parts.0 in
    none s (rw (← words, ← same) h.is)

-- each word has its own steps

module _ (ts : List Tok) where
  pub no-select : ((e : ExprTree) → IsExprOver Value ts e → ⊥) → (s : StepTree) → IsStepOf (codes "select") ts s → ⊥
  unfolding word_number
  no-select none (Select e) h = none e h.1
  no-select none s h = absurd (omega (arith, ap word_number h.0))

  pub no-where : ((e : ExprTree) → IsExprOver Value ts e → ⊥) → (s : StepTree) → IsStepOf (codes "where") ts s → ⊥
  unfolding word_number
  no-where none (Keep e) h = none e h.1
  no-where none s h = absurd (omega (arith, ap word_number h.0))

  pub no-shift : ((n : ℤ) → IsBound ts n → ⊥) → (s : StepTree) → IsStepOf (codes "shift") ts s → ⊥
  unfolding word_number
  no-shift none (Shift by) h = none by h.1
  no-shift none s h = absurd (omega (arith, ap word_number h.0))

  no-window-by : ((r : Reducer) (width : ℤ) → ts ≡ Reserved (key.Reducer r) ∷ Number width ∷ [] → is_of_numbers r ≡ true → pos 1 ≤ℤ width → ⊥)
      → (s : StepTree) → IsStepOf (codes "window") ts s → ⊥
  unfolding word_number
  no-window-by none (Window r width) h = none r width h.1 h.2 h.3
  no-window-by none s h = absurd (omega (arith, ap word_number h.0))

  no-join-by : ((x : List ℕ) (us : List Tok) (e : ExprTree) → ts ≡ Word x ∷ us → is_kept_back x ≡ false → IsExprOver Both us e → ⊥)
      → (s : StepTree) → IsStepOf (codes "join") ts s → ⊥
  unfolding word_number
  no-join-by none (Join x e) h = none x h.1 e h.2 h.3 h.4
  no-join-by none s h = absurd (omega (arith, ap word_number h.0))

  pub no-reducer : ((r : Reducer) (us : List Tok) → ts ≢ Reserved (key.Reducer r) ∷ us) → (s : StepTree) → IsStepOf (codes "window") ts s → ⊥
  no-reducer none = no-window-by (λ r width is numbers wide. none r (Number width ∷ []) is)

  pub no-width : (r : Reducer) (us : List Tok) → ts ≡ Reserved (key.Reducer r) ∷ us → ((n : ℤ) (vs : List Tok) → us ≢ Number n ∷ vs)
      → (s : StepTree) → IsStepOf (codes "window") ts s → ⊥
  no-width r us is none = no-window-by (λ q width other numbers wide. (
      let same : Reserved (key.Reducer r) ∷ us ≡ Reserved (key.Reducer q) ∷ Number width ∷ [] = sym is ∙ other in
      let tails : us ≡ Number width ∷ [] = cc in
      none width [] tails))

  -- what the tokens of a window are, where they begin so
  pub window-of : (r q : Reducer) (us vs : List Tok) (n width : ℤ) → ts ≡ Reserved (key.Reducer r) ∷ us → us ≡ Number n ∷ vs
      → ts ≡ Reserved (key.Reducer q) ∷ Number width ∷ [] → (r ≡ q) × (n ≡ width) × (vs ≡ [])
  window-of r q us vs n width is then other =
      let same : Reserved (key.Reducer r) ∷ us ≡ Reserved (key.Reducer q) ∷ Number width ∷ [] = sym is ∙ other in
      let one : r ≡ q = cc in
      let tails : us ≡ Number width ∷ [] = cc in
      let both : Number n ∷ vs ≡ Number width ∷ [] = sym then ∙ tails in
      (one, cc, cc)

  pub bad-window : (r : Reducer) (us vs : List Tok) (n : ℤ) → ts ≡ Reserved (key.Reducer r) ∷ us → us ≡ Number n ∷ vs
      → (vs ≡ [] → is_of_numbers r ≡ true → pos 1 ≤ℤ n → ⊥) → (s : StepTree) → IsStepOf (codes "window") ts s → ⊥
  bad-window r us vs n is then none = no-window-by (λ q width other numbers wide. (
      let parts = window-of r q us vs n width is then other in
      let one = parts.0 in
      let same = parts.1 in
      none parts.2 (rw one numbers) (rw same wide)))

  pub no-name : ((x : List ℕ) (us : List Tok) → ts ≢ Word x ∷ us) → (s : StepTree) → IsStepOf (codes "join") ts s → ⊥
  no-name none = no-join-by (λ x us e is open_name over. none x us is)

  pub bad-join : (x : List ℕ) (us : List Tok) → ts ≡ Word x ∷ us → ((e : ExprTree) → is_kept_back x ≡ false → IsExprOver Both us e → ⊥)
      → (s : StepTree) → IsStepOf (codes "join") ts s → ⊥
  bad-join x us is none = no-join-by (λ y vs e other open_name over. (
      let same : Word x ∷ us ≡ Word y ∷ vs = sym is ∙ other in
      let names : x ≡ y = cc in
      let tails : us ≡ vs = cc in
      none e (rw names open_name) (rw tails over)))

  pub is-window : (r : Reducer) (us vs : List Tok) (n : ℤ) → ts ≡ Reserved (key.Reducer r) ∷ us → us ≡ Number n ∷ vs → vs ≡ []
      → is_of_numbers r ≡ true → pos 1 ≤ℤ n → IsStepOf (codes "window") ts (Window r n)
  is-window r us vs n is then none numbers wide =
      (refl, is ∙ ap (λ (ws : List Tok). Reserved (key.Reducer r) ∷ ws) (then ∙ ap (λ (ws : List Tok). Number n ∷ ws) none), numbers, wide)

  -- and no other word has any
  pub others-none : (word : List ℕ) → word ≢ codes "select" → word ≢ codes "where" → word ≢ codes "shift" → word ≢ codes "window"
      → word ≢ codes "join" → (s : StepTree) → IsStepOf word ts s → ⊥
  others-none word a b c d e (Select x) h = a h.0
  others-none word a b c d e (Keep x) h = b h.0
  others-none word a b c d e (Shift by) h = c h.0
  others-none word a b c d e (Window r width) h = d h.0
  others-none word a b c d e (Join name x) h = e h.0

-- what is kept of the tokens of a text
module _ (bytes : List ℕ) (kept : List Token) (keeps : Keeps bytes kept) where
  -- is rejected if they are
  pub tokens_refuse : (f : FlowFault) → (f ≢ fault.OutOfMemory → IsRefused (kinds kept) f) → f ≢ fault.OutOfMemory → IsRefusedText bytes f
  tokens_refuse f known other =
      no_flow keeps.0 keeps.1 (trimmed_rejected (kinds keeps.0) (kinds kept) f keeps.2 (known other))

  -- and is a pipeline if they are
  pub text_is : (flow : FlowTree) → IsFlowOf (kinds kept) flow → IsFlowText bytes flow
  text_is flow read = record {
    tokens = keeps.0;
    lexed = keeps.1;
    read = trimmed_flow (kinds keeps.0) flow (subst (λ (ts : List Tok). IsFlowOf ts flow) keeps.2 read);
  }
