-- Tokens are one step at most, and one pipeline, or are refused for one fault, and not both; and so is a text.
use Rattle.std.proofs.Common.{◌≡◌, ◌≢◌, ◌⊎◌, inl, inr, ℕ, ◌+◌, ◌*◌, ℤ, List, [], ◌∷◌, ◌++◌, length, get_or, Some, None, refl, sym, ap, ◌∙◌, subst}
use Rattle.std.proofs.Common.{arith, length-append}
use Rattle.tilt_base.specs.declared.reducer.Reducer.{Reducer}
use Rattle.tilt_base.specs.declared.span.Span.{Span}
use Rattle.tilt_lexer.proofs.Unique.{same_tokens, same_fault, tokens_or_fault}
use Rattle.tilt_lexer.specs.Tokens.{AreTokens, IsFaultyAt}
use Rattle.tilt_lexer.specs.declared.fault.LexFault.{LexFault}
use Rattle.tilt_lexer.specs.declared.fault.LexFault.TheVariants as lexical
use Rattle.tilt_lexer.specs.declared.key.Key.{Key}
use Rattle.tilt_lexer.specs.declared.key.Key.TheVariants as key
use Rattle.tilt_lexer.specs.declared.mark.Mark.TheVariants as mark
use Rattle.tilt_lexer.specs.declared.token.Tok.{Tok}
use Rattle.tilt_lexer.specs.declared.token.Tok.TheVariants.{Word, Number, Key as Reserved, Mark as Sign}
use Rattle.tilt_lexer.specs.declared.token.Token.{Token}
use Rattle.tilt_syntax.proofs.Unique.{one_expr}
use Rattle.tilt_syntax.specs.Grammar.{IsBound, from_zero, below_zero, IsExpr, IsSpan, over}
use Rattle.tilt_syntax.specs.Query.{kinds, statements}
use Rattle.tilt_operators.specs.Fault.{of_place}
use Rattle.tilt_operators.specs.Flow.{StepTree, Select, Keep, Shift, Window, Join, FlowTree}
use Rattle.tilt_operators.specs.Steps.{AreFlow, AreSteps, HasBadStep, no_steps, first, alone, behind, IsBadStep, between, last, later}
use Rattle.tilt_operators.specs.Steps.{IsFirst, IsFlowOf, IsFlowText, IsLast, IsRefused, bad_step, step_type, IsRefusedText, bad_byte, big_number, no_flow, IsStep, IsStepOf, first_untyped, step_of}
use Rattle.tilt_operators.specs.declared.fault.FlowFault.{FlowFault}
use Rattle.tilt_operators.specs.declared.fault.FlowFault.TheVariants as fault

-- tokens before a last one
pub ended-inj : (a b : List Tok) (t : Tok) → a ++ t ∷ [] ≡ b ++ t ∷ [] → a ≡ b
ended-inj [] [] t is = refl
ended-inj [] (y ∷ b) t is = absurd (omega (arith, ap length is, length-append b (t ∷ [])))
ended-inj (x ∷ a) [] t is = absurd (omega (arith, ap length is, length-append a (t ∷ [])))
ended-inj (x ∷ a) (y ∷ b) t is =
    let tails : a ++ t ∷ [] ≡ b ++ t ∷ [] = cc in
    let rest = ended-inj a b t tails in
    let heads : x ≡ y = cc in
    cc

pub step_of-inj : (x y : List ℕ) (a b : List Tok) → step_of x a ≡ step_of y b → (x ≡ y) × (a ≡ b)
step_of-inj x y a b is =
    let tails : a ++ Sign mark.Semicolon ∷ [] ≡ b ++ Sign mark.Semicolon ∷ [] = cc in
    let words : x ≡ y = cc in
    (words, ended-inj a b (Sign mark.Semicolon) tails)

-- the words of steps differ
unfoldable pub word_number : List ℕ → ℕ
word_number text = get_or text 0 0 * 1000 + get_or text 2 0

-- bounds
pub bound-front : {f g : List Tok} {m n : ℤ} (r q : List Tok) → IsBound f m → IsBound g n → f ++ r ≡ g ++ q → (m ≡ n) × (r ≡ q)
bound-front r q from_zero from_zero is = (cc, cc)
bound-front r q from_zero below_zero is = absurd (cc is)
bound-front r q below_zero from_zero is = absurd (cc is)
bound-front r q below_zero below_zero is = (cc, cc)

one_bound : {ts : List Tok} {m n : ℤ} → IsBound ts m → IsBound ts n → m ≡ n
one_bound a b = (bound-front [] [] a b refl).0

same_span : {ts us : List Tok} {a b : Span} → IsSpan ts a → IsSpan us b → ts ≡ us → a ≡ b
same_span (over {us = us} {s = s} {e = e} hs he) (over {us = vs} {s = t} {e = f} gs ge) is =
    let starts = bound-front (Sign mark.Comma ∷ (us ++ Sign mark.CloseBracket ∷ [])) (Sign mark.Comma ∷ (vs ++ Sign mark.CloseBracket ∷ [])) hs gs (cc is) in
    let ends = bound-front (Sign mark.CloseBracket ∷ []) (Sign mark.CloseBracket ∷ []) he ge (cc starts.1) in
    let one = starts.0 in
    let other = ends.0 in
    cc

-- reducers
-- a reserved word is that of a reducer, or of none
pub key_or_none : (k : Key) → ((r : Reducer) × (key.Reducer r ≡ k)) ⊎ ((r : Reducer) → key.Reducer r ≢ k)
key_or_none (key.Reducer r) = inl (r, refl)
key_or_none k = inr (λ r is. cc)

module _ (word : List ℕ) (inside : List Tok) where
  one_step_of : (s t : StepTree) → IsStepOf word inside s → IsStepOf word inside t → s ≡ t
  unfolding word_number
  one_step_of (Select d) (Select e) g h = ap Select (one_expr inside d e g.1.parsed h.1.parsed)
  one_step_of (Keep d) (Keep e) g h = ap Keep (one_expr inside d e g.1.parsed h.1.parsed)
  one_step_of (Shift m) (Shift n) g h = ap Shift (one_bound g.1 h.1)
  one_step_of (Window q m) (Window r n) g h =
      let same : Reserved (key.Reducer q) ∷ Number m ∷ [] ≡ Reserved (key.Reducer r) ∷ Number n ∷ [] = sym g.1 ∙ h.1 in
      let widths : m ≡ n = cc in
      let reducers : q ≡ r = cc in
      cc
  one_step_of (Join x d) (Join y e) g h =
      let same : Word x ∷ g.1 ≡ Word y ∷ h.1 = sym g.2 ∙ h.2 in
      let names : x ≡ y = cc in
      let rest : h.1 ≡ g.1 = cc in
      let exprs : d ≡ e = one_expr g.1 d e g.4.parsed (subst (λ (ts : List Tok). IsExpr 0 ts e) rest h.4.parsed) in
      cc
  one_step_of s t g h = absurd (omega (arith, ap word_number (sym g.0 ∙ h.0)))

pub one_step : (ts : List Tok) (s t : StepTree) → IsStep ts s → IsStep ts t → s ≡ t
one_step ts s t g h =
    let same = step_of-inj g.word h.word g.inside h.inside (sym g.whole ∙ h.whole) in
    let words = same.0 in
    let insides = same.1 in
    one_step_of g.word g.inside s t g.is (rw (words, insides) h.is)

one_first : (ts : List Tok) (x y : List ℕ) → IsFirst ts x → IsFirst ts y → x ≡ y
one_first ts x y g h =
    let same : Reserved key.From ∷ Word x ∷ Sign mark.Semicolon ∷ [] ≡ Reserved key.From ∷ Word y ∷ Sign mark.Semicolon ∷ [] = sym g.0 ∙ h.0 in
    cc

one_last : (ts : List Tok) (a b : Span) → IsLast ts a → IsLast ts b → a ≡ b
one_last ts a b g h =
    let same : Reserved key.Emit ∷ (g.0 ++ Sign mark.Semicolon ∷ []) ≡ Reserved key.Emit ∷ (h.0 ++ Sign mark.Semicolon ∷ []) = sym g.1 ∙ h.1 in
    let tails : g.0 ++ Sign mark.Semicolon ∷ [] ≡ h.0 ++ Sign mark.Semicolon ∷ [] = cc in
    same_span g.2 h.2 (ended-inj g.0 h.0 (Sign mark.Semicolon) tails)

one_steps : (n : ℕ) (ss : List (List Tok)) (p q : List StepTree) (a b : Span) → AreSteps n ss p a → AreSteps n ss q b → (p ≡ q) × (a ≡ b)
one_steps n [] p q a b g h = absurd g
one_steps n (ts ∷ []) [] [] a b g h = (refl, one_last ts a b g.1 h.1)
one_steps n (ts ∷ []) (s ∷ p) q a b g h = absurd g
one_steps n (ts ∷ []) [] (t ∷ q) a b g h = absurd h
one_steps n (ts ∷ next ∷ rest) [] q a b g h = absurd g
one_steps n (ts ∷ next ∷ rest) (s ∷ p) [] a b g h = absurd h
one_steps n (ts ∷ next ∷ rest) (s ∷ p) (t ∷ q) a b g h =
    let here = one_step ts s t g.1 h.1 in
    let others = one_steps (n + 1) (next ∷ rest) p q a b g.2 h.2 in
    let tails = others.0 in
    ((λ i. here i ∷ tails i), others.1)

one_flow : (ss : List (List Tok)) (f g : FlowTree) → AreFlow ss f → AreFlow ss g → f ≡ g
one_flow [] f g a b = absurd a
one_flow (ts ∷ rest) f g a b =
    let names = one_first ts f.first g.first a.1 b.1 in
    let others = one_steps 2 rest f.steps g.steps f.domain g.domain a.2 b.2 in
    let steps = others.0 in
    let domains = others.1 in
    (λ i. record { first = names i; steps = steps i; domain = domains i })

-- good steps aren't bad
good-or-bad : (n : ℕ) (ss : List (List Tok)) (steps : List StepTree) (domain : Span) (bad : ℕ) → AreSteps n ss steps domain → IsBadStep n ss bad → ⊥
good-or-bad n ss [] domain bad h (between a) = absurd h
good-or-bad n ss (s ∷ steps) domain bad h (between a) = a s h.0 h.1
good-or-bad n ss [] domain bad h (last a) = a domain h.0 h.1
good-or-bad n ss (s ∷ steps) domain bad h (last a) = absurd h
good-or-bad n ss [] domain bad h (later s f g b) = absurd h
good-or-bad n ss (t ∷ steps) domain bad h (later {next = next} {rest = rest} s f g b) = good-or-bad (n + 1) (next ∷ rest) steps domain bad h.2 b

one_bad : (n : ℕ) (ss : List (List Tok)) (a b : ℕ) → IsBadStep n ss a → IsBadStep n ss b → a ≡ b
one_bad n ss a b (between x) (between y) = refl
one_bad n ss a b (between x) (later s f g y) = absurd (x s f g)
one_bad n ss a b (last x) (last y) = refl
one_bad n ss a b (later s f g x) (between y) = absurd (y s f g)
one_bad n ss a b (later {next = next} {rest = rest} s f g x) (later t d e y) = one_bad (n + 1) (next ∷ rest) a b x y

flow-or-bad : (ss : List (List Tok)) (flow : FlowTree) (bad : ℕ) → AreFlow ss flow → HasBadStep ss bad → ⊥
flow-or-bad ss flow bad h no_steps = h
flow-or-bad ss flow bad h (first a) = a flow.first h.0 h.1
flow-or-bad ss flow bad h alone = h.2
flow-or-bad ss flow bad h (behind {next = next} {rest = rest} name f g b) = good-or-bad 2 (next ∷ rest) flow.steps flow.domain bad h.2 b

one_bad_step : (ss : List (List Tok)) (a b : ℕ) → HasBadStep ss a → HasBadStep ss b → a ≡ b
one_bad_step ss a b no_steps no_steps = refl
one_bad_step ss a b (first x) (first y) = refl
one_bad_step ss a b (first x) alone = refl
one_bad_step ss a b (first x) (behind name f g y) = absurd (x name f g)
one_bad_step ss a b alone (first y) = refl
one_bad_step ss a b alone alone = refl
one_bad_step ss a b (behind name f g x) (first y) = absurd (y name f g)
one_bad_step ss a b (behind {next = next} {rest = rest} name f g x) (behind other d e y) = one_bad 2 (next ∷ rest) a b x y

-- tokens
pub one_flow_of : (ts : List Tok) (f g : FlowTree) → IsFlowOf ts f → IsFlowOf ts g → f ≡ g
one_flow_of ts f g a b = one_flow (statements ts) f g a.steps b.steps

pub flow-or-refused : (ts : List Tok) (flow : FlowTree) (f : FlowFault) → IsFlowOf ts flow → IsRefused ts f → ⊥
flow-or-refused ts flow f h (bad_step {bad = bad} b) = flow-or-bad (statements ts) flow bad h.steps b
flow-or-refused ts flow f h (step_type {n = n} other is untyped) =
    let same = one_flow (statements ts) flow other h.steps is in
    let wrong : None ≡ Some n = sym h.typed ∙ ap (λ (g : FlowTree). first_untyped 2 g.steps) same ∙ untyped in
    absurd (cc wrong)

pub one_refusal : (ts : List Tok) (f g : FlowFault) → IsRefused ts f → IsRefused ts g → f ≡ g
one_refusal ts f g (bad_step {bad = a} x) (bad_step {bad = b} y) = ap fault.BadStep (one_bad_step (statements ts) a b x y)
one_refusal ts f g (bad_step {bad = a} x) (step_type flow is untyped) = absurd (flow-or-bad (statements ts) flow a is x)
one_refusal ts f g (step_type flow is untyped) (bad_step {bad = b} y) = absurd (flow-or-bad (statements ts) flow b is y)
one_refusal ts f g (step_type {n = m} flow is untyped) (step_type {n = n} other also too) =
    let same = one_flow (statements ts) flow other is also in
    let numbers : Some m ≡ Some n = sym untyped ∙ ap (λ (h : FlowTree). first_untyped 2 h.steps) same ∙ too in
    let one : m ≡ n = cc in
    ap fault.StepType one

-- texts
module _ (bytes : List ℕ) where
  of_all : (P : List Token → Type 0) (ts us : List Token) → AreTokens 0 bytes ts → AreTokens 0 bytes us → P us → P ts
  of_all P ts us a b h = subst P (same_tokens b a refl refl) h

  pub one_text : (f g : FlowTree) → IsFlowText bytes f → IsFlowText bytes g → f ≡ g
  one_text f g a b =
      one_flow (statements (kinds a.tokens)) f g a.read.steps
      (of_all (λ ts. IsFlowOf (kinds ts) g) a.tokens b.tokens a.lexed b.lexed b.read).steps

  pub text-or-refused : (flow : FlowTree) (f : FlowFault) → IsFlowText bytes flow → IsRefusedText bytes f → ⊥
  text-or-refused flow f h (bad_byte is) = tokens_or_fault h.lexed is refl
  text-or-refused flow f h (big_number is) = tokens_or_fault h.lexed is refl
  text-or-refused flow f h (no_flow tokens are is) =
      flow-or-refused (kinds h.tokens) flow f h.read (of_all (λ ts. IsRefused (kinds ts) f) h.tokens tokens h.lexed are is)

  one_fault : (f g : FlowFault) → IsRefusedText bytes f → IsRefusedText bytes g → f ≡ g
  one_fault f g (bad_byte a) (bad_byte b) = ap of_place (same_fault a b refl refl)
  one_fault f g (bad_byte a) (big_number b) = ap of_place (same_fault a b refl refl)
  one_fault f g (bad_byte a) (no_flow tokens are b) = absurd (tokens_or_fault are a refl)
  one_fault f g (big_number a) (bad_byte b) = ap of_place (same_fault a b refl refl)
  one_fault f g (big_number a) (big_number b) = ap of_place (same_fault a b refl refl)
  one_fault f g (big_number a) (no_flow tokens are b) = absurd (tokens_or_fault are a refl)
  one_fault f g (no_flow tokens are a) (bad_byte b) = absurd (tokens_or_fault are b refl)
  one_fault f g (no_flow tokens are a) (big_number b) = absurd (tokens_or_fault are b refl)
  one_fault f g (no_flow tokens are a) (no_flow others these b) =
      one_refusal (kinds tokens) f g a (of_all (λ ts. IsRefused (kinds ts) g) tokens others are these b)

  -- what is reported is that memory ran out, or is known
  memory_or : (f : FlowFault) → (f ≢ fault.OutOfMemory → IsRefusedText bytes f) → (f ≡ fault.OutOfMemory) ⊎ IsRefusedText bytes f
  memory_or fault.OutOfMemory h = inl refl
  memory_or f h = inr (h (λ e. cc))

  module _ (f : FlowFault) (known : f ≢ fault.OutOfMemory → IsRefusedText bytes f) where
    -- of a pipeline only running out of memory is reported
    pub only_memory : (flow : FlowTree) → IsFlowText bytes flow → f ≡ fault.OutOfMemory
    only_memory flow is = elim (memory_or f known) [ inl memory ↦ memory | inr refused ↦ absurd (text-or-refused flow f is refused) ]

    -- and else the fault, or that memory ran out
    pub only_fault : (g : FlowFault) → IsRefusedText bytes g → (f ≡ g) ⊎ (f ≡ fault.OutOfMemory)
    only_fault g is = elim (memory_or f known) [ inl memory ↦ inr memory | inr refused ↦ inl (one_fault f g refused is) ]

  -- the first faulty place is the fault of the text
  pub place_refuses : (f : LexFault) → (f ≢ lexical.OutOfMemory → IsFaultyAt 0 bytes f) → of_place f ≢ fault.OutOfMemory
      → IsRefusedText bytes (of_place f)
  place_refuses (lexical.BadByte at) h other = bad_byte (h (λ e. cc))
  place_refuses (lexical.BigNumber at) h other = big_number (h (λ e. cc))
  place_refuses lexical.OutOfMemory h other = absurd (other refl)
