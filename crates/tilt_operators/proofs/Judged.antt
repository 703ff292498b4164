-- Tokens are a pipeline, or are refused for a fault.
use Rattle.std.proofs.Common.{◌≡◌, ◌≢◌, ◌⊎◌, inl, inr, ℕ, ◌+◌, ℤ, pos, ◌≤ℤ◌, true, false, List, [], ◌∷◌, ◌++◌, length, codes, Option, Some, None, refl, sym, ap, ◌∙◌, subst}
use Rattle.std.proofs.Common.{arith, length-append}
use Rattle.std.specs.Prelude.{int_le}
use Rattle.std.proofs.lemmas.Bool.{cases_Bool, cases_lt, false≢true}
use Rattle.tilt_base.proofs.Comparisons.{le_true, true_le}
use Rattle.tilt_base.specs.declared.reducer.Reducer.{Reducer}
use Rattle.tilt_base.specs.declared.span.Span.{Span}
use Rattle.tilt_lexer.specs.declared.key.Key.{Key}
use Rattle.tilt_lexer.specs.declared.key.Key.TheVariants as key
use Rattle.tilt_lexer.specs.declared.mark.Mark.TheVariants as mark
use Rattle.tilt_lexer.specs.declared.token.Tok.{Tok}
use Rattle.tilt_lexer.specs.declared.token.Tok.TheVariants.{Word, Number, Key as Reserved, Mark as Sign}
use Rattle.tilt_syntax.proofs.Total.{begins_or_not, expr_or_none, names_same, tokens_same}
use Rattle.tilt_syntax.proofs.Unique.{one_expr}
use Rattle.tilt_syntax.specs.Grammar.{IsBound}
use Rattle.tilt_syntax.specs.Query.{statements}
use Rattle.tilt_syntax.specs.Tree.{ExprTree}
use Rattle.tilt_types.specs.WellFormed.{is_stretch}
use Rattle.tilt_operators.specs.Flow.{StepTree, Select, Keep, Shift, Window, Join, FlowTree}
use Rattle.tilt_operators.specs.Parts.{HasBound, IsInside}
use Rattle.tilt_operators.specs.Steps.{AreFlow, AreSteps, HasBadStep, no_steps, first, alone, behind, IsBadStep, between, last, later, IsExprOver, IsFirst, IsFit, IsLast, IsStep, IsStepOf}
use Rattle.tilt_operators.specs.Steps.{IsFlowOf, IsRefused, bad_step, step_type, first_untyped, is_kept_back, is_of_numbers, is_over}
use Rattle.tilt_operators.specs.declared.fault.FlowFault.{FlowFault}
use Rattle.tilt_operators.specs.declared.fault.FlowFault.TheVariants as fault
use Rattle.tilt_operators.specs.declared.operands.Operands.{Operands}
use Rattle.tilt_operators.specs.declared.operands.Operands.TheVariants.{Value, Both}
use Rattle.tilt_operators.proofs.Reading.{bad-join, bad-window, found-none, found-step, is-window, last_same, no-name, no-reducer, no-select, no-shift, no-where, no-width}
use Rattle.tilt_operators.proofs.Reading.{no-word, no_emit, no_over, no_stretch, not-ended, others-none}
use Rattle.tilt_operators.proofs.Spans.{closed_by, ended_by, has_whole, inside_is, inside_last, last_inside, minus_bound, no_bound, no_number, one_has, opened, parted, plain_bound, started, whole_has}
use Rattle.tilt_operators.proofs.Unique.{key_or_none}

-- what tokens begin with

number_or_none : (us : List Tok) → ((n : ℤ) × (vs : List Tok) × (us ≡ Number n ∷ vs)) ⊎ ((n : ℤ) (vs : List Tok) → us ≢ Number n ∷ vs)
number_or_none [] = inr (λ n vs e. cc)
number_or_none (Number n ∷ vs) = inl (n, vs, refl)
number_or_none (Word x ∷ vs) = inr (λ n ws e. cc)
number_or_none (Reserved k ∷ vs) = inr (λ n ws e. cc)
number_or_none (Sign m ∷ vs) = inr (λ n ws e. cc)

word_or_none : (us : List Tok) → ((x : List ℕ) × (vs : List Tok) × (us ≡ Word x ∷ vs)) ⊎ ((x : List ℕ) (vs : List Tok) → us ≢ Word x ∷ vs)
word_or_none [] = inr (λ x vs e. cc)
word_or_none (Word x ∷ vs) = inl (x, vs, refl)
word_or_none (Number n ∷ vs) = inr (λ x ws e. cc)
word_or_none (Reserved k ∷ vs) = inr (λ x ws e. cc)
word_or_none (Sign m ∷ vs) = inr (λ x ws e. cc)

reducer_or_none : (us : List Tok)
    → ((r : Reducer) × (vs : List Tok) × (us ≡ Reserved (key.Reducer r) ∷ vs)) ⊎ ((r : Reducer) (vs : List Tok) → us ≢ Reserved (key.Reducer r) ∷ vs)
reducer_or_none [] = inr (λ r vs e. cc)
reducer_or_none (Reserved k ∷ vs) =
    elim (key_or_none k) [
      | inl is ↦ inl (is.0, vs, ap (λ (j : Key). Reserved j ∷ vs) (sym is.1))
      | inr none ↦ inr (λ r ws e. (let same : key.Reducer r ≡ k = cc in none r same))
    ]
reducer_or_none (Number n ∷ vs) = inr (λ r ws e. cc)
reducer_or_none (Word x ∷ vs) = inr (λ r ws e. cc)
reducer_or_none (Sign m ∷ vs) = inr (λ r ws e. cc)

-- what they end with
not_ended_more : (t u : Tok) (us inside : List Tok) → ((inside : List Tok) → u ∷ us ≢ inside ++ Sign mark.Semicolon ∷ [])
    → t ∷ u ∷ us ≡ inside ++ Sign mark.Semicolon ∷ [] → ⊥
not_ended_more t u us [] none e = absurd (omega (arith, ap length e))
not_ended_more t u us (x ∷ inside) none e = let tails : u ∷ us ≡ inside ++ Sign mark.Semicolon ∷ [] = cc in none inside tails

ended_or_none : (us : List Tok)
    → ((inside : List Tok) × (us ≡ inside ++ Sign mark.Semicolon ∷ [])) ⊎ ((inside : List Tok) → us ≢ inside ++ Sign mark.Semicolon ∷ [])
ended_or_none [] = inr (λ inside e. absurd (omega (arith, ap length e, length-append inside (Sign mark.Semicolon ∷ []))))
ended_or_none (t ∷ []) =
    elim (tokens_same t (Sign mark.Semicolon)) [
      | inl same ↦ inl ([], ap (λ (u : Tok). u ∷ []) same)
      | inr other ↦ inr (λ inside e. other (last_same [] inside t (Sign mark.Semicolon) e))
    ]
ended_or_none (t ∷ u ∷ us) =
    elim (ended_or_none (u ∷ us)) [
      | inl is ↦ inl (t ∷ is.0, ap (λ (vs : List Tok). t ∷ vs) is.1)
      | inr none ↦ inr (λ inside e. not_ended_more t u us inside none e)
    ]

-- bounds and spans
bound_or_none : (ts : List Tok) → ((n : ℤ) × (rest : List Tok) × HasBound ts n rest) ⊎ ((n : ℤ) (rest : List Tok) → HasBound ts n rest → ⊥)
bound_or_none ts =
    elim (begins_or_not (Sign mark.Minus) ts) [
      | inl minus ↦ elim (number_or_none minus.0) [
        | inl is ↦ inl (_, is.1, minus_bound ts minus.0 is.1 is.0 minus.1 is.2)
        | inr none ↦ inr (no_number ts minus.0 minus.1 none)
      ]
      | inr no_minus ↦ elim (number_or_none ts) [
        | inl is ↦ inl (is.0, is.1, plain_bound ts is.1 is.0 is.2)
        | inr none ↦ inr (no_bound ts no_minus none)
      ]
    ]

empty_or_not : (ts : List Tok) → (ts ≡ []) ⊎ (ts ≢ [])
empty_or_not [] = inl refl
empty_or_not (t ∷ ts) = inr (λ e. cc)

whole_or_none : (ts : List Tok) → ((n : ℤ) × IsBound ts n) ⊎ ((n : ℤ) → IsBound ts n → ⊥)
whole_or_none ts =
    elim (bound_or_none ts) [
      | inl is ↦ elim (empty_or_not is.1) [
        | inl none ↦ inl (is.0, has_whole ts is.1 is.0 is.2 none)
        | inr some ↦ inr (λ n h. some (one_has ts is.0 n is.1 [] is.2 (whole_has ts n h)).1)
      ]
      | inr none ↦ inr (λ n h. none n [] (whole_has ts n h))
    ]

-- the tokens are a whole span, or none
module _ (ts us : List Tok) (open_at : ts ≡ Sign mark.OpenParen ∷ us) where
  abbrev IsSpanOrNone : Type 0
  IsSpanOrNone = ((span : Span) × IsInside ts span) ⊎ ((span : Span) → IsInside ts span → ⊥)

  module _ (n : ℤ) (left : List Tok) (start : HasBound us n left) (vs : List Tok) (comma : left ≡ Sign mark.Comma ∷ vs) where
    by_end : ((m : ℤ) × (right : List Tok) × HasBound vs m right) ⊎ ((m : ℤ) (rest : List Tok) → HasBound vs m rest → ⊥) → IsSpanOrNone
    by_end (inr none) = inr (λ span h. none span.end _ (parted us left vs n span start comma (opened ts us span open_at h)))
    by_end (inl end) =
        elim (begins_or_not (Sign mark.CloseBracket) end.1) [
          | inr none ↦ inr (λ span h. none (Sign mark.Semicolon ∷ []) (ended_by us left vs end.1 n end.0 span start comma end.2 (opened ts us span open_at h)))
          | inl close ↦ elim (begins_or_not (Sign mark.Semicolon) close.0) [
            | inr none ↦ inr (λ span h. none [] (closed_by us left vs end.1 close.0 n end.0 span start comma end.2 close.1 (opened ts us span open_at h)))
            | inl semicolon ↦ elim (empty_or_not semicolon.0) [
              | inl all ↦ inl (
                record { start = n; end = end.0 },
                inside_is ts us left vs end.1 close.0 n end.0 open_at start comma end.2 close.1 (semicolon.1 ∙ ap (λ (ws : List Tok). Sign mark.Semicolon ∷ ws) all),
              )
              | inr some ↦ inr (λ span h. (
                  let same : close.0 ≡ Sign mark.Semicolon ∷ [] = closed_by us left vs end.1 close.0 n end.0 span start comma end.2 close.1 (opened ts us span open_at h) in
                  let both : Sign mark.Semicolon ∷ semicolon.0 ≡ Sign mark.Semicolon ∷ [] = sym semicolon.1 ∙ same in
                  let none : semicolon.0 ≡ [] = cc in
                  some none))
            ]
          ]
        ]

  by_start : ((n : ℤ) × (left : List Tok) × HasBound us n left) ⊎ ((n : ℤ) (rest : List Tok) → HasBound us n rest → ⊥) → IsSpanOrNone
  by_start (inr none) = inr (λ span h. none span.start _ (opened ts us span open_at h).start)
  by_start (inl start) =
      elim (begins_or_not (Sign mark.Comma) start.1) [
        | inr none ↦ inr (λ span h. none _ (started us start.1 start.0 span start.2 (opened ts us span open_at h)))
        | inl comma ↦ by_end start.0 start.1 start.2 comma.0 comma.1 (bound_or_none comma.0)
      ]

inside_or_none : (ts : List Tok) → ((span : Span) × IsInside ts span) ⊎ ((span : Span) → IsInside ts span → ⊥)
inside_or_none ts =
    elim (begins_or_not (Sign mark.OpenParen) ts) [
      | inr none ↦ inr (λ span h. none h.opened h.begins)
      | inl is ↦ by_start ts is.0 is.1 (bound_or_none is.0)
    ]

-- the first step
first_or_none : (ts : List Tok) → ((name : List ℕ) × IsFirst ts name) ⊎ ((name : List ℕ) → IsFirst ts name → ⊥)
first_or_none ts =
    elim (begins_or_not (Reserved key.From) ts) [
      | inr none ↦ inr (λ name h. none (Word name ∷ Sign mark.Semicolon ∷ []) h.0)
      | inl from ↦ elim (word_or_none from.0) [
        | inr none ↦ inr (λ name h. (
            let same : Reserved key.From ∷ from.0 ≡ Reserved key.From ∷ Word name ∷ Sign mark.Semicolon ∷ [] = sym from.1 ∙ h.0 in
            let tails : from.0 ≡ Word name ∷ Sign mark.Semicolon ∷ [] = cc in
            none name (Sign mark.Semicolon ∷ []) tails))
        | inl word ↦ by_rest from.0 word.0 word.1 from.1 word.2 (tokens_end word.1) (cases_Bool (is_kept_back word.0))
      ]
    ]
  where
    tokens_end : (us : List Tok) → (us ≡ Sign mark.Semicolon ∷ []) ⊎ (us ≢ Sign mark.Semicolon ∷ [])
    tokens_end [] = inr (λ e. cc)
    tokens_end (t ∷ []) =
        elim (tokens_same t (Sign mark.Semicolon)) [ inl same ↦ inl (ap (λ (u : Tok). u ∷ []) same) | inr other ↦ inr (λ e. (let same : t ≡ Sign mark.Semicolon = cc in other same)) ]
    tokens_end (t ∷ u ∷ us) = inr (λ e. absurd (omega (arith, ap length e)))

    by_rest : (us : List Tok) (x : List ℕ) (vs : List Tok) → ts ≡ Reserved key.From ∷ us → us ≡ Word x ∷ vs
        → (vs ≡ Sign mark.Semicolon ∷ []) ⊎ (vs ≢ Sign mark.Semicolon ∷ []) → (is_kept_back x ≡ true) ⊎ (is_kept_back x ≡ false)
        → ((name : List ℕ) × IsFirst ts name) ⊎ ((name : List ℕ) → IsFirst ts name → ⊥)
    by_rest us x vs from word (inr none) kept = inr (λ name h. (
        let same : Reserved key.From ∷ us ≡ Reserved key.From ∷ Word name ∷ Sign mark.Semicolon ∷ [] = sym from ∙ h.0 in
        let tails : us ≡ Word name ∷ Sign mark.Semicolon ∷ [] = cc in
        let both : Word x ∷ vs ≡ Word name ∷ Sign mark.Semicolon ∷ [] = sym word ∙ tails in
        let ends : vs ≡ Sign mark.Semicolon ∷ [] = cc in
        none ends))
    by_rest us x vs from word (inl end) (inl kept) = inr (λ name h. (
        let same : Reserved key.From ∷ us ≡ Reserved key.From ∷ Word name ∷ Sign mark.Semicolon ∷ [] = sym from ∙ h.0 in
        let tails : us ≡ Word name ∷ Sign mark.Semicolon ∷ [] = cc in
        let both : Word x ∷ vs ≡ Word name ∷ Sign mark.Semicolon ∷ [] = sym word ∙ tails in
        let names : x ≡ name = cc in
        false≢true (sym h.1 ∙ ap is_kept_back (sym names) ∙ kept)))
    by_rest us x vs from word (inl end) (inr free) =
        inl (x, (from ∙ ap (λ (ws : List Tok). Reserved key.From ∷ ws) (word ∙ ap (λ (ws : List Tok). Word x ∷ ws) end), free))

-- the last
last_or_none : (ts : List Tok) → ((domain : Span) × IsLast ts domain) ⊎ ((domain : Span) → IsLast ts domain → ⊥)
last_or_none ts =
    elim (begins_or_not (Reserved key.Emit) ts) [
      | inr none ↦ inr (no_emit ts none)
      | inl emit ↦ elim (begins_or_not (Reserved key.Over) emit.0) [
        | inr none ↦ inr (no_over ts emit.0 emit.1 none)
        | inl over ↦ elim (inside_or_none over.0) [
          | inr none ↦ inr (λ domain h. none domain (last_inside ts emit.0 over.0 domain emit.1 over.1 h))
          | inl span ↦ elim (cases_Bool (is_stretch (Some span.0))) [
            | inl stretch ↦ inl (span.0, inside_last ts emit.0 over.0 span.0 emit.1 over.1 span.1 stretch)
            | inr none ↦ inr (no_stretch ts emit.0 over.0 span.0 emit.1 over.1 span.1 none)
          ]
        ]
      ]
    ]

-- expressions of steps
over_or_none : (operands : Operands) (ts : List Tok) → ((e : ExprTree) × IsExprOver operands ts e) ⊎ ((e : ExprTree) → IsExprOver operands ts e → ⊥)
over_or_none operands ts =
    elim (expr_or_none ts) [
      | inr none ↦ inr (λ e h. none e h.parsed)
      | inl is ↦ elim (cases_Bool (is_over operands is.0)) [
        | inl over ↦ inl (is.0, record { parsed = is.1; over = over })
        | inr other ↦ inr (λ e h. false≢true (sym other ∙ ap (is_over operands) (one_expr ts is.0 e is.1 h.parsed) ∙ h.over))
      ]
    ]

-- what follows each word
module _ (ts : List Tok) where
  abbrev OfWord : List ℕ → Type 0
  OfWord word = ((s : StepTree) × IsStepOf word ts s) ⊎ ((s : StepTree) → IsStepOf word ts s → ⊥)

  select_or_none : OfWord (codes "select")
  select_or_none = elim (over_or_none Value ts) [ inl is ↦ inl (Select is.0, (refl, is.1)) | inr none ↦ inr (no-select ts none) ]

  where_or_none : OfWord (codes "where")
  where_or_none = elim (over_or_none Value ts) [ inl is ↦ inl (Keep is.0, (refl, is.1)) | inr none ↦ inr (no-where ts none) ]

  shift_or_none : OfWord (codes "shift")
  shift_or_none = elim (whole_or_none ts) [ inl is ↦ inl (Shift is.0, (refl, is.1)) | inr none ↦ inr (no-shift ts none) ]

  wide_or_not : (n : ℤ) → (pos 1 ≤ℤ n) ⊎ ((pos 1 ≤ℤ n) → ⊥)
  wide_or_not n =
      elim (cases_Bool (int_le (pos 1) n)) [
        | inl wide ↦ inl (le_true (pos 1) n wide)
        | inr narrow ↦ inr (λ h. false≢true (sym narrow ∙ true_le (pos 1) n h))
      ]

  window_or_none : OfWord (codes "window")
  window_or_none =
      elim (reducer_or_none ts) [
        | inr none ↦ inr (no-reducer ts none)
        | inl r ↦ elim (number_or_none r.1) [
          | inr none ↦ inr (no-width ts r.0 r.1 r.2 none)
          | inl n ↦ elim (empty_or_not n.1) [
            | inr more ↦ inr (bad-window ts r.0 r.1 n.1 n.0 r.2 n.2 (λ none numbers wide. more none))
            | inl none ↦ elim (cases_Bool (is_of_numbers r.0)) [
              | inr others ↦ inr (bad-window ts r.0 r.1 n.1 n.0 r.2 n.2 (λ none numbers wide. false≢true (sym others ∙ numbers)))
              | inl numbers ↦ elim (wide_or_not n.0) [
                | inr narrow ↦ inr (bad-window ts r.0 r.1 n.1 n.0 r.2 n.2 (λ none numbers wide. narrow wide))
                | inl wide ↦ inl (Window r.0 n.0, is-window ts r.0 r.1 n.1 n.0 r.2 n.2 none numbers wide)
              ]
            ]
          ]
        ]
      ]

  join_or_none : OfWord (codes "join")
  join_or_none =
      elim (word_or_none ts) [
        | inr none ↦ inr (no-name ts none)
        | inl x ↦ elim (cases_Bool (is_kept_back x.0)) [
          | inl kept ↦ inr (bad-join ts x.0 x.1 x.2 (λ e free over. false≢true (sym free ∙ kept)))
          | inr free ↦ elim (over_or_none Both x.1) [
            | inr none ↦ inr (bad-join ts x.0 x.1 x.2 (λ e _ over. none e over))
            | inl is ↦ inl (Join x.0 is.0, (refl, x.1, x.2, free, is.1))
          ]
        ]
      ]

  turned : (word text : List ℕ) → word ≡ text → OfWord text → OfWord word
  turned word text is h = subst OfWord (sym is) h

  of_word : (word : List ℕ) → OfWord word
  of_word word =
      elim (names_same word (codes "select")) [
        | inl is ↦ turned word (codes "select") is select_or_none
        | inr a ↦ elim (names_same word (codes "where")) [
          | inl is ↦ turned word (codes "where") is where_or_none
          | inr b ↦ elim (names_same word (codes "shift")) [
            | inl is ↦ turned word (codes "shift") is shift_or_none
            | inr c ↦ elim (names_same word (codes "window")) [
              | inl is ↦ turned word (codes "window") is window_or_none
              | inr d ↦ elim (names_same word (codes "join")) [
                | inl is ↦ turned word (codes "join") is join_or_none
                | inr e ↦ inr (others-none ts word a b c d e)
              ]
            ]
          ]
        ]
      ]

-- a step between
step_or_none : (ts : List Tok) → ((s : StepTree) × IsStep ts s) ⊎ ((s : StepTree) → IsStep ts s → ⊥)
step_or_none ts =
    elim (word_or_none ts) [
      | inr none ↦ inr (no-word none)
      | inl x ↦ elim (ended_or_none x.1) [
        | inr none ↦ inr (not-ended x.2 none)
        | inl end ↦ elim (of_word end.0 x.0) [
          | inl is ↦ inl (is.0, found-step ts x.1 end.0 x.0 is.0 x.2 end.1 is.1)
          | inr none ↦ inr (found-none ts x.1 end.0 x.0 x.2 end.1 none)
        ]
      ]
    ]

-- all steps

fit_or_not : (n : ℕ) (ts : List Tok) → IsFit n ts ⊎ (IsFit n ts → ⊥)
fit_or_not n ts =
    elim (cases_lt 100 n) [
      | inl far ↦ inr (λ h. (let place = h.place in absurd (omega arith)))
      | inr place ↦ elim (cases_lt 200 (length ts)) [
        | inl long ↦ inr (λ h. (let short = h.short in absurd (omega arith)))
        | inr short ↦ inl (record { place = place; short = short })
      ]
    ]

abbrev AllOrBad : ℕ → List (List Tok) → Type 0
AllOrBad n ss = ((steps : List StepTree) × (domain : Span) × AreSteps n ss steps domain) ⊎ ((bad : ℕ) × IsBadStep n ss bad)

after_step : (n : ℕ) (ts next : List Tok) (rest : List (List Tok)) (s : StepTree) → IsFit n ts → IsStep ts s → AllOrBad (n + 1) (next ∷ rest)
    → AllOrBad n (ts ∷ next ∷ rest)
after_step n ts next rest s fit is (inl more) = inl (s ∷ more.0, more.1, (fit, is, more.2))
after_step n ts next rest s fit is (inr bad) = inr (bad.0, later s fit is bad.1)

all_or_bad : (n : ℕ) (ts : List Tok) (rest : List (List Tok)) → AllOrBad n (ts ∷ rest)
all_or_bad n ts [] =
    elim (fit_or_not n ts) [
      | inr none ↦ inr (n, last (λ domain fit is. none fit))
      | inl fit ↦ elim (last_or_none ts) [
        | inl is ↦ inl ([], is.0, (fit, is.1))
        | inr none ↦ inr (n, last (λ domain _ is. none domain is))
      ]
    ]
all_or_bad n ts (next ∷ rest) =
    elim (fit_or_not n ts) [
      | inr none ↦ inr (n, between (λ s fit is. none fit))
      | inl fit ↦ elim (step_or_none ts) [
        | inl is ↦ after_step n ts next rest is.0 fit is.1 (all_or_bad (n + 1) next rest)
        | inr none ↦ inr (n, between (λ s _ is. none s is))
      ]
    ]

abbrev FlowOrBad : List (List Tok) → Type 0
FlowOrBad ss = ((flow : FlowTree) × AreFlow ss flow) ⊎ ((bad : ℕ) × HasBadStep ss bad)

after_first : (ts next : List Tok) (rest : List (List Tok)) (name : List ℕ) → IsFit 1 ts → IsFirst ts name → AllOrBad 2 (next ∷ rest)
    → FlowOrBad (ts ∷ next ∷ rest)
after_first ts next rest name fit is (inl more) = inl (record { first = name; steps = more.0; domain = more.1 }, (fit, is, more.2))
after_first ts next rest name fit is (inr bad) = inr (bad.0, behind name fit is bad.1)

flow_or_bad : (ss : List (List Tok)) → FlowOrBad ss
flow_or_bad [] = inr (1, no_steps)
flow_or_bad (ts ∷ []) = inr (1, alone)
flow_or_bad (ts ∷ next ∷ rest) =
    elim (fit_or_not 1 ts) [
      | inr none ↦ inr (1, first (λ name fit is. none fit))
      | inl fit ↦ elim (first_or_none ts) [
        | inl is ↦ after_first ts next rest is.0 fit is.1 (all_or_bad 2 next rest)
        | inr none ↦ inr (1, first (λ name _ is. none name is))
      ]
    ]

-- tokens are a pipeline or are rejected; `Unique` proves that they are not both

typed_or_not : (ts : List Tok) (flow : FlowTree) → AreFlow (statements ts) flow → (found : Option ℕ) → first_untyped 2 flow.steps ≡ found
    → ((flow : FlowTree) × IsFlowOf ts flow) ⊎ ((f : FlowFault) × IsRefused ts f)
typed_or_not ts flow are None is = inl (flow, record { steps = are; typed = is })
typed_or_not ts flow are (Some n) is = inr (fault.StepType n, step_type flow are is)

pub tokens_judged : (ts : List Tok) → ((flow : FlowTree) × IsFlowOf ts flow) ⊎ ((f : FlowFault) × IsRefused ts f)
tokens_judged ts =
    elim (flow_or_bad (statements ts)) [
      | inl is ↦ typed_or_not ts is.0 is.1 (first_untyped 2 is.0.steps) refl
      | inr bad ↦ inr (fault.BadStep bad.0, bad_step bad.1)
    ]
