-- The first step, the last and bounds, as they are read from left to right.
use Rattle.std.proofs.Common.{◌≡◌, ◌≢◌, ℤ, neg_ℤ, true, List, [], ◌∷◌, ◌++◌, Some, refl, sym, ap, ◌∙◌, subst, append-nil, append_assoc}
use Rattle.tilt_base.specs.declared.span.Span.{Span}
use Rattle.tilt_lexer.specs.declared.key.Key.TheVariants as key
use Rattle.tilt_lexer.specs.declared.mark.Mark.TheVariants as mark
use Rattle.tilt_lexer.specs.declared.token.Tok.{Tok}
use Rattle.tilt_lexer.specs.declared.token.Tok.TheVariants.{Number, Key as Reserved, Mark as Sign}
use Rattle.tilt_syntax.specs.Grammar.{IsBound, from_zero, below_zero, IsSpan, over}
use Rattle.tilt_types.specs.WellFormed.{is_stretch}
use Rattle.tilt_operators.specs.Parts.{HasBound, IsInside}
use Rattle.tilt_operators.specs.Steps.{IsLast}
use Rattle.tilt_operators.proofs.Unique.{bound-front}

abbrev end_of : List Tok
end_of = Sign mark.CloseBracket ∷ Sign mark.Semicolon ∷ []

-- tokens begin with one bound at most
pub one_has : (ts : List Tok) (m n : ℤ) (r q : List Tok) → HasBound ts m r → HasBound ts n q → (m ≡ n) × (r ≡ q)
one_has ts m n r q g h = bound-front r q g.is h.is (sym g.whole ∙ h.whole)

-- and with none where they begin otherwise
pub no_bound : (ts : List Tok) → ((us : List Tok) → ts ≢ Sign mark.Minus ∷ us) → ((n : ℤ) (us : List Tok) → ts ≢ Number n ∷ us)
    → (n : ℤ) (rest : List Tok) → HasBound ts n rest → ⊥
no_bound ts minus number n rest h = by h.is h.whole
  where
    by : {front : List Tok} {k : ℤ} → IsBound front k → ts ≡ front ++ rest → ⊥
    by (from_zero {n = m}) is = number m rest is
    by (below_zero {n = m}) is = minus (Number m ∷ rest) is

pub no_number : (ts us : List Tok) → ts ≡ Sign mark.Minus ∷ us → ((n : ℤ) (vs : List Tok) → us ≢ Number n ∷ vs)
    → (n : ℤ) (rest : List Tok) → HasBound ts n rest → ⊥
no_number ts us minus number n rest h = by h.is h.whole
  where
    by : {front : List Tok} {k : ℤ} → IsBound front k → ts ≡ front ++ rest → ⊥
    by (from_zero {n = m}) is = absurd (cc (sym minus ∙ is))
    by (below_zero {n = m}) is = number m rest (cc (sym minus ∙ is))

pub plain_bound : (ts us : List Tok) (n : ℤ) → ts ≡ Number n ∷ us → HasBound ts n us
plain_bound ts us n is = record { front = Number n ∷ []; is = from_zero; whole = is }

pub minus_bound : (ts us vs : List Tok) (n : ℤ) → ts ≡ Sign mark.Minus ∷ us → us ≡ Number n ∷ vs → HasBound ts (neg_ℤ n) vs
minus_bound ts us vs n minus is = record { front = Sign mark.Minus ∷ Number n ∷ []; is = below_zero; whole = cc }

-- a bound alone
pub whole_has : (ts : List Tok) (n : ℤ) → IsBound ts n → HasBound ts n []
whole_has ts n is = record { front = ts; is = is; whole = sym (append-nil ts) }

pub has_whole : (ts rest : List Tok) (n : ℤ) → HasBound ts n rest → rest ≡ [] → IsBound ts n
has_whole ts rest n h none = subst (λ (us : List Tok). IsBound us n) (sym (h.whole ∙ ap (λ (us : List Tok). h.front ++ us) none ∙ append-nil h.front)) h.is

-- what follows the opened parenthesis
pub record IsOpened (us : List Tok) (span : Span) : Type 0 where
  pub between : List Tok
  pub start : HasBound us span.start (Sign mark.Comma ∷ between)
  pub end : HasBound between span.end end_of

pub opened : (ts us : List Tok) (span : Span) → ts ≡ Sign mark.OpenParen ∷ us → IsInside ts span → IsOpened us span
opened ts us span at is =
    let same : is.opened ≡ us = cc (sym is.begins ∙ at) in
    record { between = is.between; start = subst (λ (vs : List Tok). HasBound vs span.start (Sign mark.Comma ∷ is.between)) same is.start; end = is.end }

pub started : (us left : List Tok) (n : ℤ) (span : Span) → HasBound us n left → (is : IsOpened us span) → left ≡ Sign mark.Comma ∷ is.between
started us left n span h is = (one_has us n span.start left (Sign mark.Comma ∷ is.between) h is.start).1

pub parted : (us left vs : List Tok) (n : ℤ) (span : Span) → HasBound us n left → left ≡ Sign mark.Comma ∷ vs → IsOpened us span
    → HasBound vs span.end end_of
parted us left vs n span h at is =
    let same : is.between ≡ vs = cc (sym (started us left n span h is) ∙ at) in
    subst (λ (ws : List Tok). HasBound ws span.end end_of) same is.end

pub ended_by : (us left vs right : List Tok) (n m : ℤ) (span : Span) → HasBound us n left → left ≡ Sign mark.Comma ∷ vs → HasBound vs m right
    → IsOpened us span → right ≡ end_of
ended_by us left vs right n m span h at g is = (one_has vs m span.end right end_of g (parted us left vs n span h at is)).1

pub closed_by : (us left vs right ws : List Tok) (n m : ℤ) (span : Span) → HasBound us n left → left ≡ Sign mark.Comma ∷ vs → HasBound vs m right
    → right ≡ Sign mark.CloseBracket ∷ ws → IsOpened us span → ws ≡ Sign mark.Semicolon ∷ []
closed_by us left vs right ws n m span h at g close is =
    let end = ended_by us left vs right n m span h at g is in
    cc (sym close ∙ end)

pub inside_is : (ts us left vs right ws : List Tok) (n m : ℤ) → ts ≡ Sign mark.OpenParen ∷ us → HasBound us n left → left ≡ Sign mark.Comma ∷ vs
    → HasBound vs m right → right ≡ Sign mark.CloseBracket ∷ ws → ws ≡ Sign mark.Semicolon ∷ [] → IsInside ts (record { start = n; end = m })
inside_is ts us left vs right ws n m begins h at g close end = record {
  opened = us;
  between = vs;
  begins = begins;
  start = subst (λ (r : List Tok). HasBound us n r) at h;
  end = subst (λ (r : List Tok). HasBound vs m r) (close ∙ ap (λ (r : List Tok). Sign mark.CloseBracket ∷ r) end) g;
}

-- the last step: `emit over`, and what follows
pub last_inside : (ts us vs : List Tok) (domain : Span) → ts ≡ Reserved key.Emit ∷ us → us ≡ Reserved key.Over ∷ vs → IsLast ts domain → IsInside vs domain
last_inside ts us vs domain emit at is = by is.2 is.1
  where
    by : {inside : List Tok} → IsSpan inside domain → ts ≡ Reserved key.Emit ∷ (inside ++ Sign mark.Semicolon ∷ []) → IsInside vs domain
    by (over {ts = a} {us = b} {s = s} {e = e} hs he) whole =
        let all : vs ≡ Sign mark.OpenParen ∷ ((a ++ Sign mark.Comma ∷ (b ++ Sign mark.CloseBracket ∷ [])) ++ Sign mark.Semicolon ∷ []) =
        cc (sym at, sym emit, whole) in
        record {
          opened = a ++ Sign mark.Comma ∷ ((b ++ Sign mark.CloseBracket ∷ []) ++ Sign mark.Semicolon ∷ []);
          between = b ++ end_of;
          begins = all ∙ ap (λ (r : List Tok). Sign mark.OpenParen ∷ r) (append_assoc a (Sign mark.Comma ∷ (b ++ Sign mark.CloseBracket ∷ [])) (Sign mark.Semicolon ∷ []));
          start = record { front = a; is = hs; whole = ap (λ (r : List Tok). a ++ Sign mark.Comma ∷ r) (append_assoc b (Sign mark.CloseBracket ∷ []) (Sign mark.Semicolon ∷ [])) };
          end = record { front = b; is = he; whole = refl };
        }

pub inside_last : (ts us vs : List Tok) (domain : Span) → ts ≡ Reserved key.Emit ∷ us → us ≡ Reserved key.Over ∷ vs → IsInside vs domain
    → is_stretch (Some domain) ≡ true → IsLast ts domain
inside_last ts us vs domain emit at h stretch =
    let a = h.start.front in
    let b = h.end.front in
    let inner = Reserved key.Over ∷ Sign mark.OpenParen ∷ (a ++ Sign mark.Comma ∷ (b ++ Sign mark.CloseBracket ∷ [])) in
    let between : h.between ≡ (b ++ Sign mark.CloseBracket ∷ []) ++ Sign mark.Semicolon ∷ [] =
    h.end.whole ∙ sym (append_assoc b (Sign mark.CloseBracket ∷ []) (Sign mark.Semicolon ∷ [])) in
    let opened : h.opened ≡ (a ++ Sign mark.Comma ∷ (b ++ Sign mark.CloseBracket ∷ [])) ++ Sign mark.Semicolon ∷ [] =
    h.start.whole ∙ ap (λ (r : List Tok). a ++ Sign mark.Comma ∷ r) between
    ∙ sym (append_assoc a (Sign mark.Comma ∷ (b ++ Sign mark.CloseBracket ∷ [])) (Sign mark.Semicolon ∷ [])) in (
      inner,
      emit ∙ ap (λ (r : List Tok). Reserved key.Emit ∷ r) (at ∙ ap (λ (r : List Tok). Reserved key.Over ∷ r) (h.begins ∙ ap (λ (r : List Tok). Sign mark.OpenParen ∷ r) opened)),
      over h.start.is h.end.is,
      stretch,
    )

-- it begins so
pub last_emits : (ts : List Tok) (domain : Span) → IsLast ts domain → (us : List Tok) × (ts ≡ Reserved key.Emit ∷ Reserved key.Over ∷ us)
last_emits ts domain is = by is.2 is.1
  where
    by : {inside : List Tok} → IsSpan inside domain → ts ≡ Reserved key.Emit ∷ (inside ++ Sign mark.Semicolon ∷ [])
        → (us : List Tok) × (ts ≡ Reserved key.Emit ∷ Reserved key.Over ∷ us)
    by (over {ts = a} {us = b} hs he) whole = (_, whole)
