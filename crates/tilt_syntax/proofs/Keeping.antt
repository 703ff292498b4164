-- What the loop over a text keeps: the tokens so far that are kept are those that are kept of all so far.
use Rattle.std.proofs.Common.{◌≡◌, ◌≢◌, ℕ, zero, suc, ◌-◌, ◌<◌, ◌≤◌, List, [], ◌∷◌, ◌++◌, length, drop, refl, sym, ap, ◌∙◌, subst, arith, append_assoc, append-nil, length-drop}
use Rattle.std.proofs.lemmas.List.{map-append}
use Rattle.tilt_lexer.specs.Next.{IsNext}
use Rattle.tilt_lexer.specs.Tokens.{AreTokens, IsFaultyAt}
use Rattle.tilt_lexer.specs.declared.fault.LexFault.{LexFault}
use Rattle.tilt_lexer.specs.declared.mark.Mark.TheVariants as mark
use Rattle.tilt_lexer.specs.declared.token.Tok.{Tok}
use Rattle.tilt_lexer.specs.declared.token.Tok.TheVariants.{Mark as Sign}
use Rattle.tilt_lexer.specs.declared.token.Token.{Token}
use Rattle.tilt_lexer.proofs.Next.{next_tokens, next_faults, next_ahead}
use Rattle.tilt_syntax.specs.Query.{kinds}
use Rattle.tilt_syntax.specs.Trimmed.{trimmed, with_kept}
use Rattle.tilt_syntax.specs.declared.kept.Kept.{Kept}
use Rattle.tilt_syntax.proofs.Trimming.{token_kept}

kinds_pushed : (ts : List Token) (t : Token) (more : List Tok) → kinds (ts ++ t ∷ []) ++ more ≡ kinds ts ++ (t.kind ∷ more)
kinds_pushed ts t more = rw (map-append (λ (u : Token). u.kind) ts (t ∷ []), append_assoc) refl

-- a token that is kept, and no `;`
pub keep_one : (n room : ℕ) (kept new : List Token) (t : Token) → 0 < n → 0 < room → t.kind ≢ Sign mark.Semicolon → new ≡ kept ++ t ∷ []
    → (more : List Tok) → kinds kept ++ trimmed n room (t.kind ∷ more) ≡ kinds new ++ trimmed n (room - 1) more
keep_one zero room kept new t some left other pushed more = absurd (omega arith)
keep_one (suc n) zero kept new t some left other pushed more = absurd (omega arith)
keep_one (suc n) (suc room) kept new t some left other pushed more =
    let less : suc room - 1 ≡ room = omega arith in
    rw (less, token_kept n room t.kind more other, pushed) (sym (kinds_pushed kept t (trimmed (suc n) room more)))

pub nothing_more : (n room : ℕ) → trimmed n room [] ≡ []
nothing_more zero room = refl
nothing_more (suc n) room = refl

pub record KeptBefore (bytes : List ℕ) (at : ℕ) (kept : Kept) : Type 0 where
  pub within : at ≤ length bytes
  pub seen : List Token
  pub go_on : (more : List Token) → AreTokens at (drop at bytes) more → AreTokens 0 bytes (seen ++ more)
  pub trims : (more : List Tok) → trimmed 257 257 (kinds seen ++ more) ≡ with_kept kept more
  pub faults : (f : LexFault) → IsFaultyAt at (drop at bytes) f → IsFaultyAt 0 bytes f

module _ (bytes : List ℕ) where
  pub kept_none : (kept : Kept) → ((more : List Tok) → with_kept kept more ≡ trimmed 257 257 more) → KeptBefore bytes 0 kept
  kept_none kept none = record {
    within = omega arith;
    seen = [];
    go_on = λ more are. are;
    trims = λ more. sym (none more);
    faults = λ f faulty. faulty;
  }

  pub kept_more : (at : ℕ) (kept new : Kept) (t : Token) → KeptBefore bytes at kept → IsNext at (drop at bytes) t (drop t.end bytes)
      → ((more : List Tok) → with_kept kept (t.kind ∷ more) ≡ with_kept new more) → KeptBefore bytes t.end new
  kept_more at kept new t before next added =
      let ahead = next_ahead next in
      record {
        within = omega (arith, before.within, ahead.left, ahead.some, length-drop at bytes, length-drop t.end bytes);
        seen = before.seen ++ t ∷ [];
        go_on = λ more are.
            subst (AreTokens 0 bytes) (sym (append_assoc before.seen (t ∷ []) more)) (before.go_on (t ∷ more) (next_tokens next more are));
        trims = λ more. ap (trimmed 257 257) (kinds_pushed before.seen t more) ∙ before.trims (t.kind ∷ more) ∙ added more;
        faults = λ f faulty. before.faults f (next_faults next f faulty);
      }

  -- at the end
  pub kept_all : (at : ℕ) (kept : Kept) → KeptBefore bytes at kept → AreTokens at (drop at bytes) []
      → (tokens : List Token) × AreTokens 0 bytes tokens × (kinds kept.tokens.items ≡ trimmed 257 257 (kinds tokens))
  kept_all at kept before none = (
    before.seen,
    subst (AreTokens 0 bytes) (append-nil before.seen) (before.go_on [] none),
    sym (sym (ap (trimmed 257 257) (append-nil (kinds before.seen))) ∙ before.trims []
        ∙ ap (λ (l : List Tok). kinds kept.tokens.items ++ l) (nothing_more kept.statements kept.room) ∙ append-nil (kinds kept.tokens.items)),
  )

  pub falls : (at : ℕ) (t : Token) → at ≤ length bytes → IsNext at (drop at bytes) t (drop t.end bytes) → length bytes - t.end < length bytes - at
  falls at t within next =
      let ahead = next_ahead next in
      omega (arith, within, ahead.left, ahead.some, length-drop at bytes, length-drop t.end bytes)
