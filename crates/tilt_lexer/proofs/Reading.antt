-- What the loop over the bytes keeps. The tokens so far and then the tokens of the rest are the tokens of the bytes. The fault of the rest
-- is the fault of the bytes.
use Rattle.std.proofs.Common.{◌≡◌, ◌≢◌, ◌⊎◌, inl, inr, ℕ, ◌+◌, ◌<◌, ◌≤◌}
use Rattle.std.proofs.Common.{List, [], ◌∷◌, ◌++◌, length, get_or, take, drop, refl, sym, ap, ◌∙◌, subst, arith, append_assoc, length-drop, length-take-le, IsTrue}
use Rattle.std.proofs.lemmas.List.{append-nil, drop_more, drop_all, drop-drop}
use Rattle.tilt_lexer.specs.declared.fault.LexFault.{LexFault}
use Rattle.tilt_lexer.specs.declared.fault.LexFault.TheVariants as fault
use Rattle.tilt_lexer.specs.declared.token.Tok.{Tok}
use Rattle.tilt_lexer.specs.declared.token.Token.{Token}
use Rattle.tilt_lexer.specs.Front.{IsFront}
use Rattle.tilt_lexer.specs.Tokens.{is_blank, AreTokens, nothing, blank, token, IsFaultyAt, after_blank, after_token}
use Rattle.tilt_lexer.proofs.Texts.{token_first}
use Rattle.tilt_lexer.proofs.Unique.{tokens_or_fault, same_fault}

pub record TokensBefore (bytes : List ℕ) (at : ℕ) (tokens : List Token) : Type 0 where
  pub within : at ≤ length bytes
  pub go_on : (more : List Token) → AreTokens at (drop at bytes) more → AreTokens 0 bytes (tokens ++ more)
  pub faults : (f : LexFault) → IsFaultyAt at (drop at bytes) f → IsFaultyAt 0 bytes f

-- a token takes at least one byte
pub front_some : (kind : Tok) (n : ℕ) (bytes : List ℕ) → IsFront kind n bytes → 0 < n
front_some kind n bytes front =
    let some = (token_first (take n bytes) (kind, front.begins.is_text)).some in
    omega (arith, length-take-le n bytes front.fits)

module _ (at n : ℕ) (kind : Tok) (bytes after : List ℕ) (front : IsFront kind n bytes) (behind : drop n bytes ≡ after) where
  -- the token at the beginning, and then those of the rest
  pub tokens_from : (more : List Token) → AreTokens (at + n) after more → AreTokens at bytes (record { kind = kind; start = at; end = at + n } ∷ more)
  tokens_from more =
      let At : ℕ → List ℕ → Type 0 = λ m rest. AreTokens (at + m) rest more → AreTokens at bytes (record { kind = kind; start = at; end = at + m } ∷ more) in
      subst (λ m. At m after) (length-take-le n bytes front.fits) (subst (At (length (take n bytes))) behind (λ are. token front.begins front.within are))

  pub faults_from : (f : LexFault) → IsFaultyAt (at + n) after f → IsFaultyAt at bytes f
  faults_from f =
      let At : ℕ → List ℕ → Type 0 = λ m rest. IsFaultyAt (at + m) rest f → IsFaultyAt at bytes f in
      subst (λ m. At m after) (length-take-le n bytes front.fits) (subst (At (length (take n bytes))) behind (λ is. after_token front.begins front.within is))

module _ (bytes : List ℕ) where
  pub before_blank : (at : ℕ) (tokens : List Token) → TokensBefore bytes at tokens → at < length bytes → IsTrue (is_blank (get_or bytes at 0)) → TokensBefore bytes (at + 1) tokens
  before_blank at tokens before more_bytes is =
      let step = drop_more bytes at 0 more_bytes in
      record {
        within = omega arith;
        go_on = λ more are. before.go_on more (subst (λ l. AreTokens at l more) (sym step) (blank is are));
        faults = λ f faulty. before.faults f (subst (λ l. IsFaultyAt at l f) (sym step) (after_blank is faulty));
      }

  pub before_token : (at n : ℕ) (kind : Tok) (tokens next : List Token) → TokensBefore bytes at tokens → IsFront kind n (drop at bytes)
      → next ≡ tokens ++ record { kind = kind; start = at; end = at + n } ∷ [] → TokensBefore bytes (at + n) next
  before_token at n kind tokens next before front pushed =
      record {
        within = omega (arith, front.fits, length-drop at bytes, before.within);
        go_on = λ more are.
            subst (AreTokens 0 bytes) (sym (ap (λ l. l ++ more) pushed ∙ append_assoc tokens (record { kind = kind; start = at; end = at + n } ∷ []) more))
            (before.go_on _ (tokens_from at n kind (drop at bytes) (drop (at + n) bytes) front (drop-drop n at bytes) more are));
        faults = λ f faulty. before.faults f (faults_from at n kind (drop at bytes) (drop (at + n) bytes) front (drop-drop n at bytes) f faulty);
      }

  -- at the end the tokens so far are all
  pub tokens_all : (at : ℕ) (tokens : List Token) → TokensBefore bytes at tokens → length bytes ≤ at → AreTokens 0 bytes tokens
  tokens_all at tokens before end =
      subst (AreTokens 0 bytes) (append-nil tokens) (before.go_on [] (subst (λ l. AreTokens at l []) (sym (drop_all at bytes end)) nothing))

-- an error is out of memory, or is known
pub memory_or : (f : LexFault) (is : LexFault → Type 0) → (f ≢ fault.OutOfMemory → is f) → (f ≡ fault.OutOfMemory) ⊎ is f
memory_or (fault.BadByte at) is h = inr (h (λ e. cc))
memory_or (fault.BigNumber at) is h = inr (h (λ e. cc))
memory_or fault.OutOfMemory is h = inl refl

module _ (bytes : List ℕ) (f : LexFault) (faulty : f ≢ fault.OutOfMemory → IsFaultyAt 0 bytes f) where
  -- an error on bytes that have tokens is out of memory
  pub refused_tokens : (tokens : List Token) → AreTokens 0 bytes tokens → f ≡ fault.OutOfMemory
  refused_tokens tokens are =
      elim (memory_or f (IsFaultyAt 0 bytes) faulty) [ inl memory ↦ memory | inr is ↦ absurd (tokens_or_fault are is refl) ]

  -- and an error on bytes that have a fault is that fault or out of memory
  pub refused_first : (first : LexFault) → IsFaultyAt 0 bytes first → (f ≡ first) ⊎ (f ≡ fault.OutOfMemory)
  refused_first first is_first =
      elim (memory_or f (IsFaultyAt 0 bytes) faulty) [ inl memory ↦ inr memory | inr is ↦ inl (same_fault is is_first refl refl) ]
