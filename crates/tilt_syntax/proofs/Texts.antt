-- A text is one query at most, or is rejected for one fault, and not both; and what is kept of its tokens shows which.
use Rattle.std.proofs.Common.{◌≡◌, ◌≢◌, ◌⊎◌, inl, inr, ℕ, List, [], ◌∷◌, refl, sym, ap, subst}
use Rattle.std.proofs.Common.{Result, Ok, Err, MatchResult}
use Rattle.std.specs.Prelude.{All, IfOk, IfErr}
use Rattle.std.specs.List.{AllByRecursion}
use Rattle.std.proofs.lemmas.List.Elements.{All-from_recursion}
use Rattle.tilt_lexer.specs.Tokens.{AreTokens, IsFaultyAt, IsSound}
use Rattle.tilt_lexer.specs.declared.fault.LexFault.{LexFault}
use Rattle.tilt_lexer.specs.declared.fault.LexFault.TheVariants as lexical
use Rattle.tilt_lexer.specs.declared.token.Tok.{Tok}
use Rattle.tilt_lexer.specs.declared.token.Token.{Token}
use Rattle.tilt_lexer.proofs.Reading.{refused_first, refused_tokens}
use Rattle.tilt_lexer.proofs.Sound.{sound}
use Rattle.tilt_lexer.proofs.Unique.{same_tokens, same_fault, tokens_or_fault}
use Rattle.tilt_syntax.specs.Query.{kinds, AreSound, IsQueryOf, IsRefused}
use Rattle.tilt_syntax.specs.Text.{IsQueryText, IsRefusedText, no_tokens, no_query, of_place, of_tokens}
use Rattle.tilt_syntax.specs.Tree.{StatementTree}
use Rattle.tilt_syntax.specs.Trimmed.{trimmed}
use Rattle.tilt_syntax.specs.declared.fault.SyntaxFault.{SyntaxFault}
use Rattle.tilt_syntax.specs.declared.fault.SyntaxFault.TheVariants as syntax
use Rattle.tilt_syntax.specs.declared.fault.TextFault.{TextFault}
use Rattle.tilt_syntax.specs.declared.fault.TextFault.TheVariants as fault
use Rattle.tilt_syntax.proofs.Parsing.{sound-kinds}
use Rattle.tilt_syntax.proofs.Refused.{one_refusal, query-or-refused}
use Rattle.tilt_syntax.proofs.Trimming.{trimmed_query, trimmed_refused, trimmed_sound}
use Rattle.tilt_syntax.proofs.Unique.{one_query}

-- tokens whose kinds are sound are sound
each_sound : (ts : List Token) → AreSound (kinds ts) → AllByRecursion (λ (token : Token). IsSound token.kind) ts
each_sound [] h = tt
each_sound (t ∷ ts) h = (h.0, each_sound ts h.1)

pub sound_back : (ts : List Token) → AreSound (kinds ts) → All (λ token. IsSound token.kind) ts
sound_back ts h = All-from_recursion (λ (token : Token). IsSound token.kind) ts (each_sound ts h)

module _ (bytes : List ℕ) where
  -- the tokens of a text are its only ones
  of_all : (P : List Token → Type 0) (ts us : List Token) → AreTokens 0 bytes ts → AreTokens 0 bytes us → P us → P ts
  of_all P ts us a b h = subst P (same_tokens b a refl refl) h

  pub one_text : (p q : List StatementTree) → IsQueryText bytes p → IsQueryText bytes q → p ≡ q
  one_text p q g h =
      one_query (kinds g.tokens) p q g.parsed (of_all (λ ts. IsQueryOf (kinds ts) q) g.tokens h.tokens g.lexed h.lexed h.parsed)

  pub query_or_refused : (q : List StatementTree) (f : TextFault) → IsQueryText bytes q → IsRefusedText bytes f → ⊥
  query_or_refused q f g (no_tokens is) = tokens_or_fault g.lexed is refl
  query_or_refused q f g (no_query {f = e} tokens are is) =
      query-or-refused (kinds g.tokens) q e g.parsed (of_all (λ ts. IsRefused (kinds ts) e) g.tokens tokens g.lexed are is)

  pub one_fault : (f g : TextFault) → IsRefusedText bytes f → IsRefusedText bytes g → f ≡ g
  one_fault f g (no_tokens a) (no_tokens b) = ap fault.Lexical (same_fault a b refl refl)
  one_fault f g (no_tokens a) (no_query tokens are b) = absurd (tokens_or_fault are a refl)
  one_fault f g (no_query tokens are a) (no_tokens b) = absurd (tokens_or_fault are b refl)
  one_fault f g (no_query {f = d} tokens are a) (no_query {f = e} others these b) =
      ap fault.Refused (one_refusal (kinds tokens) d e a (of_all (λ ts. IsRefused (kinds ts) e) tokens others are these b))

  -- what is reported is out of memory, or is known
  memory_or : (f : TextFault) → (f ≢ fault.OutOfMemory → IsRefusedText bytes f) → (f ≡ fault.OutOfMemory) ⊎ IsRefusedText bytes f
  memory_or (fault.Lexical place) h = inr (h (λ e. cc))
  memory_or (fault.Refused why) h = inr (h (λ e. cc))
  memory_or fault.OutOfMemory h = inl refl

  module _ (f : TextFault) (known : f ≢ fault.OutOfMemory → IsRefusedText bytes f) where
    -- of a query only out of memory is reported
    pub only_memory : (q : List StatementTree) → IsQueryText bytes q → f ≡ fault.OutOfMemory
    only_memory q is = elim (memory_or f known) [ inl memory ↦ memory | inr refused ↦ absurd (query_or_refused q f is refused) ]

    -- and else the fault, or out of memory
    pub only_fault : (g : TextFault) → IsRefusedText bytes g → (f ≡ g) ⊎ (f ≡ fault.OutOfMemory)
    only_fault g is = elim (memory_or f known) [ inl memory ↦ inr memory | inr refused ↦ inl (one_fault f g refused is) ]

  -- the first faulty place is the fault of the text
  pub place_refuses : (f : LexFault) → (f ≢ lexical.OutOfMemory → IsFaultyAt 0 bytes f) → of_place f ≢ fault.OutOfMemory → IsRefusedText bytes (of_place f)
  place_refuses (lexical.BadByte at) h other = no_tokens (h (λ e. cc))
  place_refuses (lexical.BigNumber at) h other = no_tokens (h (λ e. cc))
  place_refuses lexical.OutOfMemory h other = absurd (other refl)

  -- what is kept of its tokens
  abbrev pub Keeps : List Token → Type 0
  Keeps kept = (tokens : List Token) × AreTokens 0 bytes tokens × (kinds kept ≡ trimmed 257 257 (kinds tokens))

  module _ (kept : List Token) (keeps : Keeps kept) where
    pub text_is : (query : List StatementTree) → IsQueryOf (kinds kept) query → IsQueryText bytes query
    text_is query is = record {
      tokens = keeps.0;
      lexed = keeps.1;
      parsed = trimmed_query (kinds keeps.0) query (subst (λ (ts : List Tok). IsQueryOf ts query) keeps.2 is);
    }

    refuses : (f : SyntaxFault) → IsRefused (kinds kept) f → IsRefusedText bytes (fault.Refused f)
    refuses f is = no_query keeps.0 keeps.1 (trimmed_refused (kinds keeps.0) f (subst (λ (ts : List Tok). IsRefused ts f) keeps.2 is))

    pub tokens_refuse : (f : SyntaxFault) → (f ≢ syntax.OutOfMemory → IsRefused (kinds kept) f) → of_tokens f ≢ fault.OutOfMemory
        → IsRefusedText bytes (of_tokens f)
    tokens_refuse syntax.TooManyStatements h other = refuses _ (h (λ e. cc))
    tokens_refuse (syntax.StatementTooLong n) h other = refuses _ (h (λ e. cc))
    tokens_refuse (syntax.Syntax n) h other = refuses _ (h (λ e. cc))
    tokens_refuse (syntax.EmitPlace n) h other = refuses _ (h (λ e. cc))
    tokens_refuse syntax.OutOfMemory h other = absurd (other refl)

    pub kept_sound : All (λ token. IsSound token.kind) kept
    kept_sound =
        let all : AreSound (kinds keeps.0) = sound-kinds keeps.0 (sound keeps.1) in
        sound_back kept (subst AreSound (sym keeps.2) (trimmed_sound 257 257 (kinds keeps.0) all))

  -- the result of keeping the tokens of a text: no tokens but its own, and no fault but its own
  module _ {X : Type 0} (items : X → List Token) (r : Result X LexFault) (keeps : IfOk r (λ x. Keeps (items x)))
      (known : IfErr r (λ f. f ≢ lexical.OutOfMemory → IsFaultyAt 0 bytes f)) where
    pub keeps-sound : IfOk r (λ x. All (λ token. IsSound token.kind) (items x))
    keeps-sound = sound_of r keeps where
      sound_of : (r : Result X LexFault) → IfOk r (λ x. Keeps (items x)) → IfOk r (λ x. All (λ token. IsSound token.kind) (items x))
      sound_of (Ok x) h = kept_sound (items x) h
      sound_of (Err f) h = tt

    pub keeps-only : (tokens : List Token) → AreTokens 0 bytes tokens
        → MatchResult r (λ x. kinds (items x) ≡ trimmed 257 257 (kinds tokens)) (λ f. f ≡ lexical.OutOfMemory)
    keeps-only tokens are = only_of r keeps known where
      only_of : (r : Result X LexFault) → IfOk r (λ x. Keeps (items x)) → IfErr r (λ f. f ≢ lexical.OutOfMemory → IsFaultyAt 0 bytes f)
          → MatchResult r (λ x. kinds (items x) ≡ trimmed 257 257 (kinds tokens)) (λ f. f ≡ lexical.OutOfMemory)
      only_of (Ok x) h k = of_all (λ ts. kinds (items x) ≡ trimmed 257 257 (kinds ts)) tokens h.0 are h.1 h.2
      only_of (Err f) h k = refused_tokens bytes f k tokens are

    pub keeps-first : (first : LexFault) → IsFaultyAt 0 bytes first
        → MatchResult r (λ x. ⊥) (λ f. (f ≡ first) ⊎ (f ≡ lexical.OutOfMemory))
    keeps-first first is = first_of r keeps known where
      first_of : (r : Result X LexFault) → IfOk r (λ x. Keeps (items x)) → IfErr r (λ f. f ≢ lexical.OutOfMemory → IsFaultyAt 0 bytes f)
          → MatchResult r (λ x. ⊥) (λ f. (f ≡ first) ⊎ (f ≡ lexical.OutOfMemory))
      first_of (Ok x) h k = tokens_or_fault h.1 is refl
      first_of (Err f) h k = refused_first bytes f k first is
