-- A query file gives one core, or one reason why it has none.
use Rattle.std.proofs.Common.{◌≡◌, ◌∙◌, ◌<◌, ◌≤◌, ◌⊎◌, List, [], ℕ, length, Option, None, Some, Result, Ok, Err, inl, inr, refl, sym, ap, arith}
use Rattle.std.proofs.lemmas.Bool.{cases_lt}
use Rattle.tilt_base.specs.declared.limits.TheConstants.{FILE}
use Rattle.tilt_lexer.proofs.Sound.{sound}
use Rattle.tilt_lexer.proofs.Whole as whole
use Rattle.tilt_lexer.proofs.Unique.{same_fault, tokens_or_fault, same_tokens}
use Rattle.tilt_lexer.specs.Tokens.{AreTokens, IsFaultyAt}
use Rattle.tilt_lexer.specs.declared.fault.LexFault.{LexFault}
use Rattle.tilt_lexer.specs.declared.token.Token.{Token}
use Rattle.tilt_syntax.proofs.Parsing.{sound-kinds}
use Rattle.tilt_syntax.specs.Query.{AreSound, IsQuery, IsQueryOf, IsRefused, kinds}
use Rattle.tilt_syntax.proofs.Judged.{query_or_refused}
use Rattle.tilt_syntax.specs.declared.fault.SyntaxFault.{SyntaxFault}
use Rattle.tilt_syntax.proofs.Refused.{one_refusal, query-or-refused}
use Rattle.tilt_syntax.proofs.Unique.{one_query}
use Rattle.tilt_syntax.specs.Tree.{StatementTree}
use Rattle.tilt_bounds.specs.Margins.{MarginsParts, margins_of}
use Rattle.tilt_types.specs.Checked.{checked, core_of, core_unless}
use Rattle.tilt_types.specs.WellFormed.{first_fault}
use Rattle.tilt_core.specs.Core.{CoreParts}
use Rattle.tilt_core.specs.Needs.{Need}
use Rattle.tilt_types.specs.declared.fault.CheckFault.{CheckFault}
use Rattle.tilt_report.specs.Report.{Reason, file_too_long, too_far, report_of_place, report_of_syntax, report_of_check}
use Rattle.tilt_load.proofs.Told.{check_told, place_told, refused_told, same_far, same_reason}
use Rattle.tilt_load.specs.QueryFile.{HasCore, HasQuery, TakesQuery, HasNoCore, RefusesQuery, no_core, far, long, no_tokens, no_statements, ill_formed}

same_err : {f g : CheckFault} → (let x : Result CoreParts CheckFault = Err f in x ≡ Err g) → f ≡ g
same_err e = cc

same_ok : {c d : CoreParts} → (let x : Result CoreParts CheckFault = Ok c in x ≡ Ok d) → c ≡ d
same_ok e = cc

-- a query has no core for one reason
no_core_once : (name bytes : List ℕ) (r s : Reason) → HasNoCore name bytes r → HasNoCore name bytes s → r ≡ s
no_core_once name bytes r s (long over) (long over') = refl
no_core_once name bytes r s (long over) (no_tokens f short faulty is) = absurd (omega arith)
no_core_once name bytes r s (long over) (no_statements ts f short lexed refuses is) = absurd (omega arith)
no_core_once name bytes r s (long over) (ill_formed ts q f short lexed parsed bad is) = absurd (omega arith)
no_core_once name bytes r s (no_tokens f short faulty is) (long over) = absurd (omega arith)
no_core_once name bytes r s (no_tokens f short faulty is) (no_tokens g short' faulty' is') =
    same_reason (report_of_place f) r s is (rw (sym (same_fault faulty faulty' refl refl)) at is')
no_core_once name bytes r s (no_tokens f short faulty is) (no_statements ts g short' lexed refuses is') =
    absurd (tokens_or_fault lexed faulty refl)
no_core_once name bytes r s (no_tokens f short faulty is) (ill_formed ts q g short' lexed parsed bad is') =
    absurd (tokens_or_fault lexed faulty refl)
no_core_once name bytes r s (no_statements ts f short lexed refuses is) (long over) = absurd (omega arith)
no_core_once name bytes r s (no_statements ts f short lexed refuses is) (no_tokens g short' faulty is') =
    absurd (tokens_or_fault lexed faulty refl)
no_core_once name bytes r s (no_statements ts f short lexed refuses is) (no_statements us g short' lexed' refuses' is') =
    let same = same_tokens lexed lexed' refl refl in
    same_reason (report_of_syntax f) r s is (rw (sym (one_refusal (kinds ts) f g refuses (rw (sym same) at refuses'))) at is')
no_core_once name bytes r s (no_statements ts f short lexed refuses is) (ill_formed us q g short' lexed' parsed bad is') =
    let same = same_tokens lexed lexed' refl refl in
    absurd (query-or-refused (kinds ts) q f (rw (sym same) at parsed) refuses)
no_core_once name bytes r s (ill_formed ts q f short lexed parsed bad is) (long over) = absurd (omega arith)
no_core_once name bytes r s (ill_formed ts q f short lexed parsed bad is) (no_tokens g short' faulty is') =
    absurd (tokens_or_fault lexed faulty refl)
no_core_once name bytes r s (ill_formed ts q f short lexed parsed bad is) (no_statements us g short' lexed' refuses is') =
    let same = same_tokens lexed lexed' refl refl in
    absurd (query-or-refused (kinds ts) q g parsed (rw (sym same) at refuses))
no_core_once name bytes r s (ill_formed ts q f short lexed parsed bad is) (ill_formed us p g short' lexed' parsed' bad' is') =
    let same = same_tokens lexed lexed' refl refl in
    let query = one_query (kinds ts) q p parsed (rw (sym same) at parsed') in
    let fault : f ≡ g = same_err (sym bad ∙ ap checked query ∙ bad') in
    same_reason (report_of_check f) r s is (rw (sym fault) at is')

-- a query has one core
core_once : (bytes : List ℕ) (c d : CoreParts) → HasCore bytes c → HasCore bytes d → c ≡ d
core_once bytes c d taken taken' =
    let same = same_tokens taken.lexed taken'.lexed refl refl in
    let query = one_query (kinds taken.tokens) taken.query taken'.query taken.parsed (rw (sym same) at taken'.parsed) in
    same_ok (sym taken.accepted ∙ ap checked query ∙ taken'.accepted)

-- a query has a core, or none
core_or_none : (name bytes : List ℕ) (r : Reason) (core : CoreParts) → HasNoCore name bytes r → HasCore bytes core → ⊥
core_or_none name bytes r core (long over) taken = let short = taken.short in absurd (omega arith)
core_or_none name bytes r core (no_tokens f short faulty is) taken = tokens_or_fault taken.lexed faulty refl
core_or_none name bytes r core (no_statements ts f short lexed refuses is) taken =
    let same = same_tokens taken.lexed lexed refl refl in
    query-or-refused (kinds ts) taken.query f (rw same at taken.parsed) refuses
core_or_none name bytes r core (ill_formed ts q f short lexed parsed bad is) taken =
    let same = same_tokens taken.lexed lexed refl refl in
    let query = one_query (kinds ts) q taken.query parsed (rw same at taken.parsed) in
    let both : Ok core ≡ Err f = sym taken.accepted ∙ ap checked (sym query) ∙ bad in
    cc

-- a query is rejected for one reason
pub refused_once : (name bytes : List ℕ) (r s : Reason) → RefusesQuery name bytes r → RefusesQuery name bytes s → r ≡ s
refused_once name bytes r s (no_core none) (no_core none') = no_core_once name bytes r s none none'
refused_once name bytes r s (no_core none) (far core widest has is) = absurd (core_or_none name bytes r core none has)
refused_once name bytes r s (far core widest has is) (no_core none) = absurd (core_or_none name bytes s core none has)
refused_once name bytes r s (far core widest has is) (far core' widest' has' is') =
    let same = same_far (sym is ∙ ap margins_of (core_once bytes core core' has has') ∙ is') in
    rw same refl

-- a query that is taken has one core
pub taken_once : (bytes : List ℕ) (c d : CoreParts) → TakesQuery bytes c → TakesQuery bytes d → c ≡ d
taken_once bytes c d taken taken' = core_once bytes c d taken.has_core taken'.has_core

-- a query that is rejected isn't taken
pub refused_or_taken : (name bytes : List ℕ) (r : Reason) (core : CoreParts) → RefusesQuery name bytes r → TakesQuery bytes core → ⊥
refused_or_taken name bytes r core (no_core none) taken = core_or_none name bytes r core none taken.has_core
refused_or_taken name bytes r core (far core' widest has is) taken =
    let both : Ok taken.margins ≡ Err widest = sym taken.reach ∙ ap margins_of (core_once bytes core core' taken.has_core has) ∙ is in
    cc

-- a text is one query
pub query_once : (bytes : List ℕ) (q p : List StatementTree) (c d : CoreParts) → HasQuery bytes q c → HasQuery bytes p d → q ≡ p
query_once bytes q p c d has has' =
    let same = same_tokens has.lexed has'.lexed refl refl in
    one_query (kinds has.tokens) q p has.parsed (rw (sym same) at has'.parsed)

-- a text that is a query has its core
pub query_core : (bytes : List ℕ) (q : List StatementTree) (c : CoreParts) → HasQuery bytes q c → HasCore bytes c
query_core bytes q c has =
    record { short = has.short; tokens = has.tokens; lexed = has.lexed; query = q; parsed = has.parsed; accepted = has.accepted }

-- a text is this query, which is well formed and looks no farther than a query may
pub record IsQueryFile (bytes : List ℕ) : Type 0 where
  pub query : List StatementTree
  pub margins : MarginsParts
  pub says : HasQuery bytes query (core_of query)
  pub near : margins_of (core_of query) ≡ Ok margins

-- tokens of a text are those that a text may have
sounds : {bytes : List ℕ} (tokens : List Token) → AreTokens 0 bytes tokens → AreSound (kinds tokens)
sounds tokens lexed = sound-kinds tokens (sound lexed)

-- each text is such a query, or it is rejected
module _ (name bytes : List ℕ) where
  abbrev IsEither : Type 0
  IsEither = IsQueryFile bytes ⊎ ((r : Reason) × RefusesQuery name bytes r)

  module _ (short : length bytes ≤ FILE) where
    by_margins : (q : List StatementTree) → HasQuery bytes q (core_of q) → (m : Result MarginsParts Need) → margins_of (core_of q) ≡ m → IsEither
    by_margins q says (Ok m) near = inl (record { query = q; margins = m; says = says; near = near })
    by_margins q says (Err widest) is = inr (too_far widest.back widest.ahead, far (core_of q) widest (query_core bytes q (core_of q) says) is)

    module _ (tokens : List Token) (lexed : AreTokens 0 bytes tokens) where
      by_check : (q : List StatementTree) → IsQueryOf (kinds tokens) q → (found : Option CheckFault) → first_fault 1 [] q ≡ found → IsEither
      by_check q parsed None is =
          let good : checked q ≡ Ok (core_of q) = ap (λ (o : Option CheckFault). core_unless o (core_of q)) is in
          let valid : IsQuery q = record { tokens = kinds tokens; sound = sounds tokens lexed; parsed = parsed } in
          by_margins q (record { short = short; tokens = tokens; lexed = lexed; parsed = parsed; valid = valid; accepted = good })
          (margins_of (core_of q)) refl
      by_check q parsed (Some f) is =
          let bad : checked q ≡ Err f = ap (λ (o : Option CheckFault). core_unless o (core_of q)) is in
          let told = check_told q f bad in
          inr (told.0, no_core (ill_formed tokens q f short lexed parsed bad told.1))

      by_parse : ((q : List StatementTree) × IsQueryOf (kinds tokens) q) ⊎ ((f : SyntaxFault) × IsRefused (kinds tokens) f) → IsEither
      by_parse (inl (q, parsed)) = by_check q parsed (first_fault 1 [] q) refl
      by_parse (inr (f, refused)) =
          let told = refused_told (kinds tokens) f refused in
          inr (told.0, no_core (no_statements tokens f short lexed refused told.1))

    by_lex : ((tokens : List Token) × AreTokens 0 bytes tokens) ⊎ ((f : LexFault) × IsFaultyAt 0 bytes f) → IsEither
    by_lex (inl (tokens, lexed)) = by_parse tokens lexed (query_or_refused (kinds tokens) (sounds tokens lexed))
    by_lex (inr (f, faulty)) =
        let told = place_told 0 bytes f faulty in
        inr (told.0, no_core (no_tokens f short faulty told.1))

  by_length : (FILE < length bytes) ⊎ (length bytes ≤ FILE) → IsEither
  by_length (inl over) = inr (file_too_long name, no_core (long over))
  by_length (inr short) = by_lex short (whole.tokens_or_fault bytes)

  pub query_taken_or_refused : IsQueryFile bytes ⊎ ((r : Reason) × RefusesQuery name bytes r)
  query_taken_or_refused = by_length (cases_lt FILE (length bytes))
