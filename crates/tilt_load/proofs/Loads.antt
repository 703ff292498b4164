-- Why files aren't taken: from one file to all.
use Rattle.std.proofs.Common.{◌≡◌, ◌≢◌, ◌≤◌, ◌⊎◌, List, ℕ, length, inl, inr, refl, ap, Err}
use Rattle.std.specs.Prelude.{⊤}
use Rattle.tilt_base.specs.declared.limits.TheConstants.{FILE}
use Rattle.tilt_lexer.specs.Tokens.{AreTokens, IsFaultyAt}
use Rattle.tilt_lexer.specs.declared.fault.LexFault.{LexFault}
use Rattle.tilt_lexer.specs.declared.fault.LexFault.TheVariants as lexical
use Rattle.tilt_lexer.specs.declared.token.Token.{Token}
use Rattle.tilt_outside.specs.Faults.{Rose}
use Rattle.tilt_syntax.specs.Query.{IsQueryOf, IsRefused, kinds}
use Rattle.tilt_syntax.specs.Tree.{StatementTree}
use Rattle.tilt_syntax.specs.declared.fault.SyntaxFault.{SyntaxFault}
use Rattle.tilt_syntax.specs.declared.fault.SyntaxFault.TheVariants as syntax
use Rattle.tilt_syntax.specs.Text.{IsRefusedText, no_tokens as no_place, no_query}
use Rattle.tilt_syntax.specs.declared.fault.TextFault.{TextFault}
use Rattle.tilt_syntax.specs.declared.fault.TextFault.TheVariants as text
use Rattle.tilt_bounds.specs.Margins.{IsTold, margins_of}
use Rattle.tilt_bounds.specs.declared.fault.ReachFault.{ReachFault}
use Rattle.tilt_bounds.specs.declared.fault.ReachFault.TheVariants as reach
use Rattle.tilt_types.specs.Checked.{checked}
use Rattle.tilt_core.specs.Core.{CoreParts}
use Rattle.tilt_types.specs.declared.fault.CheckFault.{CheckFault}
use Rattle.tilt_types.specs.declared.fault.CheckFault.TheVariants as check
use Rattle.tilt_load.specs.Load.{IsLoadFault, IsTooLong, IsNameFault}
use Rattle.tilt_load.specs.QueryFile.{RefusesQuery, no_core, far, long, no_tokens, no_statements, ill_formed, HasCore}
use Rattle.tilt_load.specs.SeriesFiles.{RefusesSession, by_names}
use Rattle.tilt_report.specs.Report.{Reason, Report, usage, refusal, read_fault, write_fault, save_fault}
use Rattle.tilt_report.specs.Report.{out_of_memory, report_of_place, report_of_syntax, report_of_text, report_of_check, report_of_reach}
use Rattle.tilt_series.specs.Series.{Bounds}
use Rattle.tilt_cli.specs.Binding.{Binding}

-- a fault, if other refusals and other turns follow
pub load_fault_weaker : (tells tells' : Type 0) (is is' : Reason → Type 0) (turn turn' : List ℕ → Type 0) (before after before' after' : ℕ) → (tells' → tells)
    → ((why : Reason) → tells' → is why → is' why) → ((name : List ℕ) → Rose before after → turn name → Rose before' after' × turn' name) → (report : Report)
    → IsLoadFault tells is turn before after report → IsLoadFault tells' is' turn' before' after' report
load_fault_weaker tells tells' is is' turn turn' b a b' a' told more next usage fault = fault
load_fault_weaker tells tells' is is' turn turn' b a b' a' told more next (refusal why) fault =
    λ t. more why t (fault (told t))
load_fault_weaker tells tells' is is' turn turn' b a b' a' told more next (read_fault name) fault =
    next name fault.0 fault.1
load_fault_weaker tells tells' is is' turn turn' b a b' a' told more next write_fault fault = fault
load_fault_weaker tells tells' is is' turn turn' b a b' a' told more next (save_fault name) fault = fault
load_fault_weaker tells tells' is is' turn turn' b a b' a' told more next out_of_memory fault = fault

-- a file that is too long is no query
pub too_long_refuses : (name file : List ℕ) (why : Reason) → IsTooLong name file why → RefusesQuery name file why
too_long_refuses name file why is = rw is.0 (no_core (long is.1))

-- a report that is a refusal or out of memory, if each refusal refuses the query
loads_by : (name bytes : List ℕ) (report : Report) → (report ≡ out_of_memory) ⊎ ((why : Reason) × (report ≡ refusal why))
    → ((why : Reason) → report ≡ refusal why → RefusesQuery name bytes why) → IsLoadFault ⊤ (RefusesQuery name bytes) (λ _. ⊥) 0 0 report
loads_by name bytes report (inl memory) refuses = rw memory tt
loads_by name bytes report (inr (why, is)) refuses = rw is (λ _. refuses why is)

place_report : (fault : LexFault) → (report_of_place fault ≡ out_of_memory) ⊎ ((why : Reason) × (report_of_place fault ≡ refusal why))
place_report (lexical.BadByte at) = inr (_, refl)
place_report (lexical.BigNumber at) = inr (_, refl)
place_report lexical.OutOfMemory = inl refl

syntax_report : (fault : SyntaxFault) → (report_of_syntax fault ≡ out_of_memory) ⊎ ((why : Reason) × (report_of_syntax fault ≡ refusal why))
syntax_report syntax.TooManyStatements = inr (_, refl)
syntax_report (syntax.StatementTooLong n) = inr (_, refl)
syntax_report (syntax.Syntax n) = inr (_, refl)
syntax_report (syntax.EmitPlace n) = inr (_, refl)
syntax_report syntax.OutOfMemory = inl refl

check_report : (fault : CheckFault) → (report_of_check fault ≡ out_of_memory) ⊎ ((why : Reason) × (report_of_check fault ≡ refusal why))
check_report (check.NameTaken n) = inr (_, refl)
check_report (check.UnknownName n) = inr (_, refl)
check_report (check.TypeMismatch n) = inr (_, refl)
check_report (check.BadWindow n) = inr (_, refl)
check_report (check.BadDomain n) = inr (_, refl)
check_report check.OutOfMemory = inl refl

-- a query with a faulty place is rejected, unless the fault is `OutOfMemory`
pub place_refuses : (name bytes : List ℕ) (fault : LexFault) → length bytes ≤ FILE → (fault ≢ lexical.OutOfMemory → IsFaultyAt 0 bytes fault)
    → IsLoadFault ⊤ (RefusesQuery name bytes) (λ _. ⊥) 0 0 (report_of_place fault)
place_refuses name bytes fault short faulty =
    loads_by name bytes (report_of_place fault) (place_report fault) (λ why is. no_core (no_tokens fault short (faulty (λ same. let e = ap report_of_place same in cc)) is))

-- a query whose tokens are no query is rejected
pub syntax_refuses : (name bytes : List ℕ) (tokens : List Token) (fault : SyntaxFault) → length bytes ≤ FILE → AreTokens 0 bytes tokens
    → (fault ≢ syntax.OutOfMemory → IsRefused (kinds tokens) fault) → IsLoadFault ⊤ (RefusesQuery name bytes) (λ _. ⊥) 0 0 (report_of_syntax fault)
syntax_refuses name bytes tokens fault short lexed faulty =
    loads_by name bytes (report_of_syntax fault) (syntax_report fault) (λ why is. no_core (no_statements tokens fault short lexed (faulty (λ same. let e = ap report_of_syntax same in cc)) is))

-- a text that is no query is rejected
text_refused : (name bytes : List ℕ) (f : TextFault) → length bytes ≤ FILE → IsRefusedText bytes f
    → IsLoadFault ⊤ (RefusesQuery name bytes) (λ _. ⊥) 0 0 (report_of_text f)
text_refused name bytes f short (no_place {f = place} is) = place_refuses name bytes place short (λ other. is)
text_refused name bytes f short (no_query {f = why} tokens lexed is) = syntax_refuses name bytes tokens why short lexed (λ other. is)

pub text_refuses : (name bytes : List ℕ) (f : TextFault) → length bytes ≤ FILE → (f ≢ text.OutOfMemory → IsRefusedText bytes f)
    → IsLoadFault ⊤ (RefusesQuery name bytes) (λ _. ⊥) 0 0 (report_of_text f)
text_refuses name bytes (text.Lexical place) short faulty = text_refused name bytes (text.Lexical place) short (faulty (λ e. cc))
text_refuses name bytes (text.Refused why) short faulty = text_refused name bytes (text.Refused why) short (faulty (λ e. cc))
text_refuses name bytes text.OutOfMemory short faulty = tt

-- a query that isn't well formed is rejected
pub check_refuses : (name bytes : List ℕ) (tokens : List Token) (query : List StatementTree) (fault : CheckFault) → length bytes ≤ FILE
    → AreTokens 0 bytes tokens → IsQueryOf (kinds tokens) query → (fault ≡ check.OutOfMemory) ⊎ (checked query ≡ Err fault)
    → IsLoadFault ⊤ (RefusesQuery name bytes) (λ _. ⊥) 0 0 (report_of_check fault)
check_refuses name bytes tokens query fault short lexed parsed (inl memory) = rw memory tt
check_refuses name bytes tokens query fault short lexed parsed (inr is_fault) =
    loads_by name bytes (report_of_check fault) (check_report fault) (λ why is. no_core (ill_formed tokens query fault short lexed parsed is_fault is))

-- a query that looks too far is rejected
pub reach_refuses : (name bytes : List ℕ) (core : CoreParts) (fault : ReachFault) → HasCore bytes core → IsTold (margins_of core) fault
    → IsLoadFault ⊤ (RefusesQuery name bytes) (λ _. ⊥) 0 0 (report_of_reach fault)
reach_refuses name bytes core (reach.TooFar back ahead) has is = λ _. far core (record { back = back; ahead = ahead }) has is
reach_refuses name bytes core reach.OutOfMemory has is = tt

-- inputs with a faulty name are rejected
pub names_refuse : (tells : Type 0) (files : List ℕ → List ℕ) (binds : List Binding) (bounds : ℕ → Bounds) (inputs : List (List ℕ)) (turn : List ℕ → Type 0)
    (before after : ℕ) (report : Report) → IsNameFault inputs binds report
    → IsLoadFault tells (RefusesSession files binds bounds inputs) turn before after report
names_refuse tells files binds bounds inputs turn before after usage fault = absurd fault
names_refuse tells files binds bounds inputs turn before after (refusal why) fault = λ t. rw fault.1 (by_names fault.0 fault.2)
names_refuse tells files binds bounds inputs turn before after (read_fault name) fault = absurd fault
names_refuse tells files binds bounds inputs turn before after write_fault fault = absurd fault
names_refuse tells files binds bounds inputs turn before after (save_fault name) fault = absurd fault
names_refuse tells files binds bounds inputs turn before after out_of_memory fault = tt
