-- Each fault of a query's text has a reason that is reported.
use Rattle.std.proofs.Common.{◌≡◌, ◌+◌, ℕ, List, Result, Err, refl}
use Rattle.tilt_bounds.specs.Margins.{MarginsParts}
use Rattle.tilt_core.specs.Needs.{Need}
use Rattle.tilt_lexer.specs.Tokens.{IsFaultyAt, bad_byte, big_number, after_blank, after_token}
use Rattle.tilt_lexer.specs.declared.fault.LexFault.{LexFault}
use Rattle.tilt_lexer.specs.declared.token.Tok.{Tok}
use Rattle.tilt_report.specs.Report.{Reason, Report, refusal, report_of_place, report_of_syntax, report_of_check}
use Rattle.tilt_syntax.specs.Query.{statements, HasFault, too_long, no_statement, misplaced, FirstFault, here, later, IsRefused, too_many, no_tokens, faulty}
use Rattle.tilt_syntax.specs.Tree.{StatementTree}
use Rattle.tilt_syntax.specs.declared.fault.SyntaxFault.{SyntaxFault}
use Rattle.tilt_types.proofs.NoMemory.{never-memory}
use Rattle.tilt_types.specs.Checked.{checked}
use Rattle.tilt_types.specs.declared.fault.CheckFault.{CheckFault}
use Rattle.tilt_types.specs.declared.fault.CheckFault.TheVariants as check

-- a report is a refusal
abbrev pub IsRefusal : Report → Type 0
IsRefusal report = (why : Reason) × (report ≡ refusal why)

-- a report is of one refusal
pub same_reason : (report : Report) (r s : Reason) → report ≡ refusal r → report ≡ refusal s → r ≡ s
same_reason report r s is other = cc

-- a query that is too far is so by one need
pub same_far : {m n : Need} → (let x : Result MarginsParts Need = Err m in x ≡ Err n) → m ≡ n
same_far e = cc

-- the first faulty place of a text
pub place_told : (at : ℕ) (bytes : List ℕ) (f : LexFault) → IsFaultyAt at bytes f → IsRefusal (report_of_place f)
place_told at bytes f (bad_byte other none) = (_, refl)
place_told at bytes f (big_number big) = (_, refl)
place_told at bytes f (after_blank {b = b} {bytes = rest} is h) = place_told (at + 1) rest f h
place_told at bytes f (after_token {text = text} {rest = rest} begins within h) = place_told _ rest f h

-- what tokens are rejected for
fault_told : (n : ℕ) (ts : List Tok) (behind : List (List Tok)) (f : SyntaxFault) → HasFault n ts behind f → IsRefusal (report_of_syntax f)
fault_told n ts behind f (too_long long) = (_, refl)
fault_told n ts behind f (no_statement short fails) = (_, refl)
fault_told n ts behind f (misplaced s short is fails) = (_, refl)

first_told : (n : ℕ) (ss : List (List Tok)) (f : SyntaxFault) → FirstFault n ss f → IsRefusal (report_of_syntax f)
first_told n ss f (here {ts = ts} {rest = rest} h) = fault_told n ts rest f h
first_told n ss f (later {rest = rest} s good h) = first_told (n + 1) rest f h

pub refused_told : (ts : List Tok) (f : SyntaxFault) → IsRefused ts f → IsRefusal (report_of_syntax f)
refused_told ts f (too_many many) = (_, refl)
refused_told ts f no_tokens = (_, refl)
refused_told ts f (faulty few h) = first_told 1 (statements ts) f h

-- a fault of a query that isn't well formed
pub check_told : (query : List StatementTree) (f : CheckFault) → checked query ≡ Err f → IsRefusal (report_of_check f)
check_told query (check.NameTaken n) bad = (_, refl)
check_told query (check.UnknownName n) bad = (_, refl)
check_told query (check.TypeMismatch n) bad = (_, refl)
check_told query (check.BadWindow n) bad = (_, refl)
check_told query (check.BadDomain n) bad = (_, refl)
check_told query check.OutOfMemory bad = absurd (never-memory query bad)
