-- Why a file gives no query, from the fault that is returned.
use Rattle.std.proofs.Common.{◌≡◌, ◌⊎◌, inl, inr, ◌≤◌, ◌^◌, ℕ, List, length, Ok, Err, refl, sym, subst}
use Rattle.tilt_base.specs.declared.limits.TheConstants.{FILE}
use Rattle.tilt_bounds.specs.Margins.{IsTold, margins_of}
use Rattle.tilt_bounds.specs.declared.fault.ReachFault.{ReachFault}
use Rattle.tilt_bounds.specs.declared.fault.ReachFault.TheVariants as reach
use Rattle.tilt_input_scales.specs.Scales.{ScalesValue}
use Rattle.tilt_load.proofs.Loads.{load_fault_weaker}
use Rattle.tilt_load.specs.Load.{IsLoadFault, IsTooLong}
use Rattle.tilt_report.specs.Report.{Reason, Report, out_of_memory, refusal, report_of_check, report_of_reach, report_of_syntax}
use Rattle.tilt_syntax.specs.declared.fault.SyntaxFault.{SyntaxFault}
use Rattle.tilt_syntax.specs.declared.fault.SyntaxFault.TheVariants as syntax
use Rattle.tilt_types.specs.declared.fault.CheckFault.{CheckFault}
use Rattle.tilt_types.specs.declared.fault.CheckFault.TheVariants as check
use Rattle.tilt_unit_load.specs.UnitFile.{IsUnitLoadFault, RefusesUnits, emitted_scale, far, long, unread, unscaled}
use Rattle.tilt_unit_load.specs.UnitReport.{UnitReport, own, report_of_scale, report_of_units, shared}
use Rattle.tilt_unit_load.specs.declared.fault.UnitFileFault.{UnitFileFault}
use Rattle.tilt_unit_text.specs.Reading.{Reads}
use Rattle.tilt_unit_text.specs.Units.{UnitParts}
use Rattle.tilt_unit_text.specs.declared.fault.UnitFault.{UnitFault}
use Rattle.tilt_unit_text.specs.declared.fault.UnitFault.TheVariants as text
use Rattle.tilt_units.specs.declared.fault.ScaleFault.{ScaleFault}
use Rattle.tilt_units.specs.declared.fault.ScaleFault.TheVariants as scale

-- what is reported of a text: there is no memory, every command can reject the file so, or it is a fault of the units
data IsKnown : UnitReport → Type 0 where
  memory : IsKnown (shared out_of_memory)
  refused : (why : Reason) → IsKnown (shared (refusal why))
  of_units : (fault : UnitFileFault) → IsKnown (own fault)

known_syntax : (f : SyntaxFault) → IsKnown (shared (report_of_syntax f))
known_syntax syntax.TooManyStatements = refused _
known_syntax (syntax.StatementTooLong n) = refused _
known_syntax (syntax.Syntax n) = refused _
known_syntax (syntax.EmitPlace n) = refused _
known_syntax syntax.OutOfMemory = memory

known_check : (f : CheckFault) → IsKnown (shared (report_of_check f))
known_check (check.NameTaken n) = refused _
known_check (check.UnknownName n) = refused _
known_check (check.TypeMismatch n) = refused _
known_check (check.BadWindow n) = refused _
known_check (check.BadDomain n) = refused _
known_check check.OutOfMemory = memory

known_scale : (n : ℕ) (f : ScaleFault) → IsKnown (report_of_scale n f)
known_scale n (scale.UnknownSource place) = refused _
known_scale n (scale.TypeMismatch place) = refused _
known_scale n (scale.ScalesDiffer place) = of_units _
known_scale n (scale.LiteralNotWhole place) = of_units _
known_scale n (scale.LiteralTooLarge place) = of_units _
known_scale n (scale.ScaleTooLarge place) = of_units _
known_scale n (scale.BodyTooLarge place) = of_units _
known_scale n scale.TooManySources = refused _
known_scale n scale.OutOfMemory = memory

known_units : (f : UnitFault) → IsKnown (report_of_units f)
known_units (text.BadByte at) = refused _
known_units (text.BigNumber at) = refused _
known_units (text.BadPoint at) = of_units _
known_units (text.ManyDecimals at) = of_units _
known_units (text.Syntax f) = known_syntax f
known_units (text.TicksWithPoint at) = of_units _
known_units (text.IllFormed f) = known_check f
known_units (text.Scale n f) = known_scale n f
known_units (text.WholeTooLarge n) = of_units _
known_units (text.WholeTooLong n) = of_units _
known_units text.OutOfMemory = memory

module _ (name bytes : List ℕ) (scales : ScalesValue) where
  known_refusal : (report : UnitReport) → RefusesUnits name bytes scales report → IsKnown report
  known_refusal report (long over) = refused _
  known_refusal report (unread f short r is) = subst IsKnown is (known_units f)
  known_refusal report (unscaled p short r e none) = of_units _
  known_refusal report (far p d w short r e is) = refused _

  -- the fault of a text
  pub text_refuses : (f : UnitFault) (report : UnitReport) → length bytes ≤ FILE → (f ≡ text.OutOfMemory) ⊎ Reads scales bytes (Err f)
      → report ≡ report_of_units f → (report ≡ shared out_of_memory) ⊎ RefusesUnits name bytes scales report
  text_refuses f report short h is = elim h [
    | inl none ↦ rw (is, none) (inl refl)
    | inr read ↦ inr (unread f short read (sym is))
  ]

  -- the fault of a query that looks too far
  pub reach_refuses : (parts : UnitParts) (decimals : ℕ) (f : ReachFault) (report : UnitReport) → length bytes ≤ FILE → Reads scales bytes (Ok parts)
      → 10 ^ decimals ≡ emitted_scale parts → IsTold (margins_of parts.core) f → report ≡ shared (report_of_reach f)
      → (report ≡ shared out_of_memory) ⊎ RefusesUnits name bytes scales report
  reach_refuses parts decimals (reach.TooFar back ahead) report short r e told is =
      rw is (inr (far parts decimals (record { back = back; ahead = ahead }) short r e told))
  reach_refuses parts decimals reach.OutOfMemory report short r e told is = inl is

-- a fault of a text that was read from the file of a name
module _ (tells : Type 0) (name file bytes : List ℕ) (scales : ScalesValue) (before after : ℕ) (whole : tells → bytes ≡ file) where
  by_known : (report : UnitReport) → IsKnown report → RefusesUnits name bytes scales report
      → IsUnitLoadFault tells name file scales before after report
  by_known report memory r = tt
  by_known report (refused why) r = λ t. subst (λ b. RefusesUnits name b scales (shared (refusal why))) (whole t) r
  by_known report (of_units fault) r = λ t. subst (λ b. RefusesUnits name b scales (own fault)) (whole t) r

  pub file_fault : (report : UnitReport) → (report ≡ shared out_of_memory) ⊎ RefusesUnits name bytes scales report
      → IsUnitLoadFault tells name file scales before after report
  file_fault report (inl none) = rw none tt
  file_fault report (inr r) = by_known report (known_refusal name bytes scales report r) r

-- a fault of the read of a file
pub read_fault : (tells : Type 0) (name file : List ℕ) (scales : ScalesValue) (before after : ℕ) (report : Report)
    → IsLoadFault tells (IsTooLong name file) (λ which. which ≡ name) before after report
    → IsUnitLoadFault tells name file scales before after (shared report)
read_fault tells name file scales before after report h =
    load_fault_weaker tells tells (IsTooLong name file) (λ why. RefusesUnits name file scales (shared (refusal why))) (λ which. which ≡ name)
    (λ which. which ≡ name) before after before after (λ t. t) (λ why t is. rw is.0 (long is.1)) (λ which rose same. (rose, same)) report h
