-- A query file in units is one query with one number of decimals, or it is rejected for one reason.
use Rattle.std.proofs.Common.{◌≡◌, ℕ, List, Result, Ok, Err, refl, sym, ap, ◌∙◌, arith}
use Rattle.tilt_bounds.specs.Margins.{MarginsParts, margins_of}
use Rattle.tilt_core.specs.Core.{CoreParts}
use Rattle.tilt_core.specs.Needs.{Need}
use Rattle.tilt_input_scales.specs.Scales.{ScalesValue}
use Rattle.tilt_report.specs.Report.{refusal, too_far}
use Rattle.tilt_syntax.specs.Tree.{StatementTree}
use Rattle.tilt_unit_load.proofs.Powers.{powers_apart}
use Rattle.tilt_unit_load.specs.UnitFile.{IsLoadedInUnits, RefusesUnits, long, unread, unscaled, far, emitted_scale}
use Rattle.tilt_unit_load.specs.UnitReport.{UnitReport, shared, own, report_of_units}
use Rattle.tilt_unit_load.specs.declared.fault.UnitFileFault.TheVariants.{OutputScale}
use Rattle.tilt_unit_text.proofs.Answers.{one_reading}
use Rattle.tilt_unit_text.specs.Reading.{Reads}
use Rattle.tilt_unit_text.specs.Units.{UnitParts}
use Rattle.tilt_unit_text.specs.declared.fault.UnitFault.{UnitFault}

same_parts : (p q : UnitParts) → (let r : Result UnitParts UnitFault = Ok p in r ≡ Ok q) → p ≡ q
same_parts p q e = cc

same_fault : (f g : UnitFault) → (let r : Result UnitParts UnitFault = Err f in r ≡ Err g) → f ≡ g
same_fault f g e = cc

read_or_fault : (p : UnitParts) (f : UnitFault) → (let r : Result UnitParts UnitFault = Ok p in r ≡ Err f) → ⊥
read_or_fault p f e = absurd (cc e)

near_or_far : (core : CoreParts) (margins : MarginsParts) (widest : Need) → margins_of core ≡ Ok margins → margins_of core ≡ Err widest → ⊥
near_or_far core margins widest e f = absurd (cc (e, f))

same_far : (c d : CoreParts) (m n : Need) → c ≡ d → margins_of c ≡ Err m → margins_of d ≡ Err n → m ≡ n
same_far c d m n e f g = cc

module _ (bytes : List ℕ) (scales : ScalesValue) where
  one_query : (p q : UnitParts) → Reads scales bytes (Ok p) → Reads scales bytes (Ok q) → p ≡ q
  one_query p q r s = same_parts p q (one_reading r s)

  pub one_loaded : (p q : List StatementTree) (c d : CoreParts) (m n : ℕ) → IsLoadedInUnits bytes scales p c m → IsLoadedInUnits bytes scales q d n
      → (p ≡ q) × (c ≡ d) × (m ≡ n)
  one_loaded p q c d m n l k =
      let all : UnitParts = record { query = p; core = c; quantities = l.quantities } in
      let others : UnitParts = record { query = q; core = d; quantities = k.quantities } in
      let same = one_query all others l.reads k.reads in (
        ap (λ (x : UnitParts). x.query) same,
        ap (λ (x : UnitParts). x.core) same,
        powers_apart m n (l.scaled ∙ ap emitted_scale same ∙ sym k.scaled),
      )

  module _ (name : List ℕ) where
    pub not_both : (query : List StatementTree) (core : CoreParts) (decimals : ℕ) (report : UnitReport)
        → IsLoadedInUnits bytes scales query core decimals → RefusesUnits name bytes scales report → ⊥
    not_both query core decimals report l (long over) = absurd (omega (arith, over, l.short))
    not_both query core decimals report l (unread f short r is) =
        read_or_fault (record { query = query; core = core; quantities = l.quantities }) f (one_reading l.reads r)
    not_both query core decimals report l (unscaled parts short r e none) =
        let all : UnitParts = record { query = query; core = core; quantities = l.quantities } in
        none decimals (l.scaled ∙ ap emitted_scale (one_query all parts l.reads r) ∙ e)
    not_both query core decimals report l (far parts d widest short r e is) =
        let all : UnitParts = record { query = query; core = core; quantities = l.quantities } in
        let same = ap (λ (x : UnitParts). margins_of x.core) (one_query all parts l.reads r) in
        near_or_far core l.margins widest l.near (same ∙ is)

    one_fault : (f g : UnitFault) (r s : UnitReport) → Reads scales bytes (Err f) → Reads scales bytes (Err g) → report_of_units f ≡ r
        → report_of_units g ≡ s → r ≡ s
    one_fault f g r s a b e h = sym e ∙ ap report_of_units (same_fault f g (one_reading a b)) ∙ h

    pub one_reason : (r s : UnitReport) → RefusesUnits name bytes scales r → RefusesUnits name bytes scales s → r ≡ s
    one_reason r s (long over) (long over') = refl
    one_reason r s (long over) (unread f short a is) = absurd (omega (arith, over, short))
    one_reason r s (long over) (unscaled p short a e none) = absurd (omega (arith, over, short))
    one_reason r s (long over) (far p d w short a e is) = absurd (omega (arith, over, short))
    one_reason r s (unread f short a is) (long over) = absurd (omega (arith, over, short))
    one_reason r s (unread f short a is) (unread g short' b is') = one_fault f g r s a b is is'
    one_reason r s (unread f short a is) (unscaled q short' b e none) = absurd (read_or_fault q f (one_reading b a))
    one_reason r s (unread f short a is) (far q d w short' b e is') = absurd (read_or_fault q f (one_reading b a))
    one_reason r s (unscaled p short a e none) (long over) = absurd (omega (arith, over, short))
    one_reason r s (unscaled p short a e none) (unread g short' b is') = absurd (read_or_fault p g (one_reading a b))
    one_reason r s (unscaled p short a e none) (unscaled q short' b e' none') =
        ap (λ (scale : ℕ). own (OutputScale scale)) (sym e ∙ ap emitted_scale (one_query p q a b) ∙ e')
    one_reason r s (unscaled p short a e none) (far q d w short' b e' is') =
        absurd (none d (e' ∙ ap emitted_scale (sym (one_query p q a b)) ∙ e))
    one_reason r s (far p d w short a e is) (long over) = absurd (omega (arith, over, short))
    one_reason r s (far p d w short a e is) (unread g short' b is') = absurd (read_or_fault p g (one_reading a b))
    one_reason r s (far p d w short a e is) (unscaled q short' b e' none') =
        absurd (none' d (e ∙ ap emitted_scale (one_query p q a b) ∙ e'))
    one_reason r s (far p d w short a e is) (far q d' w' short' b e' is') =
        let cores = ap (λ (x : UnitParts). x.core) (one_query p q a b) in
        ap (λ (n : Need). shared (refusal (too_far n.back n.ahead))) (same_far p.core q.core w w' cores is is')
