-- What is made of a query is its code: it keeps what a code keeps, and means what the query means.
use Rattle.std.proofs.Common.{◌≡◌, ℕ, ◌≤◌, ℤ, List, length, map, take, Ok, sym, ◌∙◌, arith, subst}
use Rattle.std.specs.List.{AllByRecursion}
use Rattle.std.proofs.lemmas.List.{take_all, length-map}
use Rattle.tilt_bounds.proofs.Margin.{margins-needs}
use Rattle.tilt_bounds.specs.Margins.{MarginsParts, margins_of}
use Rattle.tilt_code.proofs.Runs.{loops-timed}
use Rattle.tilt_code.specs.Code.{LoopParts, CodeParts}
use Rattle.tilt_code.specs.References.{IsCode}
use Rattle.tilt_fuse.specs.FusedTree.{PlannedLoop}
use Rattle.tilt_lower.proofs.Kept.{code-is}
use Rattle.tilt_lower.proofs.Planned.{output-of, sources_used, known, few-all, lowered-all, some-loops}
use Rattle.tilt_lower.proofs.Theorem.{means}
use Rattle.tilt_lower.specs.Law.{IsPlan, LiesWithin, MeansTheQuery}
use Rattle.tilt_lower.specs.Constants.{ConstantsFit}
use Rattle.tilt_lower.specs.Lowering.{lowered, code_of}
use Rattle.tilt_core.specs.Core.{CoreParts, IsCore, domain_of}
use Rattle.tilt_core.specs.Needs.{needs}

module _ (query : CoreParts) (margins : MarginsParts) (lo hi : ℤ) (is : IsCore query) (margins_is : margins_of query ≡ Ok margins) (within : LiesWithin (domain_of query.defs) lo hi)
    (loops : List PlannedLoop) (plan : IsPlan query loops) where
  abbrev needs_are : margins.needs ≡ needs (length query.inputs) query.defs
  needs_are = margins-needs query margins margins_is

  code_of-is : AllByRecursion ConstantsFit (code_of loops query margins lo hi).loops → IsCode (code_of loops query margins lo hi)
  code_of-is fit =
      let bounds = output-of query lo hi is within in
      let few = few-all query margins lo hi is margins_is loops plan in
      let fewer = is.few in
      code-is query margins lo hi (sources_used query margins lo hi is margins_is loops plan) (known query margins lo hi is margins_is loops plan) needs_are plan.0 loops plan.1
      bounds.0 bounds.1 bounds.2 is (omega arith) (lowered-all query margins lo hi is margins_is loops plan)
      (omega (arith, length-map loops (lowered loops query margins lo hi), some-loops query margins lo hi is margins_is loops plan)) fit

  code_of-means : IsCode (code_of loops query margins lo hi) → MeansTheQuery query margins loops lo hi (code_of loops query margins lo hi)
  code_of-means code =
      means query margins lo hi (sources_used query margins lo hi is margins_is loops plan) (known query margins lo hi is margins_is loops plan) needs_are plan.0 loops plan.1 is.one_emitted
      (loops-timed (code_of loops query margins lo hi).loops code.grammatical.loops) within

  module _ (names : List (List ℕ)) (made : List LoopParts) (from to : ℤ) (done : ℕ) (names_are : names ≡ query.inputs) (from_is : from ≡ lo) (to_is : to ≡ hi) (all : length loops ≤ done)
      (made_are : made ≡ map (lowered loops query margins from to) (take done loops)) where
    abbrev whole : CodeParts
    whole = record { inputs = names; loops = made }

    -- the code that is made
    pub whole-is : whole ≡ code_of loops query margins lo hi
    whole-is =
        (λ i. record { inputs = names_are i; loops = made_are i })
        ∙ (λ i. record { inputs = query.inputs; loops = map (lowered loops query margins (from_is i) (to_is i)) (take_all done loops all i) })

    pub whole-kept : AllByRecursion ConstantsFit made → IsCode whole
    whole-kept fit =
        subst (λ (code : CodeParts). IsCode code) (sym whole-is)
        (code_of-is (subst (λ (code : CodeParts). AllByRecursion ConstantsFit code.loops) whole-is fit))

    pub whole-means : AllByRecursion ConstantsFit made → MeansTheQuery query margins loops lo hi whole
    whole-means fit =
        subst (λ (code : CodeParts). MeansTheQuery query margins loops lo hi code) (sym whole-is)
        (code_of-means (code_of-is (subst (λ (code : CodeParts). AllByRecursion ConstantsFit code.loops) whole-is fit)))
