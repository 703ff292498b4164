use Rattle.std.proofs.Common.{◌≡◌, ◌++◌, ◌∷◌, ◌∙◌, [], List, ℕ, false, refl, sym, subst, append-nil, append_assoc}
use Rattle.tilt_parts.proofs.Left.{left-falls}
use Rattle.tilt_parts.proofs.Lists.{all-after}
use Rattle.tilt_parts.specs.Part.{PartValue}
use Rattle.tilt_parts.specs.Parts.{AreParts}
use Rattle.tilt_parts.proofs.parts.Parts.finish_part.Goals as goal

pub loop-self-init : goal.loop-self-init
loop-self-init c = record {
  many = refl;
  granted = c.requires.granted;
  others = λ other differs. refl;
  after = λ query rows cuts steps are. ([], subst (λ (l : List ℕ). AreParts query rows cuts l c.args.self.now) (sym (append-nil steps)) are);
}

pub loop-self-preserved : goal.loop-self-preserved
loop-self-preserved c = record {
  many = c.in_ok-step.ensures.many ∙ c.loop-self.invariant.many;
  granted = all-after (λ (p : PartValue). p.refused ≡ false) c.loop-self.self c.step.new.self c.args.part c.loop-self.invariant.granted
      c.in_ok-step.ensures.others c.in_ok-step.ensures.granted;
  others = λ other differs. c.in_ok-step.ensures.others other differs ∙ c.loop-self.invariant.others other differs;
  after = λ query rows cuts steps are.
      let so_far = c.loop-self.invariant.after query rows cuts steps are in (
        so_far.0 ++ c.args.part ∷ [],
        subst (λ (l : List ℕ). AreParts query rows cuts l c.step.new.self) (append_assoc steps so_far.0 (c.args.part ∷ []))
            (c.in_ok-step.ensures.after query rows cuts (steps ++ so_far.0) so_far.1),
      );
}

pub loop-self-smaller : goal.loop-self-smaller
loop-self-smaller c =
    let k = c.finished.ensures.kept in
    left-falls k.0 k.1 k.3 k.2 c.loop-self.self c.step.new.self c.args.part k.4 (c.in_ok-step.ensures.after k.0 k.1 k.2 k.3 k.4)
    (rw c.loop-self.invariant.many c.requires.within) c.in_ok-step.ensures.many c.loop-self.invariant.granted
    (all-after (λ (p : PartValue). p.refused ≡ false) c.loop-self.self c.step.new.self c.args.part c.loop-self.invariant.granted
    c.in_ok-step.ensures.others c.in_ok-step.ensures.granted)
    c.in_ok-step.ensures.stretch (λ p is. sym (c.finished.ensures.value p is) ∙ c.loop-self-test.true)

pub returns-in_err-step-clause-after : goal.returns-in_err-step-clause-after
returns-in_err-step-clause-after c = λ query rows cuts steps are.
    let so_far = c.loop-self.invariant.after query rows cuts steps are in (
      so_far.0 ++ c.args.part ∷ [],
      subst (λ (l : List ℕ). AreParts query rows cuts l c.step.new.self) (append_assoc steps so_far.0 (c.args.part ∷ []))
          (c.in_err-step.ensures.after query rows cuts (steps ++ so_far.0) so_far.1),
    )
