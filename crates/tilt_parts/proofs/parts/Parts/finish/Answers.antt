use Rattle.std.proofs.Common.{◌≡◌, ◌++◌, ◌∙◌, List, ℕ, length, true, ap, subst, arith, append_assoc}
use Rattle.std.proofs.lemmas.Option.{slice_get_within}
use Rattle.tilt_base.proofs.Lists.{all-each}
use Rattle.tilt_parts.proofs.Lists.{up-to-next}
use Rattle.tilt_parts.specs.Part.{PartValue, is_finished}
use Rattle.tilt_parts.specs.Parts.{AreParts}
use Rattle.tilt_parts.proofs.parts.Parts.finish.Goals as goal

pub loop-part-preserved : goal.loop-part-preserved
loop-part-preserved c = record {
  many = c.in_ok-finish_part.ensures.many ∙ c.loop-part.invariant.many;
  granted = c.in_ok-finish_part.ensures.granted;
  finished = up-to-next (λ (p : PartValue). is_finished p ≡ true) c.loop-part.self c.finish_part.new.self c.loop-part.part c.loop-part.invariant.finished
      c.in_ok-finish_part.ensures.others c.in_ok-finish_part.ensures.finished;
  after = λ query rows cuts steps are.
      let so_far = c.loop-part.invariant.after query rows cuts steps are in
      let more = c.in_ok-finish_part.ensures.after query rows cuts (steps ++ so_far.0) so_far.1 in
      (so_far.0 ++ more.0, subst (λ (l : List ℕ). AreParts query rows cuts l c.finish_part.new.self) (append_assoc steps so_far.0 more.0) more.1);
}

pub returns-clause-finished : goal.returns-clause-finished
returns-clause-finished c =
    all-each (λ (p : PartValue). is_finished p ≡ true) c.loop-part.self (λ place part is.
    let within = slice_get_within c.loop-part.self place part is in
    let many = c.loop-part.invariant.many in
    let same = ap length c.self.view_is in
    let past = c.loop-part-test.false in
    let counted = c.len-part-end.ensures in
    c.loop-part.invariant.finished place (omega arith) part is)

pub returns-in_err-finish_part-clause-after : goal.returns-in_err-finish_part-clause-after
returns-in_err-finish_part-clause-after c = λ query rows cuts steps are.
    let so_far = c.loop-part.invariant.after query rows cuts steps are in
    let more = c.in_err-finish_part.ensures.after query rows cuts (steps ++ so_far.0) so_far.1 in
    (so_far.0 ++ more.0, subst (λ (l : List ℕ). AreParts query rows cuts l c.finish_part.new.self) (append_assoc steps so_far.0 more.0) more.1)
