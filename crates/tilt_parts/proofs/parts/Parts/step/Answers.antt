use Rattle.std.proofs.Common.{◌≡◌, ◌++◌, ◌∷◌, ◌∙◌, [], false, true, length, slice_get, slice_set, refl, sym, ap, subst}
use Rattle.std.proofs.lemmas.List.{length-set}
use Rattle.std.proofs.lemmas.Option.{same_Some, slice_get_read}
use Rattle.tilt_parts.proofs.Lists.{on_err, on_ok, set-other, set-own, set-same}
use Rattle.tilt_parts.proofs.Named.{parts-after}
use Rattle.tilt_parts.specs.Part.{PartValue, is_finished}
use Rattle.tilt_parts.proofs.parts.Parts.step.Goals as goal

pub invariant_of-self : goal.invariant_of-self
invariant_of-self c =
    let all = c.self.inside.parts.items in
    let at = slice_get_read all (length all) c.args.part c.index_mut.result.now refl (rw c.self.view_is c.requires) c.index_mut.ensures.value in
    let is = c.self.invariant in (
      is.0,
      is.1,
      is.2,
      is.3 ++ c.args.part ∷ [],
      parts-after is.0 is.1 is.3 c.args.part c.step.result c.index_mut.result.now c.step.new.self c.step.ensures.stretch c.step.ensures.finished
          c.step.ensures.one_more c.step.ensures.refused c.step.ensures.for_good is.2 all at is.4,
    )

pub returns-clause-after : goal.returns-clause-after
returns-clause-after c = λ query rows cuts steps are.
    let all = c.self.inside.parts.items in
    let at = slice_get_read all (length all) c.args.part c.index_mut.result.now refl (rw c.self.view_is c.requires) c.index_mut.ensures.value in
    parts-after query rows steps c.args.part c.step.result c.index_mut.result.now c.step.new.self c.step.ensures.stretch c.step.ensures.finished
    c.step.ensures.one_more c.step.ensures.refused c.step.ensures.for_good cuts all at (rw c.self.view_is are)

pub returns-clause-others : goal.returns-clause-others
returns-clause-others c = λ other differs.
    set-other c.self.inside.parts.items c.args.part other c.step.new.self differs ∙ ap (λ l. slice_get l other) c.self.view_is

pub returns-clause-finished : goal.returns-clause-finished
returns-clause-finished c = λ old is granted done.
    let all = c.self.inside.parts.items in
    let at = slice_get_read all (length all) c.args.part c.index_mut.result.now refl (rw c.self.view_is c.requires) c.index_mut.ensures.value in
    let same : old ≡ c.index_mut.result.now = same_Some old c.index_mut.result.now (sym is ∙ (rw (← c.self.view_is) at)) in
    let kept = c.step.ensures.finished (subst (λ (p : PartValue). p.refused ≡ false) same granted) (subst (λ (p : PartValue). is_finished p ≡ true) same done) in
    (kept.0, ap (λ (p : PartValue). slice_set all c.args.part p) kept.1 ∙ set-same all c.args.part c.index_mut.result.now at ∙ c.self.view_is)

pub returns-clause-granted : goal.returns-clause-granted
returns-clause-granted c =
    let all = c.self.inside.parts.items in
    on_ok c.step.result (λ granted new is. subst (λ (p : PartValue). p.refused ≡ false)
    (same_Some c.step.new.self new (sym (set-own all c.args.part c.step.new.self (rw c.self.view_is c.requires)) ∙ is)) granted) c.step.ensures.granted

pub returns-clause-refused : goal.returns-clause-refused
returns-clause-refused c =
    let all = c.self.inside.parts.items in
    on_err c.step.result (λ refused new is. subst (λ (p : PartValue). p.refused ≡ true)
    (same_Some c.step.new.self new (sym (set-own all c.args.part c.step.new.self (rw c.self.view_is c.requires)) ∙ is)) refused) c.step.ensures.refused

pub returns-clause-for_good : goal.returns-clause-for_good
returns-clause-for_good c = λ old is refused.
    let all = c.self.inside.parts.items in
    let at = slice_get_read all (length all) c.args.part c.index_mut.result.now refl (rw c.self.view_is c.requires) c.index_mut.ensures.value in
    let same : old ≡ c.index_mut.result.now = same_Some old c.index_mut.result.now (sym is ∙ (rw (← c.self.view_is) at)) in
    c.step.ensures.for_good (subst (λ (p : PartValue). p.refused ≡ true) same refused)

pub returns-clause-many : goal.returns-clause-many
returns-clause-many c = length-set c.self.inside.parts.items c.args.part c.step.new.self ∙ ap length c.self.view_is

pub returns-clause-stretch : goal.returns-clause-stretch
returns-clause-stretch c = λ old is new now.
    let all = c.self.inside.parts.items in
    let at = slice_get_read all (length all) c.args.part c.index_mut.result.now refl (rw c.self.view_is c.requires) c.index_mut.ensures.value in
    let same : old ≡ c.index_mut.result.now = same_Some old c.index_mut.result.now (sym is ∙ (rw (← c.self.view_is) at)) in
    let fresh : c.step.new.self ≡ new = same_Some c.step.new.self new (sym (set-own all c.args.part c.step.new.self (rw c.self.view_is c.requires)) ∙ now) in
    ap (λ (p : PartValue). p.stretch) (sym fresh) ∙ c.step.ensures.stretch ∙ ap (λ (p : PartValue). p.stretch) (sym same)
