use Rattle.std.proofs.Common.{◌≡◌, ◌∷◌, ◌∙◌, ap, sym, List}
use Rattle.std.proofs.lemmas.Bool.{false≢true}
use Rattle.std.proofs.lemmas.List.{nil_from_length}
use Rattle.std.specs.List.{list_all}
use Rattle.tilt_parts.proofs.Lists.{all-true, true-all}
use Rattle.tilt_parts.proofs.Output.{first-midway, joined-is, output-is, stand-some, stream_given}
use Rattle.tilt_parts.specs.Part.{PartValue, is_finished}
use Rattle.tilt_parts.proofs.parts.Parts.joined.Goals.{in_default-via-in-Some+else-finished, in_default-via-in_default}
use Rattle.tilt_parts.proofs.parts.Parts.joined.Goals as goal

pub joined-requires : goal.joined-requires
joined-requires c =
    let q = c.self.invariant in
    let all = c.args.self.now in
    let are = rw c.self.view_is at q.4 in
    let done = all-true is_finished all
    (ap (λ (l : List PartValue). list_all is_finished l) (sym (c.deref.ensures.value ∙ c.self.view_is)) ∙ sym c.are_finished-finished.ensures ∙ c.if-finished.true) in
    let parted : all ≡ c.in-Some.first.now ∷ c.in-Some.later.now = sym (c.deref-2.ensures.value ∙ c.self.view_is) ∙ c.in-Some.ensures.cases.0 in
    let midway = first-midway q.0 q.1 q.3 q.2 all are c.requires.granted done c.in-Some.first.now c.in-Some.later.now parted in
    (stream_given q.0 q.1, are.domain.start, are.domain.end, rw (ap (λ (p : PartValue). p.taken) c.first.view_is) midway)

pub returns-in_ok-joined-in-Some-clause-finished : goal.returns-in_ok-joined-in-Some-clause-finished
returns-in_ok-joined-in-Some-clause-finished c =
    all-true is_finished c.args.self.now
    (ap (λ (l : List PartValue). list_all is_finished l) (sym (c.deref.ensures.value ∙ c.self.view_is)) ∙ sym c.are_finished-finished.ensures ∙ c.if-finished.true)

pub returns-in_ok-joined-in-Some-clause-joined : goal.returns-in_ok-joined-in-Some-clause-joined
returns-in_ok-joined-in-Some-clause-joined c =
    let q = c.self.invariant in
    let all = c.args.self.now in
    let are = rw c.self.view_is at q.4 in
    let done = all-true is_finished all
    (ap (λ (l : List PartValue). list_all is_finished l) (sym (c.deref.ensures.value ∙ c.self.view_is)) ∙ sym c.are_finished-finished.ensures ∙ c.if-finished.true) in
    let parted : all ≡ c.in-Some.first.now ∷ c.in-Some.later.now = sym (c.deref-2.ensures.value ∙ c.self.view_is) ∙ c.in-Some.ensures.cases.0 in
    let midway = first-midway q.0 q.1 q.3 q.2 all are c.requires.granted done c.in-Some.first.now c.in-Some.later.now parted in
    joined-is q.0 q.1 q.3 q.2 all are c.requires.granted done c.in_ok-joined-in-Some.field-0
    (c.in_ok-joined-in-Some.ensures (stream_given q.0 q.1) are.domain.start are.domain.end (rw (ap (λ (p : PartValue). p.taken) c.first.view_is) midway))

pub returns-in_ok-joined-in-Some-clause-whole : goal.returns-in_ok-joined-in-Some-clause-whole
returns-in_ok-joined-in-Some-clause-whole c = λ query rows cuts steps are.
    let all = c.args.self.now in
    let done = all-true is_finished all
    (ap (λ (l : List PartValue). list_all is_finished l) (sym (c.deref.ensures.value ∙ c.self.view_is)) ∙ sym c.are_finished-finished.ensures ∙ c.if-finished.true) in
    let parted : all ≡ c.in-Some.first.now ∷ c.in-Some.later.now = sym (c.deref-2.ensures.value ∙ c.self.view_is) ∙ c.in-Some.ensures.cases.0 in
    let midway = first-midway query rows steps cuts all are c.requires.granted done c.in-Some.first.now c.in-Some.later.now parted in
    output-is query rows steps cuts all are c.requires.granted done c.in_ok-joined-in-Some.field-0
    (c.in_ok-joined-in-Some.ensures (stream_given query rows) are.domain.start are.domain.end (rw (ap (λ (p : PartValue). p.taken) c.first.view_is) midway))

pub returns-in_default-clause-finished : goal.returns-in_default-clause-finished
returns-in_default-clause-finished c = λ all. elim c.in_default.branch [
  | in_default-via-in-Some+else-finished w ↦ false≢true (sym w.if-finished.false ∙ c.are_finished-finished.ensures
      ∙ ap (λ (l : List PartValue). list_all is_finished l) (c.deref.ensures.value ∙ c.self.view_is) ∙ true-all is_finished c.args.self.now all)
  | in_default-via-in_default w ↦
      stand-some c.self.invariant.0 c.self.invariant.1 c.self.invariant.3 c.self.invariant.2 c.self.inside.parts.items
      (sym c.deref-2.ensures.value ∙ nil_from_length c.deref-2.result.now w.in_default.ensures.cases) c.self.invariant.4
]
