use Rattle.std.proofs.Common.{◌≡◌, ◌∙◌, length, map, ap, refl, w64}
use Rattle.std.proofs.lemmas.Int.{to_z-of_z}
use Rattle.std.proofs.lemmas.List.{with_items_is}
use Rattle.tilt_engine.proofs.Fed.{fed-later, fed-rises}
use Rattle.tilt_engine.specs.FedRows.{left_inlet}
use Rattle.tilt_engine.proofs.fed_rows.FedRows.forget.Goals as goal

pub returns-then-rows_held-self : goal.returns-then-rows_held-self
returns-then-rows_held-self c = record { keeps = λ lower feed on is. fed-rises c.args.self.now lower c.args.first feed on is }

pub returns : goal.returns
returns c = record {
  keeps = λ lower feed on is.
      let inputs = c.args.self.now.inputs in
      let items = c.forget_below.new.inputs in
      let many : length items ≡ inputs.len = c.forget_below.auto.inputs ∙ c.deref_mut.ensures.len in
      fed-later c.args.self.now _ lower c.args.first feed on is refl
      (with_items_is inputs items many ∙ rw (to_z-of_z w64 c.args.first c.ranges.first) at c.in_ok-forget_below.ensures ∙ ap (map (left_inlet c.args.first)) c.deref_mut.ensures.value);
}
