use Rattle.std.proofs.Common.{rules, ◌≡◌, List, ℕ, sym, subst}
use Rattle.tilt_feed_form.specs.declared.feed_form.FeedForm.TheVariants.{Readings}
use Rattle.tilt_run_state.specs.Rejection.{BeginsBeside}
use Rattle.tilt_run_state.specs.Spelling.{opening}
use Rattle.tilt_run_state.proofs.reading.begins_otherwise.Goals as goal

pub returns-in_ok-put_readings_opening-in-Readings : goal.returns-in_ok-put_readings_opening-in-Readings
returns-in_ok-put_readings_opening-in-Readings c =
    let text = c.args.text.now in
    let front : c.deref.result.now ≡ opening (Readings c.in-Readings.setup) = search rules in
    rw c.in-Readings.is (
      λ h. subst (λ (f : List ℕ). BeginsBeside f text) front (c.begins_beside.ensures.0 h),
      λ otherwise. c.begins_beside.ensures.1 (subst (λ (f : List ℕ). BeginsBeside f text) (sym front) otherwise),
    )
