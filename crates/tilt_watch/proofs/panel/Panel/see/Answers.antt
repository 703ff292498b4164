use Rattle.std.proofs.Common.{◌<◌, ◌≤◌, ◌∙◌, length, length-set, refl, rules}
use Rattle.tilt_watch.proofs.Mid.{mid-first, mid-in_step, mid-list, mid-places, mid-step, mid-within}
use Rattle.tilt_watch.proofs.panel.Panel.see.Goals as goal

pub loop-i-init : goal.loop-i-init
loop-i-init g c = (mid-first _ _ _ (rw (← c.self.view_is) at c.requires), refl)

pub see_at-at-requires : goal.see_at-at-requires
see_at-at-requires g c =
    let within : c.loop-i.i < length c.self.inside.places.items = search rules in
    λ figures is.
    mid-within _ c.loop-i.list.items _ _ _ c.loop-i.self-inside.places.items c.loop-i.i c.loop-i.at c.loop-i.invariant.0 c.index_mut.result.now figures
    (rw c.loop-i.invariant.1 within) c.index_mut.ensures.value is

pub loop-i-preserved : goal.loop-i-preserved
loop-i-preserved g c =
    let within : c.loop-i.i < length c.self.inside.places.items = search rules in (
      mid-step _ _ _ c.loop-i.self-inside.places.items _ c.loop-i.i c.loop-i.at c.loop-i.invariant.0 c.index_mut.result.now c.see_at-at.new.place _ c.see_at-at.result
          (rw c.loop-i.invariant.1 within) c.index_mut.ensures.value c.see_at-at.ensures.dropped c.see_at-at.ensures.watching,
      length-set c.loop-i.self-inside.places.items c.loop-i.i c.see_at-at.new.place ∙ c.loop-i.invariant.1,
    )

pub returns-clause-places : goal.returns-clause-places
returns-clause-places g c =
    let all : length c.self.inside.places.items ≤ c.loop-i.i = search rules in
    rw (← c.self.view_is) (mid-places _ _ _ c.loop-i.self-inside.places.items _ c.loop-i.i c.loop-i.at c.loop-i.invariant.0 (rw c.loop-i.invariant.1 all))

pub returns-clause-list : goal.returns-clause-list
returns-clause-list g c =
    let all : length c.self.inside.places.items ≤ c.loop-i.i = search rules in
    mid-list _ _ _ c.loop-i.self-inside.places.items _ c.loop-i.i c.loop-i.at c.loop-i.invariant.0 (rw c.loop-i.invariant.1 all)

pub returns-clause-in_step : goal.returns-clause-in_step
returns-clause-in_step g c =
    let all : length c.self.inside.places.items ≤ c.loop-i.i = search rules in
    mid-in_step _ _ _ c.loop-i.self-inside.places.items _ c.loop-i.i c.loop-i.at c.loop-i.invariant.0 (rw (← c.self.view_is) at c.requires) (rw c.loop-i.invariant.1 all)
