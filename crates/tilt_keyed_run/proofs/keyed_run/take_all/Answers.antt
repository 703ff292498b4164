use Rattle.std.proofs.Common.{get_or, ◌<◌, ◌≤◌, ◌∙◌, length, arith, refl}
use Rattle.std.proofs.lemmas.List.{length-set}
use Rattle.std.proofs.lemmas.Option.{slice_get-get_or}
use Rattle.tilt_keyed_run.proofs.Alongs.{along-end, along-first, along-here, along-more}
use Rattle.tilt_keyed_run.proofs.keyed_run.take_all.Goals as goal

pub loop-place-init : goal.loop-place-init
loop-place-init g c = record {
  along = λ recipe feeds are. along-first g.R.KeyRun.is recipe (g.R.KeyRun.first recipe) (g.R.KeyRun.added recipe) (g.R.KeyRun.fault recipe) c.args.line.now
      feeds c.args.output.now.items c.args.keys.now are;
  many = refl;
}

pub take_line-requires : goal.take_line-requires
take_line-requires g c =
    let ones = c.loop-place.keys in
    let place = c.loop-place.place in
    let one = get_or ones place c.index-keys-place.result in
    let inv = c.loop-place.invariant in
    let below : place < length ones = omega (arith, inv.many, c.loop-place-test.true, c.loop-place.auto.place-end) in
    let at = slice_get-get_or ones place c.index-keys-place.result below in
    let recipe = c.requires.0 in
    let here = along-here g.R.KeyRun.is recipe (g.R.KeyRun.first recipe) (g.R.KeyRun.added recipe) (g.R.KeyRun.fault recipe) c.args.line.now
    c.requires.1 c.args.output.now.items place ones c.loop-place.output.items c.loop-place.first one (inv.along recipe c.requires.1 c.requires.2) below at in
    (recipe, here.0, here.1)

pub loop-place-preserved : goal.loop-place-preserved
loop-place-preserved g c =
    let ones = c.loop-place.keys in
    let place = c.loop-place.place in
    let one = get_or ones place c.index-keys-place.result in
    let inv = c.loop-place.invariant in
    let e = c.in_ok-why.ensures in
    let below : place < length ones = omega (arith, inv.many, c.loop-place-test.true, c.loop-place.auto.place-end) in
    let at = slice_get-get_or ones place c.index-keys-place.result below in
    record {
      along = λ recipe feeds are. rw c.or-first.ensures
          (along-more g.R.KeyRun.is recipe (g.R.KeyRun.first recipe) (g.R.KeyRun.added recipe) (g.R.KeyRun.fault recipe) c.args.line.now
          feeds c.args.output.now.items place ones c.loop-place.output.items c.loop-place.first one c.take_line.new.one c.take_line.new.output.items _
          (inv.along recipe feeds are) below at
          (record { keeps = λ feed k. e.is recipe feed k; wrote = λ feed k. e.output recipe feed k; bad = λ feed k. e.bad recipe feed k }));
      many = length-set ones place c.take_line.new.one ∙ inv.many;
    }

pub returns-clause-is : goal.returns-clause-is
returns-clause-is g c = λ recipe feeds are.
    let end : length c.loop-place.keys ≤ c.loop-place.place = omega (arith, c.loop-place.invariant.many, c.loop-place-test.false, c.loop-place.auto.place-end) in
    (along-end g.R.KeyRun.is recipe (g.R.KeyRun.first recipe) (g.R.KeyRun.added recipe) (g.R.KeyRun.fault recipe) c.args.line.now
    feeds c.args.output.now.items c.loop-place.place c.loop-place.keys c.loop-place.output.items c.loop-place.first (c.loop-place.invariant.along recipe feeds are) end).keys

pub returns-clause-output : goal.returns-clause-output
returns-clause-output g c = λ recipe feeds are.
    let end : length c.loop-place.keys ≤ c.loop-place.place = omega (arith, c.loop-place.invariant.many, c.loop-place-test.false, c.loop-place.auto.place-end) in
    (along-end g.R.KeyRun.is recipe (g.R.KeyRun.first recipe) (g.R.KeyRun.added recipe) (g.R.KeyRun.fault recipe) c.args.line.now
    feeds c.args.output.now.items c.loop-place.place c.loop-place.keys c.loop-place.output.items c.loop-place.first (c.loop-place.invariant.along recipe feeds are) end).wrote

pub returns-clause-bad : goal.returns-clause-bad
returns-clause-bad g c = λ recipe feeds are.
    let end : length c.loop-place.keys ≤ c.loop-place.place = omega (arith, c.loop-place.invariant.many, c.loop-place-test.false, c.loop-place.auto.place-end) in
    (along-end g.R.KeyRun.is recipe (g.R.KeyRun.first recipe) (g.R.KeyRun.added recipe) (g.R.KeyRun.fault recipe) c.args.line.now
    feeds c.args.output.now.items c.loop-place.place c.loop-place.keys c.loop-place.output.items c.loop-place.first (c.loop-place.invariant.along recipe feeds are) end).bad
