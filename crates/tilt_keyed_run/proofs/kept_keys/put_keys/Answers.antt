use Rattle.std.proofs.Common.{get_or, ◌<◌, ◌≤◌, ◌∙◌, length, arith, refl}
use Rattle.std.proofs.lemmas.List.{length-set}
use Rattle.std.proofs.lemmas.Option.{slice_get-get_or}
use Rattle.tilt_keyed_run.proofs.Puttings.{putting-end, putting-first, putting-here, putting-more}
use Rattle.tilt_keyed_run.proofs.kept_keys.put_keys.Goals as goal

pub loop-place-init : goal.loop-place-init
loop-place-init g c = record {
  putting = λ feeds are. putting-first g.R.KeyRun.is c.args.recipe.now (g.R.KeptRun.state c.args.recipe.now) feeds c.args.text.now.items c.args.keys.now are;
  many = refl;
}

pub put_one-requires : goal.put_one-requires
put_one-requires g c =
    let ones = c.loop-place.keys in
    let place = c.loop-place.place in
    let recipe = c.args.recipe.now in
    let one = get_or ones place c.index-keys-place.result in
    let inv = c.loop-place.invariant in
    let below : place < length ones = omega (arith, inv.many, c.loop-place-test.true, c.loop-place.auto.place-end) in
    let at = slice_get-get_or ones place c.index-keys-place.result below in
    putting-here g.R.KeyRun.is recipe (g.R.KeptRun.state recipe) c.requires.0 c.args.text.now.items place ones c.loop-place.text.items one (inv.putting c.requires.0 c.requires.1) below at

pub loop-place-preserved : goal.loop-place-preserved
loop-place-preserved g c =
    let ones = c.loop-place.keys in
    let place = c.loop-place.place in
    let recipe = c.args.recipe.now in
    let one = get_or ones place c.index-keys-place.result in
    let inv = c.loop-place.invariant in
    let e = c.in_ok-put_one.ensures in
    let below : place < length ones = omega (arith, inv.many, c.loop-place-test.true, c.loop-place.auto.place-end) in
    let at = slice_get-get_or ones place c.index-keys-place.result below in
    record {
      putting = λ feeds are. putting-more g.R.KeyRun.is recipe (g.R.KeptRun.state recipe) feeds c.args.text.now.items place ones c.loop-place.text.items one c.put_one.new.one
          c.put_one.new.text.items (inv.putting feeds are) below at (record { keeps = λ feed k. e.goes_on feed k; wrote = λ feed k. e.text feed k });
      many = length-set ones place c.put_one.new.one ∙ inv.many;
    }

pub returns-clause-text : goal.returns-clause-text
returns-clause-text g c = λ feeds are.
    let end : length c.loop-place.keys ≤ c.loop-place.place = omega (arith, c.loop-place.invariant.many, c.loop-place-test.false, c.loop-place.auto.place-end) in
    (putting-end g.R.KeyRun.is c.args.recipe.now (g.R.KeptRun.state c.args.recipe.now) feeds c.args.text.now.items c.loop-place.place c.loop-place.keys c.loop-place.text.items
    (c.loop-place.invariant.putting feeds are) end).wrote

pub returns-clause-goes_on : goal.returns-clause-goes_on
returns-clause-goes_on g c = λ feeds are.
    let end : length c.loop-place.keys ≤ c.loop-place.place = omega (arith, c.loop-place.invariant.many, c.loop-place-test.false, c.loop-place.auto.place-end) in
    (putting-end g.R.KeyRun.is c.args.recipe.now (g.R.KeptRun.state c.args.recipe.now) feeds c.args.text.now.items c.loop-place.place c.loop-place.keys c.loop-place.text.items
    (c.loop-place.invariant.putting feeds are) end).keys
