use Rattle.std.proofs.Common.{◌∙◌, ◌++◌, ◌∷◌, [], List, ℕ, suc, ◌<◌, length, map, take, drop, inr, sym, ap, get_or, subst}
use Rattle.std.specs.Prelude.{option_map}
use Rattle.std.proofs.lemmas.List.{map-append, take_more}
use Rattle.tilt_keyed_run.proofs.Resumings.{none-resumed, parts_at, resumed-push}
use Rattle.tilt_keyed_run.specs.States.{RejectsKey}
use Rattle.tilt_keyed_state.specs.State.{KeyStateParts, KeyedStateParts}
use Rattle.tilt_keyed_run.proofs.resumed_keys.resume_state.Goals as goal

pub loop-one-init : goal.loop-one-init
loop-one-init g c =
    let recipe = c.args.recipe.now in
    let fresh = c.new-run.ensures.is recipe in
    record {
      resumed = none-resumed g.R.KeyRun.is (g.R.KeptRun.state recipe) recipe c.new-run.result.keys.items fresh.keys_are;
      places = fresh.places_are;
      shared = rw (← c.state.view_is) (c.in_ok-run.ensures);
      max = c.new-run.ensures.max;
    }

pub returns-in-Err-clause-rejected : goal.returns-in-Err-clause-rejected
returns-in-Err-clause-rejected g c =
    let keys = c.args.state.now.keys in
    let i = c.loop-one.one-index in
    let k = c.one-item.result in
    let same = c.deref-one-items.ensures.value ∙ ap (λ (s : KeyedStateParts). s.keys) c.state.view_is in
    let below = subst (λ (ks : List KeyStateParts). i < length ks) same c.loop-one-test.true in
    let here = c.one-item.is ∙ ap (λ (ks : List KeyStateParts). get_or ks i k) same in
    let parts = parts_at keys i k below ∙ ap (λ (j : KeyStateParts). take i keys ++ j ∷ drop (suc i) keys) (sym here) in
    inr (
      take i keys,
      k,
      drop (suc i) keys,
      parts,
      subst (λ (places : List (List ℕ)). RejectsKey (g.R.KeptRun.rejects c.args.recipe.now) places k c.in-Err.why) c.loop-one.invariant.places c.in-Err.ensures.rejected,
    )

pub loop-one-preserved : goal.loop-one-preserved
loop-one-preserved g c =
    let recipe = c.args.recipe.now in
    let keys = c.args.state.now.keys in
    let i = c.loop-one.one-index in
    let k = c.one-item.result in
    let inv = c.loop-one.invariant in
    let added = c.in_default.ensures.is in
    let same = c.deref-one-items.ensures.value ∙ ap (λ (s : KeyedStateParts). s.keys) c.state.view_is in
    let below = subst (λ (ks : List KeyStateParts). i < length ks) same c.loop-one-test.true in
    let here = c.one-item.is ∙ ap (λ (ks : List KeyStateParts). get_or ks i k) same in
    let more = take_more keys i k below ∙ ap (λ (j : KeyStateParts). take i keys ++ j ∷ []) (sym here) in
    record {
      resumed = rw (added.1, more)
          (resumed-push g.R.KeyRun.is (g.R.KeptRun.state recipe) recipe c.loop-one.run.keys.items (take i keys) added.0 k inv.resumed added.2);
      places = c.in_default.ensures.places ∙ ap (λ (ps : List (List ℕ)). ps ++ k.key ∷ []) inv.places
          ∙ sym (ap (λ (ks : List KeyStateParts). map (λ j. j.key) ks) more ∙ map-append (λ (j : KeyStateParts). j.key) (take i keys) (k ∷ []));
      shared = ap (λ o. option_map (λ line. line.items) o) c.resume_key.ensures.shared ∙ inv.shared;
      max = c.resume_key.ensures.max ∙ inv.max;
    }
