use Rattle.std.proofs.Common.{◌∙◌, ◌++◌, ℕ, List, ap}
use Rattle.std.specs.Global.{Vec}
use Rattle.tilt_live_keys.specs.Recipe.{key_added, key_options}
use Rattle.tilt_live_keys.proofs.key_live.KeyLiveKeyRun.take.Goals as goal

pub returns-in-Ok-clause-is : goal.returns-in-Ok-clause-is
returns-in-Ok-clause-is c = λ recipe lines is.
    record { accepted = is.accepted; same = is.same; is = c.in-Ok.ensures.goes_on is.accepted (key_options recipe) lines is.is }

pub returns-in-Ok-clause-output : goal.returns-in-Ok-clause-output
returns-in-Ok-clause-output c = λ recipe lines is.
    let adds = rw is.same at (c.in-Ok.ensures.adds is.accepted (key_options recipe) lines is.is) in
    c.into_bytes.ensures ∙ adds.whole tt
    ∙ ap (λ (b : List ℕ). b ++ key_added recipe lines c.args.line.now) (c.over-port.ensures ∙ ap (λ (v : Vec ℕ). v.items) c.replace.ensures.value)

pub returns-in-Ok-clause-bad : goal.returns-in-Ok-clause-bad
returns-in-Ok-clause-bad c = λ recipe lines is. rw is.same at (c.in-Ok.ensures.bad is.accepted (key_options recipe) lines is.is)
