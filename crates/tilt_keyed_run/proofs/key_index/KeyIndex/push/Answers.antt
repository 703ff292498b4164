use Rattle.std.proofs.Common.{◌≡◌, ◌∙◌, ◌++◌, ◌∷◌, [], ℕ, List, map, false, sym, ap, subst}
use Rattle.std.specs.Global.{Vec}
use Rattle.std.specs.List.{list_any}
use Rattle.std.specs.Str.{bytes_eq}
use Rattle.std.proofs.lemmas.List.{map-append}
use Rattle.tilt_keyed_run.proofs.Indexes.{nowhere-unfound, position-map}
use Rattle.tilt_keyed_run.proofs.key_index.KeyIndex.push.Goals.{in-Ok, in-Err}
use Rattle.tilt_keyed_run.proofs.key_index.KeyIndex.push.Goals as goal

pub returns : goal.returns
returns c =
    let keys = c.self.inside.keys.keys in
    let nowhere = sym (position-map (bytes_eq c.args.key.now) (λ (k : Vec ℕ). k.items) keys) ∙ rw (← c.self.view_is) at c.requires in
    let absent = subst (λ (q : List ℕ). list_any (λ (k : Vec ℕ). bytes_eq q k.items) keys ≡ false) (sym c.in_ok-key.ensures.items)
    (nowhere-unfound (λ (k : Vec ℕ). bytes_eq c.args.key.now k.items) keys nowhere) in
    elim c.match-insert.branch [
      | in-Ok w ↦
          let last = rw absent at w.in-Ok.ensures.keys in
          rw (w.result-is, ← c.self.view_is) (ap (λ (ks : List (Vec ℕ)). map (λ k. k.items) ks) last ∙ map-append (λ (k : Vec ℕ). k.items) keys (c.in_ok-key.key ∷ [])
          ∙ ap (λ (k : List ℕ). map (λ (v : Vec ℕ). v.items) keys ++ k ∷ []) c.in_ok-key.ensures.items)
      | in-Err w ↦ rw w.result-is tt
    ]
