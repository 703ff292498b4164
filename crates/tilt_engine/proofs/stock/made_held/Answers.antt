use Rattle.std.proofs.Common.{◌≡◌, ◌∙◌, ◌++◌, ◌∷◌, [], suc, ◌+◌, List, length, map, take, refl, sym, ap, arith}
use Rattle.std.proofs.lemmas.List.{map_push}
use Rattle.std.proofs.lemmas.Option.{slice_get_read}
use Rattle.tilt_base.proofs.Lists.{one-more}
use Rattle.tilt_engine.proofs.Shorter.{held-push}
use Rattle.tilt_engine.specs.Stock.{MadeParts}
use Rattle.tilt_pipe.specs.Rings.{held}
use Rattle.tilt_engine.proofs.stock.made_held.Goals as goal

pub loop-made-preserved : goal.loop-made-preserved
loop-made-preserved c =
    let i = c.loop-made.made-index in
    let all = c.args.loops.now in
    let list = λ (m : MadeParts). m.made in
    let at = slice_get_read all (length all) i c.made-item.result refl c.loop-made-test.true c.made-item.is in
    let next : suc i ≡ i + 1 = omega arith in
    let more : take (i + 1) all ≡ take i all ++ c.made-item.result ∷ [] = ap (λ n. take n all) (sym next) ∙ sym (one-more all i c.made-item.result at) in
    let sum : held (map list (take (i + 1) all)) ≡ held (map list (take i all)) + length (list c.made-item.result) =
    ap (λ (front : List MadeParts). held (map list front)) more ∙ ap held (map_push list (take i all) c.made-item.result)
    ∙ held-push (map list (take i all)) (list c.made-item.result) in
    record {
      value = omega (arith, sum, c.loop-made.invariant.value, c.kept.ensures);
      few = let fits = c.kept.type_inv in let few = c.loop-made.invariant.few in omega arith;
    }
