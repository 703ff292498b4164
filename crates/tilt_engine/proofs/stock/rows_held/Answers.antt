use Rattle.std.proofs.Common.{◌≡◌, ◌∙◌, ◌++◌, ◌∷◌, [], suc, ◌+◌, List, length, map, take, refl, sym, ap, arith}
use Rattle.std.proofs.lemmas.List.{map_push}
use Rattle.std.proofs.lemmas.Option.{slice_get_read}
use Rattle.tilt_base.proofs.Lists.{one-more}
use Rattle.tilt_engine.proofs.Shorter.{held-push}
use Rattle.tilt_engine.specs.Stock.{InletParts}
use Rattle.tilt_pipe.specs.Rings.{held}
use Rattle.tilt_engine.proofs.stock.rows_held.Goals as goal

pub loop-input-preserved : goal.loop-input-preserved
loop-input-preserved c =
    let i = c.loop-input.input-index in
    let all = c.args.inputs.now in
    let list = λ (i : InletParts). i.input.rows in
    let at = slice_get_read all (length all) i c.input-item.result refl c.loop-input-test.true c.input-item.is in
    let next : suc i ≡ i + 1 = omega arith in
    let more : take (i + 1) all ≡ take i all ++ c.input-item.result ∷ [] = ap (λ n. take n all) (sym next) ∙ sym (one-more all i c.input-item.result at) in
    let sum : held (map list (take (i + 1) all)) ≡ held (map list (take i all)) + length (list c.input-item.result) =
    ap (λ (front : List InletParts). held (map list front)) more ∙ ap held (map_push list (take i all) c.input-item.result)
    ∙ held-push (map list (take i all)) (list c.input-item.result) in
    record {
      value = omega (arith, sum, c.loop-input.invariant.value, c.kept.ensures);
      few = let fits = c.kept.type_inv in let few = c.loop-input.invariant.few in omega arith;
    }
