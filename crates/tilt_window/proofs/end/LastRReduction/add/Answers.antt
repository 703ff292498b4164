use Rattle.std.proofs.Common.{◌≡◌, ◌∙◌, ℤ, List, [], ◌∷◌, ◌++◌, Some, sym, ap, refl}
use Rattle.std.specs.Int.{w64}
use Rattle.std.proofs.lemmas.Int.{to_z-of_z}
use Rattle.tilt_base.specs.Reduce.{last_of, reduce}
use Rattle.tilt_base.specs.declared.reducer.Reducer.TheVariants.{Last}
use Rattle.tilt_window.proofs.end.LastRReduction.add.Goals as goal

last_of_push : (m n : ℤ) (ns : List ℤ) → last_of m (ns ++ n ∷ []) ≡ n
last_of_push m n [] = refl
last_of_push m n (next ∷ ns) = last_of_push next n ns

last_push : (n : ℤ) (ns : List ℤ) → reduce Last (ns ++ n ∷ []) ≡ Some n
last_push n [] = refl
last_push n (m ∷ ns) = ap Some (last_of_push m n ns)

pub returns : goal.returns
returns c = λ ns few held. ap Some (to_z-of_z w64 c.args.number c.ranges.number) ∙ sym (last_push c.args.number ns)
