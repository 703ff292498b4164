-- The scale of an input is one of those that are given.
use Rattle.std.proofs.Common.{ℕ, Bool, true, false, if◌then◌else◌, List, [], ◌∷◌}
use Rattle.std.specs.List.{AllByRecursion}
use Rattle.std.specs.Str.{bytes_eq}
use Rattle.tilt_input_scales.specs.Scales.{AreScales, IsInputScale, ScalesValue, scale_among, scale_named}
use Rattle.tilt_input_scales.specs.declared.input_scale.InputScale.{InputScale}

by_test : (is : Bool) (m n : ℕ) → IsInputScale m → IsInputScale n → IsInputScale (if is then m else n)
by_test true m n h k = h
by_test false m n h k = k

among_is : (others : ℕ) (named : List InputScale) (name : List ℕ) → IsInputScale others
    → AllByRecursion (λ (one : InputScale). IsInputScale one.scale) named → IsInputScale (scale_among others named name)
among_is others [] name h all = h
among_is others (one ∷ named) name h all =
    by_test (bytes_eq one.name name) one.scale (scale_among others named name) all.0 (among_is others named name h all.1)

pub named_is : (scales : ScalesValue) (name : List ℕ) → AreScales scales → IsInputScale (scale_named scales name)
named_is scales name h = among_is scales.others scales.named name h.others h.named
