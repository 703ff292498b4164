-- The lines of the first places of a list, and of the others.
use Rattle.std.proofs.Common.{◌≡◌, ℕ, ℤ, ◌+◌, ◌≤◌, ◌<◌, List, [], ◌∷◌, ◌++◌, length, length-append, get_or, take, drop, ap, sym, ◌∙◌, arith}
use Rattle.std.proofs.lemmas.Grind.{flat_map-append}
use Rattle.std.proofs.lemmas.List.{take-append-drop, take_more, append-nil, map-append}
use Rattle.tilt_watch.specs.Places.{figures_at, figures_of}
use Rattle.tilt_watch.specs.Watch.{figures_line, figures_text}
use Rattle.tilt_watch.specs.declared.place.Place.{Place}

lines-append : (xs ys : List Place) → figures_text (figures_of (xs ++ ys)) ≡ figures_text (figures_of xs) ++ figures_text (figures_of ys)
lines-append xs ys = ap figures_text (map-append figures_at xs ys) ∙ flat_map-append figures_line (figures_of xs) (figures_of ys)

-- the text up to a place, and then the line of the one there
pub front_more : (places : List Place) (default : Place) (i : ℕ) (pair : ℤ × ℤ) → i < length places → pair ≡ figures_at (get_or places i default) →
    figures_text (figures_of (take (i + 1) places)) ≡ figures_text (figures_of (take i places)) ++ figures_line pair
front_more places default i pair within is =
    ap (λ (l : List Place). figures_text (figures_of l)) (take_more places i default within)
    ∙ lines-append (take i places) (get_or places i default ∷ [])
    ∙ ap (λ (last : List ℕ). figures_text (figures_of (take i places)) ++ last) (append-nil (figures_line (figures_at (get_or places i default))) ∙ ap figures_line (sym is))

-- all of the text: that one and the others
pub all_parts : (places : List Place) (default : Place) (i : ℕ) (pair : ℤ × ℤ) → i < length places → pair ≡ figures_at (get_or places i default) →
    figures_text (figures_of places) ≡ (figures_text (figures_of (take i places)) ++ figures_line pair) ++ figures_text (figures_of (drop (i + 1) places))
all_parts places default i pair within is =
    ap (λ (l : List Place). figures_text (figures_of l)) (sym (take-append-drop (i + 1) places)) ∙ lines-append (take (i + 1) places) (drop (i + 1) places)
    ∙ ap (λ (front : List ℕ). front ++ figures_text (figures_of (drop (i + 1) places))) (front_more places default i pair within is)

-- the text up to a place and that one are no longer than all
pub front_short : (places : List Place) (default : Place) (i : ℕ) (pair : ℤ × ℤ) → i < length places → pair ≡ figures_at (get_or places i default) →
    length (figures_text (figures_of (take i places))) + length (figures_line pair) ≤ length (figures_text (figures_of places))
front_short places default i pair within is =
    let first = figures_text (figures_of (take i places)) in
    let line = figures_line pair in
    let later = figures_text (figures_of (drop (i + 1) places)) in
    let whole = ap length (all_parts places default i pair within is) in
    let both = length-append (first ++ line) later in
    let front = length-append first line in
    omega (arith, whole, both, front)
