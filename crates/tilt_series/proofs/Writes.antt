-- Writes, one after another.
use Rattle.std.proofs.Common.{arith, ◌≡◌, ℕ, ◌≤◌, ◌<◌, ◌+◌, Bool, true, false, if◌then◌else◌, List, [], ◌∷◌, ◌++◌}
use Rattle.std.proofs.Common.{length, get_or, take, drop, is_some, refl, ap, sym, ◌∙◌, append_assoc, length-append}
use Rattle.std.proofs.lemmas.List.{take-append-drop, take_more}
use Rattle.tilt_base.proofs.Lists.{drop-at}
use Rattle.tilt_stream.specs.Snap.{Snapshot}
use Rattle.tilt_stream.specs.Text.{row_text, lines_of}

by_value : (some : Bool) (line rest more : List ℕ) → (if some then line ++ (rest ++ more) else rest ++ more) ≡ (if some then line ++ rest else rest) ++ more
by_value true line rest more = sym (append_assoc line rest more)
by_value false line rest more = refl

-- the lines of two lists, one after the other
pub lines_of-append : (xs ys : List Snapshot) → lines_of (xs ++ ys) ≡ lines_of xs ++ lines_of ys
lines_of-append [] ys = refl
lines_of-append (x ∷ xs) ys =
    rw (lines_of-append xs ys) (by_value (is_some x.value) (row_text x) (lines_of xs) (lines_of ys))

-- the lines from a place on are that of the snapshot there, and the others
pub lines_of-drop : (list : List Snapshot) (s : Snapshot) (i : ℕ) → i < length list → s ≡ get_or list i s → lines_of (drop i list) ≡ lines_of (s ∷ []) ++ lines_of (drop (i + 1) list)
lines_of-drop list s i h is =
    ap lines_of (drop-at list s i h is) ∙ lines_of-append (s ∷ []) (drop (i + 1) list)

-- the lines up to a place, and then the one there
pub lines_of-take : (list : List Snapshot) (s : Snapshot) (i : ℕ) → i < length list → s ≡ get_or list i s → lines_of (take (i + 1) list) ≡ lines_of (take i list) ++ lines_of (s ∷ [])
lines_of-take list s i h is =
    ap lines_of (take_more list i s h ∙ ap (λ (x : Snapshot). take i list ++ x ∷ []) (sym is)) ∙ lines_of-append (take i list) (s ∷ [])

-- all lines
pub lines_of-parts : (list : List Snapshot) (s : Snapshot) (i : ℕ) → i < length list → s ≡ get_or list i s → lines_of list ≡ lines_of (take i list)
    ++ (lines_of (s ∷ []) ++ lines_of (drop (i + 1) list))
lines_of-parts list s i h is =
    ap lines_of (sym (take-append-drop i list)) ∙ lines_of-append (take i list) (drop i list) ∙ ap (λ (l : List ℕ). lines_of (take i list) ++ l) (lines_of-drop list s i h is)

-- the lines up to a place and the one there are no longer than all
pub length_front : (list : List Snapshot) (s : Snapshot) (i : ℕ) → i < length list → s ≡ get_or list i s → length (lines_of (take i list)) + length (lines_of (s ∷ [])) ≤ length (lines_of list)
length_front list s i h is =
    let front = lines_of (take i list) in
    let behind = lines_of (drop (i + 1) list) in
    let all = ap length (lines_of-parts list s i h is) ∙ length-append front (lines_of (s ∷ []) ++ behind) in
    omega (arith, all, length-append (lines_of (s ∷ [])) behind)
