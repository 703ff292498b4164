-- Where a feed is after more of its bytes.
use Rattle.std.proofs.Common.{◌≡◌, ◌+◌, ℕ, List, [], ◌∷◌, ◌++◌, None, Some, length, length-append, append_assoc, min, refl, sym, ap, ◌∙◌, arith}
use Rattle.std.proofs.lemmas.List.{append-nil}
use Rattle.tilt_feed_text.proofs.Splitting.{are-ended, unfinished-append, unfinished-none}
use Rattle.tilt_feed_text.specs.Split.{ended, unfinished}
use Rattle.tilt_live_run.proofs.Stepping.{line-ends, line-then}
use Rattle.tilt_live_run.specs.Places.{passed, passed_line, place_of}
use Rattle.tilt_live_run.specs.declared.place.Place.{Place}
use Rattle.tilt_outside.specs.Counts.{added_count, last_count}
use Rattle.tilt_text.specs.Cut.{until_at}

-- counts that stay at an end
count-line : (top e u n : ℕ) → min (0 + (e + u + n + 1)) top ≡ min (min (0 + e) top + (min (0 + u) top + n + 1)) top
count-line top e u n = omega arith

count-more : (top u n : ℕ) → min (0 + (u + n)) top ≡ min (min (0 + u) top + n) top
count-more top u n = omega arith

both : (bytes : List ℕ) → length (ended bytes) + length (unfinished bytes) ≡ length bytes
both bytes = sym (length-append (ended bytes) (unfinished bytes)) ∙ ap length (are-ended bytes).parts

pub same-place : (e u f w : ℕ) → e ≡ f → u ≡ w → ◌≡◌ {A = Place} (record { ended = e; unended = u }) (record { ended = f; unended = w })
same-place e u f w p q = λ i. record { ended = p i; unended = q i }

-- after a line with its LF
pub place-line : (bytes rest line after : List ℕ) → until_at 10 rest ≡ Some (line, after)
    → place_of (bytes ++ (line ++ 10 ∷ [])) ≡ passed_line (place_of bytes) (length line)
place-line bytes rest line after found =
    let all = bytes ++ (line ++ 10 ∷ []) in
    let none : unfinished all ≡ [] = unfinished-append [] bytes (line ++ 10 ∷ []) ∙ line-ends (unfinished bytes) rest line after found in
    let left : length (unfinished all) ≡ 0 = ap length none in
    let here = both bytes in
    let there = both all in
    let len = length-append bytes (line ++ 10 ∷ []) in
    let more : length (line ++ 10 ∷ []) ≡ length line + 1 = length-append line (10 ∷ []) in
    let e : length (ended all) ≡ length (ended bytes) + length (unfinished bytes) + length line + 1 = omega (arith, left, here, there, len, more) in
    same-place _ _ _ _
    (ap (added_count 0) e ∙ count-line last_count (length (ended bytes)) (length (unfinished bytes)) (length line))
    (ap (added_count 0) left)

-- after bytes without one
pub place-rest : (bytes rest : List ℕ) → until_at 10 rest ≡ None → place_of (bytes ++ rest) ≡ passed (place_of bytes) (length rest)
place-rest bytes rest none =
    let all = bytes ++ rest in
    let is : unfinished all ≡ unfinished bytes ++ rest = unfinished-append [] bytes rest ∙ unfinished-none (unfinished bytes) rest none in
    let left : length (unfinished all) ≡ length (unfinished bytes) + length rest = ap length is ∙ length-append (unfinished bytes) rest in
    let here = both bytes in
    let there = both all in
    let len = length-append bytes rest in
    let e : length (ended all) ≡ length (ended bytes) = omega (arith, left, here, there, len) in
    same-place _ _ _ _ (ap (added_count 0) e)
    (ap (added_count 0) left ∙ count-more last_count (length (unfinished bytes)) (length rest))

-- after bytes of a feed, a run is on its way through a piece: it has counted the bytes up to the rest of it
pub record IsPassing (bytes piece : List ℕ) (place : Place) (rest : List ℕ) : Type 0 where
  pub done : List ℕ
  pub parts : piece ≡ done ++ rest
  pub is : place ≡ place_of (bytes ++ done)

pub passing-first : (bytes piece : List ℕ) (place : Place) → place ≡ place_of bytes → IsPassing bytes piece place piece
passing-first bytes piece place is = record { done = []; parts = refl; is = is ∙ ap place_of (sym (append-nil bytes)) }

pub passing-part : (bytes piece : List ℕ) (place later : Place) (rest part after : List ℕ) → rest ≡ part ++ after → (passing : IsPassing bytes piece place rest)
    → later ≡ place_of ((bytes ++ passing.done) ++ part) → IsPassing bytes piece later after
passing-part bytes piece place later rest part after parts passing is = record {
  done = passing.done ++ part;
  parts = passing.parts ∙ ap (λ (t : List ℕ). passing.done ++ t) parts ∙ sym (append_assoc passing.done part after);
  is = is ∙ ap place_of (append_assoc bytes passing.done part);
}

pub passing-line : (bytes piece : List ℕ) (place later : Place) (rest line after : List ℕ) → until_at 10 rest ≡ Some (line, after)
    → later ≡ passed_line place (length line) → IsPassing bytes piece place rest → IsPassing bytes piece later after
passing-line bytes piece place later rest line after found is passing =
    passing-part bytes piece place later rest (line ++ 10 ∷ []) after (line-then rest line after found) passing
    (is ∙ ap (λ (p : Place). passed_line p (length line)) passing.is ∙ sym (place-line (bytes ++ passing.done) rest line after found))

-- at the end of the piece
pub passing-whole : (bytes piece : List ℕ) (place later : Place) (rest : List ℕ) → (passing : IsPassing bytes piece place rest)
    → later ≡ place_of ((bytes ++ passing.done) ++ rest) → later ≡ place_of (bytes ++ piece)
passing-whole bytes piece place later rest passing is =
    is ∙ ap place_of (append_assoc bytes passing.done rest ∙ ap (λ (t : List ℕ). bytes ++ t) (sym passing.parts))

pub passing-end : (bytes piece : List ℕ) (place later : Place) (rest : List ℕ) → until_at 10 rest ≡ None → later ≡ passed place (length rest)
    → IsPassing bytes piece place rest → later ≡ place_of (bytes ++ piece)
passing-end bytes piece place later rest none is passing =
    passing-whole bytes piece place later rest passing
    (is ∙ ap (λ (p : Place). passed p (length rest)) passing.is ∙ sym (place-rest (bytes ++ passing.done) rest none))

-- after the bytes of its lines
pub place-ended : (bytes : List ℕ) (count : ℕ) → count ≡ added_count 0 (length (ended bytes))
    → ◌≡◌ {A = Place} (record { ended = count; unended = 0 }) (place_of (ended bytes))
place-ended bytes count is =
    let front = ended bytes in
    let none : unfinished front ≡ [] = (are-ended bytes).none in
    let again : front ≡ ended front = sym (are-ended front).parts ∙ ap (λ (t : List ℕ). ended front ++ t) none ∙ append-nil (ended front) in
    same-place _ _ _ _ (is ∙ ap (λ (t : List ℕ). added_count 0 (length t)) again) (ap (λ (t : List ℕ). added_count 0 (length t)) (sym none))
