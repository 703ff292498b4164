-- How many snapshots lists keep, counted list by list.
use Rattle.std.proofs.Common.{◌≡◌, ◌<◌, ◌≤◌, ◌+◌, ◌-◌, ℕ, suc, ℤ, int_lt, Bool, true, false, if◌then◌else◌, List, [], ◌∷◌, ◌++◌, length, map, drop, get_or, Option, Some, None, refl, sym, ap, ◌∙◌, subst, arith}
use Rattle.std.proofs.Common.{length-append, length-drop}
use Rattle.std.proofs.lemmas.Int.{ints}
use Rattle.std.specs.List.{AllByRecursion}
use Rattle.tilt_engine.proofs.Gone.{drop-nil}
use Rattle.tilt_engine.specs.Forgetting.{each_later, kept_lists, later_inlet, later_made}
use Rattle.tilt_engine.specs.Gone.{EndsBelow}
use Rattle.tilt_engine.specs.Needed.{first_read, still_read}
use Rattle.tilt_engine.specs.Stock.{InletParts, MadeParts}
use Rattle.tilt_pipe.specs.Made.{Stage}
use Rattle.tilt_pipe.specs.Rings.{held, kept_from, let_go}
use Rattle.tilt_stream.proofs.Places.{ended-within}
use Rattle.tilt_stream.specs.Snap.{Snapshot, ended_below}

-- how many of two lists end below a tick
ended-both : (tick : ℤ) (a b : List Snapshot) → ended_below tick (a ++ b) ≡ ended_below tick a + ended_below tick b
ended-both tick [] b = omega arith
ended-both tick (s ∷ a) b = by (int_lt s.end tick) (ended-both tick a b)
  where
    by : (test : Bool) → ended_below tick (a ++ b) ≡ ended_below tick a + ended_below tick b
        → (if test then suc (ended_below tick (a ++ b)) else ended_below tick (a ++ b))
        ≡ (if test then suc (ended_below tick a) else ended_below tick a) + ended_below tick b
    by true is = omega (arith, is)
    by false is = is

ended-all : (tick : ℤ) (list : List Snapshot) → AllByRecursion (EndsBelow tick) list → ended_below tick list ≡ length list
ended-all tick [] all = refl
ended-all tick (s ∷ list) all =
    let below = all.0.1 in
    let test : int_lt s.end tick ≡ true = grind (arith, ints) in
    rw test (ap suc (ended-all tick list all.1))

-- one number is no greater than another one, and the same if more is known
abbrev pub Fits : Type 0 → ℕ → ℕ → Type 0
Fits P a b = (a ≤ b) × (P → a ≡ b)

-- what is kept of a list is no more than what is kept of the whole one, of which the first ones have gone
pub kept-fits : (P : Type 0) (first : Option ℤ) (gone kept more whole : List Snapshot) (count : ℕ) → whole ≡ (gone ++ kept) ++ more → (P → more ≡ [])
    → ((tick : ℤ) → first ≡ Some tick → AllByRecursion (EndsBelow tick) gone) → count ≡ let_go first kept
    → Fits P (length (drop count kept)) (length (kept_from first whole))
kept-fits P None gone kept more whole count is none below counted =
    let left = length-drop count kept in
    let right = length-drop (length whole) whole in
    (omega (arith, left, right, counted), λ p. omega (arith, left, right, counted))
kept-fits P (Some tick) gone kept more whole count is none below counted =
    let left = length-drop count kept in
    let right = length-drop (ended_below tick whole) whole in
    let long : length whole ≡ (length gone + length kept) + length more =
    ap length is ∙ length-append (gone ++ kept) more ∙ ap (λ (n : ℕ). n + length more) (length-append gone kept) in
    let ended : ended_below tick whole ≡ (ended_below tick gone + ended_below tick kept) + ended_below tick more =
    ap (ended_below tick) is ∙ ended-both tick (gone ++ kept) more ∙ ap (λ (n : ℕ). n + ended_below tick more) (ended-both tick gone kept) in
    let all = ended-all tick gone (below tick refl) in
    let few = ended-within tick more in
    let some = ended-within tick kept in (
      omega (arith, left, right, counted, long, ended, all, few, some),
      λ p.
          let nothing : length more ≡ 0 = ap length (none p) in
          omega (arith, left, right, counted, long, ended, all, few, some, nothing),
    )

-- the lists of what is kept, each without its first ones
rows-later : (counts : List ℕ) (inlets : List InletParts)
    → map (λ (i : InletParts). i.input.rows) (each_later later_inlet counts inlets) ≡ each_later drop counts (map (λ (i : InletParts). i.input.rows) inlets)
rows-later [] inlets = refl
rows-later (n ∷ counts) [] = refl
rows-later (n ∷ counts) (i ∷ inlets) = ap (λ (rest : List (List Snapshot)). drop n i.input.rows ∷ rest) (rows-later counts inlets)

made-later : (counts : List ℕ) (loops : List MadeParts)
    → map (λ (m : MadeParts). m.made) (each_later later_made counts loops) ≡ each_later drop counts (map (λ (m : MadeParts). m.made) loops)
made-later [] loops = refl
made-later (n ∷ counts) [] = refl
made-later (n ∷ counts) (m ∷ loops) = ap (λ (rest : List (List Snapshot)). drop n m.made ∷ rest) (made-later counts loops)

each-append : (counts : List ℕ) (a b : List (List Snapshot))
    → each_later drop counts (a ++ b) ≡ each_later drop counts a ++ each_later drop (drop (length a) counts) b
each-append [] a b = ap (λ (n : List ℕ). a ++ each_later drop n b) (sym (drop-nil (length a)))
each-append (n ∷ counts) [] b = refl
each-append (n ∷ counts) (list ∷ a) b = ap (λ (rest : List (List Snapshot)). drop n list ∷ rest) (each-append counts a b)

pub kept-later : (counts : List ℕ) (inlets : List InletParts) (loops : List MadeParts) (inputs : ℕ) → length (map (λ (i : InletParts). i.input.rows) inlets) ≡ inputs
    → kept_lists (each_later later_inlet counts inlets) (each_later later_made (drop inputs counts) loops) ≡ each_later drop counts (kept_lists inlets loops)
kept-later counts inlets loops inputs long =
    let rows : List (List Snapshot) = map (λ (i : InletParts). i.input.rows) inlets in
    let made : List (List Snapshot) = map (λ (m : MadeParts). m.made) loops in
    (λ i. rows-later counts inlets i ++ made-later (drop inputs counts) loops i)
    ∙ ap (λ (n : ℕ). each_later drop counts rows ++ each_later drop (drop n counts) made) (sym long)
    ∙ sym (each-append counts rows made)

count-none : {A : Type 0} (n : ℕ) → drop {A = A} n [] ≡ []
count-none n = drop-nil n

-- how much they keep together, if each but the last keeps what is still read, and the last keeps so many
pub held-fits : (P : Type 0) (stages : List Stage) (number : ℕ) (counts : List ℕ) (kept whole : List (List Snapshot)) (last : ℕ) → length whole ≡ length kept
    → 0 < length kept
    → ((k : ℕ) → k < length kept - 1
    → Fits P (length (drop (get_or counts k 0) (get_or kept k []))) (length (kept_from (first_read (number + k) stages) (get_or whole k []))))
    → first_read (number + (length kept - 1)) stages ≡ None → length (drop (get_or counts (length kept - 1) 0) (get_or kept (length kept - 1) [])) ≡ last
    → Fits P (held (each_later drop counts kept)) (still_read stages number whole + last)
held-fits P stages number counts [] whole last long some each none at = absurd (omega arith)
held-fits P stages number counts (x ∷ kept) [] last long some each none at = absurd (omega arith)
held-fits P stages number counts (x ∷ []) (y ∷ z ∷ whole) last long some each none at = absurd (omega arith)
held-fits P stages number counts (x ∷ []) (y ∷ []) last long some each none at =
    let here : number + 0 ≡ number = omega arith in
    let unread : first_read number stages ≡ None = ap (λ (n : ℕ). first_read n stages) (sym here) ∙ none in
    let gone : length (kept_from (first_read number stages) y) ≡ 0 =
    ap (λ (first : Option ℤ). length (kept_from first y)) unread ∙ (let all = length-drop (length y) y in omega (arith, all)) in
    let own : held (each_later drop counts (x ∷ [])) ≡ length (drop (get_or counts 0 0) x) = first-held counts x [] in
    (omega (arith, own, at, gone), λ p. omega (arith, own, at, gone))
  where
    first-held : (counts : List ℕ) (x : List Snapshot) (kept : List (List Snapshot)) → held (each_later drop counts (x ∷ [])) ≡ length (drop (get_or counts 0 0) x)
    first-held [] [] kept = refl
    first-held [] (s ∷ x) kept = omega arith
    first-held (n ∷ counts) x kept = held-none counts (length (drop n x))
      where
        held-none : (counts : List ℕ) (n : ℕ) → n + held (each_later drop counts []) ≡ n
        held-none [] n = omega arith
        held-none (c ∷ counts) n = omega arith
held-fits P stages number counts (x ∷ x2 ∷ kept) (y ∷ whole) last long some each none at =
    let end = length (x2 ∷ kept) - 1 in
    let here : number + 0 ≡ number = omega arith in
    let first = subst (λ (n : ℕ). Fits P (length (drop (get_or counts 0 0) x)) (length (kept_from (first_read n stages) y))) here (each 0 (omega arith)) in
    let parts : held (each_later drop counts (x ∷ x2 ∷ kept)) ≡ length (drop (get_or counts 0 0) x) + held (each_later drop (drop 1 counts) (x2 ∷ kept)) = split counts in
    let count : (k : ℕ) → get_or (drop 1 counts) k 0 ≡ get_or counts (suc k) 0 = next counts in
    let rest = held-fits P stages (suc number) (drop 1 counts) (x2 ∷ kept) whole last (omega arith) (omega arith)
    (λ k within.
    let step : number + suc k ≡ suc number + k = omega arith in
    subst (λ (n : ℕ). Fits P (length (drop n (get_or (x2 ∷ kept) k []))) (length (kept_from (first_read (suc number + k) stages) (get_or whole k [])))) (sym (count k))
    (subst (λ (n : ℕ). Fits P (length (drop (get_or counts (suc k) 0) (get_or (x2 ∷ kept) k []))) (length (kept_from (first_read n stages) (get_or whole k [])))) step
    (each (suc k) (omega arith))))
    (let step : suc number + end ≡ number + (length (x ∷ x2 ∷ kept) - 1) = omega arith in ap (λ (n : ℕ). first_read n stages) step ∙ none)
    (ap (λ (n : ℕ). length (drop n (get_or (x2 ∷ kept) end []))) (count end)
    ∙ (let same : suc end ≡ length (x ∷ x2 ∷ kept) - 1 = omega arith in ap (λ (n : ℕ). length (drop (get_or counts n 0) (get_or (x ∷ x2 ∷ kept) n []))) same)
    ∙ at) in (
      (let a = first.0 in let b = rest.0 in omega (arith, parts)),
      λ p. (let a = first.1 p in let b = rest.1 p in omega (arith, parts)),
    )
  where
    next : (counts : List ℕ) (k : ℕ) → get_or (drop 1 counts) k 0 ≡ get_or counts (suc k) 0
    next [] k = refl
    next (n ∷ []) k = refl
    next (n ∷ m ∷ counts) k = refl

    drop-none : (list : List Snapshot) → drop 0 list ≡ list
    drop-none [] = refl
    drop-none (s ∷ list) = refl

    drop-zero : (counts : List ℕ) → drop 0 counts ≡ counts
    drop-zero [] = refl
    drop-zero (n ∷ counts) = refl

    split : (counts : List ℕ) → held (each_later drop counts (x ∷ x2 ∷ kept)) ≡ length (drop (get_or counts 0 0) x) + held (each_later drop (drop 1 counts) (x2 ∷ kept))
    split [] = ap (λ (list : List Snapshot). length list + held (x2 ∷ kept)) (sym (drop-none x))
    split (n ∷ counts) = ap (λ (rest : List ℕ). length (drop n x) + held (each_later drop rest (x2 ∷ kept))) (sym (drop-zero counts))
