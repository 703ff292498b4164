-- One change more of a folder in memory.
use Rattle.std.proofs.Common.{◌≡◌, ◌⊎◌, inl, inr, ⊎_elim, ℕ, zero, suc, ◌+◌, ◌<◌, ◌≤◌, min, get_or, List, [], ◌∷◌, ◌++◌, length, take, refl, sym, ◌∙◌, ap, subst, arith, length-append}
use Rattle.std.proofs.lemmas.List.{length-take, take-append-le, take_all, take_more}
use Rattle.tilt_store.specs.Changes.{HasNoted}
use Rattle.tilt_store.specs.Crash.{Elapses, Follows}
use Rattle.tilt_store.specs.Kept.{Cut, Kept, Replaced, Torn}
use Rattle.tilt_store.specs.MemFolder.{after, after_all, changes, left_during, left_since}
use Rattle.tilt_store.specs.declared.change.Change.{Change}

after-last : (leaves : Kept → Type 0) (xs : List Change) (x : Change) (c : Kept) → after_all leaves (xs ++ x ∷ []) c → after (after_all leaves xs) x c
after-last leaves [] x c left = left
after-last leaves (y ∷ ys) x c left = after-last (after leaves y) ys x c left

last-after : (leaves : Kept → Type 0) (xs : List Change) (x : Change) (c : Kept) → after (after_all leaves xs) x c → after_all leaves (xs ++ x ∷ []) c
last-after leaves [] x c left = left
last-after leaves (y ∷ ys) x c left = last-after (after leaves y) ys x c left

during-last : (leaves : Kept → Type 0) (xs : List Change) (x : Change) (c : Kept) → left_during leaves (xs ++ x ∷ []) c → left_during leaves xs c ⊎ after_all leaves (xs ++ x ∷ []) c
during-last leaves [] x c left = left
during-last leaves (y ∷ ys) x c (inl now) = inl (inl now)
during-last leaves (y ∷ ys) x c (inr then) = ⊎_elim (λ was. inl (inr was)) (λ last. inr last) (during-last (after leaves y) ys x c then)

during-more : (leaves : Kept → Type 0) (xs : List Change) (x : Change) (c : Kept) → left_during leaves xs c → left_during leaves (xs ++ x ∷ []) c
during-more leaves [] x c left = inl left
during-more leaves (y ∷ ys) x c (inl now) = inl now
during-more leaves (y ∷ ys) x c (inr then) = inr (during-more (after leaves y) ys x c then)

since-last : (leaves : Kept → Type 0) (xs : List Change) (x : Change) (t : ℕ) (c : Kept) → t ≤ length xs → left_since leaves (xs ++ x ∷ []) t c
    → left_since leaves xs t c ⊎ after_all leaves (xs ++ x ∷ []) c
since-last leaves xs x zero c le left = during-last leaves xs x c left
since-last leaves [] x (suc t) c le left = absurd (omega arith)
since-last leaves (y ∷ ys) x (suc t) c le left = since-last (after leaves y) ys x t c (omega arith) left

since-more : (leaves : Kept → Type 0) (xs : List Change) (x : Change) (t : ℕ) (c : Kept) → t ≤ length xs → left_since leaves xs t c → left_since leaves (xs ++ x ∷ []) t c
since-more leaves xs x zero c le left = during-more leaves xs x c left
since-more leaves [] x (suc t) c le left = absurd (omega arith)
since-more leaves (y ∷ ys) x (suc t) c le left = since-more (after leaves y) ys x t c (omega arith) left

-- what a crash can leave follows what it could before, by the step
pub noted_follows : (leaves : Kept → Type 0) (step : Kept → Kept → Type 0) (old new : List Change) → HasNoted step old new → Follows step (after_all leaves old) (after_all leaves new)
noted_follows leaves step old new noted c left =
    let from = after-last leaves old noted.change c (subst (λ (l : List Change). after_all leaves l c) noted.added left) in
    (from.0, from.1, noted.means from.0 c from.2)

elapses_last : (leaves : Kept → Type 0) (xs : List Change) (x : Change)
    → Elapses (length xs) (length (xs ++ x ∷ [])) (left_since leaves xs) (left_since leaves (xs ++ x ∷ [])) (after_all leaves (xs ++ x ∷ []))
elapses_last leaves xs x = record {
  later = omega (arith, length-append xs (x ∷ []));
  nothing_else = λ t c le left. since-last leaves xs x t c le left;
  keeps = λ t c le left. since-more leaves xs x t c le left;
}

pub noted_elapses : (leaves : Kept → Type 0) (step : Kept → Kept → Type 0) (old new : List Change) → HasNoted step old new
    → Elapses (length old) (length new) (left_since leaves old) (left_since leaves new) (after_all leaves new)
noted_elapses leaves step old new noted =
    subst (λ (l : List Change). Elapses (length old) (length l) (left_since leaves old) (left_since leaves l) (after_all leaves l)) (sym noted.added) (elapses_last leaves old noted.change)

-- if nothing was noted
pub same_elapses : (leaves : Kept → Type 0) (old new : List Change) → new ≡ old → Elapses (length old) (length new) (left_since leaves old) (left_since leaves new) (after_all leaves new)
same_elapses leaves old new same =
    subst (λ (l : List Change). Elapses (length old) (length l) (left_since leaves old) (left_since leaves l) (after_all leaves l)) (sym same)
    (record { later = omega arith; nothing_else = λ t c le left. inl left; keeps = λ t c le left. left })

pub same_follows : (leaves : Kept → Type 0) (step : Kept → Kept → Type 0) (old new : List Change) → ((c : Kept) → step c c) → new ≡ old → Follows step (after_all leaves old) (after_all leaves new)
same_follows leaves step old new none same c left = (c, subst (λ (l : List Change). after_all leaves l c) same left, none c)

pub torn_none : (at n : ℕ) (c : Kept) → Torn at n c c
torn_none at n c = record { before = refl; no_shorter = omega arith; no_longer = omega arith; state = refl }

pub cut_none : (len : ℕ) (c : Kept) → Cut len c c
cut_none len c = record { no_shorter = omega arith; front = sym (take_all (length c.output) c.output (omega arith)); state = refl }

pub replaced_none : (bytes : List ℕ) (c : Kept) → Replaced bytes c c
replaced_none bytes c = record { output = refl; state = inl refl }

-- a piece that is appended where an append was torn
pub torn_piece : (at n : ℕ) (old piece state : List ℕ) → length old ≤ at → length piece ≤ n → Torn at n (record { output = old; state = state }) (record { output = old ++ piece; state = state })
torn_piece at n old piece state fits short = record {
  before = take-append-le (min at (length old)) old piece (omega arith);
  no_shorter = omega (arith, length-append old piece);
  no_longer = omega (arith, length-append old piece, fits, short);
  state = refl;
}

cut_front : (len : ℕ) (old : List ℕ) → take len old ≡ take (length (take len old)) old
cut_front zero old = refl
cut_front (suc len) [] = refl
cut_front (suc len) (byte ∷ old) = ap (λ (l : List ℕ). byte ∷ l) (cut_front len old)

-- a cut that is whole
pub cut_all : (len : ℕ) (old state : List ℕ) → Cut len (record { output = old; state = state }) (record { output = take len old; state = state })
cut_all len old state = record {
  no_shorter = omega (arith, length-take len old);
  front = cut_front len old;
  state = refl;
}

-- one change more is replayed
pub replayed : (leaves : Kept → Type 0) (xs : List Change) (i : ℕ) (x : Change) (d c : Kept) → i < length xs → x ≡ get_or xs i x → after_all leaves (take i xs) d → changes x d c
    → after_all leaves (take (i + 1) xs) c
replayed leaves xs i x d c low is left step =
    let more = take_more xs i x low ∙ ap (λ (y : Change). take i xs ++ y ∷ []) (sym is) in
    subst (λ (l : List Change). after_all leaves l c) (sym more) (last-after leaves (take i xs) x c (d, left, step))
