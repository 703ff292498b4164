-- The lines of a text, piece by piece.
use Rattle.std.proofs.Common.{◌≡◌, ℕ, ◌+◌, ◌-◌, ◌≤◌, Bool, true, false, if◌then◌else◌, ◌==◌, List, [], ◌∷◌, ◌++◌, Option, Some, None, refl, sym, ap, ◌∙◌}
use Rattle.std.proofs.Common.{append_assoc, append-nil, length, take, min, zero, suc, arith, inl, inr, ◌⊎◌, length-append}
use Rattle.std.proofs.Math.Seq.{take-append-add}
use Rattle.std.proofs.lemmas.List.{take_at, take_min}
use Rattle.std.proofs.lemmas.Bool.{cases_Bool}
use Rattle.std.proofs.lemmas.Option.{none-some, same_Some}
use Rattle.tilt_feed_text.specs.Split.{ended, lines_after, unfinished, unfinished_after, whole_lines}
use Rattle.tilt_text.proofs.Step.{bind_some}
use Rattle.tilt_text.specs.Cut.{onto, until_at}
use Rattle.tilt_text.specs.Step.{◌>>=◌}

-- the lines of two texts, one after the other
pub lines-append : (front x y : List ℕ) → lines_after front (x ++ y) ≡ lines_after front x ++ lines_after (unfinished_after front x) y
lines-append front [] y = refl
lines-append front (b ∷ x) y =
    elim (cases_Bool (b == 10)) [
      | inl end ↦ rw (end, lines-append [] x y) refl
      | inr other ↦ rw (other, lines-append (front ++ b ∷ []) x y) refl
    ]

pub unfinished-append : (front x y : List ℕ) → unfinished_after front (x ++ y) ≡ unfinished_after (unfinished_after front x) y
unfinished-append front [] y = refl
unfinished-append front (b ∷ x) y =
    elim (cases_Bool (b == 10)) [
      | inl end ↦ rw (end, unfinished-append [] x y) refl
      | inr other ↦ rw (other, unfinished-append (front ++ b ∷ []) x y) refl
    ]

-- a text with an LF: its first line goes up to there
record FirstLine (front bytes line rest : List ℕ) : Type 0 where
  lines : lines_after front bytes ≡ (front ++ line) ∷ lines_after [] rest
  unfinished : unfinished_after front bytes ≡ unfinished_after [] rest

first-end : (front rest : List ℕ) (b : ℕ) → (b == 10) ≡ true → FirstLine front (b ∷ rest) [] rest
first-end front rest b end = record {
  lines = rw (end, append-nil front) refl;
  unfinished = rw end refl;
}

first-later : (front line rest bytes : List ℕ) (b : ℕ) → (b == 10) ≡ false → FirstLine (front ++ b ∷ []) bytes line rest → FirstLine front (b ∷ bytes) (b ∷ line) rest
first-later front line rest bytes b other later = record {
  lines = rw other (later.lines ∙ ap (λ (t : List ℕ). t ∷ lines_after [] rest) (append_assoc front (b ∷ []) line));
  unfinished = rw other later.unfinished;
}

same_first : (front bytes line line2 rest rest2 : List ℕ) → line ≡ line2 → rest ≡ rest2 → FirstLine front bytes line rest → FirstLine front bytes line2 rest2
same_first front bytes line line2 rest rest2 a r first = record {
  lines = first.lines ∙ (λ i. (front ++ a i) ∷ lines_after [] (r i));
  unfinished = first.unfinished ∙ ap (unfinished_after []) r;
}

first_here : (front bytes line rest : List ℕ) (b : ℕ) → (b == 10) ≡ true → ◌≡◌ {A = Option (List ℕ × List ℕ)} (Some ([], bytes)) (Some (line, rest)) → FirstLine front (b ∷ bytes) line rest
first_here front bytes line rest b is e =
    let p = same_Some ([], bytes) (line, rest) e in
    let a : [] ≡ line = ap (λ (q : List ℕ × List ℕ). q.0) p in
    let r : bytes ≡ rest = ap (λ (q : List ℕ × List ℕ). q.1) p in
    same_first front (b ∷ bytes) [] line bytes rest a r (first-end front bytes b is)

first_after : (front bytes line rest : List ℕ) (b : ℕ) → (b == 10) ≡ false
    → ((l r : List ℕ) → until_at 10 bytes ≡ Some (l, r) → FirstLine (front ++ b ∷ []) bytes l r)
    → (until_at 10 bytes >>= onto b) ≡ Some (line, rest) → FirstLine front (b ∷ bytes) line rest
first_after front bytes line rest b is later e =
    let s = bind_some (until_at 10 bytes) (onto b) (line, rest) e in
    let p = same_Some (b ∷ s.0.0, s.0.1) (line, rest) s.2 in
    let a : b ∷ s.0.0 ≡ line = ap (λ (q : List ℕ × List ℕ). q.0) p in
    let r : s.0.1 ≡ rest = ap (λ (q : List ℕ × List ℕ). q.1) p in
    same_first front (b ∷ bytes) (b ∷ s.0.0) line s.0.1 rest a r (first-later front s.0.0 s.0.1 bytes b is (later s.0.0 s.0.1 s.1))

first_by : (front bytes line rest : List ℕ) (b : ℕ) (here : Bool) → (b == 10) ≡ here
    → ((l r : List ℕ) → until_at 10 bytes ≡ Some (l, r) → FirstLine (front ++ b ∷ []) bytes l r)
    → (if here then Some ([], bytes) else (until_at 10 bytes >>= onto b)) ≡ Some (line, rest) → FirstLine front (b ∷ bytes) line rest
first_by front bytes line rest b true is later e = first_here front bytes line rest b is e
first_by front bytes line rest b false is later e = first_after front bytes line rest b is later e

first-found : (front bytes line rest : List ℕ) → until_at 10 bytes ≡ Some (line, rest) → FirstLine front bytes line rest
first-found front [] line rest e = absurd (none-some (line, rest) e)
first-found front (b ∷ bytes) line rest e =
    first_by front bytes line rest b (b == 10) refl (λ l r is. first-found (front ++ b ∷ []) bytes l r is) e

pub lines-until : (front bytes line rest : List ℕ) → until_at 10 bytes ≡ Some (line, rest) → lines_after front bytes ≡ (front ++ line) ∷ lines_after [] rest
lines-until front bytes line rest e = (first-found front bytes line rest e).lines

pub unfinished-until : (front bytes line rest : List ℕ) → until_at 10 bytes ≡ Some (line, rest) → unfinished_after front bytes ≡ unfinished_after [] rest
unfinished-until front bytes line rest e = (first-found front bytes line rest e).unfinished

-- a text without an LF has no line
no_end : (b : ℕ) (bytes : List ℕ) → until_at 10 (b ∷ bytes) ≡ None → ((b == 10) ≡ false) × (until_at 10 bytes ≡ None)
no_end b bytes e = by (b == 10) (until_at 10 bytes) refl refl e
  where
    by : (here : Bool) (found : Option (List ℕ × List ℕ)) → (b == 10) ≡ here → until_at 10 bytes ≡ found
        → (if here then Some ([], bytes) else (found >>= onto b)) ≡ None → ((b == 10) ≡ false) × (until_at 10 bytes ≡ None)
    by true found is was e = cc e
    by false None is was e = (is, was)
    by false (Some parts) is was e = cc e

pub lines-none : (front bytes : List ℕ) → until_at 10 bytes ≡ None → lines_after front bytes ≡ []
lines-none front [] e = refl
lines-none front (b ∷ bytes) e =
    let p = no_end b bytes e in
    rw p.0 (lines-none (front ++ b ∷ []) bytes p.1)

pub unfinished-none : (front bytes : List ℕ) → until_at 10 bytes ≡ None → unfinished_after front bytes ≡ front ++ bytes
unfinished-none front [] e = sym (append-nil front)
unfinished-none front (b ∷ bytes) e =
    let p = no_end b bytes e in
    rw p.0 (unfinished-none (front ++ b ∷ []) bytes p.1 ∙ append_assoc front (b ∷ []) bytes)

-- a text after the first bytes of a line has no line, or it has a first part of whole lines, and the rest is unfinished
record HasEnd (front bytes : List ℕ) : Type 0 where
  done : List ℕ
  rest : List ℕ
  parts : bytes ≡ done ++ rest
  lines : lines_after front bytes ≡ lines_after front done
  none : unfinished_after front done ≡ []
  is : unfinished_after front bytes ≡ rest

abbrev EndsOrNot : List ℕ → List ℕ → Type 0
EndsOrNot front bytes = ((lines_after front bytes ≡ []) × (unfinished_after front bytes ≡ front ++ bytes)) ⊎ HasEnd front bytes

end-here : (front bytes : List ℕ) (b : ℕ) → (b == 10) ≡ true → EndsOrNot [] bytes → HasEnd front (b ∷ bytes)
end-here front bytes b is (inl none) = record {
  done = b ∷ [];
  rest = bytes;
  parts = refl;
  lines = rw (is, none.0) refl;
  none = rw is refl;
  is = rw is none.1;
}
end-here front bytes b is (inr ends) = record {
  done = b ∷ ends.done;
  rest = ends.rest;
  parts = ap (λ (t : List ℕ). b ∷ t) ends.parts;
  lines = rw is (ap (λ (t : List (List ℕ)). front ∷ t) ends.lines);
  none = rw is ends.none;
  is = rw is ends.is;
}

end-later : (front bytes : List ℕ) (b : ℕ) → (b == 10) ≡ false → EndsOrNot (front ++ b ∷ []) bytes → EndsOrNot front (b ∷ bytes)
end-later front bytes b is (inl none) = inl (rw is none.0, rw is (none.1 ∙ append_assoc front (b ∷ []) bytes))
end-later front bytes b is (inr ends) = inr record {
  done = b ∷ ends.done;
  rest = ends.rest;
  parts = ap (λ (t : List ℕ). b ∷ t) ends.parts;
  lines = rw is ends.lines;
  none = rw is ends.none;
  is = rw is ends.is;
}

ends-or-not : (front bytes : List ℕ) → EndsOrNot front bytes
ends-or-not front [] = inl (refl, sym (append-nil front))
ends-or-not front (b ∷ bytes) =
    elim (cases_Bool (b == 10)) [
      | inl end ↦ inr (end-here front bytes b end (ends-or-not [] bytes))
      | inr other ↦ end-later front bytes b other (ends-or-not (front ++ b ∷ []) bytes)
    ]

-- the bytes of the lines of a text: they have its lines, and nothing of them is unfinished
pub record AreEnded (bytes : List ℕ) : Type 0 where
  pub lines : whole_lines (ended bytes) ≡ whole_lines bytes
  pub none : unfinished (ended bytes) ≡ []
  pub parts : ended bytes ++ unfinished bytes ≡ bytes

ended-is : (bytes done rest : List ℕ) → bytes ≡ done ++ rest → unfinished bytes ≡ rest → ended bytes ≡ done
ended-is bytes done rest parts is =
    let count : length bytes - length (unfinished bytes) ≡ length done =
    let all = ap length parts in
    let both = length-append done rest in
    let left = ap length is in
    omega (arith, all, both, left) in
    rw (count, parts) (take_at done rest (length done) refl)

ended-by : (bytes : List ℕ) → EndsOrNot [] bytes → AreEnded bytes
ended-by bytes (inl none) =
    let is = ended-is bytes [] bytes refl none.1 in
    record { lines = rw is (sym none.0); none = rw is refl; parts = rw (is, none.1) refl }
ended-by bytes (inr ends) =
    let is = ended-is bytes ends.done ends.rest ends.parts ends.is in
    record { lines = rw is (sym ends.lines); none = rw is ends.none; parts = rw (is, ends.is) (sym ends.parts) }

pub are-ended : (bytes : List ℕ) → AreEnded bytes
are-ended bytes = ended-by bytes (ends-or-not [] bytes)

-- a piece after the first bytes of a line, cut at a limit
pub cut_append : (limit : ℕ) (line piece : List ℕ) → length line ≤ limit
    → line ++ take (min (limit - length line) (length piece)) piece ≡ take limit (line ++ piece)
cut_append limit line piece h =
    let room : length line + (limit - length line) ≡ limit = omega arith in
    ap (λ (t : List ℕ). line ++ t) (take_min (limit - length line) piece)
    ∙ sym (take-append-add line piece (limit - length line))
    ∙ ap (λ (n : ℕ). take n (line ++ piece)) room

-- a line that is cut already, and then more of it
pub cut_again : (limit : ℕ) (line piece : List ℕ) → take limit (take limit line ++ piece) ≡ take limit (line ++ piece)
cut_again zero line piece = refl
cut_again (suc limit) [] piece = refl
cut_again (suc limit) (b ∷ line) piece = ap (λ (t : List ℕ). b ∷ t) (cut_again limit line piece)
