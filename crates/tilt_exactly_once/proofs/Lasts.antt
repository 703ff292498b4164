-- The last bytes of a feed.
use Rattle.std.proofs.Common.{◌≡◌, ◌≤◌, ◌+◌, ◌-◌, ⊎_elim, ℕ, ◌==◌, Bool, true, false, List, ◌++◌, length, min, sym, ◌∙◌, ap, arith, append_assoc, length-append}
use Rattle.std.specs.Cmp.Lexicographic.{pointwise}
use Rattle.std.specs.Prelude.{drop, take}
use Rattle.std.proofs.lemmas.Bool.{cases_lt, true≢false}
use Rattle.std.proofs.lemmas.Bool.Decides.{Decides-eqb}
use Rattle.std.proofs.lemmas.List.{drop-append-le, drop_all, length-drop, take-append-drop, length-take-le}
use Rattle.std.proofs.lemmas.Slice.Eq.{ends_is as is_end}
use Rattle.std.proofs.Math.Seq.{drop-append-add}
use Rattle.tilt_exactly_once.specs.Last.{EndsAs, last_of}

-- the last bytes of two pieces are those of the second, and those of the first for which there is room
pub last-pieces : (last piece : List ℕ) (n m : ℕ) → n ≡ min (length piece) 4096 → m ≡ min (length last) (4096 - n)
    → drop (length last - m) last ++ drop (length piece - n) piece ≡ last_of (last ++ piece)
last-pieces last piece n m new old =
    let size = length-append last piece in
    ⊎_elim
    (λ long.
    let none = drop_all (length last - m) last (omega (arith, new, old, long)) in
    let at : length last + (length piece - n) ≡ length (last ++ piece) - 4096 = omega (arith, size, new, long) in
    ap (λ (l : List ℕ). l ++ drop (length piece - n) piece) none
    ∙ sym (drop-append-add last piece (length piece - n)) ∙ ap (λ (k : ℕ). drop k (last ++ piece)) at)
    (λ short.
    let whole : length piece - n ≡ 0 = omega (arith, new, short) in
    let at : length last - m ≡ length (last ++ piece) - 4096 = omega (arith, size, new, old, short) in
    let within : length last - m ≤ length last = omega arith in
    ap (λ (k : ℕ). drop (length last - m) last ++ drop k piece) whole
    ∙ sym (drop-append-le (length last - m) last piece within) ∙ ap (λ (k : ℕ). drop k (last ++ piece)) at)
    (cases_lt 4096 (length piece))

-- the last bytes decide which are the last ones after a piece more
pub last-more : (bytes piece : List ℕ) → last_of (last_of bytes ++ piece) ≡ last_of (bytes ++ piece)
last-more bytes piece =
    let k = length bytes - 4096 in
    let parts = take-append-drop k bytes in
    let sizes = sym (length-append (take k bytes) (drop k bytes)) ∙ ap length parts in
    let size = length-append (drop k bytes) piece in
    let all = length-append bytes piece in
    ⊎_elim
    (λ long.
    let front : length (take k bytes) ≡ k = length-take-le k bytes (omega arith) in
    let at : length (drop k bytes ++ piece) - 4096 ≡ length piece = omega (arith, front, sizes, size, long) in
    let from : length (take k bytes) + length piece ≡ length (bytes ++ piece) - 4096 = omega (arith, front, all, long) in
    ap (λ (n : ℕ). drop n (drop k bytes ++ piece)) at
    ∙ sym (drop-append-add (take k bytes) (drop k bytes ++ piece) (length piece))
    ∙ ap (λ (n : ℕ). drop n (take k bytes ++ (drop k bytes ++ piece))) from
    ∙ ap (drop (length (bytes ++ piece) - 4096)) (sym (append_assoc (take k bytes) (drop k bytes) piece) ∙ ap (λ (l : List ℕ). l ++ piece) parts))
    (λ short. let none : k ≡ 0 = omega (arith, short) in ap (λ (n : ℕ). last_of (drop n bytes ++ piece)) none)
    (cases_lt 4096 (length bytes))

pub last-short : (bytes : List ℕ) → length (last_of bytes) ≤ 4096
last-short bytes = let size = length-drop (length bytes - 4096) bytes in omega (arith, size)

-- whether bytes end with the last ones of others, if their last bytes are compared
module _ (others bytes ends last : List ℕ) (same : Bool) (ends_is : ends ≡ last_of others) (last_is : last ≡ last_of bytes)
    (compared : same ≡ pointwise ◌==◌ ends (drop (length last - length ends) last)) where
  both : (same ≡ true → last ≡ take (length last - length ends) last ++ ends) × ((front : List ℕ) → last ≡ front ++ ends → same ≡ true)
  both = is_end Decides-eqb last ends same compared

  pub ends-same : same ≡ true → EndsAs others bytes
  ends-same is =
      let k = length bytes - 4096 in
      let n = length last - length ends in
      record {
        front = take k bytes ++ take n last;
        parts = sym (take-append-drop k bytes) ∙ ap (λ (l : List ℕ). take k bytes ++ l) (sym last_is ∙ both.0 is)
            ∙ sym (append_assoc (take k bytes) (take n last) ends) ∙ ap (λ (l : List ℕ). (take k bytes ++ take n last) ++ l) ends_is;
      }

  pub ends-other : same ≡ false → ¬ EndsAs others bytes
  ends-other other ending =
      let k = length bytes - 4096 in
      let size = ap length ending.parts ∙ length-append ending.front (last_of others) in
      let within : k ≤ length ending.front = let short = last-short others in omega (arith, size, short) in
      let is : last ≡ drop k ending.front ++ ends =
      last_is ∙ ap (drop k) ending.parts ∙ drop-append-le k ending.front (last_of others) within ∙ ap (λ (l : List ℕ). drop k ending.front ++ l) (sym ends_is) in
      true≢false (sym (both.1 (drop k ending.front) is) ∙ other)

-- a front of bytes, and the rest of them
pub ends-rest : (front bytes : List ℕ) → EndsAs bytes (front ++ bytes)
ends-rest front bytes =
    let k = length bytes - 4096 in
    record {
      front = front ++ take k bytes;
      parts = ap (λ (l : List ℕ). front ++ l) (sym (take-append-drop k bytes)) ∙ sym (append_assoc front (take k bytes) (last_of bytes));
    }
