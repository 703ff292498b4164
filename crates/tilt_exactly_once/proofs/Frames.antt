-- States with the last bytes that were taken.
use Rattle.std.proofs.Common.{◌≡◌, ℕ, ◌≤◌, nat_le, Bool, true, if◌then◌else◌, List, ◌++◌, length, Option, None, Some, sym, ◌∙◌, ap, arith, length-append}
use Rattle.std.specs.Prelude.{drop, take}
use Rattle.std.proofs.lemmas.Bool.Decides.{nat_tests}
use Rattle.std.proofs.lemmas.Option.{none-some, same_Some}
use Rattle.std.proofs.Math.Seq.{drop-append_seam, take-append_seam}
use Rattle.tilt_exactly_once.proofs.Lasts.{last-short}
use Rattle.tilt_exactly_once.specs.Framed.{framed, split_at, unframed}
use Rattle.tilt_exactly_once.specs.Last.{last_of}
use Rattle.tilt_store.proofs.Counted.{uncounted-counted}
use Rattle.tilt_text.specs.Step.{◌>>=◌}

is_at_least : (n m : ℕ) → n ≤ m → nat_le n m ≡ true
is_at_least n m le = grind (arith, nat_tests)

split : (last text : List ℕ) → split_at (length last, last ++ text) ≡ Some (last, text)
split last text =
    let size = length-append last text in
    ap (λ (b : Bool). if b then Some (take (length last) (last ++ text), drop (length last) (last ++ text)) else None)
    (is_at_least (length last) (length (last ++ text)) (omega (arith, size)))
    ∙ λ i. Some (take-append_seam last text i, drop-append_seam last text i)

-- what is framed is read
pub unframed-framed : (bytes text : List ℕ) → unframed (framed (last_of bytes) text) ≡ Some (last_of bytes, text)
unframed-framed bytes text =
    let last = last_of bytes in
    ap (λ (o : Option (ℕ × List ℕ)). o >>= split_at) (uncounted-counted (length last) (last ++ text) (let short = last-short bytes in omega (arith, short)))
    ∙ split last text

module _ (bytes state text : List ℕ) (is : state ≡ framed (last_of bytes) text) where
  found : unframed state ≡ Some (last_of bytes, text)
  found = ap unframed is ∙ unframed-framed bytes text

  pub parts-are : (last rest : List ℕ) → unframed state ≡ Some (last, rest) → (last ≡ last_of bytes) × (rest ≡ text)
  parts-are last rest read = let same = same_Some (last, rest) (last_of bytes, text) (sym read ∙ found) in (λ i. (same i).0, λ i. (same i).1)

  pub is-framed : unframed state ≡ None → ⊥
  is-framed none = none-some (last_of bytes, text) (sym none ∙ found)
