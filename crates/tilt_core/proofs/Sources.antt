-- Which stream a source of a query is, by its number.
use Rattle.std.proofs.Common.{◌≡◌, ℕ, zero, suc, ◌+◌, ◌-◌, ◌<◌, ◌≤◌, List, [], ◌∷◌, ◌++◌, length, map, get_or, take, refl, sym, ap, ◌∙◌, arith, length-append}
use Rattle.std.proofs.lemmas.List.{length-map}
use Rattle.tilt_stream.specs.Snap.{Snapshot}
use Rattle.tilt_stream.specs.Stream.{Stream, stream_of}
use Rattle.tilt_core.specs.Meaning.{source_of, definition_of, with_definitions, sources}
use Rattle.tilt_stream.specs.Pointwise.{nothing}
use Rattle.tilt_core.specs.CoreTree.{Definition}

pub source_of-front : (xs : List Stream) (x : Stream) (i : ℕ) → i < length xs → source_of (xs ++ x ∷ []) i ≡ source_of xs i
source_of-front [] x i h = absurd (omega arith)
source_of-front (y ∷ ys) x zero h = refl
source_of-front (y ∷ ys) x (suc i) h = source_of-front ys x i (omega arith)

pub source_of-last : (xs : List Stream) (x : Stream) → source_of (xs ++ x ∷ []) (length xs) ≡ x
source_of-last [] x = refl
source_of-last (y ∷ ys) x = source_of-last ys x

pub source_of-past : (xs : List Stream) (i : ℕ) → length xs ≤ i → source_of xs i ≡ nothing
source_of-past [] i h = refl
source_of-past (y ∷ ys) zero h = absurd (omega arith)
source_of-past (y ∷ ys) (suc i) h = source_of-past ys i (omega arith)

-- definitions leave the sources before them as they are
pub with_definitions-front : (xs : List Stream) (defs : List Definition) (i : ℕ) → i < length xs → source_of (with_definitions xs defs) i ≡ source_of xs i
with_definitions-front xs [] i h = refl
with_definitions-front xs (def ∷ defs) i h =
    let x = definition_of xs def in
    with_definitions-front (xs ++ x ∷ []) defs i (omega (arith, length-append xs (x ∷ []))) ∙ source_of-front xs x i h

-- a definition is over the sources before it
with_definitions-at : (xs : List Stream) (defs : List Definition) (k i : ℕ) (other : Definition) → k < length defs → i ≡ length xs + k
    → source_of (with_definitions xs defs) i ≡ definition_of (with_definitions xs (take k defs)) (get_or defs k other)
with_definitions-at xs [] k i other h is = absurd (omega arith)
with_definitions-at xs (def ∷ defs) zero i other h is =
    let x = definition_of xs def in
    let at : i ≡ length xs = omega arith in
    with_definitions-front (xs ++ x ∷ []) defs i (omega (arith, length-append xs (x ∷ []))) ∙ ap (λ (n : ℕ). source_of (xs ++ x ∷ []) n) at ∙ source_of-last xs x
with_definitions-at xs (def ∷ defs) (suc k) i other h is =
    let x = definition_of xs def in
    with_definitions-at (xs ++ x ∷ []) defs k i other (omega arith) (omega (arith, length-append xs (x ∷ [])))

with_definitions-past : (xs : List Stream) (defs : List Definition) (i : ℕ) → length xs + length defs ≤ i → source_of (with_definitions xs defs) i ≡ nothing
with_definitions-past xs [] i h = source_of-past xs i (omega arith)
with_definitions-past xs (def ∷ defs) i h =
    let x = definition_of xs def in
    with_definitions-past (xs ++ x ∷ []) defs i (omega (arith, length-append xs (x ∷ [])))

source_of-map : (inputs : List (List Snapshot)) (i : ℕ) (other : List Snapshot) → i < length inputs → source_of (map stream_of inputs) i ≡ stream_of (get_or inputs i other)
source_of-map [] i other h = absurd (omega arith)
source_of-map (rows ∷ inputs) zero other h = refl
source_of-map (rows ∷ inputs) (suc i) other h = source_of-map inputs i other (omega arith)

module _ (inputs : List (List Snapshot)) (defs : List Definition) (i : ℕ) where
  count : length (map stream_of inputs) ≡ length inputs
  count = length-map inputs stream_of

  -- an input is its rows
  pub source_of-input : (rows : List Snapshot) → i < length inputs → rows ≡ get_or inputs i rows → source_of (sources inputs defs) i ≡ stream_of rows
  source_of-input rows h is =
      with_definitions-front (map stream_of inputs) defs i (omega (arith, count)) ∙ source_of-map inputs i rows h ∙ ap stream_of (sym is)

  -- a definition is over the inputs and the definitions before it
  pub source_of-definition : (def : Definition) → length inputs ≤ i → i - length inputs < length defs
      → def ≡ get_or defs (i - length inputs) def
      → source_of (sources inputs defs) i ≡ definition_of (sources inputs (take (i - length inputs) defs)) def
  source_of-definition def h l is =
      with_definitions-at (map stream_of inputs) defs (i - length inputs) i def l (omega (arith, count)) ∙ ap (definition_of (sources inputs (take (i - length inputs) defs))) (sym is)

  -- after the last definition there is nothing
  pub source_of-none : length inputs ≤ i → length defs ≤ i - length inputs → source_of (sources inputs defs) i ≡ nothing
  source_of-none h l = with_definitions-past (map stream_of inputs) defs i (omega (arith, count))
