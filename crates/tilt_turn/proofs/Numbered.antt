-- Reading what is at a number, and results that hold unless memory ran out.
use Rattle.std.proofs.Common.{◌≡◌, ◌<◌, ℕ, zero, suc, List, [], ◌∷◌, map, length, get_or, Result, Ok, Err, OnOk, refl, sym, ap, arith}
use Rattle.tilt_stream.specs.Pointwise.{nothing}
use Rattle.tilt_stream.specs.Snap.{Snapshot}
use Rattle.tilt_stream.specs.Stream.{stream_of}

-- what a function gives on the item in a place
pub read-map : {X Y : Type 0} (f : X → Y) (xs : List X) (i : ℕ) (x : X) (d : Y) → i < length (map f xs) → x ≡ get_or xs i x
    → get_or (map f xs) i d ≡ f x
read-map f [] i x d within is = absurd (omega arith)
read-map f (y ∷ ys) zero x d within is = ap f (sym is)
read-map f (y ∷ ys) (suc i) x d within is = read-map f ys i x d (omega arith) is

-- the stream of the list of a number
pub read-stream : (lists : List (List Snapshot)) (i : ℕ) → get_or (map stream_of lists) i nothing ≡ stream_of (get_or lists i [])
read-stream [] i = refl
read-stream (list ∷ lists) zero = refl
read-stream (list ∷ lists) (suc i) = read-stream lists i

-- two facts together
pub both-ok : {X E : Type 0} (result : Result X E) (P Q R : Type 0) → OnOk result P → OnOk result Q → (P → Q → R) → OnOk result R
both-ok (Ok x) P Q R p q f = f p q
both-ok (Err e) P Q R p q f = tt
