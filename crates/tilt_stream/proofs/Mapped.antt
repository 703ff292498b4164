-- A window by a map is a window over what the map gives on each cell.
use Rattle.std.proofs.Common.{◌≡◌, ℕ, zero, suc, ℤ, pos, ◌+ℤ◌, ◌-ℤ◌, Bool, true, false, ◌||◌, List, ◌∷◌, map, Option, if◌then◌else◌, refl, sym, ap, ◌∙◌}
use Rattle.std.specs.Int.{int_gap}
use Rattle.tilt_base.specs.declared.reducer.Reducer.{Reducer}
use Rattle.tilt_base.specs.Reduce.{numbers, reduce}
use Rattle.tilt_stream.proofs.Constancy.{windowed-changes}
use Rattle.tilt_stream.specs.Agreement.{ChangesOnlyAtMarks}
use Rattle.tilt_stream.specs.Stream.{Stream}
use Rattle.tilt_stream.specs.Window.{met_behind, windowed, windowed_by}

-- the stream of what a map gives on each cell
abbrev mapped_stream : (Option ℤ → Option ℤ) → Stream → Stream
mapped_stream f x = record { cell = λ tick. f (x.cell tick); mark = x.mark }

map_if : (f : Option ℤ → Option ℤ) (cell : Option ℤ) (xs ys : List (Option ℤ)) → ys ≡ map f xs → (some : Bool)
    → (if some then f cell ∷ ys else ys) ≡ map f (if some then cell ∷ xs else xs)
map_if f cell xs ys is true = ap (λ (zs : List (Option ℤ)). f cell ∷ zs) is
map_if f cell xs ys is false = is

-- it is met where the stream is
met_behind-mapped : (f : Option ℤ → Option ℤ) (x : Stream) (begins : Bool) (tick : ℤ) (n : ℕ)
    → met_behind (mapped_stream f x) begins tick n ≡ map f (met_behind x begins tick n)
met_behind-mapped f x begins tick zero = refl
met_behind-mapped f x begins tick (suc n) =
    map_if f (x.cell (tick +ℤ pos 1)) (met_behind x false (tick +ℤ pos 1) n) (met_behind (mapped_stream f x) false (tick +ℤ pos 1) n)
    (met_behind-mapped f x false (tick +ℤ pos 1) n) (begins || x.mark (tick +ℤ pos 1))

windowed_by-is : (f : Option ℤ → Option ℤ) (reducer : Reducer) (from to : ℤ) (x : Stream) (tick : ℤ)
    → (windowed_by f reducer from to x).cell tick ≡ (windowed reducer from to (mapped_stream f x)).cell tick
windowed_by-is f reducer from to x tick =
    ap (λ (cells : List (Option ℤ)). reduce reducer (numbers cells))
    (sym (met_behind-mapped f x true (tick +ℤ from) (int_gap (tick +ℤ from) (tick +ℤ to))))

pub windowed_by-changes : (f : Option ℤ → Option ℤ) (reducer : Reducer) (from to : ℤ) (x : Stream) → ChangesOnlyAtMarks x
    → ChangesOnlyAtMarks (windowed_by f reducer from to x)
windowed_by-changes f reducer from to x h =
    let g : ChangesOnlyAtMarks (mapped_stream f x) = record { unchanged = λ tick clear. ap f (h.unchanged tick clear) } in
    record {
      unchanged = λ tick clear.
          windowed_by-is f reducer from to x tick
          ∙ (windowed-changes reducer from to (mapped_stream f x) g).unchanged tick clear
          ∙ sym (windowed_by-is f reducer from to x (tick -ℤ pos 1));
    }
