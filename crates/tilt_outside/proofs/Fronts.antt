-- Prefixes of a piece.
use Rattle.std.proofs.Common.{ℕ, List, ◌++◌, take, drop, refl, sym, take-append-drop}
use Rattle.tilt_outside.specs.Written.{AppendsFront}

-- the first bytes of a piece are a prefix of it
pub AppendsFront-take : (old piece : List ℕ) (n : ℕ) → AppendsFront old (old ++ take n piece) piece
AppendsFront-take old piece n = record {
  front = take n piece;
  rest = drop n piece;
  parts = sym (take-append-drop n piece);
  appended = refl;
}
