-- Lists of rows, and of what is kept of inputs, taken apart as loops go over them.
use Rattle.std.proofs.Common.{◌≡◌, suc, ℤ, List, [], ◌∷◌, ◌++◌, length, inl, inr, refl, ap}
use Rattle.std.specs.Prelude.{int_le}
use Rattle.std.proofs.lemmas.Bool.{cases_Bool}
use Rattle.tilt_base.proofs.Lists.{all-append}
use Rattle.tilt_checkpoint.specs.Checkpoint.{KeptParts}
use Rattle.tilt_checkpoint.specs.Cuts.{CutsParts}
use Rattle.tilt_checkpoint.specs.Valid.{IsCell}
use Rattle.tilt_stream.specs.Snap.{Snapshot}
use Rattle.tilt_session.specs.Handed.{AreAfter, AreCells}
use Rattle.tilt_session.specs.declared.cut.Cut.TheVariants.{Upto}
use Rattle.tilt_stream.specs.Pieces.{kept}

-- the values of what is kept with a row more are such
pub kept-cells : (first : ℤ) (rows : List Snapshot) (row : Snapshot) → AreCells rows → IsCell row.value
    → AreCells (rows ++ kept first (row ∷ []))
kept-cells first rows row h cell =
    elim (cases_Bool (int_le first row.end)) [
      | inl is ↦ rw is (all-append (λ (r : Snapshot). IsCell r.value) rows (row ∷ []) h (cell, tt))
      | inr none ↦ rw none (all-append (λ (r : Snapshot). IsCell r.value) rows [] h tt)
    ]

pub after-counted : (series : List KeptParts) (new : List (List Snapshot)) → AreAfter series new → length series ≡ length new
after-counted [] [] h = refl
after-counted [] (n ∷ new) h = absurd h
after-counted (k ∷ series) [] h = absurd h
after-counted (k ∷ series) (n ∷ new) h = ap suc (after-counted series new h.1)

-- a session ends by one list of cuts
pub same-cuts : (a b : CutsParts) → Upto a ≡ Upto b → a ≡ b
same-cuts a b is = cc is
