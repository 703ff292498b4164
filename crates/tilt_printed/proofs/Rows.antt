-- The rows among snapshots, and their lines.
use Rattle.std.proofs.Common.{◌≡◌, ◌∙◌, ◌<◌, ℕ, suc, Bool, true, false, List, [], ◌∷◌, ◌++◌, length, length-append, take, drop, slice_get, Some, refl, sym, ap, append_assoc, codes, arith}
use Rattle.std.proofs.Common.{if◌then◌else◌}
use Rattle.std.specs.Prelude.{is_some}
use Rattle.std.proofs.lemmas.List.{append-nil, take-append-drop}
use Rattle.std.proofs.lemmas.List.Elements.{filter-append}
use Rattle.std.specs.Fmt.{signed_decimal}
use Rattle.tilt_base.proofs.Lists.{one-more}
use Rattle.tilt_outside.specs.Written.{AppendsFront}
use Rattle.tilt_printed.specs.Stopped.{IsShorter, StandsInLines, in_line, at_line_end}
use Rattle.tilt_printed.specs.declared.unput.Unput.TheVariants.{Failed}
use Rattle.tilt_stream.specs.Snap.{Snapshot}
use Rattle.tilt_stream.specs.Text.{cell_text, lines_of, row_text}
use Rattle.tilt_watch.specs.Watch.{rows_of}

empty-front : (front rest : List ℕ) → [] ≡ front ++ rest → front ≡ []
empty-front [] rest parts = refl
empty-front (b ∷ bs) rest parts = absurd (cc parts)

one_line : (is : Bool) (s : Snapshot) (ss rows : List Snapshot) → is_some s.value ≡ is → lines_of rows ≡ lines_of ss
    → lines_of (if is then s ∷ rows else rows) ≡ (if is then row_text s ++ lines_of ss else lines_of ss)
one_line true s ss rows is same = rw is (ap (λ (l : List ℕ). row_text s ++ l) same)
one_line false s ss rows is same = same

-- the lines of snapshots are those of the rows among them
pub lines-rows : (list : List Snapshot) → lines_of (rows_of list) ≡ lines_of list
lines-rows [] = refl
lines-rows (s ∷ ss) = one_line (is_some s.value) s ss (rows_of ss) refl (lines-rows ss)

-- the rows of one more snapshot
pub rows-more : (all : List Snapshot) (place : ℕ) (s : Snapshot) → slice_get all place ≡ Some s
    → rows_of (take (suc place) all) ≡ rows_of (take place all) ++ rows_of (s ∷ [])
rows-more all place s is = ap rows_of (sym (one-more all place s is)) ∙ filter-append (λ (t : Snapshot). is_some t.value) (take place all) (s ∷ [])

-- all rows, from those so far on
pub rows-rest : (all : List Snapshot) (place : ℕ) → rows_of all ≡ rows_of (take place all) ++ rows_of (drop place all)
rows-rest all place =
    ap rows_of (sym (take-append-drop place all)) ∙ filter-append (λ (t : Snapshot). is_some t.value) (take place all) (drop place all)

-- a line isn't empty
line_some : (row : Snapshot) → 0 < length (row_text row)
line_some row =
    let front = signed_decimal row.start ++ codes "," ++ signed_decimal row.end ++ codes "," ++ cell_text row.value in
    let both = length-append front (codes "\n") in
    omega (arith, both)

-- nothing is shorter than any line
pub shorter_none : (rows : List Snapshot) → IsShorter [] rows
shorter_none [] = tt
shorter_none (row ∷ rows) = line_some row

-- Lines of rows were written, and then a prefix of the line of one more.
module _ (seen : List Snapshot) (old now new : List ℕ) (far : now ≡ old ++ lines_of seen) (front rest : List ℕ) (put : new ≡ now ++ front) where
  written : new ≡ old ++ (lines_of seen ++ front)
  written = put ∙ ap (λ (l : List ℕ). l ++ front) far ∙ append_assoc old (lines_of seen) front

  row_cut : (row : Snapshot) (later : List Snapshot) (rest' : List ℕ) → row_text row ≡ front ++ rest' → StandsInLines seen (row ∷ later) old new Failed
  row_cut row later [] parts = at_line_end row later refl (written ∙ ap (λ (l : List ℕ). old ++ (lines_of seen ++ l)) (sym (append-nil front) ∙ sym parts))
  row_cut row later (b ∷ bs) parts = let both = ap length parts ∙ length-append front (b ∷ bs) in in_line front (omega (arith, both)) written

  none_cut : (others : List Snapshot) → [] ≡ front ++ rest → StandsInLines seen others old new Failed
  none_cut others parts =
      let none : front ≡ [] = empty-front front rest parts in
      in_line [] (shorter_none others) (written ∙ ap (λ (l : List ℕ). old ++ (lines_of seen ++ l)) none)

  snap_cut : (is : Bool) (s : Snapshot) (later : List Snapshot) → (if is then row_text s ++ [] else []) ≡ front ++ rest
      → StandsInLines seen ((if is then s ∷ [] else []) ++ later) old new Failed
  snap_cut true s later parts = row_cut s later rest (sym (append-nil (row_text s)) ∙ parts)
  snap_cut false s later parts = none_cut later parts

-- the write of the line of one more snapshot failed
pub line_cut : (seen later : List Snapshot) (s : Snapshot) (old now new : List ℕ) → now ≡ old ++ lines_of seen → AppendsFront now new (lines_of (s ∷ []))
    → StandsInLines seen (rows_of (s ∷ []) ++ later) old new Failed
line_cut seen later s old now new far cut =
    snap_cut seen old now new far cut.front cut.rest cut.appended (is_some s.value) s later cut.parts
