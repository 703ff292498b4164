-- Leaves of a body over other registers, and at later grid points.
use Rattle.std.proofs.Common.{◌≡◌, ◌∙◌, ◌<◌, ℕ, ℤ, pos, ◌≤ℤ◌, List, map, length, get_or, Option, None, sym, ap, neg_ℤ, arith}
use Rattle.std.proofs.Math.ListN.{set}
use Rattle.std.proofs.lemmas.Int.{ints}
use Rattle.std.specs.List.{AllByRecursion}
use Rattle.tilt_base.specs.declared.limits.TheConstants.{WIDE}
use Rattle.tilt_code.specs.Body.{leaf_of}
use Rattle.tilt_code.specs.Code.{Block}
use Rattle.tilt_code.specs.declared.instr.Instr.{Instr}
use Rattle.tilt_code.specs.declared.instr.Instr.TheVariants.{Const}
use Rattle.tilt_stream.specs.Snap.{Snapshot}
use Rattle.tilt_stream.specs.Stream.{stream_of}
use Rattle.tilt_stream.specs.declared.seen.Seen.{Seen}
use Rattle.tilt_turn.proofs.Staying.{leaf-stays, stays-before}
use Rattle.tilt_turn.proofs.Stepwise.{all-both, all-set, all-weaker}
use Rattle.tilt_turn.proofs.Written.{written-here, written-right}
use Rattle.tilt_turn.specs.Held.{IsPlaceOf, IsPlacedBy, IsUnread, origin, places_of}
use Rattle.tilt_turn.specs.Picked.{written}
use Rattle.tilt_turn.specs.Ready.{IsReadable}
use Rattle.tilt_turn.specs.Sight.{Sees}
use Rattle.tilt_turn.specs.Stepped.{LooksTo}
use Rattle.tilt_turn.specs.declared.leaf.Leaf.{Leaf}
use Rattle.tilt_turn.specs.declared.placed.Placed.{Placed}

module _ (lists : List (List Snapshot)) (maps : List Block) (body : Block) (point : ℤ) where
  -- what is seen of an instruction by its register and its next mark
  abbrev pub SeenBy : Instr → Option ℤ → List (Option ℤ) → ℕ → Type 0
  SeenBy i next cells place = Sees (leaf_of (map stream_of lists) maps i) point (record { cell = get_or cells place None; next = next })

  -- a leaf is as well placed over other registers that have the same cells for it
  pub placed-over : (cells others : List (Option ℤ)) (p : Placed)
      → AllByRecursion (λ place. get_or others place None ≡ get_or cells place None) (places_of p)
      → IsPlacedBy lists maps body cells point p → IsPlacedBy lists maps body others point p
  placed-over cells others p same is = record {
    leaf = is.leaf;
    places = is.places;
    known = λ stays.
        all-both (λ place. get_or others place None ≡ get_or cells place None) (SeenBy (origin p.leaf) p.next cells)
        (SeenBy (origin p.leaf) p.next others) (places_of p)
        (λ place at sees. record { cell = at ∙ sees.cell; next = sees.next; bounds = sees.bounds }) same (is.known stays);
  }

  -- registers may be written with what their instructions give at the grid point
  pub placed-beside : (cells : List (Option ℤ)) (cell : Option ℤ) (places : List ℕ) (p : Placed)
      → AllByRecursion (λ place. (leaf_of (map stream_of lists) maps (get_or body place (Const (pos 0)))).cell point ≡ cell) places
      → IsPlacedBy lists maps body cells point p → IsPlacedBy lists maps body (written cell places cells) point p
  placed-beside cells cell places p all is = record {
    leaf = is.leaf;
    places = is.places;
    known = λ stays.
        all-both (IsPlaceOf body (origin p.leaf)) (SeenBy (origin p.leaf) p.next cells)
        (SeenBy (origin p.leaf) p.next (written cell places cells)) (places_of p)
        (λ place here sees.
        let leaf : Instr → Option ℤ = λ i. (leaf_of (map stream_of lists) maps i).cell point in
        let right = ap leaf here.1 in
        record {
          cell = written-right (λ n. leaf (get_or body n (Const (pos 0)))) cell places cells place all (sees.cell ∙ sym right) ∙ right;
          next = sees.next;
          bounds = sees.bounds;
        }) is.places (is.known stays);
  }

  -- one leaf and its registers are changed
  pub placed-step : (cells : List (Option ℤ)) (cell : Option ℤ) (places : List ℕ) (i : ℕ) (leaves : List Placed) (new : Placed)
      → AllByRecursion (λ place. (leaf_of (map stream_of lists) maps (get_or body place (Const (pos 0)))).cell point ≡ cell) places
      → IsPlacedBy lists maps body (written cell places cells) point new → AllByRecursion (IsPlacedBy lists maps body cells point) leaves
      → AllByRecursion (IsPlacedBy lists maps body (written cell places cells) point) (set leaves i new)
  placed-step cells cell places i leaves new right at all =
      all-set (IsPlacedBy lists maps body (written cell places cells) point) leaves i new
      (all-weaker (IsPlacedBy lists maps body cells point) (IsPlacedBy lists maps body (written cell places cells) point) leaves
      (λ p is. placed-beside cells cell places p right is) all) at

  -- a leaf that was looked at, and whose cell was written to its registers
  pub just-looked : (cells : List (Option ℤ)) (p : Placed) (own : Leaf) (seen : Seen) → LooksTo lists maps point p.leaf own seen
      → AllByRecursion (IsPlaceOf body (origin p.leaf)) (places_of p) → length cells ≡ length body
      → IsPlacedBy lists maps body (written seen.cell (places_of p) cells) point (record p { leaf = own; next = seen.next })
  just-looked cells p own seen looked places room =
      let new = written seen.cell (places_of p) cells in
      let within = all-weaker (IsPlaceOf body (origin p.leaf)) (λ place. place < length cells) (places_of p)
      (λ place is. let below = is.0 in omega arith) places in
      let seen_is : Sees (leaf_of (map stream_of lists) maps (origin own)) point seen = rw looked.same looked.sees in
      record {
        leaf = (point, omega (arith, ints), looked.at);
        places = all-weaker (IsPlaceOf body (origin p.leaf)) (IsPlaceOf body (origin own)) (places_of p) (λ place is. (is.0, is.1 ∙ sym looked.same)) places;
        known = λ stays.
            all-weaker (λ place. get_or new place None ≡ seen.cell) (SeenBy (origin own) seen.next new) (places_of p)
            (λ place is. record { cell = is ∙ seen_is.cell; next = seen_is.next; bounds = seen_is.bounds })
            (written-here seen.cell (places_of p) cells within);
      }

  -- a leaf that was never looked at may go on to any grid point
  pub unread-placed : (cells : List (Option ℤ)) (p : Placed) → IsUnread body p → IsReadable (length lists) (length maps) (origin p.leaf)
      → neg_ℤ WIDE ≤ℤ point → IsPlacedBy lists maps body cells point p
  unread-placed cells p unread readable low = record {
    leaf = (point, omega (arith, ints), unread.leaf lists maps point readable low);
    places = unread.places;
    known = λ stays. let above = rw unread.never at stays in absurd (omega (arith, ints));
  }

-- and one that may go on to a grid point may go on to a later one
pub placed-later : (lists : List (List Snapshot)) (maps : List Block) (body : Block) (cells : List (Option ℤ)) (before point : ℤ) (p : Placed)
    → before ≤ℤ point → IsPlacedBy lists maps body cells before p → IsPlacedBy lists maps body cells point p
placed-later lists maps body cells before point p onwards is =
    let within = is.leaf.1 in
    record {
      leaf = (is.leaf.0, omega (arith, ints), is.leaf.2);
      places = is.places;
      known = λ stays.
          all-weaker (SeenBy lists maps body before (origin p.leaf) p.next cells) (SeenBy lists maps body point (origin p.leaf) p.next cells)
          (places_of p)
          (λ place sees. leaf-stays lists maps before point p.leaf (record { cell = get_or cells place None; next = p.next }) onwards stays sees)
          (is.known (stays-before before point p.next onwards stays));
    }
