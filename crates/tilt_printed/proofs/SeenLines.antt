-- What watchers saw of the lines that a pipe gives out.
use Rattle.std.proofs.Common.{◌≡◌, ◌∙◌, ℕ, suc, List, [], ◌∷◌, ◌++◌, ◌+◌, ◌≤◌, length, length-append, take, drop, slice_get, Some, Result, Ok, Err, IsErr, sym, ap, subst, append_assoc, arith}
use Rattle.tilt_outside.specs.Written.{AppendsFront, Puts}
use Rattle.tilt_outside.specs.declared.failed.Failed.{Failed}
use Rattle.tilt_printed.proofs.Printing.{prints-cut, prints-failed, prints-put, prints-short, prints-then}
use Rattle.tilt_printed.proofs.Rows.{line_cut, lines-rows, rows-more, rows-rest}
use Rattle.tilt_printed.specs.Figures.{figures_after}
use Rattle.tilt_printed.specs.Left.{Left}
use Rattle.tilt_printed.specs.Prints.{Prints}
use Rattle.tilt_printed.specs.Show.{HaveSeenLines}
use Rattle.tilt_printed.specs.Stopped.{StandsInLines, between_lines}
use Rattle.tilt_printed.specs.declared.unput.Unput.{Unput}
use Rattle.tilt_printed.specs.declared.unput.Unput.TheVariants as variant
use Rattle.tilt_stream.specs.Snap.{Snapshot}
use Rattle.tilt_stream.specs.Text.{lines_of}
use Rattle.tilt_watch.proofs.PlacesAfter.{both-then, figures-after, left-none, places-none}
use Rattle.tilt_watch.specs.Places.{AreInStep, figures_of, left_after, places_after, places_of}
use Rattle.tilt_watch.specs.Watch.{Watch, figures_text, rows_of}
use Rattle.tilt_watch.specs.declared.place.Place.{Place}

-- none was seen so far
pub seen-none : (places : List Place) (list : List Watch) (all : List Snapshot) (place : ℕ) → place ≡ 0 → AreInStep places list
    → (places ≡ places_after places list (rows_of (take place all))) × (list ≡ left_after list (rows_of (take place all)))
seen-none places list all place none same = (
  subst (λ (n : ℕ). places ≡ places_after places list (rows_of (take n all))) (sym none) (sym (places-none places list same)),
  subst (λ (n : ℕ). list ≡ left_after list (rows_of (take n all))) (sym none) (sym (left-none list)),
)

-- one more was seen
pub seen-more : (places mid new : List Place) (list now later : List Watch) (all : List Snapshot) (place next : ℕ) (s : Snapshot)
    → mid ≡ places_after places list (rows_of (take place all)) → now ≡ left_after list (rows_of (take place all)) → next ≡ suc place → slice_get all place ≡ Some s
    → new ≡ places_after mid now (rows_of (s ∷ [])) → later ≡ left_after now (rows_of (s ∷ []))
    → (new ≡ places_after places list (rows_of (take next all))) × (later ≡ left_after list (rows_of (take next all)))
seen-more places mid new list now later all place next s places_are list_is one_more is new_are later_is =
    let rows : rows_of (take place all) ++ rows_of (s ∷ []) ≡ rows_of (take next all) =
    sym (rows-more all place s is) ∙ ap (λ (n : ℕ). rows_of (take n all)) (sym one_more) in
    let both = both-then places mid new list now later (rows_of (take place all)) (rows_of (s ∷ [])) places_are list_is new_are later_is in
    (both.0 ∙ ap (places_after places list) rows, both.1 ∙ ap (left_after list) rows)

module _ (left : Left) (mid : List ℕ) (all : List Snapshot) (place : ℕ) (saw : left.now ≡ left_after left.before (rows_of (take place all)))
    (far : left.tells → mid ≡ left.old ++ lines_of (take place all)) where
  so_far : left.tells → mid ≡ left.old ++ lines_of (rows_of (take place all))
  so_far t = far t ∙ ap (λ (l : List ℕ). left.old ++ l) (sym (lines-rows (take place all)))

  -- no memory was there for the next one
  pub seen-wanting : (why : Unput) → why ≡ variant.OutOfMemory → left.new ≡ mid → HaveSeenLines why left all
  seen-wanting why is same = record {
    seen = rows_of (take place all);
    others = rows_of (drop place all);
    rows = rows-rest all place;
    saw = saw;
    stopped = λ t. subst (StandsInLines (rows_of (take place all)) (rows_of (drop place all)) left.old left.new) (sym is) (between_lines (same ∙ so_far t));
  }

  -- the write of the line of the next one failed
  pub seen-failed : (s : Snapshot) (why : Unput) → why ≡ variant.Failed → slice_get all place ≡ Some s
      → (left.tells → AppendsFront mid left.new (lines_of (s ∷ []))) → HaveSeenLines why left all
  seen-failed s why is at cut = record {
    seen = rows_of (take place all);
    others = rows_of (s ∷ []) ++ rows_of (drop (suc place) all);
    rows = rows-rest all (suc place) ∙ ap (λ (l : List Snapshot). l ++ rows_of (drop (suc place) all)) (rows-more all place s at)
        ∙ append_assoc (rows_of (take place all)) (rows_of (s ∷ [])) (rows_of (drop (suc place) all));
    saw = saw;
    stopped = λ t.
        subst (StandsInLines (rows_of (take place all)) (rows_of (s ∷ []) ++ rows_of (drop (suc place) all)) left.old left.new) (sym is)
        (line_cut (rows_of (take place all)) (rows_of (drop (suc place) all)) s left.old mid left.new (so_far t) (cut t));
  }

-- the figures of a panel that was made of a list which then saw rows
pub figures-are : (panel new : List Place) (list : List Watch) (all : List Snapshot) → panel ≡ places_of list → new ≡ places_after panel list (rows_of all)
    → figures_text (figures_of new) ≡ figures_after list all
figures-are panel new list all first is =
    ap (λ (l : List Place). figures_text (figures_of l)) (is ∙ ap (λ (p : List Place). places_after p list (rows_of all)) first)
    ∙ ap figures_text (figures-after list (rows_of all))

-- The header, the lines and the figures, written one after another.
module _ {K : Type 0} (tells : Type 0) (written : K → List ℕ) (faults : K → ℕ) (takes : K → ℕ → Type 0) (header lines figures : List ℕ) where
  -- the header's write failed
  pub header-short : {T : Type 0} (old new : K) (e : Failed) (told : Result T Unput) → IsErr told → Puts tells written faults takes old new header (Err e)
      → Prints tells written faults takes old new ((header ++ lines) ++ figures) told
  header-short old new e told failed cut =
      subst (λ (l : List ℕ). Prints tells written faults takes old new l told) (sym (append_assoc header lines figures))
      (prints-short tells written faults takes old new header (lines ++ figures) e told failed cut)

  -- the lines weren't written whole
  pub lines-short : {T : Type 0} (old mid new : K) (why : Unput) (told : Result T Unput) → told ≡ Err why → Puts tells written faults takes old mid header (Ok tt)
      → Prints {T = Unit {0}} tells written faults takes mid new lines (Err why) → Prints tells written faults takes old new ((header ++ lines) ++ figures) told
  lines-short old mid new why told is first cut =
      subst (λ (l : List ℕ). Prints tells written faults takes old new l told) (sym (append_assoc header lines figures))
      (prints-then tells written faults takes old mid new header (lines ++ figures) (tt {0}) told (prints-put tells written faults takes old mid header (tt {0}) first)
      (prints-cut tells written faults takes mid new lines figures why told is cut))

  -- the header and the lines were written
  pub text-put : (old mid new : K) → Puts tells written faults takes old mid header (Ok tt) → Prints {T = Unit {0}} tells written faults takes mid new lines (Ok tt)
      → Prints {T = Unit {0}} tells written faults takes old new (header ++ lines) (Ok tt)
  text-put old mid new first later =
      prints-then tells written faults takes old mid new header lines (tt {0}) (Ok tt) (prints-put tells written faults takes old mid header (tt {0}) first) later

  -- the lines are taken once the header was written
  pub lines-room : (old mid : K) → ((sink : K) (m n : ℕ) → m ≤ n → takes sink n → takes sink m) → Puts tells written faults takes old mid header (Ok tt)
      → takes old (length ((header ++ lines) ++ figures)) → takes mid (length lines)
  lines-room old mid fewer first room =
      let both = length-append (header ++ lines) figures in
      let front = length-append header lines in
      first.room (length lines) (fewer old (length header + length lines) (length ((header ++ lines) ++ figures)) (omega (arith, both, front)) room)

  -- and the figures once these were
  pub figures-room : (old mid new : K) → Puts tells written faults takes old mid header (Ok tt) → Prints {T = Unit {0}} tells written faults takes mid new lines (Ok tt)
      → (its : List ℕ) → its ≡ figures → takes old (length ((header ++ lines) ++ figures)) → takes new (length its)
  figures-room old mid new first later its same room =
      subst (λ (l : List ℕ). takes new (length l)) (sym same)
      ((text-put old mid new first later).room (length figures) (subst (takes old) (length-append (header ++ lines) figures) room))

  -- the figures' write failed
  pub figures-short : {T : Type 0} (old mid now new : K) (e : Failed) (told : Result T Unput) → IsErr told → Puts tells written faults takes old mid header (Ok tt)
      → Prints {T = Unit {0}} tells written faults takes mid now lines (Ok tt) → (its : List ℕ) → its ≡ figures → Puts tells written faults takes now new its (Err e)
      → Prints tells written faults takes old new ((header ++ lines) ++ figures) told
  figures-short old mid now new e told failed first later its same cut =
      prints-then tells written faults takes old now new (header ++ lines) figures (tt {0}) told (text-put old mid now first later)
      (prints-failed tells written faults takes now new figures e told failed (subst (λ (l : List ℕ). Puts tells written faults takes now new l (Err e)) same cut))

  -- all was written
  pub all-put : (old mid now new : K) → Puts tells written faults takes old mid header (Ok tt) → Prints {T = Unit {0}} tells written faults takes mid now lines (Ok tt)
      → (its : List ℕ) → its ≡ figures → Puts tells written faults takes now new its (Ok tt)
      → Prints {T = Unit {0}} tells written faults takes old new ((header ++ lines) ++ figures) (Ok tt)
  all-put old mid now new first later its same put =
      prints-then tells written faults takes old now new (header ++ lines) figures (tt {0}) (Ok tt) (text-put old mid now first later)
      (prints-put tells written faults takes now new figures (tt {0}) (subst (λ (l : List ℕ). Puts tells written faults takes now new l (Ok tt)) same put))
