-- How a window's cells and marks go on as it moves.
use Rattle.std.proofs.Common.{◌≡◌, ℤ, pos, ◌-ℤ◌, ◌<ℤ◌, ◌≤ℤ◌, false, List, [], ◌∷◌, ◌++◌, map, drop, Option, Some, None, slice_get, refl, sym, ap, ◌∙◌, arith}
use Rattle.std.proofs.lemmas.Int.{ints, by_lt_z}
use Rattle.std.proofs.lemmas.List.{map-append, append-nil}
use Rattle.std.proofs.lemmas.Option.{same_Some}
use Rattle.tilt_stream.specs.Agreement.{ChangesOnlyAtMarks}
use Rattle.tilt_stream.specs.Marks.{IsNextMark}
use Rattle.tilt_stream.specs.Snap.{Snapshot}
use Rattle.tilt_stream.specs.Stream.{Stream}
use Rattle.tilt_stream.specs.Window.{met}
use Rattle.tilt_stream.proofs.MarkedTicks.{marked-none, marked-next, marked-first, marked-empty, marked-append, met-marked, marked-no_ticks, cell-kept}
use Rattle.tilt_turn.specs.Held.{Holds}
use Rattle.tilt_stream.specs.Marked.{marked}
use Rattle.tilt_turn.specs.declared.moving.Moving.{Moving}
use Rattle.tilt_turn.specs.declared.moving.NextMark.{NextMark}
use Rattle.tilt_turn.specs.declared.moving.NextMark.TheVariants.{Known}
use Rattle.tilt_window.specs.Taken.{IsFirstTaken}

-- cells and marks of the ticks from a first one to a last one
pub record IsMet (x : Stream) (f : Option ℤ → Option ℤ) (first last : ℤ) (cells : List (Option ℤ)) (marks : List ℤ) : Type 0 where
  pub cells_met : cells ≡ map f (met x (first -ℤ pos 1) last)
  pub marks_met : marks ≡ marked x first last

-- a window that holds what the ticks from some earlier one on meet
pub record HoldsBefore (list : List Snapshot) (f : Option ℤ → Option ℤ) (first : ℤ) (w : Moving) : Type 0 where
  pub begin : ℤ
  pub low : begin ≤ℤ first
  pub holds : Holds list f begin w

rest-taken : (cell : Option ℤ) (cells rest left : List (Option ℤ)) (taken : Option (Option ℤ)) → cells ≡ cell ∷ rest
    → IsFirstTaken cells taken left → left ≡ rest
rest-taken cell cells rest left None is took = absurd (cc (sym is ∙ took.0))
rest-taken cell cells rest left (Some first) is took = let e : first ∷ left ≡ cell ∷ rest = sym took ∙ is in cc

-- one mark and the cell before it less
pub dropped : (x : Stream) (f : Option ℤ → Option ℤ) (begin mark last : ℤ) (cells left : List (Option ℤ)) (marks others : List ℤ) (taken : Option (Option ℤ))
    → begin ≤ℤ last → IsMet x f begin last cells marks → slice_get marks 0 ≡ Some mark → IsFirstTaken cells taken left
    → others ≡ drop 1 marks
    → IsMet x f mark last left others
dropped x f begin mark last cells left [] others taken some held first took rest = absurd (cc first)
dropped x f begin mark last cells left (m ∷ marks) others taken some held first took rest =
    let same : m ≡ mark = same_Some m mark first in
    let found = marked-first x begin last m marks some (sym held.marks_met) in
    let behind : met x (m -ℤ pos 1) last ≡ x.cell m ∷ map x.cell marks =
    met-marked x m last found.within ∙ ap (λ (ts : List ℤ). x.cell m ∷ map x.cell ts) (sym found.others) in
    let all : met x (begin -ℤ pos 1) last ≡ x.cell begin ∷ met x (m -ℤ pos 1) last =
    met-marked x begin last some ∙ ap (λ (ts : List ℤ). x.cell begin ∷ map x.cell ts) (sym held.marks_met)
    ∙ ap (λ (cs : List (Option ℤ)). x.cell begin ∷ cs) (sym behind) in
    let taken_is = rest-taken (f (x.cell begin)) cells (map f (met x (m -ℤ pos 1) last)) left taken
    (held.cells_met ∙ ap (map f) all) took in
    rw (← same) (record { cells_met = taken_is; marks_met = rest ∙ found.others })

-- if there is no mark up to the first tick, no more has to go
none-before : (x : Stream) (begin first last : ℤ) (marks : List ℤ) → begin ≤ℤ first → first ≤ℤ last → marks ≡ marked x begin last
    → ((mark : ℤ) → slice_get marks 0 ≡ Some mark → mark ≤ℤ first → ⊥) → (other : ℤ) → begin <ℤ other → other ≤ℤ first
    → x.mark other ≡ false
none-before x begin first last [] low high is none other above below =
    marked-empty x begin last (omega (arith, ints)) (sym is) other above (omega (arith, ints))
none-before x begin first last (m ∷ marks) low high is none other above below =
    let found = marked-first x begin last m marks (omega (arith, ints)) (sym is) in
    by_lt_z first m
    (λ later. found.next.least other above (omega (arith, ints)))
    (λ within. absurd (none m refl within))

pub all-dropped : (x : Stream) (f : Option ℤ → Option ℤ) (begin first last : ℤ) (cells : List (Option ℤ)) (marks : List ℤ)
    → ChangesOnlyAtMarks x
    → begin ≤ℤ first → first ≤ℤ last → IsMet x f begin last cells marks
    → ((mark : ℤ) → slice_get marks 0 ≡ Some mark → mark ≤ℤ first → ⊥) → IsMet x f first last cells marks
all-dropped x f begin first last cells marks changes low high held none =
    let clear = none-before x begin first last marks low high held.marks_met none in
    let same : marked x begin last ≡ marked x first last =
    marked-append x begin first last low high ∙ ap (λ (ts : List ℤ). ts ++ marked x first last) (marked-none x begin first low clear) in
    let cell : x.cell begin ≡ x.cell first = sym (cell-kept x begin first changes low clear) in
    let all : met x (begin -ℤ pos 1) last ≡ met x (first -ℤ pos 1) last =
    met-marked x begin last (omega (arith, ints))
    ∙ ap (λ (ts : List ℤ). x.cell begin ∷ map x.cell ts) same
    ∙ ap (λ (c : Option ℤ). c ∷ map x.cell (marked x first last)) cell
    ∙ sym (met-marked x first last high) in
    record { cells_met = held.cells_met ∙ ap (map f) all; marks_met = held.marks_met ∙ same }

-- the marks up to the next one
up_to-next : (x : Stream) (first last mark : ℤ) → first ≤ℤ last → IsNextMark x last mark
    → marked x first mark ≡ marked x first last ++ mark ∷ []
up_to-next x first last mark some found =
    let above = found.above in
    marked-append x first last mark some (omega (arith, ints))
    ∙ ap (λ (ts : List ℤ). marked x first last ++ ts)
    (marked-next x last mark mark found (omega (arith, ints)) ∙ ap (λ (ts : List ℤ). mark ∷ ts) (marked-no_ticks x mark mark (omega (arith, ints))))

-- one mark and its cell more
pub pushed : (x : Stream) (f : Option ℤ → Option ℤ) (first last mark : ℤ) (cells more : List (Option ℤ)) (marks others : List ℤ)
    → first ≤ℤ last → IsNextMark x last mark → IsMet x f first last cells marks → more ≡ cells ++ f (x.cell mark) ∷ []
    → others ≡ marks ++ mark ∷ []
    → IsMet x f first mark more others
pushed x f first last mark cells more marks others some found held added noted =
    let above = found.above in
    let next = up_to-next x first last mark some found in
    let all : met x (first -ℤ pos 1) mark ≡ met x (first -ℤ pos 1) last ++ x.cell mark ∷ [] =
    met-marked x first mark (omega (arith, ints))
    ∙ ap (λ (ts : List ℤ). x.cell first ∷ map x.cell ts) next
    ∙ ap (λ (cs : List (Option ℤ)). x.cell first ∷ cs) (map-append x.cell (marked x first last) (mark ∷ []))
    ∙ ap (λ (cs : List (Option ℤ)). cs ++ x.cell mark ∷ []) (sym (met-marked x first last some)) in
    record {
      cells_met = added ∙ ap (λ (cs : List (Option ℤ)). cs ++ f (x.cell mark) ∷ []) held.cells_met
          ∙ sym (ap (map f) all ∙ map-append f (met x (first -ℤ pos 1) last) (x.cell mark ∷ []));
      marks_met = noted ∙ ap (λ (ts : List ℤ). ts ++ mark ∷ []) held.marks_met ∙ sym next;
    }

-- where no mark follows, the last tick moves alone
pub moved : (x : Stream) (f : Option ℤ → Option ℤ) (first last later : ℤ) (cells : List (Option ℤ)) (marks : List ℤ)
    → first ≤ℤ last → last ≤ℤ later → ((other : ℤ) → last <ℤ other → other ≤ℤ later → x.mark other ≡ false)
    → IsMet x f first last cells marks → IsMet x f first later cells marks
moved x f first last later cells marks some onwards none held =
    let same : marked x first later ≡ marked x first last =
    marked-append x first last later some onwards
    ∙ ap (λ (ts : List ℤ). marked x first last ++ ts) (marked-none x last later onwards none)
    ∙ append-nil (marked x first last) in
    let all : met x (first -ℤ pos 1) later ≡ met x (first -ℤ pos 1) last =
    met-marked x first later (omega (arith, ints)) ∙ ap (λ (ts : List ℤ). x.cell first ∷ map x.cell ts) same ∙ sym (met-marked x first last some) in
    record { cells_met = held.cells_met ∙ ap (map f) (sym all); marks_met = held.marks_met ∙ sym same }

-- a window in which a next mark is stored
abbrev pub stored : Moving → Option ℤ → Moving
stored w next = record { kind = w.kind; marks = w.marks; back = w.back; next = Known next }

-- a window holds the same cells with another next mark
pub holds-beside : (list : List Snapshot) (f : Option ℤ → Option ℤ) (first : ℤ) (w : Moving) (next : NextMark) → Holds list f first w
    → Holds list f first (record w { next = next })
holds-beside list f first w next held = record { cells = held.cells; marks = held.marks }
