-- Snapshots that are written, one after another.
use Rattle.std.proofs.Common.{◌≡◌, ◌≤◌, ◌+◌, ℕ, zero, suc, List, [], ◌∷◌, ◌++◌, None, Some, drop, length, slice_get, refl, sym, ap, ◌∙◌, append_assoc, arith, is_some, Bool, true, false, if◌then◌else◌, add-one}
use Rattle.std.proofs.Common.{Result, Ok, Err}
use Rattle.std.proofs.lemmas.List.{append-nil}
use Rattle.tilt_live_run.proofs.Adding.{adds-failed, adds-stopped, adds-then, adds-write}
use Rattle.tilt_live_run.specs.Adds.{Adds}
use Rattle.tilt_live_run.specs.declared.stop.Stop.{Stop}
use Rattle.tilt_live_run.specs.declared.stop.Stop.TheVariants.{BadLine, WriteFault}
use Rattle.tilt_outside.specs.declared.failed.Failed.{Failed}
use Rattle.tilt_port.proofs.Writing.{writes-none, writes-then}
use Rattle.tilt_port.specs.Transcript.{Transcript, Writes}
use Rattle.tilt_row_text.proofs.Plain.{lines-append}
use Rattle.tilt_row_text.specs.Lines.{lines_in, row_line}
use Rattle.tilt_row_text.specs.declared.style.RowStyle.{RowStyle}
use Rattle.tilt_stream.specs.Snap.{Snapshot}

-- the lines of one snapshot and those of the others
pub lines-first : (style : RowStyle) (s : Snapshot) (ss : List Snapshot) → lines_in style (s ∷ ss) ≡ lines_in style (s ∷ []) ++ lines_in style ss
lines-first style s ss = by (is_some s.value)
  where
    by : (some : Bool) → (if some then row_line style s ++ lines_in style ss else lines_in style ss) ≡ (if some then row_line style s ++ lines_in style [] else lines_in style []) ++ lines_in style ss
    by true = sym (append_assoc (row_line style s) [] (lines_in style ss))
    by false = refl

-- what is left of a list begins with what comes next
left_next : (list : List Snapshot) (given : ℕ) (s : Snapshot) → slice_get list given ≡ Some s → drop given list ≡ s ∷ drop (suc given) list
left_next [] given s e = absurd (cc e)
left_next (x ∷ list) zero s e = ap (λ (t : Snapshot). t ∷ list) (cc e)
left_next (x ∷ list) (suc given) s e = left_next list given s e

pub left-next : (list : List Snapshot) (given : ℕ) (s : Snapshot) → slice_get list given ≡ Some s → drop given list ≡ s ∷ drop (given + 1) list
left-next list given s e = rw (add-one given) (left_next list given s e)

-- nothing is left if nothing comes next
pub nothing-left : (list : List Snapshot) (given : ℕ) → slice_get list given ≡ None → drop given list ≡ []
nothing-left [] zero e = refl
nothing-left [] (suc given) e = refl
nothing-left (x ∷ list) zero e = absurd (cc e)
nothing-left (x ∷ list) (suc given) e = nothing-left list given e

-- then all of it was given
pub all-given : (list : List Snapshot) (given : ℕ) → slice_get list given ≡ None → given ≤ length list → given ≡ length list
all-given [] zero e within = refl
all-given [] (suc given) e within = absurd (omega (arith, within))
all-given (x ∷ list) zero e within = absurd (cc e)
all-given (x ∷ list) (suc given) e within = ap suc (all-given list given e (omega (arith, within)))

-- snapshots of a list were written from one place on, up to another one; the rest of the list is left. The first is a port's meaning
module _ (tells : Type 0) (style : RowStyle) where
  pub record IsShown (old new : Transcript) (list : List Snapshot) (given given_then : ℕ) : Type 0 where
    pub shown : List Snapshot
    pub is : drop given list ≡ shown ++ drop given_then list
    pub wrote : Writes tells old new (lines_in style shown) (Ok (tt {0}))

  pub shown-none : (t : Transcript) (list : List Snapshot) (given : ℕ) → IsShown t t list given given
  shown-none t list given = record { shown = []; is = refl; wrote = writes-none tells t }

  pub shown-next : (old mid new : Transcript) (list : List Snapshot) (given place : ℕ) (s : Snapshot) → IsShown old mid list given place
      → slice_get list place ≡ Some s → Writes tells mid new (lines_in style (s ∷ [])) (Ok (tt {0})) → IsShown old new list given (place + 1)
  shown-next old mid new list given place s before next write = record {
    shown = before.shown ++ s ∷ [];
    is = before.is ∙ rw (left-next list place s next) (sym (append_assoc before.shown (s ∷ []) (drop (place + 1) list)));
    wrote = rw (lines-append style before.shown (s ∷ [])) (writes-then tells old mid new (lines_in style before.shown) (lines_in style (s ∷ [])) (Ok (tt {0})) before.wrote write);
  }

  -- all of it was written
  pub shown-all : (old new : Transcript) (list : List Snapshot) (given place : ℕ) → IsShown old new list given place → slice_get list place ≡ None
      → Adds {T = Unit {0}} tells old new (lines_in style (drop given list)) (Ok (tt {0}))
  shown-all old new list given place before none =
      let all : drop given list ≡ before.shown = before.is ∙ rw (nothing-left list place none) (append-nil before.shown) in
      rw all (adds-write tells old new (lines_in style before.shown) (tt {0}) before.wrote)

  -- the run stopped before the rest of it, not by a bad line or a write
  pub shown-stopped : (old new : Transcript) (list : List Snapshot) (given place : ℕ) (why : Stop) (result : Result (Unit {0}) Stop) → result ≡ Err why
      → (why ≡ WriteFault → ⊥) → (why ≡ BadLine → ⊥) → IsShown old new list given place → Adds tells old new (lines_in style (drop given list)) result
  shown-stopped old new list given place why result is other good before =
      rw (before.is, lines-append style before.shown (drop place list))
      (adds-then tells old new new (lines_in style before.shown) (lines_in style (drop place list)) (tt {0}) result (adds-write tells old new (lines_in style before.shown) (tt {0}) before.wrote)
      (adds-stopped tells new (lines_in style (drop place list)) why result is other (λ e. absurd (good e))))

  -- the write of the next one failed
  pub shown-failed : (old mid new : Transcript) (list : List Snapshot) (given place : ℕ) (s : Snapshot) (e : Failed) (result : Result (Unit {0}) Stop)
      → result ≡ Err WriteFault → IsShown old mid list given place → slice_get list place ≡ Some s
      → Writes tells mid new (lines_in style (s ∷ [])) (Err e) → Adds tells old new (lines_in style (drop given list)) result
  shown-failed old mid new list given place s e result is before next write =
      rw (before.is, lines-append style before.shown (drop place list), left-next list place s next, lines-first style s (drop (place + 1) list))
      (adds-then tells old mid new (lines_in style before.shown) (lines_in style (s ∷ []) ++ lines_in style (drop (place + 1) list)) tt result
      (adds-write tells old mid (lines_in style before.shown) (tt {0}) before.wrote)
      (adds-failed tells mid new (lines_in style (s ∷ [])) (lines_in style (drop (place + 1) list)) e result is write))
