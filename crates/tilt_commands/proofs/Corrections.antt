-- Edits one after another.
use Rattle.std.proofs.Common.{◌≡◌, ◌⊎◌, ◌+◌, ◌<◌, ℕ, Bool, true, false, if◌then◌else◌, Some, List, [], ◌∷◌, map, length, get_or, drop, Option, Result, Ok, Err, refl, sym, ap, ◌∙◌, subst, inl, inr}
use Rattle.std.specs.List.{list_any, slice_index_or}
use Rattle.std.proofs.lemmas.Option.{same_Some}
use Rattle.std.specs.Prelude.{⊤}
use Rattle.std.proofs.lemmas.List.{length-set}
use Rattle.tilt_base.proofs.Lists.{drop-at}
use Rattle.tilt_base.specs.declared.span.Span.{Span}
use Rattle.tilt_bounds.specs.Margins.{MarginsParts}
use Rattle.tilt_commands.specs.Corrections.{HasApplied, IsCorrected, not_applied, applied, after_edits, and_edit, reached_by}
use Rattle.tilt_compiler.specs.Accepted.{AcceptedParts}
use Rattle.tilt_core.specs.Core.{CoreParts}
use Rattle.tilt_core.specs.Meaning.{output_of}
use Rattle.tilt_edits.specs.Edited.{added, after_edit, changed, edited, has_times, input_of, meets}
use Rattle.tilt_fix.specs.Live.{LiveParts}
use Rattle.tilt_fix.specs.Reached.{reached}
use Rattle.tilt_edits.specs.declared.edit.Edit.{Edit}
use Rattle.tilt_edits.specs.declared.edit.Edit.TheVariants.{Add, Remove, Set}
use Rattle.tilt_edits.specs.declared.fault.FixFault.{FixFault}
use Rattle.tilt_edits.specs.declared.fault.FixFault.TheVariants.{NoSuchRow, Overlaps, OutOfMemory}
use Rattle.tilt_load.specs.Load.{IsLoadFault}
use Rattle.tilt_printed.specs.Reached.{corrected_text}
use Rattle.tilt_report.specs.Report.{Reason, Outcome, printed, refused, refusal, usage, no_such_row, overlaps, report_of_fix}
use Rattle.tilt_stream.specs.Snap.{Snapshot}

same_Ok : (x y : List (List Snapshot)) → (let r : Result (List (List Snapshot)) FixFault = Ok x in r ≡ Ok y) → x ≡ y
same_Ok x y e = cc e

same_Err : (f g : FixFault) → (let r : Result (List Snapshot) FixFault = Err f in r ≡ Err g) → f ≡ g
same_Err f g e = cc e

same_fault : (f g : FixFault) → (let r : Result (List (List Snapshot)) FixFault = Err f in r ≡ Err g) → f ≡ g
same_fault f g e = cc e

-- an edit leaves as many lists of rows
changed-length : (rows : List (List Snapshot)) (input : ℕ) (r : Result (List Snapshot) FixFault) (after : List (List Snapshot))
    → changed rows input r ≡ Ok after → length after ≡ length rows
changed-length rows input (Ok of_input) after e =
    subst (λ (l : List (List Snapshot)). length l ≡ length rows) (same_Ok _ after e) (length-set rows input of_input)
changed-length rows input (Err fault) after e = absurd (cc e)

pub edit-length : (rows : List (List Snapshot)) (edit : Edit) (after : List (List Snapshot)) → after_edit rows edit ≡ Ok after
    → length after ≡ length rows
edit-length rows edit after e = changed-length rows (input_of edit) (edited edit (slice_index_or rows (input_of edit) [])) after e

-- after a refusal nothing else is
pub edits-refused : (fault : FixFault) (edits : List Edit) → after_edits (Err fault) edits ≡ Err fault
edits-refused fault [] = refl
edits-refused fault (edit ∷ edits) = edits-refused fault edits

-- one fact or another, where the other says more
pub or_else : {A B C : Type 0} → (B → C) → A ⊎ B → A ⊎ C
or_else more (inl a) = inl a
or_else more (inr b) = inr (more b)

module _ (query : AcceptedParts) (rows : List (List Snapshot)) (edits : List Edit) (live : LiveParts) (known : List (Option Span)) where
  -- the next edit is refused
  pub next_refused : (edit : Edit) (i : ℕ) (fault : FixFault) → HasApplied query rows edits live known (drop i edits) → i < length edits
      → edit ≡ get_or edits i edit → after_edit live.rows edit ≡ Err fault → after_edits (Ok rows) edits ≡ Err fault
  next_refused edit i fault so within is refuses =
      so.on_rows ∙ ap (after_edits (Ok live.rows)) (drop-at edits edit i within is)
      ∙ ap (λ (r : Result (List (List Snapshot)) FixFault). after_edits r (drop (i + 1) edits)) refuses ∙ edits-refused fault (drop (i + 1) edits)

-- an edit is refused, or there was no memory
pub edits-fault : (core : CoreParts) (margins : MarginsParts) (rows : List (List Snapshot)) (edits : List Edit) (fault : FixFault)
    → (fault ≡ OutOfMemory) ⊎ (after_edits (Ok rows) edits ≡ Err fault)
    → IsLoadFault ⊤ (λ why. IsCorrected core margins rows edits (refused (refusal why))) (λ _. ⊥) 0 0 (report_of_fix fault)
edits-fault core margins rows edits NoSuchRow (inl memory) = absurd (cc memory)
edits-fault core margins rows edits NoSuchRow (inr refuses) = λ _. not_applied NoSuchRow refuses refl
edits-fault core margins rows edits (Overlaps row) (inl memory) = absurd (cc memory)
edits-fault core margins rows edits (Overlaps row) (inr refuses) = λ _. not_applied (Overlaps row) refuses refl
edits-fault core margins rows edits OutOfMemory told = tt

-- all edits are applied, and this is what the query gives then
pub edits-made : (query : AcceptedParts) (rows : List (List Snapshot)) (edits : List Edit) (live : LiveParts) (list : List Snapshot)
    (known : List (Option Span)) → live.query ≡ query → after_edits (Ok rows) edits ≡ Ok live.rows → output_of live.query.core live.rows ≡ Some list
    → known ≡ map (reached query) edits → IsCorrected query.core query.margins rows edits (printed (corrected_text list known))
edits-made query rows edits live list known same applies gives reaches =
    let means : output_of query.core live.rows ≡ Some list = ap (λ (q : AcceptedParts). output_of q.core live.rows) (sym same) ∙ gives in
    subst (λ (k : List (Option Span)). IsCorrected query.core query.margins rows edits (printed (corrected_text list k))) (sym reaches)
    (applied live.rows list applies means)

-- edits leave as many lists of rows
module _ (n : ℕ) where
  kept-one : (r : Result (List (List Snapshot)) FixFault) (edit : Edit) → ((rows : List (List Snapshot)) → r ≡ Ok rows → length rows ≡ n)
      → (after : List (List Snapshot)) → and_edit r edit ≡ Ok after → length after ≡ n
  kept-one (Ok rows) edit many after e = edit-length rows edit after e ∙ many rows refl
  kept-one (Err fault) edit many after e = absurd (cc e)

  kept-all : (r : Result (List (List Snapshot)) FixFault) (edits : List Edit) → ((rows : List (List Snapshot)) → r ≡ Ok rows → length rows ≡ n)
      → (after : List (List Snapshot)) → after_edits r edits ≡ Ok after → length after ≡ n
  kept-all r [] many after e = many after e
  kept-all r (edit ∷ edits) many after e = kept-all (and_edit r edit) edits (kept-one r edit many) after e

pub edits-length : (rows : List (List Snapshot)) (edits : List Edit) (after : List (List Snapshot)) → after_edits (Ok rows) edits ≡ Ok after
    → length after ≡ length rows
edits-length rows edits after e = kept-all (length rows) (Ok rows) edits (λ rs same. ap (λ (l : List (List Snapshot)). length l) (sym (same_Ok rows rs same))) after e

-- each error of an edit has a reason that is reported
abbrev IsTold : FixFault → Type 0
IsTold fault = (why : Reason) × (report_of_fix fault ≡ refusal why)

module _ (fault : FixFault) where
  told-met : (here : Bool) (s : Snapshot) (r : Result (List Snapshot) FixFault) → (r ≡ Err fault → IsTold fault)
      → (if here then Err (Overlaps s) else r) ≡ Err fault → IsTold fault
  told-met true s r told e = (overlaps s, ap report_of_fix (same_Err fault (Overlaps s) (sym e)))
  told-met false s r told e = told e

  told-added : (row : Snapshot) (rows all : List Snapshot) → added row rows all ≡ Err fault → IsTold fault
  told-added row [] all e = absurd (cc e)
  told-added row (s ∷ ss) all e = told-met (meets row s) s (added row ss all) (told-added row ss all) e

  told-found : (here : Bool) (rows : List Snapshot) → (let r : Result (List Snapshot) FixFault = if here then Ok rows else Err NoSuchRow in r ≡ Err fault)
      → IsTold fault
  told-found true rows e = absurd (cc e)
  told-found false rows e = (no_such_row, ap report_of_fix (same_Err fault NoSuchRow (sym e)))

  told-edited : (edit : Edit) (rows : List Snapshot) → edited edit rows ≡ Err fault → IsTold fault
  told-edited (Add input row) rows e = told-added row rows rows e
  told-edited (Remove input start end) rows e = told-found (list_any (has_times start end) rows) _ e
  told-edited (Set input row) rows e = told-found (list_any (has_times row.start row.end) rows) _ e

  told-changed : (rows : List (List Snapshot)) (input : ℕ) (r : Result (List Snapshot) FixFault) → (r ≡ Err fault → IsTold fault)
      → changed rows input r ≡ Err fault → IsTold fault
  told-changed rows input (Ok of_input) told e = absurd (cc e)
  told-changed rows input (Err other) told e = told (ap (λ (f : FixFault). Err f) (sym (same_fault fault other (sym e))))

  told-one : (r : Result (List (List Snapshot)) FixFault) (edit : Edit) → (r ≡ Err fault → IsTold fault) → and_edit r edit ≡ Err fault → IsTold fault
  told-one (Ok rows) edit told e =
      told-changed rows (input_of edit) (edited edit (slice_index_or rows (input_of edit) []))
      (told-edited edit (slice_index_or rows (input_of edit) [])) e
  told-one (Err other) edit told e = told e

  told-all : (r : Result (List (List Snapshot)) FixFault) (edits : List Edit) → (r ≡ Err fault → IsTold fault) → after_edits r edits ≡ Err fault
      → IsTold fault
  told-all r [] told e = told e
  told-all r (edit ∷ edits) told e = told-all (and_edit r edit) edits (told-one r edit told) e

edits-told : (rows : List (List Snapshot)) (edits : List Edit) (fault : FixFault) → after_edits (Ok rows) edits ≡ Err fault → IsTold fault
edits-told rows edits fault e = told-all fault (Ok rows) edits (λ no. absurd (cc no)) e

-- a query with edits of its rows has one outcome
module _ (core : CoreParts) (margins : MarginsParts) (rows : List (List Snapshot)) (edits : List Edit) where
  same_why : (fault other : FixFault) (why more : Reason) → fault ≡ other → report_of_fix fault ≡ refusal why → report_of_fix other ≡ refusal more
      → why ≡ more
  same_why fault other why more same is also = same_reason why more (sym is ∙ ap report_of_fix same ∙ also) where
    same_reason : (r s : Reason) → refusal r ≡ refusal s → r ≡ s
    same_reason r s e = cc e

  same_list : (after other : List (List Snapshot)) (list more : List Snapshot) → after ≡ other → output_of core after ≡ Some list
      → output_of core other ≡ Some more → list ≡ more
  same_list after other list more same is also = same_Some list more (sym is ∙ ap (output_of core) same ∙ also)

  not_both : (after : List (List Snapshot)) (fault : FixFault) → after_edits (Ok rows) edits ≡ Ok after → after_edits (Ok rows) edits ≡ Err fault → ⊥
  not_both after fault is also = cc (sym is ∙ also)

  pub corrected-once : (o p : Outcome) → IsCorrected core margins rows edits o → IsCorrected core margins rows edits p → o ≡ p
  corrected-once o p (not_applied {why = why} fault is told) (not_applied {why = more} other also heard) =
      ap (λ (r : Reason). refused (refusal r)) (same_why fault other why more (same_fault fault other (sym is ∙ also)) told heard)
  corrected-once o p (not_applied fault is told) (applied after list also gives) = absurd (not_both after fault also is)
  corrected-once o p (applied after list is gives) (not_applied fault also told) = absurd (not_both after fault is also)
  corrected-once o p (applied after list is gives) (applied other more also given) =
      ap (λ (l : List Snapshot). printed (corrected_text l (map (reached_by core margins) edits)))
      (same_list after other list more (same_Ok after other (sym is ∙ also)) gives given)

  -- and always to one, where the query gives something on as many lists of rows
  pub corrected-some : ((after : List (List Snapshot)) → length after ≡ length rows → (list : List Snapshot) × (output_of core after ≡ Some list))
      → (r : Result (List (List Snapshot)) FixFault) → after_edits (Ok rows) edits ≡ r → (o : Outcome) × IsCorrected core margins rows edits o
  corrected-some gives (Ok after) is =
      let given = gives after (edits-length rows edits after is) in (_, applied after given.0 is given.1)
  corrected-some gives (Err fault) is = let told = edits-told rows edits fault is in (_, not_applied fault is told.1)

  -- it isn't usage
  pub corrected-no_usage : (o : Outcome) → IsCorrected core margins rows edits o → o ≡ refused usage → ⊥
  corrected-no_usage o (not_applied fault is told) same = cc same
  corrected-no_usage o (applied after list is gives) same = cc same
