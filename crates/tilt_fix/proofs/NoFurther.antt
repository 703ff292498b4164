-- Outside of the ticks that an edit reaches, what a query means stays.
use Rattle.std.proofs.Common.{◌≡◌, ℕ, ℤ, pos, ◌+ℤ◌, ◌-ℤ◌, ◌<ℤ◌, ◌≤ℤ◌, List, [], length, Option, Some, None, ◌⊎◌, inl, inr, refl, sym, ◌∙◌, arith, subst}
use Rattle.std.specs.Prelude.{Result, Ok, Err, IsSome, slice_set, option_and_then, true}
use Rattle.std.specs.List.{slice_index_or}
use Rattle.std.specs.Ordering.{int_eq}
use Rattle.std.proofs.lemmas.Bool.{cases_Bool, false≢true}
use Rattle.std.proofs.lemmas.Int.{ints}
use Rattle.std.proofs.lemmas.List.{length-set}
use Rattle.tilt_base.specs.declared.span.Span.{Span}
use Rattle.tilt_bounds.specs.Margins.{need_at}
use Rattle.tilt_compiler.specs.Accepted.{AcceptedParts, IsAccepted}
use Rattle.tilt_core.proofs.Last.{domain_of-stretch}
use Rattle.tilt_core.specs.Core.{IsStretch, domain_of, emitted_number}
use Rattle.tilt_core.specs.Meaning.{meaning}
use Rattle.tilt_core.specs.Needs.{Need}
use Rattle.tilt_fix.proofs.Outside.{AreSameOutside, edited-same}
use Rattle.tilt_fix.proofs.Reaching.{IsFar, far-agrees}
use Rattle.tilt_fix.proofs.Restricted.{IsRestricted, cells-outside, emitted-restricted, marks-first, marks-outside}
use Rattle.tilt_fix.proofs.Stretch.{IsStretchOf, looking-none, looking-some}
use Rattle.tilt_edits.specs.Edited.{IsEditOf, after_edit, changed, edited, end_of, input_of, start_of}
use Rattle.tilt_fix.specs.Reached.{IsOutside, StaysOutside, looking_at, reached}
use Rattle.tilt_edits.specs.declared.edit.Edit.{Edit}
use Rattle.tilt_edits.specs.declared.fault.FixFault.{FixFault}
use Rattle.tilt_stream.specs.Agreement.{Agree}
use Rattle.tilt_stream.specs.Domain.{lies_in}
use Rattle.tilt_stream.specs.Snap.{Snapshot}
use Rattle.tilt_stream.specs.Stream.{stream_of}

-- the rows after an edit are those before, with those of one input changed
record IsChanged (rows : List (List Snapshot)) (input : ℕ) (made : Result (List Snapshot) FixFault) (after : List (List Snapshot)) : Type 0 where
  new : List Snapshot
  made_is : made ≡ Ok new
  after_is : slice_set rows input new ≡ after

changed-is : (rows : List (List Snapshot)) (input : ℕ) (made : Result (List Snapshot) FixFault) (after : List (List Snapshot))
    → changed rows input made ≡ Ok after → IsChanged rows input made after
changed-is rows input (Ok new) after is = record { new = new; made_is = refl; after_is = cc is }
changed-is rows input (Err fault) after is = absurd (cc is)

module _ (query : AcceptedParts) (rows : List (List Snapshot)) (edit : Edit) (new : List Snapshot) (accepted : IsAccepted query)
    (many : length rows ≡ length query.core.inputs) (some : start_of edit <ℤ end_of edit)
    (same : AreSameOutside (start_of edit) (end_of edit) (stream_of new) (stream_of (slice_index_or rows (input_of edit) []))) (domain : Span)
    (domain_is : domain_of query.core.defs ≡ Some domain) where
  stretch : IsStretch (Some domain)
  stretch = subst IsStretch domain_is (domain_of-stretch (length query.core.inputs) query.core.defs accepted.valid.definitions)

  agrees : (lo hi : ℤ) → lo <ℤ hi → IsFar (need_at query.margins.needs (input_of edit)) (start_of edit) (end_of edit) lo hi
      → Agree (meaning (slice_set rows (input_of edit) new) query.core.defs (emitted_number query.core))
      (meaning rows query.core.defs (emitted_number query.core)) lo hi
  agrees lo hi below far =
      far-agrees query.core query.margins accepted.valid accepted.near rows (input_of edit) new (start_of edit) (end_of edit) lo hi many same below far

  reached-is : reached query edit ≡ option_and_then (looking_at domain (start_of edit) (end_of edit)) (need_at query.margins.needs (input_of edit))
  reached-is = rw domain_is refl

  -- from so many ticks before a tick on, or from the start of the domain on, both agree up to it
  record AgreeFrom (before : ℤ) (tick : ℤ) : Type 0 where
    lo : ℤ
    low : (lo ≡ domain.start) ⊎ (lo ≡ tick -ℤ before)
    agree : Agree (meaning (slice_set rows (input_of edit) new) query.core.defs (emitted_number query.core))
        (meaning rows query.core.defs (emitted_number query.core)) lo tick

  far-by : (n : Need) (lo hi : ℤ) → need_at query.margins.needs (input_of edit) ≡ Some n → IsFar (Some n) (start_of edit) (end_of edit) lo hi
      → IsFar (need_at query.margins.needs (input_of edit)) (start_of edit) (end_of edit) lo hi
  far-by n lo hi is far = subst (λ (m : Option Need). IsFar m (start_of edit) (end_of edit) lo hi) (sym is) far

  agree_before : (before tick : ℤ) (n : Need) (span : Span) → need_at query.margins.needs (input_of edit) ≡ Some n → domain.start <ℤ tick
      → tick ≤ℤ span.start → (span.start ≡ domain.start) ⊎ ((span.start +ℤ n.ahead) ≤ℤ start_of edit) → AgreeFrom before tick
  agree_before before tick n span is above low (inl first) = absurd (omega (arith, ints))
  agree_before before tick n span is above low (inr far) =
      record { lo = domain.start; low = inl refl; agree = agrees domain.start tick above (far-by n domain.start tick is (inl (omega (arith, ints)))) }

  agree_after : (before tick : ℤ) (n : Need) (span : Span) → need_at query.margins.needs (input_of edit) ≡ Some n → pos 1 ≤ℤ before → before ≤ℤ pos 2
      → tick ≤ℤ domain.end → span.end <ℤ tick → (span.end ≡ domain.end) ⊎ (end_of edit ≤ℤ (span.end -ℤ pos 1 -ℤ n.back)) → AgreeFrom before tick
  agree_after before tick n span is least most within high (inl last) = absurd (omega (arith, ints))
  agree_after before tick n span is least most within high (inr far) =
      record {
        lo = tick -ℤ before;
        low = inr refl;
        agree = agrees (tick -ℤ before) tick (omega (arith, ints)) (far-by n (tick -ℤ before) tick is (inr (omega (arith, ints))));
      }

  agree_beside : (before tick : ℤ) (n : Need) (span : Span) → need_at query.margins.needs (input_of edit) ≡ Some n
      → IsStretchOf domain n (start_of edit) (end_of edit) span → pos 1 ≤ℤ before → before ≤ℤ pos 2
      → domain.start <ℤ tick → tick ≤ℤ domain.end → (tick ≤ℤ span.start) ⊎ (span.end <ℤ tick) → AgreeFrom before tick
  agree_beside before tick n span is at least most above within (inl low) = agree_before before tick n span is above low at.left
  agree_beside before tick n span is at least most above within (inr high) = agree_after before tick n span is least most within high at.right

  narrowed : (before tick : ℤ) → domain.start <ℤ tick → tick ≤ℤ domain.end
      → Agree (meaning (slice_set rows (input_of edit) new) query.core.defs (emitted_number query.core))
      (meaning rows query.core.defs (emitted_number query.core)) domain.start domain.end
      → AgreeFrom before tick
  narrowed before tick above within all = record {
    lo = domain.start;
    low = inl refl;
    agree = record {
      cells = λ t a b. all.cells t a (omega (arith, ints));
      marks = λ t a b. all.marks t a (omega (arith, ints));
    };
  }

  agree_by : (before tick : ℤ) (found : Option Span) → reached query edit ≡ found → pos 1 ≤ℤ before → before ≤ℤ pos 2 → domain.start <ℤ tick
      → tick ≤ℤ domain.end → IsOutside found tick → AgreeFrom before tick
  agree_by before tick None is least most above within out =
      narrowed before tick above within
      (agrees domain.start domain.end stretch.1
      (looking-none domain (start_of edit) (end_of edit) (record { back = query.margins.back; ahead = query.margins.ahead })
      (need_at query.margins.needs (input_of edit)) (accepted.within.needs.each (input_of edit)) stretch.1 some (sym reached-is ∙ is)))
  agree_by before tick (Some span) is least most above within out =
      let at = looking-some domain (start_of edit) (end_of edit) (need_at query.margins.needs (input_of edit)) span (sym reached-is ∙ is) in
      agree_beside before tick at.0 span at.1 at.2 least most above within out

  cell_by : (tick : ℤ) → domain.start <ℤ tick → AgreeFrom (pos 1) tick
      → (meaning (slice_set rows (input_of edit) new) query.core.defs (emitted_number query.core)).cell tick
      ≡ (meaning rows query.core.defs (emitted_number query.core)).cell tick
  cell_by tick above from = from.agree.cells tick (first_by from.lo from.low) (omega (arith, ints))
    where
      first_by : (lo : ℤ) → (lo ≡ domain.start) ⊎ (lo ≡ tick -ℤ pos 1) → lo <ℤ tick
      first_by lo (inl is) = omega (arith, ints)
      first_by lo (inr is) = omega (arith, ints)

  mark_by : (tick : ℤ) → (domain.start +ℤ pos 1) <ℤ tick → AgreeFrom (pos 2) tick
      → (meaning (slice_set rows (input_of edit) new) query.core.defs (emitted_number query.core)).mark tick
      ≡ (meaning rows query.core.defs (emitted_number query.core)).mark tick
  mark_by tick above from = from.agree.marks tick (second_by from.lo from.low) (omega (arith, ints))
    where
      second_by : (lo : ℤ) → (lo ≡ domain.start) ⊎ (lo ≡ tick -ℤ pos 2) → (lo +ℤ pos 1) <ℤ tick
      second_by lo (inl is) = omega (arith, ints)
      second_by lo (inr is) = omega (arith, ints)

  pub cell-stays : (tick : ℤ) → domain.start <ℤ tick → tick ≤ℤ domain.end → IsOutside (reached query edit) tick
      → (meaning (slice_set rows (input_of edit) new) query.core.defs (emitted_number query.core)).cell tick
      ≡ (meaning rows query.core.defs (emitted_number query.core)).cell tick
  cell-stays tick above within out =
      cell_by tick above (agree_by (pos 1) tick (reached query edit) refl (omega (arith, ints)) (omega (arith, ints)) above within out)

  pub mark-stays : (tick : ℤ) → (domain.start +ℤ pos 1) <ℤ tick → tick ≤ℤ domain.end → IsOutside (reached query edit) tick
      → (meaning (slice_set rows (input_of edit) new) query.core.defs (emitted_number query.core)).mark tick
      ≡ (meaning rows query.core.defs (emitted_number query.core)).mark tick
  mark-stays tick above within out =
      mark_by tick above (agree_by (pos 2) tick (reached query edit) refl (omega (arith, ints)) (omega (arith, ints)) (omega (arith, ints)) within out)

module _ (query : AcceptedParts) (rows : List (List Snapshot)) (edit : Edit) (new : List Snapshot) (accepted : IsAccepted query)
    (many : length rows ≡ length query.core.inputs) (some : start_of edit <ℤ end_of edit)
    (same : AreSameOutside (start_of edit) (end_of edit) (stream_of new) (stream_of (slice_index_or rows (input_of edit) []))) (domain : Span)
    (domain_is : domain_of query.core.defs ≡ Some domain) where
  emitted-before : IsRestricted domain (meaning rows query.core.defs (emitted_number query.core))
  emitted-before = emitted-restricted query.core rows domain accepted.valid many domain_is

  emitted-after : IsRestricted domain (meaning (slice_set rows (input_of edit) new) query.core.defs (emitted_number query.core))
  emitted-after =
      emitted-restricted query.core (slice_set rows (input_of edit) new) domain accepted.valid (length-set rows (input_of edit) new ∙ many) domain_is

  cell-anywhere : (tick : ℤ) → IsOutside (reached query edit) tick
      → (meaning (slice_set rows (input_of edit) new) query.core.defs (emitted_number query.core)).cell tick
      ≡ (meaning rows query.core.defs (emitted_number query.core)).cell tick
  cell-anywhere tick out =
      elim (cases_Bool (lies_in domain.start domain.end tick)) [
        | inl inside ↦ cell-stays query rows edit new accepted many some same domain domain_is tick (grind (arith, ints)) (grind (arith, ints)) out
        | inr none ↦ cells-outside domain _ _ emitted-after emitted-before tick none
      ]

  mark-inside : (tick : ℤ) → lies_in domain.start domain.end tick ≡ true → IsOutside (reached query edit) tick
      → (meaning (slice_set rows (input_of edit) new) query.core.defs (emitted_number query.core)).mark tick
      ≡ (meaning rows query.core.defs (emitted_number query.core)).mark tick
  mark-inside tick inside out =
      elim (cases_Bool (int_eq tick (domain.start +ℤ pos 1))) [
        | inl first ↦ marks-first domain _ _ emitted-after emitted-before tick first
        | inr later ↦ mark-stays query rows edit new accepted many some same domain domain_is tick (grind (arith, ints)) (grind (arith, ints)) out
      ]

  mark-anywhere : (tick : ℤ) → IsOutside (reached query edit) tick
      → (meaning (slice_set rows (input_of edit) new) query.core.defs (emitted_number query.core)).mark tick
      ≡ (meaning rows query.core.defs (emitted_number query.core)).mark tick
  mark-anywhere tick out =
      elim (cases_Bool (lies_in domain.start domain.end tick)) [
        | inl inside ↦ mark-inside tick inside out
        | inr none ↦ marks-outside domain _ _ emitted-after emitted-before tick none
      ]

  pub stays-over : StaysOutside query edit (meaning rows query.core.defs (emitted_number query.core))
      (meaning (slice_set rows (input_of edit) new) query.core.defs (emitted_number query.core))
  stays-over = record { cells = cell-anywhere; marks = mark-anywhere }

pub stays-outside : (query : AcceptedParts) (rows after : List (List Snapshot)) (edit : Edit) → IsAccepted query
    → length rows ≡ length query.core.inputs → IsEditOf (length rows) edit → after_edit rows edit ≡ Ok after
    → StaysOutside query edit (meaning rows query.core.defs (emitted_number query.core)) (meaning after query.core.defs (emitted_number query.core))
stays-outside query rows after edit accepted many of is =
    let made = changed-is rows (input_of edit) (edited edit (slice_index_or rows (input_of edit) [])) after is in
    let same = edited-same edit (slice_index_or rows (input_of edit) []) made.new of.some made.made_is in
    by_domain (domain_of query.core.defs) refl accepted.valid.domain made same
  where
    by_domain : (found : Option Span) → domain_of query.core.defs ≡ found → IsSome found
        → (made : IsChanged rows (input_of edit) (edited edit (slice_index_or rows (input_of edit) [])) after)
        → AreSameOutside (start_of edit) (end_of edit) (stream_of made.new) (stream_of (slice_index_or rows (input_of edit) []))
        → StaysOutside query edit (meaning rows query.core.defs (emitted_number query.core)) (meaning after query.core.defs (emitted_number query.core))
    by_domain None is some made same = absurd (false≢true some)
    by_domain (Some domain) is some made same =
        rw (← made.after_is) (stays-over query rows edit made.new accepted many of.some same domain is)
