-- What is computed again on the ticks that an edit reaches, written in its place, makes the output what the query gives on the corrected rows.
use Rattle.std.proofs.Common.{◌≡◌, ℕ, suc, ◌==◌, ℤ, pos, ◌+ℤ◌, ◌<ℤ◌, ◌≤ℤ◌, true, List, [], length, Option, Some, None, refl, sym, ap, ◌∙◌, arith, subst, get_or, SFits, to_z, of_z, w64}
use Rattle.std.specs.Prelude.{slice_get, option_and_then, IfOk, Result, Ok, Err}
use Rattle.std.specs.List.{AllByRecursion, slice_index_or, splice}
use Rattle.std.proofs.lemmas.Int.{ints, to_z-of_z}
use Rattle.std.proofs.lemmas.List.{length-set}
use Rattle.std.proofs.lemmas.Option.{slice_get-get_or}
use Rattle.tilt_base.proofs.Lists.{same_found}
use Rattle.tilt_base.proofs.Wide.{wide_fits}
use Rattle.tilt_base.specs.declared.span.Span.{Span}
use Rattle.tilt_bounds.specs.Margins.{need_at}
use Rattle.tilt_compiler.specs.Accepted.{AcceptedParts, IsAccepted}
use Rattle.tilt_compiler.specs.Compiled.{given}
use Rattle.tilt_core.specs.Core.{CoreParts, IsStretch, domain_of}
use Rattle.tilt_core.specs.Meaning.{output_of}
use Rattle.tilt_core.specs.Needs.{Need}
use Rattle.tilt_fix.proofs.Corrected.{far-stays, first-within, is-piece, output-snapshots, put-gives, windows-give}
use Rattle.tilt_fix.proofs.Outside.{AreSameOutside, edited-same}
use Rattle.tilt_fix.proofs.Stretch.{IsStretchOf, looking-none, looking-some}
use Rattle.tilt_fix.specs.Change.{IsChangeOf, all_made, made}
use Rattle.tilt_edits.specs.Edited.{end_of, input_of, start_of}
use Rattle.tilt_fix.specs.Piece.{IsPieceOf, first_before}
use Rattle.tilt_fix.specs.Put.{IsPut}
use Rattle.tilt_fix.specs.Reached.{looking_at, reached}
use Rattle.tilt_fix.specs.Replaced.{stretched}
use Rattle.tilt_fix.specs.Window.{windows}
use Rattle.tilt_fix.specs.declared.change.Change.{Change}
use Rattle.tilt_edits.specs.declared.edit.Edit.{Edit}
use Rattle.tilt_stream.proofs.Places.{ended-rises}
use Rattle.tilt_stream.specs.Snap.{Snapshot, AreRows, AreSnapshots, ended_below}
use Rattle.tilt_stream.specs.Stream.{stream_of}

-- what a query gives, where there is one list of rows for each input
pub output-given : (core : CoreParts) (rows : List (List Snapshot)) (domain : Span) → domain_of core.defs ≡ Some domain
    → length rows ≡ length core.inputs → output_of core rows ≡ Some (given core rows domain.start domain.end)
output-given core rows domain is many =
    let test : (length rows == length core.inputs) ≡ true = grind arith in
    rw (test, is) refl

-- what is computed on windows of the rows, from numbers of 64 bits
pub computed-is : (core : CoreParts) (needs found : List (Option Need)) (rows all seen : List (List Snapshot)) (snaps : List Snapshot) (from to lo hi : ℤ)
    → snaps ≡ given core seen (to_z w64 (of_z w64 lo)) (to_z w64 (of_z w64 hi)) → seen ≡ windows found lo hi 0 all → all ≡ rows → found ≡ needs
    → lo ≡ from → hi ≡ to → SFits w64 lo → SFits w64 hi → snaps ≡ given core (windows needs from to 0 rows) from to
computed-is core needs found rows all seen snaps from to lo hi is seen_is all_is found_is lo_is hi_is lo_fits hi_fits =
    is ∙ rw (to_z-of_z w64 lo lo_fits, to_z-of_z w64 hi hi_fits, seen_is, all_is, found_is, lo_is, hi_is) refl

-- the bounds of what is computed again fit
pub on-fits : (domain span : Span) (lo hi : ℤ) → IsStretch (Some domain) → lo ≡ first_before domain span → hi ≡ span.end
    → domain.start ≤ℤ first_before domain span → first_before domain span <ℤ span.end → span.end ≤ℤ domain.end → SFits w64 lo × SFits w64 hi
on-fits domain span lo hi stretch lo_is hi_is low some high =
    let a = stretch.0 in
    let b = stretch.2 in
    (wide_fits lo (omega (arith, ints)) (omega (arith, ints)), wide_fits hi (omega (arith, ints)) (omega (arith, ints)))

-- three things of what a call gives
pub if_ok-three : {X E : Type 0} {P Q R S : X → Type 0} (r : Result X E) → IfOk r P → IfOk r Q → IfOk r R
    → ((x : X) → P x → Q x → R x → S x) → IfOk r S
if_ok-three (Ok x) p q r f = f x p q r
if_ok-three (Err e) p q r f = tt

module _ (query : AcceptedParts) (rows : List (List Snapshot)) (accepted : IsAccepted query) (many : length rows ≡ length query.core.inputs)
    (domain : Span) (domain_is : domain_of query.core.defs ≡ Some domain) (stretch : IsStretch (Some domain)) (edit : Edit)
    (some : start_of edit <ℤ end_of edit) (change : Change) (does : IsChangeOf edit (slice_index_or rows (input_of edit) []) change) where
  same : AreSameOutside (start_of edit) (end_of edit) (stream_of (made change (slice_index_or rows (input_of edit) []))) (stream_of (slice_index_or rows (input_of edit) []))
  same = edited-same edit (slice_index_or rows (input_of edit) []) (made change (slice_index_or rows (input_of edit) [])) some does.is

  after-many : length (all_made change (input_of edit) rows) ≡ length query.core.inputs
  after-many = length-set rows (input_of edit) (made change (slice_index_or rows (input_of edit) [])) ∙ many

  reached-is : reached query edit ≡ option_and_then (looking_at domain (start_of edit) (end_of edit)) (need_at query.margins.needs (input_of edit))
  reached-is = rw domain_is refl

  -- where no tick is reached the output stays
  pub nothing-put : (output : List Snapshot) → output_of query.core rows ≡ Some output → reached query edit ≡ None
      → IsPut query (all_made change (input_of edit) rows) output 0 0 []
  nothing-put output gives none =
      let far = looking-none domain (start_of edit) (end_of edit) (record { back = query.margins.back; ahead = query.margins.ahead })
      (need_at query.margins.needs (input_of edit)) (accepted.within.needs.each (input_of edit)) stretch.1 some (sym reached-is ∙ none) in
      let stays = far-stays query.core query.margins accepted.valid accepted.near domain stretch rows (input_of edit)
      (made change (slice_index_or rows (input_of edit) [])) (start_of edit) (end_of edit) many same far in
      let was = same_found (output_of query.core rows) output (given query.core rows domain.start domain.end) gives (output-given query.core rows domain domain_is many) in
      record {
        order = omega arith;
        upto = omega arith;
        no_gaps = subst AreSnapshots (sym was) (output-snapshots query.core query.margins accepted.valid accepted.near domain stretch rows (input_of edit)
            (made change (slice_index_or rows (input_of edit) [])) (start_of edit) (end_of edit) many same rows);
        gives = output-given query.core (all_made change (input_of edit) rows) domain domain_is after-many ∙ ap Some (stays ∙ sym was);
      }

  -- where the ticks that are reached are, and those that are computed again
  pub span-within : (span : Span) → reached query edit ≡ Some span
      → (domain.start ≤ℤ span.start) × (domain.start ≤ℤ first_before domain span) × (first_before domain span <ℤ span.end) × (span.end ≤ℤ domain.end)
  span-within span is =
      let at = looking-some domain (start_of edit) (end_of edit) (need_at query.margins.needs (input_of edit)) span (sym reached-is ∙ is) in
      let within = first-within query.core query.margins accepted.valid accepted.near domain stretch rows (input_of edit)
      (made change (slice_index_or rows (input_of edit) [])) (start_of edit) (end_of edit) many same at.0 at.1 span at.2 in
      (at.2.low, within.0, within.1, within.2)

  module _ (span : Span) (is : reached query edit ≡ Some span) (output : List Snapshot) (gives : output_of query.core rows ≡ Some output)
      (order : AllByRecursion AreRows (all_made change (input_of edit) rows)) (snaps : List Snapshot)
      (computed : snaps ≡ given query.core (windows query.margins.needs (first_before domain span) span.end 0 (all_made change (input_of edit) rows))
      (first_before domain span) span.end) where
    at : (n : Need) × (need_at query.margins.needs (input_of edit) ≡ Some n) × IsStretchOf domain n (start_of edit) (end_of edit) span
    at = looking-some domain (start_of edit) (end_of edit) (need_at query.margins.needs (input_of edit)) span (sym reached-is ∙ is)

    within : (domain.start ≤ℤ first_before domain span) × (first_before domain span <ℤ span.end) × (span.end ≤ℤ domain.end)
    within = first-within query.core query.margins accepted.valid accepted.near domain stretch rows (input_of edit)
        (made change (slice_index_or rows (input_of edit) [])) (start_of edit) (end_of edit) many same at.0 at.1 span at.2

    was : output ≡ given query.core rows domain.start domain.end
    was = same_found (output_of query.core rows) output (given query.core rows domain.start domain.end) gives (output-given query.core rows domain domain_is many)

    snaps-are : snaps ≡ given query.core (all_made change (input_of edit) rows) (first_before domain span) span.end
    snaps-are =
        computed ∙ windows-give query.core query.margins accepted.valid accepted.near (all_made change (input_of edit) rows) (first_before domain span) span.end
        after-many order within.1

    -- it is a piece of the output
    pub piece-fits : IsPieceOf output snaps (first_before domain span) span.end
    piece-fits =
        rw (was, snaps-are) (is-piece query.core query.margins accepted.valid accepted.near domain stretch rows (input_of edit)
        (made change (slice_index_or rows (input_of edit) [])) (start_of edit) (end_of edit) many same at.0 at.1 span at.2)

    -- and put in its place it makes the output that of the corrected rows
    pub piece-put : (from to : ℕ) (list : List Snapshot) → from ≡ ended_below (first_before domain span +ℤ pos 1) output
        → to ≡ suc (ended_below span.end output)
        → ((first last : Snapshot) → slice_get output (ended_below (first_before domain span +ℤ pos 1) output) ≡ Some first
        → slice_get output (ended_below span.end output) ≡ Some last → list ≡ stretched first.start last.end snaps)
        → IsPut query (all_made change (input_of edit) rows) output from to list
    piece-put from to list from_is to_is list_is =
        let d : Snapshot = record { start = pos 0; end = pos 0; value = None } in
        let low = within.1 in
        let fits = piece-fits in
        let last_within = fits.last in
        let rises = ended-rises (first_before domain span +ℤ pos 1) span.end output (omega (arith, ints)) in
        let first = slice_get-get_or output (ended_below (first_before domain span +ℤ pos 1) output) d fits.first in
        let last = slice_get-get_or output (ended_below span.end output) d fits.last in
        let f = get_or output (ended_below (first_before domain span +ℤ pos 1) output) d in
        let l = get_or output (ended_below span.end output) d in
        let made_is : given query.core (all_made change (input_of edit) rows) domain.start domain.end ≡ splice output from to list =
        put-gives query.core query.margins accepted.valid accepted.near domain stretch rows (input_of edit)
        (made change (slice_index_or rows (input_of edit) [])) (start_of edit) (end_of edit) many same at.0 at.1 span at.2 f l
        (ap (λ (o : List Snapshot). slice_get o (ended_below (first_before domain span +ℤ pos 1) o)) (sym was) ∙ first)
        (ap (λ (o : List Snapshot). slice_get o (ended_below span.end o)) (sym was) ∙ last)
        ∙ (λ i. splice (sym was i) (ended_below (first_before domain span +ℤ pos 1) (sym was i)) (suc (ended_below span.end (sym was i)))
        (stretched f.start l.end (sym snaps-are i)))
        ∙ (λ i. splice output (sym from_is i) (sym to_is i) (sym (list_is f l first last) i)) in
        record {
          order = omega arith;
          upto = omega arith;
          no_gaps = subst AreSnapshots made_is (output-snapshots query.core query.margins accepted.valid accepted.near domain stretch rows (input_of edit)
              (made change (slice_index_or rows (input_of edit) [])) (start_of edit) (end_of edit) many same (all_made change (input_of edit) rows));
          gives = output-given query.core (all_made change (input_of edit) rows) domain domain_is after-many ∙ ap Some made_is;
        }
