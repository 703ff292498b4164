-- From one session to the next.
use Rattle.std.proofs.Common.{◌≡◌, ◌++◌, ◌≤ℤ◌, ℕ, zero, suc, ℤ, List, length, map, Option, None, Some, sym, ap, ◌∙◌, subst}
use Rattle.std.specs.Prelude.{replicate}
use Rattle.std.proofs.lemmas.List.{length-map}
use Rattle.std.specs.List.{AllByRecursion}
use Rattle.tilt_checkpoint.specs.Checkpoint.{CheckpointParts, cuts_of}
use Rattle.tilt_checkpoint.specs.Cuts.{CutsParts}
use Rattle.tilt_checkpoint.specs.Decided.{IsFrame, frame_of, first_kept}
use Rattle.tilt_checkpoint.specs.Spelling.{spelling}
use Rattle.tilt_checkpoint.specs.Valid.{IsCheckpoint}
use Rattle.tilt_session.specs.Cuts.{IsOnward, NoneFalls}
use Rattle.tilt_session.specs.Emitted.{emitted}
use Rattle.tilt_session.specs.Kept.{checkpoint_at}
use Rattle.tilt_session.specs.Later.{newly, next}
use Rattle.tilt_session.specs.Law.{IsCheckpointOf, IsOneCut}
use Rattle.tilt_session.specs.NewRows.{AreFirstRows, AreNewRows, added}
use Rattle.tilt_session.specs.declared.cut.Cut.TheVariants.{Upto}
use Rattle.tilt_session.proofs.Sessions.{cuts-left}
use Rattle.tilt_checkpoint.specs.Cuts.{same_cuts}
use Rattle.tilt_session.proofs.Parts.{NotBefore, all-first, all-start, all-order, all-new, all-added}
use Rattle.tilt_types.proofs.CheckedCore.{checked-core}
use Rattle.tilt_session.proofs.Printed.{emitted-AreSnapshots}
use Rattle.tilt_session.specs.Parts.{AreJoined, IsRun, early, end_by, part_of, rows_before}
use Rattle.tilt_stream.specs.Snap.{Snapshot, AreRows, AreSnapshots}
use Rattle.tilt_syntax.specs.Tree.{StatementTree}
use Rattle.tilt_types.specs.Checked.{core_of}
use Rattle.tilt_core.specs.Core.{CoreParts}

-- a session up to a cut is handed rows that start before it
early-handed : (core : CoreParts) (rows : List (List Snapshot)) (cut : ℤ) → length rows ≡ length core.inputs
    → AreFirstRows core (end_by rows (Some cut)) (rows_before cut rows)
early-handed core rows cut many = record { counted = length-map rows (early (Some cut)) ∙ many; early = all-start cut rows }

-- the first session is handed rows that it may be
pub first-handed : (core : CoreParts) (rows parts : List (List Snapshot)) (cut : ℤ) → length rows ≡ length core.inputs → parts ≡ map (part_of None (Some cut)) rows
    → AreFirstRows core (end_by rows (Some cut)) parts
first-handed core rows parts cut many is =
    let are : parts ≡ rows_before cut rows = is ∙ all-first (Some cut) rows in
    rw are (early-handed core rows cut many)

-- what it prints and hands on
pub first-joined : (query : List StatementTree) (core : CoreParts) (rows parts : List (List Snapshot)) (cut : ℤ) (printed : List Snapshot) (checkpoint : CheckpointParts) (bytes : List ℕ)
    → parts ≡ map (part_of None (Some cut)) rows → printed ≡ emitted core parts (end_by rows (Some cut)) → checkpoint ≡ checkpoint_at query parts (same_cuts (length rows) cut)
    → bytes ≡ spelling checkpoint → IsCheckpoint checkpoint → AreJoined query core rows cut printed bytes
first-joined query core rows parts cut printed checkpoint bytes is out left text valid =
    let are : parts ≡ rows_before cut rows = is ∙ all-first (Some cut) rows in
    let out' : printed ≡ emitted core (rows_before cut rows) (end_by rows (Some cut)) = rw are at out in
    let left' : checkpoint ≡ checkpoint_at query (rows_before cut rows) (same_cuts (length rows) cut) = rw are at left in
    record {
      is_printed = out';
      handed_on = text ∙ ap spelling left';
      valid = subst IsCheckpoint left' valid;
    }

-- a checkpoint that is there is that one
pub one-next : {c d : CheckpointParts} → Some c ≡ Some d → c ≡ d
one-next same = cc same

-- one cut for all doesn't fall where it isn't below the one before it
same_none_falls : (n : ℕ) (old new : ℤ) → old ≤ℤ new → NoneFalls (replicate n old) (replicate n new)
same_none_falls zero old new up = tt
same_none_falls (suc n) old new up = (up, same_none_falls n old new up)

same_onward : (rows : List (List Snapshot)) (old : ℤ) (cut : Option ℤ) → NotBefore old cut → IsOnward (same_cuts (length rows) old) (end_by rows cut)
same_onward rows old (Some new) up = (up, same_none_falls (length rows) old new up)
same_onward rows old None up = tt

-- A session after one that handed on its checkpoint.
module _ (query : List StatementTree) (core : CoreParts) (rows parts : List (List Snapshot)) (old : ℤ) (printed : List Snapshot) (bytes : List ℕ) (found : CheckpointParts)
    (run : IsRun query core rows) (joined : AreJoined query core rows old printed bytes) (in_order : AllByRecursion AreRows rows)
    (is_found : found ≡ checkpoint_at query (rows_before old rows) (same_cuts (length rows) old)) where
  pub core-found : core ≡ core_of found.query
  core-found = rw is_found (sym (checked-core query core run.well_formed))

  first-of : AreFirstRows (core_of query) (end_by rows (Some old)) (rows_before old rows)
  first-of = subst (λ (c : CoreParts). AreFirstRows c (end_by rows (Some old)) (rows_before old rows)) (sym (checked-core query core run.well_formed))
      (early-handed core rows old run.counted)

  pub cuts-found : cuts_of found ≡ same_cuts (length rows) old
  cuts-found = ap cuts_of is_found ∙ cuts-left query (rows_before old rows) (same_cuts (length rows) old) first-of

  module _ (cut : Option ℤ) (onward : NotBefore old cut) (is : parts ≡ map (part_of (Some old) cut) rows) where
    -- its cut doesn't fall
    pub onward-found : IsOnward (cuts_of found) (end_by rows cut)
    onward-found = subst (λ (k : CutsParts). IsOnward k (end_by rows cut)) (sym cuts-found) (same_onward rows old cut onward)

    -- it is handed rows that it may be
    pub new-handed : AreNewRows (end_by rows cut) found.series parts
    new-handed = rw (is_found, is) (all-new old (first_kept (frame_of (core_of query)) old) cut rows in_order)

    is-of : IsCheckpointOf found (rows_before old rows)
    is-of = record {
      in_order = all-order (Some old) rows in_order;
      first = subst (λ (c : CoreParts). AreFirstRows c (Upto (cuts_of found)) (rows_before old rows)) core-found
          (subst (λ (k : CutsParts). AreFirstRows core (Upto k) (rows_before old rows)) (sym cuts-found) (early-handed core rows old run.counted));
      is = is_found ∙ (λ i. checkpoint_at (named (sym is_found) i) (rows_before old rows) (sym cuts-found i));
    }
      where
        named : checkpoint_at query (rows_before old rows) (same_cuts (length rows) old) ≡ found → query ≡ found.query
        named same = ap (λ (c : CheckpointParts). c.query) same

    rows-joined : added (rows_before old rows) parts ≡ map (early cut) rows
    rows-joined = rw is (all-added old cut onward rows)

    module _ (law : IsOneCut found parts (end_by rows cut)) where
      -- what both print is what one prints
      pub both-printed : (list : List Snapshot) → list ≡ newly found parts (end_by rows cut) → printed ++ list ≡ emitted core (map (early cut) rows) (end_by rows cut)
      both-printed list new =
          let one = law.printed (rows_before old rows) is-of in
          let there : emitted core (map (early cut) rows) (end_by rows cut) ≡ emitted (core_of found.query) (added (rows_before old rows) parts) (end_by rows cut) =
          ap (λ (c : CoreParts). emitted c (map (early cut) rows) (end_by rows cut)) core-found
          ∙ ap (λ (rs : List (List Snapshot)). emitted (core_of found.query) rs (end_by rows cut)) (sym rows-joined) in
          let back : emitted (core_of found.query) (rows_before old rows) (Upto (cuts_of found)) ≡ emitted core (rows_before old rows) (end_by rows (Some old)) =
          ap (λ (c : CoreParts). emitted c (rows_before old rows) (Upto (cuts_of found))) (sym core-found)
          ∙ ap (λ (k : CutsParts). emitted core (rows_before old rows) (Upto k)) cuts-found in
          ap (λ (l : List Snapshot). l ++ list) (joined.is_printed ∙ sym back)
          ∙ ap (λ (l : List Snapshot). emitted (core_of found.query) (rows_before old rows) (Upto (cuts_of found)) ++ l) new
          ∙ sym one ∙ sym there

      pub both-snapshots : (list : List Snapshot) → list ≡ newly found parts (end_by rows cut) → IsFrame (frame_of core) → AreSnapshots (printed ++ list)
      both-snapshots list new bounds = rw (both-printed list new) (emitted-AreSnapshots core (map (early cut) rows) (end_by rows cut) bounds)

      -- and what it leaves is what one leaves
      pub both-left : (upto : CutsParts) → end_by rows cut ≡ Upto upto → next found parts upto ≡ checkpoint_at query (map (early cut) rows) upto
      both-left upto same =
          let one = law.left (rows_before old rows) upto is-of same in
          let named : found.query ≡ query = ap (λ (c : CheckpointParts). c.query) is_found in
          sym one
          ∙ ap (λ (q : List StatementTree). checkpoint_at q (added (rows_before old rows) parts) upto) named
          ∙ ap (λ (rs : List (List Snapshot)). checkpoint_at query rs upto) rows-joined
