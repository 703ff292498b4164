-- The rows of the two sessions are lawful: files have exactly one outcome for each.
use Rattle.std.proofs.Common.{◌≡◌, ◌∙◌, ◌⊎◌, ℕ, ℤ, List, Option, None, Some, inl, inr, length, refl, sym, ap, subst}
use Rattle.std.proofs.lemmas.List.{length-map}
use Rattle.std.proofs.lemmas.Option.{same_Some}
use Rattle.tilt_checkpoint.specs.Checkpoint.{CheckpointParts, KeptParts, cuts_kept, cuts_of}
use Rattle.tilt_checkpoint.specs.Cuts.{CutsParts, IsLeast}
use Rattle.tilt_session.proofs.Falls.{none-onward, not-both}
use Rattle.tilt_session.specs.Cuts.{IsOnward, first_fall}
use Rattle.tilt_session.specs.declared.cut.Cut.{Cut}
use Rattle.tilt_session.specs.declared.cut.Cut.TheVariants.{Upto}
use Rattle.tilt_load.proofs.FileCommands.{IsLawful}
use Rattle.tilt_load.proofs.GivenCuts.{by_counted, given_least}
use Rattle.tilt_load.proofs.OneCheckpoint.{checkpoint_once, checkpoint_refused_once, checkpoint_refused_or_taken, checkpoint_taken_or_refused}
use Rattle.tilt_load.proofs.OneQuery.{IsQueryFile, query_core, query_once, query_taken_or_refused, refused_once, refused_or_taken}
use Rattle.tilt_load.specs.CheckpointFile.{TakesCheckpoint, RefusesCheckpoint}
use Rattle.tilt_load.specs.InputCuts.{RefusesCuts, by_names, cuts_by, faulty_cut}
use Rattle.tilt_load.specs.QueryFile.{RefusesQuery, TakesQuery}
use Rattle.tilt_report.specs.Report.{Reason, refused, usage, cut_back, cut_names}
use Rattle.tilt_commands.specs.Resume.{GoesOn, RefusesToGoOn, no_checkpoint, no_cuts, back, end_after, inputs_of, resume_row, resumed}
use Rattle.tilt_commands.specs.SavedCut.{RefusesEnd, SavedCutValue, faulty_end}
use Rattle.tilt_commands.specs.Start.{RefusesToStart, StartsBy, StartsFrom, no_query, no_start, start_row, started}
use Rattle.tilt_stream.specs.Snap.{Snapshot}
use Rattle.tilt_syntax.specs.Tree.{StatementTree}
use Rattle.tilt_types.specs.Checked.{core_of}
use Rattle.tilt_cli.specs.Upto.{UptoValue}

-- a query file is one query
starts_once : (bytes : List ℕ) (q p : List StatementTree) → StartsFrom bytes q → StartsFrom bytes p → q ≡ p
starts_once bytes q p starts starts' = query_once bytes q p (core_of q) (core_of p) starts.says starts'.says

refused_or_query : (name bytes : List ℕ) (r : Reason) (q : List StatementTree) → RefusesQuery name bytes r → StartsFrom bytes q → ⊥
refused_or_query name bytes r q is starts =
    let taken : TakesQuery bytes (core_of q) = record { has_core = query_core bytes q (core_of q) starts.says; margins = starts.margins; reach = starts.near } in
    refused_or_taken name bytes r (core_of q) is taken

-- the cuts of inputs are refused for one reason, or given to them
cuts_refused_once : (inputs : List (List ℕ)) (upto : UptoValue) (r s : Reason) → RefusesCuts inputs upto r → RefusesCuts inputs upto s → r ≡ s
cuts_refused_once inputs upto r s (by_names n is) (by_names m is') =
    let same : n ≡ m = cc in
    rw same refl

cuts_refused_or_given : (inputs : List (List ℕ)) (upto : UptoValue) (r : Reason) → RefusesCuts inputs upto r → faulty_cut inputs upto ≡ None → ⊥
cuts_refused_or_given inputs upto r (by_names n is) none = cc

cuts_given_or_refused : (inputs : List (List ℕ)) (upto : UptoValue) (found : Option (List ℕ)) → faulty_cut inputs upto ≡ found
    → (faulty_cut inputs upto ≡ None) ⊎ ((r : Reason) × RefusesCuts inputs upto r)
cuts_given_or_refused inputs upto None is = inl is
cuts_given_or_refused inputs upto (Some name) is = inr (cut_names name, by_names name is)

-- Of a first session: where it is begun, and why it isn't.
module _ (name : List ℕ) (upto : UptoValue) (bytes : List ℕ) where
  refused_to_start_once : (r s : Reason) → RefusesToStart name upto bytes r → RefusesToStart name upto bytes s → r ≡ s
  refused_to_start_once r s (no_query is) (no_query is') = refused_once name bytes r s is is'
  refused_to_start_once r s (no_query is) (no_start q starts is') = absurd (refused_or_query name bytes r q is starts)
  refused_to_start_once r s (no_start q starts is) (no_query is') = absurd (refused_or_query name bytes s q is' starts)
  refused_to_start_once r s (no_start q starts is) (no_start p starts' is') =
      let same = starts_once bytes p q starts' starts in
      cuts_refused_once (core_of q).inputs upto r s is (subst (λ (x : List StatementTree). RefusesCuts (core_of x).inputs upto s) same is')

  refused_or_starts : (r : Reason) (q : List StatementTree) → RefusesToStart name upto bytes r → StartsBy upto bytes q → ⊥
  refused_or_starts r q (no_query is) starts = refused_or_query name bytes r q is starts.starts
  refused_or_starts r q (no_start p starts' is) starts =
      let same = starts_once bytes p q starts' starts.starts in
      cuts_refused_or_given (core_of q).inputs upto r (subst (λ (x : List StatementTree). RefusesCuts (core_of x).inputs upto r) same is) starts.named

  abbrev StartsOrNot : Type 0
  StartsOrNot = ((q : List StatementTree) × StartsBy upto bytes q) ⊎ ((r : Reason) × RefusesToStart name upto bytes r)

  starts_by_cuts : (q : List StatementTree) → StartsFrom bytes q
      → (faulty_cut (core_of q).inputs upto ≡ None) ⊎ ((r : Reason) × RefusesCuts (core_of q).inputs upto r) → StartsOrNot
  starts_by_cuts q starts (inl none) = inl (q, record { starts = starts; named = none })
  starts_by_cuts q starts (inr (r, is)) = inr (r, no_start q starts is)

  starts_or_refused : IsQueryFile bytes ⊎ ((r : Reason) × RefusesQuery name bytes r) → StartsOrNot
  starts_or_refused (inl is) =
      let inputs = (core_of is.query).inputs in
      starts_by_cuts is.query (record { says = is.says; margins = is.margins; near = is.near }) (cuts_given_or_refused inputs upto (faulty_cut inputs upto) refl)
  starts_or_refused (inr (r, is)) = inr (r, no_query is)

-- a first session
pub start_lawful : (cut : SavedCutValue) (query : List ℕ) → IsLawful (start_row cut query)
start_lawful cut query = record {
  one = λ bytes q p starts starts'. starts_once bytes q p starts.starts starts'.starts;
  once = refused_to_start_once query cut.upto;
  either = refused_or_starts query cut.upto;
  some = λ bytes. starts_or_refused query cut.upto bytes (query_taken_or_refused query bytes);
  given_once = λ q rows o p is is'. is ∙ sym is';
  given_some = λ bytes q rows taken many. (started cut q rows, refl);
  no_usage = λ q rows e. cc e;
}

-- the end of a session is refused for one reason, or given
end_refused_once : (ending : Option SavedCutValue) (inputs : List (List ℕ)) (r s : Reason) → RefusesEnd ending inputs r → RefusesEnd ending inputs s → r ≡ s
end_refused_once None inputs r s is is' = absurd is
end_refused_once (Some cut) inputs r s is is' = cuts_refused_once inputs cut.upto r s is is'

end_refused_or_given : (ending : Option SavedCutValue) (inputs : List (List ℕ)) (r : Reason) → RefusesEnd ending inputs r → faulty_end ending inputs ≡ None → ⊥
end_refused_or_given None inputs r is none = is
end_refused_or_given (Some cut) inputs r is none = cuts_refused_or_given inputs cut.upto r is none

end_given_or_refused : (ending : Option SavedCutValue) (inputs : List (List ℕ)) → (faulty_end ending inputs ≡ None) ⊎ ((r : Reason) × RefusesEnd ending inputs r)
end_given_or_refused None inputs = inl refl
end_given_or_refused (Some cut) inputs = cuts_given_or_refused inputs cut.upto (faulty_cut inputs cut.upto) refl

-- the same cuts fall in one way
one_fall : (old new old' new' : ℤ) (found : Option (ℤ × ℤ)) → found ≡ Some (old, new) → found ≡ Some (old', new') → cut_back old new ≡ cut_back old' new'
one_fall old new old' new' found is is' =
    let same = same_Some (old, new) (old', new') (sym is ∙ is') in
    λ i. cut_back (same i).0 (same i).1

one_end : {a b : CutsParts} (end : Cut) → end ≡ Upto a → end ≡ Upto b → a ≡ b
one_end end is is' = cc

-- Of a later session: where it goes on, and why it doesn't.
module _ (name : List ℕ) (ending : Option SavedCutValue) (bytes : List ℕ) where
  goes_once : (c d : CheckpointParts) → GoesOn ending bytes c → GoesOn ending bytes d → c ≡ d
  goes_once c d goes goes' = checkpoint_once name bytes c d goes.taken goes'.taken

  -- the cuts fall in one way after one checkpoint
  same_fall : (c : CheckpointParts) (cuts cuts' : CutsParts) (old new old' new' : ℤ) → end_after ending c ≡ Upto cuts → end_after ending c ≡ Upto cuts'
      → first_fall (cuts_of c) cuts ≡ Some (old, new) → first_fall (cuts_of c) cuts' ≡ Some (old', new') → cut_back old new ≡ cut_back old' new'
  same_fall c cuts cuts' old new old' new' ends ends' is is' =
      one_fall old new old' new' (first_fall (cuts_of c) cuts) is
      (subst (λ (k : CutsParts). first_fall (cuts_of c) k ≡ Some (old', new')) (one_end (end_after ending c) ends' ends) is')

  refused_to_go_once : (r s : Reason) → RefusesToGoOn name ending bytes r → RefusesToGoOn name ending bytes s → r ≡ s
  refused_to_go_once r s (no_checkpoint is) (no_checkpoint is') = checkpoint_refused_once name bytes r s is is'
  refused_to_go_once r s (no_checkpoint is) (no_cuts c taken is') = absurd (checkpoint_refused_or_taken name bytes r c is taken)
  refused_to_go_once r s (no_checkpoint is) (back c cuts old new taken none ends fall) = absurd (checkpoint_refused_or_taken name bytes r c is taken)
  refused_to_go_once r s (no_cuts c taken is) (no_checkpoint is') = absurd (checkpoint_refused_or_taken name bytes s c is' taken)
  refused_to_go_once r s (no_cuts c taken is) (no_cuts d taken' is') =
      let same = checkpoint_once name bytes d c taken' taken in
      end_refused_once ending (inputs_of c) r s is (subst (λ (x : CheckpointParts). RefusesEnd ending (inputs_of x) s) same is')
  refused_to_go_once r s (no_cuts c taken is) (back d cuts old new taken' none ends fall) =
      let same = checkpoint_once name bytes d c taken' taken in
      absurd (end_refused_or_given ending (inputs_of c) r is (subst (λ (x : CheckpointParts). faulty_end ending (inputs_of x) ≡ None) same none))
  refused_to_go_once r s (back c cuts old new taken none ends fall) (no_checkpoint is) = absurd (checkpoint_refused_or_taken name bytes s c is taken)
  refused_to_go_once r s (back c cuts old new taken none ends fall) (no_cuts d taken' is) =
      let same = checkpoint_once name bytes c d taken taken' in
      absurd (end_refused_or_given ending (inputs_of d) s is (subst (λ (x : CheckpointParts). faulty_end ending (inputs_of x) ≡ None) same none))
  refused_to_go_once r s (back c cuts old new taken none ends fall) (back d cuts' old' new' taken' none' ends' fall') =
      let same = checkpoint_once name bytes d c taken' taken in
      same_fall c cuts cuts' old new old' new' ends (subst (λ (x : CheckpointParts). end_after ending x ≡ Upto cuts') same ends') fall
      (subst (λ (x : CheckpointParts). first_fall (cuts_of x) cuts' ≡ Some (old', new')) same fall')

  refused_or_goes : (r : Reason) (c : CheckpointParts) → RefusesToGoOn name ending bytes r → GoesOn ending bytes c → ⊥
  refused_or_goes r c (no_checkpoint is) goes = checkpoint_refused_or_taken name bytes r c is goes.taken
  refused_or_goes r c (no_cuts d taken is) goes =
      let same = checkpoint_once name bytes d c taken goes.taken in
      end_refused_or_given ending (inputs_of c) r (subst (λ (x : CheckpointParts). RefusesEnd ending (inputs_of x) r) same is) goes.named
  refused_or_goes r c (back d cuts old new taken none ends fall) goes =
      let same = checkpoint_once name bytes c d goes.taken taken in
      let onward = subst (λ (x : CheckpointParts). IsOnward (cuts_of x) (end_after ending x)) same goes.onward in
      not-both (cuts_of d) cuts (subst (λ (k : Cut). IsOnward (cuts_of d) k) ends onward) (old, new) fall

  abbrev GoesOrNot : Type 0
  GoesOrNot = ((c : CheckpointParts) × GoesOn ending bytes c) ⊎ ((r : Reason) × RefusesToGoOn name ending bytes r)

  goes_by_fall : (c : CheckpointParts) (cuts : CutsParts) → TakesCheckpoint bytes c → faulty_end ending (inputs_of c) ≡ None → end_after ending c ≡ Upto cuts
      → IsLeast cuts.least cuts.each → length cuts.each ≡ length (cuts_kept c.series) → (found : Option (ℤ × ℤ)) → first_fall (cuts_of c) cuts ≡ found → GoesOrNot
  goes_by_fall c cuts taken none ends least many (Some fall) is = inr (cut_back fall.0 fall.1, back c cuts fall.0 fall.1 taken none ends is)
  goes_by_fall c cuts taken none ends least many None is =
      let onward = none-onward (cuts_of c) cuts taken.valid.least least many is in
      inl (c, record { taken = taken; named = none; onward = subst (λ (k : Cut). IsOnward (cuts_of c) k) (sym ends) onward })

  goes_by_end : (c : CheckpointParts) → TakesCheckpoint bytes c → faulty_end ending (inputs_of c) ≡ None → (end : Option SavedCutValue) → ending ≡ end → GoesOrNot
  goes_by_end c taken none None is = inl (c, record { taken = taken; named = none; onward = rw is tt })
  goes_by_end c taken none (Some cut) is =
      let cuts = cuts_by cut.upto (inputs_of c) in
      let many : length cuts.each ≡ length (cuts_kept c.series) =
      by_counted cut.upto (inputs_of c) ∙ sym taken.valid.counted ∙ sym (length-map c.series (λ (k : KeptParts). k.cut)) in
      goes_by_fall c cuts taken none (ap (λ (e : Option SavedCutValue). end_after e c) is) (given_least cut.upto (inputs_of c)) many (first_fall (cuts_of c) cuts) refl

  goes_by_names : (c : CheckpointParts) → TakesCheckpoint bytes c
      → (faulty_end ending (inputs_of c) ≡ None) ⊎ ((r : Reason) × RefusesEnd ending (inputs_of c) r) → GoesOrNot
  goes_by_names c taken (inl none) = goes_by_end c taken none ending refl
  goes_by_names c taken (inr (r, is)) = inr (r, no_cuts c taken is)

  goes_or_refused : ((c : CheckpointParts) × TakesCheckpoint bytes c) ⊎ ((r : Reason) × RefusesCheckpoint name bytes r) → GoesOrNot
  goes_or_refused (inl (c, taken)) = goes_by_names c taken (end_given_or_refused ending (inputs_of c))
  goes_or_refused (inr (r, is)) = inr (r, no_checkpoint is)

resumed_not : (ending : Option SavedCutValue) (c : CheckpointParts) (rows : List (List Snapshot)) → refused usage ≡ resumed ending c rows → ⊥
resumed_not (Some cut) c rows e = cc e
resumed_not None c rows e = cc e

-- a session after a checkpoint, that which ends by cuts and the last one
pub resume_lawful : (ending : Option SavedCutValue) (checkpoint : List ℕ) → IsLawful (resume_row ending checkpoint)
resume_lawful ending checkpoint = record {
  one = goes_once checkpoint ending;
  once = refused_to_go_once checkpoint ending;
  either = refused_or_goes checkpoint ending;
  some = λ bytes. goes_or_refused checkpoint ending bytes (checkpoint_taken_or_refused checkpoint bytes);
  given_once = λ c rows o p is is'. is ∙ sym is';
  given_some = λ bytes c rows taken many. (resumed ending c rows, refl);
  no_usage = resumed_not ending;
}
