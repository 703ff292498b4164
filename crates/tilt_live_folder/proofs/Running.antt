-- The machine of a query after more of its feed.
use Rattle.std.proofs.Common.{◌≡◌, ℕ, List, [], ◌++◌, length, Result, Ok, Err, IfOk, subst, sym, ap, ◌∙◌, arith, length-append}
use Rattle.tilt_checkpoint.specs.Valid.{IsAccepted}
use Rattle.tilt_core.specs.Core.{CoreParts}
use Rattle.tilt_feed_text.proofs.Splitting.{unfinished-append}
use Rattle.tilt_feed_text.specs.Split.{unfinished, unfinished_after}
use Rattle.tilt_feed_form.specs.declared.feed_form.FeedForm.{FeedForm}
use Rattle.tilt_live_state.specs.Valid.{IsStateOf}
use Rattle.tilt_outside.specs.Counts.{added_count}
use Rattle.tilt_run_state.specs.State.{RunStateParts}
use Rattle.tilt_run_state.specs.Valid.{FitsForm, HasOptions, IsRunState}
use Rattle.tilt_types.specs.Checked.{core_of}

-- a state of the core of an accepted query that fits the form of its feed is valid
whole_state : (core : CoreParts) (form : FeedForm) (left s : RunStateParts) → IsAccepted left.state.query → core_of left.state.query ≡ core → HasOptions form left
    → s ≡ left → IsStateOf core s.state → FitsForm form s → IsRunState form s
whole_state core form left s accepted same has is valid fits = record {
  state = record {
    query = subst (λ (x : RunStateParts). IsAccepted x.state.query) (sym is) accepted;
    run = subst (λ (k : CoreParts). IsStateOf k s.state) (sym (ap (λ (x : RunStateParts). core_of x.state.query) is ∙ same)) valid;
  };
  kept = fits;
  options = subst (HasOptions form) (sym is) has;
}

pub state-valid : {E : Type 0} (core : CoreParts) (form : FeedForm) (left : RunStateParts) (result : Result RunStateParts E) → IsAccepted left.state.query
    → core_of left.state.query ≡ core → HasOptions form left → IfOk result (λ s. s ≡ left) → IfOk result (λ s. IsStateOf core s.state) → IfOk result (FitsForm form)
    → IfOk result (IsRunState form)
state-valid core form left (Ok s) accepted same has is valid fits = whole_state core form left s accepted same has is valid fits
state-valid core form left (Err e) accepted same has is valid fits = tt

-- the bytes after the last LF of a piece and what was before it
pub tail-more : (bytes piece old new : List ℕ) → old ≡ unfinished bytes → new ≡ unfinished_after old piece → new ≡ unfinished (bytes ++ piece)
tail-more bytes piece old new is e = e ∙ ap (λ (front : List ℕ). unfinished_after front piece) is ∙ sym (unfinished-append [] bytes piece)

-- how many bytes were taken with a piece more
pub taken-more : (bytes piece : List ℕ) (old new : ℕ) → old ≡ added_count 0 (length bytes) → new ≡ added_count old (length piece)
    → new ≡ added_count 0 (length (bytes ++ piece))
taken-more bytes piece old new was is = let both = length-append bytes piece in omega (arith, both, was, is)
