-- The run of a query after more bytes of its feed.
use Rattle.std.proofs.Common.{◌≡◌, ◌≤◌, ℕ, ◌+◌, ◌==◌, Bool, ◌&&◌, MatchResult, Result, true, false, List, [], ◌++◌, length, sym, ap, ◌∙◌, take, arith, inl, inr}
use Rattle.std.proofs.lemmas.Bool.{cases_Bool, eqb-true}
use Rattle.std.proofs.lemmas.List.{length-take, nil_from_length}
use Rattle.tilt_compiler.specs.Accepted.{AcceptedParts}
use Rattle.tilt_core.specs.Core.{CoreParts}
use Rattle.tilt_feed_text.proofs.Cutting.{take-empty}
use Rattle.tilt_feed_form.proofs.Saying.{after_lines-append}
use Rattle.tilt_feed_text.proofs.Saying.{number-append}
use Rattle.tilt_feed_text.proofs.Splitting.{lines-append, unfinished-append}
use Rattle.tilt_feed_form.specs.Said.{after_lines, first_state}
use Rattle.tilt_feed_text.specs.Said.{number_after}
use Rattle.tilt_feed_text.specs.Split.{unfinished, unfinished_after, whole_lines}
use Rattle.tilt_feed_text.specs.declared.pending.TheConstants.{LINE}
use Rattle.tilt_live_run.specs.Runs.{IsRunAfter, new_lines, number_of, state_after}
use Rattle.tilt_live_run.specs.declared.live_run.LiveRun.{LiveRun}
use Rattle.tilt_live_run.specs.declared.run_options.RunOptions.{RunOptions}
use Rattle.tilt_live_run.specs.declared.stop.Stop.{Stop}
use Rattle.tilt_live_run.specs.declared.stop.Stop.TheVariants.{BadLine}

pub number-more : (bytes piece : List ℕ) → number_of (bytes ++ piece) ≡ number_after (number_of bytes) (new_lines bytes piece)
number-more bytes piece = rw (lines-append [] bytes piece) (number-append 0 (whole_lines bytes) (new_lines bytes piece))

pub state-more : (options : RunOptions) (core : CoreParts) (bytes piece : List ℕ)
    → state_after options core (bytes ++ piece)
    ≡ after_lines options.form core.inputs (number_of bytes) (state_after options core bytes) (new_lines bytes piece)
state-more options core bytes piece =
    rw (lines-append [] bytes piece)
    (after_lines-append options.form core.inputs 0 (first_state options.form (length core.inputs)) (whole_lines bytes) (new_lines bytes piece))

-- the run of a query after a piece
pub run-more : (run : LiveRun) (accepted : AcceptedParts) (options : RunOptions) (bytes piece : List ℕ) (given : ℕ)
    → IsRunAfter run accepted options (number_after (number_of bytes) (new_lines bytes piece))
    (after_lines options.form accepted.core.inputs (number_of bytes) (state_after options accepted.core bytes) (new_lines bytes piece)) (unfinished_after (unfinished bytes) piece) given
    → IsRunAfter run accepted options (number_of (bytes ++ piece)) (state_after options accepted.core (bytes ++ piece)) (unfinished (bytes ++ piece)) given
run-more run accepted options bytes piece given is =
    rw (number-more bytes piece, state-more options accepted.core bytes piece, unfinished-append [] bytes piece) is

-- the first bytes of a line, by the bytes of them that are kept
pub none-kept : (front kept : List ℕ) → kept ≡ take (LINE + 1) front → (length kept == 0) ≡ true → front ≡ []
none-kept front kept is none = take-empty front (sym is ∙ nil_from_length kept (eqb-true (length kept) 0 none))

pub some-kept : (front kept : List ℕ) → kept ≡ take (LINE + 1) front → (length kept == 0) ≡ false → (length front == 0) ≡ false
some-kept front kept is some =
    elim (cases_Bool (length front == 0)) [
      | inl none ↦
          let e = is ∙ ap (take (LINE + 1)) (nil_from_length front (eqb-true (length front) 0 none)) in
          absurd (cc (sym some ∙ ap (λ (t : List ℕ). length t == 0) e))
      | inr there ↦ there
    ]

-- they are as many as a line may be kept of
pub kept-few : (front kept : List ℕ) → kept ≡ take (LINE + 1) front → length kept ≤ LINE + 1
kept-few front kept is = let len = length-take (LINE + 1) front in rw is (omega (arith, len))

-- what ends a strict run, if a line has begun
pub strict-same : (strict : Bool) (result : Result (Unit {0}) Stop) → MatchResult result (λ _. strict ≡ false) (λ stop. (stop ≡ BadLine) × (strict ≡ true))
    → MatchResult result (λ _. (strict && true) ≡ false) (λ stop. (stop ≡ BadLine) × ((strict && true) ≡ true))
strict-same true result e = e
strict-same false result e = e
