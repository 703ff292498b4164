-- The bytes of a text after its last LF.
use Rattle.std.proofs.Common.{◌≡◌, ℕ, ◌-◌, List, [], ◌++◌, length, refl, sym, ap, ◌∙◌, arith, length-append}
use Rattle.std.specs.Prelude.{codes, flat_map}
use Rattle.std.proofs.lemmas.List.{take_at}
use Rattle.tilt_checkpoint.specs.Spelling.{query_lines}
use Rattle.tilt_core.specs.Core.{CoreParts}
use Rattle.tilt_feed_text.proofs.Splitting.{are-ended, unfinished-append}
use Rattle.tilt_feed_form.specs.Said.{stop_among}
use Rattle.tilt_feed_text.specs.Split.{ended, unfinished, unfinished_after}
use Rattle.tilt_live_run.specs.Runs.{is_stopped, number_of, state_after}
use Rattle.tilt_live_run.specs.declared.run_options.RunOptions.{RunOptions}
use Rattle.tilt_feed_form.specs.declared.feed_form.FeedForm.{FeedForm}
use Rattle.tilt_live_state.specs.Spelling.{input_lines, progress_lines, run_lines}
use Rattle.tilt_live_state.specs.Spelling as live
use Rattle.tilt_live_state.specs.State.{LiveStateParts}
use Rattle.tilt_run_state.specs.Spelling.{kept_lines, opening, spelled}
use Rattle.tilt_run_state.specs.State.{RunStateParts}

-- those bytes have no LF
pub tail-only : (bytes : List ℕ) → unfinished (unfinished bytes) ≡ unfinished bytes
tail-only bytes =
    let are = are-ended bytes in
    sym (sym (ap unfinished are.parts) ∙ unfinished-append [] (ended bytes) (unfinished bytes)
    ∙ ap (λ (front : List ℕ). unfinished_after front (unfinished bytes)) are.none)

-- a text that ends with an LF
abbrev EndsLine : List ℕ → Type 0
EndsLine text = (front : List ℕ) → unfinished_after front text ≡ []

ends_later : (x y : List ℕ) → EndsLine y → EndsLine (x ++ y)
ends_later x y ends = λ front. unfinished-append front x y ∙ ends (unfinished_after front x)

-- a state ends with one
live_ends : (s : LiveStateParts) → EndsLine (live.spelled s)
live_ends s =
    let inputs = ends_later (flat_map input_lines s.inputs) (codes "end\n") (λ front. refl) in
    let run = ends_later (progress_lines s.progress) (flat_map input_lines s.inputs ++ codes "end\n") inputs in
    ends_later (codes "tilt live 1\n") (query_lines s.query ++ run_lines s.progress s.inputs)
    (ends_later (query_lines s.query) (run_lines s.progress s.inputs) run)

spelled_ends : (form : FeedForm) (s : RunStateParts) → EndsLine (spelled form s)
spelled_ends form s =
    ends_later (opening form) (kept_lines s.kept ++ live.spelled s.state)
    (ends_later (kept_lines s.kept) (live.spelled s.state) (live_ends s.state))

-- a text that ends with an LF, and bytes without one
pub record AreParts (text rest whole : List ℕ) : Type 0 where
  pub lines : ended whole ≡ text
  pub tail : unfinished whole ≡ rest

are_parts : (text tail : List ℕ) → EndsLine text → unfinished tail ≡ tail → AreParts text tail (text ++ tail)
are_parts text tail ends only =
    let is = unfinished-append [] text tail ∙ ap (λ (front : List ℕ). unfinished_after front tail) (ends []) ∙ only in
    let count : length (text ++ tail) - length (unfinished (text ++ tail)) ≡ length text =
    let both = length-append text tail in
    let left = ap length is in
    omega (arith, both, left) in
    record { lines = rw count (take_at text tail (length text) refl); tail = is }

-- a state, and behind it the bytes of a line that has begun
pub state-parts : (form : FeedForm) (s : RunStateParts) (bytes : List ℕ) → AreParts (spelled form s) (unfinished bytes) (spelled form s ++ unfinished bytes)
state-parts form s bytes = are_parts (spelled form s) (unfinished bytes) (spelled_ends form s) (tail-only bytes)

-- a line stops the run exactly if it does among the lines alone
pub stopped-ended : (options : RunOptions) (core : CoreParts) (bytes : List ℕ) → is_stopped options core [] (ended bytes) ≡ is_stopped options core [] bytes
stopped-ended options core bytes =
    ap (λ (lines : List (List ℕ)). stop_among options.strict options.form core.inputs (number_of []) (state_after options core []) lines) (are-ended bytes).lines
