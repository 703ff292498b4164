use Rattle.std.proofs.Common.{◌≡◌, ◌≤◌, [], drop, length}
use Rattle.tilt_unit_text.specs.Numbers.{more_noted, progress_of}
use Rattle.tilt_unit_text.proofs.noted.note_numbers.Given as goal

-- the numbers so far, with those that are left, are all of them
abbrev pub invariant-loop-token : goal.invariant-loop-token
invariant-loop-token l = record {
  whole : more_noted l.points (progress_of l.noted) (drop l.token-index l.tokens)
      ≡ more_noted l.points (record { numbers = []; taken = 0 }) l.tokens;
  few : l.noted.taken ≤ length l.points;
}
