-- One part of the output domain.
use Rattle.std.specs.Prelude.{◌≡◌, ℕ, Bool, false, List, length, take, refl}
use Rattle.std.specs.Coded.{Coded, code_by, coded×, coded_bool, coded_ℤ}
use Rattle.std.specs.Option.{option_map_or}
use Rattle.std.specs.Ordering.{int_eq}
use Rattle.tilt_base.specs.declared.span.Span.{Span}
use Rattle.tilt_code.specs.Code.{CodeParts}
use Rattle.tilt_code.specs.References.{IsCode}
use Rattle.tilt_code.specs.Run.{run_of}
use Rattle.tilt_pipe.specs.Value.{PipeParts, coded_pipe, pipe_after}
use Rattle.tilt_stream.specs.Snap.{Snapshot, last_end}
use Rattle.tilt_stream.specs.Stored.{coded_snapshots}

-- its stretch of time, its pipe, the snapshots that were taken from it, and whether memory ran out
pub record PartValue : Type 0 where
  pub stretch : Span
  pub pipe : PipeParts
  pub taken : List Snapshot
  pub refused : Bool

-- the part of a stretch after `count` snapshots of a code's run were taken
abbrev pub part_after : Span → CodeParts → List (List Snapshot) → ℕ → PartValue
part_after stretch code rows count =
    record { stretch = stretch; pipe = pipe_after code rows count; taken = take count (run_of code rows); refused = false }

-- all snapshots of a part were taken: the last one ends where the stretch does
abbrev pub is_finished : PartValue → Bool
is_finished part = option_map_or (λ end. int_eq end part.stretch.end) (last_end part.taken) false

-- what a part keeps: what was taken is the first snapshots of its code's run, and if memory didn't run out its pipe gave out just these
pub record IsPart (part : PartValue) : Type 0 where
  pub code : IsCode part.pipe.code
  pub taken : part.taken ≡ take (length part.taken) (run_of part.pipe.code part.pipe.inputs)
  pub at_work : part.refused ≡ false → part.pipe ≡ pipe_after part.pipe.code part.pipe.inputs (length part.taken)

-- stretches are distinguished by their bounds
abbrev pub coded_span : Coded Span
coded_span = code_by (_ × _) (coded× coded_ℤ coded_ℤ) (λ s. (s.start, s.end)) (λ p. record { start = p.0; end = p.1 }) (λ _. refl)

-- parts are distinguished field by field
abbrev pub coded_part : Coded PartValue
coded_part =
    code_by (Span × (PipeParts × (List Snapshot × Bool))) (coded× coded_span (coded× coded_pipe (coded× coded_snapshots coded_bool)))
    (λ p. (p.stretch, (p.pipe, (p.taken, p.refused))))
    (λ p. record { stretch = p.0; pipe = p.1.0; taken = p.1.1.0; refused = p.1.1.1 })
    (λ _. refl)
