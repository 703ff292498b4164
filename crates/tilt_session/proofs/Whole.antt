-- What sessions print in the end is all that the query gives.
use Rattle.std.proofs.Common.{◌≡◌, ◌==◌, true, false, int_lt, List, length, Some, refl, arith}
use Rattle.std.proofs.lemmas.Int.{ints}
use Rattle.tilt_checkpoint.specs.Decided.{frame_of}
use Rattle.tilt_session.specs.Emitted.{emitted}
use Rattle.tilt_compiler.specs.Compiled.{given}
use Rattle.tilt_session.specs.declared.cut.Cut.TheVariants.{End}
use Rattle.tilt_stream.specs.Snap.{Snapshot}
use Rattle.tilt_base.specs.declared.span.Span.{Span}
use Rattle.tilt_core.specs.Core.{CoreParts, domain_of}
use Rattle.tilt_core.specs.Meaning.{output_of}

-- at the end all is printed
pub emitted-all : (core : CoreParts) (rows : List (List Snapshot)) → emitted core rows End ≡ given core rows (frame_of core).start (frame_of core).end
emitted-all core rows =
    let frame = frame_of core in
    let is : int_lt frame.end frame.end ≡ false = grind (arith, ints) in
    rw is refl

-- that is what the query gives
pub output-given : (core : CoreParts) (rows : List (List Snapshot)) (domain : Span) → domain_of core.defs ≡ Some domain → length rows ≡ length core.inputs
    → output_of core rows ≡ Some (emitted core rows End)
output-given core rows domain is many =
    let test : (length rows == length core.inputs) ≡ true = grind arith in
    let all = emitted-all core rows in
    rw (all, test, is) refl
