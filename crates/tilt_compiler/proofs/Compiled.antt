-- The run of the code of a query on its output domain is what the query gives.
use Rattle.std.proofs.Common.{◌≡◌, ◌==◌, true, List, length, Some, refl, arith}
use Rattle.std.specs.Prelude.{◌<ℤ◌}
use Rattle.std.proofs.lemmas.Int.{ints}
use Rattle.tilt_base.specs.declared.span.Span.{Span}
use Rattle.tilt_code.specs.Code.{CodeParts}
use Rattle.tilt_code.specs.Run.{run_of}
use Rattle.tilt_compiler.specs.Compiled.{given}
use Rattle.tilt_core.specs.Core.{CoreParts, domain_of, emitted_number}
use Rattle.tilt_core.specs.Meaning.{meaning, emitted, output_of}
use Rattle.tilt_lower.specs.Law.{LiesWithin}
use Rattle.tilt_stream.specs.Snap.{Snapshot}

-- a query emits its last definition where there are as many lists of rows as inputs
emits : (core : CoreParts) (rows : List (List Snapshot)) → length rows ≡ length core.inputs
    → emitted core rows ≡ Some (meaning rows core.defs (emitted_number core))
emits core rows many =
    let test : (length rows == length core.inputs) ≡ true = grind arith in
    rw test refl

-- the snapshots of what it emits, on its output domain
pub output-run : (core : CoreParts) (domain : Span) (code : CodeParts) → domain_of core.defs ≡ Some domain → (rows : List (List Snapshot))
    → length rows ≡ length core.inputs → run_of code rows ≡ given core rows domain.start domain.end → output_of core rows ≡ Some (run_of code rows)
output-run core domain code is rows many runs = rw (emits core rows many, is, runs) refl

-- the output domain lies within itself
pub domain-within : (core : CoreParts) (domain : Span) → domain_of core.defs ≡ Some domain → domain.start <ℤ domain.end
    → LiesWithin (domain_of core.defs) domain.start domain.end
domain-within core domain is width = rw is (omega (arith, ints), width, omega (arith, ints))
