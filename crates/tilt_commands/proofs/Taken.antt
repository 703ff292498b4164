-- What a query that is taken has.
use Rattle.std.proofs.Common.{◌≡◌, ◌==◌, List, ℕ, length, true, Option, Some, None, refl, subst, arith}
use Rattle.std.specs.Prelude.{IsSome}
use Rattle.tilt_base.specs.declared.span.Span.{Span}
use Rattle.tilt_core.specs.Core.{CoreParts, domain_of, emitted_number}
use Rattle.tilt_core.specs.Meaning.{meaning, output_of}
use Rattle.tilt_lexer.proofs.Sound.{sound}
use Rattle.tilt_load.specs.QueryFile.{TakesQuery}
use Rattle.tilt_stream.specs.Snap.{Snapshot}
use Rattle.tilt_stream.specs.Snapshots.{snapshots}
use Rattle.tilt_syntax.proofs.Parsing.{sound-kinds}
use Rattle.tilt_syntax.specs.Query.{IsQuery, kinds}
use Rattle.tilt_types.proofs.CheckedCore.{checked-core}
use Rattle.tilt_types.proofs.Texts.{query-ends}
use Rattle.tilt_types.specs.Checked.{core_of, source_names}

some_is : (o : Option Span) → IsSome o → (domain : Span) × (o ≡ Some domain)
some_is None some = absurd (cc some)
some_is (Some domain) some = (domain, refl)

-- it has an output domain
pub taken_domain : (bytes : List ℕ) (core : CoreParts) → TakesQuery bytes core → (domain : Span) × (domain_of core.defs ≡ Some domain)
taken_domain bytes core taken =
    let has = taken.has_core in
    let valid : IsQuery has.query = record { tokens = kinds has.tokens; sound = sound-kinds has.tokens (sound has.lexed); parsed = has.parsed } in
    let same : core_of has.query ≡ core = checked-core has.query core has.accepted in
    some_is (domain_of core.defs) (subst (λ (c : CoreParts). IsSome (domain_of c.defs)) same (query-ends (source_names has.query) has.query valid).1)

-- and gives something, where there is one list of rows for each input
pub taken_gives : (bytes : List ℕ) (core : CoreParts) → TakesQuery bytes core → (rows : List (List Snapshot)) → length rows ≡ length core.inputs
    → (list : List Snapshot) × (output_of core rows ≡ Some list)
taken_gives bytes core taken rows many =
    let domain = taken_domain bytes core taken in
    let test : (length rows == length core.inputs) ≡ true = grind arith in
    (snapshots (meaning rows core.defs (emitted_number core)) domain.0.start domain.0.end, rw (test, domain.1) refl)
