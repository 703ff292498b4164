-- What a pipe is seen as.
use Rattle.std.specs.Prelude.{ℕ, Bool, false, List, refl}
use Rattle.std.specs.Coded.{Coded, code_by, coded×, coded_list, coded_ℕ, coded_bool}
use Rattle.tilt_code.specs.Code.{CodeParts, coded_code}
use Rattle.tilt_stream.specs.Snap.{Snapshot}
use Rattle.tilt_pipe.specs.Rings.{rings_after}
use Rattle.tilt_stream.specs.Stored.{coded_snapshots}

-- its code, the rows of the inputs, what each loop's ring holds, how many snapshots were given out, and whether memory ran out
pub record PipeParts : Type 0 where
  pub code : CodeParts
  pub inputs : List (List Snapshot)
  pub rings : List (List Snapshot)
  pub given : ℕ
  pub refused : Bool

-- a pipe of a code after `given` snapshots were given out, with all the memory that it asked for
abbrev pub pipe_after : CodeParts → List (List Snapshot) → ℕ → PipeParts
pipe_after code inputs given =
    record { code = code; inputs = inputs; rings = rings_after code inputs given; given = given; refused = false }

-- pipes are distinguished field by field
abbrev pub coded_pipe : Coded PipeParts
coded_pipe =
    code_by (CodeParts × (List (List Snapshot) × (List (List Snapshot) × (ℕ × Bool))))
    (coded× coded_code (coded× (coded_list coded_snapshots) (coded× (coded_list coded_snapshots) (coded× coded_ℕ coded_bool))))
    (λ p. (p.code, (p.inputs, (p.rings, (p.given, p.refused)))))
    (λ p. record { code = p.0; inputs = p.1.0; rings = p.1.1.0; given = p.1.1.1.0; refused = p.1.1.1.1 })
    (λ _. refl)
