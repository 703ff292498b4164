-- The faults of the two functions that answer nothing where a token is refused.
use Rattle.std.proofs.Common.{◌≡◌, ◌≢◌, ℕ, ◌<◌, List, [], ◌∷◌, length, get_or, Option, Some, None, Result, MatchOption, IfErr, arith}
use Rattle.std.specs.Bool.{IsFalse}
use Rattle.std.specs.Option.{ok_or}
use Rattle.tilt_lexer.specs.declared.fault.LexFault.{LexFault}
use Rattle.tilt_lexer.specs.declared.fault.LexFault.TheVariants as fault
use Rattle.tilt_lexer.specs.Next.{IsNextFault, no_token}
use Rattle.tilt_lexer.specs.Tokens.{is_blank, BeginsNone}

-- what is said of nothing is said of the fault in its place
pub at_fault : {X : Type 0} (o : Option X) (r : Result X LexFault) (f : LexFault) (none : Type 0) (some : X → Type 0) (is : LexFault → Type 0)
    → r ≡ ok_or o f → MatchOption o none some → (none → is f) → IfErr r (λ e. e ≢ fault.OutOfMemory → is e)
at_fault None r f none some is e m h = rw e (λ _. h m)
at_fault (Some x) r f none some is e m h = rw e tt

-- a byte that is no blank and begins no token
pub bad_first : (at : ℕ) (bytes : List ℕ) → 0 < length bytes → IsFalse (is_blank (get_or bytes 0 0)) → BeginsNone bytes → IsNextFault at bytes (fault.BadByte at)
bad_first at [] some no_blank none = absurd (omega arith)
bad_first at (b ∷ bs) some no_blank none = no_token no_blank none
