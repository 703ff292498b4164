-- The numbers of a text with their points (our own rule): a point is between two digits of a number, and a number has at most one.
use Rattle.std.specs.Prelude.{ℕ, zero, suc, ◌+◌, ◌-◌, ◌^◌, ◌≤◌, ℤ, pos, ◌≤ℤ◌, nat_lt, if◌then◌else◌, int_div, int_rem, List, [], ◌∷◌}
use Rattle.std.specs.Prelude.{◌++◌}
use Rattle.std.specs.Prelude.{Option, Some, None, Result, Ok, Err}
use Rattle.std.specs.List.{slice_get}
use Rattle.std.specs.Ordering.{int_eq}
use Rattle.tilt_lexer.specs.declared.token.Tok.{Tok}
use Rattle.tilt_lexer.specs.declared.token.Tok.TheVariants as tok
use Rattle.tilt_lexer.specs.declared.token.Token.{Token}
use Rattle.tilt_units.specs.declared.decimal.Decimal.{Decimal}
use Rattle.tilt_unit_text.specs.declared.fault.UnitFault.{UnitFault}
use Rattle.tilt_unit_text.specs.declared.fault.UnitFault.TheVariants as fault
use Rattle.tilt_unit_text.specs.declared.noted.Noted.{Noted}
use Rattle.tilt_unit_text.specs.declared.written.Written.{Written}

-- goes on with a result, unless it is a fault
abbrev pub and_then : {A B : Type 0} → Result A UnitFault → (A → Result B UnitFault) → Result B UnitFault
and_then (Ok a) next = next a
and_then (Err f) next = Err f

-- a fault if there is one, else this
abbrev pub unless : {A : Type 0} → Option UnitFault → A → Result A UnitFault
unless None a = Ok a
unless (Some f) a = Err f

-- the numbers so far, and how many points are in them
pub record Progress : Type 0 where
  pub numbers : List Written
  pub taken : ℕ

-- the same in memory
abbrev pub progress_of : Noted → Progress
progress_of n = record { numbers = n.numbers.items; taken = n.taken }

-- the first place at which the next point may be: after the first digit of a number, and after any other token
abbrev pub first_place : Tok → ℕ → ℕ → ℕ
first_place (tok.Number n) start end = start + 1
first_place kind start end = end

-- how many digits before the end of a number come after the next point; none if the point comes later
abbrev pub decimals_in : ℕ → Option ℕ → ℕ
decimals_in end None = 0
decimals_in end (Some point) = end - point

-- the fault of the next point, after so many others: it is misplaced, or more than 18 digits come after it
abbrev pub point_fault : ℕ → Token → Option ℕ → Option UnitFault
point_fault taken token None = None
point_fault taken token (Some point) =
    if nat_lt point (first_place token.kind token.start token.end) then Some (fault.BadPoint (point + taken))
    else if nat_lt 18 (decimals_in token.end (Some point)) then Some (fault.ManyDecimals (token.start + taken))
    else None

-- the number that a token is, if it is one
abbrev pub number_in : Tok → ℕ → ℕ → List Written
number_in (tok.Number digits) decimals at = record { digits = digits; decimals = decimals; at = at } ∷ []
number_in kind decimals at = []

-- one more token, with the next point
abbrev pub noted_by : Progress → Token → Option ℕ → Result Progress UnitFault
noted_by so_far token point = unless (point_fault so_far.taken token point) (record {
  numbers = so_far.numbers ++ number_in token.kind (decimals_in token.end point) (token.start + so_far.taken);
  taken = if nat_lt 0 (decimals_in token.end point) then so_far.taken + 1 else so_far.taken;
})

-- more tokens, of a text whose points are these
abbrev pub more_noted : List ℕ → Progress → List Token → Result Progress UnitFault
more_noted points so_far [] = Ok so_far
more_noted points so_far (token ∷ tokens) =
    and_then (noted_by so_far token (slice_get points so_far.taken)) (λ next. more_noted points next tokens)

-- the fault of a point after the last token
abbrev pub left_over : ℕ → Option ℕ → Option UnitFault
left_over taken None = None
left_over taken (Some point) = Some (fault.BadPoint (point + taken))

-- the numbers that tokens are, with their points, or the fault of the first point that has one
abbrev pub noted : List ℕ → List Token → Result (List Written) UnitFault
noted points tokens = and_then (more_noted points (record { numbers = []; taken = 0 }) tokens)
    (λ all. unless (left_over all.taken (slice_get points all.taken)) all.numbers)

-- the number of the digits, of which so many come after the point, at the smallest power of ten at which it is whole
abbrev pub smallest : ℤ → ℕ → Decimal
smallest digits zero = record { number = digits; scale = 1 }
smallest digits (suc n) =
    if int_eq (int_rem digits (pos 10)) (pos 0) then smallest (int_div digits (pos 10)) n
    else record { number = digits; scale = 10 ^ suc n }

-- a number of a text isn't negative, and at most 18 of its digits come after its point
pub record IsWritten (w : Written) : Type 0 where
  pub positive : pos 0 ≤ℤ w.digits
  pub few : w.decimals ≤ 18
