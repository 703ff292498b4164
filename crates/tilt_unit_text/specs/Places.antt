-- Which number of a text is where in its query (our own rule). The numbers of the text are counted from 1 on. The query of the text in which
-- each number is its count shows them.
use Rattle.std.specs.Prelude.{ℕ, zero, suc, ℤ, pos, negsuc, neg_ℤ, nat_lt, if◌then◌else◌, List, [], ◌∷◌, Option, Some, None, map}
use Rattle.std.specs.Prelude.{option_map}
use Rattle.std.specs.List.{slice_get}
use Rattle.std.specs.Option.{option_or}
use Rattle.tilt_base.specs.Expression.{Leaf, One, Two, If}
use Rattle.tilt_base.specs.declared.span.Span.{Span}
use Rattle.tilt_lexer.specs.declared.token.Tok.{Tok}
use Rattle.tilt_lexer.specs.declared.token.Tok.TheVariants as tok
use Rattle.tilt_syntax.specs.Tree.{Num, Truth, Read, Reduce, ExprTree, StatementTree, Input, Let, Emit}
use Rattle.tilt_syntax.specs.declared.every.Every.{Every}
use Rattle.tilt_unit_text.specs.declared.fault.UnitFault.{UnitFault}
use Rattle.tilt_unit_text.specs.declared.fault.UnitFault.TheVariants as fault
use Rattle.tilt_unit_text.specs.declared.written.Written.{Written}

-- the tokens with each number as its count, after so many
abbrev pub counted : ℕ → List Tok → List Tok
counted count [] = []
counted count (tok.Number n ∷ ts) = tok.Number (pos (suc count)) ∷ counted (suc count) ts
counted count (t ∷ ts) = t ∷ counted count ts

-- the number with a count, which has a minus if it is subtracted; there is none at 0
abbrev pub number_at : List Written → ℤ → Option Written
number_at numbers (pos zero) = None
number_at numbers (pos (suc n)) = slice_get numbers n
number_at numbers (negsuc n) = slice_get numbers n

-- the digits of a number as a number, and how many of them come after its point; 0 if there is none
abbrev pub digits_of : Option Written → ℤ
digits_of None = pos 0
digits_of (Some w) = w.digits

abbrev pub decimals_of : Option Written → ℕ
decimals_of None = 0
decimals_of (Some w) = w.decimals

-- the digits of the number with a count
abbrev pub digits_at : List Written → ℤ → ℤ
digits_at numbers (pos n) = digits_of (number_at numbers (pos n))
digits_at numbers (negsuc n) = neg_ℤ (digits_of (number_at numbers (negsuc n)))

-- a number of ticks has no point
abbrev pub whole_fault : Option Written → Option UnitFault
whole_fault None = None
whole_fault (Some w) = if nat_lt 0 w.decimals then Some (fault.TicksWithPoint w.at) else None

abbrev pub ticks_fault : List Written → ℤ → Option UnitFault
ticks_fault numbers place = whole_fault (number_at numbers place)

-- the first number of ticks with a point: in an expression, a span, a grid, a statement, a query
abbrev pub expression_fault : List Written → ExprTree → Option UnitFault
expression_fault numbers (Leaf (Num n)) = None
expression_fault numbers (Leaf (Truth holds)) = None
expression_fault numbers (Leaf (Read name offset)) = ticks_fault numbers offset
expression_fault numbers (Leaf (Reduce r name from to)) = option_or (ticks_fault numbers from) (ticks_fault numbers to)
expression_fault numbers (One op a) = expression_fault numbers a
expression_fault numbers (Two op a b) = option_or (expression_fault numbers a) (expression_fault numbers b)
expression_fault numbers (If c a b) =
    option_or (option_or (expression_fault numbers c) (expression_fault numbers a)) (expression_fault numbers b)

abbrev pub span_fault : List Written → Option Span → Option UnitFault
span_fault numbers None = None
span_fault numbers (Some span) = option_or (ticks_fault numbers span.start) (ticks_fault numbers span.end)

abbrev pub grid_fault : List Written → Option Every → Option UnitFault
grid_fault numbers None = None
grid_fault numbers (Some every) = option_or (ticks_fault numbers every.period) (ticks_fault numbers every.offset)

abbrev pub statement_fault : List Written → StatementTree → Option UnitFault
statement_fault numbers (Input name) = None
statement_fault numbers (Let name e over every) =
    option_or (option_or (expression_fault numbers e) (span_fault numbers over)) (grid_fault numbers every)
statement_fault numbers (Emit e over every) =
    option_or (option_or (expression_fault numbers e) (span_fault numbers (Some over))) (grid_fault numbers every)

abbrev pub query_fault : List Written → List StatementTree → Option UnitFault
query_fault numbers [] = None
query_fault numbers (s ∷ query) = option_or (statement_fault numbers s) (query_fault numbers query)

-- the query with each number itself, where each number is its count
abbrev pub with_numbers : List Written → ExprTree → ExprTree
with_numbers numbers (Leaf (Num place)) = Leaf (Num (digits_at numbers place))
with_numbers numbers (Leaf (Truth holds)) = Leaf (Truth holds)
with_numbers numbers (Leaf (Read name offset)) = Leaf (Read name (digits_at numbers offset))
with_numbers numbers (Leaf (Reduce r name from to)) = Leaf (Reduce r name (digits_at numbers from) (digits_at numbers to))
with_numbers numbers (One op a) = One op (with_numbers numbers a)
with_numbers numbers (Two op a b) = Two op (with_numbers numbers a) (with_numbers numbers b)
with_numbers numbers (If c a b) = If (with_numbers numbers c) (with_numbers numbers a) (with_numbers numbers b)

abbrev pub span_with : List Written → Span → Span
span_with numbers span = record { start = digits_at numbers span.start; end = digits_at numbers span.end }

abbrev pub grid_with : List Written → Every → Every
grid_with numbers every = record { period = digits_at numbers every.period; offset = digits_at numbers every.offset }

abbrev pub statement_with : List Written → StatementTree → StatementTree
statement_with numbers (Input name) = Input name
statement_with numbers (Let name e over every) =
    Let name (with_numbers numbers e) (option_map (span_with numbers) over) (option_map (grid_with numbers) every)
statement_with numbers (Emit e over every) =
    Emit (with_numbers numbers e) (span_with numbers over) (option_map (grid_with numbers) every)

abbrev pub query_with : List Written → List StatementTree → List StatementTree
query_with numbers places = map (statement_with numbers) places
