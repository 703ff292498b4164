-- The lines of a listing, word by word (our own rule). A word is its ASCII codes, and a number its shortest decimal.
use Rattle.std.specs.Prelude.{ℕ, List, [], ◌∷◌, ◌++◌, Some, None, codes}
use Rattle.std.specs.Fmt.{decimal, signed_decimal}
use Rattle.tilt_base.specs.Reduce.{reducer_word}
use Rattle.tilt_base.specs.declared.operator.Op1.{Op1}
use Rattle.tilt_base.specs.declared.operator.Op1.TheVariants as op1
use Rattle.tilt_base.specs.declared.operator.Op2.{Op2}
use Rattle.tilt_base.specs.declared.operator.Op2.TheVariants as op2
use Rattle.tilt_code.specs.declared.instr.Instr.{Instr}
use Rattle.tilt_code.specs.declared.instr.Instr.TheVariants as instr
use Rattle.tilt_code.specs.declared.line.Line.{Line}
use Rattle.tilt_code.specs.declared.line.Line.TheVariants as line

-- the word of an operator on one register
abbrev pub one_word : Op1 → List ℕ
one_word op1.Neg = codes "neg"
one_word op1.Not = codes "not"
one_word op1.IsNull = codes "isnull"

-- the word of an operator on two registers
abbrev pub two_word : Op2 → List ℕ
two_word op2.Add = codes "add"
two_word op2.Sub = codes "sub"
two_word op2.Mul = codes "mul"
two_word op2.Div = codes "div"
two_word op2.Rem = codes "rem"
two_word op2.Eq = codes "eq"
two_word op2.Ne = codes "ne"
two_word op2.Lt = codes "lt"
two_word op2.Le = codes "le"
two_word op2.Gt = codes "gt"
two_word op2.Ge = codes "ge"
two_word op2.And = codes "and"
two_word op2.Or = codes "or"
two_word op2.When = codes "when"
two_word op2.IfNull = codes "ifnull"

-- a buffer, as `b0`
abbrev pub buffer_word : ℕ → List ℕ
buffer_word number = codes "b" ++ decimal number

-- a map, as `m0`
abbrev pub map_word : ℕ → List ℕ
map_word number = codes "m" ++ decimal number

-- a register, as `r0`
abbrev pub register_word : ℕ → List ℕ
register_word number = codes "r" ++ decimal number

-- the words of an instruction
abbrev pub instr_words : Instr → List (List ℕ)
instr_words (instr.Const number) = codes "const" ∷ signed_decimal number ∷ []
instr_words instr.Null = codes "null" ∷ []
instr_words instr.Argument = codes "cell" ∷ []
instr_words (instr.Port buffer offset) = codes "port" ∷ buffer_word buffer ∷ signed_decimal offset ∷ []
instr_words (instr.Win reducer buffer from to None) =
    codes "win" ∷ reducer_word reducer ∷ buffer_word buffer ∷ signed_decimal from ∷ signed_decimal to ∷ []
instr_words (instr.Win reducer buffer from to (Some map)) =
    codes "win" ∷ reducer_word reducer ∷ buffer_word buffer ∷ signed_decimal from ∷ signed_decimal to ∷ map_word map ∷ []
instr_words (instr.One op a) = one_word op ∷ register_word a ∷ []
instr_words (instr.Two op a b) = two_word op ∷ register_word a ∷ register_word b ∷ []
instr_words (instr.If c a b) = codes "if" ∷ register_word c ∷ register_word a ∷ register_word b ∷ []

-- the words of a line
abbrev pub line_words : Line → List (List ℕ)
line_words line.Title = codes "tilt" ∷ codes "1" ∷ []
line_words (line.Input name) = codes "input" ∷ name ∷ []
line_words (line.Head lo hi grid) =
    codes "loop" ∷ signed_decimal lo ∷ signed_decimal hi ∷ signed_decimal grid.period ∷ signed_decimal grid.offset ∷ []
line_words line.Map = codes "map" ∷ []
line_words (line.Step register i) = register_word register ∷ codes "=" ∷ instr_words i
line_words line.End = codes "end" ∷ []

-- words with a single blank between them
abbrev pub spaced : List (List ℕ) → List ℕ
spaced [] = []
spaced (word ∷ []) = word
spaced (word ∷ next ∷ words) = word ++ codes " " ++ spaced (next ∷ words)

-- the text of a line, without the LF that ends it
abbrev pub line_text : Line → List ℕ
line_text l = spaced (line_words l)
