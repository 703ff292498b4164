-- Which line of a text is bad, and which reference, if a text is no listing of a code (our own rule).
use Rattle.std.specs.Prelude.{◌≡◌, ◌⊎◌, ℕ, suc, ◌+◌, ◌-◌, Bool, true, List, [], ◌∷◌, ◌++◌, length, map, Contains, IsTrue, ⊤}
use Rattle.std.specs.Bool.{IsFalse}
use Rattle.tilt_code.specs.Code.{CodeParts}
use Rattle.tilt_code.specs.Grammar.{IsGrammatical}
use Rattle.tilt_code.specs.Line.{line_text}
use Rattle.tilt_code.specs.Listing.{code_lines, ended, listing}
use Rattle.tilt_code.specs.References.{refers_below}
use Rattle.tilt_code.specs.declared.line.Line.{Line}
use Rattle.tilt_code.specs.declared.line.Line.TheVariants as line

-- the texts of the lines of a code
abbrev pub code_texts : CodeParts → List (List ℕ)
code_texts code = map line_text (code_lines code)

-- the listing of some code that the grammar allows begins with these lines
abbrev pub IsFront : List (List ℕ) → Type 0
IsFront texts = (code : CodeParts) × IsGrammatical code × ((more : List (List ℕ)) × (code_texts code ≡ texts ++ more))

-- the text is the listing of some code that the grammar allows
abbrev pub IsListing : List ℕ → Type 0
IsListing text = (code : CodeParts) × IsGrammatical code × (text ≡ listing code)

-- no LF is in the text
abbrev pub HasNoLineEnd : List ℕ → Type 0
HasNoLineEnd text = ¬ (Contains text 10)

-- after these lines comes no whole line, though the text is no listing; or a line that can't be there
abbrev pub IsBadBehind : List (List ℕ) → List ℕ → Type 0
IsBadBehind before rest =
    (HasNoLineEnd rest × ¬ (IsListing (ended before ++ rest)))
    ⊎ ((text : List ℕ) × (more : List ℕ) × HasNoLineEnd text × (rest ≡ text ++ 10 ∷ more) × ¬ (IsFront (before ++ text ∷ [])))

-- the line of that number, counted from 1, is the first that is bad
pub record IsBadLine (text : List ℕ) (number : ℕ) : Type 0 where
  pub before : List (List ℕ)
  pub rest : List ℕ
  pub whole : text ≡ ended before ++ rest
  pub counted : number ≡ suc (length before)
  pub good : IsFront before
  pub bad : IsBadBehind before rest

-- what the lines so far count: the inputs, the loops with the open one, and the maps of that one
pub record Counted : Type 0 where
  pub inputs : ℕ
  pub loops : ℕ
  pub maps : ℕ

-- before the first line
abbrev pub none_counted : Counted
none_counted = record { inputs = 0; loops = 0; maps = 0 }

-- and one line more
abbrev pub count_line : Counted → Line → Counted
count_line c (line.Input name) = record c { inputs = suc c.inputs }
count_line c (line.Head lo hi grid) = record c { loops = suc c.loops; maps = 0 }
count_line c line.Map = record c { maps = suc c.maps }
count_line c other = c

-- and these lines
abbrev pub count_lines : Counted → List Line → Counted
count_lines c [] = c
count_lines c (l ∷ ls) = count_lines (count_line c l) ls

-- whether an instruction's line names only inputs, earlier loops, maps of its loop and earlier registers of its block
abbrev pub is_good : Counted → Line → Bool
is_good c (line.Step register i) = refers_below (c.inputs + (c.loops - 1)) c.maps register i
is_good c other = true

-- each of these lines is good in that sense
abbrev pub AreGood : Counted → List Line → Type 0
AreGood c [] = ⊤
AreGood c (l ∷ ls) = IsTrue (is_good c l) × AreGood (count_line c l) ls

-- the text is a listing, and the first bad reference is in that line of that loop, both counted from 1
pub record IsBadReference (text : List ℕ) (in_loop number : ℕ) : Type 0 where
  pub code : CodeParts
  pub before : List Line
  pub here : Line
  pub behind : List Line
  pub grammatical : IsGrammatical code
  pub whole : text ≡ listing code
  pub lines : code_lines code ≡ before ++ here ∷ behind
  pub good : AreGood none_counted before
  pub bad : IsFalse (is_good (count_lines none_counted before) here)
  pub counted : number ≡ suc (length before)
  pub loop_counted : in_loop ≡ (count_lines none_counted before).loops
