-- What the lines of a listing so far make: how the reader goes on by a line.
use Rattle.std.specs.Prelude.{ℕ, ℤ, pos, Bool, true, false, not, ◌&&◌, nat_eq, if◌then◌else◌, List, [], ◌∷◌}
use Rattle.std.specs.Prelude.{◌++◌, length, Option, Some, None, Result, Ok, Err, map, ◌+◌, suc, ◌≡◌}
use Rattle.std.specs.List.{list_any}
use Rattle.std.specs.Str.{bytes_eq}
use Rattle.tilt_base.specs.Grid.{GridPoints}
use Rattle.tilt_text.specs.Step.{◌>>=◌}
use Rattle.tilt_code.specs.Code.{Block, CodeParts, LoopParts}
use Rattle.tilt_code.specs.Grammar.{stands_in_body, stands_in_map}
use Rattle.tilt_code.specs.References.{refers_below}
use Rattle.tilt_code.specs.Reading.{line_of, pieces}
use Rattle.tilt_code.specs.declared.fault.CodeFault.{CodeFault}
use Rattle.tilt_code.specs.declared.fault.CodeFault.TheVariants as fault
use Rattle.tilt_code.specs.declared.instr.Instr.{Instr}
use Rattle.tilt_code.specs.declared.line.Line.{Line}
use Rattle.tilt_code.specs.declared.line.Line.TheVariants as line
use Rattle.tilt_code.specs.declared.partial.Partial.{Partial}
use Rattle.tilt_code.specs.declared.place.Place.{Place}
use Rattle.tilt_code.specs.declared.stage.Stage.{Stage}
use Rattle.tilt_code.specs.declared.stage.Stage.TheVariants as stage

-- the inputs, the whole loops, and of the open loop its first line, its whole maps and its open block
pub record PartialCode : Type 0 where
  pub stage : Stage
  pub inputs : List (List ℕ)
  pub loops : List LoopParts
  pub lo : ℤ
  pub hi : ℤ
  pub grid : GridPoints
  pub maps : List Block
  pub block : Block

-- without where its parts lie in memory
abbrev pub parts_of : Partial → PartialCode
parts_of p = record {
  stage = p.stage;
  inputs = p.inputs;
  loops = p.loops.items;
  lo = p.lo;
  hi = p.hi;
  grid = p.grid;
  maps = map (λ m. m.items) p.maps.items;
  block = p.block.items;
}

-- before the first line
abbrev pub nothing : PartialCode
nothing = record {
  stage = stage.Before;
  inputs = [];
  loops = [];
  lo = pos 0;
  hi = pos 0;
  grid = record { period = pos 1; offset = pos 0 };
  maps = [];
  block = [];
}

-- whether a list is empty
abbrev pub is_nil : {A : Type 0} → List A → Bool
is_nil [] = true
is_nil (x ∷ xs) = false

-- after the first line
abbrev pub with_title : Stage → PartialCode → Option PartialCode
with_title stage.Before p = Some (record p { stage = stage.Outside })
with_title other p = None

-- whether an input may follow with that name: no loop comes before it, and no input of its name
abbrev pub is_new : List LoopParts → List (List ℕ) → List ℕ → Bool
is_new loops inputs name = is_nil loops && not (list_any (λ other. bytes_eq other name) inputs)

-- after the line of an input
abbrev pub with_input : Stage → List ℕ → PartialCode → Option PartialCode
with_input stage.Outside name p =
    if is_new p.loops p.inputs name then Some (record p { stage = stage.Outside; inputs = p.inputs ++ name ∷ [] }) else None
with_input other name p = None

-- after the first line of a loop
abbrev pub with_head : Stage → ℤ → ℤ → GridPoints → PartialCode → Option PartialCode
with_head stage.Outside lo hi grid p = Some (record p { stage = stage.InBody; lo = lo; hi = hi; grid = grid })
with_head other lo hi grid p = None

-- after the first line of a map
abbrev pub with_map : Stage → PartialCode → Option PartialCode
with_map stage.InBody p = if is_nil p.block then Some (record p { stage = stage.InMap }) else None
with_map other p = None

-- whether an instruction is allowed in the open block
abbrev pub stands_in : Stage → Instr → Bool
stands_in stage.InMap i = stands_in_map i
stands_in stage.InBody i = stands_in_body i
stands_in other i = false

-- after the line of an instruction, which fills the next register
abbrev pub with_step : Stage → ℕ → Instr → PartialCode → Option PartialCode
with_step at register i p =
    if stands_in at i && nat_eq register (length p.block) then Some (record p { stage = at; block = p.block ++ i ∷ [] }) else None

-- the open loop, of which the open block is the body
abbrev pub open_loop : PartialCode → LoopParts
open_loop p = record { lo = p.lo; hi = p.hi; grid = p.grid; maps = p.maps; body = p.block }

-- after the last line of a loop
abbrev pub closed : PartialCode → Option PartialCode
closed p = Some (record p { stage = stage.Outside; loops = p.loops ++ open_loop p ∷ []; maps = []; block = [] })

-- after the last line of a map or of a loop
abbrev pub with_end : Stage → PartialCode → Option PartialCode
with_end stage.InMap p =
    if is_nil p.block then None else Some (record p { stage = stage.InBody; maps = p.maps ++ p.block ∷ []; block = [] })
with_end stage.InBody p =
    if is_nil p.block then None else closed p
with_end other p = None

-- after one line more
abbrev pub with_line : Line → PartialCode → Option PartialCode
with_line line.Title p = with_title p.stage p
with_line (line.Input name) p = with_input p.stage name p
with_line (line.Head lo hi grid) p = with_head p.stage lo hi grid p
with_line line.Map p = with_map p.stage p
with_line (line.Step register i) p = with_step p.stage register i p
with_line line.End p = with_end p.stage p

-- the line that a text is
abbrev pub line_read : List ℕ → Option Line
line_read text = line_of (pieces 32 text)

-- whether the line names only what is before it
abbrev pub refers_back : PartialCode → Line → Bool
refers_back p (line.Step register i) = refers_below (length p.inputs + length p.loops) (length p.maps) register i
refers_back p other = true

-- the first bad reference, with the line of that number, which comes after a partial code
abbrev pub note : Option Place → PartialCode → Line → ℕ → Option Place
note (Some place) p l number = Some place
note None p l number = if refers_back p l then None else Some (record { in_loop = suc (length p.loops); line = number })

-- what the lines so far give: a partial code, and the first bad reference in it
pub record Progress : Type 0 where
  pub code : PartialCode
  pub bad : Option Place

-- after one text more, which is the line of that number
abbrev pub with_text : ℕ → List ℕ → Progress → Option Progress
with_text number text s =
    line_read text >>= λ l. with_line l s.code >>= λ q. Some (record { code = q; bad = note s.bad s.code l number })

-- whether the lines so far are a whole listing
abbrev pub is_whole : Stage → PartialCode → Bool
is_whole stage.Outside p = not (is_nil p.loops)
is_whole other p = false

-- whether no text is left, and the lines so far are a whole listing
abbrev pub is_end : List ℕ → PartialCode → Bool
is_end text p = is_nil text && is_whole p.stage p

-- what was read after a line that may not be taken, or the number of that line
abbrev pub or_line : ℕ → Option Progress → (Progress → Result Progress ℕ) → Result Progress ℕ
or_line number None next = Err number
or_line number (Some s) next = next s

-- what the rest of a text gives, of which the pieces between LFs are given, from the line of that number on; or the first bad line
abbrev pub read_from : ℕ → Progress → List (List ℕ) → Result Progress ℕ
read_from number s [] = Err number
read_from number s (text ∷ []) = if is_end text s.code then Ok s else Err number
read_from number s (text ∷ next ∷ more) = or_line number (with_text number text s) (λ q. read_from (suc number) q (next ∷ more))

-- what a text gives, or the first bad line
abbrev pub read_text : List ℕ → Result Progress ℕ
read_text text = read_from 1 (record { code = nothing; bad = None }) (pieces 10 text)

-- that the line was taken, or can't be there; nothing is said if memory ran out
abbrev pub Takes : {E : Type 0} → Option PartialCode → Result Bool E → PartialCode → Type 0
Takes read (Ok true) new = read ≡ Some new
Takes read (Ok false) new = read ≡ None
Takes read (Err fault) new = Unit {0}

-- the same of a text
abbrev pub TakesText : {E : Type 0} → Option Progress → Result Bool E → PartialCode → Option Place → Type 0
TakesText read (Ok true) new bad = read ≡ Some (record { code = new; bad = bad })
TakesText read (Ok false) new bad = read ≡ None
TakesText read (Err fault) new bad = Unit {0}

-- the parts of a code whose lines were all read
abbrev pub code_of : PartialCode → CodeParts
code_of p = record { inputs = p.inputs; loops = p.loops }

-- that result, seen by view, is what was read, unless memory ran out
abbrev pub GivesProgress : {S : Type 0} → (S → Progress) → Result S CodeFault → Result Progress ℕ → Type 0
GivesProgress view (Ok s) read = read ≡ Ok (view s)
GivesProgress view (Err (fault.BadCode number)) read = read ≡ Err number
GivesProgress view (Err (fault.BadReference in_loop number)) read = ⊥
GivesProgress view (Err fault.OutOfMemory) read = Unit {0}

-- that result is what was read, unless memory ran out
abbrev pub Gives : Result CodeParts CodeFault → Result Progress ℕ → Type 0
Gives (Ok code) read = (p : PartialCode) × (read ≡ Ok (record { code = p; bad = None })) × (code ≡ code_of p)
Gives (Err (fault.BadCode number)) read = read ≡ Err number
Gives (Err (fault.BadReference in_loop number)) read =
    (p : PartialCode) × (read ≡ Ok (record { code = p; bad = Some (record { in_loop = in_loop; line = number }) }))
Gives (Err fault.OutOfMemory) read = Unit {0}
