-- The lines of a code make the whole of it, one after the other.
use Rattle.std.proofs.Common.{◌≡◌, ℕ, zero, suc, ◌+◌, ◌^◌, ◌<◌, ◌≤◌, Bool, true, false, not, if◌then◌else◌, nat_eq, List, [], ◌∷◌, ◌++◌, length, map, Option}
use Rattle.std.proofs.Common.{Some, None, ℤ, pos, Contains, IsTrue, refl, sym, ap, ◌∙◌, subst, arith, inl, inr, append-nil, append_assoc, length-append}
use Rattle.std.specs.List.{flat_map, list_any, AllByRecursion}
use Rattle.std.specs.Str.{bytes_eq}
use Rattle.std.proofs.lemmas.Bool.{cases_Bool, and_from}
use Rattle.std.proofs.lemmas.List.Elements.{Contains-append_right}
use Rattle.tilt_base.proofs.Lists.{all-append}
use Rattle.tilt_base.specs.Grid.{GridPoints}
use Rattle.tilt_base.proofs.Comparisons.{bytes_same, same_number}
use Rattle.tilt_text.specs.Step.{◌>>=◌}
use Rattle.tilt_text.proofs.Lacks.{Lacks}
use Rattle.tilt_text.proofs.Step.{bind_some}
use Rattle.tilt_lexer.specs.Word.{AreDistinct, IsName}
use Rattle.tilt_code.specs.Code.{Block, LoopParts, CodeParts}
use Rattle.tilt_code.specs.Grammar.{IsInstr, IsBlock, IsLoop, IsGrammatical, stands_in_map, stands_in_body}
use Rattle.tilt_code.specs.Line.{line_text}
use Rattle.tilt_code.specs.Listing.{block_lines, map_lines, loop_lines, code_lines}
use Rattle.tilt_code.specs.Partial.{PartialCode, nothing, is_nil, stands_in, with_line}
use Rattle.tilt_code.specs.declared.instr.Instr.{Instr}
use Rattle.tilt_code.specs.declared.line.Line.{Line}
use Rattle.tilt_code.specs.declared.line.Line.TheVariants as line
use Rattle.tilt_code.specs.declared.stage.Stage.{Stage}
use Rattle.tilt_code.specs.declared.stage.Stage.TheVariants as stage
use Rattle.tilt_code.proofs.LineText.{IsLine, text_again, text_lacks}
use Rattle.tilt_code.proofs.Partials.{take_text}

-- what lines make, one after the other
abbrev pub run : PartialCode → List Line → Option PartialCode
run p [] = Some p
run p (l ∷ ls) = with_line l p >>= λ q. run q ls

pub run-append : (p : PartialCode) (xs ys : List Line) → run p (xs ++ ys) ≡ run p xs >>= λ q. run q ys
run-append p [] ys = refl
run-append p (x ∷ xs) ys =
    elim (with_line x p) as (λ (o : Option PartialCode). o >>= (λ q. run q (xs ++ ys)) ≡ (o >>= λ q. run q xs) >>= λ q. run q ys) [
      | None ↦ refl
      | Some q ↦ run-append q xs ys
    ]

-- lines that make something, and lines after them
pub run-then : (p q : PartialCode) (xs ys : List Line) → run p xs ≡ Some q → run p (xs ++ ys) ≡ run q ys
run-then p q xs ys e = run-append p xs ys ∙ ap (λ (o : Option PartialCode). o >>= λ r. run r ys) e

-- a partial code, part by part
abbrev pub at : Stage → List (List ℕ) → List LoopParts → ℤ → ℤ → GridPoints → List Block → Block → PartialCode
at s inputs loops lo hi grid maps block = record {
  stage = s;
  inputs = inputs;
  loops = loops;
  lo = lo;
  hi = hi;
  grid = grid;
  maps = maps;
  block = block;
}

-- a block

module _ (s : Stage) (inputs : List (List ℕ)) (loops : List LoopParts) (lo hi : ℤ) (grid : GridPoints) (maps : List Block) where
  block-run : (register : ℕ) (front xs : Block) → register ≡ length front → AllByRecursion (λ i. IsTrue (stands_in s i) × IsInstr i) xs
      → run (at s inputs loops lo hi grid maps front) (block_lines register xs) ≡ Some (at s inputs loops lo hi grid maps (front ++ xs))
  block-run register front [] h all = ap (λ (b : Block). Some (at s inputs loops lo hi grid maps b)) (sym (append-nil front))
  block-run register front (x ∷ xs) h all =
      let next : suc register ≡ length (front ++ x ∷ []) = omega (arith, length-append front (x ∷ [])) in
      let number : nat_eq register (length front) ≡ true = rw (← h) (same_number register) in
      let tests = and_from (stands_in s x) (nat_eq register (length front)) all.0.0 number in
      ap (λ (t : Bool). (if t then Some (at s inputs loops lo hi grid maps (front ++ x ∷ [])) else None) >>= λ q. run q (block_lines (suc register) xs)) tests
      ∙ block-run (suc register) (front ++ x ∷ []) xs next all.1 ∙ ap (λ (b : Block). Some (at s inputs loops lo hi grid maps b)) (append_assoc front (x ∷ []) xs)

pub length_some : {X : Type 0} (xs : List X) → 0 < length xs → is_nil xs ≡ false
length_some [] h = absurd (omega arith)
length_some (x ∷ xs) h = refl

-- maps

module _ (inputs : List (List ℕ)) (loops : List LoopParts) (lo hi : ℤ) (grid : GridPoints) where
  map-run : (front : List Block) (m : Block) → IsBlock stands_in_map m → run (at stage.InBody inputs loops lo hi grid front []) (map_lines m)
      ≡ Some (at stage.InBody inputs loops lo hi grid (front ++ m ∷ []) [])
  map-run front m h =
      run-then (at stage.InMap inputs loops lo hi grid front []) (at stage.InMap inputs loops lo hi grid front m) (block_lines 0 m) (line.End ∷ [])
      (block-run stage.InMap inputs loops lo hi grid front 0 [] m refl h.instrs)
      ∙ ap (λ (t : Bool). (if t then None else Some (at stage.InBody inputs loops lo hi grid (front ++ m ∷ []) [])) >>= λ q. run q []) (length_some m h.some)

  maps-run : (front maps : List Block) → AllByRecursion (IsBlock stands_in_map) maps
      → run (at stage.InBody inputs loops lo hi grid front []) (flat_map map_lines maps) ≡ Some (at stage.InBody inputs loops lo hi grid (front ++ maps) [])
  maps-run front [] all = ap (λ (ms : List Block). Some (at stage.InBody inputs loops lo hi grid ms [])) (sym (append-nil front))
  maps-run front (m ∷ maps) all =
      run-then (at stage.InBody inputs loops lo hi grid front []) (at stage.InBody inputs loops lo hi grid (front ++ m ∷ []) []) (map_lines m)
      (flat_map map_lines maps) (map-run front m all.0) ∙ maps-run (front ++ m ∷ []) maps all.1
      ∙ ap (λ (ms : List Block). Some (at stage.InBody inputs loops lo hi grid ms [])) (append_assoc front (m ∷ []) maps)

-- loops

module _ (inputs : List (List ℕ)) where
  loop-run : (front : List LoopParts) (lo hi : ℤ) (grid : GridPoints) (l : LoopParts) → IsLoop l
      → run (at stage.Outside inputs front lo hi grid [] []) (loop_lines l) ≡ Some (at stage.Outside inputs (front ++ l ∷ []) l.lo l.hi l.grid [] [])
  loop-run front lo hi grid l h =
      let head = at stage.InBody inputs front l.lo l.hi l.grid [] [] in
      let mapped = at stage.InBody inputs front l.lo l.hi l.grid l.maps [] in
      let full = at stage.InBody inputs front l.lo l.hi l.grid l.maps l.body in
      ap (run head) (append_assoc (flat_map map_lines l.maps) (block_lines 0 l.body) (line.End ∷ []))
      ∙ run-then head mapped (flat_map map_lines l.maps) (block_lines 0 l.body ++ line.End ∷ []) (maps-run inputs front l.lo l.hi l.grid [] l.maps h.maps)
      ∙ run-then mapped full (block_lines 0 l.body) (line.End ∷ [])
      (block-run stage.InBody inputs front l.lo l.hi l.grid l.maps 0 [] l.body refl h.body.instrs)
      ∙ ap (λ (t : Bool). (if t then None else Some (at stage.Outside inputs (front ++ l ∷ []) l.lo l.hi l.grid [] [])) >>= λ q. run q []) (length_some l.body h.body.some)

  -- what whole loops make, with the numbers of some first line
  record Looped (front loops : List LoopParts) (lo hi : ℤ) (grid : GridPoints) : Type 0 where
    low : ℤ
    high : ℤ
    points : GridPoints
    made : run (at stage.Outside inputs front lo hi grid [] []) (flat_map loop_lines loops) ≡ Some (at stage.Outside inputs (front ++ loops) low high points [] [])

  loops-run : (front loops : List LoopParts) (lo hi : ℤ) (grid : GridPoints) → AllByRecursion IsLoop loops → Looped front loops lo hi grid
  loops-run front [] lo hi grid all = record {
    low = lo;
    high = hi;
    points = grid;
    made = ap (λ (ls : List LoopParts). Some (at stage.Outside inputs ls lo hi grid [] [])) (sym (append-nil front));
  }
  loops-run front (l ∷ loops) lo hi grid all =
      let rest = loops-run (front ++ l ∷ []) loops l.lo l.hi l.grid all.1 in
      record {
        low = rest.low;
        high = rest.high;
        points = rest.points;
        made = run-then (at stage.Outside inputs front lo hi grid [] []) (at stage.Outside inputs (front ++ l ∷ []) l.lo l.hi l.grid [] []) (loop_lines l)
            (flat_map loop_lines loops) (loop-run front lo hi grid l all.0) ∙ rest.made
            ∙ ap (λ (ls : List LoopParts). Some (at stage.Outside inputs ls rest.low rest.high rest.points [] [])) (append_assoc front (l ∷ []) loops);
      }

-- inputs

-- none of these names is the name
absent_fresh : (name : List ℕ) (names : List (List ℕ)) → ¬ (Contains names name) → list_any (λ other. bytes_eq other name) names ≡ false
absent_fresh name [] absent = refl
absent_fresh name (x ∷ xs) absent =
    elim (cases_Bool (bytes_eq x name)) [
      | inl same ↦ absurd (absent (zero, omega arith, bytes_same x name same))
      | inr other ↦ rw other (absent_fresh name xs (λ c. absent (suc c.0, omega (arith, c.1), c.2)))
    ]

-- of distinct names none comes before itself
distinct-absent : (front : List (List ℕ)) (name : List ℕ) (rest : List (List ℕ)) → AreDistinct (front ++ name ∷ rest) → ¬ (Contains front name)
distinct-absent [] name rest d c = absurd (omega (arith, c.1))
distinct-absent (x ∷ front) name rest d (zero, lt, is) =
    d.0 (Contains-append_right front (name ∷ rest) x (zero, omega arith, sym is))
distinct-absent (x ∷ front) name rest d (suc k, lt, is) = distinct-absent front name rest d.1 (k, omega (arith, lt), is)

inputs-run : (front names : List (List ℕ)) → AreDistinct (front ++ names)
    → run (at stage.Outside front [] (pos 0) (pos 0) (record { period = pos 1; offset = pos 0 }) [] []) (map line.Input names)
    ≡ Some (at stage.Outside (front ++ names) [] (pos 0) (pos 0) (record { period = pos 1; offset = pos 0 }) [] [])
inputs-run front [] d =
    ap (λ (ns : List (List ℕ)). Some (at stage.Outside ns [] (pos 0) (pos 0) (record { period = pos 1; offset = pos 0 }) [] [])) (sym (append-nil front))
inputs-run front (name ∷ names) d =
    let next = at stage.Outside (front ++ name ∷ []) [] (pos 0) (pos 0) (record { period = pos 1; offset = pos 0 }) [] [] in
    let fresh = absent_fresh name front (distinct-absent front name names d) in
    ap (λ (t : Bool). (if not t then Some next else None) >>= λ q. run q (map line.Input names)) fresh
    ∙ inputs-run (front ++ name ∷ []) names (subst AreDistinct (sym (append_assoc front (name ∷ []) names)) d)
    ∙ ap (λ (ns : List (List ℕ)). Some (at stage.Outside ns [] (pos 0) (pos 0) (record { period = pos 1; offset = pos 0 }) [] [])) (append_assoc front (name ∷ []) names)

-- codes

-- the lines of a code make a partial code that has its parts, and in which nothing is open
pub record Made (code : CodeParts) : Type 0 where
  pub low : ℤ
  pub high : ℤ
  pub points : GridPoints
  pub made : run nothing (code_lines code) ≡ Some (at stage.Outside code.inputs code.loops low high points [] [])

pub code-run : (code : CodeParts) → IsGrammatical code → Made code
code-run code h =
    let start = at stage.Outside [] [] (pos 0) (pos 0) (record { period = pos 1; offset = pos 0 }) [] [] in
    let named = at stage.Outside code.inputs [] (pos 0) (pos 0) (record { period = pos 1; offset = pos 0 }) [] [] in
    let looped = loops-run code.inputs [] code.loops (pos 0) (pos 0) (record { period = pos 1; offset = pos 0 }) h.loops in
    record {
      low = looped.low;
      high = looped.high;
      points = looped.points;
      made = run-then start named (map line.Input code.inputs) (flat_map loop_lines code.loops) (inputs-run [] code.inputs h.distinct) ∙ looped.made;
    }

-- the lines of a code have their numbers within their bounds

abbrev pub AreLines : List Line → Type 0
AreLines ls = AllByRecursion IsLine ls

block-fits : (stands : Instr → Bool) (register : ℕ) (xs : Block) → register + length xs ≤ 2 ^ 32 → AllByRecursion (λ i. IsTrue (stands i) × IsInstr i) xs → AreLines (block_lines register xs)
block-fits stands register [] h all = tt
block-fits stands register (x ∷ xs) h all = ((omega arith, all.0.1), block-fits stands (suc register) xs (omega arith) all.1)

maps-fit : (maps : List Block) → AllByRecursion (IsBlock stands_in_map) maps → AreLines (flat_map map_lines maps)
maps-fit [] all = tt
maps-fit (m ∷ maps) all = (
  tt,
  all-append IsLine (block_lines 0 m ++ line.End ∷ []) (flat_map map_lines maps)
      (all-append IsLine (block_lines 0 m) (line.End ∷ []) (block-fits stands_in_map 0 m (omega (arith, all.0.few)) all.0.instrs) (tt, tt)) (maps-fit maps all.1),
)

loop-fits : (l : LoopParts) → IsLoop l → AreLines (loop_lines l)
loop-fits l h = (
  (h.stretch, h.grid),
  all-append IsLine (flat_map map_lines l.maps ++ block_lines 0 l.body) (line.End ∷ [])
      (all-append IsLine (flat_map map_lines l.maps) (block_lines 0 l.body) (maps-fit l.maps h.maps) (block-fits stands_in_body 0 l.body (omega (arith, h.body.few)) h.body.instrs)) (tt, tt),
)

loops-fit : (loops : List LoopParts) → AllByRecursion IsLoop loops → AreLines (flat_map loop_lines loops)
loops-fit [] all = tt
loops-fit (l ∷ loops) all = all-append IsLine (loop_lines l) (flat_map loop_lines loops) (loop-fits l all.0) (loops-fit loops all.1)

inputs-fit : (names : List (List ℕ)) → AllByRecursion IsName names → AreLines (map line.Input names)
inputs-fit [] all = tt
inputs-fit (name ∷ names) all = (all.0, inputs-fit names all.1)

pub code-fits : (code : CodeParts) → IsGrammatical code → AreLines (code_lines code)
code-fits code h =
    (tt, all-append IsLine (map line.Input code.inputs) (flat_map loop_lines code.loops) (inputs-fit code.inputs h.named) (loops-fit code.loops h.loops))

-- texts

-- what texts make, one after the other
abbrev pub run_texts : PartialCode → List (List ℕ) → Option PartialCode
run_texts p [] = Some p
run_texts p (t ∷ ts) = take_text t p >>= λ q. run_texts q ts

-- the texts of lines make what the lines make
pub texts-run : (p : PartialCode) (ls : List Line) → AreLines ls → run_texts p (map line_text ls) ≡ run p ls
texts-run p [] all = refl
texts-run p (l ∷ ls) all =
    ap (λ (o : Option Line). (o >>= λ k. with_line k p) >>= λ q. run_texts q (map line_text ls)) (text_again l all.0)
    ∙ elim (with_line l p) as (λ (o : Option PartialCode). o >>= (λ q. run_texts q (map line_text ls)) ≡ o >>= λ q. run q ls) [
      | None ↦ refl
      | Some q ↦ texts-run q ls all.1
    ]

-- no text of a line has an LF within
pub texts-lack : (ls : List Line) → AreLines ls → AllByRecursion (Lacks 10) (map line_text ls)
texts-lack [] all = tt
texts-lack (l ∷ ls) all = (text_lacks l all.0, texts-lack ls all.1)

-- texts before texts that make something make something
pub texts-front : (p q : PartialCode) (xs ys : List (List ℕ)) → run_texts p (xs ++ ys) ≡ Some q → (r : PartialCode) × (run_texts p xs ≡ Some r) × (run_texts r ys ≡ Some q)
texts-front p q [] ys e = (p, refl, e)
texts-front p q (x ∷ xs) ys e =
    let b = bind_some (take_text x p) (λ r. run_texts r (xs ++ ys)) q e in
    let rest = texts-front b.0 q xs ys b.2 in
    (rest.0, ap (λ (o : Option PartialCode). o >>= λ r. run_texts r xs) b.1 ∙ rest.1, rest.2)
