-- The buffer of a source, and the loops of a code.
use Rattle.std.proofs.Common.{◌≡◌, ℕ, suc, ◌+◌, ◌-◌, ◌<◌, ◌≤◌, List, [], ◌∷◌, ◌++◌, length, Option, Some, None, if◌then◌else◌, Bool, true, false, refl, ap, ◌∙◌, arith}
use Rattle.std.specs.Prelude.{nat_lt, ◌&&◌, ⊤}
use Rattle.tilt_fuse.specs.FusedTree.{FusedTree, PlannedLoop}
use Rattle.tilt_fuse.specs.Plan.{fused, is_merged, loops_from}
use Rattle.tilt_lower.specs.Lowering.{loops_before, buffer_of}
use Rattle.tilt_core.specs.CoreTree.{Definition}
use Rattle.tilt_core.specs.Needs.{Need}

-- an input's buffer has its own number
pub buffer_of-input : (inputs : ℕ) (loops : List PlannedLoop) (source : ℕ) → source < inputs → buffer_of inputs loops source ≡ source
buffer_of-input inputs loops source low = let test : nat_lt source inputs ≡ true = grind arith in rw test refl

pub buffer_of-definition : (inputs : ℕ) (loops : List PlannedLoop) (place : ℕ) → buffer_of inputs loops (inputs + place) ≡ inputs + loops_before loops place
buffer_of-definition inputs loops place =
    let test : nat_lt (inputs + place) inputs ≡ false = grind arith in
    let at : inputs + place - inputs ≡ place = omega arith in
    rw (test, at) refl

pub loops_before-append : (one two : List PlannedLoop) (place : ℕ) → loops_before (one ++ two) place ≡ loops_before one place + loops_before two place
loops_before-append [] two place = omega arith
loops_before-append (l ∷ one) two place =
    ap (λ (n : ℕ). (if nat_lt l.def place then 1 else 0) + n) (loops_before-append one two place) ∙ omega arith

one_more : (test : Bool) (some all : ℕ) → some ≤ all → (if test then 1 else 0) + some ≤ suc all
one_more true some all low = omega arith
one_more false some all low = omega arith

-- no more loops are before a definition than there are
pub loops_before-few : (loops : List PlannedLoop) (place : ℕ) → loops_before loops place ≤ length loops
loops_before-few [] place = omega arith
loops_before-few (l ∷ loops) place = one_more (nat_lt l.def place) (loops_before loops place) (length loops) (loops_before-few loops place)

-- loops of definitions before a place
abbrev pub AreBefore : ℕ → List PlannedLoop → Type 0
AreBefore place [] = ⊤
AreBefore place (l ∷ loops) = (l.def < place) × AreBefore place loops

pub all_before : (place : ℕ) (loops : List PlannedLoop) → AreBefore place loops → loops_before loops place ≡ length loops
all_before place [] h = refl
all_before place (l ∷ loops) h =
    let low = h.0 in
    let test : nat_lt l.def place ≡ true = grind arith in
    rw (test, all_before place loops h.1) (omega arith)

pub before-next : (place : ℕ) (loops : List PlannedLoop) → AreBefore place loops → AreBefore (suc place) loops
before-next place [] h = tt
before-next place (l ∷ loops) h = (let low = h.0 in omega arith, before-next place loops h.1)

pub before-more : (place : ℕ) (loops : List PlannedLoop) (l : PlannedLoop) → AreBefore place loops → l.def ≡ place → AreBefore (suc place) (loops ++ l ∷ [])
before-more place [] l h is = (omega arith, tt)
before-more place (m ∷ loops) l h is = (let low = h.0 in omega arith, before-more place loops l h.1 is)

-- loops of definitions from a place on
abbrev pub AreBehind : ℕ → List PlannedLoop → Type 0
AreBehind place [] = ⊤
AreBehind place (l ∷ loops) = (place ≤ l.def) × AreBehind place loops

pub behind-less : (place less : ℕ) (loops : List PlannedLoop) → less ≤ place → AreBehind place loops → AreBehind less loops
behind-less place less [] low h = tt
behind-less place less (l ∷ loops) low h = (let behind = h.0 in omega arith, behind-less place less loops low h.1)

pub none_before : (place : ℕ) (loops : List PlannedLoop) → AreBehind place loops → loops_before loops place ≡ 0
none_before place [] h = refl
none_before place (l ∷ loops) h =
    let behind = h.0 in
    let test : nat_lt l.def place ≡ false = grind arith in
    rw (test, none_before place loops h.1) refl

either_way : (place : ℕ) (test : Bool) (one other : List PlannedLoop) → AreBehind place one → AreBehind place other → AreBehind place (if test then one else other)
either_way place true one other g h = g
either_way place false one other g h = h

-- the loops of a plan from a place on
pub loops_from-behind : (fuse : Bool) (inputs place : ℕ) (merged : List (Option FusedTree)) (defs : List Definition) (ns : List (Option Need))
    → AreBehind place (loops_from fuse inputs place merged defs ns)
loops_from-behind fuse inputs place merged [] ns = tt
loops_from-behind fuse inputs place merged (def ∷ defs) [] = tt
loops_from-behind fuse inputs place merged (def ∷ defs) (None ∷ ns) =
    behind-less (suc place) place (loops_from fuse inputs (suc place) (merged ++ None ∷ []) defs ns) (omega arith) (loops_from-behind fuse inputs (suc place) (merged ++ None ∷ []) defs ns)
loops_from-behind fuse inputs place merged (def ∷ defs) (Some n ∷ ns) =
    let tree = fused merged def.body in
    let one = loops_from fuse inputs (suc place) (merged ++ Some tree ∷ []) defs ns in
    let other = loops_from fuse inputs (suc place) (merged ++ None ∷ []) defs ns in
    either_way place (fuse && is_merged def defs ns (inputs + place) tree) one (record { def = place; body = tree } ∷ other)
    (behind-less (suc place) place one (omega arith) (loops_from-behind fuse inputs (suc place) (merged ++ Some tree ∷ []) defs ns))
    (omega arith, behind-less (suc place) place other (omega arith) (loops_from-behind fuse inputs (suc place) (merged ++ None ∷ []) defs ns))

-- the buffer of the loop that is next
pub buffer_of-next : (inputs place : ℕ) (front rest : List PlannedLoop) → AreBefore place front → AreBehind place rest
    → buffer_of inputs (front ++ rest) (inputs + place) ≡ inputs + length front
buffer_of-next inputs place front rest before behind =
    buffer_of-definition inputs (front ++ rest) place
    ∙ omega (arith, loops_before-append front rest place, all_before place front before, none_before place rest behind)
