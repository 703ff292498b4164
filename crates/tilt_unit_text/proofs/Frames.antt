-- The definitions over whole numbers may take the place of those of the core.
use Rattle.std.proofs.Common.{◌≡◌, ℕ, suc, ◌+◌, ◌≤◌, nat_lt, Bool, true, false, if◌then◌else◌, List, [], ◌∷◌, ◌++◌, length, Option, Some, None, Ok}
use Rattle.std.proofs.Common.{Err, refl, sym, ap, ◌∙◌, subst, arith, IsSome}
use Rattle.std.specs.Bool.{⊤}
use Rattle.std.proofs.lemmas.Bool.Decides.{nat_tests}
use Rattle.std.proofs.lemmas.List.{append_assoc, append-nil}
use Rattle.tilt_base.specs.Expression.{Leaf, One, Two, If}
use Rattle.tilt_base.specs.Grid.{IsGrid}
use Rattle.tilt_core.specs.Core.{AreDefinitions, CoreParts, IsCore, IsDefinition, IsStretch, ReadsBelow, domain_of}
use Rattle.tilt_core.specs.CoreTree.{Definition, nodes}
use Rattle.tilt_syntax.specs.Tree.{ExprTree, StatementTree, Num, Truth, Read, Reduce, Input, Let, Emit}
use Rattle.tilt_types.specs.Checked.{core_of, definitions, input_names, numbered, source_names}
use Rattle.tilt_units.proofs.Kept.{after}
use Rattle.tilt_units.specs.Scaling.{and_then as scaled_then, scaled}
use Rattle.tilt_units.specs.Translation.{ScaledQuery, UnitDefinition, input_quantities, more_definitions, scaled_definition, start_of, translated}
use Rattle.tilt_units.specs.declared.fault.ScaleFault.TheVariants as fault
use Rattle.tilt_unit_text.proofs.ReadsKept.{UnitReadsBelow, scaled_below}
use Rattle.tilt_unit_text.specs.Places.{query_with, with_numbers}
use Rattle.tilt_unit_text.specs.Units.{HaveFrames, IsTranslation, in_units, large_fault, one_definition, unit_definitions}
use Rattle.tilt_unit_text.specs.declared.fault.UnitFault.{UnitFault}
use Rattle.tilt_unit_text.specs.declared.written.Written.{Written}

-- an expression in units reads what the expression over the core's sources reads
pub reads_units : (bound : ℕ) (names : List (List ℕ)) (numbers : List Written) (e : ExprTree)
    → ReadsBelow bound (numbered names (with_numbers numbers e)) → UnitReadsBelow bound (in_units names numbers e)
reads_units bound names numbers (Leaf (Num n)) h = tt
reads_units bound names numbers (Leaf (Truth holds)) h = tt
reads_units bound names numbers (Leaf (Read x d)) h = h
reads_units bound names numbers (Leaf (Reduce r x l k)) h = h
reads_units bound names numbers (One op a) h = reads_units bound names numbers a h
reads_units bound names numbers (Two op a b) h = (reads_units bound names numbers a h.0, reads_units bound names numbers b h.1)
reads_units bound names numbers (If c a b) h =
    (reads_units bound names numbers c h.0, reads_units bound names numbers a h.1, reads_units bound names numbers b h.2)

-- definitions in units, each of which reads only sources before it
abbrev pub UnitsRead : ℕ → List UnitDefinition → Type 0
UnitsRead before [] = ⊤
UnitsRead before (def ∷ defs) = UnitReadsBelow before def.body × UnitsRead (suc before) defs

-- definitions over whole numbers with the frames of definitions in units
abbrev pub AreFramed : ℕ → List UnitDefinition → List Definition → Type 0
AreFramed before [] [] = ⊤
AreFramed before [] (d ∷ ds) = ⊥
AreFramed before (def ∷ defs) [] = ⊥
AreFramed before (def ∷ defs) (d ∷ ds) =
    (d.over ≡ def.over) × (d.grid ≡ def.grid) × ReadsBelow before d.body × AreFramed (suc before) defs ds

-- one definition
record Framed (before : ℕ) (query : ScaledQuery) (def : UnitDefinition) (next : ScaledQuery) : Type 0 where
  made : Definition
  is : next.defs ≡ query.defs ++ made ∷ []
  over : made.over ≡ def.over
  grid : made.grid ≡ def.grid
  reads : ReadsBelow before made.body

scaled_framed : (before : ℕ) (query : ScaledQuery) (def : UnitDefinition) (next : ScaledQuery) → UnitReadsBelow before def.body
    → scaled_then (scaled query.quantities (start_of (length query.defs)) def.body) (λ x. Ok (record {
      defs = query.defs ++ record { body = x.tree; over = def.over; grid = def.grid } ∷ [];
      quantities = query.quantities ++ x.quantity ∷ [];
    })) ≡ Ok next → Framed before query def next
scaled_framed before query def next r h =
    after (scaled query.quantities (start_of (length query.defs)) def.body) (λ x. Ok (record {
      defs = query.defs ++ record { body = x.tree; over = def.over; grid = def.grid } ∷ [];
      quantities = query.quantities ++ x.quantity ∷ [];
    })) next h (λ x is done.
    let made : Definition = record { body = x.tree; over = def.over; grid = def.grid } in
    let w : ScaledQuery = record { defs = query.defs ++ made ∷ []; quantities = query.quantities ++ x.quantity ∷ [] } in
    let e : w ≡ next = cc done in
    record {
      made = made;
      is = sym (ap (λ (q : ScaledQuery). q.defs) e);
      over = refl;
      grid = refl;
      reads = scaled_below before query.quantities (start_of (length query.defs)) def.body x r is;
    })

one_by : (large : Bool) (before : ℕ) (query : ScaledQuery) (def : UnitDefinition) (next : ScaledQuery) → UnitReadsBelow before def.body
    → (if large then Err (fault.BodyTooLarge (start_of (length query.defs)))
    else scaled_then (scaled query.quantities (start_of (length query.defs)) def.body) (λ x. Ok (record {
      defs = query.defs ++ record { body = x.tree; over = def.over; grid = def.grid } ∷ [];
      quantities = query.quantities ++ x.quantity ∷ [];
    }))) ≡ Ok next → Framed before query def next
one_by true before query def next r h = absurd (cc h)
one_by false before query def next r h = scaled_framed before query def next r h

pub record More (before : ℕ) (query : ScaledQuery) (defs : List UnitDefinition) (all : ScaledQuery) : Type 0 where
  pub made : List Definition
  pub is : all.defs ≡ query.defs ++ made
  pub framed : AreFramed before defs made

more_framed : (before : ℕ) (query : ScaledQuery) (defs : List UnitDefinition) (all : ScaledQuery) → UnitsRead before defs
    → more_definitions query defs ≡ Ok all → More before query defs all
more_framed before query [] all r h =
    let e : query ≡ all = cc h in
    record { made = []; is = sym (ap (λ (q : ScaledQuery). q.defs) e) ∙ sym (append-nil query.defs); framed = tt }
more_framed before query (def ∷ defs) all r h =
    after (scaled_definition query def) (λ next. more_definitions next defs) all h (λ next is rest.
    let one = one_by (nat_lt 256 (nodes def.body)) before query def next r.0 is in
    let more = more_framed (suc before) next defs all r.1 rest in
    record {
      made = one.made ∷ more.made;
      is = more.is ∙ ap (λ ds. ds ++ more.made) one.is ∙ append_assoc query.defs (one.made ∷ []) more.made;
      framed = (one.over, one.grid, one.reads, more.framed);
    })

all_by : (many : Bool) (before : ℕ) (scales : List ℕ) (defs : List UnitDefinition) (all : ScaledQuery) → UnitsRead before defs
    → (if many then Err fault.TooManySources else more_definitions (record { defs = []; quantities = input_quantities scales }) defs) ≡ Ok all
    → AreFramed before defs all.defs
all_by true before scales defs all r h = absurd (cc h)
all_by false before scales defs all r h =
    let m = more_framed before (record { defs = []; quantities = input_quantities scales }) defs all r h in
    subst (λ ds. AreFramed before defs ds) (sym m.is) m.framed

pub translated_framed : (before : ℕ) (scales : List ℕ) (defs : List UnitDefinition) (all : ScaledQuery) → UnitsRead before defs
    → translated scales defs ≡ Ok all → AreFramed before defs all.defs
translated_framed before scales defs all r h = all_by (nat_lt 256 (length scales + length defs)) before scales defs all r h

-- definitions in units, by those of the core
module _ (names : List (List ℕ)) (numbers : List Written) where
  pub units_read : (before : ℕ) (places : List StatementTree) → AreDefinitions before (definitions names (query_with numbers places))
      → UnitsRead before (unit_definitions names numbers places (definitions names (query_with numbers places)))
  units_read before [] h = tt
  units_read before (Input x ∷ places) h = units_read before places h
  units_read before (Let x e o g ∷ places) h = (reads_units before names numbers e h.0.reads, units_read (suc before) places h.1)
  units_read before (Emit e o g ∷ places) h = (reads_units before names numbers e h.0.reads, units_read (suc before) places h.1)

  pub have_frames : (before : ℕ) (places : List StatementTree) (ds : List Definition)
      → AreFramed before (unit_definitions names numbers places (definitions names (query_with numbers places))) ds
      → HaveFrames before (definitions names (query_with numbers places)) ds
  have_frames before [] [] h = tt
  have_frames before [] (d ∷ ds) h = absurd h
  have_frames before (Input x ∷ places) ds h = have_frames before places ds h
  have_frames before (Let x e o g ∷ places) [] h = absurd h
  have_frames before (Let x e o g ∷ places) (d ∷ ds) h = (h.0, h.1, h.2, have_frames (suc before) places ds h.3)
  have_frames before (Emit e o g ∷ places) [] h = absurd h
  have_frames before (Emit e o g ∷ places) (d ∷ ds) h = (h.0, h.1, h.2, have_frames (suc before) places ds h.3)

-- definitions with these frames are those of a core
pub frames_length : (before : ℕ) (defs ds : List Definition) → HaveFrames before defs ds → length ds ≡ length defs
frames_length before [] [] h = refl
frames_length before [] (d ∷ ds) h = absurd h
frames_length before (def ∷ defs) [] h = absurd h
frames_length before (def ∷ defs) (d ∷ ds) h = ap suc (frames_length (suc before) defs ds h.3)

frames_domain : (before : ℕ) (defs ds : List Definition) → HaveFrames before defs ds → domain_of ds ≡ domain_of defs
frames_domain before [] [] h = refl
frames_domain before [] (d ∷ ds) h = absurd h
frames_domain before (def ∷ defs) [] h = absurd h
frames_domain before (def ∷ []) (d ∷ []) h = h.0
frames_domain before (def ∷ []) (d ∷ c ∷ ds) h = absurd h.3
frames_domain before (def ∷ next ∷ defs) (d ∷ []) h = absurd h.3
frames_domain before (def ∷ next ∷ defs) (d ∷ c ∷ ds) h = frames_domain (suc before) (next ∷ defs) (c ∷ ds) h.3

large_by : (large : Bool) (f : UnitFault) (rest : Option UnitFault) → (if large then Some f else rest) ≡ None → (large ≡ false) × (rest ≡ None)
large_by true f rest h = absurd (cc h)
large_by false f rest h = (refl, h)

frames_definitions : (places : List StatementTree) (before number : ℕ) (defs ds : List Definition) → HaveFrames before defs ds
    → AreDefinitions before defs → large_fault places number ds ≡ None → AreDefinitions before ds
frames_definitions places before number [] [] h a l = tt
frames_definitions places before number [] (d ∷ ds) h a l = absurd h
frames_definitions places before number (def ∷ defs) [] h a l = absurd h
frames_definitions places before number (def ∷ defs) (d ∷ ds) h a l =
    let p = large_by (nat_lt 256 (nodes d.body)) _ (large_fault places (number + 1) ds) l in
    let few : nodes d.body ≤ 256 = small (nodes d.body) p.0 in
    let one : IsDefinition before d = record {
      reads = h.2;
      small = few;
      stretch = subst (λ o. IsStretch o) (sym h.0) a.0.stretch;
      grid = subst (λ g. IsGrid g) (sym h.1) a.0.grid;
    } in
    (one, frames_definitions places (suc before) (number + 1) defs ds h.3 a.1 p.1) where
      small : (n : ℕ) → nat_lt 256 n ≡ false → n ≤ 256
      small n e = grind (arith, nat_tests)

pub whole_core : (places : List StatementTree) (core : CoreParts) (ds : List Definition) → IsCore core → HaveFrames (length core.inputs) core.defs ds
    → large_fault places 0 ds ≡ None → IsCore (record { inputs = core.inputs; names = core.names; defs = ds })
whole_core places core ds is h l =
    let n = frames_length (length core.inputs) core.defs ds h in
    let one = is.one_emitted in
    let few = is.few in
    record {
      one_emitted = n ∙ one;
      few = omega arith;
      distinct = is.distinct;
      named = is.named;
      definitions = frames_definitions places (length core.inputs) 0 core.defs ds h is.definitions l;
      domain = subst IsSome (sym (frames_domain (length core.inputs) core.defs ds h)) is.domain;
    }

-- what is translated of a core may take the place of its definitions
abbrev MayTake : List Written → List StatementTree → List ℕ → ScaledQuery → CoreParts → Type 0
MayTake numbers places parts query c =
    IsCore c → translated parts (unit_definitions (c.inputs ++ c.names) numbers places c.defs) ≡ Ok query → IsTranslation c query

pub translation_is : (numbers : List Written) (places : List StatementTree) (core : CoreParts) (parts : List ℕ) (query : ScaledQuery) → IsCore core
    → core ≡ core_of (query_with numbers places) → translated parts (unit_definitions (core.inputs ++ core.names) numbers places core.defs) ≡ Ok query
    → IsTranslation core query
translation_is numbers places core parts query is e t = subst (MayTake numbers places parts query) (sym e) base is t
  where
    base : MayTake numbers places parts query (core_of (query_with numbers places))
    base is t =
        let q = query_with numbers places in
        let names = source_names q in
        let inputs = length (input_names q) in
        have_frames names numbers inputs places query.defs
        (translated_framed inputs parts (unit_definitions names numbers places (definitions names q)) query (units_read names numbers inputs places is.definitions) t)

-- without definitions of the core there are none in units
pub no_definitions : (names : List (List ℕ)) (numbers : List Written) (query : List StatementTree) (defs : List Definition) → length defs ≡ 0
    → unit_definitions names numbers query defs ≡ []
no_definitions names numbers [] defs h = refl
no_definitions names numbers (Input x ∷ query) defs h = no_definitions names numbers query defs h
no_definitions names numbers (Let x e o g ∷ query) [] h = refl
no_definitions names numbers (Let x e o g ∷ query) (def ∷ defs) h = absurd (omega arith)
no_definitions names numbers (Emit e o g ∷ query) [] h = refl
no_definitions names numbers (Emit e o g ∷ query) (def ∷ defs) h = absurd (omega arith)

pub no_definition : (names : List (List ℕ)) (numbers : List Written) (e : ExprTree) (query : List StatementTree) (defs : List Definition) → length defs ≡ 0
    → unit_definitions names numbers query defs ≡ one_definition names numbers e query defs
no_definition names numbers e query [] h = no_definitions names numbers query [] h
no_definition names numbers e query (def ∷ defs) h = absurd (omega arith)
