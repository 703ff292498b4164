-- A text that is read is one query in units, and over whole numbers it means that query.
use Rattle.std.proofs.Common.{◌≡◌, ℕ, zero, suc, ◌^◌, ℤ, pos, ◌≤ℤ◌, Bool, true, false, if◌then◌else◌, List, [], ◌∷◌, ◌++◌, map, Option, Some, None}
use Rattle.std.proofs.Common.{Result, Ok, Err, int_div, int_rem, refl, sym, ap, ◌∙◌, subst, arith}
use Rattle.std.specs.Option.{option_or}
use Rattle.std.specs.Ordering.{int_eq}
use Rattle.std.proofs.lemmas.Int.{ints}
use Rattle.tilt_base.specs.Expression.{Leaf, One, Two, If}
use Rattle.tilt_core.specs.Core.{CoreParts}
use Rattle.tilt_core.specs.CoreTree.{Definition}
use Rattle.tilt_core.specs.Meaning.{sources}
use Rattle.tilt_input_scales.specs.Scales.{ScalesValue}
use Rattle.tilt_lexer.proofs.Unique.{same_tokens}
use Rattle.tilt_lexer.specs.declared.token.Token.{Token}
use Rattle.tilt_stream.specs.Stream.{stream_of}
use Rattle.tilt_syntax.proofs.Unique.{one_query}
use Rattle.tilt_syntax.specs.Query.{IsQueryOf, kinds}
use Rattle.tilt_syntax.specs.Tree.{ExprTree, StatementTree, Num, Truth, Read, Reduce, Input, Let, Emit}
use Rattle.tilt_types.specs.Checked.{checked}
use Rattle.tilt_units.proofs.Queries.{query_quantities, query_stands}
use Rattle.tilt_units.specs.Exact.{ScaledRows, exact_sources, quantities_of, rows_of, scales_of}
use Rattle.tilt_units.specs.Law.{Chosen, DefinitionsHaveScales, InputsHaveScales, LiteralsHaveScales, QueryStaysWithin, SourcesStand}
use Rattle.tilt_units.specs.Translation.{ScaledQuery, translated}
use Rattle.tilt_units.specs.declared.decimal.Decimal.{Decimal}
use Rattle.tilt_unit_text.proofs.Answers.{one_reading}
use Rattle.tilt_unit_text.proofs.Chains.{faultless}
use Rattle.tilt_unit_text.proofs.Literals.{ten_some}
use Rattle.tilt_unit_text.specs.Named.{whole_statements}
use Rattle.tilt_unit_text.specs.Numbers.{and_then, noted, smallest, unless}
use Rattle.tilt_unit_text.specs.Places.{counted, decimals_of, digits_at, number_at, query_fault}
use Rattle.tilt_unit_text.specs.Points.{points_of}
use Rattle.tilt_unit_text.specs.Reading.{no_numbers, no_query, query, Reads, no_tokens, tokens}
use Rattle.tilt_unit_text.specs.Said.{IsInUnits, QueryInUnits}
use Rattle.tilt_unit_text.specs.Size.{long_fault}
use Rattle.tilt_unit_text.specs.Units.{UnitParts, checked_in_units, core_in_units, in_units, large_fault, of_check, of_scale, query_in_units, scales_for, unit_definitions}
use Rattle.tilt_unit_text.specs.Units.{whole_parts, whole_query, with_fault}
use Rattle.tilt_unit_text.specs.declared.fault.UnitFault.{UnitFault}
use Rattle.tilt_unit_text.specs.declared.written.Written.{Written}

-- the scales of literals are positive
positive_by : (is : Bool) (d e : Decimal) → pos 1 ≤ℤ pos d.scale → pos 1 ≤ℤ pos e.scale → (let f : Decimal = if is then d else e in pos 1 ≤ℤ pos f.scale)
positive_by true d e h k = h
positive_by false d e h k = k

smallest_positive : (digits : ℤ) (n : ℕ) → pos 1 ≤ℤ pos (smallest digits n).scale
smallest_positive digits zero = omega (arith, ints)
smallest_positive digits (suc n) =
    let some = ten_some (suc n) in
    let ten : pos 1 ≤ℤ pos (10 ^ suc n) = omega (arith, ints) in
    positive_by (int_eq (int_rem digits (pos 10)) (pos 0)) (smallest (int_div digits (pos 10)) n) (record { number = digits; scale = 10 ^ suc n })
    (smallest_positive (int_div digits (pos 10)) n) ten

module _ (names : List (List ℕ)) (numbers : List Written) where
  literals_positive : (e : ExprTree) → LiteralsHaveScales (in_units names numbers e)
  literals_positive (Leaf (Num place)) = smallest_positive (digits_at numbers place) (decimals_of (number_at numbers place))
  literals_positive (Leaf (Truth holds)) = tt
  literals_positive (Leaf (Read x d)) = tt
  literals_positive (Leaf (Reduce r x l k)) = tt
  literals_positive (One op a) = literals_positive a
  literals_positive (Two op a b) = (literals_positive a, literals_positive b)
  literals_positive (If c a b) = (literals_positive c, literals_positive a, literals_positive b)

  units_positive : (places : List StatementTree) (defs : List Definition) → DefinitionsHaveScales (unit_definitions names numbers places defs)
  units_positive [] defs = tt
  units_positive (Input x ∷ places) defs = units_positive places defs
  units_positive (Let x e o g ∷ places) [] = tt
  units_positive (Let x e o g ∷ places) (def ∷ defs) = (literals_positive e, units_positive places defs)
  units_positive (Emit e o g ∷ places) [] = tt
  units_positive (Emit e o g ∷ places) (def ∷ defs) = (literals_positive e, units_positive places defs)

-- what is known of the parts of a result
pub through : {A B P : Type 0} (r : Result A UnitFault) (next : A → Result B UnitFault) (b : B) → and_then r next ≡ Ok b
    → ((a : A) → r ≡ Ok a → next a ≡ Ok b → P) → P
through (Ok a) next b h go = go a refl h
through (Err f) next b h go = absurd (cc h)

passed : {A : Type 0} (o : Option UnitFault) (a b : A) → unless o a ≡ Ok b → (o ≡ None) × (a ≡ b)
passed None a b h = (refl, cc h)
passed (Some f) a b h = absurd (cc h)

-- how a query became one over whole numbers
pub record Made (scales : ScalesValue) (numbers : List Written) (q places : List StatementTree) (parts : UnitParts) : Type 0 where
  pub core : CoreParts
  pub made : ScaledQuery
  pub whole_ticks : query_fault numbers places ≡ None
  pub well_formed : checked q ≡ Ok core
  pub is : translated (scales_for scales core.inputs) (unit_definitions (core.inputs ++ core.names) numbers places core.defs) ≡ Ok made
  pub clear : option_or (large_fault q 0 made.defs) (long_fault 1 (whole_statements q made.defs)) ≡ None
  pub parts_are : whole_parts q core made ≡ parts

pub made_from : (scales : ScalesValue) (numbers : List Written) (q places : List StatementTree) (parts : UnitParts)
    → query_in_units scales numbers q places ≡ Ok parts → Made scales numbers q places parts
made_from scales numbers q places parts h =
    through (unless (query_fault numbers places) tt) (λ (whole : Unit {0}). checked_in_units scales numbers q places) parts h (λ whole none rest.
    through (with_fault of_check (checked q)) (λ core. core_in_units scales numbers q places core) parts rest (λ core good more.
    let units = unit_definitions (core.inputs ++ core.names) numbers places core.defs in
    let given = scales_for scales core.inputs in
    through (with_fault (of_scale places) (translated given units)) (λ made. whole_query q core made) parts more (λ made is done.
    let known = passed (option_or (large_fault q 0 made.defs) (long_fault 1 (whole_statements q made.defs))) (whole_parts q core made) parts done in
    record {
      core = core;
      made = made;
      whole_ticks = (passed (query_fault numbers places) tt whole none).0;
      well_formed = faultless of_check (checked q) core good;
      is = faultless (of_scale places) (translated given units) made is;
      clear = known.0;
      parts_are = known.1;
    })))

-- a text that is read is a query in units
said_from : {scales : ScalesValue} {text : List ℕ} {r : Result UnitParts UnitFault} → Reads scales text r → (parts : UnitParts) → r ≡ Ok parts
    → (said : QueryInUnits) × IsInUnits scales text said
said_from (no_tokens e) parts h = absurd (cc h)
said_from (tokens ts are (no_numbers e)) parts h = absurd (cc h)
said_from (tokens ts are (no_query numbers e r)) parts h = absurd (cc h)
said_from (tokens {scales = scales} {text = text} ts are (query numbers q places e is so)) parts h =
    let m = made_from scales numbers q places parts h in (
      record {
        inputs = m.core.inputs;
        scales = scales_for scales m.core.inputs;
        defs = unit_definitions (m.core.inputs ++ m.core.names) numbers places m.core.defs;
      },
      record {
        tokens = ts;
        are = are;
        numbers = numbers;
        written = e;
        query = q;
        parsed = is;
        core = m.core;
        well_formed = m.well_formed;
        places = places;
        placed = so;
        whole_ticks = m.whole_ticks;
        inputs = refl;
        scaled = refl;
        defs = refl;
      },
    )

pub is_said : (scales : ScalesValue) (text : List ℕ) (parts : UnitParts) → Reads scales text (Ok parts)
    → (said : QueryInUnits) × IsInUnits scales text said
is_said scales text parts r = said_from r parts refl

-- and no other
core_same : (p q : List StatementTree) (c d : CoreParts) → p ≡ q → checked p ≡ Ok c → checked q ≡ Ok d → c ≡ d
core_same p q c d e h k = cc

numbers_same : (points : List ℕ) (ts us : List Token) (m n : List Written) → ts ≡ us → noted points ts ≡ Ok m → noted points us ≡ Ok n → m ≡ n
numbers_same points ts us m n e h k = cc

units_same : (m n : List Written) (p q : List StatementTree) (c d : CoreParts) → m ≡ n → p ≡ q → c ≡ d
    → unit_definitions (c.inputs ++ c.names) m p c.defs ≡ unit_definitions (d.inputs ++ d.names) n q d.defs
units_same m n p q c d e f g = λ i. unit_definitions ((g i).inputs ++ (g i).names) (e i) (f i) (g i).defs

pub one_said : (scales : ScalesValue) (text : List ℕ) (a b : QueryInUnits) → IsInUnits scales text a → IsInUnits scales text b → a ≡ b
one_said scales text a b s t =
    let same = same_tokens s.are t.are refl refl in
    let numbers = numbers_same (points_of text) s.tokens t.tokens s.numbers t.numbers same s.written t.written in
    let back = sym same in
    let queries = one_query (kinds s.tokens) s.query t.query s.parsed (subst (λ (ts : List Token). IsQueryOf (kinds ts) t.query) back t.parsed) in
    let places = one_query (counted 0 (kinds s.tokens)) s.places t.places s.placed
    (subst (λ (ts : List Token). IsQueryOf (counted 0 (kinds ts)) t.places) back t.placed) in
    let cores = core_same s.query t.query s.core t.core queries s.well_formed t.well_formed in
    let inputs : a.inputs ≡ b.inputs = s.inputs ∙ ap (λ (c : CoreParts). c.inputs) cores ∙ sym t.inputs in
    let given : a.scales ≡ b.scales = s.scaled ∙ ap (λ (c : CoreParts). scales_for scales c.inputs) cores ∙ sym t.scaled in
    let defs : a.defs ≡ b.defs = s.defs ∙ units_same s.numbers t.numbers s.places t.places s.core t.core numbers places cores ∙ sym t.defs in
    λ i. record { inputs = inputs i; scales = given i; defs = defs i }

-- what a text that is read is over whole numbers is the translation of the query in units that it is
pub record Kept (said : QueryInUnits) (parts : UnitParts) : Type 0 where
  pub made : ScaledQuery
  pub is : translated said.scales said.defs ≡ Ok made
  pub positive : DefinitionsHaveScales said.defs
  pub inputs : parts.core.inputs ≡ said.inputs
  pub defs : parts.core.defs ≡ made.defs
  pub quantities : parts.quantities ≡ made.quantities

pub said_kept : (scales : ScalesValue) (text : List ℕ) (parts : UnitParts) (said : QueryInUnits) → Reads scales text (Ok parts)
    → IsInUnits scales text said → Kept said parts
said_kept scales text parts said r s =
    let answer : Reads scales text (query_in_units scales s.numbers s.query s.places) =
    tokens s.tokens s.are (query s.numbers s.query s.places s.written s.parsed s.placed) in
    let m = made_from scales s.numbers s.query s.places parts (one_reading answer r) in
    let cores = core_same s.query s.query m.core s.core refl m.well_formed s.well_formed in
    let given = ap (λ (c : CoreParts). scales_for scales c.inputs) cores ∙ sym s.scaled in
    let units = units_same s.numbers s.numbers s.places s.places m.core s.core refl refl cores ∙ sym s.defs in
    let names = s.core.inputs ++ s.core.names in
    record {
      made = m.made;
      is = (λ i. translated (sym given i) (sym units i)) ∙ m.is;
      positive = subst DefinitionsHaveScales (sym s.defs) (units_positive names s.numbers s.places s.core.defs);
      inputs = sym (ap (λ (p : UnitParts). p.core.inputs) m.parts_are) ∙ ap (λ (c : CoreParts). c.inputs) cores ∙ sym s.inputs;
      defs = sym (ap (λ (p : UnitParts). p.core.defs) m.parts_are);
      quantities = sym (ap (λ (p : UnitParts). p.quantities) m.parts_are);
    }

pub said_stands : (chosen : Chosen) (scales : ScalesValue) (text : List ℕ) (parts : UnitParts) (said : QueryInUnits) (inputs : List ScaledRows)
    → Reads scales text (Ok parts) → IsInUnits scales text said → scales_of inputs ≡ said.scales → InputsHaveScales inputs
    → QueryStaysWithin chosen (map stream_of (rows_of inputs)) parts.core.defs
    → SourcesStand chosen (sources (rows_of inputs) parts.core.defs) (exact_sources inputs said.defs)
said_stands chosen scales text parts said inputs r s e positive stays =
    let k = said_kept scales text parts said r s in
    let is = ap (λ (xs : List ℕ). translated xs said.defs) e ∙ k.is in
    let within = subst (λ (ds : List Definition). QueryStaysWithin chosen (map stream_of (rows_of inputs)) ds) k.defs stays in
    subst (λ (ds : List Definition). SourcesStand chosen (sources (rows_of inputs) ds) (exact_sources inputs said.defs)) (sym k.defs)
    (query_stands chosen inputs said.defs k.made positive k.positive is within)

pub said_quantities : (scales : ScalesValue) (text : List ℕ) (parts : UnitParts) (said : QueryInUnits) (inputs : List ScaledRows)
    → Reads scales text (Ok parts) → IsInUnits scales text said → scales_of inputs ≡ said.scales
    → parts.quantities ≡ quantities_of (exact_sources inputs said.defs)
said_quantities scales text parts said inputs r s e =
    let k = said_kept scales text parts said r s in
    k.quantities ∙ query_quantities inputs said.defs k.made k.positive (ap (λ (xs : List ℕ). translated xs said.defs) e ∙ k.is)
