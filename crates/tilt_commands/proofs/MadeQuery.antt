-- The query of a made run is taken, whatever its count is.
use Rattle.std.proofs.Common.{◌≡◌, ◌≤◌, ◌<◌, ◌+◌, ◌*◌, ◌∙◌, ℕ, pos, negsuc, true, List, [], ◌∷◌, ◌++◌, length, codes, Some, None, Ok, refl, ap, subst, append_assoc, length-append, arith, rules}
use Rattle.std.proofs.lemmas.Int.{ints}
use Rattle.std.specs.Prelude.{⊤}
use Rattle.tilt_base.specs.Expression.{Leaf, Two}
use Rattle.tilt_base.specs.Reduce.{reducer_word}
use Rattle.tilt_base.specs.Grid.{GridPoints, is_point}
use Rattle.tilt_base.proofs.GridPoints.{is_point-Decides}
use Rattle.tilt_base.specs.declared.limits.TheConstants.{FILE}
use Rattle.tilt_base.specs.declared.operator.Op2.TheVariants as op2
use Rattle.tilt_base.specs.declared.reducer.Reducer.TheVariants as reducer
use Rattle.tilt_lexer.specs.Tokens.{AreTokens, IsSound}
use Rattle.tilt_lexer.specs.Word.{IsReserved, key_text}
use Rattle.tilt_lexer.specs.declared.token.Tok.TheVariants.{Number}
use Rattle.tilt_lexer.specs.declared.key.Key.{Key}
use Rattle.tilt_lexer.specs.declared.key.Key.TheVariants as key
use Rattle.tilt_load.specs.Load.{IsLoadFault}
use Rattle.tilt_load.specs.QueryFile.{RefusesQuery, TakesQuery}
use Rattle.tilt_load.proofs.OneQuery.{refused_or_taken, taken_once}
use Rattle.tilt_report.specs.Report.{Report, usage, refusal, read_fault, write_fault, save_fault, out_of_memory}
use Rattle.tilt_syntax.specs.Printing as printing
use Rattle.tilt_made.specs.TryQuery.{query_text}
use Rattle.tilt_syntax.specs.Query.{kinds, AreSound, statements, AreGood}
use Rattle.tilt_syntax.specs.Tree.{Num, Read, Reduce, StatementTree, Input, Let, Emit}
use Rattle.tilt_base.specs.declared.span.Span.{Span}
use Rattle.tilt_syntax.proofs.Cuts.{query_cut}
use Rattle.tilt_syntax.proofs.Spelling.{lexed}
use Rattle.tilt_syntax.proofs.Spelt.{query_spells}
use Rattle.tilt_syntax.proofs.Written.{statement_tokens, statement_is}
use Rattle.tilt_types.specs.Checked.{checked, core_of}
use Rattle.tilt_core.specs.Core.{CoreParts}
use Rattle.tilt_types.specs.WellFormed.{domain_fault, first_fault, grid_of, is_domain, is_stretch}
use Rattle.std.specs.Fmt.{decimal}
use Rattle.std.specs.List.{flat_map}
use Rattle.std.proofs.lemmas.Fmt.{decimal_digit, decimal_step, length-decimal-le}
use Rattle.std.proofs.lemmas.List.{append-nil}
use Rattle.std.specs.Option.{option_or}
use Rattle.std.specs.Prelude.{map}

-- the output domain
abbrev domain : ℕ → Span
domain end = record { start = pos 0; end = pos end }

-- the query, as a tree
abbrev pub tree : ℕ → List StatementTree
tree end =
    Input (codes "a")
    ∷ Input (codes "b")
    ∷ Let (codes "m") (Leaf (Reduce reducer.Avg (codes "a") (negsuc 9) (pos 0))) None (Some (record { period = pos 10; offset = pos 0 }))
    ∷ Let (codes "d") (Two op2.Sub (Leaf (Read (codes "a") (pos 0))) (Leaf (Read (codes "m") (pos 0)))) None None
    ∷ Emit (Two op2.Add (Two op2.IfNull (Leaf (Read (codes "d") (pos 0))) (Leaf (Num (pos 0)))) (Two op2.IfNull (Leaf (Read (codes "b") (pos 0))) (Leaf (Num (pos 0))))) (domain end) None
    ∷ []

-- no word of one letter is reserved but `t`
one_letter : (b : ℕ) → (b ≡ 116 → ⊥) → (k : Key) → key_text k ≡ b ∷ [] → ⊥
one_letter b other key.Input e = cc
one_letter b other key.Let e = cc
one_letter b other key.Emit e = cc
one_letter b other key.Over e = cc
one_letter b other key.Every e = cc
one_letter b other key.From e = cc
one_letter b other key.If e = cc
one_letter b other key.Then e = cc
one_letter b other key.Else e = cc
one_letter b other key.When e = cc
one_letter b other key.Or e = cc
one_letter b other key.And e = cc
one_letter b other key.Not e = cc
one_letter b other key.TrueWord e = cc
one_letter b other key.FalseWord e = cc
one_letter b other key.IsNull e = cc
one_letter b other key.IfNull e = cc
one_letter b other key.Time e = other cc
one_letter b other (key.Reducer r) e = elim r as (λ q. reducer_word q ≡ b ∷ [] → ⊥) [ reducer.Sum ↦ λ is. cc | _ ↦ λ is. cc ] e

-- a name of one letter may stand
name : (b : ℕ) → (b ≡ 116 → ⊥) → ¬ (IsReserved (b ∷ []))
name b other = λ reserved. one_letter b other reserved.0 reserved.1

-- its tokens are sound
sound : (end : ℕ) → end ≤ 10000010 → AreSound (flat_map statement_tokens (tree end))
sound end few =
    let a = name 97 (λ e. omega arith) in
    let b = name 98 (λ e. omega arith) in
    let d = name 100 (λ e. omega arith) in
    let m = name 109 (λ e. omega arith) in
    let zero : IsSound (Number (pos 0)) = (omega (arith, ints), omega (arith, ints)) in
    let ten : IsSound (Number (pos 10)) = (omega (arith, ints), omega (arith, ints)) in
    let last : IsSound (Number (pos end)) = (omega (arith, ints), omega (arith, ints)) in
    search (rules, a, b, d, m, zero, ten, last)

-- its statements are these
good : (end : ℕ) → AreGood (map statement_tokens (tree end)) (tree end)
good end = (
  record { short = omega arith; parsed = statement_is _; in_place = tt },
  (
    record { short = omega arith; parsed = statement_is _; in_place = tt },
    (
      record { short = omega arith; parsed = statement_is _; in_place = tt },
      (
        record { short = omega arith; parsed = statement_is _; in_place = tt },
        (record { short = omega arith; parsed = statement_is _; in_place = tt }, tt),
      ),
    ),
  ),
)

-- its domain is one
stretch : (end : ℕ) → 0 < end → end ≤ 10000010 → is_domain (Some (domain end)) None ≡ true
stretch end some few =
    let grid : GridPoints = grid_of None in
    let first : is_point grid (pos 0) ≡ true = (is_point-Decides grid (pos 0) (omega (arith, ints))).1 (pos 0, refl) in
    let last : is_point grid (pos end) ≡ true = (is_point-Decides grid (pos end) (omega (arith, ints))).1 (pos end, omega (arith, ints)) in
    let within : is_stretch (Some (domain end)) ≡ true = grind (arith, ints) in
    rw (within, first, last) refl

-- only its domain could be faulty
one_fault : (end : ℕ) → first_fault 1 [] (tree end) ≡ option_or (domain_fault 5 (Some (domain end)) None) None
one_fault end = refl

abbrev pub core : ℕ → CoreParts
core end = core_of (tree end)

accepted : (end : ℕ) → 0 < end → end ≤ 10000010 → checked (tree end) ≡ Ok (core end)
accepted end some few = rw (one_fault end, stretch end some few) refl

-- the end of its text
text_end : (digits : List ℕ) → (((digits ++ codes "]") ++ []) ++ codes ";\n") ++ [] ≡ digits ++ codes "];\n"
text_end digits =
    rw (append-nil (digits ++ codes "]"), append-nil ((digits ++ codes "]") ++ codes ";\n")) (append_assoc digits (codes "]") (codes ";\n"))

-- 0 and 10 in decimals
zero_text : decimal 0 ≡ codes "0"
zero_text = decimal_digit 0 (omega arith)

ten_text : decimal 10 ≡ codes "10"
ten_text = decimal_step 10 (omega arith) (omega arith) ∙ ap (λ (ds : List ℕ). ds ++ (48 ∷ [])) (decimal_digit 1 (omega arith))

-- its text is that of the tree
pub made_text : (count : ℕ) → printing.query_text (tree (10 * count + 10)) ≡ query_text count
made_text count =
    rw (ten_text, zero_text, text_end (decimal (10 * count + 10))) refl

-- and no file's text is longer
pub text_short : (count : ℕ) → count ≤ 1000000 → length (query_text count) ≤ FILE
text_short count few =
    let digits : length (decimal (10 * count + 10)) ≤ 8 = length-decimal-le 8 (10 * count + 10) (omega arith) (omega arith) (omega arith) in
    let more = length-append (codes "input a;\ninput b;\nlet m = avg(a[t-10:t]) every 10;\nlet d = a - m;\nemit ifnull(d, 0) + ifnull(b, 0) over (0, ") (decimal (10 * count + 10) ++ codes "];\n") in
    let end = length-append (decimal (10 * count + 10)) (codes "];\n") in
    omega arith

-- the query is taken
pub made_taken : (count : ℕ) → count ≤ 1000000 → TakesQuery (query_text count) (core (10 * count + 10))
made_taken count few =
    let end = 10 * count + 10 in
    let query = tree end in
    let read = lexed (query_spells query) (sound end (omega arith)) 0 in
    let same : statements (kinds read.tokens) ≡ map statement_tokens query = ap statements read.kinds_are ∙ query_cut query in
    record {
      has_core = record {
        short = text_short count few;
        tokens = read.tokens;
        lexed = subst (λ (text : List ℕ). AreTokens 0 text read.tokens) (made_text count) read.are;
        query = query;
        parsed = record { some = rw same (omega arith); few = rw same (omega arith); good = rw same (good end) };
        accepted = accepted end (omega arith) (omega arith);
      };
      margins = _;
      reach = refl;
    }

-- it has two inputs
pub two_inputs : (count : ℕ) → count ≤ 1000000 → (c : CoreParts) → TakesQuery (query_text count) c → length c.inputs ≡ 2
two_inputs count few c taken = rw (taken_once (query_text count) c (core (10 * count + 10)) taken (made_taken count few)) refl

-- it is read, unless there is no memory
pub only_memory_wanted : (count : ℕ) → count ≤ 1000000 → (report : Report) → IsLoadFault ⊤ (RefusesQuery [] (query_text count)) (λ _. ⊥) 0 0 report → report ≡ out_of_memory
only_memory_wanted count few usage fault = absurd fault
only_memory_wanted count few (refusal why) fault = absurd (refused_or_taken [] (query_text count) why (core (10 * count + 10)) (fault tt) (made_taken count few))
only_memory_wanted count few (read_fault name) fault = absurd fault.1
only_memory_wanted count few write_fault fault = absurd fault
only_memory_wanted count few (save_fault name) fault = absurd fault
only_memory_wanted count few out_of_memory fault = refl
