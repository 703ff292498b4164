-- The statements of a query over whole numbers: they are well formed, some text reads as them, and their core is the one that is given.
use Rattle.std.proofs.Common.{◌≡◌, ℕ, suc, ◌+◌, ◌≤◌, Bool, true, false, List, [], ◌∷◌, ◌++◌, length, map, Option, Some, None}
use Rattle.std.proofs.Common.{Ok, refl, sym, ap, ◌∙◌, arith}
use Rattle.std.specs.Bool.{⊤}
use Rattle.std.specs.List.{flat_map}
use Rattle.std.specs.Option.{option_or}
use Rattle.std.proofs.lemmas.List.{length-map}
use Rattle.tilt_base.specs.declared.span.Span.{Span}
use Rattle.tilt_core.specs.Core.{CoreParts}
use Rattle.tilt_core.specs.CoreTree.{CoreTree, Definition}
use Rattle.tilt_lexer.specs.declared.mark.Mark.TheVariants as mark
use Rattle.tilt_lexer.specs.declared.token.Tok.{Tok}
use Rattle.tilt_lexer.specs.declared.token.Tok.TheVariants.{Mark as Sign}
use Rattle.tilt_syntax.proofs.Cuts.{query_cut}
use Rattle.tilt_syntax.proofs.Sounds.{EachSound, both, sound_parts, statement_sound, statements_sound}
use Rattle.tilt_syntax.proofs.Written.{domain_tokens, expr_tokens, grid_tokens, span_tokens, statement_is, statement_tokens}
use Rattle.tilt_syntax.specs.Query.{AreGood, AreSound, IsInPlace, IsQuery, statements}
use Rattle.tilt_syntax.specs.Tree.{ExprTree, StatementTree, Input, Let, Emit}
use Rattle.tilt_syntax.specs.declared.every.Every.{Every}
use Rattle.tilt_types.specs.Checked.{checked, core_of, core_unless, definition, definitions, input_names, let_names, source_names}
use Rattle.tilt_types.specs.WellFormed.{declared_as, declared_by, domain_fault, expr_fault, fault_of, first_fault, grid_of, name_fault}
use Rattle.tilt_types.specs.declared.declared.Declared.{Declared}
use Rattle.tilt_types.specs.declared.fault.CheckFault.{CheckFault}
use Rattle.tilt_unit_text.proofs.Beside.{Beside, names_same, numbered_same, type_same, windows_same}
use Rattle.tilt_unit_text.proofs.TokensKept.{sound_kept, statement_length}
use Rattle.tilt_unit_text.specs.Named.{named, whole_statements}
use Rattle.tilt_unit_text.specs.Size.{AreShort, IsShort}

-- a definition of a core that a query's definition is over whole numbers
pub record IsBeside (names : List (List ℕ)) (declared : List Declared) (e : ExprTree) (over : Option Span) (every : Option Every) (def : Definition) : Type 0 where
  pub body : Beside names declared false e def.body
  pub span : def.over ≡ over
  pub grid : def.grid ≡ grid_of every

module _ (names : List (List ℕ)) where
  -- the definitions of a core that those of a query are, after these declarations
  abbrev pub AreBeside : List Declared → List StatementTree → List Definition → Type 0
  AreBeside declared [] [] = ⊤
  AreBeside declared [] (d ∷ ds) = ⊥
  AreBeside declared (Input x ∷ q) ds = AreBeside (declared ++ declared_by declared (Input x)) q ds
  AreBeside declared (Let x e o g ∷ q) [] = ⊥
  AreBeside declared (Let x e o g ∷ q) (d ∷ ds) =
      IsBeside names declared e o g d × AreBeside (declared ++ declared_by declared (Let x e o g)) q ds
  AreBeside declared (Emit e o g ∷ q) [] = ⊥
  AreBeside declared (Emit e o g ∷ q) (d ∷ ds) = IsBeside names declared e (Some o) g d × AreBeside (declared ++ declared_by declared (Emit e o g)) q ds

  -- well formed
  expr_same : (n : ℕ) (declared : List Declared) (emitted : Bool) (e : ExprTree) (t : CoreTree) → Beside names declared false e t
      → expr_fault n declared emitted (named e t) ≡ expr_fault n declared emitted e
  expr_same n declared emitted e t h = rw (names_same names declared h, type_same names declared h, windows_same names declared h) refl

  pub faults_same : (n : ℕ) (declared : List Declared) (q : List StatementTree) (ds : List Definition) → AreBeside declared q ds
      → first_fault n declared (whole_statements q ds) ≡ first_fault n declared q
  faults_same n declared [] [] h = refl
  faults_same n declared [] (d ∷ ds) h = absurd h
  faults_same n declared (Input x ∷ q) ds h =
      ap (option_or (fault_of n declared (Input x))) (faults_same (n + 1) (declared ++ declared_by declared (Input x)) q ds h)
  faults_same n declared (Let x e o g ∷ q) [] h = absurd h
  faults_same n declared (Let x e o g ∷ q) (d ∷ ds) h =
      let fault = expr_same n declared false e d.body h.0.body in
      let type = type_same names declared h.0.body in
      (λ i. option_or (option_or (option_or (name_fault n declared x) (fault i)) (domain_fault n o g))
      (first_fault (n + 1) (declared ++ declared_as x (type i)) (whole_statements q ds)))
      ∙ ap (option_or (fault_of n declared (Let x e o g))) (faults_same (n + 1) (declared ++ declared_by declared (Let x e o g)) q ds h.1)
  faults_same n declared (Emit e o g ∷ q) [] h = absurd h
  faults_same n declared (Emit e o g ∷ q) (d ∷ ds) h =
      let fault = expr_same n declared true e d.body h.0.body in
      (λ i. option_or (option_or (fault i) (domain_fault n (Some o) g)) (first_fault (n + 1) (declared ++ []) (whole_statements q ds)))
      ∙ ap (option_or (fault_of n declared (Emit e o g))) (faults_same (n + 1) (declared ++ declared_by declared (Emit e o g)) q ds h.1)

  -- the core
  definition_same : (declared : List Declared) (e : ExprTree) (o : Option Span) (g : Option Every) (d : Definition) → IsBeside names declared e o g d
      → definition names (named e d.body) o g ≡ d
  definition_same declared e o g d h =
      let body = numbered_same names declared h.body in
      let span = sym h.span in
      let grid = sym h.grid in
      λ i. record { body = body i; over = span i; grid = grid i }

  definitions_same : (declared : List Declared) (q : List StatementTree) (ds : List Definition) → AreBeside declared q ds
      → definitions names (whole_statements q ds) ≡ ds
  definitions_same declared [] [] h = refl
  definitions_same declared [] (d ∷ ds) h = absurd h
  definitions_same declared (Input x ∷ q) ds h = definitions_same (declared ++ declared_by declared (Input x)) q ds h
  definitions_same declared (Let x e o g ∷ q) [] h = absurd h
  definitions_same declared (Let x e o g ∷ q) (d ∷ ds) h =
      let one = definition_same declared e o g d h.0 in
      let rest = definitions_same (declared ++ declared_by declared (Let x e o g)) q ds h.1 in
      λ i. one i ∷ rest i
  definitions_same declared (Emit e o g ∷ q) [] h = absurd h
  definitions_same declared (Emit e o g ∷ q) (d ∷ ds) h =
      let one = definition_same declared e (Some o) g d h.0 in
      let rest = definitions_same (declared ++ declared_by declared (Emit e o g)) q ds h.1 in
      λ i. one i ∷ rest i

  inputs_same : (declared : List Declared) (q : List StatementTree) (ds : List Definition) → AreBeside declared q ds
      → input_names (whole_statements q ds) ≡ input_names q
  inputs_same declared [] [] h = refl
  inputs_same declared [] (d ∷ ds) h = absurd h
  inputs_same declared (Input x ∷ q) ds h = ap (λ (xs : List (List ℕ)). x ∷ xs) (inputs_same (declared ++ declared_by declared (Input x)) q ds h)
  inputs_same declared (Let x e o g ∷ q) [] h = absurd h
  inputs_same declared (Let x e o g ∷ q) (d ∷ ds) h = inputs_same (declared ++ declared_by declared (Let x e o g)) q ds h.1
  inputs_same declared (Emit e o g ∷ q) [] h = absurd h
  inputs_same declared (Emit e o g ∷ q) (d ∷ ds) h = inputs_same (declared ++ declared_by declared (Emit e o g)) q ds h.1

  lets_same : (declared : List Declared) (q : List StatementTree) (ds : List Definition) → AreBeside declared q ds
      → let_names (whole_statements q ds) ≡ let_names q
  lets_same declared [] [] h = refl
  lets_same declared [] (d ∷ ds) h = absurd h
  lets_same declared (Input x ∷ q) ds h = lets_same (declared ++ declared_by declared (Input x)) q ds h
  lets_same declared (Let x e o g ∷ q) [] h = absurd h
  lets_same declared (Let x e o g ∷ q) (d ∷ ds) h =
      ap (λ (xs : List (List ℕ)). x ∷ xs) (lets_same (declared ++ declared_by declared (Let x e o g)) q ds h.1)
  lets_same declared (Emit e o g ∷ q) [] h = absurd h
  lets_same declared (Emit e o g ∷ q) (d ∷ ds) h = lets_same (declared ++ declared_by declared (Emit e o g)) q ds h.1

  place_kept : (declared : List Declared) (rest : List (List Tok)) (q : List StatementTree) (ds : List Definition) (s : StatementTree) → AreGood rest q
      → AreBeside declared q ds → IsInPlace rest s → IsInPlace (map statement_tokens (whole_statements q ds)) s
  place_kept declared [] [] [] s g h p = p
  place_kept declared [] [] (d ∷ ds) s g h p = absurd h
  place_kept declared [] (u ∷ q) ds s g h p = absurd g
  place_kept declared (ts ∷ rest) [] ds s g h p = absurd g
  place_kept declared (ts ∷ rest) (Input x ∷ q) ds (Input y) g h p = p
  place_kept declared (ts ∷ rest) (Input x ∷ q) ds (Let y e o c) g h p = p
  place_kept declared (ts ∷ rest) (Input x ∷ q) ds (Emit e o c) g h p = p
  place_kept declared (ts ∷ rest) (Let x a b i ∷ q) [] s g h p = absurd h
  place_kept declared (ts ∷ rest) (Let x a b i ∷ q) (d ∷ ds) (Input y) g h p = p
  place_kept declared (ts ∷ rest) (Let x a b i ∷ q) (d ∷ ds) (Let y e o c) g h p = p
  place_kept declared (ts ∷ rest) (Let x a b i ∷ q) (d ∷ ds) (Emit e o c) g h p = p
  place_kept declared (ts ∷ rest) (Emit a b i ∷ q) [] s g h p = absurd h
  place_kept declared (ts ∷ rest) (Emit a b i ∷ q) (d ∷ ds) (Input y) g h p = p
  place_kept declared (ts ∷ rest) (Emit a b i ∷ q) (d ∷ ds) (Let y e o c) g h p = p
  place_kept declared (ts ∷ rest) (Emit a b i ∷ q) (d ∷ ds) (Emit e o c) g h p = p

  short_tokens : (s : StatementTree) → IsShort s → length (statement_tokens s) ≤ 256
  short_tokens s h = omega (arith, statement_length s, h)

  good_kept : (declared : List Declared) (ss : List (List Tok)) (q : List StatementTree) (ds : List Definition) → AreGood ss q → AreBeside declared q ds
      → AreShort (whole_statements q ds) → AreGood (map statement_tokens (whole_statements q ds)) (whole_statements q ds)
  good_kept declared [] [] [] g h s = tt
  good_kept declared [] [] (d ∷ ds) g h s = absurd h
  good_kept declared [] (u ∷ q) ds g h s = absurd g
  good_kept declared (ts ∷ ss) [] ds g h s = absurd g
  good_kept declared (ts ∷ ss) (Input x ∷ q) ds g h s =
      let more = declared ++ declared_by declared (Input x) in
      let u = Input x in
      (record { short = short_tokens u s.0; parsed = statement_is u; in_place = place_kept more ss q ds u g.1 h g.0.in_place }, good_kept more ss q ds g.1 h s.1)
  good_kept declared (ts ∷ ss) (Let x e o c ∷ q) [] g h s = absurd h
  good_kept declared (ts ∷ ss) (Let x e o c ∷ q) (d ∷ ds) g h s =
      let more = declared ++ declared_by declared (Let x e o c) in
      let u = Let x (named e d.body) o c in
      let place = place_kept more ss q ds (Let x e o c) g.1 h.1 g.0.in_place in
      let there = let_place (map statement_tokens (whole_statements q ds)) x e (named e d.body) o c place in
      (record { short = short_tokens u s.0; parsed = statement_is u; in_place = there }, good_kept more ss q ds g.1 h.1 s.1)
    where
      let_place : (rest : List (List Tok)) (x : List ℕ) (e f : ExprTree) (o : Option Span) (c : Option Every) → IsInPlace rest (Let x e o c)
          → IsInPlace rest (Let x f o c)
      let_place [] x e f o c p = p
      let_place (ts ∷ rest) x e f o c p = p
  good_kept declared (ts ∷ ss) (Emit e o c ∷ q) [] g h s = absurd h
  good_kept declared (ts ∷ ss) (Emit e o c ∷ q) (d ∷ ds) g h s =
      let more = declared ++ declared_by declared (Emit e o c) in
      let u = Emit (named e d.body) o c in
      let place = place_kept more ss q ds (Emit e o c) g.1 h.1 g.0.in_place in
      let there = emit_place (map statement_tokens (whole_statements q ds)) e (named e d.body) o c place in
      (record { short = short_tokens u s.0; parsed = statement_is u; in_place = there }, good_kept more ss q ds g.1 h.1 s.1)
    where
      emit_place : (rest : List (List Tok)) (e f : ExprTree) (o : Span) (c : Option Every) → IsInPlace rest (Emit e o c) → IsInPlace rest (Emit f o c)
      emit_place [] e f o c p = p
      emit_place (ts ∷ rest) e f o c p = p

  expr_sound : (declared : List Declared) (e : ExprTree) (t : CoreTree) (rest : List Tok) → Beside names declared false e t → AreSound (expr_tokens e ++ rest)
      → AreSound (expr_tokens (named e t) ++ rest)
  expr_sound declared e t rest h s =
      let parts = sound_parts (expr_tokens e) rest s in
      both (expr_tokens (named e t)) rest (sound_kept names declared h parts.0) parts.1

  all_sound : (declared : List Declared) (ss : List (List Tok)) (q : List StatementTree) (ds : List Definition) → AreGood ss q → EachSound ss
      → AreBeside declared q ds → AreSound (flat_map statement_tokens (whole_statements q ds))
  all_sound declared [] [] [] g s h = tt
  all_sound declared [] [] (d ∷ ds) g s h = absurd h
  all_sound declared [] (u ∷ q) ds g s h = absurd g
  all_sound declared (ts ∷ ss) [] ds g s h = absurd g
  all_sound declared (ts ∷ ss) (Input x ∷ q) ds g s h =
      both (statement_tokens (Input x)) (flat_map statement_tokens (whole_statements q ds)) (statement_sound g.0.parsed s.0)
      (all_sound (declared ++ declared_by declared (Input x)) ss q ds g.1 s.1 h)
  all_sound declared (ts ∷ ss) (Let x e o c ∷ q) [] g s h = absurd h
  all_sound declared (ts ∷ ss) (Let x e o c ∷ q) (d ∷ ds) g s h =
      let here = statement_sound g.0.parsed s.0 in
      let rest = domain_tokens o ++ (grid_tokens c ++ (Sign mark.Semicolon ∷ [])) in
      both (statement_tokens (Let x (named e d.body) o c)) (flat_map statement_tokens (whole_statements q ds))
      (here.0, (here.1.0, (here.1.1.0, expr_sound declared e d.body rest h.0.body here.1.1.1)))
      (all_sound (declared ++ declared_by declared (Let x e o c)) ss q ds g.1 s.1 h.1)
  all_sound declared (ts ∷ ss) (Emit e o c ∷ q) [] g s h = absurd h
  all_sound declared (ts ∷ ss) (Emit e o c ∷ q) (d ∷ ds) g s h =
      let here = statement_sound g.0.parsed s.0 in
      let rest = span_tokens o ++ (grid_tokens c ++ (Sign mark.Semicolon ∷ [])) in
      both (statement_tokens (Emit (named e d.body) o c)) (flat_map statement_tokens (whole_statements q ds))
      (here.0, expr_sound declared e d.body rest h.0.body here.1)
      (all_sound (declared ++ declared_by declared (Emit e o c)) ss q ds g.1 s.1 h.1)

  length_same : (declared : List Declared) (ss : List (List Tok)) (q : List StatementTree) (ds : List Definition) → AreGood ss q → AreBeside declared q ds
      → length (whole_statements q ds) ≡ length ss
  length_same declared [] [] [] g h = refl
  length_same declared [] [] (d ∷ ds) g h = absurd h
  length_same declared [] (u ∷ q) ds g h = absurd g
  length_same declared (ts ∷ ss) [] ds g h = absurd g
  length_same declared (ts ∷ ss) (Input x ∷ q) ds g h = ap suc (length_same (declared ++ declared_by declared (Input x)) ss q ds g.1 h)
  length_same declared (ts ∷ ss) (Let x e o c ∷ q) [] g h = absurd h
  length_same declared (ts ∷ ss) (Let x e o c ∷ q) (d ∷ ds) g h = ap suc (length_same (declared ++ declared_by declared (Let x e o c)) ss q ds g.1 h.1)
  length_same declared (ts ∷ ss) (Emit e o c ∷ q) [] g h = absurd h
  length_same declared (ts ∷ ss) (Emit e o c ∷ q) (d ∷ ds) g h = ap suc (length_same (declared ++ declared_by declared (Emit e o c)) ss q ds g.1 h.1)

  -- some text reads as the statements
  pub whole_is_query : (q : List StatementTree) (ds : List Definition) → IsQuery q → AreBeside [] q ds → AreShort (whole_statements q ds)
      → IsQuery (whole_statements q ds)
  whole_is_query q ds is h short =
      let each = statements_sound is.tokens is.sound in
      let whole = whole_statements q ds in
      let cut = query_cut whole in
      let count = length_same [] (statements is.tokens) q ds is.parsed.good h in
      let many : length (statements (flat_map statement_tokens whole)) ≡ length whole = rw cut (length-map whole statement_tokens) in
      record {
        tokens = flat_map statement_tokens whole;
        sound = all_sound [] (statements is.tokens) q ds is.parsed.good each h;
        parsed = record {
          some = omega (arith, many, count, is.parsed.some);
          few = omega (arith, many, count, is.parsed.few);
          good = rw cut (good_kept [] (statements is.tokens) q ds is.parsed.good h short);
        };
      }

-- and the core of the statements is that of the query with the definitions over whole numbers
pub whole_core_is : (q : List StatementTree) (ds : List Definition) → AreBeside (source_names q) [] q ds
    → core_of (whole_statements q ds) ≡ record { inputs = input_names q; names = let_names q; defs = ds }
whole_core_is q ds h =
    let inputs = inputs_same (source_names q) [] q ds h in
    let lets = lets_same (source_names q) [] q ds h in
    let names : source_names (whole_statements q ds) ≡ source_names q = λ i. inputs i ++ lets i in
    let defs = ap (λ (xs : List (List ℕ)). definitions xs (whole_statements q ds)) names ∙ definitions_same (source_names q) [] q ds h in
    λ i. record { inputs = inputs i; names = lets i; defs = defs i }

none_unless : (f : Option CheckFault) (core : CoreParts) → f ≡ None → core_unless f core ≡ Ok core
none_unless f core h = rw h refl

pub whole_checked : (q : List StatementTree) (ds : List Definition) → AreBeside (source_names q) [] q ds → first_fault 1 [] q ≡ None
    → checked (whole_statements q ds) ≡ Ok (record { inputs = input_names q; names = let_names q; defs = ds })
whole_checked q ds h none =
    let same = faults_same (source_names q) 1 [] q ds h in
    none_unless (first_fault 1 [] (whole_statements q ds)) (core_of (whole_statements q ds)) (same ∙ none)
    ∙ ap (λ (c : CoreParts). Ok c) (whole_core_is q ds h)
