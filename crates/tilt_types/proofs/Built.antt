-- The core of a well-formed query keeps what cores keep.
use Rattle.std.proofs.Common.{◌≡◌, ℕ, List, [], ◌∷◌, ◌++◌, length, take, drop, None, ap, ◌∙◌, subst}
use Rattle.std.proofs.Math.Seq.{drop-append_seam, take-append_seam}
use Rattle.std.specs.List.{AllByRecursion}
use Rattle.tilt_lexer.specs.Word.{IsReserved, IsWord, IsName}
use Rattle.tilt_syntax.specs.Query.{IsQuery}
use Rattle.tilt_syntax.specs.Tree.{StatementTree}
use Rattle.tilt_types.proofs.Distinct.{source_names-distinct}
use Rattle.tilt_types.proofs.Places.{query-definitions}
use Rattle.tilt_types.proofs.Texts.{input_names-free, let_names-free, query-ends, query-of_text, sources-few}
use Rattle.tilt_types.specs.Checked.{core_of, definitions, input_names, let_names, source_names}
use Rattle.tilt_core.specs.Core.{IsCore}
use Rattle.tilt_core.specs.CoreTree.{Definition}
use Rattle.tilt_types.specs.WellFormed.{first_fault}

names-append : (xs ys : List (List ℕ)) → AllByRecursion IsWord (xs ++ ys) → AllByRecursion (λ x. ¬ (IsReserved x)) xs → AllByRecursion (λ x. ¬ (IsReserved x)) ys → AllByRecursion IsName (xs ++ ys)
names-append [] [] words f g = tt
names-append [] (y ∷ ys) words f g = ((words.0, g.0), names-append [] ys words.1 f g.1)
names-append (x ∷ xs) ys words f g = ((words.0, f.0), names-append xs ys words.1 f.1 g)

pub core_of-IsCore : (query : List StatementTree) → IsQuery query → first_fault 1 [] query ≡ None → AllByRecursion IsWord (source_names query) → IsCore (core_of query)
core_of-IsCore query is h words =
    let text = query-of_text query is in
    let ends = query-ends (source_names query) query is in
    record {
      one_emitted = ends.0;
      few = sources-few query is;
      distinct = source_names-distinct query h;
      named = names-append (input_names query) (let_names query) words (input_names-free query text) (let_names-free query text);
      definitions = query-definitions query h text;
      domain = ends.1;
    }

-- the names of the sources, cut after the inputs, and the definitions are the core's parts
pub cut-IsCore : (query : List StatementTree) (all inputs names : List (List ℕ)) (defs : List Definition) (count : ℕ) → IsQuery query → first_fault 1 [] query ≡ None
    → AllByRecursion IsWord all → all ≡ source_names query → count ≡ length (input_names query) → inputs ≡ take count all → names ≡ drop count all → defs ≡ definitions all query
    → IsCore (record { inputs = inputs; names = names; defs = defs })
cut-IsCore query all inputs names defs count is h words all_are count_is inputs_are names_are defs_are =
    let front : inputs ≡ input_names query =
    inputs_are ∙ ap (λ (n : ℕ). take n all) count_is ∙ ap (λ (xs : List (List ℕ)). take (length (input_names query)) xs) all_are
    ∙ take-append_seam (input_names query) (let_names query) in
    let back : names ≡ let_names query =
    names_are ∙ ap (λ (n : ℕ). drop n all) count_is ∙ ap (λ (xs : List (List ℕ)). drop (length (input_names query)) xs) all_are
    ∙ drop-append_seam (input_names query) (let_names query) in
    let are : defs ≡ definitions (source_names query) query = defs_are ∙ ap (λ (xs : List (List ℕ)). definitions xs query) all_are in
    rw (front, back, are) (core_of-IsCore query is h (subst (λ (xs : List (List ℕ)). AllByRecursion IsWord xs) all_are words))
