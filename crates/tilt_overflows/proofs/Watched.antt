-- Where the watches are among the sources of a watching query.
use Rattle.std.proofs.Common.{◌≡◌, ℕ, suc, ◌+◌, ◌<◌, ◌≤◌, List, [], ◌∷◌, ◌++◌, length, map, refl, sym, ap, ◌∙◌, subst, arith, length-append}
use Rattle.std.specs.Prelude.{⊤}
use Rattle.tilt_base.specs.Expression.{Leaf, One, Two, If}
use Rattle.tilt_core.proofs.Sources.{source_of-front, source_of-last, with_definitions-front}
use Rattle.tilt_core.specs.Core.{AreDefinitions, ReadsBelow}
use Rattle.tilt_core.specs.CoreTree.{CoreTree, Const, Read, Reduce, Definition}
use Rattle.tilt_core.specs.Meaning.{body_of, definition_of, source_of, with_definitions, within}
use Rattle.tilt_overflows.proofs.Accepted.{leaves_reads}
use Rattle.tilt_overflows.specs.Watching.{watch}
use Rattle.tilt_stream.specs.Domain.{on_grid}
use Rattle.tilt_stream.specs.Pointwise.{branched, lifted1, lifted2, shifted}
use Rattle.tilt_stream.specs.Stream.{Stream}
use Rattle.tilt_stream.specs.Window.{windowed}

-- the same sources below a number
abbrev pub AreSame : ℕ → List Stream → List Stream → Type 0
AreSame bound xs ys = (number : ℕ) → number < bound → source_of xs number ≡ source_of ys number

module _ (bound : ℕ) (xs ys : List Stream) (same : AreSame bound xs ys) where
  body_same : (e : CoreTree) → ReadsBelow bound e → body_of xs e ≡ body_of ys e
  body_same (Leaf (Const number)) r = refl
  body_same (Leaf (Read source offset)) r = ap (λ x. shifted x offset) (same source r)
  body_same (Leaf (Reduce reducer source from to)) r = ap (windowed reducer from to) (same source r.0)
  body_same (One op a) r = ap (lifted1 op) (body_same a r)
  body_same (Two op a b) r = let p = body_same a r.0 in let q = body_same b r.1 in (λ i. lifted2 op (p i) (q i))
  body_same (If c a b) r =
      let o = body_same c r.0 in
      let p = body_same a r.1 in
      let q = body_same b r.2 in
      (λ i. branched (o i) (p i) (q i))

  pub definition_same : (def : Definition) → ReadsBelow bound def.body → definition_of xs def ≡ definition_of ys def
  definition_same def r = ap (λ x. within def.over (on_grid def.grid x)) (body_same def.body r)

pub length-with_definitions : (xs : List Stream) (defs : List Definition) → length (with_definitions xs defs) ≡ length xs + length defs
length-with_definitions xs [] = omega arith
length-with_definitions xs (def ∷ defs) =
    let x = definition_of xs def in
    omega (arith, length-with_definitions (xs ++ x ∷ []) defs, length-append xs (x ∷ []))

pub with_definitions-append : (xs : List Stream) (ds es : List Definition) → with_definitions xs (ds ++ es) ≡ with_definitions (with_definitions xs ds) es
with_definitions-append xs [] es = refl
with_definitions-append xs (def ∷ ds) es = with_definitions-append (xs ++ definition_of xs def ∷ []) ds es

-- among sources, from a number on, are the watches of definitions over others
abbrev pub AreWatched : List Stream → ℕ → List Stream → List Definition → Type 0
AreWatched zs first xs [] = ⊤
AreWatched zs first xs (def ∷ defs) = (source_of zs first ≡ definition_of xs (watch def)) × AreWatched zs (suc first) (xs ++ definition_of xs def ∷ []) defs

pub watched : (xs ys : List Stream) (defs : List Definition) → AreDefinitions (length xs) defs → length xs + length defs ≤ length ys
    → AreSame (length xs + length defs) ys (with_definitions xs defs) → AreWatched (with_definitions ys (map watch defs)) (length ys) xs defs
watched xs ys [] are many same = tt
watched xs ys (def ∷ defs) are many same =
    let x = definition_of xs def in
    let w = definition_of ys (watch def) in
    let zs = with_definitions (ys ++ w ∷ []) (map watch defs) in
    let longer : length (xs ++ x ∷ []) ≡ suc (length xs) = omega (arith, length-append xs (x ∷ [])) in
    let more : length (ys ++ w ∷ []) ≡ suc (length ys) = omega (arith, length-append ys (w ∷ [])) in
    let before : AreSame (length xs) ys xs = λ number low. same number (omega arith) ∙ with_definitions-front xs (def ∷ defs) number low in
    let at : source_of zs (length ys) ≡ w = with_definitions-front (ys ++ w ∷ []) (map watch defs) (length ys) (omega arith) ∙ source_of-last ys w in (
      at ∙ definition_same (length xs) ys xs before (watch def) (tt, leaves_reads (length xs) def.body are.0.reads),
      subst (λ n. AreWatched zs n (xs ++ x ∷ []) defs) more
          (watched (xs ++ x ∷ []) (ys ++ w ∷ []) defs (subst (λ n. AreDefinitions n defs) (sym longer) are.1) (omega arith)
          (λ number low. source_of-front ys w number (omega arith) ∙ same number (omega arith))),
    )
