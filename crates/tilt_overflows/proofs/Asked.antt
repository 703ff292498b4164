-- At the ticks of its sources that an output can depend on, a query reads its sources at such ticks only.
use Rattle.std.proofs.Common.{◌≡◌, ℕ, suc, ◌+◌, ◌<◌, ◌==◌, ℤ, pos, ◌+ℤ◌, ◌-ℤ◌, ◌≤ℤ◌, ◌<ℤ◌, Bool, true, false, if◌then◌else◌, List, [], ◌∷◌, length, get_or, Option, Some, None, ◌⊎◌, inl, inr, sym, ap, ◌∙◌, subst, arith}
use Rattle.std.specs.Prelude.{⊤}
use Rattle.std.proofs.lemmas.Int.{ints, clamps}
use Rattle.tilt_base.proofs.Comparisons.{below_or_at, same_number}
use Rattle.tilt_base.proofs.GridPoints.{ceil-high, ceil-low}
use Rattle.tilt_base.specs.Expression.{Leaf, One, Two, If}
use Rattle.tilt_base.specs.Grid.{ceil}
use Rattle.tilt_base.specs.declared.span.Span.{Span}
use Rattle.tilt_bounds.proofs.Needs.{need_at-definition, need_at-input}
use Rattle.tilt_core.specs.Core.{AreDefinitions, CoreParts, IsCore, IsDefinition, ReadsBelow}
use Rattle.tilt_core.specs.CoreTree.{CoreTree, Const, Read, Reduce, Definition}
use Rattle.tilt_core.specs.Meaning.{within}
use Rattle.tilt_core.specs.Needs.{Need, asked_by, asked_from, asked_of, body_need, either, need_before, needs_from, reaching, wider}
use Rattle.tilt_overflows.specs.Law.{ReadsChosen, asked_for, is_asked}
use Rattle.tilt_stream.specs.Domain.{lies_in, on_grid}
use Rattle.tilt_units.specs.Law.{Chosen, clock}

pub above : (lo hi tick : ℤ) → lies_in lo hi tick ≡ true → lo <ℤ tick
above lo hi tick h = grind (arith, ints)

pub not_above : (lo hi tick : ℤ) → lies_in lo hi tick ≡ true → tick ≤ℤ hi
not_above lo hi tick h = grind (arith, ints)

pub lies : (lo hi tick : ℤ) → lo <ℤ tick → tick ≤ℤ hi → lies_in lo hi tick ≡ true
lies lo hi tick low high = grind (arith, ints)

module _ (lo hi : ℤ) where
  -- what one of two asks for is asked for
  first_asked : (m n : Option Need) (tick : ℤ) → is_asked m lo hi tick ≡ true → is_asked (either m n) lo hi tick ≡ true
  first_asked None n tick h = absurd (cc h)
  first_asked (Some m) None tick h = h
  first_asked (Some m) (Some n) tick h =
      let a = above (lo -ℤ m.back) (hi +ℤ m.ahead) tick h in
      let b = not_above (lo -ℤ m.back) (hi +ℤ m.ahead) tick h in
      lies (lo -ℤ (wider m n).back) (hi +ℤ (wider m n).ahead) tick (omega (arith, ints, clamps)) (omega (arith, ints, clamps))

  second_asked : (m n : Option Need) (tick : ℤ) → is_asked n lo hi tick ≡ true → is_asked (either m n) lo hi tick ≡ true
  second_asked m None tick h = absurd (cc h)
  second_asked None (Some n) tick h = h
  second_asked (Some m) (Some n) tick h =
      let a = above (lo -ℤ n.back) (hi +ℤ n.ahead) tick h in
      let b = not_above (lo -ℤ n.back) (hi +ℤ n.ahead) tick h in
      lies (lo -ℤ (wider m n).back) (hi +ℤ (wider m n).ahead) tick (omega (arith, ints, clamps)) (omega (arith, ints, clamps))

  module _ (chosen : Chosen) (bound : ℕ) where
    -- what an expression with a need asks the sources below a number for is chosen
    abbrev IsChosen : Need → CoreTree → Type 0
    IsChosen n e = (source : ℕ) → source < bound → (tick : ℤ) → is_asked (asked_by n e source) lo hi tick ≡ true → chosen source tick ≡ true

    read_chosen : (n : Need) (read : ℕ) → read < bound
        → ((source : ℕ) → source < bound → (tick : ℤ) → is_asked (if read == source then Some n else None) lo hi tick ≡ true → chosen source tick ≡ true)
        → (tick : ℤ) → (lo -ℤ n.back) <ℤ tick → tick ≤ℤ (hi +ℤ n.ahead) → chosen read tick ≡ true
    read_chosen n read low h tick above high =
        let asked : is_asked (Some n) lo hi tick ≡ true = lies (lo -ℤ n.back) (hi +ℤ n.ahead) tick above high in
        h read low tick (subst (λ (b : Bool). is_asked (if b then Some n else None) lo hi tick ≡ true) (sym (same_number read)) asked)

    reads_chosen : (n : Need) (e : CoreTree) → ReadsBelow bound e → IsChosen n e → (tick : ℤ) → (lo -ℤ n.back) <ℤ tick → tick ≤ℤ (hi +ℤ n.ahead)
        → ReadsChosen chosen tick e
    reads_chosen n (Leaf (Const number)) r h tick low high = tt
    reads_chosen n (Leaf (Read read offset)) r h tick low high =
        read_chosen (reaching n offset offset) read r h (tick +ℤ offset) (omega (arith, ints, clamps)) (omega (arith, ints, clamps))
    reads_chosen n (Leaf (Reduce reducer read from to)) r h tick low high = λ other after until.
        read_chosen (reaching n (from +ℤ pos 1) to) read r.0 h other (omega (arith, ints, clamps)) (omega (arith, ints, clamps))
    reads_chosen n (One op a) r h tick low high = reads_chosen n a r h tick low high
    reads_chosen n (Two op a b) r h tick low high = (
      reads_chosen n a r.0 (λ s below t is. h s below t (first_asked (asked_by n a s) (asked_by n b s) t is)) tick low high,
      reads_chosen n b r.1 (λ s below t is. h s below t (second_asked (asked_by n a s) (asked_by n b s) t is)) tick low high,
    )
    reads_chosen n (If c a b) r h tick low high =
        let others : (s : ℕ) → s < bound → (t : ℤ) → is_asked (either (asked_by n a s) (asked_by n b s)) lo hi t ≡ true → chosen s t ≡ true =
        λ s below t is. h s below t (second_asked (asked_by n c s) (either (asked_by n a s) (asked_by n b s)) t is) in (
          reads_chosen n c r.0 (λ s below t is. h s below t (first_asked (asked_by n c s) (either (asked_by n a s) (asked_by n b s)) t is)) tick low high,
          reads_chosen n a r.1 (λ s below t is. others s below t (first_asked (asked_by n a s) (asked_by n b s) t is)) tick low high,
          reads_chosen n b r.2 (λ s below t is. others s below t (second_asked (asked_by n a s) (asked_by n b s) t is)) tick low high,
        )

-- the tick at which a definition is taken is the next grid point
taken_by : (inside : Bool) (point taken : ℤ) → (if inside then Some point else None) ≡ Some taken → point ≡ taken
taken_by true point taken h = cc h
taken_by false point taken h = absurd (cc h)

taken_is : (over : Option Span) (def : Definition) (tick taken : ℤ) → (within over (on_grid def.grid clock)).cell tick ≡ Some taken → ceil def.grid tick ≡ taken
taken_is None def tick taken h = cc h
taken_is (Some span) def tick taken h = taken_by (lies_in span.start span.end tick) (ceil def.grid tick) taken h

-- definitions from a number on read their sources at chosen ticks only
abbrev pub AreClosed : Chosen → ℕ → List Definition → Type 0
AreClosed chosen number [] = ⊤
AreClosed chosen number (def ∷ defs) =
    ((tick taken : ℤ) → chosen number tick ≡ true → (within def.over (on_grid def.grid clock)).cell tick ≡ Some taken → ReadsChosen chosen taken def.body)
    × AreClosed chosen (suc number) defs

module _ (lo hi : ℤ) (chosen : Chosen) where
  -- what definitions from a number on ask the sources before them for is chosen, and what is chosen of each definition is its need
  record Fits (number : ℕ) (defs : List Definition) : Type 0 where
    before : (source : ℕ) → source < number → (tick : ℤ) → is_asked (asked_from number defs source) lo hi tick ≡ true → chosen source tick ≡ true
    each : (k : ℕ) (tick : ℤ) → chosen (number + k) tick ≡ is_asked (get_or (needs_from number defs) k None) lo hi tick

  one_closed : (number : ℕ) (def : Definition) (n : Option Need) → IsDefinition number def
      → ((source : ℕ) → source < number → (tick : ℤ) → is_asked (asked_of def n source) lo hi tick ≡ true → chosen source tick ≡ true)
      → (tick taken : ℤ) → is_asked n lo hi tick ≡ true → ceil def.grid tick ≡ taken → ReadsChosen chosen taken def.body
  one_closed number def None is h tick taken asked at = absurd (cc asked)
  one_closed number def (Some n) is h tick taken asked at =
      let low = ceil-low def.grid tick is.grid.period_low in
      let high = ceil-high def.grid tick is.grid.period_low in
      let a = above (lo -ℤ n.back) (hi +ℤ n.ahead) tick asked in
      let b = not_above (lo -ℤ n.back) (hi +ℤ n.ahead) tick asked in
      subst (λ t. ReadsChosen chosen t def.body) at
      (reads_chosen lo hi chosen number (body_need def n) def.body is.reads h (ceil def.grid tick) (omega (arith, ints)) (omega (arith, ints)))

  -- what the definitions after one ask it for is its need, or they are none and ask for nothing
  asked_behind : (number : ℕ) (defs : List Definition) (tick : ℤ) → is_asked (asked_from (suc number) defs number) lo hi tick ≡ true
      → is_asked (need_before defs (asked_from (suc number) defs number)) lo hi tick ≡ true
  asked_behind number [] tick h = absurd (cc h)
  asked_behind number (def ∷ defs) tick h = h

  first_each : (number : ℕ) (def : Definition) (defs : List Definition) → Fits number (def ∷ defs) → (tick : ℤ)
      → chosen number tick ≡ is_asked (need_before defs (asked_from (suc number) defs number)) lo hi tick
  first_each number def defs fits tick =
      let is : number + 0 ≡ number = omega arith in
      subst (λ n. chosen n tick ≡ is_asked (need_before defs (asked_from (suc number) defs number)) lo hi tick) is (fits.each 0 tick)

  rest_before : (number : ℕ) (def : Definition) (defs : List Definition) → Fits number (def ∷ defs) → (source : ℕ) → ((source < number) ⊎ (source ≡ number))
      → (tick : ℤ) → is_asked (asked_from (suc number) defs source) lo hi tick ≡ true → chosen source tick ≡ true
  rest_before number def defs fits source (inl below) tick h =
      fits.before source below tick
      (first_asked lo hi (asked_from (suc number) defs source) (asked_of def (need_before defs (asked_from (suc number) defs number)) source) tick h)
  rest_before number def defs fits source (inr same) tick h =
      let here : is_asked (asked_from (suc number) defs number) lo hi tick ≡ true = subst (λ s. is_asked (asked_from (suc number) defs s) lo hi tick ≡ true) same h in
      subst (λ s. chosen s tick ≡ true) (sym same) (first_each number def defs fits tick ∙ asked_behind number defs tick here)

  rest_fits : (number : ℕ) (def : Definition) (defs : List Definition) → Fits number (def ∷ defs) → Fits (suc number) defs
  rest_fits number def defs fits = record {
    before = λ source below tick h. rest_before number def defs fits source (below_or_at source number below) tick h;
    each = λ k tick.
        let is : number + suc k ≡ suc number + k = omega arith in
        subst (λ n. chosen n tick ≡ is_asked (get_or (needs_from (suc number) defs) k None) lo hi tick) is (fits.each (suc k) tick);
  }

  closed : (number : ℕ) (defs : List Definition) → AreDefinitions number defs → Fits number defs → AreClosed chosen number defs
  closed number [] are fits = tt
  closed number (def ∷ defs) are fits =
      let n = need_before defs (asked_from (suc number) defs number) in (
        (λ tick taken is at.
            one_closed number def n are.0
            (λ source below t asked. fits.before source below t (second_asked lo hi (asked_from (suc number) defs source) (asked_of def n source) t asked))
            tick taken (sym (first_each number def defs fits tick) ∙ is) (taken_is def.over def tick taken at)),
        closed (suc number) defs are.1 (rest_fits number def defs fits),
      )

-- the ticks that an output can depend on are closed
pub asked_closed : (core : CoreParts) (lo hi : ℤ) → IsCore core → AreClosed (asked_for core lo hi) (length core.inputs) core.defs
asked_closed core lo hi is =
    let count = length core.inputs in
    closed lo hi (asked_for core lo hi) count core.defs is.definitions (record {
      before = λ source below tick h. subst (λ n. is_asked n lo hi tick ≡ true) (sym (need_at-input count core.defs source below)) h;
      each = λ k tick. ap (λ n. is_asked n lo hi tick) (need_at-definition count core.defs k);
    })
