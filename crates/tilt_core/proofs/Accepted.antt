-- A query whose core keeps what cores keep: `input x; emit x over (2, 12] every 5 from 2`. So the law of cores isn't empty.
use Rattle.std.proofs.Common.{◌≡◌, ℕ, pos, List, [], ◌∷◌, Some, refl, ap, get_or, arith, codes}
use Rattle.std.proofs.lemmas.Int.{ints}
use Rattle.tilt_base.specs.Reduce.{reducer_word}
use Rattle.tilt_base.specs.declared.reducer.Reducer.{Reducer}
use Rattle.tilt_base.specs.declared.reducer.Reducer.TheVariants as reducer
use Rattle.tilt_lexer.specs.Word.{key_text}
use Rattle.tilt_lexer.specs.declared.key.Key.{Key}
use Rattle.tilt_lexer.specs.declared.key.Key.TheVariants as key
use Rattle.tilt_core.specs.Core.{CoreParts, IsCore}
use Rattle.tilt_base.specs.Expression.{Leaf}
use Rattle.tilt_core.specs.CoreTree.{Read}

no_reducer_x : (r : Reducer) → reducer_word r ≡ codes "x" → ⊥
no_reducer_x r = elim r as (λ q. reducer_word q ≡ codes "x" → ⊥) [ reducer.Sum ↦ λ e. cc | _ ↦ λ e. cc ]

-- no reserved word is `x`
no_key_x : (k : Key) → key_text k ≡ codes "x" → ⊥
no_key_x k = elim k as (λ j. key_text j ≡ codes "x" → ⊥) [ key.Time ↦ λ e. absurd (omega (arith, ap (λ (text : List ℕ). get_or text 0 0) e)) | key.Reducer r ↦ no_reducer_x r | _ ↦ λ e. cc ]

emits_input : CoreParts
emits_input = record {
  inputs = codes "x" ∷ [];
  names = [];
  defs = record { body = Leaf (Read 0 (pos 0)); over = Some (record { start = pos 2; end = pos 12 }); grid = record { period = pos 5; offset = pos 2 } } ∷ [];
}

emits_input_is_accepted : IsCore emits_input
unfolding emits_input
emits_input_is_accepted = record {
  one_emitted = refl;
  few = omega arith;
  distinct = (λ among. absurd (omega (arith, among.1)), tt);
  named = ((refl, λ reserved. no_key_x reserved.0 reserved.1), tt);
  definitions = (
    record {
      reads = omega arith;
      small = omega arith;
      stretch = (omega (arith, ints), omega (arith, ints), omega (arith, ints));
      grid = record { period_low = omega (arith, ints); period_high = omega (arith, ints); offset_low = omega (arith, ints); offset_high = omega (arith, ints) };
    },
    tt,
  );
  domain = refl;
}
