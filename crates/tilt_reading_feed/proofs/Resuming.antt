-- What is kept of a feed, and a feed that keeps it.
use Rattle.std.proofs.Common.{◌≡◌, ◌<◌, ◌+◌, ℕ, zero, suc, List, [], ◌∷◌, ◌++◌, length, map, take, get_or}
use Rattle.std.proofs.Common.{refl, sym, ap, ◌∙◌, arith, add-one}
use Rattle.tilt_conventions.specs.Machine.{kept_by}
use Rattle.tilt_conventions.specs.Steps.{Kept}
use Rattle.tilt_conventions.specs.declared.converter.Converter.{Converter}
use Rattle.tilt_conventions.specs.declared.options.Options.{Options}
use Rattle.tilt_reading_feed.specs.Kept.{inputs_with}
use Rattle.tilt_reading_feed.specs.Machine.{inputs_of}
use Rattle.tilt_reading_feed.specs.Steps.{InputKept}

-- inputs are those whose readings mean what theirs do, and of which is kept what is kept of them
pub inputs-same : (inputs : List InputKept) → inputs_with (map (λ input. input.options) inputs) (map (λ input. input.kept) inputs) ≡ inputs
inputs-same [] = refl
inputs-same (input ∷ inputs) = ap (λ (list : List InputKept). input ∷ list) (inputs-same inputs)

-- there are as many of them
pub length-with : (options : List Options) (inputs : List Kept) → length inputs ≡ length options → length (inputs_with options inputs) ≡ length options
length-with [] inputs same = refl
length-with (o ∷ options) [] same = absurd (omega (arith, same))
length-with (o ∷ options) (kept ∷ inputs) same = ap suc (length-with options inputs (omega (arith, same)))

-- what is kept of inputs is what their converters keep
pub bare-of : (converters : List Converter) → map kept_by converters ≡ map (λ input. input.kept) (inputs_of converters)
bare-of [] = refl
bare-of (converter ∷ converters) = ap (λ (list : List Kept). kept_by converter ∷ list) (bare-of converters)

-- one more input
inputs-more : (options : List Options) (inputs : List Kept) (index : ℕ) (o : Options) (kept : Kept) → index < length options → index < length inputs
    → kept ≡ get_or inputs index kept
    → inputs_with (take (index + 1) options) (take (index + 1) inputs)
    ≡ inputs_with (take index options) (take index inputs) ++ record { options = get_or options index o; kept = kept } ∷ []
inputs-more [] inputs index o kept within among at = absurd (omega arith)
inputs-more (p ∷ options) [] index o kept within among at = absurd (omega arith)
inputs-more (p ∷ options) (k ∷ inputs) zero o kept within among at = λ i. record { options = p; kept = sym at i } ∷ []
inputs-more (p ∷ options) (k ∷ inputs) (suc index) o kept within among at =
    let more : inputs_with (take (suc index) options) (take (suc index) inputs)
    ≡ inputs_with (take index options) (take index inputs) ++ record { options = get_or options index o; kept = kept } ∷ [] =
    rw add-one at (inputs-more options inputs index o kept (omega arith) (omega arith) at) in
    rw add-one (ap (λ (list : List InputKept). record { options = p; kept = k } ∷ list) more)

pub resumed-more : (options : List Options) (inputs : List Kept) (index : ℕ) (o : Options) (kept : Kept) (before after : List InputKept)
    → index < length options → index < length inputs → kept ≡ get_or inputs index kept
    → before ≡ inputs_with (take index options) (take index inputs) → after ≡ before ++ record { options = get_or options index o; kept = kept } ∷ []
    → after ≡ inputs_with (take (index + 1) options) (take (index + 1) inputs)
resumed-more options inputs index o kept before after within among at is more =
    more ∙ ap (λ (list : List InputKept). list ++ record { options = get_or options index o; kept = kept } ∷ []) is
    ∙ sym (inputs-more options inputs index o kept within among at)
