-- The age of an input is one of those that are given.
use Rattle.std.proofs.Common.{ℕ, Bool, true, false, if◌then◌else◌, List, [], ◌∷◌, ◌++◌}
use Rattle.std.specs.List.{AllByRecursion}
use Rattle.std.specs.Str.{bytes_eq}
use Rattle.tilt_conventions.specs.Laws.{HoldsATick}
use Rattle.tilt_conventions.specs.declared.options.Convention.{Convention}
use Rattle.tilt_conventions.specs.declared.options.Options.{Options}
use Rattle.tilt_reading_feed.specs.Laws.{HoldTicks}
use Rattle.tilt_reading_options.specs.Conventions.{AreConventions, ConventionsValue, convention_among, convention_named}
use Rattle.tilt_reading_options.specs.declared.input_convention.InputConvention.{InputConvention}

by_test : (is : Bool) (one other : Convention) → HoldsATick one → HoldsATick other → HoldsATick (if is then one else other)
by_test true one other h k = h
by_test false one other h k = k

among_holds : (others : Convention) (named : List InputConvention) (name : List ℕ) → HoldsATick others
    → AllByRecursion (λ (one : InputConvention). HoldsATick one.convention) named → HoldsATick (convention_among others named name)
among_holds others [] name h all = h
among_holds others (one ∷ named) name h all =
    by_test (bytes_eq one.name name) one.convention (convention_among others named name) all.0 (among_holds others named name h all.1)

pub named_holds : (conventions : ConventionsValue) (name : List ℕ) → AreConventions conventions → HoldsATick (convention_named conventions name)
named_holds conventions name h = among_holds conventions.others conventions.named name h.others h.named

-- one more that holds
pub one_more : (options : List Options) (one : Options) → HoldTicks options → HoldsATick one.convention → HoldTicks (options ++ one ∷ [])
one_more [] one all h = (h, tt)
one_more (first ∷ options) one all h = (all.0, one_more options one all.1 h)
