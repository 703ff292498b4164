-- What a local time means.
use Rattle.std.proofs.Common.{◌≡◌, ◌≢◌, ◌⊎◌, ◌↔◌, ℤ, ◌<ℤ◌, Option, Some, None, Result, Ok, Err, IfOk, IfErr, MatchResult, FitsSigned, w64}
use Rattle.std.proofs.Common.{refl, sym, subst, ◌∙◌, arith, inl, inr}
use Rattle.std.proofs.lemmas.Int.{ints}
use Rattle.tilt_zones.specs.Place.{AreMoments, chosen}
use Rattle.tilt_zones.specs.Zone.{IsBeyond, IsDoubled, IsKnown, IsMomentOf, IsShownAt, IsSkipped, ZoneParts}
use Rattle.tilt_zones.specs.declared.fault.LocalFault.{LocalFault}
use Rattle.tilt_zones.specs.declared.fault.LocalFault.TheVariants.{Skipped, Doubled, Beyond}
use Rattle.tilt_zones.specs.declared.moments.Fold.{Fold}
use Rattle.tilt_zones.specs.declared.moments.Fold.TheVariants.{First, Second}
use Rattle.tilt_zones.specs.declared.moments.Moments.{Moments}
use Rattle.tilt_zones.specs.declared.moments.Moments.TheVariants.{Never, Once, Twice}

-- a local time means at most one moment
pub one_meaning : (zone : ZoneParts) (local m n : ℤ) (fold : Option Fold) → IsMomentOf zone local fold m → IsMomentOf zone local fold n
    → m ≡ n
one_meaning zone local m n None a b = b.chosen m a.shown
one_meaning zone local m n (Some First) a b =
    let up = a.chosen n b.shown in
    let down = b.chosen m a.shown in
    omega (arith, ints)
one_meaning zone local m n (Some Second) a b =
    let up = a.chosen n b.shown in
    let down = b.chosen m a.shown in
    omega (arith, ints)

-- the only moment is meant with any fold
only_moment : (zone : ZoneParts) (local m : ℤ) (fold : Option Fold) → IsShownAt zone local m → ((n : ℤ) → IsShownAt zone local n → n ≡ m)
    → IsMomentOf zone local fold m
only_moment zone local m None shown only = record { shown = shown; chosen = only }
only_moment zone local m (Some First) shown only = record {
  shown = shown;
  chosen = λ n there. let same = only n there in omega (arith, ints);
}
only_moment zone local m (Some Second) shown only = record {
  shown = shown;
  chosen = λ n there. let same = only n there in omega (arith, ints);
}

-- of two moments, each is meant with its fold
first_moment : (zone : ZoneParts) (local m n : ℤ) → m <ℤ n → IsShownAt zone local m
    → ((o : ℤ) → IsShownAt zone local o → (o ≡ m) ⊎ (o ≡ n)) → IsMomentOf zone local (Some First) m
first_moment zone local m n less shown only = record {
  shown = shown;
  chosen = λ o there. elim (only o there) [ inl same ↦ omega (arith, ints) | inr same ↦ omega (arith, ints) ];
}

second_moment : (zone : ZoneParts) (local m n : ℤ) → m <ℤ n → IsShownAt zone local n
    → ((o : ℤ) → IsShownAt zone local o → (o ≡ m) ⊎ (o ≡ n)) → IsMomentOf zone local (Some Second) n
second_moment zone local m n less shown only = record {
  shown = shown;
  chosen = λ o there. elim (only o there) [ inl same ↦ omega (arith, ints) | inr same ↦ omega (arith, ints) ];
}

-- the moment that is chosen is the one that is meant
pub moment_meant : (zone : ZoneParts) (local : ℤ) (moments : Moments) (fold : Option Fold) → AreMoments zone local moments
    → IfOk (chosen moments fold) (IsMomentOf zone local fold)
moment_meant zone local Never fold are = tt
moment_meant zone local (Once m) fold are = only_moment zone local m fold are.0 are.1
moment_meant zone local (Twice m n) None are = tt
moment_meant zone local (Twice m n) (Some First) are = first_moment zone local m n are.0 are.1 are.3
moment_meant zone local (Twice m n) (Some Second) are = second_moment zone local m n are.0 are.2 are.3

-- why no moment is meant
abbrev pub IsFaultOf : ZoneParts → ℤ → Option Fold → LocalFault → Type 0
IsFaultOf zone local fold Skipped = IsSkipped zone local
IsFaultOf zone local fold Doubled = (fold ≡ None) × IsDoubled zone local
IsFaultOf zone local fold Beyond = ⊥

apart : (m n : ℤ) → m <ℤ n → m ≢ n
apart m n less same = omega (arith, ints)

pub fault_meant : (zone : ZoneParts) (local : ℤ) (moments : Moments) (fold : Option Fold) → AreMoments zone local moments
    → IfErr (chosen moments fold) (IsFaultOf zone local fold)
fault_meant zone local Never fold are = are
fault_meant zone local (Once m) fold are = tt
fault_meant zone local (Twice m n) None are = (refl, (m, n, apart m n are.0, are.1, are.2))
fault_meant zone local (Twice m n) (Some First) are = tt
fault_meant zone local (Twice m n) (Some Second) are = tt

-- a local time that is skipped or doubled means no moment
skipped_means_none : (zone : ZoneParts) (local m : ℤ) (fold : Option Fold) → IsSkipped zone local → ¬ (IsMomentOf zone local fold m)
skipped_means_none zone local m fold skipped meant = skipped m meant.shown

doubled_means_none : (zone : ZoneParts) (local m : ℤ) (fold : Option Fold) → fold ≡ None → IsDoubled zone local
    → ¬ (IsMomentOf zone local fold m)
doubled_means_none zone local m (Some f) none doubled meant = cc
doubled_means_none zone local m None none doubled meant = doubled.2 (meant.chosen doubled.0 doubled.3 ∙ sym (meant.chosen doubled.1 doubled.4))

skipped_not_doubled : (zone : ZoneParts) (local : ℤ) → IsSkipped zone local → ¬ (IsDoubled zone local)
skipped_not_doubled zone local skipped doubled = skipped doubled.0 doubled.3

-- what the result for a local time says
pub record IsResultOf (zone : ZoneParts) (local : ℤ) (fold : Option Fold) (r : Result ℤ LocalFault) : Type 0 where
  pub moment : IfOk r (λ m. IsMomentOf zone local fold m × IsKnown zone m)
  pub skipped : (r ≡ Err Skipped) ↔ IsSkipped zone local
  pub doubled : (r ≡ Err Doubled) ↔ ((fold ≡ None) × IsDoubled zone local)
  pub beyond : (r ≡ Err Beyond) ↔ IsBeyond zone local fold

pub fault_result : (zone : ZoneParts) (local : ℤ) (fold : Option Fold) (fault : LocalFault) → IsFaultOf zone local fold fault
    → IsResultOf zone local fold (Err fault)
fault_result zone local fold Skipped is = record {
  moment = tt;
  skipped = (λ _. is, λ _. refl);
  doubled = (λ e. absurd (cc), λ d. absurd (skipped_not_doubled zone local is d.1));
  beyond = (λ e. absurd (cc), λ b. absurd (skipped_means_none zone local b.0 fold is b.1));
}
fault_result zone local fold Doubled is = record {
  moment = tt;
  skipped = (λ e. absurd (cc), λ s. absurd (skipped_not_doubled zone local s is.1));
  doubled = (λ _. is, λ _. refl);
  beyond = (λ e. absurd (cc), λ b. absurd (doubled_means_none zone local b.0 fold is.0 is.1 b.1));
}
fault_result zone local fold Beyond is = absurd is

-- a moment before the end, or that it isn't one of 64 bits before the end
abbrev pub IsKnownBy : ℤ → ℤ → Result ℤ LocalFault → Type 0
IsKnownBy end m r = MatchResult r (λ k. (k ≡ m) × FitsSigned w64 m × (m <ℤ end)) (λ e. (e ≡ Beyond) × (¬ (FitsSigned w64 m × (m <ℤ end))))

pub known_result : (zone : ZoneParts) (local m : ℤ) (fold : Option Fold) (r : Result ℤ LocalFault) → IsMomentOf zone local fold m
    → IsKnownBy zone.end m r → IsResultOf zone local fold r
known_result zone local m fold (Ok k) meant known = record {
  moment = subst (λ z. IsMomentOf zone local fold z × IsKnown zone z) (sym known.0) (meant, (known.1, known.2));
  skipped = (λ e. absurd (cc), λ s. absurd (skipped_means_none zone local m fold s meant));
  doubled = (λ e. absurd (cc), λ d. absurd (doubled_means_none zone local m fold d.0 d.1 meant));
  beyond = (λ e. absurd (cc), λ b. absurd (b.2 (subst (IsKnown zone) (one_meaning zone local m b.0 fold meant b.1) (known.1, known.2))));
}
known_result zone local m fold (Err e) meant known = subst (λ f. IsResultOf zone local fold (Err f)) (sym known.0) (record {
  moment = tt;
  skipped = (λ e. absurd (cc), λ s. absurd (skipped_means_none zone local m fold s meant));
  doubled = (λ e. absurd (cc), λ d. absurd (doubled_means_none zone local m fold d.0 d.1 meant));
  beyond = (λ _. (m, meant, known.1), λ _. refl);
})
