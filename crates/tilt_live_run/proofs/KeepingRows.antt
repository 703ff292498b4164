-- What is kept for the state of a run while its feed goes on.
use Rattle.std.proofs.Common.{◌≡◌, ◌↔◌, Bool, refl, true, false, [], ◌∷◌, Some, Result, Ok, Err, OnOk, sym, ap, ◌∙◌, subst, inl, inr}
use Rattle.std.proofs.lemmas.Bool.{cases_Bool}
use Rattle.std.proofs.lemmas.Option.{same_Some}
use Rattle.std.specs.Option.{ForSome}
use Rattle.tilt_feed.specs.Events.{after}
use Rattle.tilt_feed.specs.Feed.{Feed}
use Rattle.tilt_feed.specs.declared.event.Event.{Event}
use Rattle.tilt_live.proofs.Ever.{finished-after}
use Rattle.tilt_live_run.specs.KeptRows.{needs_rows}
use Rattle.tilt_live_run.specs.declared.keep.Keep.{Keep}
use Rattle.tilt_live_run.specs.declared.keep.Keep.TheVariants.{Nothing, State}

-- a feed that isn't finished after an event wasn't finished before it
pub unfinished-before : (event : Event) (feed : Feed) → (after event feed).finished ≡ false → feed.finished ≡ false
unfinished-before event feed later =
    elim (cases_Bool feed.finished) [
      | inl end ↦
          let ended : (after event feed).finished ≡ true = ap (λ (f : Feed). f.finished) (finished-after (event ∷ []) feed end) ∙ end in
          absurd (cc (sym ended ∙ later))
      | inr going ↦ going
    ]

-- what is so of rows is so of them as some
pub some-is : {A : Type 0} (P : A → Type 0) (a : A) → P a → ForSome (Some a) P
some-is P a is = λ x e. subst P (same_Some a x e) is

-- rows are kept exactly if the state needs them
pub needs-state : (keep : Keep) (has : Bool) → has ≡ needs_rows keep → (has ≡ true) ↔ (keep ≡ State)
needs-state Nothing has is = (λ yes. absurd (cc (sym is ∙ yes)), λ e. absurd (cc e))
needs-state State has is = (λ _. refl, λ _. is)

-- the same after a call, of a feed that isn't finished
pub some-later : {A E : Type 0} (finished : Bool) (P : A → Type 0) (a : A) (result : Result (Unit {0}) E) → OnOk result (finished ≡ false → P a)
    → OnOk result (finished ≡ false → ForSome (Some a) P)
some-later finished P a (Ok done) is = λ going. some-is P a (is going)
some-later finished P a (Err e) is = tt

pub some-given : {A E : Type 0} (finished : Bool) (P : A → Type 0) (a : A) (result : Result (Unit {0}) E) → (finished ≡ false → OnOk result (P a))
    → OnOk result (finished ≡ false → ForSome (Some a) P)
some-given finished P a (Ok done) is = λ going. some-is P a (is going)
some-given finished P a (Err e) is = tt
