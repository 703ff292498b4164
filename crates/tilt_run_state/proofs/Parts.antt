-- What texts of states begin with, and what their parts are.
use Rattle.std.proofs.Common.{◌≡◌, ℕ, List, [], ◌∷◌, ◌++◌, get_or, length, Option, Some, None, Result, Ok, Err, inl, inr, refl, sym, ap, subst, ◌∙◌, arith, append_assoc}
use Rattle.std.specs.Prelude.{IfOk, IfErr}
use Rattle.std.specs.List.{AllByRecursion}
use Rattle.std.specs.Option.{ForSome}
use Rattle.std.proofs.lemmas.List.{append_cancel_left}
use Rattle.tilt_checkpoint.specs.Spelling.{query_lines}
use Rattle.tilt_feed_form.specs.Setup.{SetupParts}
use Rattle.tilt_feed_form.specs.declared.feed_form.FeedForm.{FeedForm}
use Rattle.tilt_feed_form.specs.declared.feed_form.FeedForm.TheVariants.{Rows, Readings}
use Rattle.tilt_live_state.specs.Spelling.{run_lines}
use Rattle.tilt_live_state.specs.Spelling as live
use Rattle.tilt_live_state.specs.State.{InputParts, LiveStateParts}
use Rattle.tilt_live_state.specs.Valid as valid
use Rattle.tilt_live_state.specs.declared.fault.StateFault.{StateFault}
use Rattle.tilt_live_state.specs.declared.fault.StateFault.TheVariants as fault
use Rattle.tilt_reading_state.specs.Spelling.{spelled_kept}
use Rattle.tilt_reading_state.specs.Valid as readings
use Rattle.tilt_reading_text.specs.Kept.{BareText}
use Rattle.tilt_run_state.specs.Rejection.{Begins, BeginsOtherwise, Spells, SpellsNone}
use Rattle.tilt_run_state.specs.Setup.{setup_lines}
use Rattle.tilt_run_state.specs.Spelling.{kept_lines, opening, readings_line, rows_line, spelled}
use Rattle.tilt_run_state.specs.State.{RunStateParts}
use Rattle.tilt_run_state.specs.Valid.{FitsForm, IsInRange, IsKeptOf, IsStateIn, KeepsReadings}
use Rattle.tilt_watermarks.specs.Laws.{no_options}
use Rattle.tilt_watermarks.specs.declared.options.Options.{Options}

-- the first lines of states have different versions, so a text has one of them at most

versions_differ : (x y : List ℕ) → rows_line ++ x ≡ readings_line ++ y → ⊥
versions_differ x y e = let same = ap (λ (t : List ℕ). get_or t 10 0) e in omega (arith, same)

pub begins-not : (form : FeedForm) (text : List ℕ) (s : RunStateParts) → FitsForm form s → text ≡ spelled form s → ¬ (BeginsOtherwise form text)
begins-not (Rows options) text s none e =
    λ otherwise.
    versions_differ (query_lines s.state.query ++ run_lines s.state.progress s.state.inputs) otherwise.0
    (sym (e ∙ ap (λ (o : Option BareText). kept_lines o ++ live.spelled s.state) none) ∙ otherwise.1)
begins-not (Readings setup) text s keeps e =
    let behind = kept_lines s.kept ++ live.spelled s.state in
    λ otherwise.
    elim otherwise [
      | inl rows ↦ versions_differ rows.0 (setup_lines setup ++ behind) (sym rows.1 ∙ e ∙ append_assoc readings_line (setup_lines setup) behind)
      | inr other ↦ other.1 (behind, e)
    ]

-- the parts of a text behind the opening

-- this is kept, and this is the text of the state behind it
pub record AreParts (setup : SetupParts) (kept : BareText) (behind : List ℕ) (s : RunStateParts) : Type 0 where
  pub kept_is : s.kept ≡ Some kept
  pub keeps : IsKeptOf setup kept s.state
  pub spelled : behind ≡ live.spelled s.state

pub parts-of : (setup : SetupParts) (kept : BareText) (text behind : List ℕ)
    → ((other : BareText) (rest : List ℕ) → readings.IsResumable other → readings.IsInRange other → text ≡ spelled_kept other ++ rest
    → (kept ≡ other) × (behind ≡ rest))
    → (state : LiveStateParts) (o : Option BareText) → KeepsReadings setup o state → ForSome o readings.IsInRange
    → text ≡ kept_lines o ++ live.spelled state → AreParts setup kept behind (record { state = state; kept = o })
parts-of setup kept text behind only state None keeps range e = absurd keeps
parts-of setup kept text behind only state (Some other) keeps range e =
    let p = only other (live.spelled state) keeps.resumable (range other refl) e in
    record {
      kept_is = ap Some (sym p.0);
      keeps = subst (λ (k : BareText). IsKeptOf setup k state) (sym p.0) keeps;
      spelled = p.1;
    }

pub parts-only : (setup : SetupParts) (kept : BareText) (behind : List ℕ) (result : Result RunStateParts StateFault)
    → ((s : LiveStateParts) → valid.IsState s → IsKeptOf setup kept s → valid.IsInRange s → behind ≡ live.spelled s
    → IfOk result (λ found. found ≡ record { state = s; kept = Some kept }))
    → (s : RunStateParts) → IsStateIn (Readings setup) s → IsInRange s → AreParts setup kept behind s → IfOk result (λ found. found ≡ s)
parts-only setup kept behind result each s is range parts =
    subst (λ (o : Option BareText). IfOk result (λ found. found ≡ record { state = s.state; kept = o })) (sym parts.kept_is)
    (each s.state is.state parts.keeps range.state parts.spelled)

pub parts-valid : (setup : SetupParts) (kept : BareText) (result : Result RunStateParts StateFault) → IfOk result (λ s. s.kept ≡ Some kept)
    → IfOk result (λ s. valid.IsState s.state) → IfOk result (λ s. IsKeptOf setup kept s.state) → IfOk result (IsStateIn (Readings setup))
parts-valid setup kept (Ok s) same is fits = record {
  state = is;
  kept = subst (λ (o : Option BareText). KeepsReadings setup o s.state) (sym same) fits;
}
parts-valid setup kept (Err fault) same is fits = tt

pub parts-spelled : (kept : BareText) (text behind : List ℕ) (result : Result RunStateParts StateFault) → text ≡ spelled_kept kept ++ behind
    → IfOk result (λ s. s.kept ≡ Some kept) → IfOk result (λ s. behind ≡ live.spelled s.state)
    → IfOk result (λ s. text ≡ kept_lines s.kept ++ live.spelled s.state)
parts-spelled kept text behind (Ok s) e same is =
    e ∙ ap (λ (t : List ℕ). spelled_kept kept ++ t) is ∙ ap (λ (o : Option BareText). kept_lines o ++ live.spelled s.state) (sym same)
parts-spelled kept text behind (Err fault) e same is = tt

pub parts-none : (setup : SetupParts) (kept : BareText) (text behind : List ℕ) (result : Result RunStateParts StateFault)
    → ((s : RunStateParts) → IsStateIn (Readings setup) s → IsInRange s → text ≡ kept_lines s.kept ++ live.spelled s.state
    → AreParts setup kept behind s)
    → IfErr result (λ why. why ≡ fault.NotAState
    → (s : LiveStateParts) → valid.IsState s → IsKeptOf setup kept s → valid.IsInRange s → ¬ (behind ≡ live.spelled s))
    → IfErr result (λ why. why ≡ fault.NotAState
    → (s : RunStateParts) → IsStateIn (Readings setup) s → IsInRange s → ¬ (text ≡ kept_lines s.kept ++ live.spelled s.state))
parts-none setup kept text behind (Ok found) parts none = tt
parts-none setup kept text behind (Err why) parts none =
    λ same s is range e. let p = parts s is range e in none same s.state is.state p.keeps range.state p.spelled

-- a text of a run over rows

pub rows-only : (form : FeedForm) (options : Options) (text : List ℕ) (state : LiveStateParts) → form ≡ Rows options
    → ((s : LiveStateParts) → valid.IsState s → valid.IsInRange s → text ≡ live.spelled s → state ≡ s)
    → (s : RunStateParts) → IsStateIn form s → IsInRange s → text ≡ spelled form s → record { state = state; kept = None } ≡ s
rows-only form options text state same only s is range e =
    let of_rows : IsStateIn (Rows options) s = subst (λ (f : FeedForm). IsStateIn f s) same is in
    let whole : text ≡ spelled (Rows options) s = subst (λ (f : FeedForm). text ≡ spelled f s) same e in
    let none : s.kept ≡ None = of_rows.kept in
    let live = only s.state of_rows.state range.state (whole ∙ ap (λ (o : Option BareText). kept_lines o ++ live.spelled s.state) none) in
    λ i. record { state = live i; kept = sym none i }

-- a text with its opening

pub opened-spells : (form : FeedForm) (text rest : List ℕ) (result : Result RunStateParts StateFault) → text ≡ opening form ++ rest
    → IfOk result (IsStateIn form) → IfOk result (λ s. rest ≡ kept_lines s.kept ++ live.spelled s.state) → IfOk result (Spells form text)
opened-spells form text rest (Ok s) e is same = record { valid = is; is_spelled = e ∙ ap (λ (t : List ℕ). opening form ++ t) same }
opened-spells form text rest (Err why) e is same = tt

pub opened-behind : (form : FeedForm) (text rest : List ℕ) (s : RunStateParts) → text ≡ opening form ++ rest → text ≡ spelled form s
    → rest ≡ kept_lines s.kept ++ live.spelled s.state
opened-behind form text rest s e is = append_cancel_left (opening form) rest (kept_lines s.kept ++ live.spelled s.state) (sym e ∙ is)

pub spells-none : (form : FeedForm) (text : List ℕ) (why : StateFault)
    → (why ≡ fault.NotAState → (s : RunStateParts) → IsStateIn form s → IsInRange s → ¬ (text ≡ spelled form s)) → SpellsNone form text why
spells-none form text fault.NotAState none = none refl
spells-none form text fault.OutOfMemory none = tt

pub opened-none : (form : FeedForm) (text rest : List ℕ) (result : Result RunStateParts StateFault) → text ≡ opening form ++ rest
    → IfErr result (λ why. why ≡ fault.NotAState
    → (s : RunStateParts) → IsStateIn form s → IsInRange s → ¬ (rest ≡ kept_lines s.kept ++ live.spelled s.state))
    → IfErr result (SpellsNone form text)
opened-none form text rest (Ok s) e none = tt
opened-none form text rest (Err why) e none =
    spells-none form text why (λ same s is range whole. none same s is range (opened-behind form text rest s e whole))

-- what is kept fits if there are as many inputs and nothing is asked of watermarks: then they hold nothing

none-held : (lateness : Option ℕ) → lateness ≡ None → (inputs : List InputParts) → AllByRecursion (valid.IsInput lateness) inputs
    → AllByRecursion (λ input. input.held ≡ []) inputs
none-held lateness none [] are = tt
none-held lateness none (input ∷ inputs) are = (are.0.fit.none none, none-held lateness none inputs are.1)

pub kept-of : (setup : SetupParts) (kept : BareText) (s : LiveStateParts) → readings.IsResumable kept → valid.IsState s
    → length kept.readings.inputs ≡ length setup.options → s.progress.options ≡ no_options → IsKeptOf setup kept s
kept-of setup kept s resumable is counted options = record {
  resumable = resumable;
  counted = counted;
  options = options;
  none_held = none-held s.progress.options.lateness (ap (λ (o : Options). o.lateness) options) s.inputs is.run.inputs;
}
