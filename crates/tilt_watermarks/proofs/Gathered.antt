-- The rows and values of an input among all events, line by line.
use Rattle.std.proofs.Common.{◌≡◌, ◌<◌, ◌+◌, ℕ, zero, suc, ℤ, Bool, true, false, if◌then◌else◌, List, [], ◌∷◌, ◌++◌, length, map, replicate, Option, Some, None, is_none, ◌==◌}
use Rattle.std.proofs.Common.{refl, sym, ap, subst, ◌∙◌, inl, inr, arith, append_assoc, append-nil}
use Rattle.std.proofs.lemmas.Bool.{cases_Bool, eq-eqb, eqb-true, ne_eqb}
use Rattle.std.specs.List.{AllByRecursion}
use Rattle.tilt_feed.specs.Events.{is_time, update_fault}
use Rattle.tilt_feed.specs.Feed.{Feed}
use Rattle.tilt_feed.specs.declared.event.Event.{Event}
use Rattle.tilt_feed.specs.declared.event.Event.TheVariants as event
use Rattle.tilt_feed.specs.declared.update.Update.{Update}
use Rattle.tilt_feed_line.specs.declared.line.Line.{Line}
use Rattle.tilt_feed_line.specs.declared.line.Line.TheVariants as line
use Rattle.tilt_watermarks.proofs.Fitting.{next-start}
use Rattle.tilt_watermarks.proofs.Going.{IsEnd, handed-allowed}
use Rattle.tilt_watermarks.proofs.Near.{length-after, length-once, length-raised}
use Rattle.tilt_watermarks.proofs.Sorted.{IsSorted, below-more, known-sorted, pieces-append, with-after, with-pieces}
use Rattle.tilt_watermarks.proofs.Stepping.{Keeps, all-rule, followed-steps, idle-time, no-end, some-time, stepped-steps}
use Rattle.tilt_watermarks.proofs.Taking.{no-rule, rule-open}
use Rattle.tilt_watermarks.proofs.Turning.{entered-allowed}
use Rattle.tilt_watermarks.specs.Held.{Waiting, entered, given_by, known, left, turned, with_update}
use Rattle.tilt_watermarks.specs.Laws.{IsFit, gathered, pieces, stepped, stepped_all, updates_of, with_line}
use Rattle.tilt_watermarks.specs.Steps.{Kept, closed, events_at, followed, handed_at, idle_tick, input_at, inputs_entered, judged_by, line_fault, overlaps, overlaps_at, raise, raised, raising, taken, unknown}
use Rattle.tilt_watermarks.specs.declared.fault.TakeFault.{TakeFault}
use Rattle.tilt_watermarks.specs.declared.options.Options.{Options}

-- the updates of one input among events
pub updates-append : (number : ℕ) (first second : List Event) → updates_of number (first ++ second) ≡ updates_of number first ++ updates_of number second
updates-append number [] second = refl
updates-append number (event.Input input update ∷ first) second =
    let more = updates-append number first second in
    elim (cases_Bool (input == number)) [
      | inl here ↦ rw here (ap (λ (list : List Update). update ∷ list) more)
      | inr none ↦ rw none more
    ]
updates-append number (event.Finish ∷ first) second = updates-append number first second

updates-here : (number : ℕ) (updates : List Update) → updates_of number (events_at number updates) ≡ updates
updates-here number [] = refl
updates-here number (update ∷ updates) = rw (eq-eqb number number refl) (ap (λ (list : List Update). update ∷ list) (updates-here number updates))

updates-there : (input number : ℕ) (updates : List Update) → (input == number) ≡ false → updates_of number (events_at input updates) ≡ []
updates-there input number [] other = refl
updates-there input number (update ∷ updates) other = rw other (updates-there input number updates other)

-- what inputs that are counted from a higher number hand on
raising-above : (number m : ℕ) (end : Option ℤ) (inputs : List Waiting) → number < m → updates_of number (raising m end inputs) ≡ []
raising-above number m end [] above = refl
raising-above number m end (input ∷ inputs) above =
    let other : (m == number) ≡ false = ne_eqb m number (λ same. absurd (omega (arith, same, above))) in
    updates-append number (events_at m (known end input).handed) (raising (suc m) end inputs)
    ∙ ap (λ (list : List Update). list ++ updates_of number (raising (suc m) end inputs)) (updates-there m number (known end input).handed other)
    ∙ raising-above number (suc m) end inputs (omega arith)

-- and what the input with the number hands on
raising-updates : (number m k : ℕ) (end : Option ℤ) (inputs : List Waiting) → m + k ≡ number → k < length inputs
    → updates_of number (raising m end inputs) ≡ (known end (input_at inputs k)).handed
raising-updates number m k end [] at within = absurd (omega arith)
raising-updates number m zero end (input ∷ inputs) at within =
    let same : m ≡ number = omega arith in
    let handed = (known end input).handed in
    updates-append number (events_at m handed) (raising (suc m) end inputs)
    ∙ ap (λ (list : List Update). list ++ updates_of number (raising (suc m) end inputs))
    (subst (λ (n : ℕ). updates_of n (events_at m handed) ≡ handed) same (updates-here m handed))
    ∙ ap (λ (list : List Update). handed ++ list) (raising-above number (suc m) end inputs (omega arith))
    ∙ append-nil handed
raising-updates number m (suc k) end (input ∷ inputs) at within =
    let other : (m == number) ≡ false = ne_eqb m number (λ same. absurd (omega (arith, same, at))) in
    updates-append number (events_at m (known end input).handed) (raising (suc m) end inputs)
    ∙ ap (λ (list : List Update). list ++ updates_of number (raising (suc m) end inputs)) (updates-there m number (known end input).handed other)
    ∙ raising-updates number (suc m) k end inputs (omega arith) (omega arith)

raised-at : (number : ℕ) (end : Option ℤ) (inputs : List Waiting) → number < length inputs → input_at (map (raised end) inputs) number ≡ raised end (input_at inputs number)
raised-at number end [] within = absurd (omega arith)
raised-at zero end (input ∷ inputs) within = refl
raised-at (suc number) end (input ∷ inputs) within = raised-at number end inputs (omega arith)

closed-at : (number : ℕ) (inputs : List Waiting) → number < length inputs → input_at (map closed inputs) number ≡ closed (input_at inputs number)
closed-at number [] within = absurd (omega arith)
closed-at zero (input ∷ inputs) within = refl
closed-at (suc number) (input ∷ inputs) within = closed-at number inputs (omega arith)

fit-at : (lateness : Option ℕ) (number : ℕ) (inputs : List Waiting) → number < length inputs → AllByRecursion (IsFit lateness) inputs → IsFit lateness (input_at inputs number)
fit-at lateness number [] within fit = absurd (omega arith)
fit-at lateness zero (input ∷ inputs) within fit = fit.0
fit-at lateness (suc number) (input ∷ inputs) within fit = fit-at lateness number inputs (omega arith) fit.1

-- an update of it, and of another one
entered-here : (lateness : Option ℕ) (number : ℕ) (update : Update) (inputs : List Waiting) → number < length inputs
    → input_at (inputs_entered lateness number update inputs) number ≡ turned (entered lateness update (input_at inputs number)) (input_at inputs number).edge
entered-here lateness number update [] within = absurd (omega arith)
entered-here lateness zero update (input ∷ inputs) within = refl
entered-here lateness (suc number) update (input ∷ inputs) within = entered-here lateness number update inputs (omega arith)

handed-here : (lateness : Option ℕ) (number : ℕ) (update : Update) (inputs : List Waiting) → number < length inputs
    → handed_at lateness number update inputs ≡ (entered lateness update (input_at inputs number)).handed
handed-here lateness number update [] within = absurd (omega arith)
handed-here lateness zero update (input ∷ inputs) within = refl
handed-here lateness (suc number) update (input ∷ inputs) within = handed-here lateness number update inputs (omega arith)

overlaps-here : (lateness : Option ℕ) (number : ℕ) (update : Update) (inputs : List Waiting) → number < length inputs
    → overlaps_at lateness inputs number update ≡ overlaps lateness (input_at inputs number) update
overlaps-here lateness number update [] within = absurd (omega arith)
overlaps-here lateness zero update (input ∷ inputs) within = refl
overlaps-here lateness (suc number) update (input ∷ inputs) within = overlaps-here lateness number update inputs (omega arith)

entered-there : (lateness : Option ℕ) (number other : ℕ) (update : Update) (inputs : List Waiting) → (number ≡ other → ⊥)
    → input_at (inputs_entered lateness number update inputs) other ≡ input_at inputs other
entered-there lateness number other update [] not-same = refl
entered-there lateness zero zero update (input ∷ inputs) not-same = absurd (not-same refl)
entered-there lateness zero (suc other) update (input ∷ inputs) not-same = refl
entered-there lateness (suc number) zero update (input ∷ inputs) not-same = refl
entered-there lateness (suc number) (suc other) update (input ∷ inputs) not-same = entered-there lateness number other update inputs (λ same. not-same (ap suc same))

-- what the input with a number has handed on by events, and what it holds, is what was gathered
abbrev pub SortedAt : ℕ → List Event → List Waiting → List Update → Type 0
SortedAt number events inputs all = IsSorted (pieces (updates_of number events)) (input_at inputs number) all

-- more events
more-pieces : (number : ℕ) (before events : List Event) (updates : List Update) → updates_of number events ≡ updates
    → pieces (updates_of number before) ++ pieces updates ≡ pieces (updates_of number (before ++ events))
more-pieces number before events updates is =
    ap (λ (list : List Update). pieces (updates_of number before) ++ pieces list) (sym is)
    ∙ sym (pieces-append (updates_of number before) (updates_of number events))
    ∙ ap pieces (sym (updates-append number before events))

sorted-then : (number : ℕ) (before events : List Event) (updates : List Update) (input : Waiting) (inputs : List Waiting) (all : List Update) → updates_of number events ≡ updates
    → input_at inputs number ≡ input → IsSorted (pieces (updates_of number before) ++ pieces updates) input all → SortedAt number (before ++ events) inputs all
sorted-then number before events updates input inputs all is at sorted =
    subst (λ (done : List Update). IsSorted done (input_at inputs number) all) (more-pieces number before events updates is)
    (subst (λ (i : Waiting). IsSorted (pieces (updates_of number before) ++ pieces updates) i all) (sym at) sorted)

raise-sorted : (lateness : Option ℕ) (number : ℕ) (before : List Event) (end : Option ℤ) (inputs : List Waiting) (all : List Update) → IsEnd end → AllByRecursion (IsFit lateness) inputs
    → number < length inputs → SortedAt number before inputs all → SortedAt number (before ++ raising 0 end inputs) (map (raised end) inputs) all
raise-sorted lateness number before end inputs all times fit within sorted =
    let input = input_at inputs number in
    sorted-then number before (raising 0 end inputs) (known end input).handed (raised end input) (map (raised end) inputs) all
    (raising-updates number 0 number end inputs (omega arith) within) (raised-at number end inputs within)
    (known-sorted (pieces (updates_of number before)) all end input sorted (handed-allowed end input times (fit-at lateness number inputs within fit).fits))

-- nothing more of it
sorted-same : (number : ℕ) (before events : List Event) (inputs later : List Waiting) (all : List Update) → updates_of number events ≡ []
    → input_at later number ≡ input_at inputs number → SortedAt number before inputs all → SortedAt number (before ++ events) later all
sorted-same number before events inputs later all none at sorted =
    sorted-then number before events [] (input_at inputs number) later all none at
    (subst (λ (done : List Update). IsSorted done (input_at inputs number) all) (sym (append-nil (pieces (updates_of number before)))) sorted)

-- an update comes
entered-sorted : (ticks number : ℕ) (update : Update) (before : List Event) (inputs : List Waiting) (all : List Update) → AllByRecursion (IsFit (Some ticks)) inputs
    → number < length inputs → overlaps_at (Some ticks) inputs number update ≡ false → update_fault false (judged_by (Some ticks) (input_at inputs number).edge) update ≡ None
    → SortedAt number before inputs all
    → SortedAt number (before ++ events_at number (handed_at (Some ticks) number update inputs)) (inputs_entered (Some ticks) number update inputs) (with_update update all)
entered-sorted ticks number update before inputs all fit within fits-in rule sorted =
    let input = input_at inputs number in
    let turn = entered (Some ticks) update input in
    let fits-here = sym (overlaps-here (Some ticks) number update inputs within) ∙ fits-in in
    let done = pieces (updates_of number before) in
    let now : Waiting = record { edge = input.edge; held = with_update update input.held } in
    let below = below-more input.edge.watermark _ done (next-start input.edge.watermark update rule) sorted.below in
    let with : IsSorted done now (with_update update all) = record {
      is = sym (with-after update done input.held below) ∙ ap (with_update update) sorted.is;
      below = sorted.below;
      held = with-pieces update input.held sorted.held;
    } in
    sorted-then number before (events_at number (handed_at (Some ticks) number update inputs)) turn.handed (turned turn input.edge)
    (inputs_entered (Some ticks) number update inputs) (with_update update all)
    (ap (λ (list : List Update). updates_of number (events_at number list)) (handed-here (Some ticks) number update inputs within) ∙ updates-here number turn.handed)
    (entered-here (Some ticks) number update inputs within)
    (known-sorted done (with_update update all) (Some (given_by (Some ticks) update)) now with
    (entered-allowed (Some ticks) update input (fit-at (Some ticks) number inputs within fit) fits-here rule))

closed-sorted : (number : ℕ) (before : List Event) (inputs : List Waiting) (all : List Update) → number < length inputs → SortedAt number before inputs all
    → SortedAt number (before ++ event.Finish ∷ []) (map closed inputs) all
closed-sorted number before inputs all within sorted =
    sorted-then number before (event.Finish ∷ []) [] (closed (input_at inputs number)) (map closed inputs) all refl (closed-at number inputs within)
    (subst (λ (done : List Update). IsSorted done (closed (input_at inputs number)) all) (sym (append-nil (pieces (updates_of number before))))
    (record { is = sorted.is; below = sorted.below; held = sorted.held }))

-- a line that is taken
other-line : (number input : ℕ) (update : Update) (all : List Update) → (input == number) ≡ false → with_line number (line.Update input update) all ≡ all
other-line number input update all other = rw other refl

same-line : (number input : ℕ) (update : Update) (all : List Update) → (input == number) ≡ true → with_line number (line.Update input update) all ≡ with_update update all
same-line number input update all same = rw same refl

module _ (idle ahead : Option ℕ) (ticks : ℕ) where
  abbrev options : Options
  options = record { idle = idle; ahead = ahead; lateness = Some ticks }

  update-sorted : (b : Bool) (number input : ℕ) (update : Update) (before : List Event) (kept : Kept) (feed : Feed) (all : List Update) → (input == number) ≡ b
      → Keeps (Some ticks) kept feed → line_fault options kept (line.Update input update) ≡ None → number < length kept.inputs → SortedAt number before kept.inputs all
      → SortedAt number (before ++ events_at input (handed_at (Some ticks) input update kept.inputs)) (inputs_entered (Some ticks) input update kept.inputs)
      (with_line number (line.Update input update) all)
  update-sorted true number input update before kept feed all same keeps is within sorted =
      let rules = no-rule options kept (line.Update input update) is in
      let opens = rule-open kept.finished (judged_by (Some ticks) (input_at kept.inputs input).edge) update rules.0 in
      let at : number ≡ input = sym (eqb-true input number same) in
      let rule = ap (λ (b : Bool). update_fault b (judged_by (Some ticks) (input_at kept.inputs input).edge) update) (sym opens) ∙ rules.0 in
      let here = entered-sorted ticks input update before kept.inputs all keeps.held (subst (λ (n : ℕ). n < length kept.inputs) at within) rules.1 rule
      (subst (λ (n : ℕ). SortedAt n before kept.inputs all) at sorted) in
      subst (λ (list : List Update). SortedAt number (before ++ events_at input (handed_at (Some ticks) input update kept.inputs)) (inputs_entered (Some ticks) input update kept.inputs) list)
      (sym (same-line number input update all same))
      (subst (λ (n : ℕ). SortedAt n (before ++ events_at input (handed_at (Some ticks) input update kept.inputs)) (inputs_entered (Some ticks) input update kept.inputs) (with_update update all))
      (sym at) here)
  update-sorted false number input update before kept feed all other keeps is within sorted =
      subst (λ (list : List Update). SortedAt number (before ++ events_at input (handed_at (Some ticks) input update kept.inputs)) (inputs_entered (Some ticks) input update kept.inputs) list)
      (sym (other-line number input update all other))
      (sorted-same number before (events_at input (handed_at (Some ticks) input update kept.inputs)) kept.inputs (inputs_entered (Some ticks) input update kept.inputs) all
      (updates-there input number (handed_at (Some ticks) input update kept.inputs) other)
      (entered-there (Some ticks) input number update kept.inputs (λ same. let yes = eq-eqb input number same in cc (yes, other)))
      sorted)

  followed-sorted : (number : ℕ) (line : Line) (before : List Event) (kept : Kept) (feed : Feed) (all : List Update) → Keeps (Some ticks) kept feed → line_fault options kept line ≡ None
      → number < length kept.inputs → SortedAt number before kept.inputs all
      → SortedAt number (before ++ (followed (Some ticks) line kept).events) (followed (Some ticks) line kept).kept.inputs (with_line number line all)
  followed-sorted number (line.Update input update) before kept feed all keeps is within sorted =
      update-sorted (input == number) number input update before kept feed all refl keeps is within sorted
  followed-sorted number (line.AllKnownUpTo tick) before kept feed all keeps is within sorted =
      let time = (all-rule kept.finished (is_time tick) (no-rule options kept (line.AllKnownUpTo tick) is).0).1 in
      raise-sorted (Some ticks) number before (Some tick) kept.inputs all (some-time tick time) keeps.held within sorted
  followed-sorted number line.Finish before kept feed all keeps is within sorted =
      let inputs = map (raised None) kept.inputs in
      let events = raising 0 None kept.inputs in
      let raised-now = raise-sorted (Some ticks) number before None kept.inputs all no-end keeps.held within sorted in
      subst (λ (list : List Event). SortedAt number list (map closed inputs) all) (append_assoc before events (event.Finish ∷ []))
      (closed-sorted number (before ++ events) inputs all (subst (λ (n : ℕ). number < n) (sym (length-raised None kept.inputs)) within) raised-now)

  idle-sorted : (number : ℕ) (target : Option ℤ) (before : List Event) (kept : Kept) (feed : Feed) (all : List Update) → Keeps (Some ticks) kept feed → IsEnd target
      → number < length kept.inputs → SortedAt number before kept.inputs all
      → SortedAt number (before ++ (raise target kept).events) (raise target kept).kept.inputs all
  idle-sorted number None before kept feed all keeps times within sorted =
      subst (λ (list : List Event). SortedAt number list kept.inputs all) (sym (append-nil before)) sorted
  idle-sorted number (Some tick) before kept feed all keeps times within sorted =
      raise-sorted (Some ticks) number before (Some tick) kept.inputs all times keeps.held within sorted

  taken-sorted : (number : ℕ) (line : Line) (before : List Event) (kept : Kept) (feed : Feed) (all : List Update) → Keeps (Some ticks) kept feed → line_fault options kept line ≡ None
      → number < length kept.inputs → SortedAt number before kept.inputs all
      → SortedAt number (before ++ (taken options line kept).events) (taken options line kept).kept.inputs (with_line number line all)
  taken-sorted number line before kept feed all keeps is within sorted =
      let first = followed (Some ticks) line kept in
      let target = idle_tick idle first.kept.finished first.kept.greatest in
      let steps = followed-steps options line kept feed keeps is in
      let many = subst (λ (n : ℕ). number < n) (sym (length-after (Some ticks) line kept.inputs)) within in
      subst (λ (list : List Event). SortedAt number list (taken options line kept).kept.inputs (with_line number line all)) (append_assoc before first.events (raise target first.kept).events)
      (idle-sorted number target (before ++ first.events) first.kept steps.later (with_line number line all) steps.keeps
      (idle-time idle first.kept.finished first.kept.greatest steps.keeps.greatest) many
      (followed-sorted number line before kept feed all keeps is within sorted))

  stepped-sorted : (fault : Option TakeFault) (number : ℕ) (line : Line) (before : List Event) (kept : Kept) (feed : Feed) (all : List Update) → line_fault options kept line ≡ fault
      → Keeps (Some ticks) kept feed → number < length kept.inputs → SortedAt number before kept.inputs all
      → SortedAt number (before ++ (if is_none fault then taken options line kept else record { kept = kept; events = [] }).events)
      (if is_none fault then taken options line kept else record { kept = kept; events = [] }).kept.inputs (if is_none fault then with_line number line all else all)
  stepped-sorted None number line before kept feed all is keeps within sorted = taken-sorted number line before kept feed all keeps is within sorted
  stepped-sorted (Some fault) number line before kept feed all is keeps within sorted =
      subst (λ (list : List Event). SortedAt number list kept.inputs all) (sym (append-nil before)) sorted

  pub all-sorted : (number : ℕ) (lines : List Line) (before : List Event) (kept : Kept) (feed : Feed) (all : List Update) → Keeps (Some ticks) kept feed → number < length kept.inputs
      → SortedAt number before kept.inputs all
      → SortedAt number (before ++ (stepped_all options lines kept).events) (stepped_all options lines kept).kept.inputs (gathered options number lines kept all)
  all-sorted number [] before kept feed all keeps within sorted = subst (λ (list : List Event). SortedAt number list kept.inputs all) (sym (append-nil before)) sorted
  all-sorted number (line ∷ lines) before kept feed all keeps within sorted =
      let first = stepped options line kept in
      let steps = stepped-steps options line kept feed keeps in
      let many = subst (λ (n : ℕ). number < n) (sym (length-once options line kept)) within in
      let list = if is_none (line_fault options kept line) then with_line number line all else all in
      subst (λ (events : List Event). SortedAt number events (stepped_all options lines first.kept).kept.inputs (gathered options number lines first.kept list))
      (append_assoc before first.events (stepped_all options lines first.kept).events)
      (all-sorted number lines (before ++ first.events) first.kept steps.later list steps.keeps many
      (stepped-sorted (line_fault options kept line) number line before kept feed all refl keeps within sorted))

pub unknown-at : (number inputs : ℕ) → input_at (replicate inputs unknown) number ≡ unknown
unknown-at number zero = refl
unknown-at zero (suc inputs) = refl
unknown-at (suc number) (suc inputs) = unknown-at number inputs

pub sorted-first : (number inputs : ℕ) → SortedAt number [] (replicate inputs unknown) []
sorted-first number inputs =
    subst (λ (i : Waiting). IsSorted [] i []) (sym (unknown-at number inputs)) (record { is = refl; below = tt; held = tt })

-- when the feed is finished, nothing is held
abbrev pub IsEnded : Kept → Type 0
IsEnded kept = (number : ℕ) → kept.finished ≡ true → (input_at kept.inputs number).held ≡ []

left-none : (updates : List Update) → left None updates ≡ []
left-none [] = refl
left-none (update ∷ updates) = left-none updates

ended-at : (inputs : List Waiting) (number : ℕ) → (input_at (map closed (map (raised None) inputs)) number).held ≡ []
ended-at [] number = refl
ended-at (input ∷ inputs) zero = left-none input.held
ended-at (input ∷ inputs) (suc number) = ended-at inputs number

raise-ended : (idle : Option ℕ) (finished : Bool) (greatest : Option ℤ) (kept : Kept) → kept.finished ≡ finished → IsEnded kept → IsEnded (raise (idle_tick idle finished greatest) kept).kept
raise-ended None finished greatest kept is ended = ended
raise-ended (Some ticks) true greatest kept is ended = ended
raise-ended (Some ticks) false None kept is ended = ended
raise-ended (Some ticks) false (Some g) kept is ended = λ number at. absurd (cc (is, at))

followed-ended : (lateness : Option ℕ) (line : Line) (kept : Kept) → IsEnded (followed lateness line kept).kept
followed-ended lateness (line.Update input update) kept number at = absurd (cc at)
followed-ended lateness (line.AllKnownUpTo tick) kept number at = absurd (cc at)
followed-ended lateness line.Finish kept number at = ended-at kept.inputs number

stepped-ended : (fault : Option TakeFault) (asked : Options) (line : Line) (kept : Kept) → IsEnded kept
    → IsEnded (if is_none fault then taken asked line kept else record { kept = kept; events = [] }).kept
stepped-ended (Some fault) asked line kept ended = ended
stepped-ended None asked line kept ended =
    let middle = (followed asked.lateness line kept).kept in
    raise-ended asked.idle middle.finished middle.greatest middle refl (followed-ended asked.lateness line kept)

pub all-ended : (asked : Options) (lines : List Line) (kept : Kept) → IsEnded kept → IsEnded (stepped_all asked lines kept).kept
all-ended asked [] kept ended = ended
all-ended asked (line ∷ lines) kept ended =
    all-ended asked lines (stepped asked line kept).kept (stepped-ended (line_fault asked kept line) asked line kept ended)
