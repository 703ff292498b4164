-- What lines do to a feed, by the events that they hand on.
use Rattle.std.proofs.Common.{◌≡◌, ◌≤◌, ◌+◌, ℕ, zero, suc, ℤ, ◌≤ℤ◌, Bool, true, false, if◌then◌else◌, List, [], ◌∷◌, ◌++◌, length, map, replicate, Option, Some, None, is_none}
use Rattle.std.proofs.Common.{refl, sym, ap, subst, ◌∙◌, arith, length-append}
use Rattle.std.proofs.lemmas.Int.{ints, clamps}
use Rattle.std.proofs.lemmas.Option.{same_Some}
use Rattle.std.specs.List.{AllByRecursion}
use Rattle.std.specs.Option.{ForSome}
use Rattle.tilt_base.specs.declared.limits.TheConstants.{T}
use Rattle.tilt_feed.proofs.Updates.{time-high}
use Rattle.tilt_feed.specs.Events.{changed_by, is_time, update_fault}
use Rattle.tilt_feed.specs.Feed.{Feed, InputFeed, empty_feed, unknown_input}
use Rattle.tilt_feed.specs.declared.edge.Edge.{Edge}
use Rattle.tilt_feed.specs.declared.event.Event.{Event}
use Rattle.tilt_feed.specs.declared.event.Event.TheVariants as event
use Rattle.tilt_feed.specs.declared.fault.EventFault.TheVariants.{Finished, OutOfRange}
use Rattle.tilt_feed.specs.declared.update.Update.{Update}
use Rattle.tilt_feed_line.specs.declared.line.Line.{Line}
use Rattle.tilt_feed_line.specs.declared.line.Line.TheVariants as line
use Rattle.tilt_watermarks.proofs.Going.{Allowed, Goes, IsEnd, Match, all_updated, allowed-rise, closed-match, edge-past, goes-none, goes-on, goes-one, handed-allowed, match-edge, open_feed, raised-match, raising-goes, shifted, turn-goes, updated-past, updated_all}
use Rattle.tilt_watermarks.proofs.Taking.{no-rule, rule-high, rule-open}
use Rattle.tilt_watermarks.proofs.Turning.{all-closed-fit, all-raised-fit, entered-allowed, entered-fit, given-high, less-time}
use Rattle.tilt_watermarks.specs.Held.{Waiting, entered, given_by, known, less, turned}
use Rattle.tilt_watermarks.specs.Laws.{AreRising, IsFit, IsKeptOf, edges_of, stepped, stepped_all}
use Rattle.tilt_watermarks.specs.Steps.{Kept, Step, closed, events_at, followed, followed_by, greater, handed_at, idle_tick, input_at, inputs_entered, judged_by, line_fault, nothing_kept, overlaps_at, raise, raised, raising, taken, unknown}
use Rattle.tilt_watermarks.specs.declared.fault.TakeFault.{TakeFault}
use Rattle.tilt_watermarks.specs.declared.options.Options.{Options}

-- what is kept is that of a feed
pub record Keeps (lateness : Option ℕ) (kept : Kept) (feed : Feed) : Type 0 where
  pub inputs : Match kept.inputs feed.inputs
  pub finished : kept.finished ≡ feed.finished
  pub held : AllByRecursion (IsFit lateness) kept.inputs
  pub greatest : ForSome kept.greatest (λ t. t ≤ℤ T)

-- the events of a step are allowed in a feed, what is kept then is that of the feed after them, and no watermark has fallen
pub record Steps (lateness : Option ℕ) (kept : Kept) (step : Step) (feed : Feed) : Type 0 where
  pub later : Feed
  pub goes : Goes step.events feed later
  pub keeps : Keeps lateness step.kept later
  pub rises : AreRising kept step.kept

pub steps-none : (lateness : Option ℕ) (kept : Kept) (feed : Feed) → Keeps lateness kept feed → Steps lateness kept (record { kept = kept; events = [] }) feed
steps-none lateness kept feed keeps = record { later = feed; goes = goes-none feed; keeps = keeps; rises = λ n. omega (arith, ints) }

steps-on : (lateness : Option ℕ) (kept : Kept) (next : Kept → Step) (first : Step) (feed : Feed) → Steps lateness kept first feed
    → ((later : Feed) → Keeps lateness first.kept later → Steps lateness first.kept (next first.kept) later) → Steps lateness kept (followed_by next first) feed
steps-on lateness kept next first feed steps more =
    let rest = more steps.later steps.keeps in
    record {
      later = rest.later;
      goes = goes-on first.events (next first.kept).events feed steps.later rest.later steps.goes rest.goes;
      keeps = rest.keeps;
      rises = λ n. (let low = steps.rises n in let high = rest.rises n in omega (arith, ints, low, high));
    }

-- a feed that isn't finished
opened : (feed : Feed) → feed.finished ≡ false → feed ≡ open_feed feed.inputs
opened feed is = ap (λ (b : Bool). let f : Feed = record { inputs = feed.inputs; finished = b } in f) is

-- the greatest watermark is a time
greater-high : (greatest : Option ℤ) (tick : ℤ) → ForSome greatest (λ t. t ≤ℤ T) → tick ≤ℤ T → greater greatest tick ≤ℤ T
greater-high None tick high on = on
greater-high (Some g) tick high on =
    let at : g ≤ℤ T = high g refl in
    omega (arith, ints, clamps)

some-high : (tick : ℤ) → tick ≤ℤ T → ForSome (Some tick) (λ t. t ≤ℤ T)
some-high tick high x is = subst (λ (t : ℤ). t ≤ℤ T) (same_Some tick x is) high

pub some-time : (tick : ℤ) → is_time tick ≡ true → IsEnd (Some tick)
some-time tick time x is = subst (λ (t : ℤ). is_time t ≡ true) (same_Some tick x is) time

pub no-end : IsEnd None
no-end x is = absurd (cc is)

-- all inputs become known up to an end
raised-rise : (lateness : Option ℕ) (end : Option ℤ) (inputs : List Waiting) (n : ℕ) → IsEnd end → AllByRecursion (IsFit lateness) inputs
    → (input_at inputs n).edge.watermark ≤ℤ (input_at (map (raised end) inputs) n).edge.watermark
raised-rise lateness end [] n times fit = omega (arith, ints)
raised-rise lateness end (input ∷ inputs) zero times fit = allowed-rise input.edge (known end input).handed (handed-allowed end input times fit.0.fits)
raised-rise lateness end (input ∷ inputs) (suc n) times fit = raised-rise lateness end inputs n times fit.1

raising-open : (lateness : Option ℕ) (end : Option ℤ) (inputs : List Waiting) (feed : Feed) → IsEnd end → Match inputs feed.inputs → AllByRecursion (IsFit lateness) inputs
    → feed.finished ≡ false → Goes (raising 0 end inputs) feed (open_feed (all_updated end inputs feed.inputs))
raising-open lateness end inputs feed times is fit opens =
    subst (λ (f : Feed). Goes (raising 0 end inputs) f (open_feed (all_updated end inputs feed.inputs))) (sym (opened feed opens))
    (raising-goes lateness end zero [] inputs feed.inputs times is fit refl)

raise-steps : (lateness : Option ℕ) (tick : ℤ) (kept : Kept) (feed : Feed) → Keeps lateness kept feed → kept.finished ≡ false → is_time tick ≡ true
    → Steps lateness kept (raise (Some tick) kept) feed
raise-steps lateness tick kept feed keeps opens time = record {
  later = open_feed (all_updated (Some tick) kept.inputs feed.inputs);
  goes = raising-open lateness (Some tick) kept.inputs feed (some-time tick time) keeps.inputs keeps.held (sym keeps.finished ∙ opens);
  keeps = record {
    inputs = raised-match (Some tick) kept.inputs feed.inputs keeps.inputs;
    finished = opens;
    held = all-raised-fit lateness (Some tick) kept.inputs keeps.held;
    greatest = keeps.greatest;
  };
  rises = λ n. raised-rise lateness (Some tick) kept.inputs n (some-time tick time) keeps.held;
}

idle-cases : (lateness idle : Option ℕ) (finished : Bool) (greatest : Option ℤ) (kept : Kept) (feed : Feed) → Keeps lateness kept feed → kept.finished ≡ finished
    → kept.greatest ≡ greatest → Steps lateness kept (raise (idle_tick idle finished greatest) kept) feed
idle-cases lateness None finished greatest kept feed keeps opens same = steps-none lateness kept feed keeps
idle-cases lateness (Some ticks) true greatest kept feed keeps opens same = steps-none lateness kept feed keeps
idle-cases lateness (Some ticks) false None kept feed keeps opens same = steps-none lateness kept feed keeps
idle-cases lateness (Some ticks) false (Some g) kept feed keeps opens same =
    raise-steps lateness (less ticks g) kept feed keeps opens (less-time ticks g (keeps.greatest g same))

-- where `idle` says that inputs are known is a time
pub idle-time : (idle : Option ℕ) (finished : Bool) (greatest : Option ℤ) → ForSome greatest (λ t. t ≤ℤ T) → IsEnd (idle_tick idle finished greatest)
idle-time None finished greatest high = no-end
idle-time (Some ticks) true greatest high = no-end
idle-time (Some ticks) false None high = no-end
idle-time (Some ticks) false (Some g) high = some-time (less ticks g) (less-time ticks g (high g refl))

-- an input takes an update
pub record Entered (lateness : Option ℕ) (number k : ℕ) (update : Update) (front : List InputFeed) (inputs : List Waiting) (feeds : List InputFeed) : Type 0 where
  pub later : List InputFeed
  pub goes : Goes (events_at number (handed_at lateness k update inputs)) (open_feed (front ++ feeds)) (open_feed (front ++ later))
  pub is : Match (inputs_entered lateness k update inputs) later
  pub held : AllByRecursion (IsFit lateness) (inputs_entered lateness k update inputs)
  pub rises : (n : ℕ) → (input_at inputs n).edge.watermark ≤ℤ (input_at (inputs_entered lateness k update inputs) n).edge.watermark

judged-unknown : (lateness : Option ℕ) → judged_by lateness unknown.edge ≡ unknown_input.edge
judged-unknown None = refl
judged-unknown (Some ticks) = refl

first-rises : (input now : Waiting) (inputs : List Waiting) → input.edge.watermark ≤ℤ now.edge.watermark → (n : ℕ)
    → (input_at (input ∷ inputs) n).edge.watermark ≤ℤ (input_at (now ∷ inputs) n).edge.watermark
first-rises input now inputs low zero = low
first-rises input now inputs low (suc n) = omega (arith, ints)

later-rises : (input : Waiting) (inputs later : List Waiting) → ((n : ℕ) → (input_at inputs n).edge.watermark ≤ℤ (input_at later n).edge.watermark) → (n : ℕ)
    → (input_at (input ∷ inputs) n).edge.watermark ≤ℤ (input_at (input ∷ later) n).edge.watermark
later-rises input inputs later low zero = omega (arith, ints)
later-rises input inputs later low (suc n) = low n

entered-steps : (lateness : Option ℕ) (number k : ℕ) (update : Update) (front : List InputFeed) (inputs : List Waiting) (feeds : List InputFeed) → Match inputs feeds
    → AllByRecursion (IsFit lateness) inputs → length front + k ≡ number → overlaps_at lateness inputs k update ≡ false
    → update_fault false (judged_by lateness (input_at inputs k).edge) update ≡ None → Entered lateness number k update front inputs feeds
entered-steps lateness number k update front [] [] is fit at fits-in rule =
    let past : length (front ++ []) ≤ number = simp length-append (omega arith) in
    let feed = open_feed (front ++ []) in
    let allowed = ap (λ (edge : Edge). update_fault false edge update) (edge-past (front ++ []) number past ∙ sym (judged-unknown lateness)) ∙ rule in
    record {
      later = [];
      goes = subst (λ (inputs : List InputFeed). Goes (event.Input number update ∷ []) feed (open_feed inputs)) (updated-past (front ++ []) number update past)
          (goes-one (event.Input number update) feed allowed);
      is = tt;
      held = tt;
      rises = λ n. omega (arith, ints);
    }
entered-steps lateness number k update front [] (feed ∷ feeds) is fit at fits-in rule = absurd is
entered-steps lateness number k update front (input ∷ inputs) [] is fit at fits-in rule = absurd is
entered-steps lateness number zero update front (input ∷ inputs) (feed ∷ feeds) is fit at fits-in rule =
    let turn = entered lateness update input in
    let allowed = entered-allowed lateness update input fit.0 fits-in rule in
    record {
      later = updated_all turn.handed feed ∷ feeds;
      goes = turn-goes turn.handed number front feed feeds (omega arith) (subst (λ (edge : Edge). Allowed edge turn.handed) is.0 allowed);
      is = (match-edge turn.handed input.edge feed is.0, is.1);
      held = (entered-fit lateness update input fit.0 fits-in, fit.1);
      rises = first-rises input (turned turn input.edge) inputs (allowed-rise input.edge turn.handed allowed);
    }
entered-steps lateness number (suc k) update front (input ∷ inputs) (feed ∷ feeds) is fit at fits-in rule =
    let many : length (front ++ feed ∷ []) + k ≡ number = simp length-append (omega arith) in
    let more = entered-steps lateness number k update (front ++ feed ∷ []) inputs feeds is.1 fit.1 many fits-in rule in
    record {
      later = feed ∷ more.later;
      goes = shifted (events_at number (handed_at lateness k update inputs)) front feed feeds more.later more.goes;
      is = (is.0, more.is);
      held = (fit.0, more.held);
      rises = later-rises input inputs (inputs_entered lateness k update inputs) more.rises;
    }

-- what a line does, `idle` aside
pub all-rule : (finished time : Bool) → (if finished then Some Finished else if time then None else Some OutOfRange) ≡ None → (finished ≡ false) × (time ≡ true)
all-rule true time is = absurd (cc is)
all-rule false true is = (refl, refl)
all-rule false false is = absurd (cc is)

end-rule : (finished : Bool) → (if finished then Some Finished else None) ≡ None → finished ≡ false
end-rule true is = absurd (cc is)
end-rule false is = refl

closed-rise : (inputs : List Waiting) (n : ℕ) → (input_at inputs n).edge.watermark ≤ℤ (input_at (map closed inputs) n).edge.watermark
closed-rise [] n = omega (arith, ints)
closed-rise (input ∷ inputs) zero = omega (arith, ints)
closed-rise (input ∷ inputs) (suc n) = closed-rise inputs n

finish-goes : (feed later : Feed) (events : List Event) → Goes events feed later → later.finished ≡ false
    → Goes (events ++ event.Finish ∷ []) feed (changed_by event.Finish later.inputs)
finish-goes feed later events goes opens =
    goes-on events (event.Finish ∷ []) feed later (changed_by event.Finish later.inputs) goes
    (goes-one event.Finish later (ap (λ (b : Bool). if b then Some Finished else None) opens))

pub followed-steps : (options : Options) (line : Line) (kept : Kept) (feed : Feed) → Keeps options.lateness kept feed → line_fault options kept line ≡ None
    → Steps options.lateness kept (followed options.lateness line kept) feed
followed-steps options (line.Update number update) kept feed keeps is =
    let rules = no-rule options kept (line.Update number update) is in
    let opens = rule-open kept.finished _ update rules.0 in
    let high = given-high options.lateness update (rule-high kept.finished _ update rules.0) in
    let rule = ap (λ (b : Bool). update_fault b (judged_by options.lateness (input_at kept.inputs number).edge) update) (sym opens) ∙ rules.0 in
    let turn = entered-steps options.lateness number number update [] kept.inputs feed.inputs keeps.inputs keeps.held (omega arith) rules.1 rule in
    record {
      later = open_feed turn.later;
      goes = subst (λ (f : Feed). Goes (events_at number (handed_at options.lateness number update kept.inputs)) f (open_feed turn.later))
          (sym (opened feed (sym keeps.finished ∙ opens))) turn.goes;
      keeps = record {
        inputs = turn.is;
        finished = refl;
        held = turn.held;
        greatest = some-high (greater kept.greatest (given_by options.lateness update)) (greater-high kept.greatest (given_by options.lateness update) keeps.greatest high);
      };
      rises = turn.rises;
    }
followed-steps options (line.AllKnownUpTo tick) kept feed keeps is =
    let rules = no-rule options kept (line.AllKnownUpTo tick) is in
    let known = all-rule kept.finished (is_time tick) rules.0 in
    let high = time-high tick known.1 in
    let steps = raise-steps options.lateness tick kept feed keeps known.0 known.1 in
    record {
      later = steps.later;
      goes = steps.goes;
      keeps = record {
        inputs = steps.keeps.inputs;
        finished = sym known.0 ∙ steps.keeps.finished;
        held = steps.keeps.held;
        greatest = some-high (greater kept.greatest tick) (greater-high kept.greatest tick keeps.greatest high);
      };
      rises = steps.rises;
    }
followed-steps options line.Finish kept feed keeps is =
    let rules = no-rule options kept line.Finish is in
    let opens = end-rule kept.finished rules.0 in
    let goes = raising-open options.lateness None kept.inputs feed no-end keeps.inputs keeps.held (sym keeps.finished ∙ opens) in
    let inputs = map (raised None) kept.inputs in
    record {
      later = changed_by event.Finish (all_updated None kept.inputs feed.inputs);
      goes = finish-goes feed (open_feed (all_updated None kept.inputs feed.inputs)) (raising 0 None kept.inputs) goes refl;
      keeps = record {
        inputs = closed-match inputs (all_updated None kept.inputs feed.inputs) (raised-match None kept.inputs feed.inputs keeps.inputs);
        finished = refl;
        held = all-closed-fit options.lateness inputs (all-raised-fit options.lateness None kept.inputs keeps.held);
        greatest = keeps.greatest;
      };
      rises = λ n. (let low = raised-rise options.lateness None kept.inputs n no-end keeps.held in let high = closed-rise inputs n in omega (arith, ints, low, high));
    }

-- a line that is taken, and any line
pub taken-steps : (options : Options) (line : Line) (kept : Kept) (feed : Feed) → Keeps options.lateness kept feed → line_fault options kept line ≡ None
    → Steps options.lateness kept (taken options line kept) feed
taken-steps options line kept feed keeps is =
    let first = followed options.lateness line kept in
    steps-on options.lateness kept (λ (later : Kept). raise (idle_tick options.idle later.finished later.greatest) later) first feed
    (followed-steps options line kept feed keeps is)
    (λ later keeps. idle-cases options.lateness options.idle _ _ first.kept later keeps refl refl)

stepped-cases : (fault : Option TakeFault) (options : Options) (line : Line) (kept : Kept) (feed : Feed) → Keeps options.lateness kept feed → line_fault options kept line ≡ fault
    → Steps options.lateness kept (if is_none fault then taken options line kept else record { kept = kept; events = [] }) feed
stepped-cases None options line kept feed keeps is = taken-steps options line kept feed keeps is
stepped-cases (Some fault) options line kept feed keeps is = steps-none options.lateness kept feed keeps

pub stepped-steps : (options : Options) (line : Line) (kept : Kept) (feed : Feed) → Keeps options.lateness kept feed → Steps options.lateness kept (stepped options line kept) feed
stepped-steps options line kept feed keeps = stepped-cases (line_fault options kept line) options line kept feed keeps refl

pub all-steps : (options : Options) (lines : List Line) (kept : Kept) (feed : Feed) → Keeps options.lateness kept feed → Steps options.lateness kept (stepped_all options lines kept) feed
all-steps options [] kept feed keeps = steps-none options.lateness kept feed keeps
all-steps options (line ∷ lines) kept feed keeps =
    steps-on options.lateness kept (stepped_all options lines) (stepped options line kept) feed (stepped-steps options line kept feed keeps)
    (λ later keeps. all-steps options lines (stepped options line kept).kept later keeps)

-- before the first line
unknown-match : (inputs : ℕ) → Match (replicate inputs unknown) (replicate inputs unknown_input)
unknown-match zero = tt
unknown-match (suc inputs) = (refl, unknown-match inputs)

unknown-fit : (lateness : Option ℕ) (inputs : ℕ) → AllByRecursion (IsFit lateness) (replicate inputs unknown)
unknown-fit lateness zero = tt
unknown-fit lateness (suc inputs) = (record { fits = refl; none = λ is. refl }, unknown-fit lateness inputs)

pub keeps-first : (lateness : Option ℕ) (inputs : ℕ) → Keeps lateness (nothing_kept inputs) (empty_feed inputs)
keeps-first lateness inputs = record { inputs = unknown-match inputs; finished = refl; held = unknown-fit lateness inputs; greatest = λ x is. absurd (cc is) }

-- what the law says of it
match-edges : (inputs : List Waiting) (feeds : List InputFeed) → Match inputs feeds → edges_of inputs ≡ map (λ input. input.edge) feeds
match-edges [] [] is = refl
match-edges [] (feed ∷ feeds) is = absurd is
match-edges (input ∷ inputs) [] is = absurd is
match-edges (input ∷ inputs) (feed ∷ feeds) is =
    ap (λ (edge : Edge). edge ∷ edges_of inputs) is.0 ∙ ap (λ (list : List Edge). feed.edge ∷ list) (match-edges inputs feeds is.1)

pub kept-of : (lateness : Option ℕ) (kept : Kept) (feed : Feed) → Keeps lateness kept feed → IsKeptOf lateness kept feed
kept-of lateness kept feed keeps = record {
  edges = match-edges kept.inputs feed.inputs keeps.inputs;
  finished = keeps.finished;
  held = keeps.held;
  greatest = keeps.greatest;
}
