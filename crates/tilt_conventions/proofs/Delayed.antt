-- Readings that wait until their tick has ended: what a turn keeps of the feed.
use Rattle.std.proofs.Common.{◌≡◌, ℕ, ℤ, pos, ◌+ℤ◌, ◌≤ℤ◌, ◌<ℤ◌, neg_ℤ, Bool, true, false, if◌then◌else◌, int_lt, List, [], ◌∷◌, ◌++◌, Option, Some, None, option_map, length, ◌+◌}
use Rattle.std.proofs.Common.{refl, sym, ap, subst, ◌∙◌, arith, append-nil}
use Rattle.std.proofs.lemmas.Int.{ints, clamps}
use Rattle.std.specs.Int.{int_min, int_max}
use Rattle.std.specs.Ordering.{int_eq}
use Rattle.tilt_base.specs.declared.limits.TheConstants.{T}
use Rattle.tilt_conventions.proofs.Listing.{last-more, lasts-more, rows-more}
use Rattle.tilt_conventions.proofs.Numbering.{Counts, counted-one, length-one, skipped-more}
use Rattle.tilt_conventions.proofs.Showing.{Allowed, Closes, Does, Shows, closes, does-more, hands, knows, now, updated-append, updated-edge, updated_all}
use Rattle.tilt_conventions.proofs.Taking.{IsTimely, last-start, reading-times, readings-known, readings-more, time-high}
use Rattle.tilt_conventions.proofs.Telling.{after-more, after-other}
use Rattle.tilt_conventions.specs.Cells.{AreAfter, IsAfter}
use Rattle.tilt_conventions.specs.Laws.{HoldsATick, at_least, last_start, last_tick, reached, readings_of}
use Rattle.tilt_conventions.specs.Rows.{age_of, end_by_age, is_at, lasts, row_on, rows_of, start_of}
use Rattle.tilt_conventions.specs.Steps.{Kept, Step, aged_at_last, due, handed, is_reading_time, is_tie, known, last_updates, moved_all, one_more, step_to, taken, unended}
use Rattle.tilt_conventions.specs.declared.options.Convention.{Convention}
use Rattle.tilt_conventions.specs.declared.options.Options.{Options}
use Rattle.tilt_conventions.specs.declared.options.Ties.TheVariants.{Last}
use Rattle.tilt_conventions.specs.declared.turn.Reading.{Reading}
use Rattle.tilt_conventions.specs.declared.turn.Turn.{Turn}
use Rattle.tilt_conventions.specs.declared.turn.Turn.TheVariants as turn
use Rattle.tilt_feed.specs.Feed.{InputFeed, rows_now}
use Rattle.tilt_feed.specs.declared.edge.Edge.{Edge}
use Rattle.tilt_feed.specs.declared.update.Update.{Update}
use Rattle.tilt_stream.specs.Snap.{Snapshot}

-- the latest reading is the last one; until its tick has ended, the feed doesn't show it
pub record IsLatest (convention : Convention) (readings : List Reading) (mark : ℤ) (reading : Reading) (input : InputFeed) : Type 0 where
  pub front : List Reading
  pub is : readings ≡ front ++ reading ∷ []
  pub time : is_reading_time reading.tick ≡ true
  pub on : start_of reading ≤ℤ mark
  pub waits : start_of reading ≡ mark → Shows convention (age_of convention) (lasts front (Some reading.tick)) input
  pub over : start_of reading <ℤ mark → Shows convention (age_of convention) (lasts front (Some reading.tick) ++ reading ∷ []) input
  pub apart : AreAfter None (lasts front (Some reading.tick) ++ reading ∷ [])

pub record IsEmpty (convention : Convention) (readings : List Reading) (input : InputFeed) : Type 0 where
  pub none : readings ≡ []
  pub shows : Shows convention (age_of convention) [] input

abbrev pub Stays : Convention → List Reading → ℤ → Option Reading → InputFeed → Type 0
Stays convention readings mark None input = IsEmpty convention readings input
Stays convention readings mark (Some reading) input = IsLatest convention readings mark reading input

-- what is kept after turns, and the feed of the input
pub record Delayed (convention : Convention) (turns : List Turn) (kept : Kept) (input : InputFeed) : Type 0 where
  pub edge : kept.edge ≡ input.edge
  pub mark : kept.mark ≡ last_start (neg_ℤ T) turns
  pub low : neg_ℤ T ≤ℤ kept.mark
  pub high : kept.mark ≤ℤ T
  pub at : input.edge.watermark ≡ kept.mark
  pub stays : Stays convention (readings_of turns) kept.mark kept.latest input
  pub counts : Counts (length (readings_of turns)) (length (lasts (readings_of turns) None)) kept.skipped

-- an input that is known up to a tick: the feed shows the latest reading if its tick has ended there
pub record IsShown (convention : Convention) (front : List Reading) (tick : ℤ) (reading : Reading) (input : InputFeed) : Type 0 where
  pub waits : start_of reading ≡ tick → Shows convention (age_of convention) (lasts front (Some reading.tick)) input
  pub over : start_of reading <ℤ tick → Shows convention (age_of convention) (lasts front (Some reading.tick) ++ reading ∷ []) input

-- what waits is handed on if its tick has ended, and then the input is known up to there
abbrev pub settled_by : Convention → ℤ → Edge → Option Reading → List Update
settled_by convention tick edge waits =
    due convention tick edge waits ++ known (age_of convention) tick (moved_all (due convention tick edge waits) edge)

-- updates, one after another, after which an input shows readings and is known up to a tick
pub record Settles (convention : Convention) (readings : List Reading) (tick : ℤ) (updates : List Update) (input : InputFeed) : Type 0 where
  pub does : Does convention (age_of convention) readings updates input
  pub at : (updated_all updates input).edge.watermark ≡ tick

settles-after : (convention : Convention) (some readings : List Reading) (tick : ℤ) (first : List Update) (input : InputFeed)
    → Does convention (age_of convention) readings first input → (updated_all first input).edge.watermark ≤ℤ tick → tick ≤ℤ T
    → Settles convention readings tick (first ++ known (age_of convention) tick (moved_all first input.edge)) input
settles-after convention some readings tick first input does on high =
    let age = age_of convention in
    let later = updated_all first input in
    let knows-it = knows convention age readings tick later does.shows high in
    let second = known age tick later.edge in
    let all : Settles convention readings tick (first ++ second) input = record {
      does = does-more convention age readings readings first second input does knows-it.does;
      at = ap (λ (i : InputFeed). i.edge.watermark) (updated-append first second input) ∙ knows-it.at ∙ omega (arith, ints, clamps, on);
    } in
    subst (λ (e : Edge). Settles convention readings tick (first ++ known age tick e) input) (updated-edge first input) all

-- nothing waits, or its tick hasn't ended
settles-none : (convention : Convention) (readings : List Reading) (tick : ℤ) (input : InputFeed) → Shows convention (age_of convention) readings input → input.edge.watermark ≤ℤ tick → tick ≤ℤ T
    → Settles convention readings tick (settled_by convention tick input.edge None) input
settles-none convention readings tick input shows on high = settles-after convention readings readings tick [] input (record { allowed = tt; shows = shows }) on high

settles-due : (due_now : Bool) (convention : Convention) (readings : List Reading) (reading : Reading) (tick : ℤ) (input : InputFeed) → HoldsATick convention
    → Shows convention (age_of convention) readings input → input.edge.watermark ≡ start_of reading → start_of reading ≤ℤ tick → tick ≤ℤ T → int_lt (start_of reading) tick ≡ due_now
    → Settles convention (if due_now then readings ++ reading ∷ [] else readings) tick
    ((if due_now then handed convention reading input.edge else [])
    ++ known (age_of convention) tick (moved_all (if due_now then handed convention reading input.edge else []) input.edge)) input
settles-due false convention readings reading tick input holds shows at on high is =
    settles-none convention readings tick input shows (omega (arith, ints, at, on)) high
settles-due true convention readings reading tick input holds shows at on high is =
    let before : start_of reading <ℤ tick = grind (arith, ints, is) in
    let start : input.edge.watermark ≤ℤ start_of reading = omega (arith, ints, at) in
    let says = hands convention readings reading input shows start (omega (arith, ints, before, high)) holds in
    settles-after convention readings (readings ++ reading ∷ []) tick (handed convention reading input.edge) input says.does (omega (arith, ints, says.at, before)) high

-- the latest reading when the input is known up to a tick
pub record Reaches (convention : Convention) (front : List Reading) (tick : ℤ) (reading : Reading) (updates : List Update) (input : InputFeed) : Type 0 where
  pub allowed : Allowed input.edge updates
  pub at : (updated_all updates input).edge.watermark ≡ tick
  pub shown : IsShown convention front tick reading (updated_all updates input)

reaches-due : (due_now : Bool) (convention : Convention) (front : List Reading) (reading : Reading) (tick : ℤ) (input : InputFeed) → HoldsATick convention
    → Shows convention (age_of convention) (lasts front (Some reading.tick)) input → input.edge.watermark ≡ start_of reading → start_of reading ≤ℤ tick → tick ≤ℤ T
    → int_lt (start_of reading) tick ≡ due_now
    → Reaches convention front tick reading ((if due_now then handed convention reading input.edge else [])
    ++ known (age_of convention) tick (moved_all (if due_now then handed convention reading input.edge else []) input.edge)) input
reaches-due false convention front reading tick input holds shows at on high is =
    let settles = settles-due false convention (lasts front (Some reading.tick)) reading tick input holds shows at on high is in
    record {
      allowed = settles.does.allowed;
      at = settles.at;
      shown = record { waits = λ same. settles.does.shows; over = λ before. absurd (grind (arith, ints, is, before)) };
    }
reaches-due true convention front reading tick input holds shows at on high is =
    let settles = settles-due true convention (lasts front (Some reading.tick)) reading tick input holds shows at on high is in
    record {
      allowed = settles.does.allowed;
      at = settles.at;
      shown = record { waits = λ same. absurd (grind (arith, ints, is, same)); over = λ before. settles.does.shows };
    }

reaches-by : (waits : Bool) (convention : Convention) (readings : List Reading) (mark : ℤ) (reading : Reading) (tick : ℤ) (input : InputFeed) → HoldsATick convention
    → (latest : IsLatest convention readings mark reading input) → input.edge.watermark ≡ mark → mark ≤ℤ tick → tick ≤ℤ T → int_eq mark (start_of reading) ≡ waits
    → Reaches convention latest.front tick reading (settled_by convention tick input.edge (if waits then Some reading else None)) input
reaches-by true convention readings mark reading tick input holds latest at on high is =
    let same : start_of reading ≡ mark = grind (arith, ints, is) in
    reaches-due (int_lt (start_of reading) tick) convention latest.front reading tick input holds (latest.waits same) (at ∙ sym same) (omega (arith, ints, same, on)) high refl
reaches-by false convention readings mark reading tick input holds latest at on high is =
    let before : start_of reading <ℤ mark =
    let below = latest.on in
    grind (arith, ints, is, below) in
    let settles = settles-none convention (lasts latest.front (Some reading.tick) ++ reading ∷ []) tick input (latest.over before) (omega (arith, ints, at, on)) high in
    record {
      allowed = settles.does.allowed;
      at = settles.at;
      shown = record { waits = λ same. absurd (omega (arith, ints, before, same, on)); over = λ past. settles.does.shows };
    }

pub reaches : (convention : Convention) (readings : List Reading) (mark : ℤ) (reading : Reading) (tick : ℤ) (input : InputFeed) → HoldsATick convention
    → (latest : IsLatest convention readings mark reading input) → input.edge.watermark ≡ mark → mark ≤ℤ tick → tick ≤ℤ T
    → Reaches convention latest.front tick reading (settled_by convention tick input.edge (unended mark (Some reading))) input
reaches convention readings mark reading tick input holds latest at on high =
    reaches-by (int_eq mark (start_of reading)) convention readings mark reading tick input holds latest at on high refl

-- an input that is known up to a tick, and what is kept of it
pub record Moves (convention : Convention) (readings : List Reading) (tick : ℤ) (latest : Option Reading) (updates : List Update) (input : InputFeed) : Type 0 where
  pub allowed : Allowed input.edge updates
  pub at : (updated_all updates input).edge.watermark ≡ tick
  pub stays : Stays convention readings tick latest (updated_all updates input)

moves-known : (convention : Convention) (readings : List Reading) (mark : ℤ) (latest : Option Reading) (tick : ℤ) (input : InputFeed) → HoldsATick convention
    → Stays convention readings mark latest input → input.edge.watermark ≡ mark → mark ≤ℤ tick → tick ≤ℤ T
    → Moves convention readings tick latest (settled_by convention tick input.edge (unended mark latest)) input
moves-known convention readings mark None tick input holds stays at on high =
    let settles = settles-none convention [] tick input stays.shows (omega (arith, ints, at, on)) high in
    record { allowed = settles.does.allowed; at = settles.at; stays = record { none = stays.none; shows = settles.does.shows } }
moves-known convention readings mark (Some reading) tick input holds stays at on high =
    let below = stays.on in
    let there = reaches convention readings mark reading tick input holds stays at on high in
    record {
      allowed = there.allowed;
      at = there.at;
      stays = record {
        front = stays.front;
        is = stays.is;
        time = stays.time;
        on = omega (arith, ints, below, on);
        waits = there.shown.waits;
        over = there.shown.over;
        apart = stays.apart;
      };
    }

-- the readings that count before one more
more-lasts : (front : List Reading) (last reading : Reading) (b : Bool) → is_at (Some reading.tick) last ≡ b
    → lasts (front ++ last ∷ []) (Some reading.tick) ≡ lasts front (Some last.tick) ++ (if b then [] else last ∷ [])
more-lasts front last reading b is =
    lasts-more front last (Some reading.tick) ∙ ap (λ (c : Bool). lasts front (Some last.tick) ++ (if c then [] else last ∷ [])) is

shown-then : (b : Bool) (convention : Convention) (front : List Reading) (last reading : Reading) (input : InputFeed) → IsShown convention front (start_of reading) last input
    → start_of last ≤ℤ start_of reading → is_at (Some reading.tick) last ≡ b
    → Shows convention (age_of convention) (lasts front (Some last.tick) ++ (if b then [] else last ∷ [])) input
shown-then true convention front last reading input shown on is =
    let same : start_of last ≡ start_of reading = grind (arith, ints, is) in
    subst (λ (list : List Reading). Shows convention (age_of convention) list input) (sym (append-nil (lasts front (Some last.tick)))) (shown.waits same)
shown-then false convention front last reading input shown on is =
    let before : start_of last <ℤ start_of reading = grind (arith, ints, is, on) in
    shown.over before

apart-then : (b : Bool) (list : List Reading) (last reading : Reading) → AreAfter None (list ++ last ∷ []) → start_of last ≤ℤ start_of reading → is_at (Some reading.tick) last ≡ b
    → AreAfter None ((list ++ (if b then [] else last ∷ [])) ++ reading ∷ [])
apart-then true list last reading apart on is =
    let same : last.tick ≡ reading.tick = grind (arith, ints, is) in
    subst (λ (front : List Reading). AreAfter None (front ++ reading ∷ [])) (sym (append-nil list)) (after-other None list last reading same apart)
apart-then false list last reading apart on is =
    let before : last.tick <ℤ reading.tick = grind (arith, ints, is, on) in
    after-more None (list ++ last ∷ []) reading apart (subst (λ (t : Option ℤ). IsAfter t reading.tick) (sym (last-more None list last)) before)

moves-read : (convention : Convention) (readings : List Reading) (mark : ℤ) (latest : Option Reading) (reading : Reading) (input : InputFeed) → HoldsATick convention
    → Stays convention readings mark latest input → input.edge.watermark ≡ mark → mark ≤ℤ start_of reading → start_of reading ≤ℤ T → is_reading_time reading.tick ≡ true
    → Moves convention (readings ++ reading ∷ []) (start_of reading) (Some reading) (settled_by convention (start_of reading) input.edge (unended mark latest)) input
moves-read convention readings mark None reading input holds stays at on high time =
    let updates = settled_by convention (start_of reading) input.edge None in
    let settles = settles-none convention [] (start_of reading) input stays.shows (omega (arith, ints, at, on)) high in
    record {
      allowed = settles.does.allowed;
      at = settles.at;
      stays = record {
        front = readings;
        is = refl;
        time = time;
        on = omega (arith, ints);
        waits = λ same. subst (λ (list : List Reading). Shows convention (age_of convention) (lasts list (Some reading.tick)) (updated_all updates input)) (sym stays.none) settles.does.shows;
        over = λ before. absurd (omega (arith, ints, before));
        apart = subst (λ (list : List Reading). AreAfter None (lasts list (Some reading.tick) ++ reading ∷ [])) (sym stays.none) (tt, tt);
      };
    }
moves-read convention readings mark (Some last) reading input holds stays at on high time =
    let updates = settled_by convention (start_of reading) input.edge (unended mark (Some last)) in
    let there = reaches convention readings mark last (start_of reading) input holds stays at on high in
    let below = stays.on in
    let shows = shown-then (is_at (Some reading.tick) last) convention stays.front last reading (updated_all updates input) there.shown (omega (arith, ints, below, on)) refl in
    let same : lasts readings (Some reading.tick) ≡ lasts stays.front (Some last.tick) ++ (if is_at (Some reading.tick) last then [] else last ∷ []) =
    ap (λ (list : List Reading). lasts list (Some reading.tick)) stays.is ∙ more-lasts stays.front last reading (is_at (Some reading.tick) last) refl in
    record {
      allowed = there.allowed;
      at = there.at;
      stays = record {
        front = readings;
        is = refl;
        time = time;
        on = omega (arith, ints);
        waits = λ now. subst (λ (list : List Reading). Shows convention (age_of convention) list (updated_all updates input)) (sym same) shows;
        over = λ before. absurd (omega (arith, ints, before));
        apart = subst (λ (list : List Reading). AreAfter None (list ++ reading ∷ [])) (sym same)
            (apart-then (is_at (Some reading.tick) last) (lasts stays.front (Some last.tick)) last reading stays.apart (omega (arith, ints, below, on)) refl);
      };
    }

-- how many were skipped
swap-eq : (b : Bool) (one other : ℤ) → int_eq one other ≡ b → int_eq other one ≡ b
swap-eq true one other is = grind (arith, ints, is)
swap-eq false one other is = grind (arith, ints, is)

all-lasts : (front : List Reading) (reading : Reading) → lasts (front ++ reading ∷ []) None ≡ lasts front (Some reading.tick) ++ reading ∷ []
all-lasts front reading = lasts-more front reading None

counts-then : (tie : Bool) (readings list : List Reading) (last reading : Reading) (skipped : ℕ) → Counts (length readings) (length (list ++ last ∷ [])) skipped
    → Counts (length (readings ++ reading ∷ [])) (length ((list ++ (if tie then [] else last ∷ [])) ++ reading ∷ [])) (if tie then one_more skipped else skipped)
counts-then true readings list last reading skipped counts =
    let same : length ((list ++ []) ++ reading ∷ []) ≡ length (list ++ last ∷ []) =
    length-one (list ++ []) reading ∙ ap (λ (l : List Reading). length l + 1) (append-nil list) ∙ sym (length-one list last) in
    subst (λ (n : ℕ). Counts (length (readings ++ reading ∷ [])) n (one_more skipped)) (sym same)
    (skipped-more (length readings) (length (list ++ last ∷ [])) skipped (length (readings ++ reading ∷ [])) (length-one readings reading) counts)
counts-then false readings list last reading skipped counts =
    counted-one (length readings) (length (list ++ last ∷ [])) skipped (length (readings ++ reading ∷ [])) (length ((list ++ last ∷ []) ++ reading ∷ []))
    (length-one readings reading) (length-one (list ++ last ∷ []) reading) counts

counts-read : (convention : Convention) (readings : List Reading) (mark : ℤ) (latest : Option Reading) (reading : Reading) (skipped : ℕ) (input : InputFeed)
    → Stays convention readings mark latest input → Counts (length readings) (length (lasts readings None)) skipped
    → Counts (length (readings ++ reading ∷ [])) (length (lasts (readings ++ reading ∷ []) None)) (if is_tie Last latest reading then one_more skipped else skipped)
counts-read convention readings mark None reading skipped input stays counts =
    let none = subst (λ (list : List Reading). Counts (length list) (length (lasts list None)) skipped) stays.none counts in
    subst (λ (list : List Reading). Counts (length (list ++ reading ∷ [])) (length (lasts (list ++ reading ∷ []) None)) skipped) (sym stays.none)
    (counted-one 0 0 skipped 1 1 refl refl none)
counts-read convention readings mark (Some last) reading skipped input stays counts =
    let list = lasts stays.front (Some last.tick) in
    let now : lasts readings None ≡ list ++ last ∷ [] = ap (λ (l : List Reading). lasts l None) stays.is ∙ all-lasts stays.front last in
    let tie = is_tie Last (Some last) reading in
    let at = swap-eq tie last.tick reading.tick refl in
    let then_all : lasts (readings ++ reading ∷ []) None ≡ (list ++ (if tie then [] else last ∷ [])) ++ reading ∷ [] =
    all-lasts readings reading
    ∙ ap (λ (l : List Reading). lasts l (Some reading.tick) ++ reading ∷ []) stays.is
    ∙ ap (λ (l : List Reading). l ++ reading ∷ []) (more-lasts stays.front last reading tie at) in
    let old = subst (λ (l : List Reading). Counts (length readings) (length l) skipped) now counts in
    subst (λ (l : List Reading). Counts (length (readings ++ reading ∷ [])) (length l) (if tie then one_more skipped else skipped)) (sym then_all)
    (counts-then tie readings list last reading skipped old)

-- turns under `last`
abbrev pub to_last : Convention → Options
to_last convention = record { convention = convention; ties = Last }

pub record Follows (convention : Convention) (turns : List Turn) (step : Step) (input : InputFeed) : Type 0 where
  pub allowed : Allowed input.edge step.updates
  pub keeps : Delayed convention turns step.kept (updated_all step.updates input)

follows-to : (convention : Convention) (turns : List Turn) (readings : List Reading) (kept : Kept) (input : InputFeed) (updates : List Update) (tick : ℤ) (latest : Option Reading) (skipped : ℕ)
    → kept.edge ≡ input.edge → readings_of turns ≡ readings → tick ≡ last_start (neg_ℤ T) turns → neg_ℤ T ≤ℤ tick → tick ≤ℤ T → Moves convention readings tick latest updates input
    → Counts (length readings) (length (lasts readings None)) skipped → Follows convention turns (step_to updates tick latest skipped kept.edge) input
follows-to convention turns readings kept input updates tick latest skipped edge is start low high moves counts =
    let all : Follows convention turns (step_to updates tick latest skipped input.edge) input = record {
      allowed = moves.allowed;
      keeps = record {
        edge = sym (updated-edge updates input);
        mark = start;
        low = low;
        high = high;
        at = moves.at;
        stays = subst (λ (list : List Reading). Stays convention list tick latest (updated_all updates input)) (sym is) moves.stays;
        counts = subst (λ (list : List Reading). Counts (length list) (length (lasts list None)) skipped) (sym is) counts;
      };
    } in
    subst (λ (e : Edge). Follows convention turns (step_to updates tick latest skipped e) input) (sym edge) all

pub known-follows : (convention : Convention) (turns : List Turn) (kept : Kept) (input : InputFeed) (tick : ℤ) → HoldsATick convention → Delayed convention turns kept input
    → kept.mark ≤ℤ tick → tick ≤ℤ T → Follows convention (turns ++ turn.KnownUpTo tick ∷ []) (taken (to_last convention) (turn.KnownUpTo tick) kept) input
known-follows convention turns kept input tick holds keeps on high =
    let low = keeps.low in
    let later = turns ++ turn.KnownUpTo tick ∷ [] in
    let moves = moves-known convention (readings_of turns) kept.mark kept.latest tick input holds keeps.stays keeps.at on high in
    let all = follows-to convention later (readings_of turns) kept input (settled_by convention tick input.edge (unended kept.mark kept.latest)) tick kept.latest kept.skipped keeps.edge
    (readings-known turns tick) (sym (last-start (neg_ℤ T) turns (turn.KnownUpTo tick))) (omega (arith, ints, low, on)) high moves keeps.counts in
    subst (λ (e : Edge). Follows convention later (step_to (settled_by convention tick e (unended kept.mark kept.latest)) tick kept.latest kept.skipped kept.edge) input) (sym keeps.edge) all

pub reading-follows : (convention : Convention) (turns : List Turn) (kept : Kept) (input : InputFeed) (reading : Reading) → HoldsATick convention → Delayed convention turns kept input
    → IsTimely Last kept (turn.Reading reading)
    → Follows convention (turns ++ turn.Reading reading ∷ []) (taken (to_last convention) (turn.Reading reading) kept) input
reading-follows convention turns kept input reading holds keeps timely =
    let low = keeps.low in
    let on = timely.on in
    let later = turns ++ turn.Reading reading ∷ [] in
    let time = (reading-times Last kept reading timely).0 in
    let top = time-high reading.tick time in
    let skipped = if is_tie Last kept.latest reading then one_more kept.skipped else kept.skipped in
    let moves = moves-read convention (readings_of turns) kept.mark kept.latest reading input holds keeps.stays keeps.at on (omega (arith, ints, top)) time in
    let all = follows-to convention later (readings_of turns ++ reading ∷ []) kept input (settled_by convention (start_of reading) input.edge (unended kept.mark kept.latest)) (start_of reading)
    (Some reading) skipped keeps.edge (readings-more turns reading) (sym (last-start (neg_ℤ T) turns (turn.Reading reading))) (omega (arith, ints, low, on)) (omega (arith, ints, top)) moves
    (counts-read convention (readings_of turns) kept.mark kept.latest reading kept.skipped input keeps.stays keeps.counts) in
    subst (λ (e : Edge). Follows convention later (step_to (settled_by convention (start_of reading) e (unended kept.mark kept.latest)) (start_of reading) (Some reading) skipped kept.edge) input)
    (sym keeps.edge) all

-- the rows now: a reading that waits has no row yet
no-row : (age : Option ℕ) (start cut : ℤ) (value : Option ℤ) → start ≡ cut → row_on start (end_by_age age start cut) value ≡ []
no-row age start cut None same = refl
no-row None start cut (Some value) same =
    let is : int_lt start cut ≡ false = grind (arith, ints, same) in
    rw is refl
no-row (Some age) start cut (Some value) same =
    let is : int_lt start (int_min cut (start +ℤ pos age)) ≡ false = grind (arith, ints, clamps, same) in
    rw is refl

latest-rows : (waits : Bool) (convention : Convention) (readings : List Reading) (mark : ℤ) (reading : Reading) (input : InputFeed) → (latest : IsLatest convention readings mark reading input)
    → input.edge.watermark ≡ mark → int_eq mark (start_of reading) ≡ waits
    → rows_now input ≡ rows_of (age_of convention) (lasts latest.front (Some reading.tick) ++ reading ∷ []) mark
latest-rows true convention readings mark reading input latest at is =
    let age = age_of convention in
    let front = lasts latest.front (Some reading.tick) in
    let same : start_of reading ≡ mark = grind (arith, ints, is) in
    now convention age front input (latest.waits same)
    ∙ ap (λ (cut : ℤ). rows_of age front cut) (at ∙ sym same)
    ∙ sym (append-nil (rows_of age front (start_of reading)))
    ∙ ap (λ (rows : List Snapshot). rows_of age front (start_of reading) ++ rows) (sym (no-row age (start_of reading) mark reading.value same))
    ∙ sym (rows-more age front reading mark)
latest-rows false convention readings mark reading input latest at is =
    let age = age_of convention in
    let below = latest.on in
    let before : start_of reading <ℤ mark = grind (arith, ints, is, below) in
    now convention age (lasts latest.front (Some reading.tick) ++ reading ∷ []) input (latest.over before)
    ∙ ap (λ (cut : ℤ). rows_of age (lasts latest.front (Some reading.tick) ++ reading ∷ []) cut) at

stays-rows : (convention : Convention) (readings : List Reading) (mark : ℤ) (latest : Option Reading) (input : InputFeed) → Stays convention readings mark latest input → input.edge.watermark ≡ mark
    → rows_now input ≡ rows_of (age_of convention) (lasts readings None) mark
stays-rows convention readings mark None input stays at =
    now convention (age_of convention) [] input stays.shows ∙ ap (λ (list : List Reading). rows_of (age_of convention) (lasts list None) mark) (sym stays.none)
stays-rows convention readings mark (Some reading) input stays at =
    latest-rows (int_eq mark (start_of reading)) convention readings mark reading input stays at refl
    ∙ ap (λ (list : List Reading). rows_of (age_of convention) list mark) (sym (all-lasts stays.front reading))
    ∙ ap (λ (list : List Reading). rows_of (age_of convention) (lasts list None) mark) (sym stays.is)

pub delayed-rows : (convention : Convention) (turns : List Turn) (kept : Kept) (input : InputFeed) → Delayed convention turns kept input
    → rows_now input ≡ rows_of (age_of convention) (lasts (readings_of turns) None) (last_start (neg_ℤ T) turns)
delayed-rows convention turns kept input keeps =
    stays-rows convention (readings_of turns) kept.mark kept.latest input keeps.stays keeps.at
    ∙ ap (λ (cut : ℤ). rows_of (age_of convention) (lasts (readings_of turns) None) cut) keeps.mark

pub delayed-cut : (convention : Convention) (turns : List Turn) (kept : Kept) (input : InputFeed) → Delayed convention turns kept input → input.edge.watermark ≡ last_start (neg_ℤ T) turns
delayed-cut convention turns kept input keeps = keeps.at ∙ keeps.mark

-- and when nothing more comes
abbrev pub ending : Convention → Edge → Option Reading → List Update
ending convention edge waits = due convention T edge waits ++ aged_at_last (age_of convention) (moved_all (due convention T edge waits) edge).open_row

ends-due : (due_now : Bool) (convention : Convention) (readings : List Reading) (reading : Reading) (input : InputFeed) → HoldsATick convention
    → Shows convention (age_of convention) readings input → input.edge.watermark ≡ start_of reading → due_now ≡ true → start_of reading <ℤ T
    → Closes (age_of convention) (readings ++ reading ∷ []) (start_of reading +ℤ pos 1) ((if due_now then handed convention reading input.edge else [])
    ++ aged_at_last (age_of convention) (moved_all (if due_now then handed convention reading input.edge else []) input.edge).open_row) input
ends-due false convention readings reading input holds shows at is high = absurd (cc is)
ends-due true convention readings reading input holds shows at is high =
    let start : input.edge.watermark ≤ℤ start_of reading = omega (arith, ints, at) in
    let says = hands convention readings reading input shows start high holds in
    closes convention (age_of convention) (readings ++ reading ∷ []) (start_of reading +ℤ pos 1) (handed convention reading input.edge) input says.does says.at

ends-latest : (waits : Bool) (convention : Convention) (readings : List Reading) (mark : ℤ) (reading : Reading) (input : InputFeed) → HoldsATick convention
    → (latest : IsLatest convention readings mark reading input) → input.edge.watermark ≡ mark → int_eq mark (start_of reading) ≡ waits
    → Closes (age_of convention) (lasts latest.front (Some reading.tick) ++ reading ∷ []) (int_max mark reading.tick) (ending convention input.edge (if waits then Some reading else None)) input
ends-latest true convention readings mark reading input holds latest at is =
    let same : start_of reading ≡ mark = grind (arith, ints, is) in
    let top = time-high reading.tick latest.time in
    let high : start_of reading <ℤ T = omega (arith, ints, top) in
    let due_now : int_lt (start_of reading) T ≡ true = grind (arith, ints, high) in
    let next : start_of reading +ℤ pos 1 ≡ int_max mark reading.tick = omega (arith, ints, clamps, same) in
    let all = ends-due (int_lt (start_of reading) T) convention (lasts latest.front (Some reading.tick)) reading input holds (latest.waits same) (at ∙ sym same) due_now high in
    subst (λ (cut : ℤ). Closes (age_of convention) (lasts latest.front (Some reading.tick) ++ reading ∷ []) cut (ending convention input.edge (Some reading)) input) next all
ends-latest false convention readings mark reading input holds latest at is =
    let below = latest.on in
    let before : start_of reading <ℤ mark = grind (arith, ints, is, below) in
    let next : mark ≡ int_max mark reading.tick = omega (arith, ints, clamps, before) in
    closes convention (age_of convention) (lasts latest.front (Some reading.tick) ++ reading ∷ []) (int_max mark reading.tick) [] input
    (record { allowed = tt; shows = latest.over before }) (at ∙ next)

ends-stays : (convention : Convention) (readings : List Reading) (mark : ℤ) (latest : Option Reading) (input : InputFeed) → HoldsATick convention → Stays convention readings mark latest input
    → input.edge.watermark ≡ mark
    → Closes (age_of convention) (lasts readings None) (at_least (last_tick None (lasts readings None)) mark) (ending convention input.edge (unended mark latest)) input
ends-stays convention readings mark None input holds stays at =
    subst (λ (list : List Reading). Closes (age_of convention) (lasts list None) (at_least (last_tick None (lasts list None)) mark) (ending convention input.edge None) input) (sym stays.none)
    (closes convention (age_of convention) [] mark [] input (record { allowed = tt; shows = stays.shows }) at)
ends-stays convention readings mark (Some reading) input holds stays at =
    let front = lasts stays.front (Some reading.tick) in
    let all = ends-latest (int_eq mark (start_of reading)) convention readings mark reading input holds stays at refl in
    let last : at_least (last_tick None (front ++ reading ∷ [])) mark ≡ int_max mark reading.tick = ap (λ (t : Option ℤ). at_least t mark) (last-more None front reading) in
    let ended = ending convention input.edge (unended mark (Some reading)) in
    let same : lasts readings None ≡ front ++ reading ∷ [] = ap (λ (list : List Reading). lasts list None) stays.is ∙ all-lasts stays.front reading in
    subst (λ (list : List Reading). Closes (age_of convention) list (at_least (last_tick None list) mark) ended input) (sym same)
    (subst (λ (cut : ℤ). Closes (age_of convention) (front ++ reading ∷ []) cut ended input) (sym last) all)

pub delayed-ends : (convention : Convention) (turns : List Turn) (kept : Kept) (input : InputFeed) → HoldsATick convention → Delayed convention turns kept input
    → Closes (age_of convention) (lasts (readings_of turns) None) (reached Last turns) (last_updates (to_last convention) kept) input
delayed-ends convention turns kept input holds keeps =
    let readings = readings_of turns in
    let all = ends-stays convention readings kept.mark kept.latest input holds keeps.stays keeps.at in
    let list = lasts readings None in
    let cut = subst (λ (m : ℤ). Closes (age_of convention) list (at_least (last_tick None list) m) (ending convention input.edge (unended kept.mark kept.latest)) input) keeps.mark all in
    subst (λ (e : Edge). Closes (age_of convention) (lasts readings None) (reached Last turns) (ending convention e (unended kept.mark kept.latest)) input) (sym keeps.edge) cut

-- what is kept: the tick of the latest reading, and readings on ticks of their own
stays-latest : (convention : Convention) (readings : List Reading) (mark : ℤ) (latest : Option Reading) (input : InputFeed) → Stays convention readings mark latest input
    → (option_map (λ r. r.tick) latest ≡ last_tick None (lasts readings None)) × AreAfter None (lasts readings None)
stays-latest convention readings mark None input stays =
    (ap (λ (list : List Reading). last_tick None (lasts list None)) (sym stays.none), subst (λ (list : List Reading). AreAfter None (lasts list None)) (sym stays.none) tt)
stays-latest convention readings mark (Some reading) input stays =
    let same : lasts readings None ≡ lasts stays.front (Some reading.tick) ++ reading ∷ [] = ap (λ (l : List Reading). lasts l None) stays.is ∙ all-lasts stays.front reading in
    (sym (ap (λ (l : List Reading). last_tick None l) same ∙ last-more None (lasts stays.front (Some reading.tick)) reading), subst (λ (l : List Reading). AreAfter None l) (sym same) stays.apart)

pub delayed-latest : (convention : Convention) (turns : List Turn) (kept : Kept) (input : InputFeed) → Delayed convention turns kept input
    → (option_map (λ r. r.tick) kept.latest ≡ last_tick None (lasts (readings_of turns) None)) × AreAfter None (lasts (readings_of turns) None)
delayed-latest convention turns kept input keeps = stays-latest convention (readings_of turns) kept.mark kept.latest input keeps.stays
