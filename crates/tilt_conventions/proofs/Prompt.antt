-- Readings that are handed on at once: what a turn keeps of the feed.
use Rattle.std.specs.Prelude.{⊤}
use Rattle.std.proofs.Common.{◌≡◌, ℕ, ℤ, pos, ◌+ℤ◌, ◌≤ℤ◌, neg_ℤ, Bool, true, false, not, ◌&&◌, if◌then◌else◌, List, [], ◌∷◌, ◌++◌, Option, Some, None, option_map, length, ◌+◌}
use Rattle.std.proofs.Common.{refl, sym, ap, subst, ◌∙◌, arith}
use Rattle.std.proofs.lemmas.Int.{ints, clamps}
use Rattle.std.specs.Int.{int_max}
use Rattle.tilt_base.specs.declared.limits.TheConstants.{T}
use Rattle.tilt_conventions.proofs.Listing.{counted-more, last-more}
use Rattle.tilt_conventions.proofs.Numbering.{Counts, counted-one, length-one, skipped-more}
use Rattle.tilt_conventions.proofs.Showing.{Allowed, Closes, Does, Shows, closes, hands, knows, now, updated-edge, updated_all}
use Rattle.tilt_conventions.proofs.Taking.{IsTimely, last-start, reading-times, readings-known, readings-more, time-high}
use Rattle.tilt_conventions.proofs.Telling.{after-more}
use Rattle.tilt_conventions.specs.Cells.{AreAfter, IsAfter}
use Rattle.tilt_conventions.specs.Laws.{HoldsATick, at_least, last_start, last_tick, reached, readings_of}
use Rattle.tilt_conventions.specs.Rows.{age_of, counted, rows_of, start_of}
use Rattle.tilt_conventions.specs.Steps.{Kept, Step, aged_at_last, due, handed, is_tie, known, last_updates, moved_all, one_more, placed, settled, step_to, taken, takes_last, unended, waiting}
use Rattle.tilt_conventions.specs.declared.options.Convention.{Convention}
use Rattle.tilt_conventions.specs.declared.options.Options.{Options}
use Rattle.tilt_conventions.specs.declared.options.Ties.{Ties}
use Rattle.tilt_conventions.specs.declared.options.Ties.TheVariants.{First, Last, Refuse, Spread}
use Rattle.tilt_conventions.specs.declared.turn.Reading.{Reading}
use Rattle.tilt_conventions.specs.declared.turn.Turn.{Turn}
use Rattle.tilt_conventions.specs.declared.turn.Turn.TheVariants as turn
use Rattle.tilt_feed.specs.Feed.{InputFeed, rows_now}
use Rattle.tilt_feed.specs.declared.edge.Edge.{Edge}
use Rattle.tilt_feed.specs.declared.update.Update.{Update}

-- the tick of a reading, if there is one
abbrev pub tick_of : Option Reading → Option ℤ
tick_of latest = option_map (λ r. r.tick) latest

-- unless readings are spread, the latest one is at most a tick above the mark
abbrev pub IsNear : Ties → ℤ → Option ℤ → Type 0
IsNear Spread mark tick = ⊤
IsNear ties mark None = ⊤
IsNear ties mark (Some tick) = tick ≤ℤ (mark +ℤ pos 1)

-- what is kept after turns, and the feed of the input
pub record Prompt (options : Options) (turns : List Turn) (kept : Kept) (input : InputFeed) : Type 0 where
  pub edge : kept.edge ≡ input.edge
  pub mark : kept.mark ≡ last_start (neg_ℤ T) turns
  pub low : neg_ℤ T ≤ℤ kept.mark
  pub high : kept.mark ≤ℤ T
  pub latest : tick_of kept.latest ≡ last_tick None (counted options.ties (readings_of turns))
  pub near : IsNear options.ties kept.mark (tick_of kept.latest)
  pub at : input.edge.watermark ≡ at_least (tick_of kept.latest) kept.mark
  pub shows : Shows options.convention (age_of options.convention) (counted options.ties (readings_of turns)) input
  pub apart : AreAfter None (counted options.ties (readings_of turns))
  pub counts : Counts (length (readings_of turns)) (length (counted options.ties (readings_of turns))) kept.skipped

-- updates are allowed, and what is kept after them is that of the feed
pub record Goes (options : Options) (turns : List Turn) (step : Step) (input : InputFeed) : Type 0 where
  pub allowed : Allowed input.edge step.updates
  pub keeps : Prompt options turns step.kept (updated_all step.updates input)

-- "known up to"
settled-by : (convention : Convention) (tick : ℤ) (edge : Edge) (waits : Option Reading) → waits ≡ None
    → due convention tick edge waits ++ known (age_of convention) tick (moved_all (due convention tick edge waits) edge) ≡ known (age_of convention) tick edge
settled-by convention tick edge None is = refl
settled-by convention tick edge (Some reading) is = absurd (cc is)

pub no-wait : (ties : Ties) (kept : Kept) → takes_last ties ≡ false → waiting ties kept ≡ None
no-wait ties kept eager = ap (λ (b : Bool). if b then unended kept.mark kept.latest else None) eager

over-mark : (tick : Option ℤ) (mark later : ℤ) → mark ≤ℤ later → int_max (at_least tick mark) later ≡ at_least tick later
over-mark None mark later on = grind (arith, ints, clamps)
over-mark (Some tick) mark later on = grind (arith, ints, clamps)

near-later : (ties : Ties) (tick : Option ℤ) (mark later : ℤ) → mark ≤ℤ later → IsNear ties mark tick → IsNear ties later tick
near-later First None mark later on near = tt
near-later First (Some tick) mark later on near = omega (arith, ints, near, on)
near-later Last None mark later on near = tt
near-later Last (Some tick) mark later on near = omega (arith, ints, near, on)
near-later Refuse None mark later on near = tt
near-later Refuse (Some tick) mark later on near = omega (arith, ints, near, on)
near-later Spread tick mark later on near = tt

-- a turn whose updates show some readings, with a mark and the reading that counts
module _ (options : Options) (before turns : List Turn) (kept : Kept) (input : InputFeed) (keeps : Prompt options before kept input) where
  goes-to : (updates : List Update) (mark : ℤ) (latest : Option Reading) (skipped : ℕ) (readings : List Reading) → counted options.ties (readings_of turns) ≡ readings
      → mark ≡ last_start (neg_ℤ T) turns → kept.mark ≤ℤ mark → mark ≤ℤ T → tick_of latest ≡ last_tick None readings → IsNear options.ties mark (tick_of latest)
      → Does options.convention (age_of options.convention) readings updates input → (updated_all updates input).edge.watermark ≡ at_least (tick_of latest) mark
      → AreAfter None readings → Counts (length (readings_of turns)) (length readings) skipped
      → Goes options turns (step_to updates mark latest skipped kept.edge) input
  goes-to updates mark latest skipped readings is start on high last near does at apart counts =
      let low = keeps.low in
      let all : Goes options turns (step_to updates mark latest skipped input.edge) input = record {
        allowed = does.allowed;
        keeps = record {
          edge = sym (updated-edge updates input);
          mark = start;
          low = omega (arith, ints);
          high = high;
          latest = last ∙ ap (λ (list : List Reading). last_tick None list) (sym is);
          near = near;
          at = at;
          shows = subst (λ (list : List Reading). Shows options.convention (age_of options.convention) list (updated_all updates input)) (sym is) does.shows;
          apart = subst (λ (list : List Reading). AreAfter None list) (sym is) apart;
          counts = subst (λ (list : List Reading). Counts (length (readings_of turns)) (length list) skipped) (sym is) counts;
        };
      } in
      subst (λ (e : Edge). Goes options turns (step_to updates mark latest skipped e) input) (sym keeps.edge) all

pub known-goes : (options : Options) (turns : List Turn) (kept : Kept) (input : InputFeed) (tick : ℤ) → takes_last options.ties ≡ false → Prompt options turns kept input
    → kept.mark ≤ℤ tick → tick ≤ℤ T → Goes options (turns ++ turn.KnownUpTo tick ∷ []) (taken options (turn.KnownUpTo tick) kept) input
known-goes options turns kept input tick eager keeps on high =
    let age = age_of options.convention in
    let readings = counted options.ties (readings_of turns) in
    let later = turns ++ turn.KnownUpTo tick ∷ [] in
    let same = ap (λ (list : List Reading). counted options.ties list) (readings-known turns tick) in
    let knows-it = knows options.convention age readings tick input keeps.shows high in
    let at : (updated_all (known age tick input.edge) input).edge.watermark ≡ at_least (tick_of kept.latest) tick =
    knows-it.at ∙ ap (λ (w : ℤ). int_max w tick) keeps.at ∙ over-mark (tick_of kept.latest) kept.mark tick on in
    let near = near-later options.ties (tick_of kept.latest) kept.mark tick on keeps.near in
    let all = goes-to options turns later kept input keeps (known age tick input.edge) tick kept.latest kept.skipped readings same
    (sym (last-start (neg_ℤ T) turns (turn.KnownUpTo tick))) on high keeps.latest near knows-it.does at keeps.apart
    (subst (λ (list : List Reading). Counts (length list) (length readings) kept.skipped) (sym (readings-known turns tick)) keeps.counts) in
    let updates : settled options tick kept ≡ known age tick input.edge =
    settled-by options.convention tick kept.edge (waiting options.ties kept) (no-wait options.ties kept eager) ∙ ap (λ (e : Edge). known age tick e) keeps.edge in
    subst (λ (list : List Update). Goes options later (step_to list tick kept.latest kept.skipped kept.edge) input) (sym updates) all

-- a reading that is skipped
tie-start : (ties : Ties) (latest : Option Reading) (reading : Reading) (mark : ℤ) → is_tie ties latest reading ≡ true → IsNear ties mark (tick_of latest) → mark ≤ℤ start_of reading
    → start_of reading ≡ mark
tie-start First None reading mark tie near on = absurd (cc tie)
tie-start First (Some last) reading mark tie near on = grind (arith, ints, near, on, tie)
tie-start Last None reading mark tie near on = absurd (cc tie)
tie-start Last (Some last) reading mark tie near on = grind (arith, ints, near, on, tie)
tie-start Refuse None reading mark tie near on = absurd (cc tie)
tie-start Refuse (Some last) reading mark tie near on = grind (arith, ints, near, on, tie)
tie-start Spread latest reading mark tie near on = absurd (cc tie)

-- a reading that counts starts where the input is known or later
fresh-start : (ties : Ties) (latest : Option Reading) (reading : Reading) (mark : ℤ) → is_tie ties latest reading ≡ false → IsNear ties mark (tick_of latest) → mark ≤ℤ start_of reading
    → at_least (tick_of latest) mark ≤ℤ start_of (placed ties latest reading)
fresh-start First None reading mark tie near on = on
fresh-start First (Some last) reading mark tie near on = grind (arith, ints, clamps, near, on, tie)
fresh-start Last None reading mark tie near on = on
fresh-start Last (Some last) reading mark tie near on = grind (arith, ints, clamps, near, on, tie)
fresh-start Refuse None reading mark tie near on = on
fresh-start Refuse (Some last) reading mark tie near on = grind (arith, ints, clamps, near, on, tie)
fresh-start Spread None reading mark tie near on = on
fresh-start Spread (Some last) reading mark tie near on = grind (arith, ints, clamps, near, on)

placed-near : (ties : Ties) (latest : Option Reading) (reading : Reading) → IsNear ties (start_of reading) (Some (placed ties latest reading).tick)
placed-near First latest reading = omega (arith, ints)
placed-near Last latest reading = omega (arith, ints)
placed-near Refuse latest reading = omega (arith, ints)
placed-near Spread latest reading = tt

placed-over : (ties : Ties) (latest : Option Reading) (reading : Reading) → reading.tick ≤ℤ (placed ties latest reading).tick
placed-over First latest reading = omega (arith, ints)
placed-over Last latest reading = omega (arith, ints)
placed-over Refuse latest reading = omega (arith, ints)
placed-over Spread None reading = omega (arith, ints)
placed-over Spread (Some last) reading = grind (arith, ints, clamps)

fresh-after : (tick : Option ℤ) (mark : ℤ) (reading : Reading) → at_least tick mark ≤ℤ start_of reading → IsAfter tick reading.tick
fresh-after None mark reading over = tt
fresh-after (Some tick) mark reading over = omega (arith, ints, clamps, over)

more-length : (turns : List Turn) (reading : Reading) → length (readings_of (turns ++ turn.Reading reading ∷ [])) ≡ length (readings_of turns) + 1
more-length turns reading = ap (λ (list : List Reading). length list) (readings-more turns reading) ∙ length-one (readings_of turns) reading

-- what a reading does, by whether it is skipped
abbrev pub prompt_step : Bool → Options → Reading → Kept → Step
prompt_step tie options reading kept = step_to (if tie then [] else handed options.convention (placed options.ties kept.latest reading) kept.edge) (start_of reading)
    (if tie then kept.latest else Some (placed options.ties kept.latest reading)) (if tie then one_more kept.skipped else kept.skipped) kept.edge

reading-goes-by : (tie : Bool) (options : Options) (turns : List Turn) (kept : Kept) (input : InputFeed) (reading : Reading) → takes_last options.ties ≡ false → HoldsATick options.convention
    → Prompt options turns kept input → IsTimely options.ties kept (turn.Reading reading) → is_tie options.ties kept.latest reading ≡ tie
    → Goes options (turns ++ turn.Reading reading ∷ []) (prompt_step tie options reading kept) input
reading-goes-by true options turns kept input reading eager holds keeps timely tie =
    let readings = counted options.ties (readings_of turns) in
    let later = turns ++ turn.Reading reading ∷ [] in
    let on = timely.on in
    let times = reading-times options.ties kept reading timely in
    let high = time-high reading.tick times.0 in
    let start = tie-start options.ties kept.latest reading kept.mark tie keeps.near on in
    let same : counted options.ties (readings_of later) ≡ readings =
    ap (λ (list : List Reading). counted options.ties list) (readings-more turns reading)
    ∙ counted-more options.ties kept.latest (readings_of turns) reading eager keeps.latest
    ∙ ap (λ (b : Bool). if b then readings else readings ++ placed options.ties kept.latest reading ∷ []) tie in
    let near = near-later options.ties (tick_of kept.latest) kept.mark (start_of reading) on keeps.near in
    let at : input.edge.watermark ≡ at_least (tick_of kept.latest) (start_of reading) = keeps.at ∙ ap (λ (m : ℤ). at_least (tick_of kept.latest) m) (sym start) in
    goes-to options turns later kept input keeps [] (start_of reading) kept.latest (one_more kept.skipped) readings same
    (sym (last-start (neg_ℤ T) turns (turn.Reading reading))) on (omega (arith, ints, high)) keeps.latest near
    (record { allowed = tt; shows = keeps.shows }) at keeps.apart
    (skipped-more (length (readings_of turns)) (length readings) kept.skipped (length (readings_of later)) (more-length turns reading) keeps.counts)
reading-goes-by false options turns kept input reading eager holds keeps timely tie =
    let age = age_of options.convention in
    let readings = counted options.ties (readings_of turns) in
    let one = placed options.ties kept.latest reading in
    let later = turns ++ turn.Reading reading ∷ [] in
    let on = timely.on in
    let times = reading-times options.ties kept reading timely in
    let high = time-high reading.tick times.0 in
    let one_high = time-high one.tick times.1 in
    let same : counted options.ties (readings_of later) ≡ readings ++ one ∷ [] =
    ap (λ (list : List Reading). counted options.ties list) (readings-more turns reading)
    ∙ counted-more options.ties kept.latest (readings_of turns) reading eager keeps.latest
    ∙ ap (λ (b : Bool). if b then readings else readings ++ one ∷ []) tie in
    let fresh = fresh-start options.ties kept.latest reading kept.mark tie keeps.near on in
    let start : input.edge.watermark ≤ℤ start_of one = subst (λ (w : ℤ). w ≤ℤ start_of one) (sym keeps.at) fresh in
    let says = hands options.convention readings one input keeps.shows start (omega (arith, ints, one_high)) holds in
    let over = placed-over options.ties kept.latest reading in
    let at : (updated_all (handed options.convention one input.edge) input).edge.watermark ≡ int_max (start_of reading) one.tick = says.at ∙ omega (arith, ints, clamps, over) in
    let all = goes-to options turns later kept input keeps (handed options.convention one input.edge) (start_of reading) (Some one) kept.skipped (readings ++ one ∷ []) same
    (sym (last-start (neg_ℤ T) turns (turn.Reading reading))) on (omega (arith, ints, high)) (sym (last-more None readings one))
    (placed-near options.ties kept.latest reading) says.does at
    (after-more None readings one keeps.apart (subst (λ (t : Option ℤ). IsAfter t one.tick) keeps.latest (fresh-after (tick_of kept.latest) kept.mark one fresh)))
    (counted-one (length (readings_of turns)) (length readings) kept.skipped (length (readings_of later)) (length (readings ++ one ∷ []))
    (more-length turns reading) (length-one readings one) keeps.counts) in
    subst (λ (e : Edge). Goes options later (step_to (handed options.convention one e) (start_of reading) (Some one) kept.skipped kept.edge) input) (sym keeps.edge) all

prompt-step : (options : Options) (reading : Reading) (kept : Kept) → takes_last options.ties ≡ false
    → taken options (turn.Reading reading) kept ≡ prompt_step (is_tie options.ties kept.latest reading) options reading kept
prompt-step options reading kept eager =
    let tie = is_tie options.ties kept.latest reading in
    let one = placed options.ties kept.latest reading in
    ap (λ (b : Bool). step_to (if b then settled options (start_of reading) kept else if tie then [] else handed options.convention one kept.edge) (start_of reading)
    (if not b && tie then kept.latest else Some one) (if tie then one_more kept.skipped else kept.skipped) kept.edge) eager

pub reading-goes : (options : Options) (turns : List Turn) (kept : Kept) (input : InputFeed) (reading : Reading) → takes_last options.ties ≡ false → HoldsATick options.convention
    → Prompt options turns kept input → IsTimely options.ties kept (turn.Reading reading)
    → Goes options (turns ++ turn.Reading reading ∷ []) (taken options (turn.Reading reading) kept) input
reading-goes options turns kept input reading eager holds keeps timely =
    subst (λ (s : Step). Goes options (turns ++ turn.Reading reading ∷ []) s input) (sym (prompt-step options reading kept eager))
    (reading-goes-by (is_tie options.ties kept.latest reading) options turns kept input reading eager holds keeps timely refl)

-- the rows now, and up to where they are known
pub prompt-cut : (options : Options) (turns : List Turn) (kept : Kept) (input : InputFeed) → Prompt options turns kept input → input.edge.watermark ≡ reached options.ties turns
prompt-cut options turns kept input keeps =
    keeps.at ∙ ap (λ (m : ℤ). at_least (tick_of kept.latest) m) keeps.mark ∙ ap (λ (t : Option ℤ). at_least t (last_start (neg_ℤ T) turns)) keeps.latest

pub prompt-rows : (options : Options) (turns : List Turn) (kept : Kept) (input : InputFeed) → Prompt options turns kept input
    → rows_now input ≡ rows_of (age_of options.convention) (counted options.ties (readings_of turns)) (reached options.ties turns)
prompt-rows options turns kept input keeps =
    now options.convention (age_of options.convention) (counted options.ties (readings_of turns)) input keeps.shows
    ∙ ap (λ (cut : ℤ). rows_of (age_of options.convention) (counted options.ties (readings_of turns)) cut) (prompt-cut options turns kept input keeps)

-- and when nothing more comes
pub prompt-ends : (options : Options) (turns : List Turn) (kept : Kept) (input : InputFeed) → takes_last options.ties ≡ false → Prompt options turns kept input
    → Closes (age_of options.convention) (counted options.ties (readings_of turns)) (reached options.ties turns) (last_updates options kept) input
prompt-ends options turns kept input eager keeps =
    let convention = options.convention in
    let age = age_of convention in
    let readings = counted options.ties (readings_of turns) in
    let cut = reached options.ties turns in
    let all = closes convention age readings cut [] input (record { allowed = tt; shows = keeps.shows }) (prompt-cut options turns kept input keeps) in
    let none = no-wait options.ties kept eager in
    let same = subst (λ (e : Edge). Closes age readings cut (aged_at_last age e.open_row) input) (sym keeps.edge) all in
    subst (λ (w : Option Reading). Closes age readings cut (due convention T kept.edge w ++ aged_at_last age (moved_all (due convention T kept.edge w) kept.edge).open_row) input) (sym none) same
