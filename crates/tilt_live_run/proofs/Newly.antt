-- What is newly written for lines: all at once, or line by line.
use Rattle.std.proofs.Common.{◌≡◌, ℕ, ℤ, Bool, true, false, List, [], ◌∷◌, ◌++◌, codes, Option, None, Some, drop, length, refl, sym, ap, ◌∙◌, append_assoc, subst}
use Rattle.std.proofs.Math.Seq.{drop-append_seam, drop-length}
use Rattle.std.proofs.lemmas.Bool.Decides.{Decides-int_eq}
use Rattle.std.proofs.lemmas.List.{append-nil}
use Rattle.tilt_core.specs.Core.{CoreParts, IsCore}
use Rattle.tilt_feed.proofs.Final.{fed-printed}
use Rattle.tilt_feed.specs.Feed.{Feed, empty_feed}
use Rattle.tilt_feed.specs.Laws.{ListGoesOn, fed}
use Rattle.tilt_feed.specs.Printed.{Begun, begun, printed}
use Rattle.tilt_feed.specs.declared.event.Event.{Event}
use Rattle.tilt_feed_form.proofs.Saying.{after-taken}
use Rattle.tilt_feed_text.proofs.Saying.{after-append}
use Rattle.tilt_feed_form.specs.Said.{FeedState, TextKept, after_line, after_lines, first_kept, first_state, line_step, taken_from}
use Rattle.tilt_feed_text.specs.Split.{whole_lines}
use Rattle.tilt_live_run.specs.Output.{begun_news, begun_start, first_news, is_start, news, news_from, output}
use Rattle.tilt_live_run.specs.Runs.{added, feed_of_lines, number_of, state_after, state_taken, taken_of}
use Rattle.tilt_live_run.specs.declared.display.Display.{Display}
use Rattle.tilt_live_run.specs.declared.run_options.RunOptions.{RunOptions}
use Rattle.tilt_outside.specs.Counts.{next_count}
use Rattle.tilt_row_text.proofs.Plain.{lines-append, text-plain}
use Rattle.tilt_row_text.specs.Lines.{lines_in, text_in}
use Rattle.tilt_row_text.specs.Styles.{is_plain}
use Rattle.tilt_row_text.specs.declared.style.RowStyle.{RowStyle}
use Rattle.tilt_stream.specs.Snap.{Snapshot}
use Rattle.tilt_stream.specs.Text.{text_of}

-- what has begun is no news of itself
start_same : (start : ℤ) → is_start (Some start) start ≡ true
start_same start = (Decides-int_eq start start).1 refl

begun-same : (style : RowStyle) (found : Option Begun) → begun_news style (begun_start found) found ≡ []
begun-same style None = refl
begun-same style (Some b) = rw (start_same b.start) refl

-- nothing is news of the same feed
same_if : (with_begun : Bool) (style : RowStyle) (core : CoreParts) (feed : Feed) → news (record { with_begun = with_begun; style = style }) core feed feed ≡ []
same_if true style core feed = rw (drop-length (printed core feed)) (begun-same style (begun core feed))
same_if false style core feed = rw (drop-length (printed core feed)) refl

pub news-same : (display : Display) (core : CoreParts) (feed : Feed) → news display core feed feed ≡ []
news-same display core feed = same_if display.with_begun display.style core feed

-- without what has begun
abbrev silent : Display → Display
silent display = record { with_begun = false; style = display.style }

silent-is : (display : Display) → display.with_begun ≡ false → display ≡ silent display
silent-is display quiet = λ i. record { with_begun = quiet i; style = display.style }

-- what is added to a list, and then more
added_twice : (style : RowStyle) (a b c : List Snapshot) → ListGoesOn a b → ListGoesOn b c
    → lines_in style (drop (length a) b) ++ lines_in style (drop (length b) c) ≡ lines_in style (drop (length a) c)
added_twice style a b c first then_more =
    let whole : c ≡ a ++ (first.rest ++ then_more.rest) = then_more.is ∙ rw first.is (append_assoc a first.rest then_more.rest) in
    let one : drop (length a) b ≡ first.rest = rw first.is (drop-append_seam a first.rest) in
    let two : drop (length b) c ≡ then_more.rest = rw then_more.is (drop-append_seam b then_more.rest) in
    let both : drop (length a) c ≡ first.rest ++ then_more.rest = rw whole (drop-append_seam a (first.rest ++ then_more.rest)) in
    rw (one, two, both) (sym (lines-append style first.rest then_more.rest))

module _ (options : RunOptions) (core : CoreParts) where
  -- where a feed is whose text keeps this, after events of it
  abbrev pub state_of : TextKept → List Event → FeedState
  state_of kept events = record { kept = kept; feed = fed core events }

  -- a line adds its events
  line_adds : (number : ℕ) (kept : TextKept) (events : List Event) (line : List ℕ)
      → let step = line_step options.form core.inputs number line kept in
      after_line options.form core.inputs number line (state_of kept events) ≡ state_of step.kept (events ++ step.events)
  line_adds number kept events line =
      let step = line_step options.form core.inputs number line kept in
      ap (λ (f : Feed). record { kept = step.kept; feed = f }) (sym (after-append events step.events (empty_feed (length core.inputs))))

  -- so the feed of a query after lines is one of events
  pub record IsFed (state : FeedState) : Type 0 where
    pub events : List Event
    pub is : state ≡ state_of state.kept events

  lines_fed : (number : ℕ) (kept : TextKept) (events : List Event) (lines : List (List ℕ))
      → IsFed (after_lines options.form core.inputs number (state_of kept events) lines)
  lines_fed number kept events [] = record { events = events; is = refl }
  lines_fed number kept events (line ∷ lines) =
      let step = line_step options.form core.inputs number line kept in
      subst (λ (s : FeedState). IsFed (after_lines options.form core.inputs (next_count number) s lines)) (sym (line_adds number kept events line))
      (lines_fed (next_count number) step.kept (events ++ step.events) lines)

  pub state-fed : (bytes : List ℕ) → IsFed (state_after options core bytes)
  state-fed bytes = lines_fed 0 (first_kept options.form (length core.inputs)) [] (whole_lines bytes)

module _ (options : RunOptions) (core : CoreParts) (valid : IsCore core) where
  -- what was printed goes on after a line, and after more of them
  line_goes_on : (number : ℕ) (kept : TextKept) (events : List Event) (line : List ℕ)
      → ListGoesOn (printed core (fed core events)) (printed core (after_line options.form core.inputs number line (state_of options core kept events)).feed)
  line_goes_on number kept events line = fed-printed core events (line_step options.form core.inputs number line kept).events valid

  list_then : (a b c : List Snapshot) → ListGoesOn a b → ListGoesOn b c → ListGoesOn a c
  list_then a b c one two = record { rest = one.rest ++ two.rest; is = two.is ∙ rw one.is (append_assoc a one.rest two.rest) }

  lines_go_on : (number : ℕ) (kept : TextKept) (events : List Event) (lines : List (List ℕ))
      → ListGoesOn (printed core (fed core events)) (printed core (after_lines options.form core.inputs number (state_of options core kept events) lines).feed)
  lines_go_on number kept events [] = record { rest = []; is = sym (append-nil (printed core (fed core events))) }
  lines_go_on number kept events (line ∷ lines) =
      let after = after_line options.form core.inputs number line (state_of options core kept events) in
      let step = line_step options.form core.inputs number line kept in
      let adds = line_adds options core number kept events line in
      list_then (printed core (fed core events)) (printed core after.feed) _ (line_goes_on number kept events line)
      (subst (λ (s : FeedState). ListGoesOn (printed core s.feed) (printed core (after_lines options.form core.inputs (next_count number) s lines).feed)) (sym adds)
      (lines_go_on (next_count number) step.kept (events ++ step.events) lines))

  -- without what has begun, line by line is the same as at once
  pub news-at_once : options.display.with_begun ≡ false → (number : ℕ) (kept : TextKept) (events : List Event) (lines : List (List ℕ))
      → news_from options core number (state_of options core kept events) lines
      ≡ news (silent options.display) core (fed core events) (after_lines options.form core.inputs number (state_of options core kept events) lines).feed
  news-at_once quiet number kept events [] = sym (news-same (silent options.display) core (fed core events))
  news-at_once quiet number kept events (line ∷ lines) =
      let before = fed core events in
      let after = after_line options.form core.inputs number line (state_of options core kept events) in
      let last = after_lines options.form core.inputs (next_count number) after lines in
      let step = line_step options.form core.inputs number line kept in
      let adds = line_adds options core number kept events line in
      let rest : ListGoesOn (printed core after.feed) (printed core last.feed) =
      subst (λ (s : FeedState). ListGoesOn (printed core s.feed) (printed core (after_lines options.form core.inputs (next_count number) s lines).feed)) (sym adds)
      (lines_go_on (next_count number) step.kept (events ++ step.events) lines) in
      let later : news_from options core (next_count number) after lines ≡ news (silent options.display) core after.feed last.feed =
      subst (λ (s : FeedState). news_from options core (next_count number) s lines
      ≡ news (silent options.display) core s.feed (after_lines options.form core.inputs (next_count number) s lines).feed) (sym adds)
      (news-at_once quiet (next_count number) step.kept (events ++ step.events) lines) in
      rw (
        quiet,
        later,
        append-nil (lines_in options.display.style (drop (length (printed core before)) (printed core after.feed))),
        append-nil (lines_in options.display.style (drop (length (printed core after.feed)) (printed core last.feed))),
        append-nil (lines_in options.display.style (drop (length (printed core before)) (printed core last.feed))),
      )
      (added_twice options.display.style (printed core before) (printed core after.feed) (printed core last.feed) (line_goes_on number kept events line) rest)

  -- of a piece: all of its lines at once
  pub piece-at_once : (bytes piece : List ℕ) → options.display.with_begun ≡ false
      → news options.display core (state_after options core bytes).feed (state_taken options core bytes piece).feed ≡ added options core bytes piece
  piece-at_once bytes piece quiet =
      let after = state_after options core bytes in
      let of = state-fed options core bytes in
      let lines = taken_of options core bytes piece in
      ap (λ (b : Display). news b core after.feed (state_taken options core bytes piece).feed) (silent-is options.display quiet)
      ∙ sym (subst (λ (s : FeedState). news_from options core (number_of bytes) s lines
      ≡ news (silent options.display) core s.feed (after_lines options.form core.inputs (number_of bytes) s lines).feed)
      (sym of.is) (news-at_once quiet (number_of bytes) after.kept of.events lines))

  -- all that is written for lines is what can be printed after their events
  pub output-printed : options.display.with_begun ≡ false → (lines : List (List ℕ))
      → output options core lines ≡ text_in options.display.style (printed core (feed_of_lines options core lines))
  output-printed quiet lines =
      let kept = first_kept options.form (length core.inputs) in
      let taken = taken_from options.strict options.form core.inputs 0 (first_state options.form (length core.inputs)) lines in
      let first = printed core (fed core []) in
      let last = printed core (after_lines options.form core.inputs 0 (state_of options core kept []) taken).feed in
      let on : ListGoesOn first last = lines_go_on 0 kept [] taken in
      let news_is : drop (length first) last ≡ on.rest = rw on.is (drop-append_seam first on.rest) in
      let all : lines_in options.display.style first ++ lines_in options.display.style (drop (length first) last) ≡ lines_in options.display.style last =
      ap (λ (list : List Snapshot). lines_in options.display.style first ++ lines_in options.display.style list) news_is
      ∙ sym (lines-append options.display.style first on.rest) ∙ ap (lines_in options.display.style) (sym on.is) in
      let header = codes "start,end,value\n" in
      let written : first_news (silent options.display) core ++ news (silent options.display) core (fed core []) (after_lines options.form core.inputs 0 (state_of options core kept []) taken).feed
      ≡ text_in options.display.style last =
      rw (append-nil (lines_in options.display.style first), append-nil (lines_in options.display.style (drop (length first) last)), ← all)
      (append_assoc header (lines_in options.display.style first) (lines_in options.display.style (drop (length first) last))) in
      ap (λ (text : List ℕ). first_news options.display core ++ text) (news-at_once quiet 0 kept [] taken)
      ∙ ap (λ (b : Display). first_news b core ++ news (silent options.display) core (fed core [])
      (after_lines options.form core.inputs 0 (state_of options core kept []) taken).feed) (silent-is options.display quiet)
      ∙ written
      ∙ ap (λ (f : Feed). text_in options.display.style (printed core f)) (sym (after-taken options.strict options.form core.inputs lines))

  -- the same in the plain style
  pub output-plain : options.display.with_begun ≡ false → is_plain options.display.style ≡ true → (lines : List (List ℕ))
      → output options core lines ≡ text_of (printed core (feed_of_lines options core lines))
  output-plain quiet plain lines =
      output-printed quiet lines ∙ text-plain options.display.style (printed core (feed_of_lines options core lines)) plain
