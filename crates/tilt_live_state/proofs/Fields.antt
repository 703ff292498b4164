-- The fields that are read are those that are spelled.
use Rattle.std.proofs.Common.{◌≡◌, ℕ, ◌<◌, ◌^◌, Bool, true, false, List, [], ◌∷◌, ◌++◌, Option, Some, None, ℤ, pos, FitsSigned, refl, ap, ◌∙◌, arith, append_assoc}
use Rattle.std.specs.Prelude.{codes}
use Rattle.std.specs.Fmt.{decimal, signed_decimal}
use Rattle.std.specs.Int.{w64}
use Rattle.std.specs.Option.{ForSome}
use Rattle.tilt_checkpoint.specs.Reading.{maybe_at, natural}
use Rattle.tilt_checkpoint.specs.Spelling.{time_text}
use Rattle.tilt_checkpoint.specs.Valid.{IsCell}
use Rattle.tilt_checkpoint.proofs.Words.{maybe-again, none-apart}
use Rattle.tilt_feed.specs.declared.edge.Edge.{Edge}
use Rattle.tilt_feed.specs.declared.open_row.OpenRow.{OpenRow}
use Rattle.tilt_live_state.specs.Reading.{count_field, counts_at, edge_at, field_at, flag_at, given_at, head_at, marks_at, open_row_of, options_at, place_at, progress_at, ticks_at, ticks_of}
use Rattle.tilt_live_state.specs.Spelling.{counts_lines, field, flag_text, head_line, line, marks_lines, open_start, open_value, options_lines, place_lines, progress_lines, ticks_text}
use Rattle.tilt_live_state.specs.Valid.{IsCount, IsEdge, IsOpenRow, IsProgress}
use Rattle.tilt_live_state.specs.declared.head.Head.{Head}
use Rattle.tilt_live_state.specs.declared.progress.Progress.{Progress}
use Rattle.tilt_text.proofs.Lacks.{Lacks}
use Rattle.tilt_text.proofs.Words.{until-front}
use Rattle.tilt_text.specs.Step.{◌>>=◌}
use Rattle.tilt_watermarks.specs.declared.options.Options.{Options}

-- lists one after another

pub after_two : (a b rest : List ℕ) → (a ++ b) ++ rest ≡ a ++ (b ++ rest)
after_two a b rest = append_assoc a b rest

pub after_three : (a b c rest : List ℕ) → (a ++ (b ++ c)) ++ rest ≡ a ++ (b ++ (c ++ rest))
after_three a b c rest = simp append_assoc

pub after_four : (a b c d rest : List ℕ) → (a ++ (b ++ (c ++ d))) ++ rest ≡ a ++ (b ++ (c ++ (d ++ rest)))
after_four a b c d rest = simp append_assoc

pub after_five : (a b c d e rest : List ℕ) → (a ++ (b ++ (c ++ (d ++ e)))) ++ rest ≡ a ++ (b ++ (c ++ (d ++ (e ++ rest))))
after_five a b c d e rest = simp append_assoc

-- one field

pub field_shape : (mark : ℕ) (word text rest : List ℕ) → field mark word text ++ rest ≡ word ++ 32 ∷ (text ++ mark ∷ rest)
field_shape mark word text rest =
    append_assoc word (32 ∷ (text ++ mark ∷ [])) rest ∙ ap (λ (t : List ℕ). word ++ 32 ∷ t) (append_assoc text (mark ∷ []) rest)

module _ (mark : ℕ) (low : mark < 45) (word : List ℕ) (plain : Lacks 32 word) where
  pub field-again : (o : Option ℤ) → IsCell o → (rest : List ℕ) → field_at mark (field mark word (time_text o) ++ rest) ≡ Some (o, rest)
  field-again o fits rest =
      ap (field_at mark) (field_shape mark word (time_text o) rest)
      ∙ ap (λ r. r >>= λ found. maybe_at (codes "none") mark found.1) (until-front 32 word (time_text o ++ mark ∷ rest) plain)
      ∙ maybe-again (codes "none") mark (none-apart mark low) o fits rest

  pub given-again : (z : ℤ) → FitsSigned w64 z → (rest : List ℕ) → given_at mark (field mark word (signed_decimal z) ++ rest) ≡ Some (z, rest)
  given-again z fits rest =
      ap (λ r. r >>= λ found. found.0 >>= λ number. Some (number, found.1)) (field-again (Some z) fits rest)

  pub count-again : (n : ℕ) → IsCount n → (rest : List ℕ) → count_field mark (field mark word (decimal n) ++ rest) ≡ Some (n, rest)
  count-again n small rest =
      ap (λ r. r >>= λ found. natural found.0 >>= λ count. Some (count, found.1))
      (given-again (pos n) (record { sfits = omega arith }) rest)

module _ (word : List ℕ) (plain : Lacks 32 word) where
  pub ticks-again : (o : Option ℕ) → ForSome o IsCount → (rest : List ℕ) → ticks_at (line word (ticks_text o) ++ rest) ≡ Some (o, rest)
  ticks-again None small rest =
      ap (λ r. r >>= λ found. ticks_of found.0 >>= λ ticks. Some (ticks, found.1)) (field-again 10 (omega arith) word plain None tt rest)
  ticks-again (Some n) small rest =
      let few = small n refl in
      ap (λ r. r >>= λ found. ticks_of found.0 >>= λ ticks. Some (ticks, found.1))
      (field-again 10 (omega arith) word plain (Some (pos n)) (record { sfits = omega (arith, few) }) rest)

pub flag-again : (flag : Bool) (rest : List ℕ) → flag_at (line (codes "finished") (flag_text flag) ++ rest) ≡ Some (flag, rest)
flag-again true rest = refl
flag-again false rest = refl

-- the lines of a run's progress

options-again : (o : Options) (p : Progress) → o ≡ p.options → IsProgress p → (rest : List ℕ) → options_at (options_lines o ++ rest) ≡ Some (o, rest)
options-again o p same is rest =
    let is_lateness : ForSome o.lateness IsCount = rw same is.lateness in
    let is_idle : ForSome o.idle IsCount = rw same is.idle in
    let is_ahead : ForSome o.ahead IsCount = rw same is.ahead in
    let lateness = line (codes "lateness") (ticks_text o.lateness) in
    let idle = line (codes "idle") (ticks_text o.idle) in
    let ahead = line (codes "ahead") (ticks_text o.ahead) in
    ap options_at (after_three lateness idle ahead rest)
    ∙ rw (
      ticks-again (codes "lateness") refl o.lateness is_lateness (idle ++ (ahead ++ rest)),
      ticks-again (codes "idle") refl o.idle is_idle (ahead ++ rest),
      ticks-again (codes "ahead") refl o.ahead is_ahead rest,
    ) refl

counts-again : (p : Progress) → IsProgress p → (rest : List ℕ) → counts_at (counts_lines p ++ rest) ≡ Some ((p.bytes, p.lines, p.written), rest)
counts-again p is rest =
    let bytes = line (codes "bytes") (decimal p.bytes) in
    let lines = line (codes "lines") (decimal p.lines) in
    let written = line (codes "written") (decimal p.written) in
    ap counts_at (after_three bytes lines written rest)
    ∙ rw (
      count-again 10 (omega arith) (codes "bytes") refl p.bytes is.bytes (lines ++ (written ++ rest)),
      count-again 10 (omega arith) (codes "lines") refl p.lines is.lines (written ++ rest),
      count-again 10 (omega arith) (codes "written") refl p.written is.written rest,
    ) refl

place-again : (p : Progress) → IsProgress p → (rest : List ℕ) → place_at (place_lines p ++ rest) ≡ Some ((p.from, p.shown, p.finished), rest)
place-again p is rest =
    let from = line (codes "from") (signed_decimal p.from) in
    let shown = line (codes "shown") (time_text p.shown) in
    let finished = line (codes "finished") (flag_text p.finished) in
    ap place_at (after_three from shown finished rest)
    ∙ rw (
      given-again 10 (omega arith) (codes "from") refl p.from is.from (shown ++ (finished ++ rest)),
      field-again 10 (omega arith) (codes "shown") refl p.shown is.shown (finished ++ rest),
      flag-again p.finished rest,
    ) refl

marks-again : (p : Progress) → IsProgress p → (rest : List ℕ) → marks_at (marks_lines p ++ rest) ≡ Some ((p.greatest, p.latest), rest)
marks-again p is rest =
    let greatest = line (codes "greatest") (time_text p.greatest) in
    let latest = line (codes "latest") (time_text p.latest) in
    ap marks_at (after_two greatest latest rest)
    ∙ rw (
      field-again 10 (omega arith) (codes "greatest") refl p.greatest is.greatest (latest ++ rest),
      field-again 10 (omega arith) (codes "latest") refl p.latest is.latest rest,
    ) refl

pub progress-again : (p : Progress) → IsProgress p → (rest : List ℕ) → progress_at (progress_lines p ++ rest) ≡ Some (p, rest)
progress-again p is rest =
    let options = options_lines p.options in
    let counts = counts_lines p in
    let place = place_lines p in
    let marks = marks_lines p in
    ap progress_at (after_four options counts place marks rest)
    ∙ rw (
      options-again p.options p refl is (counts ++ (place ++ (marks ++ rest))),
      counts-again p is (place ++ (marks ++ rest)),
      place-again p is (marks ++ rest),
      marks-again p is rest,
    ) refl

-- the head of an input

start_fits : (o : Option OpenRow) → ForSome o IsOpenRow → IsCell (open_start o)
start_fits None is = tt
start_fits (Some row) is = (is row refl).start

value_fits : (o : Option OpenRow) → ForSome o IsOpenRow → IsCell (open_value o)
value_fits None is = tt
value_fits (Some row) is = (is row refl).value

open_again : (o : Option OpenRow) → open_row_of (open_start o) (open_value o) ≡ o
open_again None = refl
open_again (Some row) = refl

edge-again : (edge : Edge) → IsEdge edge → (rest : List ℕ)
    → edge_at (field 32 (codes "watermark") (signed_decimal edge.watermark)
    ++ (field 32 (codes "open") (time_text (open_start edge.open_row))
    ++ (field 32 (codes "value") (time_text (open_value edge.open_row)) ++ rest))) ≡ Some (edge, rest)
edge-again edge is rest =
    let start = field 32 (codes "open") (time_text (open_start edge.open_row)) in
    let value = field 32 (codes "value") (time_text (open_value edge.open_row)) in
    rw (
      given-again 32 (omega arith) (codes "watermark") refl edge.watermark is.watermark (start ++ (value ++ rest)),
      field-again 32 (omega arith) (codes "open") refl (open_start edge.open_row) (start_fits edge.open_row is.open_row) (value ++ rest),
      field-again 32 (omega arith) (codes "value") refl (open_value edge.open_row) (value_fits edge.open_row is.open_row) rest,
      open_again edge.open_row,
    ) refl

pub head-again : (edge : Edge) → IsEdge edge → (rows held : ℕ) → IsCount rows → IsCount held → (rest : List ℕ)
    → head_at (head_line edge rows held ++ rest) ≡ Some (record { edge = edge; rows = rows; held = held }, rest)
head-again edge is rows held few_rows few_held rest =
    let watermark = field 32 (codes "watermark") (signed_decimal edge.watermark) in
    let start = field 32 (codes "open") (time_text (open_start edge.open_row)) in
    let value = field 32 (codes "value") (time_text (open_value edge.open_row)) in
    let rows_field = field 32 (codes "rows") (decimal rows) in
    let held_field = line (codes "held") (decimal held) in
    ap head_at (after_five watermark start value rows_field held_field rest)
    ∙ rw (
      edge-again edge is (rows_field ++ (held_field ++ rest)),
      count-again 32 (omega arith) (codes "rows") refl rows few_rows (held_field ++ rest),
      count-again 10 (omega arith) (codes "held") refl held few_held rest,
    ) refl
