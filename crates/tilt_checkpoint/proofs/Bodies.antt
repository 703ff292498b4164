-- What is read after the query is what is spelled.
use Rattle.std.proofs.Common.{◌≡◌, ℕ, ◌^◌, ◌<◌, Bool, true, false, not, ◌&&◌, if◌then◌else◌, List, [], ◌∷◌, ◌++◌, length, Option, Some, None, ℤ, refl, sym, ap, ◌∙◌, subst, arith, append_assoc}
use Rattle.std.specs.Prelude.{codes, int_lt, int_le}
use Rattle.std.specs.Fmt.{signed_decimal}
use Rattle.std.specs.List.{AllByRecursion, flat_map}
use Rattle.std.specs.Str.{bytes_eq}
use Rattle.std.proofs.lemmas.Bool.{and_parts, false≢true, and_from}
use Rattle.std.proofs.lemmas.Int.{ints}
use Rattle.std.proofs.lemmas.Option.{same_Some, some_pair_parts}
use Rattle.tilt_base.proofs.Comparisons.{lt_true, true_lt, le_true, true_le, bytes_same, same_bytes}
use Rattle.tilt_base.proofs.Lists.{guard_some}
use Rattle.tilt_text.specs.Step.{◌>>=◌}
use Rattle.tilt_text.proofs.Step.{bind_some}
use Rattle.tilt_checkpoint.specs.Checkpoint.{BodyParts, KeptParts, cuts_kept}
use Rattle.tilt_checkpoint.specs.Cuts.{IsCut, IsLeast}
use Rattle.tilt_checkpoint.specs.Decided.{IsFrame, decided, first_kept}
use Rattle.tilt_checkpoint.specs.Reading.{behind, behind_moment, body_at, end_at, form_of, is_amid, is_cut, is_least, is_open, maybe_at, moment_at, number_at, rest_at, times, with_kept}
use Rattle.tilt_checkpoint.specs.Spelling.{body_lines, series_lines, time_text}
use Rattle.tilt_checkpoint.specs.Valid.{IsAmid, IsCell, IsOpen, IsSeries}
use Rattle.tilt_checkpoint.specs.declared.frame.Frame.{Frame}
use Rattle.tilt_checkpoint.specs.declared.version.Version.{Version}
use Rattle.tilt_checkpoint.proofs.CutTests.{cut_true, least_true, true_cut, true_least}
use Rattle.tilt_checkpoint.proofs.Inputs.{cut_fits, series-again, series-were}
use Rattle.tilt_checkpoint.proofs.Pieces.{text-behind}
use Rattle.tilt_checkpoint.proofs.Rows.{time_fits}
use Rattle.tilt_checkpoint.proofs.Versions.{AllSuit}
use Rattle.tilt_checkpoint.proofs.Words.{number-again, number-was, maybe-again, maybe-was, none-apart}

-- tests

amid_true : (frame : Frame) (done : ℤ) → is_amid frame done ≡ true → IsAmid frame done
amid_true frame done h =
    let p = and_parts (int_lt frame.start done) (int_lt done frame.end) h in
    (lt_true frame.start done p.0, lt_true done frame.end p.1)

true_amid : (frame : Frame) (done : ℤ) → IsAmid frame done → is_amid frame done ≡ true
true_amid frame done h =
    and_from (int_lt frame.start done) (int_lt done frame.end) (true_lt frame.start done h.0) (true_lt done frame.end h.1)

not_amid : (t : Bool) → not t ≡ true → t ≡ true → ⊥
not_amid true n h = false≢true n
not_amid false n h = false≢true h

amid_not : (t : Bool) → (t ≡ true → ⊥) → not t ≡ true
amid_not true n = absurd (n refl)
amid_not false n = refl

open_true : (frame : Frame) (done : ℤ) (start : Option ℤ) → is_open frame done start ≡ true → IsOpen frame done start
open_true frame done None h = λ amid. not_amid (is_amid frame done) h (true_amid frame done amid)
open_true frame done (Some start) h =
    let p = and_parts (is_amid frame done && int_le frame.start start) (int_lt start done) h in
    let q = and_parts (is_amid frame done) (int_le frame.start start) p.0 in
    (amid_true frame done q.0, le_true frame.start start q.1, lt_true start done p.1)

true_open : (frame : Frame) (done : ℤ) (start : Option ℤ) → IsOpen frame done start → is_open frame done start ≡ true
true_open frame done None h = amid_not (is_amid frame done) (λ amid. h (amid_true frame done amid))
true_open frame done (Some start) h =
    and_from (is_amid frame done && int_le frame.start start) (int_lt start done)
    (and_from (is_amid frame done) (int_le frame.start start) (true_amid frame done h.0) (true_le frame.start start h.1))
    (true_lt start done h.2)

open_fits : (frame : Frame) → IsFrame frame → (cut : ℤ) (start : Option ℤ) → IsOpen frame (decided frame cut) start → IsCell start
open_fits frame is cut None h = tt
open_fits frame is cut (Some start) h =
    let low = is.low in
    let high = is.high in
    let above = h.1 in
    let below = h.2 in
    let amid = h.0.1 in
    time_fits start (omega (arith, ints)) (omega (arith, ints))

-- the lines after the query
body_shape : (version : Version) (cut : ℤ) (start : Option ℤ) (series : List KeptParts)
    → body_lines version cut start series
    ≡ codes "cut " ++ (signed_decimal cut ++ 10 ∷ (codes "open " ++ (time_text start ++ 10 ∷ (flat_map (series_lines version) series ++ codes "end\n"))))
body_shape version cut start series = simp append_assoc

moment-again : (cut : ℤ) (start : Option ℤ) → IsCell (Some cut) → IsCell start → (rest : List ℕ)
    → moment_at (codes "cut " ++ (signed_decimal cut ++ 10 ∷ (codes "open " ++ (time_text start ++ 10 ∷ rest)))) ≡ Some ((cut, start), rest)
moment-again cut start fits starts rest =
    rw (
      number-again 10 (omega arith) cut fits (codes "open " ++ (time_text start ++ 10 ∷ rest)),
      maybe-again (codes "none") 10 (none-apart 10 (omega arith)) start starts rest,
    ) refl

-- what is spelled after the query is read
pub body-again : (version : Version) (frame : Frame) (cut : ℤ) (start : Option ℤ) (series : List KeptParts) → IsFrame frame → IsCut cut
    → IsOpen frame (decided frame cut) start → AllByRecursion (IsSeries (first_kept frame cut)) series → IsLeast cut (cuts_kept series)
    → AllSuit version cut series → AllByRecursion (λ kept. length kept.rows < 2 ^ 63) series
    → body_at version frame (length series) (body_lines version cut start series) ≡ Some (record { cut = cut; open_start = start; series = series })
body-again version frame cut start series is within opened all least suit small =
    let form = form_of version frame cut in
    let rest = flat_map (series_lines version) series ++ codes "end\n" in
    let body : BodyParts = record { cut = cut; open_start = start; series = series } in
    let tests = and_from (is_cut cut) (is_open frame (decided frame cut) start) (true_cut cut within) (true_open frame (decided frame cut) start opened) in
    let moment = moment-again cut start (cut_fits cut within) (open_fits frame is cut start opened) rest in
    ap (body_at version frame (length series)) (body_shape version cut start series)
    ∙ ap (λ o. o >>= behind_moment version frame (length series)) moment
    ∙ ap (λ (t : Bool). if t then rest_at (length series) form start rest else None) tests
    ∙ ap (λ o. o >>= end_at cut start) (series-again form series [] (codes "end\n") all suit small)
    ∙ ap (λ (t : Bool). if t then Some body else None) (and_from _ (is_least cut series) (same_bytes (codes "end\n")) (true_least cut series least))

-- what is known of what was read after a query
pub record IsBody (version : Version) (frame : Frame) (inputs : ℕ) (bytes : List ℕ) (body : BodyParts) : Type 0 where
  pub spelled : bytes ≡ body_lines version body.cut body.open_start body.series
  pub cut : IsCut body.cut
  pub opened : IsOpen frame (decided frame body.cut) body.open_start
  pub counted : length body.series ≡ inputs
  pub series : AllByRecursion (IsSeries (first_kept frame body.cut)) body.series
  pub least : IsLeast body.cut (cuts_kept body.series)
  pub suit : AllSuit version body.cut body.series

abbrev moment3 : ℤ × List ℕ → Option ℤ × List ℕ → Option ((ℤ × Option ℤ) × List ℕ)
moment3 cut start = Some ((cut.0, start.0), start.1)

abbrev moment2 : ℤ × List ℕ → List ℕ → Option ((ℤ × Option ℤ) × List ℕ)
moment2 cut next = maybe_at (codes "none") 10 next >>= moment3 cut

abbrev moment1 : ℤ × List ℕ → Option ((ℤ × Option ℤ) × List ℕ)
moment1 cut = behind (codes "open ") cut.1 >>= moment2 cut

record WasMoment (bytes : List ℕ) (cut : ℤ) (start : Option ℤ) (rest : List ℕ) : Type 0 where
  spelled : bytes ≡ codes "cut " ++ (signed_decimal cut ++ 10 ∷ (codes "open " ++ (time_text start ++ 10 ∷ rest)))

moment-was : (bytes : List ℕ) (cut : ℤ) (start : Option ℤ) (rest : List ℕ) → moment_at bytes ≡ Some ((cut, start), rest)
    → WasMoment bytes cut start rest
moment-was bytes cut start rest e =
    let w = bind_some (behind (codes "cut ") bytes) (λ word. number_at 10 word >>= moment1) ((cut, start), rest) e in
    let n = bind_some (number_at 10 w.0) moment1 ((cut, start), rest) w.2 in
    let o = bind_some (behind (codes "open ") n.0.1) (moment2 n.0) ((cut, start), rest) n.2 in
    let s = bind_some (maybe_at (codes "none") 10 o.0) (moment3 n.0) ((cut, start), rest) o.2 in
    let p = some_pair_parts (n.0.0, s.0.0) (cut, start) s.0.1 rest s.2 in
    let first_word = text-behind (codes "cut ") bytes w.0 w.1 in
    let first_number = (number-was 10 w.0 n.0.0 n.0.1 n.1).spelled in
    let second_word = text-behind (codes "open ") n.0.1 o.0 o.1 in
    let second_number = (maybe-was (codes "none") 10 o.0 s.0.0 s.0.1 s.1).spelled in
    record {
      spelled =
          first_word
          ∙ ap (λ (t : List ℕ). codes "cut " ++ t) (first_number
          ∙ ap (λ (t : List ℕ). signed_decimal n.0.0 ++ 10 ∷ t) (second_word ∙ ap (λ (t : List ℕ). codes "open " ++ t) second_number))
          ∙ (λ i. codes "cut " ++ (signed_decimal ((p.0 i).0) ++ 10 ∷ (codes "open " ++ (time_text ((p.0 i).1) ++ 10 ∷ p.1 i))));
    }

-- and what is read after a query is spelled so
pub body-was : (version : Version) (frame : Frame) (inputs : ℕ) (bytes : List ℕ) (body : BodyParts) → body_at version frame inputs bytes ≡ Some body
    → IsBody version frame inputs bytes body
body-was version frame inputs bytes body e =
    let m = bind_some (moment_at bytes) (behind_moment version frame inputs) body e in
    let cut = m.0.0.0 in
    let start = m.0.0.1 in
    let form = form_of version frame cut in
    let g = guard_some (is_cut cut && is_open frame (decided frame cut) start) (rest_at inputs form start m.0.1) body m.2 in
    let tests = and_parts (is_cut cut) (is_open frame (decided frame cut) start) g.0 in
    let s = bind_some (times (with_kept form) inputs ([], m.0.1)) (end_at cut start) body g.1 in
    let made : BodyParts = record { cut = cut; open_start = start; series = s.0.0 } in
    let last = guard_some (bytes_eq s.0.1 (codes "end\n") && is_least cut s.0.0) (Some made) body s.2 in
    let ends = and_parts (bytes_eq s.0.1 (codes "end\n")) (is_least cut s.0.0) last.0 in
    let end = bytes_same s.0.1 (codes "end\n") ends.0 in
    let same = same_Some made body last.1 in
    let were = series-were form inputs [] m.0.1 s.0.0 s.0.1 s.1 in
    let joined = were.joined in
    let lines : m.0.1 ≡ flat_map (series_lines version) s.0.0 ++ codes "end\n" =
    were.spelled ∙ (λ i. flat_map (series_lines version) (sym joined i) ++ end i) in
    let whole : bytes ≡ body_lines version cut start s.0.0 =
    (moment-was bytes cut start m.0.1 m.1).spelled
    ∙ ap (λ (t : List ℕ). codes "cut " ++ (signed_decimal cut ++ 10 ∷ (codes "open " ++ (time_text start ++ 10 ∷ t)))) lines
    ∙ sym (body_shape version cut start s.0.0) in
    let is : IsBody version frame inputs bytes made = record {
      spelled = whole;
      cut = cut_true cut tests.0;
      opened = open_true frame (decided frame cut) start tests.1;
      counted = ap (λ (l : List KeptParts). length l) joined ∙ sym were.counted;
      series = subst (λ (l : List KeptParts). AllByRecursion (IsSeries (first_kept frame cut)) l) (sym joined) were.are;
      least = least_true cut s.0.0 ends.1;
      suit = subst (AllSuit version cut) (sym joined) were.suit;
    } in
    subst (IsBody version frame inputs bytes) same is
