-- A piece that is taken, line by line.
use Rattle.std.proofs.Common.{◌≡◌, ℕ, List, [], ◌++◌, true, None, Some, Result, Ok, Err, refl, sym, ◌∙◌, append_assoc, inl, inr, OnOk}
use Rattle.std.proofs.lemmas.Bool.{cases_Bool}
use Rattle.std.proofs.lemmas.List.{append-nil}
use Rattle.tilt_feed_text.proofs.Splitting.{lines-none, lines-until, unfinished-none, unfinished-until}
use Rattle.tilt_keyed_line.specs.Feeds.{KeyedFeed}
use Rattle.tilt_serving.proofs.Reporting.{reports-lost, reports-none, reports-short, reports-then}
use Rattle.tilt_live_keys.specs.Output.{Heard, after_heard, heard, heard_report, heard_stop}
use Rattle.tilt_serving.specs.Stops.{is_loss, is_lost}
use Rattle.tilt_live_keys.specs.Taken.{HasTakenLine, HasTakenPiece}
use Rattle.tilt_live_keys.specs.declared.key_recipe.KeyRecipe.{KeyRecipe}
use Rattle.tilt_serving.specs.declared.stop.Stop.{Stop}
use Rattle.tilt_serving.specs.declared.stop.Stop.TheVariants as stop
use Rattle.tilt_outside.specs.Counts.{next_count}
use Rattle.tilt_text.specs.Cut.{until_at}

-- what is always so
pub on-ok : (result : Result (Unit {0}) Stop) (A : Type 0) → A → OnOk result A
on-ok (Ok u) A a = a
on-ok (Err e) A a = tt

pub on-err : (result : Result (Unit {0}) Stop) (A : Type 0) (why : Stop) → result ≡ Err why → OnOk result A
on-err result A why is = rw is tt

pub ok-into : (result : Result (Unit {0}) Stop) (A B : Type 0) → (A → B) → OnOk result A → OnOk result B
ok-into (Ok u) A B f a = f a
ok-into (Err e) A B f a = tt

module _ {K : Type 0} (tells : Type 0) (written : K → List ℕ) (faults : K → ℕ) (recipe : KeyRecipe) where
  -- what the run is then, said otherwise
  pub line-into : (err err_then : K) (output output_then : List ℕ) (Is Then : ℕ → KeyedFeed → Type 0) (number : ℕ) (feed : KeyedFeed) (line : Heard)
      (result same : Result (Unit {0}) Stop) → same ≡ result → OnOk same ((n : ℕ) (f : KeyedFeed) → Is n f → Then n f)
      → HasTakenLine tells written faults recipe err err_then output output_then Is number feed line result
      → HasTakenLine tells written faults recipe err err_then output output_then Then number feed line same
  line-into err err_then output output_then Is Then number feed line (Ok u) same is into taken = rw is record {
    reports = taken.reports;
    wrote = taken.wrote;
    goes_on = (rw is at into) (next_count number) (after_heard line feed) taken.goes_on;
    stops = taken.stops;
  }
  line-into err err_then output output_then Is Then number feed line (Err e) same is into taken = rw is record {
    reports = taken.reports;
    wrote = taken.wrote;
    goes_on = tt;
    stops = taken.stops;
  }

  -- memory was refused before the line was taken
  pub line-refused : (err : K) (output output_then : List ℕ) (Is : ℕ → KeyedFeed → Type 0) (number : ℕ) (feed : KeyedFeed) (line : Heard)
      (result : Result (Unit {0}) Stop) → result ≡ Err stop.OutOfMemory → HasTakenLine tells written faults recipe err err output output_then Is number feed line result
  line-refused err output output_then Is number feed line result is =
      let lost : is_lost result ≡ true = rw is refl in
      record {
        reports = reports-lost tells written faults err _ result lost;
        wrote = λ e. absurd (cc (sym lost ∙ e));
        goes_on = rw is tt;
        stops = λ e. absurd (cc (sym lost ∙ e));
      }

  -- The first line of a piece that has one.
  module _ (number : ℕ) (feed : KeyedFeed) (front piece line rest : List ℕ) (found : until_at 10 piece ≡ Some (line, rest)) where
    -- it was taken, and then the rest of the piece
    pub piece-more : (err err_mid err_then : K) (output output_mid output_then : List ℕ) (Mid : ℕ → KeyedFeed → Type 0) (Is : ℕ → KeyedFeed → List ℕ → Type 0)
        (result : Result (Unit {0}) Stop)
        → HasTakenLine tells written faults recipe err err_mid output output_mid Mid number feed (heard number (front ++ line)) (Ok tt)
        → HasTakenPiece tells written faults recipe err_mid err_then output_mid output_then Is (next_count number)
        (after_heard (heard number (front ++ line)) feed) [] rest result
        → HasTakenPiece tells written faults recipe err err_then output output_then Is number feed front piece result
    piece-more err err_mid err_then output output_mid output_then Mid Is result first later =
        let going : heard_stop recipe (heard number (front ++ line)) feed ≡ None = sym (first.stops refl) in
        let done = rw going at first.wrote refl in
        record {
          reports = rw (lines-until front piece line rest found, going) (reports-then tells written faults err err_mid err_then _ _ result (first.reports.whole refl) later.reports);
          wrote = λ e. rw (lines-until front piece line rest found, going) (later.wrote e ∙ rw done (append_assoc output _ _));
          goes_on = rw (lines-until front piece line rest found, unfinished-until front piece line rest found) later.goes_on;
          stops = λ e. rw (lines-until front piece line rest found, going) (later.stops e);
        }

    -- the run stopped at it
    pub piece-stopped : (err err_then : K) (output output_then : List ℕ) (Mid : ℕ → KeyedFeed → Type 0) (Is : ℕ → KeyedFeed → List ℕ → Type 0) (why : Stop)
        (result : Result (Unit {0}) Stop) → result ≡ Err why
        → HasTakenLine tells written faults recipe err err_then output output_then Mid number feed (heard number (front ++ line)) (Err why)
        → HasTakenPiece tells written faults recipe err err_then output output_then Is number feed front piece result
    piece-stopped err err_then output output_then Mid Is why result is first =
        let now = heard number (front ++ line) in
        elim (cases_Bool (is_loss why)) [
          | inl lost ↦ rw is record {
            reports = rw (lines-until front piece line rest found) (reports-short tells written faults err err_then _ _ (Err why) lost (first.reports.front lost));
            wrote = λ e. absurd (cc (sym lost ∙ e));
            goes_on = tt;
            stops = λ e. absurd (cc (sym lost ∙ e));
          }
          | inr line_stop ↦
              let stopped : heard_stop recipe now feed ≡ Some why = sym (first.stops line_stop) in
              let done = rw stopped at first.wrote line_stop in
              rw is record {
                reports = rw (lines-until front piece line rest found, stopped, append-nil (heard_report recipe number now feed)) first.reports;
                wrote = λ e. rw (lines-until front piece line rest found, stopped) done;
                goes_on = tt;
                stops = λ e. rw (lines-until front piece line rest found, stopped) refl;
              }
        ]

  -- a piece without a line was taken
  pub piece-end : (err : K) (output : List ℕ) (Is : ℕ → KeyedFeed → List ℕ → Type 0) (number : ℕ) (feed : KeyedFeed) (front piece : List ℕ)
      → until_at 10 piece ≡ None → Is number feed (front ++ piece)
      → HasTakenPiece tells written faults recipe err err output output Is number feed front piece (Ok tt)
  piece-end err output Is number feed front piece none is = record {
    reports = rw (lines-none front piece none) (reports-none tells written faults err tt);
    wrote = λ _. rw (lines-none front piece none) (sym (append-nil output));
    goes_on = rw (lines-none front piece none, unfinished-none front piece none) is;
    stops = λ _. rw (lines-none front piece none) refl;
  }

  -- memory was refused before a piece without a line was taken
  pub piece-refused : (err : K) (output output_then : List ℕ) (Is : ℕ → KeyedFeed → List ℕ → Type 0) (number : ℕ) (feed : KeyedFeed) (front piece : List ℕ)
      (result : Result (Unit {0}) Stop) → result ≡ Err stop.OutOfMemory
      → HasTakenPiece tells written faults recipe err err output output_then Is number feed front piece result
  piece-refused err output output_then Is number feed front piece result is =
      let lost : is_lost result ≡ true = rw is refl in
      record {
        reports = reports-lost tells written faults err _ result lost;
        wrote = λ e. absurd (cc (sym lost ∙ e));
        goes_on = rw is tt;
        stops = λ e. absurd (cc (sym lost ∙ e));
      }
