use Rattle.std.proofs.Common.{◌≡◌, ◌∙◌, ℕ, List, Some, ap, codes, false, refl}
use Rattle.std.specs.List.{list_any}
use Rattle.std.specs.Prelude.{option_map, string_bytes}
use Rattle.std.specs.Str.{bytes_eq}
use Rattle.tilt_cli.specs.Arguments.{arguments_of}
use Rattle.tilt_cli.specs.Options.{text_of}
use Rattle.tilt_live_cli.specs.Readings.{column_options, mark_options, meaning_options, moment_options, texts_with}
use Rattle.tilt_live_cli.proofs.reading_texts.take_reading_texts.Goals as goal

-- none of these options is the word
abbrev IsNone : List (List ℕ) → List ℕ → Type 0
IsNone options word = list_any (λ option. bytes_eq option word) options ≡ false

pub returns-clause-texts : goal.returns-clause-texts
returns-clause-texts c =
    let first = λ (word : List ℕ) (time : bytes_eq (codes "--time") word ≡ false). c.remove_text.ensures.others word time in
    let second = λ (word : List ℕ) (time : bytes_eq (codes "--time") word ≡ false) (columns : IsNone column_options word).
    c.take_columns-columns.ensures.others word columns ∙ first word time in
    let third = λ (word : List ℕ) (time : bytes_eq (codes "--time") word ≡ false) (columns : IsNone column_options word) (moments : IsNone moment_options word).
    c.take_moments-moments.ensures.others word moments ∙ second word time columns in
    let fourth = λ (word : List ℕ) (time : bytes_eq (codes "--time") word ≡ false) (columns : IsNone column_options word) (moments : IsNone moment_options word)
    (meanings : IsNone meaning_options word).
    c.take_meanings-meanings.ensures.others word meanings ∙ third word time columns moments in
    let name = c.take_columns-columns.ensures.name ∙ ap text_of (first (codes "--name") refl) in
    let value = c.take_columns-columns.ensures.value ∙ ap text_of (first (codes "--value") refl) in
    let tick = c.take_moments-moments.ensures.tick ∙ ap text_of (second (codes "--tick") refl refl) in
    let origin = c.take_moments-moments.ensures.origin ∙ ap text_of (second (codes "--origin") refl refl) in
    let unit = c.take_moments-moments.ensures.unit ∙ ap text_of (second (codes "--unit") refl refl) in
    let zone = c.take_moments-moments.ensures.zone ∙ ap text_of (second (codes "--zone") refl refl) in
    let fold = c.take_moments-moments.ensures.fold ∙ ap text_of (second (codes "--fold") refl refl) in
    let scale = c.take_meanings-meanings.ensures.scale ∙ ap text_of (third (codes "--scale") refl refl refl) in
    let events = c.take_meanings-meanings.ensures.events ∙ ap text_of (third (codes "--events") refl refl refl) in
    let max_age = c.take_meanings-meanings.ensures.max_age ∙ ap text_of (third (codes "--max-age") refl refl refl) in
    let closed = c.take_meanings-meanings.ensures.closed ∙ ap text_of (third (codes "--closed") refl refl refl) in
    let ties = c.take_meanings-meanings.ensures.ties ∙ ap text_of (third (codes "--ties") refl refl refl) in
    let null = c.take_marks-marks.ensures.null ∙ ap text_of (fourth (codes "--null") refl refl refl refl) in
    let delimiter = c.take_marks-marks.ensures.delimiter ∙ ap text_of (fourth (codes "--delimiter") refl refl refl refl) in
    let decimal = c.take_marks-marks.ensures.decimal ∙ ap text_of (fourth (codes "--decimal") refl refl refl refl) in
    (λ i. Some (record {
      time = string_bytes c.in-Some.time;
      name = name i;
      value = value i;
      tick = tick i;
      origin = origin i;
      unit = unit i;
      zone = zone i;
      fold = fold i;
      scale = scale i;
      event = c.has-event.ensures i;
      events = events i;
      max_age = max_age i;
      closed = closed i;
      ties = ties i;
      null = null i;
      skips_empty = c.has-skips_empty.ensures i;
      delimiter = delimiter i;
      decimal = decimal i;
    })) ∙ ap (option_map (texts_with (arguments_of c.args.given.now).settings)) c.in-Some.ensures.value

pub returns-clause-files : goal.returns-clause-files
returns-clause-files c =
    let first = λ (word : List ℕ) (time : bytes_eq (codes "--time") word ≡ false). c.remove_text.ensures.others word time in
    let second = λ (word : List ℕ) (time : bytes_eq (codes "--time") word ≡ false) (columns : IsNone column_options word).
    c.take_columns-columns.ensures.others word columns ∙ first word time in
    let third = λ (word : List ℕ) (time : bytes_eq (codes "--time") word ≡ false) (columns : IsNone column_options word) (moments : IsNone moment_options word).
    c.take_moments-moments.ensures.others word moments ∙ second word time columns in
    let fourth = λ (word : List ℕ) (time : bytes_eq (codes "--time") word ≡ false) (columns : IsNone column_options word) (moments : IsNone moment_options word)
    (meanings : IsNone meaning_options word).
    c.take_meanings-meanings.ensures.others word meanings ∙ third word time columns moments in
    let all = λ (word : List ℕ) (time : bytes_eq (codes "--time") word ≡ false) (columns : IsNone column_options word) (moments : IsNone moment_options word)
    (meanings : IsNone meaning_options word) (marks : IsNone mark_options word).
    c.take_marks-marks.ensures.others word marks ∙ fourth word time columns moments meanings in
    record {
      resume = all (codes "--resume") refl refl refl refl refl;
      save = all (codes "--save") refl refl refl refl refl;
      folder = all (codes "--folder") refl refl refl refl refl;
      bounds = all (codes "--bounds") refl refl refl refl refl;
    }

pub returns-in_default-clause-rows : goal.returns-in_default-clause-rows
returns-in_default-clause-rows c = λ none. c.in_default.ensures.others (codes "--scale") refl

pub returns-in_default-clause-files : goal.returns-in_default-clause-files
returns-in_default-clause-files c = record {
  resume = c.in_default.ensures.others (codes "--resume") refl;
  save = c.in_default.ensures.others (codes "--save") refl;
  folder = c.in_default.ensures.others (codes "--folder") refl;
  bounds = c.in_default.ensures.others (codes "--bounds") refl;
}
