-- What the run of a key writes is nothing but lines.
use Rattle.std.proofs.Common.{◌≡◌, ℕ, ℤ, ◌==◌, Bool, true, false, if◌then◌else◌, List, [], ◌∷◌, ◌++◌, length, drop, is_some, Option, None, Some, refl, sym, ap, ◌∙◌}
use Rattle.std.proofs.Common.{append_assoc, inl, inr}
use Rattle.std.proofs.lemmas.Bool.{cases_Bool, eqb-true}
use Rattle.tilt_feed.specs.Feed.{empty_feed}
use Rattle.tilt_feed.specs.Printed.{Begun, begun, printed}
use Rattle.tilt_keyed_line.specs.Outputs.{IsWhole, lines_after, text_of}
use Rattle.tilt_keyed_run.proofs.Apart.{whole-append}
use Rattle.tilt_live_keys.specs.Recipe.{key_added, key_first, key_options}
use Rattle.tilt_live_keys.specs.declared.key_recipe.KeyRecipe.{KeyRecipe}
use Rattle.tilt_live_run.specs.Bare.{state_of}
use Rattle.tilt_live_run.specs.Output.{begun_lines, begun_news, begun_start, is_start}
use Rattle.tilt_row_text.specs.Lines.{begun_line, lines_in, row_line}
use Rattle.tilt_row_text.specs.declared.style.RowStyle.{RowStyle}
use Rattle.tilt_stream.specs.Snap.{Snapshot}

-- a text that ends in LF, behind these bytes
text-after : (front x : List ℕ) → text_of (lines_after front (x ++ 10 ∷ [])) ≡ front ++ (x ++ 10 ∷ [])
text-after front [] = refl
text-after front (b ∷ x) =
    elim (cases_Bool (b == 10)) [
      | inl end ↦
          rw end (ap (λ (t : List ℕ). front ++ 10 ∷ t) (text-after [] x) ∙ ap (λ (c : ℕ). front ++ c ∷ (x ++ 10 ∷ [])) (sym (eqb-true b 10 end)))
      | inr inside ↦ rw inside (text-after (front ++ b ∷ []) x ∙ append_assoc front (b ∷ []) (x ++ 10 ∷ []))
    ]

whole-ended : (x : List ℕ) → IsWhole (x ++ 10 ∷ [])
whole-ended x = text-after [] x

-- the lines of rows, and of what has begun
whole-row : (style : RowStyle) (s : Snapshot) → IsWhole (row_line style s)
whole-row style s = whole-ended _

whole-begun : (style : RowStyle) (start value : ℤ) → IsWhole (begun_line style start value)
whole-begun style start value = whole-ended _

whole-rows : (style : RowStyle) (list : List Snapshot) → IsWhole (lines_in style list)
whole-rows style [] = refl
whole-rows style (s ∷ ss) =
    elim (cases_Bool (is_some s.value)) [
      | inl there ↦ rw there (whole-append (row_line style s) (lines_in style ss) (whole-row style s) (whole-rows style ss))
      | inr null ↦ rw null (whole-rows style ss)
    ]

begun_whole : (style : RowStyle) (start : ℤ) (value : Option ℤ) → IsWhole (begun_lines style start value)
begun_whole style start None = refl
begun_whole style start (Some value) = whole-begun style start value

unless_shown : (shown : Bool) (text : List ℕ) → IsWhole text → IsWhole (if shown then [] else text)
unless_shown true text whole = refl
unless_shown false text whole = whole

news_whole : (style : RowStyle) (before : Option ℤ) (found : Option Begun) → IsWhole (begun_news style before found)
news_whole style before None = refl
news_whole style before (Some b) = unless_shown (is_start before b.start) (begun_lines style b.start b.value) (begun_whole style b.start b.value)

if_asked : (asked : Bool) (text : List ℕ) → IsWhole text → IsWhole (if asked then text else [])
if_asked true text whole = whole
if_asked false text whole = refl

-- what is written before the first line of a key, and for a line after others
pub whole-first : (recipe : KeyRecipe) → IsWhole (key_first recipe)
whole-first recipe =
    let core = recipe.accepted.core in
    let style = recipe.display.style in
    let feed = empty_feed (length core.inputs) in
    whole-append (lines_in style (printed core feed)) _ (whole-rows style (printed core feed))
    (if_asked recipe.display.with_begun _ (news_whole style None (begun core feed)))

pub whole-added : (recipe : KeyRecipe) (before : List (List ℕ)) (line : List ℕ) → IsWhole (key_added recipe before line)
whole-added recipe before line =
    let core = recipe.accepted.core in
    let style = recipe.display.style in
    let was = (state_of (key_options recipe) core before).feed in
    let now = (state_of (key_options recipe) core (before ++ line ∷ [])).feed in
    let rows = drop (length (printed core was)) (printed core now) in
    whole-append (lines_in style rows) _ (whole-rows style rows)
    (if_asked recipe.display.with_begun _ (news_whole style (begun_start (begun core was)) (begun core now)))
