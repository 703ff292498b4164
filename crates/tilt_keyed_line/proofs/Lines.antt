-- The lines of texts.
use Rattle.std.proofs.Common.{◌≡◌, ℕ, ◌<◌, Bool, true, false, if◌then◌else◌, ◌==◌, List, [], ◌∷◌, ◌++◌, Option, Some, None, refl, sym, ap, ◌∙◌}
use Rattle.std.proofs.Common.{append_assoc, append-nil, length, length-append, arith, inl, inr, map}
use Rattle.std.proofs.lemmas.Bool.{cases_Bool}
use Rattle.std.proofs.lemmas.Option.{none-some, same_Some}
use Rattle.tilt_keyed_line.specs.Outputs.{key_line, lines_after, lines_in, text_of, with_key}
use Rattle.tilt_text.proofs.Lacks.{Lacks, lacks-append, lacks-more, lacks-parts}
use Rattle.tilt_text.proofs.Step.{bind_some}
use Rattle.tilt_text.proofs.Words.{front-until}
use Rattle.tilt_text.specs.Cut.{onto, until_at}
use Rattle.tilt_text.specs.Step.{◌>>=◌}

-- what comes before the first mark is without it
lacks_head : (mark b : ℕ) (bs front rest : List ℕ) (here : Bool) → (b == mark) ≡ here
    → ((f r : List ℕ) → until_at mark bs ≡ Some (f, r) → Lacks mark f)
    → (if here then Some ([], bs) else (until_at mark bs >>= onto b)) ≡ Some (front, rest) → Lacks mark front
lacks_head mark b bs front rest true is before e =
    let p : [] ≡ front = ap (λ (q : List ℕ × List ℕ). q.0) (same_Some ([], bs) (front, rest) e) in
    rw (sym p) refl
lacks_head mark b bs front rest false is before e =
    let s = bind_some (until_at mark bs) (onto b) (front, rest) e in
    let p : b ∷ s.0.0 ≡ front = ap (λ (q : List ℕ × List ℕ). q.0) (same_Some (b ∷ s.0.0, s.0.1) (front, rest) s.2) in
    rw (sym p) (lacks-more mark b s.0.0 is (before s.0.0 s.0.1 s.1))

pub front-lacks : (mark : ℕ) (bytes front rest : List ℕ) → until_at mark bytes ≡ Some (front, rest) → Lacks mark front
front-lacks mark [] front rest e = absurd (none-some (front, rest) e)
front-lacks mark (b ∷ bs) front rest e = lacks_head mark b bs front rest (b == mark) refl (front-lacks mark bs) e

-- a line and its LF at the beginning of a text
pub lines-line : (front line rest : List ℕ) → Lacks 10 line → lines_after front (line ++ 10 ∷ rest) ≡ (front ++ line) ∷ lines_in rest
lines-line front [] rest h = rw (append-nil front) refl
lines-line front (b ∷ line) rest h =
    let parts = lacks-parts 10 b line h in
    rw parts.0 (lines-line (front ++ b ∷ []) line rest parts.1 ∙ ap (λ (t : List ℕ). t ∷ lines_in rest) (append_assoc front (b ∷ []) line))

pub lines-until : (bytes line rest : List ℕ) → until_at 10 bytes ≡ Some (line, rest) → lines_in bytes ≡ line ∷ lines_in rest
lines-until bytes line rest e =
    rw (front-until 10 bytes line rest e) (lines-line [] line rest (front-lacks 10 bytes line rest e))

-- a text without an LF has no line
no_end : (b : ℕ) (bytes : List ℕ) → until_at 10 (b ∷ bytes) ≡ None → ((b == 10) ≡ false) × (until_at 10 bytes ≡ None)
no_end b bytes e = by (b == 10) (until_at 10 bytes) refl refl e
  where
    by : (here : Bool) (found : Option (List ℕ × List ℕ)) → (b == 10) ≡ here → until_at 10 bytes ≡ found
        → (if here then Some ([], bytes) else (found >>= onto b)) ≡ None → ((b == 10) ≡ false) × (until_at 10 bytes ≡ None)
    by true found is was e = cc e
    by false None is was e = (is, was)
    by false (Some parts) is was e = cc e

lines-none : (front bytes : List ℕ) → until_at 10 bytes ≡ None → lines_after front bytes ≡ []
lines-none front [] e = refl
lines-none front (b ∷ bytes) e =
    let p = no_end b bytes e in
    rw p.0 (lines-none (front ++ b ∷ []) bytes p.1)

pub no-lines : (bytes : List ℕ) → until_at 10 bytes ≡ None → lines_in bytes ≡ []
no-lines bytes e = lines-none [] bytes e

-- what is left of a text after its first line is shorter
pub rest-shorter : (bytes line rest : List ℕ) → until_at 10 bytes ≡ Some (line, rest) → length rest < length bytes
rest-shorter bytes line rest e =
    let is = ap length (front-until 10 bytes line rest e) in
    let both = length-append line (10 ∷ rest) in
    omega (arith, is, both)

-- lines without an LF in them
abbrev pub AreLines : List (List ℕ) → Type 0
AreLines [] = Unit {0}
AreLines (line ∷ lines) = Lacks 10 line × AreLines lines

pub lines-are : (front bytes : List ℕ) → Lacks 10 front → AreLines (lines_after front bytes)
lines-are front [] h = tt
lines-are front (b ∷ bytes) h =
    elim (cases_Bool (b == 10)) [
      | inl end ↦ rw end (h, lines-are [] bytes refl)
      | inr other ↦ rw other (lines-are (front ++ b ∷ []) bytes (lacks-append 10 front (b ∷ []) h (lacks-more 10 b [] other refl)))
    ]

-- their text has them
pub lines-text : (lines : List (List ℕ)) (more : List ℕ) → AreLines lines → lines_in (text_of lines ++ more) ≡ lines ++ lines_in more
lines-text [] more h = refl
lines-text (line ∷ lines) more h =
    rw (append_assoc line (10 ∷ text_of lines) more)
    (lines-line [] line (text_of lines ++ more) h.0 ∙ ap (λ (t : List (List ℕ)). line ∷ t) (lines-text lines more h.1))

pub lines-alone : (lines : List (List ℕ)) → AreLines lines → lines_in (text_of lines) ≡ lines
lines-alone lines h = ap lines_in (sym (append-nil (text_of lines))) ∙ lines-text lines [] h ∙ append-nil lines

-- a key goes before lines
pub keyed-are : (key : List ℕ) (lines : List (List ℕ)) → Lacks 10 key → AreLines lines → AreLines (map (key_line key) lines)
keyed-are key [] k h = tt
keyed-are key (line ∷ lines) k h =
    (lacks-append 10 key (44 ∷ line) k (lacks-more 10 44 line refl h.0), keyed-are key lines k h.1)

pub with-key-are : (key output : List ℕ) → Lacks 10 key → AreLines (map (key_line key) (lines_in output))
with-key-are key output k = keyed-are key (lines_in output) k (lines-are [] output refl)

-- the first line of an output, with its key, and the others
pub with-first : (key output line rest : List ℕ) → until_at 10 output ≡ Some (line, rest)
    → (key_line key line ++ 10 ∷ []) ++ with_key key rest ≡ with_key key output
with-first key output line rest e =
    rw (lines-until output line rest e) (append_assoc (key_line key line) (10 ∷ []) (with_key key rest))

pub with-none : (key output : List ℕ) → until_at 10 output ≡ None → with_key key output ≡ []
with-none key output e = rw (no-lines output e) refl
