-- Lines that are read one after another.
use Rattle.std.proofs.Common.{◌≡◌, ◌≢◌, ℕ, ◌+◌, Bool, true, false, Option, Some, None, if◌then◌else◌, refl, sym, ap, ◌∙◌, arith}
use Rattle.std.proofs.Common.{List, [], ◌∷◌, ◌++◌, length, ◌<◌, append_assoc, length-append}
use Rattle.std.specs.Prelude.{◌==◌}
use Rattle.std.proofs.lemmas.Option.{none-some, same_Some}
use Rattle.tilt_edits.specs.Edits.{edit_of, text_of_lines, Say, BeginsBadly}
use Rattle.tilt_edits.specs.Reading.{next_edit, HasRead}
use Rattle.tilt_edits.specs.declared.edit.Edit.{Edit}
use Rattle.tilt_text.specs.Cut.{onto, until_at}
use Rattle.tilt_text.specs.Step.{◌>>=◌}
use Rattle.tilt_text.proofs.Step.{bind_some}
use Rattle.tilt_text.proofs.Words.{front-until}

-- a step that always goes on gives nothing only if nothing was read before it
bind_none : {A B : Type 0} (o : Option A) (f : A → B) → (o >>= λ x. Some (f x)) ≡ None → o ≡ None
bind_none None f none = refl
bind_none (Some x) f none = absurd (none-some (f x) (sym none))

-- a line without an end is cut off at its end
until_ahead : (b : ℕ) (bs rest : List ℕ) (here : Bool)
    → (until_at 10 bs ≡ None → until_at 10 (bs ++ 10 ∷ rest) ≡ Some (bs, rest))
    → (if here then Some ([], bs) else (until_at 10 bs >>= onto b)) ≡ None
    → (if here then Some ([], bs ++ 10 ∷ rest) else (until_at 10 (bs ++ 10 ∷ rest) >>= onto b)) ≡ Some (b ∷ bs, rest)
until_ahead b bs rest true later none = absurd (none-some ([], bs) (sym none))
until_ahead b bs rest false later none =
    rw (later (bind_none (until_at 10 bs) (λ parts. (b ∷ parts.0, parts.1)) none)) refl

pub until_line : (line rest : List ℕ) → until_at 10 line ≡ None → until_at 10 (line ++ 10 ∷ rest) ≡ Some (line, rest)
until_line [] rest none = refl
until_line (b ∷ bs) rest none = until_ahead b bs rest (b == 10) (until_line bs rest) none

-- and what is cut off has no end
cut_ahead : (b : ℕ) (bs line rest : List ℕ) (here : Bool) → (b == 10) ≡ here
    → ((l r : List ℕ) → until_at 10 bs ≡ Some (l, r) → until_at 10 l ≡ None)
    → (if here then Some ([], bs) else (until_at 10 bs >>= onto b)) ≡ Some (line, rest) → until_at 10 line ≡ None
cut_ahead b bs line rest true is later e = rw (← ap (λ (q : List ℕ × List ℕ). q.0) (same_Some ([], bs) (line, rest) e)) refl
cut_ahead b bs line rest false is later e =
    let s = bind_some (until_at 10 bs) (onto b) (line, rest) e in
    let p = same_Some (b ∷ s.0.0, s.0.1) (line, rest) s.2 in
    rw (← ap (λ (q : List ℕ × List ℕ). q.0) p, is, later s.0.0 s.0.1 s.1) refl

cut_lacks : (bytes line rest : List ℕ) → until_at 10 bytes ≡ Some (line, rest) → until_at 10 line ≡ None
cut_lacks [] line rest e = absurd (none-some (line, rest) e)
cut_lacks (b ∷ bs) line rest e = cut_ahead b bs line rest (b == 10) refl (cut_lacks bs) e

-- the line of an edit that was read
pub record NextLine (inputs : List (List ℕ)) (bytes : List ℕ) (edit : Edit) (rest : List ℕ) : Type 0 where
  pub line : List ℕ
  pub is : bytes ≡ line ++ 10 ∷ rest
  pub lacks : until_at 10 line ≡ None
  pub reads : edit_of inputs line ≡ Some edit

pub next_line : (inputs : List (List ℕ)) (bytes : List ℕ) (edit : Edit) (rest : List ℕ) → next_edit inputs bytes ≡ Some (edit, rest)
    → NextLine inputs bytes edit rest
next_line inputs bytes edit rest e =
    let s = bind_some (until_at 10 bytes) (λ parts. edit_of inputs parts.0 >>= λ edit. Some (edit, parts.1)) (edit, rest) e in
    let t = bind_some (edit_of inputs s.0.0) (λ edit. Some (edit, s.0.1)) (edit, rest) s.2 in
    let p = same_Some (t.0, s.0.1) (edit, rest) t.2 in
    record {
      line = s.0.0;
      is = front-until 10 bytes s.0.0 s.0.1 s.1 ∙ ap (λ (q : Edit × List ℕ). s.0.0 ++ 10 ∷ q.1) p;
      lacks = cut_lacks bytes s.0.0 s.0.1 s.1;
      reads = t.1 ∙ ap (λ (q : Edit × List ℕ). Some q.0) p;
    }

-- a line that is no edit, or that isn't ended
pub no_line : (inputs : List (List ℕ)) (bytes : List ℕ) → bytes ≢ [] → next_edit inputs bytes ≡ None → BeginsBadly inputs bytes
no_line inputs bytes some none =
    record {
      some = some;
      bad = λ line more cut. bind_none (edit_of inputs line) (λ edit. (edit, more)) (rw cut at none);
    }

-- lines and one more
text-more : (good : List (List ℕ)) (line rest : List ℕ)
    → text_of_lines good ++ (line ++ 10 ∷ rest) ≡ text_of_lines (good ++ line ∷ []) ++ rest
text-more [] line rest = sym (append_assoc line (10 ∷ []) rest)
text-more (l ∷ good) line rest =
    append_assoc l (10 ∷ text_of_lines good) (line ++ 10 ∷ rest)
    ∙ ap (λ (t : List ℕ). l ++ 10 ∷ t) (text-more good line rest)
    ∙ sym (append_assoc l (10 ∷ text_of_lines (good ++ line ∷ [])) rest)

say-more : (inputs good : List (List ℕ)) (edits : List Edit) (line : List ℕ) (edit : Edit) → Say inputs good edits
    → until_at 10 line ≡ None → edit_of inputs line ≡ Some edit → Say inputs (good ++ line ∷ []) (edits ++ edit ∷ [])
say-more inputs [] [] line edit say lacks reads = (lacks, reads, tt)
say-more inputs [] (e ∷ es) line edit say lacks reads = absurd say
say-more inputs (l ∷ ls) [] line edit say lacks reads = absurd say
say-more inputs (l ∷ ls) (e ∷ es) line edit say lacks reads =
    (say.0, say.1, say-more inputs ls es line edit say.2 lacks reads)

-- after one line more
pub read_more : (inputs : List (List ℕ)) (bytes left : List ℕ) (edits : List Edit) (number : ℕ) (edit : Edit) (rest : List ℕ)
    → HasRead inputs bytes left edits number → next_edit inputs left ≡ Some (edit, rest)
    → HasRead inputs bytes rest (edits ++ edit ∷ []) (number + 1)
read_more inputs bytes left edits number edit rest so next =
    let n = next_line inputs left edit rest next in
    record {
      good = so.good ++ n.line ∷ [];
      is = so.is ∙ ap (λ (t : List ℕ). text_of_lines so.good ++ t) n.is ∙ text-more so.good n.line rest;
      say = say-more inputs so.good edits n.line edit so.say n.lacks n.reads;
      number_is = omega (arith, so.number_is, length-append so.good (n.line ∷ []));
    }

-- before the first line
pub none_read : (inputs : List (List ℕ)) (bytes : List ℕ) → HasRead inputs bytes bytes [] 1
none_read inputs bytes = record { good = []; is = refl; say = tt; number_is = refl }

-- what follows a line is shorter than what it begins
pub rest_shorter : (inputs : List (List ℕ)) (left : List ℕ) (edit : Edit) (rest : List ℕ) → next_edit inputs left ≡ Some (edit, rest)
    → length rest < length left
rest_shorter inputs left edit rest next =
    let n = next_line inputs left edit rest next in
    omega (arith, length-append n.line (10 ∷ rest), ap (λ (t : List ℕ). length t) n.is)
