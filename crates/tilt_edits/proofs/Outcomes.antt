-- A text says one list of edits, or has one first bad line.
use Rattle.std.proofs.Common.{◌≡◌, ◌≢◌, ◌⊎◌, ℕ, zero, suc, ◌≤◌, Option, Some, None, refl, sym, ap, ◌∙◌, subst, arith, inl, inr}
use Rattle.std.proofs.Common.{List, [], ◌∷◌, ◌++◌, length, append_assoc, append-nil, length-append, Result, Ok, Err, MatchResult}
use Rattle.std.proofs.lemmas.Option.{none-some, same_Some}
use Rattle.std.specs.List.{AllByRecursion}
use Rattle.std.specs.Prelude.{IfOk}
use Rattle.tilt_edits.proofs.EditsOf.{are-edits_of}
use Rattle.tilt_edits.specs.Edited.{IsEditOf}
use Rattle.tilt_edits.specs.Edits.{edit_of, text_of_lines, Say, AreEdits, BeginsBadly, IsBadLine}
use Rattle.tilt_edits.specs.Reading.{next_edit, HasRead, Outcome, Tells}
use Rattle.tilt_edits.specs.declared.edit.Edit.{Edit}
use Rattle.tilt_edits.specs.declared.fault.EditFault.{EditFault}
use Rattle.tilt_edits.specs.declared.fault.EditFault.TheVariants.{BadEdit, OutOfMemory}
use Rattle.tilt_text.specs.Cut.{until_at}
use Rattle.tilt_edits.proofs.Lines.{NextLine, next_line, no_line, until_line}

-- a text ends here, or goes on badly
abbrev Ends : List (List ℕ) → List ℕ → Type 0
Ends inputs rest = (rest ≡ []) ⊎ BeginsBadly inputs rest

-- a text that begins with a line that is an edit doesn't
not_ended : (inputs : List (List ℕ)) (line more rest : List ℕ) (edit : Edit) → until_at 10 line ≡ None → edit_of inputs line ≡ Some edit
    → rest ≡ line ++ 10 ∷ more → Ends inputs rest → ⊥
not_ended inputs line more rest edit lacks reads is (inl none) =
    omega (arith, length-append line (10 ∷ more), ap (λ (t : List ℕ). length t) (sym none ∙ is))
not_ended inputs line more rest edit lacks reads is (inr bad) =
    none-some edit (sym (bad.bad line more (ap (until_at 10) is ∙ until_line line more lacks)) ∙ reads)

-- the lines of edits with which a text begins, and what follows them, where it ends there or goes on badly
record Same (good other : List (List ℕ)) (edits others : List Edit) (rest last : List ℕ) : Type 0 where
  same_lines : good ≡ other
  same_edits : edits ≡ others
  same_rest : rest ≡ last

same : (inputs good : List (List ℕ)) (edits : List Edit) (rest : List ℕ) (other : List (List ℕ)) (others : List Edit) (last : List ℕ)
    → Say inputs good edits → Say inputs other others → Ends inputs rest → Ends inputs last
    → text_of_lines good ++ rest ≡ text_of_lines other ++ last → Same good other edits others rest last
same inputs [] [] rest [] [] last say says ends end is = record { same_lines = refl; same_edits = refl; same_rest = is }
same inputs [] [] rest [] (f ∷ fs) last say says ends end is = absurd says
same inputs [] [] rest (m ∷ ms) [] last say says ends end is = absurd says
same inputs [] [] rest (m ∷ ms) (f ∷ fs) last say says ends end is =
    absurd (not_ended inputs m (text_of_lines ms ++ last) rest f says.0 says.1
    (is ∙ append_assoc m (10 ∷ text_of_lines ms) last) ends)
same inputs [] (e ∷ es) rest other others last say says ends end is = absurd say
same inputs (l ∷ ls) [] rest other others last say says ends end is = absurd say
same inputs (l ∷ ls) (e ∷ es) rest [] [] last say says ends end is =
    absurd (not_ended inputs l (text_of_lines ls ++ rest) last e say.0 say.1
    (sym is ∙ append_assoc l (10 ∷ text_of_lines ls) rest) end)
same inputs (l ∷ ls) (e ∷ es) rest [] (f ∷ fs) last say says ends end is = absurd says
same inputs (l ∷ ls) (e ∷ es) rest (m ∷ ms) [] last say says ends end is = absurd says
same inputs (l ∷ ls) (e ∷ es) rest (m ∷ ms) (f ∷ fs) last say says ends end is =
    let more : List ℕ = text_of_lines ls ++ rest in
    let most : List ℕ = text_of_lines ms ++ last in
    let t = sym (append_assoc l (10 ∷ text_of_lines ls) rest) ∙ is ∙ append_assoc m (10 ∷ text_of_lines ms) last in
    let p = same_Some (l, more) (m, most) (sym (until_line l more say.0) ∙ ap (until_at 10) t ∙ until_line m most says.0) in
    let line : l ≡ m = ap (λ (q : List ℕ × List ℕ). q.0) p in
    let edit : e ≡ f = same_Some e f (sym say.1 ∙ ap (edit_of inputs) line ∙ says.1) in
    let rests = same inputs ls es rest ms fs last say.2 says.2 ends end (ap (λ (q : List ℕ × List ℕ). q.1) p) in
    record {
      same_lines = λ i. line i ∷ rests.same_lines i;
      same_edits = λ i. edit i ∷ rests.same_edits i;
      same_rest = rests.same_rest;
    }

pub outcome-one : (inputs : List (List ℕ)) (bytes : List ℕ) (edits other : List Edit) → AreEdits inputs bytes edits
    → AreEdits inputs bytes other → edits ≡ other
outcome-one inputs bytes edits other are also =
    (same inputs are.lines edits [] also.lines other [] are.say also.say (inl refl) (inl refl)
    (append-nil (text_of_lines are.lines) ∙ sym are.is ∙ also.is ∙ sym (append-nil (text_of_lines also.lines)))).same_edits

pub outcome-first : (inputs : List (List ℕ)) (bytes : List ℕ) (line other : ℕ) → IsBadLine inputs bytes line
    → IsBadLine inputs bytes other → line ≡ other
outcome-first inputs bytes line other is also =
    is.number_is ∙ ap (λ (ls : List (List ℕ)). suc (length ls)) (same inputs is.good is.edits is.rest also.good also.edits also.rest
    is.say also.say (inr is.bad) (inr also.bad) (sym is.is ∙ also.is)).same_lines ∙ sym also.number_is

pub outcome-either : (inputs : List (List ℕ)) (bytes : List ℕ) (edits : List Edit) (line : ℕ) → AreEdits inputs bytes edits
    → IsBadLine inputs bytes line → ⊥
outcome-either inputs bytes edits line are bad =
    bad.bad.some (sym (same inputs are.lines edits [] bad.good bad.edits bad.rest are.say bad.say (inl refl) (inr bad.bad)
    (append-nil (text_of_lines are.lines) ∙ sym are.is ∙ bad.is)).same_rest)

-- the outcome of a text is the outcome after its first line, with that line
after_line : (inputs : List (List ℕ)) (bytes : List ℕ) (edit : Edit) (rest : List ℕ) → NextLine inputs bytes edit rest
    → Outcome inputs rest → Outcome inputs bytes
after_line inputs bytes edit rest next (inl (edits, are)) =
    inl (
      edit ∷ edits,
      record {
        lines = next.line ∷ are.lines;
        is = next.is ∙ ap (λ (t : List ℕ). next.line ++ 10 ∷ t) are.is;
        say = (next.lacks, next.reads, are.say);
      },
    )
after_line inputs bytes edit rest next (inr (line, bad)) =
    inr (
      suc line,
      record {
        good = next.line ∷ bad.good;
        edits = edit ∷ bad.edits;
        rest = bad.rest;
        is = next.is ∙ ap (λ (t : List ℕ). next.line ++ 10 ∷ t) bad.is
            ∙ sym (append_assoc next.line (10 ∷ text_of_lines bad.good) bad.rest);
        say = (next.lacks, next.reads, bad.say);
        bad = bad.bad;
        number_is = ap suc bad.number_is;
      },
    )

shorter : (line rest bytes : List ℕ) (n : ℕ) → length bytes ≤ suc n → bytes ≡ line ++ 10 ∷ rest → length rest ≤ n
shorter line rest bytes n short is =
    omega (arith, length-append line (10 ∷ rest), ap (λ (t : List ℕ). length t) is, short)

by_next : (inputs : List (List ℕ)) (bytes : List ℕ) (n : ℕ) → bytes ≢ [] → length bytes ≤ suc n
    → ((rest : List ℕ) → length rest ≤ n → Outcome inputs rest) → (o : Option (Edit × List ℕ)) → next_edit inputs bytes ≡ o
    → Outcome inputs bytes
by_next inputs bytes n some short later None e =
    inr (
      1,
      record {
        good = [];
        edits = [];
        rest = bytes;
        is = refl;
        say = tt;
        bad = no_line inputs bytes some e;
        number_is = refl;
      },
    )
by_next inputs bytes n some short later (Some (edit, rest)) e =
    let next = next_line inputs bytes edit rest e in
    after_line inputs bytes edit rest next (later rest (shorter next.line rest bytes n short next.is))

outcome_within : (inputs : List (List ℕ)) (n : ℕ) (bytes : List ℕ) → length bytes ≤ n → Outcome inputs bytes
outcome_within inputs n [] short = inl ([], record { lines = []; is = refl; say = tt })
outcome_within inputs zero (b ∷ bs) short = absurd (omega (arith, short))
outcome_within inputs (suc n) (b ∷ bs) short =
    by_next inputs (b ∷ bs) n (λ e. omega (arith, ap (λ (t : List ℕ). length t) e)) short (outcome_within inputs n)
    (next_edit inputs (b ∷ bs)) refl

pub outcome-some : (inputs : List (List ℕ)) (bytes : List ℕ) → Outcome inputs bytes
outcome-some inputs bytes = outcome_within inputs (length bytes) bytes (omega arith)

-- what is reported of a bad line
told : (inputs : List (List ℕ)) (bytes : List ℕ) (line : ℕ) → Tells inputs bytes (BadEdit line) → IsBadLine inputs bytes line
told inputs bytes line tells = let t = tells (λ e. cc e) in subst (IsBadLine inputs bytes) (same_line t.0 (sym t.1)) t.2 where
  same_line : (n : ℕ) → BadEdit n ≡ BadEdit line → n ≡ line
  same_line n e = cc e

-- so nothing else is given than the edits, or the first bad line
module _ {X : Type 0} (inputs : List (List ℕ)) (bytes : List ℕ) (items : X → List Edit) where
  pub given-only : (r : Result X EditFault) → MatchResult r (λ x. AreEdits inputs bytes (items x)) (Tells inputs bytes)
      → (edits : List Edit) → AreEdits inputs bytes edits → MatchResult r (λ x. items x ≡ edits) (λ fault. fault ≡ OutOfMemory)
  given-only (Ok x) given edits are = outcome-one inputs bytes (items x) edits given are
  given-only (Err OutOfMemory) given edits are = refl
  given-only (Err (BadEdit line)) given edits are =
      absurd (outcome-either inputs bytes edits line are (told inputs bytes line given))

  pub given-first : (r : Result X EditFault) → MatchResult r (λ x. AreEdits inputs bytes (items x)) (Tells inputs bytes)
      → (line : ℕ) → IsBadLine inputs bytes line
      → MatchResult r (λ x. ⊥) (λ fault. (fault ≡ BadEdit line) ⊎ (fault ≡ OutOfMemory))
  given-first (Ok x) given line bad = outcome-either inputs bytes (items x) line given bad
  given-first (Err OutOfMemory) given line bad = inr refl
  given-first (Err (BadEdit other)) given line bad =
      inl (ap BadEdit (outcome-first inputs bytes other line (told inputs bytes other given) bad))

  pub given-each : (r : Result X EditFault) → MatchResult r (λ x. AreEdits inputs bytes (items x)) (Tells inputs bytes)
      → IfOk r (λ x. AllByRecursion (IsEditOf (length inputs)) (items x))
  given-each (Ok x) given = are-edits_of inputs bytes (items x) given
  given-each (Err fault) given = tt

-- where no line is left that is an edit, and the text has edits, all of them were read
pub read_all : (inputs : List (List ℕ)) (bytes left : List ℕ) (edits all : List Edit) (number : ℕ) → HasRead inputs bytes left edits number
    → next_edit inputs left ≡ None → AreEdits inputs bytes all → AreEdits inputs bytes edits
read_all inputs bytes [] edits all number so none are =
    record { lines = so.good; is = so.is ∙ append-nil (text_of_lines so.good); say = so.say }
read_all inputs bytes (b ∷ bs) edits all number so none are =
    absurd (outcome-either inputs bytes all number are (record {
      good = so.good;
      edits = edits;
      rest = b ∷ bs;
      is = so.is;
      say = so.say;
      bad = no_line inputs (b ∷ bs) (λ e. omega (arith, ap (λ (t : List ℕ). length t) e)) none;
      number_is = so.number_is;
    }))
