-- What a text gives is the code whose listing it is, or the first fault in it, and nothing else.
use Rattle.std.proofs.Common.{◌≡◌, ◌⊎◌, ℕ, suc, ◌+◌, Bool, true, false, not, if◌then◌else◌, List, [], ◌∷◌, ◌++◌, length, map}
use Rattle.std.proofs.Common.{Option, Some, None, Result, Ok, Err, refl, sym, ap, ◌∙◌, subst, arith, inl, inr, ⊎_elim, append-nil}
use Rattle.std.specs.Prelude.{IfOk, IfErr, MatchResult}
use Rattle.std.specs.List.{AllByRecursion}
use Rattle.std.proofs.lemmas.Bool.{cases_Bool, and_parts}
use Rattle.std.proofs.lemmas.Option.{none-some, same_Some}
use Rattle.tilt_text.specs.Step.{◌>>=◌}
use Rattle.tilt_text.proofs.Lacks.{Lacks}
use Rattle.tilt_text.proofs.Step.{bind_some}
use Rattle.tilt_base.proofs.Lists.{all-parts}
use Rattle.tilt_code.specs.Code.{CodeParts}
use Rattle.tilt_code.specs.Fault.{code_texts, IsFront, IsListing, IsBadLine, IsBadReference, AreGood, count_lines, is_good, none_counted}
use Rattle.tilt_code.specs.Grammar.{IsGrammatical}
use Rattle.tilt_code.specs.Line.{line_text}
use Rattle.tilt_code.specs.Listing.{code_lines, ended, listing}
use Rattle.tilt_code.specs.Partial.{PartialCode, Progress, nothing, is_nil, is_end, is_whole, with_text, or_line, read_from, read_text, code_of, Gives}
use Rattle.tilt_code.specs.Reading.{pieces}
use Rattle.tilt_code.specs.References.{IsCode}
use Rattle.tilt_code.specs.declared.fault.CodeFault.{CodeFault}
use Rattle.tilt_code.specs.declared.fault.CodeFault.TheVariants as fault
use Rattle.tilt_code.specs.declared.line.Line.{Line}
use Rattle.tilt_code.specs.declared.place.Place.{Place}
use Rattle.tilt_code.specs.declared.stage.Stage.{Stage}
use Rattle.tilt_code.specs.declared.stage.Stage.TheVariants as stage
use Rattle.tilt_code.proofs.Complete.{at, code-run, code-fits, run_texts, texts-run, texts-front, texts-lack, length_some}
use Rattle.tilt_code.proofs.Counts.{code-good, good-code}
use Rattle.tilt_code.proofs.Fronts.{texts-sound, taken-front, front-taken}
use Rattle.tilt_code.proofs.LineText.{IsLine}
use Rattle.tilt_code.proofs.Notes.{noted-none, noted-first, Verdict, all_good, first_bad, verdict}
use Rattle.tilt_code.proofs.Partials.{IsPartial, nothing-is, written, written_in, take_text, nil_true, some_length}
use Rattle.tilt_code.proofs.Pieces.{pieces_some, pieces_front, pieces_lone}
use Rattle.tilt_code.proofs.Texts.{joined, joined_pieces, joined_then, joined_append, pieces_ended, pieces_lack, lacks_within, within_lacks, runs}
use Rattle.tilt_code.proofs.Texts.{read_runs, read_from-then, Told, whole, early, refused, Stops, stops, runs-taken, taken-runs, refused-taken}

abbrev start : Progress
start = record { code = nothing; bad = None }

-- a text that is read to its end
pub record ReadsAs (text : List ℕ) (q : Progress) : Type 0 where
  pub grammatical : IsGrammatical (code_of q.code)
  pub listed : text ≡ listing (code_of q.code)
  pub reached : runs 1 start (code_texts (code_of q.code)) ≡ Some q

ok-err : {A B : Type 0} (x : A) (y : B) → ◌≡◌ {A = Result A B} (Ok x) (Err y) → ⊥
ok-err x y e = cc e

same_Ok : {A B : Type 0} (x y : A) → ◌≡◌ {A = Result A B} (Ok x) (Ok y) → x ≡ y
same_Ok x y e = cc e

same_Err : {A B : Type 0} (x y : B) → ◌≡◌ {A = Result A B} (Err x) (Err y) → x ≡ y
same_Err x y e = cc e

whole-outside : (s : Stage) (p : PartialCode) → is_whole s p ≡ true → (s ≡ stage.Outside) × (is_nil p.loops ≡ false)
whole-outside stage.Before p e = absurd (cc e)
whole-outside stage.InMap p e = absurd (cc e)
whole-outside stage.InBody p e = absurd (cc e)
whole-outside stage.Outside p e =
    elim (cases_Bool (is_nil p.loops)) [ inl none ↦ absurd (cc (sym e ∙ ap not none)) | inr some ↦ (refl, some) ]

-- the pieces of whole lines are the lines
ended-joined : (front : List (List ℕ)) (here : List ℕ) (behind : List (List ℕ)) (bytes : List ℕ) → pieces 10 bytes ≡ front ++ here ∷ behind → bytes ≡ ended front ++ joined (here ∷ behind)
ended-joined front here behind bytes e = sym (joined_pieces bytes) ∙ ap joined e ∙ joined_append front here behind

module _ (bytes : List ℕ) (front : List (List ℕ)) (there : Progress) (reached : runs 1 start front ≡ Some there) where
  -- lines that were taken are those of the partial code
  front-written : IsPartial there.code × (map line_text (written there.code) ≡ front)
  front-written = texts-sound nothing there.code front nothing-is (runs-taken 1 start there front reached)

  whole-reads : (here : List ℕ) → is_end here there.code ≡ true → pieces 10 bytes ≡ front ++ here ∷ [] → ReadsAs bytes there
  whole-reads here done parts =
      let tests = and_parts (is_nil here) (is_whole there.code.stage there.code) done in
      let none = nil_true here tests.0 in
      let outside = whole-outside there.code.stage there.code tests.1 in
      let w = front-written in
      let texts : code_texts (code_of there.code) ≡ front = ap (λ (s : Stage). map line_text (written_in s there.code)) (sym outside.0) ∙ w.1 in
      record {
        grammatical = record { named = w.0.named; distinct = w.0.distinct; some = some_length there.code.loops outside.1; loops = w.0.loops };
        listed = ended-joined front here [] bytes parts ∙ ap (λ (t : List ℕ). ended front ++ t) none ∙ append-nil (ended front) ∙ ap ended (sym texts);
        reached = ap (runs 1 start) texts ∙ reached;
      }

abbrev Reading : List ℕ → Type 0
Reading bytes = Stops 1 start (pieces 10 bytes) (read_text bytes)

stops-some : (ps : List (List ℕ)) → (ps ≡ [] → ⊥) → Stops 1 start ps (read_from 1 start ps)
stops-some [] some = absurd (some refl)
stops-some (p ∷ ps) some = stops 1 start p ps

reading : (bytes : List ℕ) → Reading bytes
reading bytes = stops-some (pieces 10 bytes) (pieces_some 10 bytes)

reads-told : (bytes : List ℕ) (q : Progress) (r : Reading bytes) → read_text bytes ≡ Ok q → Told r.place r.here r.behind r.there (read_text bytes) → ReadsAs bytes q
reads-told bytes q r e (whole none done is) =
    subst (ReadsAs bytes) (same_Ok r.there q (sym is ∙ e)) (whole-reads bytes r.front r.there r.reached r.here done (r.parts ∙ ap (λ (l : List (List ℕ)). r.front ++ r.here ∷ l) none))
reads-told bytes q r e (early none done is) = absurd (ok-err q r.place (sym e ∙ is))
reads-told bytes q r e (refused some none is) = absurd (ok-err q r.place (sym e ∙ is))

-- a text that gives something is read to its end
pub reads-as : (bytes : List ℕ) (q : Progress) → read_text bytes ≡ Ok q → ReadsAs bytes q
reads-as bytes q e = let r = reading bytes in reads-told bytes q r e r.told

-- the listing of a code is read to its end
pub record Reads (code : CodeParts) : Type 0 where
  pub there : Progress
  pub read : read_text (listing code) ≡ Ok there
  pub parts : code_of there.code ≡ code
  pub reached : runs 1 start (code_texts code) ≡ Some there

pub code-reads : (code : CodeParts) → IsGrammatical code → Reads code
code-reads code h =
    let m = code-run code h in
    let target = at stage.Outside code.inputs code.loops m.low m.high m.points [] [] in
    let texts = code_texts code in
    let all = code-fits code h in
    let r = taken-runs 1 start target texts (texts-run nothing (code_lines code) all ∙ m.made) in
    let parts : pieces 10 (listing code) ≡ texts ++ [] ∷ [] = ap (pieces 10) (sym (append-nil (ended texts))) ∙ pieces_ended texts [] (texts-lack (code_lines code) all) in
    let done : is_end [] r.0.code ≡ true = ap (is_end []) r.2 ∙ ap not (length_some code.loops h.some) in
    record {
      there = r.0;
      read = ap (read_from 1 start) parts ∙ read_runs 1 start r.0 texts [] [] r.1 ∙ ap (λ (b : Bool). if b then Ok r.0 else Err (length texts + 1)) done;
      parts = ap code_of r.2;
      reached = r.1;
    }

-- bad lines

here-lacks : (bytes : List ℕ) (r : Reading bytes) → Lacks 10 r.here
here-lacks bytes r = (all-parts (Lacks 10) r.front (r.here ∷ r.behind) (subst (AllByRecursion (Lacks 10)) r.parts (pieces_lack bytes))).1.0

-- a text that is a listing isn't rejected
listing-reads : (bytes : List ℕ) (n : ℕ) → read_text bytes ≡ Err n → IsListing bytes → ⊥
listing-reads bytes n e (code, h, is) =
    let r = code-reads code h in
    ok-err r.there n (sym r.read ∙ ap read_text (sym is) ∙ e)

refused-front : (bytes : List ℕ) (r : Reading bytes) → with_text r.place r.here r.there ≡ None → IsFront (r.front ++ r.here ∷ []) → ⊥
refused-front bytes r none is =
    let f = front-taken (r.front ++ r.here ∷ []) is in
    let parts = texts-front nothing f.0 r.front (r.here ∷ []) f.1 in
    let same = same_Some parts.0 r.there.code (sym parts.1 ∙ runs-taken 1 start r.there r.front r.reached) in
    let step = bind_some (take_text r.here parts.0) (λ (p : PartialCode). Some p) f.0 parts.2 in
    refused-taken r.place r.there r.here step.0 none (ap (take_text r.here) (sym same) ∙ step.1)

told-bad : (bytes : List ℕ) (n : ℕ) (r : Reading bytes) → read_text bytes ≡ Err n → Told r.place r.here r.behind r.there (read_text bytes) → IsBadLine bytes n
told-bad bytes n r e (whole none done is) = absurd (ok-err r.there n (sym is ∙ e))
told-bad bytes n r e (early none done is) =
    let same = same_Err r.place n (sym is ∙ e) in
    let parts = ended-joined r.front r.here [] bytes (r.parts ∙ ap (λ (l : List (List ℕ)). r.front ++ r.here ∷ l) none) in
    record {
      before = r.front;
      rest = r.here;
      whole = parts;
      counted = omega (arith, r.counted, same);
      good = taken-front r.there.code r.front (runs-taken 1 start r.there r.front r.reached);
      bad = inl (lacks_within r.here (here-lacks bytes r), λ l. listing-reads bytes n e (l.0, l.1, parts ∙ l.2));
    }
told-bad bytes n r e (refused some none is) =
    let same = same_Err r.place n (sym is ∙ e) in
    record {
      before = r.front;
      rest = joined (r.here ∷ r.behind);
      whole = ended-joined r.front r.here r.behind bytes r.parts;
      counted = omega (arith, r.counted, same);
      good = taken-front r.there.code r.front (runs-taken 1 start r.there r.front r.reached);
      bad = inr (r.here, joined r.behind, lacks_within r.here (here-lacks bytes r), joined_then r.here r.behind some, refused-front bytes r none);
    }

-- the line that is reported is the first that is bad
pub bad-line : (bytes : List ℕ) (n : ℕ) → read_text bytes ≡ Err n → IsBadLine bytes n
bad-line bytes n e = let r = reading bytes in told-bad bytes n r e r.told

front-lacks : (texts : List (List ℕ)) → IsFront texts → AllByRecursion (Lacks 10) texts
front-lacks texts (code, h, behind) =
    (all-parts (Lacks 10) texts behind.0 (subst (AllByRecursion (Lacks 10)) behind.1 (texts-lack (code_lines code) (code-fits code h)))).0

texts-join : (p q r : PartialCode) (xs ys : List (List ℕ)) → run_texts p xs ≡ Some q → run_texts q ys ≡ Some r → run_texts p (xs ++ ys) ≡ Some r
texts-join p q r [] ys e f = ap (λ (x : PartialCode). run_texts x ys) (same_Some p q e) ∙ f
texts-join p q r (x ∷ xs) ys e f =
    let b = bind_some (take_text x p) (λ s. run_texts s xs) q e in
    ap (λ (o : Option PartialCode). o >>= λ s. run_texts s (xs ++ ys)) b.1 ∙ texts-join b.0 q r xs ys b.2 f

refused-or : (number : ℕ) (o : Option Progress) (next : Progress → Result Progress ℕ) → ((s : Progress) → o ≡ Some s → ⊥) → or_line number o next ≡ Err number
refused-or number None next never = refl
refused-or number (Some s) next never = absurd (never s refl)

module _ (bytes : List ℕ) (n : ℕ) (b : IsBadLine bytes n) (q : Progress) (reached : runs 1 start b.before ≡ Some q) where
  behind-reads : (p : List ℕ) (ps : List (List ℕ)) → pieces 10 b.rest ≡ p ∷ ps → read_text bytes ≡ read_from (length b.before + 1) q (p ∷ ps)
  behind-reads p ps e =
      ap (read_from 1 start) (ap (pieces 10) b.whole ∙ pieces_ended b.before b.rest (front-lacks b.before b.good) ∙ ap (λ (l : List (List ℕ)). b.before ++ l) e)
      ∙ read_runs 1 start q b.before p ps reached

  line-number : ◌≡◌ {A = Result Progress ℕ} (Err (length b.before + 1)) (Err n)
  line-number = let same : length b.before + 1 ≡ n = omega (arith, b.counted) in ap (λ (k : ℕ). Err k) same

  unended : Lacks 10 b.rest → ¬ (IsListing (ended b.before ++ b.rest)) → read_text bytes ≡ Err n
  unended lacks unlisted =
      let reads = behind-reads b.rest [] (pieces_lone 10 b.rest lacks) in
      elim (cases_Bool (is_end b.rest q.code)) [
        | inl done ↦
            let r = reads-as bytes q (reads ∙ ap (λ (t : Bool). if t then Ok q else Err (length b.before + 1)) done) in
            absurd (unlisted (code_of q.code, r.grammatical, sym b.whole ∙ r.listed))
        | inr other ↦ reads ∙ ap (λ (t : Bool). if t then Ok q else Err (length b.before + 1)) other ∙ line-number
      ]

  misplaced : (text more : List ℕ) → Lacks 10 text → b.rest ≡ text ++ 10 ∷ more → ¬ (IsFront (b.before ++ text ∷ [])) → read_text bytes ≡ Err n
  misplaced text more lacks e unfront =
      let reads = behind-reads text (pieces 10 more) (ap (pieces 10) e ∙ pieces_front 10 text more lacks) in
      let never : (s : Progress) → with_text (length b.before + 1) text q ≡ Some s → ⊥ = λ s taken.
      let step = runs-taken (length b.before + 1) q s (text ∷ []) (ap (λ (o : Option Progress). o >>= λ r. Some r) taken) in
      unfront (taken-front s.code (b.before ++ text ∷ []) (texts-join nothing q.code s.code b.before (text ∷ []) (runs-taken 1 start q b.before reached) step)) in
      reads ∙ read_from-then (length b.before + 1) q text (pieces 10 more) (pieces_some 10 more)
      ∙ refused-or (length b.before + 1) (with_text (length b.before + 1) text q) (λ r. read_from (suc (length b.before + 1)) r (pieces 10 more)) never ∙ line-number

-- and the first that is bad is reported
pub line-bad : (bytes : List ℕ) (n : ℕ) → IsBadLine bytes n → read_text bytes ≡ Err n
line-bad bytes n b =
    let f = front-taken b.before b.good in
    let r = taken-runs 1 start f.0 b.before f.1 in
    ⊎_elim (λ early. unended bytes n b r.0 r.1 (within_lacks b.rest early.0) early.1) (λ bad. misplaced bytes n b r.0 r.1 bad.0 bad.1 (within_lacks bad.0 bad.2) bad.3 bad.4) b.bad

-- references

module _ (code : CodeParts) (h : IsGrammatical code) (q : Progress) (reached : runs 1 start (code_texts code) ≡ Some q) where
  unnoted : AreGood none_counted (code_lines code) → q.bad ≡ None
  unnoted good = noted-none 1 start q none_counted (code_lines code) (code-fits code h) nothing-is (refl, refl) reached refl good

  noted : (before : List Line) (here : Line) (behind : List Line) → code_lines code ≡ before ++ here ∷ behind → AreGood none_counted before
      → is_good (count_lines none_counted before) here ≡ false → q.bad ≡ Some (record { in_loop = (count_lines none_counted before).loops; line = length before + 1 })
  noted before here behind e good bad =
      noted-first 1 start q none_counted before here behind (subst (AllByRecursion IsLine) e (code-fits code h)) nothing-is (refl, refl)
      (ap (λ (ls : List Line). runs 1 start (map line_text ls)) (sym e) ∙ reached) refl good bad

code-judged : (p : PartialCode) → IsGrammatical (code_of p) → runs 1 start (code_texts (code_of p)) ≡ Some (record { code = p; bad = None })
    → Verdict none_counted (code_lines (code_of p)) → IsCode (code_of p)
code-judged p h reached (all_good good) = record { grammatical = h; references = good-code (code_of p) h.loops good }
code-judged p h reached (first_bad before here behind e good bad) =
    absurd (none-some _ (noted (code_of p) h (record { code = p; bad = None }) reached before here behind e good bad))

place-judged : (bytes : List ℕ) (p : PartialCode) (place : Place) → ReadsAs bytes (record { code = p; bad = Some place })
    → Verdict none_counted (code_lines (code_of p)) → IsBadReference bytes place.in_loop place.line
place-judged bytes p place r (all_good good) =
    absurd (none-some place (sym (unnoted (code_of p) r.grammatical (record { code = p; bad = Some place }) r.reached good)))
place-judged bytes p place r (first_bad before here behind e good bad) =
    let found = same_Some place (record { in_loop = (count_lines none_counted before).loops; line = length before + 1 })
    (noted (code_of p) r.grammatical (record { code = p; bad = Some place }) r.reached before here behind e good bad) in
    record {
      code = code_of p;
      before = before;
      here = here;
      behind = behind;
      grammatical = r.grammatical;
      whole = r.listed;
      lines = e;
      good = good;
      bad = bad;
      counted = omega (arith, ap (λ (x : Place). x.line) found);
      loop_counted = ap (λ (x : Place). x.in_loop) found;
    }

-- a text that gives a code without a bad reference is the listing of a code
pub reads-code : (bytes : List ℕ) (p : PartialCode) → read_text bytes ≡ Ok (record { code = p; bad = None }) → IsCode (code_of p) × (bytes ≡ listing (code_of p))
reads-code bytes p e =
    let r = reads-as bytes (record { code = p; bad = None }) e in
    (code-judged p r.grammatical r.reached (verdict none_counted (code_lines (code_of p))), r.listed)

-- one with a bad reference has it first there
pub reads-bad : (bytes : List ℕ) (p : PartialCode) (place : Place) → read_text bytes ≡ Ok (record { code = p; bad = Some place }) → IsBadReference bytes place.in_loop place.line
reads-bad bytes p place e =
    let r = reads-as bytes (record { code = p; bad = Some place }) e in
    place-judged bytes p place r (verdict none_counted (code_lines (code_of p)))

-- the listing of a code gives that code
pub code-read : (code : CodeParts) → IsCode code → (p : PartialCode) × (read_text (listing code) ≡ Ok (record { code = p; bad = None })) × (code_of p ≡ code)
code-read code h =
    let r = code-reads code h.grammatical in
    let none = unnoted code h.grammatical r.there r.reached (code-good code h.grammatical.loops h.references) in
    (r.there.code, r.read ∙ ap (λ (o : Option Place). Ok (record { code = r.there.code; bad = o })) none, r.parts)

-- and a listing whose first bad reference is there gives that
pub bad-read : (bytes : List ℕ) (in_loop n : ℕ) → IsBadReference bytes in_loop n → (p : PartialCode)
    × (read_text bytes ≡ Ok (record { code = p; bad = Some (record { in_loop = in_loop; line = n }) }))
bad-read bytes in_loop n b =
    let r = code-reads b.code b.grammatical in
    let found = noted b.code b.grammatical r.there r.reached b.before b.here b.behind b.lines b.good b.bad in
    let line-is : length b.before + 1 ≡ n = omega (arith, b.counted) in
    let place : ◌≡◌ {A = Option Place} (Some (record { in_loop = (count_lines none_counted b.before).loops; line = length b.before + 1 })) (Some (record { in_loop = in_loop; line = n })) =
    λ i. Some (record { in_loop = sym b.loop_counted i; line = line-is i }) in
    (r.there.code, ap read_text b.whole ∙ r.read ∙ ap (λ (o : Option Place). Ok (record { code = r.there.code; bad = o })) (found ∙ place))

-- what a result says, if it gives what was read

pub given-code : (bytes : List ℕ) (result : Result CodeParts CodeFault) → Gives result (read_text bytes) → IfOk result (λ code. IsCode code × (bytes ≡ listing code))
given-code bytes (Ok code) g =
    let r = reads-code bytes g.0 g.1 in
    (subst IsCode (sym g.2) r.0, r.1 ∙ ap listing (sym g.2))
given-code bytes (Err f) g = tt

bad_code-is : (m n : ℕ) → fault.BadCode m ≡ fault.BadCode n → m ≡ n
bad_code-is m n e = cc e

pub given-line : (bytes : List ℕ) (result : Result CodeParts CodeFault) → Gives result (read_text bytes) → IfErr result (λ f. (n : ℕ) → f ≡ fault.BadCode n → IsBadLine bytes n)
given-line bytes (Ok code) g = tt
given-line bytes (Err (fault.BadCode m)) g = λ n e. subst (IsBadLine bytes) (bad_code-is m n e) (bad-line bytes m g)
given-line bytes (Err (fault.BadReference l m)) g = λ n e. absurd (cc e)
given-line bytes (Err fault.OutOfMemory) g = λ n e. absurd (cc e)

pub given-reference : (bytes : List ℕ) (result : Result CodeParts CodeFault) → Gives result (read_text bytes)
    → IfErr result (λ f. (in_loop n : ℕ) → f ≡ fault.BadReference in_loop n → IsBadReference bytes in_loop n)
given-reference bytes (Ok code) g = tt
given-reference bytes (Err (fault.BadCode m)) g = λ l n e. absurd (cc e)
given-reference bytes (Err (fault.BadReference k m)) g = λ l n e.
    let loops : k ≡ l = cc e in
    let lines : m ≡ n = cc e in
    subst (λ (j : ℕ). IsBadReference bytes j n) loops (subst (IsBadReference bytes k) lines (reads-bad bytes g.0 (record { in_loop = k; line = m }) g.1))
given-reference bytes (Err fault.OutOfMemory) g = λ l n e. absurd (cc e)

same_progress : (p q : PartialCode) (a b : Option Place) → ◌≡◌ {A = Result Progress ℕ} (Ok (record { code = p; bad = a })) (Ok (record { code = q; bad = b })) → (p ≡ q) × (a ≡ b)
same_progress p q a b e =
    let same = same_Ok {B = ℕ} (record { code = p; bad = a }) (record { code = q; bad = b }) e in
    (ap (λ (s : Progress). s.code) same, ap (λ (s : Progress). s.bad) same)

pub given-only : (bytes : List ℕ) (result : Result CodeParts CodeFault) → Gives result (read_text bytes) → (code : CodeParts) → IsCode code → bytes
    ≡ listing code → MatchResult result (λ found. found ≡ code) (λ f. f ≡ fault.OutOfMemory)
given-only bytes (Ok found) g code h is =
    let r = code-read code h in
    let same = same_progress g.0 r.0 None None (sym g.1 ∙ ap read_text is ∙ r.1) in
    g.2 ∙ ap code_of same.0 ∙ r.2
given-only bytes (Err (fault.BadCode m)) g code h is =
    let r = code-read code h in
    absurd (ok-err (record { code = r.0; bad = None }) m (sym r.1 ∙ ap read_text (sym is) ∙ g))
given-only bytes (Err (fault.BadReference k m)) g code h is =
    let r = code-read code h in
    let same = same_progress g.0 r.0 (Some (record { in_loop = k; line = m })) None (sym g.1 ∙ ap read_text is ∙ r.1) in
    absurd (none-some (record { in_loop = k; line = m }) (sym same.1))
given-only bytes (Err fault.OutOfMemory) g code h is = refl

pub given-first_line : (bytes : List ℕ) (result : Result CodeParts CodeFault) → Gives result (read_text bytes) → (n : ℕ) → IsBadLine bytes n
    → MatchResult result (λ _. ⊥) (λ f. (f ≡ fault.BadCode n) ⊎ (f ≡ fault.OutOfMemory))
given-first_line bytes (Ok found) g n b = ok-err (record { code = g.0; bad = None }) n (sym g.1 ∙ line-bad bytes n b)
given-first_line bytes (Err (fault.BadCode m)) g n b = inl (ap fault.BadCode (same_Err {A = Progress} m n (sym g ∙ line-bad bytes n b)))
given-first_line bytes (Err (fault.BadReference k m)) g n b = absurd (ok-err (record { code = g.0; bad = Some (record { in_loop = k; line = m }) }) n (sym g.1 ∙ line-bad bytes n b))
given-first_line bytes (Err fault.OutOfMemory) g n b = inr refl

pub given-first_reference : (bytes : List ℕ) (result : Result CodeParts CodeFault) → Gives result (read_text bytes) → (in_loop n : ℕ)
    → IsBadReference bytes in_loop n → MatchResult result (λ _. ⊥) (λ f. (f ≡ fault.BadReference in_loop n) ⊎ (f ≡ fault.OutOfMemory))
given-first_reference bytes (Ok found) g l n b =
    let r = bad-read bytes l n b in
    none-some (record { in_loop = l; line = n }) (same_progress g.0 r.0 None (Some (record { in_loop = l; line = n })) (sym g.1 ∙ r.1)).1
given-first_reference bytes (Err (fault.BadCode m)) g l n b =
    let r = bad-read bytes l n b in
    absurd (ok-err (record { code = r.0; bad = Some (record { in_loop = l; line = n }) }) m (sym r.1 ∙ g))
given-first_reference bytes (Err (fault.BadReference k m)) g l n b =
    let r = bad-read bytes l n b in
    let same = same_Some (record { in_loop = k; line = m }) (record { in_loop = l; line = n })
    (same_progress g.0 r.0 (Some (record { in_loop = k; line = m })) (Some (record { in_loop = l; line = n })) (sym g.1 ∙ r.1)).1 in
    inl (λ i. fault.BadReference (same i).in_loop (same i).line)
given-first_reference bytes (Err fault.OutOfMemory) g l n b = inr refl
