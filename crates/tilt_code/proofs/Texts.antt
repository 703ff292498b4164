-- A text, cut at each LF, and what it gives.
use Rattle.std.proofs.Common.{◌≡◌, ℕ, zero, suc, ◌+◌, Bool, true, false, if◌then◌else◌, List, [], ◌∷◌, ◌++◌, length, Option, Some}
use Rattle.std.proofs.Common.{None, Result, Ok, Err, refl, sym, ap, ◌∙◌, arith, inl, inr, append-nil, append_assoc, add-one}
use Rattle.std.specs.Prelude.{codes, ◌==◌}
use Rattle.std.specs.List.{AllByRecursion, join_with_byte, onto_first}
use Rattle.std.proofs.lemmas.Bool.{cases_Bool, eqb-true}
use Rattle.std.proofs.lemmas.List.Splits.{join_with_byte-slice_split}
use Rattle.std.proofs.lemmas.Option.{none-some, same_Some}
use Rattle.tilt_text.specs.Step.{◌>>=◌}
use Rattle.tilt_text.proofs.Lacks.{Lacks, lacks-more, lacks-parts}
use Rattle.tilt_text.proofs.Step.{bind_some}
use Rattle.tilt_code.specs.Fault.{HasNoLineEnd}
use Rattle.tilt_code.specs.Listing.{ended}
use Rattle.tilt_code.specs.Partial.{PartialCode, Progress, is_end, line_read, with_line, with_text, note, or_line, read_from}
use Rattle.tilt_code.specs.Reading.{pieces}
use Rattle.tilt_code.specs.declared.line.Line.{Line}
use Rattle.tilt_code.proofs.Complete.{run_texts}
use Rattle.tilt_code.proofs.Partials.{take_text}
use Rattle.tilt_code.proofs.Pieces.{pieces_some, pieces_front}

-- cutting

-- pieces with LF between them
abbrev pub joined : List (List ℕ) → List ℕ
joined = join_with_byte 10

pub joined_then : (w : List ℕ) (ws : List (List ℕ)) → (ws ≡ [] → ⊥) → joined (w ∷ ws) ≡ w ++ 10 ∷ joined ws
joined_then w [] h = absurd (h refl)
joined_then w (v ∷ ws) h = refl

pub joined_pieces : (bytes : List ℕ) → joined (pieces 10 bytes) ≡ bytes
joined_pieces bytes = join_with_byte-slice_split 10 bytes

onto_lacks : (b : ℕ) (ws : List (List ℕ)) → (b == 10) ≡ false → AllByRecursion (Lacks 10) ws → AllByRecursion (Lacks 10) (onto_first b ws)
onto_lacks b [] h all = (lacks-more 10 b [] h refl, tt)
onto_lacks b (w ∷ ws) h all = (lacks-more 10 b w h all.0, all.1)

-- no LF is in a piece
pub pieces_lack : (bytes : List ℕ) → AllByRecursion (Lacks 10) (pieces 10 bytes)
pieces_lack [] = (refl, tt)
pieces_lack (b ∷ bs) =
    elim (cases_Bool (b == 10)) [
      | inl same ↦ rw same (refl, pieces_lack bs)
      | inr other ↦ rw other (onto_lacks b (pieces 10 bs) other (pieces_lack bs))
    ]

pub joined_append : (ws : List (List ℕ)) (v : List ℕ) (vs : List (List ℕ)) → joined (ws ++ v ∷ vs) ≡ ended ws ++ joined (v ∷ vs)
joined_append [] v vs = refl
joined_append (w ∷ []) v vs =
    sym (append_assoc w (codes "\n") (joined (v ∷ vs))) ∙ ap (λ (t : List ℕ). t ++ joined (v ∷ vs)) (sym (append-nil (w ++ codes "\n")))
joined_append (w ∷ x ∷ ws) v vs =
    ap (λ (t : List ℕ). w ++ 10 ∷ t) (joined_append (x ∷ ws) v vs) ∙ sym (append_assoc w (codes "\n") (ended (x ∷ ws) ++ joined (v ∷ vs)))
    ∙ sym (append_assoc (w ++ codes "\n") (ended (x ∷ ws)) (joined (v ∷ vs)))

-- whole lines before a text are pieces before its pieces
pub pieces_ended : (texts : List (List ℕ)) (rest : List ℕ) → AllByRecursion (Lacks 10) texts → pieces 10 (ended texts ++ rest) ≡ texts ++ pieces 10 rest
pieces_ended [] rest all = refl
pieces_ended (t ∷ ts) rest all =
    ap (pieces 10) (append_assoc (t ++ codes "\n") (ended ts) rest ∙ append_assoc t (codes "\n") (ended ts ++ rest))
    ∙ pieces_front 10 t (ended ts ++ rest) all.0 ∙ ap (λ (ps : List (List ℕ)). t ∷ ps) (pieces_ended ts rest all.1)

-- no LF within, in the words of the definition and byte by byte

pub lacks_within : (bs : List ℕ) → Lacks 10 bs → HasNoLineEnd bs
lacks_within [] h c = absurd (omega (arith, c.1))
lacks_within (b ∷ bs) h (zero, lt, is) = cc (sym (lacks-parts 10 b bs h).0 ∙ ap (λ (n : ℕ). n == 10) is)
lacks_within (b ∷ bs) h (suc k, lt, is) = lacks_within bs (lacks-parts 10 b bs h).1 (k, omega (arith, lt), is)

pub within_lacks : (bs : List ℕ) → HasNoLineEnd bs → Lacks 10 bs
within_lacks [] h = refl
within_lacks (b ∷ bs) h =
    elim (cases_Bool (b == 10)) [
      | inl same ↦ absurd (h (zero, omega arith, eqb-true b 10 same))
      | inr other ↦ lacks-more 10 b bs other (within_lacks bs (λ c. h (suc c.0, omega (arith, c.1), c.2)))
    ]

-- going on

-- what texts give, one after the other, from the line of that number on
abbrev pub runs : ℕ → Progress → List (List ℕ) → Option Progress
runs number s [] = Some s
runs number s (t ∷ ts) = with_text number t s >>= λ q. runs (suc number) q ts

pub read_from-then : (number : ℕ) (s : Progress) (t : List ℕ) (ps : List (List ℕ)) → (ps ≡ [] → ⊥) → read_from number s (t ∷ ps)
    ≡ or_line number (with_text number t s) (λ q. read_from (suc number) q ps)
read_from-then number s t [] h = absurd (h refl)
read_from-then number s t (p ∷ ps) h = refl

some_behind : (xs : List (List ℕ)) (p : List ℕ) (ps : List (List ℕ)) → xs ++ p ∷ ps ≡ [] → ⊥
some_behind [] p ps e = cc e
some_behind (x ∷ xs) p ps e = cc e

-- texts that give something, and what is after them
pub read_runs : (number : ℕ) (s q : Progress) (ts : List (List ℕ)) (p : List ℕ) (ps : List (List ℕ)) → runs number s ts ≡ Some q
    → read_from number s (ts ++ p ∷ ps) ≡ read_from (length ts + number) q (p ∷ ps)
read_runs number s q [] p ps e =
    let count : number ≡ 0 + number = omega arith in
    let same = same_Some s q e in
    λ i. read_from (count i) (same i) (p ∷ ps)
read_runs number s q (t ∷ ts) p ps e =
    let b = bind_some (with_text number t s) (λ r. runs (suc number) r ts) q e in
    let count : length ts + suc number ≡ suc (length ts) + number = omega arith in
    read_from-then number s t (ts ++ p ∷ ps) (some_behind ts p ps)
    ∙ ap (λ (o : Option Progress). or_line number o (λ r. read_from (suc number) r (ts ++ p ∷ ps))) b.1 ∙ read_runs (suc number) b.0 q ts p ps b.2 ∙ ap (λ (n : ℕ). read_from n q (p ∷ ps)) count

-- why the reading of pieces stops: at the end of a listing, at an end that is none, or at a line that can't be there
pub data Told (at : ℕ) (here : List ℕ) (behind : List (List ℕ)) (there : Progress) (read : Result Progress ℕ) : Type 0 where
  whole : behind ≡ [] → is_end here there.code ≡ true → read ≡ Ok there → Told at here behind there read
  early : behind ≡ [] → is_end here there.code ≡ false → read ≡ Err at → Told at here behind there read
  refused : (behind ≡ [] → ⊥) → with_text at here there ≡ None → read ≡ Err at → Told at here behind there read

-- where it stops
pub record Stops (number : ℕ) (s : Progress) (ps : List (List ℕ)) (read : Result Progress ℕ) : Type 0 where
  pub front : List (List ℕ)
  pub here : List ℕ
  pub behind : List (List ℕ)
  pub there : Progress
  pub place : ℕ
  pub parts : ps ≡ front ++ here ∷ behind
  pub reached : runs number s front ≡ Some there
  pub counted : place ≡ length front + number
  pub told : Told place here behind there read

stops_then : (number : ℕ) (s q : Progress) (t : List ℕ) (ps : List (List ℕ)) (read : Result Progress ℕ) → with_text number t s ≡ Some q → Stops (suc number) q ps read → Stops number s (t ∷ ps) read
stops_then number s q t ps read e r = record {
  front = t ∷ r.front;
  here = r.here;
  behind = r.behind;
  there = r.there;
  place = r.place;
  parts = ap (λ (l : List (List ℕ)). t ∷ l) r.parts;
  reached = ap (λ (o : Option Progress). o >>= λ p. runs (suc number) p r.front) e ∙ r.reached;
  counted = omega (arith, r.counted);
  told = r.told;
}

stops_at : (number : ℕ) (s : Progress) (t : List ℕ) (p : List ℕ) (ps : List (List ℕ)) (o : Option Progress) → with_text number t s ≡ o
    → ((q : Progress) → Stops (suc number) q (p ∷ ps) (read_from (suc number) q (p ∷ ps))) → Stops number s (t ∷ p ∷ ps) (or_line number o (λ q. read_from (suc number) q (p ∷ ps)))
stops_at number s t p ps None e next = record {
  front = [];
  here = t;
  behind = p ∷ ps;
  there = s;
  place = number;
  parts = refl;
  reached = refl;
  counted = omega arith;
  told = refused (λ h. cc h) e refl;
}
stops_at number s t p ps (Some q) e next = stops_then number s q t (p ∷ ps) _ e (next q)

-- reading stops somewhere
pub stops : (number : ℕ) (s : Progress) (p : List ℕ) (ps : List (List ℕ)) → Stops number s (p ∷ ps) (read_from number s (p ∷ ps))
stops number s p [] =
    elim (cases_Bool (is_end p s.code)) [
      | inl holds ↦ record {
        front = [];
        here = p;
        behind = [];
        there = s;
        place = number;
        parts = refl;
        reached = refl;
        counted = omega arith;
        told = whole refl holds (ap (λ (b : Bool). if b then Ok s else Err number) holds);
      }
      | inr other ↦ record {
        front = [];
        here = p;
        behind = [];
        there = s;
        place = number;
        parts = refl;
        reached = refl;
        counted = omega arith;
        told = early refl other (ap (λ (b : Bool). if b then Ok s else Err number) other);
      }
    ]
stops number s p (next ∷ ps) = stops_at number s p next ps (with_text number p s) refl (λ q. stops (suc number) q next ps)

-- the bad references that are noted on the way change nothing of what is taken

pub runs-taken : (number : ℕ) (s q : Progress) (ts : List (List ℕ)) → runs number s ts ≡ Some q → run_texts s.code ts ≡ Some q.code
runs-taken number s q [] e = ap (λ (o : Option Progress). o >>= λ r. Some r.code) e
runs-taken number s q (t ∷ ts) e =
    let b = bind_some (with_text number t s) (λ r. runs (suc number) r ts) q e in
    let l = bind_some (line_read t) (λ k. with_line k s.code >>= λ p. Some (record { code = p; bad = note s.bad s.code k number })) b.0 b.1 in
    let p = bind_some (with_line l.0 s.code) (λ r. Some (record { code = r; bad = note s.bad s.code l.0 number })) b.0 l.2 in
    let same = same_Some (record { code = p.0; bad = note s.bad s.code l.0 number }) b.0 p.2 in
    let rest = runs-taken (suc number) b.0 q ts b.2 in
    let taken : take_text t s.code ≡ Some p.0 = ap (λ (o : Option Line). o >>= λ k. with_line k s.code) l.1 ∙ p.1 in
    ap (λ (o : Option PartialCode). o >>= λ r. run_texts r ts) taken ∙ ap (λ (x : Progress). run_texts x.code ts) same ∙ rest

pub taken-runs : (number : ℕ) (s : Progress) (p : PartialCode) (ts : List (List ℕ)) → run_texts s.code ts ≡ Some p → (q : Progress) × (runs number s ts ≡ Some q) × (q.code ≡ p)
taken-runs number s p [] e = (s, refl, same_Some s.code p e)
taken-runs number s p (t ∷ ts) e =
    let b = bind_some (take_text t s.code) (λ r. run_texts r ts) p e in
    let l = bind_some (line_read t) (λ k. with_line k s.code) b.0 b.1 in
    let next : Progress = record { code = b.0; bad = note s.bad s.code l.0 number } in
    let taken : with_text number t s ≡ Some next = ap (λ (o : Option Line). o >>= λ k. with_line k s.code >>= λ r. Some
    (record { code = r; bad = note s.bad s.code k number })) l.1 ∙ ap (λ (o : Option PartialCode). o >>= λ r. Some (record { code = r; bad = note s.bad s.code l.0 number })) l.2 in
    let rest = taken-runs (suc number) next p ts b.2 in
    (rest.0, ap (λ (o : Option Progress). o >>= λ r. runs (suc number) r ts) taken ∙ rest.1, rest.2)

-- a text that can't be taken can't be taken without the notes either
pub refused-taken : (number : ℕ) (s : Progress) (t : List ℕ) (p : PartialCode) → with_text number t s ≡ None → take_text t s.code ≡ Some p → ⊥
refused-taken number s t p none e =
    let r = taken-runs number s p (t ∷ []) (ap (λ (o : Option PartialCode). o >>= λ r. Some r) e) in
    none-some r.0 (sym (ap (λ (o : Option Progress). o >>= λ r. Some r) none) ∙ r.1)

-- a line that can't be there
pub read_refused : (number : ℕ) (s : Progress) (left text behind : List ℕ) → pieces 10 left ≡ text ∷ pieces 10 behind → with_text number text s ≡ None
    → read_from number s (pieces 10 left) ≡ Err number
read_refused number s left text behind e none =
    ap (read_from number s) e ∙ read_from-then number s text (pieces 10 behind) (pieces_some 10 behind)
    ∙ ap (λ (o : Option Progress). or_line number o (λ q. read_from (suc number) q (pieces 10 behind))) none

-- one that was taken
pub read_taken : (number : ℕ) (s q : Progress) (left text behind : List ℕ) → pieces 10 left ≡ text ∷ pieces 10 behind → with_text number text s ≡ Some q
    → read_from number s (pieces 10 left) ≡ read_from (number + 1) q (pieces 10 behind)
read_taken number s q left text behind e taken =
    ap (read_from number s) e ∙ read_from-then number s text (pieces 10 behind) (pieces_some 10 behind)
    ∙ ap (λ (o : Option Progress). or_line number o (λ r. read_from (suc number) r (pieces 10 behind))) taken ∙ ap (λ (n : ℕ). read_from n q (pieces 10 behind)) (sym (add-one number))
