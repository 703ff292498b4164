-- The first bad reference is noted on the way.
use Rattle.std.proofs.Common.{◌≡◌, ℕ, suc, ◌+◌, ◌-◌, Bool, true, false, ◌&&◌, if◌then◌else◌, nat_eq, List, [], ◌∷◌, ◌++◌, length}
use Rattle.std.proofs.Common.{map, Option, Some, None, ℤ, IsTrue, refl, sym, ap, ◌∙◌, subst, arith, inl, inr, length-append}
use Rattle.std.proofs.lemmas.Bool.{cases_Bool, and_parts}
use Rattle.std.proofs.lemmas.Option.{none-some, same_Some}
use Rattle.tilt_base.specs.Grid.{GridPoints}
use Rattle.tilt_base.proofs.Lists.{guard_some}
use Rattle.tilt_text.specs.Step.{◌>>=◌}
use Rattle.tilt_text.proofs.Step.{bind_some}
use Rattle.tilt_code.specs.Fault.{Counted, count_line, count_lines, is_good, AreGood}
use Rattle.tilt_code.specs.Grammar.{stands_in_map, stands_in_body}
use Rattle.tilt_code.specs.Line.{line_text}
use Rattle.tilt_code.specs.Partial.{PartialCode, Progress, is_nil, is_new, with_title, with_input, with_head, with_map, with_step, with_end, with_line, with_text, note, refers_back, open_loop}
use Rattle.tilt_code.specs.References.{refers_below}
use Rattle.tilt_code.specs.declared.instr.Instr.{Instr}
use Rattle.tilt_code.specs.declared.line.Line.{Line}
use Rattle.tilt_code.specs.declared.line.Line.TheVariants as line
use Rattle.tilt_code.specs.declared.place.Place.{Place}
use Rattle.tilt_code.specs.declared.stage.Stage.{Stage}
use Rattle.tilt_code.specs.declared.stage.Stage.TheVariants as stage
use Rattle.tilt_code.proofs.Complete.{AreLines}
use Rattle.tilt_code.proofs.Counts.{map_refers}
use Rattle.tilt_code.proofs.LineText.{IsLine, text_again}
use Rattle.tilt_code.proofs.Partials.{IsPartial, IsPartialAt, guard_else, line-sound}
use Rattle.tilt_code.proofs.Texts.{runs}

-- the counts are those of the partial code
abbrev pub Agrees : Stage → PartialCode → Counted → Type 0
Agrees stage.Before p c = (c.inputs ≡ length p.inputs) × (c.loops ≡ length p.loops)
Agrees stage.Outside p c = (c.inputs ≡ length p.inputs) × (c.loops ≡ length p.loops)
Agrees stage.InMap p c = (c.inputs ≡ length p.inputs) × (c.loops ≡ suc (length p.loops)) × (c.maps ≡ suc (length p.maps))
Agrees stage.InBody p c = (c.inputs ≡ length p.inputs) × (c.loops ≡ suc (length p.loops)) × (c.maps ≡ length p.maps)

title-agrees : (at : Stage) (p q : PartialCode) (c : Counted) → Agrees at p c → with_title at p ≡ Some q → Agrees q.stage q c
title-agrees stage.Before p q c a e =
    let r : PartialCode = record p { stage = stage.Outside } in
    subst (λ (x : PartialCode). Agrees x.stage x c) (same_Some r q e) a
title-agrees stage.Outside p q c a e = absurd (none-some q e)
title-agrees stage.InMap p q c a e = absurd (none-some q e)
title-agrees stage.InBody p q c a e = absurd (none-some q e)

input-agrees : (at : Stage) (name : List ℕ) (p q : PartialCode) (c : Counted) → Agrees at p c → with_input at name p ≡ Some q → Agrees q.stage q (record c { inputs = suc c.inputs })
input-agrees stage.Outside name p q c a e =
    let r : PartialCode = record p { stage = stage.Outside; inputs = p.inputs ++ name ∷ [] } in
    let kept = guard_some (is_new p.loops p.inputs name) (Some r) q e in
    subst (λ (x : PartialCode). Agrees x.stage x (record c { inputs = suc c.inputs })) (same_Some r q kept.1) (omega (arith, a.0, length-append p.inputs (name ∷ [])), a.1)
input-agrees stage.Before name p q c a e = absurd (none-some q e)
input-agrees stage.InMap name p q c a e = absurd (none-some q e)
input-agrees stage.InBody name p q c a e = absurd (none-some q e)

head-agrees : (at : Stage) (lo hi : ℤ) (grid : GridPoints) (p q : PartialCode) (c : Counted) → IsPartialAt at p → Agrees at p c → with_head at lo hi grid p
    ≡ Some q → Agrees q.stage q (record c { loops = suc c.loops; maps = 0 })
head-agrees stage.Outside lo hi grid p q c g a e =
    let r : PartialCode = record p { stage = stage.InBody; lo = lo; hi = hi; grid = grid } in
    subst (λ (x : PartialCode). Agrees x.stage x (record c { loops = suc c.loops; maps = 0 })) (same_Some r q e) (a.0, ap suc a.1, sym (ap length g.inside.0))
head-agrees stage.Before lo hi grid p q c g a e = absurd (none-some q e)
head-agrees stage.InMap lo hi grid p q c g a e = absurd (none-some q e)
head-agrees stage.InBody lo hi grid p q c g a e = absurd (none-some q e)

map-agrees : (at : Stage) (p q : PartialCode) (c : Counted) → Agrees at p c → with_map at p ≡ Some q → Agrees q.stage q (record c { maps = suc c.maps })
map-agrees stage.InBody p q c a e =
    let r : PartialCode = record p { stage = stage.InMap } in
    let kept = guard_some (is_nil p.block) (Some r) q e in
    subst (λ (x : PartialCode). Agrees x.stage x (record c { maps = suc c.maps })) (same_Some r q kept.1) (a.0, a.1, ap suc a.2)
map-agrees stage.Before p q c a e = absurd (none-some q e)
map-agrees stage.Outside p q c a e = absurd (none-some q e)
map-agrees stage.InMap p q c a e = absurd (none-some q e)

step-agrees : (at : Stage) (register : ℕ) (i : Instr) (p q : PartialCode) (c : Counted) → Agrees at p c → with_step at register i p ≡ Some q → Agrees q.stage q c
step-agrees stage.InMap register i p q c a e =
    let r : PartialCode = record p { stage = stage.InMap; block = p.block ++ i ∷ [] } in
    let kept = guard_some (stands_in_map i && nat_eq register (length p.block)) (Some r) q e in
    subst (λ (x : PartialCode). Agrees x.stage x c) (same_Some r q kept.1) a
step-agrees stage.InBody register i p q c a e =
    let r : PartialCode = record p { stage = stage.InBody; block = p.block ++ i ∷ [] } in
    let kept = guard_some (stands_in_body i && nat_eq register (length p.block)) (Some r) q e in
    subst (λ (x : PartialCode). Agrees x.stage x c) (same_Some r q kept.1) a
step-agrees stage.Before register i p q c a e = absurd (none-some q e)
step-agrees stage.Outside register i p q c a e = absurd (none-some q e)

end-agrees : (at : Stage) (p q : PartialCode) (c : Counted) → Agrees at p c → with_end at p ≡ Some q → Agrees q.stage q c
end-agrees stage.InMap p q c a e =
    let r : PartialCode = record p { stage = stage.InBody; maps = p.maps ++ p.block ∷ []; block = [] } in
    let kept = guard_else (is_nil p.block) (Some r) q e in
    subst (λ (x : PartialCode). Agrees x.stage x c) (same_Some r q kept.1) (a.0, a.1, omega (arith, a.2, length-append p.maps (p.block ∷ [])))
end-agrees stage.InBody p q c a e =
    let r : PartialCode = record p { stage = stage.Outside; loops = p.loops ++ open_loop p ∷ []; maps = []; block = [] } in
    let kept = guard_else (is_nil p.block) (Some r) q e in
    subst (λ (x : PartialCode). Agrees x.stage x c) (same_Some r q kept.1) (a.0, omega (arith, a.1, length-append p.loops (open_loop p ∷ [])))
end-agrees stage.Before p q c a e = absurd (none-some q e)
end-agrees stage.Outside p q c a e = absurd (none-some q e)

-- one line more keeps that
line-agrees : (l : Line) (p q : PartialCode) (c : Counted) → IsPartial p → Agrees p.stage p c → with_line l p ≡ Some q → Agrees q.stage q (count_line c l)
line-agrees line.Title p q c g a e = title-agrees p.stage p q c a e
line-agrees (line.Input name) p q c g a e = input-agrees p.stage name p q c a e
line-agrees (line.Head lo hi grid) p q c g a e = head-agrees p.stage lo hi grid p q c g a e
line-agrees line.Map p q c g a e = map-agrees p.stage p q c a e
line-agrees (line.Step register i) p q c g a e = step-agrees p.stage register i p q c a e
line-agrees line.End p q c g a e = end-agrees p.stage p q c a e

-- the references of a line that was taken are judged alike, and its loop is counted alike

record Judged (p : PartialCode) (c : Counted) (l : Line) : Type 0 where
  same : refers_back p l ≡ is_good c l
  loop : is_good c l ≡ false → suc (length p.loops) ≡ c.loops

step-judged : (at : Stage) (register : ℕ) (i : Instr) (p q : PartialCode) (c : Counted) → Agrees at p c → with_step at register i p ≡ Some q → Judged p c (line.Step register i)
step-judged stage.InMap register i p q c a e =
    let r : PartialCode = record p { stage = stage.InMap; block = p.block ++ i ∷ [] } in
    let kept = guard_some (stands_in_map i && nat_eq register (length p.block)) (Some r) q e in
    let tests = and_parts (stands_in_map i) (nat_eq register (length p.block)) kept.0 in
    record {
      same = map_refers (length p.inputs + length p.loops) (length p.maps) (c.inputs + (c.loops - 1)) c.maps register i tests.0;
      loop = λ _. sym a.1;
    }
step-judged stage.InBody register i p q c a e =
    let buffers : length p.inputs + length p.loops ≡ c.inputs + (c.loops - 1) = omega (arith, a.0, a.1) in
    record {
      same = λ j. refers_below (buffers j) (sym a.2 j) register i;
      loop = λ _. sym a.1;
    }
step-judged stage.Before register i p q c a e = absurd (none-some q e)
step-judged stage.Outside register i p q c a e = absurd (none-some q e)

line-judged : (l : Line) (p q : PartialCode) (c : Counted) → Agrees p.stage p c → with_line l p ≡ Some q → Judged p c l
line-judged line.Title p q c a e = record { same = refl; loop = λ h. cc h }
line-judged (line.Input name) p q c a e = record { same = refl; loop = λ h. cc h }
line-judged (line.Head lo hi grid) p q c a e = record { same = refl; loop = λ h. cc h }
line-judged line.Map p q c a e = record { same = refl; loop = λ h. cc h }
line-judged (line.Step register i) p q c a e = step-judged p.stage register i p q c a e
line-judged line.End p q c a e = record { same = refl; loop = λ h. cc h }

-- a line that was taken, and what is after it
record Taken (number : ℕ) (s q : Progress) (l : Line) (ts : List (List ℕ)) : Type 0 where
  made : PartialCode
  is : with_line l s.code ≡ Some made
  kept : IsPartial made
  rest : runs (suc number) (record { code = made; bad = note s.bad s.code l number }) ts ≡ Some q

taken : (number : ℕ) (s q : Progress) (l : Line) (ts : List (List ℕ)) → IsLine l → IsPartial s.code → runs number s (line_text l ∷ ts) ≡ Some q → Taken number s q l ts
taken number s q l ts fits g e =
    let b = bind_some (with_text number (line_text l) s) (λ r. runs (suc number) r ts) q e in
    let read : with_text number (line_text l) s ≡ (with_line l s.code >>= λ r. Some (record { code = r; bad = note s.bad s.code l number })) =
    ap (λ (o : Option Line). o >>= λ k. with_line k s.code >>= λ r. Some (record { code = r; bad = note s.bad s.code k number })) (text_again l fits) in
    let p = bind_some (with_line l s.code) (λ r. Some (record { code = r; bad = note s.bad s.code l number })) b.0 (sym read ∙ b.1) in
    let same = same_Some (record { code = p.0; bad = note s.bad s.code l number }) b.0 p.2 in
    record {
      made = p.0;
      is = p.1;
      kept = (line-sound l s.code p.0 fits g p.1).kept;
      rest = ap (λ (x : Progress). runs (suc number) x ts) same ∙ b.2;
    }

-- what was noted stays
noted-kept : (number : ℕ) (s q : Progress) (ls : List Line) (place : Place) → AreLines ls → IsPartial s.code → runs number s (map line_text ls) ≡ Some q → s.bad ≡ Some place → q.bad ≡ Some place
noted-kept number s q [] place fits g e noted = sym (ap (λ (x : Progress). x.bad) (same_Some s q e)) ∙ noted
noted-kept number s q (l ∷ ls) place fits g e noted =
    let t = taken number s q l (map line_text ls) fits.0 g e in
    noted-kept (suc number) (record { code = t.made; bad = note s.bad s.code l number }) q ls place fits.1 t.kept t.rest (ap (λ (o : Option Place). note o s.code l number) noted)

note-good : (s : Progress) (l : Line) (number : ℕ) → s.bad ≡ None → refers_back s.code l ≡ true → note s.bad s.code l number ≡ None
note-good s l number none good =
    ap (λ (o : Option Place). note o s.code l number) none ∙ ap (λ (b : Bool). if b then None else Some (record { in_loop = suc (length s.code.loops); line = number })) good

note-bad : (s : Progress) (l : Line) (number : ℕ) → s.bad ≡ None → refers_back s.code l ≡ false → note s.bad s.code l number ≡ Some (record { in_loop = suc (length s.code.loops); line = number })
note-bad s l number none bad =
    ap (λ (o : Option Place). note o s.code l number) none ∙ ap (λ (b : Bool). if b then None else Some (record { in_loop = suc (length s.code.loops); line = number })) bad

-- nothing is noted of good lines
pub noted-none : (number : ℕ) (s q : Progress) (c : Counted) (ls : List Line) → AreLines ls → IsPartial s.code → Agrees s.code.stage s.code c
    → runs number s (map line_text ls) ≡ Some q → s.bad ≡ None → AreGood c ls → q.bad ≡ None
noted-none number s q c [] fits g a e none good = sym (ap (λ (x : Progress). x.bad) (same_Some s q e)) ∙ none
noted-none number s q c (l ∷ ls) fits g a e none good =
    let t = taken number s q l (map line_text ls) fits.0 g e in
    let judged = line-judged l s.code t.made c a t.is in
    noted-none (suc number) (record { code = t.made; bad = note s.bad s.code l number }) q (count_line c l) ls fits.1 t.kept
    (line-agrees l s.code t.made c g a t.is) t.rest (note-good s l number none (judged.same ∙ good.0)) good.1

-- of others the first bad one is
pub noted-first : (number : ℕ) (s q : Progress) (c : Counted) (before : List Line) (here : Line) (behind : List Line) → AreLines (before ++ here ∷ behind)
    → IsPartial s.code → Agrees s.code.stage s.code c → runs number s (map line_text (before ++ here ∷ behind)) ≡ Some q → s.bad ≡ None → AreGood c before
    → is_good (count_lines c before) here ≡ false → q.bad ≡ Some (record { in_loop = (count_lines c before).loops; line = length before + number })
noted-first number s q c [] here behind fits g a e none good bad =
    let t = taken number s q here (map line_text behind) fits.0 g e in
    let judged = line-judged here s.code t.made c a t.is in
    let line-is : number ≡ 0 + number = omega arith in
    let noted = note-bad s here number none (judged.same ∙ bad) ∙ (λ i. Some (record { in_loop = judged.loop bad i; line = line-is i })) in
    noted-kept (suc number) (record { code = t.made; bad = note s.bad s.code here number }) q behind (record { in_loop = c.loops; line = 0 + number }) fits.1 t.kept t.rest noted
noted-first number s q c (l ∷ before) here behind fits g a e none good bad =
    let t = taken number s q l (map line_text (before ++ here ∷ behind)) fits.0 g e in
    let judged = line-judged l s.code t.made c a t.is in
    let next : Progress = record { code = t.made; bad = note s.bad s.code l number } in
    let rest = noted-first (suc number) next q (count_line c l) before here behind fits.1 t.kept (line-agrees l s.code t.made c g a t.is) t.rest
    (note-good s l number none (judged.same ∙ good.0)) good.1 bad in
    let count : length before + suc number ≡ suc (length before) + number = omega arith in
    rest ∙ ap (λ (n : ℕ). Some (record { in_loop = (count_lines (count_line c l) before).loops; line = n })) count

-- lines are all good, or there is a first bad one
pub data Verdict (c : Counted) (ls : List Line) : Type 0 where
  all_good : AreGood c ls → Verdict c ls
  first_bad : (before : List Line) (here : Line) (behind : List Line) → ls ≡ before ++ here ∷ behind → AreGood c before → is_good (count_lines c before) here ≡ false → Verdict c ls

verdict-then : (c : Counted) (l : Line) (ls : List Line) → IsTrue (is_good c l) → Verdict (count_line c l) ls → Verdict c (l ∷ ls)
verdict-then c l ls good (all_good rest) = all_good (good, rest)
verdict-then c l ls good (first_bad before here behind e rest bad) = first_bad (l ∷ before) here behind (ap (λ (ks : List Line). l ∷ ks) e) (good, rest) bad

pub verdict : (c : Counted) (ls : List Line) → Verdict c ls
verdict c [] = all_good tt
verdict c (l ∷ ls) =
    elim (cases_Bool (is_good c l)) [
      | inl good ↦ verdict-then c l ls good (verdict (count_line c l) ls)
      | inr bad ↦ first_bad [] l ls refl tt bad
    ]
