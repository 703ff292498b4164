-- A plan results in one thing.
use Rattle.std.proofs.Common.{◌≡◌, Option, refl, ap}
use Rattle.tilt_base.specs.declared.operator.Op2.{Op2}
use Rattle.tilt_syntax.specs.Descent.{Plan, Found, Comes, done, met, missed, between, behind_all, found, none}
use Rattle.tilt_syntax.specs.declared.level.Level.{Level}

pub one_answer : {p : Plan} {r s : Option Found} → Comes p r → Comes p s → r ≡ s
one_answer done done = refl
one_answer (met {us = us} e h) (met {us = vs} f k) = let same : us ≡ vs = cc in one_answer h (rw (← same) at k)
one_answer (met e h) (missed f k) = absurd (f _ e)
one_answer (missed e h) (met f k) = absurd (e _ f)
one_answer (missed e h) (missed f k) = one_answer h k
one_answer (between {level = level} {t = t} {us = us} {op = a} e i h) (between {t = u} {us = vs} {op = b} f j k) =
    let token : t ≡ u = cc in
    let same : us ≡ vs = cc in
    let both : (level, a) ≡ (level, b) = cc in
    let operator : a ≡ b = ap (λ (x : Level × Op2). x.1) both in
    one_answer h (rw (← same, ← operator) at k)
one_answer (between e i h) (behind_all n k) = absurd (n _ _ _ e i)
one_answer (behind_all n k) (between e i h) = absurd (n _ _ _ e i)
one_answer (behind_all m h) (behind_all n k) = one_answer h k
one_answer (found {f = a} h i) (found {f = b} k j) =
    let is = one_answer h k in
    let same : a ≡ b = cc in
    one_answer i (rw (← same) at j)
one_answer (found h i) (none k) = let is = one_answer h k in absurd (cc)
one_answer (none h) (found k j) = let is = one_answer h k in absurd (cc)
one_answer (none h) (none k) = refl
