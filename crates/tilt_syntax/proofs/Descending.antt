-- Steps of the descent over plain tokens.
use Rattle.std.proofs.Common.{◌≡◌, ◌≢◌, ℕ, ℤ, List, [], ◌∷◌, Option, Some, None, refl}
use Rattle.tilt_lexer.specs.declared.mark.Mark.TheVariants as mark
use Rattle.tilt_lexer.specs.declared.token.Tok.{Tok}
use Rattle.tilt_lexer.specs.declared.token.Tok.TheVariants.{Word, Number, Key as Reserved, Mark as Sign}
use Rattle.tilt_syntax.specs.Descent.{Plan, Found, Task, Comes, done, met, missed, found, none, answer, number_plan, name_plan, plan_of}
use Rattle.tilt_syntax.specs.Statements.{end_plan}

-- a number or a name at the beginning is what is asked for, and nothing else is

pub number-comes : (ts : List Tok) (n : ℤ) (us : List Tok) (behind : ℤ → List Tok → Plan) (r : Option Found)
    → ts ≡ Number n ∷ us → Comes (behind n us) r → Comes (number_plan ts behind) r
number-comes ts n us behind r e h = rw e h

pub number-none : (ts : List Tok) (behind : ℤ → List Tok → Plan) → ((n : ℤ) (us : List Tok) → ts ≢ Number n ∷ us)
    → Comes (number_plan ts behind) None
number-none [] behind h = done
number-none (Number n ∷ us) behind h = absurd (h n us refl)
number-none (Word x ∷ us) behind h = done
number-none (Reserved k ∷ us) behind h = done
number-none (Sign m ∷ us) behind h = done

pub name-comes : (ts : List Tok) (x : List ℕ) (us : List Tok) (behind : List ℕ → List Tok → Plan) (r : Option Found)
    → ts ≡ Word x ∷ us → Comes (behind x us) r → Comes (name_plan ts behind) r
name-comes ts x us behind r e h = rw e h

pub name-none : (ts : List Tok) (behind : List ℕ → List Tok → Plan) → ((x : List ℕ) (us : List Tok) → ts ≢ Word x ∷ us)
    → Comes (name_plan ts behind) None
name-none [] behind h = done
name-none (Number n ∷ us) behind h = done
name-none (Word x ∷ us) behind h = absurd (h x us refl)
name-none (Reserved k ∷ us) behind h = done
name-none (Sign m ∷ us) behind h = done

-- what a task results in is what asking for it results in
pub answered : (task : Task) (r : Option Found) → Comes (plan_of task) r → Comes (answer task) r
answered task None h = none h
answered task (Some f) h = found h done

-- a `;` alone ends a statement, and nothing else does

pub end-comes : (ts : List Tok) (plan : Plan) (r : Option Found) → ts ≡ Sign mark.Semicolon ∷ [] → Comes plan r
    → Comes (end_plan ts plan) r
unfolding end_plan
end-comes ts plan r e h = met e h

pub end-none : (ts : List Tok) (plan : Plan) → ts ≢ Sign mark.Semicolon ∷ [] → Comes (end_plan ts plan) None
unfolding end_plan
end-none [] plan h = missed (λ us e. cc) done
end-none (Sign mark.Semicolon ∷ []) plan h = absurd (h refl)
end-none (Sign mark.Semicolon ∷ t ∷ ts) plan h = met refl done
end-none (t ∷ ts) plan h = missed (λ us e. cc) done
