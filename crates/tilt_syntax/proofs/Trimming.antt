-- The tokens that are kept are the same query, or are rejected for the same fault.
use Rattle.std.proofs.Common.{◌≡◌, ◌≢◌, ◌⊎◌, inl, inr, ℕ, zero, suc, ◌+◌, ◌<◌, ◌≤◌, List, [], ◌∷◌, length, refl, sym, ap, subst, arith}
use Rattle.std.specs.Prelude.{⊤}
use Rattle.tilt_lexer.specs.declared.mark.Mark.TheVariants as mark
use Rattle.tilt_lexer.specs.declared.token.Tok.{Tok}
use Rattle.tilt_lexer.specs.declared.token.Tok.TheVariants.{Mark as Sign}
use Rattle.tilt_syntax.specs.Query.{AreSound, with_first, statements, IsInPlace, IsGood, AreGood, IsQueryOf}
use Rattle.tilt_syntax.specs.Query.{HasFault, too_long, no_statement, misplaced, FirstFault, here, later, IsRefused, too_many, no_tokens, faulty}
use Rattle.tilt_syntax.specs.Grammar.{IsStatement}
use Rattle.tilt_syntax.specs.Tree.{StatementTree, Input, Let, Emit}
use Rattle.tilt_syntax.specs.Trimmed.{trimmed}
use Rattle.tilt_syntax.specs.declared.fault.SyntaxFault.{SyntaxFault}

-- what is kept by a token

pub token_kept : (n room : ℕ) (t : Tok) (ts : List Tok) → t ≢ Sign mark.Semicolon → trimmed (suc n) (suc room) (t ∷ ts) ≡ t ∷ trimmed (suc n) room ts
token_kept n room (Sign mark.Semicolon) ts other = absurd (other refl)
token_kept n room t ts other = refl

-- statement by statement

-- the statement is kept as it is, or both have that many tokens
abbrev pub IsAlike : ℕ → List Tok → List Tok → Type 0
IsAlike room ts us = (ts ≡ us) ⊎ ((room ≤ length ts) × (room ≤ length us))

-- so many statements, of which the first has so many tokens, are kept of these
data AreTrimmed : ℕ → ℕ → List (List Tok) → List (List Tok) → Type 0 where
  full : {room : ℕ} {us : List (List Tok)} → AreTrimmed zero room [] us
  ended : {n room : ℕ} → AreTrimmed (suc n) room [] []
  rest_let_go : {n : ℕ} {u : List Tok} → AreTrimmed (suc n) zero [] (u ∷ [])
  next : {n room : ℕ} {t u : List Tok} {ts us : List (List Tok)} → IsAlike room t u → AreTrimmed n 257 ts us
      → AreTrimmed (suc n) room (t ∷ ts) (u ∷ us)

none_after : (n : ℕ) → AreTrimmed n 257 [] []
none_after zero = full
none_after (suc n) = ended

-- a token of the first statement that is kept
longer : (n room : ℕ) (t : Tok) (ts us : List (List Tok)) → AreTrimmed (suc n) room ts us
    → AreTrimmed (suc n) (suc room) (with_first t ts) (with_first t us)
longer n room t ts us ended = next (inl refl) (none_after n)
longer n room t ts us (rest_let_go {u = u}) = next (inr (omega arith, omega arith)) (none_after n)
longer n room t ts us (next (inl same) more) = next (inl (ap (λ (l : List Tok). t ∷ l) same)) more
longer n room t ts us (next (inr long) more) = next (inr (omega (arith, long.0), omega (arith, long.1))) more

-- one that is let go
let_go : (n : ℕ) (t : Tok) (ts us : List (List Tok)) → AreTrimmed (suc n) 0 ts us → AreTrimmed (suc n) 0 ts (with_first t us)
let_go n t ts us ended = rest_let_go
let_go n t ts us rest_let_go = rest_let_go
let_go n t ts us (next alike more) = next (inr (omega arith, omega arith)) more

are_trimmed : (ts : List Tok) (n room : ℕ) → AreTrimmed n room (statements (trimmed n room ts)) (statements ts)
are_trimmed ts zero room = full
are_trimmed [] (suc n) room = ended
are_trimmed (Sign mark.Semicolon ∷ ts) (suc n) room = next (inl refl) (are_trimmed ts n 257)
are_trimmed (t ∷ ts) (suc n) zero = let_go n t _ _ (are_trimmed ts (suc n) zero)
are_trimmed (t ∷ ts) (suc n) (suc room) = longer n room t _ _ (are_trimmed ts (suc n) room)

-- so many statements, one by one, are alike
abbrev pub AreAlike : ℕ → List (List Tok) → List (List Tok) → Type 0
AreAlike zero ts us = ⊤
AreAlike (suc n) [] [] = ⊤
AreAlike (suc n) [] (u ∷ us) = ⊥
AreAlike (suc n) (t ∷ ts) [] = ⊥
AreAlike (suc n) (t ∷ ts) (u ∷ us) = IsAlike 257 t u × AreAlike n ts us

alike_more : (room : ℕ) (ts us : List Tok) → 256 < room → IsAlike room ts us → IsAlike 257 ts us
alike_more room ts us more (inl same) = inl same
alike_more room ts us more (inr long) = inr (omega (arith, long.0), omega (arith, long.1))

are_alike : {n room : ℕ} {ts us : List (List Tok)} → AreTrimmed n room ts us → 256 < room → AreAlike n ts us
are_alike full more = tt
are_alike ended more = tt
are_alike rest_let_go more = absurd (omega arith)
are_alike (next {room = room} {t = t} {u = u} alike others) more = (alike_more room t u more alike, are_alike others (omega arith))

-- what is kept is alike, for readers that take fewer statements and shorter ones
pub trimmed_alike : (ts : List Tok) → AreAlike 257 (statements (trimmed 257 257 ts)) (statements ts)
trimmed_alike ts = are_alike (are_trimmed ts 257 257) (omega arith)

-- the same, or both too long
abbrev IsSame : List Tok → List Tok → Type 0
IsSame ts us = (ts ≡ us) ⊎ ((256 < length ts) × (256 < length us))

abbrev AreSame : List (List Tok) → List (List Tok) → Type 0
AreSame [] [] = ⊤
AreSame [] (u ∷ us) = ⊥
AreSame (t ∷ ts) [] = ⊥
AreSame (t ∷ ts) (u ∷ us) = IsSame t u × AreSame ts us

is_same : (room : ℕ) (ts us : List Tok) → 256 < room → IsAlike room ts us → IsSame ts us
is_same room ts us more (inl same) = inl same
is_same room ts us more (inr long) = inr (omega (arith, long.0), omega (arith, long.1))

-- if fewer statements are kept than could be, all are
are_same : {n room : ℕ} {ts us : List (List Tok)} → AreTrimmed n room ts us → 256 < room → length ts < n → AreSame ts us
are_same full more few = absurd (omega arith)
are_same ended more few = tt
are_same rest_let_go more few = absurd (omega arith)
are_same (next {room = room} {t = t} {u = u} alike others) more few = (is_same room t u more alike, are_same others (omega arith) (omega arith))

-- and else there are as many at least
as_many : {n room : ℕ} {ts us : List (List Tok)} → AreTrimmed n room ts us → 256 < room → n ≤ length ts → n ≤ length us
as_many full more many = omega arith
as_many ended more many = absurd (omega arith)
as_many rest_let_go more many = absurd (omega arith)
as_many (next alike others) more many = omega (arith, as_many others (omega arith) (omega arith))

same_length : (ts us : List (List Tok)) → AreSame ts us → length ts ≡ length us
same_length [] [] same = refl
same_length [] (u ∷ us) same = absurd same
same_length (t ∷ ts) [] same = absurd same
same_length (t ∷ ts) (u ∷ us) same = omega (arith, same_length ts us same.1)

-- what follows a statement matters only by whether there is any

placed : (ts us : List (List Tok)) (s : StatementTree) → AreSame ts us → IsInPlace ts s → IsInPlace us s
placed [] [] s same h = h
placed [] (u ∷ us) s same h = absurd same
placed (t ∷ ts) [] s same h = absurd same
placed (t ∷ ts) (u ∷ us) (Input x) same h = h
placed (t ∷ ts) (u ∷ us) (Let x e over every) same h = h
placed (t ∷ ts) (u ∷ us) (Emit e over every) same h = h

placed_before : (ts us : List (List Tok)) (s : StatementTree) → AreSame ts us → IsInPlace us s → IsInPlace ts s
placed_before [] [] s same h = h
placed_before [] (u ∷ us) s same h = absurd same
placed_before (t ∷ ts) [] s same h = absurd same
placed_before (t ∷ ts) (u ∷ us) (Input x) same h = h
placed_before (t ∷ ts) (u ∷ us) (Let x e over every) same h = h
placed_before (t ∷ ts) (u ∷ us) (Emit e over every) same h = h

-- what holds of the statements that are kept holds of all

good_one : (t u : List Tok) (ts us : List (List Tok)) (s : StatementTree) → IsSame t u → AreSame ts us → IsGood t ts s → IsGood u us s
good_one t u ts us s (inl same) others good = record {
  short = omega (arith, good.short, ap length same);
  parsed = subst (λ (l : List Tok). IsStatement l s) same good.parsed;
  in_place = placed ts us s others good.in_place;
}
good_one t u ts us s (inr long) others good = absurd (omega (arith, good.short, long.0))

good_all : (ts us : List (List Tok)) (query : List StatementTree) → AreSame ts us → AreGood ts query → AreGood us query
good_all [] [] query same good = good
good_all [] (u ∷ us) query same good = absurd same
good_all (t ∷ ts) [] query same good = absurd same
good_all (t ∷ ts) (u ∷ us) [] same good = absurd good
good_all (t ∷ ts) (u ∷ us) (s ∷ query) same good = (good_one t u ts us s same.0 same.1 good.0, good_all ts us query same.1 good.1)

fault_one : (n : ℕ) (t u : List Tok) (ts us : List (List Tok)) (f : SyntaxFault) → IsSame t u → AreSame ts us → HasFault n t ts f
    → HasFault n u us f
fault_one n t u ts us f (inl same) others (too_long long) = too_long (omega (arith, long, ap length same))
fault_one n t u ts us f (inl same) others (no_statement short none) =
    no_statement (omega (arith, short, ap length same)) (subst (λ (l : List Tok). (s : StatementTree) → ¬ (IsStatement l s)) same none)
fault_one n t u ts us f (inl same) others (misplaced s short is not_placed) =
    misplaced s (omega (arith, short, ap length same)) (subst (λ (l : List Tok). IsStatement l s) same is)
    (λ h. not_placed (placed_before ts us s others h))
fault_one n t u ts us f (inr both) others (too_long long) = too_long both.1
fault_one n t u ts us f (inr both) others (no_statement short none) = absurd (omega (arith, short, both.0))
fault_one n t u ts us f (inr both) others (misplaced s short is not_placed) = absurd (omega (arith, short, both.0))

fault_first : (n : ℕ) (ts us : List (List Tok)) (f : SyntaxFault) → AreSame ts us → FirstFault n ts f → FirstFault n us f
fault_first n [] [] f same first = first
fault_first n [] (u ∷ us) f same first = absurd same
fault_first n (t ∷ ts) [] f same first = absurd same
fault_first n (t ∷ ts) (u ∷ us) f same (here h) = here (fault_one n t u ts us f same.0 same.1 h)
fault_first n (t ∷ ts) (u ∷ us) f same (later s good more) =
    later s (good_one t u ts us s same.0 same.1 good) (fault_first (n + 1) ts us f same.1 more)

-- if nothing is kept there is nothing
some_kept : (n room : ℕ) (t : Tok) (ts : List Tok) → trimmed (suc n) (suc room) (t ∷ ts) ≡ [] → ⊥
some_kept n room (Sign mark.Semicolon) ts e = cc
some_kept n room t ts e = cc

none_of : (ts : List Tok) → trimmed 257 257 ts ≡ [] → ts ≡ []
none_of [] e = refl
none_of (t ∷ ts) e = absurd (some_kept 256 256 t ts e)

-- the laws of what is kept

module _ (ts : List Tok) where
  -- it is the query that all are
  pub trimmed_query : (query : List StatementTree) → IsQueryOf (trimmed 257 257 ts) query → IsQueryOf ts query
  trimmed_query query is =
      let same = are_same (are_trimmed ts 257 257) (omega arith) (omega (arith, is.few)) in
      let count = same_length _ _ same in
      record { some = omega (arith, count, is.some); few = omega (arith, count, is.few); good = good_all _ _ query same is.good }

  -- it is rejected for the fault for which all are
  refused_if : (kept : List Tok) (f : SyntaxFault) → trimmed 257 257 ts ≡ kept → IsRefused kept f → IsRefused ts f
  refused_if kept f e (too_many many) =
      too_many (omega (arith, as_many (are_trimmed ts 257 257) (omega arith) (omega (arith, ap (λ (l : List Tok). length (statements l)) e, many))))
  refused_if kept f e no_tokens = subst (λ (l : List Tok). IsRefused l f) (sym (none_of ts e)) no_tokens
  refused_if kept f e (faulty few first) =
      let count = ap (λ (l : List Tok). length (statements l)) e in
      let same = are_same (are_trimmed ts 257 257) (omega arith) (omega (arith, few, count)) in
      faulty (omega (arith, few, count, same_length _ _ same))
      (fault_first 1 _ _ f same (subst (λ (l : List Tok). FirstFault 1 (statements l) f) (sym e) first))

  pub trimmed_refused : (f : SyntaxFault) → IsRefused (trimmed 257 257 ts) f → IsRefused ts f
  trimmed_refused f is = refused_if (trimmed 257 257 ts) f refl is

-- what is kept is sound
pub trimmed_sound : (n room : ℕ) (ts : List Tok) → AreSound ts → AreSound (trimmed n room ts)
trimmed_sound zero room ts sound = tt
trimmed_sound (suc n) room [] sound = tt
trimmed_sound (suc n) room (Sign mark.Semicolon ∷ ts) sound = (sound.0, trimmed_sound n 257 ts sound.1)
trimmed_sound (suc n) zero (t ∷ ts) sound = trimmed_sound (suc n) zero ts sound.1
trimmed_sound (suc n) (suc room) (t ∷ ts) sound = (sound.0, trimmed_sound (suc n) room ts sound.1)
