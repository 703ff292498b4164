-- What the next token says of the bytes before it and after it.
use Rattle.std.proofs.Common.{◌≡◌, ℕ, suc, ◌+◌, ◌<◌, ◌≤◌, inl, inr, List, [], ◌∷◌, length, get_or, drop, sym, ap, ◌∙◌, subst, arith, one-add}
use Rattle.std.proofs.Common.{IsTrue, add-zero, length-append, length-take-le, length-drop}
use Rattle.std.specs.Bool.{IsFalse}
use Rattle.std.specs.List.{prefix_len}
use Rattle.std.proofs.lemmas.Bool.{cases_Bool}
use Rattle.std.proofs.lemmas.List.{drop-drop, drop_all}
use Rattle.tilt_lexer.specs.declared.fault.LexFault.{LexFault}
use Rattle.tilt_lexer.specs.declared.token.Tok.{Tok}
use Rattle.tilt_lexer.specs.declared.token.Token.{Token}
use Rattle.tilt_lexer.specs.Front.{IsFront}
use Rattle.tilt_lexer.specs.Next.{IsNext, here, after_blank, IsNextFault, no_token, too_big, past_blank}
use Rattle.tilt_lexer.specs.Tokens.{is_blank, AreTokens, nothing, blank, token, IsFaultyAt, bad_byte, big_number, after_blank as faulty_after_blank, after_token}
use Rattle.tilt_lexer.proofs.Texts.{token_first}

-- laws of the next token

-- it and the tokens after it are the tokens
pub next_tokens : {at : ℕ} {bytes : List ℕ} {t : Token} {rest : List ℕ} → IsNext at bytes t rest → (more : List Token)
    → AreTokens t.end rest more → AreTokens at bytes (t ∷ more)
next_tokens (here begins within) more are = token begins within are
next_tokens (after_blank is next) more are = blank is (next_tokens next more are)

-- the fault after it is the fault
pub next_faults : {at : ℕ} {bytes : List ℕ} {t : Token} {rest : List ℕ} → IsNext at bytes t rest → (f : LexFault)
    → IsFaultyAt t.end rest f → IsFaultyAt at bytes f
next_faults (here begins within) f is = after_token begins within is
next_faults (after_blank is next) f faulty = faulty_after_blank is (next_faults next f faulty)

-- where there is none, its fault is that of the bytes
pub next_fault : {at : ℕ} {bytes : List ℕ} {f : LexFault} → IsNextFault at bytes f → IsFaultyAt at bytes f
next_fault (no_token no_blank none) = bad_byte no_blank none
next_fault (too_big big) = big_number big
next_fault (past_blank is faulty) = faulty_after_blank is (next_fault faulty)

-- it has some bytes, and the rest has the others
pub record IsAhead (at : ℕ) (bytes : List ℕ) (end : ℕ) (rest : List ℕ) : Type 0 where
  pub some : at < end
  pub left : end + length rest ≡ at + length bytes

pub next_ahead : {at : ℕ} {bytes : List ℕ} {t : Token} {rest : List ℕ} → IsNext at bytes t rest → IsAhead at bytes t.end rest
next_ahead (here {kind = kind} {bytes = bytes} {text = text} {rest = rest} begins within) =
    let first = token_first text (kind, begins.is_text) in
    record { some = omega (arith, first.some); left = omega (arith, ap length begins.whole, length-append text rest) }
next_ahead (after_blank is next) = let ahead = next_ahead next in record { some = omega (arith, ahead.some); left = omega (arith, ahead.left) }

-- how it is found

-- what goes on over a blank goes on over all blanks at the beginning
over_blanks : (P : ℕ → List ℕ → Type 0) → ((at b : ℕ) (bytes : List ℕ) → IsTrue (is_blank b) → P (at + 1) bytes → P at (b ∷ bytes))
    → (at : ℕ) (bytes : List ℕ) → P (at + prefix_len is_blank bytes) (drop (prefix_len is_blank bytes) bytes) → P at bytes
over_blanks P step at [] h = rw add-zero at h
over_blanks P step at (b ∷ bytes) h =
    elim (cases_Bool (is_blank b)) [
      | inl is ↦
          let n = prefix_len is_blank bytes in
          let past : P (at + suc n) (drop n bytes) = rw (is, one-add) at h in
          let moved : at + suc n ≡ (at + 1) + n = omega arith in
          step at b bytes is (over_blanks P step (at + 1) bytes (subst (λ m. P m (drop n bytes)) moved past))
      | inr stops ↦ rw (stops, add-zero) at h
    ]

module _ (at : ℕ) (bytes : List ℕ) where
  -- where nothing is left there are no tokens
  pub only_blanks : drop (prefix_len is_blank bytes) bytes ≡ [] → AreTokens at bytes []
  only_blanks none =
      over_blanks (λ m left. AreTokens m left []) (λ m b left is are. blank is are) at bytes
      (subst (λ left. AreTokens (at + prefix_len is_blank bytes) left []) (sym none) nothing)

  pub faulty_past : (f : LexFault) → IsNextFault (at + prefix_len is_blank bytes) (drop (prefix_len is_blank bytes) bytes) f → IsNextFault at bytes f
  faulty_past f = over_blanks (λ m left. IsNextFault m left f) (λ m b left is faulty. past_blank is faulty) at bytes

  -- the token at the beginning of what is left is the next
  pub front_next : (kind : Tok) (n : ℕ) → let blanks = prefix_len is_blank bytes in IsFront kind n (drop blanks bytes)
      → IsNext at bytes (record { kind = kind; start = at + blanks; end = at + blanks + n }) (drop n (drop blanks bytes))
  front_next kind n front =
      let blanks = prefix_len is_blank bytes in
      let t : Token = record { kind = kind; start = at + blanks; end = at + blanks + n } in
      over_blanks (λ m left. IsNext m left t (drop n (drop blanks bytes))) (λ m b left is next. after_blank is next) at bytes
      (subst (λ m. IsNext (at + blanks) (drop blanks bytes) (record { kind = kind; start = at + blanks; end = at + blanks + m }) (drop n (drop blanks bytes)))
      (length-take-le n (drop blanks bytes) front.fits) (here front.begins front.within))

-- the first byte of what is left is no blank
pub first_no_blank : (bytes : List ℕ) → 0 < length (drop (prefix_len is_blank bytes) bytes)
    → IsFalse (is_blank (get_or (drop (prefix_len is_blank bytes) bytes) 0 0))
first_no_blank [] some = absurd (omega arith)
first_no_blank (b ∷ bytes) some =
    elim (cases_Bool (is_blank b)) [
      | inl is ↦ rw (is, one-add) (first_no_blank bytes (rw (is, one-add) at some))
      | inr stops ↦ rw stops stops
    ]

-- the same of the bytes from a place on, if that many blanks are there
module _ (at : ℕ) (bytes : List ℕ) (blanks : ℕ) (count : blanks ≡ prefix_len is_blank (drop at bytes)) where
  past : drop (prefix_len is_blank (drop at bytes)) (drop at bytes) ≡ drop (at + blanks) bytes
  past = ap (λ n. drop n (drop at bytes)) (sym count) ∙ drop-drop blanks at bytes

  pub none_left : length bytes ≤ at + blanks → AreTokens at (drop at bytes) []
  none_left end = only_blanks at (drop at bytes) (past ∙ drop_all (at + blanks) bytes end)

  pub starts : at + blanks < length bytes → IsFalse (is_blank (get_or (drop (at + blanks) bytes) 0 0))
  starts some =
      let Starts : List ℕ → Type 0 = λ left. 0 < length left → IsFalse (is_blank (get_or left 0 0)) in
      let first : Starts (drop (at + blanks) bytes) = subst Starts past (first_no_blank (drop at bytes)) in
      first (omega (arith, length-drop (at + blanks) bytes))

  pub fault_past : (f : LexFault) → IsNextFault (at + blanks) (drop (at + blanks) bytes) f → IsNextFault at (drop at bytes) f
  fault_past f is =
      let At : ℕ → List ℕ → Type 0 = λ n left. IsNextFault (at + n) left f in
      faulty_past at (drop at bytes) f (subst (λ n. At n (drop (prefix_len is_blank (drop at bytes)) (drop at bytes))) count (subst (At blanks) (sym past) is))

  pub token_past : (kind : Tok) (n : ℕ) → IsFront kind n (drop (at + blanks) bytes)
      → IsNext at (drop at bytes) (record { kind = kind; start = at + blanks; end = at + blanks + n }) (drop (at + blanks + n) bytes)
  token_past kind n front =
      let left : List ℕ = drop (prefix_len is_blank (drop at bytes)) (drop at bytes) in
      let next = front_next at (drop at bytes) kind n (subst (IsFront kind n) (sym past) front) in
      let rest : drop n left ≡ drop (at + blanks + n) bytes = ap (drop n) past ∙ drop-drop n (at + blanks) bytes in
      subst (λ m. IsNext at (drop at bytes) (record { kind = kind; start = at + m; end = at + m + n }) (drop (at + blanks + n) bytes)) (sym count)
      (subst (IsNext at (drop at bytes) (record { kind = kind; start = at + prefix_len is_blank (drop at bytes); end = at + prefix_len is_blank (drop at bytes) + n })) rest next)
