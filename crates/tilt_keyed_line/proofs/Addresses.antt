-- The key of a line.
use Rattle.std.proofs.Common.{◌≡◌, ℕ, ◌==◌, Bool, true, false, if◌then◌else◌, List, [], ◌∷◌, ◌++◌, Option, Some, None, Result, Ok, Err, refl, sym, ap, ◌∙◌}
use Rattle.std.proofs.Common.{inl, inr}
use Rattle.std.specs.List.{list_any}
use Rattle.std.specs.Str.{bytes_eq}
use Rattle.std.proofs.lemmas.Bool.{cases_Bool, eqb-true, false≢true, or_from, or_parts, and_left}
use Rattle.tilt_keyed_line.proofs.Lines.{front-lacks}
use Rattle.tilt_keyed_line.specs.Address.{IsKey, address, addressed, ends_key, is_blank, is_special}
use Rattle.tilt_keyed_line.specs.Outputs.{key_line}
use Rattle.tilt_keyed_line.specs.declared.key_fault.KeyFault.{KeyFault}
use Rattle.tilt_text.proofs.Lacks.{Lacks, lacks-more, lacks-parts}
use Rattle.tilt_text.proofs.Words.{front-until, until-front}
use Rattle.tilt_text.specs.Cut.{until_at}

-- what ends no key isn't a mark that ends one
other_mark : (mark b : ℕ) → ends_key mark ≡ true → ends_key b ≡ false → (b == mark) ≡ false
other_mark mark b ends other =
    elim (cases_Bool (b == mark)) [
      | inl same ↦ absurd (false≢true (sym other ∙ ap ends_key (eqb-true b mark same) ∙ ends))
      | inr differs ↦ differs
    ]

-- so a key has no such mark
pub key-lacks : (mark : ℕ) → ends_key mark ≡ true → (key : List ℕ) → IsKey key → Lacks mark key
key-lacks mark ends [] is = refl
key-lacks mark ends (b ∷ key) is =
    let parts = or_parts (ends_key b) (list_any ends_key key) is in
    lacks-more mark b key (other_mark mark b ends parts.0) (key-lacks mark ends key parts.1)

key_plain : (key : List ℕ) → IsKey key → list_any is_special key ≡ false
key_plain [] is = refl
key_plain (b ∷ key) is =
    let parts = or_parts (ends_key b) (list_any ends_key key) is in
    or_from (is_special b) (list_any is_special key) (or_parts (b == 44) (is_special b) parts.0).1 (key_plain key parts.1)

-- and what has none is a key
is-key : (key : List ℕ) → Lacks 44 key → list_any is_special key ≡ false → IsKey key
is-key [] lone plain = refl
is-key (b ∷ key) lone plain =
    let first = lacks-parts 44 b key lone in
    let rest = or_parts (is_special b) (list_any is_special key) plain in
    or_from (ends_key b) (list_any ends_key key) (or_from (b == 44) (is_special b) first.0 rest.0) (is-key key first.1 rest.1)

-- a line with a comma isn't blank, unless a CR comes before it
keyed_line : (key line : List ℕ) → IsKey key → is_blank (key_line key line) ≡ false
keyed_line [] line is = refl
keyed_line (b ∷ key) line is =
    let parts = lacks-parts 13 b key (key-lacks 13 refl (b ∷ key) is) in
    and_left (b == 13) (bytes_eq (key ++ 44 ∷ line) []) parts.0

pub key-off : (key line : List ℕ) → IsKey key → address (key_line key line) ≡ Ok (Some (key, line))
key-off key line is =
    rw (keyed_line key line is, until-front 44 key line (key-lacks 44 refl key is), key_plain key is) refl

-- what comes off was there
pub record ComesOff (line key rest : List ℕ) : Type 0 where
  pub is : IsKey key
  pub whole : line ≡ key_line key rest

same_pair : (p q : List ℕ × List ℕ) → ◌≡◌ {A = Result (Option (List ℕ × List ℕ)) KeyFault} (Ok (Some p)) (Ok (Some q)) → p ≡ q
same_pair p q e = cc e

off_by : (line key rest : List ℕ) (special : Bool) (parts : List ℕ × List ℕ) → until_at 44 line ≡ Some parts → list_any is_special parts.0 ≡ special
    → (if special then Err KeyFault.BadKey else Ok (Some parts)) ≡ Ok (Some (key, rest)) → ComesOff line key rest
off_by line key rest true parts found is e = cc e
off_by line key rest false parts found is e =
    let p = same_pair parts (key, rest) e in
    let at : until_at 44 line ≡ Some (key, rest) = found ∙ ap Some p in
    let plain : list_any is_special key ≡ false = ap (λ (q : List ℕ × List ℕ). list_any is_special q.0) (sym p) ∙ is in
    record { is = is-key key (front-lacks 44 line key rest at) plain; whole = front-until 44 line key rest at }

off_found : (line key rest : List ℕ) (found : Option (List ℕ × List ℕ)) → until_at 44 line ≡ found
    → addressed found ≡ Ok (Some (key, rest)) → ComesOff line key rest
off_found line key rest None is e = cc e
off_found line key rest (Some parts) is e = off_by line key rest (list_any is_special parts.0) parts is refl e

off_line : (line key rest : List ℕ) (blank : Bool) → (if blank then Ok None else addressed (until_at 44 line)) ≡ Ok (Some (key, rest)) → ComesOff line key rest
off_line line key rest true e = cc e
off_line line key rest false e = off_found line key rest (until_at 44 line) refl e

pub comes-off : (line key rest : List ℕ) → address line ≡ Ok (Some (key, rest)) → ComesOff line key rest
comes-off line key rest e = off_line line key rest (is_blank line) e
