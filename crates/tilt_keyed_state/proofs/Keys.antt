-- Keys and their states, one after another.
use Rattle.std.proofs.Common.{◌≡◌, ℕ, ◌<◌, ◌^◌, List, [], ◌∷◌, ◌++◌, length, flat_map, refl, sym, ◌∙◌, arith, append_assoc}
use Rattle.tilt_keyed_state.proofs.Parts.{not_part, part_shorter, parts_apart}
use Rattle.tilt_keyed_state.specs.Spelling.{key_text, keys_text, last_line, part_text}
use Rattle.tilt_keyed_state.specs.State.{KeyStateParts}

pub key_shape : (k : KeyStateParts) (rest : List ℕ) → key_text k ++ rest ≡ part_text k.key ++ (part_text k.state ++ rest)
key_shape k rest = append_assoc (part_text k.key) (part_text k.state) rest

-- a key and its state are shorter than the text, and so is what comes after them
pub record AreShorter (bytes : List ℕ) (k : KeyStateParts) (after : List ℕ) : Type 0 where
  pub key : length k.key < length bytes
  pub state : length k.state < length bytes
  pub rest : length after < length bytes

pub key_shorter : (bytes : List ℕ) (k : KeyStateParts) (rest : List ℕ) → bytes ≡ key_text k ++ rest → AreShorter bytes k rest
key_shorter bytes k rest e =
    let first = part_shorter bytes k.key (part_text k.state ++ rest) (e ∙ key_shape k rest) in
    let second = part_shorter (part_text k.state ++ rest) k.state rest refl in
    record { key = omega (arith, first); state = omega (arith, first, second); rest = omega (arith, first, second) }

-- a text begins with one key and one state only
pub keys_apart : (bytes : List ℕ) (j k : KeyStateParts) (r s : List ℕ) → length bytes < 2 ^ 63 → bytes ≡ key_text j ++ r → bytes ≡ key_text k ++ s
    → (j ≡ k) × (r ≡ s)
keys_apart bytes j k r s small first second =
    let few = key_shorter bytes j r first in
    let less = key_shorter bytes k s second in
    let names = parts_apart j.key k.key (part_text j.state ++ r) (part_text k.state ++ s) (omega (arith, few.key, small)) (omega (arith, less.key, small))
    (sym (key_shape j r) ∙ sym first ∙ second ∙ key_shape k s) in
    let states = parts_apart j.state k.state r s (omega (arith, few.state, small)) (omega (arith, less.state, small)) names.1 in
    (λ i. record { key = names.0 i; state = states.0 i }, states.1)

-- the last line isn't the beginning of one
pub end_no_key : (k : KeyStateParts) (rest : List ℕ) → length last_line < 2 ^ 63 → ¬ (last_line ≡ key_text k ++ rest)
end_no_key k rest small = λ e.
    let few = key_shorter last_line k rest e in
    not_part 101 (110 ∷ 100 ∷ 10 ∷ []) k.key (part_text k.state ++ rest) (omega arith) (omega (arith, few.key, small)) (e ∙ key_shape k rest)

pub keys_first : (k : KeyStateParts) (keys : List KeyStateParts) → keys_text (k ∷ keys) ≡ key_text k ++ keys_text keys
keys_first k keys = append_assoc (key_text k) (flat_map key_text keys) last_line

-- what is left of keys of which some were read is that of other keys
pub keys_left : (read keys : List KeyStateParts) (rest : List ℕ) → length (keys_text keys) < 2 ^ 63 → flat_map key_text read ++ rest ≡ keys_text keys
    → (more : List KeyStateParts) × (rest ≡ keys_text more)
keys_left [] keys rest small e = (keys, e)
keys_left (j ∷ read) [] rest small e =
    absurd (end_no_key j (flat_map key_text read ++ rest) (omega arith) (sym e ∙ append_assoc (key_text j) (flat_map key_text read) rest))
keys_left (j ∷ read) (k ∷ keys) rest small e =
    let text = keys_text (k ∷ keys) in
    let first = sym e ∙ append_assoc (key_text j) (flat_map key_text read) rest in
    let apart = keys_apart text j k (flat_map key_text read ++ rest) (keys_text keys) small first (keys_first k keys) in
    let fewer = key_shorter text k (keys_text keys) (keys_first k keys) in
    keys_left read keys rest (omega (arith, fewer.rest, small)) apart.1

-- what is neither the last line nor begins with a key and its state spells no keys
pub none_left : (keys : List KeyStateParts) (rest : List ℕ) → ¬ (rest ≡ last_line) → ((k : KeyStateParts) (after : List ℕ) → ¬ (rest ≡ key_text k ++ after))
    → ¬ (rest ≡ keys_text keys)
none_left [] rest other unkeyed = other
none_left (k ∷ keys) rest other unkeyed = λ e. unkeyed k (keys_text keys) (e ∙ keys_first k keys)

-- keys are spelled in one way
pub keys_once : (js ks : List KeyStateParts) → length (keys_text js) < 2 ^ 63 → keys_text js ≡ keys_text ks → js ≡ ks
keys_once [] [] small e = refl
keys_once [] (k ∷ ks) small e = absurd (end_no_key k (keys_text ks) (omega arith) (e ∙ keys_first k ks))
keys_once (j ∷ js) [] small e = absurd (end_no_key j (keys_text js) (omega arith) (sym e ∙ keys_first j js))
keys_once (j ∷ js) (k ∷ ks) small e =
    let text = keys_text (j ∷ js) in
    let apart = keys_apart text j k (keys_text js) (keys_text ks) small (keys_first j js) (e ∙ keys_first k ks) in
    let fewer = key_shorter text j (keys_text js) (keys_first j js) in
    let rest = keys_once js ks (omega (arith, fewer.rest, small)) apart.1 in
    λ i. apart.0 i ∷ rest i

-- what comes after the key with which a text begins is its state, and more
pub key_first : (bytes key after : List ℕ) (k : KeyStateParts) (rest : List ℕ) → length bytes < 2 ^ 63 → bytes ≡ part_text key ++ after → bytes ≡ key_text k ++ rest
    → after ≡ part_text k.state ++ rest
key_first bytes key after k rest small first second =
    let few = part_shorter bytes key after first in
    let less = key_shorter bytes k rest second in
    (parts_apart key k.key after (part_text k.state ++ rest) (omega (arith, few, small)) (omega (arith, less.key, small)) (sym first ∙ second ∙ key_shape k rest)).1
