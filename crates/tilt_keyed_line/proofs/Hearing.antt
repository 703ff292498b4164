-- The lines that keys of a feed are given.
use Rattle.std.proofs.Common.{◌≡◌, ℕ, ◌||◌, Bool, true, false, if◌then◌else◌, List, [], ◌∷◌, ◌++◌, map, Option, Some, None, Result, Ok, Err, refl, sym, ap, ◌∙◌}
use Rattle.std.proofs.Common.{append_assoc, append-nil, inl, inr, subst}
use Rattle.std.specs.List.{list_any}
use Rattle.std.specs.Str.{bytes_eq}
use Rattle.std.proofs.lemmas.Bool.{cases_Bool}
use Rattle.tilt_base.proofs.Comparisons.{bytes_same, same_bytes}
use Rattle.tilt_keyed_line.specs.Address.{address}
use Rattle.tilt_keyed_line.specs.Feeds.{KeyFeed, KeyedFeed, after_address, after_key, after_lines, after_own, empty_keyed_feed, given}
use Rattle.tilt_keyed_line.specs.Feeds.{has_key, heard_lines, lines_from, lines_given, lines_of}
use Rattle.tilt_keyed_line.specs.declared.key_fault.KeyFault.{KeyFault}

-- whether a key is there
abbrev pub is_there : List ℕ → List KeyFeed → Bool
is_there key feeds = list_any (λ feed. bytes_eq feed.key key) feeds

-- a line of the key: it is there then, and was given one line more
pub there_own : (key : List ℕ) (shared : List (List ℕ)) (line : List ℕ) (feeds : List KeyFeed) → is_there key (after_own key shared line feeds) ≡ true
there_own key shared line [] = rw (same_bytes key) refl
there_own key shared line (feed ∷ feeds) =
    elim (cases_Bool (bytes_eq feed.key key)) [
      | inl same ↦ rw (same, same) refl
      | inr other ↦ rw (other, other) (there_own key shared line feeds)
    ]

pub given_own : (key : List ℕ) (shared : List (List ℕ)) (line : List ℕ) (feeds : List KeyFeed)
    → lines_given key (after_own key shared line feeds) ≡ (if is_there key feeds then lines_given key feeds else shared) ++ line ∷ []
given_own key shared line [] = rw (same_bytes key) refl
given_own key shared line (feed ∷ feeds) =
    elim (cases_Bool (bytes_eq feed.key key)) [
      | inl same ↦ rw (same, same) refl
      | inr other ↦ rw (other, other) (given_own key shared line feeds)
    ]

-- a line of another key changes neither
pub there_other : (own key : List ℕ) (shared : List (List ℕ)) (line : List ℕ) (feeds : List KeyFeed) → bytes_eq own key ≡ false
    → is_there key (after_own own shared line feeds) ≡ is_there key feeds
there_other own key shared line [] differs = rw differs refl
there_other own key shared line (feed ∷ feeds) differs =
    elim (cases_Bool (bytes_eq feed.key own)) [
      | inl same ↦ rw same refl
      | inr other ↦ rw other (ap (λ (b : Bool). bytes_eq feed.key key || b) (there_other own key shared line feeds differs))
    ]

pub given_other : (own key : List ℕ) (shared : List (List ℕ)) (line : List ℕ) (feeds : List KeyFeed) → bytes_eq own key ≡ false
    → lines_given key (after_own own shared line feeds) ≡ lines_given key feeds
given_other own key shared line [] differs = rw differs refl
given_other own key shared line (feed ∷ feeds) differs =
    elim (cases_Bool (bytes_eq feed.key own)) [
      | inl same ↦
          let unlike : bytes_eq feed.key key ≡ false = ap (λ (k : List ℕ). bytes_eq k key) (bytes_same feed.key own same) ∙ differs in
          rw (same, unlike) refl
      | inr other ↦ rw other (ap (λ (ls : List (List ℕ)). if bytes_eq feed.key key then feed.lines else ls) (given_other own key shared line feeds differs))
    ]

-- a line of every key
pub there_every : (key line : List ℕ) (feeds : List KeyFeed) → is_there key (map (given line) feeds) ≡ is_there key feeds
there_every key line [] = refl
there_every key line (feed ∷ feeds) = ap (λ (b : Bool). bytes_eq feed.key key || b) (there_every key line feeds)

pub given_every : (key line : List ℕ) (feeds : List KeyFeed) → is_there key feeds ≡ true
    → lines_given key (map (given line) feeds) ≡ lines_given key feeds ++ line ∷ []
given_every key line [] there = cc there
given_every key line (feed ∷ feeds) there =
    elim (cases_Bool (bytes_eq feed.key key)) [
      | inl same ↦ rw same refl
      | inr other ↦ rw other (given_every key line feeds (rw other at there))
    ]

-- what a key will have been given after more lines
abbrev after_more : Bool → List (List ℕ) → List ℕ → List (List ℕ) → List (List ℕ) → List (List ℕ)
after_more true was key shared lines = was ++ heard_lines key lines
after_more false was key shared lines = lines_from key shared lines

abbrev will_have : List ℕ → KeyedFeed → List (List ℕ) → List (List ℕ)
will_have key feed lines = after_more (is_there key feed.keys) (lines_given key feed.keys) key feed.shared lines

-- nothing more comes
none_given : (key : List ℕ) (feeds : List KeyFeed) → is_there key feeds ≡ false → [] ≡ lines_given key feeds
none_given key [] none = refl
none_given key (feed ∷ feeds) none =
    elim (cases_Bool (bytes_eq feed.key key)) [
      | inl same ↦ cc (rw same at none)
      | inr other ↦ rw other (none_given key feeds (rw other at none))
    ]

will_end : (key : List ℕ) (feed : KeyedFeed) → will_have key feed [] ≡ lines_given key feed.keys
will_end key feed =
    elim (cases_Bool (is_there key feed.keys)) [
      | inl there ↦ rw there (append-nil (lines_given key feed.keys))
      | inr none ↦ rw none (none_given key feed.keys none)
    ]

-- a line that says nothing to the key
silent : (there : Bool) (was : List (List ℕ)) (key : List ℕ) (shared : List (List ℕ)) (line : List ℕ) (lines : List (List ℕ))
    (a : Result (Option (List ℕ × List ℕ)) KeyFault) → address line ≡ a → has_key key a ≡ false → has_key [] a ≡ false
    → after_more there was key shared lines ≡ after_more there was key shared (line ∷ lines)
silent true was key shared line lines a is own every = rw (is, own, every) refl
silent false was key shared line lines a is own every = rw (is, own, every) refl

-- a line of the key
step_own : (b : ℕ) (bs rest line : List ℕ) (lines : List (List ℕ)) (feed : KeyedFeed) → address line ≡ Ok (Some (b ∷ bs, rest))
    → will_have (b ∷ bs) (after_key (b ∷ bs) rest feed) lines ≡ will_have (b ∷ bs) feed (line ∷ lines)
step_own b bs rest line lines feed is =
    let heard : heard_lines (b ∷ bs) (line ∷ lines) ≡ rest ∷ heard_lines (b ∷ bs) lines = rw (is, same_bytes (b ∷ bs)) refl in
    rw (there_own (b ∷ bs) feed.shared rest feed.keys, given_own (b ∷ bs) feed.shared rest feed.keys)
    (elim (cases_Bool (is_there (b ∷ bs) feed.keys)) [
      | inl there ↦ rw (there, heard) (append_assoc (lines_given (b ∷ bs) feed.keys) (rest ∷ []) (heard_lines (b ∷ bs) lines))
      | inr none ↦
          let starts : lines_from (b ∷ bs) feed.shared (line ∷ lines) ≡ feed.shared ++ heard_lines (b ∷ bs) (line ∷ lines) =
          rw (is, same_bytes (b ∷ bs)) refl in
          rw (none, starts, heard) (append_assoc feed.shared (rest ∷ []) (heard_lines (b ∷ bs) lines))
    ])

-- a line of another key
step_other : (key : List ℕ) (c : ℕ) (cs rest line : List ℕ) (lines : List (List ℕ)) (feed : KeyedFeed) → address line ≡ Ok (Some (c ∷ cs, rest))
    → bytes_eq (c ∷ cs) key ≡ false → will_have key (after_key (c ∷ cs) rest feed) lines ≡ will_have key feed (line ∷ lines)
step_other key c cs rest line lines feed is differs =
    rw (there_other (c ∷ cs) key feed.shared rest feed.keys differs, given_other (c ∷ cs) key feed.shared rest feed.keys differs)
    (silent (is_there key feed.keys) (lines_given key feed.keys) key feed.shared line lines (Ok (Some (c ∷ cs, rest))) is differs refl)

-- a line of every key
step_every : (b : ℕ) (bs rest line : List ℕ) (lines : List (List ℕ)) (feed : KeyedFeed) → address line ≡ Ok (Some ([], rest))
    → will_have (b ∷ bs) (after_key [] rest feed) lines ≡ will_have (b ∷ bs) feed (line ∷ lines)
step_every b bs rest line lines feed is =
    let heard : heard_lines (b ∷ bs) (line ∷ lines) ≡ rest ∷ heard_lines (b ∷ bs) lines = rw is refl in
    rw (there_every (b ∷ bs) rest feed.keys)
    (elim (cases_Bool (is_there (b ∷ bs) feed.keys)) [
      | inl there ↦
          rw (there, given_every (b ∷ bs) rest feed.keys there, heard)
          (append_assoc (lines_given (b ∷ bs) feed.keys) (rest ∷ []) (heard_lines (b ∷ bs) lines))
      | inr none ↦ rw (none, is) refl
    ])

step_key : (b : ℕ) (bs own rest line : List ℕ) (lines : List (List ℕ)) (feed : KeyedFeed) → address line ≡ Ok (Some (own, rest))
    → will_have (b ∷ bs) (after_key own rest feed) lines ≡ will_have (b ∷ bs) feed (line ∷ lines)
step_key b bs [] rest line lines feed is = step_every b bs rest line lines feed is
step_key b bs (c ∷ cs) rest line lines feed is =
    elim (cases_Bool (bytes_eq (c ∷ cs) (b ∷ bs))) [
      | inl same ↦
          let p = bytes_same (c ∷ cs) (b ∷ bs) same in
          subst (λ k. will_have (b ∷ bs) (after_key k rest feed) lines ≡ will_have (b ∷ bs) feed (line ∷ lines)) (sym p)
          (step_own b bs rest line lines feed (is ∙ ap (λ (k : List ℕ). Ok (Some (k, rest))) p))
      | inr differs ↦ step_other (b ∷ bs) c cs rest line lines feed is differs
    ]

step_line : (b : ℕ) (bs line : List ℕ) (lines : List (List ℕ)) (feed : KeyedFeed) (a : Result (Option (List ℕ × List ℕ)) KeyFault) → address line ≡ a
    → will_have (b ∷ bs) (after_address a feed) lines ≡ will_have (b ∷ bs) feed (line ∷ lines)
step_line b bs line lines feed (Ok (Some parts)) is = step_key b bs parts.0 parts.1 line lines feed is
step_line b bs line lines feed (Ok None) is = silent (is_there (b ∷ bs) feed.keys) (lines_given (b ∷ bs) feed.keys) (b ∷ bs) feed.shared line lines (Ok None) is refl refl
step_line b bs line lines feed (Err why) is = silent (is_there (b ∷ bs) feed.keys) (lines_given (b ∷ bs) feed.keys) (b ∷ bs) feed.shared line lines (Err why) is refl refl

given_after : (b : ℕ) (bs : List ℕ) (lines : List (List ℕ)) (feed : KeyedFeed)
    → lines_given (b ∷ bs) (after_lines lines feed).keys ≡ will_have (b ∷ bs) feed lines
given_after b bs [] feed = sym (will_end (b ∷ bs) feed)
given_after b bs (line ∷ lines) feed =
    given_after b bs lines (after_address (address line) feed) ∙ step_line b bs line lines feed (address line) refl

-- a key is given its lines
pub given-lines : (key : List ℕ) (lines : List (List ℕ)) → (key ≡ [] → ⊥) → lines_given key (after_lines lines empty_keyed_feed).keys ≡ lines_of key lines
given-lines [] lines some = absurd (some refl)
given-lines (b ∷ bs) lines some = given_after b bs lines empty_keyed_feed
