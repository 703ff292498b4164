-- The output of each key of a feed.
use Rattle.std.proofs.Common.{◌≡◌, ℕ, Bool, true, false, if◌then◌else◌, List, [], ◌∷◌, ◌++◌, map, Option, Some, None, Result, Ok, Err, refl, sym, ap, ◌∙◌}
use Rattle.std.proofs.Common.{append_assoc, append-nil, inl, inr, subst}
use Rattle.std.specs.Str.{bytes_eq}
use Rattle.std.proofs.lemmas.Bool.{cases_Bool, false_from_ne_true, false≢true}
use Rattle.tilt_base.proofs.Comparisons.{bytes_same, same_bytes}
use Rattle.tilt_keyed_line.proofs.Addresses.{comes-off, key-lacks}
use Rattle.tilt_keyed_line.proofs.Hearing.{given_every, given_other, given_own, is_there, there_every, there_other, there_own}
use Rattle.tilt_keyed_line.proofs.Lines.{lines-alone, lines-are, lines-text, with-key-are}
use Rattle.tilt_keyed_line.proofs.Owning.{own-others, own-own}
use Rattle.tilt_keyed_line.specs.Address.{IsKey, address}
use Rattle.tilt_keyed_line.specs.Feeds.{KeyFeed, KeyedFeed, after_address, after_key, after_own, empty_keyed_feed, given}
use Rattle.tilt_keyed_line.specs.Feeds.{has_key, heard_lines, lines_from, lines_given, lines_of, own_lines, said}
use Rattle.tilt_keyed_line.specs.Outputs.{IsWhole, key_line, lines_in, text_of, with_key}
use Rattle.tilt_keyed_line.specs.declared.key_fault.KeyFault.{KeyFault}
use Rattle.tilt_keyed_run.proofs.More.{written-append}
use Rattle.tilt_keyed_run.specs.Output.{address_output, alone, alone_lines, every_output, key_output, output, own_output, written}

-- texts of whole lines, one after another
join-lines : (x y : List ℕ) → IsWhole x → lines_in (x ++ y) ≡ lines_in x ++ lines_in y
join-lines x y whole = ap (λ (t : List ℕ). lines_in (t ++ y)) (sym whole) ∙ lines-text (lines_in x) y (lines-are [] x refl)

text-append : (xs ys : List (List ℕ)) → text_of (xs ++ ys) ≡ text_of xs ++ text_of ys
text-append [] ys = refl
text-append (x ∷ xs) ys =
    ap (λ (t : List ℕ). x ++ 10 ∷ t) (text-append xs ys) ∙ sym (append_assoc x (10 ∷ text_of xs) (text_of ys))

pub whole-append : (x y : List ℕ) → IsWhole x → IsWhole y → IsWhole (x ++ y)
whole-append x y a b =
    ap text_of (join-lines x y a) ∙ text-append (lines_in x) (lines_in y) ∙ (λ i. a i ++ b i)

whole-with : (key text : List ℕ) → IsKey key → IsWhole (with_key key text)
whole-with key text is = ap text_of (lines-alone (map (key_line key) (lines_in text)) (with-key-are key text (key-lacks 10 refl key is)))

own-append : (key : List ℕ) (xs ys : List (List ℕ)) → own_lines key (xs ++ ys) ≡ own_lines key xs ++ own_lines key ys
own-append key [] ys = refl
own-append key (x ∷ xs) ys =
    let here = if has_key key (address x) then said (address x) else [] in
    ap (λ (t : List (List ℕ)). here ++ t) (own-append key xs ys) ∙ sym (append_assoc here (own_lines key xs) (own_lines key ys))

own-joined : (key x y : List ℕ) → IsWhole x → own_lines key (lines_in (x ++ y)) ≡ own_lines key (lines_in x) ++ own_lines key (lines_in y)
own-joined key x y whole = ap (own_lines key) (join-lines x y whole) ∙ own-append key (lines_in x) (lines_in y)

-- keys that differ
abbrev AreApart : List KeyFeed → Type 0
AreApart [] = Unit {0}
AreApart (feed ∷ feeds) = IsKey feed.key × (is_there feed.key feeds ≡ false) × AreApart feeds

bytes_swap : (x y : List ℕ) → bytes_eq x y ≡ false → bytes_eq y x ≡ false
bytes_swap x y differs = false_from_ne_true (bytes_eq y x) (λ same. false≢true (sym differs ∙ ap (λ (k : List ℕ). bytes_eq k y) (sym (bytes_same y x same)) ∙ same_bytes y))

apart_every : (line : List ℕ) (feeds : List KeyFeed) → AreApart feeds → AreApart (map (given line) feeds)
apart_every line [] apart = tt
apart_every line (feed ∷ feeds) apart = (apart.0, there_every feed.key line feeds ∙ apart.1, apart_every line feeds apart.2)

apart_own : (key : List ℕ) (shared : List (List ℕ)) (line : List ℕ) (feeds : List KeyFeed) → IsKey key → AreApart feeds → AreApart (after_own key shared line feeds)
apart_own key shared line [] is apart = (is, refl, tt)
apart_own key shared line (feed ∷ feeds) is apart =
    elim (cases_Bool (bytes_eq feed.key key)) [
      | inl same ↦ rw same (apart.0, apart.1, apart.2)
      | inr other ↦
          rw other (apart.0, there_other key feed.key shared line feeds (bytes_swap feed.key key other) ∙ apart.1, apart_own key shared line feeds is apart.2)
    ]

-- a run that writes nothing but lines
module _ (first : List ℕ) (added : List (List ℕ) → List ℕ → List ℕ) (first_whole : IsWhole first)
    (added_whole : (before : List (List ℕ)) (line : List ℕ) → IsWhole (added before line)) where
  whole-written : (before lines : List (List ℕ)) → IsWhole (written first added before lines)
  whole-written before [] = refl
  whole-written before (line ∷ lines) =
      whole-append (added before line) (written first added (before ++ line ∷ []) lines) (added_whole before line) (whole-written (before ++ line ∷ []) lines)

  whole-alone : (lines : List (List ℕ)) → IsWhole (alone first added lines)
  whole-alone lines = whole-append first (written first added [] lines) first_whole (whole-written [] lines)

  abbrev later_lines : List (List ℕ) → List (List ℕ) → List (List ℕ)
  later_lines before lines = lines_in (written first added before lines)

  later_first : (before : List (List ℕ)) (line : List ℕ) (lines : List (List ℕ))
      → later_lines before (line ∷ lines) ≡ lines_in (added before line) ++ later_lines (before ++ line ∷ []) lines
  later_first before line lines = join-lines (added before line) (written first added (before ++ line ∷ []) lines) (added_whole before line)

  alone_more : (xs ys : List (List ℕ)) → lines_in (alone first added (xs ++ ys)) ≡ lines_in (alone first added xs) ++ later_lines xs ys
  alone_more xs ys =
      ap (λ (t : List ℕ). lines_in (first ++ t)) (written-append first added [] xs ys)
      ∙ ap lines_in (sym (append_assoc first (written first added [] xs) (written first added xs ys)))
      ∙ join-lines (alone first added xs) (written first added xs ys) (whole-alone xs)

  alone_some : (xs : List (List ℕ)) (y : List ℕ) (ys : List (List ℕ)) → alone_lines first added (xs ++ y ∷ ys) ≡ lines_in (alone first added (xs ++ y ∷ ys))
  alone_some [] y ys = refl
  alone_some (x ∷ xs) y ys = refl

  -- what is written for a line of every key
  whole-every : (line : List ℕ) (feeds : List KeyFeed) → AreApart feeds → IsWhole (every_output first added line feeds)
  whole-every line [] apart = refl
  whole-every line (feed ∷ feeds) apart =
      whole-append (with_key feed.key (added feed.lines line)) (every_output first added line feeds)
      (whole-with feed.key (added feed.lines line) apart.0) (whole-every line feeds apart.2)

  every_own : (key line : List ℕ) (feeds : List KeyFeed) → AreApart feeds
      → own_lines key (lines_in (every_output first added line feeds)) ≡ (if is_there key feeds then lines_in (added (lines_given key feeds) line) else [])
  every_own key line [] apart = refl
  every_own key line (feed ∷ feeds) apart =
      let text = added feed.lines line in
      let joined = own-joined key (with_key feed.key text) (every_output first added line feeds) (whole-with feed.key text apart.0) in
      let rest = every_own key line feeds apart.2 in
      elim (cases_Bool (bytes_eq feed.key key)) [
        | inl same ↦
            let p = bytes_same feed.key key same in
            let none : is_there key feeds ≡ false = ap (λ (k : List ℕ). is_there k feeds) (sym p) ∙ apart.1 in
            let mine : own_lines key (lines_in (with_key feed.key text)) ≡ lines_in text =
            ap (λ (k : List ℕ). own_lines k (lines_in (with_key feed.key text))) (sym p) ∙ own-own feed.key text apart.0 in
            rw same (joined ∙ (λ i. mine i ++ rw none at rest i) ∙ append-nil (lines_in text))
        | inr other ↦ rw other (joined ∙ ap (λ (t : List (List ℕ)). t ++ own_lines key (lines_in (every_output first added line feeds)))
            (own-others feed.key key text apart.0 other) ∙ rest)
      ]

  -- what is written for a line of one key
  own_is : (key : List ℕ) (shared : List (List ℕ)) (line : List ℕ) (feeds : List KeyFeed) → own_output first added key shared line feeds
      ≡ with_key key (if is_there key feeds then added (lines_given key feeds) line else alone first added (shared ++ line ∷ []))
  own_is key shared line [] = refl
  own_is key shared line (feed ∷ feeds) =
      elim (cases_Bool (bytes_eq feed.key key)) [
        | inl same ↦ rw same (ap (λ (k : List ℕ). with_key k (added feed.lines line)) (bytes_same feed.key key same))
        | inr other ↦ rw other (own_is key shared line feeds)
      ]

  -- what will be written for a key, by whether it is there
  abbrev writes_more : Bool → List (List ℕ) → List ℕ → List (List ℕ) → List (List ℕ) → List (List ℕ)
  writes_more true was key shared lines = later_lines was (heard_lines key lines)
  writes_more false was key shared lines = alone_lines first added (lines_from key shared lines)

  abbrev will_write : List ℕ → KeyedFeed → List (List ℕ) → List (List ℕ)
  will_write key feed lines = writes_more (is_there key feed.keys) (lines_given key feed.keys) key feed.shared lines

  will_end : (there : Bool) (was : List (List ℕ)) (key : List ℕ) (shared : List (List ℕ)) → [] ≡ writes_more there was key shared []
  will_end true was key shared = refl
  will_end false was key shared = refl

  silent : (there : Bool) (was : List (List ℕ)) (key : List ℕ) (shared : List (List ℕ)) (line : List ℕ) (lines : List (List ℕ))
      (a : Result (Option (List ℕ × List ℕ)) KeyFault) → address line ≡ a → has_key key a ≡ false → has_key [] a ≡ false
      → writes_more there was key shared lines ≡ writes_more there was key shared (line ∷ lines)
  silent true was key shared line lines a is own every = rw (is, own, every) refl
  silent false was key shared line lines a is own every = rw (is, own, every) refl

  step_every : (b : ℕ) (bs rest line : List ℕ) (lines : List (List ℕ)) (feed : KeyedFeed) → AreApart feed.keys → address line ≡ Ok (Some ([], rest))
      → own_lines (b ∷ bs) (lines_in (every_output first added rest feed.keys)) ++ will_write (b ∷ bs) (after_key [] rest feed) lines
      ≡ will_write (b ∷ bs) feed (line ∷ lines)
  step_every b bs rest line lines feed apart is =
      let heard : heard_lines (b ∷ bs) (line ∷ lines) ≡ rest ∷ heard_lines (b ∷ bs) lines = rw is refl in
      rw (there_every (b ∷ bs) rest feed.keys, every_own (b ∷ bs) rest feed.keys apart)
      (elim (cases_Bool (is_there (b ∷ bs) feed.keys)) [
        | inl there ↦
            rw (there, given_every (b ∷ bs) rest feed.keys there, heard)
            (sym (later_first (lines_given (b ∷ bs) feed.keys) rest (heard_lines (b ∷ bs) lines)))
        | inr none ↦ rw (none, is) refl
      ])

  step_own : (b : ℕ) (bs rest line : List ℕ) (lines : List (List ℕ)) (feed : KeyedFeed) → IsKey (b ∷ bs) → address line ≡ Ok (Some (b ∷ bs, rest))
      → own_lines (b ∷ bs) (lines_in (own_output first added (b ∷ bs) feed.shared rest feed.keys)) ++ will_write (b ∷ bs) (after_key (b ∷ bs) rest feed) lines
      ≡ will_write (b ∷ bs) feed (line ∷ lines)
  step_own b bs rest line lines feed key is =
      let text = if is_there (b ∷ bs) feed.keys then added (lines_given (b ∷ bs) feed.keys) rest else alone first added (feed.shared ++ rest ∷ []) in
      let mine : own_lines (b ∷ bs) (lines_in (own_output first added (b ∷ bs) feed.shared rest feed.keys)) ≡ lines_in text =
      ap (λ (t : List ℕ). own_lines (b ∷ bs) (lines_in t)) (own_is (b ∷ bs) feed.shared rest feed.keys) ∙ own-own (b ∷ bs) text key in
      let heard : heard_lines (b ∷ bs) (line ∷ lines) ≡ rest ∷ heard_lines (b ∷ bs) lines = rw (is, same_bytes (b ∷ bs)) refl in
      rw (mine, there_own (b ∷ bs) feed.shared rest feed.keys, given_own (b ∷ bs) feed.shared rest feed.keys)
      (elim (cases_Bool (is_there (b ∷ bs) feed.keys)) [
        | inl there ↦ rw (there, heard) (sym (later_first (lines_given (b ∷ bs) feed.keys) rest (heard_lines (b ∷ bs) lines)))
        | inr none ↦
            let starts : lines_from (b ∷ bs) feed.shared (line ∷ lines) ≡ feed.shared ++ heard_lines (b ∷ bs) (line ∷ lines) =
            rw (is, same_bytes (b ∷ bs)) refl in
            rw (none, starts, heard, alone_some feed.shared rest (heard_lines (b ∷ bs) lines))
            (sym (alone_more (feed.shared ++ rest ∷ []) (heard_lines (b ∷ bs) lines))
            ∙ ap (λ (ls : List (List ℕ)). lines_in (alone first added ls)) (append_assoc feed.shared (rest ∷ []) (heard_lines (b ∷ bs) lines)))
      ])

  step_other : (key : List ℕ) (c : ℕ) (cs rest line : List ℕ) (lines : List (List ℕ)) (feed : KeyedFeed) → IsKey (c ∷ cs)
      → address line ≡ Ok (Some (c ∷ cs, rest)) → bytes_eq (c ∷ cs) key ≡ false
      → own_lines key (lines_in (own_output first added (c ∷ cs) feed.shared rest feed.keys)) ++ will_write key (after_key (c ∷ cs) rest feed) lines
      ≡ will_write key feed (line ∷ lines)
  step_other key c cs rest line lines feed own is differs =
      let text = if is_there (c ∷ cs) feed.keys then added (lines_given (c ∷ cs) feed.keys) rest else alone first added (feed.shared ++ rest ∷ []) in
      let none : own_lines key (lines_in (own_output first added (c ∷ cs) feed.shared rest feed.keys)) ≡ [] =
      ap (λ (t : List ℕ). own_lines key (lines_in t)) (own_is (c ∷ cs) feed.shared rest feed.keys) ∙ own-others (c ∷ cs) key text own differs in
      rw (none, there_other (c ∷ cs) key feed.shared rest feed.keys differs, given_other (c ∷ cs) key feed.shared rest feed.keys differs)
      (silent (is_there key feed.keys) (lines_given key feed.keys) key feed.shared line lines (Ok (Some (c ∷ cs, rest))) is differs refl)

  abbrev StepsBy : ℕ → List ℕ → List ℕ → List (List ℕ) → KeyedFeed → Result (Option (List ℕ × List ℕ)) KeyFault → Type 0
  StepsBy b bs line lines feed a =
      own_lines (b ∷ bs) (lines_in (address_output first added a feed)) ++ will_write (b ∷ bs) (after_address a feed) lines
      ≡ will_write (b ∷ bs) feed (line ∷ lines)

  step_key : (b : ℕ) (bs own rest line : List ℕ) (lines : List (List ℕ)) (feed : KeyedFeed) → AreApart feed.keys → IsKey own
      → address line ≡ Ok (Some (own, rest)) → StepsBy b bs line lines feed (Ok (Some (own, rest)))
  step_key b bs [] rest line lines feed apart key is = step_every b bs rest line lines feed apart is
  step_key b bs (c ∷ cs) rest line lines feed apart key is =
      elim (cases_Bool (bytes_eq (c ∷ cs) (b ∷ bs))) [
        | inl same ↦
            let p = bytes_same (c ∷ cs) (b ∷ bs) same in
            subst (λ k. StepsBy b bs line lines feed (Ok (Some (k, rest)))) (sym p)
            (step_own b bs rest line lines feed (subst IsKey p key) (is ∙ ap (λ (k : List ℕ). Ok (Some (k, rest))) p))
        | inr differs ↦ step_other (b ∷ bs) c cs rest line lines feed key is differs
      ]

  step_line : (b : ℕ) (bs line : List ℕ) (lines : List (List ℕ)) (feed : KeyedFeed) → AreApart feed.keys
      → (a : Result (Option (List ℕ × List ℕ)) KeyFault) → address line ≡ a → StepsBy b bs line lines feed a
  step_line b bs line lines feed apart (Ok (Some parts)) is = step_key b bs parts.0 parts.1 line lines feed apart (comes-off line parts.0 parts.1 is).is is
  step_line b bs line lines feed apart (Ok None) is =
      silent (is_there (b ∷ bs) feed.keys) (lines_given (b ∷ bs) feed.keys) (b ∷ bs) feed.shared line lines (Ok None) is refl refl
  step_line b bs line lines feed apart (Err why) is =
      silent (is_there (b ∷ bs) feed.keys) (lines_given (b ∷ bs) feed.keys) (b ∷ bs) feed.shared line lines (Err why) is refl refl

  -- keys stay apart, and what is written is whole
  apart_key : (key line : List ℕ) (feed : KeyedFeed) → IsKey key → AreApart feed.keys → AreApart (after_key key line feed).keys
  apart_key [] line feed is apart = apart_every line feed.keys apart
  apart_key (c ∷ cs) line feed is apart = apart_own (c ∷ cs) feed.shared line feed.keys is apart

  apart_line : (line : List ℕ) (feed : KeyedFeed) → AreApart feed.keys → (a : Result (Option (List ℕ × List ℕ)) KeyFault) → address line ≡ a
      → AreApart (after_address a feed).keys
  apart_line line feed apart (Ok (Some parts)) is = apart_key parts.0 parts.1 feed (comes-off line parts.0 parts.1 is).is apart
  apart_line line feed apart (Ok None) is = apart
  apart_line line feed apart (Err why) is = apart

  whole_key : (key line : List ℕ) (feed : KeyedFeed) → IsKey key → AreApart feed.keys → IsWhole (key_output first added key line feed)
  whole_key [] line feed is apart = whole-every line feed.keys apart
  whole_key (c ∷ cs) line feed is apart =
      let text = if is_there (c ∷ cs) feed.keys then added (lines_given (c ∷ cs) feed.keys) line else alone first added (feed.shared ++ line ∷ []) in
      subst IsWhole (sym (own_is (c ∷ cs) feed.shared line feed.keys)) (whole-with (c ∷ cs) text is)

  whole_line : (line : List ℕ) (feed : KeyedFeed) → AreApart feed.keys → (a : Result (Option (List ℕ × List ℕ)) KeyFault) → address line ≡ a
      → IsWhole (address_output first added a feed)
  whole_line line feed apart (Ok (Some parts)) is = whole_key parts.0 parts.1 feed (comes-off line parts.0 parts.1 is).is apart
  whole_line line feed apart (Ok None) is = refl
  whole_line line feed apart (Err why) is = refl

  output_after : (b : ℕ) (bs : List ℕ) (lines : List (List ℕ)) (feed : KeyedFeed) → AreApart feed.keys
      → own_lines (b ∷ bs) (lines_in (output first added lines feed)) ≡ will_write (b ∷ bs) feed lines
  output_after b bs [] feed apart = will_end (is_there (b ∷ bs) feed.keys) (lines_given (b ∷ bs) feed.keys) (b ∷ bs) feed.shared
  output_after b bs (line ∷ lines) feed apart =
      let a = address line in
      let later = output_after b bs lines (after_address a feed) (apart_line line feed apart a refl) in
      own-joined (b ∷ bs) (address_output first added a feed) (output first added lines (after_address a feed)) (whole_line line feed apart a refl)
      ∙ ap (λ (t : List (List ℕ)). own_lines (b ∷ bs) (lines_in (address_output first added a feed)) ++ t) later
      ∙ step_line b bs line lines feed apart a refl

  -- of the output for the lines of a feed, a key has exactly what its run writes that is alone with its lines
  pub output-apart : (key : List ℕ) (lines : List (List ℕ)) → (key ≡ [] → ⊥)
      → own_lines key (lines_in (output first added lines empty_keyed_feed)) ≡ alone_lines first added (lines_of key lines)
  output-apart [] lines some = absurd (some refl)
  output-apart (b ∷ bs) lines some = output_after b bs lines empty_keyed_feed tt
