-- The records that a reader has left, as reads take them one by one.
use Rattle.std.proofs.Common.{◌≡◌, ℕ, zero, suc, ◌+◌, ◌<◌, ◌≤◌, Bool, true, false, if◌then◌else◌, ◌==◌, List, [], ◌∷◌, ◌++◌, length, Option, Some, None, Bor, refl, ap, ◌∙◌, arith, inl}
use Rattle.std.specs.Prelude.{IsSome}
use Rattle.std.specs.Bool.{OnTrue}
use Rattle.csv.specs.Machine.{Read, ends_at_end, ends_with, after_end, field_after, fields_after, in_field, is_end, next_record, start_field, start_record, step}
use Rattle.csv.specs.Reading.{default_config, records_from, records_next, NextIs, ReadsNext, ReadRecord, took_first, ExplainsRead, is_flexible, stops_reader}
use Rattle.csv.specs.declared.parser.Action.{Action}
use Rattle.csv.specs.declared.parser.State.{State}
use Rattle.csv.specs.declared.parser.State.TheVariants as st
use Rattle.csv.specs.declared.parser.Action.TheVariants as act
use Rattle.csv.specs.declared.parser.Terminator.TheVariants as term
use Rattle.csv.specs.declared.error.ErrorKind.{ErrorKind}
use Rattle.csv.specs.declared.error.ErrorKind.TheVariants as kind
use Rattle.tilt_series.specs.Records.{BytesReader, IsBetween, TakesFirst, bytes_left, records_left, records_of}

-- what a step that ends a record leaves
abbrev EndsBetween : State × Action → Type 0
EndsBetween p = is_end p.1 ≡ true → ends_at_end p.0 ≡ false

after_end_between : (c : ℕ) → ends_at_end (after_end term.CRLF c) ≡ false
after_end_between c = by (c == 13)
  where
    by : (b : Bool) → ends_at_end (if b then st.AfterCr else st.StartRecord) ≡ false
    by true = refl
    by false = refl

in_field_between : (c : ℕ) → EndsBetween (in_field default_config c)
in_field_between c = by (c == 44) (ends_with term.CRLF c)
  where
    by : (b t : Bool) → EndsBetween (if b then (st.StartField, act.EndField) else if t then (after_end term.CRLF c, act.EndRecord) else (st.InField, act.Copy))
    by true t = λ e. cc
    by false true = λ e. after_end_between c
    by false false = λ e. cc

start_field_between : (c : ℕ) → EndsBetween (start_field default_config c)
start_field_between c = by (c == 34)
  where
    by : (b : Bool) → EndsBetween (if b then (st.InQuoted, act.Skip) else in_field default_config c)
    by true = λ e. cc
    by false = in_field_between c

start_record_between : (c : ℕ) → EndsBetween (start_record default_config c)
start_record_between c = by (ends_with term.CRLF c)
  where
    by : (b : Bool) → EndsBetween (if b then (st.StartRecord, act.Skip) else start_field default_config c)
    by true = λ e. cc
    by false = start_field_between c

-- a step that ends a record leaves the reader between two records
step_between : (s : State) (c : ℕ) → EndsBetween (step default_config s c)
step_between st.StartRecord c = start_record_between c
step_between st.StartField c = start_field_between c
step_between st.InField c = in_field_between c
step_between st.InQuoted c = by (c == 34)
  where
    by : (b : Bool) → EndsBetween (if b then (st.AfterQuote, act.Skip) else (st.InQuoted, act.Copy))
    by true = λ e. cc
    by false = λ e. cc
step_between st.InEscape c = λ e. cc
step_between st.AfterQuote c = by (c == 34)
  where
    by : (b : Bool) → EndsBetween (if b then (st.InQuoted, act.Copy) else in_field default_config c)
    by true = λ e. cc
    by false = in_field_between c
step_between st.InComment c = by (c == 10)
  where
    by : (b : Bool) → EndsBetween (if b then (st.StartRecord, act.Skip) else (st.InComment, act.Skip))
    by true = λ e. cc
    by false = λ e. cc
step_between st.AfterCr c = by (c == 10)
  where
    by : (b : Bool) → EndsBetween (if b then (st.StartRecord, act.Skip) else start_record default_config c)
    by true = λ e. cc
    by false = start_record_between c

-- what is after a record is no longer than what was left, and is between two records
pub record IsBehind (bytes : List ℕ) (p : Read) : Type 0 where
  pub short : length p.2 ≤ length bytes
  pub between : ends_at_end p.1 ≡ false

-- a record that the end of the bytes ends
at_the_end : (b : Bool) (fields : List (List ℕ)) (p : Read) → (if b then Some (fields, st.StartRecord, []) else None) ≡ Some p → IsBehind [] p
at_the_end true fields p e = let is : ◌≡◌ {A = Read} (fields, st.StartRecord, []) p = cc in rw (← is) (record { short = omega arith; between = refl })
at_the_end false fields p e = cc e

-- the same at one byte: the record ends there, or goes on
one_byte : (q : State × Action) (fields : List (List ℕ)) (rest : List ℕ) (more : Option Read) (p : Read) → EndsBetween q → (more ≡ Some p → IsBehind rest p)
    → (if is_end q.1 then Some (fields, q.0, rest) else more) ≡ Some p → (length p.2 ≤ length rest) × (ends_at_end p.1 ≡ false)
one_byte q fields rest more p between goes e = by (is_end q.1) between e
  where
    by : (b : Bool) → (b ≡ true → ends_at_end q.0 ≡ false) → (if b then Some (fields, q.0, rest) else more) ≡ Some p → (length p.2 ≤ length rest) × (ends_at_end p.1 ≡ false)
    by true between e =
        let is : ◌≡◌ {A = Read} (fields, q.0, rest) p = cc in
        rw (← is) (omega arith, between refl)
    by false between e = ((goes e).short, (goes e).between)

-- what is after the next record
pub next_behind : (s : State) (fields : List (List ℕ)) (field bytes : List ℕ) (p : Read) → next_record default_config s fields field bytes ≡ Some p → IsBehind bytes p
unfolding next_record
next_behind s fields field [] p e = at_the_end (ends_at_end s) (fields ++ (field ∷ [])) p e
next_behind s fields field (c ∷ rest) p e =
    let behind = one_byte (step default_config s c) (fields_after (step default_config s c).1 fields field) rest
    (next_record default_config (step default_config s c).0 (fields_after (step default_config s c).1 fields field)
    (field_after (step default_config s c).1 c field) rest) p (step_between s c)
    (next_behind (step default_config s c).0 (fields_after (step default_config s c).1 fields field) (field_after (step default_config s c).1 c field) rest p) e in
    record { short = omega (arith, behind.0); between = behind.1 }

-- between two records, the next one takes a byte at least
pub next_shorter : (s : State) (bytes : List ℕ) (p : Read) → ends_at_end s ≡ false → next_record default_config s [] [] bytes ≡ Some p → length p.2 < length bytes
unfolding next_record
next_shorter s [] p between e = cc (rw between at e)
next_shorter s (c ∷ rest) p between e =
    let behind = one_byte (step default_config s c) (fields_after (step default_config s c).1 [] []) rest
    (next_record default_config (step default_config s c).0 (fields_after (step default_config s c).1 [] []) (field_after (step default_config s c).1 c [])
    rest) p (step_between s c) (next_behind (step default_config s c).0 (fields_after (step default_config s c).1 [] []) (field_after (step default_config s c).1 c []) rest p) e in
    omega (arith, behind.0)

-- how many records are looked for makes no difference, as long as there are as many as bytes
pub records_enough : (n m : ℕ) (s : State) (bytes : List ℕ) → ends_at_end s ≡ false → length bytes < n → length bytes < m
    → records_from default_config n s bytes ≡ records_from default_config m s bytes
unfolding records_from
records_enough zero m s bytes between hn hm = absurd (omega arith)
records_enough (suc n) zero s bytes between hn hm = absurd (omega arith)
records_enough (suc n) (suc m) s bytes between hn hm =
    by (next_record default_config s [] [] bytes) (λ p e. (next_behind s [] [] bytes p e).between) (λ p e. next_shorter s bytes p between e) (records_enough n m)
  where
    by : (o : Option Read) → ((p : Read) → o ≡ Some p → ends_at_end p.1 ≡ false) → ((p : Read) → o ≡ Some p → length p.2 < length bytes)
        → ((s : State) (bytes : List ℕ) → ends_at_end s ≡ false → length bytes < n → length bytes < m → records_from default_config n s bytes ≡ records_from default_config m s bytes)
        → records_next (records_from default_config n) o ≡ records_next (records_from default_config m) o
    by None behind shorter more = refl
    by (Some p) behind shorter more =
        let short = shorter p refl in
        ap (λ (rs : List (List (List ℕ))). p.0 ∷ rs) (more p.1 p.2 (behind p refl) (omega (arith, short)) (omega (arith, short)))

-- what a read over known bytes takes
pub taken_of : (s s2 : State) (before after : Option (List ℕ)) (found : Bool) (fields : List (List ℕ)) → ends_at_end s ≡ false → IsSome before
    → ReadsNext default_config s before after found fields s2 → TakesFirst found (records_of s before) fields (records_of s2 after)
unfolding records_from
taken_of s s2 None after found fields between known h = cc known
taken_of s s2 (Some xs) None found fields between known h = absurd h
taken_of s s2 (Some xs) (Some ys) found fields between known h =
    let one : length xs + 1 ≡ suc (length xs) = omega arith in
    rw one (by (next_record default_config s [] [] xs) (λ p e. (next_behind s [] [] xs p e).between) (λ p e. next_shorter s xs p between e) h)
  where
    by : (o : Option Read) → ((p : Read) → o ≡ Some p → ends_at_end p.1 ≡ false) → ((p : Read) → o ≡ Some p → length p.2 < length xs) → NextIs o found fields s2 ys
        → TakesFirst found (records_next (records_from default_config (length xs)) o) fields (records_from default_config (length ys + 1) s2 ys)
    by None behind shorter h = rw h refl
    by (Some p) behind shorter h =
        let short = shorter p refl in
        rw (h.0, h.1, h.2, h.3) (ap (λ (rs : List (List (List ℕ))). p.0 ∷ rs) (records_enough (length xs) (length p.2 + 1) p.1 p.2 (behind p refl) (omega (arith, short)) (omega arith)))

-- what a read that found a record leaves
pub left_between : (s s2 : State) (before after : Option (List ℕ)) (fields : List (List ℕ)) → IsSome before
    → ReadsNext default_config s before after true fields s2 → IsSome after × (ends_at_end s2 ≡ false)
left_between s s2 None after fields known h = cc known
left_between s s2 (Some xs) None fields known h = absurd h
left_between s s2 (Some xs) (Some ys) fields known h = by (next_record default_config s [] [] xs) (λ p e. (next_behind s [] [] xs p e).between) h
  where
    by : (o : Option Read) → ((p : Read) → o ≡ Some p → ends_at_end p.1 ≡ false) → NextIs o true fields s2 ys → IsSome (Some ys) × (ends_at_end s2 ≡ false)
    by None behind h = cc h
    by (Some p) behind h = (refl, rw h.2 (behind p refl))

-- the bytes that a reader over memory reads from
abbrev pub bytes_in : Bor (List ℕ) → Option (List ℕ)
bytes_in bytes = Some bytes.now

-- after a read the bytes that are pending are those that are left
after_read : (a b : BytesReader) (found : Bool) (fields : List (List ℕ)) → IsBetween a → ReadRecord bytes_in a b found fields
    → ReadsNext default_config a.state (bytes_left a) (bytes_left b) found fields b.state
after_read a b found fields between h = rw h.1 (rw between.config at h.0)

-- a read takes the first of the records that are left
pub takes_first : (a b : BytesReader) (found : Bool) (fields : List (List ℕ)) → IsBetween a → ReadRecord bytes_in a b found fields → TakesFirst found (records_left a) fields (records_left b)
takes_first a b found fields between h =
    taken_of a.state b.state (bytes_left a) (bytes_left b) found fields between.state between.known (after_read a b found fields between h)

-- and leaves the reader between two records
pub stays_between : (a b : BytesReader) (found : Bool) (fields : List (List ℕ)) → IsBetween a → took_first b ≡ true → is_flexible b ≡ is_flexible a
    → ReadRecord bytes_in a b found fields → OnTrue found (IsBetween b)
stays_between a b true fields between first same h =
    let left = left_between a.state b.state (bytes_left a) (bytes_left b) fields between.known (after_read a b true fields between h) in
    record { config = h.2 ∙ between.config; trim = h.3 ∙ between.trim; flexible = same ∙ between.flexible; ready = inl first; known = left.0; state = left.1 }
stays_between a b false fields between first same h = tt

-- where records may have any length, a read of bytes fails only by the reader underneath or for memory
pub stopped_from : (a b : BytesReader) (why : ErrorKind) → is_flexible a ≡ true → ExplainsRead bytes_in a b false why → stops_reader why ≡ true
stopped_from a b (kind.Io e) flexible h = refl
stopped_from a b kind.OutOfMemory flexible h = refl
stopped_from a b (kind.UnequalLengths pos expected len) flexible h = cc (h.0, flexible)
stopped_from a b (kind.Utf8 pos err) flexible h = cc h.0
stopped_from a b (kind.Serialize text) flexible h = absurd h
stopped_from a b (kind.Deserialize pos err) flexible h = absurd h
