-- Files in a list, by name.
use Rattle.std.proofs.Common.{◌≡◌, ◌≢◌, inl, inr, ℕ, Bool, true, false, List, []}
use Rattle.std.proofs.Common.{◌∷◌, ◌++◌, get_or, set, Option, None, Some, find, refl, sym, ◌∙◌, ap, arith, position}
use Rattle.std.specs.Option.{option_map, option_map_or, option_or}
use Rattle.std.specs.List.{position_or_len, slice_get}
use Rattle.std.specs.Str.{bytes_eq}
use Rattle.std.proofs.lemmas.Bool.Decides.{nat_tests}
use Rattle.std.proofs.lemmas.Bool.{cases_Bool}
use Rattle.std.proofs.lemmas.List.Folds.{find_at, find-set, find_past, find-append}
use Rattle.std.proofs.lemmas.List.Quantifiers.{position-Some}
use Rattle.std.proofs.lemmas.List.Sums.{position_or_len_is}
use Rattle.std.proofs.lemmas.Option.{slice_get-get_or, slice_get_cases}
use Rattle.std.proofs.lemmas.Slice.Eq.{bytes_eq-Decides}
use Rattle.tilt_outside.specs.HeldFiles.{HeldFile, file_named, bytes_held, room_of, HoldsInstead}

-- whether a file has the name
abbrev pub has_name : List ℕ → HeldFile → Bool
has_name name file = bytes_eq file.name name

has_other_name : (file : HeldFile) (name other : List ℕ) → file.name ≡ name → other ≢ name → has_name other file ≡ false
has_other_name file name other named differs = elim (cases_Bool (has_name other file)) [
  | inl same ↦ absurd (differs (sym ((bytes_eq-Decides file.name other).0 same) ∙ named))
  | inr other_name ↦ other_name
]

place_is : (files : List HeldFile) (name : List ℕ) (i : ℕ) (d : HeldFile) → position (has_name name) files ≡ Some i → position_or_len (has_name name) files ≡ i
place_is files name i d at =
    let there = position-Some (has_name name) files i d at in
    position_or_len_is (has_name name) files i d (omega (arith, there.0)) there.2 (λ _. there.1)

-- the file at the place is the one of that name
pub file_named-at : (files : List HeldFile) (name : List ℕ) (i : ℕ) (d : HeldFile) → position (has_name name) files ≡ Some i → file_named files name ≡ Some (get_or files i d)
file_named-at files name i d at =
    let there = position-Some (has_name name) files i d at in
    find_at (has_name name) files ∙ ap (slice_get files) (place_is files name i d at) ∙ slice_get-get_or files i d there.0

-- where no file has the place, none has the name
pub file_named-none : (files : List HeldFile) (name : List ℕ) → position (has_name name) files ≡ None → file_named files name ≡ None
file_named-none files name at =
    elim (slice_get_cases files (position_or_len (has_name name) files)).1 [
      | inl there ↦ let inside = there.1 in absurd (grind (arith, nat_tests))
      | inr past ↦ find_at (has_name name) files ∙ past.1
    ]

option_or-None : (o : Option HeldFile) → option_or o None ≡ o
option_or-None None = refl
option_or-None (Some file) = refl

-- files that differ in the one of a name alone
holds_instead : (old new : List HeldFile) (file : HeldFile) (name : List ℕ) → file_named new name ≡ Some file
    → ((other : List ℕ) → other ≢ name → file_named new other ≡ file_named old other) → HoldsInstead old new name file.bytes file.room
holds_instead old new file name found same = record {
  held = ap (option_map (λ (f : HeldFile). f.bytes)) found;
  room_held = ap (λ (o : Option HeldFile). option_map_or (λ (f : HeldFile). f.room) o 0) found;
  others = λ other differs. ap (option_map (λ (f : HeldFile). f.bytes)) (same other differs);
  other_rooms = λ other differs. ap (λ (o : Option HeldFile). option_map_or (λ (f : HeldFile). f.room) o 0) (same other differs);
}

-- a file in the place of the one of its name
pub HoldsInstead-set : (files : List HeldFile) (file : HeldFile) (name : List ℕ) (i : ℕ) → file.name ≡ name → position (has_name name) files ≡ Some i
    → HoldsInstead files (set files i file) name file.bytes file.room
HoldsInstead-set files file name i named at =
    let there = position-Some (has_name name) files i file at in
    let was : (get_or files i file).name ≡ name = (bytes_eq-Decides (get_or files i file).name name).0 there.1 in
    holds_instead files (set files i file) file name
    (find-set (has_name name) files i file (sym (place_is files name i file at)) there.0 ((bytes_eq-Decides file.name name).1 named))
    (λ other differs. find_past (has_name other) files i file file (has_other_name (get_or files i file) name other was differs) (has_other_name file name other named differs))

-- a file after those of other names
pub HoldsInstead-push : (files : List HeldFile) (file : HeldFile) (name : List ℕ) → file.name ≡ name → position (has_name name) files ≡ None
    → HoldsInstead files (files ++ file ∷ []) name file.bytes file.room
HoldsInstead-push files file name named at =
    let has : has_name name file ≡ true = (bytes_eq-Decides file.name name).1 named in
    let none : find (has_name name) files ≡ None = file_named-none files name at in
    holds_instead files (files ++ file ∷ []) file name
    (find-append (has_name name) files (file ∷ []) ∙ rw (none, has))
    (λ other differs. let not_it : has_name other file ≡ false = has_other_name file name other named differs in find-append (has_name other) files (file ∷ [])
    ∙ rw not_it (option_or-None (file_named files other)))

-- what the file at the place holds is what the name holds
pub bytes_held-at : (files : List HeldFile) (name : List ℕ) (i : ℕ) (file : HeldFile) → position (has_name name) files ≡ Some i → file ≡ get_or files i file → bytes_held files name ≡ Some file.bytes
bytes_held-at files name i file at is = ap (option_map (λ (f : HeldFile). f.bytes)) (file_named-at files name i file at ∙ ap Some (sym is))

-- the room of the file at the place is the room of the name
pub room_of-at : (files : List HeldFile) (name : List ℕ) (i : ℕ) (file : HeldFile) → position (has_name name) files ≡ Some i → file ≡ get_or files i file → room_of files name ≡ file.room
room_of-at files name i file at is = ap (λ (o : Option HeldFile). option_map_or (λ (f : HeldFile). f.room) o 0) (file_named-at files name i file at ∙ ap Some (sym is))

-- what no file is named holds nothing
pub bytes_held-none : (files : List HeldFile) (name : List ℕ) → position (has_name name) files ≡ None → bytes_held files name ≡ None
bytes_held-none files name at = ap (option_map (λ (f : HeldFile). f.bytes)) (file_named-none files name at)

pub room_of-none : (files : List HeldFile) (name : List ℕ) → position (has_name name) files ≡ None → room_of files name ≡ 0
room_of-none files name at = ap (λ (o : Option HeldFile). option_map_or (λ (f : HeldFile). f.room) o 0) (file_named-none files name at)

-- other bytes in the file of the name
pub HoldsInstead-bytes : (files : List HeldFile) (name : List ℕ) (i : ℕ) (file : HeldFile) (bytes : List ℕ) → position (has_name name) files ≡ Some i → file
    ≡ get_or files i file → HoldsInstead files (set files i (record file { bytes = bytes })) name bytes (room_of files name)
HoldsInstead-bytes files name i file bytes at is =
    let there = position-Some (has_name name) files i file at in
    let named : file.name ≡ name = ap (λ (f : HeldFile). f.name) is ∙ (bytes_eq-Decides (get_or files i file).name name).0 there.1 in
    rw (room_of-at files name i file at is) (HoldsInstead-set files (record file { bytes = bytes }) name i named at)
