-- The version that is read is the one that is spelled.
use Rattle.std.proofs.Common.{◌≡◌, ℕ, Bool, true, false, if◌then◌else◌, List, [], ◌∷◌, ◌++◌, Option, Some, None, ℤ, refl, ap, ◌∙◌, subst, inl, inr}
use Rattle.std.specs.Prelude.{codes, ⊤}
use Rattle.std.specs.List.{AllByRecursion}
use Rattle.std.specs.Str.{bytes_eq}
use Rattle.std.proofs.lemmas.Option.{none-some, same_Some, some_pair_parts}
use Rattle.tilt_base.proofs.Comparisons.{bytes_same}
use Rattle.tilt_text.specs.Cut.{until_at}
use Rattle.tilt_text.specs.Step.{◌>>=◌}
use Rattle.tilt_text.proofs.Step.{bind_some}
use Rattle.tilt_text.proofs.Words.{front-until}
use Rattle.tilt_checkpoint.specs.Checkpoint.{CheckpointParts, KeptParts}
use Rattle.tilt_checkpoint.specs.Reading.{behind, version_at, version_of}
use Rattle.tilt_checkpoint.specs.Spelling.{Spells, spelling_in, title}
use Rattle.tilt_checkpoint.specs.declared.version.Version.{Version}
use Rattle.tilt_checkpoint.specs.declared.version.Version.TheVariants.{First, Second}
use Rattle.tilt_checkpoint.proofs.Pieces.{text-behind}

-- in the first version an input has the least cut
abbrev pub Suits : Version → ℤ → ℤ → Type 0
Suits First least cut = cut ≡ least
Suits Second least cut = ⊤

-- and each input
abbrev pub AllSuit : Version → ℤ → List KeptParts → Type 0
AllSuit version least series = AllByRecursion (λ kept. Suits version least kept.cut) series

all_second : (least : ℤ) (series : List KeptParts) → AllSuit Second least series
all_second least [] = tt
all_second least (kept ∷ series) = (tt, all_second least series)

-- the version in which bytes spell a checkpoint
pub record InVersion (bytes : List ℕ) (c : CheckpointParts) : Type 0 where
  pub version : Version
  pub suit : AllSuit version c.cut c.series
  pub is : bytes ≡ spelling_in version c

pub in_version : (bytes : List ℕ) (c : CheckpointParts) → Spells bytes c → InVersion bytes c
in_version bytes c (inl second) = record { version = Second; suit = all_second c.cut c.series; is = second }
in_version bytes c (inr first) = record { version = First; suit = first.0; is = first.1 }

pub spells_in : (version : Version) (bytes : List ℕ) (c : CheckpointParts) → AllSuit version c.cut c.series → bytes ≡ spelling_in version c
    → Spells bytes c
spells_in First bytes c suit is = inr (suit, is)
spells_in Second bytes c suit is = inl is

-- the word for a version
abbrev word_of : Version → List ℕ
word_of First = codes "1"
word_of Second = codes "2"

title_shape : (version : Version) (rest : List ℕ) → codes "tilt checkpoint " ++ (word_of version ++ 10 ∷ rest) ≡ title version ++ rest
title_shape First rest = refl
title_shape Second rest = refl

pub version-again : (version : Version) (rest : List ℕ) → version_at (title version ++ rest) ≡ Some (version, rest)
version-again First rest = refl
version-again Second rest = refl

word_is : (word : List ℕ) (version : Version) (one two : Bool) → bytes_eq word (codes "1") ≡ one → bytes_eq word (codes "2") ≡ two
    → (if one then Some First else if two then Some Second else None) ≡ Some version → word ≡ word_of version
word_is word version true two is other e =
    subst (λ (v : Version). word ≡ word_of v) (same_Some First version e) (bytes_same word (codes "1") is)
word_is word version false true is other e =
    subst (λ (v : Version). word ≡ word_of v) (same_Some Second version e) (bytes_same word (codes "2") other)
word_is word version false false is other e = absurd (none-some version e)

abbrev version2 : List ℕ × List ℕ → Option (Version × List ℕ)
version2 word = version_of word.0 >>= λ version. Some (version, word.1)

pub version-was : (bytes : List ℕ) (version : Version) (rest : List ℕ) → version_at bytes ≡ Some (version, rest)
    → bytes ≡ title version ++ rest
version-was bytes version rest e =
    let t = bind_some (behind (codes "tilt checkpoint ") bytes) (λ left. until_at 10 left >>= version2) (version, rest) e in
    let w = bind_some (until_at 10 t.0) version2 (version, rest) t.2 in
    let v = bind_some (version_of w.0.0) (λ version. Some (version, w.0.1)) (version, rest) w.2 in
    let p = some_pair_parts v.0 version w.0.1 rest v.2 in
    let word = word_is w.0.0 v.0 (bytes_eq w.0.0 (codes "1")) (bytes_eq w.0.0 (codes "2")) refl refl v.1 in
    text-behind (codes "tilt checkpoint ") bytes t.0 t.1
    ∙ ap (λ (t : List ℕ). codes "tilt checkpoint " ++ t) (front-until 10 t.0 w.0.0 w.0.1 w.1 ∙ (λ i. word i ++ 10 ∷ w.0.1))
    ∙ title_shape v.0 w.0.1
    ∙ (λ i. title (p.0 i) ++ p.1 i)
