-- Whose the lines of an output are.
use Rattle.std.proofs.Common.{◌≡◌, ℕ, false, List, [], ◌∷◌, ◌++◌, map, refl, ap, ◌∙◌}
use Rattle.std.specs.Str.{bytes_eq}
use Rattle.tilt_base.proofs.Comparisons.{same_bytes}
use Rattle.tilt_keyed_line.proofs.Addresses.{key-lacks, key-off}
use Rattle.tilt_keyed_line.proofs.Lines.{lines-alone, lines-text, with-key-are}
use Rattle.tilt_keyed_line.specs.Address.{IsKey}
use Rattle.tilt_keyed_line.specs.Feeds.{own_lines}
use Rattle.tilt_keyed_line.specs.Outputs.{key_line, lines_in, with_key}

own_all : (key : List ℕ) (lines : List (List ℕ)) → IsKey key → own_lines key (map (key_line key) lines) ≡ lines
own_all key [] is = refl
own_all key (line ∷ lines) is = rw (key-off key line is, same_bytes key, own_all key lines is) refl

own_none : (key other : List ℕ) (lines : List (List ℕ)) → IsKey key → bytes_eq key other ≡ false → own_lines other (map (key_line key) lines) ≡ []
own_none key other [] is differs = refl
own_none key other (line ∷ lines) is differs = rw (key-off key line is, differs) (own_none key other lines is differs)

pub with-key-lines : (key output : List ℕ) → IsKey key → lines_in (with_key key output) ≡ map (key_line key) (lines_in output)
with-key-lines key output is = lines-alone (map (key_line key) (lines_in output)) (with-key-are key output (key-lacks 10 refl key is))

pub own-own : (key output : List ℕ) → IsKey key → own_lines key (lines_in (with_key key output)) ≡ lines_in output
own-own key output is = ap (own_lines key) (with-key-lines key output is) ∙ own_all key (lines_in output) is

pub own-others : (key other output : List ℕ) → IsKey key → bytes_eq key other ≡ false → own_lines other (lines_in (with_key key output)) ≡ []
own-others key other output is differs =
    ap (own_lines other) (with-key-lines key output is) ∙ own_none key other (lines_in output) is differs

pub with-key-joined : (key output more : List ℕ) → IsKey key → lines_in (with_key key output ++ more) ≡ lines_in (with_key key output) ++ lines_in more
with-key-joined key output more is =
    rw (with-key-lines key output is) (lines-text (map (key_line key) (lines_in output)) more (with-key-are key output (key-lacks 10 refl key is)))
