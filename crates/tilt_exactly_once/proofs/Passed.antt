-- A feed that is passed over piece by piece.
use Rattle.std.proofs.Common.{◌≡◌, ◌≤◌, ◌+◌, ◌-◌, ℕ, List, [], ◌++◌, length, refl, sym, ◌∙◌, ap, arith, append_assoc, append-nil, length-append}
use Rattle.std.specs.Prelude.{drop}
use Rattle.std.proofs.lemmas.List.{drop-drop, drop_at}
use Rattle.tilt_exactly_once.proofs.Lasts.{last-more}
use Rattle.tilt_exactly_once.specs.Last.{last_of}
use Rattle.tilt_exactly_once.specs.Passing.{HasPassed, IsEndedShort, count_passed}
use Rattle.tilt_outside.specs.Counts.{last_count}
use Rattle.tilt_port.specs.Transcript.{Transcript}

-- nothing was passed over yet
pub passed-none : (now : Transcript) (last : List ℕ) → last ≡ [] → HasPassed 0 (λ passed. last ≡ last_of passed) now now
passed-none now last none = record { passed = []; read = sym (append-nil now.read); all = refl; so = none; unwritten = refl }

-- more was
pub passed-more : (n count left : ℕ) (was last : List ℕ) (old mid new : Transcript) → n ≤ left → left ≤ count
    → HasPassed (count - left) (λ passed. was ≡ last_of passed) old mid → HasPassed n (λ passed. last ≡ last_of (was ++ passed)) mid new
    → HasPassed (count - (left - n)) (λ passed. last ≡ last_of passed) old new
passed-more n count left was last old mid new few low one more = record {
  passed = one.passed ++ more.passed;
  read = more.read ∙ (ap (λ (l : List ℕ). l ++ more.passed) one.read ∙ append_assoc old.read one.passed more.passed);
  all = length-append one.passed more.passed ∙ omega (arith, few, low, one.all, more.all);
  so = more.so ∙ ap (λ (l : List ℕ). last_of (l ++ more.passed)) one.so ∙ last-more one.passed more.passed;
  unwritten = more.unwritten ∙ one.unwritten;
}

-- the feed ended before the rest
pub short-more : (count left : ℕ) (Of : List ℕ → Type 0) (old mid new : Transcript) → left ≤ count → HasPassed (count - left) Of old mid → IsEndedShort left mid new → IsEndedShort count old new
short-more count left Of old mid new low one more = record {
  passed = one.passed ++ more.passed;
  read = more.read ∙ (ap (λ (l : List ℕ). l ++ more.passed) one.read ∙ append_assoc old.read one.passed more.passed);
  short = let both = length-append one.passed more.passed in omega (arith, both, low, one.all, more.short);
  ended = more.ended;
  unwritten = more.unwritten ∙ one.unwritten;
}

-- what is left of a feed after the bytes that are passed over
pub rest-left : (feed bytes rest passed more : List ℕ) (from : ℕ) → feed ≡ bytes ++ rest → length bytes ≤ last_count → from ≤ length bytes
    → drop from feed ≡ passed ++ more → length passed ≡ count_passed from bytes → more ≡ rest
rest-left feed bytes rest passed more from whole counted low left count =
    let k = length passed in
    let at : from + k ≡ length bytes = omega (arith, counted, low, count) in
    sym (drop_at passed more k refl) ∙ ap (drop k) (sym left) ∙ drop-drop k from feed ∙ ap (λ (n : ℕ). drop n feed) at
    ∙ ap (drop (length bytes)) whole ∙ drop_at bytes rest (length bytes) refl
