-- Writes, one after another.
use Rattle.std.proofs.Common.{IsErr, ◌≡◌, ℕ, ◌+◌, ◌≤◌, List, [], ◌++◌, length, Result, Ok, Err, sym, inl, inr, ◌∙◌, append_assoc, length-append, arith, add_assoc, zero-add}
use Rattle.std.proofs.lemmas.List.{append-nil}
use Rattle.tilt_outside.specs.Faults.{Rose}
use Rattle.tilt_outside.specs.Written.{AppendsFront, Puts}
use Rattle.tilt_outside.specs.declared.failed.Failed.{Failed}

-- a prefix of one piece is one of both
pub front_first : (old new piece more : List ℕ) → AppendsFront old new piece → AppendsFront old new (piece ++ more)
front_first old new piece more cut = record {
  front = cut.front;
  rest = cut.rest ++ more;
  parts = rw cut.parts (append_assoc cut.front cut.rest more);
  appended = cut.appended;
}

-- a prefix of a piece after one that was written whole
pub front_behind : (old mid new done piece : List ℕ) → mid ≡ old ++ done → AppendsFront mid new piece → AppendsFront old new (done ++ piece)
front_behind old mid new done piece whole cut = record {
  front = done ++ cut.front;
  rest = cut.rest;
  parts = rw cut.parts (sym (append_assoc done cut.front cut.rest));
  appended = cut.appended ∙ rw whole (append_assoc old done cut.front);
}

-- a count that rose later has risen
pub rose_from : (old mid new : ℕ) → old ≤ mid → Rose mid new → Rose old new
rose_from old mid new kept (inl more) = inl (omega arith)
rose_from old mid new kept (inr full) = inr full

module _ {K : Type 0} (tells : Type 0) (written : K → List ℕ) (faults : K → ℕ) (takes : K → ℕ → Type 0) where
  -- nothing was written
  pub puts-none : (sink : K) → Puts tells written faults takes sink sink [] (Ok tt)
  puts-none sink = record {
    whole = λ _. sym (append-nil (written sink));
    front = λ _. tt;
    cause = record { kept = omega arith; rose = tt };
    room = λ n h. rw (zero-add n) at h;
  }

  -- a piece after bytes that were written whole
  pub puts-then : (old mid new : K) (done piece : List ℕ) (result : Result (Unit {0}) Failed) → Puts tells written faults takes old mid done (Ok tt)
      → Puts tells written faults takes mid new piece result → Puts tells written faults takes old new (done ++ piece) result
  puts-then old mid new done piece (Ok u) first then = record {
    whole = λ told. then.whole told ∙ rw (first.whole told) (append_assoc (written old) done piece);
    front = λ _. tt;
    cause = record { kept = omega (arith, first.cause.kept, then.cause.kept); rose = tt };
    room = λ n h. then.room n (first.room (length piece + n) (rw (length-append done piece, add_assoc (length done) (length piece) n) at h));
  }
  puts-then old mid new done piece (Err e) first then = record {
    whole = λ _. tt;
    front = λ told. front_behind _ _ _ done piece (first.whole told) (then.front told);
    cause = record { kept = omega (arith, first.cause.kept, then.cause.kept); rose = rose_from _ _ _ first.cause.kept then.cause.rose };
    room = λ n h. then.room n (first.room (length piece + n) (rw (length-append done piece, add_assoc (length done) (length piece) n) at h));
  }

  -- more bytes after a piece whose put failed
  pub puts-short : ((sink : K) (m n : ℕ) → m ≤ n → takes sink n → takes sink m)
      → (old new : K) (piece more : List ℕ) (e : Failed) (told : Result (Unit {0}) Failed) → IsErr told → Puts tells written faults takes old new piece (Err e)
      → Puts tells written faults takes old new (piece ++ more) told
  puts-short fewer old new piece more e (Ok u) failed cut = absurd (cc failed)
  puts-short fewer old new piece more e (Err f) failed cut = record {
    whole = λ _. tt;
    front = λ told. front_first _ _ piece more (cut.front told);
    cause = record { kept = cut.cause.kept; rose = cut.cause.rose };
    room = λ n h. cut.room n (fewer old (length piece + n) (length (piece ++ more) + n) (omega (arith, length-append piece more)) h);
  }
