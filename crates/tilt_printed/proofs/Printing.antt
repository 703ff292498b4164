-- Writes, one after another, where memory may run out between them.
use Rattle.std.proofs.Common.{IsErr, ◌≡◌, ◌≤◌, ◌+◌, ℕ, List, [], ◌++◌, length, Result, Ok, Err, sym, subst, refl, ◌∙◌, append_assoc, length-append, arith, add_assoc, zero-add}
use Rattle.std.proofs.lemmas.List.{append-nil}
use Rattle.tilt_outside.proofs.Puts.{rose_from, front_first, front_behind}
use Rattle.tilt_printed.specs.Prints.{Prints}
use Rattle.tilt_printed.specs.declared.unput.Unput.{Unput}
use Rattle.tilt_printed.specs.declared.unput.Unput.TheVariants as variant
use Rattle.tilt_outside.specs.Faults.{Rose}
use Rattle.tilt_outside.specs.Written.{AppendsFront, Puts}
use Rattle.tilt_outside.specs.declared.failed.Failed.{Failed}

-- nothing of a piece
front_none : (old piece : List ℕ) → AppendsFront old old piece
front_none old piece = record { front = []; rest = piece; parts = refl; appended = sym (append-nil old) }

module _ {K : Type 0} (tells : Type 0) (written : K → List ℕ) (faults : K → ℕ) (takes : K → ℕ → Type 0) where
  -- nothing was written so far
  pub prints-none : {T : Type 0} (sink : K) (x : T) → Prints tells written faults takes sink sink [] (Ok x)
  prints-none sink x = record {
    whole = λ _. sym (append-nil (written sink));
    front = λ _. tt;
    kept = omega arith;
    rose = tt;
    room = λ n h. rw (zero-add n) at h;
  }

  -- bytes that were written whole
  pub prints-put : {T : Type 0} (old new : K) (bytes : List ℕ) (x : T) → Puts tells written faults takes old new bytes (Ok tt)
      → Prints tells written faults takes old new bytes (Ok x)
  prints-put old new bytes x put = record { whole = put.whole; front = put.front; kept = put.cause.kept; rose = tt; room = put.room }

  -- a write that failed, and more bytes after it
  pub prints-short : {T : Type 0} (old new : K) (piece more : List ℕ) (e : Failed) (told : Result T Unput) → IsErr told
      → Puts tells written faults takes old new piece (Err e) → Prints tells written faults takes old new (piece ++ more) told
  prints-short old new piece more e (Ok x) failed cut = absurd (cc failed)
  prints-short old new piece more e (Err f) failed cut = record {
    whole = λ _. tt;
    front = λ told. front_first _ _ piece more (cut.front told);
    kept = cut.cause.kept;
    rose = λ _. cut.cause.rose;
    room = tt;
  }

  -- a write that failed
  pub prints-failed : {T : Type 0} (old new : K) (piece : List ℕ) (e : Failed) (told : Result T Unput) → IsErr told
      → Puts tells written faults takes old new piece (Err e) → Prints tells written faults takes old new piece told
  prints-failed old new piece e (Ok x) failed cut = absurd (cc failed)
  prints-failed old new piece e (Err f) failed cut =
      record { whole = λ _. tt; front = cut.front; kept = cut.cause.kept; rose = λ _. cut.cause.rose; room = tt }

  -- a write that failed or memory that ran out in a piece, and more bytes after it
  pub prints-cut : {S T : Type 0} (old new : K) (piece more : List ℕ) (e : Unput) (told : Result T Unput) → told ≡ Err e
      → Prints {T = S} tells written faults takes old new piece (Err e) → Prints tells written faults takes old new (piece ++ more) told
  prints-cut old new piece more e told same cut = rw same (record {
    whole = λ _. tt;
    front = λ t. front_first _ _ piece more (cut.front t);
    kept = cut.kept;
    rose = cut.rose;
    room = tt;
  })

  -- the same, for another result
  pub prints-err : {S T : Type 0} (old new : K) (piece : List ℕ) (e : Unput) (told : Result T Unput) → told ≡ Err e
      → Prints {T = S} tells written faults takes old new piece (Err e) → Prints tells written faults takes old new piece told
  prints-err old new piece e told same cut =
      rw same (record { whole = λ _. tt; front = cut.front; kept = cut.kept; rose = cut.rose; room = tt })

  -- no memory before a piece
  pub prints-stopped : {T : Type 0} (sink : K) (piece : List ℕ) (e : Unput) (told : Result T Unput) → told ≡ Err e → e ≡ variant.OutOfMemory
      → Prints tells written faults takes sink sink piece told
  prints-stopped sink piece e told same memory = rw (same, memory) (record {
    whole = λ _. tt;
    front = λ _. front_none (written sink) piece;
    kept = omega arith;
    rose = λ no. absurd (cc no);
    room = tt;
  })

  -- a piece after bytes that were written whole
  pub prints-then : {S T : Type 0} (old mid new : K) (done piece : List ℕ) (x : S) (result : Result T Unput)
      → Prints tells written faults takes old mid done (Ok x) → Prints tells written faults takes mid new piece result
      → Prints tells written faults takes old new (done ++ piece) result
  prints-then old mid new done piece x (Ok y) first then = record {
    whole = λ told. then.whole told ∙ rw (first.whole told) (append_assoc (written old) done piece);
    front = λ _. tt;
    kept = omega (arith, first.kept, then.kept);
    rose = tt;
    room = λ n h. then.room n (first.room (length piece + n) (rw (length-append done piece, add_assoc (length done) (length piece) n) at h));
  }
  prints-then old mid new done piece x (Err e) first then = record {
    whole = λ _. tt;
    front = λ told. front_behind _ _ _ done piece (first.whole told) (then.front told);
    kept = omega (arith, first.kept, then.kept);
    rose = λ failed. rose_from _ _ _ first.kept (then.rose failed);
    room = tt;
  }

  -- the same bytes, which are known to have been written so far, with another value returned
  pub prints-as : {S T : Type 0} (old new : K) (bytes : List ℕ) (x : S) (y : T) → Prints tells written faults takes old new bytes (Ok x)
      → Prints tells written faults takes old new bytes (Ok y)
  prints-as old new bytes x y all = record { whole = all.whole; front = all.front; kept = all.kept; rose = tt; room = all.room }

  -- bytes that were written whole, of which not all was handed on
  pub prints-unflushed : {S T : Type 0} (old mid new : K) (bytes : List ℕ) (x : S) (e : Unput) (told : Result T Unput) → told ≡ Err e
      → Prints tells written faults takes old mid bytes (Ok x) → written new ≡ written mid → faults mid ≤ faults new → Rose (faults mid) (faults new)
      → Prints tells written faults takes old new bytes told
  prints-unflushed old mid new bytes x e told same all still kept rose = rw same (record {
    whole = λ _. tt;
    front = λ t. record { front = bytes; rest = []; parts = sym (append-nil bytes); appended = still ∙ all.whole t };
    kept = omega (arith, all.kept, kept);
    rose = λ _. rose_from _ _ _ all.kept rose;
    room = tt;
  })

  -- a prefix of them was written, if an error was returned
  pub prints-front : {T : Type 0} (old new : K) (bytes : List ℕ) (told : Result T Unput) (e : Unput) → told ≡ Err e
      → Prints tells written faults takes old new bytes told → tells → AppendsFront (written old) (written new) bytes
  prints-front old new bytes told e same all = (subst (Prints tells written faults takes old new bytes) same all).front
