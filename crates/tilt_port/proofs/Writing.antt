-- Writes to a port, one after another.
use Rattle.std.proofs.Common.{IsErr, ◌≡◌, ℕ, List, [], ◌++◌, Result, Ok, Err, refl, sym, ◌∙◌, append_assoc, arith}
use Rattle.std.proofs.lemmas.List.{append-nil}
use Rattle.tilt_outside.proofs.Puts.{front_first, front_behind, rose_from}
use Rattle.tilt_outside.specs.Faults.{HasCause}
use Rattle.tilt_outside.specs.declared.failed.Failed.{Failed}
use Rattle.tilt_port.specs.Transcript.{Keeps, ReadsNothing, Transcript, Writes}

-- where nothing happened, nothing was read
pub reads-nothing-none : (t : Transcript) → ReadsNothing t t
reads-nothing-none t = record { read = refl; asked = refl; ended = refl }

-- nothing was read, and then again nothing
pub reads-nothing-then : (old mid new : Transcript) → ReadsNothing old mid → ReadsNothing mid new → ReadsNothing old new
reads-nothing-then old mid new first then = record {
  read = then.read ∙ first.read;
  asked = then.asked ∙ first.asked;
  ended = then.ended ∙ first.ended;
}

-- where nothing happened, nothing was read or written
pub keeps-none : (t : Transcript) → Keeps t t
keeps-none t = record { reads_nothing = reads-nothing-none t; written = refl }

-- nothing was read or written, and then again nothing
pub keeps-then : (old mid new : Transcript) → Keeps old mid → Keeps mid new → Keeps old new
keeps-then old mid new first then = record {
  reads_nothing = reads-nothing-then old mid new first.reads_nothing then.reads_nothing;
  written = then.written ∙ first.written;
}

module _ (tells : Type 0) where
  -- nothing was written
  pub writes-none : (t : Transcript) → Writes tells t t [] (Ok tt)
  writes-none t = record {
    whole = λ _. sym (append-nil t.written);
    front = λ _. tt;
    reads_nothing = λ _. reads-nothing-none t;
    cause = record { kept = omega arith; rose = tt };
    reads = refl;
  }

  -- a piece after bytes that were written whole
  pub writes-then : (old mid new : Transcript) (done piece : List ℕ) (result : Result (Unit {0}) Failed) → Writes tells old mid done (Ok tt)
      → Writes tells mid new piece result → Writes tells old new (done ++ piece) result
  writes-then old mid new done piece (Ok u) first then = record {
    whole = λ told. then.whole told ∙ rw (first.whole told) (append_assoc old.written done piece);
    front = λ _. tt;
    reads_nothing = λ told. reads-nothing-then old mid new (first.reads_nothing told) (then.reads_nothing told);
    cause = record { kept = omega (arith, first.cause.kept, then.cause.kept); rose = tt };
    reads = then.reads ∙ first.reads;
  }
  writes-then old mid new done piece (Err e) first then = record {
    whole = λ _. tt;
    front = λ told. front_behind _ _ _ done piece (first.whole told) (then.front told);
    reads_nothing = λ told. reads-nothing-then old mid new (first.reads_nothing told) (then.reads_nothing told);
    cause = record { kept = omega (arith, first.cause.kept, then.cause.kept); rose = rose_from _ _ _ first.cause.kept then.cause.rose };
    reads = then.reads ∙ first.reads;
  }

  -- more bytes after a piece whose write failed
  pub writes-short : (old new : Transcript) (piece more : List ℕ) (e : Failed) (told : Result (Unit {0}) Failed) → IsErr told
      → Writes tells old new piece (Err e) → Writes tells old new (piece ++ more) told
  writes-short old new piece more e (Ok u) failed cut = absurd (cc failed)
  writes-short old new piece more e (Err f) failed cut = record {
    whole = λ _. tt;
    front = λ told. front_first _ _ piece more (cut.front told);
    reads_nothing = cut.reads_nothing;
    cause = record { kept = cut.cause.kept; rose = cut.cause.rose };
    reads = cut.reads;
  }

  -- a flush, or anything else that leaves the transcript, writes no bytes
  pub writes-kept : (old new : Transcript) (result : Result (Unit {0}) Failed) → (tells → Keeps old new)
      → HasCause old.write_faults new.write_faults result → new.read_faults ≡ old.read_faults → Writes tells old new [] result
  writes-kept old new (Ok u) keeps cause reads = record {
    whole = λ told. (keeps told).written ∙ sym (append-nil old.written);
    front = λ _. tt;
    reads_nothing = λ told. (keeps told).reads_nothing;
    cause = cause;
    reads = reads;
  }
  writes-kept old new (Err e) keeps cause reads = record {
    whole = λ _. tt;
    front = λ told. record { front = []; rest = []; parts = refl; appended = (keeps told).written ∙ sym (append-nil old.written) };
    reads_nothing = λ told. (keeps told).reads_nothing;
    cause = cause;
    reads = reads;
  }

  -- nothing more after bytes that were written whole
  pub writes-last : (old mid new : Transcript) (done : List ℕ) (result : Result (Unit {0}) Failed) → Writes tells old mid done (Ok tt)
      → Writes tells mid new [] result → Writes tells old new done result
  writes-last old mid new done result first then = rw (append-nil done) at (writes-then old mid new done [] result first then)
