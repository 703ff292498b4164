-- What a run adds to its port, one after another.
use Rattle.std.proofs.Common.{◌≡◌, ℕ, List, [], ◌++◌, Result, Ok, Err, refl, sym, ◌∙◌, append_assoc, arith}
use Rattle.std.proofs.lemmas.List.{append-nil}
use Rattle.tilt_live_run.specs.Adds.{Adds}
use Rattle.tilt_live_run.specs.declared.stop.Stop.{Stop}
use Rattle.tilt_live_run.specs.declared.stop.Stop.TheVariants.{BadLine, WriteFault}
use Rattle.tilt_outside.proofs.Puts.{front_first, front_behind, rose_from}
use Rattle.tilt_outside.specs.declared.failed.Failed.{Failed}
use Rattle.tilt_port.proofs.Writing.{reads-nothing-none, reads-nothing-then}
use Rattle.tilt_port.specs.Transcript.{Transcript, Writes}

module _ (tells : Type 0) where
  -- nothing was written
  pub adds-none : {T : Type 0} (t : Transcript) (x : T) → Adds tells t t [] (Ok x)
  adds-none t x = record {
    whole = λ _. sym (append-nil t.written);
    stopped = λ _. tt;
    front = λ _. tt;
    reads_nothing = λ _. reads-nothing-none t;
    kept = omega arith;
    rose = tt;
    reads = refl;
  }

  -- nothing was written, and the run stops
  pub adds-stopped : {T : Type 0} (t : Transcript) (bytes : List ℕ) (why : Stop) (result : Result T Stop) → result ≡ Err why → (why ≡ WriteFault → ⊥)
      → (why ≡ BadLine → bytes ≡ []) → Adds tells t t bytes result
  adds-stopped t bytes why result is other bad = rw is record {
    whole = λ _. tt;
    stopped = λ _ e. rw (bad e) (sym (append-nil t.written));
    front = λ _. record { front = []; rest = bytes; parts = refl; appended = sym (append-nil t.written) };
    reads_nothing = λ _. reads-nothing-none t;
    kept = omega arith;
    rose = λ e. absurd (other e);
    reads = refl;
  }

  -- bytes were written whole
  pub adds-write : {T : Type 0} (old new : Transcript) (bytes : List ℕ) (x : T) → Writes tells old new bytes (Ok tt) → Adds tells old new bytes (Ok x)
  adds-write old new bytes x write = record {
    whole = write.whole;
    stopped = λ _. tt;
    front = λ _. tt;
    reads_nothing = write.reads_nothing;
    kept = write.cause.kept;
    rose = tt;
    reads = write.reads;
  }

  -- a write of the first bytes failed
  pub adds-failed : {T : Type 0} (old new : Transcript) (bytes more : List ℕ) (e : Failed) (result : Result T Stop) → result ≡ Err WriteFault
      → Writes tells old new bytes (Err e) → Adds tells old new (bytes ++ more) result
  adds-failed old new bytes more e result is write = rw is record {
    whole = λ _. tt;
    stopped = λ _ f. absurd (cc f);
    front = λ told. front_first _ _ bytes more (write.front told);
    reads_nothing = write.reads_nothing;
    kept = write.cause.kept;
    rose = λ _. write.cause.rose;
    reads = write.reads;
  }

  -- more bytes after those that were written whole
  pub adds-then : {T U : Type 0} (old mid new : Transcript) (done piece : List ℕ) (x : U) (result : Result T Stop) → Adds tells old mid done (Ok x)
      → Adds tells mid new piece result → Adds tells old new (done ++ piece) result
  adds-then old mid new done piece x (Ok y) first then = record {
    whole = λ told. then.whole told ∙ rw (first.whole told) (append_assoc old.written done piece);
    stopped = λ _. tt;
    front = λ _. tt;
    reads_nothing = λ told. reads-nothing-then old mid new (first.reads_nothing told) (then.reads_nothing told);
    kept = omega (arith, first.kept, then.kept);
    rose = tt;
    reads = then.reads ∙ first.reads;
  }
  adds-then old mid new done piece x (Err e) first then = record {
    whole = λ _. tt;
    stopped = λ told bad. then.stopped told bad ∙ rw (first.whole told) (append_assoc old.written done piece);
    front = λ told. front_behind _ _ _ done piece (first.whole told) (then.front told);
    reads_nothing = λ told. reads-nothing-then old mid new (first.reads_nothing told) (then.reads_nothing told);
    kept = omega (arith, first.kept, then.kept);
    rose = λ fault. rose_from _ _ _ first.kept (then.rose fault);
    reads = then.reads ∙ first.reads;
  }

  -- the run stopped before more bytes, not by a bad line
  pub adds-short : {T U : Type 0} (old new : Transcript) (bytes more : List ℕ) (why : Stop) (result : Result T Stop) → result ≡ Err why → (why ≡ BadLine → ⊥)
      → Adds {T = U} tells old new bytes (Err why) → Adds tells old new (bytes ++ more) result
  adds-short old new bytes more why result is other cut = rw is record {
    whole = λ _. tt;
    stopped = λ _ bad. absurd (other bad);
    front = λ told. front_first _ _ bytes more (cut.front told);
    reads_nothing = cut.reads_nothing;
    kept = cut.kept;
    rose = cut.rose;
    reads = cut.reads;
  }

  -- a write of all bytes failed
  pub adds-fails : {T : Type 0} (old new : Transcript) (bytes : List ℕ) (e : Failed) (result : Result T Stop) → result ≡ Err WriteFault
      → Writes tells old new bytes (Err e) → Adds tells old new bytes result
  adds-fails old new bytes e result is write = rw (append-nil bytes) at (adds-failed old new bytes [] e result is write)

  -- the same error of another call
  pub adds-again : {T U : Type 0} (old new : Transcript) (bytes : List ℕ) (why : Stop) (result : Result U Stop) → result ≡ Err why
      → Adds {T = T} tells old new bytes (Err why) → Adds tells old new bytes result
  adds-again old new bytes why result is cut = rw is record {
    whole = λ _. tt;
    stopped = cut.stopped;
    front = cut.front;
    reads_nothing = cut.reads_nothing;
    kept = cut.kept;
    rose = cut.rose;
    reads = cut.reads;
  }

  -- another value
  pub adds-value : {T U : Type 0} (old new : Transcript) (bytes : List ℕ) (x : T) (y : U) → Adds tells old new bytes (Ok x) → Adds tells old new bytes (Ok y)
  adds-value old new bytes x y whole = record {
    whole = whole.whole;
    stopped = λ _. tt;
    front = λ _. tt;
    reads_nothing = whole.reads_nothing;
    kept = whole.kept;
    rose = tt;
    reads = whole.reads;
  }

  -- all bytes were written, and then the run stops, not by a bad line or a write
  pub adds-last : {T U : Type 0} (old new : Transcript) (bytes : List ℕ) (why : Stop) (x : U) (result : Result T Stop) → result ≡ Err why → (why ≡ WriteFault → ⊥)
      → (why ≡ BadLine → ⊥) → Adds tells old new bytes (Ok x) → Adds tells old new bytes result
  adds-last old new bytes why x result is other bad all = rw is record {
    whole = λ _. tt;
    stopped = λ _ e. absurd (bad e);
    front = λ told. record { front = bytes; rest = []; parts = sym (append-nil bytes); appended = all.whole told };
    reads_nothing = all.reads_nothing;
    kept = all.kept;
    rose = λ e. absurd (other e);
    reads = all.reads;
  }
