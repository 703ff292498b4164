use Rattle.std.proofs.Common.{◌≡◌, ℕ, None, drop, get_or, length}
use Rattle.tilt_pipe.specs.Reads.{body_reads, earlier, first_tick}
use Rattle.tilt_engine.proofs.wanted.add_body.Given as goal

abbrev pub invariant-loop-instr : goal.invariant-loop-instr
invariant-loop-instr l = record {
  count : length l.firsts ≡ length l.initial.firsts;
  firsts : (buffer : ℕ) → earlier (get_or l.firsts buffer None) (first_tick buffer l.point (body_reads (drop l.instr-index l.body)))
      ≡ earlier (get_or l.initial.firsts buffer None) (first_tick buffer l.point (body_reads l.body));
}
