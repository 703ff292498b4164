use Rattle.std.proofs.Common.{ap, refl, w64}
use Rattle.std.proofs.lemmas.Int.{to_z-of_z}
use Rattle.std.proofs.lemmas.Result.{on_ok_weaker}
use Rattle.tilt_stream.specs.declared.cursor.Cursor.{Cursor}
use Rattle.tilt_turn.proofs.moving.Moving.push_at.Goals as goal

pub returns-clause-moved : goal.returns-clause-moved
returns-clause-moved g c =
    let seen = rw (to_z-of_z w64 c.args.tick c.ranges.tick) at c.look-seen.ensures in
    on_ok_weaker c.push_mapped.result
    (λ pushed. record {
      stands = ap (λ (x : Cursor). x.tick) seen.moved;
      knows = rw seen.moved (record { place = refl; next = seen.next; low = seen.low; high = seen.high });
      reducer = c.push_mapped.ensures.reducer;
    }) c.push_mapped.ensures.cells
