use Rattle.std.proofs.Common.{ℕ, List, Option, Some, String, Global, refl, ap, sym, ◌∙◌, option_map, string_bytes}
use Rattle.std.proofs.lemmas.Option.{none-some}
use Rattle.tilt_live_app.proofs.Watching.{counts-first}
use Rattle.tilt_live_app.proofs.Ending.{kept-first, rest-first, run-halted, run-kept, run-unkept, takes-first}
use Rattle.tilt_live_cli.specs.Arguments.{command_value}
use Rattle.tilt_live_app.proofs.command.run.Goals as goal

abbrev file_bytes : Option (String Global) → Option (List ℕ)
file_bytes file = option_map (λ text. string_bytes text) file

pub returns-in-Err-clause-is : goal.returns-in-Err-clause-is
returns-in-Err-clause-is g c = (c.in-Err.ensures.fault, refl, refl)

pub serve-requires-clause-first : goal.serve-requires-clause-first
serve-requires-clause-first g c =
    let job = c.in-Ok.job in
    counts-first g.S.Shelf.tells (g.S.Shelf.files c.args.shelf.now) job.query (command_value c.args.command.now) job.accepted.core job.options job.counting job.from
    c.in-Ok.ensures.counts c.in-Ok.ensures.goes_on

pub returns-in-Err-serve-clause-is : goal.returns-in-Err-serve-clause-is
returns-in-Err-serve-clause-is g c =
    let job = c.in-Ok.job in
    run-halted _ _ _ _ _ _ _ (command_value c.args.command.now) _ _
    (record {
      query = job.query;
      core = job.accepted.core;
      decimals = job.decimals;
      taken = c.in-Ok.ensures.taken;
      named = c.in-Ok.ensures.named;
      table = job.table;
      zone = c.in-Ok.ensures.zone;
      options = job.options;
      asked = c.in-Ok.ensures.asked;
      counting = job.counting;
      counts = c.in-Ok.ensures.counts;
      from = job.from;
      goes_on = c.in-Ok.ensures.goes_on;
    })
    c.report_uncounted.new.err c.report_uncounted.ensures.note c.in-Err-serve.halt c.in-Err-serve.ensures.served c.in-Err-serve.ensures.handed_on

pub returns-in-None-clause-is : goal.returns-in-None-clause-is
returns-in-None-clause-is g c =
    let job = c.in-Ok.job in
    run-unkept _ _ _ _ _ _ _ (command_value c.args.command.now) _ _
    (record {
      query = job.query;
      core = job.accepted.core;
      decimals = job.decimals;
      taken = c.in-Ok.ensures.taken;
      named = c.in-Ok.ensures.named;
      table = job.table;
      zone = c.in-Ok.ensures.zone;
      options = job.options;
      asked = c.in-Ok.ensures.asked;
      counting = job.counting;
      counts = c.in-Ok.ensures.counts;
      from = job.from;
      goes_on = c.in-Ok.ensures.goes_on;
    })
    c.report_uncounted.new.err c.report_uncounted.ensures.note
    c.in-Ok-serve.served.run job.accepted refl (c.in-Ok-serve.ensures.handed_on refl) c.in-Ok-serve.ensures.served (ap file_bytes c.in-None.is)

pub save-requires-clause-keeps : goal.save-requires-clause-keeps
save-requires-clause-keeps g c =
    let name = string_bytes c.in-Some.name in
    let save = ap file_bytes c.in-Some.is in
    c.in-Ok-serve.ensures.keeps (c.keep_for-keep.ensures name save)

pub save-requires-clause-room : goal.save-requires-clause-room
save-requires-clause-room g c = λ n.
    (c.in-Ok.ensures.rest.same_takes _ n).0 (c.requires.saves c.as_str.result.now n (ap file_bytes c.in-Some.is ∙ ap Some (sym c.as_str.ensures.value)))

pub returns-in-Some-clause-is : goal.returns-in-Some-clause-is
returns-in-Some-clause-is g c =
    let job = c.in-Ok.job in
    let served = c.in-Ok-serve.served in
    let name = c.as_str.result.now in
    run-kept _ _ _ _ _ _ _ (command_value c.args.command.now) _ _
    (record {
      query = job.query;
      core = job.accepted.core;
      decimals = job.decimals;
      taken = c.in-Ok.ensures.taken;
      named = c.in-Ok.ensures.named;
      table = job.table;
      zone = c.in-Ok.ensures.zone;
      options = job.options;
      asked = c.in-Ok.ensures.asked;
      counting = job.counting;
      counts = c.in-Ok.ensures.counts;
      from = job.from;
      goes_on = c.in-Ok.ensures.goes_on;
    })
    c.report_uncounted.new.err c.report_uncounted.ensures.note
    served.run job.accepted refl (c.in-Ok-serve.ensures.handed_on refl) c.in-Ok-serve.ensures.served c.in-Ok.ensures.accepted.0 c.in-Ok.ensures.accepted.1 job.opening.items c.in-Ok.ensures.opening
    served.written c.in-Ok-serve.ensures.written name (ap file_bytes c.in-Some.is ∙ ap Some (sym c.as_str.ensures.value)) c.save.result
    (rw (c.in-Ok-serve.ensures.query, c.in-Ok-serve.ensures.opening) at (kept-first g.S.Shelf.tells g.S.Shelf.files g.S.Shelf.read_faults g.S.Shelf.save_faults g.S.Shelf.takes c.args.shelf.now
    c.load_job.new.shelf c.save.new.shelf c.in-Ok.ensures.rest served.run served.query served.opening.items served.written name c.save.result c.save.ensures.kept))

pub returns-in-Some-clause-rest : goal.returns-in-Some-clause-rest
returns-in-Some-clause-rest g c =
    rest-first g.S.Shelf.tells g.S.Shelf.files g.S.Shelf.read_faults g.S.Shelf.save_faults g.S.Shelf.takes c.args.shelf.now c.load_job.new.shelf c.save.new.shelf
    c.in-Ok.ensures.rest c.save.result c.save.ensures.rest

pub returns-in-Some-clause-unsaved : goal.returns-in-Some-clause-unsaved
returns-in-Some-clause-unsaved g c = λ none. absurd (none-some (string_bytes c.in-Some.name) (sym none ∙ ap file_bytes c.in-Some.is))

pub returns-in-Some-clause-takes : goal.returns-in-Some-clause-takes
returns-in-Some-clause-takes g c = λ name n.
    takes-first g.S.Shelf.tells g.S.Shelf.files g.S.Shelf.read_faults g.S.Shelf.save_faults g.S.Shelf.takes c.args.shelf.now c.load_job.new.shelf c.save.new.shelf
    c.in-Ok.ensures.rest name n (c.save.ensures.takes name n)
