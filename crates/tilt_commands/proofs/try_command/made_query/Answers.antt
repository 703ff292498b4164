use Rattle.std.proofs.Common.{[]}
use Rattle.std.proofs.lemmas.Result.{IfErr-weaker, IfOk-weaker}
use Rattle.tilt_report.specs.Report.{report_of}
use Rattle.tilt_commands.proofs.MadeQuery.{only_memory_wanted, text_short, two_inputs}
use Rattle.tilt_commands.proofs.try_command.made_query.Goals as goal

pub read_query-requires : goal.read_query-requires
read_query-requires c = rw (c.deref.ensures.value, c.in_ok-text.ensures) (text_short c.args.count c.requires)

pub returns-clause-inputs : goal.returns-clause-inputs
returns-clause-inputs c =
    let taken = rw (c.deref.ensures.value, c.in_ok-text.ensures) at c.read_query.ensures.taken in
    IfOk-weaker c.read_query.result _ _ (λ query is. two_inputs c.args.count c.requires query.accepted.core is) taken

pub returns-clause-fault : goal.returns-clause-fault
returns-clause-fault c =
    let fault = rw (c.deref.ensures.value, c.in_ok-text.ensures) at (c.read_query.ensures.fault []) in
    IfErr-weaker c.read_query.result _ _ (λ fault is. only_memory_wanted c.args.count c.requires (report_of fault) is) fault
