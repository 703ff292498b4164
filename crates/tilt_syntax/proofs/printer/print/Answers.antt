-- The law holds of each query.
use Rattle.std.proofs.Common.{◌≡◌, rules}
use Rattle.tilt_syntax.specs.Printing.{query_text}
use Rattle.tilt_syntax.proofs.Law.{reads_back}
use Rattle.tilt_syntax.proofs.printer.print.Goals as goal

pub returns-clause-reads_back : goal.returns-clause-reads_back
returns-clause-reads_back c =
    let same : c.put_statements.new.text.items ≡ query_text c.args.query.now = search rules in
    rw same (reads_back _ c.statements.ensures.parsed)
