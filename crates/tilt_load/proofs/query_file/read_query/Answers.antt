use Rattle.std.proofs.lemmas.Result.{err_from_is_err_and}
use Rattle.tilt_load.proofs.Loads.{text_refuses, check_refuses, reach_refuses}
use Rattle.tilt_load.proofs.query_file.read_query.Goals as goal

pub returns-in_err-query-clause-fault : goal.returns-in_err-query-clause-fault
returns-in_err-query-clause-fault c =
    λ name.
    let p = err_from_is_err_and c.from_residual.result c.from_residual.ensures.1 in
    rw (p.1, p.2) (text_refuses name c.args.bytes.now c.in_err-query.field-0.0 c.requires c.in_err-query.ensures.faulty)

pub returns-in_err-core-clause-fault : goal.returns-in_err-core-clause-fault
returns-in_err-core-clause-fault c =
    λ name.
    let p = err_from_is_err_and c.from_residual-in_err-core.result c.from_residual-in_err-core.ensures.1 in
    let is = c.in_ok-query.ensures.query in
    rw (p.1, p.2) (check_refuses name c.args.bytes.now is.tokens c.in_ok-query.query c.in_err-core.field-0.0 c.requires
    is.lexed is.parsed c.in_err-core.ensures)

pub returns-in_err-accepted-clause-fault : goal.returns-in_err-accepted-clause-fault
returns-in_err-accepted-clause-fault c =
    λ name.
    let p = err_from_is_err_and c.from_residual-in_err-accepted.result c.from_residual-in_err-accepted.ensures.1 in
    let is = c.in_ok-query.ensures.query in
    rw (p.1, p.2) (reach_refuses name c.args.bytes.now c.in_ok-core.core c.in_err-accepted.field-0.0
    (record {
      short = c.requires;
      tokens = is.tokens;
      lexed = is.lexed;
      query = c.in_ok-query.query;
      parsed = is.parsed;
      accepted = c.in_ok-core.ensures;
    })
    c.in_err-accepted.ensures.refused)

pub returns-clause-taken : goal.returns-clause-taken
returns-clause-taken c =
    let is = c.in_ok-query.ensures.query in
    rw c.in_ok-accepted.ensures.core (record {
      has_core =
          record {
            short = c.requires;
            tokens = is.tokens;
            lexed = is.lexed;
            query = c.in_ok-query.query;
            parsed = is.parsed;
            accepted = c.in_ok-core.ensures;
          };
      margins = c.in_ok-accepted.accepted.margins;
      reach = c.in_ok-accepted.ensures.margins;
    })
