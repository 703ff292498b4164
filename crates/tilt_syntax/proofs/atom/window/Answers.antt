use Rattle.std.proofs.Common.{◌≡◌, to_z, of_z, w64, arith}
use Rattle.std.proofs.lemmas.Int.{ints}
use Rattle.tilt_syntax.proofs.Finding.{finds_none, gives, gives_nothing, meets, meets_name, meets_part, misses, misses_name}
use Rattle.tilt_syntax.proofs.atom.window.Goals as goal

pub returns-in_err-opened : goal.returns-in_err-opened
returns-in_err-opened c = rw c.from_residual.ensures (λ r.
    misses c.in_err-opened.ensures.front gives_nothing)

pub returns-in_err-name : goal.returns-in_err-name
returns-in_err-name c = rw c.from_residual-in_err-name.ensures (λ r.
    meets c.in_ok-opened.ensures.front (misses_name _ _ c.in_err-name.ensures.front))

pub returns-in_err-inside : goal.returns-in_err-inside
returns-in_err-inside c = rw c.from_residual-in_err-inside.ensures (λ r.
    meets c.in_ok-opened.ensures.front (meets_name _ c.in_ok-name.ensures.front (misses c.in_err-inside.ensures.front gives_nothing)))

pub returns-in_err-from : goal.returns-in_err-from
returns-in_err-from c = rw c.from_residual-in_err-from.ensures (λ r.
    meets c.in_ok-opened.ensures.front (meets_name _ c.in_ok-name.ensures.front (meets c.in_ok-inside.ensures.front (
    finds_none (c.in_err-from.ensures _)))))

pub returns-in_err-between : goal.returns-in_err-between
returns-in_err-between c = rw c.from_residual-in_err-between.ensures (λ r.
    meets c.in_ok-opened.ensures.front (meets_name _ c.in_ok-name.ensures.front (meets c.in_ok-inside.ensures.front (
    meets_part _ c.in_ok-from.ensures (misses c.in_err-between.ensures.front gives_nothing)))))

pub returns-in_err-to : goal.returns-in_err-to
returns-in_err-to c = rw c.from_residual-in_err-to.ensures (λ r.
    meets c.in_ok-opened.ensures.front (meets_name _ c.in_ok-name.ensures.front (meets c.in_ok-inside.ensures.front (
    meets_part _ c.in_ok-from.ensures (meets c.in_ok-between.ensures.front (finds_none (c.in_err-to.ensures _)))))))

pub returns-in_err-closed : goal.returns-in_err-closed
returns-in_err-closed c = rw c.from_residual-in_err-closed.ensures (λ r.
    meets c.in_ok-opened.ensures.front (meets_name _ c.in_ok-name.ensures.front (meets c.in_ok-inside.ensures.front (
    meets_part _ c.in_ok-from.ensures (meets c.in_ok-between.ensures.front (meets_part _ c.in_ok-to.ensures (
    misses c.in_err-closed.ensures.front gives_nothing)))))))

pub returns-in_err-rest : goal.returns-in_err-rest
returns-in_err-rest c = rw c.from_residual-in_err-rest.ensures (λ r.
    meets c.in_ok-opened.ensures.front (meets_name _ c.in_ok-name.ensures.front (meets c.in_ok-inside.ensures.front (
    meets_part _ c.in_ok-from.ensures (meets c.in_ok-between.ensures.front (meets_part _ c.in_ok-to.ensures (
    meets c.in_ok-closed.ensures.front (misses c.in_err-rest.ensures.front gives_nothing))))))))

pub returns : goal.returns
returns c =
    let from : to_z w64 (of_z w64 c.in_ok-from.from) ≡ c.in_ok-from.from = omega (arith, ints) in
    let to : to_z w64 (of_z w64 c.in_ok-to.to) ≡ c.in_ok-to.to = omega (arith, ints) in
    rw (from, to) (λ r.
    meets c.in_ok-opened.ensures.front (meets_name _ c.in_ok-name.ensures.front (meets c.in_ok-inside.ensures.front (
    meets_part _ c.in_ok-from.ensures (meets c.in_ok-between.ensures.front (meets_part _ c.in_ok-to.ensures (
    meets c.in_ok-closed.ensures.front (meets c.in_ok-rest.ensures.front (gives _ _)))))))))
