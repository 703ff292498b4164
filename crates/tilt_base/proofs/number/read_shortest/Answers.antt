use Rattle.std.proofs.Common.{◌≡◌, Some, None, bytes_eq, arith}
use Rattle.std.proofs.lemmas.Bool.Decides.{Decides-at}
use Rattle.std.proofs.lemmas.Int.{to_z-of_z}
use Rattle.std.proofs.lemmas.Slice.Eq.{bytes_eq-Decides}
use Rattle.std.specs.Fmt.{signed_decimal}
use Rattle.std.specs.Int.{w64}
use Rattle.tilt_base.specs.Number.{number_spelled}
use Rattle.tilt_base.proofs.Decimals.{shortest_or_none, none_is_shortest, number_spelled_fits}
use Rattle.tilt_base.proofs.number.read_shortest.Goals as goal

pub returns-in_err-number : goal.returns-in_err-number
returns-in_err-number c =
    let none : number_spelled c.args.bytes.now ≡ None = grind arith in
    rw c.from_residual.ensures (none_is_shortest c.args.bytes.now none)

pub returns : goal.returns
returns c =
    let bs = c.args.bytes.now in
    let z = c.in_ok-number.number in
    let spelled : number_spelled bs ≡ Some z = grind arith in
    let kept = to_z-of_z w64 z (number_spelled_fits bs z spelled) in
    let same : c.eq.result ≡ bytes_eq (signed_decimal z) bs = cc in
    rw (c.then_some.ensures, kept) (shortest_or_none bs z c.eq.result spelled (Decides-at _ _ same (bytes_eq-Decides _ _)))
