use Rattle.std.proofs.Common.{◌≡◌, length, take, fold, max}
use Rattle.tilt_overflows.proofs.names.most_bytes.Given as goal

abbrev pub invariant-loop-name : goal.invariant-loop-name
invariant-loop-name l = l.most ≡ fold (λ most name. max most (length name)) l.fn.least (take l.name-index l.names)
