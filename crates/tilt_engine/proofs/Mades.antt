-- What loops have made: it fills their stretches as far as they have come, so that what other loops read of them is in order.
use Rattle.std.proofs.Common.{◌≡◌, ◌<◌, ℤ, neg_ℤ, ◌<ℤ◌, ◌≤ℤ◌, List, [], ◌∷◌, ◌++◌, length, Option, Some, None, refl, sym, ◌∙◌, subst, arith, append-nil}
use Rattle.std.proofs.lemmas.Int.{ints}
use Rattle.std.specs.Option.{ForSome, unwrap_or}
use Rattle.tilt_base.specs.declared.limits.TheConstants.{WIDE}
use Rattle.tilt_engine.specs.Stock.{IsMade, IsPieceOn, MadeParts, made_list, pieces, reached, with_settled, with_waiting}
use Rattle.tilt_pipe.proofs.Standing.{end-made, made-few, open-in_order}
use Rattle.tilt_stream.proofs.Filling.{Fill-up}
use Rattle.tilt_stream.specs.Snap.{Fill, InOrder, Snapshot, last_end}

-- one more snapshot
pub Fill-push : (lo settled : ℤ) (made : List Snapshot) (s : Snapshot) → Fill lo settled made → s.start ≡ settled → s.start <ℤ s.end
    → Fill lo s.end (made ++ s ∷ [])
Fill-push lo settled [] s h begins rises = (begins ∙ sym h, omega (arith, ints), refl)
Fill-push lo settled (x ∷ made) s h begins rises = (h.0, h.1, Fill-push x.end settled made s h.2 begins rises)

-- all snapshots that it has made, and where the last one ends
pub record IsFilledTo (lo : ℤ) (m : MadeParts) : Type 0 where
  pub fill : Fill lo (reached m) (pieces m)
  pub within : reached m ≤ℤ m.hi
  pub on : m.settled ≤ℤ reached m

filled-by : (lo settled hi : ℤ) (made : List Snapshot) (waiting : Option Snapshot) → Fill lo settled made → settled ≤ℤ hi
    → ForSome waiting (IsPieceOn settled hi) → IsFilledTo lo (record { made = made; settled = settled; waiting = waiting; hi = hi })
filled-by lo settled hi made None fill within on = record {
  fill = subst (Fill lo settled) (sym (append-nil made)) fill;
  within = within;
  on = omega (arith, ints);
}
filled-by lo settled hi made (Some s) fill within on =
    let it = on s refl in
    let begins = it.begins in
    let rises = it.rises in
    record { fill = Fill-push lo settled made s fill begins rises; within = it.within; on = omega (arith, ints) }

pub is-filled : (m : MadeParts) (is : IsMade m) → IsFilledTo is.lo m
is-filled m is = filled-by is.lo m.settled m.hi m.made m.waiting is.fill is.within is.waiting

pub list-order : (m : MadeParts) → IsMade m → InOrder (neg_ℤ WIDE) WIDE (made_list m)
list-order m is =
    let f = is-filled m is in
    open-in_order is.lo m.hi (reached m) (pieces m) is.low is.high f.fill f.within

-- there are few
pub settled-few : (m : MadeParts) → IsMade m → length m.made < 9223372036854775807
settled-few m is =
    let within = is.within in
    let high = is.high in
    made-few is.lo m.settled m.made is.low (omega (arith, ints)) is.fill

pub pieces-few : (m : MadeParts) → IsMade m → length (pieces m) < 9223372036854775807
pieces-few m is =
    let f = is-filled m is in
    let within = f.within in
    let high = is.high in
    made-few is.lo (reached m) (pieces m) is.low (omega (arith, ints)) f.fill

-- where the settled ones end
pub settled-low : (m : MadeParts) → IsMade m → neg_ℤ WIDE ≤ℤ m.settled
settled-low m is =
    let up = Fill-up is.lo m.settled m.made is.fill in
    let low = is.low in
    omega (arith, ints)

end-is : (lo settled : ℤ) (last : Option ℤ) → unwrap_or last lo ≡ settled → ForSome last (λ end. end ≡ settled)
end-is lo settled None is = λ end no. absurd (cc no)
end-is lo settled (Some last) is = λ end same. sym (cc same) ∙ is

pub settled-touches : (m : MadeParts) (s : Snapshot) → IsMade m → s.start ≡ m.settled → ForSome (last_end m.made) (λ end. end ≡ s.start)
settled-touches m s is begins = λ end at. end-is is.lo m.settled (last_end m.made) (end-made is.lo m.settled m.made is.fill) end at ∙ sym begins

-- one more snapshot, whose end is known or not
pub settled-made : (m : MadeParts) (s : Snapshot) → IsMade m → IsPieceOn m.settled m.hi s → IsMade (with_settled s m)
settled-made m s is on = record {
  lo = is.lo;
  low = is.low;
  fill = Fill-push is.lo m.settled m.made s is.fill on.begins on.rises;
  within = on.within;
  high = is.high;
  waiting = λ v no. absurd (cc no);
}

pub waiting-made : (m : MadeParts) (s : Snapshot) → IsMade m → IsPieceOn m.settled m.hi s → IsMade (with_waiting s m)
waiting-made m s is on = record {
  lo = is.lo;
  low = is.low;
  fill = is.fill;
  within = is.within;
  high = is.high;
  waiting = λ v same. subst (IsPieceOn m.settled m.hi) (cc same) on;
}
