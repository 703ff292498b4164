-- A part goes on by one snapshot.
use Rattle.std.proofs.Common.{◌≡◌, ◌<◌, ◌≤◌, ℕ, suc, neg_ℤ, ◌≤ℤ◌, false, List, [], ◌∷◌, ◌++◌, length, take, slice_get, Option, Some, None, MatchOption, sym, ap, ◌∙◌, subst, arith}
use Rattle.std.proofs.lemmas.List.{length-take-le}
use Rattle.std.proofs.lemmas.Option.{slice_get_within}
use Rattle.tilt_base.specs.declared.span.Span.{Span}
use Rattle.tilt_code.specs.Code.{CodeParts}
use Rattle.tilt_code.specs.References.{IsCode}
use Rattle.tilt_code.specs.Run.{run_of}
use Rattle.tilt_parts.proofs.Lists.{get-within}
use Rattle.tilt_parts.specs.Part.{PartValue, IsPart, part_after}
use Rattle.tilt_pipe.proofs.Collected.{next-touches, next-within, with-next}
use Rattle.tilt_pipe.specs.Value.{PipeParts, pipe_after}
use Rattle.tilt_base.specs.declared.limits.TheConstants.{WIDE}
use Rattle.std.specs.Option.{ForSome}
use Rattle.tilt_stream.specs.Snap.{Snapshot, last_end}

-- a part after no more snapshots than there are is one
part-kept : (stretch : Span) (code : CodeParts) (rows : List (List Snapshot)) (count : ℕ) → IsCode code → count ≤ length (run_of code rows)
    → IsPart (part_after stretch code rows count)
part-kept stretch code rows count is most =
    let many : length (take count (run_of code rows)) ≡ count = length-take-le count (run_of code rows) most in
    record {
      code = is;
      taken = ap (λ (n : ℕ). take n (run_of code rows)) (sym many);
      at_work = λ granted. ap (λ (n : ℕ). pipe_after code rows n) (sym many);
    }

-- what the next snapshot meets
pub record MayTake (taken : List Snapshot) (s : Snapshot) : Type 0 where
  pub touches : ForSome (last_end taken) (λ end. end ≡ s.start)
  pub low : neg_ℤ WIDE ≤ℤ s.start
  pub high : s.end ≤ℤ WIDE

-- a part at work, and what its pipe gave next
module _ (part : PartValue) (is : IsPart part) (granted : part.refused ≡ false) (found : Option Snapshot)
    (given : part.pipe.refused ≡ false → found ≡ slice_get (run_of part.pipe.code part.pipe.inputs) part.pipe.given) where
  pipe_is : part.pipe ≡ pipe_after part.pipe.code part.pipe.inputs (length part.taken)
  pipe_is = is.at_work granted

  pipe-granted : part.pipe.refused ≡ false
  pipe-granted = ap (λ (p : PipeParts). p.refused) pipe_is

  pipe-given : part.pipe.given ≡ length part.taken
  pipe-given = ap (λ (p : PipeParts). p.given) pipe_is

  found_is : found ≡ slice_get (run_of part.pipe.code part.pipe.inputs) (length part.taken)
  found_is = given pipe-granted ∙ ap (λ (n : ℕ). slice_get (run_of part.pipe.code part.pipe.inputs) n) pipe-given

  next_is : (s : Snapshot) → found ≡ Some s → slice_get (run_of part.pipe.code part.pipe.inputs) (length part.taken) ≡ Some s
  next_is s some = sym found_is ∙ some

  pub may-take : (s : Snapshot) → found ≡ Some s → MayTake part.taken s
  may-take s some =
      let within = next-within part.pipe.code part.pipe.inputs part.taken (length part.taken) s is.code is.taken (next_is s some) in
      record {
        touches = next-touches part.pipe.code part.pipe.inputs part.taken (length part.taken) s is.code is.taken (next_is s some);
        low = within.0;
        high = within.1;
      }

  -- the part once it was taken
  module _ (pipe : PipeParts) (after : part.pipe.refused ≡ false → MatchOption found (pipe ≡ part.pipe)
      (λ _. pipe ≡ pipe_after part.pipe.code part.pipe.inputs (suc part.pipe.given))) where
    some_after : (o : Option Snapshot) (s : Snapshot) → o ≡ Some s → MatchOption o (pipe ≡ part.pipe)
        (λ _. pipe ≡ pipe_after part.pipe.code part.pipe.inputs (suc part.pipe.given))
        → pipe ≡ pipe_after part.pipe.code part.pipe.inputs (suc (length part.taken))
    some_after None s some m = absurd (cc some)
    some_after (Some t) s some m = m ∙ ap (λ (n : ℕ). pipe_after part.pipe.code part.pipe.inputs (suc n)) pipe-given

    none_after : (o : Option Snapshot) → o ≡ None → MatchOption o (pipe ≡ part.pipe)
        (λ _. pipe ≡ pipe_after part.pipe.code part.pipe.inputs (suc part.pipe.given)) → pipe ≡ part.pipe
    none_after None none m = m
    none_after (Some t) none m = absurd (cc none)

    pub taken-one : (s : Snapshot) (taken : List Snapshot) → found ≡ Some s → taken ≡ part.taken ++ s ∷ []
        → record { stretch = part.stretch; pipe = pipe; taken = taken; refused = false }
        ≡ part_after part.stretch part.pipe.code part.pipe.inputs (suc (length part.taken))
    taken-one s taken some more =
        let piped = some_after found s some (after pipe-granted) in
        let listed = more ∙ with-next part.pipe.code part.pipe.inputs part.taken (length part.taken) s is.code is.taken (next_is s some) in
        λ i. record { stretch = part.stretch; pipe = piped i; taken = listed i; refused = false }

    pub taken-one_kept : (s : Snapshot) (taken : List Snapshot) → found ≡ Some s → taken ≡ part.taken ++ s ∷ []
        → IsPart (record { stretch = part.stretch; pipe = pipe; taken = taken; refused = false })
    taken-one_kept s taken some more =
        subst IsPart (sym (taken-one s taken some more)) (part-kept part.stretch part.pipe.code part.pipe.inputs (suc (length part.taken)) is.code
        (let within = slice_get_within (run_of part.pipe.code part.pipe.inputs) (length part.taken) s (next_is s some) in omega arith))

    pub taken-none : found ≡ None → record { stretch = part.stretch; pipe = pipe; taken = part.taken; refused = false } ≡ part
    taken-none none =
        let piped = none_after found none (after pipe-granted) in
        λ i. record { stretch = part.stretch; pipe = piped i; taken = part.taken; refused = sym granted i }

    pub taken-none_kept : found ≡ None → IsPart (record { stretch = part.stretch; pipe = pipe; taken = part.taken; refused = false })
    taken-none_kept none = subst IsPart (sym (taken-none none)) is

    pub taken-none_all : found ≡ None → length part.taken < length (run_of part.pipe.code part.pipe.inputs) → ⊥
    taken-none_all none fewer =
        get-within (run_of part.pipe.code part.pipe.inputs) (length part.taken) fewer (sym found_is ∙ none)
