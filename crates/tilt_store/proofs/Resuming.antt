-- What crashes leave while a folder is opened.
use Rattle.std.proofs.Common.{◌≡◌, inr, ⊎_elim, ℕ, ◌<◌, ◌≤◌, List, [], ◌∷◌, length, take, Some, Ok, IsErr, refl, sym, ◌∙◌, ap, subst, arith}
use Rattle.std.proofs.lemmas.List.{length-take-le, take-take}
use Rattle.tilt_store.specs.Commit.{Commit, committed, or_initial, resumed, spelled, unspelled}
use Rattle.tilt_store.specs.Crash.{Follows, Only}
use Rattle.tilt_store.specs.Kept.{Cut, Kept, Replaced}
use Rattle.tilt_store.specs.Open.{IsReopened, IsSettled, OpensSame}
use Rattle.tilt_store.proofs.Commits.{is_held, same_front, spelled_for_all}

-- an empty folder
abbrev pub empty : Kept
empty = record { output = []; state = [] }

no_bytes : (bytes : List ℕ) → length bytes ≤ 0 → bytes ≡ []
no_bytes [] none = refl
no_bytes (byte ∷ bytes) none = absurd (omega arith)

pub is_empty : (kept : Kept) (size : ℕ) → kept.state ≡ [] → size ≡ length kept.output → size ≤ 0 → kept ≡ empty
is_empty kept size state counted none = λ i. record { output = no_bytes kept.output (omega (arith, counted, none)) i; state = state i }

-- nothing has changed
pub opens_same : (initial : List ℕ) (old c : Kept) → c ≡ old → OpensSame initial old c
opens_same initial old c is = record { same = ap (resumed initial) is; untouched = λ fault. is }

-- a folder with a commit still has it
pub opens_commit : (initial : List ℕ) (commit : Commit) (old c : Kept) → committed old ≡ Ok (Some commit) → committed c ≡ Ok (Some commit) → OpensSame initial old c
opens_commit initial commit old c there is = record {
  same = ap (or_initial initial) (is ∙ sym there);
  untouched = λ fault. absurd (cc (subst IsErr there fault));
}

-- the first state was written or not
first_state : (initial text : List ℕ) (seen c : Kept) → seen ≡ empty → text ≡ spelled 0 initial → Replaced text seen c → OpensSame initial seen c
first_state initial text seen c none is step =
    let output : c.output ≡ [] = step.output ∙ ap (λ (k : Kept). k.output) none in
    subst (λ (k : Kept). OpensSame initial k c) (sym none)
    (⊎_elim
    (λ same. opens_same initial empty c (λ i. record { output = output i; state = (same ∙ ap (λ (k : Kept). k.state) none) i }))
    (λ replaced. record {
      same = ap (resumed initial) (λ i. record { output = output i; state = (replaced ∙ is) i }) ∙ ap (or_initial initial) (spelled_for_all [] initial (omega arith));
      untouched = λ fault. absurd (cc fault);
    })
    step.state)

-- a crash while the first state is written
pub begins_same : (initial text : List ℕ) (seen : Kept) (old new : Kept → Type 0) → seen ≡ empty → text ≡ spelled 0 initial → Only seen old → Follows (Replaced text) old new
    → (c : Kept) → new c → OpensSame initial seen c
begins_same initial text seen old new none is only follows c left =
    let from = follows c left in
    first_state initial text seen c none is (subst (λ (k : Kept). Replaced text k c) (only from.0 from.1) from.2)

-- and after it is written
pub begun_same : (initial text : List ℕ) (seen c : Kept) → seen ≡ empty → text ≡ spelled 0 initial → c ≡ record seen { state = text } → OpensSame initial seen c
begun_same initial text seen c none is replaced =
    first_state initial text seen c none is (record { output = ap (λ (k : Kept). k.output) replaced; state = inr (ap (λ (k : Kept). k.state) replaced) })

-- a commit that is there, and nothing else
pub settled : (commit : Commit) (seen : Kept) (may_leave : Kept → Type 0) → committed seen ≡ Ok (Some commit) → Only seen may_leave → IsSettled seen may_leave
settled commit seen may_leave there only = record {
  durable = only;
  is_open = record { commit = commit; there = there; left = λ c left. ap committed (only c left) ∙ there };
}

pub begun : (initial text state : List ℕ) (seen now : Kept) → seen ≡ empty → text ≡ spelled 0 initial → state ≡ initial → now ≡ record seen { state = text }
    → IsReopened initial seen now state
begun initial text state seen now none is same replaced =
    let now_is : now ≡ record { output = []; state = spelled 0 initial } = replaced ∙ λ i. record { output = (none i).output; state = is i } in
    subst (IsReopened initial seen now) (sym same)
    (record {
      same = ap (resumed initial) none ∙ λ i. Ok (record { output = (sym now_is i).output; state = initial });
      committed = ap committed now_is ∙ (spelled_for_all [] initial (omega arith) ∙ λ i. Ok (Some (record { output = (sym now_is i).output; state = initial })));
    })

-- the commit of a folder whose state file spells a length within its output
pub has_commit : (kept : Kept) (bytes rest : List ℕ) (end size : ℕ) → bytes ≡ kept.state → 0 < length bytes → unspelled bytes ≡ Some (end, rest) → size ≡ length kept.output → end ≤ size
    → committed kept ≡ Ok (Some (record { output = take end kept.output; state = rest }))
has_commit kept bytes rest end size is some mark counted within =
    let long : end ≤ length kept.output = omega (arith, counted, within) in
    let exact = length-take-le end kept.output long in
    is_held (record { output = take end kept.output; state = rest }) kept.state kept.output (record {
      some = omega (arith, ap length is, some);
      mark = ap unspelled (sym is) ∙ mark ∙ λ i. Some (sym exact i, rest);
      within = omega (arith, exact, long);
      front = ap (λ (n : ℕ). take n kept.output) exact;
    })

-- a cut to the commit's end leaves the commit
cut_keeps : (commit : Commit) (end : ℕ) (old new : Kept) → committed old ≡ Ok (Some commit) → end ≡ length commit.output → end ≤ length old.output → Cut end old new → committed new ≡ Ok (Some commit)
cut_keeps commit end old new is exact within cut =
    let long : length commit.output ≤ length new.output = omega (arith, exact, within, cut.no_shorter) in
    same_front commit old new is cut.state long (ap (take (length commit.output)) cut.front ∙ take-take (length commit.output) (length new.output) old.output long)

whole_cut : (end : ℕ) (seen : Kept) → end ≤ length seen.output → Cut end seen (record seen { output = take end seen.output })
whole_cut end seen within =
    let exact : length (take end seen.output) ≡ end = length-take-le end seen.output within in
    record { no_shorter = omega (arith, exact); front = ap (λ (n : ℕ). take n seen.output) (sym exact); state = refl }

-- a crash while the output is cut
pub cuts_same : (initial rest : List ℕ) (end : ℕ) (seen : Kept) (old new : Kept → Type 0) → end ≤ length seen.output
    → committed seen ≡ Ok (Some (record { output = take end seen.output; state = rest })) → Only seen old → Follows (Cut end) old new → (c : Kept) → new c → OpensSame initial seen c
cuts_same initial rest end seen old new within there only follows c left =
    let from = follows c left in
    let commit : Commit = record { output = take end seen.output; state = rest } in
    let cut = subst (λ (k : Kept). Cut end k c) (only from.0 from.1) from.2 in
    opens_commit initial commit seen c there (cut_keeps commit end seen c there (sym (length-take-le end seen.output within)) within cut)

-- and after it is cut
pub cut_same : (initial rest : List ℕ) (end : ℕ) (seen c : Kept) → end ≤ length seen.output → committed seen ≡ Ok (Some (record { output = take end seen.output; state = rest }))
    → c ≡ record seen { output = take end seen.output } → OpensSame initial seen c
cut_same initial rest end seen c within there is_cut =
    let commit : Commit = record { output = take end seen.output; state = rest } in
    let kept = cut_keeps commit end seen (record seen { output = take end seen.output }) there (sym (length-take-le end seen.output within)) within (whole_cut end seen within) in
    opens_commit initial commit seen c there (ap committed is_cut ∙ kept)

pub cut_back : (initial rest state : List ℕ) (end : ℕ) (seen now : Kept) → end ≤ length seen.output
    → committed seen ≡ Ok (Some (record { output = take end seen.output; state = rest })) → state ≡ rest → now ≡ record seen { output = take end seen.output }
    → IsReopened initial seen now state
cut_back initial rest state end seen now within there same is_cut =
    let commit : Commit = record { output = take end seen.output; state = rest } in
    let output : take end seen.output ≡ now.output = ap (λ (k : Kept). k.output) (sym is_cut) in
    let exact : length (take end seen.output) ≡ end = length-take-le end seen.output within in
    let kept : committed now ≡ Ok (Some commit) =
    ap committed is_cut ∙ cut_keeps commit end seen (record seen { output = take end seen.output }) there (sym exact) within (whole_cut end seen within) in
    subst (IsReopened initial seen now) (sym same)
    (record {
      same = ap (or_initial initial) there ∙ λ i. Ok (record { output = output i; state = rest });
      committed = kept ∙ λ i. Ok (Some (record { output = output i; state = rest }));
    })
