-- The last number alone is another than that of what isn't read, and no greater.
use Rattle.std.proofs.Common.{◌≡◌, ◌<◌, ◌≤◌, ◌-◌, min, inl, inr, ℕ, ℤ, List, [], length, get_or, slice_set, Option, None, refl, sym, ap, ◌∙◌, subst, arith, rules}
use Rattle.std.proofs.lemmas.Bool.{cases_eq, cases_lt}
use Rattle.std.proofs.lemmas.List.{get_or-set_other, get_or-set_same, get_or_past}
use Rattle.std.proofs.lemmas.Option.{get_or_from_slice_get, slice_get_read}
use Rattle.tilt_engine.proofs.NextReads.{let_go-within}
use Rattle.tilt_engine.specs.Forgetting.{kept_lists}
use Rattle.tilt_engine.specs.Wanted.{IsUnread}
use Rattle.tilt_pipe.specs.Rings.{let_go}
use Rattle.tilt_stream.specs.Snap.{Snapshot}
use Rattle.tilt_engine.proofs.forgetting.count_all.Goals as goal

-- no more aren't read than there are
few : (firsts : List (Option ℤ)) (counts : List ℕ) (lists : List (List Snapshot)) (number : ℕ) → length counts ≡ length firsts
    → ((k : ℕ) → k < length firsts → IsUnread (get_or firsts k None) (get_or lists k []) (get_or counts k 0))
    → get_or counts number 0 ≤ length (get_or lists number [])
few firsts counts lists number many each =
    elim (cases_lt number (length firsts)) as (λ _. get_or counts number 0 ≤ length (get_or lists number [])) [
      | inl within ↦ (let is = (each number within).is in omega (arith, is, let_go-within (get_or firsts number None) (get_or lists number [])))
      | inr past ↦ (let none = get_or_past counts number 0 (omega (arith, past, many)) in omega (arith, none))
    ]

-- and with a number at one place that is no greater
few-set : (counts : List ℕ) (lists : List (List Snapshot)) (last count number : ℕ) → last < length counts → count ≤ get_or counts last 0
    → ((k : ℕ) → get_or counts k 0 ≤ length (get_or lists k [])) → get_or (slice_set counts last count) number 0 ≤ length (get_or lists number [])
few-set counts lists last count number there less all =
    elim (cases_eq number last) as (λ _. get_or (slice_set counts last count) number 0 ≤ length (get_or lists number [])) [
      | inl same ↦ (
          let here = get_or-set_same counts last count 0 there in
          subst (λ (n : ℕ). get_or (slice_set counts last count) n 0 ≤ length (get_or lists n [])) (sym same) (omega (arith, here, less, all last)))
      | inr apart ↦ (let other = get_or-set_other counts last number count 0 apart in omega (arith, other, all number))
    ]

pub returns-clause-within : goal.returns-clause-within
returns-clause-within c = λ number.
    let counts = c.in_ok-counts.counts.items in
    let lists = kept_lists c.args.stock.now.inputs.items c.args.stock.now.loops.items in
    let last = c.len-last.result - 1 in
    let some = c.requires in
    let many = c.in_ok-counts.ensures.many in
    let long : c.len-last.result ≡ length counts = search rules in
    let there : last < length counts = omega (arith, long, many, some) in
    let at : get_or counts last 0 ≡ c.index.result.now =
    get_or_from_slice_get counts last c.index.result.now 0 (slice_get_read counts (length counts) last c.index.result.now refl there c.index.ensures) in
    few-set counts lists last c.min.result number there (let least = c.min.ensures in omega (arith, at))
    (λ k. few c.args.firsts.now counts lists k many c.in_ok-counts.ensures.each)

pub returns-clause-last : goal.returns-clause-last
returns-clause-last c =
    let counts = c.in_ok-counts.counts.items in
    let firsts = c.args.firsts.now in
    let lists = kept_lists c.args.stock.now.inputs.items c.args.stock.now.loops.items in
    let last = c.len-last.result - 1 in
    let some = c.requires in
    let many = c.in_ok-counts.ensures.many in
    let long : c.len-last.result ≡ length counts = search rules in
    let there : last < length counts = omega (arith, long, many, some) in
    let at : get_or counts last 0 ≡ c.index.result.now =
    get_or_from_slice_get counts last c.index.result.now 0 (slice_get_read counts (length counts) last c.index.result.now refl there c.index.ensures) in
    let same : last ≡ length firsts - 1 = omega (arith, long, many) in
    let unread : get_or counts (length firsts - 1) 0 ≡ let_go (get_or firsts (length firsts - 1) None) (get_or lists (length firsts - 1) []) =
    (c.in_ok-counts.ensures.each (length firsts - 1) (omega (arith, some))).is in
    let read : c.index.result.now ≡ let_go (get_or firsts (length firsts - 1) None) (get_or lists (length firsts - 1) []) =
    sym at ∙ ap (λ (n : ℕ). get_or counts n 0) same ∙ unread in
    ap (λ (n : ℕ). get_or (slice_set counts last c.min.result) n 0) (sym same) ∙ get_or-set_same counts last c.min.result 0 there
    ∙ c.min.ensures ∙ ap (min c.args.given) read
