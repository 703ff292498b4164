-- What goes isn't read by any next turn, and the loops stay as they were.
use Rattle.std.proofs.Common.{◌≡◌, ◌∙◌, ◌<◌, ◌≤◌, ◌+◌, ◌-◌, min, ℕ, ℤ, ◌≤ℤ◌, List, [], length, drop, take, get_or, slice_get, Option, Some, None, refl, sym, ap, subst, arith}
use Rattle.std.proofs.Math.Nat.{min-le_left}
use Rattle.std.proofs.lemmas.List.{get_or-drop, take_rest, with_items_is}
use Rattle.std.proofs.lemmas.Option.{get_or_from_slice_get, slice_get_read}
use Rattle.tilt_code.specs.Code.{LoopParts}
use Rattle.tilt_engine.proofs.Dropping.{EndUnread, loop-bounds, loops-then, made-kept, rows-kept}
use Rattle.tilt_engine.specs.Forgetting.{added, each_later, heads, kept_lists, later_inlet, later_made}
use Rattle.tilt_engine.specs.Standing.{AreLoops}
use Rattle.tilt_engine.specs.Stock.{InletParts, MadeParts}
use Rattle.tilt_engine.specs.Wanted.{wanted}
use Rattle.tilt_pipe.specs.Rings.{let_go}
use Rattle.tilt_engine.proofs.forgetting.forget.Goals as goal
use Rattle.tilt_engine.proofs.forgetting.forget.Goals.{After-deref, After-deref-3}

-- where a loop is within its stretch
bounds : (c : After-deref) (k : ℕ) (l : LoopParts) (m : MadeParts) → slice_get c.args.code.now.loops k ≡ Some l → slice_get c.deref.result.now k ≡ Some m
    → (l.lo ≤ℤ m.settled) × (m.hi ≡ l.hi)
bounds c k l m loop at =
    let r = c.requires.loops in
    loop-bounds c.args.code.now r.0 r.1 r.2 c.args.stock.now.loops.items c.args.states.now.items (length c.args.code.now.loops) k l m r.3.are loop
    (ap (λ (list : List MadeParts). slice_get list k) (sym c.deref.ensures.value) ∙ at)

pub first_reads-requires-clause-low : goal.first_reads-requires-clause-low
first_reads-requires-clause-low c = λ k l m loop at. (bounds ((goal.at.first_reads-requires-clause-low c).After-deref) k l m loop at).0

pub first_reads-requires-clause-high : goal.first_reads-requires-clause-high
first_reads-requires-clause-high c = λ k l m loop at. (bounds ((goal.at.first_reads-requires-clause-high c).After-deref) k l m loop at).1

-- how many inputs there are
inputs-long : (c : After-deref-3) → c.len-inputs.result ≡ length c.args.stock.now.inputs.items
inputs-long c = c.len-inputs.ensures ∙ sym c.deref_mut.ensures.len ∙ ap length c.deref_mut.ensures.value

pub forget_rows-requires-clause-within : goal.forget_rows-requires-clause-within
forget_rows-requires-clause-within c = λ k i at.
    let inlets = c.args.stock.now.inputs.items in
    let here = ap (λ (list : List InletParts). slice_get list k) (sym c.deref_mut.ensures.value) ∙ at in
    let within = c.in_ok-counts.ensures.within k in
    rw c.deref-3.ensures.value (omega (arith, within, ap length (rows-kept inlets c.args.stock.now.loops.items k i here)))

pub forget_made-requires-clause-within : goal.forget_made-requires-clause-within
forget_made-requires-clause-within c = λ k m at.
    let b = (goal.at.forget_made-requires-clause-within c).After-deref-3 in
    let inlets = c.args.stock.now.inputs.items in
    let loops = c.args.stock.now.loops.items in
    let here = ap (λ (list : List MadeParts). slice_get list k) (sym c.deref_mut-2.ensures.value) ∙ at in
    let within = c.in_ok-counts.ensures.within (length inlets + k) in
    let all = c.deref-4.result.now in
    let n = c.len-inputs.result in
    let own : get_or (take (length all - n) (drop n all)) k 0 ≡ get_or c.in_ok-counts.counts.items (length inlets + k) 0 =
    ap (λ (list : List ℕ). get_or list k 0) (take_rest all n) ∙ get_or-drop n all k 0
    ∙ ap (λ (list : List ℕ). get_or list (n + k) 0) c.deref-4.ensures.value
    ∙ ap (λ (x : ℕ). get_or c.in_ok-counts.counts.items (x + k) 0) (inputs-long b) in
    omega (arith, own, within, ap length (made-kept inlets loops k m here))

pub returns-clause-forgotten : goal.returns-clause-forgotten
returns-clause-forgotten c =
    let b = (goal.at.returns-clause-forgotten c).After-deref-3 in
    let code = c.args.code.now in
    let stock = c.args.stock.now in
    let inlets = stock.inputs.items in
    let loops = stock.loops.items in
    let counts = c.in_ok-counts.counts.items in
    let firsts = c.in_ok-firsts.firsts.items in
    let many = c.requires.many in
    let some = c.loops.ensures.code.grammatical.some in
    let inputs : c.len-inputs.result ≡ length code.inputs = inputs-long b ∙ many in
    let rows_then = with_items_is stock.inputs c.forget_rows.new.inputs (c.forget_rows.auto.inputs ∙ c.deref_mut.ensures.len)
    ∙ c.in_ok-forget_rows.ensures ∙ ap (λ (list : List ℕ). each_later later_inlet list c.deref_mut.result.now) c.deref-3.ensures.value
    ∙ ap (λ (list : List InletParts). each_later later_inlet counts list) c.deref_mut.ensures.value in
    let all = c.deref-4.result.now in
    let n = c.len-inputs.result in
    let own : take (length all - n) (drop n all) ≡ drop (length code.inputs) counts =
    take_rest all n ∙ ap (drop n) c.deref-4.ensures.value ∙ ap (λ (x : ℕ). drop x counts) inputs in
    let made_then = with_items_is stock.loops c.forget_made.new.loops (c.forget_made.auto.loops ∙ c.deref_mut-2.ensures.len)
    ∙ c.in_ok-forget_made.ensures ∙ ap (λ (list : List ℕ). each_later later_made list c.deref_mut-2.result.now) own
    ∙ ap (λ (list : List MadeParts). each_later later_made (drop (length code.inputs) counts) list) c.deref_mut-2.ensures.value in
    let first_at : (number : ℕ) → get_or c.deref-2.result.now number None ≡ wanted number code.loops loops = λ number.
    ap (λ (list : List (Option ℤ)). get_or list number None) c.deref-2.ensures.value ∙ c.in_ok-firsts.ensures.firsts number
    ∙ ap (λ (list : List MadeParts). wanted number code.loops list) c.deref.ensures.value in
    let last = length code.inputs + (length code.loops - 1) in
    let end : length c.deref-2.result.now - 1 ≡ last = omega (arith, c.in_ok-firsts.ensures.count, some, ap length c.deref-2.ensures.value) in
    let ends : EndUnread code inlets loops counts = λ number tick below want.
    (c.in_ok-counts.ensures.each number (omega (arith, below, end))).past tick (first_at number ∙ want) in
    let count : length counts ≡ length code.inputs + length code.loops =
    c.in_ok-counts.ensures.many ∙ ap length c.deref-2.ensures.value ∙ c.in_ok-firsts.ensures.count in
    let place : c.len.result - 1 ≡ last =
    let long = c.len.ensures ∙ sym c.deref-3.ensures.len ∙ ap length c.deref-3.ensures.value ∙ count in omega (arith, long, some) in
    let at : get_or counts last 0 ≡ c.index.result.now =
    get_or_from_slice_get counts last c.index.result.now 0 (slice_get_read counts (length counts) last c.index.result.now refl (omega (arith, count, some))
    (subst (λ (x : ℕ). c.index.result.now ≡ get_or counts x c.index.result.now) place c.index.ensures)) in (
      counts,
      record {
        inputs = rows_then;
        made_is = made_then;
        loops = λ rows gone hs old from.
            subst (λ (list : List MadeParts). AreLoops code rows (added gone (heads counts (kept_lists inlets loops))) hs list
            c.in_ok-states.field-0.items (length code.loops)) (sym made_then)
            (loops-then code rows gone hs inlets loops old c.in_ok-states.field-0.items counts c.loops.ensures.code from many ends
            c.in_ok-states.ensures.many c.in_ok-states.ensures.fresh);
        last_is = at;
        within = subst (λ (x : ℕ). x ≤ length (get_or (kept_lists inlets loops) last [])) at (c.in_ok-counts.ensures.within last);
        unread = λ number below.
            (c.in_ok-counts.ensures.each number (omega (arith, below, end))).is
            ∙ ap (λ (first : Option ℤ). let_go first (get_or (kept_lists inlets loops) number [])) (first_at number);
        returned = sym at ∙ ap (λ (n : ℕ). get_or counts n 0) (sym end) ∙ c.in_ok-counts.ensures.last
            ∙ ap (λ (n : ℕ). min c.args.given (let_go (get_or c.deref-2.result.now n None) (get_or (kept_lists inlets loops) n []))) end
            ∙ ap (λ (first : Option ℤ). min c.args.given (let_go first (get_or (kept_lists inlets loops) last []))) (first_at last);
      },
    )

pub returns-clause-few : goal.returns-clause-few
returns-clause-few c =
    let counts = c.in_ok-counts.counts.items in
    let some = c.loops.ensures.code.grammatical.some in
    let many = c.in_ok-counts.ensures.many in
    let long = c.len.ensures ∙ sym c.deref-3.ensures.len ∙ ap length c.deref-3.ensures.value in
    let last = length c.deref-2.result.now - 1 in
    let place : c.len.result - 1 ≡ last = omega (arith, long, many) in
    let there : last < length counts = omega (arith, many, some, ap length c.deref-2.ensures.value ∙ c.in_ok-firsts.ensures.count) in
    let at : get_or counts last 0 ≡ c.index.result.now =
    get_or_from_slice_get counts last c.index.result.now 0 (slice_get_read counts (length counts) last c.index.result.now refl there
    (subst (λ (x : ℕ). c.index.result.now ≡ get_or counts x c.index.result.now) place c.index.ensures)) in
    subst (λ (n : ℕ). n ≤ c.args.given) (sym c.in_ok-counts.ensures.last ∙ at) (min-le_left c.args.given _)
