-- With `idle` no watermark is too low; and there are as many inputs as before.
use Rattle.std.proofs.Common.{◌≡◌, ◌<◌, ℕ, zero, suc, ℤ, pos, ◌-ℤ◌, ◌≤ℤ◌, Bool, true, false, if◌then◌else◌, int_lt, List, [], ◌∷◌, length, map, Option, Some, None, is_none}
use Rattle.std.proofs.Common.{refl, sym, ap, subst, ◌∙◌, arith}
use Rattle.std.proofs.lemmas.Int.{ints, clamps}
use Rattle.std.proofs.lemmas.Option.{same_Some}
use Rattle.tilt_feed.specs.declared.edge.Edge.{Edge}
use Rattle.tilt_feed.specs.declared.update.Update.{Update}
use Rattle.tilt_feed.specs.declared.update.Update.TheVariants.{KnownUpTo}
use Rattle.tilt_feed_line.specs.declared.line.Line.{Line}
use Rattle.tilt_feed_line.specs.declared.line.Line.TheVariants as line
use Rattle.tilt_watermarks.proofs.Fitting.{moved-append}
use Rattle.tilt_watermarks.specs.Held.{Waiting, due, less, moved_all, rising}
use Rattle.tilt_watermarks.specs.Laws.{AreNear, stepped, stepped_all}
use Rattle.tilt_watermarks.specs.Steps.{Kept, closed, followed, idle_tick, input_at, inputs_after, inputs_entered, line_fault, nothing_kept, raise, raised, taken}
use Rattle.tilt_watermarks.specs.declared.fault.TakeFault.{TakeFault}
use Rattle.tilt_watermarks.specs.declared.options.Options.{Options}

rising-high : (b : Bool) (tick : ℤ) (edge : Edge) → int_lt edge.watermark tick ≡ b → tick ≤ℤ (moved_all (if b then KnownUpTo tick ∷ [] else []) edge).watermark
rising-high false tick edge is = grind (arith, ints)
rising-high true tick edge is = omega (arith, ints)

raised-high : (tick : ℤ) (input : Waiting) → tick ≤ℤ (raised (Some tick) input).edge.watermark
raised-high tick input =
    let edge = moved_all (due (Some tick) input.held) input.edge in
    subst (λ (e : Edge). tick ≤ℤ e.watermark) (sym (moved-append (due (Some tick) input.held) (rising (Some tick) edge) input.edge))
    (rising-high (int_lt edge.watermark tick) tick edge refl)

raised-near : (tick : ℤ) (inputs : List Waiting) (n : ℕ) → n < length inputs → tick ≤ℤ (input_at (map (raised (Some tick)) inputs) n).edge.watermark
raised-near tick [] n within = absurd (omega arith)
raised-near tick (input ∷ inputs) zero within = raised-high tick input
raised-near tick (input ∷ inputs) (suc n) within = raised-near tick inputs n (omega arith)

less-high : (ticks : ℕ) (tick : ℤ) → (tick -ℤ pos ticks) ≤ℤ less ticks tick
less-high ticks tick = omega (arith, ints, clamps)

pub length-raised : (end : Option ℤ) (inputs : List Waiting) → length (map (raised end) inputs) ≡ length inputs
length-raised end [] = refl
length-raised end (input ∷ inputs) = ap suc (length-raised end inputs)

idle-near : (ticks : ℕ) (finished : Bool) (greatest : Option ℤ) (kept : Kept) → kept.finished ≡ finished → kept.greatest ≡ greatest
    → AreNear ticks (raise (idle_tick (Some ticks) finished greatest) kept).kept
idle-near ticks true greatest kept is-end same g n unfinished is within = absurd (cc (is-end, unfinished))
idle-near ticks false None kept is-end same g n unfinished is within = absurd (cc (same, is))
idle-near ticks false (Some greatest) kept is-end same g n unfinished is within =
    let at : greatest ≡ g = same_Some greatest g (sym same ∙ is) in
    let few : n < length kept.inputs = subst (λ (k : ℕ). n < k) (length-raised (Some (less ticks greatest)) kept.inputs) within in
    let near = raised-near (less ticks greatest) kept.inputs n few in
    let low = less-high ticks greatest in
    omega (arith, ints, at, near, low)

stepped-near : (fault : Option TakeFault) (options : Options) (ticks : ℕ) (line : Line) (kept : Kept) → options.idle ≡ Some ticks → AreNear ticks kept
    → AreNear ticks (if is_none fault then taken options line kept else record { kept = kept; events = [] }).kept
stepped-near (Some fault) options ticks line kept is near = near
stepped-near None options ticks line kept is near =
    let middle = (followed options.lateness line kept).kept in
    subst (λ (idle : Option ℕ). AreNear ticks (raise (idle_tick idle middle.finished middle.greatest) middle).kept) (sym is)
    (idle-near ticks middle.finished middle.greatest middle refl refl)

pub all-near : (options : Options) (ticks : ℕ) (lines : List Line) (kept : Kept) → options.idle ≡ Some ticks → AreNear ticks kept
    → AreNear ticks (stepped_all options lines kept).kept
all-near options ticks [] kept is near = near
all-near options ticks (line ∷ lines) kept is near =
    all-near options ticks lines (stepped options line kept).kept is (stepped-near (line_fault options kept line) options ticks line kept is near)

pub near-first : (ticks inputs : ℕ) → AreNear ticks (nothing_kept inputs)
near-first ticks inputs g n unfinished is within = absurd (cc is)

-- there are as many inputs
length-entered : (lateness : Option ℕ) (number : ℕ) (update : Update) (inputs : List Waiting) → length (inputs_entered lateness number update inputs) ≡ length inputs
length-entered lateness number update [] = refl
length-entered lateness zero update (input ∷ inputs) = refl
length-entered lateness (suc number) update (input ∷ inputs) = ap suc (length-entered lateness number update inputs)

length-closed : (inputs : List Waiting) → length (map closed inputs) ≡ length inputs
length-closed [] = refl
length-closed (input ∷ inputs) = ap suc (length-closed inputs)

pub length-after : (lateness : Option ℕ) (line : Line) (inputs : List Waiting) → length (inputs_after lateness line inputs) ≡ length inputs
length-after lateness (line.Update number update) inputs = length-entered lateness number update inputs
length-after lateness (line.AllKnownUpTo tick) inputs = length-raised (Some tick) inputs
length-after lateness line.Finish inputs = length-closed (map (raised None) inputs) ∙ length-raised None inputs

length-raise : (target : Option ℤ) (kept : Kept) → length (raise target kept).kept.inputs ≡ length kept.inputs
length-raise None kept = refl
length-raise (Some tick) kept = length-raised (Some tick) kept.inputs

length-stepped : (fault : Option TakeFault) (options : Options) (line : Line) (kept : Kept)
    → length (if is_none fault then taken options line kept else record { kept = kept; events = [] }).kept.inputs ≡ length kept.inputs
length-stepped (Some fault) options line kept = refl
length-stepped None options line kept =
    let middle = (followed options.lateness line kept).kept in
    length-raise (idle_tick options.idle middle.finished middle.greatest) middle ∙ length-after options.lateness line kept.inputs

pub length-once : (options : Options) (line : Line) (kept : Kept) → length (stepped options line kept).kept.inputs ≡ length kept.inputs
length-once options line kept = length-stepped (line_fault options kept line) options line kept

pub length-all : (options : Options) (lines : List Line) (kept : Kept) → length (stepped_all options lines kept).kept.inputs ≡ length kept.inputs
length-all options [] kept = refl
length-all options (line ∷ lines) kept = length-all options lines (stepped options line kept).kept ∙ length-once options line kept

pub length-then : (b : Bool) (lateness : Option ℕ) (line : Line) (inputs : List Waiting) → length (if b then inputs_after lateness line inputs else inputs) ≡ length inputs
length-then true lateness line inputs = length-after lateness line inputs
length-then false lateness line inputs = refl
