use Rattle.std.proofs.Common.{◌≡◌, ◌+◌, ◌-◌, ◌++◌, ◌∷◌, [], List, ap, subst, ◌∙◌, rules, length, map, take, drop, refl, ◌<◌}
use Rattle.std.proofs.lemmas.List.{take_rest}
use Rattle.std.specs.List.{AllByRecursion, slice_index_or}
use Rattle.tilt_bounds.specs.Margins.{need_at, need_of}
use Rattle.tilt_fix.proofs.Windows.{all-set, read-any, windows-changed}
use Rattle.tilt_fix.specs.Change.{made}
use Rattle.tilt_fix.specs.Window.{seen, window_for, window_in, windows}
use Rattle.tilt_stream.specs.Snap.{Snapshot, AreRows}
use Rattle.tilt_fix.proofs.window.windows_after.Goals as goal

pub returns-clause-windows : goal.returns-clause-windows
returns-clause-windows c =
    let input = c.input-input.result in
    let rows = c.args.rows.now in
    let needs = map need_of c.args.needs.now in
    let a : c.push_windows-2.new.list.items ≡ c.push.new.self.items
    ++ windows needs c.args.on.start c.args.on.end (length c.push.new.self.items) (take (length rows - (input + 1)) (drop (input + 1) rows)) = search rules in
    let b : c.push.new.self.items ≡ c.push_windows.new.list.items ++ c.in_ok-changed_window.field-0 ∷ [] = search rules in
    let d : c.push_windows.new.list.items ≡ windows needs c.args.on.start c.args.on.end 0 (take input rows) = search rules in
    let e : c.in_ok-changed_window.field-0 ≡ window_in c.seen-seen.result (made c.args.change.now c.index-rows-input.result) = search rules in
    let f : c.seen-seen.result ≡ seen (need_of c.need_at.result) c.args.on.start c.args.on.end = search rules in
    let g : need_of c.need_at.result ≡ need_at needs input = search rules in
    let within : input < length rows = search rules in
    let l : c.index-rows-input.result ≡ slice_index_or rows input [] = read-any rows input c.index-rows-input.result [] within c.index-rows-input.is in
    let one : c.in_ok-changed_window.field-0 ≡ window_for (need_at needs input) c.args.on.start c.args.on.end (made c.args.change.now (slice_index_or rows input [])) =
    e ∙ rw (f, g, l) refl in
    rw (← c.input-input.ensures)
    (windows-changed needs c.args.on.start c.args.on.end rows input (made c.args.change.now (slice_index_or rows input [])) c.push.new.self.items
    c.push_windows-2.new.list.items within (b ∙ rw (d, one) refl)
    (a ∙ ap (λ (l : List (List Snapshot)). c.push.new.self.items ++ windows needs c.args.on.start c.args.on.end (length c.push.new.self.items) l) (take_rest rows (input + 1))))

pub returns-clause-in_order : goal.returns-clause-in_order
returns-clause-in_order c =
    let input = c.input-input.result in
    let rows = c.args.rows.now in
    let a : AllByRecursion AreRows (take (length rows - (input + 1)) (drop (input + 1) rows)) = search rules in
    let d : AllByRecursion AreRows (take input rows) = search rules in
    let new : AreRows (made c.args.change.now (slice_index_or rows input [])) = rw c.input-input.ensures c.requires.change.in_order in
    rw (← c.input-input.ensures)
    (all-set AreRows rows input (made c.args.change.now (slice_index_or rows input [])) d new
    (subst (λ (l : List (List Snapshot)). AllByRecursion AreRows l) (take_rest rows (input + 1)) a))
