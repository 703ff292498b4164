use Rattle.std.proofs.Common.{◌≡◌, length, true, false, set, ◌∙◌, sym, ap, arith}
use Rattle.std.proofs.lemmas.List.{length-set}
use Rattle.std.specs.Prelude.{◌||◌, get_or}
use Rattle.tilt_bounds.proofs.Steps.{reads-more}
use Rattle.tilt_core.specs.CoreTree.{CoreTree, Definition, tree_of}
use Rattle.tilt_fuse.proofs.Used.{not_used, used_too}
use Rattle.tilt_fuse.specs.Used.{names}
use Rattle.tilt_fuse.proofs.usage.use_before.Goals as goal

pub use_named-requires : goal.use_named-requires
use_named-requires c =
    let body : tree_of c.def.inside.body ≡ c.args.def.now.body = ap (λ (d : Definition). d.body) c.def.view_is in
    let many = length-set c.args.used.now.items c.args.number true in
    let low = c.requires.numbered in
    rw body (reads-more c.args.number (length (set c.args.used.now.items c.args.number true)) c.args.def.now.body (omega arith) c.requires.reads)

pub returns-then-is_used : goal.returns-then-is_used
returns-then-is_used c =
    let body : tree_of c.def.inside.body ≡ c.args.def.now.body = ap (λ (d : Definition). d.body) c.def.view_is in
    let many = length-set c.args.used.now.items c.args.number true in
    used_too c.args.number c.args.def.now c.args.behind.now c.args.used.now.items c.requires.so_far c.use_named.new.used.items (sym c.is_used.ensures ∙ c.if-is_used.true) c.requires.reads
    (c.use_named.ensures.many ∙ many)
    (λ source low. c.use_named.ensures.named source (omega (arith, many))
    ∙ ap (λ (e : CoreTree). get_or (set c.args.used.now.items c.args.number true) source false || names e source) body)

pub returns-else-is_used : goal.returns-else-is_used
returns-else-is_used c =
    not_used c.args.number c.args.def.now c.args.behind.now c.args.used.now.items c.requires.so_far (sym c.is_used.ensures ∙ c.if-is_used.false)
