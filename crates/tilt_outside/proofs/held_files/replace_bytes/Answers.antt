use Rattle.std.proofs.Common.{◌<◌, inl, inr, refl, sym, arith, length}
use Rattle.tilt_outside.specs.HeldFiles.{room_of}
use Rattle.tilt_outside.proofs.HeldFiles.{bytes_held-at, bytes_held-none, room_of-at, HoldsInstead-bytes}
use Rattle.tilt_outside.proofs.held_files.replace_bytes.Goals as goal

pub returns-then-bytes-room-clause-refused : goal.returns-then-bytes-room-clause-refused
returns-then-bytes-room-clause-refused c =
    let place = rw c.deref.ensures.value at c.in-Some.ensures in
    let room = room_of-at c.args.files.now.items c.args.name.now c.in-Some.place c.index_mut-file.result.now (sym place) c.index_mut-file.ensures.value in
    let short : room_of c.args.files.now.items c.args.name.now < length c.args.bytes.now = omega (arith, room, c.room.ensures) in
    (λ _. inr short, λ _. refl)

pub returns-else-bytes-room-clause-refused : goal.returns-else-bytes-room-clause-refused
returns-else-bytes-room-clause-refused c =
    let place = rw c.deref.ensures.value at c.in-Some.ensures in
    let held = bytes_held-at c.args.files.now.items c.args.name.now c.in-Some.place c.index_mut-file.result.now (sym place) c.index_mut-file.ensures.value in
    let room = room_of-at c.args.files.now.items c.args.name.now c.in-Some.place c.index_mut-file.result.now (sym place) c.index_mut-file.ensures.value in (
      λ refused. absurd (cc refused),
      λ none. elim none [
        | inl missing ↦ absurd (cc (missing, held))
        | inr short ↦ absurd (omega (arith, room, c.room.ensures, short))
      ],
    )

pub returns-else-bytes-room-clause-held : goal.returns-else-bytes-room-clause-held
returns-else-bytes-room-clause-held c =
    let place = rw c.deref.ensures.value at c.in-Some.ensures in
    let holds = HoldsInstead-bytes c.args.files.now.items c.args.name.now c.in-Some.place c.index_mut-file.result.now c.args.bytes.now (sym place) c.index_mut-file.ensures.value in
    rw c.replace.ensures holds

pub returns-in-None-clause-refused : goal.returns-in-None-clause-refused
returns-in-None-clause-refused c =
    let no_place = rw c.deref.ensures.value at c.in-None.ensures in
    (λ _. inl (bytes_held-none c.args.files.now.items c.args.name.now (sym no_place)), λ _. refl)
