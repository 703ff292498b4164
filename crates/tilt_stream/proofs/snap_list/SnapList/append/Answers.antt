use Rattle.tilt_stream.proofs.snap_list.SnapList.append.Goals as goal

pub invariant_of-self-2 : goal.invariant_of-self-2
invariant_of-self-2 c = rw (c.in_ok-extend_from_slice.ensures.items, c.self.view_is) c.requires
