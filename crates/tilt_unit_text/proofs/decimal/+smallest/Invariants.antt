use Rattle.tilt_unit_text.proofs.decimal.+smallest.Given as goal

abbrev pub decreases-smallest : goal.decreases-smallest
decreases-smallest l = l.decimals
