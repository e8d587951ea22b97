use Rattle.sa_lines.proofs.quote.+hex_at.Given as goal

abbrev pub decreases-hex_at : goal.decreases-hex_at
decreases-hex_at l = l.left
