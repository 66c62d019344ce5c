use Rattle.recovery_pool.proofs.tickets.Tickets.split.Given as goal

abbrev pub ghosts-split_part : goal.ghosts-split_part
ghosts-split_part a = record { part = a.share }
