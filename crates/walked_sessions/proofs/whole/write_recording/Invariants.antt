use Rattle.walked_sessions.proofs.whole.write_recording.Given as goal

abbrev pub ghosts-write_through : goal.ghosts-write_through
ghosts-write_through g a = record { name = a.opened.output.ghost_name; start = g.W.Write.contents a.opened.output.now; front = a.opened.text.now.front; init = a.opened.text.now.init }
