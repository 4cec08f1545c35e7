use Rattle.windows.proofs.cutting.cut.Given as goal

abbrev pub ghosts-mark : goal.ghosts-mark
ghosts-mark g a = record { guide = record { window = a.window; known = a.known } }

abbrev pub ghosts-write : goal.ghosts-write
ghosts-write g a = record { guide = record { window = a.window; known = a.known } }
