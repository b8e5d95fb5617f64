use Rattle.word_ops.proofs.tests.steps_are_made_from_a_blank.Given as goal

-- the name and the one part of the blank that is passed
abbrev pub ghosts-steps_of_two : goal.ghosts-steps_of_two
ghosts-steps_of_two a = record { name = a.blank.name; parts = a.blank.parts }
