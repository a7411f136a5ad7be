use Rattle.th_cuts.proofs.branches.branch_of.Goals as goal

pub returns : goal.returns
returns c = record { before = c.requires.parent; cut = c.in_ok-cut.ensures }
