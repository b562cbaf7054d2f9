use Rattle.board.proofs.viewer.Viewer.snapshot.Goals as goal

pub returns-in_err-look-clause-looks : goal.returns-in_err-look-clause-looks
returns-in_err-look-clause-looks g c =
    let look = c.look.ensures in
    rw (← c.self.view_is) (record { seen = look.looked.seen; learnt = look.looked.learnt; begun = look.looked.begun; told = look.looked.told; board = look.board; schema = look.looked.schema })

pub returns-clause-looks : goal.returns-clause-looks
returns-clause-looks g c =
    let look = c.look.ensures in
    rw (← c.self.view_is) (record { seen = look.looked.seen; learnt = look.looked.learnt; begun = look.looked.begun; told = look.looked.told; board = look.board; schema = look.looked.schema })
