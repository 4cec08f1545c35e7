use Rattle.command_texts.proofs.reading.read_text.Goals as goal

pub returns : goal.returns
returns g c =
    let t = c.in_ok-take_text.ensures in
    let h = c.in_ok-end.ensures t.0 (t.2 c.new-taker.ensures) in
    (t.0, t.1, h.0, h.1)
