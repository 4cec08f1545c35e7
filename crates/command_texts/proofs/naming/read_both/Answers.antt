use Rattle.command_texts.proofs.naming.read_both.Goals as goal

pub returns : goal.returns
returns g c =
    let t = c.in_ok-take_text.ensures in
    let h = (c.in_ok-found.ensures t.0 (t.2 c.new-both.ensures)).0 in
    (h.0, record { bytes = t.0; are_read = t.1; are_cut = h.1 }, h.2, h.3, h.4, h.5)
