use Rattle.order_picture.proofs.picture.plan_told.Goals as goal

pub returns : goal.returns
returns c = λ topic is.
    let along = c.in_ok-along.ensures in
    record {
      order = along.order;
      part = along.part;
      told = is;
      focus = c.focus_of-focus.ensures;
      covers = along.covers;
      few = along.few;
      shown = along.shown;
      certain = along.certain;
      senders = along.senders;
      taken = along.taken;
    }
