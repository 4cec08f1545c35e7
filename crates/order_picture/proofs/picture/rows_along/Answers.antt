use Rattle.order_picture.proofs.picture.rows_along.Goals as goal

pub returns : goal.returns
returns c =
    let rows = c.in_ok-rows.ensures in
    record {
      order = c.in_ok-names.field-0.names.items;
      part = c.in_ok-names.ensures.part;
      covers = rw c.deref.ensures.value at rows.covers;
      few = rows.few;
      shown = rw c.deref.ensures.value at rows.shown;
      certain = rw c.deref.ensures.value at rows.certain;
      senders = rw c.deref-2.ensures.value at c.in_ok-senders.ensures;
      taken = c.in_ok-names.ensures.taken;
    }
