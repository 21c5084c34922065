use Rattle.shelf_write.specs.Writes.{held_in}
use Rattle.shelf_write.proofs.put_length.Goals as goal

pub returns : goal.returns
unfolding held_in
returns c = rw c.with_bit-mask.ensures
