-- What the theorems of this crate speak of is what a host links: each promise is its own proof.
use Rattle.demands.specs.Linked.{Linked}

pub linked : Linked
linked = search
