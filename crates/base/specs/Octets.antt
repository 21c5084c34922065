-- A list of numbers whose entries are bytes. A list that a slice of bytes holds is one; a definition takes any list.
use Rattle.std.specs.Prelude.{ℕ, ◌<◌, List}
use Rattle.base.specs.Bytes.{byte}

abbrev pub Octets : List ℕ → Type 0
Octets s = (k : ℕ) → byte s k < 256
