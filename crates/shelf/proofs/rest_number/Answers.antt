-- `shelf::rest_number` meets its promise: three numbers of a place as one.
use borrow.Author.Rules.{rules}
use mathlib.Core.Path.{◌≡◌}
use Prim.Native.Nat.{◌+◌, ◌*◌}
use Rattle.shelf.specs.Calls.{number_among}
use Rattle.shelf.proofs.Numbers.{rest-summed}
use Rattle.shelf.proofs.rest_number.Goals as goal

pub returns : goal.returns
returns c = let service : c.from-service.result ≡ number_among c.args.words.now 84 3 c.args.p = search rules in
    let start : c.from.result ≡ c.number_of-high.result * 65536 + c.number_of-low.result = search rules in
    rest-summed _ _ service c.number_of-high.ensures c.number_of-low.ensures start
