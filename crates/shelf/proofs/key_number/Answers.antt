-- `shelf::key_number` meets its promise: two numbers of a place as one.
use borrow.Author.Rules.{rules}
use mathlib.Core.Path.{◌≡◌}
use Rattle.shelf.specs.Calls.{number_among}
use Rattle.shelf.proofs.Numbers.{key-summed}
use Rattle.shelf.proofs.key_number.Goals as goal

pub returns : goal.returns
returns c = let table : c.from-table.result ≡ number_among c.args.words.now 64 4 c.args.p = search rules in
    let extension : c.from-extension.result ≡ number_among c.args.words.now 65 4 c.args.p = search rules in
    key-summed _ _ table extension
