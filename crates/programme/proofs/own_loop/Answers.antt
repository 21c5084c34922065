-- `programme::own_loop` meets its promise: in each arm the count is the one that `count_items` promises.
use borrow.Author.Rules.{rules}
use mathlib.Core.Path.{◌∙◌}
use native.Mathlib.Omega.{arith}
use Rattle.refusal.proofs.Numbers.{handed_on}
use Rattle.programme.proofs.Readings.{listed}
use Rattle.programme.proofs.Counts.{no_items, items_of}
use Rattle.programme.proofs.Items.{own-refused, own-there}
use Rattle.programme.proofs.own_loop.Goals as goal

pub returns-in_err-_items : goal.returns-in_err-_items
returns-in_err-_items c = handed_on c.from_residual.result c.from_residual.ensures.1
    ∙ own-refused c.args.payload.now _ _ (no_items c.args.payload.now _ (search rules))

pub own_in-requires : goal.own_in-requires
own_in-requires c = let r = items_of c.args.payload.now c.in_ok-_items._items (search rules) in
    let l = listed _ _ r.reads in omega (arith, l.small)

pub returns : goal.returns
returns c = let r = items_of c.args.payload.now c.in_ok-_items._items (search rules) in
    c.own_in.ensures ∙ own-there _ _ _ r.reads
