-- `shelf_load::load_file` meets its promise.
use borrow.Author.Rules.{rules}
use mathlib.Core.Path.{◌≡◌, ap, ◌∙◌}
use Rattle.std.specs.Prelude.{Ok}
use Rattle.base.proofs.Tests.{told}
use Rattle.refusal.proofs.Numbers.{handed_on}
use Rattle.shelf.proofs.Numbers.{spoiled-count}
use Rattle.file.specs.Scan.{scan_of}
use Rattle.shelf_load.specs.On.{leaving}
use Rattle.shelf_load.proofs.Answers.{scanned-within, load-17, load-18, load-fault, load-table}
use Rattle.shelf_load.proofs.load_file.Goals as goal

pub returns-then-store-ne-STORE : goal.returns-then-store-ne-STORE
returns-then-store-ne-STORE c = load-17 _ _ _ c.if-store-ne-STORE.true

pub returns-then-is_spoiled : goal.returns-then-is_spoiled
returns-then-is_spoiled c = load-18 _ _ _ c.if-store-ne-STORE.false (told c.is_spoiled.ensures c.if-is_spoiled.true)

pub returns-in_err-table : goal.returns-in_err-table
returns-in_err-table c =
    ap (λ r. leaving r c.args.words.now c.args.store.now) (handed_on c.from_residual.result c.from_residual.ensures.1)
    ∙ load-fault _ _ _ c.if-store-ne-STORE.false (told c.is_spoiled.ensures c.if-is_spoiled.false) (search rules)

pub load_table-requires-clause-words_len : goal.load_table-requires-clause-words_len
load_table-requires-clause-words_len c = (spoiled-count _ (told c.is_spoiled.ensures c.if-is_spoiled.false), search rules)

pub load_table-requires-clause-within : goal.load_table-requires-clause-within
load_table-requires-clause-within c =
    let e : scan_of c.args.file.now ≡ Ok c.in_ok-table.table = search rules in
    scanned-within _ _ e

pub returns : goal.returns
returns c =
    let e : scan_of c.args.file.now ≡ Ok c.in_ok-table.table = search rules in
    load-table _ _ _ c.if-store-ne-STORE.false (told c.is_spoiled.ensures c.if-is_spoiled.false) _ e c.load_table.ensures
