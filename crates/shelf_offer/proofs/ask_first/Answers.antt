-- `shelf_offer::ask_first` meets its promise.
use Rattle.base.proofs.Tests.{told}
use Rattle.shelf_offer.proofs.Left.{all-spoiled}
use Rattle.shelf_offer.proofs.ask_first.Goals as goal

pub returns-then-is_spoiled : goal.returns-then-is_spoiled
returns-then-is_spoiled c = all-spoiled _ _ _ c.requires.store_len (told c.is_spoiled.ensures c.if-is_spoiled.true) c.code_of.ensures
