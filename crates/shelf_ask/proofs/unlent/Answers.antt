-- `shelf_ask::unlent` meets its promise.
use Rattle.base.proofs.Tests.{told}
use Rattle.shelf_ask.proofs.Held.{no-17, no-18, no_none}
use Rattle.shelf_ask.proofs.unlent.Goals as goal

pub returns-then-size-ne-STORE : goal.returns-then-size-ne-STORE
returns-then-size-ne-STORE c = no-17 _ _ c.if-size-ne-STORE.true

pub returns-then-is_spoiled : goal.returns-then-is_spoiled
returns-then-is_spoiled c = no-18 _ _ c.if-size-ne-STORE.false (told c.is_spoiled.ensures c.if-is_spoiled.true)

pub returns : goal.returns
returns c = no_none _ _ c.if-size-ne-STORE.false (told c.is_spoiled.ensures c.if-is_spoiled.false)
