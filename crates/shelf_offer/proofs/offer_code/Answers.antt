-- `shelf_offer::offer_code` meets its promise: 17, 18 for another count of numbers, and the rest by the reading.
use Rattle.base.proofs.Tests.{told}
use Rattle.shelf_offer.proofs.Left.{no_store, no-count, unread}
use Rattle.shelf_offer.proofs.offer_code.Goals as goal

pub returns-then-store-ne-STORE : goal.returns-then-store-ne-STORE
returns-then-store-ne-STORE c = no_store _ _ _ c.if-store-ne-STORE.true c.code_of.ensures

pub returns-then-words-ne-WORDS : goal.returns-then-words-ne-WORDS
returns-then-words-ne-WORDS c = no-count _ _ _ c.if-store-ne-STORE.false c.if-words-ne-WORDS.true c.code_of-then-words-ne-WORDS.ensures

pub returns-in-Err : goal.returns-in-Err
returns-in-Err c = unread _ _ _ _ c.if-store-ne-STORE.false (told c.read.ensures c.in-Err.is) c.refuse.ensures
