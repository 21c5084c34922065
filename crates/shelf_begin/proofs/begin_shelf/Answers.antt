-- `shelf_begin::begin_shelf` meets its promise.
use mathlib.Core.Path.{ap, ◌∙◌}
use lib.ListN.{replicate}
use Rattle.base.specs.Bytes.{zeros}
use Rattle.shelf_begin.proofs.On.{begin-17, begin-18, begun}
use Rattle.shelf_begin.proofs.begin_shelf.Goals as goal

pub returns-then-store-ne-STORE : goal.returns-then-store-ne-STORE
returns-then-store-ne-STORE c = begin-17 _ _ c.if-store-ne-STORE.true

pub returns-then-words-ne-WORDS : goal.returns-then-words-ne-WORDS
returns-then-words-ne-WORDS c = begin-18 _ _ c.if-store-ne-STORE.false c.if-words-ne-WORDS.true

pub returns : goal.returns
unfolding zeros
returns c =
    begun _ _ c.if-store-ne-STORE.false c.if-words-ne-WORDS.false
    (c.fill.ensures.after (λ _ e. e) ∙ ap (λ n. replicate n 0) c.if-store-ne-STORE.false) c.put_fresh.ensures
