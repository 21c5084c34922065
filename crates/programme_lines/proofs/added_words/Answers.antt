-- `programme_lines::added_words` meets its promise: of an NRT-IT the two fields follow each other, each number as the lister writes it.
use mathlib.Core.Path.{◌≡◌}
use mathlib.Core.List.{List, ◌++◌}
use Prim.Native.Nat.{ℕ, ◌<◌}
use borrow.Author.Rules.{rules}
use borrow.Author.Tests.{eq-eqb, ne_eqb}
use Rattle.key.specs.Key.{nrt_it}
use Rattle.key.specs.declared.Key.{Key}
use Rattle.file_listing.specs.Listing.{added_words}
use Rattle.text.specs.Words.{field}
use Rattle.text.specs.Over.{Wrote}
use Rattle.text.proofs.Short.{same-decimal, same-long}
use Rattle.text.proofs.Writing.{nothing}
use Rattle.programme_lines.proofs.added_words.Goals as goal

module _ (key : Key) {out : List ℕ} {at : ℕ} where
  not-added : ¬ (key.table ≡ nrt_it) → Wrote (added_words key) out at out at
  unfolding added_words
  not-added d = rw (ne_eqb key.table nrt_it d) (nothing out at)

  are-added : {after : List ℕ} {end : ℕ} → key.table ≡ nrt_it → key.service < 100000 → key.start < 10000000000
      → Wrote (field " service " key.service ++ field " start " key.start) out at after end → Wrote (added_words key) out at after end
  unfolding added_words
  are-added e s t w = rw (eq-eqb key.table nrt_it e, ← same-decimal key.service s, ← same-long key.start t) w

pub returns-then-key-ne-NRT_IT : goal.returns-then-key-ne-NRT_IT
returns-then-key-ne-NRT_IT c = not-added _ c.if-key-ne-NRT_IT.true

pub returns : goal.returns
returns c = are-added _ c.if-key-ne-NRT_IT.false (search rules) (search rules) (rw (c.from.ensures, c.from-2.ensures) at c.pair.ensures)
