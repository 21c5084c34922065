-- What this layer's calls write, on any numbers: nothing where they are no record, or have no such place or section.
use Rattle.std.specs.Prelude.{ℕ, List, eqb, length, if◌then◌else◌}
use Rattle.key.specs.declared.Key.{Key}
use Rattle.shelf.specs.Layout.{count}
use Rattle.shelf.specs.Calls.{has_place, has_section}
use Rattle.shelf_write.specs.Writes.{held_in, freed_in, head_in, fresh_words}

unfoldable pub held_put : List ℕ → ℕ → ℕ → ℕ → List ℕ
held_put words p n size = if has_section (length words) p n then held_in words p n size else words

unfoldable pub head_put : List ℕ → ℕ → Key → ℕ → ℕ → List ℕ
head_put words p key version last = if has_place (length words) p then head_in words p key version last else words

unfoldable pub freed_put : List ℕ → ℕ → List ℕ
freed_put words p = if has_place (length words) p then freed_in words p else words

unfoldable pub fresh_put : List ℕ → List ℕ
fresh_put words = if eqb (length words) count then fresh_words else words
