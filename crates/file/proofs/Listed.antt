-- Laws on the sections as a file lists them.
--   listed-append    those of two lists, one after the other
--   same_refl        a section shares the table with itself
use mathlib.Core.Path.{◌≡◌, refl}
use mathlib.Core.Bool.{true}
use mathlib.Core.List.{List, [], ◌∷◌, ◌++◌, append_assoc}
use Prim.Native.Nat.{ℕ}
use borrow.Author.Tests.{eq-eqb}
use Rattle.key.proofs.Keys.{key-itself}
use Rattle.section.specs.declared.Header.{Header}
use Rattle.file.specs.Layout.{listed, same_table}

pub listed-append : (a b : List (List ℕ)) → listed (a ++ b) ≡ listed a ++ listed b
unfolding listed
listed-append [] b = refl
listed-append (s ∷ a) b = rw (listed-append a b) (simp append_assoc)

pub same_refl : (h : Header) → same_table h h ≡ true
unfolding same_table
same_refl h =
    rw (
      key-itself h.key,
      eq-eqb h.version h.version refl,
      eq-eqb h.last h.last refl,
    )
