-- Stores from a place of the lent numbers on are a list of numbers put there.
--   item-made                    an item's ten numbers
use mathlib.Core.Path.{◌≡◌}
use mathlib.Core.List.{List}
use Prim.Native.Nat.{ℕ, suc, ◌+◌}
use native.Mathlib.Omega.{arith}
use lib.ListN.{set}
use lib.Seq.{sets}
use Rattle.base.specs.Bytes.{byte}
use Rattle.programme.specs.Field.{number}
use Rattle.programme_items.specs.Parts.{included_numbers, numbers_to}
use Rattle.programme_items.specs.declared.Parts.{Parts}
use Rattle.programme_items.proofs.Places.{There}

pub item-made : {s : List ℕ} {at : ℕ} {p : Parts} (t : There s at p) (l : List ℕ) (to : ℕ) {a : ℕ} {l₁ : List ℕ}
    → a ≡ number s at 4
    → l₁ ≡ sets (set (set l to a) (to + 1) p.flags) (to + 2) (included_numbers s (at + 6) p.flags)
    → set (set (set (set l₁ (to + 6) (p.named + 1)) (to + 7) (byte s p.counted)) (to + 8) (p.counted + 1)) (to + 9) p.next
    ≡ sets l to (numbers_to s at p.next)
item-made {s} {at} {p} t l to a e =
    let one : to + 1 ≡ suc to = omega arith in
    let two : to + 2 ≡ suc (suc to) = omega arith in
    let six : to + 6 ≡ suc (suc (suc (suc (suc (suc to))))) = omega arith in
    let seven : to + 7 ≡ suc (suc (suc (suc (suc (suc (suc to)))))) = omega arith in
    let eight : to + 8 ≡ suc (suc (suc (suc (suc (suc (suc (suc to))))))) = omega arith in
    let nine : to + 9 ≡ suc (suc (suc (suc (suc (suc (suc (suc (suc to)))))))) = omega arith in
    rw (e, one, two, six, seven, eight, nine, a, t.flags-are, t.named-is, t.counted_is)
