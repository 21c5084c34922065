-- How many items a list has, as the code goes about it.
--   no_items, items_of     what a count says of the reading
--   items-long, read_made  and of the fields before the items
use mathlib.Core.Path.{◌≡◌, refl, sym, ap, ◌∙◌}
use mathlib.Core.List.{List}
use Prim.Native.Nat.{ℕ, ◌%◌, ◌≤◌}
use native.Mathlib.Omega.{arith}
use lib.ListN.{length}
use Rattle.std.specs.Prelude.{Ok, Err}
use Rattle.refusal.specs.declared.Refusal.{Refusal}
use Rattle.programme.specs.Field.{number}
use Rattle.programme.specs.Count.{count_of}
use Rattle.programme.specs.Reading.{Reading, read_of}
use Rattle.programme.specs.declared.Programme.{Programme}
use Rattle.programme.proofs.Numbers.{service-is, start_is}
use Rattle.programme.proofs.Readings.{listed}

-- the fields before the items, of which the number of items is known
pub record Reads (s : List ℕ) (n : ℕ) : Type 0 where
  pub programme : Programme
  pub reads : read_of s ≡ Ok programme
  pub many : programme.items ≡ n

module _ (s : List ℕ) where
  pub no_items : (n : Refusal) → Err n ≡ count_of (read_of s) → read_of s ≡ Err n
  no_items n e = go (read_of s) refl
    where
      go : (r : Reading) → read_of s ≡ r → read_of s ≡ Err n
      go (Err m) q =
          let z : Err n ≡ Err m = e ∙ ap count_of q in let y : m ≡ n = cc in q ∙ ap Err y
      go (Ok p) q =
          let z : Err n ≡ Ok p.items = e ∙ ap count_of q in absurd (let y : ◌≡◌ {A = ℕ} 0 1 = cc in omega arith)

  pub items_of : (n : ℕ) → Ok n ≡ count_of (read_of s) → Reads s n
  items_of n e = go (read_of s) refl
    where
      go : (r : Reading) → read_of s ≡ r → Reads s n
      go (Err m) q =
          let z : Ok n ≡ Err m = e ∙ ap count_of q in absurd (let y : ◌≡◌ {A = ℕ} 0 1 = cc in omega arith)
      go (Ok p) q =
          let z : Ok n ≡ Ok p.items = e ∙ ap count_of q in record { programme = p; reads = q; many = cc }

module _ {s : List ℕ} {n : ℕ} (r : Reads s n) where
  pub items-long : 17 ≤ length s
  items-long = (listed s r.programme r.reads).long

  pub read_made : {a b c : ℕ} → a ≡ number s 8 2 → b ≡ number s 10 4 → c ≡ number s 14 2
      → Ok (record { service = a; start = b; minutes = c % 2048; items = n }) ≡ read_of s
  read_made x y z =
      let says = (listed s r.programme r.reads).says in
      let many = sym r.many ∙ ap (λ (p : Programme). p.items) says in
      rw (x ∙ service-is s, y ∙ start_is s, z, many) (sym (r.reads ∙ ap Ok says))
