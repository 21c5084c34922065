-- How long the text of a section is.
--   section-short     at most 20 bytes for each of its own
use mathlib.Core.Path.{◌≡◌, refl, ap}
use mathlib.Core.List.{List}
use Prim.Native.Nat.{ℕ, zero, suc, ◌+◌, ◌*◌, ◌≤◌}
use native.Mathlib.Omega.{arith}
use lib.ListN.{length, length-append, length-take}
use Rattle.base.specs.Bits.{bit}
use Rattle.base.specs.Bytes.{part}
use Rattle.std.specs.Prelude.{Ok, Err, Some, None}
use Rattle.programme.specs.Field.{only}
use Rattle.programme.specs.Table.{flags as flags_of, content_name_length, content_descriptors_at}
use Rattle.programme.specs.Reading.{Reading, Step, Own, read_of, step_of, own_of}
use Rattle.programme.specs.declared.Item.{Item}
use Rattle.programme.proofs.Readings.{listed}
use Rattle.programme_lines.specs.Lines.{item_text}
use Rattle.refusal.specs.Refusal.{number}
use Rattle.programme_lines.proofs.Short.{refused-short, programme-short, list-short, item-short}
use Rattle.programme_section.specs.Section.{own_place, own_text, step_text, items_text, read_text, section_text}
use Rattle.programme_section.proofs.Facts.{item-facts}

module _ (n : ℕ) (s : List ℕ) where
  own-short : (at : ℕ) (o : Own) → length (own_text n s at o) ≤ 64
  own-short at (Ok l) = list-short l
  own-short at (Err m) = refused-short n (number m) (own_place n s at m)

  -- an item's text, and where its bytes end
  one-short : (k at : ℕ) (i : Item) → step_of s at k ≡ Ok (Some i)
      → (length (item_text (part s i.nameat i.named) k i) + 20 * at ≤ 20 * i.next) × (i.next ≤ length s)
  one-short k at i e =
      let w = (item-facts s at k i e).stands in
      let short = item-short (part s i.nameat i.named) k i in
      let name : length (part s i.nameat i.named) ≤ i.named = simp length-take (omega arith) in
      let long : i.named ≡ content_name_length s at = ap (λ (x : Item). x.named) w.says in
      let flags : i.flags ≡ flags_of s at = ap (λ (x : Item). x.flags) w.says in
      let length-too : only (bit i.flags 5) 3 ≡ only (bit (flags_of s at) 5) 3 = ap (λ f. only (bit f 5) 3) flags in
      let delay-too : only (bit i.flags 4) 3 ≡ only (bit (flags_of s at) 4) 3 = ap (λ f. only (bit f 4) 3) flags in
      let expires-too : only (bit i.flags 3) 4 ≡ only (bit (flags_of s at) 3) 4 = ap (λ f. only (bit f 3) 4) flags in
      let size-too : only (bit i.flags 2) 5 ≡ only (bit (flags_of s at) 2) 5 = ap (λ f. only (bit f 2) 5) flags in
      let next : i.next ≡ w.end = ap (λ (x : Item). x.next) w.says in
      let low : content_descriptors_at s at ≤ w.end = w.low in
      let high : w.end ≤ length s = w.high in
      (omega arith, omega arith)

  items-short : (left k at : ℕ) → at ≤ length s → length (items_text n s left k at) + 20 * at ≤ 20 * length s + 64
  unfolding items_text
  items-short zero k at l = omega (arith, own-short at (own_of s at))
  items-short (suc left) k at l = go (items-short left (k + 1)) (step_of s at k) refl
    where
      go : ((to : ℕ) → to ≤ length s → length (items_text n s left (k + 1) to) + 20 * to ≤ 20 * length s + 64)
          → (x : Step) → step_of s at k ≡ x → length (step_text n s k at x (items_text n s left (k + 1))) + 20 * at ≤ 20 * length s + 64
      go ih (Ok (Some i)) e =
          let one = one-short k at i e in
          let rest = ih i.next one.1 in
          let first : length (item_text (part s i.nameat i.named) k i) + 20 * at ≤ 20 * i.next = one.0 in
          simp length-append (omega arith)
      go ih (Err m) e = omega (arith, refused-short n (number m) at)
      go ih (Ok None) e = omega arith

  pub section-short : 8 ≤ length s → length (section_text n s) ≤ 20 * length s
  unfolding section_text
  section-short l = go (read_of s) refl
    where
      go : (r : Reading) → read_of s ≡ r → length (read_text n s r) ≤ 20 * length s
      go (Err m) e = omega (arith, refused-short n (number m) 8)
      go (Ok p) e =
          let long : 17 ≤ length s = (listed s p e).long in
          simp length-append (omega (arith, programme-short n p, items-short p.items 0 17 long))
