-- The quick pass: what it shows of each place is enough.
--   place-sound     of a place, taken or free
--   keys-decide     then the keys decide of the record
--   both-pass, keys-asked   so of the pass, and where only the masks were asked
use mathlib.Core.Path.{◌≡◌, refl, sym, ◌∙◌}
use mathlib.Core.Bool.{Bool, true, false, not, ◌&&◌}
use mathlib.Core.List.{List}
use Prim.Native.Nat.{ℕ, ◌+◌, ◌*◌, ◌%◌, ◌<◌, ◌≤◌}
use native.Mathlib.Nat.{zero-add}
use native.Mathlib.Omega.{arith}
use lib.Dec.{eqb}
use lib.ListN.{get_or}
use borrow.Author.Tests.{eq-eqb, ne_eqb, le-ltb, not-true}
use Rattle.base.specs.Below.{some}
use Rattle.base.proofs.Below.{some-all, some-which, some-found}
use Rattle.base.proofs.Cases.{by, and_left, and_right}
use Rattle.shelf.specs.Record.{length_at, holds, wrong_at, alike, spoiled_place, spoiled_of, place_at}
use Rattle.base.specs.Bits.{bit}
use Rattle.shelf.specs.Layout.{table_in, taken_in, place_in, shelf_in}
use Rattle.base.proofs.Bits.{none_above, one_set}
use Rattle.shelf.proofs.Numbers.{length-in}
use Rattle.shelf_check.specs.Fine.{FineLength, FineColumns, FineMasks, Apart, NoneAbove, OneHeld, any_alike}
use Rattle.shelf_check.proofs.Four.{some-four, pairs}

-- sixteen lengths
abbrev Lengths : List ℕ → ℕ → Type 0
Lengths words at = (n : ℕ) → n < 16 → FineLength words (at + n)

off : (b : Bool) → b && false ≡ false
off true = refl
off false = refl

module _ (words : List ℕ) (p : ℕ) where
  abbrev mask : ℕ
  mask = get_or words (80 + p) 0

  abbrev size : ℕ → ℕ
  size n = get_or words (16 * p + n) 0

  -- one section
  held : (n : ℕ) → n < 16 → bit mask n ≡ true → 8 ≤ size n → length_at (table_in words p) n ≡ size n
  held n h b l = rw (length-in words p n h, b, ne_eqb (size n) 0 (λ z. omega arith))

  not-held : (n : ℕ) → n < 16 → bit mask n ≡ false → length_at (table_in words p) n ≡ 0
  not-held n h b = rw (length-in words p n h, b)

  abbrev last : ℕ
  last = get_or words (67 + 4 * p) 0

  wrong-none : NoneAbove words p → last ≤ 15 → Lengths words (16 * p) → (n : ℕ) → n < 16 → wrong_at (table_in words p) n ≡ false
  unfolding table_in
  wrong-none f l s n h =
      by (bit mask n)
      (λ b.
      let e : length_at (table_in words p) n ≡ size n = held n h b (s n h).0 in
      let low : n ≤ last % 32 = none_above mask (last % 32) n f.low b in
      rw (
        le-ltb last n (omega arith),
        le-ltb (length_at (table_in words p) n) 8 (omega (arith, e, (s n h).0)),
        le-ltb 1024 (length_at (table_in words p) n) (omega (arith, e, (s n h).1)),
      )
      (off (not (eqb (length_at (table_in words p) n) 0))))
      (λ b. rw (eq-eqb (length_at (table_in words p) n) 0 (not-held n h b)))

  some-held : OneHeld words p → Lengths words (16 * p) → some 16 (holds (table_in words p)) ≡ true
  some-held f s =
      let w = some-which (bit mask) 16 (one_set 16 mask f.fits f.some) in
      let e : length_at (table_in words p) w.0 ≡ size w.0 = held w.0 w.1 w.2 (s w.0 w.1).0 in
      some-found (holds (table_in words p)) 16 w.0 w.1
      (rw (ne_eqb (length_at (table_in words p) w.0) 0 (λ z. omega (arith, e, (s w.0 w.1).0))))

  table-sound :
      NoneAbove words p
      → OneHeld words p
      → get_or words (66 + 4 * p) 0 ≤ 31
      → last ≤ 15
      → Lengths words (16 * p)
      → spoiled_place (table_in words p) ≡ false
  unfolding spoiled_place table_in
  table-sound f o v l s =
      rw (
        some-all (wrong_at (table_in words p)) 16 (wrong-none f l s),
        some-held o s,
        le-ltb 31 (get_or words (66 + 4 * p) 0) v,
        le-ltb 15 last l,
      )

  pub place-sound :
      NoneAbove words p
      → OneHeld words p
      → get_or words (66 + 4 * p) 0 ≤ 31
      → last ≤ 15
      → Lengths words (16 * p)
      → spoiled_place (place_in words p) ≡ false
  unfolding place_in spoiled_place
  place-sound f o v l s = by (taken_in words p) (λ t. rw t (table-sound f o v l s)) (λ t. rw t)

module _ (words : List ℕ) where
  -- masks, lengths, versions and lasts are fine: then the keys decide
  pub keys-decide : FineMasks words → FineColumns words → spoiled_of (shelf_in words) ≡ any_alike words
  unfolding spoiled_of shelf_in any_alike
  keys-decide f g =
      rw (
        some-four (λ p. spoiled_place (place_at (shelf_in words) p)),
        place-sound words 0 (f.low 0 (omega arith)) (f.held 0 (omega arith)) (g 2 (omega arith)).head (g 3 (omega arith)).head (λ k h. rw zero-add (g k h).first),
        place-sound words 1 (f.low 1 (omega arith)) (f.held 1 (omega arith)) (g 6 (omega arith)).head (g 7 (omega arith)).head (λ k h. (g k h).second),
        place-sound words 2 (f.low 2 (omega arith)) (f.held 2 (omega arith)) (g 10 (omega arith)).head (g 11 (omega arith)).head (λ k h. (g k h).third),
        place-sound words 3 (f.low 3 (omega arith)) (f.held 3 (omega arith)) (g 14 (omega arith)).head (g 15 (omega arith)).head (λ k h. (g k h).fourth),
        pairs (λ p q. alike (place_at (shelf_in words) p) (place_at (shelf_in words) q)),
        pairs (λ p q. alike (place_in words p) (place_in words q)),
      )

  none_alike : Apart words → any_alike words ≡ false
  unfolding any_alike
  none_alike a =
      some-all (λ q. some q (λ p. alike (place_in words p) (place_in words q))) 4
      (λ q j. some-all (λ p. alike (place_in words p) (place_in words q)) q (λ p i. a.pair p q i j))

  pub both-pass :
      {a b : Bool}
      → (a ≡ true → FineMasks words × Apart words)
      → (b ≡ true → FineColumns words)
      → a && b ≡ true
      → spoiled_of (shelf_in words) ≡ false
  both-pass {a} {b} f g e =
      let heads = f (and_left a b e) in
      keys-decide heads.0 (g (and_right a b e)) ∙ none_alike heads.1

  -- the same where only the masks were asked
  pub keys-asked :
      {stop b r : Bool}
      → (stop ≡ false → FineMasks words)
      → (b ≡ true → FineColumns words)
      → not stop && b ≡ true
      → r ≡ any_alike words
      → r ≡ spoiled_of (shelf_in words)
  keys-asked {stop} {b} f g e k = k ∙ sym (keys-decide (f (not-true stop (and_left (not stop) b e))) (g (and_right (not stop) b e)))
