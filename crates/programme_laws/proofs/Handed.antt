-- A host loses nothing of the items that cross the boundary (`programme_answers`, `specs/Lent.antt` has the words).
--   items_untouched, items_refused, items_handed, items_15, items_over, items_come_back, items_rest, items_on
--   items_go_on, items_longest, items_few
--   one_walk
--   handed_walk     they are those of the walk (`specs/Theorems.antt`)
use mathlib.Core.Path.{◌≡◌, refl, sym, ap, subst, ◌∙◌}
use mathlib.Core.List.{List, ◌∷◌, ◌++◌}
use Prim.Native.Nat.{ℕ, zero, suc, ◌+◌, ◌-◌, ◌*◌, ◌/◌, ◌%◌, ◌^◌, ◌<◌, ◌≤◌}
use native.Mathlib.Omega.{arith}
use lib.Dec.{ltb}
use lib.ListN.{length, drop, length-drop, length-append}
use lib.Seq.{drop_at}
use borrow.Author.Tests.{ltb-true, ltb-false}
use Rattle.base.proofs.Cases.{by}
use Rattle.std.specs.Prelude.{Ok, Err, Some, None}
use Rattle.refusal.specs.Refusal.{number}
use Rattle.refusal.specs.declared.Refusal.{Refusal}
use Rattle.answers.specs.Answers.{Out, out}
use Rattle.programme.specs.Reading.{Step, step_of}
use Rattle.programme.specs.declared.Item.{Item}
use Rattle.programme_items.specs.Items.{items_from, all_numbers, place_after, item_back, numbers_of, Walked}
use Rattle.programme_items.specs.declared.Passed.{Passed}
use Rattle.programme_items.proofs.Handed.{walk_refused, walk-over, walk-short, walk-there}
use Rattle.programme_items.proofs.Chains.{all-long}
use Rattle.programme_items.proofs.Narrows.{back}
use Rattle.programme_answers.proofs.Bounds as bounds
use Rattle.programme_answers.specs.Lent.{items_kind, over_kind, passed_code, items_lent, items_back}
use Rattle.programme_answers.specs.Lent.{ItemsUntouched, ItemsRefused, ItemsHanded, Items15, ItemsOver, ItemsComeBack, ItemsRest, ItemsOn, ItemsGoOn, ItemsLongest, ItemsFew}
use Rattle.programme_answers.proofs.Laws.{lent}
use Rattle.programme_laws.specs.Walk.{walk}
use Rattle.programme_laws.specs.Theorems.{HandedWalk, OneWalk}
use Rattle.programme_laws.proofs.ExactlyWhen as when
use Rattle.programme_laws.proofs.Hosts.{Number, numbered}

-- items come back out of their numbers
all_back : (n : ℕ) (s : List ℕ) (at k : ℕ) (rest : List ℕ) → items_from n s at k ≡ items_back (length (items_from n s at k)) (all_numbers (items_from n s at k) ++ rest)
unfolding items_back all_numbers
all_back zero s at k rest = rw (bounds.from-none s at k)
all_back (suc n) s at k rest = go (λ to. all_back n s to (k + 1)) (step_of s at k) refl
  where
    go : ((to : ℕ) (rest : List ℕ) → items_from n s to (k + 1) ≡ items_back (length (items_from n s to (k + 1))) (all_numbers (items_from n s to (k + 1)) ++ rest))
        → (x : Step) → step_of s at k ≡ x → items_from (suc n) s at k ≡ items_back (length (items_from (suc n) s at k)) (all_numbers (items_from (suc n) s at k) ++ rest)
    go ih (Ok (Some i)) q =
        let b : item_back (numbers_of i ++ all_numbers (items_from n s i.next (k + 1)) ++ rest) ≡ i
        = back s at i (sym (bounds.step-there s at k i q).there) (all_numbers (items_from n s i.next (k + 1)) ++ rest) in
        rw (bounds.from_next s at k n i q)
        (ap (λ x. x ∷ items_from n s i.next (k + 1)) (sym b)
        ∙ ap (λ is. item_back (numbers_of i ++ all_numbers (items_from n s i.next (k + 1)) ++ rest) ∷ is) (ih i.next rest))
    go ih (Ok None) q = rw (bounds.from-over s at k (suc n) q)
    go ih (Err m) q = rw (bounds.from-refused s at k (suc n) q)

-- what a number has in its bits
parts : (c n : ℕ) → c < 65536 → ((256 + c * 65536 + n * 4294967296) % 65536 ≡ 256) × (((256 + c * 65536 + n * 4294967296) / 65536 % 65536 ≡ c) × ((256 + c * 65536 + n * 4294967296) / 4294967296 ≡ n))
parts c n l = (omega arith, (omega arith, omega arith))

module _ (s fields : List ℕ) (at k : ℕ) where
  -- how many items are handed out and the place after them, and the buffer then
  abbrev passed : Passed
  passed = record { count = length (items_from (length fields / 10) s at k); next = place_after at (items_from (length fields / 10) s at k) }

  abbrev put : List ℕ
  put = all_numbers (items_from (length fields / 10) s at k) ++ drop (10 * length (items_from (length fields / 10) s at k)) fields

  -- what is so of each way out is so of the call
  each : (q : Out → Type 0)
      → ((n : Refusal) → step_of s at k ≡ Err n → Number (number n) → q (out (number n) fields))
      → (step_of s at k ≡ Ok None → q (out 512 fields))
      → ((i : Item) → step_of s at k ≡ Ok (Some i) → length fields < 10 → q (out 15 fields))
      → ((i : Item) → step_of s at k ≡ Ok (Some i) → 10 ≤ length fields → q (out (passed_code passed) put))
      → q (items_lent s at k fields)
  each q a o b c = go (step_of s at k) refl
    where
      go : (r : Step) → step_of s at k ≡ r → q (items_lent s at k fields)
      go (Err n) e = subst q (lent s at k fields (walk_refused s at k fields e) refl) (a n e (numbered (when.step_range s at k n e)))
      go (Ok None) e = subst q (lent s at k fields (walk-over s at k fields e) refl) (o e)
      go (Ok (Some i)) e =
          by (ltb (length fields) 10)
          (λ t. let h : length fields < 10 = ltb-true _ _ t in subst q (lent s at k fields (walk-short s at k fields i e h) refl) (b i e h))
          (λ f. let h : 10 ≤ length fields = ltb-false _ _ f in subst q (lent s at k fields (walk-there s at k fields i e h) refl) (c i e h))

  code_is : {o : Out} → o ≡ items_lent s at k fields → (items_lent s at k fields).code ≡ o.code
  code_is e = ap (λ (o : Out). o.code) (sym e)

  module _ (i : Item) (e : step_of s at k ≡ Ok (Some i)) where
    few : length (items_from (length fields / 10) s at k) < 65536
    few = let h : length (items_from (length fields / 10) s at k) ≤ 125 = (bounds.reaches (length fields / 10) s at k i e).few in omega arith

    kind-is : passed_code passed % 2 ^ 16 ≡ items_kind
    kind-is = (parts _ _ few).0

    large : 256 ≤ passed_code passed
    large = omega arith

  pub items_untouched : ItemsUntouched s fields at k
  items_untouched =
      each (λ o. ¬ (o.code % 2 ^ 16 ≡ items_kind) → o.out ≡ fields) (λ n e h z. refl) (λ e z. refl) (λ i e h z. refl) (λ i e h z. absurd (z (kind-is i e)))

  pub items_refused : ItemsRefused s fields at k
  items_refused n l f = (
    each (λ o. o.code ≡ n → (r : Refusal) × ((number r ≡ n) × (step_of s at k ≡ Err r)))
        (λ m e h q. (m, (q, e)))
        (λ e q. absurd (omega arith))
        (λ i e h q. absurd (f (sym q)))
        (λ i e h q. absurd (let g = large i e in omega (arith, g, q))),
    λ w. code_is (lent s at k fields (walk_refused s at k fields w.1.1) refl) ∙ w.1.0,
  )

  pub items_handed : ItemsHanded s fields at k
  items_handed = (
    each (λ o. o.code % 2 ^ 16 ≡ items_kind → ((i : Item) × (step_of s at k ≡ Ok (Some i))) × (10 ≤ length fields))
        (λ n e h z. absurd (let l : number n < 256 = h.high in omega arith))
        (λ e z. absurd (omega arith))
        (λ i e h z. absurd (omega arith))
        (λ i e h z. ((i, e), h)),
    λ w. ap (λ n. n % 2 ^ 16) (code_is (lent s at k fields (walk-there s at k fields w.0.0 w.0.1 w.1) refl)) ∙ kind-is w.0.0 w.0.1,
  )

  pub items_15 : Items15 s fields at k
  items_15 = (
    each (λ o. o.code ≡ 15 → ((i : Item) × (step_of s at k ≡ Ok (Some i))) × (length fields < 10))
        (λ n e h z. absurd (h.other z))
        (λ e z. absurd (omega arith))
        (λ i e h z. ((i, e), h))
        (λ i e h z. absurd (let g = large i e in omega (arith, g, z))),
    λ w. code_is (lent s at k fields (walk-short s at k fields w.0.0 w.0.1 w.1) refl),
  )

  pub items_over : ItemsOver s fields at k
  items_over = (
    each (λ o. o.code ≡ over_kind → step_of s at k ≡ Ok None)
        (λ n e h z. absurd (let l : number n < 256 = h.high in omega arith))
        (λ e z. e)
        (λ i e h z. absurd (omega arith))
        (λ i e h z. absurd (let g = kind-is i e in let y : passed_code passed % 2 ^ 16 ≡ 512 = ap (λ n. n % 2 ^ 16) z in omega (arith, g, y))),
    λ e. code_is (lent s at k fields (walk-over s at k fields e) refl),
  )

  pub items_come_back : ItemsComeBack s fields at k
  items_come_back =
      each
      (λ o. o.code % 2 ^ 16 ≡ items_kind
      → (items_from (length fields / 10) s at k ≡ items_back (o.code / 2 ^ 16 % 2 ^ 16) o.out)
      × (place_after at (items_from (length fields / 10) s at k) ≡ o.code / 2 ^ 32))
      (λ n e h z. absurd (let l : number n < 256 = h.high in omega arith))
      (λ e z. absurd (omega arith))
      (λ i e h z. absurd (omega arith))
      (λ i e h z.
      let p = parts (length (items_from (length fields / 10) s at k)) (place_after at (items_from (length fields / 10) s at k)) (few i e) in
      (all_back (length fields / 10) s at k (drop (10 * length (items_from (length fields / 10) s at k)) fields) ∙ ap (λ n. items_back n put) (sym p.1.0), sym p.1.1))

  pub items_rest : ItemsRest s fields at k
  items_rest =
      each
      (λ o. o.code % 2 ^ 16 ≡ items_kind
      → (drop (10 * (o.code / 2 ^ 16 % 2 ^ 16)) o.out ≡ drop (10 * (o.code / 2 ^ 16 % 2 ^ 16)) fields) × (length o.out ≡ length fields))
      (λ n e h z. absurd (let l : number n < 256 = h.high in omega arith))
      (λ e z. absurd (omega arith))
      (λ i e h z. absurd (omega arith))
      (λ i e h z.
      let p = parts (length (items_from (length fields / 10) s at k)) (place_after at (items_from (length fields / 10) s at k)) (few i e) in
      let long : length (all_numbers (items_from (length fields / 10) s at k)) ≡ 10 * length (items_from (length fields / 10) s at k) = all-long (items_from (length fields / 10) s at k) in
      let most : length (items_from (length fields / 10) s at k) ≤ length fields / 10 = bounds.items-most (length fields / 10) s at k in
      let left : length (drop (10 * length (items_from (length fields / 10) s at k)) fields) ≡ length fields - 10 * length (items_from (length fields / 10) s at k) = length-drop _ fields in
      (rw p.1.0 (drop_at (all_numbers (items_from (length fields / 10) s at k)) _ _ long), simp length-append (omega (arith, long, most, left))))

  pub items_on : ItemsOn s fields at k
  items_on =
      each (λ o. o.code % 2 ^ 16 ≡ items_kind → (1 ≤ o.code / 2 ^ 16 % 2 ^ 16) × (at + 8 * (o.code / 2 ^ 16 % 2 ^ 16) ≤ o.code / 2 ^ 32))
      (λ n e h z. absurd (let l : number n < 256 = h.high in omega arith))
      (λ e z. absurd (omega arith))
      (λ i e h z. absurd (omega arith))
      (λ i e h z.
      let p = parts (length (items_from (length fields / 10) s at k)) (place_after at (items_from (length fields / 10) s at k)) (few i e) in
      let r = bounds.reaches (length fields / 10) s at k i e in
      let some : 0 < length fields / 10 = omega arith in
      rw (p.1.0, p.1.1) (bounds.items-some (length fields / 10) s at k i e some, r.apart))

pub items_go_on : (n : ℕ) (s : List ℕ) (at k : ℕ) → ItemsGoOn n s at k
unfolding place_after
items_go_on zero s at k m =
    let z : 0 + m ≡ m = omega arith in let y : k + 0 ≡ k = omega arith in rw (z, bounds.from-none s at k, y)
items_go_on (suc n) s at k m = go (λ to. items_go_on n s to (k + 1) m) (step_of s at k) refl
  where
    more : suc n + m ≡ suc (n + m)
    more = omega arith

    same : k + 0 ≡ k
    same = omega arith

    go : ((to : ℕ) → items_from (n + m) s to (k + 1) ≡ items_from n s to (k + 1) ++ items_from m s (place_after to (items_from n s to (k + 1))) (k + 1 + length (items_from n s to (k + 1))))
        → (x : Step) → step_of s at k ≡ x
        → items_from (suc n + m) s at k ≡ items_from (suc n) s at k ++ items_from m s (place_after at (items_from (suc n) s at k)) (k + length (items_from (suc n) s at k))
    go ih (Ok (Some i)) q =
        let z : k + suc (length (items_from n s i.next (k + 1))) ≡ k + 1 + length (items_from n s i.next (k + 1)) = omega arith in
        rw (more, bounds.from_next s at k (n + m) i q, bounds.from_next s at k n i q, z) (ap (λ is. i ∷ is) (ih i.next))
    go ih (Ok None) q = rw (bounds.from-over s at k (suc n + m) q, bounds.from-over s at k (suc n) q, same) (sym (bounds.from-over s at k m q))
    go ih (Err x) q = rw (bounds.from-refused s at k (suc n + m) q, bounds.from-refused s at k (suc n) q, same) (sym (bounds.from-refused s at k m q))

-- the items handed out are those of the walk, and the place after them is where it comes to
pub handed_walk : (n : ℕ) (s : List ℕ) (at k : ℕ) → HandedWalk n s at k
unfolding walk place_after
handed_walk zero s at k = rw (bounds.from-none s at k) (refl, refl)
handed_walk (suc n) s at k = go (λ to. handed_walk n s to (k + 1)) (step_of s at k) refl
  where
    go : ((to : ℕ) → HandedWalk n s to (k + 1)) → (x : Step) → step_of s at k ≡ x → HandedWalk (suc n) s at k
    go ih (Ok (Some i)) q = let h = ih i.next in rw (bounds.from_next s at k n i q, q) (ap (λ is. i ∷ is) h.0, h.1)
    go ih (Ok None) q = rw (bounds.from-over s at k (suc n) q, q) (refl, refl)
    go ih (Err m) q = rw (bounds.from-refused s at k (suc n) q, q) (refl, refl)

pub one_walk : (s : List ℕ) (at k : ℕ) (fields : List ℕ) → OneWalk s at k fields
one_walk s at k fields x y f g p q = (ap (λ (w : Walked). w.walk) (p ∙ sym q), ap (λ (w : Walked). w.fields) (p ∙ sym q))

pub items_longest : (n : ℕ) (s : List ℕ) (at k : ℕ) → ItemsLongest n s at k
unfolding place_after
items_longest zero s at k l i e = omega arith
items_longest (suc n) s at k l i e = go (λ to. items_longest n s to (k + 1)) (step_of s at k) refl l e
  where
    zero_more : k + 0 ≡ k
    zero_more = omega arith

    go : ((to : ℕ) → ItemsLongest n s to (k + 1)) → (x : Step) → step_of s at k ≡ x → length (items_from (suc n) s at k) < suc n
        → step_of s (place_after at (items_from (suc n) s at k)) (k + length (items_from (suc n) s at k)) ≡ Ok (Some i) → ⊥
    go ih (Ok (Some j)) q l e =
        let f = bounds.from_next s at k n j q in
        let m : length (items_from n s j.next (k + 1)) < n = (let h = rw f at l in omega (arith, h)) in
        let z : k + suc (length (items_from n s j.next (k + 1))) ≡ k + 1 + length (items_from n s j.next (k + 1)) = omega arith in
        let h = rw f at e in ih j.next m i (rw z at h)
    go ih (Ok None) q l e =
        let h = rw (bounds.from-over s at k (suc n) q) at e in
        let g : step_of s at k ≡ Ok (Some i) = rw zero_more at h in
        let x : Ok None ≡ Ok (Some i) = sym q ∙ g in let y : ◌≡◌ {A = ℕ} 0 1 = cc in omega arith
    go ih (Err m) q l e =
        let h = rw (bounds.from-refused s at k (suc n) q) at e in
        let g : step_of s at k ≡ Ok (Some i) = rw zero_more at h in
        let x : Err m ≡ Ok (Some i) = sym q ∙ g in let y : ◌≡◌ {A = ℕ} 0 1 = cc in omega arith

pub items_few : (n : ℕ) (s : List ℕ) (at k : ℕ) → ItemsFew n s at k
items_few n s at k = bounds.items_few n s at k
