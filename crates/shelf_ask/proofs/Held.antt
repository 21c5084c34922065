-- Where a table is held, case by case, what is so of a table that is, and what an answer is in either case.
--   no-17, no-18, no_none            17 and 18 as they are found; lent-whole, lent-sound: neither is so
--   in-refused                       .. and the answer of `holding_of` where one is
--   in-17, in-18, in-14, in_place_lem    the answer of `holding_of`, by what was tested
--   held                             what is so of a table that is held in place p (`In`)
--   copy-refused, copy-held          the answer of `copy_of`, by that of `holding_of`; so for `whole_of` and `missing_of`
use Rattle.std.specs.Prelude.{if◌then◌else◌, Option, Some, None, is_some, is_none, Result, Ok, Err}
use mathlib.Core.Path.{◌≡◌, refl, sym, ap, subst, ◌∙◌}
use mathlib.Core.Bool.{Bool, true, false, not}
use mathlib.Core.List.{List, [], ◌∷◌, ◌++◌}
use mathlib.Core.Logic.{⊎_elim}
use Prim.Native.Nat.{ℕ, ◌<◌, ◌≤◌}
use native.Mathlib.Omega.{arith}
use lib.Dec.{ltb, eqb}
use lib.ListN.{length}
use borrow.Author.Tests.{lt-ltb, le-ltb, le-leb, eq-eqb, ne_eqb, ltb-true, ltb-false}
use Rattle.base.specs.Choice.{Row, ◌if◌, first}
use Rattle.base.proofs.Cases.{by, unlike, same_or}
use Rattle.base.proofs.Tables.{refuses, passes}
use Rattle.berth.specs.Berth.{places, sections, berth_size, store_size}
use Rattle.berth.specs.Calls.{goes_in, copied_in}
use Rattle.berth.proofs.Steps.{is-berth}
use Rattle.shelf.specs.Record.{place_at, length_at, spoiled_of, place_of}
use Rattle.key.specs.declared.Key.{Key}
use Rattle.shelf.specs.Record.{Shelf}
use Rattle.shelf.proofs.Find.{place-le, place-taken}
use Rattle.shelf.proofs.Words.{sound-place}
use Rattle.refusal.specs.declared.Refusal.{Refusal}
use Rattle.refusal.specs.declared.Refusal.TheVariants.{TableNotHeld, OutputTooSmall, SectionNotHeld, StoreSize, ShelfSpoiled}
use Rattle.shelf_ask.specs.Ask.{unlent_by, unlent_of, unasked_by, holding_of, uncopied, copy_from, asked, copy, Copy, copy_of, whole_of, missing_of, unasked, complete, lowest_missing}

-- no refusal is an answer
pub never : {A : Type 0} {r : Refusal} {a : A} → ◌≡◌ {A = Result A Refusal} (Err r) (Ok a) → ⊥
never e = let z : ◌≡◌ {A = ℕ} 0 1 = cc in omega arith

-- a table of refusals that begins with another
module _ {A B : Type 0} (refused : Refusal → A) (more : List Row) (other : A) where
  pub still : (rs : List Row) (p : B) (r : Refusal) → first Err rs (Ok p) ≡ Err r → first refused (rs ++ more) other ≡ refused r
  still [] p r e = absurd (never (sym e))
  still (row ∷ rs) p r e =
      by row.when
      (λ t. let q : ◌≡◌ {A = Result B Refusal} (Err row.refusal) (Err r) = rw t at e in let n : row.refusal ≡ r = cc in rw t (ap refused n))
      (λ f. rw f (still rs p r (rw f at e)))

  pub past : (rs : List Row) (p q : B) → first Err rs (Ok q) ≡ Ok p → first refused (rs ++ more) other ≡ first refused more other
  past [] p q e = refl
  past (row ∷ rs) p q e = by row.when (λ t. absurd (never (rw t at e))) (λ f. rw f (past rs p q (rw f at e)))

-- whether there is one
none-here : (b : Bool) (n : ℕ) → is_none (if b then None else Some n) ≡ b
none-here true n = refl
none-here false n = refl

pub none_is : (o : Option ℕ) (b : Bool) → is_some o ≡ not b → b ≡ is_none o
none_is (Some n) true e = absurd (unlike e)
none_is (Some n) false e = refl
none_is None true e = refl
none_is None false e = absurd (unlike (sym e))

-- 17 and 18, as they are found
module _ (shelf : Shelf) (size : ℕ) where
  pub no-17 : (size ≡ store_size → ⊥) → Err StoreSize ≡ unlent_of shelf size
  unfolding unlent_of
  no-17 h = rw (ne_eqb size store_size h)

  module _ (w : size ≡ store_size) where
    pub no-18 : spoiled_of shelf ≡ true → Err ShelfSpoiled ≡ unlent_of shelf size
    unfolding unlent_of
    no-18 h = rw (eq-eqb size store_size w, h)

    pub no_none : spoiled_of shelf ≡ false → Ok tt ≡ unlent_of shelf size
    unfolding unlent_of
    no_none h = rw (eq-eqb size store_size w, h)

  -- neither is so
  pub lent-whole : Ok tt ≡ unlent_of shelf size → size ≡ store_size
  lent-whole e = ⊎_elim (λ w. w) (λ w. absurd (never (no-17 w ∙ sym e))) (same_or size store_size)

  pub lent-sound : Ok tt ≡ unlent_of shelf size → spoiled_of shelf ≡ false
  lent-sound e = by (spoiled_of shelf) (λ t. absurd (never (no-18 (lent-whole e) t ∙ sym e))) (λ f. f)

  -- a table of refusals that begins with them gives the one that is so
  pub unlent-refused : {A : Type 0} (refused : Refusal → A) (rest : List Row) (other : A) {r : Refusal} → Err r ≡ unlent_of shelf size
      → first refused (unlent_by shelf size ++ rest) other ≡ refused r
  unfolding unlent_of
  unlent-refused refused rest other {r} e = still refused rest other (unlent_by shelf size) tt r (sym e)

module _ (shelf : Shelf) (size : ℕ) (key : Key) where
  pub in-refused : {r : Refusal} → Err r ≡ unlent_of shelf size → Err r ≡ holding_of shelf size key
  unfolding holding_of
  in-refused e = sym (unlent-refused shelf size Err (TableNotHeld if eqb (place_of shelf key) places ∷ []) (Ok (place_of shelf key)) e)

  pub in-17 : (size ≡ store_size → ⊥) → holding_of shelf size key ≡ Err StoreSize
  unfolding holding_of
  in-17 h = rw (ne_eqb size store_size h)

  module _ (w : size ≡ store_size) where
    pub in-18 : spoiled_of shelf ≡ true → holding_of shelf size key ≡ Err ShelfSpoiled
    unfolding holding_of
    in-18 h = rw (eq-eqb size store_size w, h)

    module _ (s : spoiled_of shelf ≡ false) where
      pub in-14 : place_of shelf key ≡ places → holding_of shelf size key ≡ Err TableNotHeld
      unfolding holding_of
      in-14 h = rw (eq-eqb size store_size w, s, eq-eqb (place_of shelf key) places h)

      pub in_place_lem : (p : ℕ) → p ≡ place_of shelf key → (p ≡ places → ⊥) → holding_of shelf size key ≡ Ok p
      unfolding holding_of
      in_place_lem p e h = rw (eq-eqb size store_size w, s, ← e, ne_eqb p places h)

-- what is so of a table that is held in place p
pub record In (shelf : Shelf) (size : ℕ) (key : Key) (p : ℕ) : Type 0 where
  pub whole : size ≡ store_size
  pub sound : spoiled_of shelf ≡ false
  pub at : place_of shelf key ≡ p
  pub place : p < places
  pub taken : (place_at shelf p).taken ≡ true
  pub last : (place_at shelf p).last < sections
  pub most : (n : ℕ) → n < sections → length_at (place_at shelf p) n ≤ berth_size

module _ (shelf : Shelf) (size : ℕ) (key : Key) where
  in-facts : size ≡ store_size → spoiled_of shelf ≡ false → (place_of shelf key ≡ places → ⊥) → In shelf size key (place_of shelf key)
  in-facts w s h =
      let l : place_of shelf key < places = omega (arith, place-le shelf key) in
      let g = sound-place shelf s (place_of shelf key) l (place-taken shelf key l) in
      record {
        whole = w;
        sound = s;
        at = refl;
        place = l;
        taken = place-taken shelf key l;
        last = (let m : (place_at shelf (place_of shelf key)).last ≤ 15 = g.last in omega arith);
        most = g.most;
      }

  pub held : (p : ℕ) → holding_of shelf size key ≡ Ok p → In shelf size key p
  held p e =
      ⊎_elim
      (λ w.
      by (spoiled_of shelf)
      (λ t. absurd (never (sym (in-18 shelf size key w t) ∙ e)))
      (λ s.
      ⊎_elim
      (λ q. absurd (never (sym (in-14 shelf size key w s q) ∙ e)))
      (λ h.
      let q : ◌≡◌ {A = Result ℕ Refusal} (Ok (place_of shelf key)) (Ok p) = sym (in_place_lem shelf size key w s (place_of shelf key) refl h) ∙ e in
      let r : place_of shelf key ≡ p = cc in
      subst (In shelf size key) r (in-facts w s h))
      (same_or (place_of shelf key) places)))
      (λ w. absurd (never (sym (in-17 shelf size key w) ∙ e)))
      (same_or size store_size)

-- a table of refusals that begins with those of every question
module _ {A : Type 0} (refused : Refusal → A) (more : List Row) (other : A) where
  pub asked-refused : (shelf : Shelf) (size : ℕ) (key : Key) (r : Refusal) → holding_of shelf size key ≡ Err r
      → first refused (unasked_by shelf size key ++ more) other ≡ refused r
  unfolding holding_of
  asked-refused shelf size key r e = still refused more other (unasked_by shelf size key) (place_of shelf key) r e

  pub asked-held : (shelf : Shelf) (size : ℕ) (key : Key) (p : ℕ) → holding_of shelf size key ≡ Ok p
      → first refused (unasked_by shelf size key ++ more) other ≡ first refused more other
  unfolding holding_of
  asked-held shelf size key p e = past refused more other (unasked_by shelf size key) p (place_of shelf key) e

abbrev refuse : List ℕ → Refusal → Copy
refuse out r = copy (Err r) out

module _ (shelf : Shelf) (store : List ℕ) (key : Key) where
  module _ (r : Refusal) (e : holding_of shelf (length store) key ≡ Err r) where
    pub copy-refused : (n : ℕ) (out : List ℕ) → copy_of shelf store key n out ≡ copy (Err r) out
    unfolding copy_of
    copy-refused n out = asked-refused (refuse out) (uncopied (asked shelf store key) n out) (copy_from (asked shelf store key) store (place_of shelf key) n out) shelf (length store) key r e

    pub whole-refused : whole_of shelf store key ≡ Err r
    unfolding whole_of
    whole-refused = asked-refused Err [] _ shelf (length store) key r e

    pub missing-refused : missing_of shelf store key ≡ Err r
    unfolding missing_of
    missing-refused = asked-refused Err [] _ shelf (length store) key r e

  module _ (p : ℕ) (e : holding_of shelf (length store) key ≡ Ok p) where
    at_place : place_of shelf key ≡ p
    at_place = (held shelf (length store) key p e).at

    pub copy-held : (n : ℕ) (out : List ℕ)
        → copy_of shelf store key n out
        ≡ first (refuse out) (uncopied (place_at shelf p) n out) (copy_from (place_at shelf p) store p n out)
    unfolding copy_of
    copy-held n out =
        asked-held (refuse out) (uncopied (asked shelf store key) n out) (copy_from (asked shelf store key) store (place_of shelf key) n out) shelf (length store) key p e
        ∙ ap (λ q. first (refuse out) (uncopied (place_at shelf q) n out) (copy_from (place_at shelf q) store q n out)) at_place

    module _ (n : ℕ) (out : List ℕ) (count : ℕ) (c : count ≡ length_at (place_at shelf p) n) where
      pub copy-16 : count ≡ 0 → copy_of shelf store key n out ≡ copy (Err SectionNotHeld) out
      copy-16 z = copy-held n out ∙ rw (← c, eq-eqb count 0 z)

      pub copy-15 : (count ≡ 0 → ⊥) → length out < count → copy_of shelf store key n out ≡ copy (Err OutputTooSmall) out
      copy-15 z h = copy-held n out ∙ rw (← c, ne_eqb count 0 z, lt-ltb (length out) count h)

      pub copy_done : (count ≡ 0 → ⊥) → count ≤ length out → (sections ≤ n → count ≡ 0)
          → copy_of shelf store key n out ≡ copy (Ok count) (copied_in store p n count out)
      unfolding copied_in goes_in
      copy_done z h past =
          let l : n < sections = by (ltb n sections) (λ t. ltb-true _ _ t) (λ f. absurd (z (past (ltb-false _ _ f)))) in
          let w = held shelf (length store) key p e in
          let m : count ≤ berth_size = rw c (w.most n l) in
          copy-held n out
          ∙ rw (
            ← c,
            ne_eqb count 0 z,
            le-ltb (length out) count h,
            is-berth (length store) p n w.whole w.place l,
            le-leb count berth_size m,
            le-leb count (length out) h,
          )

    pub whole-held : whole_of shelf store key ≡ Ok (complete (place_at shelf p))
    unfolding whole_of
    whole-held =
        asked-held Err [] (Ok (complete (asked shelf store key))) shelf (length store) key p e ∙ ap (λ q. Ok (complete (place_at shelf q))) at_place

    pub missing-held : missing_of shelf store key ≡ Ok (if complete (place_at shelf p) then None else Some (lowest_missing (place_at shelf p)))
    unfolding missing_of
    missing-held =
        asked-held Err [] (Ok (if complete (asked shelf store key) then None else Some (lowest_missing (asked shelf store key))))
        shelf (length store) key p e
        ∙ ap (λ q. Ok (if complete (place_at shelf q) then None else Some (lowest_missing (place_at shelf q)))) at_place

  pub whole-of-missing : {o : Option ℕ} → Ok o ≡ missing_of shelf store key → Ok (is_none o) ≡ whole_of shelf store key
  unfolding missing_of whole_of
  whole-of-missing {o} e =
      let m = (if complete (asked shelf store key) then None else Some (lowest_missing (asked shelf store key))) in
      let q : Ok o ≡ Ok m = e ∙ passes (unasked shelf store key) m o Err (Ok m) (sym e) in
      let same : o ≡ m = cc in
      ap (λ x. Ok (is_none x)) same
      ∙ ap Ok (none-here (complete (asked shelf store key)) (lowest_missing (asked shelf store key)))
      ∙ sym (passes (unasked shelf store key) m o Err (Ok (complete (asked shelf store key))) (sym e))

  pub whole-of-refused : {r : Refusal} → Err r ≡ missing_of shelf store key → Err r ≡ whole_of shelf store key
  unfolding missing_of whole_of
  whole-of-refused e = sym (refuses (unasked shelf store key) _ (complete (asked shelf store key)) _ (sym e))
