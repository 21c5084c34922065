-- An offer changes only the berths that document 01 names. (Of a release: Released.antt; of a load: Loaded.antt. Asking hands
-- no store back.)
--   offer-length      the store keeps its length
--   offer-elsewhere   a berth that is not named stays as it was
--   offer-own         the berth of a section that was begun or added: its bytes, then zeros
--   offer-wiped       the other berths that a change of version names are zeros
use mathlib.Core.Path.{◌≡◌, refl, sym, ap, ◌∙◌}
use mathlib.Core.Bool.{Bool, true, false, ◌&&◌, ◌||◌}
use mathlib.Core.List.{List}
use Prim.Native.Nat.{ℕ, ◌<◌, ◌≤◌}
use native.Mathlib.Omega.{arith}
use lib.Dec.{eqb}
use lib.ListN.{length}
use borrow.Author.Tests.{eq-eqb}
use Rattle.std.specs.Prelude.{Result, Ok, Err}
use Rattle.refusal.specs.declared.Refusal.{Refusal}
use Rattle.base.specs.Bytes.{zeros}
use Rattle.base.proofs.Cases.{unlike, or_right}
use Rattle.section.specs.Section.{section_number}
use Rattle.berth.specs.Berth.{sections, berth_size, padded, wiped_where, standing}
use Rattle.berth.proofs.Berths.{Elsewhere, where-length, where-spared, where-picked}
use Rattle.shelf.specs.Record.{place_at, holds, place_of, free_of}
use Rattle.shelf_offer.specs.Offer.{After}
use Rattle.shelf_offer.specs.declared.Offered.{Offered}
use Rattle.shelf_laws.specs.State.{State, offer_to}
use Rattle.shelf_laws.specs.Named.{key_in, own_place, offer_names}
use Rattle.shelf_laws.specs.Answers.{stores}
use Rattle.shelf_laws.specs.Laws.{OfferElsewhere}
use Rattle.shelf_laws.proofs.Berths.{Berth, put-length, put-berth, put-elsewhere}
use Rattle.shelf_laws.proofs.Offering.{HeardOf, Goes, goes, number-16, most-1024, own-berth}

-- a berth that a test does not name is another berth
apart : (p n q m : ℕ) → (eqb q p && eqb m n) ≡ false → Elsewhere p n q m
apart p n q m e a b = unlike (sym (rw (eq-eqb q p (sym a), eq-eqb m n (sym b))) ∙ e)

again-apart : (p n q m : ℕ) (t : Bool) → (eqb q p && (eqb m n || t)) ≡ false → Elsewhere p n q m
again-apart p n q m t e a b = unlike (sym (rw (eq-eqb q p (sym a), eq-eqb m n (sym b))) ∙ e)

again-unheld : (p n q m : ℕ) (t : Bool) → (eqb q p && (eqb m n || t)) ≡ false → p ≡ q → t ≡ false
again-unheld p n q m t e a =
    let u : (eqb m n || t) ≡ false = rw (eq-eqb q p (sym a)) at e in
    or_right (eqb m n) t u

-- the answer by which the table's held sections go
abbrev wipes : Result Offered Refusal → Bool
wipes (Ok Offered.Began) = false
wipes (Ok Offered.BeganAgain) = true
wipes (Ok Offered.Added) = false
wipes (Ok Offered.Repeat) = false
wipes (Err r) = false

module _ (s : State) (payload : List ℕ) where
  -- a store in which the held sections' berths were zeroed, and its berth for the new section
  pub again-berth : (p : ℕ) → HeardOf s payload p → Berth (wiped_where (holds (place_at s.shelf p)) sections s.store p) p (section_number payload)
  again-berth p a =
      record {
        lent = where-length (holds (place_at s.shelf p)) s.store a.heard.lent p a.taken sections (omega arith);
        place = a.taken;
        number = number-16 s payload a.heard;
      }

  length-goes : {r : After} → Goes s payload r → length r.store ≡ length s.store
  length-goes (Goes.refuses _ _) = refl
  length-goes (Goes.began a e f) = put-length s.store (free_of s.shelf) (section_number payload) (own-berth s payload a (free_of s.shelf) f) payload (most-1024 s payload a)
  length-goes (Goes.began_again p a v) =
      put-length (wiped_where (holds (place_at s.shelf p)) sections s.store p) p (section_number payload) (again-berth p a) payload (most-1024 s payload a.heard)
      ∙ where-length (holds (place_at s.shelf p)) s.store a.heard.lent p a.taken sections (omega arith)
      ∙ sym a.heard.lent
  length-goes (Goes.added p a _ _ _) = put-length s.store p (section_number payload) (own-berth s payload a.heard p a.taken) payload (most-1024 s payload a.heard)
  length-goes (Goes.repeats _ _ _ _ _ _) = refl

  pub offer-length : length (offer_to s payload).store ≡ length s.store
  offer-length = length-goes (goes s payload)

  elsewhere-goes : {r : After} → Goes s payload r → (q m k : ℕ) → m < sections → k ≤ berth_size → offer_names s.shelf payload r.said q m ≡ false
      → standing r.store q m k ≡ standing s.store q m k
  elsewhere-goes (Goes.refuses _ _) q m k i j e = refl
  elsewhere-goes (Goes.began a _ f) q m k i j e =
      put-elsewhere s.store (free_of s.shelf) (section_number payload) (own-berth s payload a (free_of s.shelf) f) payload (most-1024 s payload a) q m k i
      (apart (free_of s.shelf) (section_number payload) q m e) j
  elsewhere-goes (Goes.began_again p a v) q m k i j e =
      let u : (eqb q p && (eqb m (section_number payload) || holds (place_at s.shelf q) m)) ≡ false = rw a.place at e in
      put-elsewhere (wiped_where (holds (place_at s.shelf p)) sections s.store p) p (section_number payload) (again-berth p a) payload (most-1024 s payload a.heard)
      q m k i (again-apart p (section_number payload) q m _ u) j
      ∙ where-spared (holds (place_at s.shelf p)) s.store a.heard.lent p a.taken sections (omega arith) q m k i
      (λ b _ t. unlike (sym t ∙ ap (λ x. holds (place_at s.shelf x) m) b ∙ again-unheld p (section_number payload) q m _ u b)) j
  elsewhere-goes (Goes.added p a _ _ _) q m k i j e =
      put-elsewhere s.store p (section_number payload) (own-berth s payload a.heard p a.taken) payload (most-1024 s payload a.heard) q m k i
      (apart p (section_number payload) q m (rw a.place at e)) j
  elsewhere-goes (Goes.repeats _ _ _ _ _ _) q m k i j e = refl

  own-goes : {r : After} → Goes s payload r → stores r.said ≡ true
      → standing r.store (own_place s.shelf payload r.said) (section_number payload) berth_size ≡ padded berth_size payload
  own-goes (Goes.refuses _ _) e = absurd (unlike (sym e))
  own-goes (Goes.began a _ f) e = put-berth s.store (free_of s.shelf) (section_number payload) (own-berth s payload a (free_of s.shelf) f) payload (most-1024 s payload a)
  own-goes (Goes.began_again p a v) e =
      rw a.place (put-berth (wiped_where (holds (place_at s.shelf p)) sections s.store p) p (section_number payload) (again-berth p a) payload (most-1024 s payload a.heard))
  own-goes (Goes.added p a _ _ _) e =
      rw a.place (put-berth s.store p (section_number payload) (own-berth s payload a.heard p a.taken) payload (most-1024 s payload a.heard))
  own-goes (Goes.repeats _ _ _ _ _ _) e = absurd (unlike (sym e))

  pub offer-own : stores (offer_to s payload).said ≡ true
      → standing (offer_to s payload).store (own_place s.shelf payload (offer_to s payload).said) (section_number payload) berth_size ≡ padded berth_size payload
  offer-own = own-goes (goes s payload)

  wiped-goes : {r : After} → Goes s payload r → (n : ℕ) → n < sections → wipes r.said ≡ true → (n ≡ section_number payload → ⊥)
      → holds (place_at s.shelf (place_of s.shelf (key_in payload))) n ≡ true
      → standing r.store (place_of s.shelf (key_in payload)) n berth_size ≡ zeros berth_size
  wiped-goes (Goes.refuses _ _) n i e ne h = absurd (unlike (sym e))
  wiped-goes (Goes.began _ _ _) n i e ne h = absurd (unlike (sym e))
  wiped-goes (Goes.began_again p a v) n i e ne h =
      rw a.place
      (put-elsewhere (wiped_where (holds (place_at s.shelf p)) sections s.store p) p (section_number payload) (again-berth p a) payload (most-1024 s payload a.heard)
      p n berth_size i (λ _ z. ne (sym z)) (omega arith)
      ∙ where-picked (holds (place_at s.shelf p)) s.store a.heard.lent p a.taken sections (omega arith) n i (rw a.place at h))
  wiped-goes (Goes.added _ _ _ _ _) n i e ne h = absurd (unlike (sym e))
  wiped-goes (Goes.repeats _ _ _ _ _ _) n i e ne h = absurd (unlike (sym e))

  pub offer-wiped : (offer_to s payload).said ≡ Ok Offered.BeganAgain → (n : ℕ) → n < sections → (n ≡ section_number payload → ⊥)
      → holds (place_at s.shelf (place_of s.shelf (key_in payload))) n ≡ true
      → standing (offer_to s payload).store (place_of s.shelf (key_in payload)) n berth_size ≡ zeros berth_size
  offer-wiped e n i = wiped-goes (goes s payload) n i (ap wipes e)

pub offer-elsewhere : OfferElsewhere
offer-elsewhere s payload = elsewhere-goes s payload (goes s payload)
